use Rattle.std.proofs.Common.{◌/◌, ap, subst, sym, refl, ◌∙◌, arith}
use Rattle.dt_version.specs.Views.{seat_of, seat_shown}
use Rattle.dt_version.specs.Calls.{HasEntered}
use Rattle.dt_version.proofs.Seats.{reader_me}
use Rattle.dt_version.proofs.Steps.{enters}
use Rattle.dt_version.proofs.Calls.{play_tells, enter_is, kept_by_enter}
use Rattle.dt_version.proofs.reader_seat.ReaderSeat.enter.Goals as goal

pub fetch_add-found-requires : goal.fetch_add-found-requires
fetch_add-found-requires g c = let me = c.args.self.now in (
  me.at,
  (let words = me.store.now.words in omega (arith, words)),
  enters g.M.Meaning.shows c.laws_of_runs.ensures me.store.now.table.shared.key _ _ (seat_of me.place) me.place.me
      (reader_me me.store.now.table.shared.key me.place.me me.reader me.no_slot) c.requires,
)

pub invariant_of-self : goal.invariant_of-self
invariant_of-self g c =
    let me = c.args.self.now in
    let told = play_tells g.M.Meaning.shows c.laws_of_runs.ensures me.store.now.table.shared.key (seat_of me.place) _ me.place.me c.fetch_add-found.new.seat.me c.fetch_add-found.result
    (reader_me me.store.now.table.shared.key me.place.me me.reader me.no_slot) c.fetch_add-found.ensures.2 in
    let enter = enter_is g.M.Meaning.shows c.laws_of_runs.ensures me.store.now.table.shared.key (seat_of me.place) c.fetch_add-found.result c.fetch_add-found.new.seat.me.0 told.1 in
    let is = kept_by_enter g.M.Meaning.shows c.laws_of_runs.ensures me.store.now.table.shared.key (c.fetch_add-found.result / 4294967296) (seat_of me.place) c.fetch_add-found.result c.fetch_add-found.new.seat.me told.0 refl enter in
    record { at = c.fetch_add-found.ensures.0 ∙ me.at; no_slot = is.no_slot; reader = is.reader; inside = is.inside; in_bounds = is.in_bounds; reads = is.reads }

pub returns-clause-entered : goal.returns-clause-entered
returns-clause-entered g c =
    let me = c.args.self.now in
    let told = play_tells g.M.Meaning.shows c.laws_of_runs.ensures me.store.now.table.shared.key (seat_of me.place) _ me.place.me c.fetch_add-found.new.seat.me c.fetch_add-found.result
    (reader_me me.store.now.table.shared.key me.place.me me.reader me.no_slot) c.fetch_add-found.ensures.2 in
    let enter = enter_is g.M.Meaning.shows c.laws_of_runs.ensures me.store.now.table.shared.key (seat_of me.place) c.fetch_add-found.result c.fetch_add-found.new.seat.me.0 told.1 in
    subst (HasEntered g.M.Meaning.shows (seat_of me.place)) (sym (ap seat_shown enter.is)) enter.entered
