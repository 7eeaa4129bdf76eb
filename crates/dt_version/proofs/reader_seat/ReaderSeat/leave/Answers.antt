use Rattle.std.proofs.Common.{◌≡◌, ◌+◌, ◌<◌, ap, refl, ◌∙◌, arith}
use Rattle.dt_gate.specs.declared.gate.Stage.TheVariants.{Out}
use Rattle.dt_version.specs.Views.{seat_of, seat_shown}
use Rattle.dt_version.proofs.Seats.{reader_me}
use Rattle.dt_version.proofs.Steps.{leaves}
use Rattle.dt_version.proofs.Calls.{play_tells, leave_is, kept, inside_at, outside_in_bounds}
use Rattle.dt_version.proofs.reader_seat.ReaderSeat.leave.Goals as goal

pub fetch_add-requires : goal.fetch_add-requires
fetch_add-requires g c = let me = c.args.self.now in
    let at = inside_at me.store.now.table.shared.key.readers me.store.now.table.shared.key.pages me.root (seat_of me.place).stage c.requires me.inside me.in_bounds in (
      me.at,
      (let words = me.store.now.words in let readers : me.store.now.table.shared.key.readers ≡ me.store.now.limits.readers = me.store.now.readers in
          let below : me.root < me.store.now.table.shared.key.readers + 2 = at.below in omega (arith, words, readers, below)),
      leaves g.M.Meaning.shows c.laws_of_runs.ensures me.store.now.table.shared.key _ _ (seat_of me.place) me.root at.frozen me.place.me
          (reader_me me.store.now.table.shared.key me.place.me me.reader me.no_slot) at.is,
    )

pub invariant_of-self : goal.invariant_of-self
invariant_of-self g c =
    let me = c.args.self.now in
    let at = inside_at me.store.now.table.shared.key.readers me.store.now.table.shared.key.pages me.root (seat_of me.place).stage c.requires me.inside me.in_bounds in
    let told = play_tells g.M.Meaning.shows c.laws_of_runs.ensures me.store.now.table.shared.key (seat_of me.place) _ me.place.me c.fetch_add.new.seat.me c.fetch_add.result
    (reader_me me.store.now.table.shared.key me.place.me me.reader me.no_slot) c.fetch_add.ensures.2 in
    let left = leave_is g.M.Meaning.shows c.laws_of_runs.ensures me.store.now.table.shared.key (seat_of me.place) me.root at.frozen c.fetch_add.result c.fetch_add.new.seat.me.0 at.is told.1 in
    let is = kept g.M.Meaning.shows c.laws_of_runs.ensures me.store.now.table.shared.key me.root c.fetch_add.new.seat.me (record (seat_of me.place) { stage = Out }) told.0 left refl
    (outside_in_bounds me.store.now.table.shared.key.readers me.store.now.table.shared.key.pages) refl in
    record { at = c.fetch_add.ensures.0 ∙ me.at; no_slot = is.no_slot; reader = is.reader; inside = is.inside; in_bounds = is.in_bounds; reads = is.reads }

pub returns-clause-out : goal.returns-clause-out
returns-clause-out g c =
    let me = c.args.self.now in
    let at = inside_at me.store.now.table.shared.key.readers me.store.now.table.shared.key.pages me.root (seat_of me.place).stage c.requires me.inside me.in_bounds in
    let told = play_tells g.M.Meaning.shows c.laws_of_runs.ensures me.store.now.table.shared.key (seat_of me.place) _ me.place.me c.fetch_add.new.seat.me c.fetch_add.result
    (reader_me me.store.now.table.shared.key me.place.me me.reader me.no_slot) c.fetch_add.ensures.2 in
    let left = leave_is g.M.Meaning.shows c.laws_of_runs.ensures me.store.now.table.shared.key (seat_of me.place) me.root at.frozen c.fetch_add.result c.fetch_add.new.seat.me.0 at.is told.1 in
    ap seat_shown left
