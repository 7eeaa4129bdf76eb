use Rattle.std.proofs.Common.{◌≡◌, ◌<◌, ◌≤◌, ◌%◌, ap, subst, sym, ◌∙◌, arith}
use Rattle.dt_version.specs.Views.{seat_of, seat_shown}
use Rattle.dt_version.specs.Calls.{IsWornLook}
use Rattle.dt_version.proofs.Seats.{reader_me}
use Rattle.dt_version.proofs.Steps.{looks}
use Rattle.dt_version.proofs.Calls.{play_tells, look_is, kept_by_look}
use Rattle.dt_version.proofs.reader_seat.ReaderSeat.look.Goals as goal

pub load-found-requires : goal.load-found-requires
load-found-requires g c = let me = c.args.self.now in (
  me.at,
  (let words = me.store.now.words in omega (arith, words)),
  looks g.M.Meaning.shows c.laws_of_runs.ensures me.store.now.table.shared.key _ _ (seat_of me.place) me.place.me
      (reader_me me.store.now.table.shared.key me.place.me me.reader me.no_slot) c.requires,
)

pub invariant_of-self : goal.invariant_of-self
invariant_of-self g c =
    let me = c.args.self.now in
    let told = play_tells g.M.Meaning.shows c.laws_of_runs.ensures me.store.now.table.shared.key (seat_of me.place) _ me.place.me c.load-found.new.seat.me c.load-found.result
    (reader_me me.store.now.table.shared.key me.place.me me.reader me.no_slot) c.load-found.ensures.2 in
    let look = look_is g.M.Meaning.shows c.laws_of_runs.ensures me.store.now.table.shared.key (seat_of me.place) c.load-found.result c.load-found.new.seat.me.0 told.1 in
    let is = kept_by_look g.M.Meaning.shows c.laws_of_runs.ensures me.store.now.table.shared.key me.root (seat_of me.place) c.load-found.result c.load-found.new.seat.me told.0 c.requires look in
    record { at = c.load-found.ensures.0 ∙ me.at; no_slot = is.no_slot; reader = is.reader; inside = is.inside; in_bounds = is.in_bounds; reads = is.reads }

pub returns-then-entries-limits-clause-near : goal.returns-then-entries-limits-clause-near
returns-then-entries-limits-clause-near g c =
    let me = c.args.self.now in
    let told = play_tells g.M.Meaning.shows c.laws_of_runs.ensures me.store.now.table.shared.key (seat_of me.place) _ me.place.me c.load-found.new.seat.me c.load-found.result
    (reader_me me.store.now.table.shared.key me.place.me me.reader me.no_slot) c.load-found.ensures.2 in
    let look = look_is g.M.Meaning.shows c.laws_of_runs.ensures me.store.now.table.shared.key (seat_of me.place) c.load-found.result c.load-found.new.seat.me.0 told.1 in
    let key : me.store.now.table.shared.key.entries ≡ me.store.now.limits.entries = me.store.now.entries in
    let limit : c.limits.result.entries ≡ me.store.now.limits.entries = ap (λ l. l.entries) c.limits.ensures in
    let less : c.load-found.result % 4294967296 < me.store.now.table.shared.key.entries = omega (arith, key, limit, c.if-entries-limits.true) in
    ap seat_shown (look.near less)

pub returns-else-entries-limits-clause-worn : goal.returns-else-entries-limits-clause-worn
returns-else-entries-limits-clause-worn g c =
    let me = c.args.self.now in
    let told = play_tells g.M.Meaning.shows c.laws_of_runs.ensures me.store.now.table.shared.key (seat_of me.place) _ me.place.me c.load-found.new.seat.me c.load-found.result
    (reader_me me.store.now.table.shared.key me.place.me me.reader me.no_slot) c.load-found.ensures.2 in
    let look = look_is g.M.Meaning.shows c.laws_of_runs.ensures me.store.now.table.shared.key (seat_of me.place) c.load-found.result c.load-found.new.seat.me.0 told.1 in
    let key : me.store.now.table.shared.key.entries ≡ me.store.now.limits.entries = me.store.now.entries in
    let limit : c.limits.result.entries ≡ me.store.now.limits.entries = ap (λ l. l.entries) c.limits.ensures in
    let more : me.store.now.table.shared.key.entries ≤ c.load-found.result % 4294967296 = omega (arith, key, limit, c.if-entries-limits.false) in
    let worn = look.worn more in
    subst (λ n. IsWornLook n (seat_of me.place) (seat_of c.load-found.new.seat) (c.load-found.result % 4294967296)) key
    (subst (λ s. IsWornLook me.store.now.table.shared.key.entries (seat_of me.place) s (c.load-found.result % 4294967296)) (sym (ap seat_shown worn.1.0)) worn.1.2)
