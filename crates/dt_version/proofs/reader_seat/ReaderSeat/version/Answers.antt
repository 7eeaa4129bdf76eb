use Rattle.std.proofs.Common.{◌≡◌, ◌+◌, ◌<◌, ap, subst, sym, refl, ◌∙◌, arith}
use Rattle.dt_gate.specs.declared.event.ReadWord.TheVariants.{Version}
use Rattle.dt_version.specs.Views.{seat_of, seat_shown}
use Rattle.dt_gate.specs.Seats.{IsFrozenWord}
use Rattle.dt_version.proofs.Seats.{reader_me}
use Rattle.dt_version.proofs.Steps.{reads, plays}
use Rattle.dt_version.proofs.Calls.{play_tells, read_is, kept, inside_at}
use Rattle.dt_version.proofs.reader_seat.ReaderSeat.version.Goals as goal

pub load-requires : goal.load-requires
load-requires g c = let me = c.args.self.now in
    let at = inside_at me.store.now.table.shared.key.readers me.store.now.table.shared.key.pages me.root (seat_of me.place).stage c.requires me.inside me.in_bounds in (
      me.at,
      (let words = me.store.now.words in let readers : me.store.now.table.shared.key.readers ≡ me.store.now.limits.readers = me.store.now.readers in
          let below : me.root < me.store.now.table.shared.key.readers + 2 = at.below in omega (arith, words, readers, below)),
      reads g.M.Meaning.shows c.laws_of_runs.ensures me.store.now.table.shared.key _ _ (seat_of me.place) Version me.root at.frozen me.place.me
          (reader_me me.store.now.table.shared.key me.place.me me.reader me.no_slot) at.is (subst (IsFrozenWord Version) (sym at.is) tt) _
          (plays g.M.Meaning.shows c.laws_of_runs.ensures me.store.now.table.shared.key _ me.place.me),
    )

pub invariant_of-self : goal.invariant_of-self
invariant_of-self g c =
    let me = c.args.self.now in
    let told = play_tells g.M.Meaning.shows c.laws_of_runs.ensures me.store.now.table.shared.key (seat_of me.place) _ me.place.me c.load.new.seat.me c.load.result
    (reader_me me.store.now.table.shared.key me.place.me me.reader me.no_slot) c.load.ensures.2 in
    let read = read_is g.M.Meaning.shows c.laws_of_runs.ensures me.store.now.table.shared.key (seat_of me.place) Version c.load.result c.load.new.seat.me.0 told.1 in
    let is = kept g.M.Meaning.shows c.laws_of_runs.ensures me.store.now.table.shared.key me.root c.load.new.seat.me (seat_of me.place) told.0 read.0 me.inside me.in_bounds me.reads in
    record { at = c.load.ensures.0 ∙ me.at; no_slot = is.no_slot; reader = is.reader; inside = is.inside; in_bounds = is.in_bounds; reads = is.reads }

pub returns : goal.returns
returns g c =
    let me = c.args.self.now in
    let told = play_tells g.M.Meaning.shows c.laws_of_runs.ensures me.store.now.table.shared.key (seat_of me.place) _ me.place.me c.load.new.seat.me c.load.result
    (reader_me me.store.now.table.shared.key me.place.me me.reader me.no_slot) c.load.ensures.2 in
    let read = read_is g.M.Meaning.shows c.laws_of_runs.ensures me.store.now.table.shared.key (seat_of me.place) Version c.load.result c.load.new.seat.me.0 told.1 in
    record { version = read.1; same = ap seat_shown read.0; store = refl; counted = c.tick.ensures }
