use Rattle.std.proofs.Common.{ap, subst, sym, refl, ◌∙◌, arith}
use mathlib.Core.List.{IsPrefix}
use Rattle.dt_gate.specs.Seats.{after_hearing}
use Rattle.dt_version.specs.Views.{seat_of, seat_shown, with_note_back}
use Rattle.dt_version.proofs.Seats.{reader_view}
use Rattle.dt_version.proofs.Steps.{reader_hears}
use Rattle.dt_version.proofs.Calls.{play_tells, heard_is, kept, reading_is, note_is}
use Rattle.dt_version.proofs.Giving.{reader_takes_a_note}
use Rattle.dt_version.proofs.reader_seat.ReaderSeat.hear.Goals as goal

pub join_seat-requires : goal.join_seat-requires
join_seat-requires g c = let me = c.args.self.now in
    let key = me.store.now.table.shared.key in
    let him = c.args.note in
    let own = him.store.now.table.shared.key in (
      me.at,
      c.requires ∙ me.at,
      him.no_slot,
      (let words = me.store.now.words in omega (arith, words)),
      reader_takes_a_note g.M.Meaning.shows c.laws_of_runs.ensures key own _ _ (seat_of me.place) (seat_of him.place) me.place.me.0 him.place.me.0
          (reader_view key me.place.me.0 me.reader) (reader_view own him.place.me.0 him.reader) (reading_is (seat_of me.place).stage me.reads) (note_is (seat_of him.place).stage him.note),
    )

pub load-requires : goal.load-requires
load-requires g c = let me = c.args.self.now in
    let key = me.store.now.table.shared.key in
    let him = c.args.note in
    let own = him.store.now.table.shared.key in
    let is = c.join_seat.ensures.2 ∙ (λ i. (with_note_back (reader_view key me.place.me.0 me.reader i) (reader_view own him.place.me.0 him.reader i), me.no_slot i)) in (
      c.join_seat.ensures.0 ∙ me.at,
      (let words = me.store.now.words in omega (arith, words)),
      reader_hears g.M.Meaning.shows c.laws_of_runs.ensures key _ _ (after_hearing (seat_of me.place) (seat_of him.place).history) c.join_seat.new.seat.me is (reading_is (seat_of me.place).stage me.reads),
    )

pub invariant_of-self : goal.invariant_of-self
invariant_of-self g c = let me = c.args.self.now in
    let key = me.store.now.table.shared.key in
    let him = c.args.note in
    let own = him.store.now.table.shared.key in
    let is = c.join_seat.ensures.2 ∙ (λ i. (with_note_back (reader_view key me.place.me.0 me.reader i) (reader_view own him.place.me.0 him.reader i), me.no_slot i)) in
    let told = play_tells g.M.Meaning.shows c.laws_of_runs.ensures key (after_hearing (seat_of me.place) (seat_of him.place).history) _ c.join_seat.new.seat.me c.load.new.seat.me c.load.result is c.load.ensures.2 in
    let heard = heard_is g.M.Meaning.shows c.laws_of_runs.ensures key (after_hearing (seat_of me.place) (seat_of him.place).history) c.load.result c.load.new.seat.me.0 told.1 in
    let kept = kept g.M.Meaning.shows c.laws_of_runs.ensures key me.root c.load.new.seat.me (after_hearing (seat_of me.place) (seat_of him.place).history) told.0 heard.0 me.inside me.in_bounds me.reads in record {
      at = c.load.ensures.0 ∙ (c.join_seat.ensures.0 ∙ me.at);
      no_slot = kept.no_slot;
      reader = kept.reader;
      inside = kept.inside;
      in_bounds = kept.in_bounds;
      reads = kept.reads;
    }

pub returns : goal.returns
returns g c = let me = c.args.self.now in
    let key = me.store.now.table.shared.key in
    let him = c.args.note in
    let own = him.store.now.table.shared.key in
    let is = c.join_seat.ensures.2 ∙ (λ i. (with_note_back (reader_view key me.place.me.0 me.reader i) (reader_view own him.place.me.0 him.reader i), me.no_slot i)) in
    let told = play_tells g.M.Meaning.shows c.laws_of_runs.ensures key (after_hearing (seat_of me.place) (seat_of him.place).history) _ c.join_seat.new.seat.me c.load.new.seat.me c.load.result is c.load.ensures.2 in
    let heard = heard_is g.M.Meaning.shows c.laws_of_runs.ensures key (after_hearing (seat_of me.place) (seat_of him.place).history) c.load.result c.load.new.seat.me.0 told.1 in record {
      heard = ap seat_shown heard.0;
      mine = subst (λ v. IsPrefix (seat_of me.place).history (seat_shown v).history) (sym heard.0) heard.1.0;
      its = subst (λ v. IsPrefix (seat_of him.place).history (seat_shown v).history) (sym heard.0) heard.1.1;
      store = refl;
    }
