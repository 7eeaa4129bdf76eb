use Rattle.std.proofs.Common.{ap, refl, ◌∙◌, arith}
use Rattle.dt_gate.specs.declared.gate.Stage.TheVariants.{Note}
use Rattle.dt_gate.specs.Seats.{given}
use Rattle.dt_version.specs.Views.{seat_of, seat_shown, given_by, is_note}
use Rattle.dt_version.proofs.Seats.{reader_view, reader_of}
use Rattle.dt_version.proofs.Calls.{kept, reading_is}
use Rattle.dt_version.proofs.Giving.{reader_gives_a_note}
use Rattle.dt_version.proofs.reader_seat.ReaderSeat.note.Goals as goal

pub split_seat-place-requires : goal.split_seat-place-requires
split_seat-place-requires g c = let me = c.args.self.now in
    let key = me.store.now.table.shared.key in (
      me.at,
      (let words = me.store.now.words in omega (arith, words)),
      reader_gives_a_note g.M.Meaning.shows c.laws_of_runs.ensures key _ (seat_of me.place) me.place.me.0 (reader_view key me.place.me.0 me.reader) (reading_is (seat_of me.place).stage me.reads),
    )

pub invariant_of-self : goal.invariant_of-self
invariant_of-self g c = let me = c.args.self.now in
    let key = me.store.now.table.shared.key in
    let is = ap (λ m. m.0) c.split_seat-place.ensures.2 ∙ reader_view key me.place.me.0 me.reader in
    let kept = kept g.M.Meaning.shows c.laws_of_runs.ensures key me.root c.split_seat-place.new.seat.me (seat_of me.place) (ap (λ m. m.1) c.split_seat-place.ensures.2 ∙ me.no_slot) is me.inside me.in_bounds me.reads in record {
      at = c.split_seat-place.ensures.0 ∙ me.at;
      no_slot = kept.no_slot;
      reader = kept.reader;
      inside = kept.inside;
      in_bounds = kept.in_bounds;
      reads = kept.reads;
    }

pub invariant_of-result : goal.invariant_of-result
invariant_of-result g c = let me = c.args.self.now in
    let key = me.store.now.table.shared.key in
    let is = ap (λ m. m.0) c.split_seat-place.ensures.4 ∙ ap (given_by Note) (reader_view key me.place.me.0 me.reader) in record {
      at = c.split_seat-place.ensures.3 ∙ me.at;
      no_slot = ap (λ m. m.1) c.split_seat-place.ensures.4;
      reader = reader_of key c.split_seat-place.result.me.0 (given Note (seat_of me.place).history) is;
      note = ap (λ v. is_note (seat_shown v).stage) is;
    }

pub returns : goal.returns
returns g c = let me = c.args.self.now in
    let key = me.store.now.table.shared.key in record {
      same = ap (λ m. seat_shown m.0) c.split_seat-place.ensures.2;
      given = ap seat_shown (ap (λ m. m.0) c.split_seat-place.ensures.4 ∙ ap (given_by Note) (reader_view key me.place.me.0 me.reader));
      of = refl;
      store = refl;
    }
