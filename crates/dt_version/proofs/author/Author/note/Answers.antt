use Rattle.std.proofs.Common.{ap, refl, ◌∙◌, length, arith}
use Rattle.dt_gate.specs.declared.gate.Stage.TheVariants.{Note}
use Rattle.dt_gate.specs.Seats.{given}
use Rattle.dt_version.specs.Views.{seat_shown, author_of, author_shown, given_by, is_note}
use Rattle.dt_version.proofs.Seats.{reader_of}
use Rattle.dt_version.proofs.AuthorSteps.{author_view, author_is_of}
use Rattle.dt_version.proofs.Giving.{gives_a_note}
use Rattle.dt_version.proofs.author.Author.note.Goals as goal

pub split_seat-place-requires : goal.split_seat-place-requires
split_seat-place-requires g c = let me = c.args.self.now in
    let key = me.store.now.table.shared.key in (
      me.at,
      (let words = me.store.now.words in omega (arith, words)),
      gives_a_note g.M.Meaning.shows c.laws_of_runs.ensures key _ (author_of me.place) me.place.me.0 (author_view key me.place.me.0 me.author),
    )

pub invariant_of-self : goal.invariant_of-self
invariant_of-self g c = let me = c.args.self.now in
    let key = me.store.now.table.shared.key in
    let is = ap (λ m. m.0) c.split_seat-place.ensures.2 ∙ author_view key me.place.me.0 me.author in record {
      at = c.split_seat-place.ensures.0 ∙ me.at;
      no_slot = ap (λ m. m.1) c.split_seat-place.ensures.2 ∙ me.no_slot;
      author = author_is_of key c.split_seat-place.new.seat.me.0 (author_of me.place) is;
      sized = ap (λ v. length (author_shown v).roots) is ∙ me.sized;
    }

pub invariant_of-result : goal.invariant_of-result
invariant_of-result g c = let me = c.args.self.now in
    let key = me.store.now.table.shared.key in
    let is = ap (λ m. m.0) c.split_seat-place.ensures.4 ∙ ap (given_by Note) (author_view key me.place.me.0 me.author) in record {
      at = c.split_seat-place.ensures.3 ∙ me.at;
      no_slot = ap (λ m. m.1) c.split_seat-place.ensures.4;
      reader = reader_of key c.split_seat-place.result.me.0 (given Note (author_of me.place).history) is;
      note = ap (λ v. is_note (seat_shown v).stage) is;
    }

pub returns : goal.returns
returns g c = let me = c.args.self.now in
    let key = me.store.now.table.shared.key in record {
      same = ap (λ m. author_shown m.0) c.split_seat-place.ensures.2;
      given = ap seat_shown (ap (λ m. m.0) c.split_seat-place.ensures.4 ∙ ap (given_by Note) (author_view key me.place.me.0 me.author));
      of = refl;
      store = refl;
    }
