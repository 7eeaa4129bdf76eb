use Rattle.std.proofs.Common.{◌≡◌, ap, refl, ◌∙◌, arith}
use Rattle.dt_version.specs.Views.{author_of, author_shown}
use Rattle.std.proofs.Common.{length}
use Rattle.dt_gate.specs.declared.gate.Stage.TheVariants.{Out}
use Rattle.dt_gate.specs.Author.{after_seat_out}
use Rattle.dt_gate.specs.Seats.{given}
use Rattle.dt_version.specs.Views.{after_out, given_by, seat_shown}
use Rattle.dt_version.proofs.AuthorSteps.{author_view, author_is_of}
use Rattle.dt_version.proofs.Calls.{kept, outside_in_bounds}
use Rattle.dt_version.proofs.Giving.{gives_a_seat}
use Rattle.dt_version.proofs.author.Author.seat_out.Goals as goal

pub split_seat-place-requires : goal.split_seat-place-requires
split_seat-place-requires g c = let me = c.args.self.now in
    let readers : me.store.now.table.shared.key.readers ≡ me.store.now.limits.readers = me.store.now.readers in
    let room = c.requires in (
      me.at,
      (let words = me.store.now.words in omega (arith, words)),
      gives_a_seat g.M.Meaning.shows c.laws_of_runs.ensures me.store.now.table.shared.key _ (author_of me.place) me.place.me.0
          (author_view me.store.now.table.shared.key me.place.me.0 me.author) (omega (arith, room, readers)),
    )

pub invariant_of-self : goal.invariant_of-self
invariant_of-self g c = let me = c.args.self.now in
    let key = me.store.now.table.shared.key in
    let is = ap (λ m. m.0) c.split_seat-place.ensures.2 ∙ ap after_out (author_view key me.place.me.0 me.author) in record {
      at = c.split_seat-place.ensures.0 ∙ me.at;
      no_slot = ap (λ m. m.1) c.split_seat-place.ensures.2 ∙ me.no_slot;
      author = author_is_of key c.split_seat-place.new.seat.me.0 (after_seat_out (author_of me.place)) is;
      sized = ap (λ v. length (author_shown v).roots) is ∙ me.sized;
    }

pub invariant_of-result : goal.invariant_of-result
invariant_of-result g c = let me = c.args.self.now in
    let key = me.store.now.table.shared.key in
    let is = ap (λ m. m.0) c.split_seat-place.ensures.4 ∙ ap (given_by Out) (author_view key me.place.me.0 me.author) in
    let kept = kept g.M.Meaning.shows c.laws_of_runs.ensures key 0 c.split_seat-place.result.me (given Out (author_of me.place).history)
    (ap (λ m. m.1) c.split_seat-place.ensures.4) is refl (outside_in_bounds key.readers key.pages) refl in record {
      at = c.split_seat-place.ensures.3 ∙ me.at;
      no_slot = kept.no_slot;
      reader = kept.reader;
      inside = kept.inside;
      in_bounds = kept.in_bounds;
      reads = kept.reads;
    }

pub returns : goal.returns
returns g c = let me = c.args.self.now in
    let key = me.store.now.table.shared.key in record {
      out = ap author_shown (ap (λ m. m.0) c.split_seat-place.ensures.2 ∙ ap after_out (author_view key me.place.me.0 me.author));
      given = ap seat_shown (ap (λ m. m.0) c.split_seat-place.ensures.4 ∙ ap (given_by Out) (author_view key me.place.me.0 me.author));
      of = refl;
      store = refl;
    }
