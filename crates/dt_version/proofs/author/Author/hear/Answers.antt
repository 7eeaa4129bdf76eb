use Rattle.std.proofs.Common.{subst, sym, refl, ap, ◌∙◌, arith}
use mathlib.Core.Option.{none}
use mathlib.Core.List.{IsPrefix}
use Rattle.atomic_table.specs.Table.{step}
use Rattle.dt_gate.specs.Author.{after_hear}
use Rattle.dt_version.specs.Views.{seat_of, author_of, with_history_of, with_note_back}
use Rattle.dt_version.specs.Told.{AuthorHeard}
use Rattle.dt_version.proofs.Seats.{reader_view}
use Rattle.dt_version.proofs.Calls.{note_is}
use Rattle.dt_version.proofs.AuthorSteps.{author_view, hears}
use Rattle.dt_version.proofs.AuthorCalls.{hear_is, kept_is_heard}
use Rattle.dt_version.proofs.Giving.{takes_a_note}
use Rattle.dt_version.proofs.author.Author.hear.Goals as goal

pub join_seat-requires : goal.join_seat-requires
join_seat-requires g c = let me = c.args.self.now in
    let key = me.store.now.table.shared.key in
    let him = c.args.note in
    let own = him.store.now.table.shared.key in (
      me.at,
      c.requires ∙ me.at,
      him.no_slot,
      (let words = me.store.now.words in omega (arith, words)),
      takes_a_note g.M.Meaning.shows c.laws_of_runs.ensures key own _ _ (author_of me.place) (seat_of him.place) me.place.me.0 him.place.me.0
          (author_view key me.place.me.0 me.author) (reader_view own him.place.me.0 him.reader) (note_is (seat_of him.place).stage him.note),
    )

pub load-requires : goal.load-requires
load-requires g c = let me = c.args.self.now in
    let key = me.store.now.table.shared.key in
    let him = c.args.note in
    let own = him.store.now.table.shared.key in
    let is = c.join_seat.ensures.2 ∙ (λ i. (with_note_back (author_view key me.place.me.0 me.author i) (reader_view own him.place.me.0 him.reader i), me.no_slot i)) in (
      c.join_seat.ensures.0 ∙ me.at,
      (let words = me.store.now.words in omega (arith, words)),
      hears g.M.Meaning.shows c.laws_of_runs.ensures key _ _ (with_history_of (author_of me.place) (after_hear (author_of me.place) (seat_of him.place).history)) c.join_seat.new.seat.me is
          (AuthorHeard g.M.Meaning.shows (step me.store.now.table.shared.table_id.slots 0 0 0 none) c.join_seat.new.seat.me)
          (λ number after told slots. record { slots = slots; size = key; told = told }),
    )

pub invariant_of-self : goal.invariant_of-self
invariant_of-self g c = let me = c.args.self.now in
    let key = me.store.now.table.shared.key in
    let him = c.args.note in
    let own = him.store.now.table.shared.key in
    let is = c.join_seat.ensures.2 ∙ (λ i. (with_note_back (author_view key me.place.me.0 me.author i) (reader_view own him.place.me.0 him.reader i), me.no_slot i)) in
    let kept = (hear_is g.M.Meaning.shows c.laws_of_runs.ensures key (with_history_of (author_of me.place) (after_hear (author_of me.place) (seat_of him.place).history)) (step me.store.now.table.shared.table_id.slots 0 0 0 none) c.join_seat.new.seat.me c.load.new.seat.me c.load.result is c.load.ensures.2).kept in
    record { at = c.load.ensures.0 ∙ (c.join_seat.ensures.0 ∙ me.at); no_slot = kept.no_slot; author = kept.author; sized = kept.sized }

pub returns : goal.returns
returns g c = let me = c.args.self.now in
    let key = me.store.now.table.shared.key in
    let him = c.args.note in
    let own = him.store.now.table.shared.key in
    let is = c.join_seat.ensures.2 ∙ (λ i. (with_note_back (author_view key me.place.me.0 me.author i) (reader_view own him.place.me.0 him.reader i), me.no_slot i)) in
    let heard = hear_is g.M.Meaning.shows c.laws_of_runs.ensures key (with_history_of (author_of me.place) (after_hear (author_of me.place) (seat_of him.place).history)) (step me.store.now.table.shared.table_id.slots 0 0 0 none) c.join_seat.new.seat.me c.load.new.seat.me c.load.result is c.load.ensures.2 in record {
      heard = heard.kept.is ∙ kept_is_heard g.M.Meaning.shows c.laws_of_runs.ensures (author_of me.place) (seat_of him.place).history heard.prefixes.1;
      history = ap (λ a. a.history) heard.kept.is;
      mine = subst (λ a. IsPrefix (author_of me.place).history a.history) (sym heard.kept.is) heard.prefixes.0;
      its = subst (λ a. IsPrefix (seat_of him.place).history a.history) (sym heard.kept.is) heard.prefixes.1;
      store = refl;
    }
