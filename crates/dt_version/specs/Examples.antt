-- Worked examples: the words and views of small stores, and runs of two readers.
use Rattle.std.specs.Prelude.{◌≡◌, ℕ, List, [], ◌∷◌, ◌++◌, length, take, slice_set, refl}
use mathlib.Core.Option.{some}
use lib.ListN.{get_elem?}
use Rattle.atomic_table.specs.Table.{State, Splits, Joins}
use Rattle.dt_gate.specs.declared.event.Event.{Event}
use Rattle.dt_gate.specs.declared.event.Event.TheVariants.{Look, Enter, Read, Leave, SeatOut, SeatBack}
use Rattle.dt_gate.specs.declared.event.ReadWord.TheVariants.{Top, Page}
use Rattle.dt_gate.specs.declared.gate.Gate.{Gate}
use Rattle.dt_gate.specs.declared.gate.Stage.TheVariants.{Out}
use Rattle.dt_gate.specs.Gate.{fresh, fresh_author, seat_at}
use Rattle.dt_gate.specs.Runs.{gate_after}
use Rattle.dt_gate.specs.Words.{words_of, access_of, word_of, found}
use Rattle.dt_gate.specs.Seats.{given}
use Rattle.dt_gate.specs.WrongMachines.{small, start}
use Rattle.dt_gate.specs.Examples.{filled_and_published}
use Rattle.dt_version.specs.declared.view.Size.{Size}
use Rattle.dt_version.specs.declared.view.View.{View}
use Rattle.dt_version.specs.declared.view.View.TheVariants as view
use Rattle.dt_version.specs.Limits.{bounds, word_count}
use Rattle.dt_version.specs.Views.{views_of, after_out, given_by, with_seat_back}
use Rattle.dt_version.specs.Laws.{cut, joined}

-- one reader, sixteen pages, a limit of one entry; and two readers with a limit of five
abbrev one : Size
one = record { readers = 1; pages = 16; entries = 1 }

abbrev two : Size
two = record { readers = 2; pages = 16; entries = 5 }

-- ---- the words of a fresh store: the version word, three for each of three roots, and those of sixteen pages, all of them 0

as_many_words : length (words_of (fresh {M = ℕ} {I = ℕ} (bounds one))) ≡ word_count 1 16
as_many_words = refl

the_first_words : take 12 (words_of (fresh {M = ℕ} {I = ℕ} (bounds one))) ≡ 0 ∷ 0 ∷ 0 ∷ 0 ∷ 0 ∷ 0 ∷ 0 ∷ 0 ∷ 0 ∷ 0 ∷ 0 ∷ 0 ∷ []
the_first_words = refl

-- its one view is the author's
the_first_view : views_of one (fresh {M = ℕ} {I = ℕ} (bounds one)) ≡ view.Author one (fresh_author (bounds one)) ∷ []
the_first_view = refl

-- ---- two readers and a limit of five

-- a reader looks, enters and leaves
abbrev visit : ℕ → List (Event ℕ ℕ)
visit seat = Look seat ∷ Enter seat ∷ Leave seat ∷ []

-- two readers enter four times, and the first once more
abbrev five : Gate ℕ ℕ
five = gate_after (bounds two) (fresh (bounds two)) (SeatOut ∷ SeatOut ∷ visit 0 ++ visit 1 ++ visit 0 ++ visit 1 ++ Look 0 ∷ Enter 0 ∷ [])

-- the version word has root 0 with five entries; four have left
the_words_of_five : take 3 (words_of five) ≡ 5 ∷ 4 ∷ 0 ∷ []
the_words_of_five = refl

-- the fifth reader was let in at four entries; the next look finds five, and is worn
the_sixth_look : (seat_at (gate_after (bounds two) five (Look 1 ∷ [])) 1).worn ≡ (0, 5) ∷ []
the_sixth_look = refl

-- and leaves its reader out
still_out : (seat_at (gate_after (bounds two) five (Look 1 ∷ [])) 1).stage ≡ Out
still_out = refl

-- the view of the reader that was given back is gone, and so is its seat
the_views_after : views_of two (gate_after (bounds two) (fresh {M = ℕ} (bounds two)) (SeatOut ∷ SeatOut ∷ SeatBack 0 ∷ []))
    ≡ view.Author two (gate_after (bounds two) (fresh {M = ℕ} {I = ℕ} (bounds two)) (SeatOut ∷ SeatOut ∷ SeatBack 0 ∷ [])).author
    ∷ view.Gone ∷ view.Reader two (given Out []) ∷ []
the_views_after = refl

-- ---- a word through three pages: address 0 of the tree whose top page is page 1, with one reader

-- the reader is inside root 1
abbrev inside : Gate ℕ ℕ
inside = gate_after small start (filled_and_published ++ SeatOut ∷ Look 0 ∷ Enter 0 ∷ [])

-- each load is of one word: the root's top page, and word 0 of pages 1, 2 and 3
the_top_is_word_6 : word_of (access_of small inside (Read 0 Top)) ≡ 6
the_top_is_word_6 = refl

it_is_page_1 : found (access_of small inside (Read 0 Top)) (words_of inside) ≡ 1
it_is_page_1 = refl

page_1_begins_at_522 : word_of (access_of small inside (Read 0 (Page 1 0))) ≡ 522
page_1_begins_at_522 = refl

it_leads_to_page_2 : found (access_of small inside (Read 0 (Page 1 0))) (words_of inside) ≡ 2
it_leads_to_page_2 = refl

and_on_to_page_3 : found (access_of small inside (Read 0 (Page 2 0))) (words_of inside) ≡ 3
and_on_to_page_3 = refl

which_has_the_word : found (access_of small inside (Read 0 (Page 3 0))) (words_of inside) ≡ 1
which_has_the_word = refl

-- ---- a seat goes out and comes back: the views are cut and joined, and are those of the gate after each event

-- a table that shows this gate
abbrev table_of : Gate ℕ ℕ → State ℕ (View ℕ ℕ)
table_of gate = record { words = words_of gate; homes = []; views = views_of two gate }

abbrev one_out : Gate ℕ ℕ
one_out = gate_after (bounds two) (fresh (bounds two)) (SeatOut ∷ [])

a_seat_goes_out : cut (table_of (fresh (bounds two))) 0 (after_out (view.Author two (fresh_author (bounds two)))) (given_by Out (view.Author two (fresh_author (bounds two)))) ≡ table_of one_out
a_seat_goes_out = refl

a_seat_comes_back : joined (table_of one_out) 0 (with_seat_back (view.Author two one_out.author) (view.Reader two (given Out []))) 1 ≡ table_of (gate_after (bounds two) one_out (SeatBack 0 ∷ []))
a_seat_comes_back = refl

-- the table asks of a split that the rule holds when the view was cut, and of a join when the views were joined
a_cut_is_a_split : (holds : State ℕ (View ℕ ℕ) → Type 0) (id : ℕ) (me left right : View ℕ ℕ)
    → Splits holds id me left right ≡ ((state : State ℕ (View ℕ ℕ)) → holds state → get_elem? state.views id ≡ some me → holds (cut state id left right))
a_cut_is_a_split holds id me left right = refl

a_join_is_joined : (holds : State ℕ (View ℕ ℕ) → Type 0) (id other : ℕ) (me him both : View ℕ ℕ)
    → Joins holds id me other him both view.Gone ≡ ((state : State ℕ (View ℕ ℕ)) → holds state → get_elem? state.views id ≡ some me → ¬ (other ≡ id)
    → get_elem? (slice_set state.views id both) other ≡ some him → holds (joined state id both other))
a_join_is_joined holds id other me him both = refl
