-- Worked examples: what the calls of readers and of the author make of what is known, and what they don't.
use Rattle.std.specs.Prelude.{◌≡◌, ℕ, ◌≤◌, List, [], ◌∷◌, length, sum_by, Some, refl}
use Rattle.std.proofs.Common.{ap, arith}
use Rattle.dt_pages.specs.Reading.{Reading}
use Rattle.dt_gate.specs.declared.event.ReadWord.TheVariants.{Version}
use Rattle.dt_gate.specs.declared.gate.Author.{Author}
use Rattle.dt_gate.specs.declared.gate.Frozen.{Frozen}
use Rattle.dt_gate.specs.declared.gate.Seat.{Seat}
use Rattle.dt_gate.specs.declared.gate.Stage.{Stage}
use Rattle.dt_gate.specs.declared.gate.Stage.TheVariants.{Out, Near, In, Note}
use Rattle.dt_gate.specs.declared.gate.Standing.{Standing}
use Rattle.dt_gate.specs.declared.gate.Standing.TheVariants.{Free, Old}
use Rattle.dt_gate.specs.Gate.{root_at}
use Rattle.dt_gate.specs.Author.{after_poll}
use Rattle.dt_gate.specs.Seats.{given}
use Rattle.dt_gate.specs.Words.{frozen_at}
use Rattle.dt_gate.specs.WrongMachines.{anything}
use Rattle.dt_gate.specs.Busy.{busy_author}
use Rattle.dt_version.specs.declared.view.Size.{Size}
use Rattle.dt_version.specs.declared.view.View.TheVariants as view
use Rattle.dt_version.specs.Views.{with_note_back, with_seat_back}
use Rattle.dt_version.specs.Calls.{IsWornLook, HasEntered}
use Rattle.dt_version.specs.AuthorCalls.{laid_whole, IsPoll}

-- a reader that has seen one item, entered version 0 once, and was worn once
abbrev seat : Seat ℕ ℕ
seat = record (given Out (7 ∷ [])) { entered = 0 ∷ []; worn = (0, 5) ∷ [] }

-- ---- a look that finds six entries, and one more item

abbrev looked : Seat ℕ ℕ
looked = record seat { history = 7 ∷ 8 ∷ []; worn = (0, 5) ∷ (2, 6) ∷ [] }

a_worn_look : IsWornLook 6 seat looked 6
a_worn_look = record { at_the_limit = omega arith; seen = (8 ∷ [], refl); is = refl }

none_is_worn_below_the_limit : ¬ IsWornLook 7 seat looked 6
none_is_worn_below_the_limit look = let is : 7 ≤ 6 = look.at_the_limit in absurd (omega (arith, is))

the_count_kept_is_the_one_found : ¬ IsWornLook 6 seat looked 7
the_count_kept_is_the_one_found look =
    let is : ◌≡◌ {A = ℕ} 11 12 = ap (λ (s : Seat ℕ ℕ). sum_by (λ (worn : ℕ × ℕ). worn.1) s.worn) look.is in absurd (omega (arith, is))

a_worn_look_does_not_forget : ¬ IsWornLook 6 seat (record seat { history = []; worn = (0, 5) ∷ (0, 6) ∷ [] }) 6
a_worn_look_does_not_forget look = let is : ◌≡◌ {A = List ℕ} (7 ∷ look.seen.0) [] = look.seen.1 in cc

who_was_worn_stays_out : ¬ IsWornLook 6 seat (record looked { stage = Near }) 6
who_was_worn_stays_out look = let is : ◌≡◌ {A = Stage} Near Out = ap (λ (s : Seat ℕ ℕ). s.stage) look.is in cc

it_is_kept_once : ¬ IsWornLook 6 seat (record looked { worn = (0, 5) ∷ (2, 6) ∷ (2, 6) ∷ [] }) 6
it_is_kept_once look = let is : ◌≡◌ {A = ℕ} 3 2 = ap (λ (s : Seat ℕ ℕ). length s.worn) look.is in absurd (omega (arith, is))

-- ---- an enter into root 3, whose version is 2

abbrev near_seat : Seat ℕ ℕ
near_seat = record seat { stage = Near }

abbrev there : Frozen
there = record { words = []; version = 2; top = 0 }

abbrev entered : Seat ℕ ℕ
entered = record seat { stage = In 3 there; history = 7 ∷ 8 ∷ []; entered = 0 ∷ 2 ∷ [] }

-- by a meaning by which every reading shows the lists of so many items
abbrev shows : ℕ → Reading → List ℕ → Type 0
shows many reading items = length items ≡ many

an_enter : HasEntered (shows 2) near_seat entered
an_enter = record { root = 3; frozen = there; seen = (8 ∷ [], refl); version_is = refl; words_show = refl; is = refl }

the_words_show_what_was_seen : ¬ HasEntered (shows 1) near_seat entered
the_words_show_what_was_seen enter = let is : ◌≡◌ {A = ℕ} 2 1 = enter.words_show in absurd (omega (arith, is))

an_older_root_is_not_entered : ¬ HasEntered anything near_seat (record entered { stage = In 3 (record there { version = 1 }) })
an_older_root_is_not_entered enter =
    let is : 1 ≡ enter.frozen.version = ap (λ (s : Seat ℕ ℕ). frozen_at Version s.stage) enter.is in
    let last : enter.frozen.version ≡ 2 = enter.version_is in absurd (omega (arith, is, last))

an_enter_does_not_forget : ¬ HasEntered anything near_seat (record entered { stage = In 3 (record there { version = 0 }); history = []; entered = 0 ∷ 0 ∷ [] })
an_enter_does_not_forget enter = let is : ◌≡◌ {A = List ℕ} (7 ∷ enter.seen.0) [] = enter.seen.1 in cc

each_enter_is_kept : ¬ HasEntered anything near_seat (record entered { entered = 0 ∷ [] })
each_enter_is_kept enter = let is : ◌≡◌ {A = ℕ} 1 2 = ap (λ (s : Seat ℕ ℕ). length s.entered) enter.is in absurd (omega (arith, is))

and_once : ¬ HasEntered anything near_seat (record entered { entered = 0 ∷ 2 ∷ 2 ∷ [] })
and_once enter = let is : ◌≡◌ {A = ℕ} 3 2 = ap (λ (s : Seat ℕ ℕ). length s.entered) enter.is in absurd (omega (arith, is))

-- ---- a poll of root 0, which two entered

a_poll : IsPoll 2 0 busy_author (after_poll busy_author 0 1) 1
a_poll = let one_of_two : 1 ≤ 2 = omega arith in let two_of_two : 2 ≤ 2 = omega arith in record { at_most_entries = within; held = one_of_two; sweep = two_of_two }
  where
    within : (entries : ℕ) → (root_at busy_author 0).standing ≡ Old entries → 1 ≤ entries
    within entries is = let old : ◌≡◌ {A = Standing} (Old 2) (Old entries) = is in let same : 2 ≡ entries = cc in omega (arith, same)

no_more_left_than_entered : ¬ IsPoll 2 0 busy_author (after_poll busy_author 0 3) 3
no_more_left_than_entered poll = let is : 3 ≤ 2 = poll.at_most_entries 2 refl in absurd (omega (arith, is))

no_more_are_held_than_readers_were_out : ¬ IsPoll 2 0 busy_author (record busy_author { held = 0 ∷ 2 ∷ []; sweep = 1 }) 1
no_more_are_held_than_readers_were_out poll = let is : 2 ≤ 1 = poll.held in absurd (omega (arith, is))

no_more_were_out_than_may_be : ¬ IsPoll 2 0 busy_author (record busy_author { sweep = 3 }) 1
no_more_were_out_than_may_be poll = let is : 3 ≤ 2 = poll.sweep in absurd (omega (arith, is))

-- ---- three record words, and what comes back

all_three_words_are_laid : root_at (laid_whole busy_author 3 2 5) 3 ≡ record {
  version = 2;
  top = 5;
  standing = Free;
  laid = record { exits = Some 0; version = Some 2; top = Some 5 };
}
all_three_words_are_laid = refl

abbrev two : Size
two = record { readers = 2; pages = 16; entries = 2 }

-- the author has seen two items, who comes back one: the author's history stays, and both are kept
abbrev author : Author ℕ ℕ
author = record busy_author { history = 7 ∷ 8 ∷ [] }

a_note_comes_back : with_note_back (view.Author two author) (view.Reader two (given Note (7 ∷ [])))
    ≡ view.Author two (record author { joined = (7 ∷ 8 ∷ [], 7 ∷ []) })
a_note_comes_back = refl

a_seat_comes_back : with_seat_back (view.Author two author) (view.Reader two seat)
    ≡ view.Author two (record author { out = 1; taken = (0 ∷ []) ∷ []; worn = ((0, 5) ∷ []) ∷ []; joined = (7 ∷ 8 ∷ [], 7 ∷ []) })
a_seat_comes_back = refl
