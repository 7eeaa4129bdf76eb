-- The classes that have a word in a row, one by one.
use Rattle.std.proofs.Common.{◌≡◌, ◌≢◌, ◌==◌, ℕ, zero, suc, ◌+◌, ◌<◌, ◌≤◌, Bool, true, false, if◌then◌else◌, List, [], ◌∷◌, ◌++◌, get_or, refl, sym, ap, ◌∙◌, arith, All, eqb-true, eq-eqb}
use Rattle.std.proofs.lemmas.List.Elements.{All-nil, All-cons, All-append}
use Rattle.dt_cells.specs.Cell.{cell_word}
use Rattle.dt_cells.specs.Held.{Held}
use Rattle.dt_cells.specs.HeldLaws.{by_cases, if_true, if_false}
use Rattle.dt_placing.specs.Rows.{single, is_understood, indexes, indexes_below}
use Rattle.dt_placing.specs.RowsLaws.{not_understood}
use Rattle.dt_placing.specs.Placing.{tag_of}
use Rattle.dt_placing.specs.PlacingLaws.{unheld, some_word}
use Rattle.dt_placing.specs.Turn.{used_in_row}

pub used_none : (row : List ℕ) → used_in_row row 0 ≡ []
unfolding used_in_row
used_none row = refl

next_is : (row : List ℕ) (n : ℕ) → used_in_row row (n + 1) ≡ used_in_row row n ++ (if get_or row n 0 == 0 then [] else n ∷ [])
unfolding used_in_row
next_is row n = let e : n + 1 ≡ suc n = omega arith in ap (used_in_row row) e

pub used_more : (row : List ℕ) (n : ℕ) → get_or row n 0 ≢ 0 → used_in_row row (n + 1) ≡ used_in_row row n ++ n ∷ []
used_more row n some = next_is row n ∙ ap (λ (l : List ℕ). used_in_row row n ++ l)
    (if_false (get_or row n 0 == 0) [] (n ∷ []) (by_cases (get_or row n 0 == 0) (λ t. absurd (some (eqb-true (get_or row n 0) 0 t))) (λ f. f)))

append_none : (l : List ℕ) → l ++ [] ≡ l
append_none [] = refl
append_none (i ∷ is) = ap (λ (m : List ℕ). i ∷ m) (append_none is)

pub used_as_before : (row : List ℕ) (n : ℕ) → get_or row n 0 ≡ 0 → used_in_row row (n + 1) ≡ used_in_row row n
used_as_before row n none = next_is row n ∙ ap (λ (l : List ℕ). used_in_row row n ++ l)
    (if_true (get_or row n 0 == 0) [] (n ∷ []) (eq-eqb (get_or row n 0) 0 none)) ∙ append_none (used_in_row row n)

pub ruleset used_steps = (used_none, used_more, used_as_before)

-- they are below the bound
pub used_are_indexes : (row : List ℕ) (n : ℕ) → n ≤ 2048 → All (λ index. index < 2048) (used_in_row row n)
unfolding used_in_row
used_are_indexes row zero most = All-nil (λ index. index < 2048)
used_are_indexes row (suc n) most =
    All-append (λ index. index < 2048) (used_in_row row n) (if get_or row n 0 == 0 then [] else n ∷ []) (used_are_indexes row n (omega arith)) (last (get_or row n 0 == 0))
  where
    last : (b : Bool) → All (λ index. index < 2048) (if b then [] else n ∷ [])
    last true = All-nil (λ index. index < 2048)
    last false = All-cons (λ index. index < 2048) n [] (omega arith) (All-nil (λ index. index < 2048))

-- where the words of the row are those of what is held, they are the used indexes
used_are_below : (row : List ℕ) (held : Held) (s n : ℕ) → n ≤ 2048
    → ((class : ℕ) → class < 2048 → get_or row class 0 ≡ cell_word (tag_of s) (held (single s class))) → used_in_row row n ≡ indexes_below held s n
unfolding used_in_row indexes_below
used_are_below row held s zero most words = refl
used_are_below row held s (suc n) most words =
    ap (λ (l : List ℕ). l ++ (if get_or row n 0 == 0 then [] else n ∷ [])) (used_are_below row held s n (omega arith) words)
    ∙ ap (λ (l : List ℕ). indexes_below held s n ++ l) (by_cases (is_understood (held (single s n)))
    (λ t. if_false (get_or row n 0 == 0) [] (n ∷ [])
    (by_cases (get_or row n 0 == 0)
    (λ z. absurd (some_word s (held (single s n)) (not_understood (held (single s n)) t) (sym (words n (omega arith)) ∙ eqb-true (get_or row n 0) 0 z)))
    (λ f. f))
    ∙ sym (if_true (is_understood (held (single s n))) (n ∷ []) [] t))
    (λ f. if_true (get_or row n 0 == 0) [] (n ∷ []) (eq-eqb (get_or row n 0) 0 (words n (omega arith) ∙ ap (cell_word (tag_of s)) (unheld (held (single s n)) f)))
    ∙ sym (if_false (is_understood (held (single s n))) (n ∷ []) [] f)))

pub used_are : (row : List ℕ) (held : Held) (s : ℕ)
    → ((class : ℕ) → class < 2048 → get_or row class 0 ≡ cell_word (tag_of s) (held (single s class))) → used_in_row row 2048 ≡ indexes held s
used_are row held s words = used_are_below row held s 2048 (omega arith) words
