-- Lemmas on rows as a list of selectors: a look-up, a write, and the laws.
use Rattle.std.proofs.Common.{◌≡◌, ℕ, zero, suc, ◌+◌, ◌<◌, ◌≤◌, List, [], ◌∷◌, length, set, replicate, get_or, Option, None, Some, slice_get, All, IfSome, refl, ap, ◌∙◌, arith, eq-eqb, lt-ltb}
use Rattle.std.proofs.lemmas.Bool.Decides.{nat_tests}
use Rattle.std.proofs.lemmas.List.Elements.{All-nil, All-cons, All-head, All-tail}
use Rattle.std.proofs.lemmas.Option.{slice_get_read}
use Rattle.std.specs.Option.{option_flatten}
use Rattle.dt_selectors.specs.Selectors.{Selector, arity_in, insert_selector, without_selector}
use Rattle.dt_selectors.specs.Lawful.{AscendingSelectors, LawfulSelector, LawfulSelectors}
use Rattle.dt_selectors.specs.Rows.{selectors_from, AritiesInRange}
use Rattle.dt_selectors.specs.declared.limits.TheConstants.{SELECTORS}

-- a selector below the rows isn't live in them
arity-below : (q number : ℕ) (rows : List (Option ℕ)) → q < number → arity_in (selectors_from number rows) q ≡ None
arity-below q number [] h = refl
arity-below q number (None ∷ rows) h = arity-below q (number + 1) rows (omega arith)
arity-below q number (Some a ∷ rows) h = let rest = arity-below q (number + 1) rows (omega arith) in grind (arith, nat_tests)

arity-at : (q number i : ℕ) (rows : List (Option ℕ)) → q ≡ number + i → arity_in (selectors_from number rows) q ≡ option_flatten (slice_get rows i)
arity-at q number i [] e = refl
arity-at q number zero (None ∷ rows) e = arity-below q (number + 1) rows (omega arith)
arity-at q number zero (Some a ∷ rows) e = rw (eq-eqb number q (omega arith)) refl
arity-at q number (suc i) (None ∷ rows) e = arity-at q (number + 1) i rows (omega arith)
arity-at q number (suc i) (Some a ∷ rows) e = let rest = arity-at q (number + 1) i rows (omega arith) in grind (arith, nat_tests)

-- a row is the arity of its selector
pub arity-row : (rows : List (Option ℕ)) (i : ℕ) (row : Option ℕ) → i < length rows → row ≡ get_or rows i row → arity_in (selectors_from 0 rows) i ≡ row
arity-row rows i row within read =
    arity-at i 0 i rows (omega arith) ∙ ap option_flatten (slice_get_read rows (length rows) i row refl within read)

-- a write of an arity places the selector
insert-first : (q a number : ℕ) (rows : List (Option ℕ)) → q < number
    → insert_selector (record { number = q; arity = a }) (selectors_from number rows) ≡ record { number = q; arity = a } ∷ selectors_from number rows
insert-first q a number [] h = refl
insert-first q a number (None ∷ rows) h = insert-first q a (number + 1) rows (omega arith)
insert-first q a number (Some b ∷ rows) h = grind (arith, nat_tests)

insert-at : (q a number i : ℕ) (rows : List (Option ℕ)) → q ≡ number + i → i < length rows
    → insert_selector (record { number = q; arity = a }) (selectors_from number rows) ≡ selectors_from number (set rows i (Some a))
insert-at q a number i [] e h = absurd (omega arith)
insert-at q a number zero (None ∷ rows) e h =
    let same : q ≡ number = omega arith in
    insert-first q a (number + 1) rows (omega arith) ∙ ap (λ n. record { number = n; arity = a } ∷ selectors_from (number + 1) rows) same
insert-at q a number zero (Some b ∷ rows) e h =
    let same : q ≡ number = omega arith in grind (arith, nat_tests)
insert-at q a number (suc i) (None ∷ rows) e h = insert-at q a (number + 1) i rows (omega arith) (omega arith)
insert-at q a number (suc i) (Some b ∷ rows) e h =
    let rest = insert-at q a (number + 1) i rows (omega arith) (omega arith) in grind (arith, nat_tests)

pub insert-row : (rows : List (Option ℕ)) (i a : ℕ) → i < length rows
    → insert_selector (record { number = i; arity = a }) (selectors_from 0 rows) ≡ selectors_from 0 (set rows i (Some a))
insert-row rows i a within = insert-at i a 0 i rows (omega arith) within

-- a write of no arity takes the selector away
without-below : (q number : ℕ) (rows : List (Option ℕ)) → q < number → without_selector (selectors_from number rows) q ≡ selectors_from number rows
without-below q number [] h = refl
without-below q number (None ∷ rows) h = without-below q (number + 1) rows (omega arith)
without-below q number (Some a ∷ rows) h =
    let rest = without-below q (number + 1) rows (omega arith) in grind (arith, nat_tests)

without-at : (q number i : ℕ) (rows : List (Option ℕ)) → q ≡ number + i
    → without_selector (selectors_from number rows) q ≡ selectors_from number (set rows i None)
without-at q number i [] e = refl
without-at q number zero (None ∷ rows) e = without-below q (number + 1) rows (omega arith)
without-at q number zero (Some a ∷ rows) e = rw (eq-eqb number q (omega arith)) (without-below q (number + 1) rows (omega arith))
without-at q number (suc i) (None ∷ rows) e = without-at q (number + 1) i rows (omega arith)
without-at q number (suc i) (Some a ∷ rows) e =
    let rest = without-at q (number + 1) i rows (omega arith) in grind (arith, nat_tests)

pub without-row : (rows : List (Option ℕ)) (i : ℕ) → without_selector (selectors_from 0 rows) i ≡ selectors_from 0 (set rows i None)
without-row rows i = without-at i 0 i rows (omega arith)

-- rows with no arity have no selector
pub selectors_from-replicate : (number n : ℕ) → selectors_from number (replicate n None) ≡ []
selectors_from-replicate number zero = refl
selectors_from-replicate number (suc n) = selectors_from-replicate (number + 1) n

-- the selectors of rows ascend, and are in range
ascend-cons : (s : Selector) (number : ℕ) (rows : List (Option ℕ)) → s.number < number → AscendingSelectors (s ∷ selectors_from number rows)
ascend-cons s number [] h = tt
ascend-cons s number (None ∷ rows) h = ascend-cons s (number + 1) rows (omega arith)
ascend-cons s number (Some a ∷ rows) h =
    (lt-ltb s.number number h, ascend-cons (record { number = number; arity = a }) (number + 1) rows (omega arith))

ascend : (number : ℕ) (rows : List (Option ℕ)) → AscendingSelectors (selectors_from number rows)
ascend number [] = tt
ascend number (None ∷ rows) = ascend (number + 1) rows
ascend number (Some a ∷ rows) = ascend-cons (record { number = number; arity = a }) (number + 1) rows (omega arith)

abbrev IsArityRow : Option ℕ → Type 0
IsArityRow row = IfSome row (λ arity. (0 < arity) × (arity ≤ 4))

in_range : (number : ℕ) (rows : List (Option ℕ)) → number + length rows ≤ SELECTORS → AritiesInRange rows → All LawfulSelector (selectors_from number rows)
in_range number [] fits arities = All-nil LawfulSelector
in_range number (None ∷ rows) fits arities =
    in_range (number + 1) rows (omega arith) (All-tail IsArityRow None rows arities)
in_range number (Some a ∷ rows) fits arities =
    let own : (0 < a) × (a ≤ 4) = All-head IsArityRow (Some a) rows arities in
    All-cons LawfulSelector (record { number = number; arity = a }) (selectors_from (number + 1) rows)
    (omega arith, own.0, own.1)
    (in_range (number + 1) rows (omega arith) (All-tail IsArityRow (Some a) rows arities))

pub LawfulSelectors-rows : (rows : List (Option ℕ)) → length rows ≡ SELECTORS → AritiesInRange rows → LawfulSelectors (selectors_from 0 rows)
LawfulSelectors-rows rows len arities = record {
  ascend = ascend 0 rows;
  in_range = in_range 0 rows (omega arith) arities;
}
