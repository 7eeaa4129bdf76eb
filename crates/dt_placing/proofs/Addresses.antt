-- What is read for a class at a place word.
use Rattle.std.proofs.Common.{◌≡◌, ◌≢◌, ℕ, zero, suc, ◌+◌, ◌-◌, ◌*◌, ◌<◌, ◌≤◌, refl, sym, ap, subst, ◌∙◌, arith}
use Rattle.std.specs.Prelude.{nat_lt}
use Rattle.dt_pages.specs.Reading.{Reading}
use Rattle.dt_scratch.specs.declared.reply.Answer.TheVariants.{NotUnderstood}
use Rattle.dt_cells.specs.Cell.{answer_of_word}
use Rattle.dt_cells.specs.HeldLaws.{by_cases, if_true, if_false}
use Rattle.dt_fit.specs.declared.geometry.Geometry.{Geometry}
use Rattle.dt_fit.specs.declared.geometry.Geometry.TheVariants.{Colours, Displacements}
use Rattle.dt_fit.specs.Geometry.{width_of}
use Rattle.dt_placing.specs.Placing.{cell_at, answer_at, tag_of}
use Rattle.dt_placing.specs.PlacingLaws.{lt_test, lt_tested}

pub looked_at : (g : Geometry) (x : Reading) (s word class at : ℕ) → word ≢ 0 → at ≡ 16777216 + (width_of g * (word - 1) + class) → at < 134217728
    → answer_at g x s word class ≡ answer_of_word (tag_of s) (x at)
looked_at g x s zero class at some is below = absurd (some refl)
looked_at g x s (suc p) class at some is below =
    let e : suc p - 1 ≡ p = omega arith in
    let here : at ≡ cell_at g p class = is ∙ ap (λ n. 16777216 + (width_of g * n + class)) e in
    if_true (nat_lt (cell_at g p class) 134217728) (answer_of_word (tag_of s) (x (cell_at g p class))) NotUnderstood
    (lt_test (cell_at g p class) 134217728 (subst (λ n. n < 134217728) here below))
    ∙ ap (λ n. answer_of_word (tag_of s) (x n)) (sym here)

pub looked_nowhere : (g : Geometry) (x : Reading) (s class : ℕ) → answer_at g x s 0 class ≡ NotUnderstood
looked_nowhere g x s class = refl

pub looked_past : (g : Geometry) (x : Reading) (s word class : ℕ) → 134217728 ≤ 16777216 + (width_of g * (word - 1) + class) → answer_at g x s word class ≡ NotUnderstood
looked_past g x s zero class past = refl
looked_past g x s (suc p) class past =
    let e : suc p - 1 ≡ p = omega arith in
    let from : 134217728 ≤ 16777216 + (width_of g * p + class) = subst (λ n. 134217728 ≤ 16777216 + (width_of g * n + class)) e past in
    if_false (nat_lt (cell_at g p class) 134217728) (answer_of_word (tag_of s) (x (cell_at g p class))) NotUnderstood
    (by_cases (nat_lt (cell_at g p class) 134217728)
    (λ t. absurd (let below : 16777216 + (width_of g * p + class) < 134217728 = lt_tested (cell_at g p class) 134217728 t in omega (arith, below, from)))
    (λ f. f))

-- a place past the addresses is far past the last cell
pub looked_far : (g : Geometry) (x : Reading) (s word class : ℕ) → 134217728 < word → answer_at g x s word class ≡ NotUnderstood
looked_far g x s word class far = looked_past g x s word class (by_geometry g)
  where
    by_geometry : (h : Geometry) → 134217728 ≤ 16777216 + (width_of h * (word - 1) + class)
    by_geometry Colours = omega (arith, far)
    by_geometry Displacements = omega (arith, far)

pub ruleset looked = (looked_at, looked_nowhere, looked_past, looked_far)
