-- One step of a loop over the classes of a row.
use Rattle.std.proofs.Common.{◌≡◌, ◌≢◌, ◌==◌, ℕ, ◌+◌, Bool, true, false, if◌then◌else◌, inl, inr, sym, ap, ◌∙◌, arith, eqb-true, eq-eqb, true≢false}
use Rattle.dt_cells.specs.HeldLaws.{by_cases, if_true, if_false}
use Rattle.dt_fit.specs.declared.geometry.Geometry.{Geometry}
use Rattle.dt_fit.specs.Cells.{Cells, is_kept, is_tried}
use Rattle.dt_placing.specs.Turn.{Laid}

-- what a loop over used cells keeps
pub record CellsSoFar (geometry : Geometry) (first now : Cells) (at : ℕ → ℕ) (passes : ℕ → Bool) (value : Bool) (bound : ℕ) : Type 0 where
  pub geometry_is : now.geometry ≡ geometry
  pub kept : (cell : ℕ) → is_kept now cell ≡ is_kept first cell
  pub tried : Laid at passes (λ class. value) bound (is_tried first) (is_tried now)

-- a class that passes is laid
pub laid_one : {T : Type 0} (at : ℕ → ℕ) (passes : ℕ → Bool) (value : ℕ → T) (n : ℕ) (before now after : ℕ → T) → passes n ≡ true
    → ((place : ℕ) → after place ≡ (if place == at n then value n else now place)) → Laid at passes value n before now → Laid at passes value (n + 1) before after
laid_one at passes value n before now after t is laid place = by_cases (place == at n)
    (λ e. inl (n, omega arith, t, sym (eqb-true place (at n) e), is place ∙ if_true (place == at n) (value n) (now place) e))
    (λ f. elim (laid place) [
      | inl m ↦ inl (m.0, omega (arith, m.1), m.2, m.3, is place ∙ if_false (place == at n) (value n) (now place) f ∙ m.4)
      | inr m ↦ inr (
        (λ class below p. by_cases (class == n)
            (λ e. (λ same. true≢false (sym (eq-eqb place (at n) (sym same ∙ ap at (eqb-true class n e))) ∙ f)))
            (λ g. m.0 class (let apart : class ≢ n = (λ e. true≢false (sym (eq-eqb class n e) ∙ g)) in omega (arith, below, apart)) p)),
        is place ∙ if_false (place == at n) (value n) (now place) f ∙ m.1,
      )
    ])

-- one that doesn't is passed over
pub laid_over_one : {T : Type 0} (at : ℕ → ℕ) (passes : ℕ → Bool) (value : ℕ → T) (n : ℕ) (before now : ℕ → T) → passes n ≡ false
    → Laid at passes value n before now → Laid at passes value (n + 1) before now
laid_over_one at passes value n before now f laid place = elim (laid place) [
  | inl m ↦ inl (m.0, omega (arith, m.1), m.2, m.3, m.4)
  | inr m ↦ inr (
    (λ class below p. by_cases (class == n)
        (λ e. absurd (true≢false (sym p ∙ ap passes (eqb-true class n e) ∙ f)))
        (λ g. m.0 class (let apart : class ≢ n = (λ e. true≢false (sym (eq-eqb class n e) ∙ g)) in omega (arith, below, apart)) p)),
    m.1,
  )
]
