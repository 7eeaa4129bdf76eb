-- Which displacements are taken, and what the loops over the indexes of a row come to.
use Rattle.std.proofs.Common.{◌≡◌, ◌≢◌, ◌==◌, ℕ, suc, ◌+◌, ◌-◌, ◌<◌, Bool, true, false, ◌&&◌, ◌||◌, not, List, [], ◌∷◌, inl, inr, refl, sym, ap, ◌∙◌, arith}
use Rattle.std.proofs.lemmas.Bool.{and_parts, or_left, or_right, eqb-true, eq-eqb, true≢false}
use Rattle.std.proofs.lemmas.List.Elements.{All-nil, All-cons}
use Rattle.dt_cells.specs.HeldLaws.{by_cases}
use Rattle.dt_placing.specs.PlacingLaws.{lt_test}
use Rattle.dt_placing.specs.Turn.{Laid}
use Rattle.dt_mrd.specs.Reading.{owns, cell_at}
use Rattle.dt_mrd.specs.ReadingLaws.{owned_if_read}
use Rattle.dt_mrd.specs.Laying.{is_among, AreClasses}

same_next : (displacement tag : ℕ) → tag ≢ 0 → (suc displacement == tag) ≡ (displacement == (tag - 1))
same_next displacement tag some = by_cases (displacement == (tag - 1))
    (λ t. (let e : displacement ≡ tag - 1 = eqb-true displacement (tag - 1) t in
    eq-eqb (suc displacement) tag (omega (arith, e, some)) ∙ sym t))
    (λ f. by_cases (suc displacement == tag)
    (λ t. (let e : suc displacement ≡ tag = eqb-true (suc displacement) tag t in
    absurd (true≢false (sym (eq-eqb displacement (tag - 1) (omega (arith, e))) ∙ f))))
    (λ g. g ∙ sym f))

-- the displacement of a tag is given up
pub displacement_given : (displacement tag : ℕ) (taken : Bool) → tag ≢ 0
    → (not (displacement == (tag - 1)) && taken) ≡ ((false || not (suc displacement == tag)) && taken)
displacement_given displacement tag taken some = ap (λ b. not b && taken) (sym (same_next displacement tag some))

-- there is none to give up
pub none_given : (displacement : ℕ) (stays taken : Bool) → taken ≡ ((stays || not (suc displacement == 0)) && taken)
none_given displacement true taken = refl
none_given displacement false taken = ap (λ b. not b && taken) (sym (never displacement))
  where
    never : (displacement : ℕ) → (suc displacement == 0) ≡ false
    never displacement = by_cases (suc displacement == 0) (λ t. (let e : suc displacement ≡ 0 = eqb-true (suc displacement) 0 t in absurd (omega (arith, e)))) (λ f. f)

-- or it stays
pub stays_given : (displacement tag : ℕ) (taken : Bool) → taken ≡ ((true || not (suc displacement == tag)) && taken)
stays_given displacement tag taken = refl

-- that of a tag is taken
pub displacement_taken : (displacement tag : ℕ) → 0 < tag → (displacement == (tag - 1)) ≡ (suc displacement == tag)
displacement_taken displacement tag some = sym (same_next displacement tag (λ e. omega (arith, some, e)))

-- ---- the same classes by another test

pub laid_same : {T : Type 0} (at : ℕ → ℕ) (passes others : ℕ → Bool) (value before now : ℕ → T) → ((class : ℕ) → passes class ≡ others class)
    → Laid at passes value 2048 before now → Laid at others value 2048 before now
laid_same at passes others value before now same laid place = elim (laid place) [
  | inl m ↦ inl (m.0, m.1, sym (same m.0) ∙ m.2, m.3, m.4)
  | inr m ↦ inr ((λ class below p. m.0 class below (same class ∙ p)), m.1)
]

-- indexes that are among numbers of classes
pub are_classes : (indexes : List ℕ) → ((class : ℕ) → is_among indexes class ≡ true → class < 2048) → AreClasses indexes
are_classes [] each = All-nil (λ class. class < 2048)
are_classes (i ∷ is) each = All-cons (λ class. class < 2048) i is (each i (or_left (i == i) (is_among is i) (eq-eqb i i refl)))
    (are_classes is (λ class e. each class (or_right (i == class) (is_among is class) e)))

-- other words stay
pub laid_outside : (tag : ℕ) (passes : ℕ → Bool) (value before now : ℕ → ℕ) → tag - 1 < 67106816 → Laid (cell_at tag) passes value 2048 before now
    → (address : ℕ) → owns address ≡ false → now address ≡ before address
laid_outside tag passes value before now within laid address out = elim (laid address) [
  | inl m ↦ (let below : m.0 < 2048 = m.1 in
      absurd (true≢false (sym (owned_if_read tag m.0 (lt_test (67108864 + (tag - 1 + m.0)) 134217728 (omega (arith, within, below)))) ∙ ap owns m.3 ∙ out)))
  | inr m ↦ m.1
]
