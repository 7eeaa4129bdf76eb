-- Where a row of indexes fits, class by class, and the lowest tag.
use Rattle.std.proofs.Common.{◌≡◌, ◌≢◌, ◌==◌, ℕ, ◌+◌, ◌-◌, ◌*◌, ◌<◌, ◌≤◌, Bool, true, false, ◌&&◌, ◌||◌, not, List, [], ◌∷◌, inl, inr, refl, sym, ap, ◌∙◌, arith}
use Rattle.std.proofs.lemmas.Bool.{and_parts, and_from, not_from_false, eqb-true, eq-eqb, true≢false}
use Rattle.dt_cells.specs.HeldLaws.{by_cases, or_true}
use Rattle.dt_fit.specs.declared.geometry.Geometry.TheVariants.{Displacements}
use Rattle.dt_fit.specs.Fits.{fits, fits_untaken, IsLowest, SomePlace}
use Rattle.dt_fit.specs.Laws.{ManyDisplacementsSuffice, LowestIsLeast}
use Rattle.dt_mrd.specs.Placing.{HasRoom}
use Rattle.dt_mrd.specs.Laying.{is_among, AreClasses}
use Rattle.dt_mrd.specs.Midway.{IsLowestIn, IsChosen, HasOtherRows}

not_true : (b : Bool) → not b ≡ true → b ≡ false
not_true true e = absurd (true≢false (sym e))
not_true false e = refl

pub fits_of : (used : ℕ → Bool) (place : ℕ) (indexes : List ℕ) → ((class : ℕ) → is_among indexes class ≡ true → used (place + class) ≡ false)
    → fits Displacements used indexes place ≡ true
fits_of used place [] free = refl
fits_of used place (i ∷ is) free =
    let cell : 1 * place + i ≡ place + i = omega arith in
    and_from (not (used (1 * place + i))) (fits Displacements used is place)
    (not_from_false (used (1 * place + i)) (ap used cell ∙ free i (first i (is_among is i))))
    (fits_of used place is (λ class e. free class (later (i == class) (is_among is class) e)))
  where
    first : (i : ℕ) (b : Bool) → ((i == i) || b) ≡ true
    first i b = by_cases (i == i) (λ t. ap (λ v. v || b) t) (λ f. absurd (true≢false (sym (eq-eqb i i refl) ∙ f)))

    later : (a b : Bool) → b ≡ true → (a || b) ≡ true
    later true b e = refl
    later false b e = e

pub of_fits : (used : ℕ → Bool) (place : ℕ) (indexes : List ℕ) → fits Displacements used indexes place ≡ true
    → (class : ℕ) → is_among indexes class ≡ true → used (place + class) ≡ false
of_fits used place [] e class among = absurd (true≢false (sym among))
of_fits used place (i ∷ is) e class among =
    let parts = and_parts (not (used (1 * place + i))) (fits Displacements used is place) e in
    elim (or_true (i == class) (is_among is class) among) [
      | inl t ↦ (let same : i ≡ class = eqb-true i class t in
          let cell : place + class ≡ 1 * place + i = omega (arith, same) in
          ap used cell ∙ not_true (used (1 * place + i)) parts.0)
      | inr later ↦ of_fits used place is parts.1 class later
    ]

-- the lowest tag
pub lowest_is : (used taken : ℕ → Bool) (indexes : List ℕ) (place : ℕ) → IsLowest (fits_untaken Displacements taken used indexes) place
    → IsLowestIn used taken (is_among indexes) (place + 1)
lowest_is used taken indexes place low =
    let back : place + 1 - 1 ≡ place = omega arith in
    let parts = and_parts (not (taken place)) (fits Displacements used indexes place) low.passes in
    record {
      some = omega arith;
      fits = λ class among. ap (λ p. used (p + class)) back ∙ of_fits used place indexes parts.1 class among;
      alone = ap taken back ∙ not_true (taken place) parts.0;
      none_below = λ lower some less fit alone. true≢false
          (sym (and_from (not (taken (lower - 1))) (fits Displacements used indexes (lower - 1)) (not_from_false (taken (lower - 1)) alone) (fits_of used (lower - 1) indexes fit))
          ∙ low.none_below (lower - 1) (omega (arith, some, less)));
    }

-- it has room beside fewer rows than there may be
pub lowest_room : (many : ManyDisplacementsSuffice) (least : LowestIsLeast) (used taken : ℕ → Bool) (indexes : List ℕ) (place : ℕ)
    → HasOtherRows used taken → AreClasses indexes → IsLowest (fits_untaken Displacements taken used indexes) place → HasRoom (place + 1)
lowest_room many least used taken indexes place others classes low =
    let some = many others.rows taken used indexes others.few others.are_rows classes others.places others.cells in
    let below : some.0 < 67106816 = some.1 in
    let most : place ≤ some.0 = least (fits_untaken Displacements taken used indexes) place some.0 low some.2 in
    record { some = omega arith; within = omega (arith, below, most) }

pub other_place : (many : ManyDisplacementsSuffice) (used taken : ℕ → Bool) (indexes : List ℕ) → HasOtherRows used taken → AreClasses indexes
    → SomePlace (fits_untaken Displacements taken used indexes) 67108864
other_place many used taken indexes others classes =
    let some = many others.rows taken used indexes others.few others.are_rows classes others.places others.cells in
    let below : some.0 < 67106816 = some.1 in
    (some.0, omega (arith, below), some.2)

-- the tag of before is chosen where it fits
pub stays_chosen : (used taken : ℕ → Bool) (indexes : List ℕ) (before : ℕ) → (not (before == 0) && fits Displacements used indexes (before - 1)) ≡ true
    → IsChosen used taken (is_among indexes) before before
stays_chosen used taken indexes before e =
    let parts = and_parts (not (before == 0)) (fits Displacements used indexes (before - 1)) e in
    inl ((λ z. true≢false (sym parts.0 ∙ ap not (eq-eqb before 0 z))), of_fits used (before - 1) indexes parts.1, refl)

pub stays_room : (used : ℕ → Bool) (indexes : List ℕ) (before : ℕ) → (not (before == 0) && fits Displacements used indexes (before - 1)) ≡ true → before - 1 < 67106816 → HasRoom before
stays_room used indexes before e within =
    let parts = and_parts (not (before == 0)) (fits Displacements used indexes (before - 1)) e in
    let some : before ≢ 0 = (λ z. true≢false (sym parts.0 ∙ ap not (eq-eqb before 0 z))) in
    record { some = omega (arith, some); within = within }

-- else the lowest
pub moves_chosen : (used taken : ℕ → Bool) (indexes : List ℕ) (before tag : ℕ) → (not (before == 0) && fits Displacements used indexes (before - 1)) ≡ false
    → IsLowestIn used taken (is_among indexes) tag → IsChosen used taken (is_among indexes) before tag
moves_chosen used taken indexes before tag f low = inr (
  (λ some fit. true≢false (sym (and_from (not (before == 0)) (fits Displacements used indexes (before - 1))
      (not_from_false (before == 0) (by_cases (before == 0) (λ t. absurd (some (eqb-true before 0 t))) (λ g. g)))
      (fits_of used (before - 1) indexes fit)) ∙ f)),
  low,
)
