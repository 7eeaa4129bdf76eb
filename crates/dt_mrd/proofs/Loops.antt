-- One step of a loop over the indexes of a row.
use Rattle.std.proofs.Common.{◌≡◌, ◌==◌, ℕ, suc, ◌+◌, ◌<◌, ◌≤◌, Bool, true, false, ◌||◌, ◌&&◌, if◌then◌else◌, List, [], ◌∷◌, ◌++◌, length, take, get_or, inl, inr, refl, sym, ap, subst, ◌∙◌, arith}
use Rattle.std.proofs.lemmas.Bool.{and_parts, and_from, or_left, or_right, eqb-true, eq-eqb, true≢false}
use Rattle.std.proofs.Math.Seq.{take-suc}
use Rattle.std.proofs.lemmas.List.{take_all}
use Rattle.std.proofs.lemmas.List.Elements.{All-get_or}
use Rattle.dt_cells.specs.HeldLaws.{by_cases, or_true, if_true, if_false}
use Rattle.dt_fit.specs.Cells.{Cells, is_kept, is_tried}
use Rattle.dt_fit.specs.declared.geometry.Geometry.TheVariants.{Displacements}
use Rattle.dt_placing.specs.Turn.{Laid}
use Rattle.dt_mrd.specs.Laying.{is_among, AreClasses}

-- what a loop over used cells keeps
pub record CellsSoFar (first now : Cells) (at : ℕ → ℕ) (passes : ℕ → Bool) (value : Bool) : Type 0 where
  pub geometry_is : now.geometry ≡ Displacements
  pub kept : (cell : ℕ) → is_kept now cell ≡ is_kept first cell
  pub tried : Laid at passes (λ class. value) 2048 (is_tried first) (is_tried now)

among_append : (indexes : List ℕ) (k class : ℕ) → is_among (indexes ++ (k ∷ [])) class ≡ (is_among indexes class || (k == class))
among_append [] k class = or_false (k == class)
  where
    or_false : (b : Bool) → (b || false) ≡ (false || b)
    or_false true = refl
    or_false false = refl
among_append (i ∷ is) k class = ap (λ b. (i == class) || b) (among_append is k class) ∙ or_assoc (i == class) (is_among is class) (k == class)
  where
    or_assoc : (a b c : Bool) → (a || (b || c)) ≡ ((a || b) || c)
    or_assoc true b c = refl
    or_assoc false b c = refl

pub among_step : (indexes : List ℕ) (i class : ℕ) → i < length indexes
    → is_among (take (i + 1) indexes) class ≡ (is_among (take i indexes) class || (get_or indexes i 0 == class))
among_step indexes i class below =
    let more : i + 1 ≡ suc i = omega arith in
    ap (λ (l : List ℕ). is_among l class) (ap (λ n. take n indexes) more ∙ take-suc indexes i 0 below)
    ∙ among_append (take i indexes) (get_or indexes i 0) class

-- one index after others
pub laid_step : {T : Type 0} (at : ℕ → ℕ) (test done next : ℕ → Bool) (value : ℕ → T) (k : ℕ) (before now later : ℕ → T) → k < 2048
    → ((class : ℕ) → next class ≡ (done class || (k == class)))
    → ((place : ℕ) → later place ≡ (if test k then (if place == at k then value k else now place) else now place))
    → Laid at (λ class. done class && test class) value 2048 before now → Laid at (λ class. next class && test class) value 2048 before later
laid_step at test done next value k before now later below more is laid place = by_cases (test k && (place == at k))
    (λ t. (let parts = and_parts (test k) (place == at k) t in
    inl (
      k,
      below,
      and_from (next k) (test k) (more k ∙ or_right (done k) (k == k) (eq-eqb k k refl)) parts.0,
      sym (eqb-true place (at k) parts.1),
      is place ∙ if_true (test k) (if place == at k then value k else now place) (now place) parts.0 ∙ if_true (place == at k) (value k) (now place) parts.1,
    )))
    (λ f. elim (laid place) [
      | inl m ↦ (let parts = and_parts (done m.0) (test m.0) m.2 in
          inl (m.0, m.1, and_from (next m.0) (test m.0) (more m.0 ∙ or_left (done m.0) (k == m.0) parts.0) parts.1, m.3, stays f ∙ m.4))
      | inr m ↦ inr (
        (λ class small p same. (let parts = and_parts (next class) (test class) p in
            elim (or_true (done class) (k == class) (sym (more class) ∙ parts.0)) [
              | inl d ↦ m.0 class small (and_from (done class) (test class) d parts.1) same
              | inr e ↦ (let one : k ≡ class = eqb-true k class e in
                  true≢false (sym (and_from (test k) (place == at k) (ap test one ∙ parts.1) (eq-eqb place (at k) (sym same ∙ ap at (sym one)))) ∙ f))
            ])),
        stays f ∙ m.1,
      )
    ])
  where
    stays : (test k && (place == at k)) ≡ false → later place ≡ now place
    stays f = is place ∙ kept (test k) (place == at k) f
      where
        kept : (a b : Bool) → (a && b) ≡ false → (if a then (if b then value k else now place) else now place) ≡ now place
        kept true b f = if_false b (value k) (now place) f
        kept false b f = refl

-- after all indexes
pub laid_all : {T : Type 0} (at : ℕ → ℕ) (test : ℕ → Bool) (indexes : List ℕ) (n : ℕ) (value before now : ℕ → T) → length indexes ≤ n
    → Laid at (λ class. is_among (take n indexes) class && test class) value 2048 before now → Laid at (λ class. is_among indexes class && test class) value 2048 before now
laid_all at test indexes n value before now e laid = subst (λ (l : List ℕ). Laid at (λ class. is_among l class && test class) value 2048 before now) (take_all n indexes (omega (arith, e))) laid

-- the indexes are classes, one by one
pub class_of_index : (indexes : List ℕ) (i : ℕ) → AreClasses indexes → i < length indexes → get_or indexes i 0 < 2048
class_of_index indexes i all below = All-get_or (λ class. class < 2048) indexes i 0 below all

-- one index more, for used cells
pub cells_step : (first now later : Cells) (at : ℕ → ℕ) (test done next : ℕ → Bool) (value : Bool) (k : ℕ) → k < 2048
    → ((class : ℕ) → next class ≡ (done class || (k == class)))
    → later.geometry ≡ Displacements → ((cell : ℕ) → is_kept later cell ≡ is_kept now cell)
    → ((cell : ℕ) → is_tried later cell ≡ (if test k then (if cell == at k then value else is_tried now cell) else is_tried now cell))
    → CellsSoFar first now at (λ class. done class && test class) value → CellsSoFar first later at (λ class. next class && test class) value
cells_step first now later at test done next value k below more geometry kept tried so_far = record {
  geometry_is = geometry;
  kept = λ cell. kept cell ∙ so_far.kept cell;
  tried = laid_step at test done next (λ class. value) k (is_tried first) (is_tried now) (is_tried later) below more tried so_far.tried;
}
