-- What the loops over the levels of a selector come to when they end.
use Rattle.std.proofs.Common.{◌≡◌, ◌≢◌, ℕ, zero, suc, ◌≤◌, List, [], ◌∷◌, length, drop, true, Some, is_some, cond, ◌⊎◌, inl, inr, refl, ap, ◌∙◌, arith}
use Rattle.std.specs.Ordering.{nat_cmp}
use Rattle.std.specs.BTreeMap as tree
use Rattle.std.specs.BTreeMap.{BTreeMap, is_at}
use Rattle.std.specs.Map.{lookup}
use Rattle.dt_mrd.specs.declared.kept_row.Next.{Next}
use Rattle.std.specs.Prelude.{nat_lt}
use Rattle.std.proofs.lemmas.Bool.Decides.{nat_tests}
use Rattle.dt_mrd.specs.Rows.{is_below}

-- where one list is at its end, the shorter one comes first
pub below_end : (a b : List ℕ) (at : ℕ) → at ≤ length a → at ≤ length b → (length a ≤ at) ⊎ (length b ≤ at)
    → nat_lt (length a) (length b) ≡ is_below (drop at a) (drop at b)
below_end [] [] zero within less ends = refl
below_end [] (y ∷ ys) zero within less ends = grind (arith, nat_tests)
below_end (x ∷ xs) [] zero within less ends = grind (arith, nat_tests)
below_end (x ∷ xs) (y ∷ ys) zero within less ends = absurd (elim ends [ inl e ↦ omega (arith, e) | inr e ↦ omega (arith, e) ])
below_end [] ys (suc at) within less ends = absurd (omega (arith, within))
below_end (x ∷ xs) [] (suc at) within less ends = absurd (omega (arith, less))
below_end (x ∷ xs) (y ∷ ys) (suc at) within less ends =
    let longer : nat_lt (suc (length xs)) (suc (length ys)) ≡ nat_lt (length xs) (length ys) = grind (arith, nat_tests) in
    longer ∙ below_end xs ys at (omega (arith, within)) (omega (arith, less)) (elim ends [ inl e ↦ inl (omega (arith, e)) | inr e ↦ inr (omega (arith, e)) ])

at_itself : (class : ℕ) → is_at (nat_cmp class) class ≡ true
at_itself class = grind (arith, nat_tests)

-- a map with entries has a cell
first_cell : (entries : List (ℕ × Next)) → length entries ≢ 0 → (class : ℕ) × (is_some (lookup (is_at (nat_cmp class)) entries) ≡ true)
first_cell [] some = absurd (some refl)
first_cell (e ∷ rest) some = (e.0, ap (λ b. is_some (cond b (Some e.1) (lookup (is_at (nat_cmp e.0)) rest))) (at_itself e.0))

pub some_cell : (m : BTreeMap ℕ Next) → length m.entries ≢ 0 → (class : ℕ) × (is_some (tree.get nat_cmp m class) ≡ true)
some_cell m some = first_cell m.entries some
