-- Where a short list names every old root, some root is free.
use Rattle.std.proofs.Common.{◌≡◌, ◌⊎◌, ℕ, suc, ◌+◌, ◌<◌, ◌≤◌, Bool, true, false, cond, List, [], ◌∷◌, length, get_or, count_by, refl, sym, subst, inl, inr, arith, true≢false}
use Rattle.std.proofs.lemmas.List.Sums.{sum_by-cons}
use Rattle.dt_pages.specs.Reading.{Reading}
use Rattle.dt_gate.specs.declared.gate.Gate.{Gate}
use Rattle.dt_gate.specs.declared.gate.Root.{Root}
use Rattle.dt_gate.specs.declared.gate.Standing.{Standing}
use Rattle.dt_gate.specs.declared.gate.Standing.TheVariants.{Free, Now, Old}
use Rattle.dt_gate.specs.Gate.{Bounds, blank_root, root_at, is_old, stands_in}
use Rattle.dt_gate.specs.Counts.{old_roots}
use Rattle.dt_gate.specs.Sweeps.{AllOldAreHeld, LeavesRoom}
use Rattle.dt_gate.proofs.Kept.{Kept}
use Rattle.dt_gate.proofs.Places.{in_head, count_places}

abbrev is_current : Standing → Bool
is_current Free = false
is_current Now = true
is_current (Old entries) = false

is_current_now : (standing : Standing) → is_current standing ≡ true → standing ≡ Now
is_current_now Free is = absurd (true≢false (sym is))
is_current_now Now is = refl
is_current_now (Old entries) is = absurd (true≢false (sym is))

-- some root is free, or all are current or old
free_or_none : (roots : List Root) → ((root : ℕ) × (root < length roots) × ((get_or roots root blank_root).standing ≡ Free))
    ⊎ (length roots ≤ count_by (λ r. is_old r.standing) roots + count_by (λ r. is_current r.standing) roots)
free_or_none [] = inr (omega arith)
free_or_none (r ∷ roots) = go r.standing refl (free_or_none roots)
  where
    Found : List Root → Type 0
    Found roots = (root : ℕ) × (root < length roots) × ((get_or roots root blank_root).standing ≡ Free)

    Counts : List Root → Type 0
    Counts roots = length roots ≤ count_by (λ r. is_old r.standing) roots + count_by (λ r. is_current r.standing) roots

    more : length roots ≤ count_by (λ r. is_old r.standing) roots + count_by (λ r. is_current r.standing) roots
        → 1 ≤ cond {A = ℕ} (is_old r.standing) 1 0 + cond {A = ℕ} (is_current r.standing) 1 0 → Counts (r ∷ roots)
    more counts one = omega (arith, counts, one, sum_by-cons (λ (x : Root). cond {A = ℕ} (is_old x.standing) 1 0) r roots, sum_by-cons (λ (x : Root). cond {A = ℕ} (is_current x.standing) 1 0) r roots)

    go : (standing : Standing) → r.standing ≡ standing → Found roots ⊎ Counts roots → Found (r ∷ roots) ⊎ Counts (r ∷ roots)
    go Free is rest = inl (0, omega arith, is)
    go Now is (inl found) = inl (suc found.0, omega (arith, found.1), found.2)
    go Now is (inr counts) = inr (more counts (subst (λ st. 1 ≤ cond {A = ℕ} (is_old st) 1 0 + cond {A = ℕ} (is_current st) 1 0) (sym is) (omega arith)))
    go (Old entries) is (inl found) = inl (suc found.0, omega (arith, found.1), found.2)
    go (Old entries) is (inr counts) = inr (more counts (subst (λ st. 1 ≤ cond {A = ℕ} (is_old st) 1 0 + cond {A = ℕ} (is_current st) 1 0) (sym is) (omega arith)))

module _ {M I : Type 0} (shows : Reading → List I → Type 0) (bounds : Bounds) where
  -- where every old root is found held, some root is free
  pub room : (gate : Gate M I) → Kept shows bounds gate → AllOldAreHeld gate.author → LeavesRoom bounds gate.author
  room gate kept named = record {
    still_old = old;
    held = omega (arith, kept.counted.sweep.held);
    count = kept.counted.sweep.count;
    some_free = found (free_or_none gate.author.roots);
  }
    where
      at_zero : (names : List ℕ) (root : ℕ) → stands_in root names ≡ true → stands_in (0 + root) names ≡ true
      at_zero names root is = let same : root ≡ 0 + root = omega arith in subst (λ k. stands_in k names ≡ true) same is

      old : old_roots gate.author ≤ length gate.author.held
      old = count_places (λ (r : Root). is_old r.standing) blank_root gate.author.roots 0 gate.author.held (λ root below is. at_zero gate.author.held root (named root is))

      current : count_by (λ (r : Root). is_current r.standing) gate.author.roots ≤ 1
      current = count_places (λ (r : Root). is_current r.standing) blank_root gate.author.roots 0 (gate.author.current ∷ [])
          (λ root below is. at_zero (gate.author.current ∷ []) root (in_head gate.author.current root []
          (sym (kept.counted.one.no_other root (is_current_now (root_at gate.author root).standing is)))))

      found : ((root : ℕ) × (root < length gate.author.roots) × ((root_at gate.author root).standing ≡ Free))
          ⊎ (length gate.author.roots ≤ count_by (λ (r : Root). is_old r.standing) gate.author.roots + count_by (λ (r : Root). is_current r.standing) gate.author.roots)
          → (root : ℕ) × (root < bounds.readers + 2) × ((root_at gate.author root).standing ≡ Free)
      found (inl free) = (free.0, subst (λ n. free.0 < n) kept.counted.roots free.1, free.2)
      found (inr full) = absurd (omega (arith, full, kept.counted.roots, old, current, kept.counted.sweep.held, kept.counted.sweep.count))
