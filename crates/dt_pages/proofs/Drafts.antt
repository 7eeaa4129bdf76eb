-- The words of a draft by its ordered map.
use Rattle.std.proofs.Common.{if◌then◌else◌, ◌==◌, ◌≡◌, ◌≢◌, ℕ, ◌≤◌, ◌<◌, false, cond, List, [], ◌∷◌, Some, None, unwrap_or, refl, sym, ap, ◌∙◌, arith, eqb-true}
use Rattle.std.specs.Ordering.{nat_cmp, is_eq, eq_by_cmp}
use Rattle.std.specs.Cmp.{nat_cmp_total}
use Rattle.std.specs.Map.{lookup}
use Rattle.std.specs.BTreeMap as tree
use Rattle.std.specs.BTreeMap.{BTreeMap, is_at}
use Rattle.std.specs.FinMap.{find, get, insert, from_entries, get-from_entries, get-insert, same_map, nat_cmp-IsAntisymmetric}
use Rattle.dt_pages.specs.Reading.{Reading, addresses}
use Rattle.dt_pages.specs.Draft.{Drafted, laid_over}
use Rattle.dt_pages.proofs.Numbers.{by_cases, is_number, is_number_too}

find_lookup : (q : ℕ) (es : List (ℕ × ℕ)) → find nat_cmp q es ≡ lookup (is_at (nat_cmp q)) es
find_lookup q [] = refl
find_lookup q (e ∷ es) = ap (cond (is_eq (nat_cmp q e.0)) (Some e.1)) (find_lookup q es)

-- the word set at an address
pub got : (m : BTreeMap ℕ ℕ) (q : ℕ) → get {R = nat_cmp} (from_entries m.entries) q ≡ tree.get nat_cmp m q
got m q = get-from_entries nat_cmp_total m.entries q ∙ find_lookup q m.entries

-- one word more
pub set_one : (m n : BTreeMap ℕ ℕ) (k v : ℕ) → ((q : ℕ) → tree.get nat_cmp n q ≡ cond (is_at (nat_cmp k) q) (Some v) (tree.get nat_cmp m q))
    → from_entries {R = nat_cmp} n.entries ≡ insert (from_entries m.entries) k v
set_one m n k v is = same_map nat_cmp_total nat_cmp-IsAntisymmetric _ _ (λ q.
    got n q ∙ is q ∙ ap (λ o. cond (is_at (nat_cmp k) q) (Some v) o) (sym (got m q))
    ∙ ap (λ b. cond b (Some v) (get {R = nat_cmp} (from_entries m.entries) q)) (turn k q)
    ∙ sym (get-insert nat_cmp_total (from_entries m.entries) k v q))
  where
    turn : (k q : ℕ) → is_at (nat_cmp k) q ≡ eq_by_cmp nat_cmp q k
    turn k q = is_number_too k q ∙ sym (is_number q k)

-- so nothing is set past the last address
pub set_within : (m n : BTreeMap ℕ ℕ) (k v : ℕ) → k < addresses → ((q : ℕ) → tree.get nat_cmp n q ≡ cond (is_at (nat_cmp k) q) (Some v) (tree.get nat_cmp m q))
    → ((at : ℕ) → addresses ≤ at → get {R = nat_cmp} (from_entries m.entries) at ≡ None)
    → (at : ℕ) → addresses ≤ at → get {R = nat_cmp} (from_entries n.entries) at ≡ None
set_within m n k v below is none at past =
    got n at ∙ is at ∙ ap (λ b. cond b (Some v) (tree.get nat_cmp m at)) (other k at (λ same. omega (arith, same)))
    ∙ sym (got m at) ∙ none at past
  where
    other : (k at : ℕ) → (k ≢ at) → is_at (nat_cmp k) at ≡ false
    other k at apart = by_cases (is_at (nat_cmp k) at)
        (λ yes. absurd (apart (eqb-true k at (sym (is_number k at) ∙ yes)))) (λ f. f)

-- what is read over a draft
pub read_some : (m : BTreeMap ℕ ℕ) (drafted : Drafted) (base : Reading) (q v : ℕ) → from_entries m.entries ≡ drafted → Some v ≡ tree.get nat_cmp m q
    → v ≡ laid_over drafted base q
read_some m drafted base q v is found = ap (λ o. unwrap_or o (base q)) (found ∙ sym (got m q) ∙ ap (λ d. get d q) is)

pub read_none : (m : BTreeMap ℕ ℕ) (drafted : Drafted) (base : Reading) (q : ℕ) → from_entries m.entries ≡ drafted → None ≡ tree.get nat_cmp m q
    → base q ≡ laid_over drafted base q
read_none m drafted base q is found = ap (λ o. unwrap_or o (base q)) (found ∙ sym (got m q) ∙ ap (λ d. get d q) is)

-- one word more is read at its address, and no other changes
pub set_reads : (drafted new : Drafted) (k v : ℕ) (base : Reading) (address : ℕ) → new ≡ insert drafted k v
    → laid_over new base address ≡ (if address == k then v else laid_over drafted base address)
set_reads drafted new k v base address is =
    ap (λ d. unwrap_or (get d address) (base address)) is
    ∙ ap (λ o. unwrap_or o (base address)) (get-insert nat_cmp_total drafted k v address)
    ∙ ap (λ b. unwrap_or (cond b (Some v) (get drafted address)) (base address)) (is_number address k)
    ∙ by_cases (address == k)
    (λ t. ap (λ b. unwrap_or (cond b (Some v) (get drafted address)) (base address)) t ∙ sym (ap (λ b. if b then v else laid_over drafted base address) t))
    (λ f. ap (λ b. unwrap_or (cond b (Some v) (get drafted address)) (base address)) f ∙ sym (ap (λ b. if b then v else laid_over drafted base address) f))
