-- The entries of a map that is kept in order.
use Rattle.std.proofs.Common.{◌≡◌, ℕ, ◌&&◌, Bool, true, false, T, is_lt, List, [], ◌∷◌, sym, ap, subst, ◌∙◌}
use Rattle.std.specs.List.{AllByRecursion}
use Rattle.std.specs.List.Sorted.{IsStrictlySortedBy}
use Rattle.std.proofs.lemmas.Map.Keys.{sorted_tail, sorted_head}
use Rattle.std.specs.Map.{keys_of}
use Rattle.std.specs.Ordering.{nat_cmp}
use Rattle.std.specs.declared.cmp.Ordering.TheVariants.{Less}
use Rattle.std.specs.BTreeMap.{BTreeMap}
use Rattle.std.specs.Cmp.{nat_cmp_total}
use Rattle.std.specs.FinMap.{entries, from_entries, from_sorted, get-from_entries, get-from_sorted, entries-from_sorted, same_map, nat_cmp-IsAntisymmetric}
use Rattle.std.specs.FinMap.Entries.{is_sorted, below_all}
use Rattle.dt_pages.specs.Draft.{Drafted}

both : (a b : Bool) → T a → T b → T (a && b)
both true b s t = t
both false b s t = s

low : (key : ℕ) (es : List (ℕ × ℕ)) → AllByRecursion (λ y. nat_cmp key y ≡ Less) (keys_of es) → T (below_all nat_cmp key es)
low key [] all = tt
low key (e ∷ es) all = both (is_lt (nat_cmp key e.0)) (below_all nat_cmp key es) (subst (λ o. T (is_lt o)) (sym all.0) tt) (low key es all.1)

sorted_test : (es : List (ℕ × ℕ)) → IsStrictlySortedBy nat_cmp (keys_of es) → T (is_sorted nat_cmp es)
sorted_test [] sorted = tt
sorted_test (e ∷ es) sorted = both (below_all nat_cmp e.0 es) (is_sorted nat_cmp es) (low e.0 es (sorted_head nat_cmp e.0 (keys_of es) sorted)) (sorted_test es (sorted_tail nat_cmp e.0 (keys_of es) sorted))

-- entries in order are those of the map that is made of them
pub all_entries : (m : BTreeMap ℕ ℕ) (drafted : Drafted) (es : List (ℕ × ℕ)) → from_entries m.entries ≡ drafted → es ≡ m.entries
    → IsStrictlySortedBy nat_cmp (keys_of es) → es ≡ entries drafted
all_entries m drafted es is same sorted =
    let test : T (is_sorted nat_cmp es) = sorted_test es sorted in
    sym (entries-from_sorted nat_cmp es test)
    ∙ ap entries (same_map nat_cmp_total nat_cmp-IsAntisymmetric (from_sorted es) (from_entries es)
    (λ q. get-from_sorted nat_cmp es q test ∙ sym (get-from_entries nat_cmp_total es q)))
    ∙ ap (λ all. entries (from_entries {R = nat_cmp} all)) same ∙ ap entries is
