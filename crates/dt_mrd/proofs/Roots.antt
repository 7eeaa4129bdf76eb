-- Root keys that are put in place of others.
use Rattle.std.proofs.Common.{◌≡◌, ℕ, suc, zero, ◌+◌, ◌<◌, ◌≤◌, List, [], ◌∷◌, Option, length, drop, get_or, set, refl, sym, ap, ◌∙◌, arith}
use Rattle.std.proofs.lemmas.List.{drop_more}
use Rattle.dt_mrd.specs.declared.staged.StagedRoot.{StagedRoot}
use Rattle.dt_mrd.specs.Kept.{with_roots}

-- past the last nothing is put
pub set_past : (roots : List (Option ℕ)) (at : ℕ) (key : Option ℕ) → length roots ≤ at → set roots at key ≡ roots
set_past [] at key past = refl
set_past (r ∷ rs) zero key past = absurd (omega (arith, past))
set_past (r ∷ rs) (suc at) key past = ap (λ (l : List (Option ℕ)). r ∷ l) (set_past rs at key (omega (arith, past)))

-- one key after others
pub put_step : (staged : List StagedRoot) (i : ℕ) (d p : StagedRoot) (roots : List (Option ℕ)) → i < length staged → p ≡ get_or staged i d
    → with_roots (drop (i + 1) staged) (set roots p.selector p.key) ≡ with_roots (drop i staged) roots
put_step staged i d p roots within is =
    ap (λ (k : StagedRoot). with_roots (k ∷ drop (i + 1) staged) roots) is
    ∙ ap (λ (l : List StagedRoot). with_roots l roots) (sym (drop_more staged i d within))
