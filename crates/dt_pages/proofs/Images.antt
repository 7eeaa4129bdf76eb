-- The image of a reading has its words.
use Rattle.std.proofs.Common.{◌≡◌, ◌≢◌, ℕ, zero, suc, ◌≤◌, ◌<◌, ◌==◌, Bool, true, false, cond, nat_lt, if◌then◌else◌, List, [], ◌∷◌, Some, None, unwrap_or, refl, sym, ap, subst, length, ◌∙◌, arith, eqb-true, eq-eqb, true≢false}
use Rattle.std.specs.Ordering.{nat_cmp, eq_by_cmp}
use Rattle.std.specs.declared.cmp.Ordering.{Ordering}
use Rattle.std.specs.declared.cmp.Ordering.TheVariants.{Less, Equal, Greater}
use Rattle.std.specs.Cmp.{nat_cmp_total}
use Rattle.std.specs.List.{AllByRecursion}
use Rattle.std.proofs.lemmas.List.Elements.{All-from_recursion}
use Rattle.std.specs.FinMap.Entries.{by_order}
use Rattle.std.specs.FinMap.{put, get, insert, empty, entries, get-empty, get-insert, entries-insert, len-entries, len-empty}
use Rattle.dt_pages.specs.Reading.{Reading, addresses, blank}
use Rattle.dt_pages.specs.Image.{Image, IsImage, look_up}
use Rattle.dt_pages.specs.Draft.{Drafted, laid_over}
use Rattle.dt_pages.specs.TreeForm.{image_below, image_of}
use Rattle.std.proofs.lemmas.Bool.Decides.{nat_tests}
use mathlib.Core.Path.{fun_ext}
use Rattle.dt_pages.proofs.Numbers.{by_cases, is_number}

-- a word that is inserted
inserted : (image : Image) (k v address : ℕ) → look_up (insert image k v) address ≡ (if address == k then v else look_up image address)
inserted image k v address = ap (λ o. unwrap_or o 0) (get-insert nat_cmp_total image k v address)
    ∙ by_test (eq_by_cmp nat_cmp address k) (address == k) (is_number address k)
  where
    by_test : (a b : Bool) → a ≡ b → unwrap_or (cond a (Some v) (get image address)) 0 ≡ (if b then v else look_up image address)
    by_test true true e = refl
    by_test false false e = refl
    by_test true false e = absurd (true≢false e)
    by_test false true e = absurd (true≢false (sym e))

lt_self : (a b : ℕ) → a ≡ b → nat_lt a b ≡ false
lt_self a b e = grind (arith, nat_tests)

lt_next : (a b : ℕ) → a ≡ b → nat_lt a (suc b) ≡ true
lt_next a b e = grind (arith, nat_tests)

lt_other : (a b : ℕ) → (a == b) ≡ false → nat_lt a b ≡ nat_lt a (suc b)
lt_other a b e = grind (arith, nat_tests)

lt_zero : (a : ℕ) → nat_lt a 0 ≡ false
lt_zero a = grind (arith, nat_tests)

lt_yes : (a b : ℕ) → a < b → nat_lt a b ≡ true
lt_yes a b h = grind (arith, nat_tests)

lt_no : (a b : ℕ) → b ≤ a → nat_lt a b ≡ false
lt_no a b h = grind (arith, nat_tests)

-- one word of the image of the addresses below one more
step : (words : Reading) (bound address : ℕ) (none : Bool) → (words bound == 0) ≡ none
    → look_up (image_below words bound) address ≡ (if nat_lt address bound then words address else 0)
    → look_up (if none then image_below words bound else insert (image_below words bound) bound (words bound)) address
    ≡ (if nat_lt address (suc bound) then words address else 0)
step words bound address true zeroed before =
    let no : words bound ≡ 0 = eqb-true (words bound) 0 zeroed in before ∙ by_cases (address == bound)
    (λ t. let at : address ≡ bound = eqb-true address bound t in
    ap (λ b. if b then words address else 0) (lt_self address bound at)
    ∙ sym (ap (λ b. if b then words address else 0) (lt_next address bound at) ∙ ap words at ∙ no))
    (λ f. ap (λ b. if b then words address else 0) (lt_other address bound f))
step words bound address false zeroed before = inserted (image_below words bound) bound (words bound) address ∙ by_cases (address == bound)
    (λ t. let at : address ≡ bound = eqb-true address bound t in
    ap (λ b. if b then words bound else look_up (image_below words bound) address) t
    ∙ sym (ap (λ b. if b then words address else 0) (lt_next address bound at) ∙ ap words at))
    (λ f. ap (λ b. if b then words bound else look_up (image_below words bound) address) f
    ∙ before ∙ ap (λ b. if b then words address else 0) (lt_other address bound f))

pub look_up_below : (words : Reading) (bound address : ℕ) → look_up (image_below words bound) address ≡ (if nat_lt address bound then words address else 0)
unfolding image_below
look_up_below words zero address = ap (λ o. unwrap_or o 0) (get-empty nat_cmp address) ∙ sym (ap (λ b. if b then words address else 0) (lt_zero address))
look_up_below words (suc bound) address = step words bound address (words bound == 0) refl (look_up_below words bound address)

-- the image of a reading reads as it does below the last address
pub look_up_of : (words : Reading) (address : ℕ) → address < addresses → look_up (image_of words) address ≡ words address
unfolding image_of
look_up_of words address below = look_up_below words addresses address ∙ ap (λ b. if b then words address else 0) (lt_yes address addresses below)

-- and as 0 past it
pub look_up_past : (words : Reading) (address : ℕ) → addresses ≤ address → look_up (image_of words) address ≡ 0
unfolding image_of
look_up_past words address past = look_up_below words addresses address ∙ ap (λ b. if b then words address else 0) (lt_no address addresses past)

-- where two readings are the same, so are their images
pub image_same : (words others : Reading) → ((address : ℕ) → words address ≡ others address) → image_of words ≡ image_of others
image_same words others same = ap image_of (fun_ext same)

below_blank : (bound : ℕ) → image_below blank bound ≡ empty
unfolding image_below
below_blank zero = refl
below_blank (suc bound) = below_blank bound

pub image_blank : (words : Reading) → ((address : ℕ) → words address ≡ 0) → image_of words ≡ empty
unfolding image_of
image_blank words zeros = image_same words blank zeros ∙ below_blank addresses

-- ---- what is set in the image of a reading is set at an address, and isn't 0

IsSetBelow : ℕ → ℕ × ℕ → Type 0
IsSetBelow bound set = (set.0 < bound) × (set.1 ≢ 0)

-- an entry in its place among others: the keys that tie with it are it
put_keeps : (bound k v : ℕ) (es : List (ℕ × ℕ)) → k < bound → v ≢ 0 → AllByRecursion (IsSetBelow bound) es → AllByRecursion (IsSetBelow bound) (put nat_cmp k v es)
unfolding IsSetBelow
put_keeps bound k v [] below some all = ((below, some), tt)
put_keeps bound k v (e ∷ es) below some all = go (nat_cmp k e.0) (put_keeps bound k v es below some all.1)
  where
    go : (o : Ordering) → AllByRecursion (IsSetBelow bound) (put nat_cmp k v es)
        → AllByRecursion (IsSetBelow bound) (by_order o ((k, v) ∷ e ∷ es) ((e.0, v) ∷ es) (e ∷ put nat_cmp k v es))
    go Less rest = ((below, some), all)
    go Equal rest = ((all.0.0, some), all.1)
    go Greater rest = (all.0, rest)

wider : (bound : ℕ) (es : List (ℕ × ℕ)) → AllByRecursion (IsSetBelow bound) es → AllByRecursion (IsSetBelow (suc bound)) es
unfolding IsSetBelow
wider bound [] all = tt
wider bound (e ∷ es) all = ((omega (arith, all.0.0), all.0.1), wider bound es all.1)

nothing : (es : List (ℕ × ℕ)) → length es ≡ 0 → es ≡ []
nothing [] e = refl
nothing (x ∷ es) e = absurd (omega arith)

no_entries : entries (empty {X = ℕ} {R = nat_cmp}) ≡ []
no_entries = nothing _ (sym (len-entries (empty {X = ℕ} {R = nat_cmp})) ∙ len-empty nat_cmp ℕ)

set_below : (words : Reading) (bound : ℕ) → AllByRecursion (IsSetBelow bound) (entries (image_below words bound))
unfolding image_below
set_below words zero = subst (AllByRecursion (IsSetBelow 0)) (sym no_entries) tt
set_below words (suc bound) = go (words bound == 0) refl (wider bound _ (set_below words bound))
  where
    go : (none : Bool) → (words bound == 0) ≡ none → AllByRecursion (IsSetBelow (suc bound)) (entries (image_below words bound))
        → AllByRecursion (IsSetBelow (suc bound)) (entries (if none then image_below words bound else insert (image_below words bound) bound (words bound)))
    go true zeroed all = all
    go false zeroed all = subst (AllByRecursion (IsSetBelow (suc bound))) (sym (entries-insert nat_cmp_total (image_below words bound) bound (words bound)))
        (put_keeps (suc bound) bound (words bound) _ (omega arith) (λ e. true≢false (sym (eq-eqb (words bound) 0 e) ∙ zeroed)) all)

pub image_of_is_image : (words : Reading) → IsImage (image_of words)
unfolding image_of IsSetBelow
image_of_is_image words = All-from_recursion _ _ (set_below words addresses)

-- ---- a draft laid over the words of an image

pub overlaid : (drafted : Drafted) (words made laid : Reading) (image : Image) → image_of words ≡ image → ((q : ℕ) → made q ≡ words q)
    → ((q : ℕ) → laid q ≡ laid_over drafted made q) → ((q : ℕ) → addresses ≤ q → get drafted q ≡ None)
    → look_up (image_of laid) ≡ laid_over drafted (look_up image)
overlaid drafted words made laid image is same set within = fun_ext (λ q. by_cases (nat_lt q addresses)
    (λ t. look_up_of laid q (grind arith) ∙ set q
    ∙ ap (unwrap_or (get drafted q)) (same q ∙ sym (look_up_of words q (grind arith)) ∙ ap (λ i. look_up i q) is))
    (λ f. look_up_past laid q (grind arith)
    ∙ sym (ap (λ o. unwrap_or o (look_up image q)) (within q (grind arith)) ∙ ap (λ i. look_up i q) (sym is) ∙ look_up_past words q (grind arith))))
