-- Words are set at addresses, and past the last of these nothing is read.
use Rattle.std.proofs.Common.{◌≡◌, ◌≢◌, ◌==◌, ℕ, ◌<◌, ◌≤◌, Bool, true, false, cond, nat_lt, List, [], ◌∷◌, Option, None, Some, unwrap_or, refl, sym, ap, subst, ◌∙◌, arith, eqb-true}
use Rattle.std.specs.List.{AllByRecursion}
use Rattle.std.specs.FinMap.{entries, find, get, get-entries}
use Rattle.std.specs.Ordering.{nat_cmp}
use Rattle.std.proofs.lemmas.Bool.Decides.{nat_tests}
use Rattle.std.proofs.lemmas.List.Elements.{recursion_from_All}
use Rattle.dt_pages.specs.Reading.{addresses, levels, follow}
use Rattle.dt_pages.specs.Laws.{ImagesSetWords, LevelsHoldAddresses, NothingIsPastTheLast}
use Rattle.dt_pages.proofs.Nodes.{same_test}

pub levels_hold : LevelsHoldAddresses
levels_hold = omega arith

-- an address with a word
abbrev pub IsSet : ℕ × ℕ → Type 0
IsSet set = (set.0 < addresses) × (set.1 ≢ 0)

found_set : (es : List (ℕ × ℕ)) → AllByRecursion IsSet es → (address word : ℕ) → find nat_cmp address es ≡ Some word
    → IsSet (address, word)
found_set [] all address word is = absurd (cc)
found_set (e ∷ es) all address word is =
    go (address == e.0) refl (found_set es all.1 address word)
    (ap (λ b. cond b (Some e.1) (find nat_cmp address es)) (sym (same_test address e.0)) ∙ is)
  where
    go : (same : Bool) → (address == e.0) ≡ same → (find nat_cmp address es ≡ Some word → IsSet (address, word))
        → cond same (Some e.1) (find nat_cmp address es) ≡ Some word → IsSet (address, word)
    go true first later is =
        let its : e.1 ≡ word = cc in
        (subst (λ n. n < addresses) (sym (eqb-true address e.0 first)) all.0.0, subst (λ w. w ≢ 0) its all.0.1)
    go false first later is = later is

pub images_set_words : ImagesSetWords
images_set_words image is_image address word is =
    found_set (entries image) (recursion_from_All IsSet (entries image) is_image) address word (sym (get-entries image address) ∙ is)

unread : (address : ℕ) (word : Option ℕ) → ((w : ℕ) → word ≡ Some w → address < addresses) → addresses ≤ address → unwrap_or word 0 ≡ 0
unread address None within past = refl
unread address (Some w) within past = absurd (omega (arith, within w refl, past))

pub nothing_is_past : NothingIsPastTheLast
nothing_is_past address past = (
  (λ pages top. let far : nat_lt address addresses ≡ false = grind (arith, nat_tests) in
      ap (λ b. cond b (follow pages levels top address) 0) far),
  (λ image is_image. unread address (get image address) (λ w is. (images_set_words image is_image address w is).0) past),
)
