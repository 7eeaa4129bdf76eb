-- How many pages an image needs: all its nodes beside the empty image, none beside itself, and never more.
use Rattle.std.proofs.Common.{◌≡◌, ◌≢◌, ℕ, zero, suc, ◌<◌, ◌≤◌, ◌==◌, Bool, true, false, cond, List, [], ◌∷◌, length, filter, get_or, unwrap_or, Some, refl, sym, ap, ◌∙◌, arith, eq-eqb}
use Rattle.std.proofs.lemmas.List.{get_or_default}
use Rattle.std.proofs.lemmas.List.Elements.{recursion_from_All}
use Rattle.std.specs.List.{AllByRecursion}
use Rattle.std.specs.FinMap.{empty, entries, find, get-empty, get-entries}
use Rattle.std.specs.Ordering.{nat_cmp}
use Rattle.dt_pages.specs.Reading.{levels}
use Rattle.dt_pages.specs.Image.{Image, IsImage, used_places, differs_below, nodes_up_to, need_up_to}
use Rattle.dt_pages.specs.Laws.{HasWordBelow, FirstNeedsAll, SameNeedsNone, NeedIsAtMostNodes}
use Rattle.dt_pages.proofs.Addresses.{IsSet}
use Rattle.dt_pages.proofs.Nodes.{same_test, places_counted, differences_seen}

-- what a test leaves of a list
all_pass : (test : ℕ → Bool) (xs : List ℕ) → ((k : ℕ) → k < length xs → test (get_or xs k 0) ≡ true) → length (filter test xs) ≡ length xs
all_pass test [] each = refl
all_pass test (x ∷ xs) each =
    let rest = all_pass test xs (λ k below. each (suc k) (omega (arith, below))) in
    ap (λ b. length (cond b (x ∷ filter test xs) (filter test xs))) (each 0 (omega arith)) ∙ omega (arith, rest)

none_passes : (test : ℕ → Bool) → ((x : ℕ) → test x ≡ false) → (xs : List ℕ) → length (filter test xs) ≡ 0
none_passes test none [] = refl
none_passes test none (x ∷ xs) = ap (λ b. length (cond b (x ∷ filter test xs) (filter test xs))) (none x) ∙ none_passes test none xs

no_more_pass : (test : ℕ → Bool) (xs : List ℕ) → length (filter test xs) ≤ length xs
no_more_pass test [] = omega arith
no_more_pass test (x ∷ xs) = go (test x) (no_more_pass test xs)
  where
    go : (b : Bool) → length (filter test xs) ≤ length xs → length (cond b (x ∷ filter test xs) (filter test xs)) ≤ length (x ∷ xs)
    go true rest = omega (arith, rest)
    go false rest = omega (arith, rest)

-- an address of a list of words other than 0 has such a word
pub found_word : (address : ℕ) (es : List (ℕ × ℕ)) → AllByRecursion IsSet es → (k : ℕ) → k < length es → (get_or es k (0, 0)).0 ≡ address
    → unwrap_or (find nat_cmp address es) 0 ≢ 0
found_word address [] all k below is none = absurd (omega arith)
found_word address (e ∷ es) all zero below is none =
    all.0.1 (sym (ap (λ b. unwrap_or (cond b (Some e.1) (find nat_cmp address es)) 0) (same_test address e.0 ∙ eq-eqb address e.0 (sym is))) ∙ none)
found_word address (e ∷ es) all (suc k) below is none = go (address == e.0) refl (found_word address es all.1 k (omega arith) is)
  where
    go : (same : Bool) → (address == e.0) ≡ same → unwrap_or (find nat_cmp address es) 0 ≢ 0 → ⊥
    go true same later = all.0.1 (sym (ap (λ b. unwrap_or (cond b (Some e.1) (find nat_cmp address es)) 0) (same_test address e.0 ∙ same)) ∙ none)
    go false same later = later (sym (ap (λ b. unwrap_or (cond b (Some e.1) (find nat_cmp address es)) 0) (same_test address e.0 ∙ same)) ∙ none)

module _ (image : Image) where
  -- a node below which a word is set differs from the empty image
  new_beside_empty : IsImage image → (level at : ℕ) → HasWordBelow image level at → differs_below empty image level at ≡ true
  new_beside_empty is_image level at word =
      let set : ℕ × ℕ = word.1 in
      let in_entries : get_or (entries image) word.0 (0, 0) ≡ set = sym (get_or_default (entries image) word.0 set (0, 0) word.2) ∙ word.3 in
      let some = found_word set.0 (entries image) (recursion_from_All IsSet (entries image) is_image) word.0 word.2 (ap (λ s. s.0) in_entries) in
      (differences_seen empty image level at).1 record {
        address = set.0;
        is_there = word.4;
        is_other = λ same. some (sym (ap (λ found. unwrap_or found 0) (get-entries image set.0)) ∙ sym same
            ∙ ap (λ found. unwrap_or found 0) (get-empty nat_cmp set.0));
      }

  each_is_new : IsImage image → (level k : ℕ) → k < length (used_places image level) → differs_below empty image level (get_or (used_places image level) k 0) ≡ true
  each_is_new is_image level k below =
      let at : ℕ = get_or (used_places image level) k 0 in
      new_beside_empty is_image level at
      (((places_counted image level).used at).0 (k, below, get_or_default (used_places image level) k at 0 below))

  none_is_new : (level at : ℕ) → differs_below image image level at ≡ false
  none_is_new level at = go (differs_below image image level at) refl
    where
      go : (b : Bool) → differs_below image image level at ≡ b → b ≡ false
      go true is = absurd (((differences_seen image image level at).0 is).is_other refl)
      go false is = refl

  all_up_to : IsImage image → (level : ℕ) → need_up_to level empty image ≡ nodes_up_to level image
  all_up_to is_image zero = refl
  all_up_to is_image (suc level) =
      omega (
        arith,
        all_up_to is_image level,
        all_pass (differs_below empty image (suc level)) (used_places image (suc level)) (each_is_new is_image (suc level)),
      )

  none_up_to : (level : ℕ) → need_up_to level image image ≡ 0
  none_up_to zero = refl
  none_up_to (suc level) =
      omega (
        arith,
        none_up_to level,
        none_passes (differs_below image image (suc level)) (none_is_new (suc level)) (used_places image (suc level)),
      )

at_most_up_to : (old new : Image) (level : ℕ) → need_up_to level old new ≤ nodes_up_to level new
at_most_up_to old new zero = omega arith
at_most_up_to old new (suc level) =
    omega (arith, at_most_up_to old new level, no_more_pass (differs_below old new (suc level)) (used_places new (suc level)))

pub first_needs_all : FirstNeedsAll
first_needs_all image is_image = all_up_to image is_image levels

pub same_needs_none : SameNeedsNone
same_needs_none image = none_up_to image levels

pub need_is_at_most_nodes : NeedIsAtMostNodes
need_is_at_most_nodes old new = at_most_up_to old new levels
