-- The nodes that take a page are as many as the image of the draft needs.
use Rattle.std.proofs.Common.{◌≡◌, ◌≢◌, ℕ, suc, ◌+◌, ◌-◌, ◌%◌, ◌<◌, ◌≤◌, ◌==◌, nat_lt, Bool, true, false, not, cond, List, [], ◌∷◌, ◌++◌, map, filter, length, get_or, None, unwrap_or, refl, sym, ap, subst, ◌∙◌, arith, true≢false, ltb-true, ltb-false, add-one, eqb-true}
use Rattle.std.specs.List.Sorted.{IsStrictlyIncreasing}
use Rattle.std.specs.FinMap.{get, entries, get-entries}
use Rattle.std.proofs.lemmas.List.{length-map, get_or_default}
use Rattle.std.proofs.lemmas.List.Elements.{recursion_from_All}
use Rattle.std.proofs.lemmas.List.Folds.{Any-from_list_any}
use Rattle.std.proofs.lemmas.List.Kept.{IsStrictlyIncreasing-filter}
use Rattle.dt_pages.specs.Reading.{addresses}
use Rattle.dt_pages.specs.Image.{Image, IsImage, look_up, place, used_places, differs_below, need}
use Rattle.dt_pages.specs.Laws.{HasWordBelow, PlacesDiffer}
use Rattle.dt_pages.specs.Draft.{Drafted, laid_over}
use Rattle.dt_pages.specs.Numbering.{Numbering, IsNode, top_node, child, over, IsNumbering}
use Rattle.dt_pages.specs.Paged.{image_under}
use Rattle.dt_pages.specs.Drawing.{is_blank_below, changed_nodes}
use Rattle.dt_pages.proofs.Addresses.{IsSet, nothing_is_past}
use Rattle.dt_pages.proofs.Images.{look_up_of, look_up_past, image_of_is_image}
use Rattle.dt_pages.proofs.Needed.{found_word}
use Rattle.dt_pages.proofs.Nodes.{places_counted, differences_seen, in_entries}
use Rattle.dt_pages.proofs.Blank.{all_blank, some_below, not_blank}
use Rattle.dt_pages.proofs.Rising.{In, in_filter, in_map, to_contains, from_contains, Rising, rising_filter, rising_few, same_rising}
use Rattle.dt_pages.proofs.ChangedNodes.{AChange, change_low, in_first, in_second, in_third, leaves, middles, tops, leaf_range, middle_range, top_range, nodes_are, leaves_rising, middles_rising, tops_rising, nodes_rising, is_node}
use Rattle.dt_pages.proofs.Drawn.{takes_page}
use Rattle.dt_pages.proofs.Redrawn.{AreFresh, new, after, facts, new_word, blank_new, word_changes, changed_word, by_bool}

-- ---- lists

to_rising : (low : ℕ) (xs : List ℕ) → IsStrictlyIncreasing xs → (0 < length xs → low ≤ get_or xs 0 0) → Rising low xs
to_rising low [] rise first = tt
to_rising low (x ∷ []) rise first = (first (omega arith), tt)
to_rising low (x ∷ y ∷ xs) rise first =
    (first (omega arith), to_rising (suc x) (y ∷ xs) (λ k below. let next = rise (suc k) (omega (arith, below)) in rw add-one (rw add-one at next)) (λ some. rise 0 (omega arith)))

shifted : (base low : ℕ) (xs : List ℕ) → Rising low xs → Rising (base + low) (map (λ p. base + p) xs)
shifted base low [] rise = tt
shifted base low (x ∷ xs) rise = (omega (arith, rise.0), subst (λ n. Rising n (map (λ p. base + p) xs)) (omega arith) (shifted base (suc x) xs rise.1))

filter_append : (test : ℕ → Bool) (xs ys : List ℕ) → length (filter test (xs ++ ys)) ≡ length (filter test xs) + length (filter test ys)
filter_append test [] ys = omega arith
filter_append test (x ∷ xs) ys = go (test x) (filter_append test xs ys)
  where
    go : (b : Bool) → length (filter test (xs ++ ys)) ≡ length (filter test xs) + length (filter test ys)
        → length (cond b (x ∷ filter test (xs ++ ys)) (filter test (xs ++ ys)))
        ≡ length (cond b (x ∷ filter test xs) (filter test xs)) + length (filter test ys)
    go true rest = omega (arith, rest)
    go false rest = rest

-- where the nodes of a level that are listed are those that differ, and take a page where they are used, they are counted
level_counted : (old made : Image) (level base : ℕ) (xs : List ℕ) (takes : ℕ → Bool) → Rising base xs
    → ((p : ℕ) → In (base + p) xs → PlacesDiffer old made level p) → ((p : ℕ) → PlacesDiffer old made level p → In (base + p) xs)
    → ((p : ℕ) → In (base + p) xs → takes (base + p) ≡ true → HasWordBelow made level p)
    → ((p : ℕ) → In (base + p) xs → HasWordBelow made level p → takes (base + p) ≡ true)
    → ((n : ℕ) → In n xs → base ≤ n)
    → length (filter takes xs) ≡ length (filter (differs_below old made level) (used_places made level))
level_counted old made level base xs takes rise differ differ_in word word_in low =
    ap length (same_rising base (filter takes xs) (map (λ p. base + p) (filter (differs_below old made level) (used_places made level)))
    (rising_filter takes base xs rise)
    (subst (λ n. Rising n (map (λ p. base + p) (filter (differs_below old made level) (used_places made level)))) (omega arith)
    (shifted base 0 (filter (differs_below old made level) (used_places made level))
    (to_rising 0 (filter (differs_below old made level) (used_places made level))
    (IsStrictlyIncreasing-filter (differs_below old made level) (used_places made level) (places_counted made level).each_once) (λ some. omega arith))))
    (λ n. (forward n, backward n)))
    ∙ length-map (filter (differs_below old made level) (used_places made level)) (λ p. base + p)
  where
    forward : (n : ℕ) → In n (filter takes xs) → In n (map (λ p. base + p) (filter (differs_below old made level) (used_places made level)))
    forward n there =
        let f = (in_filter takes n xs).0 there in
        let high : base ≤ n = low n f.0 in
        let is : base + (n - base) ≡ n = omega (arith, high) in
        let listed : In (base + (n - base)) xs = subst (λ (k : ℕ). In k xs) (sym is) f.0 in
        let taken : takes (base + (n - base)) ≡ true = subst (λ (k : ℕ). takes k ≡ true) (sym is) f.1 in
        let used = ((places_counted made level).used (n - base)).1 (word (n - base) listed taken) in
        (in_map (λ p. base + p) n (filter (differs_below old made level) (used_places made level))).1 (
          n - base,
          (in_filter (differs_below old made level) (n - base) (used_places made level)).1 (
            from_contains (n - base) (used_places made level) used,
            (differences_seen old made level (n - base)).1 (differ (n - base) listed),
          ),
          is,
        )

    backward : (n : ℕ) → In n (map (λ p. base + p) (filter (differs_below old made level) (used_places made level))) → In n (filter takes xs)
    backward n there =
        let f = (in_map (λ p. base + p) n (filter (differs_below old made level) (used_places made level))).0 there in
        let g = (in_filter (differs_below old made level) f.0 (used_places made level)).0 f.1 in
        let listed = differ_in f.0 ((differences_seen old made level f.0).0 g.1) in
        let used = ((places_counted made level).used f.0).0 (to_contains f.0 (used_places made level) g.0) in
        subst (λ (k : ℕ). In k (filter takes xs)) f.2 ((in_filter takes (base + f.0) xs).1 (listed, word_in f.0 listed used))

-- ---- words of an image, and places below which one is set

pub word_below : (image : Image) (level q : ℕ) → look_up image q ≢ 0 → HasWordBelow image level (place level q)
word_below image level q some =
    let found = Any-from_list_any (λ set. set.0 == q) (entries image) (in_entries image q some) in
    (found.0, found.1, found.2, found.3, ap (place level) (eqb-true found.1.0 q found.4))

pub below_word : (image : Image) → IsImage image → (level at : ℕ) → HasWordBelow image level at → (q : ℕ) × (place level q ≡ at) × (look_up image q ≢ 0)
below_word image is_image level at word =
    let set : ℕ × ℕ = word.1 in
    let in_list : get_or (entries image) word.0 (0, 0) ≡ set = sym (get_or_default (entries image) word.0 set (0, 0) word.2) ∙ word.3 in
    let some = found_word set.0 (entries image) (recursion_from_All IsSet (entries image) is_image) word.0 word.2 (ap (λ s. s.0) in_list) in
    (set.0, word.4, λ none. some (sym (ap (λ found. unwrap_or found 0) (get-entries image set.0)) ∙ none))

-- ---- the three levels

module _ (numbers : Numbering) (drafted : Drafted) (within : (q : ℕ) → addresses ≤ q → get drafted q ≡ None) (numbered : IsNumbering numbers)
    (pages : List ℕ) (fresh : AreFresh numbers pages) (old : Image) (is_image : IsImage old) (words : (q : ℕ) → q < addresses → numbers q ≡ look_up old q) where
  abbrev made : Image
  made = image_under drafted old

  abbrev now : Numbering
  now = new numbers drafted within numbered pages fresh

  made_word : (q : ℕ) → q < addresses → look_up made q ≡ now q
  made_word q low =
      look_up_of (laid_over drafted (look_up old)) q low ∙ ap (unwrap_or (get drafted q)) (sym (words q low))
      ∙ sym (new_word numbers drafted within numbered pages fresh q low)

  made_past : (q : ℕ) → addresses ≤ q → look_up made q ≡ 0
  made_past q high = look_up_past (laid_over drafted (look_up old)) q high

  old_past : (q : ℕ) → addresses ≤ q → look_up old q ≡ 0
  old_past q high = (nothing_is_past q high).1 old is_image

  inside : (q : ℕ) → look_up made q ≢ 0 → q < addresses
  inside q some = by_bool (nat_lt q addresses) (λ low. ltb-true q addresses low) (λ high. absurd (some (made_past q (ltb-false q addresses high))))

  inside_other : (q : ℕ) → look_up old q ≢ look_up made q → q < addresses
  inside_other q other = by_bool (nat_lt q addresses) (λ low. ltb-true q addresses low)
      (λ high. let past = ltb-false q addresses high in absurd (other (old_past q past ∙ sym (made_past q past))))

  -- an address with another word is one that the draft changes
  change_of : (q : ℕ) → look_up old q ≢ look_up made q → AChange numbers drafted within q
  change_of q other =
      let low = inside_other q other in
      word_changes numbers drafted within numbered pages fresh q low (λ same. other (sym (words q low) ∙ sym same ∙ sym (made_word q low)))

  other_of : (q : ℕ) → AChange numbers drafted within q → look_up old q ≢ look_up made q
  other_of q change same =
      let low = change_low numbers drafted within q change in
      changed_word numbers drafted within numbered pages fresh q change (sym (made_word q low) ∙ sym same ∙ sym (words q low))

  abbrev takes : ℕ → Bool
  takes = takes_page numbers pages (after numbers drafted within numbered pages fresh)

  -- a node takes a page where something stands below it
  takes_some : (n : ℕ) → takes n ≡ true → (at : ℕ) × (at < 512) × (now (child n at) ≢ 0)
  takes_some n is = by_bool (is_blank_below now n) (λ blank. absurd (true≢false (sym is ∙ ap not blank))) (λ some. some_below now n some)

  some_takes : (n at : ℕ) → at < 512 → now (child n at) ≢ 0 → takes n ≡ true
  some_takes n at below some = ap not (not_blank now n at below some)

  down : (n : ℕ) → IsNode n → now n ≢ 0 → (at : ℕ) × (at < 512) × (now (child n at) ≢ 0)
  down n a_node some = by_bool (is_blank_below now n)
      (λ blank. absurd (some ((blank_new numbers drafted within numbered pages fresh n a_node).1 (all_blank now n blank))))
      (λ is. some_below now n is)

  up : (q : ℕ) → IsNode (over q) → now q ≢ 0 → now (over q) ≢ 0
  up q a_node some none = some (subst (λ (k : ℕ). now k ≡ 0) (omega arith) ((blank_new numbers drafted within numbered pages fresh (over q) a_node).0 none (q % 512) (omega arith)))

  made_is_image : IsImage made
  made_is_image = image_of_is_image (laid_over drafted (look_up old))

  -- a word of the new image stands below its place
  stands_below : (level q p : ℕ) → q < addresses → now q ≢ 0 → place level q ≡ p → HasWordBelow made level p
  stands_below level q p low some is = subst (λ (k : ℕ). HasWordBelow made level k) is (word_below made level q (λ none. some (sym (made_word q low) ∙ none)))

  stood_below : (level p : ℕ) → HasWordBelow made level p → (q : ℕ) × (place level q ≡ p) × (q < addresses) × (now q ≢ 0)
  stood_below level p word =
      let f = below_word made made_is_image level p word in
      let low = inside f.0 f.2 in
      (f.0, f.1, low, λ none. f.2 (made_word f.0 low ∙ none))

  first_level : length (filter takes (leaves numbers drafted within)) ≡ length (filter (differs_below old made 1) (used_places made 1))
  first_level = level_counted old made 1 addresses (leaves numbers drafted within) takes (leaves_rising numbers drafted within)
      (λ p there. let f = (in_first numbers drafted within (addresses + p)).0 there in
      let is : over f.0 ≡ addresses + p = f.2 in
      record { address = f.0; is_there = omega (arith, is); is_other = other_of f.0 f.1 })
      (λ p d. let q : ℕ = d.address in let is : place 1 q ≡ p = d.is_there in
      (in_first numbers drafted within (addresses + p)).1 (q, change_of q d.is_other, omega (arith, is)))
      (λ p there is. let f = takes_some (addresses + p) is in
      let range = leaf_range numbers drafted within (addresses + p) there in
      stands_below 1 (child (addresses + p) f.0) p (omega (arith, range.1, f.1)) f.2 (omega (arith, f.1)))
      (λ p there word. let f = stood_below 1 p word in
      let is : place 1 f.0 ≡ p = f.1 in
      some_takes (addresses + p) (f.0 % 512) (omega arith) (subst (λ (k : ℕ). now k ≢ 0) (omega (arith, is)) f.3))
      (λ n there. (leaf_range numbers drafted within n there).0)

  second_level : length (filter takes (middles numbers drafted within)) ≡ length (filter (differs_below old made 2) (used_places made 2))
  second_level = level_counted old made 2 (addresses + 262144) (middles numbers drafted within) takes (middles_rising numbers drafted within)
      (λ p there. let g = (in_second numbers drafted within (addresses + 262144 + p)).0 there in
      let f = (in_first numbers drafted within g.0).0 g.1 in
      let is : over f.0 ≡ g.0 = f.2 in
      let at : over g.0 ≡ addresses + 262144 + p = g.2 in
      record { address = f.0; is_there = omega (arith, is, at); is_other = other_of f.0 f.1 })
      (λ p d. let q : ℕ = d.address in let is : place 2 q ≡ p = d.is_there in
      (in_second numbers drafted within (addresses + 262144 + p)).1 (
        over q,
        (in_first numbers drafted within (over q)).1 (q, change_of q d.is_other, refl),
        omega (arith, is),
      ))
      (λ p there is. let f = takes_some (addresses + 262144 + p) is in
      let range = middle_range numbers drafted within (addresses + 262144 + p) there in
      let leaf : ℕ = child (addresses + 262144 + p) f.0 in
      let g = down leaf (omega (arith, range.1), omega (arith, range.1, f.1)) f.2 in
      stands_below 2 (child leaf g.0) p (omega (arith, range.1, f.1, g.1)) g.2 (omega (arith, f.1, g.1)))
      (λ p there word. let f = stood_below 2 p word in
      let is : place 2 f.0 ≡ p = f.1 in
      let leaf : ℕ = over f.0 in
      let some = up f.0 (omega arith, omega (arith, f.2)) f.3 in
      some_takes (addresses + 262144 + p) (leaf % 512) (omega arith) (subst (λ (k : ℕ). now k ≢ 0) (omega (arith, is)) some))
      (λ n there. (middle_range numbers drafted within n there).0)

  third_level : length (filter takes (tops numbers drafted within)) ≡ length (filter (differs_below old made 3) (used_places made 3))
  third_level = level_counted old made 3 top_node (tops numbers drafted within) takes (tops_rising numbers drafted within)
      (λ p there. let h = (in_third numbers drafted within (top_node + p)).0 there in
      let g = (in_second numbers drafted within h.0).0 h.1 in
      let f = (in_first numbers drafted within g.0).0 g.1 in
      let is : over f.0 ≡ g.0 = f.2 in
      let at : over g.0 ≡ h.0 = g.2 in
      let above : over h.0 ≡ top_node + p = h.2 in
      record { address = f.0; is_there = omega (arith, is, at, above); is_other = other_of f.0 f.1 })
      (λ p d. let q : ℕ = d.address in let is : place 3 q ≡ p = d.is_there in
      (in_third numbers drafted within (top_node + p)).1 (
        over (over q),
        (in_second numbers drafted within (over (over q))).1 (over q, (in_first numbers drafted within (over q)).1 (q, change_of q d.is_other, refl), refl),
        omega (arith, is),
      ))
      (λ p there is. let f = takes_some (top_node + p) is in
      let at = top_range numbers drafted within (top_node + p) there in
      let middle : ℕ = child (top_node + p) f.0 in
      let g = down middle (omega (arith, at), omega (arith, at, f.1)) f.2 in
      let leaf : ℕ = child middle g.0 in
      let h = down leaf (omega (arith, at), omega (arith, at, f.1, g.1)) g.2 in
      stands_below 3 (child leaf h.0) p (omega (arith, at, f.1, g.1, h.1)) h.2 (omega (arith, f.1, g.1, h.1)))
      (λ p there word. let f = stood_below 3 p word in
      let is : place 3 f.0 ≡ p = f.1 in
      let some = up f.0 (omega arith, omega (arith, f.2)) f.3 in
      let further = up (over f.0) (omega arith, omega (arith, f.2)) some in
      some_takes (top_node + p) (over (over f.0) % 512) (omega arith) (subst (λ (k : ℕ). now k ≢ 0) (omega (arith, is)) further))
      (λ n there. let is = top_range numbers drafted within n there in omega (arith, is))

  -- so many nodes take a page
  pub counted : length (after numbers drafted within numbered pages fresh).written ≡ need old made
  counted =
      let all = facts numbers drafted within numbered pages fresh in
      ap length all.written
      ∙ ap (λ xs. length (filter takes xs)) (nodes_are numbers drafted within)
      ∙ filter_append takes (leaves numbers drafted within ++ middles numbers drafted within) (tops numbers drafted within)
      ∙ ap (λ n. n + length (filter takes (tops numbers drafted within))) (filter_append takes (leaves numbers drafted within) (middles numbers drafted within))
      ∙ omega (arith, first_level, second_level, third_level)

  -- and they are no more than there are nodes
  pub few : length (after numbers drafted within numbered pages fresh).written ≤ 262657
  few =
      let all = facts numbers drafted within numbered pages fresh in
      let rise = rising_filter takes addresses (changed_nodes numbers drafted) (nodes_rising numbers drafted within) in
      let room = rising_few addresses (top_node + 1) (filter takes (changed_nodes numbers drafted)) (omega arith) rise
      (λ n there. let high = (is_node numbers drafted within n ((in_filter takes n (changed_nodes numbers drafted)).0 there).0).1 in omega (arith, high)) in
      let same = ap length all.written in
      omega (arith, room, same)
