-- The nodes above the words that change.
use Rattle.std.proofs.Common.{◌≡◌, ◌≢◌, ◌⊎◌, ◌↔◌, ℕ, suc, ◌+◌, ◌/◌, ◌<◌, ◌≤◌, ◌==◌, Bool, true, false, cond, T, List, [], ◌∷◌, ◌++◌, map, Option, Some, None, refl, sym, ap, subst, ◌∙◌, inl, inr, arith, eqb-true, eq-eqb, ne_eqb, true≢false, All, length, get_or}
use native.Mathlib.Decide.{ℕ_discrete}
use Rattle.std.specs.Ordering.{nat_cmp}
use Rattle.std.specs.FinMap.{entries, entries_sorted, find, get, get-entries}
use Rattle.std.specs.FinMap.Entries.{is_sorted, below_all}
use Rattle.dt_pages.specs.Reading.{addresses}
use Rattle.dt_pages.specs.Draft.{Drafted}
use Rattle.dt_pages.specs.Numbering.{Numbering, IsNode, top_node, over}
use Rattle.dt_pages.specs.Drawing.{leaves_of, changed_leaves, nodes_over, changed_nodes}
use Rattle.std.proofs.lemmas.List.{get_or_default}
use Rattle.dt_pages.proofs.Nodes.{first_below, both_true}
use Rattle.dt_pages.proofs.Laying.{find_here, find_other, some_none}
use Rattle.dt_pages.proofs.Rising.{In, in_dedup, in_append, in_map, Rising, NonFalling, falling_lower, rising_append, rising_dedup, from_contains}

-- entries whose keys rise from this one on
abbrev Keyed : ℕ → List (ℕ × ℕ) → Type 0
Keyed low [] = Unit {0}
Keyed low (e ∷ es) = (low ≤ e.0) × Keyed (suc e.0) es

keyed : (low : ℕ) (e : ℕ × ℕ) (es : List (ℕ × ℕ)) → low ≤ e.0 → T (is_sorted nat_cmp (e ∷ es)) → Keyed low (e ∷ es)
keyed low e [] less sorted = (less, tt)
keyed low e (f ∷ es) less sorted =
    (less, keyed (suc e.0) f es (first_below e f es sorted) (both_true (below_all nat_cmp e.0 (f ∷ es)) (is_sorted nat_cmp (f ∷ es)) sorted).1)

all_keyed : (es : List (ℕ × ℕ)) → T (is_sorted nat_cmp es) → Keyed 0 es
all_keyed [] sorted = tt
all_keyed (e ∷ es) sorted = keyed 0 e es (omega arith) sorted

some_same : (a b : ℕ) → Some a ≡ Some b → a ≡ b
some_same a b is = cc

found_high : (low q w : ℕ) (es : List (ℕ × ℕ)) → Keyed low es → find nat_cmp q es ≡ Some w → low ≤ q
found_high low q w [] rise is = absurd (some_none w None is refl)
found_high low q w (e ∷ es) rise is = go (q == e.0) refl (λ later. found_high (suc e.0) q w es rise.1 later)
  where
    go : (b : Bool) → (q == e.0) ≡ b → (find nat_cmp q es ≡ Some w → suc e.0 ≤ q) → low ≤ q
    go true same later = let at : q ≡ e.0 = eqb-true q e.0 same in omega (arith, at, rise.0)
    go false other later = let high = later (sym (find_other e.0 e.1 es q other) ∙ is) in omega (arith, high, rise.0)

leaves_rise : (numbers : Numbering) (low : ℕ) (es : List (ℕ × ℕ)) → Keyed low es → NonFalling (over low) (leaves_of numbers es)
leaves_rise numbers low [] rise = tt
leaves_rise numbers low (e ∷ es) rise = go (numbers e.0 == e.1) (leaves_rise numbers (suc e.0) es rise.1)
  where
    go : (b : Bool) → NonFalling (over (suc e.0)) (leaves_of numbers es) → NonFalling (over low) (cond b (leaves_of numbers es) (over e.0 ∷ leaves_of numbers es))
    go true rest = falling_lower (over (suc e.0)) (over low) (leaves_of numbers es) (omega (arith, rise.0)) rest
    go false rest = (omega (arith, rise.0), falling_lower (over (suc e.0)) (over e.0) (leaves_of numbers es) (omega arith) rest)

-- a word that is another in the draft
abbrev pub Changes : Numbering → (ℕ → Option ℕ) → ℕ → Type 0
Changes numbers found q = (w : ℕ) × (found q ≡ Some w) × (numbers q ≢ w)

abbrev Found : Numbering → List (ℕ × ℕ) → ℕ → Type 0
Found numbers es n = (q : ℕ) × Changes numbers (λ k. find nat_cmp k es) q × (over q ≡ n)

module _ (numbers : Numbering) (n : ℕ) (e : ℕ × ℕ) (es : List (ℕ × ℕ)) where
  further : Keyed (suc e.0) es → Found numbers es n → Found numbers (e ∷ es) n
  further rise (q, (w, is, other), there) =
      let high = found_high (suc e.0) q w es rise is in
      (q, (w, find_other e.0 e.1 es q (ne_eqb q e.0 (omega (arith, high))) ∙ is, other), there)

  here : numbers e.0 ≢ e.1 → over e.0 ≡ n → Found numbers (e ∷ es) n
  here other there = (e.0, (e.1, find_here e.0 e.1 es e.0 refl, other), there)

  parted : Found numbers (e ∷ es) n → ((numbers e.0 ≢ e.1) × (over e.0 ≡ n)) ⊎ Found numbers es n
  parted (q, (w, is, other), there) = elim (ℕ_discrete q e.0) [
    | yes same ↦ inl (
      (λ kept. other (ap numbers same ∙ kept ∙ some_same e.1 w (sym (find_here e.0 e.1 es q same) ∙ is))),
      ap over (sym same) ∙ there,
    )
    | no apart ↦ inr (q, (w, sym (find_other e.0 e.1 es q (ne_eqb q e.0 apart)) ∙ is, other), there)
  ]

in_leaves : (numbers : Numbering) (n low : ℕ) (es : List (ℕ × ℕ)) → Keyed low es → In n (leaves_of numbers es) ↔ Found numbers es n
in_leaves numbers n low [] rise = ((λ none. absurd none), (λ found. absurd (some_none found.1.0 None found.1.1 refl)))
in_leaves numbers n low (e ∷ es) rise = go (numbers e.0 == e.1) refl (in_leaves numbers n (suc e.0) es rise.1)
  where
    go : (b : Bool) → (numbers e.0 == e.1) ≡ b → In n (leaves_of numbers es) ↔ Found numbers es n
        → In n (cond b (leaves_of numbers es) (over e.0 ∷ leaves_of numbers es)) ↔ Found numbers (e ∷ es) n
    go true is rest = (
      (λ there. further numbers n e es rise.1 (rest.0 there)),
      (λ found. elim (parted numbers n e es found) [ inl first ↦ absurd (first.0 (eqb-true (numbers e.0) e.1 is)) | inr later ↦ rest.1 later ]),
    )
    go false is rest = (
      (λ there. elim there [
        | inl same ↦ here numbers n e es (λ kept. true≢false (sym (eq-eqb (numbers e.0) e.1 kept) ∙ is)) (sym same)
        | inr later ↦ further numbers n e es rise.1 (rest.0 later)
      ]),
      (λ found. elim (parted numbers n e es found) [ inl first ↦ inl (sym first.1) | inr later ↦ inr (rest.1 later) ]),
    )

-- ---- the nodes above others

pub in_over : (n : ℕ) (nodes : List ℕ) → In n (nodes_over nodes) ↔ ((q : ℕ) × In q nodes × (over q ≡ n))
unfolding nodes_over
in_over n nodes = (
  (λ there. (in_map over n nodes).0 ((in_dedup n (map over nodes)).0 there)),
  (λ found. (in_dedup n (map over nodes)).1 ((in_map over n nodes).1 found)),
)

map_rise : (low : ℕ) (nodes : List ℕ) → Rising low nodes → NonFalling (over low) (map over nodes)
map_rise low [] rise = tt
map_rise low (x ∷ nodes) rise = (omega (arith, rise.0), falling_lower (over (suc x)) (over x) (map over nodes) (omega arith) (map_rise (suc x) nodes rise.1))

rise_over : (low : ℕ) (nodes : List ℕ) → Rising low nodes → Rising (over low) (nodes_over nodes)
unfolding nodes_over
rise_over low nodes rise = rising_dedup (over low) (map over nodes) (map_rise low nodes rise)

module _ (numbers : Numbering) (drafted : Drafted) (within : (q : ℕ) → addresses ≤ q → get drafted q ≡ None) where
  pub leaves : List ℕ
  leaves = changed_leaves numbers drafted

  pub middles : List ℕ
  middles = nodes_over leaves

  pub tops : List ℕ
  tops = nodes_over middles

  abbrev pub AChange : ℕ → Type 0
  AChange q = Changes numbers (get drafted) q

  pub change_low : (q : ℕ) → AChange q → q < addresses
  change_low q (w, is, other) = elim (ℕ_discrete (q / 134217728) 0) [
    | yes low ↦ omega (arith, low)
    | no high ↦ absurd (some_none w (get drafted q) is (within q (omega (arith, high))))
  ]

  pub in_first : (n : ℕ) → In n leaves ↔ ((q : ℕ) × AChange q × (over q ≡ n))
  unfolding leaves changed_leaves
  in_first n =
      let listed = in_leaves numbers n 0 (entries drafted) (all_keyed (entries drafted) (entries_sorted drafted)) in (
        (λ there. let f = listed.0 ((in_dedup n (leaves_of numbers (entries drafted))).0 there) in
            (f.0, (f.1.0, get-entries drafted f.0 ∙ f.1.1, f.1.2), f.2)),
        (λ f. (in_dedup n (leaves_of numbers (entries drafted))).1
            (listed.1 (f.0, (f.1.0, sym (get-entries drafted f.0) ∙ f.1.1, f.1.2), f.2))),
      )

  pub leaves_rising : Rising addresses leaves
  unfolding leaves changed_leaves
  leaves_rising = rising_dedup addresses (leaves_of numbers (entries drafted))
      (leaves_rise numbers 0 (entries drafted) (all_keyed (entries drafted) (entries_sorted drafted)))

  pub leaf_range : (n : ℕ) → In n leaves → (addresses ≤ n) × (n < addresses + 262144)
  leaf_range n there =
      let f = (in_first n).0 there in
      let low = change_low f.0 f.1 in
      let is : over f.0 ≡ n = f.2 in
      (omega (arith, is), omega (arith, is, low))

  pub middles_rising : Rising (addresses + 262144) middles
  unfolding middles
  middles_rising = rise_over addresses leaves leaves_rising

  pub middle_range : (n : ℕ) → In n middles → (addresses + 262144 ≤ n) × (n < top_node)
  unfolding middles
  middle_range n there =
      let f = (in_over n leaves).0 there in
      let range = leaf_range f.0 f.1 in
      let is : over f.0 ≡ n = f.2 in
      (omega (arith, is, range.0), omega (arith, is, range.1))

  pub tops_rising : Rising top_node tops
  unfolding tops
  tops_rising = rise_over (addresses + 262144) middles middles_rising

  pub top_range : (n : ℕ) → In n tops → n ≡ top_node
  unfolding tops
  top_range n there =
      let f = (in_over n middles).0 there in
      let range = middle_range f.0 f.1 in
      let is : over f.0 ≡ n = f.2 in
      omega (arith, is, range.0, range.1)

  pub in_second : (n : ℕ) → In n middles ↔ ((q : ℕ) × In q leaves × (over q ≡ n))
  unfolding middles
  in_second n = in_over n leaves

  pub in_third : (n : ℕ) → In n tops ↔ ((q : ℕ) × In q middles × (over q ≡ n))
  unfolding tops
  in_third n = in_over n middles

  abbrev pub nodes : List ℕ
  nodes = changed_nodes numbers drafted

  pub nodes_are : nodes ≡ leaves ++ middles ++ tops
  unfolding leaves middles tops changed_nodes
  nodes_are = refl

  pub in_nodes : (n : ℕ) → In n nodes ↔ (In n leaves ⊎ In n middles ⊎ In n tops)
  in_nodes n = (
    (λ there. elim ((in_append n (leaves ++ middles) tops).0 (subst (In n) nodes_are there)) [
      | inl lower ↦ elim ((in_append n leaves middles).0 lower) [ inl leaf ↦ inl leaf | inr middle ↦ inr (inl middle) ]
      | inr top ↦ inr (inr top)
    ]),
    (λ there. subst (In n) (sym nodes_are) ((in_append n (leaves ++ middles) tops).1 (elim there [
      | inl leaf ↦ inl ((in_append n leaves middles).1 (inl leaf))
      | inr further ↦ elim further [ inl middle ↦ inl ((in_append n leaves middles).1 (inr middle)) | inr top ↦ inr top ]
    ]))),
  )

  pub nodes_rising : Rising addresses nodes
  nodes_rising = subst (Rising addresses) (sym nodes_are)
      (rising_append addresses top_node (leaves ++ middles) tops (omega arith)
      (rising_append addresses (addresses + 262144) leaves middles (omega arith) leaves_rising (λ n there. (leaf_range n there).1) middles_rising)
      (λ n there. elim ((in_append n leaves middles).0 there) [
        | inl leaf ↦ let high = (leaf_range n leaf).1 in omega (arith, high)
        | inr middle ↦ (middle_range n middle).1
      ])
      tops_rising)

  pub is_node : (n : ℕ) → In n nodes → IsNode n
  is_node n there = elim ((in_nodes n).0 there) [
    | inl leaf ↦ let range = leaf_range n leaf in (range.0, omega (arith, range.1))
    | inr further ↦ elim further [
      | inl middle ↦ let range = middle_range n middle in (omega (arith, range.0), omega (arith, range.1))
      | inr top ↦ let is = top_range n top in (omega (arith, is), omega (arith, is))
    ]
  ]

  -- each of them stands over a word that changes, or over another of them
  pub source : (n : ℕ) → In n nodes → (q : ℕ) × (over q ≡ n) × (AChange q ⊎ In q nodes)
  unfolding middles tops
  source n there = elim ((in_nodes n).0 there) [
    | inl leaf ↦ let f = (in_first n).0 leaf in (f.0, f.2, inl f.1)
    | inr further ↦ elim further [
      | inl middle ↦ let f = (in_over n leaves).0 middle in (f.0, f.2, inr ((in_nodes f.0).1 (inl f.1)))
      | inr top ↦ let f = (in_over n middles).0 top in (f.0, f.2, inr ((in_nodes f.0).1 (inr (inl f.1))))
    ]
  ]

  -- and the node over one of them is one too
  pub target : (q n : ℕ) → IsNode n → over q ≡ n → AChange q ⊎ In q nodes → In n nodes
  unfolding middles tops
  target q n a_node is (inl change) = (in_nodes n).1 (inl ((in_first n).1 (q, change, is)))
  target q n a_node is (inr there) = elim ((in_nodes q).0 there) [
    | inl leaf ↦ (in_nodes n).1 (inr (inl ((in_over n leaves).1 (q, leaf, is))))
    | inr further ↦ elim further [
      | inl middle ↦ (in_nodes n).1 (inr (inr ((in_over n middles).1 (q, middle, is))))
      | inr top ↦ absurd (let at = top_range q top in let last = a_node.1 in omega (arith, at, last, is))
    ]
  ]

  pub all_nodes : All IsNode nodes
  all_nodes k d below = is_node (get_or nodes k d) (from_contains (get_or nodes k d) nodes (k, below, get_or_default_same nodes k d below))
    where
      get_or_default_same : (xs : List ℕ) (k d : ℕ) → k < length xs → get_or xs k (get_or xs k d) ≡ get_or xs k d
      get_or_default_same xs k d below = get_or_default xs k (get_or xs k d) d below
