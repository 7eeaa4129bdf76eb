-- A pair of lawful kinds is lawful, where the first is for queries of one class.
use Rattle.std.proofs.Common.{◌≡◌, ◌≢◌, ◌==◌, ℕ, ◌<◌, ◌≤◌, Bool, true, false, ◌||◌, if◌then◌else◌, not, List, ◌⊎◌, inl, inr, sym, ap, subst, ◌∙◌, arith, take}
use Rattle.std.proofs.lemmas.Bool.{or_left, or_right, eqb-true, true≢false}
use Rattle.dt_pages.specs.Reading.{Reading, blank}
use Rattle.dt_scratch.specs.Query.{Query, arity_of_query}
use Rattle.dt_scratch.specs.declared.reply.Answer.{Answer}
use Rattle.dt_scratch.specs.declared.reply.Answer.TheVariants.{NotUnderstood}
use Rattle.dt_scratch.specs.declared.reply.Change.{Change}
use Rattle.dt_cells.specs.Regions.{place_of}
use Rattle.dt_cells.specs.Held.{Held, IsHeld, IsInRange, held_after, HasOneArity, HasArityOf, IsStageable, is_changed}
use Rattle.dt_cells.specs.HeldLaws.{by_cases, or_true, if_true, if_false, changed_place}
use Rattle.dt_cells.specs.Kind.{Kind, sets, SameFor, Stay, IsMarked, IsLawful}
use Rattle.dt_cells.specs.Pair.{is_single, single_held, multi_held, single_changes, multi_changes, IsWordOfPair, PairPlaces, pair_kind}
use Rattle.dt_cells.specs.PairHeldLaws.{single_at, multi_at, held_of_single, held_of_multi, single_none, multi_none, single_after, multi_after, unchanged_filter, changed_at, single_stageable, multi_stageable}
use Rattle.dt_cells.specs.PartLaws.{placed_before, word_is_some, word_from, word_determined, Keeps, part_shown}

module _ (a b : Kind) (la : IsLawful a) (lb : IsLawful b) where
  -- ---- places

  -- a selector has a place in one part at most, since what is held has one arity
  one_part : (held : Held) (s : ℕ) → HasOneArity held → a.placed (single_held held) s → b.placed (multi_held held) s → ⊥
  one_part held s one pa pb =
      let qa = la.placed_is_held (single_held held) s pa in
      let qb = lb.placed_is_held (multi_held held) s pb in
      let ha = held_of_single held qa.0 qa.1 in
      let hb = held_of_multi held qb.0 qb.1 in
      let same : arity_of_query qa.0 ≡ arity_of_query qb.0 = one qa.0 qb.0 ha.0 hb.0 (qa.2 ∙ sym qb.2) in
      true≢false (sym ha.1 ∙ ap (λ n. n == 1) same ∙ hb.1)

  one_part_after : (held : Held) (changes : List Change) (s : ℕ) → HasOneArity (held_after held changes)
      → a.placed (held_after (single_held held) (single_changes changes)) s → b.placed (held_after (multi_held held) (multi_changes changes)) s → ⊥
  one_part_after held changes s one pa pb = one_part (held_after held changes) s one
      (subst (λ (v : Held). a.placed v s) (single_after held changes) pa) (subst (λ (v : Held). b.placed v s) (multi_after held changes) pb)

  placed_is_held : (held : Held) (s : ℕ) → (pair_kind a b).placed held s → (q : Query) × IsHeld held q × (q.selector ≡ s)
  placed_is_held held s (inl pa) = let q = la.placed_is_held (single_held held) s pa in (q.0, (held_of_single held q.0 q.1).0, q.2)
  placed_is_held held s (inr pb) = let q = lb.placed_is_held (multi_held held) s pb in (q.0, (held_of_multi held q.0 q.1).0, q.2)

  placed_by_own : (held other : Held) (s : ℕ) → ((q : Query) → q.selector ≡ s → held q ≡ other q)
      → (pair_kind a b).placed held s → (pair_kind a b).placed other s
  placed_by_own held other s same (inl pa) = inl (la.placed_by_own (single_held held) (single_held other) s
      (λ q e. ap (λ (v : Answer). if is_single q then v else NotUnderstood) (same q e)) pa)
  placed_by_own held other s same (inr pb) = inr (lb.placed_by_own (multi_held held) (multi_held other) s
      (λ q e. ap (λ (v : Answer). if is_single q then NotUnderstood else v) (same q e)) pb)

  placed_has_word : (x : Reading) (held : Held) (s : ℕ) → (pair_kind a b).shows x held → (pair_kind a b).placed held s → x (place_of s) ≢ 0
  placed_has_word x held s sh (inl pa) = la.placed_has_word x (single_held held) s sh.0 pa
  placed_has_word x held s sh (inr pb) = lb.placed_has_word x (multi_held held) s sh.1 pb

  -- ---- what shows

  pub same_first : (held : Held) (x y : Reading) → SameFor (pair_kind a b) held x y → SameFor a (single_held held) x y
  same_first held x y same = record { owned = λ address t. same.owned address (or_left _ _ t); words = λ s p. same.words s (inl p) }

  pub same_rest : (held : Held) (x y : Reading) → SameFor (pair_kind a b) held x y → SameFor b (multi_held held) x y
  same_rest held x y same = record { owned = λ address t. same.owned address (or_right _ _ t); words = λ s p. same.words s (inr p) }

  shown_in_range : (x : Reading) (held : Held) (q : Query) → (pair_kind a b).shows x held → IsHeld held q → IsInRange q
  shown_in_range x held q sh h = by_cases (is_single q)
      (λ t. la.shown_in_range x (single_held held) q sh.0 (λ e. h (sym (single_at held q t) ∙ e)))
      (λ f. lb.shown_in_range x (multi_held held) q sh.1 (λ e. h (sym (multi_at held q f) ∙ e)))

  held_is_answered : (x : Reading) (held : Held) (q : Query) → (pair_kind a b).shows x held → IsHeld held q → (pair_kind a b).part x q ≡ held q
  held_is_answered x held q sh h = by_cases (is_single q)
      (λ t. if_true (is_single q) (a.part x q) (b.part x q) t
      ∙ la.held_is_answered x (single_held held) q sh.0 (λ e. h (sym (single_at held q t) ∙ e)) ∙ single_at held q t)
      (λ f. if_false (is_single q) (a.part x q) (b.part x q) f
      ∙ lb.held_is_answered x (multi_held held) q sh.1 (λ e. h (sym (multi_at held q f) ∙ e)) ∙ multi_at held q f)

  -- a selector that is placed in the other part has no query of this arity
  no_multi : (held : Held) (q : Query) → is_single q ≡ true → HasArityOf held q → b.placed (multi_held held) q.selector → ⊥
  no_multi held q t arity pb =
      let r = lb.placed_is_held (multi_held held) q.selector pb in
      let h = held_of_multi held r.0 r.1 in
      true≢false (sym t ∙ ap (λ n. n == 1) (sym (arity r.0 h.0 r.2)) ∙ h.1)

  no_single : (held : Held) (q : Query) → is_single q ≡ false → HasArityOf held q → a.placed (single_held held) q.selector → ⊥
  no_single held q f arity pa =
      let r = la.placed_is_held (single_held held) q.selector pa in
      let h = held_of_single held r.0 r.1 in
      true≢false (sym h.1 ∙ ap (λ n. n == 1) (arity r.0 h.0 r.2) ∙ f)

  rest_is_answered : a.arities ≡ 1 → (x : Reading) (held : Held) (q : Query) → (pair_kind a b).shows x held
      → IsInRange q → arity_of_query q ≤ b.arities → HasArityOf held q
      → (pair_kind a b).placed held q.selector ⊎ (x (place_of q.selector) ≡ 0)
      → (pair_kind a b).part x q ≡ held q
  rest_is_answered one x held q sh range few arity placed = by_cases (is_single q)
      (λ t. let n : arity_of_query q ≡ 1 = eqb-true _ _ t in
      if_true (is_single q) (a.part x q) (b.part x q) t
      ∙ la.rest_is_answered x (single_held held) q sh.0 range (omega (arith, n, one)) (λ r h same. arity r (held_of_single held r h).0 same)
      (elim placed [ inl p ↦ elim p [ inl pa ↦ inl pa | inr pb ↦ absurd (no_multi held q t arity pb) ] | inr z ↦ inr z ])
      ∙ single_at held q t)
      (λ f. if_false (is_single q) (a.part x q) (b.part x q) f
      ∙ lb.rest_is_answered x (multi_held held) q sh.1 range few (λ r h same. arity r (held_of_multi held r h).0 same)
      (elim placed [ inl p ↦ elim p [ inr pb ↦ inl pb | inl pa ↦ absurd (no_single held q f arity pa) ] | inr z ↦ inr z ])
      ∙ multi_at held q f)

  -- ---- placing

  marks : (x y first rest : Reading) (held : Held) (changes : List Change) (s : ℕ) → (pair_kind a b).shows x held
      → a.places x (single_held held) (single_changes changes) first → b.places x (multi_held held) (multi_changes changes) rest
      → IsWordOfPair a b x held changes first rest s (y (place_of s)) → IsMarked (pair_kind a b) (held_after held changes) y s
  marks x y first rest held changes s sh pa pb (inl w) = inl (
    inl (subst (λ (v : Held). a.placed v s) (single_after held changes) w.0),
    λ e. word_is_some a la x first (single_held held) (single_changes changes) s sh.0 pa w.0 (sym w.1 ∙ e),
  )
  marks x y first rest held changes s sh pa pb (inr (inl w)) = inl (
    inr (subst (λ (v : Held). b.placed v s) (multi_after held changes) w.0),
    λ e. word_is_some b lb x rest (multi_held held) (multi_changes changes) s sh.1 pb w.0 (sym w.1 ∙ e),
  )
  marks x y first rest held changes s sh pa pb (inr (inr w)) = inr (
    (λ p. elim p [
      | inl q ↦ w.0 (subst (λ (v : Held). a.placed v s) (sym (single_after held changes)) q)
      | inr q ↦ w.1 (subst (λ (v : Held). b.placed v s) (sym (multi_after held changes)) q)
    ]),
    w.2,
  )

  word_of_other : (x z first rest : Reading) (held : Held) (changes : List Change) (s word : ℕ) → SameFor (pair_kind a b) held x z
      → IsWordOfPair a b x held changes first rest s word → IsWordOfPair a b z held changes first rest s word
  word_of_other x z first rest held changes s word same (inl w) = inl (
    w.0,
    w.1
        ∙ word_from a la x z first (single_held held) (single_changes changes) s (λ t p. same.words t (inl p)) w.0,
  )
  word_of_other x z first rest held changes s word same (inr (inl w)) = inr (inl (
    w.0,
    w.1
        ∙ word_from b lb x z rest (multi_held held) (multi_changes changes) s (λ t p. same.words t (inr p)) w.0,
  ))
  word_of_other x z first rest held changes s word same (inr (inr w)) = inr (inr w)

  placed_from : (x z y : Reading) (held : Held) (changes : List Change) → SameFor (pair_kind a b) held x z
      → PairPlaces a b x held changes y → PairPlaces a b z held changes y
  placed_from x z y held changes same pl = record {
    one_arity = pl.one_arity;
    first = pl.first;
    rest = pl.rest;
    by_first = la.placed_from x z pl.first (single_held held) (single_changes changes) (same_first held x z same) pl.by_first;
    by_rest = lb.placed_from x z pl.rest (multi_held held) (multi_changes changes) (same_rest held x z same) pl.by_rest;
    first_cells = pl.first_cells;
    rest_cells = pl.rest_cells;
    words = λ s t. word_of_other x z pl.first pl.rest held changes s (y (place_of s)) same (pl.words s t);
  }

  sets_place : (changes : List Change) (s : ℕ) → is_changed changes s ≡ true → sets (pair_kind a b) changes (place_of s) ≡ true
  sets_place changes s t = or_right (a.owns (place_of s) || b.owns (place_of s)) _ (changed_place changes s ∙ t)

  placed_at_set : (x y z : Reading) (held : Held) (changes : List Change) → PairPlaces a b x held changes y
      → ((address : ℕ) → sets (pair_kind a b) changes address ≡ true → y address ≡ z address) → PairPlaces a b x held changes z
  placed_at_set x y z held changes pl same = record {
    one_arity = pl.one_arity;
    first = pl.first;
    rest = pl.rest;
    by_first = pl.by_first;
    by_rest = pl.by_rest;
    first_cells = λ address t. sym (same address (or_left _ _ (or_left _ _ t))) ∙ pl.first_cells address t;
    rest_cells = λ address t. sym (same address (or_left _ _ (or_right _ _ t))) ∙ pl.rest_cells address t;
    words = λ s t. subst (λ (word : ℕ). IsWordOfPair a b x held changes pl.first pl.rest s word) (same (place_of s) (sets_place changes s t)) (pl.words s t);
  }

  words_determined : (x f g r t : Reading) (held : Held) (changes : List Change) (s v w : ℕ) → HasOneArity (held_after held changes)
      → (pair_kind a b).shows x held
      → a.places x (single_held held) (single_changes changes) f → b.places x (multi_held held) (multi_changes changes) r
      → a.places x (single_held held) (single_changes changes) g → b.places x (multi_held held) (multi_changes changes) t
      → IsWordOfPair a b x held changes f r s v → IsWordOfPair a b x held changes g t s w → v ≡ w
  words_determined x f g r t held changes s v w one sh pf pr pg pt (inl i) (inl j) =
      i.1 ∙ word_determined a la x f g (single_held held) (single_changes changes) s sh.0 pf pg i.0 ∙ sym j.1
  words_determined x f g r t held changes s v w one sh pf pr pg pt (inl i) (inr (inl j)) = absurd (one_part_after held changes s one i.0 j.0)
  words_determined x f g r t held changes s v w one sh pf pr pg pt (inl i) (inr (inr j)) = absurd (j.0 i.0)
  words_determined x f g r t held changes s v w one sh pf pr pg pt (inr (inl i)) (inl j) = absurd (one_part_after held changes s one j.0 i.0)
  words_determined x f g r t held changes s v w one sh pf pr pg pt (inr (inl i)) (inr (inl j)) =
      i.1 ∙ word_determined b lb x r t (multi_held held) (multi_changes changes) s sh.1 pr pt i.0 ∙ sym j.1
  words_determined x f g r t held changes s v w one sh pf pr pg pt (inr (inl i)) (inr (inr j)) = absurd (j.1 i.0)
  words_determined x f g r t held changes s v w one sh pf pr pg pt (inr (inr i)) (inl j) = absurd (i.0 j.0)
  words_determined x f g r t held changes s v w one sh pf pr pg pt (inr (inr i)) (inr (inl j)) = absurd (i.1 j.0)
  words_determined x f g r t held changes s v w one sh pf pr pg pt (inr (inr i)) (inr (inr j)) = i.2 ∙ sym j.2

  determined : (x y z : Reading) (held : Held) (changes : List Change) → (pair_kind a b).shows x held
      → PairPlaces a b x held changes y → PairPlaces a b x held changes z
      → (address : ℕ) → sets (pair_kind a b) changes address ≡ true → y address ≡ z address
  determined x y z held changes sh py pz address t = elim (or_true (a.owns address || b.owns address) _ t) [
    | inl o ↦ elim (or_true (a.owns address) (b.owns address) o) [
      | inl i ↦ py.first_cells address i
          ∙ la.determined x py.first pz.first (single_held held) (single_changes changes) sh.0 py.by_first pz.by_first address (or_left _ _ i)
          ∙ sym (pz.first_cells address i)
      | inr j ↦ py.rest_cells address j
          ∙ lb.determined x py.rest pz.rest (multi_held held) (multi_changes changes) sh.1 py.by_rest pz.by_rest address (or_left _ _ j)
          ∙ sym (pz.rest_cells address j)
    ]
    | inr c ↦ let at = changed_at changes address c in
        ap y (sym at.2)
        ∙ words_determined x py.first pz.first py.rest pz.rest held changes at.0 (y (place_of at.0)) (z (place_of at.0)) py.one_arity sh
        py.by_first py.by_rest pz.by_first pz.by_rest (py.words at.0 at.1) (pz.words at.0 at.1)
        ∙ ap z at.2
  ]

  -- ---- what is shown after

  pub keeps_first : (x y : Reading) (held : Held) (changes : List Change) (pl : PairPlaces a b x held changes y)
      → Stay (pair_kind a b) held changes x y → Keeps a la x (single_held held) (single_changes changes) pl.first y
  keeps_first x y held changes pl stay = record {
    cells = pl.first_cells;
    words = λ s later. by_cases (is_changed changes s)
        (λ t. elim (pl.words s t) [
          | inl w ↦ w.1
          | inr w ↦ elim w [ inl v ↦ absurd (one_part_after held changes s pl.one_arity later v.0) | inr v ↦ absurd (v.0 later) ]
        ])
        (λ u. let none = unchanged_filter (λ change. is_single change.query) changes s u in
        stay s u (inl (placed_before a la (single_held held) (single_changes changes) s none later))
        ∙ sym (if_false (is_changed (single_changes changes) s) (pl.first (place_of s)) (x (place_of s)) none));
  }

  pub keeps_rest : (x y : Reading) (held : Held) (changes : List Change) (pl : PairPlaces a b x held changes y)
      → Stay (pair_kind a b) held changes x y → Keeps b lb x (multi_held held) (multi_changes changes) pl.rest y
  keeps_rest x y held changes pl stay = record {
    cells = pl.rest_cells;
    words = λ s later. by_cases (is_changed changes s)
        (λ t. elim (pl.words s t) [
          | inl w ↦ absurd (one_part_after held changes s pl.one_arity w.0 later)
          | inr w ↦ elim w [ inl v ↦ v.1 | inr v ↦ absurd (v.1 later) ]
        ])
        (λ u. let none = unchanged_filter (λ change. not (is_single change.query)) changes s u in
        stay s u (inr (placed_before b lb (multi_held held) (multi_changes changes) s none later))
        ∙ sym (if_false (is_changed (multi_changes changes) s) (pl.rest (place_of s)) (x (place_of s)) none));
  }

  shown_after : a.arities ≡ 1 → (low : ℕ) (x y : Reading) (held : Held) (changes : List Change)
      → (pair_kind a b).shows x held → 1 ≤ low → IsStageable low b.arities held changes
      → PairPlaces a b x held changes y → Stay (pair_kind a b) held changes x y → (pair_kind a b).shows y (held_after held changes)
  shown_after one low x y held changes sh some able pl stay =
      let first : IsStageable low a.arities (single_held held) (single_changes changes) =
      subst (λ (n : ℕ). IsStageable low n (single_held held) (single_changes changes)) (sym one) (single_stageable low b.arities held changes able) in
      let rest : IsStageable 2 b.arities (multi_held held) (multi_changes changes) = multi_stageable low b.arities held changes some able in (
        subst (λ (v : Held). a.shows y v) (single_after held changes)
            (part_shown a la low x pl.first y (single_held held) (single_changes changes) sh.0 some first pl.by_first (keeps_first x y held changes pl stay)),
        subst (λ (v : Held). b.shows y v) (multi_after held changes)
            (part_shown b lb 2 x pl.rest y (multi_held held) (multi_changes changes) sh.1 (omega arith) rest pl.by_rest (keeps_rest x y held changes pl stay)),
      )

  -- ---- used cells

  used : (x : Reading) (held : Held) (address : ℕ) → (pair_kind a b).shows x held → (pair_kind a b).owns address ≡ true → x address ≢ 0
      → (q : Query) × (n : ℕ) × IsHeld held q × (0 < n) × (n ≤ arity_of_query q) × ((pair_kind a b).way x q n ≡ address)
  used x held address sh o some = elim (or_true (a.owns address) (b.owns address) o) [
    | inl t ↦ let u = la.used x (single_held held) address sh.0 t some in
        let h = held_of_single held u.0 u.2 in
        (u.0, u.1, h.0, u.3, u.4, if_true (is_single u.0) (a.way x u.0 u.1) (b.way x u.0 u.1) h.1 ∙ u.5)
    | inr t ↦ let u = lb.used x (multi_held held) address sh.1 t some in
        let h = held_of_multi held u.0 u.2 in
        (u.0, u.1, h.0, u.3, u.4, if_false (is_single u.0) (a.way x u.0 u.1) (b.way x u.0 u.1) h.1 ∙ u.5)
  ]

  way_by_prefix : (x : Reading) (q r : Query) (n : ℕ) → q.selector ≡ r.selector → arity_of_query q ≡ arity_of_query r → 0 < n
      → take n q.classes ≡ take n r.classes → (pair_kind a b).way x q n ≡ (pair_kind a b).way x r n
  way_by_prefix x q r n selectors arities some classes =
      let same : is_single q ≡ is_single r = ap (λ n. n == 1) arities in
      rw same (either (is_single r) (la.way_by_prefix x q r n selectors arities some classes) (lb.way_by_prefix x q r n selectors arities some classes))
    where
      either : (c : Bool) {k l m o : ℕ} → k ≡ m → l ≡ o → (if c then k else l) ≡ (if c then m else o)
      either true e f = e
      either false e f = f

  pub pair_is_lawful : a.arities ≡ 1 → IsLawful (pair_kind a b)
  pair_is_lawful one = record {
    owned_are_cells = λ address e. elim (or_true (a.owns address) (b.owns address) e) [
      | inl t ↦ la.owned_are_cells address t
      | inr t ↦ lb.owned_are_cells address t
    ];
    blank_shows_none = (
      subst (λ (v : Held). a.shows blank v) (sym single_none) la.blank_shows_none,
      subst (λ (v : Held). b.shows blank v) (sym multi_none) lb.blank_shows_none,
    );
    shown_elsewhere = λ x y held sh same. (
      la.shown_elsewhere x y (single_held held) sh.0 (same_first held x y same),
      lb.shown_elsewhere x y (multi_held held) sh.1 (same_rest held x y same),
    );
    shown_in_range = shown_in_range;
    held_is_answered = held_is_answered;
    rest_is_answered = rest_is_answered one;
    placed_is_held = placed_is_held;
    placed_by_own = placed_by_own;
    placed_has_word = placed_has_word;
    no_places = λ e. absurd (true≢false e);
    marks = λ x y held changes s sh pl gives t. marks x y pl.first pl.rest held changes s sh pl.by_first pl.by_rest (pl.words s t);
    placed_from = placed_from;
    placed_at_set = placed_at_set;
    determined = determined;
    shown_after = shown_after one;
    used = used;
    way_by_prefix = way_by_prefix;
  }
