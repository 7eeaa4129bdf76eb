-- The stages of both parts, with the place words that are laid before each and put back last, place as the pair does.
use Rattle.std.proofs.Common.{◌≡◌, ◌≢◌, ◌==◌, ℕ, ◌+◌, ◌-◌, ◌<◌, ◌≤◌, Bool, true, false, ◌&&◌, ◌||◌, not, cond, if◌then◌else◌, List, [], ◌∷◌, ◌⊎◌, inl, inr, refl, sym, ap, subst, ◌∙◌, arith, All, filter}
use Rattle.std.proofs.lemmas.Bool.{or_parts, or_from, or_left, or_right, eqb-true, eq-eqb, true≢false}
use Rattle.std.proofs.lemmas.List.Elements.{All-head, All-tail}
use Rattle.dt_pages.specs.Reading.{Reading}
use Rattle.dt_scratch.specs.declared.reply.Change.{Change}
use Rattle.dt_cells.specs.Regions.{place_of, IsCell}
use Rattle.dt_cells.specs.Held.{Held, held_after, IsStageable, IsStageableChange, is_changed, is_changed_place}
use Rattle.dt_cells.specs.HeldLaws.{by_cases, or_true, if_true, if_false, changed_place}
use Rattle.dt_cells.specs.Kind.{Kind, IsLawful, sets}
use Rattle.dt_cells.specs.Standing.{CanStage}
use Rattle.dt_cells.specs.Pair.{IsForOneClass, IsForMoreClasses, is_single, single_held, multi_held, single_changes, multi_changes, word_left, IsWordOfPair, PairPlaces, pair_kind, PairStands, PairFollows}
use Rattle.dt_cells.specs.PairHeldLaws.{changed_at, single_stageable, multi_stageable}
use Rattle.dt_cells.specs.PartLaws.{placed_before, placed_after}
use Rattle.dt_cells.specs.PlaceWords.{own_words}

-- ---- what is a place word and what is a cell

changed_below : (low high : ℕ) (changes : List Change) (s : ℕ) → All (IsStageableChange low high) changes → is_changed changes s ≡ true → s < 4096
changed_below low high [] s each t = absurd (true≢false (sym t))
changed_below low high (c ∷ cs) s each t = elim (or_true (c.query.selector == s) (is_changed cs s) t) [
  | inl e ↦ let same : c.query.selector ≡ s = eqb-true _ _ e in
      let h = All-head (IsStageableChange low high) c cs each in omega (arith, same, h.range.selector)
  | inr more ↦ changed_below low high cs s (All-tail (IsStageableChange low high) c cs each) more
]

-- no cell is a place word of a selector with a change
cell_is_no_place : (low high : ℕ) (changes : List Change) (address : ℕ) → All (IsStageableChange low high) changes → IsCell address → is_changed_place changes address ≡ false
cell_is_no_place low high changes address each cell = by_cases (is_changed_place changes address)
    (λ t. let at = changed_at changes address t in
    let below = changed_below low high changes at.0 each at.1 in
    let is : 8192 + at.0 ≡ address = at.2 in
    let from : 16777216 ≤ address = cell.0 in absurd (omega (arith, is, below, from)))
    (λ f. f)

place_is_no_cell : (k : Kind) → IsLawful k → (s : ℕ) → s < 4096 → k.owns (place_of s) ≡ false
place_is_no_cell k l s below = by_cases (k.owns (place_of s))
    (λ o. let from : 16777216 ≤ 8192 + s = (l.owned_are_cells (place_of s) o).0 in absurd (omega (arith, from, below)))
    (λ f. f)

other_place : (p : Change → Bool) (changes : List Change) (address : ℕ) → is_changed_place changes address ≡ false → is_changed_place (filter p changes) address ≡ false
other_place p [] address e = refl
other_place p (change ∷ changes) address e =
    let parts = or_parts (place_of change.query.selector == address) (is_changed_place changes address) e in
    let rest = other_place p changes address parts.1 in
    elim (p change) as (λ v. is_changed_place (cond v (change ∷ filter p changes) (filter p changes)) address ≡ false)
    [ true ↦ or_from _ _ parts.0 rest | false ↦ rest ]

unset : (k : Kind) (own : List Change) (address : ℕ) → k.owns address ≡ false → is_changed_place own address ≡ false → sets k own address ≡ false
unset k own address o c = or_from (k.owns address) _ o (rw c (elim k.has_places as (λ v. (v && false) ≡ false) [ true ↦ refl | false ↦ refl ]))

unset_without_places : (k : Kind) (own : List Change) (address : ℕ) → k.owns address ≡ false → k.has_places ≡ false → sets k own address ≡ false
unset_without_places k own address o n = or_from (k.owns address) _ o (rw n refl)

-- ---- the place word of one part

-- before the stage of a part a selector has the place word that belongs to it; after, that of its placing there
part_word : (k : Kind) → IsLawful k → (has : ℕ → Bool) (x d f : Reading) (held : Held) (own : List Change) (s : ℕ)
    → k.shows x held → k.places x held own f → (has s ≡ true → k.placed held s) → (has s ≡ false → k.placed held s → ⊥)
    → d (place_of s) ≡ (if has s then x (place_of s) else 0)
    → (sets k own (place_of s) ≡ false → f (place_of s) ≡ d (place_of s)) → k.owns (place_of s) ≡ false
    → (k.placed (held_after held own) s × (f (place_of s) ≢ 0) × (f (place_of s) ≡ word_left x f own s))
    ⊎ ((k.placed (held_after held own) s → ⊥) × (f (place_of s) ≡ 0))
part_word k l has x d f held own s sh pl placed lacking before stays other = by_cases (is_changed own s) changed unchanged
  where
    changed : is_changed own s ≡ true
        → (k.placed (held_after held own) s × (f (place_of s) ≢ 0) × (f (place_of s) ≡ word_left x f own s))
        ⊎ ((k.placed (held_after held own) s → ⊥) × (f (place_of s) ≡ 0))
    changed t = by_cases k.has_places
        (λ p. elim (l.marks x f held own s sh pl p t) [
          | inl m ↦ inl (m.0, m.1, sym (if_true (is_changed own s) (f (place_of s)) (x (place_of s)) t))
          | inr m ↦ inr m
        ])
        (λ n. inr (
          l.no_places n (held_after held own) s,
          stays (unset_without_places k own (place_of s) other n) ∙ before
              ∙ if_false (has s) (x (place_of s)) 0 (by_cases (has s) (λ h. absurd (l.no_places n held s (placed h))) (λ h. h)),
        ))

    unchanged : is_changed own s ≡ false
        → (k.placed (held_after held own) s × (f (place_of s) ≢ 0) × (f (place_of s) ≡ word_left x f own s))
        ⊎ ((k.placed (held_after held own) s → ⊥) × (f (place_of s) ≡ 0))
    unchanged u =
        let same : f (place_of s) ≡ (if has s then x (place_of s) else 0) = stays (unset k own (place_of s) other (changed_place own s ∙ u)) ∙ before in
        by_cases (has s)
        (λ h. let is : f (place_of s) ≡ x (place_of s) = same ∙ if_true (has s) (x (place_of s)) 0 h in
        inl (
          placed_after k l held own s u (placed h),
          (λ e. l.placed_has_word x held s sh (placed h) (sym is ∙ e)),
          is ∙ sym (if_false (is_changed own s) (f (place_of s)) (x (place_of s)) u),
        ))
        (λ h. inr ((λ p. lacking h (placed_before k l held own s u p)), same ∙ if_false (has s) (x (place_of s)) 0 h))

-- ---- one step after the other

-- the words of the draft: at first, with those of the first part's placed selectors, after the first stage, with those of the
-- second part's, after the second stage, and with those that the first stage left put back where there are none
pub record Stages (a b : Kind) (pa pb : ℕ → Bool) (x : Reading) (changes : List Change) (d₀ d₁ d₂ d₃ d₄ d₅ : Reading) : Type 0 where
  pub laid_first : (address : ℕ) → d₁ address ≡ (if is_changed_place changes address then own_words pa x address else d₀ address)
  pub first : (address : ℕ) → sets a (single_changes changes) address ≡ false → d₂ address ≡ d₁ address
  pub laid_rest : (address : ℕ) → d₃ address ≡ (if is_changed_place changes address then own_words pb x address else d₂ address)
  pub rest : (address : ℕ) → sets b (multi_changes changes) address ≡ false → d₄ address ≡ d₃ address
  pub put : (address : ℕ) → d₅ address ≡ (if is_changed_place changes address && (d₄ address == 0) then d₂ address else d₄ address)

-- a value of a part tells which selectors have a place in it
pub record Tells (k : Kind) (has : ℕ → Bool) (held : Held) : Type 0 where
  pub placed : (s : ℕ) → has s ≡ true → k.placed held s
  pub unplaced : (s : ℕ) → has s ≡ false → k.placed held s → ⊥

module _ (a b : Kind) (la : IsLawful a) (lb : IsLawful b) (one : IsForOneClass a) (more : IsForMoreClasses b) where
  not_first : (address : ℕ) → b.owns address ≡ true → a.owns address ≡ false
  not_first address t = by_cases (a.owns address)
      (λ u. let below : address < 33554432 = one.region address u in
      let from : 67108864 ≤ address = more.region address t in absurd (omega (arith, below, from)))
      (λ f. f)

  not_rest : (address : ℕ) → a.owns address ≡ true → b.owns address ≡ false
  not_rest address t = by_cases (b.owns address) (λ u. absurd (true≢false (sym t ∙ not_first address u))) (λ f. f)

  -- where neither part sets a word, and it is no place word of a change, it stays
  first_stays : (pa pb : ℕ → Bool) (x : Reading) (changes : List Change) (d₀ d₁ d₂ d₃ d₄ d₅ : Reading) → Stages a b pa pb x changes d₀ d₁ d₂ d₃ d₄ d₅
      → (address : ℕ) → a.owns address ≡ false → is_changed_place changes address ≡ false → d₃ address ≡ d₀ address
  first_stays pa pb x changes d₀ d₁ d₂ d₃ d₄ d₅ st address o c =
      st.laid_rest address ∙ if_false (is_changed_place changes address) _ (d₂ address) c
      ∙ st.first address (unset a (single_changes changes) address o (other_place (λ change. is_single change.query) changes address c))
      ∙ st.laid_first address ∙ if_false (is_changed_place changes address) _ (d₀ address) c

  put_stays : (pa pb : ℕ → Bool) (x : Reading) (changes : List Change) (d₀ d₁ d₂ d₃ d₄ d₅ : Reading) → Stages a b pa pb x changes d₀ d₁ d₂ d₃ d₄ d₅
      → (address : ℕ) → is_changed_place changes address ≡ false → d₅ address ≡ d₄ address
  put_stays pa pb x changes d₀ d₁ d₂ d₃ d₄ d₅ st address c =
      st.put address ∙ if_false (is_changed_place changes address && (d₄ address == 0)) (d₂ address) (d₄ address) (ap (λ v. v && (d₄ address == 0)) c)

  rest_stays : (pa pb : ℕ → Bool) (x : Reading) (changes : List Change) (d₀ d₁ d₂ d₃ d₄ d₅ : Reading) → Stages a b pa pb x changes d₀ d₁ d₂ d₃ d₄ d₅
      → (address : ℕ) → b.owns address ≡ false → is_changed_place changes address ≡ false → d₅ address ≡ d₃ address
  rest_stays pa pb x changes d₀ d₁ d₂ d₃ d₄ d₅ st address o c =
      put_stays pa pb x changes d₀ d₁ d₂ d₃ d₄ d₅ st address c
      ∙ st.rest address (unset b (multi_changes changes) address o (other_place (λ change. not (is_single change.query)) changes address c))

  pub stays : (pa pb : ℕ → Bool) (x : Reading) (changes : List Change) (d₀ d₁ d₂ d₃ d₄ d₅ : Reading) → Stages a b pa pb x changes d₀ d₁ d₂ d₃ d₄ d₅
      → (address : ℕ) → sets (pair_kind a b) changes address ≡ false → d₅ address ≡ d₀ address
  stays pa pb x changes d₀ d₁ d₂ d₃ d₄ d₅ st address f =
      let parts = or_parts (a.owns address || b.owns address) _ f in
      let owned = or_parts (a.owns address) (b.owns address) parts.0 in
      rest_stays pa pb x changes d₀ d₁ d₂ d₃ d₄ d₅ st address owned.1 parts.1
      ∙ first_stays pa pb x changes d₀ d₁ d₂ d₃ d₄ d₅ st address owned.0 parts.1

  -- ---- each part can stage its changes

  pub first_can : (sa sb : Reading → Held → Type 0) (lowa lowb : ℕ) (pa : ℕ → Bool) (x d₀ d₁ : Reading) (held : Held) (changes : List Change)
      → CanStage (pair_kind a b) (λ y h. PairStands sa sb lowa lowb y h) 1 x d₀ held changes
      → ((address : ℕ) → d₁ address ≡ (if is_changed_place changes address then own_words pa x address else d₀ address))
      → CanStage a sa lowa x d₁ (single_held held) (single_changes changes)
  first_can sa sb lowa lowb pa x d₀ d₁ held changes can laid = record {
    standing = can.standing.first;
    stageable = subst (λ (n : ℕ). IsStageable n a.arities (single_held held) (single_changes changes)) (sym can.standing.first_low)
        (subst (λ (n : ℕ). IsStageable 1 n (single_held held) (single_changes changes)) (sym one.arities) (single_stageable 1 b.arities held changes can.stageable));
    untouched = λ address t. laid address
        ∙ if_false (is_changed_place changes address) _ (d₀ address) (cell_is_no_place 1 b.arities changes address can.stageable.each (la.owned_are_cells address t))
        ∙ can.untouched address (or_left _ _ t);
  }

  pub rest_can : (sa sb : Reading → Held → Type 0) (lowa lowb : ℕ) (pa pb : ℕ → Bool) (x d₀ d₁ d₂ d₃ : Reading) (held : Held) (changes : List Change)
      → CanStage (pair_kind a b) (λ y h. PairStands sa sb lowa lowb y h) 1 x d₀ held changes
      → ((address : ℕ) → d₁ address ≡ (if is_changed_place changes address then own_words pa x address else d₀ address))
      → ((address : ℕ) → sets a (single_changes changes) address ≡ false → d₂ address ≡ d₁ address)
      → ((address : ℕ) → d₃ address ≡ (if is_changed_place changes address then own_words pb x address else d₂ address))
      → CanStage b sb lowb x d₃ (multi_held held) (multi_changes changes)
  rest_can sa sb lowa lowb pa pb x d₀ d₁ d₂ d₃ held changes can laid first again = record {
    standing = can.standing.rest;
    stageable = subst (λ (n : ℕ). IsStageable n b.arities (multi_held held) (multi_changes changes)) (sym can.standing.rest_low)
        (multi_stageable 1 b.arities held changes (omega arith) can.stageable);
    untouched = λ address t.
        let c = cell_is_no_place 1 b.arities changes address can.stageable.each (lb.owned_are_cells address t) in
        again address ∙ if_false (is_changed_place changes address) _ (d₂ address) c
        ∙ first address (unset a (single_changes changes) address (not_first address t) (other_place (λ change. is_single change.query) changes address c))
        ∙ laid address ∙ if_false (is_changed_place changes address) _ (d₀ address) c
        ∙ can.untouched address (or_right _ _ t);
  }

  -- ---- the pair's placing

  pub staged_places : (pa pb : ℕ → Bool) (x : Reading) (changes : List Change) (d₀ d₁ d₂ d₃ d₄ d₅ : Reading) → Stages a b pa pb x changes d₀ d₁ d₂ d₃ d₄ d₅
      → (low high : ℕ) (held : Held) → IsStageable low high held changes
      → a.shows x (single_held held) → b.shows x (multi_held held) → Tells a pa (single_held held) → Tells b pb (multi_held held)
      → a.places x (single_held held) (single_changes changes) d₂ → b.places x (multi_held held) (multi_changes changes) d₄
      → PairPlaces a b x held changes d₅
  staged_places pa pb x changes d₀ d₁ d₂ d₃ d₄ d₅ st low high held able sha shb ta tb pla plb = record {
    one_arity = able.one_arity;
    first = d₂;
    rest = d₄;
    by_first = pla;
    by_rest = plb;
    first_cells = λ address t.
        let c = cell_is_no_place low high changes address able.each (la.owned_are_cells address t) in
        rest_stays pa pb x changes d₀ d₁ d₂ d₃ d₄ d₅ st address (not_rest address t) c
        ∙ st.laid_rest address ∙ if_false (is_changed_place changes address) _ (d₂ address) c;
    rest_cells = λ address t. put_stays pa pb x changes d₀ d₁ d₂ d₃ d₄ d₅ st address
        (cell_is_no_place low high changes address able.each (lb.owned_are_cells address t));
    words = words;
  }
    where
      own_at : (has : ℕ → Bool) (y z : Reading) (s : ℕ) → is_changed changes s ≡ true
          → y (place_of s) ≡ (if is_changed_place changes (place_of s) then own_words has x (place_of s) else z (place_of s))
          → y (place_of s) ≡ (if has s then x (place_of s) else 0)
      own_at has y z s t e =
          let is : place_of s - place_of 0 ≡ s = omega arith in
          e ∙ if_true (is_changed_place changes (place_of s)) (own_words has x (place_of s)) (z (place_of s)) (changed_place changes s ∙ t)
          ∙ ap (λ n. if has n then x (place_of s) else 0) is

      put_at : (s : ℕ) (c zero : Bool) → d₅ (place_of s) ≡ (if c && zero then d₂ (place_of s) else d₄ (place_of s)) → c ≡ true
          → d₅ (place_of s) ≡ (if zero then d₂ (place_of s) else d₄ (place_of s))
      put_at s true zero e t = e
      put_at s false zero e t = absurd (true≢false (sym t))

      last_at : (s : ℕ) → is_changed changes s ≡ true → d₅ (place_of s) ≡ (if d₄ (place_of s) == 0 then d₂ (place_of s) else d₄ (place_of s))
      last_at s t = put_at s (is_changed_place changes (place_of s)) (d₄ (place_of s) == 0) (st.put (place_of s)) (changed_place changes s ∙ t)

      some : (w : ℕ) → w ≢ 0 → (w == 0) ≡ false
      some w h = by_cases (w == 0) (λ t. absurd (h (eqb-true w 0 t))) (λ f. f)

      words : (s : ℕ) → is_changed changes s ≡ true → IsWordOfPair a b x held changes d₂ d₄ s (d₅ (place_of s))
      words s t =
          let below = changed_below low high changes s able.each t in
          elim (part_word b lb pb x d₃ d₄ (multi_held held) (multi_changes changes) s shb plb (tb.placed s) (tb.unplaced s)
          (own_at pb d₃ d₂ s t (st.laid_rest (place_of s))) (st.rest (place_of s)) (place_is_no_cell b lb s below)) [
            | inl p ↦ inr (inl (p.0, last_at s t ∙ if_false (d₄ (place_of s) == 0) (d₂ (place_of s)) (d₄ (place_of s)) (some (d₄ (place_of s)) p.1) ∙ p.2))
            | inr n ↦
                let now = last_at s t ∙ if_true (d₄ (place_of s) == 0) (d₂ (place_of s)) (d₄ (place_of s)) (eq-eqb (d₄ (place_of s)) 0 n.1) in
                elim (part_word a la pa x d₁ d₂ (single_held held) (single_changes changes) s sha pla (ta.placed s) (ta.unplaced s)
                (own_at pa d₁ d₀ s t (st.laid_first (place_of s))) (st.first (place_of s)) (place_is_no_cell a la s below)) [
                  | inl p ↦ inl (p.0, now ∙ p.2)
                  | inr m ↦ inr (inr (m.0, n.0, now ∙ m.1))
                ]
          ]

  -- where each part's stage does what a stage promises, so does the pair's
  pub staged : (sa sb : Reading → Held → Type 0) (lowa lowb : ℕ) (fa fb : Reading → Held → List Change → Type 0) (pa pb : ℕ → Bool) (x : Reading)
      (changes singles multis : List Change) (d₀ d₁ d₂ d₃ d₄ d₅ : Reading) → Stages a b pa pb x changes d₀ d₁ d₂ d₃ d₄ d₅
      → singles ≡ single_changes changes → multis ≡ multi_changes changes
      → ((h : Held) → sa x h → a.shows x h × Tells a pa h) → ((h : Held) → sb x h → b.shows x h × Tells b pb h)
      → ((h : Held) → CanStage a sa lowa x d₁ h singles → a.places x h singles d₂ × fa x h singles)
      → ((h : Held) → CanStage b sb lowb x d₃ h multis → b.places x h multis d₄ × fb x h multis)
      → (held : Held) → CanStage (pair_kind a b) (λ y h. PairStands sa sb lowa lowb y h) 1 x d₀ held changes
      → PairPlaces a b x held changes d₅ × PairFollows fa fb x held changes
  staged sa sb lowa lowb fa fb pa pb x changes singles multis d₀ d₁ d₂ d₃ d₄ d₅ st is are told told' place place' held can =
      let first = place (single_held held) (subst (λ (v : List Change). CanStage a sa lowa x d₁ (single_held held) v) (sym is)
      (first_can sa sb lowa lowb pa x d₀ d₁ held changes can st.laid_first)) in
      let rest = place' (multi_held held) (subst (λ (v : List Change). CanStage b sb lowb x d₃ (multi_held held) v) (sym are)
      (rest_can sa sb lowa lowb pa pb x d₀ d₁ d₂ d₃ held changes can st.laid_first st.first st.laid_rest)) in
      let of_first = told (single_held held) can.standing.first in
      let of_rest = told' (multi_held held) can.standing.rest in (
        staged_places pa pb x changes d₀ d₁ d₂ d₃ d₄ d₅ st 1 b.arities held can.stageable of_first.0 of_rest.0 of_first.1 of_rest.1
            (subst (λ (v : List Change). a.places x (single_held held) v d₂) is first.0)
            (subst (λ (v : List Change). b.places x (multi_held held) v d₄) are rest.0),
        record {
          first = subst (λ (v : List Change). fa x (single_held held) v) is first.1;
          rest = subst (λ (v : List Change). fb x (multi_held held) v) are rest.1;
        },
      )
