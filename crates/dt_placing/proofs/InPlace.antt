-- A turn in place: the selector's changes alone are set, at the place that it has.
use Rattle.std.proofs.Common.{◌≡◌, ◌≢◌, ◌==◌, ℕ, ◌+◌, ◌-◌, ◌*◌, ◌<◌, ◌≤◌, Bool, true, false, ◌&&◌, ◌||◌, not, if◌then◌else◌, List, [], ◌∷◌, length, get_or, ◌⊎◌, inl, inr, refl, sym, ap, subst, ◌∙◌, arith, All}
use Rattle.std.specs.List.{list_all, list_any}
use Rattle.std.proofs.lemmas.Bool.{or_left, or_right, and_parts, and_from, not_from_false, not-true, eqb-true, eq-eqb, true≢false}
use Rattle.std.proofs.lemmas.List.Elements.{All-head, All-tail}
use Rattle.dt_pages.specs.Reading.{Reading}
use Rattle.dt_scratch.specs.Query.{Query, is_same_query}
use Rattle.dt_scratch.specs.declared.reply.Change.{Change}
use Rattle.dt_cells.specs.Regions.{place_of}
use Rattle.dt_cells.specs.Cell.{cell_word}
use Rattle.dt_cells.specs.Held.{Held, IsHeld, held_after, IsStageableChange}
use Rattle.dt_cells.specs.HeldLaws.{by_cases, or_true, if_true, if_false, same_query}
use Rattle.dt_fit.specs.declared.geometry.Geometry.{Geometry}
use Rattle.dt_fit.specs.Geometry.{width_of}
use Rattle.dt_fit.specs.Fits.{fits}
use Rattle.dt_placing.specs.Rows.{single, indexes, has_index}
use Rattle.dt_placing.specs.RowsLaws.{all_indexes, has_index_of, index_of}
use Rattle.dt_placing.specs.Placing.{cell_at, owns, tag_of, HasRoom, is_used, HasWord, AreUsed}
use Rattle.dt_placing.specs.PlacingLaws.{some_word, owned, owned_cell}
use Rattle.dt_placing.specs.Turn.{number_at, is_own, CanTurn}
use Rattle.dt_placing.specs.Staying.{class_of, is_open, laid_by, HasCell, IsChangedInPlace}
use Rattle.dt_placing.proofs.Others.{now_words, before, OthersCell, same_held, own_held, held_own, kept_word, owner, not_both, others_used, used_by_other}
use Rattle.dt_placing.proofs.Turn.{next_held, own_after, place_set, elsewhere, in_cells, IsLaid, placed_next, Done}

-- ---- the class of a change

class_alone : (classes : List ℕ) → 1 ≤ length classes → length classes ≤ 1 → classes ≡ get_or classes 0 0 ∷ []
class_alone [] least most = absurd (omega (arith, least))
class_alone (k ∷ []) least most = refl
class_alone (k ∷ j ∷ ks) least most = absurd (omega (arith, most))

query_is : (c : Change) (s : ℕ) → c.query.selector ≡ s → IsStageableChange 1 1 c → c.query ≡ single s (class_of c)
query_is c s is able =
    let alone : c.query.classes ≡ class_of c ∷ [] = class_alone c.query.classes able.least able.greatest in
    λ i. record { selector = is i; classes = alone i }

class_below : (c : Change) → IsStageableChange 1 1 c → class_of c < 2048
class_below c able = All-head (λ k. k < 2048) (class_of c) [] (subst (All (λ k. k < 2048)) (class_alone c.query.classes able.least able.greatest) able.range.classes)

same_single : (s k : ℕ) → is_same_query (single s k) (single s k) ≡ true
same_single s k = and_from _ _ (eq-eqb s s refl) (and_from _ _ refl (and_from _ _ (eq-eqb k k refl) refl))

-- what the first change makes held, and that it leaves the other classes to the rest
held_first : (held : Held) (c : Change) (cs : List Change) (s : ℕ) → c.query.selector ≡ s → IsStageableChange 1 1 c
    → held_after held (c ∷ cs) (single s (class_of c)) ≡ c.answer
held_first held c cs s is able = if_true (is_same_query c.query (single s (class_of c))) c.answer (held_after held cs (single s (class_of c)))
    (ap (λ (q : Query). is_same_query q (single s (class_of c))) (query_is c s is able) ∙ same_single s (class_of c))

held_rest : (held : Held) (c : Change) (cs : List Change) (s class : ℕ) → class ≢ class_of c → held_after held (c ∷ cs) (single s class) ≡ held_after held cs (single s class)
held_rest held c cs s class apart = if_false (is_same_query c.query (single s class)) c.answer (held_after held cs (single s class))
    (by_cases (is_same_query c.query (single s class))
    (λ t. absurd (apart (sym (ap (λ (q : Query). get_or q.classes 0 0) (same_query c.query (single s class) t)))))
    (λ f. f))

-- ---- what changes at a place set

module _ (g : Geometry) (x : Reading) (s before : ℕ) (tried : ℕ → Bool) (held : Held) (d : Reading) where
  -- the words that the changes leave
  abbrev pub words_by : List Change → Reading
  words_by cs = laid_by (λ change. cell_at g (before - 1) (class_of change)) (λ change. cell_word (tag_of s) change.answer) cs d

  abbrev pub is_open_at : ℕ → Bool
  is_open_at class = is_own g x s before class || not (tried (number_at g before class))

  -- the address is that of a change's cell, and has its word
  pub record IsSet (cs : List Change) (address : ℕ) : Type 0 where
    pub class : ℕ
    pub below : class < 2048
    pub at : cell_at g (before - 1) class ≡ address
    pub opens : is_open_at class ≡ true
    pub word : words_by cs address ≡ cell_word (tag_of s) (held_after held cs (single s class))
    pub among : (f : ℕ → Bool) → f class ≡ true → list_any (λ change. f (class_of change)) cs ≡ true

  -- it is that of none
  pub record IsUnset (cs : List Change) (address : ℕ) : Type 0 where
    pub word : words_by cs address ≡ d address
    pub same : (class : ℕ) → cell_at g (before - 1) class ≡ address → held_after held cs (single s class) ≡ held (single s class)

  pub set_or_not : (cs : List Change) → All (λ change. change.query.selector ≡ s) cs → All (IsStageableChange 1 1) cs
      → list_all (is_open g x s before tried) cs ≡ true → (address : ℕ) → IsSet cs address ⊎ IsUnset cs address
  set_or_not [] own each all_open address = inr (record { word = refl; same = λ class at. refl })
  set_or_not (c ∷ cs) own each all_open address =
      let is = All-head (λ (change : Change). change.query.selector ≡ s) c cs own in
      let able = All-head (IsStageableChange 1 1) c cs each in
      let parts = and_parts (is_open g x s before tried c) (list_all (is_open g x s before tried) cs) all_open in
      by_cases (address == cell_at g (before - 1) (class_of c))
      (λ t. inl (record {
        class = class_of c;
        below = class_below c able;
        at = sym (eqb-true address (cell_at g (before - 1) (class_of c)) t);
        opens = parts.0;
        word = if_true (address == cell_at g (before - 1) (class_of c)) (cell_word (tag_of s) c.answer) (words_by cs address) t
            ∙ ap (cell_word (tag_of s)) (sym (held_first held c cs s is able));
        among = λ f e. or_left (f (class_of c)) (list_any (λ change. f (class_of change)) cs) e;
      }))
      (λ f. (let apart : (class : ℕ) → cell_at g (before - 1) class ≡ address → class ≢ class_of c
      = λ class at e. true≢false (sym (eq-eqb address (cell_at g (before - 1) (class_of c)) (sym at ∙ ap (λ k. cell_at g (before - 1) k) e)) ∙ f) in
      let past : words_by (c ∷ cs) address ≡ words_by cs address
      = if_false (address == cell_at g (before - 1) (class_of c)) (cell_word (tag_of s) c.answer) (words_by cs address) f in
      elim (set_or_not cs (All-tail (λ (change : Change). change.query.selector ≡ s) c cs own) (All-tail (IsStageableChange 1 1) c cs each) parts.1 address) [
        | inl m ↦ inl (record {
          class = m.class;
          below = m.below;
          at = m.at;
          opens = m.opens;
          word = past ∙ m.word ∙ ap (cell_word (tag_of s)) (sym (held_rest held c cs s m.class (apart m.class m.at)));
          among = λ h e. or_right (h (class_of c)) (list_any (λ change. h (class_of change)) cs) (m.among h e);
        })
        | inr m ↦ inr (record { word = past ∙ m.word; same = λ class at. held_rest held c cs s class (apart class at) ∙ m.same class at })
      ]))

  -- where some change's class passes a test, one that does is open
  pub some_open : (f : ℕ → Bool) (cs : List Change) → All (IsStageableChange 1 1) cs → list_all (is_open g x s before tried) cs ≡ true
      → list_any (λ change. f (class_of change)) cs ≡ true → (class : ℕ) × (class < 2048) × (is_open_at class ≡ true) × (f class ≡ true)
  some_open f [] each all_open e = absurd (true≢false (sym e))
  some_open f (c ∷ cs) each all_open e =
      let parts = and_parts (is_open g x s before tried c) (list_all (is_open g x s before tried) cs) all_open in
      elim (or_true (f (class_of c)) (list_any (λ change. f (class_of change)) cs) e) [
        | inl t ↦ (class_of c, class_below c (All-head (IsStageableChange 1 1) c cs each), parts.0, t)
        | inr t ↦ some_open f cs (All-tail (IsStageableChange 1 1) c cs each) parts.1 t
      ]

  -- the used cells are those with a word
  pub used_by_changes : (cs : List Change) → All (IsStageableChange 1 1) cs → HasRoom g before → AreUsed tried d → (cell : ℕ)
      → laid_by (λ change. number_at g before (class_of change)) (λ change. not (cell_word (tag_of s) change.answer == 0)) cs tried cell
      ≡ (owns (16777216 + cell) && not (words_by cs (16777216 + cell) == 0))
  used_by_changes [] each room used cell = used cell
  used_by_changes (c ∷ cs) each room used cell =
      let number : ℕ = number_at g before (class_of c) in
      let word : ℕ = cell_word (tag_of s) c.answer in
      let rest : Bool = laid_by (λ change. number_at g before (class_of change)) (λ change. not (cell_word (tag_of s) change.answer == 0)) cs tried cell in
      by_cases (cell == number)
      (λ t. (let at : 16777216 + cell ≡ cell_at g (before - 1) (class_of c) = ap (λ n. 16777216 + n) (eqb-true cell number t) in
      if_true (cell == number) (not (word == 0)) rest t
      ∙ sym (ap (λ w. owns (16777216 + cell) && not (w == 0))
      (if_true (16777216 + cell == cell_at g (before - 1) (class_of c)) word (words_by cs (16777216 + cell)) (eq-eqb (16777216 + cell) (cell_at g (before - 1) (class_of c)) at))
      ∙ ap (λ b. b && not (word == 0))
      (ap owns at ∙ owned_cell g before (class_of c) room (class_below c (All-head (IsStageableChange 1 1) c cs each))))))
      (λ f. if_false (cell == number) (not (word == 0)) rest f
      ∙ used_by_changes cs (All-tail (IsStageableChange 1 1) c cs each) room used cell
      ∙ sym (ap (λ w. owns (16777216 + cell) && not (w == 0))
      (if_false (16777216 + cell == cell_at g (before - 1) (class_of c)) word (words_by cs (16777216 + cell)) (by_cases (16777216 + cell == cell_at g (before - 1) (class_of c))
      (λ t. absurd (true≢false (sym (eq-eqb cell number (let at : 16777216 + cell ≡ 16777216 + number = eqb-true (16777216 + cell) (cell_at g (before - 1) (class_of c)) t in omega (arith, at))) ∙ f)))
      (λ n. n)))))

all_free : (g : Geometry) (used : ℕ → Bool) (place : ℕ) (list : List ℕ) → All (λ index. used (width_of g * place + index) ≡ false) list → fits g used list place ≡ true
all_free g used place [] all = refl
all_free g used place (i ∷ is) all = and_from (not (used (width_of g * place + i))) (fits g used is place)
    (not_from_false (used (width_of g * place + i)) (All-head (λ index. used (width_of g * place + index) ≡ false) i is all))
    (all_free g used place is (All-tail (λ index. used (width_of g * place + index) ≡ false) i is all))

-- ---- such a turn

module _ {g : Geometry} {tried : ℕ → Bool} {x : Reading} {held : Held} {done own : List Change} {s given : ℕ} {d : Reading}
    (can : CanTurn g tried x held done own s given d) where
  module _ (all_open : list_all (is_open g x s (before can) tried) own ≡ true) (some : (before can == 0) ≡ false)
      (word : ℕ) (now : Reading) (after : ℕ → Bool) (made : IsChangedInPlace g x s (before can) own word d now tried after) where
    abbrev Set : ℕ → Type 0
    Set = IsSet g x s (before can) tried held d own

    abbrev Unset : ℕ → Type 0
    Unset = IsUnset g x s (before can) tried held d own

    abbrev words : Reading
    words = words_by g x s (before can) tried held d own

    set_or_unset : (address : ℕ) → Set address ⊎ Unset address
    set_or_unset = set_or_not g x s (before can) tried held d own can.own_each can.each all_open

    placed : has_index held s ≡ true
    placed = by_cases (has_index held s) (λ t. t)
        (λ f. absurd (true≢false (sym (eq-eqb (before can) 0 (if_false (has_index held s) (x (place_of s)) 0 f)) ∙ some)))

    before_is : before can ≡ x (place_of s)
    before_is = if_true (has_index held s) (x (place_of s)) 0 placed

    room : HasRoom g (before can)
    room = subst (HasRoom g) (sym before_is) (can.shows.room s placed)

    elsewhere_by : (address : ℕ) → address ≢ place_of s → now address ≡ words address
    elsewhere_by address apart = elsewhere can word now made.laid made.places address apart ∙ made.words address

    cells_by : (address : ℕ) → 16777216 ≤ address → now address ≡ words address
    cells_by address from = in_cells can word now made.laid made.places address from ∙ made.words address

    -- ---- cells

    open_apart : (class : ℕ) → class < 2048 → (is_own g x s (before can) class || not (tried (number_at g (before can) class))) ≡ true
        → OthersCell can (cell_at g (before can - 1) class) → ⊥
    open_apart class below e u = elim (or_true (is_own g x s (before can) class) (not (tried (number_at g (before can) class))) e) [
      | inl mine ↦ not_both can (cell_at g (before can - 1) class) (record { class = class; below = below; holds = own_held can class below mine; at = refl }) u
      | inr free ↦ true≢false (sym (others_used can (number_at g (before can) class) u) ∙ not-true (tried (number_at g (before can) class)) free)
    ]

    set_apart : (address : ℕ) → Set address → OthersCell can address → ⊥
    set_apart address m u = open_apart m.class m.below m.opens (subst (OthersCell can) (sym m.at) u)

    -- where no change is, what was held is
    holds_before : (address class : ℕ) → Unset address → cell_at g (before can - 1) class ≡ address → next_held can (single s class) ≡ held (single s class)
    holds_before address class m at = own_after can class ∙ m.same class at

    own_word_at : (class : ℕ) → class < 2048 → IsHeld held (single s class) → d (cell_at g (before can - 1) class) ≡ cell_word (tag_of s) (held (single s class))
    own_word_at class below h = ap (λ w. d (cell_at g (w - 1) class)) (sym (kept_word can (has_index_of held s class below h)))
        ∙ can.places.cells.set s class below (λ none. h (sym (same_held can class) ∙ none)) ∙ ap (cell_word (tag_of s)) (same_held can class)

    row_set : (class : ℕ) → class < 2048 → IsHeld (next_held can) (single s class) → now (cell_at g (before can - 1) class) ≡ cell_word (tag_of s) (next_held can (single s class))
    row_set class below h = cells_by (cell_at g (before can - 1) class) (omega arith) ∙ elim (set_or_unset (cell_at g (before can - 1) class)) [
      | inl m ↦ (let at : 16777216 + (width_of g * (before can - 1) + m.class) ≡ 16777216 + (width_of g * (before can - 1) + class) = m.at in
          let one : m.class ≡ class = omega (arith, at) in
          m.word ∙ ap (λ k. cell_word (tag_of s) (held_after held own (single s k))) one ∙ ap (cell_word (tag_of s)) (sym (own_after can class)))
      | inr m ↦ (let same : next_held can (single s class) ≡ held (single s class) = holds_before (cell_at g (before can - 1) class) class m refl in
          m.word ∙ own_word_at class below (λ none. h (same ∙ none)) ∙ ap (cell_word (tag_of s)) (sym same))
    ]

    others_stay : (address : ℕ) → OthersCell can address → now address ≡ d address
    others_stay address u =
        let at : 16777216 + (width_of g * (now_words can u.selector - 1) + u.class) ≡ address = u.at in
        cells_by address (omega (arith, at)) ∙ elim (set_or_unset address) [
          | inl m ↦ absurd (set_apart address m u)
          | inr m ↦ m.word
        ]

    row_used : (address : ℕ) → owns address ≡ true → now address ≢ 0
        → ((class : ℕ) × (class < 2048) × IsHeld (next_held can) (single s class) × (cell_at g (before can - 1) class ≡ address)) ⊎ OthersCell can address
    row_used address own_one filled = elim (set_or_unset address) [
      | inl m ↦ inl (
        m.class,
        m.below,
        (λ none. filled (cells_by address (owned g address own_one).0 ∙ m.word ∙ ap (cell_word (tag_of s)) (sym (own_after can m.class) ∙ none))),
        m.at,
      )
      | inr m ↦ elim (owner can address own_one (λ z. filled (cells_by address (owned g address own_one).0 ∙ m.word ∙ z))) [
        | inl o ↦ inl (o.class, o.below, (λ none. o.holds (sym (holds_before address o.class m o.at) ∙ none)), o.at)
        | inr u ↦ inr u
      ]
    ]

    after_used : AreUsed after now
    after_used cell = made.cells cell ∙ used_by_changes g x s (before can) tried held d own can.each room can.used cell
        ∙ ap (λ w. owns (16777216 + cell) && not (w == 0)) (sym (cells_by (16777216 + cell) (omega arith)))

    -- ---- whether a cell is left

    used_holds : (class : ℕ) → class < 2048 → (is_own g x s (before can) class || not (tried (number_at g (before can) class))) ≡ true
        → after (number_at g (before can) class) ≡ true → has_index (next_held can) s ≡ true
    used_holds class below opens e =
        let address : ℕ = cell_at g (before can - 1) class in
        let parts = and_parts (owns address) (not (now address == 0)) (sym (after_used (number_at g (before can) class)) ∙ e) in
        elim (row_used address parts.0 (λ z. true≢false (sym (eq-eqb (now address) 0 z) ∙ not-true (now address == 0) parts.1))) [
          | inl m ↦ has_index_of (next_held can) s m.0 m.1 m.2
          | inr u ↦ absurd (open_apart class below opens u)
        ]

    held_used : (class : ℕ) → class < 2048 → IsHeld (next_held can) (single s class) → after (number_at g (before can) class) ≡ true
    held_used class below h =
        let address : ℕ = cell_at g (before can - 1) class in
        after_used (number_at g (before can) class) ∙ and_from (owns address) (not (now address == 0)) (owned_cell g (before can) class room below)
        (not_from_false (now address == 0) (by_cases (now address == 0)
        (λ t. absurd (some_word s (next_held can (single s class)) h (sym (row_set class below h) ∙ eqb-true (now address) 0 t))) (λ f. f)))

    has_cell_is : (b : Bool) → HasCell g x s (before can) own after b → b ≡ has_index (next_held can) s
    has_cell_is true (inl e) =
        let m = some_open g x s (before can) tried held d (λ class. after (number_at g (before can) class)) own can.each all_open e in
        sym (used_holds m.0 m.1 m.2 m.3)
    has_cell_is true (inr m) = sym (used_holds m.0 m.1 (or_left (is_own g x s (before can) m.0) (not (tried (number_at g (before can) m.0))) m.2) m.3)
    has_cell_is false none = by_cases (has_index (next_held can) s)
        (λ t. absurd (let i = index_of (next_held can) s t in
        elim (set_or_unset (cell_at g (before can - 1) i.0)) [
          | inl m ↦ (let at : 16777216 + (width_of g * (before can - 1) + m.class) ≡ 16777216 + (width_of g * (before can - 1) + i.0) = m.at in
              let one : m.class ≡ i.0 = omega (arith, at) in
              true≢false (sym (m.among (λ class. after (number_at g (before can) class))
              (ap (λ class. after (number_at g (before can) class)) one ∙ held_used i.0 i.1.0 i.1.1)) ∙ none.0))
          | inr m ↦ (let has : IsHeld held (single s i.0) = (λ h. i.1.1 (holds_before (cell_at g (before can - 1) i.0) i.0 m refl ∙ h)) in
              true≢false (sym (held_used i.0 i.1.0 i.1.1) ∙ none.1 i.0 i.1.0 (held_own can i.0 i.1.0 has)))
        ]))
        (λ f. sym f)

    word_by : (b : Bool) → has_index (next_held can) s ≡ b → word ≡ (if b then before can else 0)
    word_by b e = made.word_is ∙ ap (λ c. if c then before can else 0) (has_cell_is made.has_cell made.cell ∙ e)

    in_place : IsLaid can word now
    in_place = record {
      word_is = place_set can word now made.laid made.places;
      rest = λ address out apart. elsewhere_by address apart ∙ elim (set_or_unset address) [
        | inl m ↦ absurd (true≢false (sym (ap owns (sym m.at) ∙ owned_cell g (before can) m.class room m.below) ∙ out))
        | inr m ↦ m.word
      ];
      row = λ class below h. ap (λ w. now (cell_at g (w - 1) class)) (word_by true (has_index_of (next_held can) s class below h)) ∙ row_set class below h;
      others = others_stay;
      used = λ address own_one filled. elim (row_used address own_one filled) [
        | inl m ↦ inl (m.0, m.1, m.2, ap (λ w. cell_at g (w - 1) m.0) (word_by true (has_index_of (next_held can) s m.0 m.1 m.2)) ∙ m.3)
        | inr u ↦ inr u
      ];
    }

    -- ---- the word

    abbrev Used : ℕ → Bool
    Used = is_used g x held done (now_words can) s

    free_at : (class : ℕ) → class < 2048 → IsHeld (next_held can) (single s class) → Used (number_at g (before can) class) ≡ false
    free_at class below h = by_cases (Used (number_at g (before can) class))
        (λ t. absurd (let u = used_by_other can (number_at g (before can) class) t in
        elim (set_or_unset (cell_at g (before can - 1) class)) [
          | inl m ↦ set_apart (cell_at g (before can - 1) class) m u
          | inr m ↦ not_both can (cell_at g (before can - 1) class) (record {
            class = class;
            below = below;
            holds = λ none. h (holds_before (cell_at g (before can - 1) class) class m refl ∙ none);
            at = refl;
          }) u
        ]))
        (λ f. f)

    stays : (has_index held s && fits g Used (indexes (next_held can) s) (x (place_of s) - 1)) ≡ true
    stays = and_from (has_index held s) (fits g Used (indexes (next_held can) s) (x (place_of s) - 1)) placed
        (subst (λ w. fits g Used (indexes (next_held can) s) (w - 1) ≡ true) before_is
        (all_free g Used (before can - 1) (indexes (next_held can) s)
        (all_indexes (λ class. Used (width_of g * (before can - 1) + class) ≡ false) (next_held can) s 2048 free_at)))

    chosen : (b : Bool) → has_index (next_held can) s ≡ b
        → HasWord g (x (place_of s)) Used (indexes (next_held can) s) b (has_index held s && fits g Used (indexes (next_held can) s) (x (place_of s) - 1)) word
    chosen false e = word_by false e
    chosen true e = subst (λ b. HasWord g (x (place_of s)) Used (indexes (next_held can) s) true b word) (sym stays) (word_by true e ∙ before_is)

    done_before : Done can word now after
    done_before = record {
      places = placed_next can word now in_place (chosen (has_index (next_held can) s) refl) (λ e. subst (HasRoom g) (sym (word_by true e)) room);
      used = after_used;
      rest = in_place.rest;
      word_is = in_place.word_is;
    }

  pub stay_done : (not (given == 0) && list_all (is_open g x s given tried) own) ≡ true
      → (word : ℕ) (now : Reading) (after : ℕ → Bool) → IsChangedInPlace g x s given own word d now tried after → Done can word now after
  stay_done e word now after made =
      let parts = and_parts (not (before can == 0)) (list_all (is_open g x s (before can) tried) own)
      (subst (λ b. (not (b == 0) && list_all (is_open g x s b tried) own) ≡ true) can.word e) in
      done_before parts.1 (not-true (before can == 0) parts.0) word now after (subst (λ b. IsChangedInPlace g x s b own word d now tried after) can.word made)
