-- A row that had its turn: its cells are those of what is held after the changes.
use Rattle.std.proofs.Common.{◌≡◌, ◌==◌, ℕ, true, false, List, [], ◌∷◌, ◌++◌, Option, Some, None, is_some, ◌⊎◌, inl, inr, refl, sym, ap, subst, ◌∙◌}
use Rattle.std.proofs.lemmas.Bool.{eqb-true, true≢false}
use Rattle.dt_scratch.specs.Query.{Query}
use Rattle.dt_scratch.specs.declared.reply.Change.{Change}
use Rattle.dt_cells.specs.Held.{Held}
use Rattle.dt_cells.specs.HeldLaws.{by_cases}
use Rattle.dt_placing.specs.RowsLaws.{not_understood}
use Rattle.dt_mrd.specs.declared.kept_row.KeptRow.{KeptRow}
use Rattle.dt_mrd.specs.declared.kept_row.Next.{Next}
use Rattle.dt_mrd.specs.declared.kept_row.Next.TheVariants.{Answer as LeadsToAnswer, Row as LeadsToRow}
use Rattle.dt_mrd.specs.declared.turn.Turn.{Turn}
use Rattle.dt_mrd.specs.Rows.{sent, IsRow}
use Rattle.dt_mrd.specs.Placing.{IsTabled}
use Rattle.dt_mrd.specs.Kept.{row_at, next_in, key_of_next}
use Rattle.dt_mrd.specs.Changing.{Cells, class_at, changes_put, turns_put}
use Rattle.dt_mrd.specs.Levels.{KeptAt, IsLaid}
use Rattle.dt_mrd.specs.ReadingLaws.{row_of, index_before, next_is_row}
use Rattle.dt_mrd.proofs.LevelLists.{Has}
use Rattle.dt_mrd.proofs.LevelPuts.{AreApart, change_query, turn_query, changes_none, changes_one, turns_none, turns_one}
use Rattle.dt_mrd.proofs.LevelCell.{answer_at, LeadsOn, IsCell, IsSameBelow, IsMid, IsEnd, mid_changed, mid_same, end_led, end_same}

-- a row is kept under this key, or there is no key and it is no row
pub record IsAt (rows : KeptAt) (key : Option ℕ) (held : Held) (s : ℕ) (p : List ℕ) : Type 0 where
  pub cells : (class : ℕ) → IsCell held s p class (next_in (row_at rows key) class)
  pub there : (k : ℕ) → key ≡ Some k → IsRow held (s, p) × (is_some (rows k) ≡ true)
  pub none : key ≡ None → IsRow held (s, p) → ⊥

-- some item is of the class, or none is
pub of_class : {T : Type 0} (query : T → Query) (depth : ℕ) (items : List T) (class : ℕ)
    → ((item : T) × Has items item × (class_at (query item).classes depth ≡ class))
    ⊎ ((item : T) → Has items item → (class == class_at (query item).classes depth) ≡ false)
of_class query depth [] class = inr (λ item has. absurd has)
of_class query depth (first ∷ items) class = by_cases (class == class_at (query first).classes depth)
    (λ t. inl (first, inl refl, sym (eqb-true class (class_at (query first).classes depth) t)))
    (λ f. elim (of_class query depth items class) [
      | inl found ↦ inl (found.0, inr found.1, found.2)
      | inr none ↦ inr (λ item has. elim has [
        | inl is ↦ subst (λ (i : _). (class == class_at (query i).classes depth) ≡ false) is f
        | inr later ↦ none item later
      ])
    ])

module _ (held next : Held) (tabled : IsTabled held) (tabled_next : IsTabled next) (s : ℕ) where
  -- what is known of the changes and of the rows that had their turns where a row has its turn; 'target' are the keys of the rows
  -- to which it leads after
  pub record IsRowGiven (target : List ℕ → Option ℕ) (depth : ℕ) (p : List ℕ) (cells : Cells) (own : List Change) (led : List Turn) : Type 0 where
    pub cells_are : (class : ℕ) → IsCell held s p class (cells class)
    pub changes_are : (change : Change) → Has own change → (change.query ≡ sent s (p ++ (class_at change.query.classes depth ∷ []))) × (next change.query ≡ change.answer)
    pub changes_apart : AreApart change_query depth own
    pub others : (class : ℕ) → ((change : Change) → Has own change → (class == class_at change.query.classes depth) ≡ false) → answer_at next s p class ≡ answer_at held s p class
    pub led_on : (turn : Turn) → Has led turn → (k : ℕ) → turn.new ≡ Some k → LeadsOn next s p (class_at turn.query.classes depth)
    pub led_off : (turn : Turn) → Has led turn → turn.new ≡ None → LeadsOn next s p (class_at turn.query.classes depth) → ⊥
    pub led_target : (turn : Turn) → Has led turn → target (p ++ (class_at turn.query.classes depth ∷ [])) ≡ turn.new
    pub led_apart : AreApart turn_query depth led
    pub others_led : (class : ℕ) → ((turn : Turn) → Has led turn → (class == class_at turn.query.classes depth) ≡ false)
        → IsSameBelow held next s (p ++ (class ∷ [])) × (target (p ++ (class ∷ [])) ≡ key_of_next (cells class))

  module _ (target : List ℕ → Option ℕ) (depth : ℕ) (p : List ℕ) (cells : Cells) (own : List Change) (led : List Turn) (given : IsRowGiven target depth p cells own led) where
    mid_is : (class : ℕ) → IsMid next s p class (cells class) (changes_put cells depth own class)
    mid_is class = elim (of_class change_query depth own class) [
      | inl found ↦ subst (λ (k : ℕ). IsMid next s p k (cells k) (changes_put cells depth own k)) found.2
          (let is = given.changes_are found.0 found.1 in
          mid_changed next s p (class_at found.0.query.classes depth) (cells (class_at found.0.query.classes depth)) (changes_put cells depth own (class_at found.0.query.classes depth)) found.0
          (ap next (sym is.0) ∙ is.1) (changes_one depth cells own given.changes_apart found.0 found.1))
      | inr none ↦ mid_same held next s p class (cells class) (changes_put cells depth own class) (given.cells_are class) (given.others class none) (changes_none depth cells own class none)
    ]

    pub row_laid : (class : ℕ) → IsEnd next s p class (turns_put (changes_put cells depth own) depth led class) (target (p ++ (class ∷ [])))
    row_laid class = elim (of_class turn_query depth led class) [
      | inl found ↦ subst (λ (k : ℕ). IsEnd next s p k (turns_put (changes_put cells depth own) depth led k) (target (p ++ (k ∷ [])))) found.2
          (let k : ℕ = class_at found.0.query.classes depth in
          subst (λ (key : Option ℕ). IsEnd next s p k (turns_put (changes_put cells depth own) depth led k) key) (sym (given.led_target found.0 found.1))
          (end_led next tabled_next s p k (cells k) (changes_put cells depth own k) (turns_put (changes_put cells depth own) depth led k) found.0.new (mid_is k)
          (turns_one depth (changes_put cells depth own) led given.led_apart found.0 found.1) (given.led_on found.0 found.1) (given.led_off found.0 found.1)))
      | inr none ↦ (let same = given.others_led class none in
          subst (λ (key : Option ℕ). IsEnd next s p class (turns_put (changes_put cells depth own) depth led class) key) (sym same.1)
          (end_same held next tabled tabled_next s p class (cells class) (changes_put cells depth own class) (turns_put (changes_put cells depth own) depth led class)
          (given.cells_are class) (mid_is class) (turns_none depth (changes_put cells depth own) led class none) same.0))
    ]

-- a cell is that of an index
cell_index : (held : Held) (s : ℕ) (p : List ℕ) (class : ℕ) (cell : Option Next) → IsCell held s p class cell → is_some cell ≡ true → IsRow held (s, p)
cell_index held s p class None is some = absurd (true≢false (sym some))
cell_index held s p class (Some (LeadsToAnswer code)) is some = row_of held (s, p) class ([], not_understood (answer_at held s p class) is.0)
cell_index held s p class (Some (LeadsToRow key)) is some = row_of held (s, p) class (index_before held s p class is.1)

abbrev value : ℕ → Option ℕ → ℕ
value other None = other
value other (Some key) = key

-- the row is kept with its cells
pub laid_cells : (rows rows_then : KeptAt) (key : Option ℕ) (cells : Cells) → IsLaid rows key cells rows_then → (class : ℕ) → next_in (row_at rows_then key) class ≡ cells class
laid_cells rows rows_then None cells laid class = sym (laid class)
laid_cells rows rows_then (Some key) cells laid class = ap (λ (r : Option KeptRow). next_in r class) laid.is ∙ laid.cells_are class

pub laid_at : (rows rows_then : KeptAt) (key : Option ℕ) (cells : Cells) (held : Held) (s : ℕ) (p : List ℕ) → IsLaid rows key cells rows_then
    → ((class : ℕ) → IsCell held s p class (cells class)) → IsAt rows_then key held s p
laid_at rows rows_then None cells held s p laid are = record {
  cells = λ class. subst (λ (c : Option Next). IsCell held s p class c) (sym (laid_cells rows rows_then None cells laid class)) (are class);
  there = λ k e. absurd (true≢false (sym (ap is_some e)));
  none = λ e row. (let is = subst (λ (c : Option Next). IsCell held s p row.0 c) (laid row.0) (are row.0) in
      is.1 (next_is_row held s p row.0 row.1 is.0));
}
laid_at rows rows_then (Some key) cells held s p laid are = record {
  cells = λ class. subst (λ (c : Option Next). IsCell held s p class c) (sym (laid_cells rows rows_then (Some key) cells laid class)) (are class);
  there = λ k e. (
    cell_index held s p laid.some.0 (cells laid.some.0) (are laid.some.0) laid.some.1,
    ap (λ n. is_some (rows_then (value key n))) (sym e) ∙ ap is_some laid.is,
  );
  none = λ e row. absurd (true≢false (ap is_some e));
}

-- it is kept so still where nothing that was kept is another
pub still_at : (rows rows_then : KeptAt) (key : Option ℕ) (held : Held) (s : ℕ) (p : List ℕ) → ((k : ℕ) → is_some (rows k) ≡ true → rows_then k ≡ rows k)
    → IsAt rows key held s p → row_at rows_then key ≡ row_at rows key
still_at rows rows_then None held s p kept at = refl
still_at rows rows_then (Some key) held s p kept at = kept key (at.there key refl).1

pub at_still : (rows rows_then : KeptAt) (key : Option ℕ) (held : Held) (s : ℕ) (p : List ℕ) → ((k : ℕ) → is_some (rows k) ≡ true → rows_then k ≡ rows k)
    → IsAt rows key held s p → IsAt rows_then key held s p
at_still rows rows_then key held s p kept at = record {
  cells = λ class. subst (λ (r : Option KeptRow). IsCell held s p class (next_in r class)) (sym (still_at rows rows_then key held s p kept at)) (at.cells class);
  there = λ k e. (let was = at.there k e in (was.0, ap is_some (kept k was.1) ∙ was.1));
  none = at.none;
}
