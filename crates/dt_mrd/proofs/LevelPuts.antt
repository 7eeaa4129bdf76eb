-- What changes, and rows that had their turns, make of the cell of one class.
use Rattle.std.proofs.Common.{◌≡◌, ◌==◌, ℕ, Bool, true, false, if◌then◌else◌, List, [], ◌∷◌, Option, Some, None, inl, inr, refl, sym, ap, subst, ◌∙◌}
use Rattle.std.proofs.lemmas.Bool.{eqb-true, eq-eqb, true≢false}
use Rattle.dt_scratch.specs.Query.{Query}
use Rattle.dt_scratch.specs.declared.reply.Change.{Change}
use Rattle.dt_cells.specs.HeldLaws.{by_cases, if_true, if_false}
use Rattle.dt_placing.specs.Rows.{is_understood}
use Rattle.dt_mrd.specs.declared.kept_row.Next.{Next}
use Rattle.dt_mrd.specs.declared.kept_row.Next.TheVariants.{Answer as LeadsToAnswer, Row as LeadsToRow}
use Rattle.dt_mrd.specs.declared.turn.Turn.{Turn}
use Rattle.dt_mrd.specs.Placing.{code_of_answer}
use Rattle.dt_mrd.specs.Changing.{Cells, class_at, put_at, is_answer, is_row, change_put, changes_put, lead_put, turn_put, turns_put}
use Rattle.dt_mrd.proofs.LevelLists.{Has}

-- what the cell of a change's class is after it
abbrev pub cell_changed : Change → Option Next → Option Next
cell_changed change next =
    if is_understood change.answer then Some (LeadsToAnswer (code_of_answer change.answer)) else (if is_answer next then None else next)

-- what the cell of a row that had its turn is after it
abbrev pub cell_led : Option ℕ → Option Next → Option Next
cell_led (Some key) next = Some (LeadsToRow key)
cell_led None next = if is_row next then None else next

put_itself : (cells : Cells) (class : ℕ) (next : Option Next) → put_at cells class next class ≡ next
put_itself cells class next = if_true (class == class) next (cells class) (eq-eqb class class refl)

put_other : (cells : Cells) (class : ℕ) (next : Option Next) (other : ℕ) → (other == class) ≡ false → put_at cells class next other ≡ cells other
put_other cells class next other e = if_false (other == class) next (cells other) e

pub change_itself : (depth : ℕ) (cells : Cells) (change : Change) → change_put cells depth change (class_at change.query.classes depth) ≡ cell_changed change (cells (class_at change.query.classes depth))
change_itself depth cells change = go (is_understood change.answer) (is_answer (cells (class_at change.query.classes depth)))
  where
    go : (u v : Bool) → (if u then put_at cells (class_at change.query.classes depth) (Some (LeadsToAnswer (code_of_answer change.answer)))
        else (if v then put_at cells (class_at change.query.classes depth) None else cells)) (class_at change.query.classes depth)
        ≡ (if u then Some (LeadsToAnswer (code_of_answer change.answer)) else (if v then None else cells (class_at change.query.classes depth)))
    go true v = put_itself cells (class_at change.query.classes depth) (Some (LeadsToAnswer (code_of_answer change.answer)))
    go false true = put_itself cells (class_at change.query.classes depth) None
    go false false = refl

pub change_other : (depth : ℕ) (cells : Cells) (change : Change) (other : ℕ) → (other == class_at change.query.classes depth) ≡ false → change_put cells depth change other ≡ cells other
change_other depth cells change other e = go (is_understood change.answer) (is_answer (cells (class_at change.query.classes depth)))
  where
    go : (u v : Bool) → (if u then put_at cells (class_at change.query.classes depth) (Some (LeadsToAnswer (code_of_answer change.answer)))
        else (if v then put_at cells (class_at change.query.classes depth) None else cells)) other ≡ cells other
    go true v = put_other cells (class_at change.query.classes depth) (Some (LeadsToAnswer (code_of_answer change.answer))) other e
    go false true = put_other cells (class_at change.query.classes depth) None other e
    go false false = refl

pub lead_itself : (depth : ℕ) (cells : Cells) (turn : Turn) → turn_put cells depth turn (class_at turn.query.classes depth) ≡ cell_led turn.new (cells (class_at turn.query.classes depth))
lead_itself depth cells turn = go turn.new
  where
    by_test : (v : Bool) → (if v then put_at cells (class_at turn.query.classes depth) None else cells) (class_at turn.query.classes depth)
        ≡ (if v then None else cells (class_at turn.query.classes depth))
    by_test true = put_itself cells (class_at turn.query.classes depth) None
    by_test false = refl

    go : (new : Option ℕ) → lead_put cells (class_at turn.query.classes depth) new (class_at turn.query.classes depth) ≡ cell_led new (cells (class_at turn.query.classes depth))
    go (Some key) = put_itself cells (class_at turn.query.classes depth) (Some (LeadsToRow key))
    go None = by_test (is_row (cells (class_at turn.query.classes depth)))

pub lead_other : (depth : ℕ) (cells : Cells) (turn : Turn) (other : ℕ) → (other == class_at turn.query.classes depth) ≡ false → turn_put cells depth turn other ≡ cells other
lead_other depth cells turn other e = go turn.new
  where
    by_test : (v : Bool) → (if v then put_at cells (class_at turn.query.classes depth) None else cells) other ≡ cells other
    by_test true = put_other cells (class_at turn.query.classes depth) None other e
    by_test false = refl

    go : (new : Option ℕ) → lead_put cells (class_at turn.query.classes depth) new other ≡ cells other
    go (Some key) = put_other cells (class_at turn.query.classes depth) (Some (LeadsToRow key)) other e
    go None = by_test (is_row (cells (class_at turn.query.classes depth)))

-- ---- several

module _ {T : Type 0} (query : T → Query) (depth : ℕ) where
  -- no two items are of one class
  abbrev pub AreApart : List T → Type 0
  AreApart [] = Unit {0}
  AreApart (first ∷ items) = ((item : T) → Has items item → (class_at (query item).classes depth == class_at (query first).classes depth) ≡ false) × AreApart items

  abbrev pub puts : (Cells → T → Cells) → Cells → List T → Cells
  puts put cells [] = cells
  puts put cells (item ∷ items) = puts put (put cells item) items

  module _ (put : Cells → T → Cells) (result : T → Option Next → Option Next)
      (itself : (cells : Cells) (item : T) → put cells item (class_at (query item).classes depth) ≡ result item (cells (class_at (query item).classes depth)))
      (other : (cells : Cells) (item : T) (class : ℕ) → (class == class_at (query item).classes depth) ≡ false → put cells item class ≡ cells class) where
    pub puts_none : (cells : Cells) (items : List T) (class : ℕ) → ((item : T) → Has items item → (class == class_at (query item).classes depth) ≡ false)
        → puts put cells items class ≡ cells class
    puts_none cells [] class none = refl
    puts_none cells (first ∷ items) class none = puts_none (put cells first) items class (λ item has. none item (inr has)) ∙ other cells first class (none first (inl refl))

    pub puts_one : (cells : Cells) (items : List T) → AreApart items → (item : T) → Has items item
        → puts put cells items (class_at (query item).classes depth) ≡ result item (cells (class_at (query item).classes depth))
    puts_one cells [] apart item has = absurd has
    puts_one cells (first ∷ items) apart item has = elim has [
      | inl is ↦ subst (λ (i : T). puts put (put cells first) items (class_at (query i).classes depth) ≡ result i (cells (class_at (query i).classes depth))) is
          (puts_none (put cells first) items (class_at (query first).classes depth) (λ i later. turned (class_at (query i).classes depth) (class_at (query first).classes depth) (apart.0 i later))
          ∙ itself cells first)
      | inr later ↦ puts_one (put cells first) items apart.1 item later ∙ ap (result item) (other cells first (class_at (query item).classes depth) (apart.0 item later))
    ]
      where
        turned : (a b : ℕ) → (a == b) ≡ false → (b == a) ≡ false
        turned a b e = by_cases (b == a) (λ t. absurd (true≢false (sym (eq-eqb a b (sym (eqb-true b a t))) ∙ e))) (λ f. f)

abbrev pub change_query : Change → Query
change_query change = change.query

abbrev pub turn_query : Turn → Query
turn_query turn = turn.query

changes_are : (depth : ℕ) (cells : Cells) (changes : List Change) (class : ℕ) → changes_put cells depth changes class ≡ puts change_query depth (λ c i. change_put c depth i) cells changes class
changes_are depth cells [] class = refl
changes_are depth cells (change ∷ changes) class = changes_are depth (change_put cells depth change) changes class

turns_are : (depth : ℕ) (cells : Cells) (turns : List Turn) (class : ℕ) → turns_put cells depth turns class ≡ puts turn_query depth (λ c i. turn_put c depth i) cells turns class
turns_are depth cells [] class = refl
turns_are depth cells (turn ∷ turns) class = turns_are depth (turn_put cells depth turn) turns class

pub changes_none : (depth : ℕ) (cells : Cells) (changes : List Change) (class : ℕ) → ((change : Change) → Has changes change → (class == class_at change.query.classes depth) ≡ false)
    → changes_put cells depth changes class ≡ cells class
changes_none depth cells changes class none = changes_are depth cells changes class
    ∙ puts_none change_query depth (λ c i. change_put c depth i) cell_changed (λ c i. change_itself depth c i) (λ c i o e. change_other depth c i o e) cells changes class none

pub changes_one : (depth : ℕ) (cells : Cells) (changes : List Change) → AreApart change_query depth changes → (change : Change) → Has changes change
    → changes_put cells depth changes (class_at change.query.classes depth) ≡ cell_changed change (cells (class_at change.query.classes depth))
changes_one depth cells changes apart change has = changes_are depth cells changes (class_at change.query.classes depth)
    ∙ puts_one change_query depth (λ c i. change_put c depth i) cell_changed (λ c i. change_itself depth c i) (λ c i o e. change_other depth c i o e) cells changes apart change has

pub turns_none : (depth : ℕ) (cells : Cells) (turns : List Turn) (class : ℕ) → ((turn : Turn) → Has turns turn → (class == class_at turn.query.classes depth) ≡ false)
    → turns_put cells depth turns class ≡ cells class
turns_none depth cells turns class none = turns_are depth cells turns class
    ∙ puts_none turn_query depth (λ c i. turn_put c depth i) (λ turn. cell_led turn.new) (λ c i. lead_itself depth c i) (λ c i o e. lead_other depth c i o e) cells turns class none

pub turns_one : (depth : ℕ) (cells : Cells) (turns : List Turn) → AreApart turn_query depth turns → (turn : Turn) → Has turns turn
    → turns_put cells depth turns (class_at turn.query.classes depth) ≡ cell_led turn.new (cells (class_at turn.query.classes depth))
turns_one depth cells turns apart turn has = turns_are depth cells turns (class_at turn.query.classes depth)
    ∙ puts_one turn_query depth (λ c i. turn_put c depth i) (λ turn. cell_led turn.new) (λ c i. lead_itself depth c i) (λ c i o e. lead_other depth c i o e) cells turns apart turn has
