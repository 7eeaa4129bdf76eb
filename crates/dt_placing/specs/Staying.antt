-- The turn of a selector that stays at its place: its changes alone are set there.
use Rattle.std.specs.Prelude.{◌≡◌, ◌⊎◌, ℕ, ◌-◌, ◌<◌, ◌==◌, ◌||◌, not, Bool, true, false, if◌then◌else◌, List, [], ◌∷◌, get_or}
use Rattle.std.specs.List.{list_any}
use Rattle.dt_pages.specs.Reading.{Reading}
use Rattle.dt_scratch.specs.declared.reply.Change.{Change}
use Rattle.dt_cells.specs.Regions.{class_numbers, place_of}
use Rattle.dt_cells.specs.Cell.{cell_word}
use Rattle.dt_fit.specs.declared.geometry.Geometry.{Geometry}
use Rattle.dt_placing.specs.Placing.{cell_at, tag_of}
use Rattle.dt_placing.specs.Turn.{number_at, is_own}

-- the class of a change of a query of one class
abbrev pub class_of : Change → ℕ
class_of change = get_or change.query.classes 0 0

-- whether the cell of the change's class at the place is the selector's own, or not used
abbrev pub is_open : Geometry → Reading → ℕ → ℕ → (ℕ → Bool) → Change → Bool
is_open geometry x selector before used change =
    is_own geometry x selector before (class_of change) || not (used (number_at geometry before (class_of change)))

-- the changes have their values at their places, and the rest is as before; where two are of one place, the first stands
abbrev pub laid_by : {T : Type 0} → (Change → ℕ) → (Change → T) → List Change → (ℕ → T) → ℕ → T
laid_by at value [] before place = before place
laid_by at value (change ∷ changes) before place = if place == at change then value change else laid_by at value changes before place

-- whether a cell of a change at the place, or one that was the selector's own, is used
abbrev pub HasCell : Geometry → Reading → ℕ → ℕ → List Change → (ℕ → Bool) → Bool → Type 0
HasCell geometry x selector before own used true = (list_any (λ change. used (number_at geometry before (class_of change))) own ≡ true)
    ⊎ ((class : ℕ) × (class < class_numbers) × (is_own geometry x selector before class ≡ true) × (used (number_at geometry before class) ≡ true))
HasCell geometry x selector before own used false = (list_any (λ change. used (number_at geometry before (class_of change))) own ≡ false)
    × ((class : ℕ) → class < class_numbers → is_own geometry x selector before class ≡ true → used (number_at geometry before class) ≡ false)

-- the changes are set at the place; the place word stays, or is 0 where the selector has no cell there any more
pub record IsChangedInPlace (geometry : Geometry) (x : Reading) (selector before : ℕ) (own : List Change) (word : ℕ) (d now : Reading) (used after : ℕ → Bool) : Type 0 where
  pub laid : Reading
  pub has_cell : Bool
  pub words : (address : ℕ) → laid address
      ≡ laid_by (λ change. cell_at geometry (before - 1) (class_of change)) (λ change. cell_word (tag_of selector) change.answer) own d address
  pub cells : (cell : ℕ) → after cell
      ≡ laid_by (λ change. number_at geometry before (class_of change)) (λ change. not (cell_word (tag_of selector) change.answer == 0)) own used cell
  pub cell : HasCell geometry x selector before own after has_cell
  pub word_is : word ≡ (if has_cell then before else 0)
  pub places : (address : ℕ) → now address ≡ (if address == place_of selector then word else laid address)
