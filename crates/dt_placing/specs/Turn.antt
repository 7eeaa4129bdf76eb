-- One turn: a selector's cells are taken away from one place and laid at another.
use Rattle.std.specs.Prelude.{◌≡◌, ◌≢◌, ◌⊎◌, ℕ, zero, suc, ◌+◌, ◌-◌, ◌*◌, ◌/◌, ◌^◌, ◌<◌, ◌==◌, ◌&&◌, ◌||◌, not, Bool, true, false, if◌then◌else◌, List, [], ◌∷◌, ◌++◌, length, get_or, All}
use Rattle.std.specs.List.Sorted.{IsStrictlySortedBy}
use Rattle.dt_pages.specs.Reading.{Reading}
use Rattle.dt_scratch.specs.Query.{query_order}
use Rattle.dt_scratch.specs.declared.reply.Change.{Change}
use Rattle.dt_cells.specs.Regions.{class_numbers, selector_numbers, place_of}
use Rattle.dt_cells.specs.Held.{Held, IsStageableChange, is_changed}
use Rattle.dt_fit.specs.declared.geometry.Geometry.{Geometry}
use Rattle.dt_fit.specs.Geometry.{width_of}
use Rattle.dt_fit.specs.Rows.{PlacedRow, AreRows, AreCellsOf}
use Rattle.dt_fit.specs.Cells.{Cells, is_tried}
use Rattle.dt_placing.specs.declared.staged.StagedWord.{StagedWord}
use Rattle.dt_placing.specs.Placing.{cell_at, owns, tag_of, with_words, Shows, word_kept, AreUsed, Places}

-- the word of a selector's own cell of a class, where it has this place word; 0 where it has no such cell
abbrev pub own_word : Geometry → Reading → ℕ → ℕ → ℕ → ℕ
own_word geometry x selector word class =
    if word == 0 then 0
    else (if x (cell_at geometry (word - 1) class) / 2 ^ 32 == tag_of selector then x (cell_at geometry (word - 1) class) else 0)

-- the classes below a bound that have a word in a row, ascending
unfoldable pub used_in_row : List ℕ → ℕ → List ℕ
used_in_row row zero = []
used_in_row row (suc class) = used_in_row row class ++ (if get_or row class 0 == 0 then [] else class ∷ [])

-- the classes that pass a test have the values of a list at their places, and nothing else is another than before
abbrev pub Laid : {T : Type 0} → (ℕ → ℕ) → (ℕ → Bool) → (ℕ → T) → ℕ → (ℕ → T) → (ℕ → T) → Type 0
Laid at passes value bound before now = (place : ℕ)
    → ((class : ℕ) × (class < bound) × (passes class ≡ true) × (at class ≡ place) × (now place ≡ value class))
    ⊎ (((class : ℕ) → class < bound → passes class ≡ true → at class ≢ place) × (now place ≡ before place))

-- the number of the cell of a class at the place of a place word
abbrev pub number_at : Geometry → ℕ → ℕ → ℕ
number_at geometry word class = width_of geometry * (word - 1) + class

-- whether the class has a cell of the selector's own, and whether that has to be cleared for a row with another word
abbrev pub is_own : Geometry → Reading → ℕ → ℕ → ℕ → Bool
is_own geometry x selector before class = not (own_word geometry x selector before class == 0)

abbrev pub is_in_row : List ℕ → ℕ → Bool
is_in_row row class = not (get_or row class 0 == 0)

abbrev pub is_cleared : Geometry → Reading → ℕ → ℕ → ℕ → List ℕ → ℕ → Bool
is_cleared geometry x selector before word row class =
    is_own geometry x selector before class && (not (word == before) || get_or row class 0 == 0)

-- the selector's cells and its place word are set anew
pub record IsLaidAnew (geometry : Geometry) (x : Reading) (selector before word : ℕ) (row : List ℕ) (d now : Reading) : Type 0 where
  pub cleared : Reading
  pub laid : Reading
  pub clears : Laid (cell_at geometry (before - 1)) (is_cleared geometry x selector before word row) (λ class. 0) class_numbers d cleared
  pub lays : Laid (cell_at geometry (word - 1)) (is_in_row row) (λ class. get_or row class 0) class_numbers cleared laid
  pub places : (address : ℕ) → now address ≡ (if address == place_of selector then word else laid address)

-- how many changes are of the selector before one that isn't
abbrev pub run_of : ℕ → List Change → ℕ
run_of selector [] = 0
run_of selector (change ∷ changes) = if change.query.selector == selector then suc (run_of selector changes) else 0

-- it is the turn of a selector: earlier turns are over, and these are its changes
pub record CanTurn (geometry : Geometry) (tried : ℕ → Bool) (x : Reading) (held : Held) (done own : List Change) (selector before : ℕ) (d : Reading) : Type 0 where
  pub shows : Shows geometry x held
  pub word : before ≡ word_kept x held selector
  pub range : selector < selector_numbers
  pub earlier : All (IsStageableChange 1 1) done
  pub below : (other : ℕ) → is_changed done other ≡ true → other < selector
  pub each : All (IsStageableChange 1 1) own
  pub own_each : All (λ change. change.query.selector ≡ selector) own
  pub some : is_changed own selector ≡ true
  pub places : Places geometry x held done d
  pub used : AreUsed tried d

-- how the words and the used cells change in a turn
pub record Turned (geometry : Geometry) (x : Reading) (selector before word : ℕ) (row : List ℕ) (d now : Reading) (used freed taken : ℕ → Bool) : Type 0 where
  pub frees : Laid (number_at geometry before) (is_own geometry x selector before) (λ class. false) class_numbers used freed
  pub anew : IsLaidAnew geometry x selector before word row d now
  pub takes : Laid (number_at geometry word) (is_in_row row) (λ class. true) class_numbers freed taken

-- a turn is over: the changes up to it are placed, its word stands in the selector's place word, and no further word is set
pub record IsOver (geometry : Geometry) (x : Reading) (own : List Change) (selector before word : ℕ) (d now : Reading) (used after : ℕ → Bool) : Type 0 where
  pub placed : (held : Held) (done : List Change) → CanTurn geometry used x held done own selector before d
      → Places geometry x held (done ++ own) now × AreUsed after now
  pub word_is : word ≡ now (place_of selector)
  pub rest : (address : ℕ) → owns address ≡ false → address ≢ place_of selector → now address ≡ d address

-- the cells that aren't the selector's own are those of fewer rows than there are selectors
pub record HasOthers (geometry : Geometry) (x : Reading) (selector before : ℕ) (used : ℕ → Bool) : Type 0 where
  pub rows : List PlacedRow
  pub few : length rows < selector_numbers
  pub are_rows : AreRows rows
  pub cells : (freed : ℕ → Bool) → Laid (number_at geometry before) (is_own geometry x selector before) (λ class. false) class_numbers used freed
      → AreCellsOf geometry rows freed

-- changes may be placed turn by turn: a reading shows what is held, whose used cells and place words these are, and the draft
-- has its words
pub record CanTakeTurns (geometry : Geometry) (cells : Cells) (kept_words : List ℕ) (x d : Reading) (held : Held) (changes : List Change) : Type 0 where
  pub shows : Shows geometry x held
  pub used : AreUsed (is_tried cells) x
  pub words : (selector : ℕ) → selector < selector_numbers → get_or kept_words selector 0 ≡ word_kept x held selector
  pub untouched : (address : ℕ) → owns address ≡ true → d address ≡ x address
  pub each : All (IsStageableChange 1 1) changes
  pub ascending : IsStrictlySortedBy (λ a b. query_order a.query b.query) changes

-- the words that are staged are the place words of the selectors that had their turn
pub record AreWordsOf (words : List ℕ) (done : List Change) (d : Reading) (staged : List StagedWord) : Type 0 where
  pub changed : (selector : ℕ) → selector < selector_numbers → is_changed done selector ≡ true → get_or (with_words staged words) selector 0 ≡ d (place_of selector)
  pub others : (selector : ℕ) → selector < selector_numbers → is_changed done selector ≡ false → get_or (with_words staged words) selector 0 ≡ get_or words selector 0
