-- Placing: the cells of a selector are a row that has a place as a whole, the lowest at which they are free when the
-- selector's turn comes. Places are colours or displacements.
use Rattle.std.specs.Prelude.{◌≡◌, ◌≢◌, ℕ, zero, suc, ◌+◌, ◌-◌, ◌*◌, ◌^◌, ◌<◌, ◌&&◌, ◌==◌, not, get_or, set, Bool, true, false, nat_le, nat_lt, if◌then◌else◌, List, [], ◌∷◌}
use Rattle.dt_pages.specs.Reading.{Reading, addresses}
use Rattle.dt_scratch.specs.Query.{Query, arity_of_query}
use Rattle.dt_scratch.specs.declared.reply.Answer.{Answer}
use Rattle.dt_scratch.specs.declared.reply.Answer.TheVariants.{NotUnderstood}
use Rattle.dt_scratch.specs.declared.reply.Change.{Change}
use Rattle.dt_cells.specs.Regions.{class_numbers, selector_numbers, single_cells, place_of}
use Rattle.dt_cells.specs.Cell.{cell_word, answer_of_word}
use Rattle.dt_cells.specs.Held.{Held, IsHeld, IsInRange, HasBodyInRange, held_after, is_changed, IsStageable}
use Rattle.dt_cells.specs.Kind.{Kind}
use Rattle.dt_fit.specs.declared.geometry.Geometry.{Geometry}
use Rattle.dt_fit.specs.declared.geometry.Geometry.TheVariants.{Colours, Displacements}
use Rattle.dt_fit.specs.Geometry.{width_of}
use Rattle.dt_fit.specs.Fits.{fits, IsLowest}
use Rattle.dt_fit.specs.Rows.{PlacedRow, rows_use}
use Rattle.dt_fit.specs.Cells.{Cells, is_kept, is_tried}
use Rattle.dt_placing.specs.declared.staged.StagedWord.{StagedWord}
use Rattle.dt_placing.specs.Rows.{single, indexes, has_index, others_below}

-- the cells end here
abbrev pub cells_end : ℕ
cells_end = 2 ^ 25

-- the cell of a class at a place
abbrev pub cell_at : Geometry → ℕ → ℕ → ℕ
cell_at geometry place class = single_cells + (width_of geometry * place + class)

-- whether the address is that of a cell of this kind
abbrev pub owns : ℕ → Bool
owns address = nat_le single_cells address && nat_lt address cells_end

-- the tag of a selector's cells
abbrev pub tag_of : ℕ → ℕ
tag_of selector = selector + 1

-- ---- how a query is read

-- the answer by the cell of a class, where the selector has this place word; a cell past the last address isn't read
abbrev pub answer_at : Geometry → Reading → ℕ → ℕ → ℕ → Answer
answer_at geometry x selector zero class = NotUnderstood
answer_at geometry x selector (suc place) class =
    if nat_lt (cell_at geometry place class) addresses
    then answer_of_word (tag_of selector) (x (cell_at geometry place class)) else NotUnderstood

-- the answer by the place word and the one cell
abbrev pub part_by : Geometry → Reading → ℕ → List ℕ → Answer
part_by geometry x selector (class ∷ []) = answer_at geometry x selector (x (place_of selector)) class
part_by geometry x selector _ = NotUnderstood

-- where the query is read
abbrev pub way_by : Geometry → Reading → ℕ → List ℕ → ℕ
way_by geometry x selector [] = 0
way_by geometry x selector (class ∷ classes) = cell_at geometry (x (place_of selector) - 1) class

-- ---- what a reading shows

-- the used cells are those of what is held, where selectors have these place words
pub record AreCells (geometry : Geometry) (words : ℕ → ℕ) (held : Held) (x : Reading) : Type 0 where
  pub set : (selector class : ℕ) → class < class_numbers → IsHeld held (single selector class)
      → x (cell_at geometry (words selector - 1) class) ≡ cell_word (tag_of selector) (held (single selector class))
  pub used : (address : ℕ) → owns address ≡ true → x address ≢ 0
      → (selector : ℕ) × (class : ℕ) × (class < class_numbers) × IsHeld held (single selector class)
      × (cell_at geometry (words selector - 1) class ≡ address)

-- colours and displacements are below this number, so that at each the cells of all classes lie in the region
abbrev pub place_numbers : Geometry → ℕ
place_numbers Colours = 4096
place_numbers Displacements = 2 ^ 24 - 2048

-- a place word is of such a place
pub record HasRoom (geometry : Geometry) (word : ℕ) : Type 0 where
  pub some : 0 < word
  pub within : word - 1 < place_numbers geometry

-- what is held are queries of one class, with numbers in range; selectors that some class understands have a place; and
-- the cells are theirs
pub record Shows (geometry : Geometry) (x : Reading) (held : Held) : Type 0 where
  pub range : (q : Query) → IsHeld held q → IsInRange q
  pub one : (q : Query) → IsHeld held q → arity_of_query q ≡ 1
  pub body : (q : Query) → HasBodyInRange (held q)
  pub room : (selector : ℕ) → has_index held selector ≡ true → HasRoom geometry (x (place_of selector))
  pub cells : AreCells geometry (λ selector. x (place_of selector)) held x

-- ---- placing the changes of a batch

-- the place words after the changes: those of a reading where the selector has a change, else those before
abbrev pub words_after : Reading → List Change → Reading → ℕ → ℕ
words_after x changes y selector = if is_changed changes selector then y (place_of selector) else x (place_of selector)

-- the row of a selector when the turn of another, or its own, comes: turns are taken in ascending order
abbrev pub row_at : Reading → Held → List Change → (ℕ → ℕ) → ℕ → ℕ → PlacedRow
row_at x held changes words turn selector =
    if nat_lt selector turn then record { place = words selector - 1; indexes = indexes (held_after held changes) selector }
    else record { place = x (place_of selector) - 1; indexes = indexes held selector }

-- whether a cell is used by another selector when the turn of this one comes
abbrev pub is_used : Geometry → Reading → Held → List Change → (ℕ → ℕ) → ℕ → ℕ → Bool
is_used geometry x held changes words turn cell =
    rows_use geometry (others_below (row_at x held changes words turn) turn selector_numbers) cell

-- whether the selector has a place at which none of the cells that it needs after is used by another
abbrev pub may_stay : Geometry → Reading → Held → List Change → (ℕ → ℕ) → ℕ → Bool
may_stay geometry x held changes words selector =
    has_index held selector
    && fits geometry (is_used geometry x held changes words selector) (indexes (held_after held changes) selector) (x (place_of selector) - 1)

-- the place word after, by whether some class understands the selector after, and by whether its place may stay
abbrev pub HasWord : Geometry → ℕ → (ℕ → Bool) → List ℕ → Bool → Bool → ℕ → Type 0
HasWord geometry before used needed false stays word = word ≡ 0
HasWord geometry before used needed true true word = word ≡ before
HasWord geometry before used needed true false word = (place : ℕ) × (word ≡ place + 1) × IsLowest (fits geometry used needed) place

-- the place word of a selector with a change is right
abbrev pub IsPlaced : Geometry → Reading → Held → List Change → (ℕ → ℕ) → ℕ → Type 0
IsPlaced geometry x held changes words selector =
    HasWord geometry (x (place_of selector)) (is_used geometry x held changes words selector) (indexes (held_after held changes) selector)
    (has_index (held_after held changes) selector) (may_stay geometry x held changes words selector) (words selector)

-- each selector with a change is placed, all cells stay in the region, and they are those of what is held after
pub record Places (geometry : Geometry) (x : Reading) (held : Held) (changes : List Change) (y : Reading) : Type 0 where
  pub turns : (selector : ℕ) → is_changed changes selector ≡ true
      → IsPlaced geometry x held changes (words_after x changes y) selector
  pub room : (selector : ℕ) → has_index (held_after held changes) selector ≡ true → HasRoom geometry (words_after x changes y selector)
  pub cells : AreCells geometry (words_after x changes y) (held_after held changes) y

-- ---- what a value keeps

-- what a value keeps: the place word of each selector, 0 where it has no place in this kind, and the used cells
pub record Kept : Type 0 where
  pub words : List ℕ
  pub cells : Cells

-- the cells of the region that are used are those with a word
abbrev pub AreUsed : (ℕ → Bool) → Reading → Type 0
AreUsed used x = (cell : ℕ) → used cell ≡ (owns (single_cells + cell) && not (x (single_cells + cell) == 0))

-- a selector's word as it is kept
abbrev pub word_kept : Reading → Held → ℕ → ℕ
word_kept x held selector = if has_index held selector then x (place_of selector) else 0

-- whether the selector has a place
abbrev pub has_place : Kept → ℕ → Bool
has_place kept selector = nat_lt selector selector_numbers && not (get_or kept.words selector 0 == 0)

-- the value stands for a reading with what is held
pub record Stands (geometry : Geometry) (kept : Kept) (x : Reading) (held : Held) : Type 0 where
  pub shows : Shows geometry x held
  pub geometry_is : kept.cells.geometry ≡ geometry
  pub words : (selector : ℕ) → selector < selector_numbers → get_or kept.words selector 0 ≡ word_kept x held selector
  pub cells : AreUsed (is_kept kept.cells) x

-- words that are put in place of others
abbrev pub with_words : List StagedWord → List ℕ → List ℕ
with_words [] words = words
with_words (staged ∷ more) words = with_words more (set words staged.selector staged.word)

-- what a stage left: the words and cells after the changes
pub record Follows (geometry : Geometry) (kept : Kept) (staged : List StagedWord) (x : Reading) (held : Held) (changes : List Change) : Type 0 where
  pub stageable : IsStageable 1 1 held changes
  pub reading : Reading
  pub places : Places geometry x held changes reading
  pub words : (selector : ℕ) → selector < selector_numbers → get_or (with_words staged kept.words) selector 0
      ≡ (if has_index (held_after held changes) selector then words_after x changes reading selector else 0)
  pub cells : AreUsed (is_tried kept.cells) reading

-- ---- the kind

abbrev pub placing : Geometry → Kind
placing geometry = record {
  arities = 1;
  most_low = 1;
  has_places = true;
  owns = owns;
  part = λ x q. part_by geometry x q.selector q.classes;
  placed = λ held selector. has_index held selector ≡ true;
  way = λ x q n. way_by geometry x q.selector q.classes;
  shows = Shows geometry;
  places = Places geometry;
}
