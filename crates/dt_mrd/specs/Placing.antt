-- Placing: each row of a selector gets a displacement of its own, the lowest at which its cells are free when its turn
-- comes; rows that still fit stay where they are.
use Rattle.std.specs.Prelude.{◌≡◌, ◌≢◌, ◌⊎◌, ℕ, ◌+◌, ◌-◌, ◌*◌, ◌^◌, ◌<◌, ◌≤◌, true, false, if◌then◌else◌, List}
use Rattle.dt_pages.specs.Reading.{Reading}
use Rattle.dt_scratch.specs.Query.{Query, arity_of_query}
use Rattle.dt_scratch.specs.declared.reply.Answer.{Answer}
use Rattle.dt_scratch.specs.declared.reply.Answer.TheVariants.{Method, NotUnderstood, Ambiguous}
use Rattle.dt_scratch.specs.declared.reply.Change.{Change}
use Rattle.dt_cells.specs.Regions.{place_of}
use Rattle.dt_cells.specs.Held.{Held, IsHeld, IsInRange, HasBodyInRange, HasOneArity, Row, held_after, is_changed}
use Rattle.dt_cells.specs.Kind.{Kind}
use Rattle.dt_placing.specs.Rows.{is_understood}
use Rattle.dt_mrd.specs.Rows.{sent, root, next_row, HasIndex, IsRow, comes_before}
use Rattle.dt_mrd.specs.Reading.{owns, cell_at, part_by, way_along, tag_read}

-- ---- what a reading shows

-- what may be held: queries of one to four classes with numbers in range, all of a selector of one arity
pub record IsTabled (held : Held) : Type 0 where
  pub range : (q : Query) → IsHeld held q → IsInRange q
  pub some : (q : Query) → IsHeld held q → 1 ≤ arity_of_query q
  pub few : (q : Query) → IsHeld held q → arity_of_query q ≤ 4
  pub body : (q : Query) → HasBodyInRange (held q)
  pub one_arity : HasOneArity held

-- displacements are below this number, so that at each the cells of all classes lie in the master array
abbrev pub displacements : ℕ
displacements = 2 ^ 26 - 2048

-- a tag is that of such a displacement
pub record HasRoom (tag : ℕ) : Type 0 where
  pub some : 0 < tag
  pub within : tag - 1 < displacements

-- the code of an answer
abbrev pub code_of_answer : Answer → ℕ
code_of_answer NotUnderstood = 0
code_of_answer Ambiguous = 1
code_of_answer (Method body) = body + 2

-- the code of the cell of a class in a row: that of the answer where the query ends with this class, else the tag of the row
-- to which the class leads
abbrev pub code_of : Held → (Row → ℕ) → Row → ℕ → ℕ
code_of held tags row class =
    if is_understood (held (sent row.0 (next_row row class).1)) then code_of_answer (held (sent row.0 (next_row row class).1))
    else tags (next_row row class)

-- the used cells are those of the used indexes of the rows of what is held, where rows have these tags
pub record AreCells (tags : Row → ℕ) (held : Held) (x : Reading) : Type 0 where
  pub set : (row : Row) (class : ℕ) → HasIndex held row class
      → x (cell_at (tags row) class) ≡ tags row * 2 ^ 32 + code_of held tags row class
  pub used : (address : ℕ) → owns address ≡ true → x address ≢ 0
      → (row : Row) × (class : ℕ) × HasIndex held row class × (cell_at (tags row) class ≡ address)

-- no two rows have the same displacement
abbrev pub AreApart : (Row → ℕ) → Held → Type 0
AreApart tags held = (row other : Row) → IsRow held row → IsRow held other → tags row ≡ tags other → row ≡ other

-- rows have displacements of their own, as they are read, and the cells are theirs
pub record Shows (x : Reading) (held : Held) : Type 0 where
  pub tabled : IsTabled held
  pub room : (row : Row) → IsRow held row → HasRoom (tag_read x row)
  pub apart : AreApart (tag_read x) held
  pub cells : AreCells (tag_read x) held x

-- ---- placing the changes of a batch

-- what the rows are and which tags they have: before the changes, and after them
pub record Rows : Type 0 where
  pub held : Held
  pub next : Held
  pub before : Row → ℕ
  pub after : Row → ℕ

-- When the turn of a row comes, another row has this tag: one whose turn is over has its new tag, and one that waits has
-- its old tag, if it is still a row.
abbrev pub HasTag : Rows → Row → Row → ℕ → Type 0
HasTag rows turn row tag =
    ((comes_before row turn ≡ true) × IsRow rows.next row × (rows.after row ≡ tag))
    ⊎ ((comes_before turn row ≡ true) × IsRow rows.held row × IsRow rows.next row × (rows.before row ≡ tag))

-- When the turn of a row comes, another row, with this tag, has a cell for the class: one whose turn is over has its new
-- indexes, and one that waits has those of its old indexes that are used still.
abbrev pub HasCell : Rows → Row → Row → ℕ → ℕ → Type 0
HasCell rows turn row tag class =
    ((comes_before row turn ≡ true) × HasIndex rows.next row class × (rows.after row ≡ tag))
    ⊎ ((comes_before turn row ≡ true) × HasIndex rows.held row class × HasIndex rows.next row class × (rows.before row ≡ tag))

-- a cell is used by another row when the turn of a row comes
abbrev pub IsUsed : Rows → Row → ℕ → Type 0
IsUsed rows turn cell = (row : Row) × (tag : ℕ) × (class : ℕ) × HasCell rows turn row tag class × (cell_at tag class ≡ cell)

-- with this tag none of the cells that a row needs after is used by another row
abbrev pub Fits : Rows → Row → ℕ → Type 0
Fits rows turn tag = (class : ℕ) → HasIndex rows.next turn class → IsUsed rows turn (cell_at tag class) → ⊥

-- it fits, and no other row has this tag
pub record FitsAlone (rows : Rows) (turn : Row) (tag : ℕ) : Type 0 where
  pub fits : Fits rows turn tag
  pub alone : (row : Row) → HasTag rows turn row tag → ⊥

-- the lowest tag with which it does
pub record IsLowestTag (rows : Rows) (turn : Row) (tag : ℕ) : Type 0 where
  pub some : 0 < tag
  pub fits : FitsAlone rows turn tag
  pub none_below : (lower : ℕ) → 0 < lower → lower < tag → FitsAlone rows turn lower → ⊥

-- a row that has a displacement already, and fits there still
abbrev pub MayStay : Rows → Row → Type 0
MayStay rows turn = IsRow rows.held turn × Fits rows turn (rows.before turn)

-- a row is placed with this tag: it stays where it may, and else has the lowest displacement
abbrev pub IsPlaced : Rows → Row → ℕ → Type 0
IsPlaced rows turn tag =
    (MayStay rows turn × (tag ≡ rows.before turn)) ⊎ ((MayStay rows turn → ⊥) × IsLowestTag rows turn tag)

-- a selector's place word is the tag of the row of its empty prefix, or 0 where it has no row
abbrev pub HasPlaceWord : Held → (Row → ℕ) → ℕ → ℕ → Type 0
HasPlaceWord held tags selector word =
    (IsRow held (root selector) × (word ≡ tags (root selector))) ⊎ ((IsRow held (root selector) → ⊥) × (word ≡ 0))

-- the rows of a batch, where the rows after it have these tags
abbrev pub rows_of : Reading → Held → List Change → (Row → ℕ) → Rows
rows_of x held changes tags = record { held = held; next = held_after held changes; before = tag_read x; after = tags }

-- the rows after the changes have tags: each row of a selector with a change is placed in its turn, every other keeps its
-- own; and place words and cells are those of the rows
pub record Places (x : Reading) (held : Held) (changes : List Change) (y : Reading) : Type 0 where
  pub tabled : IsTabled (held_after held changes)
  pub tags : Row → ℕ
  pub turns : (row : Row) → is_changed changes row.0 ≡ true → IsRow (held_after held changes) row
      → IsPlaced (rows_of x held changes tags) row (tags row)
  pub others : (row : Row) → is_changed changes row.0 ≡ false → IsRow (held_after held changes) row → tags row ≡ tag_read x row
  pub room : (row : Row) → IsRow (held_after held changes) row → HasRoom (tags row)
  pub apart : AreApart tags (held_after held changes)
  pub roots : (selector : ℕ) → is_changed changes selector ≡ true
      → HasPlaceWord (held_after held changes) tags selector (y (place_of selector))
  pub cells : AreCells tags (held_after held changes) y

-- ---- the kind

abbrev pub mrd : Kind
mrd = record {
  arities = 4;
  most_low = 4;
  has_places = true;
  owns = owns;
  part = λ x q. part_by x q.selector q.classes;
  placed = λ held selector. IsRow held (root selector);
  way = λ x q n. way_along x (x (place_of q.selector)) q.classes n;
  shows = Shows;
  places = Places;
}
