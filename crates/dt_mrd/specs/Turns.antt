-- The turns of a batch: of which rows they are, in which order, and under which keys the rows are kept before and after.
use Rattle.std.specs.Prelude.{◌≡◌, ◌⊎◌, ℕ, ◌<◌, ◌==◌, ◌&&◌, Bool, true, false, nat_eq, if◌then◌else◌, List, [], ◌∷◌, take, Option, None, Some, All, Contains}
use Rattle.std.specs.List.{list_any}
use lib.Pointwise.{pointwise}
use Rattle.dt_pages.specs.Reading.{Reading}
use Rattle.dt_scratch.specs.Query.{arity_of_query}
use Rattle.dt_scratch.specs.declared.reply.Change.{Change}
use Rattle.dt_cells.specs.Held.{Held, Row, held_after, IsStageableChange, HasFewRows, most_rows}
use Rattle.dt_mrd.specs.declared.kept_row.KeptRow.{KeptRow}
use Rattle.dt_mrd.specs.declared.turn.Turn.{Turn}
use Rattle.dt_mrd.specs.Rows.{IsRow, comes_before}
use Rattle.dt_mrd.specs.Reading.{owns, tag_read}
use Rattle.dt_mrd.specs.Placing.{HasRoom, IsTabled, Shows, IsPlaced, rows_of}
use Rattle.dt_mrd.specs.Kept.{row_at, tag_in, next_in, code_in, key_of, AreKept, AreUsed, AreTaken}
use Rattle.dt_mrd.specs.Laying.{has_cell}
use Rattle.dt_mrd.specs.Midway.{Turned, Midway}

-- the row of a turn
abbrev pub row_of_turn : Turn → Row
row_of_turn turn = (turn.query.selector, take turn.depth turn.query.classes)

-- whether the two rows are the same
abbrev pub is_same_row : Row → Row → Bool
is_same_row row other = (row.0 == other.0) && pointwise nat_eq row.1 other.1

-- whether one of the turns is of the row
abbrev pub has_turn : List Turn → Row → Bool
has_turn turns row = list_any (λ turn. is_same_row (row_of_turn turn) row) turns

-- each turn is of a row that comes before those of all later turns
abbrev pub AreInOrder : List Turn → Type 0
AreInOrder [] = Unit {0}
AreInOrder (turn ∷ turns) = All (λ later. comes_before (row_of_turn turn) (row_of_turn later) ≡ true) turns × AreInOrder turns

-- the turn is of a row of a change's query
abbrev pub IsOfChange : List Change → Turn → Type 0
IsOfChange changes turn = (change : Change) × Contains changes change × (change.query ≡ turn.query) × (turn.depth < arity_of_query turn.query)

-- the tags with which rows are kept under their keys
abbrev pub tags_in : List (Option ℕ) → (ℕ → Option KeptRow) → Row → ℕ
tags_in roots rows row = tag_in (row_at rows (key_of roots rows row))

-- the rows, where the row of a key has another tag
abbrev pub with_other_tag : Option KeptRow → ℕ → Option KeptRow
with_other_tag None tag = None
with_other_tag (Some row) tag = Some (record row { tag = tag })

abbrev pub with_tag : (ℕ → Option KeptRow) → ℕ → ℕ → ℕ → Option KeptRow
with_tag rows key tag other = if other == key then with_other_tag (rows key) tag else rows other

-- a row that is none after has no turn: all is as before
pub record HasNoTurn (turn : Turn) (rows rows_then : ℕ → Option KeptRow) (used taken : ℕ → Bool) (d : Reading) (used_then taken_then : ℕ → Bool) (then_words : Reading) : Type 0 where
  pub none : turn.new ≡ None
  pub same_rows : (key : ℕ) → rows_then key ≡ rows key
  pub same_used : (cell : ℕ) → used_then cell ≡ used cell
  pub same_taken : (displacement : ℕ) → taken_then displacement ≡ taken displacement
  pub same_words : (address : ℕ) → then_words address ≡ d address

-- another has its tag and its cells
pub record HasTurn (turn : Turn) (rows rows_then : ℕ → Option KeptRow) (used taken : ℕ → Bool) (d : Reading) (used_then taken_then : ℕ → Bool) (then_words : Reading) : Type 0 where
  pub key : ℕ
  pub tag : ℕ
  pub is_key : turn.new ≡ Some key
  pub room : HasRoom tag
  pub tagged : (other : ℕ) → rows_then other ≡ with_tag rows key tag other
  pub turned : Turned (tag_in (row_at rows turn.old)) tag (has_cell (row_at rows turn.old)) (has_cell (row_at rows turn.new))
      (λ class. code_in rows (next_in (row_at rows turn.new) class)) used taken d used_then taken_then then_words

-- the turn of a row is over
abbrev pub IsOver : Turn → (ℕ → Option KeptRow) → (ℕ → Option KeptRow) → (ℕ → Bool) → (ℕ → Bool) → Reading → (ℕ → Bool) → (ℕ → Bool) → Reading → Type 0
IsOver turn rows rows_then used taken d used_then taken_then then_words =
    HasNoTurn turn rows rows_then used taken d used_then taken_then then_words ⊎ HasTurn turn rows rows_then used taken d used_then taken_then then_words

-- The turns are those of the rows that changes touch, in the order of placing. The rows of before are kept still, under
-- none of the fresh keys. The rows of after are kept too: those with a turn under fresh keys, and with tags that don't
-- matter yet; all others under the keys of before.
pub record AreTurns (x : Reading) (held : Held) (changes : List Change) (roots roots_then : List (Option ℕ)) (rows : ℕ → Option KeptRow) (fresh : List ℕ) (turns : List Turn) : Type 0 where
  -- the rows of before stand as they stood before the batch
  pub old_rows : AreKept roots rows fresh (tag_read x) held
  -- each row of after has a key and its cells, with whatever tag
  pub new_rows : AreKept roots_then rows [] (tags_in roots_then rows) (held_after held changes)
  pub order : AreInOrder turns
  -- each turn is of a row of a change's query, and each row of a change's query has a turn
  pub of_changes : All (IsOfChange changes) turns
  pub of_all : (change : Change) → Contains changes change → (depth : ℕ) → depth < arity_of_query change.query
      → has_turn turns (change.query.selector, take depth change.query.classes) ≡ true
  -- a turn has the keys of its row before and after; none where it is no row
  pub old_keys : All (λ turn. turn.old ≡ key_of roots rows (row_of_turn turn)) turns
  pub new_keys : All (λ turn. turn.new ≡ key_of roots_then rows (row_of_turn turn)) turns
  -- new keys are fresh, and no two turns have the same
  pub new_fresh : All (λ turn. (key : ℕ) → turn.new ≡ Some key → Contains fresh key) turns
  pub new_apart : (turn other : Turn) (key : ℕ) → Contains turns turn → Contains turns other → turn.new ≡ Some key → other.new ≡ Some key
      → row_of_turn turn ≡ row_of_turn other
  -- a row of after that has no turn has the key of before
  pub others : (row : Row) → has_turn turns row ≡ false → IsRow (held_after held changes) row → key_of roots_then rows row ≡ key_of roots rows row

-- a batch over what a reading shows
pub record IsBatch (x : Reading) (held : Held) (changes : List Change) : Type 0 where
  pub shows : Shows x held
  pub each : All (IsStageableChange 1 4) changes
  pub tabled : IsTabled (held_after held changes)
  pub few_rows : HasFewRows most_rows (held_after held changes)

-- the turns of a batch may begin: the draft has the words of the reading, and so have the used cells and the taken displacements
pub record CanPlace (x d : Reading) (held : Held) (changes : List Change) (roots roots_then : List (Option ℕ)) (rows : ℕ → Option KeptRow) (fresh : List ℕ) (turns : List Turn) (used taken : ℕ → Bool) : Type 0 where
  pub batch : IsBatch x held changes
  pub turns_are : AreTurns x held changes roots roots_then rows fresh turns
  pub untouched : (address : ℕ) → owns address ≡ true → d address ≡ x address
  pub used_are : AreUsed used x
  pub taken_are : AreTaken taken (tag_read x) held

-- some of the turns are over: the words, the used cells and the taken displacements are those of the rows as they are now, and
-- the rule of placing holds of the rows that had their turn
pub record ArePlaced (x d : Reading) (held : Held) (changes : List Change) (roots roots_then : List (Option ℕ)) (rows : ℕ → Option KeptRow) (fresh : List ℕ) (turns done : List Turn) (used taken : ℕ → Bool) : Type 0 where
  pub batch : IsBatch x held changes
  pub turns_are : AreTurns x held changes roots roots_then rows fresh turns
  pub midway : Midway (rows_of x held changes (tags_in roots_then rows)) (has_turn done) d used taken
  pub placed : (row : Row) → has_turn done row ≡ true → IsRow (held_after held changes) row
      → IsPlaced (rows_of x held changes (tags_in roots_then rows)) row (tags_in roots_then rows row)
