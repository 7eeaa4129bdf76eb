-- What a value keeps: the rows of what is held under keys, each with the keys of the rows to which it leads, and which cells
-- and displacements are used.
use Rattle.std.specs.Prelude.{◌≡◌, ◌⊎◌, ℕ, suc, ◌+◌, ◌<◌, ◌≤◌, ◌&&◌, ◌==◌, not, Bool, true, nat_lt, List, [], ◌∷◌, get_or, set, length, Option, None, Some, is_some, Contains}
use Rattle.std.specs.BTreeMap as tree
use Rattle.std.specs.Ordering.{nat_cmp}
use Rattle.slab.specs.Slab.{get}
use Rattle.dt_pages.specs.Reading.{Reading}
use Rattle.dt_scratch.specs.Query.{Query, arity_of_query}
use Rattle.dt_scratch.specs.declared.reply.Change.{Change}
use Rattle.dt_cells.specs.Held.{Held, IsHeld, Row, held_after, IsStageable}
use Rattle.dt_fit.specs.Cells.{is_kept, is_tried}
use Rattle.dt_fit.specs.declared.geometry.Geometry.TheVariants.{Displacements}
use Rattle.dt_placing.specs.Rows.{is_understood}
use Rattle.dt_mrd.specs.declared.kept_row.KeptRow.{KeptRow}
use Rattle.dt_mrd.specs.declared.kept_rows.KeptRows.{KeptRows}
use Rattle.dt_mrd.specs.declared.kept_row.Next.{Next}
use Rattle.dt_mrd.specs.declared.kept_row.Next.TheVariants.{Answer as LeadsToAnswer, Row as LeadsToRow}
use Rattle.dt_mrd.specs.declared.staged.MrdStaged.{MrdStaged}
use Rattle.dt_mrd.specs.declared.staged.StagedRoot.{StagedRoot}
use Rattle.dt_mrd.specs.Rows.{sent, root, next_row, HasIndex, IsRow}
use Rattle.dt_mrd.specs.Reading.{master_cells, owns, tag_read}
use Rattle.dt_mrd.specs.Placing.{code_of_answer, Shows, Places}

-- ---- keys

-- the row of a key
abbrev pub row_at : (ℕ → Option KeptRow) → Option ℕ → Option KeptRow
row_at rows None = None
row_at rows (Some key) = rows key

-- the tag of a row
abbrev pub tag_in : Option KeptRow → ℕ
tag_in None = 0
tag_in (Some row) = row.tag

-- to what the cell of a class leads
abbrev pub next_in : Option KeptRow → ℕ → Option Next
next_in None class = None
next_in (Some row) class = tree.get nat_cmp row.cells class

-- the code of a cell: that of an answer, or the tag of the row to which it leads
abbrev pub code_in : (ℕ → Option KeptRow) → Option Next → ℕ
code_in rows None = 0
code_in rows (Some (LeadsToAnswer code)) = code
code_in rows (Some (LeadsToRow key)) = tag_in (rows key)

-- the key of the row to which a cell leads
abbrev pub key_of_next : Option Next → Option ℕ
key_of_next (Some (LeadsToRow key)) = Some key
key_of_next _ = None

-- the key of the row to which classes lead from a row
abbrev pub key_along : (ℕ → Option KeptRow) → Option ℕ → List ℕ → Option ℕ
key_along rows key [] = key
key_along rows key (class ∷ classes) = key_along rows (key_of_next (next_in (row_at rows key) class)) classes

-- the key of a row
abbrev pub key_of : List (Option ℕ) → (ℕ → Option KeptRow) → Row → Option ℕ
key_of roots rows row = key_along rows (get_or roots row.0 None) row.1

-- ---- what is kept of rows

-- a row is kept so: with its tag, and a cell for each of its used indexes, with the answer where the query ends there
pub record IsKept (tags : Row → ℕ) (held : Held) (row : Row) (kept : KeptRow) : Type 0 where
  pub tag : kept.tag ≡ tags row
  pub indexes : (class : ℕ) → HasIndex held row class → is_some (next_in (Some kept) class) ≡ true
  pub used : (class : ℕ) → is_some (next_in (Some kept) class) ≡ true → HasIndex held row class
  pub answers : (class : ℕ) → is_understood (held (sent row.0 (next_row row class).1)) ≡ true
      → next_in (Some kept) class ≡ Some (LeadsToAnswer (code_of_answer (held (sent row.0 (next_row row class).1))))

-- a selector has a root key where it has a row
abbrev pub HasRoot : Held → ℕ → Option ℕ → Type 0
HasRoot held selector key =
    (IsRow held (root selector) × (is_some key ≡ true)) ⊎ ((IsRow held (root selector) → ⊥) × (key ≡ None))

-- each row of what is held is kept under its key, and under none of these keys, which are free to be given up
pub record AreKept (roots : List (Option ℕ)) (rows : ℕ → Option KeptRow) (free : List ℕ) (tags : Row → ℕ) (held : Held) : Type 0 where
  pub roots_are : (selector : ℕ) → selector < 4096 → HasRoot held selector (get_or roots selector None)
  pub row : (row : Row) → IsRow held row
      → (key : ℕ) × (kept : KeptRow) × (key_of roots rows row ≡ Some key) × (rows key ≡ Some kept) × IsKept tags held row kept
  pub not_free : (row : Row) (key : ℕ) → IsRow held row → key_of roots rows row ≡ Some key → Contains free key → ⊥

-- ---- what is kept of cells and displacements

-- the cells that are used are those with a word
abbrev pub AreUsed : (ℕ → Bool) → Reading → Type 0
AreUsed used x = (cell : ℕ) → used cell ≡ (owns (master_cells + cell) && not (x (master_cells + cell) == 0))

-- the displacements that are taken are those of rows
pub record AreTaken (taken : ℕ → Bool) (tags : Row → ℕ) (held : Held) : Type 0 where
  pub of_rows : (row : Row) → IsRow held row → (displacement : ℕ) → tags row ≡ suc displacement → taken displacement ≡ true
  pub no_other : (displacement : ℕ) → taken displacement ≡ true → (row : Row) × IsRow held row × (tags row ≡ suc displacement)

-- ---- a value

-- whether the selector has a place
abbrev pub has_place : KeptRows → ℕ → Bool
has_place kept selector = nat_lt selector 4096 && is_some (get_or kept.roots.items selector None)

-- the value stands for a reading with what is held
pub record Stands (kept : KeptRows) (x : Reading) (held : Held) : Type 0 where
  pub shows : Shows x held
  pub some : 1 ≤ kept.least
  pub least : (q : Query) → IsHeld held q → kept.least ≤ arity_of_query q
  pub count : length kept.roots.items ≡ 4096
  pub rows : AreKept kept.roots.items (get kept.rows) kept.fresh.items (tag_read x) held
  pub displacements : (kept.cells.geometry ≡ Displacements) × (kept.taken.geometry ≡ Displacements)
  pub cells : AreUsed (is_kept kept.cells) x
  pub taken : AreTaken (is_kept kept.taken) (tag_read x) held

-- root keys that are put in place of others
abbrev pub with_roots : List StagedRoot → List (Option ℕ) → List (Option ℕ)
with_roots [] roots = roots
with_roots (staged ∷ more) roots = with_roots more (set roots staged.selector staged.key)

-- what a stage left: the rows, cells and displacements after the changes; the keys that are gone are those of rows of before
pub record Follows (kept : KeptRows) (staged : MrdStaged) (x : Reading) (held : Held) (changes : List Change) : Type 0 where
  pub stageable : IsStageable kept.least 4 held changes
  pub reading : Reading
  pub places : Places x held changes reading
  pub rows : AreKept (with_roots staged.roots.items kept.roots.items) (get kept.rows) staged.gone.items places.tags (held_after held changes)
  pub cells : AreUsed (is_tried kept.cells) reading
  pub taken : AreTaken (is_tried kept.taken) places.tags (held_after held changes)
