-- What a stage leaves beside the rows, the place words of the selectors with a change; and what it is to settle it.
use Rattle.std.specs.Prelude.{◌≡◌, ℕ, ◌==◌, Bool, if◌then◌else◌, List, [], ◌∷◌, Option, None, true}
use Rattle.std.specs.List.{list_any}
use Rattle.slab.specs.Slab.{get}
use Rattle.dt_pages.specs.Reading.{Reading}
use Rattle.dt_scratch.specs.declared.reply.Change.{Change}
use Rattle.dt_cells.specs.Regions.{place_of}
use Rattle.dt_cells.specs.Held.{Held, IsStageable}
use Rattle.dt_fit.specs.Cells.{is_tried}
use Rattle.dt_mrd.specs.declared.kept_row.KeptRow.{KeptRow}
use Rattle.dt_mrd.specs.declared.staged.StagedRoot.{StagedRoot}
use Rattle.dt_mrd.specs.declared.staged.MrdStaged.{MrdStaged}
use Rattle.dt_mrd.specs.declared.kept_rows.KeptRows.{KeptRows}
use Rattle.dt_mrd.specs.Reading.{owns, tag_read}
use Rattle.dt_mrd.specs.Kept.{row_at, tag_in, with_roots, AreUsed, AreTaken, Stands}
use Rattle.dt_mrd.specs.Laying.{is_among}

-- one of the new keys is that of the selector
abbrev pub has_root : List StagedRoot → ℕ → Bool
has_root staged selector = list_any (λ root. root.selector == selector) staged

-- the word at the place of a selector is the tag of the row of its key
abbrev pub with_place : (ℕ → Option KeptRow) → StagedRoot → Reading → Reading
with_place rows root d address = if address == place_of root.selector then tag_in (row_at rows root.key) else d address

abbrev pub with_places : (ℕ → Option KeptRow) → List StagedRoot → Reading → Reading
with_places rows [] d = d
with_places rows (root ∷ more) d = with_places rows more (with_place rows root d)

-- a value whose new keys, cells and displacements are kept, and that gave up the keys of before
pub record IsSettled (kept : KeptRows) (staged : MrdStaged) (later : KeptRows) : Type 0 where
  pub least : later.least ≡ kept.least
  pub roots : later.roots.items ≡ with_roots staged.roots.items kept.roots.items
  pub rows : (key : ℕ) → get later.rows key ≡ (if is_among staged.gone.items key then None else get kept.rows key)
  pub fresh : later.fresh.items ≡ []
  pub cells : later.cells ≡ record kept.cells { kept = kept.cells.tried }
  pub taken : later.taken ≡ record kept.taken { kept = kept.taken.tried }

-- changes may be laid and placed: the value stands, nothing is left of a stage before, and the draft has the words of the reading
pub record CanLay (kept : KeptRows) (x drafted : Reading) (held : Held) (changes : List Change) : Type 0 where
  pub stands : Stands kept x held
  pub stageable : IsStageable kept.least 4 held changes
  pub untouched : (address : ℕ) → owns address ≡ true → drafted address ≡ x address
  pub none_fresh : kept.fresh.items ≡ []
  pub used_are : AreUsed (is_tried kept.cells) x
  pub taken_are : AreTaken (is_tried kept.taken) (tag_read x) held
