-- The rows of a batch while they are placed: some had their turn, and the others wait.
use Rattle.std.specs.Prelude.{◌≡◌, ◌≢◌, ◌⊎◌, ℕ, suc, ◌+◌, ◌-◌, ◌*◌, ◌^◌, ◌<◌, ◌==◌, ◌&&◌, ◌||◌, not, Bool, true, false, if◌then◌else◌, List, length}
use Rattle.dt_pages.specs.Reading.{Reading}
use Rattle.dt_cells.specs.Held.{Row}
use Rattle.dt_fit.specs.declared.geometry.Geometry.TheVariants.{Displacements}
use Rattle.dt_fit.specs.Rows.{PlacedRow, AreRows, ArePlacesOf, AreCellsOf}
use Rattle.dt_placing.specs.Turn.{Laid}
use Rattle.dt_mrd.specs.Rows.{HasIndex, IsRow, comes_before}
use Rattle.dt_mrd.specs.Reading.{owns, cell_at}
use Rattle.dt_mrd.specs.Placing.{HasRoom, Rows, code_of}
use Rattle.dt_mrd.specs.Kept.{AreUsed}

-- a row has a cell for the class now: one that had its turn its new indexes, one that waits those of its old ones that are
-- used still
abbrev pub HasNow : Rows → (Row → Bool) → Row → ℕ → Type 0
HasNow rows done row class =
    ((done row ≡ true) × HasIndex rows.next row class) ⊎ ((done row ≡ false) × HasIndex rows.held row class × HasIndex rows.next row class)

-- it is a row now
abbrev pub IsNow : Rows → (Row → Bool) → Row → Type 0
IsNow rows done row =
    ((done row ≡ true) × IsRow rows.next row) ⊎ ((done row ≡ false) × IsRow rows.held row × IsRow rows.next row)

-- its tag now, and the code of its cell of a class
abbrev pub tag_now : Rows → (Row → Bool) → Row → ℕ
tag_now rows done row = if done row then rows.after row else rows.before row

abbrev pub code_now : Rows → (Row → Bool) → Row → ℕ → ℕ
code_now rows done row class =
    if done row then code_of rows.next rows.after row class else code_of rows.held rows.before row class

-- the words, the used cells and the taken displacements are those of the rows as they are now
pub record Midway (rows : Rows) (done : Row → Bool) (d : Reading) (used taken : ℕ → Bool) : Type 0 where
  pub room : (row : Row) → IsNow rows done row → HasRoom (tag_now rows done row)
  pub apart : (row other : Row) → IsNow rows done row → IsNow rows done other → tag_now rows done row ≡ tag_now rows done other → row ≡ other
  pub small : (row : Row) (class : ℕ) → HasNow rows done row class → code_now rows done row class < 2 ^ 32
  pub set : (row : Row) (class : ℕ) → HasNow rows done row class
      → d (cell_at (tag_now rows done row) class) ≡ tag_now rows done row * 2 ^ 32 + code_now rows done row class
  pub rest : (address : ℕ) → owns address ≡ true → d address ≢ 0
      → (row : Row) × (class : ℕ) × HasNow rows done row class × (cell_at (tag_now rows done row) class ≡ address)
  pub used_are : AreUsed used d
  pub taken_by : (row : Row) → IsNow rows done row → (displacement : ℕ) → tag_now rows done row ≡ suc displacement → taken displacement ≡ true
  pub taken_of : (displacement : ℕ) → taken displacement ≡ true → (row : Row) × IsNow rows done row × (tag_now rows done row ≡ suc displacement)

-- which rows a batch touches: every other is as before, with the same indexes and codes, and the same tag
pub record Touches (rows : Rows) (touched : Row → Bool) : Type 0 where
  pub codes : (row : Row) (class : ℕ) → touched row ≡ false → HasIndex rows.next row class
      → code_of rows.held rows.before row class ≡ code_of rows.next rows.after row class
  pub kept : (row : Row) (class : ℕ) → touched row ≡ false → HasIndex rows.next row class → HasIndex rows.held row class
  pub keeps : (row : Row) (class : ℕ) → touched row ≡ false → HasIndex rows.held row class → HasIndex rows.next row class
  pub tags : (row : Row) → touched row ≡ false → IsRow rows.next row → rows.after row ≡ rows.before row

-- it is the turn of a row: of the rows that are touched, those that come before had their turns
pub record IsTurn (touched done : Row → Bool) (turn : Row) : Type 0 where
  pub waits : done turn ≡ false
  pub order : (row : Row) → touched row ≡ true → row ≢ turn → done row ≡ comes_before row turn
  pub others : (row : Row) → touched row ≡ false → done row ≡ false

-- ---- one turn

-- what is known of the row whose turn it is: its tag before, or 0, and which classes have a cell before and after
pub record IsRowOf (rows : Rows) (turn : Row) (before : ℕ) (old new : ℕ → Bool) : Type 0 where
  pub old_is : (class : ℕ) → old class ≡ true → HasIndex rows.held turn class
  pub old_has : (class : ℕ) → HasIndex rows.held turn class → old class ≡ true
  pub new_is : (class : ℕ) → new class ≡ true → HasIndex rows.next turn class
  pub new_has : (class : ℕ) → HasIndex rows.next turn class → new class ≡ true
  pub was : before ≢ 0 → IsRow rows.held turn
  pub before_is : IsRow rows.held turn → before ≡ rows.before turn
  pub is : IsRow rows.next turn

-- with this tag no cell for the classes is used
abbrev pub FitsIn : (ℕ → Bool) → (ℕ → Bool) → ℕ → Type 0
FitsIn used new tag = (class : ℕ) → new class ≡ true → used (tag - 1 + class) ≡ false

-- the lowest tag with which none is and whose displacement isn't taken
pub record IsLowestIn (used taken new : ℕ → Bool) (tag : ℕ) : Type 0 where
  pub some : 0 < tag
  pub fits : FitsIn used new tag
  pub alone : taken (tag - 1) ≡ false
  pub none_below : (lower : ℕ) → 0 < lower → lower < tag → FitsIn used new lower → taken (lower - 1) ≡ false → ⊥

-- the used cells and the taken displacements are those of fewer rows than there may be
pub record HasOtherRows (used taken : ℕ → Bool) : Type 0 where
  pub rows : List PlacedRow
  pub few : length rows < 16384
  pub are_rows : AreRows rows
  pub places : ArePlacesOf rows taken
  pub cells : AreCellsOf Displacements rows used

-- the tag is chosen: that of before, where there is one and it fits, else the lowest
abbrev pub IsChosen : (ℕ → Bool) → (ℕ → Bool) → (ℕ → Bool) → ℕ → ℕ → Type 0
IsChosen used taken new before tag =
    ((before ≢ 0) × FitsIn used new before × (tag ≡ before)) ⊎ (((before ≢ 0) → FitsIn used new before → ⊥) × IsLowestIn used taken new tag)

-- the displacements without that of a tag
abbrev pub given_up : (ℕ → Bool) → ℕ → ℕ → Bool
given_up taken before displacement = not (suc displacement == before) && taken displacement

-- how the used cells and the taken displacements change where the cells of some classes are given up, and a row of others gets
-- its tag
pub record TagChosen (before tag : ℕ) (given new : ℕ → Bool) (used taken used_then taken_then : ℕ → Bool) : Type 0 where
  pub freed : ℕ → Bool
  pub frees : Laid (λ class. before - 1 + class) given (λ class. false) 2048 used freed
  pub chosen : IsChosen freed (given_up taken before) new before tag
  pub takes : Laid (λ class. tag - 1 + class) new (λ class. true) 2048 freed used_then
  pub has : (displacement : ℕ) → taken_then displacement ≡ ((suc displacement == tag) || given_up taken before displacement)

-- how the words change where the cells of some classes are cleared unless the tag stays, and those of others are set
pub record WordsLaid (before tag : ℕ) (given new : ℕ → Bool) (code : ℕ → ℕ) (d then_words : Reading) : Type 0 where
  pub cleared : Reading
  pub clears : Laid (cell_at before) (λ class. given class && not (tag == before)) (λ class. 0) 2048 d cleared
  pub lays : Laid (cell_at tag) new (λ class. tag * 2 ^ 32 + code class) 2048 cleared then_words

-- how the used cells, the taken displacements and the words change in a turn: the row's own cells and displacement are given
-- up, the tag is chosen, and cells, displacement and words are those of the row with this tag
pub record Turned (before tag : ℕ) (old new : ℕ → Bool) (code : ℕ → ℕ) (used taken : ℕ → Bool) (d : Reading) (used_then taken_then : ℕ → Bool) (then_words : Reading) : Type 0 where
  pub freed : ℕ → Bool
  pub given : ℕ → Bool
  pub cleared : Reading
  pub frees : Laid (λ class. before - 1 + class) (λ class. old class && new class) (λ class. false) 2048 used freed
  pub gives : (displacement : ℕ) → given displacement ≡ (not (suc displacement == before) && taken displacement)
  pub chosen : IsChosen freed given new before tag
  pub takes : Laid (λ class. tag - 1 + class) new (λ class. true) 2048 freed used_then
  pub has : (displacement : ℕ) → taken_then displacement ≡ ((suc displacement == tag) || given displacement)
  pub clears : Laid (cell_at before) (λ class. (old class && new class) && not (tag == before)) (λ class. 0) 2048 d cleared
  pub lays : Laid (cell_at tag) new (λ class. tag * 2 ^ 32 + code class) 2048 cleared then_words

-- ---- before the first turn

-- of some rows what isn't used any more was taken away; a row has a cell left for the class: of its old indexes, where it is one
-- of these rows, those that are used still
abbrev pub HasLeft : Rows → (Row → Bool) → Row → ℕ → Type 0
HasLeft rows gone row class =
    ((gone row ≡ true) × HasIndex rows.held row class × HasIndex rows.next row class) ⊎ ((gone row ≡ false) × HasIndex rows.held row class)

-- it is left as a row
abbrev pub IsLeft : Rows → (Row → Bool) → Row → Type 0
IsLeft rows gone row = ((gone row ≡ true) × IsRow rows.held row × IsRow rows.next row) ⊎ ((gone row ≡ false) × IsRow rows.held row)

-- the words, the used cells and the taken displacements are those that are left
pub record Cleared (rows : Rows) (gone : Row → Bool) (d : Reading) (used taken : ℕ → Bool) : Type 0 where
  pub set : (row : Row) (class : ℕ) → HasLeft rows gone row class
      → d (cell_at (rows.before row) class) ≡ rows.before row * 2 ^ 32 + code_of rows.held rows.before row class
  pub rest : (address : ℕ) → owns address ≡ true → d address ≢ 0
      → (row : Row) × (class : ℕ) × HasLeft rows gone row class × (cell_at (rows.before row) class ≡ address)
  pub used_are : AreUsed used d
  pub taken_by : (row : Row) → IsLeft rows gone row → (displacement : ℕ) → rows.before row ≡ suc displacement → taken displacement ≡ true
  pub taken_of : (displacement : ℕ) → taken displacement ≡ true → (row : Row) × IsLeft rows gone row × (rows.before row ≡ suc displacement)

-- what is known of a row of which is taken away: its tag before, or 0, which classes have a cell before and after, and whether
-- it is a row after
pub record WasRowOf (rows : Rows) (turn : Row) (before : ℕ) (old new : ℕ → Bool) (stays : Bool) : Type 0 where
  pub old_is : (class : ℕ) → old class ≡ true → HasIndex rows.held turn class
  pub old_has : (class : ℕ) → HasIndex rows.held turn class → old class ≡ true
  pub new_is : (class : ℕ) → new class ≡ true → HasIndex rows.next turn class
  pub new_has : (class : ℕ) → HasIndex rows.next turn class → new class ≡ true
  pub was : before ≢ 0 → IsRow rows.held turn
  pub before_is : IsRow rows.held turn → before ≡ rows.before turn
  pub stays_is : stays ≡ true → IsRow rows.next turn
  pub stays_has : IsRow rows.next turn → stays ≡ true

-- how the used cells, the taken displacements and the words change where of a row is taken away what isn't used any more
pub record TakenAway (before : ℕ) (old new : ℕ → Bool) (stays : Bool) (used taken : ℕ → Bool) (d : Reading) (used_then taken_then : ℕ → Bool) (then_words : Reading) : Type 0 where
  pub frees : Laid (λ class. before - 1 + class) (λ class. old class && not (new class)) (λ class. false) 2048 used used_then
  pub clears : Laid (cell_at before) (λ class. old class && not (new class)) (λ class. 0) 2048 d then_words
  pub gives : (displacement : ℕ) → taken_then displacement ≡ ((stays || not (suc displacement == before)) && taken displacement)
