-- What laying rows anew does, in terms of what is kept alone: of one row, of the rows of one length, and of the lengths from
-- the greatest on. What it means for the rows of what is held is shown of this.
use Rattle.std.specs.Prelude.{◌≡◌, ◌≢◌, ◌⊎◌, ℕ, zero, suc, true, if◌then◌else◌, List, [], ◌∷◌, ◌++◌, take, drop, get_or, Option, None, Some, is_some, All, Contains}
use Rattle.std.specs.BTreeMap as tree
use Rattle.std.specs.Ordering.{nat_cmp}
use Rattle.dt_scratch.specs.Query.{Query, arity_of_query}
use Rattle.dt_scratch.specs.declared.reply.Change.{Change}
use Rattle.dt_mrd.specs.declared.kept_row.KeptRow.{KeptRow}
use Rattle.dt_mrd.specs.declared.staged.StagedRoot.{StagedRoot}
use Rattle.dt_mrd.specs.declared.turn.Turn.{Turn}
use Rattle.dt_placing.specs.Turn.{run_of}
use Rattle.dt_mrd.specs.Rows.{is_below}
use Rattle.dt_mrd.specs.Kept.{row_at, next_in, key_along}
use Rattle.dt_mrd.specs.Changing.{Cells, changes_put, turns_put}

-- which row is kept under each key
abbrev pub KeptAt : Type 0
KeptAt = ℕ → Option KeptRow

-- the first so many classes of a query
abbrev pub prefix_of : ℕ → Query → List ℕ
prefix_of depth query = take depth query.classes

-- ---- what a step may do to the rows

-- what was kept under a key is kept there still, and a key that is among the fresh ones and wasn't had nothing
pub record Extends (rows : KeptAt) (fresh : List ℕ) (rows_then : KeptAt) (fresh_then : List ℕ) : Type 0 where
  pub kept : (key : ℕ) → is_some (rows key) ≡ true → rows_then key ≡ rows key
  pub stays : (key : ℕ) → Contains fresh key → Contains fresh_then key
  pub added : (key : ℕ) → Contains fresh_then key → Contains fresh key ⊎ (rows key ≡ None)

-- cells are kept under a key that had nothing, as a row that has no tag yet
pub record IsLaidAt (rows : KeptAt) (key : ℕ) (cells : Cells) (rows_then : KeptAt) : Type 0 where
  pub row : KeptRow
  pub vacant : rows key ≡ None
  pub some : (class : ℕ) × (is_some (cells class) ≡ true)
  pub is : rows_then key ≡ Some row
  pub tag : row.tag ≡ 0
  pub cells_are : (class : ℕ) → tree.get nat_cmp row.cells class ≡ cells class

-- where there are no cells, there is no key, and nothing is kept
abbrev pub IsLaid : KeptAt → Option ℕ → Cells → KeptAt → Type 0
IsLaid rows None cells rows_then = (class : ℕ) → cells class ≡ None
IsLaid rows (Some key) cells rows_then = IsLaidAt rows key cells rows_then

-- ---- the rows of one length

-- the query whose first classes come first
abbrev pub earlier : Query → Query → ℕ → Query
earlier one other depth = if is_below (prefix_of depth other) (prefix_of depth one) then other else one

-- the query whose row comes first
abbrev pub first_of : ℕ → List Change → List Turn → Option Query
first_of depth [] [] = None
first_of depth [] (turn ∷ led) = Some turn.query
first_of depth (change ∷ changes) [] = Some change.query
first_of depth (change ∷ changes) (turn ∷ led) = Some (earlier change.query turn.query depth)

-- the first of the items isn't of a row, or there is none
abbrev pub StopsAt : {T : Type 0} → (T → Query) → ℕ → List ℕ → List T → Type 0
StopsAt query depth row [] = Unit {0}
StopsAt query depth row (item ∷ items) = prefix_of depth (query item) ≢ row

-- so many items are of a row before one that isn't
pub record IsRun {T : Type 0} (query : T → Query) (depth : ℕ) (row : List ℕ) (items : List T) (count : ℕ) : Type 0 where
  pub within : All (λ item. prefix_of depth (query item) ≡ row) (take count items)
  pub stops : StopsAt query depth row (drop count items)

-- a row had its turn: its cells of before with the changes and the rows that had their turns are kept under its new key
pub record IsTurnOf (root : Option ℕ) (depth : ℕ) (rows : KeptAt) (query : Query) (own : List Change) (own_led : List Turn) (turn : Turn) (rows_then : KeptAt) (fresh_then : List ℕ) : Type 0 where
  pub query_is : turn.query ≡ query
  pub depth_is : turn.depth ≡ depth
  pub old_is : turn.old ≡ key_along rows root (prefix_of depth query)
  pub laid : IsLaid rows turn.new (turns_put (changes_put (next_in (row_at rows turn.old)) depth own) depth own_led) rows_then
  pub among : (key : ℕ) → turn.new ≡ Some key → Contains fresh_then key

-- the turn of the first row of a level
pub record IsNextTurn (root : Option ℕ) (depth : ℕ) (rows : KeptAt) (fresh : List ℕ) (changes : List Change) (led : List Turn) (count count_led : ℕ) (turn : Turn) (rows_then : KeptAt) (fresh_then : List ℕ) : Type 0 where
  pub query : Query
  pub first : first_of depth changes led ≡ Some query
  pub run : IsRun (λ change. change.query) depth (prefix_of depth query) changes count
  pub run_led : IsRun (λ t. t.query) depth (prefix_of depth query) led count_led
  pub is : IsTurnOf root depth rows query (take count changes) (take count_led led) turn rows_then fresh_then
  pub extends : Extends rows fresh rows_then fresh_then

-- the rows of one length had their turns
abbrev pub IsLevel : Option ℕ → ℕ → KeptAt → List ℕ → List Change → List Turn → List Turn → KeptAt → List ℕ → Type 0
IsLevel root depth rows fresh changes led [] rows_then fresh_then =
    (changes ≡ []) × (led ≡ []) × (rows_then ≡ rows) × (fresh_then ≡ fresh)
IsLevel root depth rows fresh changes led (turn ∷ level) rows_then fresh_then =
    (count : ℕ) × (count_led : ℕ) × (between : KeptAt) × (fresh_between : List ℕ)
    × IsNextTurn root depth rows fresh changes led count count_led turn between fresh_between
    × IsLevel root depth between fresh_between (drop count changes) (drop count_led led) level rows_then fresh_then

-- ---- the rows of all lengths

-- the first change is of the arity, or there is none
abbrev pub StartsAt : ℕ → List Change → Type 0
StartsAt arity [] = Unit {0}
StartsAt arity (change ∷ changes) = arity_of_query change.query ≡ arity

-- so many changes are before the first of an arity
pub record IsBeforeArity (changes : List Change) (arity count : ℕ) : Type 0 where
  pub others : All (λ change. arity_of_query change.query ≢ arity) (take count changes)
  pub starts : StartsAt arity (drop count changes)

-- the new key of the first turn's row, or else the root's of before
abbrev pub first_key : Option ℕ → List Turn → Option ℕ
first_key root [] = root
first_key root (turn ∷ led) = turn.new

-- the rows of a selector had their turns, from those that are shorter by one on
abbrev pub AreLevels : Option ℕ → ℕ → KeptAt → List ℕ → List Change → List Turn → List Turn → KeptAt → List ℕ → Option ℕ → Type 0
AreLevels root zero rows fresh changes led turns rows_then fresh_then key =
    (turns ≡ []) × (rows_then ≡ rows) × (fresh_then ≡ fresh) × (key ≡ first_key root led)
AreLevels root (suc depth) rows fresh changes led turns rows_then fresh_then key =
    (count : ℕ) × (level : List Turn) × (more : List Turn) × (between : KeptAt) × (fresh_between : List ℕ)
    × IsBeforeArity changes (suc depth) count
    × IsLevel root depth rows fresh (drop count changes) led level between fresh_between
    × AreLevels root depth between fresh_between (take count changes) level more rows_then fresh_then key
    × (turns ≡ level ++ more)

-- ---- the rows of all selectors

-- the first change is of the selector
abbrev pub IsFirstSelector : List Change → ℕ → Type 0
IsFirstSelector [] selector = ⊥
IsFirstSelector (change ∷ changes) selector = change.query.selector ≡ selector

-- the selectors with changes had their turns
abbrev pub AreSelectors : List (Option ℕ) → KeptAt → List ℕ → List Change → List StagedRoot → List Turn → KeptAt → List ℕ → Type 0
AreSelectors roots rows fresh changes [] turns rows_then fresh_then =
    (changes ≡ []) × (turns ≡ []) × (rows_then ≡ rows) × (fresh_then ≡ fresh)
AreSelectors roots rows fresh changes (root ∷ staged) turns rows_then fresh_then =
    (own : List Turn) × (more : List Turn) × (between : KeptAt) × (fresh_between : List ℕ)
    × IsFirstSelector changes root.selector
    × AreLevels (get_or roots root.selector None) 4 rows fresh (take (run_of root.selector changes) changes) [] own between fresh_between root.key
    × Extends rows fresh between fresh_between
    × AreSelectors roots between fresh_between (drop (run_of root.selector changes) changes) staged more rows_then fresh_then
    × (turns ≡ own ++ more)
