-- Selector table indexing: a cell for each selector and class.
use Rattle.std.specs.Prelude.{◌≡◌, ℕ, ◌+◌, ◌-◌, ◌*◌, ◌/◌, ◌%◌, ◌&&◌, Bool, true, false, nat_le, nat_lt, List, [], ◌∷◌}
use Rattle.dt_pages.specs.Reading.{Reading}
use Rattle.dt_scratch.specs.Query.{Query, arity_of_query}
use Rattle.dt_scratch.specs.declared.reply.Answer.{Answer}
use Rattle.dt_scratch.specs.declared.reply.Answer.TheVariants.{NotUnderstood}
use Rattle.dt_scratch.specs.declared.reply.Change.{Change}
use Rattle.dt_cells.specs.Regions.{class_numbers, selector_numbers, single_cells}
use Rattle.dt_cells.specs.Cell.{cell_word, answer_of_word}
use Rattle.dt_cells.specs.Held.{Held, IsHeld, IsInRange, HasBodyInRange, held_after}
use Rattle.dt_cells.specs.Kind.{Kind}

-- the cell of a selector and a class
abbrev pub cell_at : ℕ → ℕ → ℕ
cell_at selector class = single_cells + class_numbers * selector + class

-- the query whose cell stands at an address
abbrev pub query_at : ℕ → Query
query_at address = record {
  selector = (address - single_cells) / class_numbers;
  classes = ((address - single_cells) % class_numbers) ∷ [];
}

-- whether the address is that of a cell of this kind
abbrev pub owns : ℕ → Bool
owns address = nat_le single_cells address && nat_lt address (single_cells + class_numbers * selector_numbers)

-- the tag of a selector's cells
abbrev pub tag_of : ℕ → ℕ
tag_of selector = selector + 1

-- the answer by the one cell
abbrev pub part_by : Reading → ℕ → List ℕ → Answer
part_by x selector (class ∷ []) = answer_of_word (tag_of selector) (x (cell_at selector class))
part_by x selector _ = NotUnderstood

-- where the query is read
abbrev pub way_by : ℕ → List ℕ → ℕ
way_by selector [] = 0
way_by selector (class ∷ classes) = cell_at selector class

-- the cells are those of what is held
abbrev pub AreCells : Held → Reading → Type 0
AreCells held x =
    (address : ℕ) → owns address ≡ true → x address ≡ cell_word (tag_of (query_at address).selector) (held (query_at address))

-- what is held are queries of one class, with numbers in range, and the cells are theirs
pub record StiShows (x : Reading) (held : Held) : Type 0 where
  pub range : (q : Query) → IsHeld held q → IsInRange q
  pub one : (q : Query) → IsHeld held q → arity_of_query q ≡ 1
  pub body : (q : Query) → HasBodyInRange (held q)
  pub cells : AreCells held x

-- selector table indexing gives no selector a place; the cells after changes are those of what is held then
abbrev pub sti : Kind
sti = record {
  arities = 1;
  most_low = 1;
  has_places = false;
  owns = owns;
  part = λ x q. part_by x q.selector q.classes;
  placed = λ held s. ⊥;
  way = λ x q n. way_by q.selector q.classes;
  shows = StiShows;
  places = λ x held changes y. AreCells (held_after held changes) y;
}

-- the cell of a change, and its word after
abbrev pub cell_of : Change → ℕ
cell_of change = way_by change.query.selector change.query.classes

abbrev pub word_of : Change → ℕ
word_of change = cell_word (tag_of change.query.selector) change.answer
