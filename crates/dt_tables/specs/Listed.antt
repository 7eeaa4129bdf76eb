-- The cells and rows of a program, as lists that can be counted.
use Rattle.std.specs.Prelude.{ℕ, zero, suc, ◌-◌, Bool, true, false, nat_lt, List, [], ◌∷◌, ◌++◌, length, map, filter, sum_by}
use Rattle.std.specs.List.{list_any}
use Rattle.dt_selectors.specs.Selectors.{Selector}
use Rattle.dt_definitions.specs.Program.{Program}
use Rattle.dt_scratch.specs.declared.reply.Answer.{Answer}
use Rattle.dt_scratch.specs.declared.reply.Answer.TheVariants.{Method, NotUnderstood, Ambiguous}
use Rattle.dt_scratch.specs.Resolve.{cell}
use Rattle.dt_propagate.specs.Boxes.{in_turn}
use Rattle.dt_propagate.specs.declared.limits.TheConstants.{CELLS, ROWS}

-- all lists of so many of these classes
abbrev pub lists_of : List ℕ → ℕ → List (List ℕ)
lists_of classes zero = [] ∷ []
lists_of classes (suc more) = in_turn (λ class. map (λ rest. class ∷ rest) (lists_of classes more)) classes

-- whether it is an answer other than "not understood"
abbrev pub is_understood : Answer → Bool
is_understood (Method body) = true
is_understood NotUnderstood = false
is_understood Ambiguous = true

-- whether the program understands the selector at these classes
abbrev pub understands : Program → ℕ → List ℕ → Bool
understands p selector classes = is_understood (cell p (record { selector = selector; classes = classes }))

-- the cells of a live selector: the lists of live classes, as many as it takes, at which it is understood
abbrev pub cells_of : Program → Selector → List (List ℕ)
cells_of p s = filter (understands p s.number) (lists_of p.graph.classes s.arity)

-- whether the classes go on, by so many live ones more, to a list at which the selector is understood
abbrev pub goes_on : Program → ℕ → ℕ → List ℕ → Bool
goes_on p selector more prefix = list_any (λ rest. understands p selector (prefix ++ rest)) (lists_of p.graph.classes more)

-- the rows of a live selector that have fewer classes than this: the lists of live classes that go on to one of its cells
abbrev pub rows_below : Program → Selector → ℕ → List (List ℕ)
rows_below p s zero = []
rows_below p s (suc n) = rows_below p s n ++ filter (goes_on p s.number (s.arity - n)) (lists_of p.graph.classes n)

-- how many cells, and how many rows, the live selectors have; a row has fewer classes than its selector takes
abbrev pub cell_count : Program → ℕ
cell_count p = sum_by (λ s. length (cells_of p s)) p.selectors

abbrev pub row_count : Program → ℕ
row_count p = sum_by (λ s. length (rows_below p s s.arity)) p.selectors

-- whether they are more than the limit
abbrev pub has_more_cells : Program → Bool
has_more_cells p = nat_lt CELLS (cell_count p)

abbrev pub has_more_rows : Program → Bool
has_more_rows p = nat_lt ROWS (row_count p)
