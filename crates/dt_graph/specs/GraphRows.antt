-- What the rows of a class graph stand for: row k is that of the class k.
use Rattle.std.specs.Prelude.{◌≡◌, ℕ, ◌+◌, if◌then◌else◌, List, [], ◌∷◌, ◌++◌, length, map}
use Rattle.dt_graph.specs.Graph.{Link, Graph, insert_number}
use Rattle.dt_graph.specs.Lawful.{LawfulGraph}
use Rattle.dt_graph.specs.declared.limits.TheConstants.{CLASSES}
use Rattle.dt_graph.specs.declared.class_rows.Row.{Row}

-- the live classes of the rows, whose first is that of the class k
abbrev pub live_from : ℕ → List Row → List ℕ
live_from k [] = []
live_from k (row ∷ rows) = if row.is_live then k ∷ live_from (k + 1) rows else live_from (k + 1) rows

-- the links of a class to these parents
abbrev pub links_to : ℕ → List ℕ → List Link
links_to class parents = map (λ parent. record { class = class; parent = parent }) parents

-- the links of the rows, whose first is that of the class k
abbrev pub links_from : ℕ → List Row → List Link
links_from k [] = []
links_from k (row ∷ rows) = links_to k row.parents.items ++ links_from (k + 1) rows

abbrev pub graph_of : List Row → Graph
graph_of rows = record { classes = live_from 0 rows; links = links_from 0 rows }

-- a row for each class, and the graph that they stand for is lawful
pub record LawfulRows (rows : List Row) : Type 0 where
  pub count : length rows ≡ CLASSES
  pub lawful : LawfulGraph (graph_of rows)

-- the numbers with these placed among them, one after another
abbrev pub insert_numbers : List ℕ → List ℕ → List ℕ
insert_numbers [] numbers = numbers
insert_numbers (new ∷ news) numbers = insert_numbers news (insert_number new numbers)
