-- The class graph: which classes are live, and which class has which parents. Classes are numbers.
use Rattle.std.specs.Prelude.{◌==◌, ℕ, Bool, ◌&&◌, ◌||◌, nat_lt, List, [], ◌∷◌, count_by}
use Rattle.std.specs.List.{list_any}
use Rattle.dt_graph.specs.InOrder.{Ascends, insert_by_key}

-- a class inherits from a parent
pub record Link : Type 0 where
  pub class : ℕ
  pub parent : ℕ

-- the live classes in ascending order, and the links in ascending order of class and then parent
pub record Graph : Type 0 where
  pub classes : List ℕ
  pub links : List Link

-- the graph with no class
abbrev pub empty_graph : Graph
empty_graph = record { classes = []; links = [] }

-- whether the number is in the list
abbrev pub has_number : List ℕ → ℕ → Bool
has_number numbers number = list_any (λ n. n == number) numbers

-- whether the class is live
abbrev pub is_live : Graph → ℕ → Bool
is_live graph class = has_number graph.classes class

-- whether it is the link from the class to the parent
abbrev pub is_link : ℕ → ℕ → Link → Bool
is_link class parent link = (link.class == class) && (link.parent == parent)

-- whether a link leads from the class to the parent
abbrev pub has_link : List Link → ℕ → ℕ → Bool
has_link links class parent = list_any (is_link class parent) links

-- how many parents the class has
abbrev pub parent_count : List Link → ℕ → ℕ
parent_count links class = count_by (λ link. link.class == class) links

-- whether the first link stands before the second in the order of links
abbrev pub is_link_before : Link → Link → Bool
is_link_before a b = nat_lt a.class b.class || ((a.class == b.class) && nat_lt a.parent b.parent)

-- each link stands before the next, so none stands twice
abbrev pub AscendingLinks : List Link → Type 0
AscendingLinks links = Ascends (λ link. link) is_link_before links

-- the numbers with one more, in ascending order; a number that is there already stays
abbrev pub insert_number : ℕ → List ℕ → List ℕ
insert_number number numbers = insert_by_key (λ n. n) nat_lt (λ a b. a == b) number numbers

-- the links with one more, in ascending order; a link that is there already stays
abbrev pub insert_link : Link → List Link → List Link
insert_link link links = insert_by_key (λ l. l) is_link_before (λ a b. is_link a.class a.parent b) link links

-- the links with one to each of these parents
abbrev pub insert_links : ℕ → List ℕ → List Link → List Link
insert_links class [] links = links
insert_links class (parent ∷ parents) links =
    insert_links class parents (insert_link (record { class = class; parent = parent }) links)
