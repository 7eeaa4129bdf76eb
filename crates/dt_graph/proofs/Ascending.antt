-- Ascending numbers and links stay so where one is placed and where some are left out.
use Rattle.std.proofs.Common.{◌≡◌, ◌==◌, ℕ, ◌<◌, ◌≤◌, Bool, IsTrue, List, ◌∷◌, filter, refl, ltb-true, lt-ltb, eqb-true, eq-eqb, nat_lt, arith, All}
use Rattle.std.proofs.lemmas.Bool.{and_parts}
use Rattle.std.proofs.lemmas.Bool.Decides.{nat_tests}
use Rattle.dt_graph.specs.InOrder.{StrictOrder}
use Rattle.dt_graph.specs.Graph.{Link, has_number, is_link, is_link_before, insert_number, insert_link, AscendingLinks}
use Rattle.dt_graph.specs.Lawful.{AscendingNumbers}
use Rattle.dt_graph.proofs.InOrder.{Ascends-tail, Ascends-insert, Ascends-filter, Ascends-cons, first_before_all}
use Rattle.dt_graph.proofs.LinkLists.{each_number}

pub number_order : StrictOrder nat_lt (λ a b. a == b)
number_order = record {
  transitive = λ a b c first second. lt-ltb a c (omega (arith, ltb-true a b first, ltb-true b c second));
  irreflexive = λ a. grind (arith, nat_tests);
  total = λ a b less equal. grind (arith, nat_tests);
  equal = λ a b same. eqb-true a b same;
  reflexive = λ a. eq-eqb a a refl;
}

pub AscendingNumbers-placed : (new : ℕ) (numbers : List ℕ) → AscendingNumbers numbers → AscendingNumbers (insert_number new numbers)
AscendingNumbers-placed new numbers ascending = Ascends-insert (λ n. n) nat_lt (λ a b. a == b) number_order new numbers ascending

pub AscendingNumbers-filter : (test : ℕ → Bool) (numbers : List ℕ) → AscendingNumbers numbers → AscendingNumbers (filter test numbers)
AscendingNumbers-filter test numbers ascending = Ascends-filter (λ n. n) nat_lt (λ a b. a == b) number_order test numbers ascending

pub AscendingNumbers-cons : (first : ℕ) (numbers : List ℕ) → All (λ n. IsTrue (nat_lt first n)) numbers → AscendingNumbers numbers → AscendingNumbers (first ∷ numbers)
AscendingNumbers-cons first numbers all ascending = Ascends-cons (λ n. n) nat_lt (λ a b. a == b) number_order first numbers all ascending

-- a number that comes first is below all others
pub first_is_lowest : (x : ℕ) (numbers : List ℕ) → AscendingNumbers (x ∷ numbers) → (n : ℕ) → IsTrue (has_number numbers n) → x < n
first_is_lowest x numbers ascending n listed =
    ltb-true x n (each_number (λ m. IsTrue (nat_lt x m)) numbers (first_before_all (λ n. n) nat_lt (λ a b. a == b) number_order x numbers ascending) n listed)

-- nor is any of the whole list
pub first_is_least : (x : ℕ) (numbers : List ℕ) → AscendingNumbers (x ∷ numbers) → (n : ℕ) → IsTrue (has_number (x ∷ numbers) n) → x ≤ n
first_is_least x numbers ascending n listed = let above = first_is_lowest x numbers ascending n in grind (arith, nat_tests)

pub link_order : (a b c : Link) → IsTrue (is_link_before a b) → IsTrue (is_link_before b c) → IsTrue (is_link_before a c)
link_order a b c first second = grind (arith, nat_tests)

pub order_of_links : StrictOrder is_link_before (λ a b. is_link a.class a.parent b)
order_of_links = record {
  transitive = link_order;
  irreflexive = λ a. grind (arith, nat_tests);
  total = λ a b less equal. grind (arith, nat_tests);
  equal = λ a b same.
      let ends = and_parts (b.class == a.class) (b.parent == a.parent) same in
      let at_class : b.class ≡ a.class = eqb-true b.class a.class ends.0 in
      let at_parent : b.parent ≡ a.parent = eqb-true b.parent a.parent ends.1 in
      rw (at_class, at_parent) refl;
  reflexive = λ a. grind (arith, nat_tests);
}

pub AscendingLinks-placed : (new : Link) (links : List Link) → AscendingLinks links → AscendingLinks (insert_link new links)
AscendingLinks-placed new links ascending = Ascends-insert (λ l. l) is_link_before (λ a b. is_link a.class a.parent b) order_of_links new links ascending

pub AscendingLinks-filter : (test : Link → Bool) (links : List Link) → AscendingLinks links → AscendingLinks (filter test links)
AscendingLinks-filter test links ascending = Ascends-filter (λ l. l) is_link_before (λ a b. is_link a.class a.parent b) order_of_links test links ascending

-- the link stands before each of the list
abbrev pub LinkBelowAll : Link → List Link → Type 0
LinkBelowAll l links = All (λ m. IsTrue (is_link_before l m)) links

pub link_below_rest : (l : Link) (links : List Link) → AscendingLinks (l ∷ links) → LinkBelowAll l links
link_below_rest l links ascending = first_before_all (λ l. l) is_link_before (λ a b. is_link a.class a.parent b) order_of_links l links ascending

pub links_tail : (l : Link) (links : List Link) → AscendingLinks (l ∷ links) → AscendingLinks links
links_tail l links ascending = Ascends-tail (λ l. l) is_link_before (λ a b. is_link a.class a.parent b) order_of_links l links ascending
