-- The lowest class that has a given one as a parent: the first that has it among the classes below it.
use Rattle.std.proofs.Common.{◌≡◌, ◌==◌, ℕ, ◌≤◌, Bool, false, ◌&&◌, ◌||◌, IsTrue, List, [], ◌∷◌, Option, Some, None, find, refl, sym, ap, ◌∙◌, eqb-true, eq-eqb, arith}
use Rattle.std.proofs.lemmas.Bool.{or_left, and_parts, and_from, and_right, false≢true}
use Rattle.std.proofs.lemmas.Bool.Decides.{nat_tests}
use Rattle.std.proofs.lemmas.List.Elements.{All-weaker}
use Rattle.dt_graph.specs.Graph.{Link, has_number, has_link, is_link_before, AscendingLinks}
use Rattle.dt_graph.specs.Lawful.{AscendingNumbers}
use Rattle.dt_graph.specs.GraphChange.{lowest_subclass}
use Rattle.dt_graph.proofs.LinkLists.{each_link}
use Rattle.dt_graph.proofs.ListMembers.{by_cases}
use Rattle.dt_graph.proofs.Ascending.{LinkBelowAll, link_below_rest, links_tail, first_is_least}
use Rattle.dt_graph.proofs.AscendingSets.{ascending_tail}
use Rattle.dt_graph.proofs.Members.{has_first}

-- the lowest number that passes the test
abbrev pub IsLowest : (ℕ → Bool) → Option ℕ → Type 0
IsLowest test None = (n : ℕ) → test n ≡ false
IsLowest test (Some lowest) = IsTrue (test lowest) × ((n : ℕ) → IsTrue (test n) → lowest ≤ n)

-- there is one answer
one_lowest : (test : ℕ → Bool) (a b : Option ℕ) → IsLowest test a → IsLowest test b → a ≡ b
one_lowest test None None first second = refl
one_lowest test None (Some m) first second = absurd (false≢true (sym (first m) ∙ second.0))
one_lowest test (Some n) None first second = absurd (false≢true (sym (second n) ∙ first.0))
one_lowest test (Some n) (Some m) first second =
    let same : n ≡ m = omega (arith, first.1 m second.0, second.1 n first.0) in ap (λ k. Some k) same

IsLowest-same : (test other : ℕ → Bool) → ((n : ℕ) → test n ≡ other n) → (lowest : Option ℕ) → IsLowest test lowest → IsLowest other lowest
IsLowest-same test other same None known = λ n. sym (same n) ∙ known n
IsLowest-same test other same (Some m) known = (sym (same m) ∙ known.0, λ n passes. known.1 n (same n ∙ passes))

-- ---- the first of ascending numbers that passes a test

lowest_number : (test : ℕ → Bool) (numbers : List ℕ) → AscendingNumbers numbers → IsLowest (λ n. has_number numbers n && test n) (find test numbers)
lowest_number test [] ascending = λ n. refl
lowest_number test (x ∷ numbers) ascending = by_cases (test x)
    (λ passes. rw passes (
      and_from (has_number (x ∷ numbers) x) (test x) (has_first x numbers) passes,
      λ n both. first_is_least x numbers ascending n (and_parts (has_number (x ∷ numbers) n) (test n) both).0,
    ))
    (λ fails. rw fails (IsLowest-same (λ n. has_number numbers n && test n) (λ n. has_number (x ∷ numbers) n && test n)
    (λ n. let own : IsTrue (x == n) → test n ≡ false = λ here. ap test (sym (eqb-true x n here)) ∙ fails in grind arith)
    (find test numbers) (lowest_number test numbers (ascending_tail x numbers ascending))))

-- ---- the class of the first link to a parent

-- the links after a link are of its class or of a higher one
link_after : (l : Link) (links : List Link) → LinkBelowAll l links → (a b : ℕ) → IsTrue (has_link links a b) → l.class ≤ a
link_after l links after a b linked =
    each_link (λ a b. l.class ≤ a) links (All-weaker (λ m. IsTrue (is_link_before l m)) (λ m. l.class ≤ m.class)
    (λ m before. grind (arith, nat_tests)) links after) a b linked

pub lowest_linked : (links : List Link) (class : ℕ) → AscendingLinks links → IsLowest (λ n. has_link links n class) (lowest_subclass links class)
lowest_linked [] class ascending = λ n. refl
lowest_linked (l ∷ links) class ascending = by_cases (l.parent == class)
    (λ here. rw here (
      or_left _ _ (and_from _ _ (eq-eqb l.class l.class refl) refl),
      λ n linked. let later = link_after l links (link_below_rest l links ascending) n class in grind (arith, nat_tests),
    ))
    (λ other. rw other (IsLowest-same (λ n. has_link links n class) (λ n. (l.class == n && false) || has_link links n class)
    (λ n. rw (and_right (l.class == n) false refl) refl)
    (lowest_subclass links class) (lowest_linked links class (links_tail l links ascending))))

-- found among numbers that have all classes with the parent
pub lowest_found : (links : List Link) (class : ℕ) (numbers : List ℕ) → AscendingLinks links → AscendingNumbers numbers → ((n : ℕ) → IsTrue (has_link links n class) → IsTrue (has_number numbers n)) → find (λ n. has_link links n class) numbers ≡ lowest_subclass links class
lowest_found links class numbers ascending ascending' inside =
    one_lowest (λ n. has_link links n class) (find (λ n. has_link links n class) numbers) (lowest_subclass links class)
    (IsLowest-same (λ n. has_number numbers n && has_link links n class) (λ n. has_link links n class) (λ n. let there = inside n in grind arith)
    (find (λ n. has_link links n class) numbers) (lowest_number (λ n. has_link links n class) numbers ascending'))
    (lowest_linked links class ascending)
