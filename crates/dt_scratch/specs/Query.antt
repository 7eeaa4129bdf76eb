-- A query: a selector is sent to a list of classes, one for each argument. Any numbers may be asked.
use Rattle.std.specs.Prelude.{ℕ, ◌<◌, ◌≤◌, Bool, List, length, nat_eq, All}
use Rattle.std.specs.Cmp.Lexicographic.{slice_cmp}
use Rattle.std.specs.Ordering.{nat_cmp, on, then_cmp, eq_of_both}
use Rattle.std.specs.declared.cmp.Ordering.{Ordering}
use lib.Pointwise.{pointwise}

pub record Query : Type 0 where
  pub selector : ℕ
  pub classes : List ℕ

-- how many arguments the query has
abbrev pub arity_of_query : Query → ℕ
arity_of_query query = length query.classes

-- what holds of every query that is asked: it has one to four classes, and all its numbers are below 2 ^ 16
pub record LawfulQuery (query : Query) : Type 0 where
  pub some : 0 < length query.classes
  pub few : length query.classes ≤ 4
  pub selector_in_range : query.selector < 65536
  pub classes_in_range : All (λ class. class < 65536) query.classes

-- whether the two queries are the same
abbrev pub is_same_query : Query → Query → Bool
is_same_query =
    eq_of_both (on (λ q. q.selector) nat_eq)
    (eq_of_both (on arity_of_query nat_eq) (on (λ q. q.classes) (pointwise nat_eq)))

-- queries are ordered by selector, then by arity, then by the list of classes
abbrev pub query_order : Query → Query → Ordering
query_order =
    then_cmp (on (λ q. q.selector) nat_cmp)
    (then_cmp (on arity_of_query nat_cmp) (on (λ q. q.classes) (slice_cmp nat_cmp)))
