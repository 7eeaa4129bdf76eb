-- Look-up among the definitions that a program keeps for one selector.
use Rattle.std.specs.Prelude.{◌≡◌, ℕ, Bool, true, false, ◌&&◌, not, List, Option, None, Some, count_by, filter, MatchOption}
use Rattle.dt_graph.specs.Graph.{Link}
use Rattle.dt_definitions.specs.Program.{Definition, Program}
use Rattle.dt_definitions.specs.SelectorLists.{with_selector}
use Rattle.dt_definitions.specs.declared.defined.Defined.{Defined}
use Rattle.dt_scratch.specs.declared.reply.Answer.{Answer}
use Rattle.dt_scratch.specs.Query.{Query}
use Rattle.dt_scratch.specs.Resolve.{are_below, applicable, is_more_specific_at, minimal, answer_by}

-- the answer to a query at these classes, whose selector has these definitions
abbrev pub answer_among : List Link → List ℕ → List Definition → Answer
answer_among links classes definitions =
    answer_by (minimal links (filter (λ d. are_below links classes d.classes) definitions))

-- those that are applicable to the classes
abbrev pub applicable_among : List Link → List ℕ → List Defined → List Defined
applicable_among links classes defined = filter (λ d. are_below links classes d.classes) defined

-- more specific goes on: what is more specific than one is more specific than all that the one is
abbrev pub IsTransitive : List Link → Type 0
IsTransitive links = (a b c : List ℕ) →
    is_more_specific_at links a b ≡ true → is_more_specific_at links b c ≡ true → is_more_specific_at links a c ≡ true

-- whether the definition is more specific than the best so far, if there is one
abbrev pub is_better : List Link → Defined → Option Defined → Bool
is_better links d None = true
is_better links d (Some best) = is_more_specific_at links d.classes best.classes

-- how many are applicable to the classes and don't lose to the best, the best itself among them
abbrev pub count_unbeaten : List Link → List ℕ → Defined → List Defined → ℕ
count_unbeaten links classes best defined =
    count_by (λ d. are_below links classes d.classes && not (is_more_specific_at links best.classes d.classes)) defined

-- whether the best so far, if there is one, is more specific than the definition
abbrev pub beats : List Link → Option Defined → Defined → Bool
beats links None d = false
beats links (Some best) d = is_more_specific_at links best.classes d.classes

-- where there is a best, it is the only applicable one that doesn't lose to it
abbrev pub IsAlone : List Link → List ℕ → List Defined → Option Defined → Type 0
IsAlone links classes defined best = MatchOption best (Unit {0}) (λ b. count_unbeaten links classes b defined ≡ 1)

-- these definitions of the query's selector have all of the program that are applicable to it, in their order
abbrev pub HasAllApplicable : Program → Query → List Defined → Type 0
HasAllApplicable program query defined =
    filter (λ d. are_below program.graph.links query.classes d.classes) (with_selector query.selector defined)
    ≡ applicable program query
