-- Look-up from scratch: all definitions are filtered anew for each query.
use Rattle.std.specs.Prelude.{◌==◌, ℕ, ◌+◌, Bool, true, false, ◌&&◌, not, if◌then◌else◌, List, [], ◌∷◌, Option, None, Some, filter}
use Rattle.std.specs.List.{list_any}
use Rattle.dt_graph.specs.Graph.{Link, Graph, is_live}
use Rattle.dt_graph.specs.Below.{is_below}
use Rattle.dt_definitions.specs.Program.{Definition, Program, arity_of, same_classes}
use Rattle.dt_scratch.specs.Query.{Query, arity_of_query}
use Rattle.dt_scratch.specs.declared.reply.Answer.{Answer}
use Rattle.dt_scratch.specs.declared.reply.Answer.TheVariants.{Method, NotUnderstood, Ambiguous}
use Rattle.dt_scratch.specs.declared.reply.Reply.{Reply}
use Rattle.dt_scratch.specs.declared.reply.Reply.TheVariants.{NoSelector, WrongArity, NoClass, Answered}

-- whether each class of the first list is below the class in the same position of the second, and the lists are as long
abbrev pub are_below : List Link → List ℕ → List ℕ → Bool
are_below links [] [] = true
are_below links [] (high ∷ highs) = false
are_below links (low ∷ lows) [] = false
are_below links (low ∷ lows) (high ∷ highs) = is_below links low high && are_below links lows highs

-- the definitions of the query's selector whose every class has the query's class of the same position below it
abbrev pub applicable : Program → Query → List Definition
applicable p query =
    filter (λ d. (d.selector == query.selector) && are_below p.graph.links query.classes d.classes) p.definitions

-- whether the first list of classes is another than the second, and at least as specific in every position
abbrev pub is_more_specific_at : List Link → List ℕ → List ℕ → Bool
is_more_specific_at links a b = not (same_classes a b) && are_below links a b

-- whether the first definition is more specific than the second: it is so at its classes
abbrev pub is_more_specific : List Link → Definition → Definition → Bool
is_more_specific links a b = is_more_specific_at links a.classes b.classes

-- those of the definitions than which no other is more specific
abbrev pub minimal : List Link → List Definition → List Definition
minimal links definitions =
    filter (λ d. not (list_any (λ other. is_more_specific links other d) definitions)) definitions

-- the answer by the minimal definitions: none, one, or more
abbrev pub answer_by : List Definition → Answer
answer_by [] = NotUnderstood
answer_by (d ∷ []) = Method d.body
answer_by (d ∷ e ∷ definitions) = Ambiguous

-- the answer to a query
abbrev pub answer : Program → Query → Answer
answer p query = answer_by (minimal p.graph.links (applicable p query))

-- the first position, from the given one on, whose class isn't live
abbrev pub first_dead : Graph → ℕ → List ℕ → Option ℕ
first_dead graph position [] = None
first_dead graph position (class ∷ classes) =
    if is_live graph class then first_dead graph (position + 1) classes else Some position

-- the reply to a query whose selector takes as many arguments: by the first class that isn't live, or by the answer
abbrev pub reply_by_classes : Option ℕ → Answer → Reply
reply_by_classes (Some position) a = NoClass position
reply_by_classes None a = Answered a

-- the reply by the selector's arity
abbrev pub reply_by_arity : Option ℕ → ℕ → Reply → Reply
reply_by_arity None asked rest = NoSelector
reply_by_arity (Some arity) asked rest = if arity == asked then rest else WrongArity

-- the reply to a query: no selector; another arity; the first position, from 1, whose class isn't live; or the answer
abbrev pub reply : Program → Query → Reply
reply p query = reply_by_arity (arity_of p query.selector) (arity_of_query query)
    (reply_by_classes (first_dead p.graph 1 query.classes) (answer p query))

-- the answer of a reply, and not understood where there is none
abbrev pub cell_of : Reply → Answer
cell_of (Answered a) = a
cell_of _ = NotUnderstood

-- the cell of a query
abbrev pub cell : Program → Query → Answer
cell p query = cell_of (reply p query)
