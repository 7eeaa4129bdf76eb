-- Look-up over an image: one head for all kinds, and the kind's part.
use Rattle.std.specs.Prelude.{ℕ, ◌+◌, ◌==◌, ◌&&◌, not, nat_lt, Bool, if◌then◌else◌, List, [], ◌∷◌, Option, None, Some, unwrap_or}
use Rattle.std.specs.Option.{option_map}
use Rattle.dt_pages.specs.Reading.{Reading}
use Rattle.dt_scratch.specs.Query.{Query, arity_of_query}
use Rattle.dt_scratch.specs.declared.reply.Reply.{Reply}
use Rattle.dt_scratch.specs.declared.reply.Reply.TheVariants.{NoSelector, WrongArity, NoClass, Answered}
use Rattle.dt_cells.specs.Regions.{class_numbers, selector_numbers, selector_at}
use Rattle.dt_cells.specs.Kind.{Kind}

-- how many arguments the selector takes by its word, if it is live by it
abbrev pub arity_read : Reading → ℕ → Option ℕ
arity_read x selector =
    if nat_lt selector selector_numbers && not (x (selector_at selector) == 0) then Some (x (selector_at selector)) else None

-- whether the class is live by its word
abbrev pub is_class_read : Reading → ℕ → Bool
is_class_read x class = nat_lt class class_numbers && not (x class == 0)

-- the first place, from the given one on, whose class isn't live by its word
abbrev pub first_unread : Reading → ℕ → List ℕ → Option ℕ
first_unread x place [] = None
first_unread x place (class ∷ classes) =
    if is_class_read x class then first_unread x (place + 1) classes else Some place

-- the reply by the selector's word, if it isn't an answer, else by the first class that isn't live
abbrev pub head_by : Option ℕ → ℕ → Option ℕ → Option Reply
head_by None asked dead = Some NoSelector
head_by (Some arity) asked dead = if arity == asked then option_map NoClass dead else Some WrongArity

-- the reply by the selector word and the class words, if it isn't an answer
abbrev pub head_of : Reading → Query → Option Reply
head_of x query = head_by (arity_read x query.selector) (arity_of_query query) (first_unread x 1 query.classes)

-- the reply of a look-up: by the head, else the answer of the kind's part
abbrev pub found : Kind → Reading → Query → Reply
found k x query = unwrap_or (head_of x query) (Answered (k.part x query))
