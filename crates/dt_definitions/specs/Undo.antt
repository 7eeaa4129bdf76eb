-- How a batch is undone: each edit that was made is undone by one edit, from the last to the first.
use Rattle.std.specs.Prelude.{◌≡◌, ℕ, if◌then◌else◌, List, [], ◌∷◌, ◌++◌, take, drop, Option, None, Some}
use Rattle.dt_graph.specs.Parents.{parents_of}
use Rattle.dt_definitions.specs.Program.{Program, empty_program, arity_of, body_of}
use Rattle.dt_definitions.specs.SelectorLists.{Rooms, Definitions, HasRoomFor}
use Rattle.dt_definitions.specs.Step.{refusal, effect}
use Rattle.dt_definitions.specs.Memory.{undoing_takes_memory}
use Rattle.dt_definitions.specs.declared.edit.Edit.{Edit}
use Rattle.dt_definitions.specs.declared.edit.Edit.TheVariants.{AddClass, DropClass, Link, Unlink, AddSelector, DropSelector, Define, Undefine}

-- the edit by which the selector has this arity again, or this body at these classes, or none
abbrev pub arity_again : ℕ → Option ℕ → Edit
arity_again selector None = DropSelector selector
arity_again selector (Some arity) = AddSelector selector arity

abbrev pub body_again : ℕ → List ℕ → Option ℕ → Edit
body_again selector classes None = Undefine selector classes
body_again selector classes (Some body) = Define selector classes body

-- the edit that undoes this one, made on the program
abbrev pub inverse : Program → Edit → Edit
inverse p (AddClass class parents) = DropClass class
inverse p (DropClass class) = AddClass class (parents_of p.graph.links class)
inverse p (Link class parent) = Unlink class parent
inverse p (Unlink class parent) = Link class parent
inverse p (AddSelector selector arity) = DropSelector selector
inverse p (DropSelector selector) = arity_again selector (arity_of p selector)
inverse p (Define selector classes body) = body_again selector classes (body_of p.definitions selector classes)
inverse p (Undefine selector classes) = body_again selector classes (body_of p.definitions selector classes)

-- what is kept to undo the edit: nothing where the edit tells it
abbrev pub kept_of : Program → Edit → List Edit
kept_of p edit = if undoing_takes_memory edit then inverse p edit ∷ [] else []

-- what undoes these edits, the last first: of an edit that tells it this, of others what was kept, the last first
abbrev pub undoing : List Edit → List Edit → List Edit
undoing [] kept = []
undoing (edit ∷ earlier) kept =
    if undoing_takes_memory edit
    then take 1 kept ++ undoing earlier (drop 1 kept)
    else inverse empty_program edit ∷ undoing earlier kept

-- none of the edits, made in turn, is refused, and they lead to the old program
abbrev pub LeadsBack : Program → List Edit → Program → Type 0
LeadsBack p [] old = p ≡ old
LeadsBack p (edit ∷ edits) old = (refusal p edit ≡ None) × LeadsBack (effect p edit) edits old

-- the definitions have room for the one that the edit makes or takes away
abbrev pub HasRoom : Definitions → Edit → Type 0
HasRoom definitions (AddClass class parents) = Unit {0}
HasRoom definitions (DropClass class) = Unit {0}
HasRoom definitions (Link class parent) = Unit {0}
HasRoom definitions (Unlink class parent) = Unit {0}
HasRoom definitions (AddSelector selector arity) = Unit {0}
HasRoom definitions (DropSelector selector) = Unit {0}
HasRoom definitions (Define selector classes body) = HasRoomFor definitions selector classes
HasRoom definitions (Undefine selector classes) = HasRoomFor definitions selector classes

-- each time that an edit is made the definitions, with this much room, have room for it
abbrev pub HasRooms : Rooms → Program → List Edit → Type 0
HasRooms rooms p [] = Unit {0}
HasRooms rooms p (edit ∷ edits) =
    HasRoom (record { all = p.definitions; rooms = rooms }) edit × HasRooms rooms (effect p edit) edits
