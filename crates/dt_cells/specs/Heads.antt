-- The class words and selector words of a program.
use Rattle.std.specs.Prelude.{◌≡◌, ℕ, ◌-◌, ◌<◌, ◌==◌, ◌&&◌, nat_lt, nat_le, Bool, false, if◌then◌else◌, List, unwrap_or}
use Rattle.std.specs.List.{list_any}
use Rattle.dt_graph.specs.Graph.{is_live}
use Rattle.dt_pages.specs.Reading.{Reading}
use Rattle.dt_definitions.specs.Program.{Program, arity_of}
use Rattle.dt_definitions.specs.declared.edit.Edit.{Edit}
use Rattle.dt_definitions.specs.declared.edit.Edit.TheVariants.{AddClass, DropClass, Link, Unlink, AddSelector, DropSelector, Define, Undefine}
use Rattle.dt_cells.specs.Regions.{class_numbers, selector_numbers, selector_at}

-- a class's word: 1 where it is live
abbrev pub class_word : Program → ℕ → ℕ
class_word p class = if is_live p.graph class then 1 else 0

-- a selector's word: how many arguments it takes, where it is live
abbrev pub selector_word : Program → ℕ → ℕ
selector_word p selector = unwrap_or (arity_of p selector) 0

-- the class words and selector words of a reading are those of the program
pub record HasHeads (p : Program) (x : Reading) : Type 0 where
  pub classes : (class : ℕ) → class < class_numbers → x class ≡ class_word p class
  pub selectors : (selector : ℕ) → selector < selector_numbers → x (selector_at selector) ≡ selector_word p selector

-- the class word or selector word of a program at an address, and 0 at every other address
abbrev pub head_word : Program → ℕ → ℕ
head_word p address =
    if nat_lt address class_numbers then class_word p address
    else (if nat_le 4096 address && nat_lt address 8192 then selector_word p (address - 4096) else 0)

-- the reading with the new program's word wherever the two programs have different ones
abbrev pub with_heads : Program → Program → Reading → Reading
with_heads old new x address =
    if head_word old address == head_word new address then x address else head_word new address

-- whether the word at the address is that of the class or the selector that the edit adds or drops
abbrev pub sets_head : ℕ → Edit → Bool
sets_head address (AddClass class parents) = address == class
sets_head address (DropClass class) = address == class
sets_head address (Link class parent) = false
sets_head address (Unlink class parent) = false
sets_head address (AddSelector selector arity) = address == selector_at selector
sets_head address (DropSelector selector) = address == selector_at selector
sets_head address (Define selector classes body) = false
sets_head address (Undefine selector classes) = false

-- whether it is so for one of the edits
abbrev pub sets_head_any : ℕ → List Edit → Bool
sets_head_any address edits = list_any (sets_head address) edits
