-- A definition that is placed is there; and one that is found is of its selector and classes.
use Rattle.std.proofs.Common.{◌≡◌, ℕ, true, IsTrue, List, [], ◌∷◌, find, Some, refl, sym, ap, ◌∙◌}
use Rattle.std.specs.List.{list_any}
use Rattle.std.proofs.lemmas.Bool.{false≢true}
use Rattle.dt_definitions.specs.Program.{Definition, is_definition, insert_definition, key_of, is_key_before, is_same_key}
use Rattle.dt_definitions.specs.SelectorLists.{Definitions, HasRoomFor}
use Rattle.dt_definitions.proofs.DefinitionOrder.{key_order}
use Rattle.dt_graph.proofs.InOrder.{found_key, placed}

-- a definition that is there needs no room
pub has_room : (definitions : Definitions) (s : ℕ) (cs : List ℕ)
    → list_any (is_definition s cs) definitions.all ≡ true → HasRoomFor definitions s cs
has_room definitions s cs there = λ absent. absurd (false≢true (sym absent ∙ there))

pub placed_there : (d : Definition) (ds : List Definition)
    → list_any (is_definition d.selector d.classes) (insert_definition d ds) ≡ true
placed_there d [] = rw (key_order.reflexive (key_of d)) refl
placed_there d (e ∷ ds) =
    let here : IsTrue (is_definition d.selector d.classes d) = key_order.reflexive (key_of d) in
    placed key_of is_key_before is_same_key key_order (λ ds. list_any (is_definition d.selector d.classes) ds ≡ true) d e ds
    (λ _. rw here refl) (λ _ _. rw here refl) (λ _ other. rw other (placed_there d ds))

-- ---- what was there comes back

-- the one that is found is of this selector and these classes
pub found_is : (s : ℕ) (cs : List ℕ) (ds : List Definition) (old : Definition) → find (is_definition s cs) ds ≡ Some old
    → old ≡ record { selector = s; classes = cs; body = old.body }
found_is s cs ds old there =
    let e = found_key key_of is_key_before is_same_key key_order (record { selector = s; classes = cs }) ds old there in
    let a : old.selector ≡ s = ap (λ k. k.selector) e in
    let b : old.classes ≡ cs = ap (λ k. k.classes) e in
    rw (sym a, sym b) refl
