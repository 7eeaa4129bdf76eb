-- Undoing all that was kept, and the steps of a batch that keep it.
use Rattle.std.proofs.Common.{◌≡◌, ℕ, ◌+◌, ◌<◌, true, false, cond, append-nil, List, [], ◌∷◌, ◌++◌, length, drop, take, get_or, reverse, Option, Some, None, Ok, Err, Result, IsOk, refl, sym, ap, subst, ◌∙◌, arith}
use Rattle.std.proofs.lemmas.Bool.{false≢true}
use Rattle.std.proofs.lemmas.List.{reverse-append, drop_more, take_more}
use Rattle.dt_definitions.specs.Program.{Program, empty_program, arity_of, body_of}
use Rattle.dt_definitions.specs.SelectorLists.{Rooms, Definitions, HasRoomFor, RoomStays}
use Rattle.dt_definitions.specs.Step.{refusal, step_edit, effect, step_from, and_then, Refused, Applies}
use Rattle.dt_definitions.specs.Memory.{undoing_takes_memory, NoMemoryOnlyWhere}
use Rattle.dt_definitions.specs.Undo.{inverse, arity_again, body_again, kept_of, undoing, LeadsBack, HasRoom, HasRooms}
use Rattle.dt_definitions.specs.declared.edit.Edit.{Edit}
use Rattle.dt_definitions.specs.declared.edit.Edit.TheVariants.{AddClass, Link, Unlink, AddSelector, DropSelector, Define, Undefine}
use Rattle.dt_definitions.specs.declared.why.ApplyFault.{ApplyFault}
use Rattle.dt_definitions.specs.declared.why.ApplyFault.TheVariants as apply_fault
use Rattle.dt_definitions.proofs.AnswerLaws.{ok_has_no_cause}
use Rattle.dt_definitions.proofs.Steps.{accepted}

-- one edit more is undone first
pub done_more : (edits : List Edit) (i : ℕ) (edit : Edit) → i < length edits → edit ≡ get_or edits i edit
    → reverse (take (i + 1) edits) ≡ edit ∷ reverse (take i edits)
done_more edits i edit l r =
    ap reverse (take_more edits i edit l) ∙ reverse-append (take i edits) (get_or edits i edit ∷ []) ∙ ap (λ e. e ∷ reverse (take i edits)) (sym r)

-- what undoes the edit, where it tells that, is the same in every program
told : (p : Program) (edit : Edit) → undoing_takes_memory edit ≡ false → inverse empty_program edit ≡ inverse p edit
told p (AddClass class parents) h = refl
told p (Link class parent) h = refl
told p (Unlink class parent) h = refl
told p (AddSelector selector arity) h = refl
told p edit h = absurd (false≢true (sym h))

-- with what was kept of it an edit is undone by its inverse, and then the earlier ones
pub undoing_more : (p : Program) (edit : Edit) (earlier kept : List Edit)
    → undoing (edit ∷ earlier) (reverse (kept ++ kept_of p edit)) ≡ inverse p edit ∷ undoing earlier (reverse kept)
undoing_more p edit earlier kept =
    elim (undoing_takes_memory edit) as (λ t. undoing_takes_memory edit ≡ t
    → cond t (take 1 (reverse (kept ++ cond t (inverse p edit ∷ []) [])) ++ undoing earlier (drop 1 (reverse (kept ++ cond t (inverse p edit ∷ []) []))))
    (inverse empty_program edit ∷ undoing earlier (reverse (kept ++ cond t (inverse p edit ∷ []) [])))
    ≡ inverse p edit ∷ undoing earlier (reverse kept)) [
      | true ↦ λ _. rw (reverse-append kept (inverse p edit ∷ [])) refl
      | false ↦ λ h. rw (append-nil kept, told p edit h) refl
    ] refl

room_again : (ds : Definitions) (selector : ℕ) (classes : List ℕ) (body : Option ℕ) → HasRoomFor ds selector classes → HasRoom ds (body_again selector classes body)
room_again ds selector classes None h = h
room_again ds selector classes (Some body) h = h

-- the room that there was for an edit is room for its inverse
pub room_back : (p : Program) (definitions : Definitions) (edit : Edit) → HasRoom definitions edit → HasRoom definitions (inverse p edit)
room_back p ds (DropSelector selector) h = again (arity_of p selector)
  where
    again : (arity : Option ℕ) → HasRoom ds (arity_again selector arity)
    again None = tt
    again (Some arity) = tt
room_back p ds (Define selector classes body) h = room_again ds selector classes (body_of p.definitions selector classes) h
room_back p ds (Undefine selector classes) h = room_again ds selector classes (body_of p.definitions selector classes) h
room_back p ds edit h = tt

-- more room is as good
room_for_more : (p : Program) (rooms more : Rooms) (selector : ℕ) (classes : List ℕ) → RoomStays rooms more
    → HasRoomFor (record { all = p.definitions; rooms = rooms }) selector classes → HasRoomFor (record { all = p.definitions; rooms = more }) selector classes
room_for_more p rooms more selector classes s h = λ absent.
    let l = h absent in (
      let row = l.0 in omega (arith, row, s.0 selector),
      λ class small there. let list = l.1 class small there in omega (arith, list, s.1 class),
    )

room_more : (p : Program) (rooms more : Rooms) (edit : Edit) → RoomStays rooms more
    → HasRoom (record { all = p.definitions; rooms = rooms }) edit → HasRoom (record { all = p.definitions; rooms = more }) edit
room_more p rooms more (Define selector classes body) s h = room_for_more p rooms more selector classes s h
room_more p rooms more (Undefine selector classes) s h = room_for_more p rooms more selector classes s h
room_more p rooms more edit s h = tt

pub rooms_more : (log : List Edit) (p : Program) (rooms more : Rooms) → RoomStays rooms more → HasRooms rooms p log → HasRooms more p log
rooms_more [] p rooms more s h = tt
rooms_more (edit ∷ log) p rooms more s h =
    (room_more p rooms more edit s h.0, rooms_more log (effect p edit) rooms more s h.1)

-- the rest of a batch after an edit that was applied, and after one that was refused
pub rest_applied : (edits : List Edit) (i : ℕ) (edit : Edit) (old new : Program) (whole : Result Program Refused)
    → i < length edits → edit ≡ get_or edits i edit → step_edit old edit ≡ Ok new
    → step_from (i + 1) old (drop i edits) ≡ whole → step_from (i + 1 + 1) new (drop (i + 1) edits) ≡ whole
rest_applied edits i edit old new whole l r h rest =
    let d : drop i edits ≡ edit ∷ drop (i + 1) edits = drop_more edits i edit l ∙ ap (λ e. e ∷ drop (i + 1) edits) (sym r) in
    let rest' = rw d at rest in
    sym (ap (λ s. and_then s (i + 1) (λ q. step_from (i + 1 + 1) q (drop (i + 1) edits))) h) ∙ rest'

-- the answer of an edit that isn't refused, where memory isn't wanted
pub surely_made : (old new : Program) (edit : Edit) (answer : Result (Unit {0}) ApplyFault) → refusal old edit ≡ None
    → Applies old edit new answer → NoMemoryOnlyWhere false answer → IsOk answer
surely_made old new edit (Ok _) none applies enough = refl
surely_made old new edit (Err (apply_fault.Refused why)) none applies enough =
    let made = accepted old edit (sym none) in let step = applies.0 in absurd cc
surely_made old new edit (Err apply_fault.NoMemory) none applies enough = absurd (false≢true enough)

-- after the last of the edits that undo
pub one_back : (p q old : Program) (inverse : Edit) (log rest : List Edit) → log ≡ inverse ∷ rest → step_edit p inverse ≡ Ok q
    → LeadsBack p log old → LeadsBack q rest old
one_back p q old inverse log rest same made back =
    let tail = (subst (λ l. LeadsBack p l old) same back).1 in
    subst (λ r. LeadsBack r rest old) (sym (ok_has_no_cause p q inverse made).1) tail

pub rooms_back : (p q : Program) (inverse : Edit) (log rest : List Edit) (rooms more : Rooms) → log ≡ inverse ∷ rest → step_edit p inverse ≡ Ok q
    → RoomStays rooms more → HasRooms rooms p log → HasRooms more q rest
rooms_back p q inverse log rest rooms more same made stays has =
    let tail = (subst (HasRooms rooms p) same has).1 in
    rooms_more rest q rooms more stays (subst (λ r. HasRooms rooms r rest) (sym (ok_has_no_cause p q inverse made).1) tail)
