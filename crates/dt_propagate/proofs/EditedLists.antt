-- The classes and keys that the edits of a batch name, edit by edit.
use Rattle.std.proofs.Common.{◌≡◌, ℕ, zero, suc, ◌+◌, List, [], ◌∷◌, ◌++◌, take, Some, sym, ap, ◌∙◌, arith, append_assoc, append-nil}
use Rattle.std.specs.Prelude.{slice_get}
use Rattle.dt_definitions.specs.declared.edit.Edit.{Edit}
use Rattle.dt_definitions.specs.Differing.{edited_by, edited_classes, redefined_by, redefined_keys}

some_same : {T : Type 0} (a b : T) → Some a ≡ Some b → a ≡ b
some_same a b same = cc

keys_along : (edits : List Edit) (i : ℕ) (edit : Edit) → slice_get edits i ≡ Some edit →
    redefined_keys (take (suc i) edits) ≡ redefined_keys (take i edits) ++ redefined_by edit
keys_along [] i edit e = absurd cc
keys_along (x ∷ edits) zero edit e = append-nil (redefined_by x) ∙ ap redefined_by (some_same x edit e)
keys_along (x ∷ edits) (suc i) edit e =
    ap (λ keys. redefined_by x ++ keys) (keys_along edits i edit e)
    ∙ sym (append_assoc (redefined_by x) (redefined_keys (take i edits)) (redefined_by edit))

classes_along : (edits : List Edit) (i : ℕ) (edit : Edit) → slice_get edits i ≡ Some edit →
    edited_classes (take (suc i) edits) ≡ edited_classes (take i edits) ++ edited_by edit
classes_along [] i edit e = absurd cc
classes_along (x ∷ edits) zero edit e = append-nil (edited_by x) ∙ ap edited_by (some_same x edit e)
classes_along (x ∷ edits) (suc i) edit e =
    ap (λ classes. edited_by x ++ classes) (classes_along edits i edit e)
    ∙ sym (append_assoc (edited_by x) (edited_classes (take i edits)) (edited_by edit))

pub more_keys : (edits : List Edit) (i : ℕ) (edit : Edit) → slice_get edits i ≡ Some edit →
    redefined_keys (take (i + 1) edits) ≡ redefined_keys (take i edits) ++ redefined_by edit
more_keys edits i edit e =
    ap (λ n. redefined_keys (take n edits)) (let s : i + 1 ≡ suc i = omega arith in s) ∙ keys_along edits i edit e

pub more_classes : (edits : List Edit) (i : ℕ) (edit : Edit) → slice_get edits i ≡ Some edit →
    edited_classes (take (i + 1) edits) ≡ edited_classes (take i edits) ++ edited_by edit
more_classes edits i edit e =
    ap (λ n. edited_classes (take n edits)) (let s : i + 1 ≡ suc i = omega arith in s) ∙ classes_along edits i edit e
