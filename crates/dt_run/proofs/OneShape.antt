-- Logs of one script have one shape.
use Rattle.std.proofs.Common.{◌≡◌, List, [], ◌∷◌, length, suc, refl, sym, ap, ◌∙◌}
use Rattle.std.specs.List.{AllZip}
use Rattle.dt_script.specs.Script.{Part, Phase}
use Rattle.dt_run.specs.Log.{PartLog, PhaseLog}
use Rattle.dt_run.specs.LogShape.{IsLogOfLine, IsLogOfPart, IsLogOfPhase}
use Rattle.dt_run.specs.Shape.{IsSamePart, IsSamePhase}
use Rattle.dt_run.specs.TextLaws.{OneShapeOfScript}

as_many : {A B : Type 0} (R : A → B → Type 0) (xs : List A) (ys : List B) → AllZip R xs ys → length ys ≡ length xs
as_many R [] [] are = refl
as_many R [] (y ∷ ys) are = absurd are
as_many R (x ∷ xs) [] are = absurd are
as_many R (x ∷ xs) (y ∷ ys) (is, are) = ap (λ n. suc n) (as_many R xs ys are)

-- what two are to each item of a list, they are to each other
zip_both : {X A : Type 0} (R : X → A → Type 0) (S : A → A → Type 0) (xs : List X) (ys zs : List A) → ((x : X) (a b : A) → R x a → R x b → S a b)
    → AllZip R xs ys → AllZip R xs zs → AllZip S ys zs
zip_both R S [] [] [] each first second = tt
zip_both R S [] [] (z ∷ zs) each first second = absurd second
zip_both R S [] (y ∷ ys) zs each first second = absurd first
zip_both R S (x ∷ xs) [] zs each first second = absurd first
zip_both R S (x ∷ xs) (y ∷ ys) [] each first second = absurd second
zip_both R S (x ∷ xs) (y ∷ ys) (z ∷ zs) each (is, first) (is', second) = (each x y z is is', zip_both R S xs ys zs each first second)

same_part : (part : Part) (a b : PartLog) → IsLogOfPart part a → IsLogOfPart part b → IsSamePart a b
same_part part a b (caller, lines) (caller', lines') =
    (caller ∙ sym caller', as_many IsLogOfLine part.lines a.lines lines ∙ sym (as_many IsLogOfLine part.lines b.lines lines'))

same_phase : (phase : Phase) (a b : PhaseLog) → IsLogOfPhase phase a → IsLogOfPhase phase b → IsSamePhase a b
same_phase phase a b (edits, callers) (edits', callers') =
    (edits ∙ sym edits', zip_both IsLogOfPart IsSamePart phase.callers a.callers b.callers same_part callers callers')

pub one_shape_of_script : OneShapeOfScript
one_shape_of_script script a b first second = zip_both IsLogOfPhase IsSamePhase script.phases a.phases b.phases same_phase first second
