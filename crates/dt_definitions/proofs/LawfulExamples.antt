-- What isn't lawful: definitions out of order or twice, and those that don't fit their program.
use Rattle.std.proofs.Common.{[], ◌∷◌, refl, arith}
use Rattle.std.proofs.lemmas.Bool.{false≢true}
use Rattle.dt_definitions.specs.Lawful.{AscendingDefinitions, LawfulDefinition, IsInRange}
use Rattle.dt_definitions.specs.OrderExamples.{at, program}
use Rattle.dt_definitions.specs.declared.edit.Edit.TheVariants as edit

in_order : AscendingDefinitions (at 4 (8 ∷ []) 2 ∷ at 4 (9 ∷ []) 1 ∷ at 5 (0 ∷ 0 ∷ []) 1 ∷ [])
in_order = (refl, (refl, tt))

not_in_order : AscendingDefinitions (at 4 (9 ∷ []) 1 ∷ at 4 (8 ∷ []) 2 ∷ []) → ⊥
not_in_order h = false≢true h.0

not_twice : AscendingDefinitions (at 4 (9 ∷ []) 1 ∷ at 4 (9 ∷ []) 2 ∷ []) → ⊥
not_twice h = false≢true h.0

of_too_few_arguments : LawfulDefinition program (at 5 (0 ∷ []) 1) → ⊥
of_too_few_arguments h = absurd cc

of_no_selector : LawfulDefinition program (at 6 (0 ∷ []) 1) → ⊥
of_no_selector h = absurd cc

at_no_class : LawfulDefinition program (at 5 (0 ∷ 9 ∷ []) 1) → ⊥
at_no_class h = false≢true (h.classes_live 1 0 (omega arith))

of_no_body : LawfulDefinition program (at 4 (0 ∷ []) 65536) → ⊥
of_no_body h = absurd (omega (arith, h.body_in_range))

a_class_too_many : IsInRange (edit.AddClass 2048 []) → ⊥
a_class_too_many h = absurd (omega (arith, h))

five_arguments : IsInRange (edit.AddSelector 4 5) → ⊥
five_arguments h = absurd (omega (arith, h.2))

a_body_too_many : IsInRange (edit.Define 4 (0 ∷ []) 65536) → ⊥
a_body_too_many h = absurd (omega (arith, h))

-- what takes away has no number that a program would keep
whatever_goes : IsInRange (edit.DropClass 2048)
whatever_goes = tt
