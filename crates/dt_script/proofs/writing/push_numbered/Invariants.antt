use Rattle.std.proofs.Common.{◌≡◌, ◌++◌, ◌∷◌, take, flat_map}
use Rattle.dt_script.specs.Word.{Class}
use Rattle.dt_script.specs.Writing.{word_text}
use Rattle.dt_script.proofs.writing.push_numbered.Given as goal

abbrev pub invariant-loop-class : goal.invariant-loop-class
invariant-loop-class l = l.text.items ≡ l.fn.text.items ++ flat_map (λ class. 32 ∷ word_text l.names (Class class)) (take l.class-index l.classes)
