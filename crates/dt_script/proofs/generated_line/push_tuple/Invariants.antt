use Rattle.std.proofs.Common.{◌≡◌, ◌++◌, ◌∷◌, take, flat_map}
use Rattle.dt_script.specs.Word.{Class}
use Rattle.dt_script.specs.GeneratedText.{generated_word}
use Rattle.dt_script.proofs.generated_line.push_tuple.Given as goal

abbrev pub invariant-loop-class : goal.invariant-loop-class
invariant-loop-class l = l.text.items ≡ l.fn.text.items ++ flat_map (λ class. 32 ∷ generated_word (Class class)) (take l.class-index l.classes)
