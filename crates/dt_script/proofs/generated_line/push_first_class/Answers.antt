use Rattle.std.proofs.Common.{◌++◌, ap, ◌∙◌}
use Rattle.dt_script.proofs.Joined.{on_ok}
use Rattle.dt_script.proofs.GeneratedSpelling.{first_class_text}
use Rattle.dt_script.proofs.generated_line.push_first_class.Goals as goal

pub returns : goal.returns
returns c = on_ok c.push.result c.push.ensures (λ is. is ∙ ap (λ l. c.args.text.now.items ++ l) first_class_text)
