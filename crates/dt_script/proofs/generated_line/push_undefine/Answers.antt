use Rattle.dt_script.proofs.Joined.{on_ok}
use Rattle.dt_script.proofs.GeneratedSpelling.{put_two, undefine_text}
use Rattle.dt_script.proofs.generated_line.push_undefine.Goals as goal

pub returns : goal.returns
returns c = on_ok c.push.result c.push.ensures (λ is. put_two _ _ _ _ _ _ c.in_ok-push_keyed.ensures is (undefine_text c.args.selector c.args.classes.now))
