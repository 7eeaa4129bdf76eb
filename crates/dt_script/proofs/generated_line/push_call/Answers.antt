use Rattle.dt_script.proofs.Joined.{on_ok}
use Rattle.dt_script.proofs.GeneratedSpelling.{put_two, call_text}
use Rattle.dt_script.proofs.generated_line.push_call.Goals as goal

pub returns : goal.returns
returns c = on_ok c.push.result c.push.ensures (λ is. put_two _ _ _ _ _ _ c.in_ok-push_keyed.ensures is (call_text (record { selector = c.args.selector; classes = c.args.classes.now })))
