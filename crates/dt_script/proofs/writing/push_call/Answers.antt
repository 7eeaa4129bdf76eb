use Rattle.std.proofs.Common.{codes}
use Rattle.dt_script.specs.Word.{Selector}
use Rattle.dt_script.specs.Writing.{word_text}
use Rattle.dt_script.proofs.Joined.{on_ok, keyed}
use Rattle.dt_script.proofs.writing.push_call.Goals as goal

pub returns : goal.returns
returns c = on_ok c.push_numbered.result c.push_numbered.ensures (λ is.
    keyed c.args.names.now c.args.text.now.items c.push.new.text.items c.push_called.new.text.items c.push_numbered.new.text.items (codes "call") (word_text c.args.names.now (Selector c.args.selector)) c.args.classes.now
    c.in_ok-push.ensures c.in_ok-push_called.ensures is)
