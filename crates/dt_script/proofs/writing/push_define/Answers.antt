use Rattle.std.proofs.Common.{codes, refl}
use Rattle.dt_script.specs.Word.{Selector, Plain, Body}
use Rattle.dt_script.specs.Writing.{word_text}
use Rattle.dt_script.proofs.Joined.{on_ok, keyed_with_body}
use Rattle.dt_script.proofs.writing.push_define.Goals as goal

pub returns : goal.returns
returns c = on_ok c.push_body.result c.push_body.ensures (λ is.
    keyed_with_body c.args.names.now c.args.text.now.items c.push.new.text.items c.push_selector.new.text.items c.push_classes.new.text.items c.push_word.new.text.items c.push_body.new.text.items
    (codes "define") (word_text c.args.names.now (Selector c.args.selector)) (codes "->") (word_text c.args.names.now (Body c.args.body)) c.args.classes.now (Plain (codes "->")) (Body c.args.body) refl refl
    c.in_ok-push.ensures c.in_ok-push_selector.ensures c.in_ok-push_classes.ensures c.in_ok-push_word.ensures is)
