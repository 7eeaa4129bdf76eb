use Rattle.std.proofs.Common.{◌++◌, ◌∷◌, ap, ◌∙◌, codes}
use Rattle.dt_script.specs.Word.{Class}
use Rattle.dt_script.specs.Writing.{word_text}
use Rattle.dt_script.proofs.Joined.{on_ok, subclass_text, classes_text}
use Rattle.dt_script.proofs.writing.push_new.Goals as goal

pub returns : goal.returns
returns c = on_ok c.push_classes.result c.push_classes.ensures (λ is.
    subclass_text c.args.names.now c.args.class c.args.text.now.items c.push_classes.new.text.items c.args.parents.now (λ none. absurd (let e = rw none at c.is_empty.ensures in cc))
    (is ∙ ap (λ l. l ++ classes_text c.args.names.now c.args.parents.now) (c.in_ok-push_word.ensures ∙ ap (λ l. l ++ 32 ∷ codes "<") (c.in_ok-push_class.ensures ∙ ap (λ l. l ++ 32 ∷ word_text c.args.names.now (Class c.args.class)) c.in_ok-push.ensures))))
