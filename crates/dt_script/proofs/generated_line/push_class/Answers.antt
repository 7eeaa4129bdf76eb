use Rattle.std.proofs.Common.{[], ◌∷◌, ◌++◌, codes, decimal, ap, ◌∙◌}
use Rattle.dt_script.proofs.Joined.{on_ok}
use Rattle.dt_script.proofs.GeneratedSpelling.{tuple_text, class_put}
use Rattle.dt_script.proofs.generated_line.push_class.Goals as goal

pub returns : goal.returns
returns c = on_ok c.push-3.result c.push-3.ensures (λ is.
    class_put c.args.text.now.items c.push-3.new.text.items c.args.class c.args.parents.now c.requires
    (is ∙ ap (λ l. l ++ 10 ∷ []) (c.in_ok-push_tuple.ensures ∙ ap (λ l. l ++ tuple_text c.args.parents.now)
    (c.in_ok-push-2.ensures ∙ ap (λ l. l ++ codes " <") (c.in_ok-push_name.ensures ∙ ap (λ l. l ++ 32 ∷ 99 ∷ decimal c.args.class) c.in_ok-push.ensures)))))
