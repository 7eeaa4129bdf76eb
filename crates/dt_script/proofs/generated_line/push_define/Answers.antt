use Rattle.std.proofs.Common.{[], ◌∷◌, ◌++◌, codes, decimal, ap, ◌∙◌}
use Rattle.dt_script.proofs.Joined.{on_ok}
use Rattle.dt_script.proofs.GeneratedSpelling.{define_put}
use Rattle.dt_script.proofs.generated_line.push_define.Goals as goal

pub returns : goal.returns
returns c = on_ok c.push-2.result c.push-2.ensures (λ is.
    define_put c.args.text.now.items c.push-2.new.text.items c.args.selector c.args.classes.now c.args.body
    (is ∙ ap (λ l. l ++ 10 ∷ []) (c.in_ok-push_name.ensures ∙ ap (λ l. l ++ 32 ∷ 98 ∷ decimal c.args.body)
    (c.in_ok-push.ensures ∙ ap (λ l. l ++ codes " ->") c.in_ok-push_keyed.ensures))))
