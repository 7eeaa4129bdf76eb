use Rattle.std.proofs.Common.{◌≡◌, ◌+◌, ◌∷◌, ◌∙◌, None, sym, ap}
use Rattle.dt_graph.specs.FirstFrom.{first_from}
use Rattle.dt_graph.proofs.AscendingSets.{from_on_all, from_on_some, from_on_none}
use Rattle.dt_graph.proofs.class_set.ClassSet.only.Goals as goal

pub returns-in-None : goal.returns-in-None
returns-in-None c =
    let none : first_from (c.in_ok-class.class + 1) c.args.self.now ≡ None =
    ap (λ n. first_from (n + 1) c.args.self.now) (sym c.number.ensures.value) ∙ sym c.first_from-2.ensures ∙ c.in-None.is in
    sym (from_on_all c.args.self.now)
    ∙ from_on_some c.args.self.now 0 c.in_ok-class.class c.law.ensures.ascend (sym c.in_ok-class.ensures)
    ∙ ap (λ ns. c.in_ok-class.class ∷ ns) (from_on_none c.args.self.now (c.in_ok-class.class + 1) none)
