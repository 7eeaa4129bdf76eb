use Rattle.std.proofs.Common.{eqb, not, length, sym, ap, ◌∙◌}
use Rattle.dt_definitions.specs.Program.{Definition}
use Rattle.dt_definitions.proofs.DefinitionChanges.{filtered_any, length_with}
use Rattle.dt_definitions.proofs.all_definitions.AllDefinitions.is_defined.Goals as goal

pub returns : goal.returns
returns c =
    let many = sym (length_with c.args.selector c.of.result.now) ∙ ap length c.of.ensures in
    ap not (c.is_empty.ensures ∙ ap (λ n. eqb n 0) many) ∙ filtered_any (λ (d : Definition). eqb d.selector c.args.selector) c.args.self.now.all
