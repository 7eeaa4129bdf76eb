use Rattle.std.proofs.Common.{eqb, not, length, filter, ap, ◌∙◌}
use Rattle.std.proofs.lemmas.List.{length-map}
use Rattle.dt_graph.specs.Graph.{has_number}
use Rattle.dt_definitions.specs.Program.{Definition, key_of}
use Rattle.dt_definitions.proofs.DefinitionChanges.{filtered_any}
use Rattle.dt_definitions.proofs.all_definitions.AllDefinitions.names.Goals as goal

pub returns : goal.returns
returns c =
    let many = ap length c.naming.ensures ∙ length-map (filter (λ (d : Definition). has_number d.classes c.args.class) c.args.self.now.all) key_of in
    ap not (c.is_empty.ensures ∙ ap (λ n. eqb n 0) many) ∙ filtered_any (λ (d : Definition). has_number d.classes c.args.class) c.args.self.now.all
