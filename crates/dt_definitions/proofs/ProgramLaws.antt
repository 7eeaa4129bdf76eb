-- What holds of every lawful program.
use Rattle.std.proofs.Common.{◌<◌}
use Rattle.std.proofs.lemmas.List.Elements.{All-weaker}
use Rattle.dt_graph.specs.declared.limits.TheConstants.{CLASSES}
use Rattle.dt_selectors.specs.declared.limits.TheConstants.{BODIES}
use Rattle.dt_definitions.specs.Program.{Definition}
use Rattle.dt_definitions.specs.Lawful.{LawfulDefinition}
use Rattle.dt_definitions.specs.ProgramLaws.{LiveClassesAreInRange, DefinitionsFit, DefinitionsStandOnce, BodiesAreInRange, NoClassIsAboveItself}
use Rattle.dt_graph.proofs.LinkLists.{each_number}
use Rattle.dt_definitions.proofs.DefinitionOrder.{defined-once}
use Rattle.dt_definitions.proofs.LawfulSteps.{definitions-fit}

pub live_classes_are_in_range : LiveClassesAreInRange
live_classes_are_in_range p l class live = each_number (λ n. n < CLASSES) p.graph.classes l.graph.classes_in_range class live

pub definitions_fit : DefinitionsFit
definitions_fit p l selector = definitions-fit p l selector

pub definitions_stand_once : DefinitionsStandOnce
definitions_stand_once p l selector classes = defined-once selector classes p.definitions l.definitions_ascend

pub bodies_are_in_range : BodiesAreInRange
bodies_are_in_range p l =
    All-weaker (LawfulDefinition p) (λ (d : Definition). d.body < BODIES) (λ d h. h.body_in_range) p.definitions l.definitions_lawful

pub no_class_is_above_itself : NoClassIsAboveItself
no_class_is_above_itself p l = l.graph.no_cycle
