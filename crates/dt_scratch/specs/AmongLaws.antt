-- Which definitions are enough to answer a query among.
use Rattle.std.specs.Prelude.{◌≡◌, Bool, true, List, filter}
use Rattle.dt_definitions.specs.SelectorLists.{with_selector}
use Rattle.dt_definitions.specs.Program.{Program, definitions_of}
use Rattle.dt_definitions.specs.declared.defined.Defined.{Defined}
use Rattle.dt_scratch.specs.Query.{Query}
use Rattle.dt_scratch.specs.Resolve.{are_below}
use Rattle.dt_scratch.specs.Among.{HasAllApplicable}

-- the definitions of the query's selector are enough
abbrev pub AllAreEnough : Type 0
AllAreEnough = (program : Program) (query : Query) (defined : List Defined) →
    with_selector query.selector defined ≡ definitions_of program query.selector → HasAllApplicable program query defined

-- and so are those that a filter leaves of enough, if it passes over none that is applicable
abbrev pub PartsAreEnough : Type 0
PartsAreEnough = (program : Program) (query : Query) (defined : List Defined) (keeps : Defined → Bool) →
    HasAllApplicable program query defined →
    ((d : Defined) → are_below program.graph.links query.classes d.classes ≡ true → keeps d ≡ true) →
    HasAllApplicable program query (filter keeps defined)
