use Rattle.std.proofs.Common.{List, sym, subst}
use Rattle.dt_fit.specs.declared.geometry.Geometry.TheVariants.{Colours}
use Rattle.dt_placing.specs.declared.staged.StagedWord.{StagedWord}
use Rattle.dt_placing.specs.Placing.{Follows}
use Rattle.dt_colour.proofs.colour.ColourTableKind.settle.Goals as goal

pub returns-clause-stands : goal.returns-clause-stands
returns-clause-stands c = λ x held changes y st follows places stay.
    c.settle.ensures x held changes y st
    (subst (λ (l : List StagedWord). Follows Colours c.args.self.now.places l x held changes) (sym c.as_slice-words.ensures.value) follows) places stay
