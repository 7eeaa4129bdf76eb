use Rattle.dt_mrd.proofs.Settling.{settled_stands}
use Rattle.dt_mrd.proofs.mrd.MrdTableKind.settle.Goals as goal

pub returns-clause-stands : goal.returns-clause-stands
returns-clause-stands c = λ x held changes y st follows places stay.
    settled_stands c.args.self.now.rows c.args.staged c.settle.new.self c.settle.ensures x held changes y st follows places stay
