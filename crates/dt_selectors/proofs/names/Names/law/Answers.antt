use Rattle.std.proofs.Common.{subst, arith}
use Rattle.std.specs.Prelude.{IsTrue}
use Rattle.dt_selectors.specs.Names.{is_name}
use Rattle.dt_selectors.specs.Lawful.{LawfulNames}
use Rattle.dt_selectors.proofs.Texts.{All-slice_get, position_of-stored, position_of-within}
use Rattle.dt_selectors.proofs.names.Names.law.Goals as goal

lawful : (c : goal.After-self) → LawfulNames c.args.self.now
lawful c = subst LawfulNames c.self.view_is c.self.invariant

pub returns-clause-numbered : goal.returns-clause-numbered
returns-clause-numbered c = λ number text. ((lawful c).distinct number text, position_of-stored text c.args.self.now.texts number)

pub returns-clause-are_names : goal.returns-clause-are_names
returns-clause-are_names c = λ number text.
    All-slice_get (λ t. IsTrue (is_name t)) c.args.self.now.texts number text (lawful c).are_names

pub returns-clause-few : goal.returns-clause-few
returns-clause-few c = λ number text is.
    (omega (arith, position_of-within text c.args.self.now.texts number is, (lawful c).few), (lawful c).limit_in_range.1)
