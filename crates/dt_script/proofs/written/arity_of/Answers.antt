use Rattle.dt_script.proofs.WrittenTexts.{arity_is_one_byte, arity_from_zero, arity_found}
use Rattle.dt_script.proofs.written.arity_of.Goals as goal

pub returns-then-word-ne1 : goal.returns-then-word-ne1
returns-then-word-ne1 c = arity_is_one_byte _ c.if-word-ne1.true

pub returns-in_err-checked_sub : goal.returns-in_err-checked_sub
returns-in_err-checked_sub c = rw c.from_residual.ensures (arity_from_zero _ c.in_err-checked_sub.ensures)

pub returns : goal.returns
returns c = arity_found _ _ _ c.if-word-ne1.false c.in_ok-checked_sub.ensures.0 c.in_ok-checked_sub.ensures.1 c.new.ensures
