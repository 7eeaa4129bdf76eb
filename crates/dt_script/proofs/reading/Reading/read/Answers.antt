use Rattle.std.proofs.Common.{refl, sym, ◌∙◌}
use Rattle.dt_script.specs.Written.{with_tokens, tokens_of}
use Rattle.dt_script.proofs.Joined.{on_ok}
use Rattle.dt_script.proofs.LinesRead.{on_err, no_line, no_place, line_read, fault_at}
use Rattle.dt_script.proofs.reading.Reading.read.Goals as goal

pub returns-in_default-clause-fault : goal.returns-in_default-clause-fault
returns-in_default-clause-fault c = λ texts past has.
    (refl, no_line c.args.readers c.args.text.now c.args.self.now.names past (sym c.is_silent.ensures ∙ c.if-is_silent.false) c.in_default.ensures)

pub returns-then-not-may_stand-clause-fault : goal.returns-then-not-may_stand-clause-fault
returns-then-not-may_stand-clause-fault c = λ texts past has.
    (refl, no_place c.args.readers c.args.text.now c.args.self.now.names past c.in-Some.line (sym c.is_silent.ensures ∙ c.if-is_silent.false) c.in-Some.ensures (sym (c.may_stand.ensures past has.places c.args.self.now.names) ∙ c.if-not-may_stand.true))

pub returns-clause-read : goal.returns-clause-read
returns-clause-read c = on_ok c.take.result c.take.ensures.taken (λ takes texts past has.
    (_, line_read c.args.readers c.args.self.now c.take.new.self c.args.text.now c.in-Some.line texts past has (sym c.is_silent.ensures ∙ c.if-is_silent.false) c.in-Some.ensures (sym (c.may_stand.ensures past has.places c.take.new.self.names) ∙ c.if-not-may_stand.false) takes))

pub returns-clause-fault : goal.returns-clause-fault
returns-clause-fault c = on_err c.take.result c.take.ensures.full (λ fault is texts past has.
    fault_at c.args.readers c.args.text.now c.args.self.now.names past c.args.number c.in-Some.line fault c.in-Some.ensures
    (sym (c.may_stand.ensures past has.places (with_tokens c.args.self.now.names (tokens_of c.in-Some.line))) ∙ c.if-not-may_stand.false) is)
