use Rattle.std.proofs.Common.{sym, ◌∙◌, arith}
use Rattle.std.proofs.lemmas.Fmt.{parse-decimal, IsAscii-decimal}
use Rattle.std.proofs.lemmas.Str.{IsUtf8-from_ascii}
use Rattle.std.specs.Str.{IsUtf8}
use Rattle.std.proofs.Common.{subst, ℕ, List}
use Rattle.dt_script.proofs.written.number_of.Goals as goal

pub returns-in-Err : goal.returns-in-Err
returns-in-Err c = λ number small spelled.
    c.in-Err.ensures.cases.0 (subst (λ (bs : List ℕ). IsUtf8 bs) spelled (IsUtf8-from_ascii _ (IsAscii-decimal number (omega arith))))

pub returns-in-Ok-parse : goal.returns-in-Ok-parse
returns-in-Ok-parse c = λ number small spelled.
    let read = parse-decimal 16 number c.in-Ok.text.now c.parse.result small (omega arith) (c.in-Ok.ensures.cases.0 ∙ sym spelled) c.parse.ensures.value.0 in
    cc (c.in-Ok-parse.is)

pub returns-in-Err-parse : goal.returns-in-Err-parse
returns-in-Err-parse c = λ number small spelled.
    let read = parse-decimal 16 number c.in-Ok.text.now c.parse.result small (omega arith) (c.in-Ok.ensures.cases.0 ∙ sym spelled) c.parse.ensures.value.0 in
    absurd (cc (c.in-Err-parse.is))
