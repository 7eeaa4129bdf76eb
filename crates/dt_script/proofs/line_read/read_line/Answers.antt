use Rattle.std.proofs.Common.{refl, sym, subst, ◌∙◌, not, IsTrue}
use Rattle.dt_script.specs.NameBook.{NameBook, is_within_limits}
use Rattle.dt_script.specs.Line.{LineOf}
use Rattle.dt_script.specs.Written.{with_tokens, tokens_of, line_in}
use Rattle.dt_script.specs.declared.line.Line.{Line}
use Rattle.dt_script.proofs.LineMade.{line_made}
use Rattle.dt_script.proofs.Grown.{grows_by_line}
use Rattle.dt_script.proofs.OwnNames.{own_line}
use Rattle.dt_script.proofs.line_read.read_line.Goals as goal

pub returns-in-Ok-clause-line : goal.returns-in-Ok-clause-line
returns-in-Ok-clause-line c =
    subst (λ (l : Line). LineOf c.args.bytes.now c.args.names.now l c.number_line.new.names) (sym c.in-Ok.ensures.numbered.1)
    (line_made c.args.bytes.now c.in-Some.written c.args.names.now c.number_line.new.names c.in-Some.ensures c.in-Ok.ensures.numbered.0)

pub returns-in-Err-NamesFull-clause-full : goal.returns-in-Err-NamesFull-clause-full
returns-in-Err-NamesFull-clause-full c = λ _.
    let after = with_tokens c.args.names.now (tokens_of c.in-Some.written) in
    (line_in after c.in-Some.written, after, line_made c.args.bytes.now c.in-Some.written c.args.names.now after c.in-Some.ensures refl, rw c.in-Err-NamesFull.field-0-is at c.in-Err-NamesFull.ensures.numbered)

pub returns-in-Ok-clause-exact : goal.returns-in-Ok-clause-exact
returns-in-Ok-clause-exact c = λ line after l.
    let mine = line_made c.args.bytes.now c.in-Some.written c.args.names.now c.number_line.new.names c.in-Some.ensures c.in-Ok.ensures.numbered.0 in
    let same = c.spellings_have_one_line.ensures.meaning c.args.bytes.now c.args.names.now c.number_line.new.names after _ line c.law.ensures.lawful mine l in
    (c.in-Ok.ensures.numbered.1 ∙ same.0, same.1)

pub returns-in-Err-NamesFull-clause-exact : goal.returns-in-Err-NamesFull-clause-exact
returns-in-Err-NamesFull-clause-exact c = λ line after l.
    let full = with_tokens c.args.names.now (tokens_of c.in-Some.written) in
    let mine = line_made c.args.bytes.now c.in-Some.written c.args.names.now full c.in-Some.ensures refl in
    let same = c.spellings_have_one_line.ensures.meaning c.args.bytes.now c.args.names.now full after _ line c.law.ensures.lawful mine l in
    subst (λ (b : NameBook). IsTrue (not (is_within_limits b))) same.1 (rw c.in-Err-NamesFull.field-0-is at c.in-Err-NamesFull.ensures.numbered)

pub returns-in-Ok-clause-own : goal.returns-in-Ok-clause-own
returns-in-Ok-clause-own c =
    own_line c.spellings_have_one_line.ensures.meaning c.args.bytes.now c.in-Some.written c.args.names.now c.number_line.new.names c.law.ensures.lawful c.in-Some.ensures c.in-Ok.ensures.own

pub returns-in-Err-NamesFull-clause-own : goal.returns-in-Err-NamesFull-clause-own
returns-in-Err-NamesFull-clause-own c =
    own_line c.spellings_have_one_line.ensures.meaning c.args.bytes.now c.in-Some.written c.args.names.now c.number_line.new.names c.law.ensures.lawful c.in-Some.ensures c.in-Err-NamesFull.ensures.own

pub returns-in-Err-NoMemory-clause-own : goal.returns-in-Err-NoMemory-clause-own
returns-in-Err-NoMemory-clause-own c =
    own_line c.spellings_have_one_line.ensures.meaning c.args.bytes.now c.in-Some.written c.args.names.now c.number_line.new.names c.law.ensures.lawful c.in-Some.ensures c.in-Err-NoMemory.ensures.own

pub returns-then-is_silent-clause-own : goal.returns-then-is_silent-clause-own
returns-then-is_silent-clause-own c = λ line after l. grows_by_line c.args.bytes.now c.args.names.now after line l

pub returns-in_default-clause-own : goal.returns-in_default-clause-own
returns-in_default-clause-own c = λ line after l. grows_by_line c.args.bytes.now c.args.names.now after line l

pub returns-in-Err-NoMemory-clause-no_memory : goal.returns-in-Err-NoMemory-clause-no_memory
returns-in-Err-NoMemory-clause-no_memory c = λ _.
    let after = with_tokens c.args.names.now (tokens_of c.in-Some.written) in
    (line_in after c.in-Some.written, after, line_made c.args.bytes.now c.in-Some.written c.args.names.now after c.in-Some.ensures refl)
