use Rattle.std.proofs.Common.{sym, ◌∙◌}
use Rattle.dt_script.proofs.WrittenTexts.{first_word}
use Rattle.dt_script.proofs.Malformed.{no_words, no_keyword, written_line_of}
use Rattle.dt_script.proofs.written_line.written_line.Goals as goal

pub returns-then-not-are_words : goal.returns-then-not-are_words
returns-then-not-are_words c = no_words c.args.bytes.now (λ all. absurd (let wrong = sym c.are_words.ensures in cc))

pub returns-in_err-keyword_of : goal.returns-in_err-keyword_of
returns-in_err-keyword_of c =
    rw c.from_residual.ensures (no_keyword c.args.bytes.now c.cut_word.result.0.now _ (first_word c.args.bytes.now c.cut_word.result.0.now c.cut_word.result.1 c.cut_word.ensures) c.in_err-keyword_of.ensures)

pub returns : goal.returns
returns c =
    written_line_of c.args.bytes.now c.cut_word.result.0.now _ c.in_ok-keyword_of.field-0 c.written_after.result (first_word c.args.bytes.now c.cut_word.result.0.now c.cut_word.result.1 c.cut_word.ensures) (sym c.are_words.ensures ∙ c.if-not-are_words.false) c.in_ok-keyword_of.ensures c.written_after.ensures
