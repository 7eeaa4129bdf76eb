-- The words of a log's lines that are no names, as the printer has them.
use Rattle.std.specs.Prelude.{ℕ, List, codes, decimal}
use Rattle.dt_run.specs.declared.print.words.Keyword.{Keyword}
use Rattle.dt_run.specs.declared.print.words.Keyword.TheVariants as keyword
use Rattle.dt_run.specs.declared.print.words.LogWord.{LogWord}
use Rattle.dt_run.specs.declared.print.words.LogWord.TheVariants as log_word

-- how a fixed word is spelled
abbrev pub text_of_keyword : Keyword → List ℕ
text_of_keyword keyword.Accepted = codes "accepted"
text_of_keyword keyword.Refused = codes "refused"
text_of_keyword keyword.VersionsFull = codes "versions-full"
text_of_keyword keyword.CellsFull = codes "cells-full"
text_of_keyword keyword.RowsFull = codes "rows-full"
text_of_keyword keyword.NoPages = codes "no-pages"
text_of_keyword keyword.Method = codes "method"
text_of_keyword keyword.Ambiguous = codes "ambiguous"
text_of_keyword keyword.NotUnderstood = codes "not-understood"
text_of_keyword keyword.NoSelector = codes "no-selector"
text_of_keyword keyword.WrongArity = codes "wrong-arity"
text_of_keyword keyword.NoClass = codes "no-class"
text_of_keyword keyword.Worn = codes "worn"

-- how a word is spelled
abbrev pub text_of_log_word : LogWord → List ℕ
text_of_log_word (log_word.Keyword keyword) = text_of_keyword keyword
text_of_log_word (log_word.Number number) = decimal number
