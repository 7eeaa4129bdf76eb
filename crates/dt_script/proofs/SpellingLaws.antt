-- The laws of spellings.
use Rattle.std.proofs.Common.{sym, ap, ◌∙◌}
use Rattle.std.specs.List.{join_with_byte}
use Rattle.dt_script.specs.Line.{words_of}
use Rattle.dt_script.specs.Laws.{OneSpelling, ReadFromSpelling, WrittenAsRead}
use Rattle.dt_script.proofs.Joined.{texts-are}

pub one_spelling : OneSpelling
one_spelling book line a b (texts, are, is) (texts', are', is') =
    is ∙ ap (join_with_byte 32) (sym (texts-are book (words_of line) texts are) ∙ texts-are book (words_of line) texts' are') ∙ sym is'

pub read_from_spelling : ReadFromSpelling
read_from_spelling bytes before after line l = (l.texts, l.written, l.spelled)

pub written_as_read : WrittenAsRead
written_as_read bytes text before after line l spelling = one_spelling after line text bytes spelling (read_from_spelling bytes before after line l)
