-- The laws of lines: no two have one spelling, and a written line is read again.
use Rattle.std.proofs.Common.{◌≡◌, ℕ, IsTrue, List, [], ◌∷◌, sym, ap, subst, ◌∙◌, length, arith}
use Rattle.std.specs.List.{join_with_byte}
use Rattle.dt_script.specs.NameBook.{NameBook}
use Rattle.dt_script.specs.LawfulBook.{LawfulBook}
use Rattle.dt_script.specs.Cut.{parts_at}
use Rattle.dt_script.specs.Word.{AreTexts, book_after}
use Rattle.dt_script.specs.Line.{words_of, is_short}
use Rattle.dt_script.specs.Laws.{NoTwoLines, OneMeaning, StaysLawful, ReadAsWritten}
use Rattle.dt_script.specs.declared.line.Line.{Line}
use Rattle.dt_script.proofs.Malformed.{parts-words, parts-line}
use Rattle.dt_script.proofs.SameLine.{same_words}
use Rattle.dt_script.proofs.SameKinds.{first, as_many, same_first, same_kinds, kinds-book, same_words_of_kinds}
use Rattle.dt_script.proofs.LawfulBooks.{NamesLaw, words_more, words_known}
use Rattle.dt_script.proofs.FitLines.{words_are_names, line_fit, range_short}

-- lines with the same texts in a lawful book are the same
same_line : (book : NameBook) (a b : Line) (texts : List (List ℕ)) → LawfulBook book → IsTrue (is_short a) → IsTrue (is_short b) → AreTexts book (words_of a) texts → AreTexts book (words_of b) texts → a ≡ b
same_line book a b texts lawful short short' are are' =
    same_words a b (same_first book book a b texts are are')
    (same_words_of_kinds book (words_of a) (words_of b) texts lawful (line_fit a short) (line_fit b short') (same_kinds book book a b texts are are') are are')

-- the words of a spelling are those between its spaces
spelled-parts : (book : NameBook) (line : Line) (text : List ℕ) (texts : List (List ℕ)) → LawfulBook book → IsTrue (is_short line) → AreTexts book (words_of line) texts → text ≡ join_with_byte 32 texts
    → parts_at 32 text ≡ texts
spelled-parts book line text [] lawful short are is = absurd (omega (arith, as_many book (words_of line) [] are, ap length (first line)))
spelled-parts book line text (word ∷ words) lawful short are is =
    ap (parts_at 32) is ∙ parts-words word words (words_are_names book (words_of line) (word ∷ words) lawful (line_fit line short) are)

pub no_two_lines : NoTwoLines
no_two_lines book a b text lawful short short' (texts, are, is) (texts', are', is') =
    let same : texts' ≡ texts = sym (spelled-parts book b text texts' lawful short' are' is') ∙ spelled-parts book a text texts lawful short are is in
    same_line book a b texts lawful short short' are (subst (λ ts. AreTexts book (words_of b) ts) same are')

pub stays_lawful : NamesLaw → StaysLawful
stays_lawful law bytes before after line lawful l = subst LawfulBook (sym l.numbered) (words_more law before (words_of line) l.texts lawful l.are_words)

pub read_as_written : NamesLaw → ReadAsWritten
read_as_written law book line text lawful range (texts, are, is) = record {
  texts = texts;
  spelled = is;
  are_words = words_are_names book (words_of line) texts lawful (line_fit line (range_short line range)) are;
  written = are;
  numbered = sym (words_known law book (words_of line) texts lawful are);
  in_range = range;
}

pub one_meaning : NamesLaw → OneMeaning
one_meaning law bytes before a b line other lawful l m =
    let texts : m.texts ≡ l.texts = sym (parts-line bytes other before b m) ∙ parts-line bytes line before a l in
    let written : AreTexts b (words_of other) l.texts = subst (λ ts. AreTexts b (words_of other) ts) texts m.written in
    let book : a ≡ b =
    l.numbered ∙ kinds-book before (words_of line) l.texts ∙ ap (λ ws. book_after before ws l.texts) (same_kinds a b line other l.texts l.written written)
    ∙ sym (kinds-book before (words_of other) l.texts) ∙ ap (book_after before (words_of other)) (sym texts) ∙ sym m.numbered in (
      same_line a line other l.texts (stays_lawful law bytes before a line lawful l) (range_short line l.in_range) (range_short other m.in_range) l.written
          (subst (λ k. AreTexts k (words_of other) l.texts) (sym book) written),
      book,
    )
