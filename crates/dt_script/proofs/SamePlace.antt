-- Lines with the same bytes stand at the same places.
use Rattle.std.proofs.Common.{◌≡◌, ℕ, Bool, not, ◌&&◌, IsTrue, is_none, is_some, nat_le, List, [], ◌∷◌, codes, decimal, Some, None, refl, sym, ap, subst, ◌∙◌, arith}
use Rattle.std.proofs.lemmas.Fmt.{decimal_injective}
use Rattle.dt_script.specs.NameBook.{NameBook, empty_book}
use Rattle.dt_script.specs.Word.{Number, AreTexts}
use Rattle.dt_script.specs.Keyword.{text_of_keyword}
use Rattle.dt_script.specs.Line.{words_of, is_in_range, is_from_one_to, LineOf}
use Rattle.dt_script.specs.Place.{is_in_batch, caller_after, has_stood, may_pin, may_unpin, has_ended, is_first, may_follow, may_stand}
use Rattle.dt_script.specs.Written.{texts_of, is_written_in_range, line_in}
use Rattle.dt_script.specs.WrittenLine.{IsWrittenLine}
use Rattle.dt_script.specs.declared.limits.TheConstants.{CALLERS}
use Rattle.dt_script.specs.declared.keyword.Keyword.{Keyword}
use Rattle.dt_script.specs.declared.keyword.Keyword.TheVariants as keyword
use Rattle.dt_script.specs.declared.line.Line.{Line}
use Rattle.dt_script.specs.declared.line.Line.TheVariants as line
use Rattle.dt_script.specs.declared.written.Written.{Written}
use Rattle.dt_script.specs.declared.written.Written.TheVariants as written
use Rattle.dt_script.proofs.Malformed.{first_of, heads, tails, some, plain, one, begins, same_keyword, parts-line}
use Rattle.dt_script.proofs.WrittenTexts.{bounds}

-- the rule of a first word, and of a caller's number
abbrev rule : ℕ → List Line → Keyword → ℕ → Bool
rule readers past keyword.Dispatch number = is_first past
rule readers past keyword.Begin number = is_none (caller_after past) && not (is_in_batch past)
rule readers past keyword.Commit number = is_in_batch past
rule readers past keyword.Phase number = not (is_in_batch past)
rule readers past keyword.Caller number = not (is_in_batch past) && (nat_le number readers && not (has_stood number past))
rule readers past keyword.Call number = is_some (caller_after past)
rule readers past keyword.Pin number = may_pin past (caller_after past)
rule readers past keyword.Unpin number = may_unpin past (caller_after past)
rule readers past keyword.End number = not (is_in_batch past)
rule readers past _ number = is_none (caller_after past)

abbrev number_of : Line → ℕ
number_of (line.Caller caller) = caller
number_of _ = 0

rule-line : (readers : ℕ) (past : List Line) (l : Line) → may_follow readers past l ≡ rule readers past (first_of l) (number_of l)
rule-line readers past line.Header = refl
rule-line readers past l = refl

-- the first word of a written line is that of its line
first-written : (book : NameBook) (w : Written) → (rest : List (List ℕ)) × (texts_of w ≡ text_of_keyword (first_of (line_in book w)) ∷ rest)
first-written book written.Header = (_, refl)
first-written book w = (_, refl)

-- the line of a caller
caller-line : (l : Line) → first_of l ≡ keyword.Caller → l ≡ line.Caller (number_of l)
caller-line (line.Caller caller) is = refl
caller-line l is = absurd cc

caller-written : (book : NameBook) (w : Written) → first_of (line_in book w) ≡ keyword.Caller → w ≡ written.Caller (number_of (line_in book w))
caller-written book (written.Caller caller) is = refl
caller-written book w is = absurd cc

-- the number matters to the line of a caller alone
rule-number : (readers : ℕ) (past : List Line) (k : Keyword) (m n : ℕ) → (k ≡ keyword.Caller → m ≡ n) → rule readers past k m ≡ rule readers past k n
rule-number readers past keyword.Caller m n same = ap (rule readers past keyword.Caller) (same refl)
rule-number readers past k m n same = refl

-- callers that are spelled the same are the same
same-caller : (book : NameBook) (m n : ℕ) (texts : List (List ℕ)) → AreTexts book (words_of (line.Caller m)) texts → texts_of (written.Caller n) ≡ texts → IsTrue (is_from_one_to CALLERS m) → IsTrue (is_from_one_to CALLERS n) → m ≡ n
same-caller book m n texts are is m_in n_in =
    let (rest, whole, more) = plain book (codes "caller") (Number m ∷ []) texts are in
    let (k, last, k_is) = one book (Number m) rest more in
    let spelled : codes "caller" ∷ decimal n ∷ [] ≡ codes "caller" ∷ k ∷ [] = is ∙ whole ∙ ap (λ l. codes "caller" ∷ l) last in
    let same : decimal m ≡ decimal n = some k_is ∙ sym (heads (tails spelled)) in
    decimal_injective m n (omega (arith, (bounds CALLERS m m_in).1)) (omega (arith, (bounds CALLERS n n_in).1)) same

number-same : (book after : NameBook) (l : Line) (w : Written) (texts : List (List ℕ)) → AreTexts after (words_of l) texts → IsTrue (is_in_range l) → texts_of w ≡ texts → IsTrue (is_written_in_range w)
    → first_of l ≡ keyword.Caller → first_of (line_in book w) ≡ keyword.Caller → number_of l ≡ number_of (line_in book w)
number-same book after l w texts are l_in is w_in l_is w_is =
    let line_is = caller-line l l_is in
    let written_is = caller-written book w w_is in
    same-caller after (number_of l) (number_of (line_in book w)) texts (subst (λ (x : Line). AreTexts after (words_of x) texts) line_is are) (ap texts_of (sym written_is) ∙ is)
    (subst (λ (x : Line). IsTrue (is_in_range x)) line_is l_in) (subst (λ (x : Written). IsTrue (is_written_in_range x)) written_is w_in)

-- a line may stand where the written one may, whatever its names' numbers
pub same_place : (readers : ℕ) (past : List Line) (book : NameBook) (bytes : List ℕ) (w : Written) (l : Line) (before after : NameBook) → IsWrittenLine bytes (Some w) → LineOf bytes before l after
    → may_stand readers past l ≡ may_stand readers past (line_in book w)
same_place readers past book bytes w l before after (whole, are, range) of =
    let b = begins after l of.texts of.in_range of.written in
    let same : texts_of w ≡ of.texts = whole ∙ parts-line bytes l before after of in
    let (rest, first) = first-written book w in
    let words : text_of_keyword (first_of l) ∷ b.rest ≡ text_of_keyword (first_of (line_in book w)) ∷ rest = sym b.whole ∙ sym same ∙ first in
    let key : first_of l ≡ first_of (line_in book w) = same_keyword (first_of l) (first_of (line_in book w)) (heads words) in
    let number : first_of l ≡ keyword.Caller → number_of l ≡ number_of (line_in book w) = λ is. number-same book after l w of.texts of.written of.in_range same range is (sym key ∙ is) in
    ap (λ b. not (has_ended past) && b) (rule-line readers past l ∙ rule-number readers past (first_of l) (number_of l) (number_of (line_in book w)) number ∙ ap (λ k. rule readers past k (number_of (line_in book w))) key ∙ sym (rule-line readers past (line_in book w)))

-- ---- the header

header-line : (l : Line) → first_of l ≡ keyword.Dispatch → l ≡ line.Header
header-line line.Header is = refl
header-line l is = absurd cc

-- what is spelled as the header is the header
pub header_written : (book : NameBook) (w : Written) → IsWrittenLine (codes "dispatch 1") (Some w) → line_in book w ≡ line.Header
header_written book w (whole, are, range) =
    let (rest, first) = first-written book w in
    let words : texts_of w ≡ codes "dispatch" ∷ codes "1" ∷ [] = whole in
    header-line (line_in book w) (same_keyword (first_of (line_in book w)) keyword.Dispatch (heads (sym first ∙ words)))

-- and there is one
pub header_is_line : IsWrittenLine (codes "dispatch 1") None → ⊥
header_is_line none = none line.Header empty_book empty_book (record {
  texts = codes "dispatch" ∷ codes "1" ∷ [];
  spelled = refl;
  are_words = refl;
  written = (refl, (refl, tt));
  numbered = refl;
  in_range = refl;
})
