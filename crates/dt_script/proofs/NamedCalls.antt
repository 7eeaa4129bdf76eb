-- The names of the calls of a script that was read, and how a line whose numbers are those of names is spelled.
use Rattle.std.proofs.Common.{◌≡◌, ℕ, IsTrue, List, [], ◌∷◌, reverse, Option, Some, None, refl, subst, sym, All}
use Rattle.std.specs.Prelude.{IfSome, is_some}
use Rattle.std.specs.List.{list_all, cons_option, slice_split}
use Rattle.std.proofs.lemmas.Bool.{and_parts}
use Rattle.std.proofs.lemmas.List.Elements.{All-nil, All-cons, All-head, All-tail, All-weaker, All-map}
use Rattle.dt_script.specs.NameBook.{NameBook}
use Rattle.dt_script.specs.Word.{Word, AreTexts, text_of_word}
use Rattle.dt_script.specs.Line.{words_of}
use Rattle.dt_script.specs.Named.{has_text, is_line_named, line_of_call, HasNamedCalls}
use Rattle.dt_script.specs.Script.{Script, Part, Phase as PhaseOf, caller_line_of, lines_of_caller, parts_of, is_phase, phase_of}
use Rattle.dt_script.specs.ScriptOf.{IsScriptOf}
use Rattle.dt_script.specs.Writing.{IsNamed}
use Rattle.dt_script.specs.declared.line.Line.{Line}
use Rattle.dt_script.specs.declared.line.Line.TheVariants.{Caller, Call, Pin, Unpin}
use Rattle.dt_script.specs.declared.line.CallerLine.{CallerLine}
use Rattle.dt_script.proofs.NamedScript.{All-reverse, NamedLine, read_named, split_named}

-- ---- the calls of a phase

module _ (book : NameBook) where
  abbrev NamedCall : CallerLine → Type 0
  NamedCall line = IsTrue (is_line_named book (line_of_call line))

  abbrev NamedPart : Part → Type 0
  NamedPart part = All NamedCall part.lines

  call_named : (line : Line) → NamedLine book line → IfSome (caller_line_of line) NamedCall
  call_named (Call query) named = named
  call_named Pin named = refl
  call_named Unpin named = refl
  call_named line named = tt

  with_call_named : (line : Option CallerLine) (lines : List CallerLine) → IfSome line NamedCall → All NamedCall lines → All NamedCall (cons_option line lines)
  with_call_named None lines named all = all
  with_call_named (Some line) lines named all = All-cons NamedCall line lines named all

  own_named : (lines : List Line) → All (NamedLine book) lines → All NamedCall (lines_of_caller lines)
  own_named [] all = All-nil NamedCall
  own_named (Caller caller ∷ lines) all = All-nil NamedCall
  own_named (line ∷ lines) all =
      with_call_named (caller_line_of line) (lines_of_caller lines) (call_named line (All-head (NamedLine book) line lines all))
      (own_named lines (All-tail (NamedLine book) line lines all))

  parts_named : (lines : List Line) → All (NamedLine book) lines → All NamedPart (parts_of lines)
  parts_named [] all = All-nil NamedPart
  parts_named (Caller caller ∷ lines) all =
      All-cons NamedPart (record { caller = caller; lines = lines_of_caller lines }) (parts_of lines)
      (own_named lines (All-tail (NamedLine book) (Caller caller) lines all)) (parts_named lines (All-tail (NamedLine book) (Caller caller) lines all))
  parts_named (line ∷ lines) all = parts_named lines (All-tail (NamedLine book) line lines all)

pub script_has_named_calls : (readers : ℕ) (bytes : List ℕ) (script : Script) → IsScriptOf readers bytes script → HasNamedCalls script
script_has_named_calls readers bytes script is =
    let named = All-reverse (NamedLine is.book) is.past (read_named readers (reverse is.texts) is.book is.past is.were_read) in
    let lines = reverse is.past in
    subst HasNamedCalls (sym is.built)
    (All-map (λ (phase : PhaseOf). All (NamedPart is.book) phase.callers) phase_of (slice_split is_phase lines)
    (All-weaker (All (NamedLine is.book)) (λ own. All (NamedPart is.book) (parts_of own)) (λ own. parts_named is.book own)
    (slice_split is_phase lines) (split_named is.book lines named)))

-- ---- a line that is spelled

text_found : (text : Option (List ℕ)) → IsTrue (is_some text) → (found : List ℕ) × (text ≡ Some found)
text_found (Some found) has = (found, refl)
text_found None none = absurd cc

texts_found : (book : NameBook) (words : List Word) → IsTrue (list_all (has_text book) words) → (texts : List (List ℕ)) × AreTexts book words texts
texts_found book [] named = ([], tt)
texts_found book (word ∷ words) named =
    let parts = and_parts (has_text book word) (list_all (has_text book) words) named in
    let first = text_found (text_of_word book word) parts.0 in
    let rest = texts_found book words parts.1 in
    (first.0 ∷ rest.0, (first.1, rest.1))

pub named_lines_are_spelled : (book : NameBook) (line : Line) → IsTrue (is_line_named book line) → IsNamed book line
named_lines_are_spelled book line named = texts_found book (words_of line) named
