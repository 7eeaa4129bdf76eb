-- What was read after one more line, and the faults of a line.
use Rattle.std.proofs.Common.{◌≡◌, ◌+◌, ◌≤◌, ℕ, true, false, not, IsTrue, List, [], ◌∷◌, ◌++◌, length, map, take, reverse, Result, Ok, Err, Some, None, inl, inr, refl, sym, ap, subst, ◌∙◌, arith, append-nil}
use Rattle.std.specs.Prelude.{IfOk, OnOk, IfErr, IsErrAnd, ◌⊎◌, slice_get}
use Rattle.std.specs.List.{slice_split}
use Rattle.std.proofs.Math.Seq.{take-append_seam}
use Rattle.std.proofs.lemmas.Bool.{not_from_false}
use Rattle.std.proofs.lemmas.List.{reverse-append, reverse-reverse, length-reverse}
use Rattle.dt_script.specs.NameBook.{NameBook, is_within_limits}
use Rattle.dt_script.specs.Lines.{is_silent, lines_of}
use Rattle.dt_script.specs.Place.{may_stand}
use Rattle.dt_script.specs.Written.{tokens_of, with_tokens, line_in}
use Rattle.dt_script.specs.WrittenLine.{IsWrittenLine}
use Rattle.dt_script.specs.Script.{Script, is_phase, phase_of}
use Rattle.dt_script.specs.ScriptOf.{WereRead, IsMalformed, IsFull, HasHeader, IsFirstFaultAt, IsScriptOf, IsFaultOf}
use Rattle.dt_script.specs.ScriptBuilder.{Holds, script_in}
use Rattle.dt_script.specs.Reading.{HasRead, TakesWritten, IsFaultAt}
use Rattle.dt_script.specs.declared.line.Line.{Line}
use Rattle.dt_script.specs.declared.written.Written.{Written}
use Rattle.dt_script.specs.declared.reading.Reading.{Reading}
use Rattle.dt_script.specs.declared.script_fault.ScriptFault.{ScriptFault}
use Rattle.dt_script.specs.declared.script_fault.ScriptFault.TheVariants.{ReadFault, TooLong, NoHeader, Malformed, NamesFull, NoEnd, NoMemory}
use Rattle.dt_script.proofs.LineMade.{line_made}
use Rattle.dt_script.proofs.SamePlace.{same_place}
use Rattle.dt_script.proofs.Built.{holds_more}

-- what follows of an error
pub on_err : {T E : Type 0} {P Q : E → Type 0} (result : Result T E) → IfErr result P → ((e : E) → P e → Q e) → IfErr result Q
on_err (Ok value) is then = tt
on_err (Err e) is then = then e is

-- no line is spelled so
pub no_line : (readers : ℕ) (text : List ℕ) (before : NameBook) (past : List Line) → is_silent text ≡ false → IsWrittenLine text None → IsMalformed readers text before past
no_line readers text before past means none = record { means = not_from_false (is_silent text) means; none = λ l after is stands. none l before after is }

-- the line may not stand here
pub no_place : (readers : ℕ) (text : List ℕ) (before : NameBook) (past : List Line) (w : Written) → is_silent text ≡ false → IsWrittenLine text (Some w) → may_stand readers past (line_in before w) ≡ false
    → IsMalformed readers text before past
no_place readers text before past w means written never = record {
  means = not_from_false (is_silent text) means;
  none = λ l after is stands.
      let may : may_stand readers past l ≡ true = stands in
      let may_not = same_place readers past before text w l before after written is ∙ never in
      absurd (let wrong = sym may ∙ may_not in cc);
}

-- one more line was read
pub line_read : (readers : ℕ) (old new : Reading) (text : List ℕ) (w : Written) (texts : List (List ℕ)) (past : List Line) → HasRead readers old texts past → is_silent text ≡ false → IsWrittenLine text (Some w)
    → IsTrue (may_stand readers past (line_in new.names w)) → TakesWritten old w new → HasRead readers new (text ∷ texts) (line_in new.names w ∷ past)
line_read readers old new text w texts past has means written stands takes = record {
  were_read = inr (
    old.names,
    past,
    line_in new.names w,
    has.were_read,
    record { is_line = line_made text w old.names new.names written takes.names; stands = stands; fits = takes.fits },
    not_from_false (is_silent text) means,
    refl,
  );
  places = takes.places past new.names has.places;
  ended = takes.ended past new.names;
  holds = subst (λ (ls : List Line). Holds new.builder ls) (sym (reverse-append (line_in new.names w ∷ []) past)) (holds_more old.builder new.builder (reverse past) (line_in new.names w) has.holds takes.taken);
  few = omega (arith, takes.grown, has.few);
}

-- the fault of a line that may stand
pub fault_at : (readers : ℕ) (text : List ℕ) (book : NameBook) (past : List Line) (number : ℕ) (w : Written) (fault : ScriptFault) → IsWrittenLine text (Some w)
    → IsTrue (may_stand readers past (line_in (with_tokens book (tokens_of w)) w))
    → (fault ≡ NoMemory) ⊎ ((fault ≡ NamesFull number) × IsTrue (not (is_within_limits (with_tokens book (tokens_of w))))) → IsFaultAt readers text book past number fault
fault_at readers text book past number w fault written stands (inl is) = subst (λ (f : ScriptFault). IsFaultAt readers text book past number f) (sym is) tt
fault_at readers text book past number w fault written stands (inr (is, full)) =
    let after = with_tokens book (tokens_of w) in
    subst (λ (f : ScriptFault). IsFaultAt readers text book past number f) (sym is) (
      refl,
      record {
        line = line_in after w;
        after = after;
        is_line = line_made text w book after written refl;
        stands = stands;
        full = full;
      },
    )

-- ---- all lines

-- So far: the lines that were read, latest first, those with a meaning among them, and the lines that are left.
pub record IsUpTo (readers : ℕ) (reading : Reading) (all left : List ℕ) (number : ℕ) (texts : List (List ℕ)) (past : List Line) : Type 0 where
  pub has : HasRead readers reading texts past
  pub whole : lines_of all ≡ reverse texts ++ lines_of left
  pub numbered : number ≡ length texts + 1
  pub within : length texts + length left ≤ length all

-- a fault of the next line
at_seam : (xs : List (List ℕ)) (y : List ℕ) (ys : List (List ℕ)) → slice_get (xs ++ y ∷ ys) (length xs) ≡ Some y
at_seam [] y ys = refl
at_seam (x ∷ xs) y ys = at_seam xs y ys

first_fault : (fault : NameBook → List Line → List ℕ → Type 0) (readers : ℕ) (bytes : List ℕ) (lines texts : List (List ℕ)) (text : List ℕ) (rest : List (List ℕ)) (book : NameBook) (past : List Line) (number at : ℕ)
    → HasHeader bytes lines → lines ≡ reverse texts ++ text ∷ rest → number ≡ length texts + 1 → WereRead readers texts book past → at ≡ number + 1 → fault book past text → IsFirstFaultAt fault readers bytes at
first_fault fault readers bytes lines texts text rest book past number at header whole numbered read is faulty =
    let count : length (reverse texts) ≡ length texts = length-reverse texts in
    let here : slice_get lines (length texts) ≡ Some text = ap (λ l. slice_get l (length texts)) whole ∙ ap (slice_get (reverse texts ++ text ∷ rest)) (sym count) ∙ at_seam (reverse texts) text rest in
    let before : take (length texts) lines ≡ reverse texts = ap (take (length texts)) whole ∙ ap (λ n. take n (reverse texts ++ text ∷ rest)) (sym count) ∙ take-append_seam (reverse texts) (text ∷ rest) in (
      lines,
      length texts,
      text,
      book,
      past,
      header,
      omega (arith, is, numbered),
      here,
      subst (λ (ts : List (List ℕ)). WereRead readers ts book past) (sym (ap reverse before ∙ reverse-reverse texts)) read,
      faulty,
    )

pub fault_next : (readers : ℕ) (reading : Reading) (bytes all left text rest : List ℕ) (number : ℕ) (texts : List (List ℕ)) (past : List Line) (fault : ScriptFault) → IsUpTo readers reading all left number texts past
    → HasHeader bytes (lines_of all) → lines_of left ≡ text ∷ lines_of rest → IsFaultAt readers text reading.names past (number + 1) fault → (fault ≡ NoMemory) ⊎ IsFaultOf readers bytes fault
fault_next readers reading bytes all left text rest number texts past (Malformed at) so_far header first (is, faulty) =
    inr (first_fault (λ book before line. IsMalformed readers line book before) readers bytes (lines_of all) texts text (lines_of rest) reading.names past number at header (so_far.whole ∙ ap (λ l. reverse texts ++ l) first) so_far.numbered so_far.has.were_read is faulty)
fault_next readers reading bytes all left text rest number texts past (NamesFull at) so_far header first (is, faulty) =
    inr (first_fault (λ book before line. IsFull readers line book before) readers bytes (lines_of all) texts text (lines_of rest) reading.names past number at header (so_far.whole ∙ ap (λ l. reverse texts ++ l) first) so_far.numbered so_far.has.were_read is faulty)
fault_next readers reading bytes all left text rest number texts past NoMemory so_far header first is = inl refl
fault_next readers reading bytes all left text rest number texts past ReadFault so_far header first is = absurd is
fault_next readers reading bytes all left text rest number texts past TooLong so_far header first is = absurd is
fault_next readers reading bytes all left text rest number texts past NoHeader so_far header first is = absurd is
fault_next readers reading bytes all left text rest number texts past NoEnd so_far header first is = absurd is

-- ---- the script

-- the script of all lines
pub script_read : (readers : ℕ) (reading : Reading) (bytes : List ℕ) (lines : List (List ℕ)) (past : List Line) (script : Script) → HasHeader bytes lines → HasRead readers reading (reverse lines) past → reading.ended ≡ true
    → script ≡ script_in reading.names reading.builder → IsScriptOf readers bytes script
script_read readers reading bytes lines past script header has ended is = record {
  texts = lines;
  book = reading.names;
  past = past;
  header = header;
  were_read = has.were_read;
  ended = sym has.ended ∙ ended;
  built = is ∙ ap (λ ps. record { names = reading.names; phases = ps }) (has.holds.same [] ∙ ap (λ ls. map phase_of (slice_split is_phase ls)) (append-nil (reverse past)));
}

-- what follows of two facts of a value
pub on_both : {T E : Type 0} {P R : T → Type 0} {Q : Type 0} (result : Result T E) → IfOk result P → OnOk result Q → ((value : T) → P value → Q → R value) → IfOk result R
on_both (Ok value) is also then = then value is also
on_both (Err e) is also then = tt

-- what holds of the fault that is handed on
pub on_told : {T E : Type 0} {P : E → Type 0} (result : Result T E) (told : E) → IsErrAnd result (λ e. e ≡ told) → ((e : E) → e ≡ told → P e) → IfErr result P
on_told (Ok value) told is then = tt
on_told (Err e) told is then = then e is
