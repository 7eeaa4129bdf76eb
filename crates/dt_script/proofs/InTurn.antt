-- Lines each of which may stand after those before it: the callers in them, and their pins.
use Rattle.std.proofs.Common.{◌≡◌, ◌==◌, ℕ, ◌<◌, ◌≤◌, Bool, true, false, not, cond, nat_eq, nat_le, List, [], ◌∷◌, ◌++◌, map, length, reverse, Option, None, Some, refl, sym, ap, ◌∙◌, subst, inl, inr, arith, IsTrue, if◌then◌else◌, ◌&&◌, eqb-true}
use Rattle.std.proofs.lemmas.List.Elements.{All-from_recursion, All-map, All-weaker}
use Rattle.std.proofs.lemmas.List.{length-map, append_assoc, append-nil, reverse-append}
use Rattle.std.proofs.lemmas.List.Splits.{length-slice_split}
use Rattle.std.proofs.lemmas.Bool.{false≢true, leb-true}
use Rattle.std.specs.List.{All, AllByRecursion, IsDistinct, slice_split, onto_first}
use Rattle.dt_scratch.specs.Query.{Query}
use Rattle.dt_script.specs.NameBook.{NameBook}
use Rattle.dt_script.specs.Line.{is_in_range}
use Rattle.dt_script.specs.Place.{is_in_batch, caller_after, has_stood, has_ended, is_caller, is_pinned, may_pin, may_unpin, may_stand}
use Rattle.dt_script.specs.Script.{Part, Script, lines_of_caller, parts_of, phase_of, is_phase, script_of}
use Rattle.dt_script.specs.ScriptOf.{WereRead, IsScriptOf}
use Rattle.dt_script.specs.Playable.{lines_in, lines_through, Alternate, Playable, ReadIsPlayable, ReadHasPhase}
use Rattle.dt_script.specs.declared.limits.TheConstants.{CALLERS}
use Rattle.dt_script.specs.declared.line.Line.{Line}
use Rattle.dt_script.specs.declared.line.Line.TheVariants.{Phase, Caller, Call, Pin, Unpin}
use Rattle.dt_script.specs.declared.line.CallerLine.{CallerLine}
use Rattle.dt_script.specs.declared.line.CallerLine.TheVariants as caller_line

-- a line that may stand after these, and is in range
pub record Stands (readers : ℕ) (past : List Line) (line : Line) : Type 0 where
  pub stands : IsTrue (may_stand readers past line)
  pub in_range : IsTrue (is_in_range line)

-- lines, latest first, that stood in turn
abbrev pub Stood : ℕ → List Line → Type 0
Stood readers [] = Unit {0}
Stood readers (line ∷ past) = Stands readers past line × Stood readers past

-- lines in their order that stand in turn after those
abbrev pub Follow : ℕ → List Line → List Line → Type 0
Follow readers past [] = Unit {0}
Follow readers past (line ∷ lines) = Stands readers past line × Follow readers (line ∷ past) lines

pub Stood-read : (readers : ℕ) (texts : List (List ℕ)) (book : NameBook) (past : List Line) → WereRead readers texts book past → Stood readers past
Stood-read readers [] book past (empty, first) = subst (Stood readers) (sym first) (record { stands = refl; in_range = refl }, tt)
Stood-read readers (text ∷ texts) book past (inl (silent, were)) = Stood-read readers texts book past were
Stood-read readers (text ∷ texts) book past (inr (before, earlier, line, were, read, means, is)) =
    subst (Stood readers) (sym is) (record { stands = read.stands; in_range = read.is_line.in_range }, Stood-read readers texts before earlier were)

pub Follow-turned : (readers : ℕ) (past lines : List Line) → Stood readers past → Follow readers past lines → Follow readers [] (reverse past ++ lines)
Follow-turned readers [] lines stood follow = follow
Follow-turned readers (line ∷ past) lines stood follow =
    let turned : reverse (line ∷ past) ++ lines ≡ reverse past ++ line ∷ lines =
    ap (λ front. front ++ lines) (reverse-append (line ∷ []) past) ∙ append_assoc (reverse past) (line ∷ []) lines in
    subst (Follow readers []) (sym turned) (Follow-turned readers past (line ∷ lines) stood.1 (stood.0, follow))

-- the parts of the lines have a first part
pub has_first : (lines : List Line) → 0 < length (slice_split is_phase lines)
has_first lines = omega (arith, length-slice_split is_phase lines)

-- ---- the callers of each phase

-- callers that may be in one phase
pub record AreCallers (readers : ℕ) (parts : List Part) : Type 0 where
  pub in_range : AllByRecursion (λ part. (1 ≤ part.caller) × (part.caller ≤ readers)) parts
  pub once : IsDistinct nat_eq (map (λ part. part.caller) parts)

-- none of them stood in this phase
abbrev AreNew : List Line → List Part → Type 0
AreNew past parts = AllByRecursion (λ caller. has_stood caller past ≡ false) (map (λ part. part.caller) parts)

-- those of the phase that goes on are new, and those of each phase may be in it
abbrev AreInTurn : ℕ → List Line → List (List Line) → Type 0
AreInTurn readers past [] = Unit {0}
AreInTurn readers past (lines ∷ rest) =
    AreNew past (parts_of lines) × AreCallers readers (parts_of lines) × AllByRecursion (λ later. AreCallers readers (parts_of later)) rest

-- a caller that is new after another differs from it, and was new before it
split_new : (same stood : Bool) → (if same then true else stood) ≡ false → (same ≡ false) × (stood ≡ false)
split_new true stood new = absurd cc
split_new false stood new = (refl, new)

both_new : (caller : ℕ) (past : List Line) (callers : List ℕ) → AllByRecursion (λ other. has_stood other (Caller caller ∷ past) ≡ false) callers
    → AllByRecursion (λ other. nat_eq caller other ≡ false) callers × AllByRecursion (λ other. has_stood other past ≡ false) callers
both_new caller past [] new = (tt, tt)
both_new caller past (other ∷ callers) (head, tail) =
    let here = split_new (caller == other) (has_stood other past) head in
    let rest = both_new caller past callers tail in
    ((here.0, rest.0), (here.1, rest.1))

-- both of two tests hold where their conjunction does
and_both : (a b : Bool) → IsTrue (a && b) → IsTrue a × IsTrue b
and_both true b both = (refl, both)
and_both false b both = absurd (false≢true both)

not_true : (b : Bool) → IsTrue (not b) → b ≡ false
not_true true fails = absurd (false≢true fails)
not_true false fails = refl

-- what a caller's line says of it
caller_stands : (readers : ℕ) (past : List Line) (caller : ℕ) → Stands readers past (Caller caller)
    → (has_stood caller past ≡ false) × (1 ≤ caller) × (caller ≤ readers)
caller_stands readers past caller line =
    let outside = (and_both (not (has_ended past)) (not (is_in_batch past) && (nat_le caller readers && not (has_stood caller past))) line.stands).1 in
    let few = (and_both (not (is_in_batch past)) (nat_le caller readers && not (has_stood caller past)) outside).1 in
    let new = and_both (nat_le caller readers) (not (has_stood caller past)) few in
    let range = and_both (nat_le 1 caller) (nat_le caller CALLERS) line.in_range in
    (not_true (has_stood caller past) new.1, leb-true 1 caller range.0, leb-true caller readers new.0)

AreInTurn-more : (readers : ℕ) (line : Line) (past : List Line) (parts : List (List Line)) → 0 < length parts → Stands readers past line
    → AreInTurn readers (line ∷ past) parts → AreInTurn readers past (cond (is_phase line) ([] ∷ parts) (onto_first line parts))
unfolding IsDistinct
AreInTurn-more readers line past [] some stands turn = absurd (omega arith)
AreInTurn-more readers Phase past (lines ∷ rest) some stands turn = (tt, record { in_range = tt; once = tt }, (turn.1, turn.2))
AreInTurn-more readers (Caller caller) past (lines ∷ rest) some stands (new, callers, later) =
    let here = caller_stands readers past caller stands in
    let apart = both_new caller past (map (λ part. part.caller) (parts_of lines)) new in
    ((here.0, apart.1), record { in_range = ((here.1, here.2), callers.in_range); once = (apart.0, callers.once) }, later)
AreInTurn-more readers _ past (lines ∷ rest) some stands turn = turn

pub AreInTurn-follow : (readers : ℕ) (past lines : List Line) → Follow readers past lines → AreInTurn readers past (slice_split is_phase lines)
unfolding IsDistinct
AreInTurn-follow readers past [] follow = (tt, record { in_range = tt; once = tt }, tt)
AreInTurn-follow readers past (line ∷ lines) (stands, follow) =
    AreInTurn-more readers line past (slice_split is_phase lines) (has_first lines) stands (AreInTurn-follow readers (line ∷ past) lines follow)

pub AreCallers-all : (readers : ℕ) (past : List Line) (parts : List (List Line)) → AreInTurn readers past parts
    → AllByRecursion (λ lines. AreCallers readers (parts_of lines)) parts
AreCallers-all readers past [] turn = tt
AreCallers-all readers past (lines ∷ rest) turn = (turn.1, turn.2)

-- ---- the pins of each caller

-- the lines to come of a caller: those up to the next caller, if the lines of this one follow, and those in its parts
abbrev lines_to_come : ℕ → Option ℕ → List (List Line) → List CallerLine
lines_to_come caller current [] = []
lines_to_come caller current (lines ∷ rest) =
    (if is_caller caller current then lines_of_caller lines else []) ++ (lines_in caller (parts_of lines) ++ lines_through caller (map phase_of rest))

abbrev Alternates : ℕ → List Line → List (List Line) → Type 0
Alternates caller past parts = Alternate (is_pinned caller past) (lines_to_come caller (caller_after past) parts)

-- at the end of a phase no line of the current caller is left
none_left : (current : Bool) (pinned : Bool) (lines : List CallerLine) → Alternate pinned lines → Alternate pinned ((if current then [] else []) ++ lines)
none_left true pinned lines alternate = alternate
none_left false pinned lines alternate = alternate

-- a call changes no pin
with_call : (current pinned : Bool) (query : Query) (mine lines : List CallerLine)
    → Alternate pinned ((if current then mine else []) ++ lines) → Alternate pinned ((if current then caller_line.Call query ∷ mine else []) ++ lines)
with_call true pinned query mine lines alternate = alternate
with_call false pinned query mine lines alternate = alternate

with_pin : (current pinned : Bool) (mine lines : List CallerLine) → (current ≡ true → pinned ≡ false)
    → Alternate (if current then true else pinned) ((if current then mine else []) ++ lines)
    → Alternate pinned ((if current then caller_line.Pin ∷ mine else []) ++ lines)
with_pin true pinned mine lines may alternate = (may refl, alternate)
with_pin false pinned mine lines may alternate = alternate

with_unpin : (current pinned : Bool) (mine lines : List CallerLine) → (current ≡ true → pinned ≡ true)
    → Alternate (if current then false else pinned) ((if current then mine else []) ++ lines)
    → Alternate pinned ((if current then caller_line.Unpin ∷ mine else []) ++ lines)
with_unpin true pinned mine lines may alternate = (may refl, alternate)
with_unpin false pinned mine lines may alternate = alternate

-- the caller that may pin has no pin
may_pin_unpinned : (caller : ℕ) (past : List Line) (current : Option ℕ) → IsTrue (may_pin past current) → is_caller caller current ≡ true → is_pinned caller past ≡ false
may_pin_unpinned caller past None may is = absurd (false≢true may)
may_pin_unpinned caller past (Some other) may is =
    let same : other ≡ caller = eqb-true other caller is in
    subst (λ number. is_pinned number past ≡ false) same (not_true (is_pinned other past) may)

may_unpin_pinned : (caller : ℕ) (past : List Line) (current : Option ℕ) → IsTrue (may_unpin past current) → is_caller caller current ≡ true → is_pinned caller past ≡ true
may_unpin_pinned caller past None may is = absurd (false≢true may)
may_unpin_pinned caller past (Some other) may is =
    let same : other ≡ caller = eqb-true other caller is in
    subst (λ number. is_pinned number past ≡ true) same may

Alternates-more : (readers caller : ℕ) (line : Line) (past : List Line) (parts : List (List Line)) → 0 < length parts → Stands readers past line
    → Alternates caller (line ∷ past) parts → Alternates caller past (cond (is_phase line) ([] ∷ parts) (onto_first line parts))
Alternates-more readers caller line past [] some stands alternate = absurd (omega arith)
Alternates-more readers caller Phase past (lines ∷ rest) some stands alternate =
    none_left (is_caller caller (caller_after past)) (is_pinned caller past) (lines_in caller (parts_of lines) ++ lines_through caller (map phase_of rest)) alternate
Alternates-more readers caller (Caller other) past (lines ∷ rest) some stands alternate =
    let mine : List CallerLine = if other == caller then lines_of_caller lines else [] in
    let later : List CallerLine = lines_through caller (map phase_of rest) in
    let joined : mine ++ (lines_in caller (parts_of lines) ++ later) ≡ mine ++ lines_in caller (parts_of lines) ++ later =
    sym (append_assoc mine (lines_in caller (parts_of lines)) later) in
    none_left (is_caller caller (caller_after past)) (is_pinned caller past) (mine ++ lines_in caller (parts_of lines) ++ later)
    (subst (Alternate (is_pinned caller past)) joined alternate)
Alternates-more readers caller (Call query) past (lines ∷ rest) some stands alternate =
    with_call (is_caller caller (caller_after past)) (is_pinned caller past) query (lines_of_caller lines)
    (lines_in caller (parts_of lines) ++ lines_through caller (map phase_of rest)) alternate
Alternates-more readers caller Pin past (lines ∷ rest) some stands alternate =
    with_pin (is_caller caller (caller_after past)) (is_pinned caller past) (lines_of_caller lines)
    (lines_in caller (parts_of lines) ++ lines_through caller (map phase_of rest))
    (may_pin_unpinned caller past (caller_after past) (and_both (not (has_ended past)) (may_pin past (caller_after past)) stands.stands).1) alternate
Alternates-more readers caller Unpin past (lines ∷ rest) some stands alternate =
    with_unpin (is_caller caller (caller_after past)) (is_pinned caller past) (lines_of_caller lines)
    (lines_in caller (parts_of lines) ++ lines_through caller (map phase_of rest))
    (may_unpin_pinned caller past (caller_after past) (and_both (not (has_ended past)) (may_unpin past (caller_after past)) stands.stands).1) alternate
Alternates-more readers caller _ past (lines ∷ rest) some stands alternate = alternate

pub Alternates-follow : (readers caller : ℕ) (past lines : List Line) → Follow readers past lines → Alternates caller past (slice_split is_phase lines)
Alternates-follow readers caller past [] follow = none_left (is_caller caller (caller_after past)) (is_pinned caller past) [] tt
Alternates-follow readers caller past (line ∷ lines) (stands, follow) =
    Alternates-more readers caller line past (slice_split is_phase lines) (has_first lines) stands
    (Alternates-follow readers caller (line ∷ past) lines follow)

pub Alternate-all : (caller : ℕ) (parts : List (List Line)) → Alternates caller [] parts → Alternate false (lines_through caller (map phase_of parts))
Alternate-all caller [] alternate = tt
Alternate-all caller (lines ∷ rest) alternate = alternate

-- ---- scripts

-- the lines of a script that was read stood in turn
Follow-script : (readers : ℕ) (bytes : List ℕ) (script : Script) (is : IsScriptOf readers bytes script) → Follow readers [] (reverse is.past)
Follow-script readers bytes script is =
    let stood = Stood-read readers (reverse is.texts) is.book is.past is.were_read in
    subst (Follow readers []) (append-nil (reverse is.past)) (Follow-turned readers is.past [] stood tt)

Playable-lines : (readers : ℕ) (book : NameBook) (lines : List Line) → Follow readers [] lines → Playable readers (script_of book lines)
Playable-lines readers book lines follow =
    let parts : List (List Line) = slice_split is_phase lines in
    let callers = All-from_recursion (λ part. AreCallers readers (parts_of part)) parts (AreCallers-all readers [] parts (AreInTurn-follow readers [] lines follow)) in
    record {
      callers = All-map (λ phase. All (λ part. (1 ≤ part.caller) × (part.caller ≤ readers)) phase.callers) phase_of parts
          (All-weaker (λ part. AreCallers readers (parts_of part)) (λ part. All (λ p. (1 ≤ p.caller) × (p.caller ≤ readers)) (parts_of part))
          (λ part are. All-from_recursion (λ p. (1 ≤ p.caller) × (p.caller ≤ readers)) (parts_of part) are.in_range) parts callers);
      once = All-map (λ phase. IsDistinct nat_eq (map (λ part. part.caller) phase.callers)) phase_of parts
          (All-weaker (λ part. AreCallers readers (parts_of part)) (λ part. IsDistinct nat_eq (map (λ p. p.caller) (parts_of part)))
          (λ part are. are.once) parts callers);
      pins = λ caller. Alternate-all caller parts (Alternates-follow readers caller [] lines follow);
    }

pub read_is_playable : ReadIsPlayable
read_is_playable readers bytes script is =
    subst (Playable readers) (sym is.built) (Playable-lines readers is.book (reverse is.past) (Follow-script readers bytes script is))

pub read_has_phase : ReadHasPhase
read_has_phase readers bytes script is =
    subst (λ made. 0 < length made.phases) (sym is.built) (omega (arith, has_first (reverse is.past), length-map (slice_split is_phase (reverse is.past)) phase_of))
