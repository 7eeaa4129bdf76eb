-- What a builder holds after one more line.
use Rattle.std.proofs.Common.{◌≡◌, ◌==◌, ◌<◌, ℕ, Bool, true, false, List, [], ◌∷◌, ◌++◌, map, length, Option, Some, None, refl, sym, ap, ◌∙◌, arith, append_assoc, append-nil}
use Rattle.std.specs.List.{onto_first, slice_split}
use Rattle.std.proofs.lemmas.List.Splits.{slice_split-cons_no, length-slice_split}
use Rattle.dt_definitions.specs.declared.edit.Edit.{Edit}
use Rattle.dt_script.specs.Script.{Part, with_edit, batches_from, parts_of, lines_of_caller, is_phase, phase_of}
use Rattle.dt_script.specs.ScriptBuilder.{meaning_of, HasBatches, TakesEdit, TakesEditAt, opened, open_or_empty, onto_all, batches_on, batches_with, HasParts, closed_parts, with_line, parts_on, parts_with, phase_with, phases_of, Takes, Holds}
use Rattle.dt_script.specs.declared.line.Line.{Line}
use Rattle.dt_script.specs.declared.line.Line.TheVariants as line
use Rattle.dt_script.specs.declared.line.CallerLine.{CallerLine}
use Rattle.dt_script.specs.declared.meaning.Meaning.{Meaning}
use Rattle.dt_script.specs.declared.meaning.Meaning.TheVariants as meaning
use Rattle.dt_script.specs.declared.batches_builder.BatchesBuilder.{BatchesBuilder}
use Rattle.dt_script.specs.declared.parts_builder.PartsBuilder.{PartsBuilder}
use Rattle.dt_script.specs.declared.script_builder.ScriptBuilder.{ScriptBuilder}

-- ---- what a line is, by its meaning

abbrev pub batches_by : Bool → Meaning → List Line → List (List Edit)
batches_by inside (meaning.Edit edit) more = with_edit inside (Some edit) (batches_from inside more)
batches_by inside meaning.Begin more = batches_from true more
batches_by inside meaning.Commit more = [] ∷ batches_from false more
batches_by inside _ more = batches_from inside more

no_edit : (inside : Bool) (batches : List (List Edit)) → with_edit inside None batches ≡ batches
no_edit true batches = refl
no_edit false batches = refl

batches-first : (inside : Bool) (l : Line) (more : List Line) → batches_from inside (l ∷ more) ≡ batches_by inside (meaning_of l) more
batches-first inside (line.AddClass class parents) more = refl
batches-first inside (line.DropClass class) more = refl
batches-first inside (line.Link class parent) more = refl
batches-first inside (line.Unlink class parent) more = refl
batches-first inside (line.AddSelector selector arity) more = refl
batches-first inside (line.DropSelector selector) more = refl
batches-first inside (line.Define selector classes body) more = refl
batches-first inside (line.Undefine selector classes) more = refl
batches-first inside line.Begin more = refl
batches-first inside line.Commit more = refl
batches-first inside l more = no_edit inside (batches_from inside more)

-- of a line with this meaning
batches-of : (inside : Bool) (l : Line) (m : Meaning) (more : List Line) → meaning_of l ≡ m → batches_from inside (l ∷ more) ≡ batches_by inside m more
batches-of inside l m more is = batches-first inside l more ∙ ap (λ n. batches_by inside n more) is

abbrev pub parts_by : Meaning → List Line → List Part
parts_by (meaning.Caller caller) more = record { caller = caller; lines = lines_of_caller more } ∷ parts_of more
parts_by _ more = parts_of more

parts-first : (l : Line) (more : List Line) → parts_of (l ∷ more) ≡ parts_by (meaning_of l) more
parts-first line.Header more = refl
parts-first l more = refl

abbrev pub lines_by : Meaning → List Line → List CallerLine
lines_by (meaning.Caller caller) more = []
lines_by (meaning.CallerLine line) more = line ∷ lines_of_caller more
lines_by _ more = lines_of_caller more

lines-first : (l : Line) (more : List Line) → lines_of_caller (l ∷ more) ≡ lines_by (meaning_of l) more
lines-first line.Header more = refl
lines-first l more = refl

abbrev pub is_phase_by : Meaning → Bool
is_phase_by meaning.Phase = true
is_phase_by _ = false

phase-first : (l : Line) → is_phase l ≡ is_phase_by (meaning_of l)
phase-first line.Header = refl
phase-first l = refl

-- ---- batches

-- what is in front of an edit in the open batch
onto_last : (batch : List Edit) (edit : Edit) (batches : List (List Edit)) → onto_all (batch ++ edit ∷ []) batches ≡ onto_all batch (onto_first edit batches)
onto_last [] edit batches = refl
onto_last (first ∷ batch) edit batches = ap (onto_first first) (onto_last batch edit batches)

-- edits in front of an empty batch
onto_empty : (batch : List Edit) (batches : List (List Edit)) → onto_all batch ([] ∷ batches) ≡ batch ∷ batches
onto_empty [] batches = refl
onto_empty (edit ∷ batch) batches = ap (onto_first edit) (onto_empty batch batches)

-- and without any batch
onto_none : (edit : Edit) (batch : List Edit) → onto_all (edit ∷ batch) [] ≡ (edit ∷ batch) ∷ []
onto_none edit [] = refl
onto_none edit (next ∷ batch) = ap (onto_first edit) (onto_none next batch)

abbrev pub batches_on_by : Option (List Edit) → Meaning → List Line → List (List Edit)
batches_on_by None m more = batches_by false m more
batches_on_by (Some batch) m more = onto_all batch (batches_by true m more)

batches_on-of : (o : Option (List Edit)) (l : Line) (m : Meaning) (more : List Line) → meaning_of l ≡ m → batches_on o (l ∷ more) ≡ batches_on_by o m more
batches_on-of None l m more is = batches-of false l m more is
batches_on-of (Some batch) l m more is = ap (onto_all batch) (batches-of true l m more is)

-- one more line of these batches
pub record BatchesTake (old : BatchesBuilder) (l : Line) (new : BatchesBuilder) : Type 0 where
  pub same : (more : List Line) → batches_with new more ≡ batches_with old (l ∷ more)

-- the batches by their parts
batches_are : (new : BatchesBuilder) (closed : List (List Edit)) (o : Option (List Edit)) (more : List Line) → HasBatches new closed o → batches_with new more ≡ closed ++ batches_on o more
batches_are new closed o more has = ap (λ l. l ++ batches_on new.current more) has.closed_are ∙ ap (λ p. closed ++ batches_on p more) has.current_is

edit_taken : (new : BatchesBuilder) (closed : List (List Edit)) (o : Option (List Edit)) (edit : Edit) (more : List Line) → TakesEditAt o closed edit new
    → batches_with new more ≡ closed ++ batches_on_by o (meaning.Edit edit) more
edit_taken new closed None edit more has = batches_are new _ _ more has ∙ append_assoc closed ((edit ∷ []) ∷ []) (batches_from false more)
edit_taken new closed (Some batch) edit more has = batches_are new _ _ more has ∙ ap (λ l. closed ++ l) (onto_last batch edit (batches_from true more))

pub takes_edit : (old new : BatchesBuilder) (l : Line) (edit : Edit) → meaning_of l ≡ meaning.Edit edit → TakesEdit old edit new → BatchesTake old l new
takes_edit old new l edit is has = record { same = λ more. edit_taken new old.closed.items old.current edit more has ∙ ap (λ b. old.closed.items ++ b) (sym (batches_on-of old.current l _ more is)) }

begun : (o : Option (List Edit)) (more : List Line) → batches_on (opened o) more ≡ batches_on_by o meaning.Begin more
begun None more = refl
begun (Some batch) more = refl

pub takes_begin : (old new : BatchesBuilder) (l : Line) → meaning_of l ≡ meaning.Begin → HasBatches new old.closed.items (opened old.current) → BatchesTake old l new
takes_begin old new l is has = record { same = λ more. batches_are new _ _ more has ∙ ap (λ b. old.closed.items ++ b) (begun old.current more ∙ sym (batches_on-of old.current l _ more is)) }

committed : (closed : List (List Edit)) (o : Option (List Edit)) (more : List Line) → (closed ++ open_or_empty o ∷ []) ++ batches_from false more ≡ closed ++ batches_on_by o meaning.Commit more
committed closed None more = append_assoc closed ([] ∷ []) (batches_from false more)
committed closed (Some batch) more = append_assoc closed (batch ∷ []) (batches_from false more) ∙ ap (λ b. closed ++ b) (sym (onto_empty batch (batches_from false more)))

pub takes_commit : (old new : BatchesBuilder) (l : Line) → meaning_of l ≡ meaning.Commit → HasBatches new (old.closed.items ++ open_or_empty old.current ∷ []) None → BatchesTake old l new
takes_commit old new l is has = record { same = λ more. batches_are new _ _ more has ∙ committed old.closed.items old.current more ∙ ap (λ b. old.closed.items ++ b) (sym (batches_on-of old.current l _ more is)) }

-- what is closed at the end
pub closed_last : (closed : List (List Edit)) (batch : List Edit) → (length batch == 0) ≡ false → closed ++ batch ∷ [] ≡ closed ++ onto_all batch []
closed_last closed [] some = absurd (let wrong : true ≡ false = some in cc)
closed_last closed (edit ∷ batch) some = ap (λ b. closed ++ b) (sym (onto_none edit batch))

-- ---- callers

abbrev pub parts_on_by : Option Part → Meaning → List Line → List Part
parts_on_by None m more = parts_by m more
parts_on_by (Some part) m more = record { caller = part.caller; lines = part.lines ++ lines_by m more } ∷ parts_by m more

parts_on-of : (o : Option Part) (l : Line) (m : Meaning) (more : List Line) → meaning_of l ≡ m → parts_on o (l ∷ more) ≡ parts_on_by o m more
parts_on-of None l m more is = parts-first l more ∙ ap (λ n. parts_by n more) is
parts_on-of (Some part) l m more is =
    ap (λ ls. record { caller = part.caller; lines = part.lines ++ ls } ∷ parts_of (l ∷ more)) (lines-first l more ∙ ap (λ n. lines_by n more) is)
    ∙ ap (λ ps. record { caller = part.caller; lines = part.lines ++ lines_by m more } ∷ ps) (parts-first l more ∙ ap (λ n. parts_by n more) is)

pub record PartsTake (old : PartsBuilder) (l : Line) (new : PartsBuilder) : Type 0 where
  pub same : (more : List Line) → parts_with new more ≡ parts_with old (l ∷ more)

parts_are : (new : PartsBuilder) (closed : List Part) (o : Option Part) (more : List Line) → HasParts new closed o → parts_with new more ≡ closed ++ parts_on o more
parts_are new closed o more has = ap (λ l. l ++ parts_on new.current more) has.closed_are ∙ ap (λ p. closed ++ parts_on p more) has.current_is

caller_taken : (closed : List Part) (o : Option Part) (caller : ℕ) (more : List Line)
    → closed_parts o closed ++ record { caller = caller; lines = lines_of_caller more } ∷ parts_of more ≡ closed ++ parts_on_by o (meaning.Caller caller) more
caller_taken closed None caller more = refl
caller_taken closed (Some part) caller more =
    append_assoc closed (part ∷ []) _ ∙ ap (λ ls. closed ++ record { caller = part.caller; lines = ls } ∷ record { caller = caller; lines = lines_of_caller more } ∷ parts_of more) (sym (append-nil part.lines))

pub takes_caller : (old new : PartsBuilder) (l : Line) (caller : ℕ) → meaning_of l ≡ meaning.Caller caller → HasParts new (closed_parts old.current old.closed.items) (Some (record { caller = caller; lines = [] }))
    → PartsTake old l new
takes_caller old new l caller is has = record { same = λ more. parts_are new _ _ more has ∙ caller_taken old.closed.items old.current caller more ∙ ap (λ b. old.closed.items ++ b) (sym (parts_on-of old.current l _ more is)) }

line_taken : (o : Option Part) (line : CallerLine) (more : List Line) → parts_on (with_line o line) more ≡ parts_on_by o (meaning.CallerLine line) more
line_taken None line more = refl
line_taken (Some part) line more = ap (λ ls. record { caller = part.caller; lines = ls } ∷ parts_of more) (append_assoc part.lines (line ∷ []) (lines_of_caller more))

pub takes_line : (old new : PartsBuilder) (l : Line) (line : CallerLine) → meaning_of l ≡ meaning.CallerLine line → HasParts new old.closed.items (with_line old.current line) → PartsTake old l new
takes_line old new l line is has = record { same = λ more. parts_are new _ _ more has ∙ ap (λ b. old.closed.items ++ b) (line_taken old.current line more ∙ sym (parts_on-of old.current l _ more is)) }

-- ---- lines that give nothing

pub batches_stay : (old new : BatchesBuilder) (l : Line) (m : Meaning) → meaning_of l ≡ m → ((inside : Bool) (more : List Line) → batches_by inside m more ≡ batches_from inside more) → new ≡ old → BatchesTake old l new
batches_stay old new l m is nothing same = record { same = λ more. ap (λ b. batches_with b more) same ∙ ap (λ b. old.closed.items ++ b) (stays old.current more ∙ sym (batches_on-of old.current l m more is)) }
  where
    stays : (o : Option (List Edit)) (more : List Line) → batches_on o more ≡ batches_on_by o m more
    stays None more = sym (nothing false more)
    stays (Some batch) more = ap (onto_all batch) (sym (nothing true more))

pub parts_stay : (old new : PartsBuilder) (l : Line) (m : Meaning) → meaning_of l ≡ m → ((more : List Line) → parts_by m more ≡ parts_of more) → ((more : List Line) → lines_by m more ≡ lines_of_caller more) → new ≡ old → PartsTake old l new
parts_stay old new l m is nothing none same = record { same = λ more. ap (λ b. parts_with b more) same ∙ ap (λ b. old.closed.items ++ b) (stays old.current more ∙ sym (parts_on-of old.current l m more is)) }
  where
    stays : (o : Option Part) (more : List Line) → parts_on o more ≡ parts_on_by o m more
    stays None more = sym (nothing more)
    stays (Some part) more =
        ap (λ ls. record { caller = part.caller; lines = part.lines ++ ls } ∷ parts_of more) (sym (none more))
        ∙ ap (λ ps. record { caller = part.caller; lines = part.lines ++ lines_by m more } ∷ ps) (sym (nothing more))

-- ---- phases

-- a line of the phase
pub takes_within : (old new : ScriptBuilder) (l : Line) (m : Meaning) → meaning_of l ≡ m → is_phase_by m ≡ false → new.phases.items ≡ old.phases.items → BatchesTake old.batches l new.batches → PartsTake old.parts l new.parts → Takes old l new
takes_within old new l m is within same batches parts = record {
  same = λ more.
      ap (λ ps. ps ++ phases_of (phase_with new) (slice_split is_phase more)) same
      ∙ ap (λ ps. old.phases.items ++ ps) (by_parts (slice_split is_phase more) (some more) ∙ ap (phases_of (phase_with old)) (sym (slice_split-cons_no is_phase l more (phase-first l ∙ ap is_phase_by is ∙ within))));
}
  where
    phase : (part : List Line) → phase_with new part ≡ phase_with old (l ∷ part)
    phase part = ap (λ b. record { edits = b; callers = parts_with new.parts part }) (batches.same part) ∙ ap (λ p. record { edits = batches_with old.batches (l ∷ part); callers = p }) (parts.same part)

    by_parts : (ps : List (List Line)) → 0 < length ps → phases_of (phase_with new) ps ≡ phases_of (phase_with old) (onto_first l ps)
    by_parts [] none = absurd (omega (arith, none))
    by_parts (part ∷ ps) is_some = ap (λ p. p ∷ map phase_of ps) (phase part)

    some : (more : List Line) → 0 < length (slice_split is_phase more)
    some more = omega (arith, length-slice_split is_phase more)

-- one more line
pub holds_more : (old new : ScriptBuilder) (lines : List Line) (l : Line) → Holds old lines → Takes old l new → Holds new (lines ++ l ∷ [])
holds_more old new lines l holds takes = record { same = λ more. takes.same more ∙ holds.same (l ∷ more) ∙ ap (λ ls. map phase_of (slice_split is_phase ls)) (sym (append_assoc lines (l ∷ []) more)) }

-- the header gives nothing, and is the first line
pub holds_header : (b : ScriptBuilder) → Holds b [] → Holds b (line.Header ∷ [])
holds_header b holds = holds_more b b [] line.Header holds (takes_within b b line.Header meaning.Nothing refl refl refl (batches_stay b.batches b.batches line.Header meaning.Nothing refl (λ inside more. refl) refl) (parts_stay b.parts b.parts line.Header meaning.Nothing refl (λ more. refl) (λ more. refl) refl))
