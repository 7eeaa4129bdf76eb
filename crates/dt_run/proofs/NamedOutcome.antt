-- In the log of an outcome every number has a name, where the numbers of the script's edits do.
use Rattle.std.proofs.Common.{if◌then◌else◌, ◌≡◌, ◌==◌, ℕ, ◌+◌, arith, Bool, true, false, cond, ◌||◌, not, IsTrue, List, [], ◌∷◌, ◌++◌, take, map, Option, Some, None, Ok, Err, refl, sym, subst, ◌∙◌, ◌⊎◌, inl, inr, ⊎_elim, eqb-true, eq-eqb, All}
use Rattle.std.specs.Prelude.{IfSome, is_some, slice_get}
use Rattle.std.specs.List.{AllByRecursion, AllZip, list_all, flat_map}
use Rattle.std.proofs.lemmas.Bool.{or_cases, or_left, or_right, and_parts, and_from, false≢true, cases_Bool}
use Rattle.std.proofs.lemmas.Bool.Decides.{nat_tests}
use Rattle.std.proofs.lemmas.List.Folds.{list_all-append, list_any-append}
use Rattle.std.proofs.lemmas.List.Concat.{flat_map-cons}
use Rattle.std.proofs.lemmas.List.Elements.{All-nil, All-cons, All-head, All-tail, All-filter, All-take, All-append, All-weaker}
use Rattle.dt_graph.specs.Graph.{has_number}
use Rattle.dt_graph.proofs.LinkLists.{has_number-kept}
use Rattle.dt_definitions.specs.Program.{Definition, Program, arity_of}
use Rattle.dt_definitions.specs.Step.{step_batch, after}
use Rattle.dt_definitions.specs.RefusalWords.{class_of}
use Rattle.dt_definitions.specs.declared.edit.Edit.{Edit}
use Rattle.dt_definitions.specs.declared.edit.Edit.TheVariants.{AddClass, DropClass, Unlink, AddSelector, DropSelector, Define, Undefine}
use Rattle.dt_definitions.specs.declared.edit.Edit.TheVariants as edit
use Rattle.dt_definitions.specs.declared.why.Why.{Why}
use Rattle.dt_scratch.specs.Query.{Query, arity_of_query}
use Rattle.dt_scratch.specs.Resolve.{applicable, minimal, answer_by, answer, first_dead, reply_by_classes, reply_by_arity, reply}
use Rattle.dt_scratch.specs.declared.reply.Reply.{Reply}
use Rattle.dt_scratch.specs.declared.reply.Reply.TheVariants.{WrongArity, Answered}
use Rattle.dt_script.specs.NameBook.{NameBook}
use Rattle.dt_script.specs.Word.{Word, Class}
use Rattle.dt_script.specs.Named.{has_text, is_edit_named, HasNames}
use Rattle.dt_script.specs.Script.{Script, Phase, Part}
use Rattle.dt_script.specs.declared.line.CallerLine.{CallerLine}
use Rattle.dt_script.specs.declared.line.CallerLine.TheVariants.{Call, Pin, Unpin}
use Rattle.dt_run.specs.Log.{Log, PhaseLog, PartLog}
use Rattle.dt_run.specs.LogShape.{IsLogOfLine, IsLogOfPart, HasShape}
use Rattle.dt_run.specs.Versions.{Batch, accepted, history_of}
use Rattle.dt_tables.specs.Listed.{has_more_cells, has_more_rows}
use Rattle.dt_run.specs.Edits.{line_by, edit_line, version_after, AreEditsFrom}
use Rattle.dt_run.specs.CallerLines.{CallerEntry, first_of_each, line_entries, part_entries, entries_of}
use Rattle.dt_run.specs.Calls.{Answers, pin_after, least_after, Follows}
use Rattle.dt_run.specs.Outcome.{Outcome}
use Rattle.dt_run.specs.Text.{words_of_class, words_of_edit_line, words_of_reply, words_of_call_line, words_of_done_line, lines_of_part, lines_of_phase, lines_of_phases, is_named}
use Rattle.dt_run.specs.declared.log.CallLine.{CallLine}
use Rattle.dt_run.specs.declared.log.CallLine.TheVariants.{Called, CallWorn, PinnedAt, PinWorn, Unpinned}
use Rattle.dt_run.specs.declared.log.EditLine.{EditLine}
use Rattle.dt_run.specs.declared.log.EditLine.TheVariants.{Accepted, Refused, VersionsFull, CellsFull, RowsFull, NoPages}
use Rattle.dt_run.proofs.KnownNumbers.{KnownEdit, KnownProgram, KnownStep, step_known, history_known}

-- what holds along two lists holds along their parts
left_part : {X : Type 0} (P : X → Type 0) (xs ys : List X) → AllByRecursion P (xs ++ ys) → AllByRecursion P xs
left_part P [] ys all = tt
left_part P (x ∷ xs) ys all = (all.0, left_part P xs ys all.1)

right_part : {X : Type 0} (P : X → Type 0) (xs ys : List X) → AllByRecursion P (xs ++ ys) → AllByRecursion P ys
right_part P [] ys all = all
right_part P (x ∷ xs) ys all = right_part P xs ys all.1

-- what holds of the first of each number holds of every number
each_first : (P : ℕ → Type 0) (numbers : List ℕ) → AllByRecursion P numbers → (n : ℕ) → IsTrue (has_number numbers n) → P n
each_first P [] all n listed = absurd (false≢true listed)
each_first P (x ∷ numbers) all n listed = ⊎_elim
    (λ here. subst P (eqb-true x n here) all.0)
    (λ later. each_first P numbers all.1 n later)
    (or_cases (x == n) (has_number numbers n) listed)

still_first : (numbers : List ℕ) (n : ℕ) → IsTrue (has_number numbers n) → IsTrue (has_number (first_of_each numbers) n)
still_first [] n listed = listed
still_first (x ∷ numbers) n listed = ⊎_elim
    (λ here. or_left (x == n) _ here)
    (λ other. or_right (x == n) _ (has_number-kept (λ k. not (k == x)) (first_of_each numbers) n (still_first numbers n
    (⊎_elim (λ here. absurd (false≢true (sym other ∙ here))) (λ later. later) (or_cases (x == n) (has_number numbers n) listed)))
    (grind (arith, nat_tests))))
    (cases_Bool (x == n))

or_either : (a b : Bool) → IsTrue a ⊎ IsTrue b → IsTrue (a || b)
or_either a b either = ⊎_elim (or_left a b) (or_right a b) either

-- ---- the numbers of an edit

module _ (book : NameBook) where
  abbrev pub HasClass : ℕ → Type 0
  HasClass class = IsTrue (is_some (slice_get book.classes class))

  abbrev pub HasBody : ℕ → Type 0
  HasBody body = IsTrue (is_some (slice_get book.bodies body))

  -- each word of a line has a text
  abbrev Named : List Word → Type 0
  Named words = IsTrue (list_all (has_text book) words)

  classes_named : (classes : List ℕ) (words : List Word) → Named (map Class classes ++ words) → All HasClass classes × Named words
  classes_named [] words named = (All-nil HasClass, named)
  classes_named (class ∷ classes) words named =
      let parts = and_parts (is_some (slice_get book.classes class)) (list_all (has_text book) (map Class classes ++ words)) named in
      let rest = classes_named classes words parts.1 in
      (All-cons HasClass class classes parts.0 rest.0, rest.1)

  only_classes : (classes : List ℕ) → Named (map Class classes) → All HasClass classes
  only_classes [] named = All-nil HasClass
  only_classes (class ∷ classes) named =
      let parts = and_parts (is_some (slice_get book.classes class)) (list_all (has_text book) (map Class classes)) named in
      All-cons HasClass class classes parts.0 (only_classes classes parts.1)

  edit_known : (e : Edit) → IsTrue (is_edit_named book e) → KnownEdit HasClass HasBody e
  edit_known (AddClass class []) named = ((only_classes (class ∷ []) named) 0 0 (omega arith), All-nil HasClass)
  edit_known (AddClass class (parent ∷ parents)) named =
      let parts = and_parts (is_some (slice_get book.classes class)) (list_all (has_text book) (map Class (parent ∷ parents))) named in
      (parts.0, only_classes (parent ∷ parents) parts.1)
  edit_known (DropClass class) named = All-head HasClass class [] (only_classes (class ∷ []) named)
  edit_known (edit.Link class parent) named =
      let both = only_classes (class ∷ parent ∷ []) named in
      (All-head HasClass class (parent ∷ []) both, All-head HasClass parent [] (All-tail HasClass class (parent ∷ []) both))
  edit_known (Unlink class parent) named =
      let both = only_classes (class ∷ parent ∷ []) named in
      (All-head HasClass class (parent ∷ []) both, All-head HasClass parent [] (All-tail HasClass class (parent ∷ []) both))
  edit_known (AddSelector selector arity) named = tt
  edit_known (DropSelector selector) named = tt
  edit_known (Define selector classes body) named =
      let parts = and_parts (is_some (slice_get book.selectors selector)) _ named in
      let rest = classes_named classes _ parts.1 in
      (rest.0, (and_parts (is_some (slice_get book.bodies body)) true rest.1).0)
  edit_known (Undefine selector classes) named =
      only_classes classes (and_parts (is_some (slice_get book.selectors selector)) _ named).1

  -- ---- replies, and the lines of batches

  known_by : (ds : List Definition) → All (λ (d : Definition). HasBody d.body) ds → Named (words_of_reply (Answered (answer_by ds)))
  known_by [] all = refl
  known_by (d ∷ []) all = and_from (is_some (slice_get book.bodies d.body)) true (All-head (λ (d : Definition). HasBody d.body) d [] all) refl
  known_by (d ∷ e ∷ ds) all = refl

  reply_named : (p : Program) (query : Query) → KnownProgram HasClass HasBody p → Named (words_of_reply (reply p query))
  reply_named p query known =
      let answered : Named (words_of_reply (Answered (answer p query))) =
      known_by (minimal p.graph.links (applicable p query))
      (All-filter _ (λ (d : Definition). HasBody d.body) (applicable p query) (All-filter _ (λ (d : Definition). HasBody d.body) p.definitions known.bodies)) in
      let by_classes : Named (words_of_reply (reply_by_classes (first_dead p.graph 1 query.classes) (answer p query))) =
      elim (first_dead p.graph 1 query.classes) as (λ o. Named (words_of_reply (reply_by_classes o (answer p query)))) [ None ↦ answered | (Some position) ↦ refl ] in
      elim (arity_of p query.selector) as (λ o. Named (words_of_reply (reply_by_arity o (arity_of_query query) (reply_by_classes (first_dead p.graph 1 query.classes) (answer p query))))) [
        | None ↦ refl
        | (Some arity) ↦ elim (arity == arity_of_query query) as (λ b. Named (words_of_reply (cond b (reply_by_classes (first_dead p.graph 1 query.classes) (answer p query)) WrongArity))) [ true ↦ by_classes | false ↦ refl ]
      ]

  refused_named : (at : ℕ) (why : Why) → IfSome (class_of why) HasClass → Named (words_of_edit_line (Refused at why))
  refused_named at why known =
      elim (class_of why) as (λ o. IfSome o HasClass → Named (words_of_class o)) [
        | None ↦ λ _. refl
        | (Some class) ↦ λ k. and_from (is_some (slice_get book.classes class)) true k refl
      ] known

  new_named : (version : ℕ) (cells rows : Bool)
      → Named (words_of_edit_line (if cells then CellsFull else if rows then RowsFull else Accepted (version + 1)))
  new_named version true rows = refl
  new_named version false true = refl
  new_named version false false = refl

  edit_line_named : (limit version : ℕ) (p : Program) (batch : Batch) → KnownProgram HasClass HasBody p → All (KnownEdit HasClass HasBody) batch
      → Named (words_of_edit_line (edit_line limit version p batch))
  edit_line_named limit version p batch known edits =
      let stepped : Named (words_of_edit_line (line_by version (step_batch p batch))) =
      elim (step_batch p batch) as (λ r. KnownStep HasClass HasBody r → Named (words_of_edit_line (line_by version r))) [
        | (Ok q) ↦ λ _. new_named version (has_more_cells q) (has_more_rows q)
        | (Err refused) ↦ λ k. refused_named refused.at refused.why k
      ] (step_known HasClass HasBody 1 p batch known edits) in
      elim (version == limit) as (λ b. Named (words_of_edit_line (cond b VersionsFull (line_by version (step_batch p batch))))) [ true ↦ refl | false ↦ stepped ]

  -- ---- the lines of callers

  -- the line has a text, whichever caller's it is
  abbrev NamedLine : CallLine → Type 0
  NamedLine logged = (caller : ℕ) → Named (words_of_call_line caller logged)

  abbrev NamedEntry : CallerEntry → Type 0
  NamedEntry entry = NamedLine entry.logged

  module _ (history : List Batch) (edits : All (All (KnownEdit HasClass HasBody)) history) where
    known_at : (version : ℕ) → KnownProgram HasClass HasBody (after (take version history))
    known_at version = history_known HasClass HasBody (take version history) (All-take (All (KnownEdit HasClass HasBody)) version history edits)

    called_named : (version : ℕ) (query : Query) (told : Reply) → told ≡ reply (after (take version history)) query → Named (words_of_reply told)
    called_named version query told same = subst (λ r. Named (words_of_reply r)) (sym same) (reply_named (after (take version history)) query (known_at version))

    answer_named : (pin : Option ℕ) (least : ℕ) (entry : CallerEntry) (line : CallerLine) (logged : CallLine)
        → Answers history pin least entry line logged → NamedLine logged
    answer_named None least entry (Call query) (Called stamped) answers = λ _. called_named stamped.version query stamped.reply answers.2
    answer_named (Some pinned) least entry (Call query) (Called stamped) answers = λ _. called_named pinned query stamped.reply answers.1
    answer_named None least entry Pin (Called stamped) answers = absurd answers
    answer_named (Some pinned) least entry Pin (Called stamped) answers = absurd answers
    answer_named None least entry Unpin (Called stamped) answers = absurd answers
    answer_named (Some pinned) least entry Unpin (Called stamped) answers = absurd answers
    answer_named pin least entry line (CallWorn entries) answers = λ _. refl
    answer_named pin least entry line (PinnedAt version) answers = λ _. refl
    answer_named pin least entry line (PinWorn entries) answers = λ _. refl
    answer_named pin least entry line Unpinned answers = λ _. refl

    follows_named : (pin : Option ℕ) (least : ℕ) (entries : List CallerEntry) → Follows history pin least entries → AllByRecursion NamedEntry entries
    follows_named pin least [] follows = tt
    follows_named pin least (entry ∷ entries) follows = (
      answer_named pin least entry entry.line entry.logged follows.0,
      follows_named (pin_after pin entry.logged) (least_after least entry.logged) entries follows.1,
    )

  -- the entries of a part are all its lines
  lines_named : (from to : ℕ) (lines : List CallerLine) (logged : List CallLine) → AllZip IsLogOfLine lines logged
      → AllByRecursion NamedEntry (line_entries from to lines logged) → All NamedLine logged
  lines_named from to [] [] shape all = All-nil NamedLine
  lines_named from to [] (one ∷ logged) shape all = absurd shape
  lines_named from to (line ∷ lines) [] shape all = absurd shape
  lines_named from to (line ∷ lines) (one ∷ logged) shape all =
      All-cons NamedLine one logged all.0 (lines_named from to lines logged shape.1 all.1)

  abbrev NamedPart : PartLog → Type 0
  NamedPart part = All NamedLine part.lines

  parts_named : (from to : ℕ) (parts : List Part) (logs : List PartLog) → AllZip IsLogOfPart parts logs
      → ((caller : ℕ) → IsTrue (has_number (map (λ part. part.caller) parts) caller) → AllByRecursion NamedEntry (part_entries caller from to parts logs))
      → All NamedPart logs
  parts_named from to [] [] shape each = All-nil NamedPart
  parts_named from to [] (log ∷ logs) shape each = absurd shape
  parts_named from to (part ∷ parts) [] shape each = absurd shape
  parts_named from to (part ∷ parts) (log ∷ logs) shape each =
      let entries = line_entries from to part.lines log.lines in
      let rest = λ (caller : ℕ). part_entries caller from to parts logs in
      let same : part.caller == part.caller ≡ true = eq-eqb part.caller part.caller refl in
      let own = each part.caller (or_left _ _ same) in
      let first : AllByRecursion NamedEntry entries =
      left_part NamedEntry entries (rest part.caller)
      (subst (λ b. AllByRecursion NamedEntry (cond b entries [] ++ rest part.caller)) same own) in
      All-cons NamedPart log logs
      (lines_named from to part.lines log.lines shape.0.1 first)
      (parts_named from to parts logs shape.1 (λ caller listed.
      right_part NamedEntry (cond (part.caller == caller) entries []) (rest caller) (each caller (or_right _ _ listed))))

  -- ---- the lines of a log

  abbrev NamedEdits : List EditLine → Type 0
  NamedEdits lines = All (λ line. Named (words_of_edit_line line)) lines

  record NamedPhase (log : PhaseLog) : Type 0 where
    edits : NamedEdits log.edits
    callers : All NamedPart log.callers

  abbrev KnownBatches : List Batch → Type 0
  KnownBatches batches = All (All (KnownEdit HasClass HasBody)) batches

  accepted_known : (batches : List Batch) (lines : List EditLine) → KnownBatches batches → KnownBatches (accepted batches lines)
  accepted_known [] lines known = known
  accepted_known (batch ∷ batches) [] known = All-nil (All (KnownEdit HasClass HasBody))
  accepted_known (batch ∷ batches) (Accepted version ∷ lines) known =
      All-cons (All (KnownEdit HasClass HasBody)) batch (accepted batches lines) (All-head (All (KnownEdit HasClass HasBody)) batch batches known)
      (accepted_known batches lines (All-tail (All (KnownEdit HasClass HasBody)) batch batches known))
  accepted_known (batch ∷ batches) (Refused at why ∷ lines) known = accepted_known batches lines (All-tail (All (KnownEdit HasClass HasBody)) batch batches known)
  accepted_known (batch ∷ batches) (VersionsFull ∷ lines) known = accepted_known batches lines (All-tail (All (KnownEdit HasClass HasBody)) batch batches known)
  accepted_known (batch ∷ batches) (CellsFull ∷ lines) known = accepted_known batches lines (All-tail (All (KnownEdit HasClass HasBody)) batch batches known)
  accepted_known (batch ∷ batches) (RowsFull ∷ lines) known = accepted_known batches lines (All-tail (All (KnownEdit HasClass HasBody)) batch batches known)
  accepted_known (batch ∷ batches) (NoPages need free ∷ lines) known = accepted_known batches lines (All-tail (All (KnownEdit HasClass HasBody)) batch batches known)

  all_known : (phases : List Phase) (logs : List PhaseLog) → All (λ (phase : Phase). KnownBatches phase.edits) phases → KnownBatches (history_of phases logs)
  all_known [] logs known = All-nil (All (KnownEdit HasClass HasBody))
  all_known (phase ∷ phases) [] known = All-nil (All (KnownEdit HasClass HasBody))
  all_known (phase ∷ phases) (log ∷ logs) known =
      All-append (All (KnownEdit HasClass HasBody)) (accepted phase.edits log.edits) (history_of phases logs)
      (accepted_known phase.edits log.edits (All-head (λ (phase : Phase). KnownBatches phase.edits) phase phases known))
      (all_known phases logs (All-tail (λ (phase : Phase). KnownBatches phase.edits) phase phases known))

  module _ (limit : ℕ) (history : List Batch) (edits : KnownBatches history) where
    edits_named : (version : ℕ) (batches : List Batch) (lines : List EditLine) → KnownBatches batches
        → AreEditsFrom limit history version batches lines → NamedEdits lines
    edits_named version [] [] known are = All-nil (λ line. Named (words_of_edit_line line))
    edits_named version [] (line ∷ lines) known are = absurd are
    edits_named version (batch ∷ batches) [] known are = absurd are
    edits_named version (batch ∷ batches) (line ∷ lines) known are =
        All-cons (λ one. Named (words_of_edit_line one)) line lines
        (subst (λ one. Named (words_of_edit_line one)) (sym are.0)
        (edit_line_named limit version (after (take version history)) batch (known_at history edits version) (All-head (All (KnownEdit HasClass HasBody)) batch batches known)))
        (edits_named (version_after version line) batches lines (All-tail (All (KnownEdit HasClass HasBody)) batch batches known) are.1)

    phases_named : (phases : List Phase) (logs : List PhaseLog) → HasShape phases logs
        → AllZip (λ phase log. AreEditsFrom limit history log.from phase.edits log.edits) phases logs
        → All (λ (phase : Phase). KnownBatches phase.edits) phases
        → ((caller : ℕ) → IsTrue (has_number (flat_map (λ phase. map (λ part. part.caller) phase.callers) phases) caller)
        → AllByRecursion NamedEntry (entries_of caller phases logs))
        → All NamedPhase logs
    phases_named [] [] shape edits known each = All-nil NamedPhase
    phases_named [] (log ∷ logs) shape edits known each = absurd shape
    phases_named (phase ∷ phases) [] shape edits known each = absurd shape
    phases_named (phase ∷ phases) (log ∷ logs) shape edits known each =
        let callers = λ (one : Phase). map (λ part. part.caller) one.callers in
        let own = λ (caller : ℕ). part_entries caller log.from log.to phase.callers log.callers in
        let listed = λ (caller : ℕ) (either : (IsTrue (has_number (callers phase) caller)) ⊎ (IsTrue (has_number (flat_map callers phases) caller))).
        subst (λ numbers. IsTrue (has_number numbers caller)) (sym (flat_map-cons callers phase phases))
        (list_any-append (λ n. n == caller) (callers phase) (flat_map callers phases) ∙ or_either _ _ either) in
        All-cons NamedPhase log logs
        (record {
          edits = edits_named log.from phase.edits log.edits (All-head (λ (one : Phase). KnownBatches one.edits) phase phases known) edits.0;
          callers = parts_named log.from log.to phase.callers log.callers shape.0.1 (λ caller here.
              left_part NamedEntry (own caller) (entries_of caller phases logs) (each caller (listed caller (inl here))));
        })
        (phases_named phases logs shape.1 edits.1 (All-tail (λ (one : Phase). KnownBatches one.edits) phase phases known) (λ caller later.
        right_part NamedEntry (own caller) (entries_of caller phases logs) (each caller (listed caller (inr later)))))

  -- ---- all lines together

  both_parts : (xs ys : List (List Word)) → IsTrue (list_all (list_all (has_text book)) xs) → IsTrue (list_all (list_all (has_text book)) ys)
      → IsTrue (list_all (list_all (has_text book)) (xs ++ ys))
  both_parts xs ys left right = list_all-append (list_all (has_text book)) xs ys ∙ and_from _ _ left right

  edit_lines : (lines : List EditLine) → NamedEdits lines → IsTrue (list_all (list_all (has_text book)) (map words_of_edit_line lines))
  edit_lines [] named = refl
  edit_lines (line ∷ lines) named = and_from _ _ (All-head (λ one. Named (words_of_edit_line one)) line lines named)
      (edit_lines lines (All-tail (λ one. Named (words_of_edit_line one)) line lines named))

  call_lines : (caller : ℕ) (lines : List CallLine) → All NamedLine lines → IsTrue (list_all (list_all (has_text book)) (map (words_of_call_line caller) lines))
  call_lines caller [] named = refl
  call_lines caller (line ∷ lines) named = and_from _ _ (All-head NamedLine line lines named caller)
      (call_lines caller lines (All-tail NamedLine line lines named))

  part_lines : (parts : List PartLog) → All NamedPart parts → IsTrue (list_all (list_all (has_text book)) (flat_map lines_of_part parts))
  part_lines [] named = refl
  part_lines (part ∷ parts) named =
      subst (λ lines. IsTrue (list_all (list_all (has_text book)) lines)) (sym (flat_map-cons lines_of_part part parts))
      (both_parts (lines_of_part part) (flat_map lines_of_part parts)
      (call_lines part.caller part.lines (All-head NamedPart part parts named)) (part_lines parts (All-tail NamedPart part parts named)))

  phase_lines : (number : ℕ) (phases : List PhaseLog) → All NamedPhase phases → IsTrue (list_all (list_all (has_text book)) (lines_of_phases number phases))
  phase_lines number [] named = refl
  phase_lines number (phase ∷ phases) named =
      let own = All-head NamedPhase phase phases named in
      both_parts (lines_of_phase number phase) (lines_of_phases (number + 1) phases)
      (both_parts (map words_of_edit_line phase.edits) (flat_map lines_of_part phase.callers) (edit_lines phase.edits own.edits) (part_lines phase.callers own.callers))
      (phase_lines (number + 1) phases (All-tail NamedPhase phase phases named))

  batch_known : (batch : Batch) → All (λ edit. IsTrue (is_edit_named book edit)) batch → All (KnownEdit HasClass HasBody) batch
  batch_known batch named = All-weaker (λ edit. IsTrue (is_edit_named book edit)) (KnownEdit HasClass HasBody) edit_known batch named

  script_known : (phases : List Phase) → All (λ (phase : Phase). All (All (λ edit. IsTrue (is_edit_named book edit))) phase.edits) phases
      → All (λ (phase : Phase). KnownBatches phase.edits) phases
  script_known phases named =
      All-weaker (λ (phase : Phase). All (All (λ edit. IsTrue (is_edit_named book edit))) phase.edits) (λ (phase : Phase). KnownBatches phase.edits)
      (λ phase own. All-weaker (All (λ edit. IsTrue (is_edit_named book edit))) (All (KnownEdit HasClass HasBody)) batch_known phase.edits own) phases named

-- each number in the log of an outcome has a name
pub outcome_is_named : (script : Script) (limit : ℕ) (log : Log) → HasNames script → Outcome script limit log → IsTrue (is_named script.names log)
outcome_is_named script limit log names outcome =
    let history = history_of script.phases log.phases in
    let known = script_known script.names script.phases names in
    let edits = all_known script.names script.phases log.phases known in
    let callers = flat_map (λ (phase : Phase). map (λ (part : Part). part.caller) phase.callers) script.phases in
    both_parts script.names (lines_of_phases 1 log.phases) (words_of_done_line log.last ∷ [])
    (phase_lines script.names 1 log.phases (phases_named script.names limit history edits script.phases log.phases outcome.shape outcome.edits known
    (λ caller listed. follows_named script.names history edits None 0 (entries_of caller script.phases log.phases)
    (each_first (λ one. Follows history None 0 (entries_of one script.phases log.phases)) (first_of_each callers) outcome.calls caller (still_first callers caller listed)))))
    refl
