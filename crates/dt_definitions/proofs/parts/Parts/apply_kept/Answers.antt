use Rattle.std.proofs.Common.{◌≡◌, ◌+◌, ◌∷◌, reverse, take, not, sym, ap, subst, ◌∙◌, arith}
use Rattle.std.proofs.lemmas.Bool.{false≢true}
use Rattle.dt_definitions.specs.Parts.{program_of}
use Rattle.dt_definitions.specs.Step.{step_batch}
use Rattle.dt_definitions.specs.Undo.{undoing, LeadsBack, HasRooms, inverse}
use Rattle.dt_definitions.proofs.Undoing.{done_more, undoing_more, room_back, rooms_more, rest_applied}
use Rattle.dt_definitions.proofs.Inverses.{step-undone}
use Rattle.dt_definitions.proofs.AnswerLaws.{ok_alone_changes}
use Rattle.dt_definitions.proofs.parts.Parts.apply_kept.Goals as goal

pub loop-index-preserved : goal.loop-index-preserved
loop-index-preserved c =
    let old = program_of c.loop-index.self in
    let new = program_of c.apply_keeping.new.self in
    let edit = c.index-edits-index.result in
    let edits = c.as_slice-edits.result.now in
    let log = undoing (reverse (take c.loop-index.index edits)) (reverse c.loop-index.kept.items) in
    let answer = c.in_default.ensures in
    let more : undoing (reverse (take (c.loop-index.index + 1) edits)) (reverse c.apply_keeping.new.kept.items) ≡ inverse old edit ∷ log =
    ap (λ done. undoing done (reverse c.apply_keeping.new.kept.items)) (done_more edits c.loop-index.index edit (omega arith) c.index-edits-index.is)
    ∙ ap (λ kept. undoing (edit ∷ reverse (take c.loop-index.index edits)) (reverse kept)) answer.kept
    ∙ undoing_more old edit (reverse (take c.loop-index.index edits)) c.loop-index.kept.items in
    let undone = step-undone old new edit c.loop-index.invariant.lawful c.law.ensures answer.applies in
    record {
      rest = rest_applied edits c.loop-index.index edit old new (step_batch (program_of c.args.self.now) edits)
          (omega arith) c.index-edits-index.is answer.applies c.loop-index.invariant.rest;
      lawful = c.apply_keeping.ensures.lawful;
      back = subst (λ l. LeadsBack new l (program_of c.args.self.now)) (sym more)
          (undone.0, subst (λ p. LeadsBack p log (program_of c.args.self.now)) (sym undone.1) c.loop-index.invariant.back);
      rooms = subst (HasRooms c.apply_keeping.new.self.definitions.rooms new) (sym more) (
        room_back old c.apply_keeping.new.self.definitions edit answer.room,
        subst (λ p. HasRooms c.apply_keeping.new.self.definitions.rooms p log) (sym undone.1)
            (rooms_more log old c.loop-index.self.definitions.rooms c.apply_keeping.new.self.definitions.rooms c.apply_keeping.ensures.room_stays c.loop-index.invariant.rooms),
      );
    }

-- a refused edit changes nothing, so the earlier ones can be undone
pub unreachable-requires : goal.unreachable-requires
unreachable-requires c =
    let log = undoing (reverse (take c.loop-index.index c.as_slice-edits.result.now)) (reverse c.apply_keeping.new.kept.items) in
    let rooms = c.apply_keeping.new.self.definitions.rooms in
    let p = program_of c.apply_keeping.new.self in
    let old = program_of c.loop-index.self in
    let first = program_of c.args.self.now in
    let same = ok_alone_changes old p c.index-edits-index.result c.in-Err.fault c.in-Err.ensures.applies in
    let kept = sym c.in-Err.ensures.stays in
    let back = subst (λ k. LeadsBack old (undoing (reverse (take c.loop-index.index c.as_slice-edits.result.now)) (reverse k)) first) kept c.loop-index.invariant.back in
    let room = subst (λ k. HasRooms c.loop-index.self.definitions.rooms old (undoing (reverse (take c.loop-index.index c.as_slice-edits.result.now)) (reverse k))) kept c.loop-index.invariant.rooms in
    let more = rooms_more log old c.loop-index.self.definitions.rooms rooms c.in-Err.ensures.room_stays room in
    let good = c.undo.ensures.succeeds first (subst (λ q. LeadsBack q log first) (sym same) back) (subst (λ q. HasRooms rooms q log) (sym same) more) in
    false≢true (sym (c.is_err.ensures.negation ∙ ap not c.if-is_err.true) ∙ good)
