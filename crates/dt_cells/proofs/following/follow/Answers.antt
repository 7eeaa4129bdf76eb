use Rattle.std.proofs.Common.{sym, subst}
use Rattle.dt_pages.specs.Reading.{Reading}
use Rattle.dt_pages.specs.Image.{look_up}
use Rattle.dt_pages.specs.Draft.{laid_over}
use Rattle.dt_cells.specs.Held.{held_after}
use Rattle.dt_cells.specs.Serving.{Serves}
use Rattle.dt_cells.specs.Following.{IsTableOf, IsImageAfter}
use Rattle.dt_cells.proofs.BatchSteps.{Steps, can_stage, followed, headed_words, stays, steps_of, table_serves, words_made}
use Rattle.dt_cells.proofs.following.follow.Goals as goal

pub stage-requires : goal.stage-requires
stage-requires g c = (
  c.requires.table.0,
  can_stage g.K.TableKind.kind (g.met.K.TableKind g.world.𝓛 g.world.𝓜 g.world.𝓡 ((λ s x. x), (λ x. x), (λ x. x), λ x. x)).laws (g.K.TableKind.stands c.args.kind.now) (g.K.TableKind.low c.args.kind.now)
      (look_up c.args.tree.now) (laid_over c.heads_of_batch.new.draft (look_up c.args.tree.now)) c.requires.table.0 c.args.changes.now c.args.old.now c.args.new.now
      (headed_words c.new-draft.result c.heads_of_batch.new.draft (look_up c.args.tree.now) c.args.old.now c.args.new.now c.new-draft.ensures c.in_ok-heads_of_batch.ensures.words) c.requires.table.1,
)

pub settle-requires : goal.settle-requires
settle-requires g c = (
  (look_up c.args.tree.now),
  c.requires.table.0,
  c.args.changes.now,
  c.in_ok-staged.ensures.stands (look_up c.args.tree.now) c.requires.table.0 c.requires.table.1.table.standing,
  (c.in_ok-staged.ensures.placed c.requires.table.0 (can_stage g.K.TableKind.kind (g.met.K.TableKind g.world.𝓛 g.world.𝓜 g.world.𝓡 ((λ s x. x), (λ x. x), (λ x. x), λ x. x)).laws (g.K.TableKind.stands c.args.kind.now) (g.K.TableKind.low c.args.kind.now)
      (look_up c.args.tree.now) (laid_over c.heads_of_batch.new.draft (look_up c.args.tree.now)) c.requires.table.0 c.args.changes.now c.args.old.now c.args.new.now
      (headed_words c.new-draft.result c.heads_of_batch.new.draft (look_up c.args.tree.now) c.args.old.now c.args.new.now c.new-draft.ensures c.in_ok-heads_of_batch.ensures.words) c.requires.table.1)).1,
)

pub returns-clause-table : goal.returns-clause-table
returns-clause-table g c = λ held can.
    subst (λ (y : Reading). IsTableOf g.K.TableKind.kind (g.K.TableKind.stands c.settle.new.self) (g.K.TableKind.low c.args.kind.now) y (held_after held c.args.changes.now) c.args.new.now) (sym c.in_ok-overlay.ensures.ok)
    (let steps : Steps g.K.TableKind.kind (look_up c.args.tree.now) (laid_over c.heads_of_batch.new.draft (look_up c.args.tree.now)) (laid_over c.stage.new.draft (look_up c.args.tree.now)) c.args.changes.now c.args.old.now c.args.new.now = steps_of g.K.TableKind.kind c.new-draft.result c.heads_of_batch.new.draft c.stage.new.draft (look_up c.args.tree.now) c.args.changes.now c.args.old.now c.args.new.now
    c.new-draft.ensures c.in_ok-heads_of_batch.ensures.words c.in_ok-heads_of_batch.ensures.heads c.in_ok-staged.ensures.rest in
    let sh = (g.met.K.TableKind g.world.𝓛 g.world.𝓜 g.world.𝓡 ((λ s x. x), (λ x. x), (λ x. x), λ x. x)).standing.shows c.args.kind.now (look_up c.args.tree.now) held can.table.standing in
    let placed = c.in_ok-staged.ensures.placed held (can_stage g.K.TableKind.kind (g.met.K.TableKind g.world.𝓛 g.world.𝓜 g.world.𝓡 ((λ s x. x), (λ x. x), (λ x. x), λ x. x)).laws (g.K.TableKind.stands c.args.kind.now) (g.K.TableKind.low c.args.kind.now)
    (look_up c.args.tree.now) (laid_over c.heads_of_batch.new.draft (look_up c.args.tree.now)) held c.args.changes.now c.args.old.now c.args.new.now
    (headed_words c.new-draft.result c.heads_of_batch.new.draft (look_up c.args.tree.now) c.args.old.now c.args.new.now c.new-draft.ensures c.in_ok-heads_of_batch.ensures.words) can) in
    followed g.K.TableKind.kind (g.met.K.TableKind g.world.𝓛 g.world.𝓜 g.world.𝓡 ((λ s x. x), (λ x. x), (λ x. x), λ x. x)).laws c.law_of_cells.ensures.understood (g.K.TableKind.stands c.args.kind.now) (g.K.TableKind.stands c.settle.new.self) (g.K.TableKind.low c.args.kind.now)
    (look_up c.args.tree.now) (laid_over c.heads_of_batch.new.draft (look_up c.args.tree.now)) (laid_over c.stage.new.draft (look_up c.args.tree.now)) held c.args.changes.now c.args.old.now c.args.new.now c.law.ensures.lawful steps can sh placed.0
    (c.settle.ensures.stands (look_up c.args.tree.now) held c.args.changes.now (laid_over c.stage.new.draft (look_up c.args.tree.now)) (c.in_ok-staged.ensures.stands (look_up c.args.tree.now) held can.table.standing) placed.1 placed.0
    (stays g.K.TableKind.kind (g.met.K.TableKind g.world.𝓛 g.world.𝓜 g.world.𝓡 ((λ s x. x), (λ x. x), (λ x. x), λ x. x)).laws c.law_of_cells.ensures.understood (look_up c.args.tree.now) (laid_over c.heads_of_batch.new.draft (look_up c.args.tree.now)) (laid_over c.stage.new.draft (look_up c.args.tree.now)) held c.args.changes.now c.args.old.now c.args.new.now steps sh)))

pub returns-clause-serves : goal.returns-clause-serves
returns-clause-serves g c =
    subst (λ (y : Reading). Serves (g.K.TableKind.low c.args.kind.now) g.K.TableKind.kind c.args.new.now y) (sym c.in_ok-overlay.ensures.ok)
    (let table : IsTableOf g.K.TableKind.kind (g.K.TableKind.stands c.settle.new.self) (g.K.TableKind.low c.args.kind.now) (laid_over c.stage.new.draft (look_up c.args.tree.now)) (held_after c.requires.table.0 c.args.changes.now) c.args.new.now =
    let steps : Steps g.K.TableKind.kind (look_up c.args.tree.now) (laid_over c.heads_of_batch.new.draft (look_up c.args.tree.now)) (laid_over c.stage.new.draft (look_up c.args.tree.now)) c.args.changes.now c.args.old.now c.args.new.now = steps_of g.K.TableKind.kind c.new-draft.result c.heads_of_batch.new.draft c.stage.new.draft (look_up c.args.tree.now) c.args.changes.now c.args.old.now c.args.new.now
    c.new-draft.ensures c.in_ok-heads_of_batch.ensures.words c.in_ok-heads_of_batch.ensures.heads c.in_ok-staged.ensures.rest in
    let sh = (g.met.K.TableKind g.world.𝓛 g.world.𝓜 g.world.𝓡 ((λ s x. x), (λ x. x), (λ x. x), λ x. x)).standing.shows c.args.kind.now (look_up c.args.tree.now) c.requires.table.0 c.requires.table.1.table.standing in
    let placed = c.in_ok-staged.ensures.placed c.requires.table.0 (can_stage g.K.TableKind.kind (g.met.K.TableKind g.world.𝓛 g.world.𝓜 g.world.𝓡 ((λ s x. x), (λ x. x), (λ x. x), λ x. x)).laws (g.K.TableKind.stands c.args.kind.now) (g.K.TableKind.low c.args.kind.now)
    (look_up c.args.tree.now) (laid_over c.heads_of_batch.new.draft (look_up c.args.tree.now)) c.requires.table.0 c.args.changes.now c.args.old.now c.args.new.now
    (headed_words c.new-draft.result c.heads_of_batch.new.draft (look_up c.args.tree.now) c.args.old.now c.args.new.now c.new-draft.ensures c.in_ok-heads_of_batch.ensures.words) c.requires.table.1) in
    followed g.K.TableKind.kind (g.met.K.TableKind g.world.𝓛 g.world.𝓜 g.world.𝓡 ((λ s x. x), (λ x. x), (λ x. x), λ x. x)).laws c.law_of_cells.ensures.understood (g.K.TableKind.stands c.args.kind.now) (g.K.TableKind.stands c.settle.new.self) (g.K.TableKind.low c.args.kind.now)
    (look_up c.args.tree.now) (laid_over c.heads_of_batch.new.draft (look_up c.args.tree.now)) (laid_over c.stage.new.draft (look_up c.args.tree.now)) c.requires.table.0 c.args.changes.now c.args.old.now c.args.new.now c.law.ensures.lawful steps c.requires.table.1 sh placed.0
    (c.settle.ensures.stands (look_up c.args.tree.now) c.requires.table.0 c.args.changes.now (laid_over c.stage.new.draft (look_up c.args.tree.now)) (c.in_ok-staged.ensures.stands (look_up c.args.tree.now) c.requires.table.0 c.requires.table.1.table.standing) placed.1 placed.0
    (stays g.K.TableKind.kind (g.met.K.TableKind g.world.𝓛 g.world.𝓜 g.world.𝓡 ((λ s x. x), (λ x. x), (λ x. x), λ x. x)).laws c.law_of_cells.ensures.understood (look_up c.args.tree.now) (laid_over c.heads_of_batch.new.draft (look_up c.args.tree.now)) (laid_over c.stage.new.draft (look_up c.args.tree.now)) c.requires.table.0 c.args.changes.now c.args.old.now c.args.new.now steps sh)) in
    table_serves g.K.TableKind.kind (g.met.K.TableKind g.world.𝓛 g.world.𝓜 g.world.𝓡 ((λ s x. x), (λ x. x), (λ x. x), λ x. x)).laws c.law_of_cells.ensures.understood (g.K.TableKind.stands c.settle.new.self) (g.K.TableKind.low c.args.kind.now) (laid_over c.stage.new.draft (look_up c.args.tree.now)) (held_after c.requires.table.0 c.args.changes.now) c.args.new.now
    ((g.met.K.TableKind g.world.𝓛 g.world.𝓜 g.world.𝓡 ((λ s x. x), (λ x. x), (λ x. x), λ x. x)).standing.least c.args.kind.now (look_up c.args.tree.now) c.requires.table.0 c.requires.table.1.table.standing) c.law.ensures.lawful
    ((g.met.K.TableKind g.world.𝓛 g.world.𝓜 g.world.𝓡 ((λ s x. x), (λ x. x), (λ x. x), λ x. x)).standing.shows c.settle.new.self (laid_over c.stage.new.draft (look_up c.args.tree.now)) (held_after c.requires.table.0 c.args.changes.now) table.standing) table)

pub returns-clause-words : goal.returns-clause-words
returns-clause-words g c = λ held can.
    subst (λ (y : Reading). IsImageAfter g.K.TableKind.kind (look_up c.args.tree.now) held c.args.changes.now c.args.old.now c.args.new.now y) (sym c.in_ok-overlay.ensures.ok)
    (let headed = headed_words c.new-draft.result c.heads_of_batch.new.draft (look_up c.args.tree.now) c.args.old.now c.args.new.now c.new-draft.ensures c.in_ok-heads_of_batch.ensures.words in
    let placed = c.in_ok-staged.ensures.placed held (can_stage g.K.TableKind.kind (g.met.K.TableKind g.world.𝓛 g.world.𝓜 g.world.𝓡 ((λ s x. x), (λ x. x), (λ x. x), λ x. x)).laws (g.K.TableKind.stands c.args.kind.now) (g.K.TableKind.low c.args.kind.now)
    (look_up c.args.tree.now) (laid_over c.heads_of_batch.new.draft (look_up c.args.tree.now)) held c.args.changes.now c.args.old.now c.args.new.now headed can) in
    words_made g.K.TableKind.kind (look_up c.args.tree.now) (laid_over c.heads_of_batch.new.draft (look_up c.args.tree.now)) (laid_over c.stage.new.draft (look_up c.args.tree.now)) held c.args.changes.now c.args.old.now c.args.new.now
    headed c.in_ok-staged.ensures.rest placed.0)
