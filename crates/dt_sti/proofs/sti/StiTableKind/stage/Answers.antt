use Rattle.std.proofs.Common.{ap, ◌∙◌, arith, false}
use Rattle.std.proofs.lemmas.Bool.{or_parts}
use Rattle.dt_pages.specs.Draft.{laid_over}
use Rattle.dt_pages.specs.Image.{look_up}
use Rattle.dt_scratch.specs.declared.reply.Change.{Change}
use Rattle.dt_sti.specs.Sti.{owns, cell_of, word_of}
use Rattle.dt_sti.proofs.Cells.{put, laid_step, laid_cells, laid_rest, laid_all}
use Rattle.dt_sti.proofs.sti.StiTableKind.stage.Goals as goal

pub loop-change-preserved : goal.loop-change-preserved
loop-change-preserved c = λ base.
    laid_step c.args.changes.now c.loop-change.change-index c.change-item.result (laid_over c.loop-change.draft base) (laid_over c.set_cell.new.draft base)
    c.loop-change-test.true (λ address. c.in_ok-set_cell.ensures base address
    ∙ ap (λ (change : Change). put (cell_of change) (word_of change) (laid_over c.loop-change.draft base) address) c.change-item.is)
    ∙ c.loop-change.invariant base

pub returns-clause-placed : goal.returns-clause-placed
returns-clause-placed c = λ held can. (
  (λ address own. laid_all c.args.changes.now c.loop-change.change-index (laid_over c.loop-change.draft (look_up c.args._tree.now)) (laid_over c.args.draft.now (look_up c.args._tree.now))
      (omega arith) (c.loop-change.invariant (look_up c.args._tree.now)) address
      ∙ laid_cells held c.args.changes.now (laid_over c.args.draft.now (look_up c.args._tree.now)) can.stageable.ascending can.stageable.each
      (λ q its. can.untouched q its ∙ can.standing.cells q its) address own),
  can.stageable,
)

pub returns-clause-rest : goal.returns-clause-rest
returns-clause-rest c = λ address other.
    laid_all c.args.changes.now c.loop-change.change-index (laid_over c.loop-change.draft (look_up c.args._tree.now)) (laid_over c.args.draft.now (look_up c.args._tree.now))
    (omega arith) (c.loop-change.invariant (look_up c.args._tree.now)) address
    ∙ laid_rest c.args.changes.now (laid_over c.args.draft.now (look_up c.args._tree.now)) address c.requires.1.stageable.each (or_parts (owns address) false other).0
