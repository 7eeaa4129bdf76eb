use Rattle.std.proofs.Common.{◌+◌, take, get_or, option_copied, arith}
use Rattle.dt_pages.specs.Image.{look_up}
use Rattle.dt_pages.specs.Draft.{laid_over}
use Rattle.dt_mrd.specs.Reading.{cell_at}
use Rattle.dt_mrd.specs.Laying.{is_among, is_met}
use Rattle.dt_mrd.proofs.Loops.{among_step, class_of_index, laid_all, laid_step}
use Rattle.dt_mrd.proofs.laying.clear_cells.Goals as goal

pub loop-class-preserved : goal.loop-class-preserved
loop-class-preserved c =
    let x = look_up c.args.tree.now in
    let i = c.loop-class.class-index in
    let indexes = c.args.indexes.now in
    laid_step (cell_at c.args.tag) (is_met c.args.stays (option_copied c.args.other)) (is_among (take i indexes)) (is_among (take (i + 1) indexes)) (λ class. 0)
    (get_or indexes i 0) (laid_over c.args.draft.now x) (laid_over c.loop-class.draft x) (laid_over c.clear_cell.new.draft x)
    (class_of_index indexes i c.requires.classes c.loop-class-test.true) (λ class. among_step indexes i class c.loop-class-test.true)
    c.in_ok-clear_cell.ensures c.loop-class.invariant

pub returns : goal.returns
returns c =
    let x = look_up c.args.tree.now in
    laid_all (cell_at c.args.tag) (is_met c.args.stays (option_copied c.args.other)) c.args.indexes.now c.loop-class.class-index (λ class. 0)
    (laid_over c.args.draft.now x) (laid_over c.loop-class.draft x) (omega (arith, c.loop-class-test.false)) c.loop-class.invariant
