use Rattle.std.proofs.Common.{◌+◌, take, get_or, option_copied, false, arith}
use Rattle.dt_fit.specs.Cells.{is_tried}
use Rattle.dt_mrd.specs.Laying.{is_among, is_met, number_at}
use Rattle.dt_mrd.proofs.Loops.{among_step, class_of_index, cells_step, laid_all}
use Rattle.dt_mrd.proofs.laying.free_cells.Goals as goal

pub loop-class-preserved : goal.loop-class-preserved
loop-class-preserved c =
    let i = c.loop-class.class-index in
    let indexes = c.args.indexes.now in
    cells_step c.args.cells.now c.loop-class.cells c.free_cell.new.cells (number_at c.args.tag) (is_met c.args.stays (option_copied c.args.other))
    (is_among (take i indexes)) (is_among (take (i + 1) indexes)) false (get_or indexes i 0)
    (class_of_index indexes i c.requires.classes c.loop-class-test.true) (λ class. among_step indexes i class c.loop-class-test.true)
    c.free_cell.ensures.geometry c.free_cell.ensures.kept c.in_ok-free_cell.ensures.tried c.loop-class.invariant

pub returns-clause-tried : goal.returns-clause-tried
returns-clause-tried c =
    laid_all (number_at c.args.tag) (is_met c.args.stays (option_copied c.args.other)) c.args.indexes.now c.loop-class.class-index (λ class. false)
    (is_tried c.args.cells.now) (is_tried c.loop-class.cells) (omega (arith, c.loop-class-test.false)) c.loop-class.invariant.tried
