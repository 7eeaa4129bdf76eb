use Rattle.std.proofs.Common.{◌/◌, ◌+◌}
use Rattle.std.proofs.lemmas.Result.{on_ok_weaker}
use Rattle.dt_fit.specs.Undoing.{undone}
use Rattle.dt_fit.proofs.Shown.{kept_grown, tried_taken}
use Rattle.dt_fit.proofs.used_cells.UsedCells.take.Goals as goal

pub returns-else-is_err-clause-kept : goal.returns-else-is_err-clause-kept
returns-else-is_err-clause-kept c =
    let inside = c.self.inside in
    kept_grown inside.geometry inside.journal.items inside.words.items (undone c.change-changed.new.journal.items c.change-changed.new.words.items) c.grow.new.words.items (c.bit_of-bit.result / 64 + 1) c.args.self.now
    c.self.view_is c.self.invariant.0 c.in_ok-grow.ensures.ok c.change-changed.ensures.before

pub returns-else-is_err-clause-tried : goal.returns-else-is_err-clause-tried
returns-else-is_err-clause-tried c =
    let inside = c.self.inside in
    on_ok_weaker c.change-changed.result
    (λ changed.
    tried_taken inside.geometry (undone inside.journal.items inside.words.items) inside.words.items c.grow.new.words.items c.change-changed.new.words.items c.bit_of-bit.result c.index.result.now c.args.cell c.args.self.now
    c.self.view_is c.requires c.bit_of-bit.ensures.value c.in_ok-grow.ensures.ok c.index.ensures changed)
    c.change-changed.ensures.words
