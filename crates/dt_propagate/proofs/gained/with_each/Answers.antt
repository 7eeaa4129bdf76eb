use Rattle.std.proofs.Common.{ℕ, ◌+◌, take, sym, ap, ◌∙◌, arith}
use Rattle.std.specs.List.{sum_by}
use Rattle.std.proofs.lemmas.List.Sums.{sum_by_more}
use Rattle.dt_definitions.specs.declared.definition_key.DefinitionKey.{DefinitionKey}
use Rattle.dt_propagate.specs.Bounds.{size_gained, firsts_gained}
use Rattle.dt_propagate.proofs.gained.with_each.Goals as goal

pub loop-key-preserved : goal.loop-key-preserved
loop-key-preserved c =
    let keys = c.args.keys.now in
    let i = c.loop-key.key-index in
    let cells : DefinitionKey → ℕ = λ key. size_gained c.args.old.now c.args.new.now key.classes in
    let rows : DefinitionKey → ℕ = λ key. firsts_gained c.args.old.now c.args.new.now key.classes in
    let more_cells = sum_by_more cells keys i c.key-item.result c.loop-key-test.true
    ∙ ap (λ n. sum_by cells (take i keys) + n) (sym (ap cells c.key-item.is)) in
    let more_rows = sum_by_more rows keys i c.key-item.result c.loop-key-test.true
    ∙ ap (λ n. sum_by rows (take i keys) + n) (sym (ap rows c.key-item.is)) in
    let h = c.with_one-total.ensures.cells in
    let k = c.with_one-total.ensures.rows in
    let one_cells = rw c.classes.ensures.value at h in
    let one_rows = rw c.classes.ensures.value at k in
    record {
      cells = omega (arith, one_cells, more_cells, c.loop-key.invariant.cells);
      rows = omega (arith, one_rows, more_rows, c.loop-key.invariant.rows);
    }
