use Rattle.std.proofs.Common.{ℕ, ◌+◌, take, sym, ap, ◌∙◌, arith}
use Rattle.std.specs.List.{sum_by}
use Rattle.std.proofs.lemmas.List.Sums.{sum_by_more}
use Rattle.dt_definitions.specs.declared.definition_key.DefinitionKey.{DefinitionKey}
use Rattle.dt_propagate.specs.Bounds.{made_cells, made_rows}
use Rattle.dt_propagate.proofs.bound.with_keys.Goals as goal

pub loop-key-preserved : goal.loop-key-preserved
loop-key-preserved c =
    let keys = c.args.keys.now in
    let i = c.loop-key.key-index in
    let cells : DefinitionKey → ℕ = made_cells c.args.old.now c.args.new.now in
    let rows : DefinitionKey → ℕ = made_rows c.args.old.now c.args.new.now in
    let more_cells = sum_by_more cells keys i c.key-item.result c.loop-key-test.true
    ∙ ap (λ n. sum_by cells (take i keys) + n) (sym (ap cells c.key-item.is)) in
    let more_rows = sum_by_more rows keys i c.key-item.result c.loop-key-test.true
    ∙ ap (λ n. sum_by rows (take i keys) + n) (sym (ap rows c.key-item.is)) in
    record {
      cells = omega (arith, c.with_key-total.ensures.cells, more_cells, c.loop-key.invariant.cells);
      rows = omega (arith, c.with_key-total.ensures.rows, more_rows, c.loop-key.invariant.rows);
    }
