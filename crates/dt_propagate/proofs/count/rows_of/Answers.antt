use Rattle.std.proofs.Common.{rules, ◌≡◌, ℕ, ◌+◌, ◌<◌, List, [], None, length, sym, ap, ◌∙◌, arith}
use Rattle.dt_scratch.specs.Query.{Query}
use Rattle.dt_propagate.specs.Begun.{row_lengths, told_begun, told_row, up_to}
use Rattle.dt_propagate.specs.GoneThrough.{told_after, told_of}
use Rattle.dt_propagate.proofs.Begun.{up_to_few, up_to_many}
use Rattle.dt_propagate.proofs.Totals.{one_more, one_too_many, rows_are}
use Rattle.dt_propagate.proofs.count.rows_of.Goals as goal

pub returns-in_err-rows : goal.returns-in_err-rows
returns-in_err-rows c =
    let program = c.args.program.now in
    let f : ℕ → List Query = λ k. told_after (told_begun program) c.args.selector k [] in
    let count = c.loop-count.count in
    let arity = c.arity_or_none-count-end.result in
    let low = c.loop-count-test.true in
    let up = sym c.count_begun.ensures ∙ c.in_err-rows.was in
    let over = one_too_many f 0 count arity count c.args.most c.loop-count.rows (omega (arith, low)) (let s : count ≡ 0 + count = omega arith in s)
    c.loop-count.invariant.few c.loop-count.invariant.so_far up in
    let all = ap length (rows_are program c.args.selector arity c.arity_or_none-count-end.ensures.value c.arity_or_none-count-end.ensures.few) in
    let over_all : c.args.most < length (told_of (told_row program) row_lengths c.args.selector) = omega (arith, over, all) in
    let none : c.from_residual.result ≡ None = search rules in
    none ∙ sym (up_to_many c.args.most (length (told_of (told_row program) row_lengths c.args.selector)) over_all)

pub loop-count-preserved : goal.loop-count-preserved
loop-count-preserved c =
    let f : ℕ → List Query = λ k. told_after (told_begun c.args.program.now) c.args.selector k [] in
    let count = c.loop-count.count in
    let up = sym c.count_begun.ensures ∙ c.in_ok-rows.was in
    let more = one_more f 0 count (count + 1) count c.args.most c.loop-count.rows c.in_ok-rows.field-0 (omega arith)
    (let s : count ≡ 0 + count = omega arith in s) c.loop-count.invariant.few c.loop-count.invariant.so_far up in
    record { few = more.0; so_far = more.1 }

pub returns : goal.returns
returns c =
    let program = c.args.program.now in
    let f : ℕ → List Query = λ k. told_after (told_begun program) c.args.selector k [] in
    let count = c.loop-count.count in
    let all : count ≡ c.arity_or_none-count-end.result = omega (arith, c.loop-count-test.false, c.loop-count.auto.count-end) in
    let rows = rows_are program c.args.selector count (all ∙ c.arity_or_none-count-end.ensures.value) (omega (arith, all, c.arity_or_none-count-end.ensures.few)) in
    let total = c.loop-count.invariant.so_far ∙ sym (ap length rows) in
    sym (ap (up_to c.args.most) (sym total) ∙ up_to_few c.args.most c.loop-count.rows c.loop-count.invariant.few)
