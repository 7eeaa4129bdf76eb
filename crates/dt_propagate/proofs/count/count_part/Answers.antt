use Rattle.std.proofs.Common.{rules, ◌≡◌, ℕ, ◌+◌, ◌<◌, List, None, length, refl, sym, ap, ◌∙◌, arith}
use Rattle.dt_selectors.specs.declared.limits.TheConstants.{SELECTORS}
use Rattle.dt_scratch.specs.Query.{Query}
use Rattle.dt_propagate.specs.Boxes.{in_turn}
use Rattle.dt_propagate.specs.Begun.{told_part, up_to}
use Rattle.dt_propagate.specs.GoneThrough.{all_selectors}
use Rattle.dt_propagate.proofs.Begun.{up_to_few, up_to_many}
use Rattle.dt_propagate.proofs.Totals.{one_more, one_too_many}
use Rattle.dt_propagate.proofs.Touching.{selectors_are}
use Rattle.dt_propagate.proofs.count.count_part.Goals as goal

pub returns-in_err-count : goal.returns-in_err-count
returns-in_err-count c =
    let f : ℕ → List Query = told_part c.args.program.now c.args.part in
    let number = c.loop-number.number in
    let low = c.loop-number-test.true in
    let up = sym c.part_of.ensures ∙ c.in_err-count.was in
    let over = one_too_many f 0 number SELECTORS c.in-Some.selector c.args.most c.loop-number.count (omega (arith, low)) (let s : c.in-Some.selector ≡ 0 + number = omega (arith, c.in-Some.ensures.1) in s)
    c.loop-number.invariant.few c.loop-number.invariant.so_far up in
    let all = ap (λ numbers. length (in_turn f numbers)) (selectors_are SELECTORS refl) in
    let over_all : c.args.most < length (in_turn (told_part c.args.program.now c.args.part) all_selectors) = omega (arith, over, all) in
    let none : c.from_residual.result ≡ None = search rules in
    none ∙ sym (up_to_many c.args.most (length (in_turn (told_part c.args.program.now c.args.part) all_selectors)) over_all)

pub loop-number-preserved : goal.loop-number-preserved
loop-number-preserved c =
    let f : ℕ → List Query = told_part c.args.program.now c.args.part in
    let number = c.loop-number.number in
    let up = sym c.part_of.ensures ∙ c.in_ok-count.was in
    let more = one_more f 0 number (number + 1) c.in-Some.selector c.args.most c.loop-number.count c.in_ok-count.field-0 (omega arith)
    (let s : c.in-Some.selector ≡ 0 + number = omega (arith, c.in-Some.ensures.1) in s) c.loop-number.invariant.few c.loop-number.invariant.so_far up in
    record { few = more.0; so_far = more.1 }

pub returns : goal.returns
returns c =
    let f : ℕ → List Query = told_part c.args.program.now c.args.part in
    let number = c.loop-number.number in
    let all : number ≡ SELECTORS = omega (arith, c.loop-number-test.false, c.loop-number.auto.number-end) in
    let total = c.loop-number.invariant.so_far ∙ ap (λ numbers. length (in_turn f numbers)) (selectors_are number all) in
    sym (ap (up_to c.args.most) (sym total) ∙ up_to_few c.args.most c.loop-number.count c.loop-number.invariant.few)
