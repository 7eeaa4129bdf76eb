use Rattle.std.proofs.Common.{◌≡◌, ◌++◌, [], ◌∷◌, filter, length, cond, sym, ap, ◌∙◌, arith, length-append, append-nil}
use Rattle.std.specs.List.{range_with_len}
use Rattle.dt_selectors.specs.Selectors.{has_selector}
use Rattle.dt_selectors.specs.declared.limits.TheConstants.{SELECTORS}
use Rattle.dt_graph.proofs.LiveLists.{passing_more}
use Rattle.dt_selectors.proofs.LiveLists.{all_live}
use Rattle.dt_selectors.proofs.selectors.Selectors.numbers.Goals.{then-is_live, else-is_live}
use Rattle.dt_selectors.proofs.selectors.Selectors.numbers.Goals as goal

pub loop-number-preserved : goal.loop-number-preserved
loop-number-preserved c =
    let so_far = c.loop-number.numbers.items in
    let n = c.loop-number.number in
    let few = c.loop-number.invariant.0 in
    let answer : c.is_live.result ≡ has_selector c.args.self.now n = c.is_live.ensures ∙ ap (has_selector c.args.self.now) c.from_index-selector.ensures in
    elim c.if-is_live.branch [
      | then-is_live w ↦
          let items = ap (λ ns. ns.items) w.numbers-is ∙ w.push.ensures.items in (
            omega (arith, ap length items, length-append so_far (c.from_index-selector.result ∷ [])),
            passing_more (has_selector c.args.self.now) so_far c.if-is_live.numbers.items n c.loop-number.invariant.1
                (items ∙ ap (λ m. so_far ++ m ∷ []) c.from_index-selector.ensures ∙ ap (λ b. so_far ++ cond b (n ∷ []) []) (sym w.if-is_live.true ∙ answer)),
          )
      | else-is_live w ↦
          let items = ap (λ ns. ns.items) w.numbers-is in (
            omega (arith, ap length items),
            passing_more (has_selector c.args.self.now) so_far c.if-is_live.numbers.items n c.loop-number.invariant.1
                (items ∙ sym (append-nil so_far) ∙ ap (λ b. so_far ++ cond b (n ∷ []) []) (sym w.if-is_live.false ∙ answer)),
          )
    ]

pub returns : goal.returns
returns c =
    let at_end = c.loop-number.auto.number-end in
    let all : c.loop-number.number ≡ SELECTORS = omega (arith, c.loop-number-test.false, at_end) in
    c.loop-number.invariant.1 ∙ ap (λ n. filter (has_selector c.args.self.now) (range_with_len 0 n)) all ∙ all_live c.args.self.now c.law.ensures.lawful
