use Rattle.std.proofs.Common.{◌≡◌, ◌++◌, [], ◌∷◌, filter, length, cond, sym, ap, ◌∙◌, arith, length-append, append-nil}
use Rattle.std.specs.List.{range_with_len}
use Rattle.dt_graph.specs.Graph.{is_live}
use Rattle.dt_graph.specs.declared.limits.TheConstants.{CLASSES}
use Rattle.dt_graph.proofs.LiveLists.{passing_more, all_live}
use Rattle.dt_graph.proofs.class_graph.ClassGraph.classes.Goals.{then-is_live, else-is_live}
use Rattle.dt_graph.proofs.class_graph.ClassGraph.classes.Goals as goal

pub loop-number-preserved : goal.loop-number-preserved
loop-number-preserved c =
    let so_far = c.loop-number.classes.items in
    let n = c.loop-number.number in
    let few = c.loop-number.invariant.0 in
    let answer : c.is_live.result ≡ is_live c.args.self.now n = c.is_live.ensures ∙ ap (is_live c.args.self.now) c.from_index-class.ensures in
    elim c.if-is_live.branch [
      | then-is_live w ↦
          let items = ap (λ ns. ns.items) w.classes-is ∙ w.push.ensures.items in (
            omega (arith, ap length items, length-append so_far (c.from_index-class.result ∷ [])),
            passing_more (is_live c.args.self.now) so_far c.if-is_live.classes.items n c.loop-number.invariant.1
                (items ∙ ap (λ m. so_far ++ m ∷ []) c.from_index-class.ensures ∙ ap (λ b. so_far ++ cond b (n ∷ []) []) (sym w.if-is_live.true ∙ answer)),
          )
      | else-is_live w ↦
          let items = ap (λ ns. ns.items) w.classes-is in (
            omega (arith, ap length items),
            passing_more (is_live c.args.self.now) so_far c.if-is_live.classes.items n c.loop-number.invariant.1
                (items ∙ sym (append-nil so_far) ∙ ap (λ b. so_far ++ cond b (n ∷ []) []) (sym w.if-is_live.false ∙ answer)),
          )
    ]

pub returns : goal.returns
returns c =
    let at_end = c.loop-number.auto.number-end in
    let all : c.loop-number.number ≡ CLASSES = omega (arith, c.loop-number-test.false, at_end) in
    c.loop-number.invariant.1 ∙ ap (λ n. filter (is_live c.args.self.now) (range_with_len 0 n)) all ∙ all_live c.args.self.now c.law.ensures.lawful
