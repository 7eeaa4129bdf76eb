use Rattle.std.proofs.Common.{◌≡◌, ◌+◌, ◌-◌, ◌/◌, get_or, true, false, arith, sym, ap, ◌∙◌}
use Rattle.dt_definitions.specs.Program.{are_classes_before}
use Rattle.dt_definitions.specs.SelectorLists.{classes_at, are_same}
use Rattle.dt_definitions.proofs.ListOrder.{class_order}
use Rattle.dt_definitions.proofs.Searching.{first_place-within, first_place-above, first_place-at_most}
use Rattle.dt_definitions.proofs.selector_definitions.place_in.Goals as goal

pub loop-low-init : goal.loop-low-init
loop-low-init c = record {
  from_low = omega arith;
  to_high = omega (arith, first_place-within classes_at are_classes_before are_same class_order c.args.classes.now c.args.row.now);
  within = omega arith;
}

pub loop-low-preserved-then-is_before : goal.loop-low-preserved-then-is_before
loop-low-preserved-then-is_before c =
    let middle = c.loop-low.low + (c.loop-low.high - c.loop-low.low) / 2 in
    let read = c.classes.ensures.value in
    let before : are_classes_before (get_or c.args.row.now middle c.index-row-middle.result).classes c.args.classes.now ≡ true =
    ap (λ classes. are_classes_before classes c.args.classes.now) (sym read) ∙ sym c.if-is_before.ensures in
    let above = first_place-above classes_at are_classes_before are_same class_order c.args.classes.now c.args.row.now middle c.index-row-middle.result c.requires (omega arith) before in
    record {
      from_low = omega arith;
      to_high = c.loop-low.invariant.to_high;
      within = c.loop-low.invariant.within;
    }

pub loop-low-preserved : goal.loop-low-preserved
loop-low-preserved c =
    let middle = c.loop-low.low + (c.loop-low.high - c.loop-low.low) / 2 in
    let read = c.classes.ensures.value in
    let before : are_classes_before (get_or c.args.row.now middle c.index-row-middle.result).classes c.args.classes.now ≡ false =
    ap (λ classes. are_classes_before classes c.args.classes.now) (sym read) ∙ sym c.if-is_before.ensures in
    let above = first_place-at_most classes_at are_classes_before are_same class_order c.args.classes.now c.args.row.now middle c.index-row-middle.result (omega arith) before in
    record {
      from_low = c.loop-low.invariant.from_low;
      to_high = above;
      within = omega arith;
    }
