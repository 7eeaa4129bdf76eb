use Rattle.std.proofs.Common.{◌≡◌, ◌+◌, ◌-◌, ◌/◌, true, false, arith, sym, subst}
use Rattle.dt_definitions.specs.Program.{is_key_before, is_same_key}
use Rattle.dt_definitions.specs.Naming.{itself}
use Rattle.dt_definitions.specs.declared.definition_key.DefinitionKey.{DefinitionKey}
use Rattle.dt_definitions.proofs.DefinitionOrder.{key_order}
use Rattle.dt_definitions.proofs.Searching.{first_place-within, first_place-above, first_place-at_most}
use Rattle.dt_definitions.proofs.naming.key_place.Goals as goal

pub loop-low-init : goal.loop-low-init
loop-low-init c =
    let k : DefinitionKey = record { selector = c.args.selector; classes = c.args.classes.now } in
    record {
      from_low = omega arith;
      to_high = omega (arith, first_place-within itself is_key_before is_same_key key_order k c.args.keys.now);
      within = omega arith;
    }

pub loop-low-preserved-then-is_key_before : goal.loop-low-preserved-then-is_key_before
loop-low-preserved-then-is_key_before c =
    let k : DefinitionKey = record { selector = c.args.selector; classes = c.args.classes.now } in
    let middle = c.loop-low.low + (c.loop-low.high - c.loop-low.low) / 2 in
    let above = first_place-above itself is_key_before is_same_key key_order k c.args.keys.now middle c.index-keys-middle.result
    c.requires (omega arith) (subst (λ key. is_key_before key k ≡ true) c.index-keys-middle.is (sym c.if-is_key_before.ensures)) in
    record {
      from_low = omega arith;
      to_high = c.loop-low.invariant.to_high;
      within = c.loop-low.invariant.within;
    }

pub loop-low-preserved : goal.loop-low-preserved
loop-low-preserved c =
    let k : DefinitionKey = record { selector = c.args.selector; classes = c.args.classes.now } in
    let middle = c.loop-low.low + (c.loop-low.high - c.loop-low.low) / 2 in
    let above = first_place-at_most itself is_key_before is_same_key key_order k c.args.keys.now middle c.index-keys-middle.result
    (omega arith) (subst (λ key. is_key_before key k ≡ false) c.index-keys-middle.is (sym c.if-is_key_before.ensures)) in
    record {
      from_low = c.loop-low.invariant.from_low;
      to_high = above;
      within = omega arith;
    }
