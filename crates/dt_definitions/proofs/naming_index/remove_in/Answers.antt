use Rattle.std.proofs.Common.{◌≡◌, ◌<◌, ◌∙◌, false, eqb, get_or, length, take, length-set, sym, subst, arith}
use Rattle.std.specs.List.{list_any}
use Rattle.dt_definitions.specs.Naming.{without_key}
use Rattle.dt_definitions.specs.declared.definition_key.DefinitionKey.{DefinitionKey}
use Rattle.dt_definitions.proofs.NamingLists.{changed_then, changed_else, again_then, again_else, rooms_grow, read_keys, read_room}
use Rattle.dt_definitions.proofs.naming_index.remove_in.Goals as goal

pub loop-place-preserved-then-contains : goal.loop-place-preserved-then-contains
loop-place-preserved-then-contains c =
    let k : DefinitionKey = record { selector = c.args.selector; classes = c.args.classes.now } in
    let old = c.args.lists.now.items in
    let now = c.loop-place.lists.items in
    let classes = c.args.classes.now in
    let place = c.loop-place.place in
    let x = c.index-classes-place.result in
    record {
      all_classes = c.loop-place.invariant.all_classes;
      changed = changed_else (without_key k) old now classes place x (omega arith) c.index-classes-place.is c.loop-place.invariant.changed c.if-contains.ensures.value;
      grow = c.loop-place.invariant.grow;
      left = again_else k old now classes place x (omega arith) c.index-classes-place.is c.loop-place.invariant.left c.if-contains.ensures.value;
    }

pub loop-place-preserved : goal.loop-place-preserved
loop-place-preserved c =
    let k : DefinitionKey = record { selector = c.args.selector; classes = c.args.classes.now } in
    let old = c.args.lists.now.items in
    let now = c.loop-place.lists.items in
    let classes = c.args.classes.now in
    let place = c.loop-place.place in
    let n = c.number.result in
    let list = c.index_mut.result.now in
    let read = c.index_mut.ensures.value in
    let l : n < length now = omega (arith, c.loop-place.invariant.all_classes, c.number.ensures.in_range) in
    let e = sym c.number.ensures.value in
    let is : n ≡ get_or classes place n = subst (λ m. m ≡ get_or classes place m) e c.index-classes-place.is in
    let absent : false ≡ list_any (λ y. eqb y n) (take place classes) = subst (λ m. false ≡ list_any (λ y. eqb y m) (take place classes)) e c.if-contains.ensures.value in
    let room = read_room now n list l read in
    record {
      all_classes = length-set now n c.remove.new.self ∙ c.loop-place.invariant.all_classes;
      changed = changed_then (without_key k) old now classes place n (omega arith) is c.loop-place.invariant.changed c.remove.new.self l absent
          (subst (λ keys. c.remove.new.self.keys ≡ without_key k keys) (read_keys now n list l read) c.remove.ensures.keys);
      grow = rooms_grow old now n c.remove.new.self l c.loop-place.invariant.grow (omega (arith, room, c.remove.ensures.room_stays));
      left = again_then k old now classes place n (omega arith) is c.loop-place.invariant.left list c.remove.new.self l read absent c.loop-place.invariant.changed c.remove.ensures.room_left;
    }
