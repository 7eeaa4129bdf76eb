use Rattle.std.proofs.Common.{◌≤◌, length}
use Rattle.dt_definitions.specs.Program.{is_key_before, is_same_key}
use Rattle.dt_definitions.specs.Naming.{itself}
use Rattle.dt_definitions.specs.Search.{first_place}
use Rattle.dt_definitions.specs.declared.definition_key.DefinitionKey.{DefinitionKey}
use Rattle.dt_definitions.proofs.DefinitionOrder.{key_order}
use Rattle.dt_definitions.proofs.Searching.{found_read, absent_read, absent_end}
use Rattle.dt_definitions.proofs.naming.search_keys.Goals as goal

pub returns-in_default : goal.returns-in_default
returns-in_default c =
    let k : DefinitionKey = record { selector = c.args.selector; classes = c.args.classes.now } in
    let past = (rw c.in_default.is at c.get.ensures.lookup).3 in
    let end : length c.args.keys.now ≤ first_place itself is_key_before k c.args.keys.now = rw c.key_place-place.ensures at past in
    (c.key_place-place.ensures, absent_end itself is_key_before is_same_key key_order k c.args.keys.now end)

pub returns-else-is_key_of : goal.returns-else-is_key_of
returns-else-is_key_of c =
    let k : DefinitionKey = record { selector = c.args.selector; classes = c.args.classes.now } in
    let read = c.in-Some.ensures.lookup in
    absent_read itself is_key_before is_same_key key_order k c.args.keys.now c.key_place-place.result c.in-Some.key.now
    c.requires c.key_place-place.ensures read.3.0 read.1 c.if-is_key_of.ensures

pub returns-then-is_key_of : goal.returns-then-is_key_of
returns-then-is_key_of c =
    let k : DefinitionKey = record { selector = c.args.selector; classes = c.args.classes.now } in
    let read = c.in-Some.ensures.lookup in
    found_read itself is_key_before is_same_key key_order k c.args.keys.now c.key_place-place.result c.in-Some.key.now
    c.requires c.key_place-place.ensures read.3.0 read.1 c.if-is_key_of.ensures
