use Rattle.std.proofs.Common.{◌≡◌, ◌-◌, ◌∷◌, ◌++◌, option_to_list, reverse, take, ap, ◌∙◌, arith}
use Rattle.dt_definitions.specs.Parts.{program_of}
use Rattle.dt_definitions.specs.Undo.{undoing}
use Rattle.dt_definitions.proofs.Undoing.{done_more, one_back, rooms_back}
use Rattle.dt_definitions.proofs.parts.Parts.undo.Goals as goal

pub loop-left-preserved-in-Continue-1 : goal.loop-left-preserved-in-Continue-1
loop-left-preserved-in-Continue-1 c =
    let edits = c.args.edits.now in
    let left = c.loop-left.left in
    let earlier = reverse (take (left - 1) edits) in
    let rest = undoing earlier (reverse c.take_inverse.new.kept.items) in
    let done : reverse (take left edits) ≡ c.index-edits-left.result ∷ earlier =
    ap (λ n. reverse (take n edits)) (omega arith) ∙ done_more edits (left - 1) c.index-edits-left.result (omega arith) c.index-edits-left.is in
    let log = ap (λ done. undoing done (reverse c.loop-left.kept.items)) done
    ∙ c.take_inverse.ensures earlier ∙ ap (λ o. option_to_list o ++ rest) c.in-Some.is in
    let p = program_of c.loop-left.self in
    let q = program_of c.make.new.self in
    let made = c.in_ok-make.ensures in
    record {
      lawful = made.lawful;
      within = omega (arith, c.loop-left.invariant.within);
      back = λ old leads. one_back p q old c.in-Some.inverse _ rest log made.ok (c.loop-left.invariant.back old leads);
      rooms = λ old leads room. rooms_back p q c.in-Some.inverse _ rest c.loop-left.self.definitions.rooms c.make.new.self.definitions.rooms log made.ok made.room_stays (c.loop-left.invariant.rooms old leads room);
    }
