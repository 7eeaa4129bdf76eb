use Rattle.std.proofs.Common.{ℕ, ◌*◌, ◌+◌, ◌^◌, ◌<◌, refl, sym, length, get_or, arith, rules}
use Rattle.std.proofs.lemmas.Nat.{ones-le, or_lt}
use Rattle.std.specs.Prelude.{bit_or}
use Rattle.dt_graph.specs.declared.limits.TheConstants.{CLASSES}
use Rattle.dt_graph.proofs.ClassBits.{joined, counted_changed, none_counted}
use Rattle.dt_graph.proofs.class_set.ClassSet.insert_all_counting.Goals as goal

pub loop-i-init : goal.loop-i-init
loop-i-init c = record {
  all = omega (arith, c.self.told);
  done = λ j before. absurd (omega arith);
  left = λ j after. refl;
  few = omega arith;
  counted = sym (none_counted c.self.inside.words);
}

pub overflow_cast-count : goal.overflow_cast-count
overflow_cast-count c =
    let word : ℕ = bit_or (get_or c.loop-i.self-inside.words c.loop-i.i 0) (get_or c.other.inside.words c.loop-i.i 0) in
    let fits : word < 2 ^ 64 = or_lt 64 (get_or c.loop-i.self-inside.words c.loop-i.i 0) (get_or c.other.inside.words c.loop-i.i 0) (search rules) (search rules) in
    let few = ones-le 64 word fits in omega (arith, few)

pub overflow_add-count : goal.overflow_add-count
overflow_add-count c =
    let word : ℕ = bit_or (get_or c.loop-i.self-inside.words c.loop-i.i 0) (get_or c.other.inside.words c.loop-i.i 0) in
    let fits : word < 2 ^ 64 = or_lt 64 (get_or c.loop-i.self-inside.words c.loop-i.i 0) (get_or c.other.inside.words c.loop-i.i 0) (search rules) (search rules) in
    let few = ones-le 64 word fits in omega (arith, few, c.loop-i.invariant.few, c.loop-i-test.true)

pub loop-i-preserved : goal.loop-i-preserved
loop-i-preserved c =
    let i : ℕ = c.loop-i.i in
    let word : ℕ = bit_or (get_or c.loop-i.self-inside.words i 0) (get_or c.other.inside.words i 0) in
    let fits : word < 2 ^ 64 = or_lt 64 (get_or c.loop-i.self-inside.words c.loop-i.i 0) (get_or c.other.inside.words c.loop-i.i 0) (search rules) (search rules) in
    let few = ones-le 64 word fits in
    let inside : i < length c.loop-i.self-inside.words = omega (arith, c.loop-i.invariant.all, c.loop-i-test.true) in record {
      all = search rules;
      done = search rules;
      left = search rules;
      few = omega (arith, few, c.loop-i.invariant.few);
      counted = counted_changed 64 (64 * i) (64 * (i + 1)) i word c.loop-i.count c.loop-i.self-inside.words refl refl (omega arith) inside fits c.loop-i.invariant.counted;
    }

pub returns-clause-members : goal.returns-clause-members
returns-clause-members c =
    joined CLASSES c.loop-i.self-inside.words c.self.inside.words c.other.inside.words c.args.self.now c.args.other.now (record {
      first_shown = c.self.view_is;
      second_shown = c.other.view_is;
      made_all = omega (arith, c.loop-i.invariant.all);
      first_all = omega (arith, c.self.told);
      second_all = omega (arith, c.other.told);
    })
    (λ j inside. c.loop-i.invariant.done j (omega (arith, c.loop-i.invariant.all)))
