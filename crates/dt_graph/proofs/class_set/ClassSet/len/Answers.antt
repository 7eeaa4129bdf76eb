use Rattle.std.proofs.Common.{ℕ, ◌*◌, ◌+◌, ◌^◌, ◌<◌, ◌∙◌, refl, ap, sym, length, get_or, arith, rules}
use Rattle.std.proofs.lemmas.Nat.{ones-le}
use Rattle.std.specs.Int.RustNames.{count_ones}
use Rattle.dt_graph.specs.ClassSet.{numbers_below}
use Rattle.dt_graph.proofs.ClassBits.{counted, none_counted}
use Rattle.dt_graph.proofs.class_set.ClassSet.len.Goals as goal

pub loop-word-init : goal.loop-word-init
loop-word-init c = (c.self.told, omega arith, sym (none_counted c.self.inside.words))

pub overflow_add-count : goal.overflow_add-count
overflow_add-count c =
    let fits : get_or c.self.inside.words c.loop-word.word-index 0 < 2 ^ 64 = search rules in
    let few = ones-le 64 (get_or c.self.inside.words c.loop-word.word-index 0) fits in
    let so_far = c.loop-word.invariant.1 in omega arith

pub loop-word-preserved : goal.loop-word-preserved
loop-word-preserved c =
    let i : ℕ = c.loop-word.word-index in
    let fits : get_or c.self.inside.words i 0 < 2 ^ 64 = search rules in
    let few = ones-le 64 (get_or c.self.inside.words i 0) fits in
    let so_far = c.loop-word.invariant.1 in (
      c.self.told,
      omega arith,
      ap (λ n. n + count_ones (get_or c.self.inside.words i 0)) c.loop-word.invariant.2
          ∙ sym (counted 64 (64 * i) (64 * (i + 1)) i c.self.inside.words refl refl (omega arith) fits),
    )

pub returns : goal.returns
returns c =
    let so_far = c.loop-word.invariant.1 in
    let at_end = c.loop-word.auto.word-index-end in record {
      value = c.loop-word.invariant.2
          ∙ ap (λ n. length (numbers_below n c.self.inside.words)) (omega (arith, c.loop-word-test.false))
          ∙ ap length c.self.view_is;
      in_range = omega arith;
    }
