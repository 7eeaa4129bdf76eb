use Rattle.std.proofs.Common.{rules, ◌≡◌, ℕ, ◌+◌, ◌<◌, length, ◌-◌, [], ◌∷◌, ◌++◌, get_or, None, sym, ap, ◌∙◌, arith}
use Rattle.std.specs.List.{sum_by}
use Rattle.std.proofs.lemmas.List.{take_all}
use Rattle.std.proofs.lemmas.List.Sums.{sum_by_more, sum_by-take-le}
use Rattle.dt_propagate.specs.Begun.{told_begun, up_to}
use Rattle.dt_propagate.specs.GoneThrough.{told_after}
use Rattle.dt_propagate.proofs.Begun.{begun_is, whole, last, up_to_none, up_to_few, up_to_many}
use Rattle.dt_propagate.proofs.count.+count_after.Goals as goal

pub returns-then-more-eq1-clause-count : goal.returns-then-more-eq1-clause-count
returns-then-more-eq1-clause-count t c =
    let program = c.args.program.now in
    let selector = c.args.selector in
    let prefix = c.args.prefix.now.items in
    let h = c.begun_classes-next.ensures in
    let has = rw (c.graph.ensures, c.deref.ensures.0) at h in
    let is = λ (n : ℕ). has n ∙ begun_is program selector c.definitions_of.result.now prefix n c.definitions_of.ensures in
    let e = last program selector prefix c.begun_classes-next.result c.law.ensures.ascend c.law.ensures.below_limit is c.args.more c.if-more-eq1.true in
    c.up_to.ensures ∙ ap (up_to c.args.most) (c.len.ensures.value ∙ sym e)

pub returns-in_err-count-clause-count : goal.returns-in_err-count-clause-count
returns-in_err-count-clause-count t c =
    let program = c.args.program.now in
    let selector = c.args.selector in
    let prefix = c.args.prefix.now.items in
    let all = c.as_slice-class-items.result.now in
    let h = c.begun_classes-next.ensures in
    let has = rw (c.graph.ensures, c.deref.ensures.0) at h in
    let is = λ (n : ℕ). has n ∙ begun_is program selector c.definitions_of.result.now prefix n c.definitions_of.ensures in
    let f : ℕ → ℕ = λ d. length (told_after (told_begun program) selector (c.args.more - 1) (prefix ++ d ∷ [])) in
    let whole = whole program selector prefix c.begun_classes-next.result c.law.ensures.ascend c.law.ensures.below_limit is c.args.more
    (λ none. absurd (omega (arith, none, c.requires.some))) ∙ ap (sum_by f) (sym (c.as_slice-class-items.ensures.value ∙ c.classes-classes.ensures)) in
    let d = c.class-item.result in
    let pushed : c.push.new.self.items ≡ prefix ++ d ∷ [] = c.push.ensures.items ∙ ap (λ p. p ++ d ∷ []) c.loop-class.invariant.prefix in
    let this : up_to (c.args.most - c.loop-class.count) (f d) ≡ None =
    ap (λ p. up_to (c.args.most - c.loop-class.count) (length (told_after (told_begun program) selector (c.args.more - 1) p))) (sym pushed)
    ∙ sym c.count_after-after.ensures.count ∙ c.in_err-count.was in
    let many = up_to_none (c.args.most - c.loop-class.count) (f d) this in
    let step = sum_by_more f all c.loop-class.class-index d c.loop-class-test.true in
    let at : f (get_or all c.loop-class.class-index d) ≡ f d = ap f (sym c.class-item.is) in
    let le = sum_by-take-le f all (c.loop-class.class-index + 1) in
    let over : c.args.most < length (told_after (told_begun program) selector c.args.more prefix) =
    omega (arith, many, step, at, le, whole, c.loop-class.invariant.few, c.loop-class.invariant.count) in
    let none : c.from_residual.result ≡ None = search rules in
    none ∙ sym (up_to_many c.args.most (length (told_after (told_begun program) selector c.args.more prefix)) over)

pub returns-clause-count : goal.returns-clause-count
returns-clause-count t c =
    let program = c.args.program.now in
    let selector = c.args.selector in
    let prefix = c.args.prefix.now.items in
    let all = c.as_slice-class-items.result.now in
    let h = c.begun_classes-next.ensures in
    let has = rw (c.graph.ensures, c.deref.ensures.0) at h in
    let is = λ (n : ℕ). has n ∙ begun_is program selector c.definitions_of.result.now prefix n c.definitions_of.ensures in
    let f : ℕ → ℕ = λ d. length (told_after (told_begun program) selector (c.args.more - 1) (prefix ++ d ∷ [])) in
    let whole = whole program selector prefix c.begun_classes-next.result c.law.ensures.ascend c.law.ensures.below_limit is c.args.more
    (λ none. absurd (omega (arith, none, c.requires.some))) ∙ ap (sum_by f) (sym (c.as_slice-class-items.ensures.value ∙ c.classes-classes.ensures)) in
    let total : c.loop-class.count ≡ length (told_after (told_begun program) selector c.args.more prefix) =
    c.loop-class.invariant.count ∙ ap (sum_by f) (take_all c.loop-class.class-index all c.loop-class-test.false) ∙ sym whole in
    sym (ap (up_to c.args.most) (sym total) ∙ up_to_few c.args.most c.loop-class.count c.loop-class.invariant.few)
