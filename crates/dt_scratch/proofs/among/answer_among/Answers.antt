use Rattle.std.proofs.Common.{◌≡◌, ◌==◌, ℕ, true, false, cond, sym, ap, ◌∙◌, eq-eqb}
use Rattle.dt_definitions.specs.SelectorLists.{with_selector}
use Rattle.dt_scratch.specs.declared.reply.Answer.TheVariants.{Method, NotUnderstood, Ambiguous}
use Rattle.dt_scratch.specs.Among.{answer_among, count_unbeaten}
use Rattle.dt_scratch.proofs.AnswerAmong.{answered, not_understood}
use Rattle.dt_scratch.proofs.Parts.{answer_of_all}
use Rattle.dt_scratch.proofs.among.answer_among.Goals as goal
use Rattle.dt_scratch.proofs.among.answer_among.Goals.{then-is_lowest, else-is_lowest}

none : (c : goal.In-None) → (selector : ℕ) →
    NotUnderstood ≡ answer_among c.args.graph.now.links c.args.classes.now (with_selector selector c.args.definitions.now)
none c selector =
    sym (not_understood c.args.graph.now.links c.args.classes.now selector c.args.definitions.now
    (rw c.in-None.is at c.most_specific-is_lowest.ensures.best))

pub returns-in-None-clause-among : goal.returns-in-None-clause-among
returns-in-None-clause-among c = none c

pub returns-in-None-clause-answer : goal.returns-in-None-clause-answer
returns-in-None-clause-answer c = λ program query of_graph of_classes all.
    none c query.selector ∙ answer_of_all program query c.args.graph.now c.args.classes.now c.args.definitions.now of_graph of_classes all

method : (c : goal.After-result-1) → (selector : ℕ) →
    Method c.in-Some.best.now.body ≡ answer_among c.args.graph.now.links c.args.classes.now (with_selector selector c.args.definitions.now)
method c selector =
    let best = c.in-Some.best.now in
    let found = rw c.in-Some.is at c.most_specific-is_lowest.ensures.best in
    let one : (count_unbeaten c.args.graph.now.links c.args.classes.now best c.args.definitions.now == 1) ≡ true =
    elim c.if-is_lowest.branch [
      | then-is_lowest w ↦ eq-eqb _ 1 (rw c.in-Some.is at (c.most_specific-is_lowest.ensures.alone w.if-is_lowest.true))
      | else-is_lowest w ↦ sym w.is_alone.ensures ∙ sym w.value-is ∙ c.if-is_alone.true
    ] in
    sym (answered c.args.graph.now.links c.law_of_specificity.ensures c.args.classes.now selector c.args.definitions.now best found.0 found.1
    ∙ ap (λ b. cond b (Method best.body) Ambiguous) one)

pub returns-then-is_alone-clause-among : goal.returns-then-is_alone-clause-among
returns-then-is_alone-clause-among c = method c

pub returns-then-is_alone-clause-answer : goal.returns-then-is_alone-clause-answer
returns-then-is_alone-clause-answer c = λ program query of_graph of_classes all.
    method c query.selector ∙ answer_of_all program query c.args.graph.now c.args.classes.now c.args.definitions.now of_graph of_classes all

ambiguous : (c : goal.Else-is_alone) → (selector : ℕ) →
    Ambiguous ≡ answer_among c.args.graph.now.links c.args.classes.now (with_selector selector c.args.definitions.now)
ambiguous c selector =
    let best = c.in-Some.best.now in
    let found = rw c.in-Some.is at c.most_specific-is_lowest.ensures.best in
    let more : (count_unbeaten c.args.graph.now.links c.args.classes.now best c.args.definitions.now == 1) ≡ false =
    elim c.if-is_lowest.branch [
      | then-is_lowest w ↦ absurd (cc)
      | else-is_lowest w ↦ sym w.is_alone.ensures ∙ sym w.value-is ∙ c.if-is_alone.false
    ] in
    sym (answered c.args.graph.now.links c.law_of_specificity.ensures c.args.classes.now selector c.args.definitions.now best found.0 found.1
    ∙ ap (λ b. cond b (Method best.body) Ambiguous) more)

pub returns-else-is_alone-clause-among : goal.returns-else-is_alone-clause-among
returns-else-is_alone-clause-among c = ambiguous c

pub returns-else-is_alone-clause-answer : goal.returns-else-is_alone-clause-answer
returns-else-is_alone-clause-answer c = λ program query of_graph of_classes all.
    ambiguous c query.selector ∙ answer_of_all program query c.args.graph.now c.args.classes.now c.args.definitions.now of_graph of_classes all
