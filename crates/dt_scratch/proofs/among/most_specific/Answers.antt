use Rattle.std.proofs.Common.{true, false, append-nil, refl, sym, ◌∙◌, subst}
use Rattle.std.proofs.lemmas.Bool.{false≢true}
use Rattle.std.specs.Option.{option_copied}
use Rattle.dt_scratch.specs.Among.{applicable_among}
use Rattle.dt_scratch.proofs.AnswerAmong.{IsBest, takes, keeps, one_more, all_seen, found_lowest}
use Rattle.dt_scratch.proofs.among.most_specific.Goals as goal
use Rattle.dt_scratch.proofs.among.most_specific.Goals.{then-are_below+then-is_better, then-are_below+else-is_better+then-is_lowest, then-are_below+else-is_better+else-is_lowest, else-are_below}

pub loop-defined-init : goal.loop-defined-init
loop-defined-init c = record { unbeaten = refl; alone = λ _. tt }

pub loop-defined-preserved : goal.loop-defined-preserved
loop-defined-preserved c =
    let links = c.args.graph.now.links in
    let best = option_copied c.loop-defined.best in
    let known = c.loop-defined.is_lowest in
    let before = c.loop-defined.invariant in
    let more = one_more links c.args.classes.now c.args.definitions.now c.loop-defined.defined-index c.defined-item.result
    c.loop-defined-test.true c.defined-item.is in
    elim c.if-are_below.branch [
      | then-are_below+then-is_better w ↦ rw (w.best-is, w.is_lowest-is) (takes links c.requires _ _ _ (more true (cc)) best known before (cc))
      | then-are_below+else-is_better+then-is_lowest w ↦ rw (w.best-is, w.is_lowest-is)
          (keeps links c.requires _ _ _ (more true (cc)) best known _ before (cc)
          (λ still. (w.if-is_lowest.true, sym w.beats-is_lowest.ensures ∙ still)))
      | then-are_below+else-is_better+else-is_lowest w ↦ rw (w.best-is, w.is_lowest-is)
          (keeps links c.requires _ _ _ (more true (cc)) best known _ before (cc)
          (λ still. absurd (false≢true (sym w.if-is_lowest.false ∙ still))))
      | else-are_below w ↦ rw (w.best-is, w.is_lowest-is, more false (cc), append-nil) before
    ]

pub returns-clause-best : goal.returns-clause-best
returns-clause-best c = (all_seen c.args.graph.now.links c.args.classes.now c.args.definitions.now c.loop-defined.defined-index
    (option_copied c.loop-defined.best) c.loop-defined.is_lowest c.loop-defined-test.false c.loop-defined.invariant).unbeaten

pub returns-clause-alone : goal.returns-clause-alone
returns-clause-alone c = λ known. found_lowest c.args.graph.now.links c.args.classes.now c.args.definitions.now
    (option_copied c.loop-defined.best)
    (subst (IsBest c.args.graph.now.links (applicable_among c.args.graph.now.links c.args.classes.now c.args.definitions.now)
    (option_copied c.loop-defined.best)) known (all_seen c.args.graph.now.links c.args.classes.now c.args.definitions.now
    c.loop-defined.defined-index (option_copied c.loop-defined.best) c.loop-defined.is_lowest c.loop-defined-test.false c.loop-defined.invariant))
