use Rattle.std.proofs.Common.{◌≡◌, ◌==◌, false, List, map, get_or, if◌then◌else◌, sym, ap, subst, ◌∙◌, arith}
use Rattle.dt_pages.specs.Image.{look_up}
use Rattle.dt_pages.specs.Draft.{laid_over}
use Rattle.dt_scratch.specs.declared.reply.Change.{Change}
use Rattle.dt_cells.specs.Regions.{place_of}
use Rattle.dt_cells.specs.Kind.{sets}
use Rattle.dt_cells.specs.Standing.{CanStage}
use Rattle.dt_cells.specs.Pair.{single_held, multi_held, single_changes, multi_changes}
use Rattle.dt_cells.proofs.PairStages.{Stages, stays, first_can, rest_can, staged}
use Rattle.dt_cells.proofs.PlaceSteps.{laid_step, all_laid, all_put}
use Rattle.dt_cells.proofs.pair.PairTableKind.stage.Goals as goal

pub stage-requires : goal.stage-requires
stage-requires g c =
    let is : c.as_slice-singles.result.now ≡ single_changes c.args.changes.now = c.as_slice-singles.ensures.value ∙ c.in_ok-split.ensures.singles in (
      single_held c.requires.0,
      subst (λ (v : List Change). CanStage g.A.TableKind.kind (g.A.TableKind.stands c.args.self.now.first) (g.A.TableKind.low c.args.self.now.first)
          (look_up c.args.tree.now) (laid_over c.loop-selector.draft (look_up c.args.tree.now)) (single_held c.requires.0) v) (sym is)
          (first_can g.A.TableKind.kind g.B.TableKind.kind g.met.A.TableKind.laws g.met.B.TableKind.laws g.met.A.ForOneClass.for_one_class g.met.B.ForMoreClasses.for_more_classes
          (g.A.TableKind.stands c.args.self.now.first) (g.B.TableKind.stands c.args.self.now.rest) (g.A.TableKind.low c.args.self.now.first) (g.B.TableKind.low c.args.self.now.rest)
          (g.A.TableKind.is_placed c.args.self.now.first) (look_up c.args.tree.now) (laid_over c.args.draft.now (look_up c.args.tree.now)) (laid_over c.loop-selector.draft (look_up c.args.tree.now))
          c.requires.0 c.args.changes.now c.requires.1
          (all_laid (g.A.TableKind.is_placed c.args.self.now.first) (look_up c.args.tree.now) (laid_over c.loop-selector.draft (look_up c.args.tree.now)) (laid_over c.args.draft.now (look_up c.args.tree.now))
          c.as_slice-selectors.result.now c.in_ok-split.split.selectors.items c.args.changes.now c.loop-selector.selector-index c.as_slice-selectors.ensures.value (omega arith)
          c.in_ok-split.ensures.selectors c.loop-selector.invariant)),
    )

pub loop-selector-2-preserved : goal.loop-selector-2-preserved
loop-selector-2-preserved g c =
    laid_step (g.B.TableKind.is_placed c.args.self.now.rest) (look_up c.args.tree.now) (laid_over c.loop-selector-2.draft (look_up c.args.tree.now))
    (laid_over c.lay_word-in-loop-selector-2.new.draft (look_up c.args.tree.now)) (laid_over c.stage.new.draft (look_up c.args.tree.now))
    c.as_slice-selectors.result.now c.loop-selector-2.selector-index 0 c.loop-selector-2-test.true c.loop-selector-2.invariant
    (λ address. c.in_ok-lay_word-2.ensures address
    ∙ ap (λ b. if address == place_of (get_or c.as_slice-selectors.result.now c.loop-selector-2.selector-index 0)
    then (if b then look_up c.args.tree.now (place_of (get_or c.as_slice-selectors.result.now c.loop-selector-2.selector-index 0)) else 0)
    else laid_over c.loop-selector-2.draft (look_up c.args.tree.now) address) c.has_place-in-loop-selector-2.ensures)

pub stage-requires-2 : goal.stage-requires-2
stage-requires-2 g c =
    let is : c.as_slice-singles.result.now ≡ single_changes c.args.changes.now = c.as_slice-singles.ensures.value ∙ c.in_ok-split.ensures.singles in
    let are : c.as_slice-multis.result.now ≡ multi_changes c.args.changes.now = c.as_slice-multis.ensures.value ∙ c.in_ok-split.ensures.multis in (
      multi_held c.requires.0,
      subst (λ (v : List Change). CanStage g.B.TableKind.kind (g.B.TableKind.stands c.args.self.now.rest) (g.B.TableKind.low c.args.self.now.rest) (look_up c.args.tree.now) (laid_over c.loop-selector-2.draft (look_up c.args.tree.now)) (multi_held c.requires.0) v) (sym are)
          (rest_can g.A.TableKind.kind g.B.TableKind.kind g.met.A.TableKind.laws g.met.B.TableKind.laws g.met.A.ForOneClass.for_one_class g.met.B.ForMoreClasses.for_more_classes
          (g.A.TableKind.stands c.args.self.now.first) (g.B.TableKind.stands c.args.self.now.rest) (g.A.TableKind.low c.args.self.now.first) (g.B.TableKind.low c.args.self.now.rest) (g.A.TableKind.is_placed c.args.self.now.first) (g.B.TableKind.is_placed c.args.self.now.rest)
          (look_up c.args.tree.now) (laid_over c.args.draft.now (look_up c.args.tree.now)) (laid_over c.loop-selector.draft (look_up c.args.tree.now)) (laid_over c.stage.new.draft (look_up c.args.tree.now)) (laid_over c.loop-selector-2.draft (look_up c.args.tree.now))
          c.requires.0 c.args.changes.now c.requires.1 (all_laid (g.A.TableKind.is_placed c.args.self.now.first) (look_up c.args.tree.now) (laid_over c.loop-selector.draft (look_up c.args.tree.now)) (laid_over c.args.draft.now (look_up c.args.tree.now)) c.as_slice-selectors.result.now c.in_ok-split.split.selectors.items c.args.changes.now c.loop-selector.selector-index c.as_slice-selectors.ensures.value c.loop-selector-test.false c.in_ok-split.ensures.selectors c.loop-selector.invariant)
          (λ address unset. c.in_ok-first.ensures.rest address (subst (λ (v : List Change). sets g.A.TableKind.kind v address ≡ false) (sym is) unset))
          (all_laid (g.B.TableKind.is_placed c.args.self.now.rest) (look_up c.args.tree.now) (laid_over c.loop-selector-2.draft (look_up c.args.tree.now)) (laid_over c.stage.new.draft (look_up c.args.tree.now)) c.as_slice-selectors.result.now c.in_ok-split.split.selectors.items c.args.changes.now c.loop-selector-2.selector-index c.as_slice-selectors.ensures.value c.loop-selector-2-test.false c.in_ok-split.ensures.selectors c.loop-selector-2.invariant)),
    )

pub returns-clause-placed : goal.returns-clause-placed
returns-clause-placed g c =
    let is : c.as_slice-singles.result.now ≡ single_changes c.args.changes.now = c.as_slice-singles.ensures.value ∙ c.in_ok-split.ensures.singles in
    let are : c.as_slice-multis.result.now ≡ multi_changes c.args.changes.now = c.as_slice-multis.ensures.value ∙ c.in_ok-split.ensures.multis in
    let words : c.as_slice.result.now ≡ map (λ selector. laid_over c.stage.new.draft (look_up c.args.tree.now) (place_of selector)) c.as_slice-selectors.result.now = c.as_slice.ensures.value ∙ c.in_ok-words.ensures in
    let steps : Stages g.A.TableKind.kind g.B.TableKind.kind (g.A.TableKind.is_placed c.args.self.now.first) (g.B.TableKind.is_placed c.args.self.now.rest) (look_up c.args.tree.now) c.args.changes.now (laid_over c.args.draft.now (look_up c.args.tree.now)) (laid_over c.loop-selector.draft (look_up c.args.tree.now))
    (laid_over c.stage.new.draft (look_up c.args.tree.now)) (laid_over c.loop-selector-2.draft (look_up c.args.tree.now)) (laid_over c.stage-2.new.draft (look_up c.args.tree.now)) (laid_over c.put_missing_words.new.draft (look_up c.args.tree.now)) = record {
      laid_first = (all_laid (g.A.TableKind.is_placed c.args.self.now.first) (look_up c.args.tree.now) (laid_over c.loop-selector.draft (look_up c.args.tree.now)) (laid_over c.args.draft.now (look_up c.args.tree.now)) c.as_slice-selectors.result.now c.in_ok-split.split.selectors.items c.args.changes.now c.loop-selector.selector-index c.as_slice-selectors.ensures.value c.loop-selector-test.false c.in_ok-split.ensures.selectors c.loop-selector.invariant);
      first = (λ address unset. c.in_ok-first.ensures.rest address (subst (λ (v : List Change). sets g.A.TableKind.kind v address ≡ false) (sym is) unset));
      laid_rest = (all_laid (g.B.TableKind.is_placed c.args.self.now.rest) (look_up c.args.tree.now) (laid_over c.loop-selector-2.draft (look_up c.args.tree.now)) (laid_over c.stage.new.draft (look_up c.args.tree.now)) c.as_slice-selectors.result.now c.in_ok-split.split.selectors.items c.args.changes.now c.loop-selector-2.selector-index c.as_slice-selectors.ensures.value c.loop-selector-2-test.false c.in_ok-split.ensures.selectors c.loop-selector-2.invariant);
      rest = (λ address unset. c.in_ok-rest.ensures.rest address (subst (λ (v : List Change). sets g.B.TableKind.kind v address ≡ false) (sym are) unset));
      put = all_put (laid_over c.stage.new.draft (look_up c.args.tree.now)) (laid_over c.put_missing_words.new.draft (look_up c.args.tree.now)) (laid_over c.stage-2.new.draft (look_up c.args.tree.now)) c.as_slice-selectors.result.now c.in_ok-split.split.selectors.items c.args.changes.now
          c.as_slice-selectors.ensures.value c.in_ok-split.ensures.selectors (λ address. c.in_ok-put_missing_words.ensures (laid_over c.stage.new.draft (look_up c.args.tree.now)) words address);
    } in
    staged g.A.TableKind.kind g.B.TableKind.kind g.met.A.TableKind.laws g.met.B.TableKind.laws g.met.A.ForOneClass.for_one_class g.met.B.ForMoreClasses.for_more_classes
    (g.A.TableKind.stands c.args.self.now.first) (g.B.TableKind.stands c.args.self.now.rest) (g.A.TableKind.low c.args.self.now.first) (g.B.TableKind.low c.args.self.now.rest)
    (g.A.TableKind.follows c.stage.new.self c.in_ok-first.first) (g.B.TableKind.follows c.stage-2.new.self c.in_ok-rest.rest) (g.A.TableKind.is_placed c.args.self.now.first) (g.B.TableKind.is_placed c.args.self.now.rest) (look_up c.args.tree.now)
    c.args.changes.now c.as_slice-singles.result.now c.as_slice-multis.result.now (laid_over c.args.draft.now (look_up c.args.tree.now)) (laid_over c.loop-selector.draft (look_up c.args.tree.now)) (laid_over c.stage.new.draft (look_up c.args.tree.now)) (laid_over c.loop-selector-2.draft (look_up c.args.tree.now)) (laid_over c.stage-2.new.draft (look_up c.args.tree.now)) (laid_over c.put_missing_words.new.draft (look_up c.args.tree.now)) steps is are
    (λ h st. (g.met.A.TableKind.standing.shows c.args.self.now.first (look_up c.args.tree.now) h st, record { placed = λ s t. g.met.A.TableKind.standing.tells c.args.self.now.first (look_up c.args.tree.now) h s st t; unplaced = λ s t. g.met.A.TableKind.standing.tells_none c.args.self.now.first (look_up c.args.tree.now) h s st t }))
    (λ h st. (g.met.B.TableKind.standing.shows c.args.self.now.rest (look_up c.args.tree.now) h st, record { placed = λ s t. g.met.B.TableKind.standing.tells c.args.self.now.rest (look_up c.args.tree.now) h s st t; unplaced = λ s t. g.met.B.TableKind.standing.tells_none c.args.self.now.rest (look_up c.args.tree.now) h s st t }))
    (λ h can. c.in_ok-first.ensures.placed h can) (λ h can. c.in_ok-rest.ensures.placed h can)

pub returns-clause-rest : goal.returns-clause-rest
returns-clause-rest g c =
    let is : c.as_slice-singles.result.now ≡ single_changes c.args.changes.now = c.as_slice-singles.ensures.value ∙ c.in_ok-split.ensures.singles in
    let are : c.as_slice-multis.result.now ≡ multi_changes c.args.changes.now = c.as_slice-multis.ensures.value ∙ c.in_ok-split.ensures.multis in
    let words : c.as_slice.result.now ≡ map (λ selector. laid_over c.stage.new.draft (look_up c.args.tree.now) (place_of selector)) c.as_slice-selectors.result.now = c.as_slice.ensures.value ∙ c.in_ok-words.ensures in
    let steps : Stages g.A.TableKind.kind g.B.TableKind.kind (g.A.TableKind.is_placed c.args.self.now.first) (g.B.TableKind.is_placed c.args.self.now.rest) (look_up c.args.tree.now) c.args.changes.now (laid_over c.args.draft.now (look_up c.args.tree.now)) (laid_over c.loop-selector.draft (look_up c.args.tree.now))
    (laid_over c.stage.new.draft (look_up c.args.tree.now)) (laid_over c.loop-selector-2.draft (look_up c.args.tree.now)) (laid_over c.stage-2.new.draft (look_up c.args.tree.now)) (laid_over c.put_missing_words.new.draft (look_up c.args.tree.now)) = record {
      laid_first = (all_laid (g.A.TableKind.is_placed c.args.self.now.first) (look_up c.args.tree.now) (laid_over c.loop-selector.draft (look_up c.args.tree.now)) (laid_over c.args.draft.now (look_up c.args.tree.now)) c.as_slice-selectors.result.now c.in_ok-split.split.selectors.items c.args.changes.now c.loop-selector.selector-index c.as_slice-selectors.ensures.value c.loop-selector-test.false c.in_ok-split.ensures.selectors c.loop-selector.invariant);
      first = (λ address unset. c.in_ok-first.ensures.rest address (subst (λ (v : List Change). sets g.A.TableKind.kind v address ≡ false) (sym is) unset));
      laid_rest = (all_laid (g.B.TableKind.is_placed c.args.self.now.rest) (look_up c.args.tree.now) (laid_over c.loop-selector-2.draft (look_up c.args.tree.now)) (laid_over c.stage.new.draft (look_up c.args.tree.now)) c.as_slice-selectors.result.now c.in_ok-split.split.selectors.items c.args.changes.now c.loop-selector-2.selector-index c.as_slice-selectors.ensures.value c.loop-selector-2-test.false c.in_ok-split.ensures.selectors c.loop-selector-2.invariant);
      rest = (λ address unset. c.in_ok-rest.ensures.rest address (subst (λ (v : List Change). sets g.B.TableKind.kind v address ≡ false) (sym are) unset));
      put = all_put (laid_over c.stage.new.draft (look_up c.args.tree.now)) (laid_over c.put_missing_words.new.draft (look_up c.args.tree.now)) (laid_over c.stage-2.new.draft (look_up c.args.tree.now)) c.as_slice-selectors.result.now c.in_ok-split.split.selectors.items c.args.changes.now
          c.as_slice-selectors.ensures.value c.in_ok-split.ensures.selectors (λ address. c.in_ok-put_missing_words.ensures (laid_over c.stage.new.draft (look_up c.args.tree.now)) words address);
    } in
    stays g.A.TableKind.kind g.B.TableKind.kind g.met.A.TableKind.laws g.met.B.TableKind.laws g.met.A.ForOneClass.for_one_class g.met.B.ForMoreClasses.for_more_classes
    (g.A.TableKind.is_placed c.args.self.now.first) (g.B.TableKind.is_placed c.args.self.now.rest) (look_up c.args.tree.now) c.args.changes.now (laid_over c.args.draft.now (look_up c.args.tree.now)) (laid_over c.loop-selector.draft (look_up c.args.tree.now)) (laid_over c.stage.new.draft (look_up c.args.tree.now)) (laid_over c.loop-selector-2.draft (look_up c.args.tree.now)) (laid_over c.stage-2.new.draft (look_up c.args.tree.now)) (laid_over c.put_missing_words.new.draft (look_up c.args.tree.now)) steps
