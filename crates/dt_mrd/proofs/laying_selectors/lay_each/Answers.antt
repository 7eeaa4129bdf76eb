use Rattle.std.proofs.Common.{◌++◌, [], ◌∷◌, List, length, ap, sym, subst, refl, ◌∙◌, append_assoc}
use Rattle.std.proofs.lemmas.Bool.{eqb-true, eq-eqb, true≢false}
use Rattle.std.proofs.lemmas.List.{append-nil}
use Rattle.slab.specs.Slab.{get}
use Rattle.dt_mrd.specs.declared.staged.StagedRoot.{StagedRoot}
use Rattle.dt_mrd.specs.declared.turn.Turn.{Turn}
use Rattle.dt_mrd.specs.Levels.{AreSelectors}
use Rattle.dt_mrd.proofs.LevelSteps.{extends_none, extends_then, next_selector, first_selector, no_items}
use Rattle.dt_mrd.proofs.laying_selectors.lay_each.Goals as goal

pub loop-rest-init : goal.loop-rest-init
loop-rest-init c = record {
  extends = extends_none (get c.args.rows.now) c.args.fresh.now.items;
  selectors = ([], [], sym (append-nil c.args.staged.now.items), sym (append-nil c.args.turns.now.items), λ more more_turns rows fresh rest. rest);
}

pub loop-rest-preserved : goal.loop-rest-preserved
loop-rest-preserved c =
    let before = c.loop-rest.invariant.selectors in
    let levels = c.in_ok-key.ensures.levels in
    let root : StagedRoot = record { selector = c.selector-selector.result; key = c.in_ok-key.key } in
    record {
      extends = extends_then _ _ _ _ _ _ c.loop-rest.invariant.extends c.lay_selector.ensures.extends;
      selectors = (
        before.0 ++ (root ∷ []),
        before.1 ++ levels.0,
        c.in_ok-push.ensures.items ∙ ap (λ (l : List StagedRoot). l ++ (root ∷ [])) before.2 ∙ append_assoc c.args.staged.now.items before.0 (root ∷ []),
        levels.1 ∙ ap (λ (l : List Turn). l ++ levels.0) before.3 ∙ append_assoc c.args.turns.now.items before.1 levels.0,
        λ more more_turns rows fresh rest.
            subst (λ (l : List Turn). AreSelectors c.args.roots.now (get c.args.rows.now) c.args.fresh.now.items c.args.changes.now ((before.0 ++ (root ∷ [])) ++ more) l rows fresh)
            (sym (append_assoc before.1 levels.0 more_turns))
            (subst (λ (l : List StagedRoot). AreSelectors c.args.roots.now (get c.args.rows.now) c.args.fresh.now.items c.args.changes.now l (before.1 ++ (levels.0 ++ more_turns)) rows fresh)
            (sym (append_assoc before.0 (root ∷ []) more))
            (before.4 (root ∷ more) (levels.0 ++ more_turns) rows fresh
            (next_selector c.args.roots.now (get c.loop-rest.rows) (get c.lay_selector.new.rows) rows c.loop-rest.fresh.items c.lay_selector.new.fresh.items fresh
            c.loop-rest.rest.now c.split_at.result.0.now c.split_at.result.1.now c.run.result root c.root_of.result levels.0 more more_turns
            (first_selector c.loop-rest.rest.now c.index-rest-0.result c.selector-selector.result (λ z. true≢false (sym (c.is_empty.ensures ∙ eq-eqb (length c.loop-rest.rest.now) 0 z) ∙ c.loop-rest-test.true)) c.selector-selector.ensures)
            c.run.ensures.value c.split_at.ensures.front c.split_at.ensures.back c.root_of.ensures levels.2 c.lay_selector.ensures.extends rest))),
      );
    }

pub returns-clause-selectors : goal.returns-clause-selectors
returns-clause-selectors c =
    let before = c.loop-rest.invariant.selectors in (
      before.0,
      before.1,
      before.2,
      before.3,
      subst (λ (l : List Turn). AreSelectors c.args.roots.now (get c.args.rows.now) c.args.fresh.now.items c.args.changes.now before.0 l (get c.loop-rest.rows) c.loop-rest.fresh.items) (append-nil before.1)
          (subst (λ (l : List StagedRoot). AreSelectors c.args.roots.now (get c.args.rows.now) c.args.fresh.now.items c.args.changes.now l (before.1 ++ []) (get c.loop-rest.rows) c.loop-rest.fresh.items) (append-nil before.0)
          (before.4 [] [] (get c.loop-rest.rows) c.loop-rest.fresh.items (no_items c.loop-rest.rest.now (eqb-true (length c.loop-rest.rest.now) 0 (sym c.is_empty.ensures ∙ c.loop-rest-test.false)), refl, refl, refl))),
    )
