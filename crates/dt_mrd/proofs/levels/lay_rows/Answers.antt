use Rattle.std.proofs.Common.{◌++◌, [], ◌∷◌, List, refl, ap, sym, subst, ◌∙◌, append_assoc}
use Rattle.std.proofs.lemmas.List.{append-nil}
use Rattle.slab.specs.Slab.{get}
use Rattle.dt_mrd.specs.declared.turn.Turn.{Turn}
use Rattle.dt_mrd.specs.Levels.{IsLevel}
use Rattle.dt_mrd.proofs.LevelSteps.{extends_then, next_level, no_first}
use Rattle.dt_mrd.proofs.levels.lay_rows.Goals as goal

pub loop-query-preserved : goal.loop-query-preserved
loop-query-preserved c =
    let before = c.loop-query.invariant.level in
    let turn : Turn = c.in_ok-lay_turn.field-0 in
    record {
      extends = extends_then _ _ _ _ _ _ c.loop-query.invariant.extends c.lay_turn.ensures.extends;
      level = (
        before.0 ++ (turn ∷ []),
        c.in_ok-push.ensures.items ∙ ap (λ (l : List Turn). l ++ (turn ∷ [])) before.1 ∙ append_assoc c.args.level.now.items before.0 (turn ∷ []),
        λ more rows fresh rest. subst (λ (l : List Turn). IsLevel c.args.root c.args.depth (get c.args.rows.now) c.args.fresh.now.items c.args.changes.now c.args.led.now l rows fresh)
            (sym (append_assoc before.0 (turn ∷ []) more))
            (before.2 (turn ∷ more) rows fresh
            (next_level c.args.root c.args.depth (get c.loop-query.rows) (get c.lay_turn.new.rows) rows c.loop-query.fresh.items c.lay_turn.new.fresh.items fresh
            c.loop-query.changes.now c.split_at.result.0.now c.split_at.result.1.now c.loop-query.led.now c.split_at-in-Some.result.0.now c.split_at-in-Some.result.1.now
            c.in-Some.query c.run_of_changes.result c.run_of_turns.result turn more
            (sym c.first_query.ensures ∙ c.in-Some.is) c.run_of_changes.ensures.run c.run_of_turns.ensures.run
            c.split_at.ensures.front c.split_at.ensures.back c.split_at-in-Some.ensures.front c.split_at-in-Some.ensures.back
            c.in_ok-lay_turn.ensures.turn c.lay_turn.ensures.extends rest)),
      );
    }

pub returns-clause-level : goal.returns-clause-level
returns-clause-level c =
    let before = c.loop-query.invariant.level in
    let ends = no_first c.args.depth c.loop-query.changes.now c.loop-query.led.now (λ query e. c.in_default.not-Some query (c.first_query.ensures ∙ e)) in (
      before.0,
      before.1,
      subst (λ (l : List Turn). IsLevel c.args.root c.args.depth (get c.args.rows.now) c.args.fresh.now.items c.args.changes.now c.args.led.now l (get c.loop-query.rows) c.loop-query.fresh.items)
          (append-nil before.0) (before.2 [] (get c.loop-query.rows) c.loop-query.fresh.items (ends.0, ends.1, refl, refl)),
    )
