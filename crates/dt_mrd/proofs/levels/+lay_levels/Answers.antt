use Rattle.std.proofs.Common.{◌≡◌, ◌++◌, ◌-◌, ℕ, suc, List, Option, ap, ◌∙◌, append_assoc, arith}
use Rattle.slab.specs.Slab.{get}
use Rattle.dt_mrd.specs.declared.turn.Turn.{Turn}
use Rattle.dt_mrd.specs.Levels.{AreLevels}
use Rattle.dt_mrd.proofs.LevelSteps.{map_ok, next_levels}
use Rattle.dt_mrd.proofs.levels.+lay_levels.Goals as goal

pub returns-clause-levels : goal.returns-clause-levels
returns-clause-levels t c =
    let some = c.if-depth-eq0.false in
    let level : List Turn = c.in_ok-level.level.items in
    let is : c.args.depth ≡ suc (c.args.depth - 1) = omega (arith, some) in
    map_ok c.lay_levels.result
    (λ (key : Option ℕ). (more : List Turn) × (c.lay_levels.new.turns.items ≡ c.add_turns.new.turns.items ++ more)
    × AreLevels c.args.root (c.args.depth - 1) (get c.lay_level.new.rows) c.lay_level.new.fresh.items c.split_at.result.0.now c.as_slice-2.result.now more (get c.lay_levels.new.rows) c.lay_levels.new.fresh.items key)
    (λ (key : Option ℕ). (more : List Turn) × (c.lay_levels.new.turns.items ≡ c.args.turns.now.items ++ more)
    × AreLevels c.args.root c.args.depth (get c.args.rows.now) c.args.fresh.now.items c.args.changes.now c.args.led.now more (get c.lay_levels.new.rows) c.lay_levels.new.fresh.items key)
    (λ key has. (
      level ++ has.0,
      has.1 ∙ ap (λ (l : List Turn). l ++ has.0) (c.in_ok-add_turns.ensures ∙ ap (λ (l : List Turn). c.args.turns.now.items ++ l) c.as_slice.ensures.value)
          ∙ append_assoc c.args.turns.now.items level has.0,
      next_levels c.args.root c.args.depth (c.args.depth - 1) (get c.args.rows.now) (get c.lay_level.new.rows) (get c.lay_levels.new.rows) c.args.fresh.now.items c.lay_level.new.fresh.items c.lay_levels.new.fresh.items
          c.args.changes.now c.split_at.result.0.now c.split_at.result.1.now c.args.led.now c.before_arity.result level c.as_slice-2.result.now has.0 key
          is c.before_arity.ensures.before c.split_at.ensures.front c.split_at.ensures.back c.as_slice-2.ensures.value c.in_ok-level.ensures.level has.2,
    ))
    c.lay_levels.ensures.levels
