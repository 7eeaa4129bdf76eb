use Rattle.std.proofs.Common.{◌++◌, [], ℕ, Vec, Global, None, Some, take, sym, ap, ◌∙◌}
use Rattle.std.proofs.lemmas.List.{append-nil}
use Rattle.std.specs.List.{cons_option}
use Rattle.dt_mrd.proofs.OldKeys.{old_keys, old_more}
use Rattle.dt_mrd.proofs.staging.old_keys.Goals.{in-Some+in_ok-push, in_default}
use Rattle.dt_mrd.proofs.staging.old_keys.Goals as goal

pub loop-turn-preserved : goal.loop-turn-preserved
loop-turn-preserved c =
    let turns = c.args.turns.now in
    let i = c.loop-turn.turn-index in
    elim c.match-turn.branch [
      | in-Some+in_ok-push w ↦ ap (λ (v : Vec ℕ Global). v.items) w.keys-is ∙ w.in_ok-push.ensures.items ∙ ap (λ l. l ++ cons_option (Some w.in-Some.key) []) c.loop-turn.invariant
          ∙ sym (old_more turns i c.turn-item.result (Some w.in-Some.key) c.loop-turn-test.true c.turn-item.is w.in-Some.is)
      | in_default w ↦ ap (λ (v : Vec ℕ Global). v.items) w.keys-is ∙ c.loop-turn.invariant ∙ sym (append-nil (old_keys (take i turns)))
          ∙ sym (old_more turns i c.turn-item.result None c.loop-turn-test.true c.turn-item.is w.in_default.is)
    ]
