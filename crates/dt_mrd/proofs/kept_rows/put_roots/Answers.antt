use Rattle.std.proofs.Common.{◌+◌, List, Option, None, ℕ, drop, get_or, refl, ap, ◌∙◌}
use Rattle.dt_mrd.specs.declared.staged.StagedRoot.{StagedRoot}
use Rattle.dt_mrd.specs.Kept.{with_roots}
use Rattle.dt_mrd.proofs.Roots.{put_step}
use Rattle.dt_mrd.proofs.kept_rows.put_roots.Goals as goal

pub loop-root-preserved : goal.loop-root-preserved
loop-root-preserved c =
    let none : StagedRoot = record { selector = 0; key = None } in
    ap (λ (l : List (Option ℕ)). with_roots (drop (c.loop-root.root-index + 1) c.args.staged.now) l) c.put_root.ensures
    ∙ put_step c.args.staged.now c.loop-root.root-index none (get_or c.args.staged.now c.loop-root.root-index none) c.loop-root.roots.items c.loop-root-test.true refl
    ∙ c.loop-root.invariant
