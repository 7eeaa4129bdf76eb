use Rattle.std.proofs.Common.{◌==◌, ◌-◌, if◌then◌else◌, sym, ap, ◌∙◌}
use Rattle.dt_pages.specs.Image.{look_up}
use Rattle.dt_pages.specs.Draft.{laid_over}
use Rattle.dt_placing.specs.Placing.{cell_at}
use Rattle.dt_placing.specs.Turn.{is_cleared}
use Rattle.dt_placing.proofs.Loops.{laid_one, laid_over_one}
use Rattle.dt_placing.proofs.laying.clear_row.Goals.{then-is_stale+in_ok-set_other, else-is_stale}
use Rattle.dt_placing.proofs.laying.clear_row.Goals as goal

pub loop-class-preserved : goal.loop-class-preserved
loop-class-preserved c =
    let x = look_up c.args.tree.now in
    let g = c.args.geometry in
    let class = c.loop-class.class in
    let at = cell_at g (c.args.before - 1) in
    let test = is_cleared g x c.args.selector c.args.before c.args.word c.args.row.now in
    elim c.if-is_stale.branch [
      | then-is_stale+in_ok-set_other w ↦ laid_one at test (λ k. 0) class (laid_over c.args.draft.now x) (laid_over c.loop-class.draft x) (laid_over c.if-is_stale.draft x)
          (sym c.is_stale.ensures ∙ w.if-is_stale.true)
          (λ place. ap (λ d. laid_over d x place) w.draft-is ∙ w.in_ok-set_other.ensures place
          ∙ ap (λ a. if place == a then 0 else laid_over c.loop-class.draft x place) w.cell_address.ensures.value)
          c.loop-class.invariant
      | else-is_stale w ↦ laid_over_one at test (λ k. 0) class (laid_over c.args.draft.now x) (laid_over c.if-is_stale.draft x)
          (sym c.is_stale.ensures ∙ w.if-is_stale.false)
          (rw w.draft-is c.loop-class.invariant)
    ]
