use Rattle.std.proofs.Common.{◌∙◌, ap, sym, subst, ◌≤◌, length, arith}
use Rattle.std.specs.FinMap.{get}
use Rattle.dt_pages.specs.Image.{IsImage}
use Rattle.dt_pages.specs.Numbering.{IsNumbering}
use Rattle.dt_pages.specs.Paged.{Paged, numbering}
use Rattle.dt_pages.proofs.Needing.{count_is, count_few}
use Rattle.dt_pages.proofs.paged.PagedTree.need.Goals as goal

pub overflow_cast-result : goal.overflow_cast-result
overflow_cast-result c =
    let few : length c.drawing.inside.written.items ≤ 262657 = count_few c.args.self.now c.args.draft.now
    (λ q past. ap (λ d. get d q) (sym c.draft.view_is) ∙ c.draft.invariant q past)
    (subst (λ (p : Paged). IsNumbering (numbering p)) c.self.view_is c.self.invariant.1)
    (subst (λ (p : Paged). IsImage p.image) c.self.view_is c.law.ensures)
    (record { changes = c.drawing.inside.changes; written = c.drawing.inside.written.items })
    (c.drawing.view_is ∙ c.in_ok-drawing.ensures) in
    let same = c.len.ensures ∙ c.drawing.inside.written.ok.0 in
    omega (arith, few, same)

pub returns : goal.returns
returns c = c.len.ensures ∙ c.drawing.inside.written.ok.0
    ∙ count_is c.args.self.now c.args.draft.now
    (λ q past. ap (λ d. get d q) (sym c.draft.view_is) ∙ c.draft.invariant q past)
    (subst (λ (p : Paged). IsNumbering (numbering p)) c.self.view_is c.self.invariant.1)
    (subst (λ (p : Paged). IsImage p.image) c.self.view_is c.law.ensures)
    (record { changes = c.drawing.inside.changes; written = c.drawing.inside.written.items })
    (c.drawing.view_is ∙ c.in_ok-drawing.ensures)
