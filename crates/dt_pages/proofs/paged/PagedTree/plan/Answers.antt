use Rattle.std.proofs.Common.{◌≡◌, ◌∙◌, ap, sym, subst, ℕ, List, ◌++◌, ◌≤◌, ◌<◌, length, All, arith, refl}
use Rattle.std.specs.FinMap.{get}
use Rattle.dt_pages.specs.Image.{IsImage}
use Rattle.dt_pages.specs.Draft.{laid_over}
use Rattle.dt_pages.specs.Numbering.{IsNode, IsNumbering, top_node}
use Rattle.dt_pages.specs.Paged.{Paged, numbering}
use Rattle.dt_pages.specs.Drawing.{pages_of}
use Rattle.dt_pages.proofs.ChangedNodes.{all_nodes}
use Rattle.dt_pages.proofs.Needing.{plan_written, plan_top, plan_few, plan_rooms, plan_is}
use Rattle.dt_pages.proofs.paged.PagedTree.plan.Goals as goal

pub pages_of-requires : goal.pages_of-requires
pages_of-requires c = subst (λ (xs : List ℕ). All IsNode xs) (sym (c.deref.ensures.value ∙ c.in_ok-changed_nodes.ensures))
    (all_nodes (numbering c.args.self.now) c.args.draft.now (λ q past. ap (λ d. get d q) (sym c.draft.view_is) ∙ c.draft.invariant q past))

pub contents-requires : goal.contents-requires
contents-requires c = plan_written c.args.self.now c.args.draft.now
    (λ q past. ap (λ d. get d q) (sym c.draft.view_is) ∙ c.draft.invariant q past)
    (subst (λ (p : Paged). IsNumbering (numbering p)) c.self.view_is c.self.invariant.1)
    (subst (λ (p : Paged). IsImage p.image) c.self.view_is c.law.ensures)
    c.args.pages.now c.requires.free c.requires.enough
    (record { changes = c.drawing.inside.changes; written = c.drawing.inside.written.items })
    (c.drawing.view_is ∙ c.in_ok-drawing.ensures) c.deref-2.result.now c.deref-2.ensures.value

pub overflow_cast-top : goal.overflow_cast-top
overflow_cast-top c =
    let low : laid_over c.drawing.inside.changes (numbering c.args.self.now) top_node < 65536 = plan_top c.args.self.now c.args.draft.now
    (λ q past. ap (λ d. get d q) (sym c.draft.view_is) ∙ c.draft.invariant q past)
    (subst (λ (p : Paged). IsNumbering (numbering p)) c.self.view_is c.self.invariant.1)
    (subst (λ (p : Paged). IsImage p.image) c.self.view_is c.law.ensures)
    c.args.pages.now c.requires.free c.requires.enough
    (record { changes = c.drawing.inside.changes; written = c.drawing.inside.written.items })
    (c.drawing.view_is ∙ c.in_ok-drawing.ensures) in
    let is : c.changed-top.result ≡ laid_over c.drawing.inside.changes (numbering c.args.self.now) top_node = c.changed-top.ensures in
    omega (arith, low, is)

pub invariant_of-result : goal.invariant_of-result
invariant_of-result c =
    let most : length c.args.pages.now ≤ 262657 = plan_few c.args.self.now c.args.draft.now
    (λ q past. ap (λ d. get d q) (sym c.draft.view_is) ∙ c.draft.invariant q past)
    (subst (λ (p : Paged). IsNumbering (numbering p)) c.self.view_is c.self.invariant.1)
    (subst (λ (p : Paged). IsImage p.image) c.self.view_is c.law.ensures)
    c.args.pages.now c.requires.free c.requires.enough
    (record { changes = c.drawing.inside.changes; written = c.drawing.inside.written.items })
    (c.drawing.view_is ∙ c.in_ok-drawing.ensures) in
    let listed : length c.extend_from_slice.new.self.items ≤ 262657 = subst (λ (xs : List ℕ). length xs ≤ 262657)
    (sym (c.in_ok-extend_from_slice.ensures.items ∙ ap (λ xs. xs ++ c.args.pages.now) c.new-listed.ensures.items)) most in (
      listed,
      plan_rooms c.args.self.now c.args.draft.now
          (λ q past. ap (λ d. get d q) (sym c.draft.view_is) ∙ c.draft.invariant q past)
          (subst (λ (p : Paged). IsNumbering (numbering p)) c.self.view_is c.self.invariant.1)
          (subst (λ (p : Paged). IsImage p.image) c.self.view_is c.law.ensures)
          c.args.pages.now c.requires.free c.requires.enough
          (record { changes = c.drawing.inside.changes; written = c.drawing.inside.written.items })
          (c.drawing.view_is ∙ c.in_ok-drawing.ensures) c.in_ok-rooms.rooms.items c.in_ok-rooms.ensures,
    )

pub returns : goal.returns
returns c = plan_is c.args.self.now c.args.draft.now
    (λ q past. ap (λ d. get d q) (sym c.draft.view_is) ∙ c.draft.invariant q past)
    (subst (λ (p : Paged). IsNumbering (numbering p)) c.self.view_is c.self.invariant.1)
    (subst (λ (p : Paged). IsImage p.image) c.self.view_is c.law.ensures)
    c.args.pages.now c.requires.free c.requires.enough
    (record { changes = c.drawing.inside.changes; written = c.drawing.inside.written.items })
    (c.drawing.view_is ∙ c.in_ok-drawing.ensures)
    (record {
      changes = c.drawing.inside.changes;
      pages = c.extend_from_slice.new.self.items;
      contents = c.in_ok-contents.contents.items;
      top = c.changed-top.result;
      gone = c.in_ok-gone.gone.items;
    })
    c.deref-2.result.now refl
    (c.in_ok-extend_from_slice.ensures.items ∙ ap (λ xs. xs ++ c.args.pages.now) c.new-listed.ensures.items)
    c.deref-2.ensures.value c.in_ok-contents.ensures.count c.in_ok-contents.ensures.words c.changed-top.ensures
    (c.in_ok-gone.ensures ∙ ap (pages_of (numbering c.args.self.now)) (c.deref.ensures.value ∙ c.in_ok-changed_nodes.ensures))
