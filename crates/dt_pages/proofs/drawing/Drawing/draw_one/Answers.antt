use Rattle.std.proofs.Common.{◌∙◌, ap, ap₂, sym, ℕ, List}
use Rattle.std.specs.FinMap.{insert}
use Rattle.dt_pages.specs.Draft.{Drafted}
use Rattle.dt_pages.specs.Paged.{numbering}
use Rattle.dt_pages.specs.Drawing as drawing
use Rattle.dt_pages.specs.Drawing.{drawn_one, taken}
use Rattle.dt_pages.proofs.DrawnNodes.{drawn_blank, drawn_page}
use Rattle.dt_pages.proofs.drawing.Drawing.draw_one.Goals as goal

pub returns-in_ok-set : goal.returns-in_ok-set
returns-in_ok-set c =
    let before : drawing.Drawing = record { changes = c.self.inside.changes; written = c.self.inside.written.items } in
    ap (λ (changes : Drafted). record { changes = changes; written = c.self.inside.written.items }) c.in_ok-set.ensures
    ∙ drawn_blank (numbering c.args.tree.now) c.args.pages.now before c.args.node (sym c.is_blank.ensures ∙ c.if-is_blank.true)
    ∙ ap (λ d. drawn_one (numbering c.args.tree.now) c.args.pages.now d c.args.node) c.self.view_is

pub returns-in_ok-push : goal.returns-in_ok-push
returns-in_ok-push c =
    let before : drawing.Drawing = record { changes = c.self.inside.changes; written = c.self.inside.written.items } in
    ap₂ (λ (changes : Drafted) (written : List ℕ). record { changes = changes; written = written })
    (c.in_ok-set-2.ensures ∙ ap (insert c.self.inside.changes c.args.node) (c.page_at-page.ensures ∙ ap (taken c.args.pages.now) (c.len.ensures ∙ c.self.inside.written.ok.0))) c.in_ok-push.ensures.items
    ∙ drawn_page (numbering c.args.tree.now) c.args.pages.now before c.args.node (sym c.is_blank.ensures ∙ c.if-is_blank.false)
    ∙ ap (λ d. drawn_one (numbering c.args.tree.now) c.args.pages.now d c.args.node) c.self.view_is
