use Rattle.std.proofs.Common.{◌∙◌, sym, arith}
use Rattle.dt_pages.specs.Draft.{laid_over}
use Rattle.dt_pages.specs.Paged.{numbering}
use Rattle.dt_pages.proofs.Blank.{blank, not_blank}
use Rattle.dt_pages.proofs.paged.PagedTree.is_blank.Goals as goal

pub returns-then-changed-ne0 : goal.returns-then-changed-ne0
returns-then-changed-ne0 c = sym (not_blank (laid_over c.args.changes.now (numbering c.args.self.now)) c.args.node c.loop-at.at c.loop-at-test.true
    (λ none. c.if-changed-ne0.true (c.changed.ensures ∙ none)))

pub returns : goal.returns
returns c = sym (blank (laid_over c.args.changes.now (numbering c.args.self.now)) c.args.node
    (λ at below. c.loop-at.invariant.1 at (let past = c.loop-at-test.false in omega (arith, below, past))))
