use Rattle.std.proofs.Common.{ap, ◌∙◌, set}
use Rattle.dt_fit.specs.Undoing.{undone}
use Rattle.dt_fit.proofs.Undo.{undone_change}
use Rattle.dt_fit.proofs.journal.change.Goals as goal

pub returns-clause-before : goal.returns-clause-before
returns-clause-before c =
    ap (λ journal. undone journal (set c.args.words.now.items c.args.at c.args.word)) c.in_ok-push.ensures.items
    ∙ undone_change c.args.journal.now.items c.args.words.now.items c.args.at c.index.result.now c.args.word c.index.ensures
