use Rattle.std.proofs.Common.{◌≡◌, ◌/◌, ◌%◌, ◌<◌, length, arith, get_or, Some, None, sym, ap, ◌∙◌}
use Rattle.std.proofs.lemmas.List.{get_or_default}
use Rattle.dt_pages.specs.Image.{look_up}
use Rattle.dt_pages.specs.TreeForm.{word_of_tree, word_of_middle}
use Rattle.dt_pages.proofs.Images.{look_up_of}
use Rattle.dt_pages.proofs.tree.Tree.word.Goals as goal

pub returns-in-Some : goal.returns-in-Some
returns-in-Some c =
    let within : c.args.at / 262144 < length c.self.inside.middles.items = omega arith in
    let node : get_or c.self.inside.middles.items (c.args.at / 262144) None ≡ Some c.in-Some.middle =
    get_or_default c.self.inside.middles.items (c.args.at / 262144) None c.index.result.now within ∙ sym c.index.ensures ∙ c.in-Some.is in
    c.word.ensures ∙ sym (ap (λ node. word_of_middle node (c.args.at % 262144)) node)
    ∙ sym (look_up_of (word_of_tree c.self.inside.middles.items) c.args.at c.requires) ∙ ap (λ image. look_up image c.args.at) c.self.view_is

pub returns-in-None : goal.returns-in-None
returns-in-None c =
    let within : c.args.at / 262144 < length c.self.inside.middles.items = omega arith in
    let node : get_or c.self.inside.middles.items (c.args.at / 262144) None ≡ None =
    get_or_default c.self.inside.middles.items (c.args.at / 262144) None c.index.result.now within ∙ sym c.index.ensures ∙ c.in-None.is in
    sym (ap (λ node. word_of_middle node (c.args.at % 262144)) node)
    ∙ sym (look_up_of (word_of_tree c.self.inside.middles.items) c.args.at c.requires) ∙ ap (λ image. look_up image c.args.at) c.self.view_is
