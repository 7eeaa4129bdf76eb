use Rattle.std.proofs.Common.{◌∙◌, sym, ap, arith}
use Rattle.std.proofs.lemmas.Result.{on_ok_weaker}
use Rattle.dt_graph.specs.ClassSet.{has_bit}
use Rattle.dt_fit.specs.Undoing.{undone}
use Rattle.dt_fit.proofs.WordBits.{set_is_inside}
use Rattle.dt_fit.proofs.Shown.{tried_freed}
use Rattle.dt_fit.proofs.used_cells.UsedCells.free.Goals as goal

pub index-requires : goal.index-requires
index-requires c =
    let at_word = set_is_inside c.self.inside.words.items c.bit_of-bit.result
    (ap (λ words. has_bit words c.bit_of-bit.result) (sym c.deref.ensures.value) ∙ sym c.is_set.ensures ∙ c.if-not-is_set.false) in
    omega (arith, at_word, c.self.inside.words.ok.0)

pub change-requires-clause-at : goal.change-requires-clause-at
change-requires-clause-at c =
    set_is_inside c.self.inside.words.items c.bit_of-bit.result
    (ap (λ words. has_bit words c.bit_of-bit.result) (sym c.deref.ensures.value) ∙ sym c.is_set.ensures ∙ c.if-not-is_set.false)

pub returns-clause-tried : goal.returns-clause-tried
returns-clause-tried c =
    let inside = c.self.inside in
    let at_word = set_is_inside inside.words.items c.bit_of-bit.result
    (ap (λ words. has_bit words c.bit_of-bit.result) (sym c.deref.ensures.value) ∙ sym c.is_set.ensures ∙ c.if-not-is_set.false) in
    on_ok_weaker c.change.result
    (λ changed.
    tried_freed inside.geometry (undone inside.journal.items inside.words.items) inside.words.items c.change.new.words.items c.bit_of-bit.result c.index.result.now c.args.cell c.args.self.now
    c.self.view_is c.requires c.bit_of-bit.ensures.value at_word c.index.ensures changed)
    c.change.ensures.words
