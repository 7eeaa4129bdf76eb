use Rattle.std.proofs.Common.{◌==◌, ◌+◌, if◌then◌else◌, sym, ap, ◌∙◌}
use Rattle.dt_pages.specs.Image.{look_up}
use Rattle.dt_pages.specs.Draft.{laid_over}
use Rattle.dt_cells.specs.HeldLaws.{if_true, if_false}
use Rattle.dt_placing.proofs.staying.stay.Goals.{then-has_cell, else-has_cell}
use Rattle.dt_placing.proofs.staying.stay.Goals as goal

pub returns-clause-changed : goal.returns-clause-changed
returns-clause-changed c =
    let x = look_up c.args.tree.now in
    let laid = laid_over c.change_cells.new.draft x in
    record {
      laid = laid;
      has_cell = c.has_cell-has_cell.result;
      words = c.in_ok-change_cells.ensures.words;
      cells = c.in_ok-change_cells.ensures.tried;
      cell = c.has_cell-has_cell.ensures;
      word_is = elim c.if-has_cell.branch [
        | then-has_cell w ↦ w.word-is ∙ sym (if_true c.has_cell-has_cell.result c.args.before 0 w.if-has_cell.true)
        | else-has_cell w ↦ w.word-is ∙ sym (if_false c.has_cell-has_cell.result c.args.before 0 w.if-has_cell.false)
      ];
      places = λ address. c.in_ok-set_other.ensures address
          ∙ ap (λ a. if address == a then c.from.result else laid address) c.place_address.ensures
          ∙ ap (λ w. if address == 8192 + c.args.selector then w else laid address) c.from.ensures;
    }
