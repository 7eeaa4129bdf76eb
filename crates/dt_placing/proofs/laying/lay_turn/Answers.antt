use Rattle.std.proofs.Common.{◌==◌, ◌+◌, if◌then◌else◌, ap, ◌∙◌}
use Rattle.dt_pages.specs.Image.{look_up}
use Rattle.dt_pages.specs.Draft.{laid_over}
use Rattle.dt_placing.proofs.laying.lay_turn.Goals as goal

pub returns : goal.returns
returns c =
    let x = look_up c.args.tree.now in
    record {
      cleared = laid_over c.clear_row.new.draft x;
      laid = laid_over c.lay_row.new.draft x;
      clears = c.in_ok-clear_row.ensures;
      lays = c.in_ok-lay_row.ensures;
      places = λ address. c.in_ok-set.ensures.reads x address
          ∙ ap (λ a. if address == a then c.from.result else laid_over c.lay_row.new.draft x address) c.place_address.ensures
          ∙ ap (λ w. if address == 8192 + c.args.selector then w else laid_over c.lay_row.new.draft x address) c.from.ensures;
    }
