use Rattle.std.proofs.Common.{◌≡◌, ℕ, List, sym, subst, rules}
use Rattle.dt_cells.specs.Held.{held_after}
use Rattle.dt_fit.specs.Cells.{Cells}
use Rattle.dt_placing.specs.Placing.{Kept, Stands, Follows, with_words}
use Rattle.dt_placing.proofs.Keeping.{settled}
use Rattle.dt_placing.proofs.places.SelectorPlaces.settle.Goals as goal

pub returns : goal.returns
returns c = λ x held changes y st follows places stay.
    let g = c.args.geometry in
    let kept : Kept = record { words = c.self.inside.words.items; cells = c.self.inside.cells } in
    let view : c.args.self.now ≡ kept = search rules in
    subst (λ (l : List ℕ). Stands g (record { words = l; cells = c.keep.new.self }) y (held_after held changes)) (sym c.put_words.ensures.words)
    (subst (λ (cells : Cells). Stands g (record { words = with_words c.args.staged.now c.self.inside.words.items; cells = cells }) y (held_after held changes)) (sym c.keep.ensures)
    (settled g kept c.args.staged.now x y held changes (subst (λ (k : Kept). Stands g k x held) view st) (subst (λ (k : Kept). Follows g k c.args.staged.now x held changes) view follows) places stay))
