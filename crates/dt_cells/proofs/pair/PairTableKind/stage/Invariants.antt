use Rattle.std.proofs.Common.{◌≡◌, ℕ, take, if◌then◌else◌}
use Rattle.dt_pages.specs.Image.{look_up}
use Rattle.dt_pages.specs.Draft.{laid_over}
use Rattle.dt_cells.specs.PlaceWords.{is_place_among, own_words}
use Rattle.dt_cells.proofs.pair.PairTableKind.stage.Given as goal

abbrev pub invariant-loop-selector : goal.invariant-loop-selector
invariant-loop-selector g l = (address : ℕ) → laid_over l.draft (look_up l.tree) address
    ≡ (if is_place_among (take l.selector-index l.selectors) address then own_words (g.A.TableKind.is_placed l.self.first) (look_up l.tree) address else laid_over l.initial.draft (look_up l.tree) address)

abbrev pub invariant-loop-selector-2 : goal.invariant-loop-selector-2
invariant-loop-selector-2 g l = (address : ℕ) → laid_over l.draft (look_up l.tree) address
    ≡ (if is_place_among (take l.selector-index l.selectors) address then own_words (g.B.TableKind.is_placed l.self.rest) (look_up l.tree) address else laid_over l.initial.draft (look_up l.tree) address)
