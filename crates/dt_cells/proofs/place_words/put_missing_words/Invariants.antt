use Rattle.std.proofs.Common.{◌≡◌, ◌==◌, ◌&&◌, ℕ, take, map, if◌then◌else◌}
use Rattle.dt_pages.specs.Reading.{Reading}
use Rattle.dt_pages.specs.Image.{look_up}
use Rattle.dt_pages.specs.Draft.{laid_over}
use Rattle.dt_cells.specs.Regions.{place_of}
use Rattle.dt_cells.specs.PlaceWords.{is_place_among}
use Rattle.dt_cells.proofs.place_words.put_missing_words.Given as goal

abbrev pub invariant-loop-index : goal.invariant-loop-index
invariant-loop-index l = (read : Reading) → l.words ≡ map (λ selector. read (place_of selector)) l.selectors
    → (address : ℕ) → laid_over l.draft (look_up l.tree) address
    ≡ (if is_place_among (take l.index l.selectors) address && (laid_over l.initial.draft (look_up l.tree) address == 0) then read address else laid_over l.initial.draft (look_up l.tree) address)
