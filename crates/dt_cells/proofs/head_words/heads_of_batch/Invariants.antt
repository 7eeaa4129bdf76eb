use Rattle.std.proofs.Common.{◌≡◌, ℕ, take, if◌then◌else◌}
use Rattle.dt_pages.specs.Reading.{Reading}
use Rattle.dt_pages.specs.Draft.{laid_over}
use Rattle.dt_cells.specs.Heads.{sets_head_any, with_heads}
use Rattle.dt_cells.proofs.head_words.heads_of_batch.Given as goal

abbrev pub invariant-loop-place : goal.invariant-loop-place
invariant-loop-place l = (base : Reading) (address : ℕ) → laid_over l.draft base address
    ≡ (if sets_head_any address (take l.place l.fn.batch) then with_heads l.old l.new (laid_over l.initial.draft base) address else laid_over l.initial.draft base address)
