use Rattle.std.proofs.Common.{◌≡◌, ◌+◌, ◌&&◌, ℕ, if◌then◌else◌, nat_lt, nat_le}
use Rattle.dt_pages.specs.Reading.{Reading}
use Rattle.dt_pages.specs.Draft.{laid_over}
use Rattle.dt_cells.specs.Heads.{with_heads}
use Rattle.dt_cells.proofs.head_words.selector_heads.Given as goal

abbrev pub invariant-loop-number : goal.invariant-loop-number
invariant-loop-number l = (base : Reading) (address : ℕ) → laid_over l.draft base address
    ≡ (if nat_le 4096 address && nat_lt address (4096 + l.number) then with_heads l.old l.new (laid_over l.initial.draft base) address else laid_over l.initial.draft base address)
