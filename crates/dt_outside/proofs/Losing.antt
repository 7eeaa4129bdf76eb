-- What a source lost, from what was read of it.
use Rattle.std.proofs.Common.{◌≡◌, ℕ, ◌-◌, ◌≤◌, List, [], ◌++◌, length, Option, Some, None, sym, ap, ◌∙◌, arith, append_assoc, length-append}
use Rattle.dt_outside.specs.Losing.{Moves, LosesAtMost}

-- what was moved is lost, and what is lost after that
pub loses_more : (limit count : ℕ) (old middle new : Option (List ℕ)) (bytes : List ℕ) → count ≡ length bytes → count ≤ limit → Moves old [] middle bytes
    → LosesAtMost (limit - count) middle new → LosesAtMost limit old new
loses_more limit count None middle new bytes counted few moved lost = tt
loses_more limit count (Some left) None new bytes counted few moved lost = absurd moved
loses_more limit count (Some left) (Some rest) None bytes counted few moved lost = absurd lost
loses_more limit count (Some left) (Some rest) (Some last) bytes counted few moved (gone, few', split) = (
  bytes ++ gone,
  omega (arith, counted, few, few', length-append bytes gone),
  moved ∙ ap (λ l. bytes ++ l) split ∙ sym (append_assoc bytes gone last),
)
