-- What holds of every query that is kept.
use Rattle.std.proofs.Common.{◌≡◌, ℕ, zero, suc, ◌<◌, List, length, take, get_or, All, arith, length-take-le}
use Rattle.std.proofs.lemmas.List.Elements.{All-from_get_or, All-take}
use Rattle.dt_scratch.specs.Query.{LawfulQuery}
use Rattle.dt_scratch.specs.QueryParts.{IsPadded}

-- four numbers are below a limit where each of them is
pub four_below : (limit : ℕ) (numbers : List ℕ) → length numbers ≡ 4 → get_or numbers 0 0 < limit →
    get_or numbers 1 0 < limit → get_or numbers 2 0 < limit → get_or numbers 3 0 < limit → All (λ n. n < limit) numbers
four_below limit numbers four a b c d = All-from_get_or (λ n. n < limit) numbers 0 each
  where
    each : (i : ℕ) → i < length numbers → get_or numbers i 0 < limit
    each zero inside = a
    each (suc zero) inside = b
    each (suc (suc zero)) inside = c
    each (suc (suc (suc zero))) inside = d
    each (suc (suc (suc (suc i)))) inside = absurd (omega (arith, four, inside))

-- so a query is lawful by how it is kept
pub lawful_query : (selector arity : ℕ) (positions : List ℕ) → IsPadded arity positions → selector < 65536 →
    All (λ n. n < 65536) positions → LawfulQuery (record { selector = selector; classes = take arity positions })
lawful_query selector arity positions padded in_range all =
    let same = length-take-le arity positions (omega (arith, padded.few, padded.four)) in
    record {
      some = omega (arith, same, padded.some);
      few = omega (arith, same, padded.few);
      selector_in_range = in_range;
      classes_in_range = All-take (λ n. n < 65536) arity positions all;
    }
