-- Counting over lists up to the greatest number, one item after another.
use Rattle.std.proofs.Common.{◌≡◌, true, false, Bool, ℕ, ◌+◌, ◌*◌, ◌^◌, ◌<◌, ◌≤◌, List, [], ◌∷◌, length, take, get_or, not, refl, sym, ap, ◌∙◌, arith}
use Rattle.std.specs.Prelude.{min}
use Rattle.std.specs.List.{fold, sum_by}
use Rattle.std.proofs.lemmas.List.Sums.{fold_more, sum_by_more, sum_by-cons, sum_by-le-sum_by}
use Rattle.dt_script.specs.NameBook.{NameBook}
use Rattle.dt_run.specs.Log.{Log, PhaseLog, PartLog}
use Rattle.dt_run.specs.Summary.{IsCountable, batches_in, count_batches, count_told, is_as, is_told, number_of, one_if, told_by, told_in}
use Rattle.dt_run.specs.Tallying.{greatest}
use Rattle.dt_run.specs.declared.print.figure.Figure.{Figure}
use Rattle.dt_run.specs.declared.print.figure.Told.{Told}

-- a number of one item more
pub one_more : {X : Type 0} (f : X → ℕ) (xs : List X) (i : ℕ) (d x : X) (before count after : ℕ) → i < length xs → x ≡ get_or xs i d
    → count ≡ min (before + sum_by f (take i xs)) greatest → after ≡ min (count + f x) greatest → after ≡ min (before + sum_by f (take (i + 1) xs)) greatest
one_more f xs i d x before count after below is so_far next =
    let more = sum_by_more f xs i d below ∙ ap (λ n. sum_by f (take i xs) + n) (sym (ap f is)) in
    omega (arith, more, so_far, next)

-- a value of one item more
pub folded_more : {X Y : Type 0} (f : Y → X → Y) (a : Y) (xs : List X) (i : ℕ) (d x : X) (so_far after : Y) → i < length xs → x ≡ get_or xs i d
    → so_far ≡ fold f a (take i xs) → after ≡ f so_far x → after ≡ fold f a (take (i + 1) xs)
folded_more f a xs i d x so_far after below is before next =
    next ∙ ap (λ y. f y x) before ∙ ap (f (fold f a (take i xs))) is ∙ sym (fold_more f a xs i d below)

one_if_few : (b : Bool) → one_if b ≤ 1
one_if_few true = omega arith
one_if_few false = omega arith

-- of a list no more are counted than it has
counted_few : {X : Type 0} (p : X → Bool) (xs : List X) → sum_by (λ x. one_if (p x)) xs ≤ length xs
counted_few p [] = omega arith
counted_few p (x ∷ xs) = omega (arith, sum_by-cons (λ y. one_if (p y)) x xs, one_if_few (p x), counted_few p xs)

pub told_few : (what : Told) (log : Log) → IsCountable log → count_told what log < 2 ^ 64
told_few what log (edits, calls) =
    let few = sum_by-le-sum_by (told_in what) (λ phase. sum_by (λ part. length part.lines) phase.callers) log.phases
    (λ phase. sum_by-le-sum_by (told_by what) (λ part. length part.lines) phase.callers (λ part. counted_few (is_told what) part.lines)) in
    omega (arith, few, calls)

pub batches_few : (accepted : Bool) (log : Log) → IsCountable log → count_batches accepted log < 2 ^ 64
batches_few accepted log (edits, calls) =
    let few = sum_by-le-sum_by (batches_in accepted) (λ phase. length phase.edits) log.phases (λ phase. counted_few (is_as accepted) phase.edits) in
    omega (arith, few, edits)

-- a number that was counted up to the greatest is the one of its line
pub is_exact : (book : NameBook) (log : Log) (figure line : Figure) (number counted : ℕ) → figure ≡ line → number_of book log line ≡ number → number < 2 ^ 64
    → counted ≡ min number greatest → counted ≡ number_of book log figure
is_exact book log figure line number counted is of few so_far =
    let exact : counted ≡ number = omega (arith, few, so_far) in
    exact ∙ sym of ∙ sym (ap (number_of book log) is)
