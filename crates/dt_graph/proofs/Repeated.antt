-- The first number that stands among earlier ones, found from the front on.
use Rattle.std.proofs.Common.{arith, ◌≡◌, ◌==◌, ℕ, ◌+◌, ◌<◌, ◌≤◌, true, false, cond, ◌||◌, List, [], ◌∷◌, ◌++◌, length, get_or, take, drop, Some, None, refl, sym, ap, ◌∙◌}
use Rattle.std.proofs.lemmas.Bool.{cond-true, cond-false}
use Rattle.std.proofs.lemmas.List.{drop_more, take_more, drop_all}
use Rattle.dt_graph.specs.Graph.{has_number}
use Rattle.dt_graph.specs.GraphChange.{first_repeated}

-- only which numbers are earlier counts, and not their order
same_earlier : (first second numbers : List ℕ) → ((n : ℕ) → has_number first n ≡ has_number second n) → first_repeated first numbers ≡ first_repeated second numbers
same_earlier first second [] same = refl
same_earlier first second (x ∷ numbers) same =
    rw (same x) (ap (λ o. cond (has_number second x) (Some x) o) (same_earlier (x ∷ first) (x ∷ second) numbers (λ n. ap (λ b. (x == n) || b) (same n))))

has_number-end : (numbers : List ℕ) (x n : ℕ) → has_number (x ∷ numbers) n ≡ has_number (numbers ++ x ∷ []) n
has_number-end [] x n = refl
has_number-end (y ∷ numbers) x n = let h = has_number-end numbers x n in grind arith

-- the number at this place is earlier too
pub repeated_here : (numbers : List ℕ) (i x : ℕ) → i < length numbers → x ≡ get_or numbers i x → first_repeated [] numbers ≡ first_repeated (take i numbers) (drop i numbers) → has_number (take i numbers) x ≡ true → first_repeated [] numbers ≡ Some x
repeated_here numbers i x inside read so_far earlier =
    so_far
    ∙ ap (first_repeated (take i numbers)) (drop_more numbers i x inside ∙ ap (λ n. n ∷ drop (i + 1) numbers) (sym read))
    ∙ cond-true (has_number (take i numbers) x) (Some x) (first_repeated (x ∷ take i numbers) (drop (i + 1) numbers)) earlier

-- it isn't
pub repeated_later : (numbers : List ℕ) (i x : ℕ) → i < length numbers → x ≡ get_or numbers i x → first_repeated [] numbers ≡ first_repeated (take i numbers) (drop i numbers) → has_number (take i numbers) x ≡ false → first_repeated [] numbers ≡ first_repeated (take (i + 1) numbers) (drop (i + 1) numbers)
repeated_later numbers i x inside read so_far earlier =
    so_far
    ∙ ap (first_repeated (take i numbers)) (drop_more numbers i x inside ∙ ap (λ n. n ∷ drop (i + 1) numbers) (sym read))
    ∙ cond-false (has_number (take i numbers) x) (Some x) (first_repeated (x ∷ take i numbers) (drop (i + 1) numbers)) earlier
    ∙ same_earlier (x ∷ take i numbers) (take (i + 1) numbers) (drop (i + 1) numbers)
    (λ n. has_number-end (take i numbers) x n ∙ ap (λ ns. has_number ns n) (ap (λ y. take i numbers ++ y ∷ []) read ∙ sym (take_more numbers i x inside)))

-- no place is left
pub none_repeated : (numbers : List ℕ) (i : ℕ) → length numbers ≤ i → first_repeated [] numbers ≡ first_repeated (take i numbers) (drop i numbers) → first_repeated [] numbers ≡ None
none_repeated numbers i all so_far = so_far ∙ ap (first_repeated (take i numbers)) (drop_all i numbers all)
