-- One step of reading the class words of a query.
use Rattle.std.proofs.Common.{◌≡◌, ◌≤◌, ◌<◌, ◌+◌, ◌*◌, ℕ, zero, suc, true, false, if◌then◌else◌, List, [], ◌∷◌, take, drop, length, get_or, All, sym, ap, ◌∙◌, arith}
use Rattle.std.specs.Prelude.{Some, nat_lt, not, ◌==◌}
use Rattle.std.proofs.lemmas.Bool.{and_parts}
use Rattle.std.proofs.lemmas.List.Elements.{All-nil, All-cons, All-head, All-tail}
use Rattle.dt_pages.specs.Reading.{Reading}
use Rattle.dt_cells.specs.Regions.{class_numbers}
use Rattle.dt_cells.specs.Find.{is_class_read, first_unread}

-- the class of this place is live by its word
pub one_read : (x : Reading) (place : ℕ) (classes : List ℕ) (index d : ℕ) → index < length classes → is_class_read x (get_or classes index d) ≡ true
    → first_unread x place (drop index classes) ≡ first_unread x (place + 1) (drop (index + 1) classes)
one_read x place [] index d within read = absurd (omega arith)
one_read x place (class ∷ classes) zero d within read = ap (λ b. if b then first_unread x (place + 1) classes else Some place) read
one_read x place (class ∷ classes) (suc index) d within read =
    let e : suc index + 1 ≡ suc (index + 1) = omega arith in
    one_read x place classes index d (omega arith) read ∙ ap (λ n. first_unread x (place + 1) (drop n (class ∷ classes))) (sym e)

-- the class of this place isn't
pub none_read : (x : Reading) (place : ℕ) (classes : List ℕ) (index d : ℕ) → index < length classes → is_class_read x (get_or classes index d) ≡ false
    → first_unread x place (drop index classes) ≡ Some place
none_read x place [] index d within read = absurd (omega arith)
none_read x place (class ∷ classes) zero d within read = ap (λ b. if b then first_unread x (place + 1) classes else Some place) read
none_read x place (class ∷ classes) (suc index) d within read = none_read x place classes index d (omega arith) read

-- a class that is live by its word is in range
pub read_in_range : (x : Reading) (class : ℕ) → is_class_read x class ≡ true → class < class_numbers
read_in_range x class read = below class class_numbers (and_parts (nat_lt class class_numbers) (not (x class == 0)) read).0
  where
    below : (a b : ℕ) → nat_lt a b ≡ true → a < b
    below a b t = grind arith

pub range_more : (classes : List ℕ) (index d : ℕ) → index < length classes → All (λ class. class < class_numbers) (take index classes)
    → get_or classes index d < class_numbers → All (λ class. class < class_numbers) (take (index + 1) classes)
range_more [] index d within all here = absurd (omega arith)
range_more (class ∷ classes) zero d within all here = All-cons (λ c. c < class_numbers) class [] here (All-nil (λ c. c < class_numbers))
range_more (class ∷ classes) (suc index) d within all here =
    let e : suc index + 1 ≡ suc (index + 1) = omega arith in
    rw e (All-cons (λ c. c < class_numbers) class (take (index + 1) classes) (All-head (λ c. c < class_numbers) class (take index classes) all)
    (range_more classes index d (omega arith) (All-tail (λ c. c < class_numbers) class (take index classes) all) here))

-- the cost of one more word
pub one_more : (start now next index cost : ℕ) → now ≤ start + index * cost → next ≤ now + cost → next ≤ start + (index + 1) * cost
one_more start now next index cost before more = grind arith

pub some_of : (start now next index count cost : ℕ) → now ≤ start + index * cost → next ≤ now + cost → index < count → next ≤ start + count * cost
some_of start now next index count cost before more within = grind arith
