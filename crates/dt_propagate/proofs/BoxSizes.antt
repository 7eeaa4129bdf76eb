-- Boxes hold together no more than each by itself.
use Rattle.std.proofs.Common.{◌≡◌, ◌==◌, ℕ, zero, suc, ◌+◌, ◌*◌, ◌≤◌, Bool, true, false, cond, ◌||◌, IsTrue, List, [], ◌∷◌, ◌++◌, length, map, refl, ap, ◌∙◌, arith}
use Rattle.std.proofs.lemmas.Bool.{false≢true, eq-eqb}
use Rattle.std.proofs.lemmas.Bool.Decides.{nat_tests}
use Rattle.dt_graph.specs.Graph.{has_number}
use Rattle.dt_graph.specs.Lawful.{AscendingNumbers}
use Rattle.dt_graph.proofs.ListMembers.{by_cases}
use Rattle.dt_propagate.specs.Boxes.{Box, is_within, is_within_any, left_of, after_class, in_turn, within, size, sum_of_sizes}
use Rattle.dt_propagate.specs.BoxLaws.{BoxesHoldNoMore}
use Rattle.dt_propagate.proofs.Boxes.{first_lower}
use Rattle.dt_graph.proofs.AscendingSets.{ascending_tail}

abbrev sum_over : (ℕ → ℕ) → List ℕ → ℕ
sum_over f [] = 0
sum_over f (c ∷ cs) = f c + sum_over f cs

sum_over-le : (f g : ℕ → ℕ) → ((c : ℕ) → f c ≤ g c) → (cs : List ℕ) → sum_over f cs ≤ sum_over g cs
sum_over-le f g h [] = omega arith
sum_over-le f g h (c ∷ cs) = omega (arith, h c, sum_over-le f g h cs)

sum_over-add : (f g : ℕ → ℕ) (cs : List ℕ) → sum_over (λ c. f c + g c) cs ≡ sum_over f cs + sum_over g cs
sum_over-add f g [] = omega arith
sum_over-add f g (c ∷ cs) = omega (arith, sum_over-add f g cs)

sum_over-none : (f : ℕ → ℕ) (cs : List ℕ) → ((c : ℕ) → IsTrue (has_number cs c) → f c ≡ 0) → sum_over f cs ≡ 0
sum_over-none f [] h = refl
sum_over-none f (c ∷ cs) h =
    omega (arith, h c (let e = eq-eqb c c refl in grind (arith, e)), sum_over-none f cs (λ n i. h n (grind (arith, i))))

-- of ascending numbers one at most is the given one
one_at_most : (q m : ℕ) (cs : List ℕ) → AscendingNumbers cs → sum_over (λ c. cond (q == c) m 0) cs ≤ m
one_at_most q m [] h = omega arith
one_at_most q m (c ∷ cs) h = by_cases (q == c)
    (λ t.
    let none : sum_over (λ c. cond (q == c) m 0) cs ≡ 0 = sum_over-none (λ c. cond (q == c) m 0) cs (λ n i.
    let low = first_lower c cs h n i in
    let f : (q == n) ≡ false = grind (arith, nat_tests) in rw f refl) in
    rw t (omega (arith, none)))
    (λ f. rw f (omega (arith, one_at_most q m cs (ascending_tail c cs h))))

either_le : (a b : Bool) (m : ℕ) → cond (a || b) m 0 ≤ cond a m 0 + cond b m 0
either_le true b m = omega arith
either_le false b m = omega arith

-- and no more of them are in a list than the list has
as_many_at_most : (set : List ℕ) (m : ℕ) (cs : List ℕ) → AscendingNumbers cs →
    sum_over (λ c. cond (has_number set c) m 0) cs ≤ length set * m
as_many_at_most [] m cs h = let none = sum_over-none (λ c. 0) cs (λ c i. refl) in omega (arith, none)
as_many_at_most (q ∷ set) m cs h =
    let a = sum_over-le (λ c. cond ((q == c) || has_number set c) m 0) (λ c. cond (q == c) m 0 + cond (has_number set c) m 0)
    (λ c. either_le (q == c) (has_number set c) m) cs in
    let b = sum_over-add (λ c. cond (q == c) m 0) (λ c. cond (has_number set c) m 0) cs in
    omega (arith, a, b, one_at_most q m cs h, as_many_at_most set m cs h)

pub length-both : {T : Type 0} (xs ys : List T) → length (xs ++ ys) ≡ length xs + length ys
length-both [] ys = omega arith
length-both (x ∷ xs) ys = omega (arith, length-both xs ys)

length-in_turn : {T : Type 0} (f : ℕ → List T) (cs : List ℕ) → length (in_turn f cs) ≡ sum_over (λ c. length (f c)) cs
length-in_turn f [] = refl
length-in_turn f (c ∷ cs) = length-both (f c) (in_turn f cs) ∙ ap (λ n. length (f c) + n) (length-in_turn f cs)

pub length-mapped : {T V : Type 0} (f : T → V) (xs : List T) → length (map f xs) ≡ length xs
length-mapped f [] = refl
length-mapped f (x ∷ xs) = ap suc (length-mapped f xs)

left_size : (marked : List ℕ) (class : ℕ) (set : List ℕ) (sets : List (List ℕ)) (needs_marked : Bool) (rest : List Box) →
    sum_of_sizes (left_of marked class (set ∷ sets) needs_marked rest)
    ≡ cond (has_number set class) (size sets) 0 + sum_of_sizes rest
left_size marked class set sets needs_marked rest = by_cases (has_number set class) (λ t. rw t refl) (λ f. rw f (omega arith))

-- what is left of the boxes, summed over the first classes
module _ (marked universe : List ℕ) (ascend : AscendingNumbers universe) where
  abbrev LeftSums : List Box → Type 0
  LeftSums boxes = sum_over (λ c. sum_of_sizes (after_class marked c boxes)) universe ≤ sum_of_sizes boxes

  one_more : (boxes : List Box) → LeftSums boxes → (sets : List (List ℕ)) (needs_marked : Bool) →
      sum_over (λ c. sum_of_sizes (left_of marked c sets needs_marked (after_class marked c boxes))) universe
      ≤ size sets + sum_of_sizes boxes
  one_more boxes later [] needs_marked = omega (arith, later)
  one_more boxes later (set ∷ sets) needs_marked =
      let a = sum_over-le (λ c. sum_of_sizes (left_of marked c (set ∷ sets) needs_marked (after_class marked c boxes)))
      (λ c. cond (has_number set c) (size sets) 0 + sum_of_sizes (after_class marked c boxes))
      (λ c. let e = left_size marked c set sets needs_marked (after_class marked c boxes) in omega (arith, e)) universe in
      let b = sum_over-add (λ c. cond (has_number set c) (size sets) 0) (λ c. sum_of_sizes (after_class marked c boxes)) universe in
      omega (arith, a, b, as_many_at_most set (size sets) universe ascend, later)

  left_sums : (boxes : List Box) → LeftSums boxes
  left_sums [] = let none = sum_over-none (λ c. 0) universe (λ c i. refl) in omega (arith, none)
  left_sums (box ∷ boxes) = one_more boxes (left_sums boxes) box.sets box.needs_marked

-- where the empty list is of a box, that box has no set
some_box : (marked : List ℕ) (boxes : List Box) → is_within_any marked boxes [] ≡ true → 1 ≤ sum_of_sizes boxes
some_box marked [] t = absurd (false≢true t)
some_box marked (box ∷ boxes) t = by_places box.sets box.needs_marked t (λ u. some_box marked boxes u)
  where
    by_places : (sets : List (List ℕ)) (needs_marked : Bool) →
        (is_within marked sets needs_marked [] || is_within_any marked boxes []) ≡ true →
        (is_within_any marked boxes [] ≡ true → 1 ≤ sum_of_sizes boxes) → 1 ≤ size sets + sum_of_sizes boxes
    by_places [] needs_marked t rest = omega arith
    by_places (set ∷ sets) needs_marked t rest = omega (arith, rest t)

pub boxes_hold_no_more : BoxesHoldNoMore
boxes_hold_no_more universe marked zero boxes ascend = by_cases (is_within_any marked boxes [])
    (λ t. rw t (some_box marked boxes t)) (λ f. rw f (omega arith))
boxes_hold_no_more universe marked (suc k) boxes ascend =
    let f : ℕ → List (List ℕ) = λ class. within universe marked k (after_class marked class boxes) in
    let all = length-in_turn (λ class. map (λ classes. class ∷ classes) (f class)) universe in
    let a = sum_over-le (λ class. length (map (λ classes. class ∷ classes) (f class))) (λ class. sum_of_sizes (after_class marked class boxes))
    (λ class. let e = length-mapped (λ classes. class ∷ classes) (f class) in
    omega (arith, e, boxes_hold_no_more universe marked k (after_class marked class boxes) ascend)) universe in
    omega (arith, all, a, left_sums marked universe ascend boxes)
