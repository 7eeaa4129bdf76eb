-- What several boxes hold together.
use Rattle.std.proofs.Common.{◌≡◌, ◌==◌, ℕ, zero, suc, Bool, true, ◌&&◌, ◌||◌, IsTrue, List, [], ◌∷◌, ◌++◌, length, map, inl, inr, ⊎_elim, refl, sym, ap, subst, ◌∙◌, arith, All}
use Rattle.std.specs.Prelude.{nat_lt}
use Rattle.std.proofs.lemmas.Bool.{false≢true, or_cases, or_left, or_right, eqb-true, eq-eqb}
use Rattle.std.proofs.lemmas.Bool.Decides.{nat_tests}
use Rattle.std.proofs.lemmas.List.Elements.{All-nil, All-head, All-tail}
use Rattle.dt_graph.specs.Graph.{has_number}
use Rattle.dt_graph.specs.Lawful.{AscendingNumbers}
use Rattle.dt_definitions.specs.Program.{are_classes_before}
use Rattle.dt_graph.proofs.ListMembers.{by_cases, In, In-append, In-from_append, In-later, In-map, In-from_map, In-from_Contains, Contains-from_In, All-from_In, All-In}
use Rattle.dt_graph.proofs.AscendingSets.{ascending_tail}
use Rattle.dt_graph.proofs.Ascending.{first_is_lowest}
use Rattle.dt_propagate.specs.Boxes.{Box, is_within, is_within_any, left_of, after_class, in_turn, within}
use Rattle.dt_propagate.specs.BoxLaws.{EachBeforeLater, BoxesHoldExactly, BoxesAscend}

-- ---- what is left after a first class

left_is : (marked : List ℕ) (class : ℕ) (sets : List (List ℕ)) (needs_marked : Bool) (rest : List Box) (classes : List ℕ) →
    is_within_any marked (left_of marked class sets needs_marked rest) classes
    ≡ (is_within marked sets needs_marked (class ∷ classes) || is_within_any marked rest classes)
left_is marked class [] needs_marked rest classes = refl
left_is marked class (set ∷ sets) needs_marked rest classes =
    by_cases (has_number set class) (λ t. rw t refl) (λ f. rw f refl)

after_is : (marked : List ℕ) (class : ℕ) (boxes : List Box) (classes : List ℕ) →
    is_within_any marked (after_class marked class boxes) classes ≡ is_within_any marked boxes (class ∷ classes)
after_is marked class [] classes = refl
after_is marked class (box ∷ boxes) classes =
    left_is marked class box.sets box.needs_marked (after_class marked class boxes) classes
    ∙ ap (λ b. is_within marked box.sets box.needs_marked (class ∷ classes) || b) (after_is marked class boxes classes)

-- ---- members

pub In-turn : {T : Type 0} (f : ℕ → List T) (classes : List ℕ) (class : ℕ) (x : T) → IsTrue (has_number classes class) →
    In (f class) x → In (in_turn f classes) x
In-turn f [] class x h i = absurd (false≢true h)
In-turn f (c ∷ cs) class x h i = ⊎_elim
    (λ here. In-append (f c) (in_turn f cs) x (subst (λ n. In (f n) x) (sym (eqb-true c class here)) i))
    (λ later. In-later (f c) (in_turn f cs) x (In-turn f cs class x later i))
    (or_cases (c == class) (has_number cs class) h)

pub In-from_turn : {T : Type 0} (f : ℕ → List T) (classes : List ℕ) (x : T) → In (in_turn f classes) x →
    (class : ℕ) × IsTrue (has_number classes class) × In (f class) x
In-from_turn f [] x i = absurd i
In-from_turn f (c ∷ cs) x i = ⊎_elim
    (λ here. (c, or_left (c == c) (has_number cs c) (eq-eqb c c refl), here))
    (λ later. let r = In-from_turn f cs x later in (r.0, or_right (c == r.0) (has_number cs r.0) r.1, r.2))
    (In-from_append (f c) (in_turn f cs) x i)

-- ---- exactly these

module _ (universe marked : List ℕ) where
  abbrev begun : ℕ → List Box → ℕ → List (List ℕ)
  begun k boxes class = map (λ classes. class ∷ classes) (within universe marked k (after_class marked class boxes))

  sound : (k : ℕ) (boxes : List Box) (classes : List ℕ) → In (within universe marked k boxes) classes →
      IsTrue (is_within_any marked boxes classes) × (length classes ≡ k)
  sound zero boxes classes i =
      by_cases (is_within_any marked boxes [])
      (λ t. let j : In ([] ∷ []) classes = rw t at i in none classes t j)
      (λ f. let j : In {T = List ℕ} [] classes = rw f at i in absurd j)
    where
      none : (classes : List ℕ) → is_within_any marked boxes [] ≡ true → In ([] ∷ []) classes →
          IsTrue (is_within_any marked boxes classes) × (length classes ≡ zero)
      none classes t (inl e) = (subst (λ cs. IsTrue (is_within_any marked boxes cs)) (sym e) t, ap length e)
      none classes t (inr j) = absurd j
  sound (suc k) boxes classes i =
      let first = In-from_turn (begun k boxes) universe classes i in
      let rest = In-from_map (λ cs. first.0 ∷ cs) (within universe marked k (after_class marked first.0 boxes)) classes first.2 in
      let h = sound k (after_class marked first.0 boxes) rest.0 rest.1 in (
        subst (λ cs. IsTrue (is_within_any marked boxes cs)) (sym rest.2) (sym (after_is marked first.0 boxes rest.0) ∙ h.0),
        ap length rest.2 ∙ ap suc h.1,
      )

  complete : (k : ℕ) (boxes : List Box) (classes : List ℕ) → IsTrue (is_within_any marked boxes classes) → length classes ≡ k →
      All (λ class. IsTrue (has_number universe class)) classes → In (within universe marked k boxes) classes
  complete zero boxes [] t e live = rw t (inl refl)
  complete zero boxes (class ∷ classes) t e live = absurd (omega (arith, e))
  complete (suc k) boxes [] t e live = absurd (omega (arith, e))
  complete (suc k) boxes (class ∷ classes) t e live =
      let P : ℕ → Type 0 = λ c. IsTrue (has_number universe c) in
      In-turn (begun k boxes) universe class (class ∷ classes) (All-head P class classes live)
      (In-map (λ cs. class ∷ cs) (within universe marked k (after_class marked class boxes)) classes
      (complete k (after_class marked class boxes) classes (after_is marked class boxes classes ∙ t)
      (omega (arith, e)) (All-tail P class classes live)))

pub boxes_hold_exactly : BoxesHoldExactly
boxes_hold_exactly universe marked k boxes = record {
  sound = λ classes there. sound universe marked k boxes classes (In-from_Contains (within universe marked k boxes) classes there);
  complete = λ classes t e live. Contains-from_In (within universe marked k boxes) classes (complete universe marked k boxes classes t e live);
}

-- ---- in order

abbrev Before : List ℕ → List ℕ → Type 0
Before a b = IsTrue (are_classes_before a b)

append_in_order : (xs ys : List (List ℕ)) → EachBeforeLater xs → EachBeforeLater ys →
    ((x y : List ℕ) → In xs x → In ys y → Before x y) → EachBeforeLater (xs ++ ys)
append_in_order [] ys hx hy apart = hy
append_in_order (x ∷ xs) ys hx hy apart = (
  All-from_In (Before x) (xs ++ ys) (λ y i. ⊎_elim
      (λ j. All-In (Before x) xs y hx.0 j)
      (λ j. apart x y (inl refl) j)
      (In-from_append xs ys y i)),
  append_in_order xs ys hx.1 hy (λ a b i j. apart a b (inr i) j),
)

same_first : (class : ℕ) (a b : List ℕ) → Before a b → Before (class ∷ a) (class ∷ b)
same_first class a b h = let e = eq-eqb class class refl in grind (arith, e)

lower_first : (low high : ℕ) (a b : List ℕ) → IsTrue (nat_lt low high) → Before (low ∷ a) (high ∷ b)
lower_first low high a b h = or_left (nat_lt low high) ((low == high) && are_classes_before a b) h

begun_in_order : (class : ℕ) (xs : List (List ℕ)) → EachBeforeLater xs → EachBeforeLater (map (λ cs. class ∷ cs) xs)
begun_in_order class [] h = tt
begun_in_order class (x ∷ xs) h = (
  All-from_In (Before (class ∷ x)) (map (λ cs. class ∷ cs) xs) (λ y i.
      let r = In-from_map (λ cs. class ∷ cs) xs y i in
      subst (Before (class ∷ x)) (sym r.2) (same_first class x r.0 (All-In (Before x) xs r.0 h.0 r.1))),
  begun_in_order class xs h.1,
)

-- the first of ascending numbers is lower than all others
pub first_lower : (c : ℕ) (cs : List ℕ) → AscendingNumbers (c ∷ cs) → (n : ℕ) → IsTrue (has_number cs n) → IsTrue (nat_lt c n)
first_lower c cs h n i = let low = first_is_lowest c cs h n i in grind (arith, nat_tests)

turns_in_order : (f : ℕ → List (List ℕ)) → ((class : ℕ) → EachBeforeLater (map (λ cs. class ∷ cs) (f class))) →
    (classes : List ℕ) → AscendingNumbers classes → EachBeforeLater (in_turn (λ class. map (λ cs. class ∷ cs) (f class)) classes)
turns_in_order f each [] h = tt
turns_in_order f each (c ∷ cs) h =
    append_in_order (map (λ x. c ∷ x) (f c)) (in_turn (λ class. map (λ x. class ∷ x) (f class)) cs) (each c)
    (turns_in_order f each cs (ascending_tail c cs h))
    (λ x y i j.
    let a = In-from_map (λ cs. c ∷ cs) (f c) x i in
    let t = In-from_turn (λ class. map (λ cs. class ∷ cs) (f class)) cs y j in
    let b = In-from_map (λ cs. t.0 ∷ cs) (f t.0) y t.2 in
    subst (λ v. Before v y) (sym a.2) (subst (Before (c ∷ a.0)) (sym b.2)
    (lower_first c t.0 a.0 b.0 (first_lower c cs h t.0 t.1))))

module _ (universe marked : List ℕ) (ascend : AscendingNumbers universe) where
  in_order : (k : ℕ) (boxes : List Box) → EachBeforeLater (within universe marked k boxes)
  in_order zero boxes = by_cases (is_within_any marked boxes [])
      (λ t. rw t (All-nil (Before []), tt)) (λ f. rw f tt)
  in_order (suc k) boxes =
      turns_in_order (λ class. within universe marked k (after_class marked class boxes))
      (λ class. begun_in_order class (within universe marked k (after_class marked class boxes)) (in_order k (after_class marked class boxes)))
      universe ascend

pub boxes_ascend : BoxesAscend
boxes_ascend universe marked k boxes ascend = in_order universe marked ascend k boxes
