-- The cells and rows that are counted are those of the program, each once.
use Rattle.std.proofs.Common.{◌≡◌, ◌≢◌, ◌==◌, ℕ, zero, suc, ◌+◌, ◌-◌, ◌<◌, Bool, true, false, IsTrue, List, [], ◌∷◌, ◌++◌, length, map, filter, inl, inr, ⊎_elim, refl, sym, ap, subst, ◌∙◌, arith, eqb-true, eq-eqb}
use Rattle.std.specs.Prelude.{nat_lt, None, Some, sum_by}
use Rattle.std.proofs.lemmas.Bool.{false≢true}
use Rattle.std.proofs.lemmas.List.{length-map}
use Rattle.std.proofs.lemmas.List.Sums.{sum_by-cons}
use Rattle.dt_graph.specs.Graph.{has_number, is_live}
use Rattle.dt_graph.specs.InOrder.{Ascends}
use Rattle.dt_graph.specs.Lawful.{AscendingNumbers}
use Rattle.dt_graph.proofs.ListMembers.{by_cases, In, In-from_Contains, Contains-from_In, In-append, In-later, In-from_append, In-map, In-from_map, In-filter, In-from_filter, any_from_In, In-from_any, All-In}
use Rattle.dt_selectors.specs.Selectors.{Selector, arity_in}
use Rattle.dt_selectors.specs.Lawful.{AscendingSelectors}
use Rattle.dt_definitions.specs.Program.{Program}
use Rattle.dt_definitions.specs.Lawful.{Lawful}
use Rattle.dt_scratch.specs.declared.reply.Answer.{Answer}
use Rattle.dt_scratch.specs.declared.reply.Answer.TheVariants.{Method, NotUnderstood, Ambiguous}
use Rattle.dt_scratch.specs.Query.{Query, query_order}
use Rattle.dt_scratch.specs.Resolve.{cell}
use Rattle.dt_scratch.proofs.Cells.{understood_cells}
use Rattle.dt_propagate.specs.Boxes.{in_turn}
use Rattle.dt_propagate.specs.Begun.{told_cell, told_row, row_lengths}
use Rattle.dt_propagate.specs.GoneThrough.{told_of_all, all_arities}
use Rattle.dt_propagate.specs.Counts.{NoneTwice}
use Rattle.dt_propagate.specs.Differences.{AreAll, MoreThan}
use Rattle.dt_propagate.specs.Understood.{Understands, IsRow, gone_on}
use Rattle.dt_propagate.specs.declared.limits.TheConstants.{CELLS, ROWS}
use Rattle.dt_propagate.proofs.BoxSizes.{length-both}
use Rattle.dt_propagate.proofs.CellsAndRows.{cells_all, rows_all}
use Rattle.dt_propagate.proofs.Counts.{parts_are_no_longer}
use Rattle.dt_propagate.proofs.MoreThan.{none_twice}
use Rattle.dt_tables.specs.Listed.{lists_of, is_understood, understands, cells_of, goes_on, rows_below}
use Rattle.dt_tables.specs.Laws.{CellsAreCounted, RowsAreCounted}

-- ---- lists in which no element stands twice

abbrev Once : {T : Type 0} → List T → Type 0
Once [] = Unit {0}
Once (x ∷ xs) = (In xs x → ⊥) × Once xs

once_twice : {T : Type 0} (xs : List T) → Once xs → NoneTwice xs
once_twice [] h = tt
once_twice (x ∷ xs) h = (λ there. h.0 (In-from_Contains xs x there), once_twice xs h.1)

once_both : {T : Type 0} (xs ys : List T) → Once xs → Once ys → ((x : T) → In xs x → In ys x → ⊥) → Once (xs ++ ys)
once_both [] ys first rest apart = rest
once_both (x ∷ xs) ys first rest apart = (
  λ i. ⊎_elim first.0 (apart x (inl refl)) (In-from_append xs ys x i),
  once_both xs ys first.1 rest (λ y i j. apart y (inr i) j),
)

once_map : {T V : Type 0} (f : T → V) (xs : List T) → ((x y : T) → f x ≡ f y → x ≡ y) → Once xs → Once (map f xs)
once_map f [] same once = tt
once_map f (x ∷ xs) same once = (
  λ i. let at = In-from_map f xs (f x) i in once.0 (subst (In xs) (sym (same x at.0 at.2)) at.1),
  once_map f xs same once.1,
)

once_filter : {T : Type 0} (test : T → Bool) (xs : List T) → Once xs → Once (filter test xs)
once_filter test [] once = tt
once_filter test (x ∷ xs) once = by_cases (test x)
    (λ t. rw t (λ i. once.0 (In-from_filter test xs x i).0, once_filter test xs once.1))
    (λ f. rw f (once_filter test xs once.1))

turns_from : {T : Type 0} (f : ℕ → List T) (cs : List ℕ) (x : T) → In (in_turn f cs) x → (c : ℕ) × In cs c × In (f c) x
turns_from f [] x i = absurd i
turns_from f (c ∷ cs) x i = ⊎_elim (λ a. (c, inl refl, a)) (λ b. let r = turns_from f cs x b in (r.0, inr r.1, r.2)) (In-from_append (f c) (in_turn f cs) x i)

turns_there : {T : Type 0} (f : ℕ → List T) (cs : List ℕ) (c : ℕ) (x : T) → In cs c → In (f c) x → In (in_turn f cs) x
turns_there f [] c x i j = absurd i
turns_there f (d ∷ cs) c x (inl e) j = In-append (f d) (in_turn f cs) x (subst (λ n. In (f n) x) e j)
turns_there f (d ∷ cs) c x (inr i) j = In-later (f d) (in_turn f cs) x (turns_there f cs c x i j)

once_turns : {T : Type 0} (f : ℕ → List T) (cs : List ℕ) → Once cs → ((c : ℕ) → Once (f c))
    → ((c d : ℕ) (x : T) → In (f c) x → In (f d) x → c ≡ d) → Once (in_turn f cs)
once_turns f [] once each apart = tt
once_turns f (c ∷ cs) once each apart = once_both (f c) (in_turn f cs) (each c) (once_turns f cs once.1 each apart)
    (λ x i j. let r = turns_from f cs x j in once.0 (subst (In cs) (sym (apart c r.0 x i r.2)) r.1))

-- ---- lists of classes

same_head : (a b : ℕ) (xs ys : List ℕ) → a ∷ xs ≡ b ∷ ys → a ≡ b
same_head a b xs ys e = cc

same_rest : (a : ℕ) (xs ys : List ℕ) → a ∷ xs ≡ a ∷ ys → xs ≡ ys
same_rest a xs ys e = cc

module _ (cs : List ℕ) where
  abbrev after_first : ℕ → ℕ → List (List ℕ)
  after_first n class = map (λ rest. class ∷ rest) (lists_of cs n)

  pub record IsListOf (n : ℕ) (xs : List ℕ) : Type 0 where
    pub long : length xs ≡ n
    pub each : (c : ℕ) → In xs c → In cs c

  list_from : (n : ℕ) (xs : List ℕ) → In (lists_of cs n) xs → IsListOf n xs
  list_from zero xs (inl e) = record { long = ap length e; each = λ c i. let none : In {T = ℕ} [] c = subst (λ ys. In ys c) e i in absurd none }
  list_from zero xs (inr i) = absurd i
  list_from (suc n) xs i =
      let turn = turns_from (after_first n) cs xs i in
      let rest = In-from_map (λ rest. turn.0 ∷ rest) (lists_of cs n) xs turn.2 in
      let is = list_from n rest.0 rest.1 in record {
        long = ap length rest.2 ∙ ap suc is.long;
        each = λ c j. ⊎_elim (λ e. subst (In cs) (sym e) turn.1) (is.each c) (subst (λ ys. In ys c) rest.2 j);
      }

  list_there : (n : ℕ) (xs : List ℕ) → IsListOf n xs → In (lists_of cs n) xs
  list_there zero [] is = inl refl
  list_there zero (x ∷ xs) is = absurd (let e = is.long in omega (arith, e))
  list_there (suc n) [] is = absurd (let e = is.long in omega (arith, e))
  list_there (suc n) (x ∷ xs) is =
      turns_there (after_first n) cs x (x ∷ xs) (is.each x (inl refl))
      (In-map (λ rest. x ∷ rest) (lists_of cs n) xs
      (list_there n xs (record { long = let e = is.long in omega (arith, e); each = λ c i. is.each c (inr i) })))

  lists_once : Once cs → (n : ℕ) → Once (lists_of cs n)
  lists_once once zero = (λ i. i, tt)
  lists_once once (suc n) = once_turns (after_first n) cs once
      (λ c. once_map (λ rest. c ∷ rest) (lists_of cs n) (λ xs ys e. same_rest c xs ys e) (lists_once once n))
      (λ c d xs i j.
      let one = In-from_map (λ rest. c ∷ rest) (lists_of cs n) xs i in
      let other = In-from_map (λ rest. d ∷ rest) (lists_of cs n) xs j in
      same_head c d one.0 other.0 (sym one.2 ∙ other.2))

-- ---- ascending numbers stand once

below : (a b : ℕ) → nat_lt a b ≡ true → a < b
below a b t = grind arith

module _ {T : Type 0} (number : T → ℕ) where
  above_all : (a : T) (xs : List T) → Ascends number nat_lt (a ∷ xs) → (x : T) → In xs x → number a < number x
  above_all a [] h x i = absurd i
  above_all a (b ∷ xs) h x (inl e) = subst (λ y. number a < number y) (sym e) (below (number a) (number b) h.0)
  above_all a (b ∷ xs) h x (inr i) =
      let first = below (number a) (number b) h.0 in
      let rest = above_all b xs h.1 x i in omega (arith, first, rest)

  tail : (a : T) (xs : List T) → Ascends number nat_lt (a ∷ xs) → Ascends number nat_lt xs
  tail a [] h = tt
  tail a (b ∷ xs) h = h.1

numbers_once : (xs : List ℕ) → AscendingNumbers xs → Once xs
numbers_once [] h = tt
numbers_once (x ∷ xs) h = (
  λ i. let less = above_all (λ n. n) x xs h x i in absurd (omega (arith, less)),
  numbers_once xs (tail (λ n. n) x xs h),
)

-- ---- the lists of all selectors, as queries

abbrev asked : Selector → List ℕ → Query
asked s classes = record { selector = s.number; classes = classes }

told : (Selector → List (List ℕ)) → List Selector → List Query
told f [] = []
told f (s ∷ ss) = map (asked s) (f s) ++ told f ss

told_from : (f : Selector → List (List ℕ)) (ss : List Selector) (q : Query) → In (told f ss) q
    → (s : Selector) × In ss s × In (f s) q.classes × (q.selector ≡ s.number)
unfolding told
told_from f [] q i = absurd i
told_from f (s ∷ ss) q i = ⊎_elim
    (λ a. let at = In-from_map (asked s) (f s) q a in (s, inl refl, subst (In (f s)) (sym (ap (λ (r : Query). r.classes) at.2)) at.1, ap (λ (r : Query). r.selector) at.2))
    (λ b. let r = told_from f ss q b in (r.0, inr r.1, r.2, r.3))
    (In-from_append (map (asked s) (f s)) (told f ss) q i)

told_there : (f : Selector → List (List ℕ)) (ss : List Selector) (s : Selector) (classes : List ℕ) → In ss s → In (f s) classes
    → In (told f ss) (asked s classes)
unfolding told
told_there f [] s classes i j = absurd i
told_there f (r ∷ ss) s classes (inl e) j = In-append (map (asked r) (f r)) (told f ss) (asked s classes)
    (subst (λ t. In (map (asked r) (f r)) (asked t classes)) (sym e) (In-map (asked r) (f r) classes (subst (λ t. In (f t) classes) e j)))
told_there f (r ∷ ss) s classes (inr i) j = In-later (map (asked r) (f r)) (told f ss) (asked s classes) (told_there f ss s classes i j)

told_once : (f : Selector → List (List ℕ)) (ss : List Selector) → AscendingSelectors ss → ((s : Selector) → Once (f s)) → Once (told f ss)
unfolding told
told_once f [] ascend each = tt
told_once f (s ∷ ss) ascend each = once_both (map (asked s) (f s)) (told f ss)
    (once_map (asked s) (f s) (λ xs ys e. ap (λ (q : Query). q.classes) e) (each s))
    (told_once f ss (tail (λ (t : Selector). t.number) s ss ascend) each)
    (λ q i j.
    let at = In-from_map (asked s) (f s) q i in
    let r = told_from f ss q j in
    let less = above_all (λ (t : Selector). t.number) s ss ascend r.0 r.1 in
    let same : s.number ≡ (r.0).number = sym (ap (λ (p : Query). p.selector) at.2) ∙ r.3 in omega (arith, less, same))

told_length : (f : Selector → List (List ℕ)) (ss : List Selector) → length (told f ss) ≡ sum_by (λ s. length (f s)) ss
unfolding told
told_length f [] = refl
told_length f (s ∷ ss) = length-both (map (asked s) (f s)) (told f ss)
    ∙ ap (λ n. n + length (told f ss)) (length-map (f s) (asked s))
    ∙ ap (λ n. length (f s) + n) (told_length f ss) ∙ sym (sum_by-cons (λ t. length (f t)) s ss)

-- ---- counting by a list of exactly those of which it holds

over : (m n : ℕ) → m < n → nat_lt m n ≡ true
over m n h = grind arith

module _ (Holds : Query → Type 0) (all : List Query) (are : AreAll query_order Holds all) (list : List Query) (once : Once list)
    (sound : (q : Query) → In list q → Holds q) (there : (q : Query) → Holds q → In list q) (most : ℕ)
  where
    counted : nat_lt most (length list) ≡ true → MoreThan query_order Holds most
    counted t =
        let more = below most (length list) t in
        let le = parts_are_no_longer list all (once_twice list once) (λ q c. are.none_missing q (sound q (In-from_Contains list q c))) in
        (all, are.ascending, are.each_holds, omega (arith, more, le))

    counts : MoreThan query_order Holds most → nat_lt most (length list) ≡ true
    counts some =
        let le = parts_are_no_longer some.0 list (none_twice some.0 some.1)
        (λ q c. Contains-from_In list q (there q (All-In Holds some.0 q some.2 (In-from_Contains some.0 q c)))) in
        let more = some.3 in over most (length list) (omega (arith, le, more))

-- ---- the live selectors and classes

found_selector : (ss : List Selector) (n a : ℕ) → arity_in ss n ≡ Some a → (s : Selector) × In ss s × (s.number ≡ n) × (s.arity ≡ a)
found_selector [] n a e = absurd (let f : None ≡ Some a = e in cc)
found_selector (s ∷ ss) n a e = by_cases (s.number == n)
    (λ t. let f : Some s.arity ≡ Some a = rw t at e in (s, inl refl, eqb-true s.number n t, cc))
    (λ f. let r = found_selector ss n a (rw f at e) in (r.0, inr r.1, r.2, r.3))

live_in : (classes : List ℕ) (c : ℕ) → has_number classes c ≡ true → In classes c
live_in classes c t = let r = In-from_any (λ n. n == c) classes t in subst (In classes) (eqb-true r.0 c r.2) r.1

understood_test : (v : Answer) → v ≢ NotUnderstood → is_understood v ≡ true
understood_test (Method body) some = refl
understood_test NotUnderstood some = absurd (some refl)
understood_test Ambiguous some = refl

test_understood : (v : Answer) → is_understood v ≡ true → v ≢ NotUnderstood
test_understood v t e = false≢true (sym (ap is_understood e) ∙ t)

module _ (p : Program) (lawful : Lawful p) where
  abbrev classes : List ℕ
  classes = p.graph.classes

  classes_once : Once classes
  classes_once = numbers_once classes lawful.graph.classes_ascend

  -- the selector and the classes of a query that is understood are live
  record IsLive (q : Query) : Type 0 where
    s : Selector
    listed : In p.selectors s
    number : s.number ≡ q.selector
    arity : s.arity ≡ length q.classes
    each : (c : ℕ) → In q.classes c → In classes c

  live_of : (q : Query) → Understands p q → IsLive q
  live_of q some =
      let is = (understood_cells p lawful q).0 some in
      let r = found_selector p.selectors q.selector (length q.classes) is.arity_fits in record {
        s = r.0;
        listed = r.1;
        number = r.2;
        arity = r.3;
        each = λ c i. live_in classes c (All-In (λ class. IsTrue (is_live p.graph class)) q.classes c is.classes_live i);
      }

  -- ---- cells

  cells_sound : (q : Query) → In (told (cells_of p) p.selectors) q → Understands p q
  cells_sound q i =
      let r = told_from (cells_of p) p.selectors q i in
      let t = (In-from_filter (understands p (r.0).number) (lists_of classes (r.0).arity) q.classes r.2).1 in
      test_understood (cell p q) (ap (λ n. understands p n q.classes) r.3 ∙ t)

  cells_there : (q : Query) → Understands p q → In (told (cells_of p) p.selectors) q
  cells_there q some =
      let live = live_of q some in
      let s : Selector = live.s in
      let number : s.number ≡ q.selector = live.number in
      subst (λ n. In (told (cells_of p) p.selectors) (record { selector = n; classes = q.classes })) number
      (told_there (cells_of p) p.selectors s q.classes live.listed
      (In-filter (understands p s.number) (lists_of classes s.arity) q.classes
      (list_there classes s.arity q.classes (record { long = sym live.arity; each = live.each }))
      (ap (λ n. understands p n q.classes) number ∙ understood_test (cell p q) some)))

  cells_once : Once (told (cells_of p) p.selectors)
  cells_once = told_once (cells_of p) p.selectors lawful.selectors.ascend
      (λ s. once_filter (understands p s.number) (lists_of classes s.arity) (lists_once classes classes_once s.arity))

  -- ---- rows

  record IsRowBelow (s : Selector) (n : ℕ) (xs : List ℕ) : Type 0 where
    short : length xs < n
    goes : goes_on p s.number (s.arity - length xs) xs ≡ true
    each : (c : ℕ) → In xs c → In classes c

  row_from : (s : Selector) (n : ℕ) (xs : List ℕ) → In (rows_below p s n) xs → IsRowBelow s n xs
  row_from s zero xs i = absurd i
  row_from s (suc n) xs i = ⊎_elim
      (λ a. let is = row_from s n xs a in record { short = let lt = is.short in omega (arith, lt); goes = is.goes; each = is.each })
      (λ b.
      let parts = In-from_filter (goes_on p s.number (s.arity - n)) (lists_of classes n) xs b in
      let is = list_from classes n xs parts.0 in record {
        short = let e = is.long in omega (arith, e);
        goes = subst (λ k. goes_on p s.number (s.arity - k) xs ≡ true) (sym is.long) parts.1;
        each = is.each;
      })
      (In-from_append (rows_below p s n) (filter (goes_on p s.number (s.arity - n)) (lists_of classes n)) xs i)

  row_there : (s : Selector) (n : ℕ) (xs : List ℕ) → IsRowBelow s n xs → In (rows_below p s n) xs
  row_there s zero xs is = absurd (let lt = is.short in omega (arith, lt))
  row_there s (suc n) xs is = by_cases (length xs == n)
      (λ t. let e : length xs ≡ n = eqb-true (length xs) n t in
      In-later (rows_below p s n) (filter (goes_on p s.number (s.arity - n)) (lists_of classes n)) xs
      (In-filter (goes_on p s.number (s.arity - n)) (lists_of classes n) xs
      (list_there classes n xs (record { long = e; each = is.each }))
      (subst (λ k. goes_on p s.number (s.arity - k) xs ≡ true) e is.goes)))
      (λ f. In-append (rows_below p s n) (filter (goes_on p s.number (s.arity - n)) (lists_of classes n)) xs
      (row_there s n xs (record { short = let lt = is.short in less (length xs) n lt f; goes = is.goes; each = is.each })))
    where
      less : (a b : ℕ) → a < suc b → (a == b) ≡ false → a < b
      less a b h f = by_cases (nat_lt a b) (λ t. below a b t) (λ g. absurd (false≢true (sym f ∙ eq-eqb a b (same a b h g))))
        where
          same : (a b : ℕ) → a < suc b → nat_lt a b ≡ false → a ≡ b
          same a b h g = grind arith

  rows_once_below : (s : Selector) (n : ℕ) → Once (rows_below p s n)
  rows_once_below s zero = tt
  rows_once_below s (suc n) = once_both (rows_below p s n) (filter (goes_on p s.number (s.arity - n)) (lists_of classes n))
      (rows_once_below s n)
      (once_filter (goes_on p s.number (s.arity - n)) (lists_of classes n) (lists_once classes classes_once n))
      (λ xs i j.
      let short = (row_from s n xs i).short in
      let long = (list_from classes n xs (In-from_filter (goes_on p s.number (s.arity - n)) (lists_of classes n) xs j).0).long in
      omega (arith, short, long))

  abbrev rows_of : Selector → List (List ℕ)
  rows_of s = rows_below p s s.arity

  not_nothing : (n : ℕ) (rest : List ℕ) → 0 < n → length rest ≡ n → rest ≢ []
  not_nothing n rest some long none = let zero : length rest ≡ 0 = ap length none in absurd (omega (arith, some, long, zero))

  rows_sound : (q : Query) → In (told rows_of p.selectors) q → IsRow p q
  rows_sound q i =
      let r = told_from rows_of p.selectors q i in
      let s : Selector = r.0 in
      let number : q.selector ≡ s.number = r.3 in
      let is = row_from s s.arity q.classes r.2 in
      let rest = In-from_any (λ rest. understands p s.number (q.classes ++ rest)) (lists_of classes (s.arity - length q.classes)) is.goes in
      let long = (list_from classes (s.arity - length q.classes) rest.0 rest.1).long in
      let short = is.short in (
        rest.0,
        record {
          some = not_nothing (s.arity - length q.classes) rest.0 (omega (arith, short)) long;
          understood = test_understood (cell p (gone_on q rest.0)) (ap (λ n. understands p n (q.classes ++ rest.0)) number ∙ rest.2);
        },
      )

  longer : (rest : List ℕ) → rest ≢ [] → 0 < length rest
  longer [] some = absurd (some refl)
  longer (x ∷ rest) some = omega arith

  rows_there : (q : Query) → IsRow p q → In (told rows_of p.selectors) q
  rows_there q row =
      let live = live_of (gone_on q row.0) row.1.understood in
      let s : Selector = live.s in
      let number : s.number ≡ q.selector = live.number in
      let both : length (q.classes ++ row.0) ≡ length q.classes + length row.0 = length-both q.classes row.0 in
      let arity : s.arity ≡ length (q.classes ++ row.0) = live.arity in
      let some = longer row.0 row.1.some in
      subst (λ n. In (told rows_of p.selectors) (record { selector = n; classes = q.classes })) number
      (told_there rows_of p.selectors s q.classes live.listed
      (row_there s s.arity q.classes (record {
        short = omega (arith, both, arity, some);
        goes = any_from_In (λ rest. understands p s.number (q.classes ++ rest)) (lists_of classes (s.arity - length q.classes)) row.0
            (list_there classes (s.arity - length q.classes) row.0 (record {
              long = omega (arith, both, arity);
              each = λ c i. live.each c (In-later q.classes row.0 c i);
            }))
            (ap (λ n. understands p n (q.classes ++ row.0)) number ∙ understood_test (cell p (gone_on q row.0)) row.1.understood);
        each = λ c i. live.each c (In-append q.classes row.0 c i);
      })))

  rows_once : Once (told rows_of p.selectors)
  rows_once = told_once rows_of p.selectors lawful.selectors.ascend (λ s. rows_once_below s s.arity)

-- ---- so they are counted

pub cells_are_counted : CellsAreCounted
cells_are_counted p lawful = (
  λ t. counted (Understands p) (told_of_all (told_cell p) all_arities) (cells_all p lawful) (told (cells_of p) p.selectors) (cells_once p lawful)
      (cells_sound p lawful) (cells_there p lawful) CELLS (ap (λ n. nat_lt CELLS n) (told_length (cells_of p) p.selectors) ∙ t),
  λ more. ap (λ n. nat_lt CELLS n) (sym (told_length (cells_of p) p.selectors))
      ∙ counts (Understands p) (told_of_all (told_cell p) all_arities) (cells_all p lawful) (told (cells_of p) p.selectors) (cells_once p lawful)
      (cells_sound p lawful) (cells_there p lawful) CELLS more,
)

pub rows_are_counted : RowsAreCounted
rows_are_counted p lawful = (
  λ t. counted (IsRow p) (told_of_all (told_row p) row_lengths) (rows_all p lawful) (told (λ s. rows_below p s s.arity) p.selectors) (rows_once p lawful)
      (rows_sound p lawful) (rows_there p lawful) ROWS (ap (λ n. nat_lt ROWS n) (told_length (λ s. rows_below p s s.arity) p.selectors) ∙ t),
  λ more. ap (λ n. nat_lt ROWS n) (sym (told_length (λ s. rows_below p s s.arity) p.selectors))
      ∙ counts (IsRow p) (told_of_all (told_row p) row_lengths) (rows_all p lawful) (told (λ s. rows_below p s s.arity) p.selectors) (rows_once p lawful)
      (rows_sound p lawful) (rows_there p lawful) ROWS more,
)
