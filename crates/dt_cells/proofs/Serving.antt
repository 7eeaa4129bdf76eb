-- What a lawful kind answers over a program's words, and how long.
use Rattle.std.proofs.Common.{◌≡◌, ◌≢◌, ◌==◌, ℕ, ◌+◌, ◌<◌, ◌≤◌, Bool, true, false, ◌&&◌, not, if◌then◌else◌, List, [], ◌∷◌, inl, inr, refl, sym, ap, ◌∙◌, arith, All}
use Rattle.std.specs.Prelude.{Option, None, Some, nat_lt, unwrap_or}
use Rattle.std.specs.Option.{option_map}
use Rattle.std.specs.List.{list_any}
use Rattle.std.proofs.lemmas.Bool.{or_from, eqb-true, eq-eqb, true≢false}
use Rattle.std.proofs.lemmas.Bool.Decides.{nat_tests}
use Rattle.std.proofs.lemmas.List.Elements.{All-nil, All-cons, All-head, All-tail}
use Rattle.dt_graph.specs.Graph.{is_live}
use Rattle.dt_pages.specs.Reading.{Reading, blank}
use Rattle.dt_definitions.specs.Program.{Program, arity_of}
use Rattle.dt_scratch.specs.Query.{Query, arity_of_query, is_same_query}
use Rattle.dt_scratch.specs.Resolve.{cell, cell_of, reply_by_arity, reply_by_classes, first_dead, answer}
use Rattle.dt_scratch.specs.declared.reply.Answer.{Answer}
use Rattle.dt_scratch.specs.declared.reply.Answer.TheVariants.{Method, NotUnderstood, Ambiguous}
use Rattle.dt_scratch.specs.declared.reply.Reply.TheVariants.{NoSelector, WrongArity, NoClass, Answered}
use Rattle.dt_scratch.specs.declared.reply.Change.{Change}
use Rattle.dt_cells.specs.Regions.{class_numbers, selector_numbers, selector_at, place_of}
use Rattle.dt_cells.specs.Held.{Held, IsHeld, IsInRange, held_after, HasArityOf, is_changed}
use Rattle.dt_cells.specs.HeldLaws.{by_cases, if_true, if_false, same_query, after_keeps, unchanged_after, changed_place}
use Rattle.dt_cells.specs.Kind.{Kind, sets, IsLawful}
use Rattle.dt_cells.specs.Find.{arity_read, is_class_read, first_unread, head_by}
use Rattle.dt_cells.specs.Heads.{HasHeads}
use Rattle.dt_scratch.specs.CellLaws.{UnderstoodCells}
use Rattle.dt_cells.proofs.Limits.{IsWithinLimits, within_limits}
use Rattle.dt_cells.specs.Serving.{Serves, HoldsCells, NoStray, CellsFollow, ShownServes, BlankServes, ServesAfter, NoneIsStrayAfter, RestStays}

-- the kind's part answers as the program does, where the selector is live and takes as many arguments
abbrev pub Answers : ℕ → Kind → Program → Reading → Type 0
Answers low k p y = (q : Query) → IsInRange q → arity_of p q.selector ≡ Some (arity_of_query q) → low ≤ arity_of_query q → arity_of_query q ≤ k.arities → k.part y q ≡ cell p q

stable : (v : Answer) → ((v ≢ NotUnderstood) → ⊥) → v ≡ NotUnderstood
stable NotUnderstood h = refl
stable (Method b) h = absurd (h (λ e. cc))
stable Ambiguous h = absurd (h (λ e. cc))

some_same : (m n : ℕ) (o : Option ℕ) → o ≡ Some m → o ≡ Some n → m ≡ n
some_same m n o e f = cc

shown_answers : (k : Kind) → IsLawful k → (low : ℕ) (p : Program) (held : Held) (y : Reading) → HoldsCells low k.arities p held
    → k.shows y held → NoStray low k p held y → Answers low k p y
shown_answers k l low p held y holds sh lacking q range live least most =
    let arity : HasArityOf held q = λ r h same. some_same (arity_of_query r) (arity_of_query q) (arity_of p r.selector) (holds.none r h).0 (ap (arity_of p) same ∙ live) in
    let is = holds.cells q least most in
    by_answer (held q) refl arity is
  where
    -- nothing is held of the query: then the place word is 0, or a placed selector's
    unheld : HasArityOf held q → held q ≡ NotUnderstood → k.part y q ≡ NotUnderstood
    unheld arity e = stable (k.part y q) (λ other.
        let unplaced : k.placed held q.selector → ⊥ = λ placed. other (l.rest_is_answered y held q sh range most arity (inl placed) ∙ e) in
        other (l.rest_is_answered y held q sh range most arity (inr (lacking q.selector (arity_of_query q) live least most unplaced)) ∙ e))

    by_answer : (v : Answer) → held q ≡ v → HasArityOf held q → held q ≡ cell p q → k.part y q ≡ cell p q
    by_answer NotUnderstood e arity is = unheld arity e ∙ sym e ∙ is
    by_answer (Method b) e arity is = l.held_is_answered y held q sh (λ f. cc) ∙ is
    by_answer Ambiguous e arity is = l.held_is_answered y held q sh (λ f. cc) ∙ is

-- ---- the head

-- the selector word tells what is live
arity_by_word : (n : Option ℕ) (w : ℕ) → w ≡ unwrap_or n 0 → ((m : ℕ) → n ≡ Some m → 0 < m) → (if not (w == 0) then Some w else None) ≡ n
arity_by_word None w e some = ap (λ (v : ℕ). if not (v == 0) then Some v else None) e
arity_by_word (Some m) w e some = ap (λ (v : ℕ). if not (v == 0) then Some v else None) e
    ∙ if_true (not (m == 0)) (Some m) None (positive m (some m refl))
  where
    positive : (m : ℕ) → 0 < m → not (m == 0) ≡ true
    positive m h = grind (arith, nat_tests)

arity_is : (p : Program) (x : Reading) → IsWithinLimits p → HasHeads p x → (s : ℕ) → arity_read x s ≡ arity_of p s
arity_is p x limits heads s = by_cases (nat_lt s selector_numbers)
    (λ t. ap (λ b. if b && not (x (selector_at s) == 0) then Some (x (selector_at s)) else None) t
    ∙ arity_by_word (arity_of p s) (x (selector_at s)) (heads.selectors s (below s selector_numbers t)) (λ m e. (limits.selectors s m e).1))
    (λ f. ap (λ b. if b && not (x (selector_at s) == 0) then Some (x (selector_at s)) else None) f ∙ sym (past (arity_of p s) refl f))
  where
    below : (a b : ℕ) → nat_lt a b ≡ true → a < b
    below a b t = grind arith

    past : (n : Option ℕ) → arity_of p s ≡ n → nat_lt s selector_numbers ≡ false → n ≡ None
    past None e f = refl
    past (Some m) e f = let h : s < 4096 = (limits.selectors s m e).0 in absurd (true≢false (sym (lt s 4096 h) ∙ f))
      where
        lt : (a b : ℕ) → a < b → nat_lt a b ≡ true
        lt a b h = grind (arith, nat_tests)

class_is : (p : Program) (x : Reading) → IsWithinLimits p → HasHeads p x → (c : ℕ) → is_class_read x c ≡ is_live p.graph c
class_is p x limits heads c = by_cases (nat_lt c class_numbers)
    (λ t. ap (λ b. b && not (x c == 0)) t ∙ ap (λ (w : ℕ). not (w == 0)) (heads.classes c (below c class_numbers t)) ∙ by_word (is_live p.graph c))
    (λ f. ap (λ b. b && not (x c == 0)) f ∙ sym (past (is_live p.graph c) refl f))
  where
    below : (a b : ℕ) → nat_lt a b ≡ true → a < b
    below a b t = grind arith

    by_word : (b : Bool) → not ((if b then 1 else 0) == 0) ≡ b
    by_word true = refl
    by_word false = refl

    past : (b : Bool) → is_live p.graph c ≡ b → nat_lt c class_numbers ≡ false → b ≡ false
    past false e f = refl
    past true e f = let h : c < 2048 = limits.classes c e in absurd (true≢false (sym (lt c 2048 h) ∙ f))
      where
        lt : (a b : ℕ) → a < b → nat_lt a b ≡ true
        lt a b h = grind (arith, nat_tests)

dead_is : (p : Program) (x : Reading) → IsWithinLimits p → HasHeads p x → (place : ℕ) (classes : List ℕ) → first_unread x place classes ≡ first_dead p.graph place classes
dead_is p x limits heads place [] = refl
dead_is p x limits heads place (c ∷ cs) =
    ap (λ b. if b then first_unread x (place + 1) cs else Some place) (class_is p x limits heads c)
    ∙ ap (λ (o : Option ℕ). if is_live p.graph c then o else Some place) (dead_is p x limits heads (place + 1) cs)

live_in_range : (p : Program) → IsWithinLimits p → (place : ℕ) (classes : List ℕ) → first_dead p.graph place classes ≡ None → All (λ class. class < class_numbers) classes
live_in_range p limits place [] e = All-nil (λ class. class < class_numbers)
live_in_range p limits place (c ∷ cs) e = by_cases (is_live p.graph c)
    (λ t. All-cons (λ class. class < class_numbers) c cs (limits.classes c t)
    (live_in_range p limits (place + 1) cs (sym (if_true (is_live p.graph c) (first_dead p.graph (place + 1) cs) (Some place) t) ∙ e)))
    (λ f. absurd (some_none place _ (if_false (is_live p.graph c) (first_dead p.graph (place + 1) cs) (Some place) f) e))
  where
    some_none : (v : ℕ) (o : Option ℕ) → o ≡ Some v → o ≡ None → ⊥
    some_none v o e f = cc

-- where the kind's part answers as the program does, and the heads are the program's, so does the whole look-up
serves : (low : ℕ) (k : Kind) (p : Program) (x : Reading) → IsWithinLimits p → HasHeads p x → Answers low k p x → Serves low k p x
serves low k p x limits heads answers q least most =
    ap (λ (o : Option ℕ). unwrap_or (head_by o (arity_of_query q) (first_unread x 1 q.classes)) (Answered (k.part x q))) (arity_is p x limits heads q.selector)
    ∙ ap (λ (o : Option ℕ). unwrap_or (head_by (arity_of p q.selector) (arity_of_query q) o) (Answered (k.part x q))) (dead_is p x limits heads 1 q.classes)
    ∙ by_arity (arity_of p q.selector) refl
  where
    by_dead : (n : ℕ) → arity_of p q.selector ≡ Some n → n ≡ arity_of_query q → (o : Option ℕ) → first_dead p.graph 1 q.classes ≡ o
        → unwrap_or (option_map NoClass o) (Answered (k.part x q)) ≡ reply_by_classes o (answer p q)
    by_dead n e same (Some place) d = refl
    by_dead n e same None d =
        ap Answered (answers q (record { selector = (limits.selectors q.selector n e).0; classes = live_in_range p limits 1 q.classes d }) (e ∙ ap Some same) least most
        ∙ ap cell_of (ap (λ (o : Option ℕ). reply_by_arity o (arity_of_query q) (reply_by_classes (first_dead p.graph 1 q.classes) (answer p q))) (e ∙ ap Some same)
        ∙ if_true (arity_of_query q == arity_of_query q) (reply_by_classes (first_dead p.graph 1 q.classes) (answer p q)) WrongArity (eq-eqb (arity_of_query q) (arity_of_query q) refl)
        ∙ ap (λ (o : Option ℕ). reply_by_classes o (answer p q)) d))

    by_test : (n : ℕ) → arity_of p q.selector ≡ Some n → (b : Bool) → (n == arity_of_query q) ≡ b
        → unwrap_or (if b then option_map NoClass (first_dead p.graph 1 q.classes) else Some WrongArity) (Answered (k.part x q))
        ≡ (if b then reply_by_classes (first_dead p.graph 1 q.classes) (answer p q) else WrongArity)
    by_test n e true t = by_dead n e (eqb-true n (arity_of_query q) t) (first_dead p.graph 1 q.classes) refl
    by_test n e false t = refl

    by_arity : (o : Option ℕ) → arity_of p q.selector ≡ o
        → unwrap_or (head_by o (arity_of_query q) (first_dead p.graph 1 q.classes)) (Answered (k.part x q))
        ≡ reply_by_arity o (arity_of_query q) (reply_by_classes (first_dead p.graph 1 q.classes) (answer p q))
    by_arity None e = refl
    by_arity (Some n) e = by_test n e (n == arity_of_query q) refl

-- ---- what is held after the differences

after_cell : (held : Held) (new : Program) (changes : List Change) (q : Query) → All (λ change. change.answer ≡ cell new change.query) changes
    → (list_any (λ change. is_same_query change.query q) changes ≡ false → held q ≡ cell new q) → held_after held changes q ≡ cell new q
after_cell held new [] q cells rest = rest refl
after_cell held new (c ∷ cs) q cells rest = by_cases (is_same_query c.query q)
    (λ t. if_true (is_same_query c.query q) c.answer (held_after held cs q) t
    ∙ All-head (λ change. change.answer ≡ cell new change.query) c cs cells ∙ ap (cell new) (same_query c.query q t))
    (λ f. if_false (is_same_query c.query q) c.answer (held_after held cs q) f
    ∙ after_cell held new cs q (All-tail (λ change. change.answer ≡ cell new change.query) c cs cells)
    (λ n. rest (rw f n)))

pub cells_after : UnderstoodCells → CellsFollow
cells_after understood low high old new held changes lawful holds diff = record {
  cells = now;
  none = λ q h. let a = arities q h in (((understood new lawful q).0 (λ e. h (now q a.0 a.1 ∙ e))).arity_fits, a.0, a.1);
}
  where
    now : (q : Query) → low ≤ arity_of_query q → arity_of_query q ≤ high → held_after held changes q ≡ cell new q
    now q least most = after_cell held new changes q diff.cells (λ n. holds.cells q least most ∙ diff.all q least most n)

    arities : (q : Query) → IsHeld (held_after held changes) q → (low ≤ arity_of_query q) × (arity_of_query q ≤ high)
    arities q h = after_keeps (λ r. (low ≤ arity_of_query r) × (arity_of_query r ≤ high)) held changes
        (λ r g. let t = holds.none r g in (t.1, t.2)) diff.arities q h

-- ---- the laws of every lawful kind

module _ (understood : UnderstoodCells) (k : Kind) (l : IsLawful k) where
  pub shown_serves : ShownServes k
  shown_serves low p held x some lawful holds sh heads lacking =
      serves low k p x (within_limits p lawful) heads (shown_answers k l low p held x holds sh lacking)

  pub blank_serves : BlankServes k
  blank_serves low q least most = by_test (nat_lt q.selector selector_numbers)
    where
      by_test : (b : Bool) → unwrap_or (head_by (if b && false then Some 0 else None) (arity_of_query q) (first_unread blank 1 q.classes)) (Answered (k.part blank q)) ≡ NoSelector
      by_test true = refl
      by_test false = refl

  pub serves_after : ServesAfter k
  serves_after low old new held changes x z y some lawful holds diff sh able pl stay same heads lacking =
      shown_serves low new (held_after held changes) y some lawful (cells_after understood low k.arities old new held changes lawful holds diff)
      (l.shown_elsewhere z y (held_after held changes) (l.shown_after low x z held changes sh some able pl stay) same) heads lacking

  no_cell : (s : ℕ) → s < selector_numbers → k.owns (place_of s) ≡ false
  no_cell s below = by_cases (k.owns (place_of s))
      (λ o. let from : 16777216 ≤ 8192 + s = (l.owned_are_cells (place_of s) o).0 in absurd (omega (arith, from, below)))
      (λ f. f)

  -- the place word of a selector without a change isn't set
  unset : (changes : List Change) (s : ℕ) → s < selector_numbers → is_changed changes s ≡ false → sets k changes (place_of s) ≡ false
  unset changes s below u = or_from (k.owns (place_of s)) _ (no_cell s below)
      (rw (changed_place changes s, u) (elim k.has_places as (λ v. (v && false) ≡ false) [ true ↦ refl | false ↦ refl ]))

  pub none_is_stray_after : NoneIsStrayAfter k
  none_is_stray_after held changes x z sh pl rest none s below unplaced = by_cases (is_changed changes s)
      (λ t. by_cases k.has_places
      (λ p. elim (l.marks x z held changes s sh pl p t) [ inl m ↦ absurd (unplaced m.0) | inr m ↦ m.1 ])
      (λ n. rest s below (or_from (k.owns (place_of s)) _ (no_cell s below) (rw n refl)) ∙ none s below (l.no_places n held s)))
      (λ u. rest s below (unset changes s below u)
      ∙ none s below (λ q. unplaced (l.placed_by_own held (held_after held changes) s (λ r h. sym (unchanged_after held changes s u r h)) q)))

  pub rest_stays : RestStays k
  rest_stays held changes x z sh rest s u placed = rest s below (unset changes s below u)
    where
      below : s < selector_numbers
      below =
          let q = l.placed_is_held held s placed in
          let range = l.shown_in_range x held q.0 sh q.1 in
          let same : q.0.selector ≡ s = q.2 in omega (arith, range.selector, same)
