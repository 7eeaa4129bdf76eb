-- Generated lines lead from the header to the end, one after the other.
use Rattle.std.proofs.Common.{◌≡◌, ◌==◌, ℕ, ◌+◌, ◌-◌, ◌%◌, ◌<◌, ◌≤◌, Bool, true, false, cond, not, ◌||◌, nat_lt, IsTrue, zero, suc, List, [], ◌∷◌, ◌++◌, length, refl, sym, ap, subst, arith, eq-eqb}
use Rattle.std.proofs.lemmas.Bool.Decides.{nat_tests}
use Rattle.dt_script.specs.Draw.{next_state, drawn, state_after}
use Rattle.dt_script.specs.Line.{is_from_one_to}
use Rattle.dt_script.specs.GeneratedSize.{IsSize}
use Rattle.dt_script.specs.GeneratedLines.{lines_in_turn, second_parent, parents_drawn, after_parents, class_line, class_lines, after_classes, arity_of_number, selector_line, after_selector, selector_lines, definition_count, is_first_of_batch, is_last_of_batch, classes_drawn, selector_of, tuple_of, after_definition, definition_line, definition_lines, caller_count, call_count, call_line, after_call, caller_lines, after_caller, calling_lines, edit_count, first_parent, tuple_at, class_drawn, edit_line, after_edit, edit_lines}
use Rattle.dt_script.specs.declared.line.Line.{Line}
use Rattle.dt_script.specs.declared.line.Line.TheVariants.{AddClass, Link, Unlink, AddSelector, Define, Undefine, Begin, Commit, Call}
use Rattle.dt_script.proofs.LawfulBooks.{NamesLaw}
use Rattle.dt_script.proofs.GeneratedWhole.{drawn-below}
use Rattle.dt_script.proofs.GeneratedPlaces.{Situation, Fits, Step, AreBelow, class_step, selector_step, define_step, again_step, undefine_step, link_step, unlink_step, begin_step, commit_step, phase_step, caller_step, call_step}

-- ---- lines one after the other

abbrev pub GoesOn : ℕ → List Line → Situation → Situation → Type 0
GoesOn readers [] from to = from ≡ to
GoesOn readers (line ∷ lines) from to = (between : Situation) × Step readers line from between × GoesOn readers lines between to

pub goes-append : (readers : ℕ) (xs ys : List Line) (a b c : Situation) → GoesOn readers xs a b → GoesOn readers ys b c → GoesOn readers (xs ++ ys) a c
goes-append readers [] ys a b c first then = subst (λ s. GoesOn readers ys s c) (sym first) then
goes-append readers (x ∷ xs) ys a b c (between, step, rest) then = (between, step, goes-append readers xs ys between b c rest then)

one_step : (readers : ℕ) (line : Line) (a b : Situation) → Step readers line a b → GoesOn readers (line ∷ []) a b
one_step readers line a b step = (b, step, refl)

in_turn : (readers : ℕ) (lines : ℕ → ℕ → List Line) (leaves : ℕ → ℕ → ℕ) (at : ℕ → Situation) (state number count : ℕ)
    → ((s n : ℕ) → number ≤ n → n < number + count → GoesOn readers (lines s n) (at n) (at (n + 1)))
    → GoesOn readers (lines_in_turn lines leaves state number count) (at number) (at (number + count))
unfolding lines_in_turn
in_turn readers lines leaves at state number zero each = ap at (omega arith)
in_turn readers lines leaves at state number (suc count) each =
    let rest = in_turn readers lines leaves at (leaves state number) (number + 1) count (λ s n low high. each s n (omega (arith, low)) (omega (arith, high))) in
    let end : number + 1 + count ≡ number + suc count = omega arith in
    goes-append readers (lines state number) (lines_in_turn lines leaves (leaves state number) (number + 1) count) (at number) (at (number + 1)) (at (number + suc count))
    (each state number (omega arith) (omega arith)) (ap_goes rest end)
  where
    ap_goes : {m n : ℕ} → GoesOn readers (lines_in_turn lines leaves (leaves state number) (number + 1) count) (at (number + 1)) (at m) → m ≡ n
        → GoesOn readers (lines_in_turn lines leaves (leaves state number) (number + 1) count) (at (number + 1)) (at n)
    ap_goes goes same = subst (λ k. GoesOn readers (lines_in_turn lines leaves (leaves state number) (number + 1) count) (at (number + 1)) (at k)) same goes

from_zero : (readers : ℕ) (lines : ℕ → ℕ → List Line) (leaves : ℕ → ℕ → ℕ) (at : ℕ → Situation) (state count : ℕ)
    → ((s n : ℕ) → n < count → GoesOn readers (lines s n) (at n) (at (n + 1))) → GoesOn readers (lines_in_turn lines leaves state 0 count) (at 0) (at count)
from_zero readers lines leaves at state count each =
    let end : 0 + count ≡ count = omega arith in
    subst (λ k. GoesOn readers (lines_in_turn lines leaves state 0 count) (at 0) (at k)) end
    (in_turn readers lines leaves at state 0 count (λ s n low high. each s n (omega (arith, high))))

-- ---- what is drawn

below_if : (bound : ℕ) (b : Bool) (xs ys : List ℕ) → AreBelow bound xs → AreBelow bound ys → AreBelow bound (cond b xs ys)
below_if bound true xs ys are are' = are
below_if bound false xs ys are are' = are'

pub parents_below : (state class : ℕ) → AreBelow class (parents_drawn state class)
parents_below state zero = tt
parents_below state (suc class) = (
  drawn-below state (suc class) (omega arith),
  below_if (suc class) (drawn (next_state state) 4 == 0) (second_parent (next_state (next_state state)) (suc class) (drawn state (suc class))) []
      (below_if (suc class) (drawn (next_state (next_state state)) (suc class) == drawn state (suc class)) [] (drawn (next_state (next_state state)) (suc class) ∷ []) tt (drawn-below (next_state (next_state state)) (suc class) (omega arith), tt)) tt,
)

pub tuple_below : (classes state places : ℕ) → 0 < classes → AreBelow classes (classes_drawn classes state places)
tuple_below classes state zero some = tt
tuple_below classes state (suc places) some = (drawn-below state classes some, tuple_below classes (next_state state) places some)

arity_in_range : (b : Bool) → IsTrue (is_from_one_to 4 (cond b 2 1))
arity_in_range true = refl
arity_in_range false = refl

tuple_in_range : (classes state : ℕ) (b : Bool) → IsTrue (is_from_one_to 4 (length (classes_drawn classes state (cond b 2 1))))
tuple_in_range classes state true = refl
tuple_in_range classes state false = refl

-- ---- the parts

abbrev pub sit : ℕ → ℕ → ℕ → Bool → Bool → ℕ → Situation
sit classes selectors bodies in_batch calling least = record { classes = classes; selectors = selectors; bodies = bodies; in_batch = in_batch; calling = calling; least = least }

or_false : (b c : Bool) → c ≡ false → (b || c) ≡ b
or_false true c is = refl
or_false false c is = is

or_true : (b c : Bool) → c ≡ true → (b || c) ≡ true
or_true true c is = refl
or_true false c is = is

module _ (law : NamesLaw) (readers classes selectors : ℕ) (size : IsSize classes selectors) where
  pub fits_at : (c s b : ℕ) (in_batch calling : Bool) (least : ℕ) → c ≤ classes → s ≤ selectors → b ≤ definition_count selectors → Fits (sit c s b in_batch calling least)
  fits_at c s b in_batch calling least low low' low'' = record {
    classes = omega (arith, low, size.classes_in_range);
    selectors = omega (arith, low', size.selectors_in_range);
    bodies = omega (arith, low'', size.selectors_in_range);
  }

  pub classes_go : (state : ℕ) → GoesOn readers (class_lines state classes) (sit 0 0 0 false false 0) (sit classes 0 0 false false 0)
  classes_go state = (
    sit 0 0 0 true false 0,
    begin_step law readers (sit 0 0 0 false false 0) (sit 0 0 0 true false 0) (fits_at 0 0 0 false false 0 (omega arith) (omega arith) (omega arith)) refl refl refl refl refl refl,
    goes-append readers (lines_in_turn class_line after_parents state 0 classes) (Commit ∷ []) (sit 0 0 0 true false 0) (sit classes 0 0 true false 0) (sit classes 0 0 false false 0)
        (from_zero readers class_line after_parents (λ n. sit n 0 0 true false 0) state classes (λ s n below.
        one_step readers (AddClass n (parents_drawn s n)) (sit n 0 0 true false 0) (sit (n + 1) 0 0 true false 0)
        (class_step law readers (sit n 0 0 true false 0) (parents_drawn s n) (fits_at n 0 0 true false 0 (omega (arith, below)) (omega arith) (omega arith)) (omega (arith, below, size.classes_in_range)) refl (parents_below s n))))
        (one_step readers Commit (sit classes 0 0 true false 0) (sit classes 0 0 false false 0)
        (commit_step law readers (sit classes 0 0 true false 0) (sit classes 0 0 false false 0) (fits_at classes 0 0 true false 0 (omega arith) (omega arith) (omega arith)) refl refl refl refl refl)),
  )

  pub selectors_go : GoesOn readers (selector_lines selectors) (sit classes 0 0 false false 0) (sit classes selectors 0 false false 0)
  selectors_go = (
    sit classes 0 0 true false 0,
    begin_step law readers (sit classes 0 0 false false 0) (sit classes 0 0 true false 0) (fits_at classes 0 0 false false 0 (omega arith) (omega arith) (omega arith)) refl refl refl refl refl refl,
    goes-append readers (lines_in_turn selector_line after_selector 0 0 selectors) (Commit ∷ []) (sit classes 0 0 true false 0) (sit classes selectors 0 true false 0) (sit classes selectors 0 false false 0)
        (from_zero readers selector_line after_selector (λ n. sit classes n 0 true false 0) 0 selectors (λ s n below.
        one_step readers (AddSelector n (arity_of_number n)) (sit classes n 0 true false 0) (sit classes (n + 1) 0 true false 0)
        (selector_step law readers (sit classes n 0 true false 0) (arity_of_number n) (fits_at classes n 0 true false 0 (omega arith) (omega (arith, below)) (omega arith)) (omega (arith, below, size.selectors_in_range)) refl (arity_in_range (n % 50 == 49)))))
        (one_step readers Commit (sit classes selectors 0 true false 0) (sit classes selectors 0 false false 0)
        (commit_step law readers (sit classes selectors 0 true false 0) (sit classes selectors 0 false false 0) (fits_at classes selectors 0 true false 0 (omega arith) (omega arith) (omega arith)) refl refl refl refl refl)),
  )

  -- ---- definitions

  begin_if : (b : Bool) (n : ℕ) → n ≤ definition_count selectors → GoesOn readers (cond b (Begin ∷ []) []) (sit classes selectors n (not b) false 0) (sit classes selectors n true false 0)
  begin_if true n low = one_step readers Begin (sit classes selectors n false false 0) (sit classes selectors n true false 0)
      (begin_step law readers (sit classes selectors n false false 0) (sit classes selectors n true false 0) (fits_at classes selectors n false false 0 (omega arith) (omega arith) low) refl refl refl refl refl refl)
  begin_if false n low = refl

  commit_if : (b : Bool) (n : ℕ) → n ≤ definition_count selectors → GoesOn readers (cond b (Commit ∷ []) []) (sit classes selectors n true false 0) (sit classes selectors n (not b) false 0)
  commit_if true n low = one_step readers Commit (sit classes selectors n true false 0) (sit classes selectors n false false 0)
      (commit_step law readers (sit classes selectors n true false 0) (sit classes selectors n false false 0) (fits_at classes selectors n true false 0 (omega arith) (omega arith) low) refl refl refl refl refl)
  commit_if false n low = refl

  -- before the definition of this number: a batch is open but where one begins, or all are done
  abbrev before : ℕ → Situation
  before n = sit classes selectors n (not (is_first_of_batch n || n == definition_count selectors)) false 0

  selector_below : (n : ℕ) → selector_of selectors n < selectors
  selector_below n = omega (arith, size.one_selector)

  definition_goes : (s n : ℕ) → n < definition_count selectors → GoesOn readers (definition_line classes selectors s n) (before n) (before (n + 1))
  definition_goes s n below =
      let more : (n == definition_count selectors) ≡ false = grind (arith, nat_tests) in
      let opened : (is_first_of_batch n || n == definition_count selectors) ≡ is_first_of_batch n = or_false (is_first_of_batch n) (n == definition_count selectors) more in
      let start = subst (λ b. GoesOn readers (cond (is_first_of_batch n) (Begin ∷ []) []) (sit classes selectors n (not b) false 0) (sit classes selectors n true false 0)) (sym opened) (begin_if (is_first_of_batch n) n (omega (arith, below))) in
      goes-append readers (cond (is_first_of_batch n) (Begin ∷ []) [] ++ Define (selector_of selectors n) (tuple_of classes selectors s n) n ∷ []) (cond (is_last_of_batch selectors n) (Commit ∷ []) [])
      (before n) (sit classes selectors (n + 1) true false 0) (before (n + 1))
      (goes-append readers (cond (is_first_of_batch n) (Begin ∷ []) []) (Define (selector_of selectors n) (tuple_of classes selectors s n) n ∷ []) (before n) (sit classes selectors n true false 0) (sit classes selectors (n + 1) true false 0)
      start
      (one_step readers (Define (selector_of selectors n) (tuple_of classes selectors s n) n) (sit classes selectors n true false 0) (sit classes selectors (n + 1) true false 0)
      (define_step law readers (sit classes selectors n true false 0) (selector_of selectors n) (tuple_of classes selectors s n) (fits_at classes selectors n true false 0 (omega arith) (omega arith) (omega (arith, below)))
      (omega (arith, below, size.selectors_in_range)) refl (selector_below n) (tuple_below classes s (arity_of_number (selector_of selectors n)) (omega (arith, size.two_classes))) (tuple_in_range classes s (selector_of selectors n % 50 == 49)))))
      (commit_if (is_last_of_batch selectors n) (n + 1) (omega (arith, below)))

  pub definitions_go : (state : ℕ) → GoesOn readers (definition_lines classes selectors state) (sit classes selectors 0 false false 0) (sit classes selectors (definition_count selectors) false false 0)
  definitions_go state =
      let done : (is_first_of_batch (definition_count selectors) || definition_count selectors == definition_count selectors) ≡ true = or_true (is_first_of_batch (definition_count selectors)) (definition_count selectors == definition_count selectors) (eq-eqb (definition_count selectors) (definition_count selectors) refl) in
      subst (λ b. GoesOn readers (definition_lines classes selectors state) (sit classes selectors 0 false false 0) (sit classes selectors (definition_count selectors) (not b) false 0)) done
      (from_zero readers (definition_line classes selectors) (after_definition selectors) before state (definition_count selectors) definition_goes)

  -- ---- calls

  -- with all names
  abbrev pub full : Bool → ℕ → Situation
  full calling least = sit classes selectors (definition_count selectors) false calling least

  pub full_fits : (calling : Bool) (least : ℕ) → Fits (full calling least)
  full_fits calling least = fits_at classes selectors (definition_count selectors) false calling least (omega arith) (omega arith) (omega arith)

  call_goes : (least s n : ℕ) → GoesOn readers (call_line classes selectors s n) (full true least) (full true least)
  call_goes least s n =
      one_step readers (Call (record { selector = drawn s selectors; classes = classes_drawn classes (next_state s) (arity_of_number (drawn s selectors)) })) (full true least) (full true least)
      (call_step law readers (full true least) (record { selector = drawn s selectors; classes = classes_drawn classes (next_state s) (arity_of_number (drawn s selectors)) }) (full_fits true least) refl
      (drawn-below s selectors (omega (arith, size.one_selector))) (tuple_below classes (next_state s) (arity_of_number (drawn s selectors)) (omega (arith, size.two_classes))) (tuple_in_range classes (next_state s) (drawn s selectors % 50 == 49)))

  -- before the lines of the caller of this number
  abbrev called : ℕ → Situation
  called caller = full (nat_lt 1 caller) caller

  caller_goes : (s caller : ℕ) → 1 ≤ caller → caller < 5 → caller_count ≤ readers → GoesOn readers (caller_lines classes selectors s caller) (called caller) (called (caller + 1))
  caller_goes s caller first last enough =
      let calls : true ≡ nat_lt 1 (caller + 1) = grind (arith, nat_tests) in (
        full true (caller + 1),
        caller_step law readers (called caller) (full true (caller + 1)) caller (full_fits (nat_lt 1 caller) caller) refl refl refl refl refl refl first (omega (arith, last, enough)) (omega (arith, last)),
        subst (λ b. GoesOn readers (lines_in_turn (call_line classes selectors) (after_call selectors) s 0 call_count) (full true (caller + 1)) (full b (caller + 1))) calls
            (from_zero readers (call_line classes selectors) (after_call selectors) (λ n. full true (caller + 1)) s call_count (λ t n below. call_goes (caller + 1) t n)),
      )

  pub callers_go : (state : ℕ) → caller_count ≤ readers → GoesOn readers (calling_lines classes selectors state) (full false 0) (full true 5)
  callers_go state enough = (
    full false 1,
    phase_step law readers (full false 0) (full false 1) (full_fits false 0) refl refl refl refl,
    in_turn readers (caller_lines classes selectors) (after_caller selectors) called state 1 caller_count (λ s n low high. caller_goes s n low high enough),
  )

  -- ---- edits

  step_of_four : (a b c : Bool) (u d l n : Line) (at : Situation) → Step readers u at at → Step readers d at at → Step readers l at at → Step readers n at at
      → Step readers (cond a u (cond b d (cond c l n))) at at
  step_of_four true b c u d l n at su sd sl sn = su
  step_of_four false true c u d l n at su sd sl sn = sd
  step_of_four false false true u d l n at su sd sl sn = sl
  step_of_four false false false u d l n at su sd sl sn = sn

  edit_goes : (number s edit : ℕ) → GoesOn readers (edit_line (first_parent number) (tuple_at classes selectors (after_classes number classes)) classes selectors s edit) (full false 0) (full false 0)
  edit_goes number s edit =
      let definition : ℕ = drawn s (definition_count selectors) in
      let class : ℕ = class_drawn classes s in
      let start : ℕ = state_after (after_definition selectors) (after_classes number classes) 0 definition in
      let tuple : List ℕ = tuple_of classes selectors start definition in
      let one : drawn s (classes - 1) < classes - 1 = drawn-below s (classes - 1) (omega (arith, size.two_classes)) in
      let below : class < classes = omega (arith, one) in
      let parent : drawn (next_state s) class < class = drawn-below (next_state s) class (omega arith) in
      let first : first_parent number class < class = drawn-below (state_after after_parents number 0 class) class (omega arith) in
      let named = selector_below definition in
      let in_tuple = tuple_below classes start (arity_of_number (selector_of selectors definition)) (omega (arith, size.two_classes)) in
      let range = tuple_in_range classes start (selector_of selectors definition % 50 == 49) in
      let body : definition < definition_count selectors = drawn-below s (definition_count selectors) (omega (arith, size.one_selector)) in
      one_step readers
      (cond (edit % 4 == 0) (Undefine (selector_of selectors definition) tuple) (cond (edit % 4 == 1) (Define (selector_of selectors definition) tuple definition)
      (cond (edit % 4 == 2) (Link class (drawn (next_state s) class)) (Unlink class (first_parent number class))))) (full false 0) (full false 0)
      (step_of_four (edit % 4 == 0) (edit % 4 == 1) (edit % 4 == 2) (Undefine (selector_of selectors definition) tuple) (Define (selector_of selectors definition) tuple definition)
      (Link class (drawn (next_state s) class)) (Unlink class (first_parent number class)) (full false 0)
      (undefine_step law readers (full false 0) (selector_of selectors definition) tuple (full_fits false 0) refl named in_tuple range)
      (again_step law readers (full false 0) (selector_of selectors definition) tuple definition (full_fits false 0) refl named in_tuple body range)
      (link_step law readers (full false 0) class (drawn (next_state s) class) (full_fits false 0) refl below (omega (arith, below, parent)))
      (unlink_step law readers (full false 0) class (first_parent number class) (full_fits false 0) refl below (omega (arith, below, first))))

  pub edits_go : (number state : ℕ)
      → GoesOn readers (edit_lines (first_parent number) (tuple_at classes selectors (after_classes number classes)) classes selectors state) (full true 5) (full false 0)
  edits_go number state = (
    full false 0,
    phase_step law readers (full true 5) (full false 0) (full_fits true 5) refl refl refl refl,
    from_zero readers (edit_line (first_parent number) (tuple_at classes selectors (after_classes number classes)) classes selectors) after_edit (λ n. full false 0) state edit_count (λ s n below. edit_goes number s n),
  )
