-- A generated text has no more bytes than a script may have.
use Rattle.std.proofs.Common.{◌≡◌, ◌==◌, ℕ, ◌+◌, ◌-◌, ◌*◌, ◌%◌, ◌<◌, ◌≤◌, Bool, true, false, cond, zero, suc, List, [], ◌∷◌, ◌++◌, length, codes, decimal, ap, ◌∙◌, length-append, arith}
use Rattle.std.proofs.lemmas.Fmt.{length-decimal-le}
use Rattle.dt_scratch.specs.Query.{Query}
use Rattle.dt_script.specs.Draw.{next_state, drawn, state_after}
use Rattle.dt_script.specs.GeneratedSize.{IsSize}
use Rattle.dt_script.specs.GeneratedLaws.{GeneratedIsShort}
use Rattle.dt_script.specs.GeneratedLines.{lines_in_turn, parents_drawn, after_parents, class_line, class_lines, after_classes, arity_of_number, selector_line, after_selector, selector_lines, definition_count, is_first_of_batch, is_last_of_batch, classes_drawn, selector_of, tuple_of, after_definition, definition_line, definition_lines, caller_count, call_count, call_line, after_call, caller_lines, after_caller, calling_lines, edit_count, first_parent, tuple_at, class_drawn, edit_line, after_edit, edit_lines, program_lines, phase_lines, after_program, after_callers, after_edits}
use Rattle.dt_script.specs.GeneratedText.{ended, text_of_lines}
use Rattle.dt_script.specs.declared.line.Line.{Line}
use Rattle.dt_script.specs.declared.line.Line.TheVariants.{Header, AddClass, Link, Unlink, AddSelector, Define, Undefine, Begin, Commit, Caller, Call, End}
use Rattle.dt_script.proofs.GeneratedSpelling.{tuple_text, undefine_text, call_text, define_text, class_text}
use Rattle.dt_script.proofs.GeneratedPlaces.{AreBelow}
use Rattle.dt_script.proofs.GeneratedRun.{parents_below, tuple_below}
use Rattle.dt_script.proofs.GeneratedWhole.{drawn-below}
use Rattle.dt_script.proofs.WrittenInTurn.{text-append, text-one}

-- ---- lines

digits : (n : ℕ) → n < 65536 → length (decimal n) ≤ 5
digits n small = length-decimal-le 5 n (omega arith) (omega arith) (omega arith)

tuple_length : (bound : ℕ) (classes : List ℕ) → bound ≤ 65536 → AreBelow bound classes → length (tuple_text classes) ≤ 7 * length classes
tuple_length bound [] few below = omega arith
tuple_length bound (class ∷ classes) few (is, are) =
    let rest = tuple_length bound classes few are in
    let one = digits class (omega (arith, is, few)) in
    let whole : length (tuple_text (class ∷ classes)) ≡ 2 + length (decimal class) + length (tuple_text classes) = omega (arith, length-append (32 ∷ 99 ∷ decimal class) (tuple_text classes)) in
    let more : 7 * length (class ∷ classes) ≡ 7 * length classes + 7 = omega arith in
    omega (arith, rest, one, whole, more)

-- each line has at most this many bytes
abbrev most : ℕ
most = 64

five_lengths : (a b c d e : List ℕ) → length ((((a ++ b) ++ c) ++ d) ++ e) ≡ length a + length b + length c + length d + length e
five_lengths a b c d e = omega (arith, length-append (((a ++ b) ++ c) ++ d) e, length-append ((a ++ b) ++ c) d, length-append (a ++ b) c, length-append a b)

class_length : (class : ℕ) (parents : List ℕ) → class < 65536 → AreBelow class parents → length parents ≤ 2 → length (ended (AddClass class parents)) ≤ most
class_length class [] small below few = omega (arith, digits class small, length-append (decimal class) (10 ∷ []))
class_length class (parent ∷ parents) small below few =
    let text = ap length (class_text class (parent ∷ parents) (omega arith)) in
    let whole = five_lengths (codes "class") (32 ∷ 99 ∷ decimal class) (codes " <") (tuple_text (parent ∷ parents)) (10 ∷ []) in
    let tuple = tuple_length class (parent ∷ parents) (omega (arith, small)) below in
    omega (arith, text ∙ whole, tuple, digits class small, few)

selector_length : (selector arity : ℕ) → selector < 65536 → arity < 65536 → length (ended (AddSelector selector arity)) ≤ most
selector_length selector arity small small' =
    omega (arith, digits selector small, digits arity small', length-append (decimal selector ++ 32 ∷ decimal arity) (10 ∷ []), length-append (decimal selector) (32 ∷ decimal arity))

keyed_length : (key : List ℕ) (selector : ℕ) (classes : List ℕ) (bound : ℕ) → length key ≤ 8 → selector < 65536 → bound ≤ 65536 → AreBelow bound classes → length classes ≤ 2
    → length (key ++ 32 ∷ 115 ∷ decimal selector ++ tuple_text classes) ≤ 29
keyed_length key selector classes bound short small few below two =
    let tuple = tuple_length bound classes few below in
    omega (arith, tuple, two, short, digits selector small, length-append (key ++ 32 ∷ 115 ∷ decimal selector) (tuple_text classes), length-append key (32 ∷ 115 ∷ decimal selector))

define_length : (selector : ℕ) (classes : List ℕ) (body bound : ℕ) → selector < 65536 → body < 65536 → bound ≤ 65536 → AreBelow bound classes → length classes ≤ 2 → length (ended (Define selector classes body)) ≤ most
define_length selector classes body bound small small' few below two =
    let text = ap length (define_text selector classes body) in
    let key = keyed_length (codes "define") selector classes bound (omega arith) small few below two in
    let front : List ℕ = codes "define" ++ 32 ∷ 115 ∷ decimal selector ++ tuple_text classes in
    let whole : length (((front ++ codes " ->") ++ 32 ∷ 98 ∷ decimal body) ++ 10 ∷ []) ≡ length front + 3 + (2 + length (decimal body)) + 1 =
    omega (arith, length-append ((front ++ codes " ->") ++ 32 ∷ 98 ∷ decimal body) (10 ∷ []), length-append (front ++ codes " ->") (32 ∷ 98 ∷ decimal body), length-append front (codes " ->")) in
    omega (arith, text ∙ whole, key, digits body small')

undefine_length : (selector : ℕ) (classes : List ℕ) (bound : ℕ) → selector < 65536 → bound ≤ 65536 → AreBelow bound classes → length classes ≤ 2 → length (ended (Undefine selector classes)) ≤ most
undefine_length selector classes bound small few below two =
    let front : List ℕ = codes "undefine" ++ 32 ∷ 115 ∷ decimal selector ++ tuple_text classes in
    omega (arith, ap length (undefine_text selector classes) ∙ length-append front (10 ∷ []), keyed_length (codes "undefine") selector classes bound (omega arith) small few below two)

call_length : (query : Query) (bound : ℕ) → query.selector < 65536 → bound ≤ 65536 → AreBelow bound query.classes → length query.classes ≤ 2 → length (ended (Call query)) ≤ most
call_length query bound small few below two =
    let front : List ℕ = codes "call" ++ 32 ∷ 115 ∷ decimal query.selector ++ tuple_text query.classes in
    omega (arith, ap length (call_text query) ∙ length-append front (10 ∷ []), keyed_length (codes "call") query.selector query.classes bound (omega arith) small few below two)

link_length : (class parent : ℕ) → class < 65536 → parent < 65536 → (length (ended (Link class parent)) ≤ most) × (length (ended (Unlink class parent)) ≤ most)
link_length class parent small small' =
    let whole : length ((decimal class ++ 32 ∷ 60 ∷ 32 ∷ 99 ∷ decimal parent) ++ 10 ∷ []) ≤ 15 =
    omega (arith, digits class small, digits parent small', length-append (decimal class ++ 32 ∷ 60 ∷ 32 ∷ 99 ∷ decimal parent) (10 ∷ []), length-append (decimal class) (32 ∷ 60 ∷ 32 ∷ 99 ∷ decimal parent)) in
    (omega (arith, whole), omega (arith, whole))

caller_length : (caller : ℕ) → caller < 65536 → length (ended (Caller caller)) ≤ most
caller_length caller small = omega (arith, digits caller small, length-append (decimal caller) (10 ∷ []))

-- ---- lines one after the other

one_short : (line : Line) → length (ended line) ≤ most → length (text_of_lines (line ∷ [])) ≤ most
one_short line short = omega (arith, short, ap length (text-one line))

both_short : (xs ys : List Line) (k l : ℕ) → length (text_of_lines xs) ≤ k → length (text_of_lines ys) ≤ l → length (text_of_lines (xs ++ ys)) ≤ k + l
both_short xs ys k l short short' = omega (arith, short, short', ap length (text-append xs ys) ∙ length-append (text_of_lines xs) (text_of_lines ys))

in_turn_short : (lines : ℕ → ℕ → List Line) (leaves : ℕ → ℕ → ℕ) (k state number count : ℕ) → ((s n : ℕ) → n < number + count → length (text_of_lines (lines s n)) ≤ k)
    → length (text_of_lines (lines_in_turn lines leaves state number count)) ≤ k * count
unfolding lines_in_turn
in_turn_short lines leaves k state number zero each = omega arith
in_turn_short lines leaves k state number (suc count) each =
    let one = each state number (omega arith) in
    let rest = in_turn_short lines leaves k (leaves state number) (number + 1) count (λ s n below. each s n (omega (arith, below))) in
    let more : k * suc count ≡ k + k * count = omega arith in
    omega (arith, more, both_short (lines state number) (lines_in_turn lines leaves (leaves state number) (number + 1) count) k (k * count) one rest)

batch_short : (lines : List Line) (k : ℕ) → length (text_of_lines lines) ≤ k → length (text_of_lines (Begin ∷ lines ++ Commit ∷ [])) ≤ k + 13
batch_short lines k short = omega (arith, both_short lines (Commit ∷ []) k 7 short (omega arith))

-- ---- the parts

few_parents : (b c : Bool) (p q : ℕ) → length (p ∷ cond b (cond c [] (q ∷ [])) []) ≤ 2
few_parents true true p q = omega arith
few_parents true false p q = omega arith
few_parents false c p q = omega arith

parents_few : (state class : ℕ) → length (parents_drawn state class) ≤ 2
parents_few state zero = omega arith
parents_few state (suc class) =
    few_parents (drawn (next_state state) 4 == 0) (drawn (next_state (next_state state)) (suc class) == drawn state (suc class)) (drawn state (suc class)) (drawn (next_state (next_state state)) (suc class))

tuple_few : (classes state : ℕ) (b : Bool) → length (classes_drawn classes state (cond b 2 1)) ≤ 2
tuple_few classes state true = omega arith
tuple_few classes state false = omega arith

arity_small : (b : Bool) → cond b 2 1 < 65536
arity_small true = omega arith
arity_small false = omega arith

begin_short : (b : Bool) → length (text_of_lines (cond b (Begin ∷ []) [])) ≤ 6
begin_short true = omega arith
begin_short false = omega arith

commit_short : (b : Bool) → length (text_of_lines (cond b (Commit ∷ []) [])) ≤ 7
commit_short true = omega arith
commit_short false = omega arith

short_of_four : (a b c : Bool) (u d l n : Line) → length (ended u) ≤ most → length (ended d) ≤ most → length (ended l) ≤ most → length (ended n) ≤ most
    → length (ended (cond a u (cond b d (cond c l n)))) ≤ most
short_of_four true b c u d l n su sd sl sn = su
short_of_four false true c u d l n su sd sl sn = sd
short_of_four false false true u d l n su sd sl sn = sl
short_of_four false false false u d l n su sd sl sn = sn

module _ (classes selectors : ℕ) (size : IsSize classes selectors) where
  classes_short : (state : ℕ) → length (text_of_lines (class_lines state classes)) ≤ 200000
  classes_short state =
      let lines = in_turn_short class_line after_parents 64 state 0 classes (λ s n below.
      one_short (AddClass n (parents_drawn s n)) (class_length n (parents_drawn s n) (omega (arith, below, size.classes_in_range)) (parents_below s n) (parents_few s n))) in
      omega (arith, batch_short (lines_in_turn class_line after_parents state 0 classes) (64 * classes) lines, size.classes_in_range)

  selectors_short : length (text_of_lines (selector_lines selectors)) ≤ 300000
  selectors_short =
      let lines = in_turn_short selector_line after_selector 64 0 0 selectors (λ s n below.
      one_short (AddSelector n (arity_of_number n)) (selector_length n (arity_of_number n) (omega (arith, below, size.selectors_in_range)) (arity_small (n % 50 == 49)))) in
      omega (arith, batch_short (lines_in_turn selector_line after_selector 0 0 selectors) (64 * selectors) lines, size.selectors_in_range)

  selector_below : (n : ℕ) → selector_of selectors n < selectors
  selector_below n = omega (arith, size.one_selector)

  definition_short : (s n : ℕ) → n < definition_count selectors → length (text_of_lines (definition_line classes selectors s n)) ≤ 80
  definition_short s n below =
      let define : length (ended (Define (selector_of selectors n) (tuple_of classes selectors s n) n)) ≤ most =
      define_length (selector_of selectors n) (tuple_of classes selectors s n) n classes (omega (arith, selector_below n, size.selectors_in_range)) (omega (arith, below, size.selectors_in_range))
      (omega (arith, size.classes_in_range)) (tuple_below classes s (arity_of_number (selector_of selectors n)) (omega (arith, size.two_classes))) (tuple_few classes s (selector_of selectors n % 50 == 49)) in
      omega (
        arith,
        both_short (cond (is_first_of_batch n) (Begin ∷ []) [] ++ Define (selector_of selectors n) (tuple_of classes selectors s n) n ∷ []) (cond (is_last_of_batch selectors n) (Commit ∷ []) []) 70 7
            (both_short (cond (is_first_of_batch n) (Begin ∷ []) []) (Define (selector_of selectors n) (tuple_of classes selectors s n) n ∷ []) 6 64 (begin_short (is_first_of_batch n)) (one_short (Define (selector_of selectors n) (tuple_of classes selectors s n) n) define))
            (commit_short (is_last_of_batch selectors n)),
      )

  definitions_short : (state : ℕ) → length (text_of_lines (definition_lines classes selectors state)) ≤ 1000000
  definitions_short state =
      omega (arith, in_turn_short (definition_line classes selectors) (after_definition selectors) 80 state 0 (definition_count selectors) (λ s n below. definition_short s n (omega (arith, below))), size.selectors_in_range)

  call_short : (s n : ℕ) → length (text_of_lines (call_line classes selectors s n)) ≤ 64
  call_short s n =
      let query : Query = record { selector = drawn s selectors; classes = classes_drawn classes (next_state s) (arity_of_number (drawn s selectors)) } in
      one_short (Call query) (call_length query classes (omega (arith, drawn-below s selectors (omega (arith, size.one_selector)), size.selectors_in_range)) (omega (arith, size.classes_in_range))
      (tuple_below classes (next_state s) (arity_of_number (drawn s selectors)) (omega (arith, size.two_classes))) (tuple_few classes (next_state s) (drawn s selectors % 50 == 49)))

  caller_short : (s caller : ℕ) → caller < 5 → length (text_of_lines (caller_lines classes selectors s caller)) ≤ 170000
  caller_short s caller below =
      let calls = in_turn_short (call_line classes selectors) (after_call selectors) 64 s 0 call_count (λ t n low. call_short t n) in
      let first = one_short (Caller caller) (caller_length caller (omega (arith, below))) in
      omega (arith, both_short (Caller caller ∷ []) (lines_in_turn (call_line classes selectors) (after_call selectors) s 0 call_count) 64 (64 * call_count) first calls)

  callers_short : (state : ℕ) → length (text_of_lines (calling_lines classes selectors state)) ≤ 700000
  callers_short state =
      omega (arith, in_turn_short (caller_lines classes selectors) (after_caller selectors) 170000 state 1 caller_count (λ s n low. caller_short s n (omega (arith, low))))

  edit_short : (number s edit : ℕ) → length (text_of_lines (edit_line (first_parent number) (tuple_at classes selectors (after_classes number classes)) classes selectors s edit)) ≤ 64
  edit_short number s edit =
      let definition : ℕ = drawn s (definition_count selectors) in
      let class : ℕ = class_drawn classes s in
      let start : ℕ = state_after (after_definition selectors) (after_classes number classes) 0 definition in
      let tuple : List ℕ = tuple_of classes selectors start definition in
      let one : drawn s (classes - 1) < classes - 1 = drawn-below s (classes - 1) (omega (arith, size.two_classes)) in
      let small : class < 65536 = omega (arith, one, size.classes_in_range) in
      let parent : drawn (next_state s) class < class = drawn-below (next_state s) class (omega arith) in
      let first : first_parent number class < class = drawn-below (state_after after_parents number 0 class) class (omega arith) in
      let named : selector_of selectors definition < 65536 = omega (arith, selector_below definition, size.selectors_in_range) in
      let in_tuple = tuple_below classes start (arity_of_number (selector_of selectors definition)) (omega (arith, size.two_classes)) in
      let few = tuple_few classes start (selector_of selectors definition % 50 == 49) in
      let body : definition < definition_count selectors = drawn-below s (definition_count selectors) (omega (arith, size.one_selector)) in
      one_short
      (cond (edit % 4 == 0) (Undefine (selector_of selectors definition) tuple) (cond (edit % 4 == 1) (Define (selector_of selectors definition) tuple definition)
      (cond (edit % 4 == 2) (Link class (drawn (next_state s) class)) (Unlink class (first_parent number class)))))
      (short_of_four (edit % 4 == 0) (edit % 4 == 1) (edit % 4 == 2) (Undefine (selector_of selectors definition) tuple) (Define (selector_of selectors definition) tuple definition)
      (Link class (drawn (next_state s) class)) (Unlink class (first_parent number class))
      (undefine_length (selector_of selectors definition) tuple classes named (omega (arith, size.classes_in_range)) in_tuple few)
      (define_length (selector_of selectors definition) tuple definition classes named (omega (arith, body, size.selectors_in_range)) (omega (arith, size.classes_in_range)) in_tuple few)
      (link_length class (drawn (next_state s) class) small (omega (arith, small, parent))).0
      (link_length class (first_parent number class) small (omega (arith, small, first))).1)

  edits_short : (number state : ℕ) → length (text_of_lines (edit_lines (first_parent number) (tuple_at classes selectors (after_classes number classes)) classes selectors state)) ≤ 20000
  edits_short number state =
      omega (arith, in_turn_short (edit_line (first_parent number) (tuple_at classes selectors (after_classes number classes)) classes selectors) after_edit 64 state 0 edit_count (λ s n low. edit_short number s n))

  program_short : (number : ℕ) → length (text_of_lines (program_lines number classes selectors)) ≤ 1500011
  program_short number =
      both_short (Header ∷ class_lines number classes ++ selector_lines selectors) (definition_lines classes selectors (after_classes number classes)) 500011 1000000
      (both_short (Header ∷ class_lines number classes) (selector_lines selectors) 200011 300000 (both_short (Header ∷ []) (class_lines number classes) 11 200000 (omega arith) (classes_short number)) selectors_short)
      (definitions_short (after_classes number classes))

  phases_short : (number state : ℕ) → length (text_of_lines (phase_lines (first_parent number) (tuple_at classes selectors (after_classes number classes)) classes selectors state)) ≤ 1420004
  phases_short number state =
      both_short (calling_lines classes selectors state ++ edit_lines (first_parent number) (tuple_at classes selectors (after_classes number classes)) classes selectors (after_callers selectors state) ++ calling_lines classes selectors (after_edits (after_callers selectors state))) (End ∷ []) 1420000 4
      (both_short (calling_lines classes selectors state ++ edit_lines (first_parent number) (tuple_at classes selectors (after_classes number classes)) classes selectors (after_callers selectors state)) (calling_lines classes selectors (after_edits (after_callers selectors state))) 720000 700000
      (both_short (calling_lines classes selectors state) (edit_lines (first_parent number) (tuple_at classes selectors (after_classes number classes)) classes selectors (after_callers selectors state)) 700000 20000 (callers_short state) (edits_short number (after_callers selectors state)))
      (callers_short (after_edits (after_callers selectors state)))) (omega arith)

pub generated_is_short : GeneratedIsShort
generated_is_short number classes selectors size =
    omega (
      arith,
      both_short (program_lines number classes selectors) (phase_lines (first_parent number) (tuple_at classes selectors (after_classes number classes)) classes selectors (after_program number classes selectors)) 1500011 1420004
          (program_short classes selectors size number) (phases_short classes selectors size number (after_program number classes selectors)),
    )
