-- The whole text from its parts, and the edits from what is kept.
use Rattle.std.proofs.Common.{◌≡◌, ◌==◌, ℕ, ◌+◌, ◌-◌, ◌%◌, ◌<◌, Bool, true, false, cond, zero, suc, List, [], ◌∷◌, ◌++◌, codes, get_or, refl, sym, ap, ◌∙◌, append_assoc, arith}
use Rattle.dt_script.specs.Draw.{next_state, number_of, drawn}
use Rattle.dt_script.specs.GeneratedLines.{lines_in_turn, definition_count, selector_of, after_classes, after_program, first_parent, tuple_at, undefine_line, define_line, class_drawn, edit_line, after_edit, edit_count, calling_lines, after_callers, after_edits, phase_lines}
use Rattle.dt_script.specs.GeneratedLists.{HasFirstParents, HasTuples}
use Rattle.dt_script.specs.GeneratedSize.{IsSize}
use Rattle.dt_script.specs.GeneratedText.{text_of_lines}
use Rattle.dt_script.specs.declared.line.Line.{Line}
use Rattle.dt_script.specs.declared.line.Line.TheVariants.{Header, Link, Unlink, Define, Undefine, Phase, End}
use Rattle.dt_script.proofs.WrittenInTurn.{text-append}

pub program_put : (old one two three new : List ℕ) (classes selectors definitions : List Line) → one ≡ old ++ codes "dispatch 1\n" → two ≡ one ++ text_of_lines classes
    → three ≡ two ++ text_of_lines selectors → new ≡ three ++ text_of_lines definitions → new ≡ old ++ text_of_lines (Header ∷ classes ++ selectors ++ definitions)
program_put old one two three new classes selectors definitions e1 e2 e3 e4 =
    e4 ∙ ap (λ l. l ++ text_of_lines definitions) (e3 ∙ ap (λ l. l ++ text_of_lines selectors) (e2 ∙ ap (λ l. l ++ text_of_lines classes) e1))
    ∙ regroup old (codes "dispatch 1\n") (text_of_lines classes) (text_of_lines selectors) (text_of_lines definitions)
    ∙ ap (λ l. old ++ l) (sym (text-append (Header ∷ classes ++ selectors) definitions ∙ ap (λ l. l ++ text_of_lines definitions) (text-append (Header ∷ classes) selectors)))
  where
    regroup : (o a b c d : List ℕ) → (((o ++ a) ++ b) ++ c) ++ d ≡ o ++ (((a ++ b) ++ c) ++ d)
    regroup o a b c d = simp append_assoc

pub phases_put : (old one two three new : List ℕ) (first middle second : List Line) → one ≡ old ++ text_of_lines first → two ≡ one ++ text_of_lines middle
    → three ≡ two ++ text_of_lines second → new ≡ three ++ codes "end\n" → new ≡ old ++ text_of_lines (first ++ middle ++ second ++ End ∷ [])
phases_put old one two three new first middle second e1 e2 e3 e4 =
    e4 ∙ ap (λ l. l ++ codes "end\n") (e3 ∙ ap (λ l. l ++ text_of_lines second) (e2 ∙ ap (λ l. l ++ text_of_lines middle) e1))
    ∙ regroup old (text_of_lines first) (text_of_lines middle) (text_of_lines second) (codes "end\n")
    ∙ ap (λ l. old ++ l) (sym (text-append (first ++ middle ++ second) (End ∷ []) ∙ ap (λ l. l ++ codes "end\n") (text-append (first ++ middle) second ∙ ap (λ l. l ++ text_of_lines second) (text-append first middle))))
  where
    regroup : (o a b c d : List ℕ) → (((o ++ a) ++ b) ++ c) ++ d ≡ o ++ (((a ++ b) ++ c) ++ d)
    regroup o a b c d = simp append_assoc

pub whole_put : (old one new : List ℕ) (program phases : List Line) → one ≡ old ++ text_of_lines program → new ≡ one ++ text_of_lines phases
    → new ≡ old ++ text_of_lines (program ++ phases)
whole_put old one new program phases is is' =
    is' ∙ ap (λ l. l ++ text_of_lines phases) is ∙ append_assoc old (text_of_lines program) (text_of_lines phases) ∙ ap (λ l. old ++ l) (sym (text-append program phases))

-- ---- the edits

-- lines that are the same at every state and number are the same in turn
same_in_turn : (f g : ℕ → ℕ → List Line) (leaves : ℕ → ℕ → ℕ) (state number count : ℕ) → ((s n : ℕ) → f s n ≡ g s n) → lines_in_turn f leaves state number count ≡ lines_in_turn g leaves state number count
unfolding lines_in_turn
same_in_turn f g leaves state number zero same = refl
same_in_turn f g leaves state number (suc count) same =
    ap (λ l. l ++ lines_in_turn f leaves (leaves state number) (number + 1) count) (same state number)
    ∙ ap (λ l. g state number ++ l) (same_in_turn f g leaves (leaves state number) (number + 1) count same)

-- a drawn number is below its bound
pub drawn-below : (state bound : ℕ) → 0 < bound → drawn state bound < bound
unfolding number_of
drawn-below state bound some = omega arith

same_cases : (a b c : Bool) (u u' d d' l n n' : Line) → u ≡ u' → d ≡ d' → n ≡ n'
    → cond a u (cond b d (cond c l n)) ∷ [] ≡ cond a u' (cond b d' (cond c l n')) ∷ []
same_cases true b c u u' d d' l n n' eu ed en = ap (λ x. x ∷ []) eu
same_cases false true c u u' d d' l n n' eu ed en = ap (λ x. x ∷ []) ed
same_cases false false true u u' d d' l n n' eu ed en = refl
same_cases false false false u u' d d' l n n' eu ed en = ap (λ x. x ∷ []) en

module _ (parents parents' : ℕ → ℕ) (tuples tuples' : ℕ → List ℕ) (classes selectors : ℕ) (size : IsSize classes selectors)
    (same_parents : (class : ℕ) → 0 < class → class < classes → parents class ≡ parents' class)
    (same_tuples : (n : ℕ) → n < definition_count selectors → tuples n ≡ tuples' n) where
  same_edit : (state edit : ℕ) → edit_line parents tuples classes selectors state edit ≡ edit_line parents' tuples' classes selectors state edit
  same_edit state edit =
      let definition : drawn state (definition_count selectors) < definition_count selectors = drawn-below state (definition_count selectors) (omega (arith, size.one_selector)) in
      let number : drawn state (classes - 1) < classes - 1 = drawn-below state (classes - 1) (omega (arith, size.two_classes)) in
      let class : class_drawn classes state < classes = omega arith in
      let tuple : tuples (drawn state (definition_count selectors)) ≡ tuples' (drawn state (definition_count selectors)) = same_tuples (drawn state (definition_count selectors)) definition in
      same_cases (edit % 4 == 0) (edit % 4 == 1) (edit % 4 == 2)
      (undefine_line tuples selectors (drawn state (definition_count selectors))) (undefine_line tuples' selectors (drawn state (definition_count selectors)))
      (define_line tuples selectors (drawn state (definition_count selectors))) (define_line tuples' selectors (drawn state (definition_count selectors)))
      (Link (class_drawn classes state) (drawn (next_state state) (class_drawn classes state)))
      (Unlink (class_drawn classes state) (parents (class_drawn classes state))) (Unlink (class_drawn classes state) (parents' (class_drawn classes state)))
      (ap (λ t. Undefine (selector_of selectors (drawn state (definition_count selectors))) t) tuple)
      (ap (λ t. Define (selector_of selectors (drawn state (definition_count selectors))) t (drawn state (definition_count selectors))) tuple)
      (ap (λ p. Unlink (class_drawn classes state) p) (same_parents (class_drawn classes state) (omega arith) class))

  pub same_phases : (state : ℕ) → phase_lines parents tuples classes selectors state ≡ phase_lines parents' tuples' classes selectors state
  same_phases state =
      ap (λ l. calling_lines classes selectors state ++ (Phase ∷ l) ++ calling_lines classes selectors (after_edits (after_callers selectors state)) ++ End ∷ [])
      (same_in_turn (edit_line parents tuples classes selectors) (edit_line parents' tuples' classes selectors) after_edit (after_callers selectors state) 0 edit_count same_edit)

-- what is kept gives the phases that the number gives
pub kept_phases : (number classes selectors state : ℕ) (firsts : List ℕ) (tuples : List (List ℕ)) → IsSize classes selectors → HasFirstParents number classes firsts
    → HasTuples classes selectors (after_classes number classes) (definition_count selectors) tuples → state ≡ after_program number classes selectors
    → phase_lines (λ n. get_or firsts n 0) (λ n. get_or tuples n []) classes selectors state
    ≡ phase_lines (first_parent number) (tuple_at classes selectors (after_classes number classes)) classes selectors (after_program number classes selectors)
kept_phases number classes selectors state firsts tuples size has has' at =
    same_phases (λ n. get_or firsts n 0) (first_parent number) (λ n. get_or tuples n []) (tuple_at classes selectors (after_classes number classes)) classes selectors size
    has.are_first has'.are_theirs state
    ∙ ap (phase_lines (first_parent number) (tuple_at classes selectors (after_classes number classes)) classes selectors) at
