-- A generated text is the script of its lines.
use Rattle.std.proofs.Common.{◌≡◌, ◌==◌, ℕ, ◌≤◌, true, false, not, IsTrue, List, [], ◌∷◌, ◌++◌, map, reverse, inr, refl, sym, ap, subst, ◌∙◌, append_assoc, append-nil, lit<}
use Rattle.std.specs.List.{join_with_byte, list_all}
use Rattle.std.proofs.lemmas.Bool.{not_from_false, and_parts, and_from}
use Rattle.std.proofs.lemmas.List.Folds.{list_all-append}
use Rattle.std.proofs.lemmas.List.{reverse-append, reverse-reverse, map-append}
use Rattle.dt_script.specs.Cut.{is_free_of}
use Rattle.dt_script.specs.NameBook.{NameBook, is_within_limits}
use Rattle.dt_script.specs.Line.{LineOf}
use Rattle.dt_script.specs.Lines.{lines_of, is_silent}
use Rattle.dt_script.specs.Place.{may_stand}
use Rattle.dt_script.specs.Script.{script_of}
use Rattle.dt_script.specs.ScriptOf.{WereRead, IsScriptOf}
use Rattle.dt_script.specs.GeneratedSize.{IsSize}
use Rattle.dt_script.specs.GeneratedLaws.{generated_script, GeneratedIsScript}
use Rattle.dt_script.specs.GeneratedLines.{class_lines, after_classes, selector_lines, definition_count, definition_lines, after_program, calling_lines, caller_count, after_callers, edit_lines, after_edits, first_parent, tuple_at, generated_lines}
use Rattle.dt_script.specs.GeneratedText.{generated_line, text_of_lines}
use Rattle.dt_script.specs.declared.line.Line.{Line}
use Rattle.dt_script.specs.declared.line.Line.TheVariants.{Header, End}
use Rattle.dt_script.proofs.LawfulBooks.{NamesLaw}
use Rattle.dt_script.proofs.LinesCut.{line_first}
use Rattle.dt_script.proofs.Malformed.{names-free}
use Rattle.dt_script.proofs.OneAnswer.{line_speaks}
use Rattle.dt_script.proofs.GeneratedPlaces.{Situation, Fits, Stands, book_at, within, end_may, end_is_line}
use Rattle.dt_script.proofs.GeneratedRun.{GoesOn, goes-append, sit, full, full_fits, classes_go, selectors_go, definitions_go, callers_go, edits_go}

-- ---- a list onto another, latest first

onto : {X : Type 0} → List X → List X → List X
onto [] ys = ys
onto (x ∷ xs) ys = onto xs (x ∷ ys)

onto-reverse : {X : Type 0} (xs ys : List X) → onto xs ys ≡ reverse xs ++ ys
unfolding onto
onto-reverse [] ys = refl
onto-reverse (x ∷ xs) ys =
    onto-reverse xs (x ∷ ys) ∙ sym (append_assoc (reverse xs) (x ∷ []) ys) ∙ ap (λ l. l ++ ys) (sym (reverse-append (x ∷ []) xs))

onto-append : {X : Type 0} (xs ys zs : List X) → onto (xs ++ ys) zs ≡ onto ys (onto xs zs)
unfolding onto
onto-append [] ys zs = refl
onto-append (x ∷ xs) ys zs = onto-append xs ys (x ∷ zs)

-- ---- the lines of the text

AreFree : List Line → Type 0
AreFree [] = Unit {0}
AreFree (line ∷ lines) = IsTrue (is_free_of 10 (generated_line line)) × AreFree lines

lines_cut : (lines : List Line) → AreFree lines → lines_of (text_of_lines lines) ≡ map generated_line lines
unfolding AreFree
lines_cut [] free = refl
lines_cut (line ∷ lines) (is, are) =
    line_first (text_of_lines (line ∷ lines)) (generated_line line) (text_of_lines lines) is (append_assoc (generated_line line) (10 ∷ []) (text_of_lines lines))
    ∙ ap (λ ls. generated_line line ∷ ls) (lines_cut lines are)

free-append : (xs ys : List Line) → AreFree xs → AreFree ys → AreFree (xs ++ ys)
unfolding AreFree
free-append [] ys are are' = are'
free-append (x ∷ xs) ys (is, are) are' = (is, free-append xs ys are are')

-- words with spaces between them have no line feed
free-both : (c : ℕ) (xs ys : List ℕ) → IsTrue (is_free_of c xs) → IsTrue (is_free_of c ys) → IsTrue (is_free_of c (xs ++ ys))
free-both c xs ys is is' = list_all-append (λ byte. not (byte == c)) xs ys ∙ and_from (is_free_of c xs) (is_free_of c ys) is is'

joined_free : (texts : List (List ℕ)) → IsTrue (list_all (is_free_of 10) texts) → IsTrue (is_free_of 10 (join_with_byte 32 texts))
joined_free [] free = refl
joined_free (text ∷ []) free = (and_parts (is_free_of 10 text) true free).0
joined_free (text ∷ next ∷ texts) free =
    let both = and_parts (is_free_of 10 text) (list_all (is_free_of 10) (next ∷ texts)) free in
    free-both 10 text (32 ∷ join_with_byte 32 (next ∷ texts)) both.0 (joined_free (next ∷ texts) both.1)

line_free : (bytes : List ℕ) (before after : NameBook) (line : Line) → LineOf bytes before line after → IsTrue (is_free_of 10 bytes)
line_free bytes before after line is =
    subst (λ b. IsTrue (is_free_of 10 b)) (sym is.spelled) (joined_free is.texts (names-free 10 (lit< tt) is.texts is.are_words))

goes_free : (readers : ℕ) (lines : List Line) (from to : Situation) → GoesOn readers lines from to → AreFree lines
unfolding AreFree
goes_free readers [] from to goes = tt
goes_free readers (line ∷ lines) from to (between, step, rest) =
    (line_free (generated_line line) (book_at from) (book_at between) line step.is_line, goes_free readers lines between to rest)

-- ---- lines that are read one after the other

record Ran (readers : ℕ) (texts : List (List ℕ)) (past : List Line) (to : Situation) : Type 0 where
  were : WereRead readers texts (book_at to) past
  stands : Stands past to

one_more : (readers : ℕ) (line : Line) (texts : List (List ℕ)) (past : List Line) (before after : NameBook) → WereRead readers texts before past → LineOf (generated_line line) before line after
    → IsTrue (may_stand readers past line) → IsTrue (is_within_limits after) → WereRead readers (generated_line line ∷ texts) after (line ∷ past)
one_more readers line texts past before after were is may fits =
    inr (before, past, line, were, record { is_line = is; stands = may; fits = fits }, not_from_false (is_silent (generated_line line)) (line_speaks (generated_line line) before after line is), refl)

run : (readers : ℕ) (lines : List Line) (texts : List (List ℕ)) (past : List Line) (from to : Situation) → GoesOn readers lines from to → Ran readers texts past from
    → Ran readers (onto (map generated_line lines) texts) (onto lines past) to
unfolding onto
run readers [] texts past from to goes ran = subst (λ s. Ran readers texts past s) goes ran
run readers (line ∷ lines) texts past from to (between, step, rest) ran =
    run readers lines (generated_line line ∷ texts) (line ∷ past) between to rest (record {
      were = one_more readers line texts past (book_at from) (book_at between) ran.were step.is_line (step.may past ran.stands) step.fits;
      stands = step.next past ran.stands;
    })

-- ---- lines between the header and the end

header_stands : Stands (Header ∷ []) (sit 0 0 0 false false 0)
header_stands = record { going = refl; in_batch = refl; calling = refl; fresh = λ caller low. refl }

-- the texts and the lines, latest first
last_text : (body : List Line) → reverse (map generated_line (body ++ End ∷ [])) ≡ generated_line End ∷ onto (map generated_line body) []
last_text body =
    ap reverse (map-append generated_line body (End ∷ [])) ∙ reverse-append (map generated_line body) (generated_line End ∷ [])
    ∙ ap (λ l. generated_line End ∷ l) (sym (onto-reverse (map generated_line body) [] ∙ append-nil (reverse (map generated_line body))))

all_lines : (body : List Line) → reverse (End ∷ onto body (Header ∷ [])) ≡ Header ∷ body ++ End ∷ []
all_lines body =
    reverse-append (End ∷ []) (onto body (Header ∷ []))
    ∙ ap (λ l. reverse l ++ End ∷ []) (onto-reverse body (Header ∷ []))
    ∙ ap (λ l. l ++ End ∷ []) (reverse-append (reverse body) (Header ∷ []) ∙ ap (λ l. Header ∷ l) (reverse-reverse body))

script_of_body : NamesLaw → (readers : ℕ) (body : List Line) (done : Situation) → Fits done → done.in_batch ≡ false → GoesOn readers body (sit 0 0 0 false false 0) done
    → IsScriptOf readers (text_of_lines (Header ∷ body ++ End ∷ [])) (script_of (book_at done) (Header ∷ body ++ End ∷ []))
unfolding AreFree
script_of_body law readers body done fits closed goes =
    let ran = run readers body [] (Header ∷ []) (sit 0 0 0 false false 0) done goes (record { were = (refl, refl); stands = header_stands }) in
    let end : LineOf (generated_line End) (book_at done) End (book_at done) = end_is_line law readers done fits in
    let free : AreFree (Header ∷ body ++ End ∷ []) =
    (refl, free-append body (End ∷ []) (goes_free readers body (sit 0 0 0 false false 0) done goes) (line_free (generated_line End) (book_at done) (book_at done) End end, tt)) in
    record {
      texts = map generated_line (body ++ End ∷ []);
      book = book_at done;
      past = End ∷ onto body (Header ∷ []);
      header = lines_cut (Header ∷ body ++ End ∷ []) free;
      were_read = subst (λ texts. WereRead readers texts (book_at done) (End ∷ onto body (Header ∷ []))) (sym (last_text body))
          (one_more readers End (onto (map generated_line body) []) (onto body (Header ∷ [])) (book_at done) (book_at done) ran.were end
          (end_may law readers done (onto body (Header ∷ [])) ran.stands closed) (within done fits));
      ended = refl;
      built = ap (λ lines. script_of (book_at done) lines) (sym (all_lines body));
    }

-- ---- the whole

module _ (law : NamesLaw) (number classes selectors readers : ℕ) (size : IsSize classes selectors) (enough : caller_count ≤ readers) where
  -- the lines between the header and the end
  abbrev body : List Line
  body =
      (class_lines number classes ++ selector_lines selectors ++ definition_lines classes selectors (after_classes number classes))
      ++ (calling_lines classes selectors (after_program number classes selectors)
      ++ edit_lines (first_parent number) (tuple_at classes selectors (after_classes number classes)) classes selectors (after_callers selectors (after_program number classes selectors))
      ++ calling_lines classes selectors (after_edits (after_callers selectors (after_program number classes selectors))))

  abbrev done : Situation
  done = sit classes selectors (definition_count selectors) false true 5

  body_goes : GoesOn readers body (sit 0 0 0 false false 0) done
  body_goes =
      let start = sit 0 0 0 false false 0 in
      let full_at = full law readers classes selectors size in
      goes-append readers (class_lines number classes ++ selector_lines selectors ++ definition_lines classes selectors (after_classes number classes)) _ start (full_at false 0) done
      (goes-append readers (class_lines number classes ++ selector_lines selectors) (definition_lines classes selectors (after_classes number classes)) start (sit classes selectors 0 false false 0) (full_at false 0)
      (goes-append readers (class_lines number classes) (selector_lines selectors) start (sit classes 0 0 false false 0) (sit classes selectors 0 false false 0)
      (classes_go law readers classes selectors size number) (selectors_go law readers classes selectors size))
      (definitions_go law readers classes selectors size (after_classes number classes)))
      (goes-append readers (calling_lines classes selectors (after_program number classes selectors)
      ++ edit_lines (first_parent number) (tuple_at classes selectors (after_classes number classes)) classes selectors (after_callers selectors (after_program number classes selectors)))
      (calling_lines classes selectors (after_edits (after_callers selectors (after_program number classes selectors)))) (full_at false 0) (full_at false 0) done
      (goes-append readers (calling_lines classes selectors (after_program number classes selectors))
      (edit_lines (first_parent number) (tuple_at classes selectors (after_classes number classes)) classes selectors (after_callers selectors (after_program number classes selectors))) (full_at false 0) (full_at true 5) (full_at false 0)
      (callers_go law readers classes selectors size (after_program number classes selectors) enough)
      (edits_go law readers classes selectors size number (after_callers selectors (after_program number classes selectors))))
      (callers_go law readers classes selectors size (after_edits (after_callers selectors (after_program number classes selectors))) enough))

  -- the lines are the header, these, and the end
  whole : generated_lines number classes selectors ≡ Header ∷ body ++ End ∷ []
  whole =
      let program : List Line = class_lines number classes ++ selector_lines selectors ++ definition_lines classes selectors (after_classes number classes) in
      let phases : List Line =
      calling_lines classes selectors (after_program number classes selectors)
      ++ edit_lines (first_parent number) (tuple_at classes selectors (after_classes number classes)) classes selectors (after_callers selectors (after_program number classes selectors))
      ++ calling_lines classes selectors (after_edits (after_callers selectors (after_program number classes selectors))) in
      ap (λ l. Header ∷ l) (sym (append_assoc program phases (End ∷ [])))

  is_script : IsScriptOf readers (text_of_lines (generated_lines number classes selectors)) (generated_script number classes selectors)
  is_script =
      subst (λ l. IsScriptOf readers (text_of_lines l) (script_of (book_at done) l)) (sym whole)
      (script_of_body law readers body done (full_fits law readers classes selectors size true 5) refl body_goes)

pub generated_is_script : NamesLaw → GeneratedIsScript
generated_is_script law number classes selectors readers size enough = is_script law number classes selectors readers size enough
