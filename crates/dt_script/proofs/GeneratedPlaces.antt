-- Where a generated script stands after some lines, and how each kind of line goes on from there.
use Rattle.std.proofs.Common.{◌≡◌, ◌==◌, ℕ, ◌+◌, ◌<◌, ◌≤◌, Bool, true, false, cond, not, ◌&&◌, nat_le, IsTrue, List, [], ◌∷◌, ◌++◌, length, map, codes, decimal, Option, None, Some, refl, sym, ap, subst, ◌∙◌, append_assoc, arith}
use Rattle.std.specs.Prelude.{is_none, is_some}
use Rattle.std.proofs.lemmas.Bool.{and_from}
use Rattle.std.proofs.lemmas.Bool.Decides.{nat_tests}
use Rattle.std.proofs.lemmas.List.FromFn.{length-map-range_with_len}
use Rattle.dt_scratch.specs.Query.{Query}
use Rattle.dt_script.specs.NameBook.{NameBook, is_within_limits}
use Rattle.dt_script.specs.LawfulBook.{LawfulBook}
use Rattle.dt_script.specs.Word.{Word, Plain, Number, Class, Selector, Body, AreTexts, book_after}
use Rattle.dt_script.specs.Line.{words_of, is_in_range, is_from_one_to, LineOf}
use Rattle.dt_script.specs.Place.{is_in_batch, caller_after, has_stood, has_ended, may_follow, may_stand}
use Rattle.dt_script.specs.GeneratedLaws.{numbered_book, numbered_names}
use Rattle.dt_script.specs.GeneratedText.{generated_word, generated_line}
use Rattle.dt_script.specs.declared.line.Line.{Line}
use Rattle.dt_script.specs.declared.line.Line.TheVariants.{AddClass, Link, Unlink, AddSelector, Define, Undefine, Begin, Commit, Phase, Caller, Call, End}
use Rattle.dt_script.proofs.FitLines.{words_are_names, line_fit, range_short}
use Rattle.dt_script.proofs.LawfulBooks.{NamesLaw, words_known}
use Rattle.dt_script.proofs.GeneratedNames.{AreIn, texts_in, lawful_book, one_new, next_class, next_selector, next_body}

-- how many names there are, and what is asked of the next line: whether a batch is open, whether a caller's lines follow,
-- and from which caller on none has stood in the phase
pub record Situation : Type 0 where
  pub classes : ℕ
  pub selectors : ℕ
  pub bodies : ℕ
  pub in_batch : Bool
  pub calling : Bool
  pub least : ℕ

abbrev pub book_at : Situation → NameBook
book_at at = numbered_book at.classes at.selectors at.bodies

-- no more names than there may be
pub record Fits (at : Situation) : Type 0 where
  pub classes : at.classes ≤ 2048
  pub selectors : at.selectors ≤ 4096
  pub bodies : at.bodies ≤ 65536

-- the lines before, latest first, are those of a situation
pub record Stands (past : List Line) (at : Situation) : Type 0 where
  pub going : has_ended past ≡ false
  pub in_batch : is_in_batch past ≡ at.in_batch
  pub calling : is_some (caller_after past) ≡ at.calling
  pub fresh : (caller : ℕ) → at.least ≤ caller → has_stood caller past ≡ false

-- a line leads from a situation to another
pub record Step (readers : ℕ) (line : Line) (from to : Situation) : Type 0 where
  pub is_line : LineOf (generated_line line) (book_at from) line (book_at to)
  pub fits : IsTrue (is_within_limits (book_at to))
  pub may : (past : List Line) → Stands past from → IsTrue (may_stand readers past line)
  pub next : (past : List Line) → Stands past from → Stands (line ∷ past) to

-- ---- names

pub within : (at : Situation) → Fits at → IsTrue (is_within_limits (book_at at))
within at fits =
    let c : length (numbered_names (codes "c") at.classes) ≡ at.classes = length-map-range_with_len (λ n. codes "c" ++ decimal n) 0 at.classes in
    let s : length (numbered_names (codes "s") at.selectors) ≡ at.selectors = length-map-range_with_len (λ n. codes "s" ++ decimal n) 0 at.selectors in
    let b : length (numbered_names (codes "b") at.bodies) ≡ at.bodies = length-map-range_with_len (λ n. codes "b" ++ decimal n) 0 at.bodies in
    and_from (nat_le (length (numbered_names (codes "c") at.classes)) 2048) (nat_le (length (numbered_names (codes "s") at.selectors)) 4096 && nat_le (length (numbered_names (codes "b") at.bodies)) 65536)
    (ap (λ n. nat_le n 2048) c ∙ le-test at.classes 2048 fits.classes)
    (and_from (nat_le (length (numbered_names (codes "s") at.selectors)) 4096) (nat_le (length (numbered_names (codes "b") at.bodies)) 65536)
    (ap (λ n. nat_le n 4096) s ∙ le-test at.selectors 4096 fits.selectors) (ap (λ n. nat_le n 65536) b ∙ le-test at.bodies 65536 fits.bodies))
  where
    le-test : (m n : ℕ) → m ≤ n → nat_le m n ≡ true
    le-test m n less = grind (arith, nat_tests)

lawful_at : NamesLaw → (at : Situation) → Fits at → LawfulBook (book_at at)
lawful_at law at fits = lawful_book law at.classes at.selectors at.bodies (omega (arith, fits.classes)) (omega (arith, fits.selectors)) fits.bodies

-- a line whose names are in the book after it
line_in_book : (before after : NameBook) (line : Line) → LawfulBook after → IsTrue (is_in_range line) → AreTexts after (words_of line) (map generated_word (words_of line))
    → after ≡ book_after before (words_of line) (map generated_word (words_of line)) → LineOf (generated_line line) before line after
line_in_book before after line lawful range are numbered = record {
  texts = map generated_word (words_of line);
  spelled = refl;
  are_words = words_are_names after (words_of line) (map generated_word (words_of line)) lawful (line_fit line (range_short line range)) are;
  written = are;
  numbered = numbered;
  in_range = range;
}

-- a line without a new name
known_line : NamesLaw → (at to : Situation) (line : Line) → Fits at → book_at to ≡ book_at at → IsTrue (is_in_range line) → AreIn at.classes at.selectors at.bodies (words_of line)
    → LineOf (generated_line line) (book_at at) line (book_at to)
known_line law at to line fits same range are =
    let texts = texts_in at.classes at.selectors at.bodies (words_of line) are in
    let lawful = lawful_at law at fits in
    subst (λ book. LineOf (generated_line line) (book_at at) line book) (sym same)
    (line_in_book (book_at at) (book_at at) line lawful range texts (sym (words_known law (book_at at) (words_of line) (map generated_word (words_of line)) lawful texts)))

-- ---- places

none_or_some : (caller : Option ℕ) → is_none caller ≡ not (is_some caller)
none_or_some None = refl
none_or_some (Some caller) = refl

may_here : (readers : ℕ) (past : List Line) (line : Line) → has_ended past ≡ false → may_follow readers past line ≡ true → IsTrue (may_stand readers past line)
may_here readers past line going may = ap (λ e. not e && may_follow readers past line) going ∙ may

-- what holds of an edit anywhere
record IsEdit (line : Line) : Type 0 where
  going : (past : List Line) → has_ended (line ∷ past) ≡ false
  in_batch : (past : List Line) → is_in_batch (line ∷ past) ≡ is_in_batch past
  calling : (past : List Line) → caller_after (line ∷ past) ≡ caller_after past
  stood : (caller : ℕ) (past : List Line) → has_stood caller (line ∷ past) ≡ has_stood caller past
  may : (readers : ℕ) (past : List Line) → may_follow readers past line ≡ is_none (caller_after past)

edit_step : (readers : ℕ) (line : Line) (from to : Situation) → IsEdit line → LineOf (generated_line line) (book_at from) line (book_at to) → Fits to
    → from.calling ≡ false → to.in_batch ≡ from.in_batch → to.calling ≡ from.calling → to.least ≡ from.least → Step readers line from to
edit_step readers line from to edit is fits silent batch calling least = record {
  is_line = is;
  fits = within to fits;
  may = λ past at. may_here readers past line at.going (edit.may readers past ∙ none_or_some (caller_after past) ∙ ap not (at.calling ∙ silent));
  next = λ past at. record {
    going = edit.going past;
    in_batch = edit.in_batch past ∙ at.in_batch ∙ sym batch;
    calling = ap is_some (edit.calling past) ∙ at.calling ∙ sym calling;
    fresh = λ caller low. edit.stood caller past ∙ at.fresh caller (omega (arith, low, least));
  };
}

-- ---- classes

-- all are below a number
abbrev pub AreBelow : ℕ → List ℕ → Type 0
AreBelow bound [] = Unit {0}
AreBelow bound (number ∷ numbers) = (number < bound) × AreBelow bound numbers

classes_in : (classes selectors bodies : ℕ) (numbers : List ℕ) → AreBelow classes numbers → AreIn classes selectors bodies (map Class numbers)
classes_in classes selectors bodies [] are = tt
classes_in classes selectors bodies (number ∷ numbers) (is, are) = (is, classes_in classes selectors bodies numbers are)

in-append : (classes selectors bodies : ℕ) (xs ys : List Word) → AreIn classes selectors bodies xs → AreIn classes selectors bodies ys → AreIn classes selectors bodies (xs ++ ys)
in-append classes selectors bodies [] ys are are' = are'
in-append classes selectors bodies (x ∷ xs) ys (is, are) are' = (is, in-append classes selectors bodies xs ys are are')

more_below : (bound : ℕ) (numbers : List ℕ) → AreBelow bound numbers → AreBelow (bound + 1) numbers
more_below bound [] are = tt
more_below bound (number ∷ numbers) (is, are) = (omega (arith, is), more_below bound numbers are)

-- ---- steps

abbrev with_class : Situation → Situation
with_class at = record { classes = at.classes + 1; selectors = at.selectors; bodies = at.bodies; in_batch = at.in_batch; calling = at.calling; least = at.least }

abbrev with_selector : Situation → Situation
with_selector at = record { classes = at.classes; selectors = at.selectors + 1; bodies = at.bodies; in_batch = at.in_batch; calling = at.calling; least = at.least }

abbrev with_body : Situation → Situation
with_body at = record { classes = at.classes; selectors = at.selectors; bodies = at.bodies + 1; in_batch = at.in_batch; calling = at.calling; least = at.least }

module _ (law : NamesLaw) (readers : ℕ) where
  class_is_line : (at : Situation) (parents : List ℕ) → Fits at → at.classes < 2048 → AreBelow at.classes parents
      → LineOf (generated_line (AddClass at.classes parents)) (book_at at) (AddClass at.classes parents) (book_at (with_class at))
  class_is_line at [] fits room below =
      let after : Fits (with_class at) = record { classes = omega (arith, room); selectors = fits.selectors; bodies = fits.bodies } in
      let lawful = lawful_at law at fits in
      let lawful' = lawful_at law (with_class at) after in
      line_in_book (book_at at) (book_at (with_class at)) (AddClass at.classes []) lawful' refl
      (texts_in (at.classes + 1) at.selectors at.bodies (words_of (AddClass at.classes [])) (tt, (omega arith, tt)))
      (sym (one_new law (book_at at) (book_at (with_class at)) (Plain (codes "class") ∷ []) [] (Class at.classes) lawful lawful' (refl, tt) (next_class law at.classes at.selectors at.bodies (omega (arith, room))) tt))
  class_is_line at (parent ∷ parents) fits room below =
      let after : Fits (with_class at) = record { classes = omega (arith, room); selectors = fits.selectors; bodies = fits.bodies } in
      let lawful = lawful_at law at fits in
      let lawful' = lawful_at law (with_class at) after in
      let rest : AreIn (at.classes + 1) at.selectors at.bodies (Plain (codes "<") ∷ map Class (parent ∷ parents)) = (tt, classes_in (at.classes + 1) at.selectors at.bodies (parent ∷ parents) (more_below at.classes (parent ∷ parents) below)) in
      line_in_book (book_at at) (book_at (with_class at)) (AddClass at.classes (parent ∷ parents)) lawful' refl
      (texts_in (at.classes + 1) at.selectors at.bodies (words_of (AddClass at.classes (parent ∷ parents))) (tt, (omega arith, rest)))
      (sym (one_new law (book_at at) (book_at (with_class at)) (Plain (codes "class") ∷ []) (Plain (codes "<") ∷ map Class (parent ∷ parents)) (Class at.classes) lawful lawful' (refl, tt) (next_class law at.classes at.selectors at.bodies (omega (arith, room)))
      (texts_in (at.classes + 1) at.selectors at.bodies (Plain (codes "<") ∷ map Class (parent ∷ parents)) rest)))

  pub class_step : (at : Situation) (parents : List ℕ) → Fits at → at.classes < 2048 → at.calling ≡ false → AreBelow at.classes parents → Step readers (AddClass at.classes parents) at (with_class at)
  class_step at parents fits room silent below =
      edit_step readers (AddClass at.classes parents) at (with_class at)
      (record { going = λ past. refl; in_batch = λ past. refl; calling = λ past. refl; stood = λ caller past. refl; may = λ r past. refl })
      (class_is_line at parents fits room below)
      (record { classes = omega (arith, room); selectors = fits.selectors; bodies = fits.bodies }) silent refl refl refl

  pub selector_step : (at : Situation) (arity : ℕ) → Fits at → at.selectors < 4096 → at.calling ≡ false → IsTrue (is_from_one_to 4 arity) → Step readers (AddSelector at.selectors arity) at (with_selector at)
  selector_step at arity fits room silent range =
      let after : Fits (with_selector at) = record { classes = fits.classes; selectors = omega (arith, room); bodies = fits.bodies } in
      let lawful = lawful_at law at fits in
      let lawful' = lawful_at law (with_selector at) after in
      edit_step readers (AddSelector at.selectors arity) at (with_selector at)
      (record { going = λ past. refl; in_batch = λ past. refl; calling = λ past. refl; stood = λ caller past. refl; may = λ r past. refl })
      (line_in_book (book_at at) (book_at (with_selector at)) (AddSelector at.selectors arity) lawful' range
      (texts_in at.classes (at.selectors + 1) at.bodies (words_of (AddSelector at.selectors arity)) (tt, (omega arith, (tt, tt))))
      (sym (one_new law (book_at at) (book_at (with_selector at)) (Plain (codes "selector") ∷ []) (Number arity ∷ []) (Selector at.selectors) lawful lawful' (refl, tt) (next_selector law at.classes at.selectors at.bodies (omega (arith, room))) (refl, tt))))
      after silent refl refl refl

  pub define_step : (at : Situation) (selector : ℕ) (classes : List ℕ) → Fits at → at.bodies < 65536 → at.calling ≡ false → selector < at.selectors → AreBelow at.classes classes
      → IsTrue (is_from_one_to 4 (length classes)) → Step readers (Define selector classes at.bodies) at (with_body at)
  define_step at selector classes fits room silent named below range =
      let after : Fits (with_body at) = record { classes = fits.classes; selectors = fits.selectors; bodies = omega (arith, room) } in
      let lawful = lawful_at law at fits in
      let lawful' = lawful_at law (with_body at) after in
      let front : List Word = Plain (codes "define") ∷ Selector selector ∷ map Class classes ++ Plain (codes "->") ∷ [] in
      let whole : front ++ Body at.bodies ∷ [] ≡ words_of (Define selector classes at.bodies) =
      ap (λ l. Plain (codes "define") ∷ Selector selector ∷ l) (append_assoc (map Class classes) (Plain (codes "->") ∷ []) (Body at.bodies ∷ [])) in
      let known : AreIn at.classes at.selectors at.bodies front = (tt, (named, in-append at.classes at.selectors at.bodies (map Class classes) (Plain (codes "->") ∷ []) (classes_in at.classes at.selectors at.bodies classes below) (tt, tt))) in
      let all : AreIn at.classes at.selectors (at.bodies + 1) (words_of (Define selector classes at.bodies)) =
      (tt, (named, in-append at.classes at.selectors (at.bodies + 1) (map Class classes) (Plain (codes "->") ∷ Body at.bodies ∷ []) (classes_in at.classes at.selectors (at.bodies + 1) classes below) (tt, (omega arith, tt)))) in
      edit_step readers (Define selector classes at.bodies) at (with_body at)
      (record { going = λ past. refl; in_batch = λ past. refl; calling = λ past. refl; stood = λ caller past. refl; may = λ r past. refl })
      (line_in_book (book_at at) (book_at (with_body at)) (Define selector classes at.bodies) lawful' range
      (texts_in at.classes at.selectors (at.bodies + 1) (words_of (Define selector classes at.bodies)) all)
      (sym (ap (λ ws. book_after (book_at at) ws (map generated_word ws)) (sym whole)
      ∙ one_new law (book_at at) (book_at (with_body at)) front [] (Body at.bodies) lawful lawful' (texts_in at.classes at.selectors at.bodies front known) (next_body law at.classes at.selectors at.bodies room) tt)))
      after silent refl refl refl

  -- edits of what has its names
  pub again_step : (at : Situation) (selector : ℕ) (classes : List ℕ) (body : ℕ) → Fits at → at.calling ≡ false → selector < at.selectors → AreBelow at.classes classes → body < at.bodies
      → IsTrue (is_from_one_to 4 (length classes)) → Step readers (Define selector classes body) at at
  again_step at selector classes body fits silent named below has range =
      edit_step readers (Define selector classes body) at at
      (record { going = λ past. refl; in_batch = λ past. refl; calling = λ past. refl; stood = λ caller past. refl; may = λ r past. refl })
      (known_line law at at (Define selector classes body) fits refl range
      (tt, (named, in-append at.classes at.selectors at.bodies (map Class classes) (Plain (codes "->") ∷ Body body ∷ []) (classes_in at.classes at.selectors at.bodies classes below) (tt, (has, tt)))))
      fits silent refl refl refl

  pub undefine_step : (at : Situation) (selector : ℕ) (classes : List ℕ) → Fits at → at.calling ≡ false → selector < at.selectors → AreBelow at.classes classes
      → IsTrue (is_from_one_to 4 (length classes)) → Step readers (Undefine selector classes) at at
  undefine_step at selector classes fits silent named below range =
      edit_step readers (Undefine selector classes) at at
      (record { going = λ past. refl; in_batch = λ past. refl; calling = λ past. refl; stood = λ caller past. refl; may = λ r past. refl })
      (known_line law at at (Undefine selector classes) fits refl range (tt, (named, classes_in at.classes at.selectors at.bodies classes below)))
      fits silent refl refl refl

  pub link_step : (at : Situation) (class parent : ℕ) → Fits at → at.calling ≡ false → class < at.classes → parent < at.classes → Step readers (Link class parent) at at
  link_step at class parent fits silent below below' =
      edit_step readers (Link class parent) at at
      (record { going = λ past. refl; in_batch = λ past. refl; calling = λ past. refl; stood = λ caller past. refl; may = λ r past. refl })
      (known_line law at at (Link class parent) fits refl refl (tt, (below, (tt, (below', tt))))) fits silent refl refl refl

  pub unlink_step : (at : Situation) (class parent : ℕ) → Fits at → at.calling ≡ false → class < at.classes → parent < at.classes → Step readers (Unlink class parent) at at
  unlink_step at class parent fits silent below below' =
      edit_step readers (Unlink class parent) at at
      (record { going = λ past. refl; in_batch = λ past. refl; calling = λ past. refl; stood = λ caller past. refl; may = λ r past. refl })
      (known_line law at at (Unlink class parent) fits refl refl (tt, (below, (tt, (below', tt))))) fits silent refl refl refl

  -- the other lines
  pub begin_step : (from to : Situation) → Fits from → book_at to ≡ book_at from → from.in_batch ≡ false → from.calling ≡ false → to.in_batch ≡ true → to.calling ≡ false → to.least ≡ from.least → Step readers Begin from to
  begin_step from to fits same closed silent opened silent' least = record {
    is_line = known_line law from to Begin fits same refl (tt, tt);
    fits = subst (λ book. IsTrue (is_within_limits book)) (sym same) (within from fits);
    may = λ past at. may_here readers past Begin at.going (and_from (is_none (caller_after past)) (not (is_in_batch past)) (none_or_some (caller_after past) ∙ ap not (at.calling ∙ silent)) (ap not (at.in_batch ∙ closed)));
    next = λ past at. record {
      going = refl;
      in_batch = sym opened;
      calling = at.calling ∙ silent ∙ sym silent';
      fresh = λ caller low. at.fresh caller (omega (arith, low, least));
    };
  }

  pub commit_step : (from to : Situation) → Fits from → book_at to ≡ book_at from → from.in_batch ≡ true → to.in_batch ≡ false → to.calling ≡ from.calling → to.least ≡ from.least → Step readers Commit from to
  commit_step from to fits same opened closed calling least = record {
    is_line = known_line law from to Commit fits same refl (tt, tt);
    fits = subst (λ book. IsTrue (is_within_limits book)) (sym same) (within from fits);
    may = λ past at. may_here readers past Commit at.going (at.in_batch ∙ opened);
    next = λ past at. record {
      going = refl;
      in_batch = sym closed;
      calling = at.calling ∙ sym calling;
      fresh = λ caller low. at.fresh caller (omega (arith, low, least));
    };
  }

  pub phase_step : (from to : Situation) → Fits from → book_at to ≡ book_at from → from.in_batch ≡ false → to.in_batch ≡ false → to.calling ≡ false → Step readers Phase from to
  phase_step from to fits same closed closed' silent = record {
    is_line = known_line law from to Phase fits same refl (tt, tt);
    fits = subst (λ book. IsTrue (is_within_limits book)) (sym same) (within from fits);
    may = λ past at. may_here readers past Phase at.going (ap not (at.in_batch ∙ closed));
    next = λ past at. record {
      going = refl;
      in_batch = at.in_batch ∙ closed ∙ sym closed';
      calling = sym silent;
      fresh = λ caller low. refl;
    };
  }

  pub caller_step : (from to : Situation) (caller : ℕ) → Fits from → book_at to ≡ book_at from → from.in_batch ≡ false → to.in_batch ≡ false → to.calling ≡ true
      → from.least ≡ caller → to.least ≡ caller + 1 → 1 ≤ caller → caller ≤ readers → caller ≤ 256 → Step readers (Caller caller) from to
  caller_step from to caller fits same closed closed' calls least least' first last few = record {
    is_line = known_line law from to (Caller caller) fits same (and_from (nat_le 1 caller) (nat_le caller 256) (grind (arith, nat_tests)) (grind (arith, nat_tests))) (tt, (tt, tt));
    fits = subst (λ book. IsTrue (is_within_limits book)) (sym same) (within from fits);
    may = λ past at. may_here readers past (Caller caller) at.going
        (and_from (not (is_in_batch past)) (nat_le caller readers && not (has_stood caller past)) (ap not (at.in_batch ∙ closed))
        (and_from (nat_le caller readers) (not (has_stood caller past)) (grind (arith, nat_tests)) (ap not (at.fresh caller (omega (arith, least))))));
    next = λ past at. record {
      going = refl;
      in_batch = at.in_batch ∙ closed ∙ sym closed';
      calling = sym calls;
      fresh = λ other low.
          let later : caller < other = omega (arith, low, least') in
          ap (λ b. cond b true (has_stood other past)) (other_caller caller other later) ∙ at.fresh other (omega (arith, least, later));
    };
  } where
    other_caller : (m n : ℕ) → m < n → (m == n) ≡ false
    other_caller m n less = grind (arith, nat_tests)

  pub call_step : (at : Situation) (query : Query) → Fits at → at.calling ≡ true → query.selector < at.selectors → AreBelow at.classes query.classes → IsTrue (is_from_one_to 4 (length query.classes))
      → Step readers (Call query) at at
  call_step at query fits calls named below range = record {
    is_line = known_line law at at (Call query) fits refl range (tt, (named, classes_in at.classes at.selectors at.bodies query.classes below));
    fits = within at fits;
    may = λ past here. may_here readers past (Call query) here.going (here.calling ∙ calls);
    next = λ past here. record { going = refl; in_batch = here.in_batch; calling = here.calling; fresh = here.fresh };
  }

  -- the last line
  pub end_may : (at : Situation) (past : List Line) → Stands past at → at.in_batch ≡ false → IsTrue (may_stand readers past End)
  end_may at past here closed = may_here readers past End here.going (ap not (here.in_batch ∙ closed))

  pub end_is_line : (at : Situation) → Fits at → LineOf (generated_line End) (book_at at) End (book_at at)
  end_is_line at fits = known_line law at at End fits refl refl (tt, tt)
