-- The rows of one length of a selector: after their turns each is kept with the cells of what is held then.
use Rattle.std.proofs.Common.{◌≡◌, ◌≢◌, ◌==◌, ℕ, suc, ◌<◌, true, false, List, [], ◌∷◌, ◌++◌, length, take, drop, get_or, Option, Some, None, is_some, Contains, ◌⊎◌, inl, inr, refl, sym, ap, subst, ◌∙◌, arith}
use Rattle.std.proofs.lemmas.Bool.{eqb-true, eq-eqb, true≢false}
use Rattle.std.proofs.lemmas.List.{append_assoc, append-nil, take_all}
use Rattle.dt_scratch.specs.Query.{Query}
use Rattle.dt_scratch.specs.declared.reply.Change.{Change}
use Rattle.dt_cells.specs.Held.{Held}
use Rattle.dt_cells.specs.HeldLaws.{by_cases}
use Rattle.dt_mrd.specs.declared.kept_row.KeptRow.{KeptRow}
use Rattle.dt_mrd.specs.declared.turn.Turn.{Turn}
use Rattle.dt_mrd.specs.Rows.{sent, IsRow, is_below}
use Rattle.dt_mrd.specs.Placing.{IsTabled}
use Rattle.dt_mrd.specs.Kept.{row_at, next_in, key_of_next, key_along}
use Rattle.dt_mrd.specs.Changing.{Cells, class_at, changes_put, turns_put}
use Rattle.dt_mrd.specs.Levels.{KeptAt, Extends, prefix_of, IsLaid, IsNextTurn, IsLevel}
use Rattle.dt_mrd.proofs.LevelLists.{Has, all_has, in_parts, of_take, of_drop}
use Rattle.dt_mrd.proofs.LevelOrder.{Ascends, rises_of, ascends_take, ascends_drop, after_run, first_is, first_least, below_differs, take_next, length_prefix}
use Rattle.dt_mrd.proofs.LevelPuts.{AreApart, change_query, turn_query}
use Rattle.dt_mrd.proofs.LevelCell.{IsSameBelow}
use Rattle.dt_mrd.proofs.LevelRow.{IsAt, IsRowGiven, row_laid, laid_cells, laid_at, still_at, at_still}
use Rattle.dt_mrd.proofs.LevelSteps.{extends_none, extends_then, no_row_before}

-- ---- lists that end with a class

take_front : (a r : List ℕ) → take (length a) (a ++ r) ≡ a
take_front [] r = refl
take_front (x ∷ xs) r = ap (λ (l : List ℕ). x ∷ l) (take_front xs r)

at_end : (a : List ℕ) (class : ℕ) → get_or (a ++ (class ∷ [])) (length a) 0 ≡ class
at_end [] class = refl
at_end (x ∷ xs) class = at_end xs class

ends_same : (n : ℕ) (a b : List ℕ) (x y : ℕ) → length a ≡ n → length b ≡ n → a ++ (x ∷ []) ≡ b ++ (y ∷ []) → (a ≡ b) × (x ≡ y)
ends_same n a b x y long same_long e = (
  sym (take_front a (x ∷ [])) ∙ ap (λ k. take k (a ++ (x ∷ []))) (long ∙ sym same_long) ∙ ap (λ (l : List ℕ). take (length b) l) e ∙ take_front b (y ∷ []),
  sym (at_end a x) ∙ ap (λ k. get_or (a ++ (x ∷ [])) k 0) (long ∙ sym same_long) ∙ ap (λ (l : List ℕ). get_or l (length b) 0) e ∙ at_end b y,
)

pub prefix_parts : (depth : ℕ) (l p : List ℕ) (class : ℕ) → depth < length l → length p ≡ depth → take (suc depth) l ≡ p ++ (class ∷ []) → (take depth l ≡ p) × (get_or l depth 0 ≡ class)
prefix_parts depth l p class long is e = ends_same depth (take depth l) p (get_or l depth 0) class (length_prefix depth l long) is (sym (take_next depth l long) ∙ e)

pub prefix_next : (depth : ℕ) (l p : List ℕ) → depth < length l → take depth l ≡ p → take (suc depth) l ≡ p ++ (class_at l depth ∷ [])
prefix_next depth l p long e = take_next depth l long ∙ ap (λ (q : List ℕ). q ++ (get_or l depth 0 ∷ [])) e

-- items of one row that ascend are of different classes
apart_of : {T : Type 0} (query : T → Query) (depth : ℕ) (p : List ℕ) (items : List T) → Ascends query (suc depth) items
    → ((item : T) → Has items item → (prefix_of depth (query item) ≡ p) × (depth < length (query item).classes)) → AreApart query depth items
apart_of query depth p [] up shape = tt
apart_of query depth p (first ∷ items) up shape = (
  λ item has. by_cases (class_at (query item).classes depth == class_at (query first).classes depth)
      (λ t. (let one = shape first (inl refl) in let other = shape item (inr has) in
      absurd (below_differs (prefix_of (suc depth) (query first)) (prefix_of (suc depth) (query item)) (up.0 item has)
      (prefix_next depth (query first).classes p one.1 one.0
      ∙ ap (λ k. p ++ (k ∷ [])) (sym (eqb-true (class_at (query item).classes depth) (class_at (query first).classes depth) t))
      ∙ sym (prefix_next depth (query item).classes p other.1 other.0)))))
      (λ f. f),
  apart_of query depth p items up.1 (λ item has. shape item (inr has)),
)

-- ---- keys

pub key_snoc : (rows : KeptAt) (key : Option ℕ) (p : List ℕ) (class : ℕ) → key_along rows key (p ++ (class ∷ [])) ≡ key_of_next (next_in (row_at rows (key_along rows key p)) class)
key_snoc rows key [] class = refl
key_snoc rows key (c ∷ cs) class = key_snoc rows (key_of_next (next_in (row_at rows key) c)) cs class

laid_new : (rows rows_then : KeptAt) (key : Option ℕ) (cells : Cells) (k : ℕ) → IsLaid rows key cells rows_then → key ≡ Some k → (rows k ≡ None) × (is_some (rows_then k) ≡ true)
laid_new rows rows_then None cells k laid e = absurd (true≢false (sym (ap is_some e)))
laid_new rows rows_then (Some key) cells k laid e =
    subst (λ (n : ℕ). (rows n ≡ None) × (is_some (rows_then n) ≡ true)) (ap (value key) e) (laid.vacant, ap is_some laid.is)
  where
    value : ℕ → Option ℕ → ℕ
    value other None = other
    value other (Some key) = key

-- what is kept under no key and under some
none_some : (row : Option KeptRow) → row ≡ None → is_some row ≡ true → ⊥
none_some row none some = true≢false (sym some ∙ ap is_some none)

module _ (held next : Held) (tabled : IsTabled held) (tabled_next : IsTabled next) (s : ℕ) (rows0 : KeptAt) (root : Option ℕ)
    (old : (p : List ℕ) → IsAt rows0 (key_along rows0 root p) held s p) where
  abbrev pub Keeps : KeptAt → KeptAt → Type 0
  Keeps rows rows_then = (k : ℕ) → is_some (rows k) ≡ true → rows_then k ≡ rows k

  -- the keys of before lead to the rows of before still
  pub key_kept : (rows : KeptAt) → Keeps rows0 rows → (rest p : List ℕ) → key_along rows (key_along rows0 root p) rest ≡ key_along rows0 root (p ++ rest)
  key_kept rows kept [] p = ap (λ (l : List ℕ). key_along rows0 root l) (sym (append-nil p))
  key_kept rows kept (c ∷ cs) p =
      ap (λ (r : Option KeptRow). key_along rows (key_of_next (next_in r c)) cs) (still_at rows0 rows (key_along rows0 root p) held s p kept (old p))
      ∙ ap (λ (k : Option ℕ). key_along rows k cs) (sym (key_snoc rows0 root p c))
      ∙ key_kept rows kept cs (p ++ (c ∷ []))
      ∙ ap (λ (l : List ℕ). key_along rows0 root l) (append_assoc p (c ∷ []) cs)

  -- a turn that is over: its row stands under its new key, with cells that lead to these keys
  pub record IsOver (target : List ℕ → Option ℕ) (depth : ℕ) (rows : KeptAt) (turn : Turn) : Type 0 where
    pub selector_is : turn.query.selector ≡ s
    pub depth_is : turn.depth ≡ depth
    pub long : depth < length turn.query.classes
    pub old_is : turn.old ≡ key_along rows0 root (prefix_of depth turn.query)
    pub at : IsAt rows turn.new next s (prefix_of depth turn.query)
    pub link : (class : ℕ) → key_of_next (next_in (row_at rows turn.new) class) ≡ target (prefix_of depth turn.query ++ (class ∷ []))

  pub over_still : (target : List ℕ → Option ℕ) (depth : ℕ) (rows rows_then : KeptAt) (turn : Turn) → Keeps rows rows_then → IsOver target depth rows turn → IsOver target depth rows_then turn
  over_still target depth rows rows_then turn kept over = record {
    selector_is = over.selector_is;
    depth_is = over.depth_is;
    long = over.long;
    old_is = over.old_is;
    at = at_still rows rows_then turn.new next s (prefix_of depth turn.query) kept over.at;
    link = λ class. ap (λ (r : Option KeptRow). key_of_next (next_in r class)) (still_at rows rows_then turn.new next s (prefix_of depth turn.query) kept over.at) ∙ over.link class;
  }

  -- what is known where some rows of a level, 'done', had their turns
  pub record IsLevelGiven (target : List ℕ → Option ℕ) (depth : ℕ) (rows : KeptAt) (done : List (List ℕ)) (changes : List Change) (led : List Turn) : Type 0 where
    pub kept : Keeps rows0 rows
    pub of_selector : (change : Change) → Has changes change → change.query.selector ≡ s
    pub long : (change : Change) → Has changes change → length change.query.classes ≡ suc depth
    pub answers : (change : Change) → Has changes change → next change.query ≡ change.answer
    pub up : Ascends change_query (suc depth) changes
    pub led_long : (turn : Turn) → Has led turn → depth < length turn.query.classes
    pub led_selector : (turn : Turn) → Has led turn → turn.query.selector ≡ s
    pub led_at : (turn : Turn) → Has led turn → IsAt rows turn.new next s (prefix_of (suc depth) turn.query)
    pub led_target : (turn : Turn) → Has led turn → target (prefix_of (suc depth) turn.query) ≡ turn.new
    pub led_up : Ascends turn_query (suc depth) led
    pub others : (p : List ℕ) (class : ℕ) → length p ≡ depth → (Has done p → ⊥)
        → ((change : Change) → Has changes change → prefix_of (suc depth) change.query ≢ p ++ (class ∷ []))
        → next (sent s (p ++ (class ∷ []))) ≡ held (sent s (p ++ (class ∷ [])))
    pub others_led : (p : List ℕ) (class : ℕ) → length p ≡ depth → (Has done p → ⊥)
        → ((turn : Turn) → Has led turn → prefix_of (suc depth) turn.query ≢ p ++ (class ∷ []))
        → IsSameBelow held next s (p ++ (class ∷ [])) × (target (p ++ (class ∷ [])) ≡ key_along rows0 root (p ++ (class ∷ [])))
    pub above : (d : List ℕ) → Has done d → (change : Change) → Has changes change → is_below d (prefix_of depth change.query) ≡ true
    pub above_led : (d : List ℕ) → Has done d → (turn : Turn) → Has led turn → is_below d (prefix_of depth turn.query) ≡ true

  -- what is known once all had
  pub record IsLevelOver (target : List ℕ → Option ℕ) (depth : ℕ) (rows : KeptAt) (fresh : List ℕ) (done : List (List ℕ)) (changes : List Change) (led level : List Turn) (rows_then : KeptAt) (fresh_then : List ℕ) : Type 0 where
    pub extends : Extends rows fresh rows_then fresh_then
    pub each : (turn : Turn) → Has level turn → IsOver target depth rows_then turn
    pub up : Ascends turn_query depth level
    pub above : (d : List ℕ) → Has done d → (turn : Turn) → Has level turn → is_below d (prefix_of depth turn.query) ≡ true
    pub covers : (change : Change) → Has changes change → (turn : Turn) × Has level turn × (prefix_of depth turn.query ≡ prefix_of depth change.query)
    pub covers_led : (other : Turn) → Has led other → (turn : Turn) × Has level turn × (prefix_of depth turn.query ≡ prefix_of depth other.query)
    pub of_query : (turn : Turn) → Has level turn
        → ((change : Change) × Has changes change × (change.query ≡ turn.query)) ⊎ ((other : Turn) × Has led other × (other.query ≡ turn.query))
    pub vacant : (turn : Turn) (k : ℕ) → Has level turn → turn.new ≡ Some k → rows k ≡ None
    pub apart : (turn other : Turn) (k : ℕ) → Has level turn → Has level other → turn.new ≡ Some k → other.new ≡ Some k → prefix_of depth turn.query ≡ prefix_of depth other.query
    pub among : (turn : Turn) (k : ℕ) → Has level turn → turn.new ≡ Some k → Contains fresh_then k

  -- the first row that waits has its turn
  module _ (target : List ℕ → Option ℕ) (depth : ℕ) (rows : KeptAt) (fresh : List ℕ) (done : List (List ℕ)) (changes : List Change) (led : List Turn) (given : IsLevelGiven target depth rows done changes led)
      (count count_led : ℕ) (turn : Turn) (between : KeptAt) (fresh_between : List ℕ) (step : IsNextTurn root depth rows fresh changes led count count_led turn between fresh_between) where
    abbrev row : List ℕ
    row = prefix_of depth step.query

    long_row : depth < length step.query.classes
    long_row = elim (first_is depth changes led step.query step.first) [
      | inl found ↦ subst (λ (q : Query). depth < length q.classes) found.2 (let long = given.long found.0 found.1 in omega (arith, long))
      | inr found ↦ subst (λ (q : Query). depth < length q.classes) found.2 (given.led_long found.0 found.1)
    ]

    row_length : length row ≡ depth
    row_length = length_prefix depth step.query.classes long_row

    row_selector : step.query.selector ≡ s
    row_selector = elim (first_is depth changes led step.query step.first) [
      | inl found ↦ ap (λ (q : Query). q.selector) (sym found.2) ∙ given.of_selector found.0 found.1
      | inr found ↦ ap (λ (q : Query). q.selector) (sym found.2) ∙ given.led_selector found.0 found.1
    ]

    row_above : (d : List ℕ) → Has done d → is_below d row ≡ true
    row_above d has = elim (first_is depth changes led step.query step.first) [
      | inl found ↦ subst (λ (q : Query). is_below d (prefix_of depth q) ≡ true) found.2 (given.above d has found.0 found.1)
      | inr found ↦ subst (λ (q : Query). is_below d (prefix_of depth q) ≡ true) found.2 (given.above_led d has found.0 found.1)
    ]

    not_done : Has done row → ⊥
    not_done has = below_differs row row (row_above row has) refl

    own_row : (change : Change) → Has (take count changes) change → prefix_of depth change.query ≡ row
    own_row = all_has (λ (change : Change). prefix_of depth change.query ≡ row) (take count changes) step.run.within

    own_led_row : (other : Turn) → Has (take count_led led) other → prefix_of depth other.query ≡ row
    own_led_row = all_has (λ (other : Turn). prefix_of depth other.query ≡ row) (take count_led led) step.run_led.within

    after_own : (change : Change) → Has (drop count changes) change → is_below row (prefix_of depth change.query) ≡ true
    after_own = after_run change_query depth count row changes (rises_of change_query depth changes given.up)
        (first_least depth changes led step.query step.first (rises_of change_query depth changes given.up) (rises_of turn_query depth led given.led_up)).0 step.run

    after_own_led : (other : Turn) → Has (drop count_led led) other → is_below row (prefix_of depth other.query) ≡ true
    after_own_led = after_run turn_query depth count_led row led (rises_of turn_query depth led given.led_up)
        (first_least depth changes led step.query step.first (rises_of change_query depth changes given.up) (rises_of turn_query depth led given.led_up)).1 step.run_led

    key_now : turn.old ≡ key_along rows0 root row
    key_now = step.is.old_is ∙ key_kept rows given.kept row []

    abbrev cells : Cells
    cells = next_in (row_at rows (key_along rows0 root row))

    change_long : (change : Change) → Has (take count changes) change → depth < length change.query.classes
    change_long change has = let long = given.long change (of_take count changes change has) in omega (arith, long)

    led_long : (other : Turn) → Has (take count_led led) other → depth < length other.query.classes
    led_long other has = given.led_long other (of_take count_led led other has)

    -- the whole query of a change of the row
    own_query : (change : Change) → Has (take count changes) change → change.query ≡ sent s (row ++ (class_at change.query.classes depth ∷ []))
    own_query change has =
        let selector : change.query.selector ≡ s = given.of_selector change (of_take count changes change has) in
        let long = given.long change (of_take count changes change has) in
        let classes : change.query.classes ≡ row ++ (class_at change.query.classes depth ∷ []) =
        sym (take_all (suc depth) change.query.classes (omega (arith, long))) ∙ prefix_next depth change.query.classes row (change_long change has) (own_row change has) in
        λ i. sent (selector i) (classes i)

    led_row : (other : Turn) → Has (take count_led led) other → prefix_of (suc depth) other.query ≡ row ++ (class_at other.query.classes depth ∷ [])
    led_row other has = prefix_next depth other.query.classes row (led_long other has) (own_led_row other has)

    -- a change of a row's query that ends with a class is one of the row's, and of this class
    change_of : (class : ℕ) → ((change : Change) → Has (take count changes) change → (class == class_at change.query.classes depth) ≡ false)
        → (change : Change) → Has changes change → prefix_of (suc depth) change.query ≢ row ++ (class ∷ [])
    change_of class none change has same =
        let long = given.long change has in
        let parts = prefix_parts depth change.query.classes row class (omega (arith, long)) row_length same in
        elim (in_parts count changes change has) [
          | inl own ↦ true≢false (sym (eq-eqb class (class_at change.query.classes depth) (sym parts.1)) ∙ none change own)
          | inr later ↦ below_differs row (prefix_of depth change.query) (after_own change later) (sym parts.0)
        ]

    led_of : (class : ℕ) → ((other : Turn) → Has (take count_led led) other → (class == class_at other.query.classes depth) ≡ false)
        → (other : Turn) → Has led other → prefix_of (suc depth) other.query ≢ row ++ (class ∷ [])
    led_of class none other has same =
        let parts = prefix_parts depth other.query.classes row class (given.led_long other has) row_length same in
        elim (in_parts count_led led other has) [
          | inl own ↦ true≢false (sym (eq-eqb class (class_at other.query.classes depth) (sym parts.1)) ∙ none other own)
          | inr later ↦ below_differs row (prefix_of depth other.query) (after_own_led other later) (sym parts.0)
        ]

    row_still : row_at rows (key_along rows0 root row) ≡ row_at rows0 (key_along rows0 root row)
    row_still = still_at rows0 rows (key_along rows0 root row) held s row given.kept (old row)

    row_given : IsRowGiven held next tabled tabled_next s target depth row cells (take count changes) (take count_led led)
    row_given = record {
      cells_are = (at_still rows0 rows (key_along rows0 root row) held s row given.kept (old row)).cells;
      changes_are = λ change has. (own_query change has, given.answers change (of_take count changes change has));
      changes_apart = apart_of change_query depth row (take count changes) (ascends_take change_query (suc depth) count changes given.up) (λ change has. (own_row change has, change_long change has));
      others = λ class none. given.others row class row_length not_done (change_of class none);
      led_on = λ other has k e. subst (λ (l : List ℕ). IsRow next (s, l)) (led_row other has) ((given.led_at other (of_take count_led led other has)).there k e).0;
      led_off = λ other has e on. (given.led_at other (of_take count_led led other has)).none e (subst (λ (l : List ℕ). IsRow next (s, l)) (sym (led_row other has)) on);
      led_target = λ other has. ap target (sym (led_row other has)) ∙ given.led_target other (of_take count_led led other has);
      led_apart = apart_of turn_query depth row (take count_led led) (ascends_take turn_query (suc depth) count_led led given.led_up) (λ other has. (own_led_row other has, led_long other has));
      others_led = λ class none. (let same = given.others_led row class row_length not_done (led_of class none) in
          (same.0, same.1 ∙ key_snoc rows0 root row class ∙ ap (λ (r : Option KeptRow). key_of_next (next_in r class)) (sym row_still)));
    }

    abbrev cells_then : Cells
    cells_then = turns_put (changes_put cells depth (take count changes)) depth (take count_led led)

    laid : IsLaid rows turn.new cells_then between
    laid = subst (λ (k : Option ℕ). IsLaid rows turn.new (turns_put (changes_put (next_in (row_at rows k)) depth (take count changes)) depth (take count_led led)) between) key_now step.is.laid

    row_is : prefix_of depth turn.query ≡ row
    row_is = ap (prefix_of depth) step.is.query_is

    pub step_over : IsOver target depth between turn
    step_over = record {
      selector_is = ap (λ (q : Query). q.selector) step.is.query_is ∙ row_selector;
      depth_is = step.is.depth_is;
      long = subst (λ (q : Query). depth < length q.classes) (sym step.is.query_is) long_row;
      old_is = key_now ∙ ap (λ (l : List ℕ). key_along rows0 root l) (sym row_is);
      at = subst (λ (l : List ℕ). IsAt between turn.new next s l) (sym row_is) (laid_at rows between turn.new cells_then next s row laid
          (λ class. (row_laid held next tabled tabled_next s target depth row cells (take count changes) (take count_led led) row_given class).0));
      link = λ class. ap key_of_next (laid_cells rows between turn.new cells_then laid class)
          ∙ (row_laid held next tabled tabled_next s target depth row cells (take count changes) (take count_led led) row_given class).1
          ∙ ap (λ (l : List ℕ). target (l ++ (class ∷ []))) (sym row_is);
    }

    -- what is known for the rows that wait still
    pub step_given : IsLevelGiven target depth between (row ∷ done) (drop count changes) (drop count_led led)
    step_given = record {
      kept = λ k some. step.extends.kept k (ap is_some (given.kept k some) ∙ some) ∙ given.kept k some;
      of_selector = λ change has. given.of_selector change (of_drop count changes change has);
      long = λ change has. given.long change (of_drop count changes change has);
      answers = λ change has. given.answers change (of_drop count changes change has);
      up = ascends_drop change_query (suc depth) count changes given.up;
      led_long = λ other has. given.led_long other (of_drop count_led led other has);
      led_selector = λ other has. given.led_selector other (of_drop count_led led other has);
      led_at = λ other has. at_still rows between other.new next s (prefix_of (suc depth) other.query) step.extends.kept (given.led_at other (of_drop count_led led other has));
      led_target = λ other has. given.led_target other (of_drop count_led led other has);
      led_up = ascends_drop turn_query (suc depth) count_led led given.led_up;
      others = λ p class long waits none. given.others p class long (λ has. waits (inr has)) (λ change has same. elim (in_parts count changes change has) [
        | inl own ↦ (let is = prefix_parts depth change.query.classes p class (change_long change own) long same in waits (inl (sym (own_row change own) ∙ is.0)))
        | inr later ↦ none change later same
      ]);
      others_led = λ p class long waits none. given.others_led p class long (λ has. waits (inr has)) (λ other has same. elim (in_parts count_led led other has) [
        | inl own ↦ (let is = prefix_parts depth other.query.classes p class (led_long other own) long same in waits (inl (sym (own_led_row other own) ∙ is.0)))
        | inr later ↦ none other later same
      ]);
      above = λ d has change later. elim has [
        | inl is ↦ subst (λ (l : List ℕ). is_below l (prefix_of depth change.query) ≡ true) is (after_own change later)
        | inr before ↦ given.above d before change (of_drop count changes change later)
      ];
      above_led = λ d has other later. elim has [
        | inl is ↦ subst (λ (l : List ℕ). is_below l (prefix_of depth other.query) ≡ true) is (after_own_led other later)
        | inr before ↦ given.above_led d before other (of_drop count_led led other later)
      ];
    }

    -- it comes before those
    pub step_level : (level : List Turn) (rows_then : KeptAt) (fresh_then : List ℕ) → IsLevelOver target depth between fresh_between (row ∷ done) (drop count changes) (drop count_led led) level rows_then fresh_then
        → IsLevelOver target depth rows fresh done changes led (turn ∷ level) rows_then fresh_then
    step_level level rows_then fresh_then rest = record {
      extends = extends_then rows between rows_then fresh fresh_between fresh_then step.extends rest.extends;
      each = λ other has. elim has [
        | inl is ↦ subst (λ (t : Turn). IsOver target depth rows_then t) is (over_still target depth between rows_then turn rest.extends.kept step_over)
        | inr later ↦ rest.each other later
      ];
      up = (λ other has. subst (λ (l : List ℕ). is_below l (prefix_of depth other.query) ≡ true) (sym row_is) (rest.above row (inl refl) other has), rest.up);
      above = λ d has other among. elim among [
        | inl is ↦ subst (λ (t : Turn). is_below d (prefix_of depth t.query) ≡ true) is (subst (λ (l : List ℕ). is_below d l ≡ true) (sym row_is) (row_above d has))
        | inr later ↦ rest.above d (inr has) other later
      ];
      covers = λ change has. elim (in_parts count changes change has) [
        | inl own ↦ (turn, inl refl, row_is ∙ sym (own_row change own))
        | inr later ↦ (let found = rest.covers change later in (found.0, inr found.1, found.2))
      ];
      covers_led = λ other has. elim (in_parts count_led led other has) [
        | inl own ↦ (turn, inl refl, row_is ∙ sym (own_led_row other own))
        | inr later ↦ (let found = rest.covers_led other later in (found.0, inr found.1, found.2))
      ];
      of_query = λ other has. elim has [
        | inl is ↦ subst (λ (t : Turn). ((change : Change) × Has changes change × (change.query ≡ t.query)) ⊎ ((u : Turn) × Has led u × (u.query ≡ t.query))) is
            (elim (first_is depth changes led step.query step.first) [
              | inl found ↦ inl (found.0, found.1, found.2 ∙ sym step.is.query_is)
              | inr found ↦ inr (found.0, found.1, found.2 ∙ sym step.is.query_is)
            ])
        | inr later ↦ elim (rest.of_query other later) [
          | inl found ↦ inl (found.0, of_drop count changes found.0 found.1, found.2)
          | inr found ↦ inr (found.0, of_drop count_led led found.0 found.1, found.2)
        ]
      ];
      vacant = λ other k has e. elim has [
        | inl is ↦ (laid_new rows between turn.new cells_then k laid (ap (λ (t : Turn). t.new) is ∙ e)).0
        | inr later ↦ no_row_before (rows k) (between k) (step.extends.kept k) (rest.vacant other k later e)
      ];
      apart = λ one other k has_one has_other e_one e_other. elim has_one [
        | inl is ↦ elim has_other [
          | inl same ↦ ap (λ (t : Turn). prefix_of depth t.query) (sym is ∙ same)
          | inr later ↦ absurd (none_some (between k) (rest.vacant other k later e_other) (laid_new rows between turn.new cells_then k laid (ap (λ (t : Turn). t.new) is ∙ e_one)).1)
        ]
        | inr later ↦ elim has_other [
          | inl same ↦ absurd (none_some (between k) (rest.vacant one k later e_one) (laid_new rows between turn.new cells_then k laid (ap (λ (t : Turn). t.new) same ∙ e_other)).1)
          | inr also ↦ rest.apart one other k later also e_one e_other
        ]
      ];
      among = λ other k has e. elim has [
        | inl is ↦ rest.extends.stays k (step.is.among k (ap (λ (t : Turn). t.new) is ∙ e))
        | inr later ↦ rest.among other k later e
      ];
    }

  -- all rows of a level have their turns
  pub level_over : (target : List ℕ → Option ℕ) (depth : ℕ) (rows : KeptAt) (fresh : List ℕ) (done : List (List ℕ)) (changes : List Change) (led level : List Turn) (rows_then : KeptAt) (fresh_then : List ℕ)
      → IsLevelGiven target depth rows done changes led → IsLevel root depth rows fresh changes led level rows_then fresh_then
      → IsLevelOver target depth rows fresh done changes led level rows_then fresh_then
  level_over target depth rows fresh done changes led [] rows_then fresh_then given is = record {
    extends = subst (λ (r : KeptAt). Extends rows fresh r fresh_then) (sym is.2) (subst (λ (l : List ℕ). Extends rows fresh rows l) (sym is.3) (extends_none rows fresh));
    each = λ turn has. absurd has;
    up = tt;
    above = λ d has turn none. absurd none;
    covers = λ change has. absurd (subst (λ (l : List Change). Has l change) is.0 has);
    covers_led = λ turn has. absurd (subst (λ (l : List Turn). Has l turn) is.1 has);
    of_query = λ turn has. absurd has;
    vacant = λ turn k has e. absurd has;
    apart = λ turn other k has has_other e e_other. absurd has;
    among = λ turn k has e. absurd has;
  }
  level_over target depth rows fresh done changes led (turn ∷ level) rows_then fresh_then given is =
      step_level target depth rows fresh done changes led given is.0 is.1 turn is.2 is.3 is.4 level rows_then fresh_then
      (level_over target depth is.2 is.3 (prefix_of depth is.4.query ∷ done) (drop is.0 changes) (drop is.1 led) level rows_then fresh_then
      (step_given target depth rows fresh done changes led given is.0 is.1 turn is.2 is.3 is.4) is.5)
