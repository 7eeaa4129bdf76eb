-- Cells that are set one after the other are those of what is held after the changes.
use Rattle.std.proofs.Common.{◌≡◌, ◌≢◌, ◌==◌, ℕ, zero, suc, ◌+◌, ◌<◌, ◌≤◌, true, false, if◌then◌else◌, List, [], ◌∷◌, length, drop, get_or, refl, sym, ap, subst, ◌∙◌, arith, All, eqb-true, eq-eqb, true≢false}
use mathlib.Core.Path.{fun_ext}
use Rattle.std.specs.List.{AllByRecursion}
use Rattle.std.specs.List.Sorted.{IsStrictlySortedBy}
use Rattle.std.specs.Ordering.{nat_cmp, ordering_then}
use Rattle.std.specs.Prelude.{◌&&◌, nat_eq}
use lib.Pointwise.{pointwise}
use Rattle.std.specs.declared.cmp.Ordering.{Ordering}
use Rattle.std.specs.declared.cmp.Ordering.TheVariants.{Less, Equal}
use Rattle.std.specs.Cmp.{nat_cmp_total, tied_itself}
use Rattle.std.specs.Cmp.Lexicographic.{slice_cmp, nat_list_cmp_total}
use Rattle.std.proofs.lemmas.Map.Keys.{sorted_tail, sorted_head}
use Rattle.std.proofs.lemmas.List.Elements.{All-head, All-tail}
use Rattle.dt_pages.specs.Reading.{Reading}
use Rattle.dt_scratch.specs.Query.{Query, arity_of_query, is_same_query, query_order}
use Rattle.dt_scratch.specs.declared.reply.Answer.{Answer}
use Rattle.dt_scratch.specs.declared.reply.Change.{Change}
use Rattle.dt_cells.specs.Cell.{cell_word}
use Rattle.dt_cells.specs.Held.{Held, held_after, IsStageableChange}
use Rattle.dt_cells.specs.HeldLaws.{by_cases, if_true, if_false, same_query}
use Rattle.dt_sti.specs.Sti.{cell_at, query_at, owns, tag_of, way_by, cell_of, word_of, AreCells}
use Rattle.dt_sti.specs.StiLaws.{is_owned, query_of, cell_back}

-- the reading with this word at this address
abbrev pub put : ℕ → ℕ → Reading → Reading
put at word y address = if address == at then word else y address

-- the cells of the changes are set, one after the other
abbrev pub laid : List Change → Reading → Reading
laid [] y = y
laid (c ∷ cs) y = laid cs (put (cell_of c) (word_of c) y)

pub laid_step : (cs : List Change) (i : ℕ) (d : Change) (y z : Reading) → i < length cs
    → ((address : ℕ) → z address ≡ put (cell_of (get_or cs i d)) (word_of (get_or cs i d)) y address)
    → laid (drop (i + 1) cs) z ≡ laid (drop i cs) y
laid_step [] i d y z within is = absurd (omega arith)
laid_step (c ∷ cs) zero d y z within is = ap (laid cs) (fun_ext is)
laid_step (c ∷ cs) (suc i) d y z within is =
    let e : suc i + 1 ≡ suc (i + 1) = omega arith in
    ap (λ n. laid (drop n (c ∷ cs)) z) e ∙ laid_step cs i d y z (omega arith) is

-- ---- each change has a cell of its own

only : (classes : List ℕ) → length classes ≡ 1 → classes ≡ get_or classes 0 0 ∷ []
only [] e = absurd (omega arith)
only (class ∷ []) e = refl
only (class ∷ other ∷ classes) e = absurd (omega arith)

pub record HasCell (q : Query) (class : ℕ) : Type 0 where
  pub selector : q.selector < 4096
  pub in_range : class < 2048
  pub classes : q.classes ≡ class ∷ []

has_cell : (c : Change) → IsStageableChange 1 1 c → HasCell c.query (get_or c.query.classes 0 0)
has_cell c able =
    let is : c.query.classes ≡ get_or c.query.classes 0 0 ∷ [] = only c.query.classes (omega (arith, able.least, able.greatest)) in
    record {
      selector = able.range.selector;
      in_range = All-head (λ class. class < 2048) (get_or c.query.classes 0 0) [] (subst (All (λ class. class < 2048)) is able.range.classes);
      classes = is;
    }

cell_is : (q : Query) (class : ℕ) → HasCell q class → way_by q.selector q.classes ≡ cell_at q.selector class
cell_is q class has = ap (way_by q.selector) has.classes

query_is : (q : Query) (class : ℕ) → HasCell q class → query_at (way_by q.selector q.classes) ≡ q
query_is q class has = ap query_at (cell_is q class has) ∙ query_of q.selector class has.in_range
    ∙ (λ i. record { selector = q.selector; classes = sym has.classes i })

is_its : (q : Query) (class : ℕ) → HasCell q class → owns (way_by q.selector q.classes) ≡ true
is_its q class has = ap owns (cell_is q class has) ∙ is_owned q.selector class has.selector has.in_range

-- ---- what is held after

-- one change
one_after : Held → Change → Held
one_after held c q = if is_same_query c.query q then c.answer else held q

query_itself : (q : Query) → query_order q q ≡ Equal
query_itself q =
    ap (λ o. ordering_then o (ordering_then (nat_cmp (arity_of_query q) (arity_of_query q)) (slice_cmp nat_cmp q.classes q.classes))) (tied_itself nat_cmp_total q.selector)
    ∙ ap (λ o. ordering_then o (slice_cmp nat_cmp q.classes q.classes)) (tied_itself nat_cmp_total (arity_of_query q))
    ∙ tied_itself nat_list_cmp_total q.classes

-- none of the others is of the same query
apart : (c d : Change) (ds : List Change) → AllByRecursion (λ e. query_order c.query e.query ≡ Less) (d ∷ ds) → d.query ≢ c.query
apart c d ds all same = less_equal _ (sym (ap (query_order c.query) same) ∙ all.0) (query_itself c.query)
  where
    less_equal : (o : Ordering) → o ≡ Less → o ≡ Equal → ⊥
    less_equal o e f = cc

-- a change whose query no other has may be put first
first_after : (held : Held) (c : Change) (cs : List Change) (q : Query) → AllByRecursion (λ e. query_order c.query e.query ≡ Less) cs
    → held_after (one_after held c) cs q ≡ held_after held (c ∷ cs) q
unfolding one_after
first_after held c [] q all = refl
first_after held c (d ∷ ds) q all = by_cases (is_same_query d.query q)
    (λ t. if_true (is_same_query d.query q) d.answer (held_after (one_after held c) ds q) t
    ∙ sym (if_false (is_same_query c.query q) c.answer (held_after held (d ∷ ds) q) (other t)
    ∙ if_true (is_same_query d.query q) d.answer (held_after held ds q) t))
    (λ f. if_false (is_same_query d.query q) d.answer (held_after (one_after held c) ds q) f
    ∙ first_after held c ds q all.1
    ∙ ap (λ (v : Answer). if is_same_query c.query q then c.answer else v) (sym (if_false (is_same_query d.query q) d.answer (held_after held ds q) f)))
  where
    other : is_same_query d.query q ≡ true → is_same_query c.query q ≡ false
    other t = by_cases (is_same_query c.query q)
        (λ s. absurd (apart c d ds all (same_query d.query q t ∙ sym (same_query c.query q s)))) (λ f. f)

classes_themselves : (classes : List ℕ) → pointwise nat_eq classes classes ≡ true
classes_themselves [] = refl
classes_themselves (class ∷ classes) = ap (λ b. b && pointwise nat_eq classes classes) (eq-eqb class class refl) ∙ classes_themselves classes

same_itself : (q : Query) → is_same_query q q ≡ true
same_itself q =
    ap (λ b. b && ((arity_of_query q == arity_of_query q) && pointwise nat_eq q.classes q.classes)) (eq-eqb q.selector q.selector refl)
    ∙ ap (λ b. b && pointwise nat_eq q.classes q.classes) (eq-eqb (arity_of_query q) (arity_of_query q) refl)
    ∙ classes_themselves q.classes

-- the cells after one change
put_cells : (held : Held) (c : Change) (y : Reading) → IsStageableChange 1 1 c → AreCells held y → AreCells (one_after held c) (put (cell_of c) (word_of c) y)
unfolding one_after
put_cells held c y able cells address own =
    let has = has_cell c able in by_cases (address == cell_of c)
    (λ t. let is : address ≡ cell_of c = eqb-true address (cell_of c) t in
    let at : query_at address ≡ c.query = ap query_at is ∙ query_is c.query _ has in
    if_true (address == cell_of c) (word_of c) (y address) t
    ∙ sym (ap (λ (q : Query). cell_word (tag_of q.selector) (if is_same_query c.query q then c.answer else held q)) at
    ∙ ap (cell_word (tag_of c.query.selector)) (if_true (is_same_query c.query c.query) c.answer (held c.query) (same_itself c.query))))
    (λ f. if_false (address == cell_of c) (word_of c) (y address) f ∙ cells address own
    ∙ sym (ap (cell_word (tag_of (query_at address).selector)) (if_false (is_same_query c.query (query_at address)) c.answer (held (query_at address)) (differs f))))
  where
    differs : (address == cell_of c) ≡ false → is_same_query c.query (query_at address) ≡ false
    differs f = by_cases (is_same_query c.query (query_at address))
        (λ t. let same : c.query ≡ query_at address = same_query c.query (query_at address) t in
        absurd (true≢false (sym (eq-eqb address (cell_of c) (sym (back address own) ∙ ap (λ (q : Query). way_by q.selector q.classes) (sym same))) ∙ f)))
        (λ g. g)
      where
        back : (address : ℕ) → owns address ≡ true → way_by (query_at address).selector (query_at address).classes ≡ address
        back address own = cell_back address own

pub laid_cells : (held : Held) (changes : List Change) (y : Reading) → IsStrictlySortedBy (λ a b. query_order a.query b.query) changes
    → All (IsStageableChange 1 1) changes → AreCells held y → AreCells (held_after held changes) (laid changes y)
laid_cells held [] y sorted each cells = cells
laid_cells held (c ∷ cs) y sorted each cells =
    let order : Change → Change → Ordering = λ a b. query_order a.query b.query in
    subst (λ (v : Held). AreCells v (laid cs (put (cell_of c) (word_of c) y))) (fun_ext (λ q. first_after held c cs q (sorted_head order c cs sorted)))
    (laid_cells (one_after held c) cs (put (cell_of c) (word_of c) y) (sorted_tail order c cs sorted)
    (All-tail (IsStageableChange 1 1) c cs each)
    (put_cells held c y (All-head (IsStageableChange 1 1) c cs each) cells))

-- every other word stays
pub laid_rest : (changes : List Change) (y : Reading) (address : ℕ) → All (IsStageableChange 1 1) changes → owns address ≡ false → laid changes y address ≡ y address
laid_rest [] y address each other = refl
laid_rest (c ∷ cs) y address each other =
    let has = has_cell c (All-head (IsStageableChange 1 1) c cs each) in
    laid_rest cs (put (cell_of c) (word_of c) y) address (All-tail (IsStageableChange 1 1) c cs each) other
    ∙ if_false (address == cell_of c) (word_of c) (y address) (by_cases (address == cell_of c)
    (λ t. let is : address ≡ cell_of c = eqb-true address (cell_of c) t in
    absurd (true≢false (sym (ap owns is ∙ is_its c.query _ has) ∙ other)))
    (λ f. f))

-- once all were set
pub laid_all : (changes : List Change) (count : ℕ) (z y : Reading) → length changes ≤ count → laid (drop count changes) z ≡ laid changes y
    → (address : ℕ) → z address ≡ laid changes y address
laid_all changes count z y all is address = ap (λ (cs : List Change). laid cs z address) (sym (drop_all changes count all)) ∙ ap (λ (x : Reading). x address) is
  where
    drop_all : (cs : List Change) (n : ℕ) → length cs ≤ n → drop n cs ≡ []
    drop_all [] zero below = refl
    drop_all [] (suc n) below = refl
    drop_all (c ∷ cs) zero below = absurd (omega arith)
    drop_all (c ∷ cs) (suc n) below = drop_all cs n (omega arith)
