-- Selector table indexing is a lawful kind.
use Rattle.std.proofs.Common.{◌≡◌, ◌≢◌, ◌==◌, ℕ, zero, suc, ◌+◌, ◌-◌, ◌*◌, ◌/◌, ◌%◌, ◌<◌, ◌≤◌, true, false, ◌||◌, List, [], ◌∷◌, inl, inr, refl, sym, ap, ◌∙◌, arith, take, All}
use Rattle.std.specs.Prelude.{nat_le, length}
use Rattle.std.proofs.lemmas.Bool.{or_left, eqb-true, eq-eqb, true≢false}
use Rattle.std.proofs.lemmas.List.Elements.{All-nil, All-cons, All-head, All-tail}
use Rattle.dt_pages.specs.Reading.{Reading}
use Rattle.dt_scratch.specs.Query.{Query, arity_of_query}
use Rattle.dt_scratch.specs.declared.reply.Answer.{Answer}
use Rattle.dt_scratch.specs.declared.reply.Answer.TheVariants.{Method, NotUnderstood, Ambiguous}
use Rattle.dt_scratch.specs.declared.reply.Change.{Change}
use Rattle.dt_cells.specs.Cell.{cell_word, answer_of_code, answer_of_word}
use Rattle.dt_cells.specs.Held.{Held, IsInRange, HasBodyInRange, held_after, IsStageable, IsStageableChange}
use Rattle.dt_cells.specs.HeldLaws.{by_cases, or_true, if_true, if_false, after_keeps, body_after}
use Rattle.dt_cells.specs.Kind.{IsLawful}
use Rattle.dt_sti.specs.Sti.{cell_at, query_at, owns, tag_of, part_by, way_by, AreCells, StiShows, sti}

-- ---- the word of an answer is read back

with_tag : (tag w c : ℕ) → w / 4294967296 ≡ tag → w % 4294967296 ≡ c → answer_of_word tag w ≡ answer_of_code c
with_tag tag w c e f = if_true (w / 4294967296 == tag) (answer_of_code (w % 4294967296)) NotUnderstood (eq-eqb (w / 4294967296) tag e)
    ∙ ap answer_of_code f

le_test : (m n : ℕ) → m ≤ n → nat_le m n ≡ true
le_test m n h = grind arith

apart : (m n : ℕ) → m ≢ n → (m == n) ≡ false
apart m n h = by_cases (m == n) (λ t. absurd (h (eqb-true m n t))) (λ f. f)

body_code : (b : ℕ) → b < 65536 → answer_of_code (b + 2) ≡ Method b
body_code b h =
    if_false (b + 2 == 0) NotUnderstood _ (apart (b + 2) 0 (λ e. omega (arith, e)))
    ∙ if_false (b + 2 == 1) Ambiguous _ (apart (b + 2) 1 (λ e. omega (arith, e)))
    ∙ if_true (nat_le (b + 2) 65537) (Method (b + 2 - 2)) NotUnderstood (le_test (b + 2) 65537 (omega arith))
    ∙ ap Method (omega arith)

read_back : (s : ℕ) (v : Answer) → HasBodyInRange v → answer_of_word (tag_of s) (cell_word (tag_of s) v) ≡ v
read_back s NotUnderstood h = if_false (0 / 4294967296 == (s + 1)) (answer_of_code (0 % 4294967296)) NotUnderstood (apart 0 (s + 1) (λ e. omega (arith, e)))
read_back s Ambiguous h = with_tag (s + 1) ((s + 1) * 4294967296 + 1) 1 (omega arith) (omega arith)
read_back s (Method b) h = let below : b < 65536 = h in with_tag (s + 1) ((s + 1) * 4294967296 + (b + 2)) (b + 2) (omega arith) (omega arith) ∙ body_code b below

-- ---- cells and queries

owned : (address : ℕ) → owns address ≡ true → (16777216 ≤ address) × (address < 25165824)
owned address e = grind arith

pub is_owned : (s class : ℕ) → s < 4096 → class < 2048 → owns (cell_at s class) ≡ true
is_owned s class below under = grind arith

pub query_of : (s class : ℕ) → class < 2048 → query_at (cell_at s class) ≡ record { selector = s; classes = class ∷ [] }
query_of s class under =
    let e : (cell_at s class - 16777216) / 2048 ≡ s = omega arith in
    let f : (cell_at s class - 16777216) % 2048 ≡ class = omega arith in
    λ i. record { selector = e i; classes = f i ∷ [] }

pub cell_back : (address : ℕ) → owns address ≡ true → cell_at ((address - 16777216) / 2048) ((address - 16777216) % 2048) ≡ address
cell_back address t = let o = owned address t in omega (arith, o.0)

way_by_prefix : (s t : ℕ) (n : ℕ) (c d : List ℕ) → s ≡ t → length c ≡ length d → 0 < n → take n c ≡ take n d → way_by s c ≡ way_by t d
way_by_prefix s t zero c d e l lt pre = absurd (omega arith)
way_by_prefix s t (suc n) [] [] e l lt pre = refl
way_by_prefix s t (suc n) [] (y ∷ ys) e l lt pre = absurd (omega arith)
way_by_prefix s t (suc n) (x ∷ xs) [] e l lt pre = absurd (omega arith)
way_by_prefix s t (suc n) (x ∷ xs) (y ∷ ys) e l lt pre = let same : x ≡ y = cc in omega (arith, e, same)

-- ---- what is read

reads : (x : Reading) (held : Held) (s class : ℕ) → StiShows x held → s < 4096 → class < 2048
    → answer_of_word (tag_of s) (x (cell_at s class)) ≡ held (record { selector = s; classes = class ∷ [] })
reads x held s class sh below under =
    ap (answer_of_word (tag_of s)) (sh.cells (cell_at s class) (is_owned s class below under)
    ∙ ap (λ (q : Query). cell_word (tag_of q.selector) (held q)) (query_of s class under))
    ∙ read_back s (held (record { selector = s; classes = class ∷ [] })) (sh.body (record { selector = s; classes = class ∷ [] }))

-- a query in range of at most one class is answered
answered : (x : Reading) (held : Held) (s : ℕ) (classes : List ℕ) → StiShows x held → IsInRange (record { selector = s; classes = classes }) → length classes ≤ 1
    → part_by x s classes ≡ held (record { selector = s; classes = classes })
answered x held s [] sh range few = unheld (held (record { selector = s; classes = [] })) refl
  where
    unheld : (v : Answer) → held (record { selector = s; classes = [] }) ≡ v → NotUnderstood ≡ held (record { selector = s; classes = [] })
    unheld NotUnderstood e = sym e
    unheld (Method b) e = absurd (let f : 0 ≡ 1 = sh.one (record { selector = s; classes = [] }) (λ g. cc) in omega (arith, f))
    unheld Ambiguous e = absurd (let f : 0 ≡ 1 = sh.one (record { selector = s; classes = [] }) (λ g. cc) in omega (arith, f))
answered x held s (class ∷ []) sh range few = reads x held s class sh range.selector (All-head (λ c. c < 2048) class [] range.classes)
answered x held s (class ∷ other ∷ classes) sh range few = absurd (omega arith)

word_of_held : (tag : ℕ) (v : Answer) → cell_word tag v ≢ 0 → v ≢ NotUnderstood
word_of_held tag v some e = some (ap (cell_word tag) e)

-- ---- changes

ranges : (low high : ℕ) (changes : List Change) → All (IsStageableChange low high) changes → All (λ change. IsInRange change.query) changes
ranges low high [] each = All-nil (λ change. IsInRange change.query)
ranges low high (c ∷ cs) each = All-cons (λ change. IsInRange change.query) c cs (All-head (IsStageableChange low high) c cs each).range
    (ranges low high cs (All-tail (IsStageableChange low high) c cs each))

ones : (low : ℕ) (changes : List Change) → 1 ≤ low → All (IsStageableChange low 1) changes → All (λ change. arity_of_query change.query ≡ 1) changes
ones low [] some each = All-nil (λ change. arity_of_query change.query ≡ 1)
ones low (c ∷ cs) some each =
    let h = All-head (IsStageableChange low 1) c cs each in
    All-cons (λ change. arity_of_query change.query ≡ 1) c cs (omega (arith, some, h.least, h.greatest))
    (ones low cs some (All-tail (IsStageableChange low 1) c cs each))

pub shown_after : (low : ℕ) (y x : Reading) (held : Held) (changes : List Change) → StiShows x held → 1 ≤ low → IsStageable low 1 held changes
    → AreCells (held_after held changes) y → StiShows y (held_after held changes)
shown_after low y x held changes sh some able cells = record {
  range = after_keeps IsInRange held changes sh.range (ranges low 1 changes able.each);
  one = after_keeps (λ q. arity_of_query q ≡ 1) held changes sh.one (ones low changes some able.each);
  body = body_after low 1 held changes sh.body able.each;
  cells = cells;
}

pub sti_is_lawful : IsLawful sti
sti_is_lawful = record {
  owned_are_cells = λ address t. let o = owned address t in (omega (arith, o.0), omega (arith, o.1), inl (omega (arith, o.1)));
  blank_shows_none = record {
    range = λ q h. absurd (h refl);
    one = λ q h. absurd (h refl);
    body = λ q. tt;
    cells = λ address t. refl;
  };
  shown_elsewhere = λ x y held sh same. record {
    range = sh.range;
    one = sh.one;
    body = sh.body;
    cells = λ address t. sym (same.owned address t) ∙ sh.cells address t;
  };
  shown_in_range = λ x held q sh h. sh.range q h;
  held_is_answered = λ x held q sh h. let n = sh.one q h in answered x held q.selector q.classes sh (sh.range q h) (omega (arith, n));
  rest_is_answered = λ x held q sh range few arity placed. answered x held q.selector q.classes sh range few;
  placed_is_held = λ held s p. absurd p;
  placed_by_own = λ held other s same p. p;
  placed_has_word = λ x held s sh p. absurd p;
  no_places = λ e held s p. p;
  marks = λ x y held changes s sh pl e t. absurd (true≢false (sym e));
  placed_from = λ x z y held changes same pl. pl;
  placed_at_set = λ x y z held changes pl same address t. sym (same address (or_left _ _ t)) ∙ pl address t;
  determined = λ x y z held changes sh p q address e. let o = only address e in p address o ∙ sym (q address o);
  shown_after = λ low x y held changes sh some able pl stay. shown_after low y x held changes sh some able pl;
  used = λ x held address sh t nz. (
    query_at address,
    1,
    word_of_held (tag_of (query_at address).selector) (held (query_at address)) (λ e. nz (sh.cells address t ∙ e)),
    omega arith,
    omega arith,
    cell_back address t,
  );
  way_by_prefix = λ x q r n sel ar lt pre. way_by_prefix q.selector r.selector n q.classes r.classes sel ar lt pre;
}
  where
    only : (address : ℕ) → (owns address || false) ≡ true → owns address ≡ true
    only address e = elim (or_true (owns address) false e) [ inl t ↦ t | inr f ↦ absurd (true≢false (sym f)) ]
