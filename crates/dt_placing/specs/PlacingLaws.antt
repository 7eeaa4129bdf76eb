-- Placing is a lawful kind.
use Rattle.std.proofs.Common.{◌≡◌, ◌≢◌, ◌==◌, ℕ, zero, suc, ◌+◌, ◌-◌, ◌*◌, ◌/◌, ◌%◌, ◌<◌, ◌≤◌, Bool, true, false, ◌&&◌, if◌then◌else◌, List, [], ◌∷◌, ◌⊎◌, inl, inr, refl, sym, ap, subst, ◌∙◌, arith, take, All, IsTrue}
use Rattle.std.specs.Prelude.{nat_le, nat_lt, length}
use Rattle.std.proofs.lemmas.Bool.{or_left, or_right, and_from, eqb-true, eq-eqb, true≢false}
use Rattle.std.proofs.lemmas.List.Elements.{All-nil, All-cons, All-head, All-tail}
use Rattle.dt_pages.specs.Reading.{Reading}
use Rattle.dt_scratch.specs.Query.{arity_of_query}
use Rattle.dt_scratch.specs.declared.reply.Answer.{Answer}
use Rattle.dt_scratch.specs.declared.reply.Answer.TheVariants.{Method, NotUnderstood, Ambiguous}
use Rattle.dt_scratch.specs.declared.reply.Change.{Change}
use Rattle.dt_cells.specs.Regions.{place_of}
use Rattle.dt_cells.specs.Cell.{cell_word, answer_of_code, answer_of_word}
use Rattle.dt_cells.specs.Held.{Held, none_held, IsHeld, IsInRange, HasBodyInRange, held_after, IsStageable, IsStageableChange, is_changed, is_changed_place}
use Rattle.dt_cells.specs.HeldLaws.{by_cases, or_true, if_true, if_false, after_keeps, body_after, unchanged_after, changed_place}
use Rattle.dt_cells.specs.Kind.{IsLawful, SameFor, Stay, IsMarked}
use Rattle.dt_fit.specs.declared.geometry.Geometry.{Geometry}
use Rattle.dt_fit.specs.declared.geometry.Geometry.TheVariants.{Colours, Displacements}
use Rattle.dt_fit.specs.Geometry.{width_of}
use Rattle.dt_fit.specs.Fits.{fits, IsLowest}
use Rattle.dt_fit.specs.Rows.{row_uses}
use Rattle.dt_placing.specs.Rows.{single, is_understood, indexes, is_some, has_index}
use Rattle.dt_placing.specs.RowsLaws.{not_understood, same_indexes, has_index_of, index_of, same_others}
use Rattle.dt_placing.specs.Placing.{cell_at, owns, tag_of, answer_at, part_by, way_by, AreCells, place_numbers, HasRoom, Shows, words_after, row_at, is_used, may_stay, HasWord, IsPlaced, Places, placing}

-- ---- tests

pub le_test : (m n : ℕ) → m ≤ n → nat_le m n ≡ true
le_test m n h = grind arith

pub lt_test : (m n : ℕ) → m < n → nat_lt m n ≡ true
lt_test m n h = grind arith

pub lt_tested : (m n : ℕ) → nat_lt m n ≡ true → m < n
lt_tested m n e = grind arith

pub le_tested : (m n : ℕ) → nat_le m n ≡ true → m ≤ n
le_tested m n e = grind arith

apart : (m n : ℕ) → m ≢ n → (m == n) ≡ false
apart m n h = by_cases (m == n) (λ t. absurd (h (eqb-true m n t))) (λ f. f)

pub unheld : (v : Answer) → is_understood v ≡ false → v ≡ NotUnderstood
unheld NotUnderstood e = refl
unheld Ambiguous e = absurd (true≢false e)
unheld (Method b) e = absurd (true≢false e)

-- ---- the word of an answer is read back under its tag, and under no other

with_tag : (tag w c : ℕ) → w / 4294967296 ≡ tag → w % 4294967296 ≡ c → answer_of_word tag w ≡ answer_of_code c
with_tag tag w c e f = if_true (w / 4294967296 == tag) (answer_of_code (w % 4294967296)) NotUnderstood (eq-eqb (w / 4294967296) tag e)
    ∙ ap answer_of_code f

body_code : (b : ℕ) → b < 65536 → answer_of_code (b + 2) ≡ Method b
body_code b h =
    if_false (b + 2 == 0) NotUnderstood _ (apart (b + 2) 0 (λ e. omega (arith, e)))
    ∙ if_false (b + 2 == 1) Ambiguous _ (apart (b + 2) 1 (λ e. omega (arith, e)))
    ∙ if_true (nat_le (b + 2) 65537) (Method (b + 2 - 2)) NotUnderstood (le_test (b + 2) 65537 (omega arith))
    ∙ ap Method (omega arith)

pub no_word : (s : ℕ) → answer_of_word (tag_of s) 0 ≡ NotUnderstood
no_word s = if_false (0 / 4294967296 == (s + 1)) (answer_of_code (0 % 4294967296)) NotUnderstood (apart 0 (s + 1) (λ e. omega (arith, e)))

pub read_back : (s : ℕ) (v : Answer) → HasBodyInRange v → answer_of_word (tag_of s) (cell_word (tag_of s) v) ≡ v
read_back s NotUnderstood h = no_word s
read_back s Ambiguous h = with_tag (s + 1) ((s + 1) * 4294967296 + 1) 1 (omega arith) (omega arith)
read_back s (Method b) h = let below : b < 65536 = h in with_tag (s + 1) ((s + 1) * 4294967296 + (b + 2)) (b + 2) (omega arith) (omega arith) ∙ body_code b below

without_tag : (s w : ℕ) → w / 4294967296 ≢ s + 1 → answer_of_word (tag_of s) w ≡ NotUnderstood
without_tag s w h = if_false (w / 4294967296 == (s + 1)) (answer_of_code (w % 4294967296)) NotUnderstood (apart (w / 4294967296) (s + 1) h)

pub other_tag : (s t : ℕ) (v : Answer) → t ≢ s → HasBodyInRange v → answer_of_word (tag_of s) (cell_word (tag_of t) v) ≡ NotUnderstood
other_tag s t NotUnderstood differs h = no_word s
other_tag s t Ambiguous differs h = without_tag s ((t + 1) * 4294967296 + 1)
    (λ e. differs (let f : ((t + 1) * 4294967296 + 1) / 4294967296 ≡ t + 1 = omega arith in omega (arith, e, f)))
other_tag s t (Method b) differs h = let below : b < 65536 = h in without_tag s ((t + 1) * 4294967296 + (b + 2))
    (λ e. differs (let f : ((t + 1) * 4294967296 + (b + 2)) / 4294967296 ≡ t + 1 = omega arith in omega (arith, e, f)))

pub some_word : (s : ℕ) (v : Answer) → v ≢ NotUnderstood → cell_word (tag_of s) v ≢ 0
some_word s NotUnderstood h e = h refl
some_word s Ambiguous h e = let f : (s + 1) * 4294967296 + 1 ≡ 0 = e in absurd (omega (arith, f))
some_word s (Method b) h e = let f : (s + 1) * 4294967296 + (b + 2) ≡ 0 = e in absurd (omega (arith, f))

-- ---- changes

pub ranges : (low high : ℕ) (changes : List Change) → All (IsStageableChange low high) changes → All (λ change. IsInRange change.query) changes
ranges low high [] each = All-nil (λ change. IsInRange change.query)
ranges low high (c ∷ cs) each = All-cons (λ change. IsInRange change.query) c cs (All-head (IsStageableChange low high) c cs each).range
    (ranges low high cs (All-tail (IsStageableChange low high) c cs each))

ones : (low : ℕ) (changes : List Change) → 1 ≤ low → All (IsStageableChange low 1) changes → All (λ change. arity_of_query change.query ≡ 1) changes
ones low [] some each = All-nil (λ change. arity_of_query change.query ≡ 1)
ones low (c ∷ cs) some each =
    let h = All-head (IsStageableChange low 1) c cs each in
    All-cons (λ change. arity_of_query change.query ≡ 1) c cs (omega (arith, some, h.least, h.greatest))
    (ones low cs some (All-tail (IsStageableChange low 1) c cs each))

-- a selector without a change has the indexes that it had
pub unchanged_indexes : (held : Held) (changes : List Change) (s : ℕ) → is_changed changes s ≡ false → indexes (held_after held changes) s ≡ indexes held s
unchanged_indexes held changes s e = same_indexes (held_after held changes) held s 2048 (λ class. unchanged_after held changes s e (single s class) refl)

-- a place word that is set is that of a selector with a change
place_at_change : (changes : List Change) (address : ℕ) → is_changed_place changes address ≡ true
    → (s : ℕ) × ((is_changed changes s ≡ true) × (place_of s ≡ address))
place_at_change [] address e = absurd (true≢false (sym e))
place_at_change (c ∷ cs) address e = elim (or_true (place_of c.query.selector == address) (is_changed_place cs address) e) [
  | inl t ↦ (c.query.selector, (or_left _ (is_changed cs c.query.selector) (eq-eqb c.query.selector c.query.selector refl), eqb-true (place_of c.query.selector) address t))
  | inr t ↦ (let found = place_at_change cs address t in (found.0, (or_right (c.query.selector == found.0) _ found.1.0, found.1.1)))
]

module _ (g : Geometry) where
  -- ---- cells

  pub owned : (address : ℕ) → owns address ≡ true → (16777216 ≤ address) × (address < 33554432)
  owned address e = grind arith

  -- the cells of a place with room are in the region
  pub room_within : (word : ℕ) → HasRoom g word → width_of g * (word - 1) + 2048 ≤ 16777216
  room_within word room = by_geometry g room.within
    where
      by_geometry : (h : Geometry) → word - 1 < place_numbers h → width_of h * (word - 1) + 2048 ≤ 16777216
      by_geometry Colours below = let small : word - 1 < 4096 = below in omega (arith, small)
      by_geometry Displacements below = let small : word - 1 < 16775168 = below in omega (arith, small)

  pub owned_cell : (word class : ℕ) → HasRoom g word → class < 2048 → owns (cell_at g (word - 1) class) ≡ true
  owned_cell word class room below =
      let within : width_of g * (word - 1) + 2048 ≤ 16777216 = room_within word room in
      and_from (nat_le 16777216 (cell_at g (word - 1) class)) (nat_lt (cell_at g (word - 1) class) 33554432)
      (le_test 16777216 (16777216 + (width_of g * (word - 1) + class)) (omega arith))
      (lt_test (16777216 + (width_of g * (word - 1) + class)) 33554432 (omega (arith, within, below)))

  -- ---- what is read

  answer_by : (x : Reading) (s word class : ℕ) (v : Answer) → HasRoom g word → class < 2048 → HasBodyInRange v
      → x (cell_at g (word - 1) class) ≡ cell_word (tag_of s) v → answer_at g x s word class ≡ v
  answer_by x s zero class v room below body is = absurd (omega (arith, room.some))
  answer_by x s (suc p) class v room below body is =
      let e : suc p - 1 ≡ p = omega arith in
      let within : width_of g * p + 2048 ≤ 16777216 = subst (λ n. width_of g * n + 2048 ≤ 16777216) e (room_within (suc p) room) in
      if_true (nat_lt (cell_at g p class) 134217728) (answer_of_word (tag_of s) (x (cell_at g p class))) NotUnderstood
      (lt_test (16777216 + (width_of g * p + class)) 134217728 (omega (arith, within, below)))
      ∙ ap (answer_of_word (tag_of s)) (ap (λ n. x (cell_at g n class)) (sym e) ∙ is) ∙ read_back s v body

  none_by : (x : Reading) (s word class : ℕ) → answer_of_word (tag_of s) (x (cell_at g (word - 1) class)) ≡ NotUnderstood → answer_at g x s word class ≡ NotUnderstood
  none_by x s zero class is = refl
  none_by x s (suc p) class is =
      let e : suc p - 1 ≡ p = omega arith in
      by_cases (nat_lt (cell_at g p class) 134217728)
      (λ t. if_true (nat_lt (cell_at g p class) 134217728) (answer_of_word (tag_of s) (x (cell_at g p class))) NotUnderstood t
      ∙ ap (λ n. answer_of_word (tag_of s) (x (cell_at g n class))) (sym e) ∙ is)
      (λ f. if_false (nat_lt (cell_at g p class) 134217728) (answer_of_word (tag_of s) (x (cell_at g p class))) NotUnderstood f)

  pub held_read : (x : Reading) (held : Held) (s class : ℕ) → Shows g x held → class < 2048 → IsHeld held (single s class)
      → answer_at g x s (x (place_of s)) class ≡ held (single s class)
  held_read x held s class sh below h = answer_by x s (x (place_of s)) class (held (single s class)) (sh.room s (has_index_of held s class below h))
      below (sh.body (single s class)) (sh.cells.set s class below h)

  -- a cell of a selector's place whose class doesn't understand it has no word of the selector's
  pub rest_word : (x : Reading) (held : Held) (s class : ℕ) → Shows g x held → class < 2048 → is_understood (held (single s class)) ≡ false
      → has_index held s ≡ true → answer_of_word (tag_of s) (x (cell_at g (x (place_of s) - 1) class)) ≡ NotUnderstood
  rest_word x held s class sh below none placed =
      let cell : ℕ = cell_at g (x (place_of s) - 1) class in
      by_cases (x cell == 0)
      (λ t. ap (answer_of_word (tag_of s)) (eqb-true (x cell) 0 t) ∙ no_word s)
      (λ f. (let u = sh.cells.used cell (owned_cell (x (place_of s)) class (sh.room s placed) below) (λ z. true≢false (sym (eq-eqb (x cell) 0 z) ∙ f)) in
      ap (answer_of_word (tag_of s)) (ap x (sym u.4) ∙ sh.cells.set u.0 u.1 u.2 u.3)
      ∙ other_tag s u.0 (held (single u.0 u.1))
      (λ same. (let at : 16777216 + (width_of g * (x (place_of s) - 1) + u.1) ≡ 16777216 + (width_of g * (x (place_of s) - 1) + class)
      = subst (λ t. cell_at g (x (place_of t) - 1) u.1 ≡ cell) same u.4 in
      let one : u.1 ≡ class = omega (arith, at) in
      let has : IsHeld held (single s class) = subst (λ c. IsHeld held (single s c)) one (subst (λ t. IsHeld held (single t u.1)) same u.3) in
      has (unheld (held (single s class)) none)))
      (sh.body (single u.0 u.1))))

  rest_read : (x : Reading) (held : Held) (s class : ℕ) → Shows g x held → class < 2048 → has_index held s ≡ true ⊎ (x (place_of s) ≡ 0)
      → answer_at g x s (x (place_of s)) class ≡ held (single s class)
  rest_read x held s class sh below placed = by_cases (is_understood (held (single s class)))
      (λ t. held_read x held s class sh below (not_understood (held (single s class)) t))
      (λ f. (elim placed [
        | inl p ↦ none_by x s (x (place_of s)) class (rest_word x held s class sh below f p)
        | inr z ↦ ap (λ w. answer_at g x s w class) z
      ]) ∙ sym (unheld (held (single s class)) f))

  answered : (x : Reading) (held : Held) (s : ℕ) (classes : List ℕ) → Shows g x held → IsInRange (record { selector = s; classes = classes }) → length classes ≤ 1
      → has_index held s ≡ true ⊎ (x (place_of s) ≡ 0) → part_by g x s classes ≡ held (record { selector = s; classes = classes })
  answered x held s [] sh range few placed = nothing (held (record { selector = s; classes = [] })) refl
    where
      nothing : (v : Answer) → held (record { selector = s; classes = [] }) ≡ v → NotUnderstood ≡ held (record { selector = s; classes = [] })
      nothing NotUnderstood e = sym e
      nothing (Method b) e = absurd (let f : 0 ≡ 1 = sh.one (record { selector = s; classes = [] }) (λ g. cc) in omega (arith, f))
      nothing Ambiguous e = absurd (let f : 0 ≡ 1 = sh.one (record { selector = s; classes = [] }) (λ g. cc) in omega (arith, f))
  answered x held s (class ∷ []) sh range few placed = rest_read x held s class sh (All-head (λ c. c < 2048) class [] range.classes) placed
  answered x held s (class ∷ other ∷ classes) sh range few placed = absurd (omega arith)

  -- a held query has one class
  held_answered : (x : Reading) (held : Held) (s : ℕ) (classes : List ℕ) → Shows g x held → IsHeld held (record { selector = s; classes = classes })
      → part_by g x s classes ≡ held (record { selector = s; classes = classes })
  held_answered x held s [] sh h = absurd (let f : 0 ≡ 1 = sh.one (record { selector = s; classes = [] }) h in omega (arith, f))
  held_answered x held s (class ∷ []) sh h = held_read x held s class sh (All-head (λ c. c < 2048) class [] (sh.range (single s class) h).classes) h
  held_answered x held s (class ∷ other ∷ classes) sh h =
      absurd (let f : length (class ∷ other ∷ classes) ≡ 1 = sh.one (record { selector = s; classes = class ∷ other ∷ classes }) h in omega (arith, f))

  -- ---- cells under other words, in another reading

  pub move_cells : (words others : ℕ → ℕ) (held : Held) (x y : Reading)
      → ((s class : ℕ) → class < 2048 → IsHeld held (single s class) → words s ≡ others s)
      → ((s class : ℕ) → class < 2048 → IsHeld held (single s class) → owns (cell_at g (words s - 1) class) ≡ true)
      → ((address : ℕ) → owns address ≡ true → x address ≡ y address) → AreCells g words held x → AreCells g others held y
  move_cells words others held x y same own is cells = record {
    set = λ s class below h. ap (λ n. y (cell_at g (n - 1) class)) (sym (same s class below h))
        ∙ sym (is (cell_at g (words s - 1) class) (own s class below h)) ∙ cells.set s class below h;
    used = λ address t nz. (let u = cells.used address t (λ z. nz (sym (is address t) ∙ z)) in
        (u.0, u.1, u.2, u.3, ap (λ n. cell_at g (n - 1) u.1) (sym (same u.0 u.1 u.2 u.3)) ∙ u.4));
  }

  -- ---- the turns

  pub row_same : (a b : ℕ) (list : List ℕ) (cell : ℕ) → (is_some list ≡ true → a ≡ b)
      → row_uses g (record { place = a; indexes = list }) cell ≡ row_uses g (record { place = b; indexes = list }) cell
  row_same a b [] cell same = refl
  row_same a b (i ∷ list) cell same = ap (λ p. row_uses g (record { place = p; indexes = i ∷ list }) cell) (same refl)

  -- what others use is the same where their rows use the same cells
  pub same_used : (x z : Reading) (held other : Held) (changes more : List Change) (words others : ℕ → ℕ) (turn : ℕ)
      → ((t : ℕ) → t < 4096 → t ≢ turn → (cell : ℕ) → row_uses g (row_at x held changes words turn t) cell ≡ row_uses g (row_at z other more others turn t) cell)
      → is_used g x held changes words turn ≡ is_used g z other more others turn
  same_used x z held other changes more words others turn rows =
      let point : (cell : ℕ) → is_used g x held changes words turn cell ≡ is_used g z other more others turn cell
      = λ cell. same_others (row_at x held changes words turn) (row_at z other more others turn) (λ row. row_uses g row cell) turn 4096 (λ t below apart. rows t below apart cell) in
      λ i cell. point cell i

  pub word_moves : (b c : ℕ) (used : ℕ → Bool) (needed : List ℕ) (some stays : Bool) (word : ℕ) → (stays ≡ true → b ≡ c)
      → HasWord g b used needed some stays word → HasWord g c used needed some stays word
  word_moves b c used needed false stays word same has = has
  word_moves b c used needed true true word same has = has ∙ same refl
  word_moves b c used needed true false word same has = has

  lowest_one : (test : ℕ → Bool) (p q : ℕ) → IsLowest test p → IsLowest test q → p ≡ q
  lowest_one test p q lp lq = by_cases (nat_lt p q)
      (λ t. absurd (clash (test p) lp.passes (lq.none_below p (lt_tested p q t))))
      (λ f. by_cases (nat_lt q p)
      (λ t. absurd (clash (test q) lq.passes (lp.none_below q (lt_tested q p t))))
      (λ h. grind arith))
    where
      clash : (b : Bool) → IsTrue b → b ≡ false → ⊥
      clash b is e = true≢false (sym is ∙ e)

  word_one : (b : ℕ) (used : ℕ → Bool) (needed : List ℕ) (some stays : Bool) (w v : ℕ)
      → HasWord g b used needed some stays w → HasWord g b used needed some stays v → w ≡ v
  word_one b used needed false stays w v p q = p ∙ sym q
  word_one b used needed true true w v p q = p ∙ sym q
  word_one b used needed true false w v p q = p.1 ∙ ap (λ n. n + 1) (lowest_one (fits g used needed) p.0 q.0 p.2 q.2) ∙ sym q.1

  -- ---- placing from another reading

  pub words_changed : (x y : Reading) (changes : List Change) (s : ℕ) → is_changed changes s ≡ true → words_after x changes y s ≡ y (place_of s)
  words_changed x y changes s t = if_true (is_changed changes s) (y (place_of s)) (x (place_of s)) t

  pub words_unchanged : (x y : Reading) (changes : List Change) (s : ℕ) → is_changed changes s ≡ false → words_after x changes y s ≡ x (place_of s)
  words_unchanged x y changes s f = if_false (is_changed changes s) (y (place_of s)) (x (place_of s)) f

  words_from : (x z y : Reading) (held : Held) (changes : List Change) (s : ℕ) → SameFor (placing g) held x z
      → has_index (held_after held changes) s ≡ true → words_after x changes y s ≡ words_after z changes y s
  words_from x z y held changes s same some = by_cases (is_changed changes s)
      (λ t. words_changed x y changes s t ∙ sym (words_changed z y changes s t))
      (λ f. words_unchanged x y changes s f ∙ same.words s (sym (ap is_some (unchanged_indexes held changes s f)) ∙ some)
      ∙ sym (words_unchanged z y changes s f))

  used_from : (x z y : Reading) (held : Held) (changes : List Change) (s : ℕ) → SameFor (placing g) held x z
      → is_used g x held changes (words_after x changes y) s ≡ is_used g z held changes (words_after z changes y) s
  used_from x z y held changes s same =
      same_used x z held held changes changes (words_after x changes y) (words_after z changes y) s
      (λ t below apart cell. row t cell (nat_lt t s) refl)
    where
      row : (t cell : ℕ) (b : Bool) → nat_lt t s ≡ b
          → row_uses g (row_at x held changes (words_after x changes y) s t) cell ≡ row_uses g (row_at z held changes (words_after z changes y) s t) cell
      row t cell true e =
          ap (λ (b : Bool). row_uses g (if b then record { place = words_after x changes y t - 1; indexes = indexes (held_after held changes) t } else record { place = x (place_of t) - 1; indexes = indexes held t }) cell) e
          ∙ row_same (words_after x changes y t - 1) (words_after z changes y t - 1) (indexes (held_after held changes) t) cell
          (λ some. ap (λ n. n - 1) (words_from x z y held changes t same some))
          ∙ sym (ap (λ (b : Bool). row_uses g (if b then record { place = words_after z changes y t - 1; indexes = indexes (held_after held changes) t } else record { place = z (place_of t) - 1; indexes = indexes held t }) cell) e)
      row t cell false e =
          ap (λ (b : Bool). row_uses g (if b then record { place = words_after x changes y t - 1; indexes = indexes (held_after held changes) t } else record { place = x (place_of t) - 1; indexes = indexes held t }) cell) e
          ∙ row_same (x (place_of t) - 1) (z (place_of t) - 1) (indexes held t) cell (λ some. ap (λ n. n - 1) (same.words t some))
          ∙ sym (ap (λ (b : Bool). row_uses g (if b then record { place = words_after z changes y t - 1; indexes = indexes (held_after held changes) t } else record { place = z (place_of t) - 1; indexes = indexes held t }) cell) e)

  stays_same : (a b : ℕ) (used : ℕ → Bool) (needed : List ℕ) (some : Bool) → (some ≡ true → a ≡ b)
      → (some && fits g used needed (a - 1)) ≡ (some && fits g used needed (b - 1))
  stays_same a b used needed false same = refl
  stays_same a b used needed true same = ap (λ n. true && fits g used needed (n - 1)) (same refl)

  both_parts : (a b : Bool) → (a && b) ≡ true → a ≡ true
  both_parts true b e = refl
  both_parts false b e = e

  turn_from : (x z y : Reading) (held : Held) (changes : List Change) (s : ℕ) → SameFor (placing g) held x z → is_changed changes s ≡ true
      → IsPlaced g x held changes (words_after x changes y) s → IsPlaced g z held changes (words_after z changes y) s
  turn_from x z y held changes s same t is =
      let ux : ℕ → Bool = is_used g x held changes (words_after x changes y) s in
      let uz : ℕ → Bool = is_used g z held changes (words_after z changes y) s in
      let needed : List ℕ = indexes (held_after held changes) s in
      let some : Bool = has_index (held_after held changes) s in
      let stays : may_stay g x held changes (words_after x changes y) s ≡ may_stay g z held changes (words_after z changes y) s
      = stays_same (x (place_of s)) (z (place_of s)) ux needed (has_index held s) (λ h. same.words s h)
      ∙ ap (λ (u : ℕ → Bool). has_index held s && fits g u needed (z (place_of s) - 1)) (used_from x z y held changes s same) in
      let one : HasWord g (x (place_of s)) ux needed some (may_stay g x held changes (words_after x changes y) s) (words_after z changes y s)
      = subst (HasWord g (x (place_of s)) ux needed some (may_stay g x held changes (words_after x changes y) s))
      (words_changed x y changes s t ∙ sym (words_changed z y changes s t)) is in
      let two : HasWord g (x (place_of s)) uz needed some (may_stay g x held changes (words_after x changes y) s) (words_after z changes y s)
      = subst (λ (u : ℕ → Bool). HasWord g (x (place_of s)) u needed some (may_stay g x held changes (words_after x changes y) s) (words_after z changes y s))
      (used_from x z y held changes s same) one in
      let three : HasWord g (x (place_of s)) uz needed some (may_stay g z held changes (words_after z changes y) s) (words_after z changes y s)
      = subst (λ (b : Bool). HasWord g (x (place_of s)) uz needed some b (words_after z changes y s)) stays two in
      word_moves (x (place_of s)) (z (place_of s)) uz needed some (may_stay g z held changes (words_after z changes y) s) (words_after z changes y s)
      (λ e. same.words s (both_parts (has_index held s) (fits g uz needed (z (place_of s) - 1)) e)) three

  -- ---- placing determines the words

  pub words_one : (x y z : Reading) (held : Held) (changes : List Change) → Places g x held changes y → Places g x held changes z
      → (n s : ℕ) → s < n → words_after x changes y s ≡ words_after x changes z s
  words_one x y z held changes p q zero s below = absurd (omega arith)
  words_one x y z held changes p q (suc n) s below = by_cases (is_changed changes s)
      (λ t. (let wy : ℕ → ℕ = words_after x changes y in
      let wz : ℕ → ℕ = words_after x changes z in
      let used : is_used g x held changes wz s ≡ is_used g x held changes wy s
      = same_used x x held held changes changes wz wy s (λ k small apart cell. row (λ k less. words_one x y z held changes p q n k less) k cell (nat_lt k s) refl) in
      let other : HasWord g (x (place_of s)) (is_used g x held changes wy s) (indexes (held_after held changes) s) (has_index (held_after held changes) s)
      (may_stay g x held changes wy s) (wz s)
      = subst (λ (u : ℕ → Bool). HasWord g (x (place_of s)) u (indexes (held_after held changes) s) (has_index (held_after held changes) s)
      (has_index held s && fits g u (indexes (held_after held changes) s) (x (place_of s) - 1)) (wz s)) used (q.turns s t) in
      word_one (x (place_of s)) (is_used g x held changes wy s) (indexes (held_after held changes) s) (has_index (held_after held changes) s)
      (may_stay g x held changes wy s) (wy s) (wz s) (p.turns s t) other))
      (λ f. words_unchanged x y changes s f ∙ sym (words_unchanged x z changes s f))
    where
      row : ((k : ℕ) → k < n → words_after x changes y k ≡ words_after x changes z k) → (k cell : ℕ) (b : Bool) → nat_lt k s ≡ b
          → row_uses g (row_at x held changes (words_after x changes z) s k) cell ≡ row_uses g (row_at x held changes (words_after x changes y) s k) cell
      row lower k cell true e = ap (λ (w : ℕ). row_uses g (if nat_lt k s then record { place = w - 1; indexes = indexes (held_after held changes) k } else record { place = x (place_of k) - 1; indexes = indexes held k }) cell)
          (sym (lower k (let less : k < s = lt_tested k s e in omega (arith, less))))
      row lower k cell false e =
          ap (λ (b : Bool). row_uses g (if b then record { place = words_after x changes z k - 1; indexes = indexes (held_after held changes) k } else record { place = x (place_of k) - 1; indexes = indexes held k }) cell) e
          ∙ sym (ap (λ (b : Bool). row_uses g (if b then record { place = words_after x changes y k - 1; indexes = indexes (held_after held changes) k } else record { place = x (place_of k) - 1; indexes = indexes held k }) cell) e)

  cells_one : (words others : ℕ → ℕ) (held : Held) (y z : Reading) → ((s : ℕ) → words s ≡ others s) → AreCells g words held y → AreCells g others held z
      → (address : ℕ) → owns address ≡ true → y address ≡ z address
  cells_one words others held y z same cy cz address own = by_cases (y address == 0)
      (λ t. by_cases (z address == 0)
      (λ u. eqb-true (y address) 0 t ∙ sym (eqb-true (z address) 0 u))
      (λ f. (let u = cz.used address own (λ e. true≢false (sym (eq-eqb (z address) 0 e) ∙ f)) in
      at u.0 u.1 u.2 u.3 (ap (λ n. cell_at g (n - 1) u.1) (same u.0) ∙ u.4) u.4)))
      (λ f. (let u = cy.used address own (λ e. true≢false (sym (eq-eqb (y address) 0 e) ∙ f)) in
      at u.0 u.1 u.2 u.3 u.4 (ap (λ n. cell_at g (n - 1) u.1) (sym (same u.0)) ∙ u.4)))
    where
      at : (s class : ℕ) → class < 2048 → IsHeld held (single s class) → cell_at g (words s - 1) class ≡ address → cell_at g (others s - 1) class ≡ address
          → y address ≡ z address
      at s class below h e f = ap y (sym e) ∙ cy.set s class below h ∙ sym (cz.set s class below h) ∙ ap z f

  -- ---- what is shown after

  pub word_shown : (x y : Reading) (held : Held) (changes : List Change) (s : ℕ) → Stay (placing g) held changes x y
      → has_index (held_after held changes) s ≡ true → words_after x changes y s ≡ y (place_of s)
  word_shown x y held changes s stay some = by_cases (is_changed changes s)
      (λ t. words_changed x y changes s t)
      (λ f. words_unchanged x y changes s f ∙ sym (stay s f (sym (ap is_some (unchanged_indexes held changes s f)) ∙ some)))

  pub shown_after : (low : ℕ) (x y : Reading) (held : Held) (changes : List Change) → Shows g x held → 1 ≤ low → IsStageable low 1 held changes
      → Places g x held changes y → Stay (placing g) held changes x y → Shows g y (held_after held changes)
  shown_after low x y held changes sh some able pl stay = record {
    range = after_keeps IsInRange held changes sh.range (ranges low 1 changes able.each);
    one = after_keeps (λ q. arity_of_query q ≡ 1) held changes sh.one (ones low changes some able.each);
    body = body_after low 1 held changes sh.body able.each;
    room = λ s e. subst (HasRoom g) (word_shown x y held changes s stay e) (pl.room s e);
    cells = move_cells (words_after x changes y) (λ s. y (place_of s)) (held_after held changes) y y
        (λ s class below h. word_shown x y held changes s stay (has_index_of (held_after held changes) s class below h))
        (λ s class below h. owned_cell (words_after x changes y s) class (pl.room s (has_index_of (held_after held changes) s class below h)) below)
        (λ address t. refl) pl.cells;
  }

  way_by_prefix : (x : Reading) (s t n : ℕ) (c d : List ℕ) → s ≡ t → length c ≡ length d → 0 < n → take n c ≡ take n d → way_by g x s c ≡ way_by g x t d
  way_by_prefix x s t zero c d e l lt pre = absurd (omega arith)
  way_by_prefix x s t (suc n) [] [] e l lt pre = refl
  way_by_prefix x s t (suc n) [] (b ∷ bs) e l lt pre = absurd (omega arith)
  way_by_prefix x s t (suc n) (a ∷ as1) [] e l lt pre = absurd (omega arith)
  way_by_prefix x s t (suc n) (a ∷ as1) (b ∷ bs) e l lt pre =
      let same : a ≡ b = cc in
      ap (λ u. cell_at g (x (place_of u) - 1) a) e ∙ ap (λ c. cell_at g (x (place_of t) - 1) c) same

  pub marked : (x y : Reading) (held : Held) (changes : List Change) (s : ℕ) → Places g x held changes y → is_changed changes s ≡ true
      → IsMarked (placing g) (held_after held changes) y s
  marked x y held changes s pl t = by_cases (has_index (held_after held changes) s)
      (λ some. inl (
        some,
        (λ e. (let room : 0 < words_after x changes y s = (pl.room s some).some in
            let none : words_after x changes y s ≡ 0 = words_changed x y changes s t ∙ e in omega (arith, room, none))),
      ))
      (λ none. inr (
        (λ p. true≢false (sym p ∙ none)),
        sym (words_changed x y changes s t)
            ∙ subst (λ b. HasWord g (x (place_of s)) (is_used g x held changes (words_after x changes y) s) (indexes (held_after held changes) s) b
            (may_stay g x held changes (words_after x changes y) s) (words_after x changes y s)) none (pl.turns s t),
      ))

  pub placing_is_lawful : IsLawful (placing g)
  placing_is_lawful = record {
    owned_are_cells = λ address t. let o = owned address t in (omega (arith, o.0), omega (arith, o.1), inl (omega (arith, o.1)));
    blank_shows_none = record {
      range = λ q h. absurd (h refl);
      one = λ q h. absurd (h refl);
      body = λ q. tt;
      room = λ s e. absurd ((index_of none_held s e).1.1 refl);
      cells = record { set = λ s class below h. absurd (h refl); used = λ address t nz. absurd (nz refl) };
    };
    shown_elsewhere = λ x y held sh same. record {
      range = sh.range;
      one = sh.one;
      body = sh.body;
      room = λ s e. subst (HasRoom g) (same.words s e) (sh.room s e);
      cells = move_cells (λ s. x (place_of s)) (λ s. y (place_of s)) held x y
          (λ s class below h. same.words s (has_index_of held s class below h))
          (λ s class below h. owned_cell (x (place_of s)) class (sh.room s (has_index_of held s class below h)) below)
          same.owned sh.cells;
    };
    shown_in_range = λ x held q sh h. sh.range q h;
    held_is_answered = λ x held q sh h. held_answered x held q.selector q.classes sh h;
    rest_is_answered = λ x held q sh range few arity placed. answered x held q.selector q.classes sh range few placed;
    placed_is_held = λ held s p. (let found = index_of held s p in (single s found.0, found.1.1, refl));
    placed_by_own = λ held other s same p. sym (ap is_some (same_indexes held other s 2048 (λ class. same (single s class) refl))) ∙ p;
    placed_has_word = λ x held s sh p z. (let some : 0 < x (place_of s) = (sh.room s p).some in omega (arith, some, z));
    no_places = λ e held s p. true≢false e;
    marks = λ x y held changes s sh pl e t. marked x y held changes s pl t;
    placed_from = λ x z y held changes same pl. record {
      turns = λ s t. turn_from x z y held changes s same t (pl.turns s t);
      room = λ s some. subst (HasRoom g) (words_from x z y held changes s same some) (pl.room s some);
      cells = move_cells (words_after x changes y) (words_after z changes y) (held_after held changes) y y
          (λ s class below h. words_from x z y held changes s same (has_index_of (held_after held changes) s class below h))
          (λ s class below h. owned_cell (words_after x changes y s) class (pl.room s (has_index_of (held_after held changes) s class below h)) below)
          (λ address t. refl) pl.cells;
    };
    placed_at_set = λ x y z held changes pl same.
        (let words : (s : ℕ) → words_after x changes y s ≡ words_after x changes z s = (λ s. set_words x y z changes s (λ address t. same address (or_right (owns address) _ t))) in
        let is : words_after x changes y ≡ words_after x changes z = (λ i s. words s i) in
        record {
          turns = λ s t. subst (λ (w : ℕ → ℕ). IsPlaced g x held changes w s) is (pl.turns s t);
          room = λ s some. subst (HasRoom g) (words s) (pl.room s some);
          cells = move_cells (words_after x changes y) (words_after x changes z) (held_after held changes) y z (λ s class below h. words s)
              (λ s class below h. owned_cell (words_after x changes y s) class (pl.room s (has_index_of (held_after held changes) s class below h)) below)
              (λ address t. same address (or_left (owns address) _ t)) pl.cells;
        });
    determined = λ x y z held changes sh p q address e.
        (let words : (s : ℕ) → words_after x changes y s ≡ words_after x changes z s = (λ s. words_one x y z held changes p q (suc s) s (omega arith)) in
        by_cases (owns address)
        (λ own. cells_one (words_after x changes y) (words_after x changes z) (held_after held changes) y z words p.cells q.cells address own)
        (λ f. (let found = place_at_change changes address (elim (or_true (owns address) (is_changed_place changes address) e) [ inl t ↦ absurd (true≢false (sym t ∙ f)) | inr t ↦ t ]) in
        ap y (sym found.1.1) ∙ sym (words_changed x y changes found.0 found.1.0) ∙ words found.0 ∙ words_changed x z changes found.0 found.1.0 ∙ ap z found.1.1)));
    shown_after = λ low x y held changes sh some able pl stay. shown_after low x y held changes sh some able pl stay;
    used = λ x held address sh t nz. (let u = sh.cells.used address t nz in (single u.0 u.1, 1, u.3, omega arith, omega arith, u.4));
    way_by_prefix = λ x q r n sel ar lt pre. way_by_prefix x q.selector r.selector n q.classes r.classes sel ar lt pre;
  }
    where
      set_words : (x y z : Reading) (changes : List Change) (s : ℕ) → ((address : ℕ) → is_changed_place changes address ≡ true → y address ≡ z address)
          → words_after x changes y s ≡ words_after x changes z s
      set_words x y z changes s same = by_cases (is_changed changes s)
          (λ t. words_changed x y changes s t ∙ same (place_of s) (changed_place changes s ∙ t) ∙ sym (words_changed x z changes s t))
          (λ f. words_unchanged x y changes s f ∙ sym (words_unchanged x z changes s f))
