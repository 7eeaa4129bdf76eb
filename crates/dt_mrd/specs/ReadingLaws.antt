-- Laws of reading, and of rows.
use Rattle.std.proofs.Common.{◌≡◌, ◌≢◌, ◌==◌, ℕ, zero, suc, ◌+◌, ◌-◌, ◌*◌, ◌/◌, ◌%◌, ◌<◌, ◌≤◌, true, false, ◌&&◌, ◌||◌, if◌then◌else◌, List, [], ◌∷◌, ◌++◌, length, inl, inr, refl, sym, ap, subst, ◌∙◌, arith, take}
use Rattle.std.specs.Prelude.{nat_le, nat_lt}
use Rattle.std.proofs.lemmas.Bool.{and_parts, and_from, eqb-true, eq-eqb, true≢false}
use Rattle.std.proofs.lemmas.List.{append_assoc, length-append}
use Rattle.std.proofs.lemmas.List.Elements.{All-head}
use Rattle.dt_pages.specs.Reading.{Reading}
use Rattle.dt_scratch.specs.declared.reply.Answer.{Answer}
use Rattle.dt_scratch.specs.declared.reply.Answer.TheVariants.{Method, NotUnderstood, Ambiguous}
use Rattle.dt_cells.specs.Cell.{answer_of_code}
use Rattle.dt_cells.specs.Held.{Held, IsHeld, HasBodyInRange, Row}
use Rattle.dt_cells.specs.HeldLaws.{by_cases, or_true, if_true, if_false}
use Rattle.dt_placing.specs.Rows.{is_understood}
use Rattle.dt_placing.specs.RowsLaws.{understood, not_understood, All-parts}
use Rattle.dt_placing.specs.PlacingLaws.{le_test, lt_test, lt_tested}
use Rattle.dt_mrd.specs.Rows.{sent, next_row, HasIndex, IsRow, is_below, comes_before}
use Rattle.dt_mrd.specs.Reading.{owns, cell_at, code_at, code_along, way_along, tag_read}
use Rattle.dt_mrd.specs.Placing.{IsTabled, HasRoom, code_of_answer}

apart : (m n : ℕ) → m ≢ n → (m == n) ≡ false
apart m n h = by_cases (m == n) (λ t. absurd (h (eqb-true m n t))) (λ f. f)

-- ---- codes

-- a cell that is read is owned
pub owned_if_read : (tag class : ℕ) → nat_lt (cell_at tag class) 134217728 ≡ true → owns (cell_at tag class) ≡ true
owned_if_read tag class e = and_from (nat_le 67108864 (cell_at tag class)) (nat_lt (cell_at tag class) 134217728)
    (le_test 67108864 (67108864 + (tag - 1 + class)) (omega arith)) e

pub code_snoc : (x : Reading) (code : ℕ) (classes : List ℕ) (class : ℕ)
    → code_along x code (classes ++ (class ∷ [])) ≡ code_at x (code_along x code classes) class
code_snoc x code [] class = refl
code_snoc x code (c ∷ cs) class = code_snoc x (code_at x code c) cs class

-- the tag of the next row is the code of the cell that leads to it
pub tag_next : (x : Reading) (row : Row) (class : ℕ) → tag_read x (next_row row class) ≡ code_at x (tag_read x row) class
tag_next x row class = code_snoc x (x (8192 + row.0)) row.1 class

code_same : (x z : Reading) → ((address : ℕ) → owns address ≡ true → x address ≡ z address) → (code class : ℕ) → code_at x code class ≡ code_at z code class
code_same x z same zero class = refl
code_same x z same (suc place) class = by_cases (nat_lt (cell_at (suc place) class) 134217728)
    (λ t. ap (λ w. if nat_lt (cell_at (suc place) class) 134217728 && (w / 4294967296 == suc place) then w % 4294967296 else 0)
    (same (cell_at (suc place) class) (owned_if_read (suc place) class t)))
    (λ f. ap (λ b. if b && (x (cell_at (suc place) class) / 4294967296 == suc place) then x (cell_at (suc place) class) % 4294967296 else 0) f
    ∙ sym (ap (λ b. if b && (z (cell_at (suc place) class) / 4294967296 == suc place) then z (cell_at (suc place) class) % 4294967296 else 0) f))

pub along_same : (x z : Reading) → ((address : ℕ) → owns address ≡ true → x address ≡ z address) → (code : ℕ) (classes : List ℕ)
    → code_along x code classes ≡ code_along z code classes
along_same x z same code [] = refl
along_same x z same code (c ∷ cs) = along_same x z same (code_at x code c) cs ∙ ap (λ k. code_along z k cs) (code_same x z same code c)

-- no code leads nowhere
pub along_none : (x : Reading) (classes : List ℕ) → code_along x 0 classes ≡ 0
along_none x [] = refl
along_none x (c ∷ cs) = along_none x cs

pub room_some : (tag : ℕ) → HasRoom tag → tag ≢ 0
room_some tag room e = let some : 0 < tag = room.some in omega (arith, some, e)

pub owned_cell : (tag class : ℕ) → HasRoom tag → class < 2048 → owns (cell_at tag class) ≡ true
owned_cell tag class room below =
    let within : tag - 1 < 67106816 = room.within in
    owned_if_read tag class (lt_test (67108864 + (tag - 1 + class)) 134217728 (omega (arith, within, below)))

-- the code of a row's own cell is read
pub code_read : (x : Reading) (tag class code : ℕ) → HasRoom tag → class < 2048 → code < 4294967296
    → x (cell_at tag class) ≡ tag * 4294967296 + code → code_at x tag class ≡ code
code_read x zero class code room below small is = absurd (room_some 0 room refl)
code_read x (suc place) class code room below small is =
    let within : suc place - 1 < 67106816 = room.within in
    let tagged : (suc place * 4294967296 + code) / 4294967296 ≡ suc place = omega (arith, small) in
    let coded : (suc place * 4294967296 + code) % 4294967296 ≡ code = omega (arith, small) in
    if_true (nat_lt (cell_at (suc place) class) 134217728 && (x (cell_at (suc place) class) / 4294967296 == suc place))
    (x (cell_at (suc place) class) % 4294967296) 0
    (and_from (nat_lt (cell_at (suc place) class) 134217728) (x (cell_at (suc place) class) / 4294967296 == suc place)
    (lt_test (67108864 + (suc place - 1 + class)) 134217728 (omega (arith, within, below)))
    (eq-eqb (x (cell_at (suc place) class) / 4294967296) (suc place) (ap (λ w. w / 4294967296) is ∙ tagged)))
    ∙ ap (λ w. w % 4294967296) is ∙ coded

-- a code that is read is that of an owned cell with this tag
pub record IsRead (x : Reading) (tag class : ℕ) : Type 0 where
  pub owned : owns (cell_at tag class) ≡ true
  pub tagged : x (cell_at tag class) / 4294967296 ≡ tag
  pub some : x (cell_at tag class) ≢ 0

pub code_is_read : (x : Reading) (tag class : ℕ) → code_at x tag class ≢ 0 → IsRead x tag class
code_is_read x zero class some = absurd (some refl)
code_is_read x (suc place) class some = by_cases (nat_lt (cell_at (suc place) class) 134217728 && (x (cell_at (suc place) class) / 4294967296 == suc place))
    (λ t. (let parts = and_parts (nat_lt (cell_at (suc place) class) 134217728) (x (cell_at (suc place) class) / 4294967296 == suc place) t in
    let tag : x (cell_at (suc place) class) / 4294967296 ≡ suc place = eqb-true (x (cell_at (suc place) class) / 4294967296) (suc place) parts.1 in
    record {
      owned = owned_if_read (suc place) class parts.0;
      tagged = tag;
      some = λ z. (let none : 0 / 4294967296 ≡ suc place = sym (ap (λ w. w / 4294967296) z) ∙ tag in omega (arith, none));
    }))
    (λ f. absurd (some (if_false (nat_lt (cell_at (suc place) class) 134217728 && (x (cell_at (suc place) class) / 4294967296 == suc place))
    (x (cell_at (suc place) class) % 4294967296) 0 f)))

-- ---- answers

pub answer_read : (v : Answer) → HasBodyInRange v → answer_of_code (code_of_answer v) ≡ v
answer_read NotUnderstood h = refl
answer_read Ambiguous h = refl
answer_read (Method b) h = let below : b < 65536 = h in
    if_false (b + 2 == 0) NotUnderstood _ (apart (b + 2) 0 (λ e. omega (arith, e)))
    ∙ if_false (b + 2 == 1) Ambiguous _ (apart (b + 2) 1 (λ e. omega (arith, e)))
    ∙ if_true (nat_le (b + 2) 65537) (Method (b + 2 - 2)) NotUnderstood (le_test (b + 2) 65537 (omega arith))
    ∙ ap Method (omega arith)

pub small_answer : (v : Answer) → HasBodyInRange v → code_of_answer v < 4294967296
small_answer NotUnderstood h = omega arith
small_answer Ambiguous h = omega arith
small_answer (Method b) h = let below : b < 65536 = h in omega arith

-- ---- rows

pub row_of : (held : Held) (row : Row) (class : ℕ) → HasIndex held row class → IsRow held row
row_of held row class has = (class, has)

-- where a selector has a row, it has that of the empty prefix
pub root_of : (held : Held) (s : ℕ) (p : List ℕ) → IsRow held (s, p) → IsRow held (s, [])
root_of held s [] is = is
root_of held s (c ∷ cs) is = (c, (cs ++ (is.0 ∷ is.1.0), is.1.1))

-- a row of a longer prefix has its last class as an index of the one before
pub index_before : (held : Held) (s : ℕ) (p : List ℕ) (class : ℕ) → IsRow held (s, p ++ (class ∷ [])) → HasIndex held (s, p) class
index_before held s p class is =
    (is.0 ∷ is.1.0, subst (λ (l : List ℕ). IsHeld held (sent s l)) (append_assoc p (class ∷ []) (is.0 ∷ is.1.0)) is.1.1)

-- an index leads to a row, or ends a held query
pub next_is_row : (held : Held) (s : ℕ) (p : List ℕ) (class : ℕ) → HasIndex held (s, p) class → is_understood (held (sent s (p ++ (class ∷ [])))) ≡ false
    → IsRow held (s, p ++ (class ∷ []))
next_is_row held s p class has none = by_rest has.0 has.1
  where
    by_rest : (rest : List ℕ) → IsHeld held (sent s (p ++ (class ∷ rest))) → IsRow held (s, p ++ (class ∷ []))
    by_rest [] h = absurd (true≢false (sym (understood (held (sent s (p ++ (class ∷ [])))) h) ∙ none))
    by_rest (c ∷ cs) h = (c, (cs, subst (λ (l : List ℕ). IsHeld held (sent s l)) (sym (append_assoc p (class ∷ []) (c ∷ cs))) h))

-- and never both
pub row_not_held : (held : Held) (s : ℕ) (p : List ℕ) (class : ℕ) → IsTabled held → IsRow held (s, p ++ (class ∷ []))
    → is_understood (held (sent s (p ++ (class ∷ [])))) ≡ false
row_not_held held s p class tabled is = by_cases (is_understood (held (sent s (p ++ (class ∷ [])))))
    (λ t. (let same : length (p ++ (class ∷ [])) ≡ length ((p ++ (class ∷ [])) ++ (is.0 ∷ is.1.0))
    = tabled.one_arity (sent s (p ++ (class ∷ []))) (sent s ((p ++ (class ∷ [])) ++ (is.0 ∷ is.1.0)))
    (not_understood (held (sent s (p ++ (class ∷ [])))) t) is.1.1 refl in
    let more : length ((p ++ (class ∷ [])) ++ (is.0 ∷ is.1.0)) ≡ length (p ++ (class ∷ [])) + suc (length is.1.0)
    = length-append (p ++ (class ∷ [])) (is.0 ∷ is.1.0) in
    absurd (omega (arith, same, more))))
    (λ f. f)

pub index_in_range : (held : Held) (s : ℕ) (p : List ℕ) (class : ℕ) → IsTabled held → HasIndex held (s, p) class → class < 2048
index_in_range held s p class tabled has =
    All-head (λ c. c < 2048) class has.0 (All-parts (λ c. c < 2048) p (class ∷ has.0) (tabled.range (sent s (p ++ (class ∷ has.0))) has.1).classes).1

-- a row's prefix is shorter than four classes
pub row_is_short : (held : Held) (s : ℕ) (p : List ℕ) → IsTabled held → IsRow held (s, p) → length p < 4
row_is_short held s p tabled is =
    let few : length (p ++ (is.0 ∷ is.1.0)) ≤ 4 = tabled.few (sent s (p ++ (is.0 ∷ is.1.0))) is.1.1 in
    let more : length (p ++ (is.0 ∷ is.1.0)) ≡ length p + suc (length is.1.0) = length-append p (is.0 ∷ is.1.0) in
    omega (arith, few, more)

-- ---- where a query is read

pub way_of : (x : Reading) (code : ℕ) (p : List ℕ) (class : ℕ) (rest : List ℕ)
    → way_along x code (p ++ (class ∷ rest)) (suc (length p)) ≡ cell_at (code_along x code p) class
way_of x code [] class rest = refl
way_of x code (c ∷ cs) class rest = way_of x (code_at x code c) cs class rest

pub way_same : (x : Reading) (code : ℕ) (c d : List ℕ) (n : ℕ) → length c ≡ length d → 0 < n → take n c ≡ take n d → way_along x code c n ≡ way_along x code d n
way_same x code c d zero l some pre = absurd (omega arith)
way_same x code [] [] (suc n) l some pre = refl
way_same x code [] (b ∷ bs) (suc n) l some pre = absurd (omega arith)
way_same x code (a ∷ as1) [] (suc n) l some pre = absurd (omega arith)
way_same x code (a ∷ as1) (b ∷ bs) (suc zero) l some pre =
    let same : a ≡ b = cc in ap (cell_at code) same
way_same x code (a ∷ as1) (b ∷ bs) (suc (suc n)) l some pre =
    let same : a ≡ b = cc in
    let rest : take (suc n) as1 ≡ take (suc n) bs = cc in
    ap (λ c. way_along x (code_at x code c) as1 (suc n)) same
    ∙ way_same x (code_at x code b) as1 bs (suc n) (omega arith) (omega arith) rest

-- ---- the order of placing is one by which to reason

-- by the head of a list that comes before another
lower_list : (P : List ℕ → Type 0) (n c : ℕ) (l : List ℕ) → ((d : ℕ) → d < c → (ds : List ℕ) → length ds ≡ n → P (d ∷ ds))
    → ((m : List ℕ) → length m ≡ n → is_below m l ≡ true → P (c ∷ m)) → (m : List ℕ) → length m ≡ suc n → is_below m (c ∷ l) ≡ true → P m
lower_list P n c l heads tails [] g b = absurd (omega (arith, g))
lower_list P n c l heads tails (d ∷ ds) g b = elim (or_true (nat_lt d c) ((d == c) && is_below ds l) b) [
  | inl less ↦ heads d (lt_tested d c less) ds (omega (arith, g))
  | inr both ↦ (let parts = and_parts (d == c) (is_below ds l) both in
      let same : d ≡ c = eqb-true d c parts.0 in
      subst (λ h. P (h ∷ ds)) (sym same) (tails ds (omega (arith, g)) parts.1))
]

lists_from : (n : ℕ) (P : List ℕ → Type 0)
    → ((Q : List ℕ → Type 0) → ((l : List ℕ) → length l ≡ n → ((m : List ℕ) → length m ≡ n → is_below m l ≡ true → Q m) → Q l) → (l : List ℕ) → length l ≡ n → Q l)
    → ((l : List ℕ) → length l ≡ suc n → ((m : List ℕ) → length m ≡ suc n → is_below m l ≡ true → P m) → P l)
    → (k c : ℕ) → c < k → (cs : List ℕ) → length cs ≡ n → P (c ∷ cs)
lists_from n P shorter step zero c below cs e = absurd (omega arith)
lists_from n P shorter step (suc k) c below cs e =
    shorter (λ l. P (c ∷ l))
    (λ l f lower. step (c ∷ l) (ap suc f)
    (lower_list P n c l (λ d small ds g. lists_from n P shorter step k d (omega (arith, small, below)) ds g) lower)) cs e

pub by_lists : (n : ℕ) (P : List ℕ → Type 0)
    → ((l : List ℕ) → length l ≡ n → ((m : List ℕ) → length m ≡ n → is_below m l ≡ true → P m) → P l)
    → (l : List ℕ) → length l ≡ n → P l
by_lists zero P step [] e = step [] e (λ m g b. none m b)
  where
    none : (m : List ℕ) → is_below m [] ≡ true → P m
    none [] b = absurd (true≢false (sym b))
    none (d ∷ ds) b = absurd (true≢false (sym b))
by_lists zero P step (c ∷ cs) e = absurd (omega arith)
by_lists (suc n) P step [] e = absurd (omega arith)
by_lists (suc n) P step (c ∷ cs) e = lists_from n P (λ Q. by_lists n Q) step (suc c) c (omega arith) cs (omega (arith, e))

-- of the rows of a selector, from those of the longest prefixes on
rows_from : (P : List ℕ → Type 0) → ((p : List ℕ) → 4 ≤ length p → P p)
    → ((p : List ℕ) → ((q : List ℕ) → length p < length q → P q) → ((q : List ℕ) → length q ≡ length p → is_below q p ≡ true → P q) → P p)
    → (k : ℕ) (p : List ℕ) → 4 ≤ length p + k → P p
rows_from P long step zero p enough = long p (omega (arith, enough))
rows_from P long step (suc k) p enough = by_lists (length p) P
    (λ l e lower. step l (λ q more. rows_from P long step k q (omega (arith, e, more, enough))) (λ q same below. lower q (same ∙ e) below))
    p refl

-- by the selector and the prefix of a row that comes before another
lower_row : (P : ℕ → List ℕ → Type 0) (s : ℕ) (l : List ℕ) → ((t : ℕ) → t < s → (q : List ℕ) → P t q)
    → ((q : List ℕ) → length l < length q → P s q) → ((q : List ℕ) → length q ≡ length l → is_below q l ≡ true → P s q)
    → (t : ℕ) (q : List ℕ) → comes_before (t, q) (s, l) ≡ true → P t q
lower_row P s l selectors longer lower t q b = elim (or_true (nat_lt t s) _ b) [
  | inl less ↦ selectors t (lt_tested t s less) q
  | inr both ↦ (let parts = and_parts (t == s) (nat_lt (length l) (length q) || ((length l == length q) && is_below q l)) both in
      subst (λ u. P u q) (sym (eqb-true t s parts.0)) (elim (or_true (nat_lt (length l) (length q)) ((length l == length q) && is_below q l) parts.1) [
        | inl less ↦ longer q (lt_tested (length l) (length q) less)
        | inr same ↦ (let halves = and_parts (length l == length q) (is_below q l) same in lower q (sym (eqb-true (length l) (length q) halves.0)) halves.1)
      ]))
]

selectors_from : (P : ℕ → List ℕ → Type 0) → ((s : ℕ) (p : List ℕ) → 4 ≤ length p → P s p)
    → ((s : ℕ) (p : List ℕ) → ((t : ℕ) (q : List ℕ) → comes_before (t, q) (s, p) ≡ true → P t q) → P s p)
    → (k s : ℕ) → s < k → (p : List ℕ) → P s p
selectors_from P long step zero s below p = absurd (omega arith)
selectors_from P long step (suc k) s below p = rows_from (P s) (long s)
    (λ l longer lower. step s l (lower_row P s l (λ t small q. selectors_from P long step k t (omega (arith, small, below)) q) longer lower)) 4 p (omega arith)

-- what holds of every row of four classes or more, and of a row where it holds of those that come before it, holds of all
pub by_order : (P : ℕ → List ℕ → Type 0) → ((s : ℕ) (p : List ℕ) → 4 ≤ length p → P s p)
    → ((s : ℕ) (p : List ℕ) → ((t : ℕ) (q : List ℕ) → comes_before (t, q) (s, p) ≡ true → P t q) → P s p)
    → (s : ℕ) (p : List ℕ) → P s p
by_order P long step s p = selectors_from P long step (suc s) s (omega arith) p
