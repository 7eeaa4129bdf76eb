-- Multiple row displacement is a lawful kind.
use Rattle.std.proofs.Common.{◌≡◌, ◌≢◌, ◌==◌, ℕ, suc, ◌+◌, ◌-◌, ◌*◌, ◌/◌, ◌<◌, ◌≤◌, true, false, List, [], ◌∷◌, ◌++◌, length, ◌⊎◌, inl, inr, refl, sym, ap, subst, ◌∙◌, arith}
use Rattle.std.specs.Prelude.{nat_lt}
use Rattle.std.proofs.lemmas.Bool.{or_left, or_right, eqb-true, eq-eqb, true≢false}
use Rattle.std.proofs.lemmas.List.{append_assoc, append-nil, length-append}
use Rattle.dt_pages.specs.Reading.{Reading}
use Rattle.dt_scratch.specs.Query.{Query, arity_of_query}
use Rattle.dt_scratch.specs.declared.reply.Answer.{Answer}
use Rattle.dt_scratch.specs.declared.reply.Answer.TheVariants.{NotUnderstood}
use Rattle.dt_scratch.specs.declared.reply.Change.{Change}
use Rattle.dt_cells.specs.Regions.{place_of}
use Rattle.dt_cells.specs.Cell.{answer_of_code}
use Rattle.dt_cells.specs.Held.{Held, IsHeld, HasArityOf, Row, held_after, is_changed, is_changed_place}
use Rattle.dt_cells.specs.HeldLaws.{by_cases, or_true, if_true, if_false, unchanged_after, changed_place}
use Rattle.dt_cells.specs.Kind.{IsLawful, SameFor, Stay, IsMarked, sets}
use Rattle.dt_placing.specs.Rows.{is_understood}
use Rattle.dt_placing.specs.RowsLaws.{understood, not_understood}
use Rattle.dt_placing.specs.PlacingLaws.{unheld, lt_tested}
use Rattle.dt_mrd.specs.Rows.{sent, root, HasIndex, IsRow, comes_before}
use Rattle.dt_mrd.specs.Reading.{owns, cell_at, code_at, code_along, part_by, way_along, tag_read}
use Rattle.dt_mrd.specs.Placing.{IsTabled, HasRoom, code_of_answer, code_of, AreCells, Shows, Rows, HasTag, HasCell, Fits, FitsAlone, IsLowestTag, MayStay, IsPlaced, HasPlaceWord, rows_of, Places, mrd}
use Rattle.dt_mrd.specs.ReadingLaws.{along_none, along_same, tag_next, owned_cell, code_read, IsRead, code_is_read, room_some, answer_read, small_answer, row_of, root_of, index_before, next_is_row, row_not_held, index_in_range, row_is_short, way_of, way_same, by_order}

-- ---- codes

pub code_moves : (tags others : Row → ℕ) (held : Held) → ((row : Row) → IsRow held row → tags row ≡ others row) → (s : ℕ) (p : List ℕ) (class : ℕ)
    → HasIndex held (s, p) class → code_of held tags (s, p) class ≡ code_of held others (s, p) class
code_moves tags others held same s p class has =
    let v : Answer = held (sent s (p ++ (class ∷ []))) in
    by_cases (is_understood v)
    (λ t. if_true (is_understood v) (code_of_answer v) (tags (s, p ++ (class ∷ []))) t
    ∙ sym (if_true (is_understood v) (code_of_answer v) (others (s, p ++ (class ∷ []))) t))
    (λ f. if_false (is_understood v) (code_of_answer v) (tags (s, p ++ (class ∷ []))) f
    ∙ same (s, p ++ (class ∷ [])) (next_is_row held s p class has f)
    ∙ sym (if_false (is_understood v) (code_of_answer v) (others (s, p ++ (class ∷ []))) f))

pub small_code : (tags : Row → ℕ) (held : Held) → IsTabled held → ((row : Row) → IsRow held row → HasRoom (tags row)) → (s : ℕ) (p : List ℕ) (class : ℕ)
    → HasIndex held (s, p) class → code_of held tags (s, p) class < 4294967296
small_code tags held tabled room s p class has =
    let v : Answer = held (sent s (p ++ (class ∷ []))) in
    by_cases (is_understood v)
    (λ t. subst (λ n. n < 4294967296) (sym (if_true (is_understood v) (code_of_answer v) (tags (s, p ++ (class ∷ []))) t))
    (small_answer v (tabled.body (sent s (p ++ (class ∷ []))))))
    (λ f. subst (λ n. n < 4294967296) (sym (if_false (is_understood v) (code_of_answer v) (tags (s, p ++ (class ∷ []))) f))
    (let within : tags (s, p ++ (class ∷ [])) - 1 < 67106816 = (room (s, p ++ (class ∷ [])) (next_is_row held s p class has f)).within in omega (arith, within)))

-- ---- cells under other tags, in another reading

pub move_cells : (tags others : Row → ℕ) (held : Held) (x y : Reading) → ((row : Row) → IsRow held row → tags row ≡ others row)
    → ((row : Row) (class : ℕ) → HasIndex held row class → owns (cell_at (tags row) class) ≡ true)
    → ((address : ℕ) → owns address ≡ true → x address ≡ y address) → AreCells tags held x → AreCells others held y
move_cells tags others held x y same own is cells = record {
  set = λ row class has. ap (λ n. y (cell_at n class)) (sym (same row (row_of held row class has)))
      ∙ sym (is (cell_at (tags row) class) (own row class has)) ∙ cells.set row class has
      ∙ ap (λ n. n * 4294967296 + code_of held tags row class) (same row (row_of held row class has))
      ∙ ap (λ n. others row * 4294967296 + n) (code_moves tags others held same row.0 row.1 class has);
  used = λ address t nz. (let u = cells.used address t (λ z. nz (sym (is address t) ∙ z)) in
      (u.0, u.1, u.2, ap (λ n. cell_at n u.1) (sym (same u.0 (row_of held u.0 u.1 u.2))) ∙ u.3));
}

own_cells : (tags : Row → ℕ) (held : Held) → IsTabled held → ((row : Row) → IsRow held row → HasRoom (tags row))
    → (row : Row) (class : ℕ) → HasIndex held row class → owns (cell_at (tags row) class) ≡ true
own_cells tags held tabled room row class has = owned_cell (tags row) class (room row (row_of held row class has)) (index_in_range held row.0 row.1 class tabled has)

-- ---- what is read

-- a held query is read
pub read_held : (x : Reading) (held : Held) → Shows x held → (s : ℕ) (rest p : List ℕ) (class : ℕ) → IsHeld held (sent s (p ++ (class ∷ rest)))
    → answer_of_code (code_along x (tag_read x (s, p)) (class ∷ rest)) ≡ held (sent s (p ++ (class ∷ rest)))
read_held x held sh s [] p class h =
    let v : Answer = held (sent s (p ++ (class ∷ []))) in
    let tag : ℕ = tag_read x (s, p) in
    let has : HasIndex held (s, p) class = ([], h) in
    let cell : x (cell_at tag class) ≡ tag * 4294967296 + code_of_answer v
    = sh.cells.set (s, p) class has ∙ ap (λ c. tag * 4294967296 + c) (if_true (is_understood v) (code_of_answer v) (tag_read x (s, p ++ (class ∷ []))) (understood v h)) in
    ap answer_of_code (code_read x tag class (code_of_answer v) (sh.room (s, p) (row_of held (s, p) class has)) (index_in_range held s p class sh.tabled has)
    (small_answer v (sh.tabled.body (sent s (p ++ (class ∷ []))))) cell)
    ∙ answer_read v (sh.tabled.body (sent s (p ++ (class ∷ []))))
read_held x held sh s (c ∷ cs) p class h =
    ap (λ k. answer_of_code (code_along x k (c ∷ cs))) (sym (tag_next x (s, p) class))
    ∙ read_held x held sh s cs (p ++ (class ∷ [])) c (subst (λ (l : List ℕ). IsHeld held (sent s l)) (sym (append_assoc p (class ∷ []) (c ∷ cs))) h)
    ∙ ap (λ (l : List ℕ). held (sent s l)) (append_assoc p (class ∷ []) (c ∷ cs))

-- where a row has a cell with its tag for a class, the class is an index of it
pub met_index : (x : Reading) (held : Held) → Shows x held → (s : ℕ) (p : List ℕ) (class : ℕ) → IsRow held (s, p)
    → code_at x (tag_read x (s, p)) class ≢ 0 → HasIndex held (s, p) class
met_index x held sh s p class is some =
    let tag : ℕ = tag_read x (s, p) in
    let read : IsRead x tag class = code_is_read x tag class some in
    let u = sh.cells.used (cell_at tag class) read.owned read.some in
    let word : x (cell_at tag class) ≡ tag_read x u.0 * 4294967296 + code_of held (tag_read x) u.0 u.1 = ap x (sym u.3) ∙ sh.cells.set u.0 u.1 u.2 in
    let small : code_of held (tag_read x) u.0 u.1 < 4294967296 = small_code (tag_read x) held sh.tabled sh.room u.0.0 u.0.1 u.1 u.2 in
    let split : (tag_read x u.0 * 4294967296 + code_of held (tag_read x) u.0 u.1) / 4294967296 ≡ tag_read x u.0 = omega (arith, small) in
    let tags : tag_read x u.0 ≡ tag = sym split ∙ ap (λ w. w / 4294967296) (sym word) ∙ read.tagged in
    let row : u.0 ≡ (s, p) = sh.apart u.0 (s, p) (row_of held u.0 u.1 u.2) is tags in
    let at : 67108864 + (tag_read x u.0 - 1 + u.1) ≡ 67108864 + (tag - 1 + class) = u.3 in
    let one : u.1 ≡ class = omega (arith, at, tags) in
    subst (λ c. HasIndex held (s, p) c) one (subst (λ (r : Row). HasIndex held r u.1) row u.2)

some_code : (x : Reading) (code : ℕ) (classes : List ℕ) → is_understood (answer_of_code (code_along x code classes)) ≡ true → code ≢ 0
some_code x code classes e z =
    let none : is_understood (answer_of_code (code_along x code classes)) ≡ false
    = ap (λ c. is_understood (answer_of_code (code_along x c classes))) z ∙ ap (λ c. is_understood (answer_of_code c)) (along_none x classes) in
    true≢false (sym e ∙ none)

-- a query of the arity of its selector that is read is held
pub read_is_held : (x : Reading) (held : Held) → Shows x held → (s : ℕ) (rest p : List ℕ) (class : ℕ) → IsRow held (s, p)
    → ((r : Query) → IsHeld held r → r.selector ≡ s → length r.classes ≡ length (p ++ (class ∷ rest)))
    → is_understood (answer_of_code (code_along x (tag_read x (s, p)) (class ∷ rest))) ≡ true → IsHeld held (sent s (p ++ (class ∷ rest)))
read_is_held x held sh s [] p class is arity e =
    let has : HasIndex held (s, p) class = met_index x held sh s p class is (some_code x (code_at x (tag_read x (s, p)) class) [] e) in
    by_rest has.0 has.1 (arity (sent s (p ++ (class ∷ has.0))) has.1 refl)
  where
    by_rest : (rest : List ℕ) → IsHeld held (sent s (p ++ (class ∷ rest))) → length (p ++ (class ∷ rest)) ≡ length (p ++ (class ∷ [])) → IsHeld held (sent s (p ++ (class ∷ [])))
    by_rest [] h l = h
    by_rest (c ∷ cs) h l = absurd (let one = length-append p (class ∷ []) in let more = length-append p (class ∷ c ∷ cs) in omega (arith, l, one, more))
read_is_held x held sh s (c ∷ cs) p class is arity e =
    let has : HasIndex held (s, p) class = met_index x held sh s p class is (some_code x (code_at x (tag_read x (s, p)) class) (c ∷ cs) e) in
    let row : IsRow held (s, p ++ (class ∷ [])) = by_rest has.0 has.1 (arity (sent s (p ++ (class ∷ has.0))) has.1 refl) in
    let assoc : (p ++ (class ∷ [])) ++ (c ∷ cs) ≡ p ++ (class ∷ c ∷ cs) = append_assoc p (class ∷ []) (c ∷ cs) in
    subst (λ (l : List ℕ). IsHeld held (sent s l)) assoc
    (read_is_held x held sh s cs (p ++ (class ∷ [])) c row
    (λ r h same. arity r h same ∙ ap length (sym assoc))
    (ap (λ k. is_understood (answer_of_code (code_along x k (c ∷ cs)))) (tag_next x (s, p) class) ∙ e))
  where
    by_rest : (rest : List ℕ) → IsHeld held (sent s (p ++ (class ∷ rest))) → length (p ++ (class ∷ rest)) ≡ length (p ++ (class ∷ c ∷ cs)) → IsRow held (s, p ++ (class ∷ []))
    by_rest [] h l = absurd (let one = length-append p (class ∷ []) in let more = length-append p (class ∷ c ∷ cs) in omega (arith, l, one, more))
    by_rest (d ∷ ds) h l = (d, (ds, subst (λ (m : List ℕ). IsHeld held (sent s m)) (sym (append_assoc p (class ∷ []) (d ∷ ds))) h))

held_answered : (x : Reading) (held : Held) (s : ℕ) (classes : List ℕ) → Shows x held → IsHeld held (sent s classes) → part_by x s classes ≡ held (sent s classes)
held_answered x held s [] sh h = absurd (let f : 1 ≤ 0 = sh.tabled.some (sent s []) h in omega (arith, f))
held_answered x held s (class ∷ rest) sh h = read_held x held sh s rest [] class h

rest_answered : (x : Reading) (held : Held) (s : ℕ) (classes : List ℕ) → Shows x held → HasArityOf held (sent s classes)
    → IsRow held (root s) ⊎ (x (place_of s) ≡ 0) → is_understood (held (sent s classes)) ≡ false → part_by x s classes ≡ NotUnderstood
rest_answered x held s [] sh arity placed none = refl
rest_answered x held s (class ∷ rest) sh arity placed none =
    by_cases (is_understood (part_by x s (class ∷ rest)))
    (λ t. absurd (elim placed [
      | inl is ↦ read_is_held x held sh s rest [] class is arity t (unheld (held (sent s (class ∷ rest))) none)
      | inr z ↦ some_code x (x (place_of s)) (class ∷ rest) t z
    ]))
    (λ f. unheld (part_by x s (class ∷ rest)) f)

answered : (x : Reading) (held : Held) (q : Query) → Shows x held → HasArityOf held q → IsRow held (root q.selector) ⊎ (x (place_of q.selector) ≡ 0)
    → part_by x q.selector q.classes ≡ held q
answered x held q sh arity placed = by_cases (is_understood (held q))
    (λ t. held_answered x held q.selector q.classes sh (not_understood (held q) t))
    (λ f. rest_answered x held q.selector q.classes sh arity placed f ∙ sym (unheld (held q) f))

-- ---- in another reading with the same words where this kind looks

pub tag_elsewhere : (x y : Reading) (held : Held) → SameFor mrd held x y → (row : Row) → IsRow held row → tag_read x row ≡ tag_read y row
tag_elsewhere x y held same row is =
    along_same x y same.owned (x (place_of row.0)) row.1 ∙ ap (λ w. code_along y w row.1) (same.words row.0 (root_of held row.0 row.1 is))

pub shown_elsewhere : (x y : Reading) (held : Held) → Shows x held → SameFor mrd held x y → Shows y held
shown_elsewhere x y held sh same = record {
  tabled = sh.tabled;
  room = λ row is. subst HasRoom (tag_elsewhere x y held same row is) (sh.room row is);
  apart = λ row other is has e. sh.apart row other is has (tag_elsewhere x y held same row is ∙ e ∙ sym (tag_elsewhere x y held same other has));
  cells = move_cells (tag_read x) (tag_read y) held x y (tag_elsewhere x y held same) (own_cells (tag_read x) held sh.tabled sh.room) same.owned sh.cells;
}

-- ---- the turns, where rows have the same tags

abbrev rows : Held → Held → (Row → ℕ) → (Row → ℕ) → Rows
rows held next before after = record { held = held; next = next; before = before; after = after }

-- rows have the same tags when the turn of a row comes
pub record SameTags (held next : Held) (turn : Row) (b a c d : Row → ℕ) : Type 0 where
  pub before : (row : Row) → IsRow held row → b row ≡ c row
  pub after : (row : Row) → comes_before row turn ≡ true → IsRow next row → a row ≡ d row

same_back : (held next : Held) (turn : Row) (b a c d : Row → ℕ) → SameTags held next turn b a c d → SameTags held next turn c d b a
same_back held next turn b a c d same = record {
  before = λ row is. sym (same.before row is);
  after = λ row e is. sym (same.after row e is);
}

tag_moves : (held next : Held) (turn : Row) (b a c d : Row → ℕ) → SameTags held next turn b a c d → (row : Row) (tag : ℕ)
    → HasTag (rows held next b a) turn row tag → HasTag (rows held next c d) turn row tag
tag_moves held next turn b a c d same row tag has = elim has [
  | inl over ↦ inl (over.0, over.1, sym (same.after row over.0 over.1) ∙ over.2)
  | inr waits ↦ inr (waits.0, waits.1, waits.2, sym (same.before row waits.1) ∙ waits.3)
]

cell_moves : (held next : Held) (turn : Row) (b a c d : Row → ℕ) → SameTags held next turn b a c d → (row : Row) (tag class : ℕ)
    → HasCell (rows held next b a) turn row tag class → HasCell (rows held next c d) turn row tag class
cell_moves held next turn b a c d same row tag class has = elim has [
  | inl over ↦ inl (over.0, over.1, sym (same.after row over.0 (row_of next row class over.1)) ∙ over.2)
  | inr waits ↦ inr (waits.0, waits.1, waits.2, sym (same.before row (row_of held row class waits.1)) ∙ waits.3)
]

fits_moves : (held next : Held) (turn : Row) (b a c d : Row → ℕ) → SameTags held next turn b a c d → (tag : ℕ)
    → Fits (rows held next b a) turn tag → Fits (rows held next c d) turn tag
fits_moves held next turn b a c d same tag fits = λ class has used.
    fits class has (used.0, used.1, used.2, cell_moves held next turn c d b a (same_back held next turn b a c d same) used.0 used.1 used.2 used.3, used.4)

alone_moves : (held next : Held) (turn : Row) (b a c d : Row → ℕ) → SameTags held next turn b a c d → (tag : ℕ)
    → FitsAlone (rows held next b a) turn tag → FitsAlone (rows held next c d) turn tag
alone_moves held next turn b a c d same tag has = record {
  fits = fits_moves held next turn b a c d same tag has.fits;
  alone = λ row is. has.alone row (tag_moves held next turn c d b a (same_back held next turn b a c d same) row tag is);
}

stay_moves : (held next : Held) (turn : Row) (b a c d : Row → ℕ) → SameTags held next turn b a c d
    → MayStay (rows held next b a) turn → MayStay (rows held next c d) turn
stay_moves held next turn b a c d same stays =
    (stays.0, subst (Fits (rows held next c d) turn) (same.before turn stays.0) (fits_moves held next turn b a c d same (b turn) stays.1))

pub placed_moves : (held next : Held) (turn : Row) (b a c d : Row → ℕ) → SameTags held next turn b a c d → (tag : ℕ)
    → IsPlaced (rows held next b a) turn tag → IsPlaced (rows held next c d) turn tag
placed_moves held next turn b a c d same tag placed = elim placed [
  | inl stays ↦ inl (stay_moves held next turn b a c d same stays.0, stays.1 ∙ same.before turn stays.0.0)
  | inr moves ↦ inr (
    (λ stays. moves.0 (stay_moves held next turn c d b a (same_back held next turn b a c d same) stays)),
    record {
      some = moves.1.some;
      fits = alone_moves held next turn b a c d same tag moves.1.fits;
      none_below = λ lower some less has. moves.1.none_below lower some less
          (alone_moves held next turn c d b a (same_back held next turn b a c d same) lower has);
    },
  )
]

lowest_one : (r : Rows) (turn : Row) (tag other : ℕ) → IsLowestTag r turn tag → IsLowestTag r turn other → tag ≡ other
lowest_one r turn tag other a b = by_cases (nat_lt tag other)
    (λ t. absurd (b.none_below tag a.some (lt_tested tag other t) a.fits))
    (λ f. by_cases (nat_lt other tag)
    (λ t. absurd (a.none_below other b.some (lt_tested other tag t) b.fits))
    (λ g. grind arith))

pub placed_one : (r : Rows) (turn : Row) (tag other : ℕ) → IsPlaced r turn tag → IsPlaced r turn other → tag ≡ other
placed_one r turn tag other first second = elim first [
  | inl a ↦ elim second [ inl b ↦ a.1 ∙ sym b.1 | inr b ↦ absurd (b.0 a.0) ]
  | inr a ↦ elim second [ inl b ↦ absurd (a.0 b.0) | inr b ↦ lowest_one r turn tag other a.1 b.1 ]
]

-- ---- placing from another reading

unchanged_row : (held : Held) (changes : List Change) (row : Row) → is_changed changes row.0 ≡ false → IsRow (held_after held changes) row → IsRow held row
unchanged_row held changes row f is =
    (is.0, (is.1.0, λ e. is.1.1 (unchanged_after held changes row.0 f (sent row.0 (row.1 ++ (is.0 ∷ is.1.0))) refl ∙ e)))

pub placed_from : (x z y : Reading) (held : Held) (changes : List Change) → SameFor mrd held x z → Places x held changes y → Places z held changes y
placed_from x z y held changes same pl = record {
  tabled = pl.tabled;
  tags = pl.tags;
  turns = λ row t is. placed_moves held (held_after held changes) row (tag_read x) pl.tags (tag_read z) pl.tags
      (record { before = tag_elsewhere x z held same; after = λ r e h. refl }) (pl.tags row) (pl.turns row t is);
  others = λ row f is. pl.others row f is ∙ tag_elsewhere x z held same row (unchanged_row held changes row f is);
  room = pl.room;
  apart = pl.apart;
  roots = pl.roots;
  cells = pl.cells;
}

-- ---- placing determines the words

pub tags_one : (x y z : Reading) (held : Held) (changes : List Change) (a : Places x held changes y) (b : Places x held changes z)
    → (s : ℕ) (p : List ℕ) → IsRow (held_after held changes) (s, p) → a.tags (s, p) ≡ b.tags (s, p)
tags_one x y z held changes a b = by_order (λ s p. IsRow (held_after held changes) (s, p) → a.tags (s, p) ≡ b.tags (s, p))
    (λ s p long is. absurd (let short : length p < 4 = row_is_short (held_after held changes) s p a.tabled is in omega (arith, short, long)))
    (λ s p lower is. by_cases (is_changed changes s)
    (λ t. placed_one (rows_of x held changes b.tags) (s, p) (a.tags (s, p)) (b.tags (s, p))
    (placed_moves held (held_after held changes) (s, p) (tag_read x) a.tags (tag_read x) b.tags
    (record { before = λ r h. refl; after = λ r e h. lower r.0 r.1 e h }) (a.tags (s, p)) (a.turns (s, p) t is))
    (b.turns (s, p) t is))
    (λ f. a.others (s, p) f is ∙ sym (b.others (s, p) f is)))

cells_one : (tags others : Row → ℕ) (held : Held) (y z : Reading) → ((row : Row) → IsRow held row → tags row ≡ others row) → AreCells tags held y → AreCells others held z
    → (address : ℕ) → owns address ≡ true → y address ≡ z address
cells_one tags others held y z same cy cz address own = by_cases (y address == 0)
    (λ t. by_cases (z address == 0)
    (λ u. eqb-true (y address) 0 t ∙ sym (eqb-true (z address) 0 u))
    (λ f. (let u = cz.used address own (λ e. true≢false (sym (eq-eqb (z address) 0 e) ∙ f)) in
    at u.0 u.1 u.2 (ap (λ n. cell_at n u.1) (same u.0 (row_of held u.0 u.1 u.2)) ∙ u.3) u.3)))
    (λ f. (let u = cy.used address own (λ e. true≢false (sym (eq-eqb (y address) 0 e) ∙ f)) in
    at u.0 u.1 u.2 u.3 (ap (λ n. cell_at n u.1) (sym (same u.0 (row_of held u.0 u.1 u.2))) ∙ u.3)))
  where
    at : (row : Row) (class : ℕ) → HasIndex held row class → cell_at (tags row) class ≡ address → cell_at (others row) class ≡ address → y address ≡ z address
    at row class has e f = ap y (sym e) ∙ cy.set row class has
        ∙ ap (λ n. n * 4294967296 + code_of held tags row class) (same row (row_of held row class has))
        ∙ ap (λ n. others row * 4294967296 + n) (code_moves tags others held same row.0 row.1 class has)
        ∙ sym (cz.set row class has) ∙ ap z f

word_one : (held : Held) (tags others : Row → ℕ) (s w v : ℕ) → (IsRow held (root s) → tags (root s) ≡ others (root s))
    → HasPlaceWord held tags s w → HasPlaceWord held others s v → w ≡ v
word_one held tags others s w v same first second = elim first [
  | inl a ↦ elim second [ inl b ↦ a.1 ∙ same a.0 ∙ sym b.1 | inr b ↦ absurd (b.0 a.0) ]
  | inr a ↦ elim second [ inl b ↦ absurd (a.0 b.0) | inr b ↦ a.1 ∙ sym b.1 ]
]

-- a place word that is set is that of a selector with a change
place_at_change : (changes : List Change) (address : ℕ) → is_changed_place changes address ≡ true
    → (s : ℕ) × ((is_changed changes s ≡ true) × (place_of s ≡ address))
place_at_change [] address e = absurd (true≢false (sym e))
place_at_change (c ∷ cs) address e = elim (or_true (place_of c.query.selector == address) (is_changed_place cs address) e) [
  | inl t ↦ (c.query.selector, (or_left _ (is_changed cs c.query.selector) (eq-eqb c.query.selector c.query.selector refl), eqb-true (place_of c.query.selector) address t))
  | inr t ↦ (let found = place_at_change cs address t in (found.0, (or_right (c.query.selector == found.0) _ found.1.0, found.1.1)))
]

pub words_one : (x y z : Reading) (held : Held) (changes : List Change) → Places x held changes y → Places x held changes z
    → (address : ℕ) → sets mrd changes address ≡ true → y address ≡ z address
words_one x y z held changes a b address e = by_cases (owns address)
    (λ own. cells_one a.tags b.tags (held_after held changes) y z (λ row is. tags_one x y z held changes a b row.0 row.1 is) a.cells b.cells address own)
    (λ f. (let found = place_at_change changes address (elim (or_true (owns address) (is_changed_place changes address) e) [ inl t ↦ absurd (true≢false (sym t ∙ f)) | inr t ↦ t ]) in
    ap y (sym found.1.1)
    ∙ word_one (held_after held changes) a.tags b.tags found.0 (y (place_of found.0)) (z (place_of found.0)) (λ is. tags_one x y z held changes a b found.0 [] is)
    (a.roots found.0 found.1.0) (b.roots found.0 found.1.0)
    ∙ ap z found.1.1))

-- ---- what is shown after

pub row_prefix : (held : Held) (s : ℕ) (p q : List ℕ) → IsRow held (s, p ++ q) → IsRow held (s, p)
row_prefix held s p [] is = subst (λ (l : List ℕ). IsRow held (s, l)) (append-nil p) is
row_prefix held s p (c ∷ cs) is =
    (c, (cs ++ (is.0 ∷ is.1.0), subst (λ (l : List ℕ). IsHeld held (sent s l)) (append_assoc p (c ∷ cs) (is.0 ∷ is.1.0)) is.1.1))

-- a row's cell leads to the row that comes next
tag_step : (x y : Reading) (held : Held) (changes : List Change) (pl : Places x held changes y) (s : ℕ) (p : List ℕ) (class : ℕ)
    → IsRow (held_after held changes) (s, p ++ (class ∷ [])) → code_at y (pl.tags (s, p)) class ≡ pl.tags (s, p ++ (class ∷ []))
tag_step x y held changes pl s p class is =
    let next : Held = held_after held changes in
    let v : Answer = next (sent s (p ++ (class ∷ []))) in
    let has : HasIndex next (s, p) class = index_before next s p class is in
    let room : HasRoom (pl.tags (s, p ++ (class ∷ []))) = pl.room (s, p ++ (class ∷ [])) is in
    let within : pl.tags (s, p ++ (class ∷ [])) - 1 < 67106816 = room.within in
    code_read y (pl.tags (s, p)) class (pl.tags (s, p ++ (class ∷ []))) (pl.room (s, p) (row_of next (s, p) class has))
    (index_in_range next s p class pl.tabled has) (omega (arith, within))
    (pl.cells.set (s, p) class has
    ∙ ap (λ n. pl.tags (s, p) * 4294967296 + n)
    (if_false (is_understood v) (code_of_answer v) (pl.tags (s, p ++ (class ∷ []))) (row_not_held next s p class pl.tabled is)))

tags_along : (x y : Reading) (held : Held) (changes : List Change) (pl : Places x held changes y) (s : ℕ) (q p : List ℕ)
    → IsRow (held_after held changes) (s, p ++ q) → code_along y (pl.tags (s, p)) q ≡ pl.tags (s, p ++ q)
tags_along x y held changes pl s [] p is = ap (λ (l : List ℕ). pl.tags (s, l)) (sym (append-nil p))
tags_along x y held changes pl s (c ∷ cs) p is =
    let assoc : (p ++ (c ∷ [])) ++ cs ≡ p ++ (c ∷ cs) = append_assoc p (c ∷ []) cs in
    let row : IsRow (held_after held changes) (s, (p ++ (c ∷ [])) ++ cs) = subst (λ (l : List ℕ). IsRow (held_after held changes) (s, l)) (sym assoc) is in
    ap (λ k. code_along y k cs) (tag_step x y held changes pl s p c (row_prefix (held_after held changes) s (p ++ (c ∷ [])) cs row))
    ∙ tags_along x y held changes pl s cs (p ++ (c ∷ [])) row
    ∙ ap (λ (l : List ℕ). pl.tags (s, l)) assoc

root_shown : (x y : Reading) (held : Held) (changes : List Change) (pl : Places x held changes y) → Stay mrd held changes x y → (s : ℕ)
    → IsRow (held_after held changes) (s, []) → y (place_of s) ≡ pl.tags (s, [])
root_shown x y held changes pl stay s is = by_cases (is_changed changes s)
    (λ t. elim (pl.roots s t) [ inl a ↦ a.1 | inr a ↦ absurd (a.0 is) ])
    (λ f. stay s f (unchanged_row held changes (s, []) f is) ∙ sym (pl.others (s, []) f is))

pub tag_shown : (x y : Reading) (held : Held) (changes : List Change) (pl : Places x held changes y) → Stay mrd held changes x y → (row : Row)
    → IsRow (held_after held changes) row → pl.tags row ≡ tag_read y row
tag_shown x y held changes pl stay row is =
    sym (ap (λ w. code_along y w row.1) (root_shown x y held changes pl stay row.0 (root_of (held_after held changes) row.0 row.1 is))
    ∙ tags_along x y held changes pl row.0 row.1 [] is)

pub shown_after : (x y : Reading) (held : Held) (changes : List Change) → Places x held changes y → Stay mrd held changes x y → Shows y (held_after held changes)
shown_after x y held changes pl stay = record {
  tabled = pl.tabled;
  room = λ row is. subst HasRoom (tag_shown x y held changes pl stay row is) (pl.room row is);
  apart = λ row other is has e. pl.apart row other is has (tag_shown x y held changes pl stay row is ∙ e ∙ sym (tag_shown x y held changes pl stay other has));
  cells = move_cells pl.tags (tag_read y) (held_after held changes) y y (tag_shown x y held changes pl stay)
      (own_cells pl.tags (held_after held changes) pl.tabled pl.room) (λ address t. refl) pl.cells;
}

marked : (x y : Reading) (held : Held) (changes : List Change) (s : ℕ) → Places x held changes y → is_changed changes s ≡ true
    → IsMarked mrd (held_after held changes) y s
marked x y held changes s pl t = elim (pl.roots s t) [
  | inl a ↦ inl (a.0, λ z. room_some (pl.tags (root s)) (pl.room (root s) a.0) (sym a.1 ∙ z))
  | inr a ↦ inr a
]

used_way : (x : Reading) (held : Held) (address : ℕ) → Shows x held → owns address ≡ true → x address ≢ 0
    → (q : Query) × (n : ℕ) × IsHeld held q × (0 < n) × (n ≤ arity_of_query q) × (way_along x (x (place_of q.selector)) q.classes n ≡ address)
used_way x held address sh own some =
    let u = sh.cells.used address own some in
    let more : length (u.0.1 ++ (u.1 ∷ u.2.0)) ≡ length u.0.1 + suc (length u.2.0) = length-append u.0.1 (u.1 ∷ u.2.0) in (
      sent u.0.0 (u.0.1 ++ (u.1 ∷ u.2.0)),
      suc (length u.0.1),
      u.2.1,
      omega arith,
      omega (arith, more),
      way_of x (x (place_of u.0.0)) u.0.1 u.1 u.2.0 ∙ u.3,
    )

pub mrd_is_lawful : IsLawful mrd
mrd_is_lawful = record {
  owned_are_cells = λ address t. let o = owned address t in (omega (arith, o.0), omega (arith, o.1), inr (omega (arith, o.0)));
  blank_shows_none = record {
    tabled = record {
      range = λ q h. absurd (h refl);
      some = λ q h. absurd (h refl);
      few = λ q h. absurd (h refl);
      body = λ q. tt;
      one_arity = λ q r h g e. absurd (h refl);
    };
    room = λ row is. absurd (is.1.1 refl);
    apart = λ row other is has e. absurd (is.1.1 refl);
    cells = record { set = λ row class has. absurd (has.1 refl); used = λ address t nz. absurd (nz refl) };
  };
  shown_elsewhere = shown_elsewhere;
  shown_in_range = λ x held q sh h. sh.tabled.range q h;
  held_is_answered = λ x held q sh h. held_answered x held q.selector q.classes sh h;
  rest_is_answered = λ x held q sh range few arity placed. answered x held q sh arity placed;
  placed_is_held = λ held s p. (sent s (p.0 ∷ p.1.0), p.1.1, refl);
  placed_by_own = λ held other s same p. (p.0, (p.1.0, λ e. p.1.1 (same (sent s (p.0 ∷ p.1.0)) refl ∙ e)));
  placed_has_word = λ x held s sh p z. room_some (x (place_of s)) (sh.room (root s) p) z;
  no_places = λ e held s p. true≢false e;
  marks = λ x y held changes s sh pl e t. marked x y held changes s pl t;
  placed_from = placed_from;
  placed_at_set = λ x y z held changes pl same. record {
    tabled = pl.tabled;
    tags = pl.tags;
    turns = pl.turns;
    others = pl.others;
    room = pl.room;
    apart = pl.apart;
    roots = λ s t. subst (HasPlaceWord (held_after held changes) pl.tags s) (same (place_of s) (or_right (owns (place_of s)) _ (changed_place changes s ∙ t))) (pl.roots s t);
    cells = move_cells pl.tags pl.tags (held_after held changes) y z (λ row is. refl) (own_cells pl.tags (held_after held changes) pl.tabled pl.room)
        (λ address t. same address (or_left (owns address) _ t)) pl.cells;
  };
  determined = λ x y z held changes sh a b address e. words_one x y z held changes a b address e;
  shown_after = λ low x y held changes sh some able pl stay. shown_after x y held changes pl stay;
  used = used_way;
  way_by_prefix = λ x q r n sel ar lt pre. ap (λ s. way_along x (x (place_of s)) q.classes n) sel
      ∙ way_same x (x (place_of r.selector)) q.classes r.classes n ar lt pre;
}
  where
    owned : (address : ℕ) → owns address ≡ true → (67108864 ≤ address) × (address < 134217728)
    owned address e = grind arith
