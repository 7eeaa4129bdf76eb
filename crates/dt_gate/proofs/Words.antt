-- Where words lie, and how they change.
use Rattle.std.proofs.Common.{◌≡◌, ℕ, zero, suc, ◌+◌, ◌*◌, ◌<◌, List, [], ◌∷◌, ◌++◌, length, get_or, set, refl, sym, ap, ◌∙◌, arith}
use Rattle.std.proofs.lemmas.List.{get_or_append_left}
use Rattle.dt_gate.specs.declared.event.RecordWord.{RecordWord}
use Rattle.dt_gate.specs.declared.event.RecordWord.TheVariants.{Exits, Version, Top}
use Rattle.dt_gate.specs.declared.gate.Root.{Root}
use Rattle.dt_gate.specs.Gate.{blank_root}
use Rattle.dt_gate.specs.Author.{with_word}
use Rattle.dt_gate.specs.Events.{exits_laid}
use Rattle.dt_gate.specs.Words.{record_words}

-- ---- a list behind another

pub set_in_front : (xs ys : List ℕ) (i y : ℕ) → i < length xs → set (xs ++ ys) i y ≡ set xs i y ++ ys
set_in_front [] ys i y below = absurd (omega arith)
set_in_front (x ∷ xs) ys zero y below = refl
set_in_front (x ∷ xs) ys (suc i) y below = ap (λ zs. x ∷ zs) (set_in_front xs ys i y (omega arith))

pub set_behind : (xs ys : List ℕ) (n i y : ℕ) → length xs ≡ n → set (xs ++ ys) (n + i) y ≡ xs ++ set ys i y
set_behind [] ys n i y long = let same : n + i ≡ i = omega (arith, long) in ap (λ k. set ys k y) same
set_behind (x ∷ xs) ys n i y long =
    let same : n + i ≡ suc (length xs + i) = omega (arith, long) in
    ap (λ k. set (x ∷ (xs ++ ys)) k y) same ∙ ap (λ zs. x ∷ zs) (set_behind xs ys (length xs) i y refl)

pub get_behind : (xs ys : List ℕ) (n i : ℕ) → length xs ≡ n → get_or (xs ++ ys) (n + i) 0 ≡ get_or ys i 0
get_behind [] ys n i long = let same : n + i ≡ i = omega (arith, long) in ap (λ k. get_or ys k 0) same
get_behind (x ∷ xs) ys n i long =
    let same : n + i ≡ suc (length xs + i) = omega (arith, long) in
    ap (λ k. get_or (x ∷ (xs ++ ys)) k 0) same ∙ get_behind xs ys (length xs) i refl

pub get_in_front : (xs ys : List ℕ) (i : ℕ) → i < length xs → get_or (xs ++ ys) i 0 ≡ get_or xs i 0
get_in_front xs ys i below = get_or_append_left xs ys 0 i below

-- ---- record words

-- where a word lies among the three of its root
abbrev pub offset : RecordWord → ℕ
offset Exits = 0
offset Version = 1
offset Top = 2

-- the word
abbrev pub of_record : ℕ → Root → RecordWord → ℕ
of_record left root Exits = left
of_record left root Version = root.version
of_record left root Top = root.top

pub records_length : (exits : List ℕ) (roots : List Root) → length exits ≡ length roots → length (record_words exits roots) ≡ 3 * length roots
records_length [] [] long = refl
records_length [] (root ∷ roots) long = absurd (omega (arith, long))
records_length (left ∷ exits) [] long = absurd (omega (arith, long))
records_length (left ∷ exits) (root ∷ roots) long = omega (arith, records_length exits roots (omega (arith, long)))

next_place : (word : RecordWord) (i : ℕ) → offset word + 3 * suc i ≡ suc (suc (suc (offset word + 3 * i)))
next_place word i = omega arith

pub get_record : (exits : List ℕ) (roots : List Root) (i : ℕ) (word : RecordWord) → length exits ≡ length roots → i < length roots
    → get_or (record_words exits roots) (offset word + 3 * i) 0 ≡ of_record (get_or exits i 0) (get_or roots i blank_root) word
get_record [] [] i word long below = absurd (omega arith)
get_record [] (root ∷ roots) i word long below = absurd (omega (arith, long))
get_record (left ∷ exits) [] i word long below = absurd (omega arith)
get_record (left ∷ exits) (root ∷ roots) zero Exits long below = refl
get_record (left ∷ exits) (root ∷ roots) zero Version long below = refl
get_record (left ∷ exits) (root ∷ roots) zero Top long below = refl
get_record (left ∷ exits) (root ∷ roots) (suc i) word long below =
    ap (λ k. get_or (record_words (left ∷ exits) (root ∷ roots)) k 0) (next_place word i)
    ∙ get_record exits roots i word (omega (arith, long)) (omega arith)

pub lay_record : (exits : List ℕ) (roots : List Root) (i : ℕ) (word : RecordWord) (value : ℕ) → length exits ≡ length roots → i < length roots
    → record_words (exits_laid exits i word value) (set roots i (with_word (get_or roots i blank_root) word value)) ≡ set (record_words exits roots) (offset word + 3 * i) value
lay_record [] [] i word value long below = absurd (omega arith)
lay_record [] (root ∷ roots) i word value long below = absurd (omega (arith, long))
lay_record (left ∷ exits) [] i word value long below = absurd (omega arith)
lay_record (left ∷ exits) (root ∷ roots) zero Exits value long below = refl
lay_record (left ∷ exits) (root ∷ roots) zero Version value long below = refl
lay_record (left ∷ exits) (root ∷ roots) zero Top value long below = refl
lay_record (left ∷ exits) (root ∷ roots) (suc i) word value long below =
    by_word word ∙ ap (λ words. left ∷ root.version ∷ root.top ∷ words) (lay_record exits roots i word value (omega (arith, long)) (omega arith))
    ∙ ap (λ k. set (record_words (left ∷ exits) (root ∷ roots)) k value) (sym (next_place word i))
  where
    by_word : (word : RecordWord) → record_words (exits_laid (left ∷ exits) (suc i) word value) (root ∷ set roots i (with_word (get_or roots i blank_root) word value))
        ≡ left ∷ root.version ∷ root.top ∷ record_words (exits_laid exits i word value) (set roots i (with_word (get_or roots i blank_root) word value))
    by_word Exits = refl
    by_word Version = refl
    by_word Top = refl

pub exits_record : (exits : List ℕ) (roots : List Root) (i value : ℕ) → length exits ≡ length roots → i < length roots
    → record_words (set exits i value) roots ≡ set (record_words exits roots) (offset Exits + 3 * i) value
exits_record [] [] i value long below = absurd (omega arith)
exits_record [] (root ∷ roots) i value long below = absurd (omega (arith, long))
exits_record (left ∷ exits) [] i value long below = absurd (omega arith)
exits_record (left ∷ exits) (root ∷ roots) zero value long below = refl
exits_record (left ∷ exits) (root ∷ roots) (suc i) value long below =
    ap (λ words. left ∷ root.version ∷ root.top ∷ words) (exits_record exits roots i value (omega (arith, long)) (omega arith))
    ∙ ap (λ k. set (record_words (left ∷ exits) (root ∷ roots)) k value) (sym (next_place Exits i))

-- roots that have the same versions and top pages
pub record IsAlike (root other : Root) : Type 0 where
  pub version : other.version ≡ root.version
  pub top : other.top ≡ root.top

pub records_alike : (exits : List ℕ) (roots others : List Root) → length others ≡ length roots → ((i : ℕ) → IsAlike (get_or roots i blank_root) (get_or others i blank_root))
    → record_words exits others ≡ record_words exits roots
records_alike [] roots others long alike = refl
records_alike (left ∷ exits) [] [] long alike = refl
records_alike (left ∷ exits) [] (other ∷ others) long alike = absurd (omega (arith, long))
records_alike (left ∷ exits) (root ∷ roots) [] long alike = absurd (omega (arith, long))
records_alike (left ∷ exits) (root ∷ roots) (other ∷ others) long alike =
    ap (λ word. left ∷ word ∷ other.top ∷ record_words exits others) (alike 0).version
    ∙ ap (λ word. left ∷ root.version ∷ word ∷ record_words exits others) (alike 0).top
    ∙ ap (λ words. left ∷ root.version ∷ root.top ∷ words) (records_alike exits roots others (omega (arith, long)) (λ i. alike (suc i)))
