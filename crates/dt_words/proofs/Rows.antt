-- What the parser of options keeps of the options that were given.
use Rattle.std.proofs.Common.{◌≡◌, ◌∙◌, Bool, ◌&&◌, ◌||◌, true, false, not, refl, ap, subst, sym, List, [], ◌∷◌, ◌++◌, map, Some, None}
use Rattle.std.specs.Str.{bytes_eq}
use Rattle.std.proofs.lemmas.List.{append-nil, map_push}
use Rattle.std.proofs.Math.Bool.{or_assoc}
use Rattle.clap.specs.Walk.{Row, Text, at_row, first_of, has_row, more_values, used, without as without_row}
use Rattle.clap.specs.Values.{reading_of}
use Rattle.clap.specs.Faults.{use_fault}
use Rattle.clap.specs.declared.builder.value_parser.ValueParser.TheVariants as vp
use Rattle.clap.specs.declared.error.kind.ErrorKind.TheVariants as kind
use Rattle.clap.specs.declared.parser.matches.ValueSource.TheVariants.{CommandLine}
use Rattle.dt_words.specs.Options.{Given, is_among, value_of, without}
use Rattle.dt_words.proofs.Parser.{ready_rule, same}

-- the row of an option
abbrev pub row : Given → Row
row g = record { id = g.name; values = g.value ∷ []; count = None; source = Some CommandLine; reading = reading_of vp.String }

abbrev pub rows : List Given → List Row
rows given = map row given

abbrev pub option : Text → Text → Given
option name value = record { name = name; value = value }

-- ---- one more option

at_end : (id : Text) (change : Row → List Row) (missing : List Row) (xs : List Row) → has_row id xs ≡ false → at_row id change missing xs ≡ xs ++ missing
at_end id change missing [] h = refl
at_end id change missing (r ∷ rs) h = go (bytes_eq r.id id) refl (at_end id change missing rs)
  where
    go : (b : Bool) → bytes_eq r.id id ≡ b → (has_row id rs ≡ false → at_row id change missing rs ≡ rs ++ missing)
        → at_row id change missing (r ∷ rs) ≡ (r ∷ rs) ++ missing
    go true e others = let bad : true ≡ false = rw e at h in absurd (cc)
    go false e others = let new : has_row id rs ≡ false = rw e at h in rw e (ap (λ (more : List Row). r ∷ more) (others new))

-- an option that wasn't given is the last row
pub used_last : (name value : Text) (given : List Given) → has_row name (rows given) ≡ false
    → used (ready_rule name) (value ∷ []) (rows given) ≡ rows (given ++ option name value ∷ [])
used_last name value given new =
    let kept : without_row name (rows given) ≡ rows given = at_end name (λ r. []) [] (rows given) new ∙ append-nil (rows given) in
    rw kept (at_end name (more_values CommandLine (value ∷ [])) (row (option name value) ∷ []) (rows given) new ∙ sym (map_push row given (option name value)))

-- an option may be given where it wasn't
pub use_passes : (name value : Text) (given : List Row) → has_row name given ≡ false → use_fault false (ready_rule name) (value ∷ []) given ≡ []
use_passes name value given new = rw new refl

-- and not again
pub used_twice : (name value : Text) (given : List Row) → has_row name given ≡ true → use_fault false (ready_rule name) (value ∷ []) given ≡ kind.ArgumentConflict ∷ []
used_twice name value given old = rw old refl

-- ---- the names that are left

or_false : (b : Bool) → (b || false) ≡ b
or_false true = refl
or_false false = refl

and_false : (b : Bool) → (b && false) ≡ false
and_false true = refl
and_false false = refl

abbrev pub IsLeft : List Text → List Text → List Given → Type 0
IsLeft names left given = (n : Text) → is_among left n ≡ (is_among names n && not (has_row n (rows given)))

pub all_left : (names : List Text) → IsLeft names names []
all_left names n = go (is_among names n)
  where
    go : (b : Bool) → b ≡ (b && true)
    go true = refl
    go false = refl

has_row_more : (n name value : Text) (given : List Given) → has_row n (rows (given ++ option name value ∷ [])) ≡ (has_row n (rows given) || bytes_eq name n)
has_row_more n name value [] = or_false (bytes_eq name n)
has_row_more n name value (g ∷ given) = ap (λ (b : Bool). bytes_eq g.name n || b) (has_row_more n name value given) ∙ sym (or_assoc (bytes_eq g.name n) (has_row n (rows given)) (bytes_eq name n))

among_without : (text n : Text) (left : List Text) → is_among (without text left) n ≡ (is_among left n && not (bytes_eq text n))
among_without text n [] = refl
among_without text n (m ∷ left) = go (bytes_eq text m) (bytes_eq m n) refl refl (among_without text n left)
  where
    go : (x y : Bool) → bytes_eq text m ≡ x → bytes_eq m n ≡ y → is_among (without text left) n ≡ (is_among left n && not (bytes_eq text n))
        → is_among (without text (m ∷ left)) n ≡ (is_among (m ∷ left) n && not (bytes_eq text n))
    go true true ex ey others =
        let e : bytes_eq text n ≡ true = subst (λ (t : Text). bytes_eq text t ≡ true) (same m n ey) ex in
        rw (ex, ey, others, e) (and_false (is_among left n))
    go true false ex ey others = rw (ex, ey, others) refl
    go false true ex ey others =
        let e : bytes_eq text n ≡ false = subst (λ (t : Text). bytes_eq text t ≡ false) (same m n ey) ex in
        rw (ex, ey, e) refl
    go false false ex ey others = rw (ex, ey, others) refl

neither : (a b c : Bool) → ((a && not b) && not c) ≡ (a && not (b || c))
neither true true c = refl
neither true false c = refl
neither false b c = refl

-- a name that is given isn't left
pub one_less : (names left : List Text) (given : List Given) (name value : Text) → IsLeft names left given
    → IsLeft names (without name left) (given ++ option name value ∷ [])
one_less names left given name value is_left n =
    among_without name n left ∙ ap (λ (b : Bool). b && not (bytes_eq name n)) (is_left n) ∙ neither (is_among names n) (has_row n (rows given)) (bytes_eq name n)
    ∙ ap (λ (b : Bool). is_among names n && not b) (sym (has_row_more n name value given))

-- ---- the values

-- the first value of an option is the one that was given
pub first_given : (name : Text) (given : List Given) → first_of name (rows given) ≡ value_of name given
first_given name [] = refl
first_given name (g ∷ given) = go (bytes_eq g.name name) refl (first_given name given)
  where
    go : (b : Bool) → bytes_eq g.name name ≡ b → first_of name (rows given) ≡ value_of name given → first_of name (rows (g ∷ given)) ≡ value_of name (g ∷ given)
    go true e others = rw e refl
    go false e others = rw e others
