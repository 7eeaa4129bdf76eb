-- The options of a command as the parser of options reads them: each has a long name and takes one value.
use Rattle.std.proofs.Common.{◌≡◌, ◌∙◌, ℕ, Bool, ◌&&◌, ◌||◌, true, false, not, refl, ap, List, [], ◌∷◌, map, Option, Some, None}
use Rattle.std.specs.Prelude.{codes, fold, if◌then◌else◌}
use Rattle.std.specs.List.{list_any}
use Rattle.std.specs.Str.{bytes_eq}
use Rattle.std.proofs.lemmas.Slice.Eq.{bytes_eq-Decides}
use Rattle.clap.specs.Walk.{Rule, Row, Text, arg_by_id, arg_by_index, arg_by_long, has_row, with_default}
use Rattle.clap.specs.Simple.{App, Shape, built, filled, filled_from, new_shape}
use Rattle.clap.specs.Kinds.{or_else}
use Rattle.clap.specs.Takes.{is_given}
use Rattle.clap.specs.Faults.{is_simple_and_free, check_fault, defaults_fault}
use Rattle.dt_words.specs.Options.{is_among}
use Rattle.dt_words.specs.Parsed.{option_rule, options_app}
use Rattle.dt_words.specs.CommandOf.{gen_names, run_names}

-- an option as built
abbrev pub ready_rule : Text → Rule
ready_rule name = filled (option_rule name)

abbrev pub ready_rules : List Text → List Rule
ready_rules names = map ready_rule names

abbrev pub ready_shape : Text → List Text → Shape
ready_shape command names =
    record (new_shape command) { rules = ready_rules names; disable_help_flag = true; disable_help_subcommand = true; is_built = true }

built_rules : (i : ℕ) (names : List Text) → filled_from i (map option_rule names) ≡ ready_rules names
built_rules i [] = refl
built_rules i (name ∷ names) = ap (λ (rules : List Rule). ready_rule name ∷ rules) (built_rules i names)

pub built_app : (command : Text) (names : List Text)
    → ◌≡◌ {A = App} (built (options_app command names)) (record { top = ready_shape command names; subs = [] })
built_app command names =
    ap (λ (rules : List Rule). record { top = record (ready_shape command names) { rules = rules }; subs = [] }) (built_rules 1 names)

-- ---- which option is meant

pub same : (a b : Text) → bytes_eq a b ≡ true → a ≡ b
same a b = (bytes_eq-Decides a b).0

pub itself : (a : Text) → bytes_eq a a ≡ true
itself a = (bytes_eq-Decides a a).1 refl

abbrev pub FoundAs : Bool → Text → Option Rule → Type 0
FoundAs true name found = found ≡ Some (ready_rule name)
FoundAs false name found = found ≡ None

-- the option of this long name, or none
pub by_long : (names : List Text) (name : Text) → FoundAs (is_among names name) name (arg_by_long (ready_rules names) name)
by_long [] name = refl
by_long (first ∷ names) name = go (bytes_eq first name) refl (by_long names name)
  where
    go : (b : Bool) → bytes_eq first name ≡ b → FoundAs (is_among names name) name (arg_by_long (ready_rules names) name)
        → FoundAs (b || is_among names name) name (arg_by_long (ready_rules (first ∷ names)) name)
    go true e others = rw e (ap (λ (n : Text). Some (ready_rule n)) (same first name e))
    go false e others = rw e others

-- the option of this id, or none
pub by_id : (names : List Text) (name : Text) → FoundAs (is_among names name) name (arg_by_id (ready_rules names) name)
by_id [] name = refl
by_id (first ∷ names) name = go (bytes_eq first name) refl (by_id names name)
  where
    go : (b : Bool) → bytes_eq first name ≡ b → FoundAs (is_among names name) name (arg_by_id (ready_rules names) name)
        → FoundAs (b || is_among names name) name (arg_by_id (ready_rules (first ∷ names)) name)
    go true e others = rw e (ap (λ (n : Text). Some (ready_rule n)) (same first name e))
    go false e others = rw e others

-- none has a position
pub by_index : (names : List Text) (i : ℕ) → arg_by_index (ready_rules names) i ≡ None
by_index [] i = refl
by_index (name ∷ names) i = by_index names i

-- ---- what comes after the walk

-- none has a default
pub no_default : (names : List Text) (rows : List Row) → defaults_fault rows (ready_rules names) ≡ []
unfolding defaults_fault
no_default [] rows = refl
no_default (name ∷ names) rows = go (has_row name rows) (no_default names (with_default rows (ready_rule name)))
  where
    go : (b : Bool) → defaults_fault (with_default rows (ready_rule name)) (ready_rules names) ≡ []
        → or_else (if b || true then [] else []) (defaults_fault (with_default rows (ready_rule name)) (ready_rules names)) ≡ []
    go true others = others
    go false others = others

-- and so the rows of the walk are the rows of the parse
pub defaults_add_none : (names : List Text) (rows : List Row) → fold with_default rows (ready_rules names) ≡ rows
defaults_add_none [] rows = refl
defaults_add_none (name ∷ names) rows = ap (λ (more : List Row). fold with_default more (ready_rules names)) (go (has_row name rows)) ∙ defaults_add_none names rows
  where
    go : (b : Bool) → ◌≡◌ {A = List Row} (if b then rows else rows) rows
    go true = refl
    go false = refl

-- none is required
none_required : (names : List Text) (rows : List Row) → list_any (λ (a : Rule). a.required && not (is_given a.id rows)) (ready_rules names) ≡ false
none_required [] rows = refl
none_required (name ∷ names) rows = none_required names rows

pub no_check : (command : Text) (names : List Text) (rows : List Row) → check_fault (ready_shape command names) rows false ≡ []
no_check command names rows = rw (none_required names rows) refl

-- ---- the command is one that the parser says all of

pub run_is_simple : is_simple_and_free (options_app (codes "run") run_names) ≡ true
run_is_simple = refl

pub gen_is_simple : is_simple_and_free (options_app (codes "gen") gen_names) ≡ true
gen_is_simple = refl
