-- From the parser's answer to the command.
use Rattle.std.proofs.Common.{◌≡◌, ◌∙◌, ◌||◌, ℕ, Bool, true, false, refl, ap, sym, List, [], ◌∷◌, codes, drop, Option, Some, None, Result, Ok, Err, MatchResult}
use Rattle.std.specs.Prelude.{option_and_then}
use Rattle.std.specs.Result.{IsErrAnd}
use Rattle.std.specs.List.{list_any}
use Rattle.std.specs.Str.{bytes_eq}
use Rattle.clap.specs.declared.parser.matches.ArgMatches.{ArgMatches}
use Rattle.dt_words.specs.Options.{Given, options_of}
use Rattle.dt_words.specs.Parsed.{HasGiven, ParsedBy, is_stray}
use Rattle.dt_words.specs.CommandOf.{command_of, gen_names, gen_of, run_names, run_of}
use Rattle.dt_words.specs.declared.command.Command.{Command}
use Rattle.dt_words.specs.declared.words_fault.WordsFault.{WordsFault}
use Rattle.dt_words.specs.declared.words_fault.WordsFault.TheVariants.{Usage}
use Rattle.dt_words.proofs.Parser.{same}
use Rattle.dt_words.proofs.Taken.{stray_none}

-- the command of the matches is that of the options
pub read : (names words : List (List ℕ)) (m : ArgMatches) (of : List Given → Option Command) (o : Option Command) → ParsedBy names words (Ok m)
    → ((given : List Given) → HasGiven m given → o ≡ of given) → option_and_then of (options_of names words) ≡ o
read names words m of o (given, is, has) h = rw is (sym (h given has))

-- and where the words write no options there is none
pub refused : (names words : List (List ℕ)) (of : List Given → Option Command) (r : Result Command WordsFault) (fault : WordsFault) → IsErrAnd r (λ e. e ≡ fault)
    → ParsedBy names words (Err fault)
    → MatchResult r (λ command. option_and_then of (options_of names words) ≡ Some command) (λ fault. fault ≡ Usage → option_and_then of (options_of names words) ≡ None)
refused names words of (Ok command) fault is h = absurd is
refused names words of (Err other) fault is h = λ usage. ap (option_and_then of) (h (sym is ∙ usage))

-- a stray word makes the words no command
pub stray_command : (words : List (List ℕ)) → list_any is_stray words ≡ true → command_of words ≡ None
stray_command [] h = refl
stray_command (first ∷ rest) h = go (bytes_eq first (codes "run")) (bytes_eq first (codes "gen")) refl refl
  where
    later : is_stray first ≡ false → list_any is_stray rest ≡ true
    later plain = rw plain at h

    go : (x y : Bool) → bytes_eq first (codes "run") ≡ x → bytes_eq first (codes "gen") ≡ y → command_of (first ∷ rest) ≡ None
    go true y ex ey =
        let plain : is_stray first ≡ false = rw (same first (codes "run") ex) refl in
        rw ex (ap (option_and_then run_of) (stray_none run_names rest (later plain)))
    go false true ex ey =
        let plain : is_stray first ≡ false = rw (same first (codes "gen") ey) refl in
        rw (ex, ey) (ap (option_and_then gen_of) (stray_none gen_names rest (later plain)))
    go false false ex ey = rw (ex, ey) refl

-- the words after the first have no stray word where the words have none
pub rest_kept : (words : List (List ℕ)) → list_any is_stray words ≡ false → list_any is_stray (drop 1 words) ≡ false
rest_kept [] h = refl
rest_kept (first ∷ rest) h = go (is_stray first) h
  where
    go : (b : Bool) → (b || list_any is_stray rest) ≡ false → list_any is_stray rest ≡ false
    go true h = absurd (cc)
    go false h = h
