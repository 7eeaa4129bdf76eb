-- How the words go to the parser of options (`clap`), and what comes back. No public clause speaks of it.
use Rattle.std.specs.Prelude.{◌≡◌, ℕ, Bool, ◌&&◌, is_none, true, List, [], map, Some, None, Result, Ok, Err}
use Rattle.clap.specs.Walk.{Rule}
use Rattle.clap.specs.Simple.{App, new_rule, new_shape}
use Rattle.clap.specs.Matches.{first_value, found_of}
use Rattle.clap.specs.declared.parser.matches.ArgMatches.{ArgMatches}
use Rattle.dt_words.specs.Options.{Given, after_hyphens, has_hyphen, options_of, value_of}
use Rattle.dt_words.specs.declared.words_fault.WordsFault.{WordsFault}
use Rattle.dt_words.specs.declared.words_fault.WordsFault.TheVariants.{Usage}

-- the word begins with a hyphen and is no option's word: the parser would read `--`, `-` or short options
abbrev pub is_stray : List ℕ → Bool
is_stray word = has_hyphen word && is_none (after_hyphens word)

-- an argument with a long name
abbrev pub option_rule : List ℕ → Rule
option_rule name = record (new_rule name) { long = Some name }

-- the parser of a command with these options, and without help
abbrev pub options_app : List ℕ → List (List ℕ) → App
options_app command names = record { top = record (new_shape command) { rules = map option_rule names; disable_help_flag = true }; subs = [] }

-- the matches have the values of these options
abbrev pub HasGiven : ArgMatches → List Given → Type 0
HasGiven matches given = (name : List ℕ) → first_value (found_of matches) name ≡ value_of name given

-- the parser answers by the options that the words write, where it finds memory
abbrev pub ParsedBy : List (List ℕ) → List (List ℕ) → Result ArgMatches WordsFault → Type 0
ParsedBy names words (Ok matches) = (given : List Given) × (options_of names words ≡ Some given) × HasGiven matches given
ParsedBy names words (Err fault) = fault ≡ Usage → options_of names words ≡ None
