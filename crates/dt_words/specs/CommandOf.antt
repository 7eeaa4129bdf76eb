-- The command that the words write.
use Rattle.std.specs.Prelude.{ℕ, ◌≤◌, if◌then◌else◌, List, [], ◌∷◌, codes, Option, Some, None, option_map, option_and_then}
use Rattle.std.specs.Str.{bytes_eq}
use Rattle.dt_words.specs.Number.{number_in}
use Rattle.dt_words.specs.Options.{Given, options_of, value_of}
use Rattle.dt_words.specs.Limits.{LimitNumbers}
use Rattle.dt_words.specs.declared.limits.TheConstants.{READERS, READERS_UNLESS_GIVEN, LEAST_PAGES, PAGES, PAGES_UNLESS_GIVEN, ENTRIES, ENTRIES_UNLESS_GIVEN, VERSIONS}
use Rattle.dt_words.specs.declared.command.TheConstants.{LEAST_GENERATED_CLASSES, GENERATED_CLASSES, GENERATED_SELECTORS}
use Rattle.dt_words.specs.declared.command.Table.{Table}
use Rattle.dt_words.specs.declared.command.Table.TheVariants.{Sti, Colour, Row, Mrd}
use Rattle.dt_words.specs.declared.command.Command.{Command}
use Rattle.dt_words.specs.declared.command.Command.TheVariants.{Run, Gen}

-- the kind of table of this name
abbrev pub table_of : List ℕ → Option Table
table_of text =
    if bytes_eq text (codes "sti") then Some Sti
    else (if bytes_eq text (codes "colour") then Some Colour
    else (if bytes_eq text (codes "row") then Some Row
    else (if bytes_eq text (codes "mrd") then Some Mrd else None)))

-- a number that has to be given, in its range
abbrev pub given_number : ℕ → ℕ → Option (List ℕ) → Option ℕ
given_number least most value = option_and_then (number_in least most) value

-- a number in its range, or the one that stands where none is given
abbrev pub number_or : ℕ → ℕ → ℕ → Option (List ℕ) → Option ℕ
number_or least most unless_given None = Some unless_given
number_or least most unless_given (Some text) = number_in least most text

-- ---- run

-- the options of `run`
abbrev pub run_names : List (List ℕ)
run_names = codes "table" ∷ codes "readers" ∷ codes "pages" ∷ codes "limit" ∷ []

-- the limits that the options give; the number of versions is always the greatest
abbrev pub limits_of : List Given → Option LimitNumbers
limits_of given =
    option_and_then (λ readers.
    option_and_then (λ pages.
    option_map (λ entries. record { reader_count = readers; page_count = pages; entry_limit = entries; version_limit = VERSIONS })
    (number_or 1 ENTRIES ENTRIES_UNLESS_GIVEN (value_of (codes "limit") given)))
    (number_or LEAST_PAGES PAGES PAGES_UNLESS_GIVEN (value_of (codes "pages") given)))
    (number_or 1 READERS READERS_UNLESS_GIVEN (value_of (codes "readers") given))

-- the command of options of `run`: the table has to be given
abbrev pub run_of : List Given → Option Command
run_of given = option_and_then (λ table. option_map (λ limits. Run table limits) (limits_of given))
    (option_and_then table_of (value_of (codes "table") given))

-- ---- gen

-- the options of `gen`
abbrev pub gen_names : List (List ℕ)
gen_names = codes "table" ∷ codes "number" ∷ codes "classes" ∷ codes "selectors" ∷ []

-- the command of options of `gen`: all have to be given, and the number has 32 bits
abbrev pub gen_of : List Given → Option Command
gen_of given =
    option_and_then (λ table.
    option_and_then (λ number.
    option_and_then (λ classes.
    option_map (λ selectors. Gen table number classes selectors)
    (given_number 1 GENERATED_SELECTORS (value_of (codes "selectors") given)))
    (given_number LEAST_GENERATED_CLASSES GENERATED_CLASSES (value_of (codes "classes") given)))
    (given_number 0 4294967295 (value_of (codes "number") given)))
    (option_and_then table_of (value_of (codes "table") given))

-- ---- the whole

-- the command that the words write: its name comes first, and then its options; none where they write no command
abbrev pub command_of : List (List ℕ) → Option Command
command_of [] = None
command_of (first ∷ rest) =
    if bytes_eq first (codes "run") then option_and_then run_of (options_of run_names rest)
    else (if bytes_eq first (codes "gen") then option_and_then gen_of (options_of gen_names rest) else None)

-- a script is generated with a number of classes and of selectors that there may be
abbrev pub IsSized : Command → Type 0
IsSized (Run table limits) = Unit {0}
IsSized (Gen table number classes selectors) = ((LEAST_GENERATED_CLASSES ≤ classes) × (classes ≤ GENERATED_CLASSES))
    × ((1 ≤ selectors) × (selectors ≤ GENERATED_SELECTORS))
