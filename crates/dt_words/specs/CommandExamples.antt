-- Worked examples: words that write a command, and words that write none.
use Rattle.std.specs.Prelude.{◌≡◌, ℕ, ◌≤◌, Bool, true, false, [], ◌∷◌, codes, Some, None, refl}
use Rattle.std.proofs.Common.{arith}
use Rattle.dt_words.specs.Number.{number_of}
use Rattle.dt_words.specs.Options.{after_hyphens, options_of}
use Rattle.dt_words.specs.Limits.{are_limits, limits_unless_given}
use Rattle.dt_words.specs.CommandOf.{command_of, IsSized}
use Rattle.dt_words.specs.declared.command.Table.TheVariants.{Sti, Colour, Row, Mrd}
use Rattle.dt_words.specs.declared.command.Command.TheVariants.{Run, Gen}

-- ---- numbers

zero_alone : number_of (codes "0") ≡ Some 0
zero_alone = refl

ten_digits : number_of (codes "2147483648") ≡ Some 2147483648
ten_digits = refl

eleven_digits : number_of (codes "12345678901") ≡ None
eleven_digits = refl

a_leading_zero : number_of (codes "08") ≡ None
a_leading_zero = refl

a_sign : number_of (codes "+8") ≡ None
a_sign = refl

no_digit : number_of [] ≡ None
no_digit = refl

-- the bytes before `0` and after `9`
a_slash : number_of (codes "/") ≡ None
a_slash = refl

a_colon : number_of (codes ":") ≡ None
a_colon = refl

-- ---- ranges of limits

abbrev in_ranges : ℕ → ℕ → ℕ → ℕ → Bool
in_ranges readers pages entries versions = are_limits (record { reader_count = readers; page_count = pages; entry_limit = entries; version_limit = versions })

the_least : in_ranges 1 16 1 1 ≡ true
the_least = refl

the_greatest : in_ranges 256 65536 2147483648 281474976710656 ≡ true
the_greatest = refl

no_readers : in_ranges 0 16 1 1 ≡ false
no_readers = refl

too_few_pages : in_ranges 1 15 1 1 ≡ false
too_few_pages = refl

no_entries : in_ranges 1 16 0 1 ≡ false
no_entries = refl

no_versions : in_ranges 1 16 1 0 ≡ false
no_versions = refl

too_many_readers : in_ranges 257 65536 2147483648 281474976710656 ≡ false
too_many_readers = refl

too_many_pages : in_ranges 256 65537 2147483648 281474976710656 ≡ false
too_many_pages = refl

too_many_entries : in_ranges 256 65536 2147483649 281474976710656 ≡ false
too_many_entries = refl

too_many_versions : in_ranges 256 65536 2147483648 281474976710657 ≡ false
too_many_versions = refl

-- ---- words that write a command

the_shortest : command_of (codes "run" ∷ codes "--table" ∷ codes "sti" ∷ []) ≡ Some (Run Sti limits_unless_given)
the_shortest = refl

all_options_in_another_order :
    command_of (codes "run" ∷ codes "--limit" ∷ codes "3" ∷ codes "--pages" ∷ codes "16" ∷ codes "--readers" ∷ codes "256" ∷ codes "--table" ∷ codes "mrd" ∷ [])
    ≡ Some (Run Mrd (record { reader_count = 256; page_count = 16; entry_limit = 3; version_limit = 281474976710656 }))
all_options_in_another_order = refl

both_spellings :
    command_of (codes "run" ∷ codes "--table=mrd" ∷ codes "--readers" ∷ codes "8" ∷ codes "--limit=2147483648" ∷ []) ≡ Some (Run Mrd limits_unless_given)
both_spellings = refl

a_table_of_colours : command_of (codes "run" ∷ codes "--table=colour" ∷ []) ≡ Some (Run Colour limits_unless_given)
a_table_of_colours = refl

a_table_of_rows : command_of (codes "run" ∷ codes "--table=row" ∷ []) ≡ Some (Run Row limits_unless_given)
a_table_of_rows = refl

the_greatest_limits :
    command_of (codes "run" ∷ codes "--table=sti" ∷ codes "--readers=256" ∷ codes "--pages=65536" ∷ codes "--limit=1" ∷ [])
    ≡ Some (Run Sti (record { reader_count = 256; page_count = 65536; entry_limit = 1; version_limit = 281474976710656 }))
the_greatest_limits = refl

a_generated_script :
    command_of (codes "gen" ∷ codes "--table" ∷ codes "sti" ∷ codes "--number=0" ∷ codes "--classes=2" ∷ codes "--selectors=1" ∷ [])
    ≡ Some (Gen Sti 0 2 1)
a_generated_script = refl

-- ---- words that write none

no_word : command_of [] ≡ None
no_word = refl

an_empty_word : command_of (codes "run" ∷ codes "--table" ∷ codes "sti" ∷ [] ∷ []) ≡ None
an_empty_word = refl

no_table : command_of (codes "run" ∷ []) ≡ None
no_table = refl

an_option_twice : command_of (codes "run" ∷ codes "--table" ∷ codes "sti" ∷ codes "--table=sti" ∷ []) ≡ None
an_option_twice = refl

a_number_with_a_leading_zero : command_of (codes "run" ∷ codes "--table=sti" ∷ codes "--readers=08" ∷ []) ≡ None
a_number_with_a_leading_zero = refl

no_reader : command_of (codes "run" ∷ codes "--table=sti" ∷ codes "--readers" ∷ codes "0" ∷ []) ≡ None
no_reader = refl

a_limit_past_its_range : command_of (codes "run" ∷ codes "--table=sti" ∷ codes "--limit=2147483649" ∷ []) ≡ None
a_limit_past_its_range = refl

two_hyphens : command_of (codes "run" ∷ codes "--table=sti" ∷ codes "--" ∷ []) ≡ None
two_hyphens = refl

two_hyphens_for_a_value : command_of (codes "run" ∷ codes "--table" ∷ codes "--" ∷ codes "sti" ∷ []) ≡ None
two_hyphens_for_a_value = refl

no_value : command_of (codes "run" ∷ codes "--table=sti" ∷ codes "--readers" ∷ []) ≡ None
no_value = refl

an_empty_value : command_of (codes "run" ∷ codes "--table=" ∷ []) ≡ None
an_empty_value = refl

an_empty_name : command_of (codes "run" ∷ codes "--table=sti" ∷ codes "--=8" ∷ []) ≡ None
an_empty_name = refl

one_hyphen : command_of (codes "run" ∷ codes "-t" ∷ codes "sti" ∷ []) ≡ None
one_hyphen = refl

an_option_of_the_other_command : command_of (codes "run" ∷ codes "--table=sti" ∷ codes "--number=0" ∷ []) ≡ None
an_option_of_the_other_command = refl

help : command_of (codes "run" ∷ codes "--help" ∷ []) ≡ None
help = refl

an_option_twice_with_its_value : command_of (codes "run" ∷ codes "--table=sti" ∷ codes "--table=sti" ∷ []) ≡ None
an_option_twice_with_its_value = refl

an_option_of_the_other_command_and_its_value : command_of (codes "run" ∷ codes "--table=sti" ∷ codes "--number" ∷ codes "0" ∷ []) ≡ None
an_option_of_the_other_command_and_its_value = refl

the_number_of_versions_is_not_given : command_of (codes "run" ∷ codes "--table=sti" ∷ codes "--versions=1" ∷ []) ≡ None
the_number_of_versions_is_not_given = refl

a_hyphen_and_a_letter : command_of (codes "run" ∷ codes "-xtable=sti" ∷ []) ≡ None
a_hyphen_and_a_letter = refl

a_letter_and_a_hyphen : command_of (codes "run" ∷ codes "x-table=sti" ∷ []) ≡ None
a_letter_and_a_hyphen = refl

nothing_after_hyphens : after_hyphens (codes "--") ≡ None
nothing_after_hyphens = refl

-- whatever value an option might take
a_value_with_a_hyphen : options_of (codes "table" ∷ []) (codes "--table" ∷ codes "-x" ∷ []) ≡ None
a_value_with_a_hyphen = refl

a_reader_too_many : command_of (codes "run" ∷ codes "--table=sti" ∷ codes "--readers=257" ∷ []) ≡ None
a_reader_too_many = refl

a_page_too_few : command_of (codes "run" ∷ codes "--table=sti" ∷ codes "--pages=15" ∷ []) ≡ None
a_page_too_few = refl

a_page_too_many : command_of (codes "run" ∷ codes "--table=sti" ∷ codes "--pages=65537" ∷ []) ≡ None
a_page_too_many = refl

no_entry : command_of (codes "run" ∷ codes "--table=sti" ∷ codes "--limit=0" ∷ []) ≡ None
no_entry = refl

a_class_too_few : command_of (codes "gen" ∷ codes "--table=sti" ∷ codes "--number=0" ∷ codes "--classes=1" ∷ codes "--selectors=1" ∷ []) ≡ None
a_class_too_few = refl

a_class_too_many : command_of (codes "gen" ∷ codes "--table=sti" ∷ codes "--number=0" ∷ codes "--classes=2049" ∷ codes "--selectors=1" ∷ []) ≡ None
a_class_too_many = refl

no_selector : command_of (codes "gen" ∷ codes "--table=sti" ∷ codes "--number=0" ∷ codes "--classes=2" ∷ codes "--selectors=0" ∷ []) ≡ None
no_selector = refl

a_selector_too_many : command_of (codes "gen" ∷ codes "--table=sti" ∷ codes "--number=0" ∷ codes "--classes=2" ∷ codes "--selectors=4097" ∷ []) ≡ None
a_selector_too_many = refl

a_number_of_33_bits : command_of (codes "gen" ∷ codes "--table=sti" ∷ codes "--number=4294967296" ∷ codes "--classes=2" ∷ codes "--selectors=1" ∷ []) ≡ None
a_number_of_33_bits = refl

-- ---- whole commands

the_greatest_generated_script :
    command_of (codes "gen" ∷ codes "--table=mrd" ∷ codes "--number=4294967295" ∷ codes "--classes=2048" ∷ codes "--selectors=4096" ∷ [])
    ≡ Some (Gen Mrd 4294967295 2048 4096)
the_greatest_generated_script = refl

a_generated_script_has_two_classes : IsSized (Gen Sti 0 1 1) → ⊥
a_generated_script_has_two_classes sized = let least : 2 ≤ 1 = sized.0.0 in omega (arith, least)

and_some_selector : IsSized (Gen Sti 0 2 0) → ⊥
and_some_selector sized = let least : 1 ≤ 0 = sized.1.0 in omega (arith, least)

no_more_classes_than_there_are : IsSized (Gen Sti 0 2049 1) → ⊥
no_more_classes_than_there_are sized = let most : 2049 ≤ 2048 = sized.0.1 in omega (arith, most)

no_more_selectors_than_there_are : IsSized (Gen Sti 0 2 4097) → ⊥
no_more_selectors_than_there_are sized = let most : 4097 ≤ 4096 = sized.1.1 in omega (arith, most)

the_shortest_run : command_of (codes "run" ∷ codes "--table" ∷ codes "sti" ∷ []) ≡ Some (Run Sti limits_unless_given)
the_shortest_run = refl

the_smallest_generated_script :
    command_of (codes "gen" ∷ codes "--table" ∷ codes "sti" ∷ codes "--number=0" ∷ codes "--classes=2" ∷ codes "--selectors=1" ∷ []) ≡ Some (Gen Sti 0 2 1)
the_smallest_generated_script = refl
