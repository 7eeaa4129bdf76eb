-- Small worked examples of the definitions.
use Rattle.std.specs.Prelude.{◌≡◌, ℕ, true, false, List, [], ◌∷◌, None, Some, replicate, refl}
use Rattle.dt_selectors.specs.Names.{Names, same_text, position_of, with_text, with_name, is_full_for, is_name_byte, is_name}
use Rattle.dt_selectors.specs.Rows.{selectors_from}
use Rattle.dt_selectors.specs.Selectors.{Selector, arity_in, has_selector, insert_selector, without_selector, add_cause, drop_cause}
use Rattle.dt_selectors.specs.declared.selectors.SelectorFault.TheVariants.{SelectorExists, SelectorUnknown}

-- three texts: "ab", "b" and "c"
abbrev pub ab : List ℕ
ab = 97 ∷ 98 ∷ []

abbrev pub b : List ℕ
b = 98 ∷ []

abbrev pub c : List ℕ
c = 99 ∷ []

-- a text is the same as itself, and not as one that it begins or that begins it, nor as one that ends otherwise
same_as_itself : same_text ab ab ≡ true
same_as_itself = refl

not_as_a_longer : same_text (97 ∷ []) ab ≡ false
not_as_a_longer = refl

not_as_a_shorter : same_text ab (97 ∷ []) ≡ false
not_as_a_shorter = refl

not_by_its_first_byte : same_text ab (97 ∷ 99 ∷ []) ≡ false
not_by_its_first_byte = refl

-- two names of at most two
abbrev pub two_names : Names
two_names = with_name (with_name (record { limit = 2; texts = [] }) ab) b

-- a name is numbered by its first appearance
numbered_in_order : position_of b two_names.texts ≡ Some 1
numbered_in_order = refl

first_of_all : position_of ab two_names.texts ≡ Some 0
first_of_all = refl

not_there : position_of c two_names.texts ≡ None
not_there = refl

-- of a text that stood twice the place would be the first
first_of_two : position_of b (ab ∷ b ∷ b ∷ []) ≡ Some 1
first_of_two = refl

-- a new text goes last, and the limit stays
goes_last : with_text c (b ∷ ab ∷ []) ≡ b ∷ ab ∷ c ∷ []
goes_last = refl

limit_stays : (with_name two_names c).limit ≡ 2
limit_stays = refl

-- and keeps its number when it comes again
number_stays : with_name two_names ab ≡ two_names
number_stays = refl

-- the third new name of a limit of two is full, and a known one isn't
third_is_full : is_full_for two_names c ≡ true
third_is_full = refl

known_is_not_full : is_full_for two_names b ≡ false
known_is_not_full = refl

-- nor is the second
second_is_not_full : is_full_for (record { limit = 2; texts = ab ∷ [] }) c ≡ false
second_is_not_full = refl

-- the bytes of a name go from ! to ~
first_name_byte : is_name_byte 33 ≡ true
first_name_byte = refl

last_name_byte : is_name_byte 126 ≡ true
last_name_byte = refl

before_name_bytes : is_name_byte 32 ≡ false
before_name_bytes = refl

after_name_bytes : is_name_byte 127 ≡ false
after_name_bytes = refl

-- a space doesn't stand in a name, and a name isn't empty
space_in_no_name : is_name (97 ∷ 32 ∷ []) ≡ false
space_in_no_name = refl

no_empty_name : is_name [] ≡ false
no_empty_name = refl

-- it has 64 bytes at most
longest_name : is_name (replicate 64 33) ≡ true
longest_name = refl

too_long_for_a_name : is_name (replicate 65 33) ≡ false
too_long_for_a_name = refl

-- selector 7 with one argument and selector 9 with two
abbrev pub two_selectors : List Selector
two_selectors =
    insert_selector (record { number = 7; arity = 1 }) (insert_selector (record { number = 9; arity = 2 }) [])

-- the lower number stands first, whichever came first, and a selector that comes again is replaced
in_order : two_selectors ≡ record { number = 7; arity = 1 } ∷ record { number = 9; arity = 2 } ∷ []
in_order = refl

goes_behind : insert_selector (record { number = 8; arity = 4 }) two_selectors
    ≡ record { number = 7; arity = 1 } ∷ record { number = 8; arity = 4 } ∷ record { number = 9; arity = 2 } ∷ []
goes_behind = refl

replaced : insert_selector (record { number = 9; arity = 3 }) two_selectors
    ≡ record { number = 7; arity = 1 } ∷ record { number = 9; arity = 3 } ∷ []
replaced = refl

-- each has its own arity
own_arity : arity_in two_selectors 9 ≡ Some 2
own_arity = refl

no_arity : arity_in two_selectors 8 ≡ None
no_arity = refl

is_there : has_selector two_selectors 7 ≡ true
is_there = refl

is_not_there : has_selector two_selectors 8 ≡ false
is_not_there = refl

-- a selector that is live isn't added, whatever its arity
live_is_not_added : add_cause two_selectors 7 ≡ Some SelectorExists
live_is_not_added = refl

new_is_added : add_cause two_selectors 8 ≡ None
new_is_added = refl

-- a selector that isn't live isn't dropped, and one that was dropped has no arity
unknown_is_not_dropped : drop_cause two_selectors 8 ≡ Some SelectorUnknown
unknown_is_not_dropped = refl

known_is_dropped : drop_cause two_selectors 9 ≡ None
known_is_dropped = refl

dropped_has_no_arity : arity_in (without_selector two_selectors 7) 7 ≡ None
dropped_has_no_arity = refl

the_other_stays : without_selector two_selectors 7 ≡ record { number = 9; arity = 2 } ∷ []
the_other_stays = refl

-- the rows of the numbers from 6 on
rows_show : selectors_from 6 (None ∷ Some 1 ∷ None ∷ Some 2 ∷ None ∷ []) ≡ two_selectors
rows_show = refl
