-- Numbers of a command line.
use Rattle.std.specs.Prelude.{ℕ, Bool, ◌==◌, ◌&&◌, false, not, nat_le, if◌then◌else◌, List, ◌∷◌, length, Option, Some, None, option_and_then}
use Rattle.std.specs.List.{list_all}
use Rattle.std.specs.Str.Parse.{digits_value}
use Rattle.dt_words.specs.declared.number.TheConstants.{DIGITS}

-- a decimal digit
abbrev pub is_digit : ℕ → Bool
is_digit byte = nat_le 48 byte && nat_le byte 57

-- whether the text has two bytes or more and begins with 0
abbrev pub has_leading_zero : List ℕ → Bool
has_leading_zero (first ∷ second ∷ rest) = first == 48
has_leading_zero _ = false

-- whether the text is a number: 1 to 10 decimal digits, and no leading zero
abbrev pub is_number : List ℕ → Bool
is_number text = nat_le 1 (length text) && (nat_le (length text) DIGITS && (list_all is_digit text && not (has_leading_zero text)))

-- the number that the text writes, if it writes one
abbrev pub number_of : List ℕ → Option ℕ
number_of text = if is_number text then Some (digits_value 10 text) else None

-- the number, if it is in the range
abbrev pub in_range : ℕ → ℕ → ℕ → Option ℕ
in_range least most number = if nat_le least number && nat_le number most then Some number else None

-- the number that the text writes, if it writes one in this range
abbrev pub number_in : ℕ → ℕ → List ℕ → Option ℕ
number_in least most text = option_and_then (in_range least most) (number_of text)
