-- A number of at most ten digits is read by `parse`.
use Rattle.std.proofs.Common.{◌≡◌, ◌<◌, ◌≤◌, ◌^◌, ◌&&◌, ◌==◌, ℕ, Bool, true, false, cond, List, [], ◌∷◌, length, drop, arith, refl, ap, subst, sym}
use Rattle.std.specs.Prelude.{nat_le}
use Rattle.std.specs.List.{list_all}
use Rattle.std.specs.Char.{digit_value}
use Rattle.std.specs.Str.Parse.{AllDigits, IsNumeral, digits_value, without_leading_plus}
use Rattle.std.proofs.lemmas.Int.Digits.{digits_value-lt}
use Rattle.std.proofs.lemmas.Bool.Decides.{nat_tests}
use Rattle.std.proofs.Math.Nat.{pow-le-pow_right}
use Rattle.dt_words.specs.Number.{is_digit, is_number}

both : (a b : Bool) → (a && b) ≡ true → (a ≡ true) × (b ≡ true)
both true b h = (refl, h)
both false b h = absurd (cc)

value_of_digit : (byte : ℕ) → is_digit byte ≡ true → digit_value byte < 10
value_of_digit byte h = grind (arith, nat_tests)

all_digits : (bytes : List ℕ) → list_all is_digit bytes ≡ true → AllDigits 10 bytes
all_digits [] h = tt
all_digits (byte ∷ bytes) h =
    let parts = both (is_digit byte) (list_all is_digit bytes) h in
    (value_of_digit byte parts.0, all_digits bytes parts.1)

no_plus : (first : ℕ) (rest : List ℕ) → is_digit first ≡ true → without_leading_plus (first ∷ rest) ≡ first ∷ rest
no_plus first rest h =
    let other : (first == 43) ≡ false = grind (arith, nat_tests) in
    ap (λ (b : Bool). drop (cond b 1 0) (first ∷ rest)) other

ten_digits : (n : ℕ) (value : ℕ) → n ≤ 10 → value < 10 ^ n → value < 2 ^ 64
ten_digits n value h below =
    let most : 10 ^ n ≤ 10 ^ 10 = pow-le-pow_right (omega arith) h in
    omega (arith, most)

pub is_read : (text : List ℕ) → is_number text ≡ true → IsNumeral 10 (without_leading_plus text) × (digits_value 10 (without_leading_plus text) < 2 ^ 64)
is_read [] h = absurd (cc)
is_read (first ∷ rest) h =
    let text = first ∷ rest in
    let parts = both (nat_le 1 (length text)) _ h in
    let more = both (nat_le (length text) 10) _ parts.1 in
    let digits = both (list_all is_digit text) _ more.1 in
    let here = both (is_digit first) _ digits.0 in
    let all = all_digits text digits.0 in
    let short : length text ≤ 10 = grind (arith, nat_tests, more.0) in
    let fits = ten_digits (length text) (digits_value 10 text) short (digits_value-lt 10 text all) in
    subst (λ (t : List ℕ). IsNumeral 10 t × (digits_value 10 t < 2 ^ 64)) (sym (no_plus first rest here.0)) ((omega arith, all), fits)
