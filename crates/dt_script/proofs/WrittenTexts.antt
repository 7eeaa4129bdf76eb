-- The texts of the words of a written line.
use Rattle.std.proofs.Common.{◌≡◌, ◌≢◌, ℕ, ◌+◌, ◌-◌, ◌<◌, ◌≤◌, IsTrue, Bor, List, [], ◌∷◌, ◌++◌, map, length, get_or, codes, decimal, Option, Some, None, MatchOption, nat_le, refl, sym, ap, ◌∙◌, arith, length-append}
use Rattle.std.proofs.lemmas.Bool.{and_parts, and_from, leb-true}
use Rattle.std.proofs.lemmas.Bool.Decides.{nat_tests}
use Rattle.std.proofs.lemmas.Fmt.{decimal_digit}
use Rattle.std.specs.Option.{SomeIff, option_copied}
use Rattle.dt_script.specs.Cut.{parts_at}
use Rattle.dt_script.specs.Words.{words_left}
use Rattle.dt_script.specs.Line.{is_from_one_to}
use Rattle.dt_script.specs.Written.{text_of_token, ClassName}

-- the names of classes are spelled as they are
pub texts-names : (names : List (List ℕ)) → map text_of_token (map ClassName names) ≡ names
texts-names [] = refl
texts-names (name ∷ names) = ap (λ l. name ∷ l) (texts-names names)

-- the two bounds of a number that is from one to the greatest
pub bounds : (greatest number : ℕ) → IsTrue (is_from_one_to greatest number) → (1 ≤ number) × (number ≤ greatest)
bounds greatest number is =
    let both = and_parts (nat_le 1 number) (nat_le number greatest) is in
    (leb-true 1 number both.0, leb-true number greatest both.1)

pub from_bounds : (greatest number : ℕ) → 1 ≤ number → number ≤ greatest → IsTrue (is_from_one_to greatest number)
from_bounds greatest number low high =
    and_from (nat_le 1 number) (nat_le number greatest) (grind (arith, nat_tests)) (grind (arith, nat_tests))

-- where two words stand after classes, they are the last two
pub same_last : (xs ys : List (List ℕ)) (a b a' b' : List ℕ) → xs ++ a ∷ b ∷ [] ≡ ys ++ a' ∷ b' ∷ [] → (a ≡ a') × (b ≡ b')
same_last [] [] a b a' b' e = (cc, cc)
same_last [] (y ∷ []) a b a' b' e = absurd (omega (arith, ap length e))
same_last [] (y ∷ z ∷ ys) a b a' b' e = absurd (omega (arith, ap length e, length-append ys (a' ∷ b' ∷ [])))
same_last (x ∷ []) [] a b a' b' e = absurd (omega (arith, ap length e))
same_last (x ∷ z ∷ xs) [] a b a' b' e = absurd (omega (arith, ap length e, length-append xs (a ∷ b ∷ [])))
same_last (x ∷ xs) (y ∷ ys) a b a' b' e = let rest : xs ++ a ∷ b ∷ [] ≡ ys ++ a' ∷ b' ∷ [] = cc in same_last xs ys a b a' b' rest

-- the words of a class with parents
pub class_texts : (bytes class less rest parents : List ℕ) → parts_at 32 bytes ≡ class ∷ parts_at 32 rest → parts_at 32 rest ≡ less ∷ parts_at 32 parents → less ≡ codes "<"
    → codes "class" ∷ class ∷ codes "<" ∷ map text_of_token (map ClassName (parts_at 32 parents)) ≡ codes "class" ∷ parts_at 32 bytes
class_texts bytes class less rest parents first second is =
    ap (λ l. codes "class" ∷ l) (sym (first ∙ ap (λ l. class ∷ l) (second ∙ ap (λ l. l ∷ parts_at 32 parents) is ∙ ap (λ l. codes "<" ∷ l) (sym (texts-names (parts_at 32 parents))))))

-- the words of a line are the first and those that are left
pub first_word : (bytes word : List ℕ) (rest : Option (Bor (List ℕ))) → MatchOption rest (parts_at 32 bytes ≡ word ∷ []) (λ r. parts_at 32 bytes ≡ word ∷ parts_at 32 r.now)
    → parts_at 32 bytes ≡ word ∷ words_left (option_copied rest)
first_word bytes word None is = is
first_word bytes word (Some r) is = is

-- where no arrow stands before the last word, there is no definition
pub other_arrow : (texts words classes classes' : List (List ℕ)) (selector selector' body body' arrow : List ℕ) → texts ≡ selector ∷ words → words ≡ classes ++ arrow ∷ body ∷ []
    → texts ≡ selector' ∷ classes' ++ codes "->" ∷ body' ∷ [] → arrow ≡ codes "->"
other_arrow texts words classes classes' selector selector' body body' arrow first is spelled =
    let same : classes ++ arrow ∷ body ∷ [] ≡ classes' ++ codes "->" ∷ body' ∷ [] = cc in
    (same_last classes classes' arrow body (codes "->") body' same).0

-- an arity is spelled by one byte
pub arity_is_one_byte : (word : List ℕ) → length word ≢ 1 → (arity : ℕ) → IsTrue (is_from_one_to 4 arity) → decimal arity ≡ word → ⊥
arity_is_one_byte word long arity is spelled =
    let within = bounds 4 arity is in
    long (sym (ap length spelled) ∙ ap length (decimal_digit arity (omega (arith, within.1))))

-- from `0` on
pub arity_from_zero : (word : List ℕ) → (48 ≤ get_or word 0 0 → ⊥) → (arity : ℕ) → IsTrue (is_from_one_to 4 arity) → decimal arity ≡ word → ⊥
arity_from_zero word below arity is spelled =
    let within = bounds 4 arity is in
    let first : 48 + arity ≡ get_or word 0 0 = ap (λ l. get_or l 0 0) (sym (decimal_digit arity (omega (arith, within.1))) ∙ spelled) in
    below (omega (arith, first))

-- and it is the number after that
one_byte : (word : List ℕ) → length word ≡ 1 → word ≡ get_or word 0 0 ∷ []
one_byte [] one = absurd (omega (arith, one))
one_byte (x ∷ []) one = refl
one_byte (x ∷ y ∷ word) one = absurd (omega (arith, one))

pub arity_found : (word : List ℕ) (number : ℕ) (found : Option ℕ) → length word ≡ 1 → 48 ≤ get_or word 0 0 → number ≡ get_or word 0 0 - 48 → SomeIff found ((0 < number) × (number ≤ 4)) number
    → MatchOption found ((arity : ℕ) → IsTrue (is_from_one_to 4 arity) → decimal arity ≡ word → ⊥) (λ arity. (decimal arity ≡ word) × IsTrue (is_from_one_to 4 arity))
arity_found word number None one from is found = λ arity is_arity spelled.
    let within = bounds 4 arity is_arity in
    let first : 48 + arity ≡ get_or word 0 0 = ap (λ l. get_or l 0 0) (sym (decimal_digit arity (omega (arith, within.1))) ∙ spelled) in
    found (omega (arith, first), omega (arith, first))
arity_found word number (Some arity) one from is (within, same) = (
  ap decimal same ∙ decimal_digit number (omega (arith, within.1)) ∙ ap (λ n. n ∷ []) (omega arith) ∙ sym (one_byte word one),
  from_bounds 4 arity (omega (arith, same)) (omega (arith, same)),
)

-- the same where the words are those that are left
pub left_words : (left rest : Option (Bor (List ℕ))) (bytes : Bor (List ℕ)) (word : List ℕ) → left ≡ Some bytes → MatchOption rest (parts_at 32 bytes.now ≡ word ∷ []) (λ r. parts_at 32 bytes.now ≡ word ∷ parts_at 32 r.now)
    → words_left (option_copied left) ≡ word ∷ words_left (option_copied rest)
left_words left rest bytes word is cut = ap (λ l. words_left (option_copied l)) is ∙ first_word bytes.now word rest cut
