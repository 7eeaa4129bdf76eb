-- Small worked examples of lines: their words, their names, and the books before and after them.
use Rattle.std.specs.Prelude.{◌≡◌, ℕ, List, [], ◌∷◌, codes, get_or, true, false, refl}
use Rattle.std.proofs.Common.{ap, arith}
use Rattle.std.specs.Fmt.{digits}
use Rattle.dt_script.specs.NameBook.{NameBook, empty_book, number_in}
use Rattle.dt_script.specs.Growth.{GrewAtEnd}
use Rattle.dt_script.specs.Word.{AreTexts}
use Rattle.dt_script.specs.Line.{words_of, is_in_range, is_short, LineOf}
use Rattle.dt_script.specs.declared.line.Line.TheVariants.{Header, AddClass, DropClass, AddSelector, Define, Undefine, Begin, Caller, Call, End}

-- the book with some names of classes, and one with a name of each kind
abbrev classes_alone : List (List ℕ) → NameBook
classes_alone classes = record { classes = classes; selectors = []; bodies = [] }

abbrev of_each : List ℕ → List ℕ → List ℕ → NameBook
of_each class selector body = record { classes = class ∷ []; selectors = selector ∷ []; bodies = body ∷ [] }

-- a name's number is its place in its list, counted from 0
first_name : number_in (codes "A" ∷ codes "B" ∷ []) (codes "A") ≡ 0
first_name = refl

second_name : number_in (codes "A" ∷ codes "B" ∷ []) (codes "B") ≡ 1
second_name = refl

header_line : LineOf (codes "dispatch 1") empty_book Header empty_book
header_line = record {
  texts = codes "dispatch" ∷ codes "1" ∷ [];
  spelled = refl;
  are_words = refl;
  written = (refl, (refl, tt));
  numbered = refl;
  in_range = refl;
}

-- a new class below a known one gets the next number
class_below : LineOf (codes "class B < A") (classes_alone (codes "A" ∷ [])) (AddClass 1 (0 ∷ [])) (classes_alone (codes "A" ∷ codes "B" ∷ []))
class_below = record {
  texts = codes "class" ∷ codes "B" ∷ codes "<" ∷ codes "A" ∷ [];
  spelled = refl;
  are_words = refl;
  written = (refl, (refl, (refl, (refl, tt))));
  numbered = refl;
  in_range = refl;
}

-- names are numbered from left to right, and may be spelled as the words of the language
strange_names : LineOf (codes "class > < <") (classes_alone (codes "<" ∷ [])) (AddClass 1 (0 ∷ [])) (classes_alone (codes "<" ∷ codes ">" ∷ []))
strange_names = record {
  texts = codes "class" ∷ codes ">" ∷ codes "<" ∷ codes "<" ∷ [];
  spelled = refl;
  are_words = refl;
  written = (refl, (refl, (refl, (refl, tt))));
  numbered = refl;
  in_range = refl;
}

-- each kind of name has numbers of its own
arrows : LineOf (codes "define -> -> -> ->") empty_book (Define 0 (0 ∷ []) 0) (of_each (codes "->") (codes "->") (codes "->"))
arrows = record {
  texts = codes "define" ∷ codes "->" ∷ codes "->" ∷ codes "->" ∷ codes "->" ∷ [];
  spelled = refl;
  are_words = refl;
  written = (refl, (refl, (refl, (refl, (refl, tt)))));
  numbered = refl;
  in_range = refl;
}

-- a call numbers its names too
call_of_new_names : LineOf (codes "call f A B") empty_book (Call (record { selector = 0; classes = 0 ∷ 1 ∷ [] })) (record { classes = codes "A" ∷ codes "B" ∷ []; selectors = codes "f" ∷ []; bodies = [] })
call_of_new_names = record {
  texts = codes "call" ∷ codes "f" ∷ codes "A" ∷ codes "B" ∷ [];
  spelled = refl;
  are_words = refl;
  written = (refl, (refl, (refl, (refl, tt))));
  numbered = refl;
  in_range = refl;
}

-- where it is cut short there may be some of its names, of each kind the first
cut_short : GrewAtEnd (record { classes = codes "A" ∷ []; selectors = codes "f" ∷ []; bodies = [] }) (record { classes = codes "A" ∷ codes "B" ∷ []; selectors = codes "f" ∷ []; bodies = [] })
cut_short = record { classes = (codes "B" ∷ [], refl); selectors = ([], refl); bodies = ([], refl) }

no_name_before_its_turn : GrewAtEnd (classes_alone (codes "B" ∷ [])) (record { classes = codes "A" ∷ codes "B" ∷ []; selectors = codes "f" ∷ []; bodies = [] }) → ⊥
no_name_before_its_turn grew =
    let first : 65 ≡ 66 = ap (λ texts. get_or (get_or texts 0 []) 0 0) grew.classes.1 in
    omega (arith, first)

caller_of_two_digits : LineOf (codes "caller 12") empty_book (Caller 12) empty_book
unfolding digits
caller_of_two_digits = record {
  texts = codes "caller" ∷ codes "12" ∷ [];
  spelled = refl;
  are_words = refl;
  written = (refl, (refl, tt));
  numbered = refl;
  in_range = refl;
}

-- callers are from 1 to 256, and there are from 1 to 4 classes and arguments
no_caller_of_none : is_in_range (Caller 0) ≡ false
no_caller_of_none = refl

last_caller : is_in_range (Caller 256) ≡ true
last_caller = refl

no_caller_after_the_last : is_in_range (Caller 257) ≡ false
no_caller_after_the_last = refl

no_class : is_in_range (Undefine 0 []) ≡ false
no_class = refl

four_classes : is_in_range (Define 0 (1 ∷ 2 ∷ 3 ∷ 4 ∷ []) 0) ≡ true
four_classes = refl

five_classes : is_in_range (Define 0 (1 ∷ 2 ∷ 3 ∷ 4 ∷ 5 ∷ []) 0) ≡ false
five_classes = refl

five_arguments : is_in_range (AddSelector 0 5) ≡ false
five_arguments = refl

no_argument : is_in_range (AddSelector 0 0) ≡ false
no_argument = refl

four_classes_to_undefine : is_in_range (Undefine 0 (1 ∷ 2 ∷ 3 ∷ 4 ∷ [])) ≡ true
four_classes_to_undefine = refl

five_classes_to_undefine : is_in_range (Undefine 0 (1 ∷ 2 ∷ 3 ∷ 4 ∷ 5 ∷ [])) ≡ false
five_classes_to_undefine = refl

no_class_in_a_call : is_in_range (Call (record { selector = 0; classes = [] })) ≡ false
no_class_in_a_call = refl

five_classes_in_a_call : is_in_range (Call (record { selector = 0; classes = 1 ∷ 2 ∷ 3 ∷ 4 ∷ 5 ∷ [] })) ≡ false
five_classes_in_a_call = refl

-- callers have 16 bits, and so have numbers of arguments
arguments_of_17_bits : is_short (AddSelector 0 65536) ≡ false
arguments_of_17_bits = refl

greatest_caller_of_16_bits : is_short (Caller 65535) ≡ true
greatest_caller_of_16_bits = refl

caller_of_17_bits : is_short (Caller 65536) ≡ false
caller_of_17_bits = refl

-- the empty line has no meaning, and neither has a word that is none
no_text_of_no_words : AreTexts empty_book (words_of End) [] → ⊥
no_text_of_no_words texts = texts

no_text_past_the_words : AreTexts empty_book (words_of End) (codes "end" ∷ codes "end" ∷ []) → ⊥
no_text_past_the_words texts = texts.1

end_is_not_begin : AreTexts empty_book (words_of Begin) (codes "end" ∷ []) → ⊥
end_is_not_begin (same, none) = absurd cc

no_name_of_an_unknown_class : AreTexts (classes_alone (codes "A" ∷ [])) (words_of (DropClass 1)) (codes "drop" ∷ codes "B" ∷ []) → ⊥
no_name_of_an_unknown_class (same, (unknown, none)) = absurd cc
