-- The spelling of a generated line, from its words as they are put one after the other.
use Rattle.std.proofs.Common.{◌≡◌, ℕ, ◌<◌, List, [], ◌∷◌, ◌++◌, map, flat_map, length, codes, decimal, refl, sym, ap, ◌∙◌, append-nil, append_assoc, arith}
use Rattle.std.specs.Fmt.{digits}
use Rattle.std.specs.List.{join_with_byte}
use Rattle.std.proofs.lemmas.Grind.{flat_map-append}
use Rattle.std.proofs.lemmas.List.Folds.{flat_map-map}
use Rattle.dt_scratch.specs.Query.{Query}
use Rattle.dt_script.specs.Word.{Word, Plain, Class, Selector, Body}
use Rattle.dt_script.specs.GeneratedText.{generated_word, ended}
use Rattle.dt_script.specs.declared.line.Line.TheVariants as line

-- words, each behind a space
abbrev pub spaced : List Word → List ℕ
spaced words = flat_map (λ word. 32 ∷ generated_word word) words

-- and the names of classes
abbrev pub tuple_text : List ℕ → List ℕ
tuple_text classes = flat_map (λ class. 32 ∷ generated_word (Class class)) classes

pub joined_words : (first : List ℕ) (words : List Word) → join_with_byte 32 (first ∷ map generated_word words) ≡ first ++ spaced words
joined_words first [] = sym (append-nil first)
joined_words first (word ∷ words) = ap (λ l. first ++ 32 ∷ l) (joined_words (generated_word word) words)

spaced_classes : (classes : List ℕ) → spaced (map Class classes) ≡ tuple_text classes
spaced_classes classes = flat_map-map (λ word. 32 ∷ generated_word word) Class classes

keyed : (key : List ℕ) (selector : ℕ) (classes : List ℕ)
    → join_with_byte 32 (key ∷ map generated_word (Selector selector ∷ map Class classes)) ≡ key ++ 32 ∷ 115 ∷ decimal selector ++ tuple_text classes
keyed key selector classes =
    joined_words key (Selector selector ∷ map Class classes)
    ∙ ap (λ l. key ++ (32 ∷ 115 ∷ decimal selector ++ l)) (spaced_classes classes)
    ∙ sym (append_assoc key (32 ∷ 115 ∷ decimal selector) (tuple_text classes))

-- what is put piece by piece is put as a whole
pub put_two : (old first new a b whole : List ℕ) → first ≡ old ++ a → new ≡ first ++ b → whole ≡ a ++ b → new ≡ old ++ whole
put_two old first new a b whole is then are = then ∙ ap (λ l. l ++ b) is ∙ append_assoc old a b ∙ ap (λ l. old ++ l) (sym are)

regroup : (a b c d : List ℕ) → a ++ (b ++ (c ++ d)) ≡ ((a ++ b) ++ c) ++ d
regroup a b c d = sym (append_assoc (a ++ b) c d ∙ append_assoc a b (c ++ d))

pub first_class_text : codes "class c0\n" ≡ ended (line.AddClass 0 [])
unfolding digits
first_class_text = refl

pub undefine_text : (selector : ℕ) (classes : List ℕ)
    → ended (line.Undefine selector classes) ≡ (codes "undefine" ++ 32 ∷ 115 ∷ decimal selector ++ tuple_text classes) ++ 10 ∷ []
undefine_text selector classes = ap (λ l. l ++ 10 ∷ []) (keyed (codes "undefine") selector classes)

pub call_text : (query : Query)
    → ended (line.Call query) ≡ (codes "call" ++ 32 ∷ 115 ∷ decimal query.selector ++ tuple_text query.classes) ++ 10 ∷ []
call_text query = ap (λ l. l ++ 10 ∷ []) (keyed (codes "call") query.selector query.classes)

-- a definition
pub define_text : (selector : ℕ) (classes : List ℕ) (body : ℕ) → ended (line.Define selector classes body)
    ≡ (((codes "define" ++ 32 ∷ 115 ∷ decimal selector ++ tuple_text classes) ++ codes " ->") ++ 32 ∷ 98 ∷ decimal body) ++ 10 ∷ []
define_text selector classes body = ap (λ l. l ++ 10 ∷ [])
    (joined_words (codes "define") (Selector selector ∷ map Class classes ++ Plain (codes "->") ∷ Body body ∷ [])
    ∙ ap (λ l. codes "define" ++ (32 ∷ 115 ∷ decimal selector ++ l)) behind
    ∙ sym (append_assoc (codes "define") (32 ∷ 115 ∷ decimal selector) (tuple_text classes ++ (codes " ->" ++ 32 ∷ 98 ∷ decimal body)))
    ∙ regroup (codes "define" ++ 32 ∷ 115 ∷ decimal selector) (tuple_text classes) (codes " ->") (32 ∷ 98 ∷ decimal body))
  where
    behind : spaced (map Class classes ++ Plain (codes "->") ∷ Body body ∷ []) ≡ tuple_text classes ++ (codes " ->" ++ 32 ∷ 98 ∷ decimal body)
    behind =
        flat_map-append (λ word. 32 ∷ generated_word word) (map Class classes) (Plain (codes "->") ∷ Body body ∷ [])
        ∙ ap (λ l. l ++ spaced (Plain (codes "->") ∷ Body body ∷ [])) (spaced_classes classes)
        ∙ ap (λ l. tuple_text classes ++ (codes " ->" ++ 32 ∷ 98 ∷ l)) (append-nil (decimal body))

-- a class with parents
pub class_text : (class : ℕ) (parents : List ℕ) → 0 < length parents → ended (line.AddClass class parents)
    ≡ (((codes "class" ++ 32 ∷ 99 ∷ decimal class) ++ codes " <") ++ tuple_text parents) ++ 10 ∷ []
class_text class [] some = absurd (omega (arith, some))
class_text class (parent ∷ parents) some = ap (λ l. l ++ 10 ∷ [])
    (joined_words (codes "class") (Class class ∷ Plain (codes "<") ∷ map Class (parent ∷ parents))
    ∙ ap (λ l. codes "class" ++ (32 ∷ 99 ∷ decimal class ++ (codes " <" ++ l))) (spaced_classes (parent ∷ parents))
    ∙ regroup (codes "class") (32 ∷ 99 ∷ decimal class) (codes " <") (tuple_text (parent ∷ parents)))

-- and each as it is put piece by piece
five : (old a b c d e : List ℕ) → ((((old ++ a) ++ b) ++ c) ++ d) ++ e ≡ old ++ ((((a ++ b) ++ c) ++ d) ++ e)
five old a b c d e = simp append_assoc

four : (old a b c d : List ℕ) → (((old ++ a) ++ b) ++ c) ++ d ≡ old ++ (((a ++ b) ++ c) ++ d)
four old a b c d = simp append_assoc

pub class_put : (old new : List ℕ) (class : ℕ) (parents : List ℕ) → 0 < length parents
    → new ≡ ((((old ++ codes "class") ++ 32 ∷ 99 ∷ decimal class) ++ codes " <") ++ tuple_text parents) ++ 10 ∷ []
    → new ≡ old ++ ended (line.AddClass class parents)
class_put old new class parents some is =
    is ∙ five old (codes "class") (32 ∷ 99 ∷ decimal class) (codes " <") (tuple_text parents) (10 ∷ [])
    ∙ ap (λ l. old ++ l) (sym (class_text class parents some))

pub define_put : (old new : List ℕ) (selector : ℕ) (classes : List ℕ) (body : ℕ)
    → new ≡ (((old ++ (codes "define" ++ 32 ∷ 115 ∷ decimal selector ++ tuple_text classes)) ++ codes " ->") ++ 32 ∷ 98 ∷ decimal body) ++ 10 ∷ []
    → new ≡ old ++ ended (line.Define selector classes body)
define_put old new selector classes body is =
    is ∙ four old (codes "define" ++ 32 ∷ 115 ∷ decimal selector ++ tuple_text classes) (codes " ->") (32 ∷ 98 ∷ decimal body) (10 ∷ [])
    ∙ ap (λ l. old ++ l) (sym (define_text selector classes body))
