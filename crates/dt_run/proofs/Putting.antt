-- Texts that go out one after another.
use Rattle.std.proofs.Common.{◌≡◌, true, false, ℕ, ◌+◌, ◌<◌, ◌≤◌, List, [], ◌∷◌, ◌++◌, length, take, drop, get_or, map, flat_map, Option, Some, None, Result, Ok, Err, refl, sym, ap, subst, ◌∙◌, arith, append_assoc, append-nil}
use Rattle.std.specs.Prelude.{IsErr, OnOk}
use Rattle.std.specs.List.{join_with_byte}
use Rattle.std.specs.Io.KnownBytes.{Appends}
use Rattle.std.proofs.lemmas.List.{take-append-drop, take_more}
use Rattle.std.proofs.lemmas.Grind.{flat_map-append}
use Rattle.dt_outside.specs.Faults.{IsCounted, one_fault_more}
use Rattle.dt_outside.specs.Putting.{AppendsPrefix}
use Rattle.dt_run.specs.LogWord.{text_of_log_word}
use Rattle.dt_run.specs.declared.print.words.LogWord.{LogWord}
use Rattle.dt_run.specs.Putting.{Out, out_of, Takes, IsPut, IsCutOff, Put, spaced, spaced_words, line_of}

-- what a sink took in two turns
pub appends_more : (old middle new : Option (List ℕ)) (a b : List ℕ) → Appends old middle a → Appends middle new b → Appends old new (a ++ b)
appends_more None middle new a b first second = tt
appends_more (Some xs) None new a b first second = absurd first
appends_more (Some xs) (Some ys) None a b first second = absurd second
appends_more (Some xs) (Some ys) (Some zs) a b first second = second ∙ ap (λ l. l ++ b) first ∙ append_assoc xs a b

-- a text is split at two places
split_twice : (h a f h' b f' r : List ℕ) → h ++ a ≡ f ++ h' → h' ++ b ≡ f' ++ r → h ++ (a ++ b) ≡ (f ++ f') ++ r
split_twice h a f h' b f' r e e' =
    sym (append_assoc h a b) ∙ ap (λ l. l ++ b) e ∙ append_assoc f h' b ∙ ap (λ l. f ++ l) e' ∙ sym (append_assoc f f' r)

pub takes_more : (s0 s1 s2 : Out) (a b rest : List ℕ) → Takes s0 s1 a s1.held → Takes s1 s2 b rest → Takes s0 s2 (a ++ b) rest
takes_more s0 s1 s2 a b rest t u = record {
  front = t.front ++ u.front;
  appended = appends_more s0.taken s1.taken s2.taken t.front u.front t.appended u.appended;
  split = split_twice s0.held a t.front s1.held b u.front rest t.split u.split;
}

-- a text, and then another
pub then_more : {E : Type 0} (r : Result Unit E) (s0 s1 s2 : Out) (a b : List ℕ) → IsPut s0 s1 a → Put r s1 s2 b → Put r s0 s2 (a ++ b)
then_more (Ok done) s0 s1 s2 a b (t, same) (u, same') = (takes_more s0 s1 s2 a b s2.held t u, same' ∙ same)
then_more (Err fault) s0 s1 s2 a b (t, same) (rest, u, once, counts) =
    (rest, takes_more s0 s1 s2 a b rest t u, once ∙ ap one_fault_more same, omega (arith, counts, same))

wrong : false ≡ true → ⊥
wrong is = cc

-- where a text wasn't put whole, the text with more after it wasn't
pub stopped : {E : Type 0} (r : Result Unit E) (s0 s1 : Out) (a b : List ℕ) → IsErr r → IsCutOff s0 s1 a → Put r s0 s1 (a ++ b)
stopped (Ok done) s0 s1 a b err put = absurd (wrong err)
stopped (Err fault) s0 s1 a b err (rest, t, once, counts) = (
  rest ++ b,
  record {
    front = t.front;
    appended = t.appended;
    split = sym (append_assoc s0.held a b) ∙ ap (λ l. l ++ b) t.split ∙ append_assoc t.front rest b;
  },
  once,
  counts,
)

-- a prefix of what was held and the text is a front of it
pub front_of_prefix : {E : Type 0} (r : Result Unit E) (s0 s1 : Out) (text : List ℕ) → IsErr r → AppendsPrefix s0.taken s1.taken (s0.held ++ text)
    → s1.faults ≡ one_fault_more s0.faults → s0.faults ≤ s1.faults → Put r s0 s1 text
front_of_prefix (Ok done) s0 s1 text err prefix once counts = absurd (wrong err)
front_of_prefix (Err fault) s0 s1 text err (count, few, taken) once counts = (
  drop count (s0.held ++ text),
  record {
    front = take count (s0.held ++ text);
    appended = taken;
    split = sym (take-append-drop count (s0.held ++ text));
  },
  once,
  counts,
)

-- a text that is put at once, where nothing is held
pub put_at_once : {E : Type 0} (r : Result Unit E) (before after : Option (List ℕ)) (faults faults' : ℕ) (text : List ℕ) → OnOk r (Appends before after text)
    → AppendsPrefix before after text → IsCounted r faults faults' → faults ≤ faults' → Put r (out_of before faults []) (out_of after faults' []) text
put_at_once (Ok done) before after faults faults' text taken prefix counted counts = (record { front = text; appended = taken; split = sym (append-nil text) }, counted)
put_at_once (Err fault) before after faults faults' text taken prefix counted counts =
    front_of_prefix (Err fault) (out_of before faults []) (out_of after faults' []) text refl prefix counted counts

-- the first word, and then each further one behind a space
pub join_spaced : (word : List ℕ) (words : List (List ℕ)) → join_with_byte 32 (word ∷ words) ≡ word ++ spaced words
join_spaced word [] = sym (append-nil word)
join_spaced word (next ∷ words) = ap (λ l. word ++ 32 ∷ l) (join_spaced next words)

pub spaced_append : (texts more : List (List ℕ)) → spaced (texts ++ more) ≡ spaced texts ++ spaced more
spaced_append [] more = refl
spaced_append (text ∷ texts) more = ap (λ l. 32 ∷ text ++ l) (spaced_append texts more) ∙ sym (append_assoc (32 ∷ text) (spaced texts) (spaced more))

pub words_spaced : (words : List LogWord) → spaced_words words ≡ spaced (map text_of_log_word words)
words_spaced [] = refl
words_spaced (word ∷ words) = ap (λ l. 32 ∷ text_of_log_word word ++ l) (words_spaced words)

-- a line, and the same in two parts
whole_line : (first : List ℕ) (texts : List (List ℕ)) → (first ++ spaced texts) ++ 10 ∷ [] ≡ line_of (first ∷ texts)
whole_line first texts = ap (λ l. l ++ 10 ∷ []) (sym (join_spaced first texts))

pub line_of_words : (first : List ℕ) (words : List LogWord) → (first ++ spaced_words words) ++ 10 ∷ [] ≡ line_of (first ∷ map text_of_log_word words)
line_of_words first words = ap (λ l. (first ++ l) ++ 10 ∷ []) (words_spaced words) ∙ whole_line first (map text_of_log_word words)

pub line_in_two : (first : List ℕ) (words : List LogWord) (more : List (List ℕ)) → (first ++ spaced_words words) ++ (spaced more ++ 10 ∷ []) ≡ line_of (first ∷ map text_of_log_word words ++ more)
line_in_two first words more = let texts = map text_of_log_word words in
    ap (λ l. (first ++ l) ++ (spaced more ++ 10 ∷ [])) (words_spaced words)
    ∙ sym (append_assoc (first ++ spaced texts) (spaced more) (10 ∷ []))
    ∙ ap (λ l. l ++ 10 ∷ []) (append_assoc first (spaced texts) (spaced more) ∙ ap (λ l. first ++ l) (sym (spaced_append texts more)))
    ∙ whole_line first (texts ++ more)

pub line_with_name : (first : List ℕ) (words : List LogWord) (name : List ℕ) → (first ++ spaced_words words) ++ (32 ∷ name ++ 10 ∷ []) ≡ line_of (first ∷ map text_of_log_word words ++ name ∷ [])
line_with_name first words name = ap (λ l. (first ++ spaced_words words) ++ (32 ∷ l ++ 10 ∷ [])) (sym (append-nil name)) ∙ line_in_two first words (name ∷ [])

-- one turn of a loop that puts a text for each item
one_more : {X : Type 0} (f : X → List ℕ) (xs : List X) (i : ℕ) (d x : X) → i < length xs → x ≡ get_or xs i d → flat_map f (take i xs) ++ f x ≡ flat_map f (take (i + 1) xs)
one_more f xs i d x below is =
    ap (λ l. flat_map f (take i xs) ++ l) (ap f is ∙ sym (append-nil (f (get_or xs i d))))
    ∙ sym (flat_map-append f (take i xs) (get_or xs i d ∷ [])) ∙ ap (flat_map f) (sym (take_more xs i d below))

pub turn : {X : Type 0} (s0 s1 s2 : Out) (f : X → List ℕ) (xs : List X) (i : ℕ) (d x : X) → i < length xs → x ≡ get_or xs i d
    → IsPut s0 s1 (flat_map f (take i xs)) → IsPut s1 s2 (f x) → IsPut s0 s2 (flat_map f (take (i + 1) xs))
turn s0 s1 s2 f xs i d x below is put more = subst (IsPut s0 s2) (one_more f xs i d x below is) (then_more {E = ℕ} (Ok tt) s0 s1 s2 _ _ put more)

pub turn_stopped : {E X : Type 0} (r : Result Unit E) (s0 s1 s2 : Out) (f : X → List ℕ) (xs : List X) (i : ℕ) (d x : X) → IsErr r → i < length xs → x ≡ get_or xs i d
    → IsPut s0 s1 (flat_map f (take i xs)) → IsCutOff s1 s2 (f x) → Put r s0 s2 (flat_map f xs)
turn_stopped r s0 s1 s2 f xs i d x err below is put more =
    subst (Put r s0 s2) (ap (λ l. l ++ flat_map f (drop (i + 1) xs)) (one_more f xs i d x below is) ∙ sym (flat_map-append f (take (i + 1) xs) (drop (i + 1) xs)) ∙ ap (flat_map f) (take-append-drop (i + 1) xs))
    (stopped r s0 s2 (flat_map f (take i xs) ++ f x) (flat_map f (drop (i + 1) xs)) err (then_more {E = ℕ} (Err 0) s0 s1 s2 _ _ put more))

-- a line whose first words were put, and then the others
pub line_by_parts : {E : Type 0} (r : Result Unit E) (s0 s1 s2 : Out) (first : List ℕ) (words : List LogWord) (more : List (List ℕ))
    → IsPut s0 s1 (first ++ spaced_words words) → Put r s1 s2 (spaced more ++ 10 ∷ []) → Put r s0 s2 (line_of (first ∷ map text_of_log_word words ++ more))
line_by_parts r s0 s1 s2 first words more put rest = subst (Put r s0 s2) (line_in_two first words more) (then_more r s0 s1 s2 _ _ put rest)

pub line_by_name : {E : Type 0} (r : Result Unit E) (s0 s1 s2 : Out) (first : List ℕ) (words : List LogWord) (name : List ℕ)
    → IsPut s0 s1 (first ++ spaced_words words) → Put r s1 s2 (32 ∷ name ++ 10 ∷ []) → Put r s0 s2 (line_of (first ∷ map text_of_log_word words ++ name ∷ []))
line_by_name r s0 s1 s2 first words name put rest = subst (Put r s0 s2) (line_with_name first words name) (then_more r s0 s1 s2 _ _ put rest)

pub line_stopped : {E : Type 0} (r : Result Unit E) (s0 s1 : Out) (first : List ℕ) (words : List LogWord) (more : List (List ℕ))
    → IsErr r → IsCutOff s0 s1 (first ++ spaced_words words) → Put r s0 s1 (line_of (first ∷ map text_of_log_word words ++ more))
line_stopped r s0 s1 first words more err cut = subst (Put r s0 s1) (line_in_two first words more) (stopped r s0 s1 _ _ err cut)

-- two texts, and then a third
pub then_two : {E : Type 0} (r : Result Unit E) (s0 s1 s2 s3 : Out) (a b more : List ℕ) → IsPut s0 s1 a → IsPut s1 s2 b → Put r s2 s3 more → Put r s0 s3 (a ++ (b ++ more))
then_two r s0 s1 s2 s3 a b more first second last = then_more r s0 s1 s3 a (b ++ more) first (then_more r s1 s2 s3 b more second last)

pub then_stopped : {E : Type 0} (r : Result Unit E) (s0 s1 s2 : Out) (a b more : List ℕ) → IsErr r → IsPut s0 s1 a → IsCutOff s1 s2 b → Put r s0 s2 (a ++ (b ++ more))
then_stopped r s0 s1 s2 a b more err first cut = then_more r s0 s1 s2 a (b ++ more) first (stopped r s1 s2 b more err cut)
