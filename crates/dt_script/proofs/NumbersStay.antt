-- A name keeps its number when other names come, and names that are too many stay too many.
use Rattle.std.proofs.Common.{◌≡◌, ℕ, ◌+◌, ◌≤◌, ◌<◌, Bool, true, false, cond, not, ◌&&◌, IsTrue, nat_le, List, [], ◌∷◌, ◌++◌, append_assoc, length, Option, Some, None, is_some, is_none, option_map, unwrap_or, refl, sym, ap, ◌∙◌, arith, eq-eqb}
use Rattle.std.proofs.lemmas.Bool.{and_parts, leb-true}
use Rattle.std.proofs.lemmas.Bool.Decides.{nat_tests}
use Rattle.std.specs.Prelude.{Result, Ok, Err, IsErrOf, IsErrAnd}
use Rattle.dt_selectors.specs.declared.names.NameFault.{NameFault}
use Rattle.dt_selectors.specs.declared.names.NameFault.TheVariants.{NamesFull, NoMemory}
use Rattle.dt_graph.specs.declared.limits.TheConstants.{CLASSES}
use Rattle.dt_selectors.specs.declared.limits.TheConstants.{SELECTORS, BODIES}
use Rattle.dt_selectors.specs.Names.{same_text, position_of, with_text}
use Rattle.dt_script.specs.NameBook.{NameBook, with_class_name, number_in, is_within_limits}
use Rattle.dt_script.specs.Numbering.{with_texts, with_classes, numbers_in, IsNumbered}

-- a text is the same as itself
same_text-self : (text : List ℕ) → same_text text text ≡ true
same_text-self [] = refl
same_text-self (x ∷ xs) = rw (eq-eqb x x refl) (same_text-self xs)

-- a name has a place once it was taken
named-step : (b : Bool) (name t : List ℕ) (ts ws : List (List ℕ)) → same_text t name ≡ b → is_some (position_of name ws) ≡ true → is_some (position_of name (cond b (t ∷ ts) (t ∷ ws))) ≡ true
named-step true name t ts ws e there = rw e refl
named-step false name t ts ws e there = rw e (below (position_of name ws) there)
  where
    below : (o : Option ℕ) → is_some o ≡ true → is_some (option_map (λ place. place + 1) o) ≡ true
    below None there = there
    below (Some place) there = refl

pub named : (name : List ℕ) (texts : List (List ℕ)) → is_some (position_of name (with_text name texts)) ≡ true
named name [] = rw (same_text-self name) refl
named name (t ∷ ts) = named-step (same_text t name) name t ts (with_text name ts) refl (named name ts)

-- and keeps it
kept-step : (b : Bool) (name t : List ℕ) (ts ws : List (List ℕ)) → (is_some (position_of name ts) ≡ true → position_of name ws ≡ position_of name ts)
    → is_some (position_of name (t ∷ ts)) ≡ true → position_of name (cond b (t ∷ ts) (t ∷ ws)) ≡ position_of name (t ∷ ts)
kept-step true name t ts ws kept there = refl
kept-step false name t ts ws kept there = by (same_text t name) there
  where
    below : (o : Option ℕ) → is_some (option_map (λ place. place + 1) o) ≡ true → is_some o ≡ true
    below None there = there
    below (Some place) there = refl

    by : (c : Bool) → is_some (cond c (Some 0) (option_map (λ place. place + 1) (position_of name ts))) ≡ true
        → cond c (Some 0) (option_map (λ place. place + 1) (position_of name ws)) ≡ cond c (Some 0) (option_map (λ place. place + 1) (position_of name ts))
    by true there = refl
    by false there = ap (option_map (λ place. place + 1)) (kept (below (position_of name ts) there))

pub kept : (name other : List ℕ) (texts : List (List ℕ)) → is_some (position_of name texts) ≡ true → position_of name (with_text other texts) ≡ position_of name texts
kept name other [] there = absurd cc
kept name other (t ∷ ts) there = kept-step (same_text t other) name t ts (with_text other ts) (kept name other ts) there

pub number_stays : (name other : List ℕ) (texts : List (List ℕ)) → number_in (with_text other (with_text name texts)) name ≡ number_in (with_text name texts) name
number_stays name other texts = ap (λ place. unwrap_or place 0) (kept name other (with_text name texts) (named name texts))

-- whatever comes after it
pub kept_by_all : (name : List ℕ) (texts more : List (List ℕ)) → is_some (position_of name texts) ≡ true → position_of name (with_texts texts more) ≡ position_of name texts
kept_by_all name texts [] there = refl
kept_by_all name texts (other ∷ more) there =
    let step = kept name other texts there in
    kept_by_all name (with_text other texts) more (ap is_some step ∙ there) ∙ step

pub number_kept : (name : List ℕ) (texts more : List (List ℕ)) → number_in (with_texts (with_text name texts) more) name ≡ number_in (with_text name texts) name
number_kept name texts more = ap (λ place. unwrap_or place 0) (kept_by_all name (with_text name texts) more (named name texts))

-- no text goes
grows-step : (b : Bool) (t : List ℕ) (ts ws : List (List ℕ)) → length ts ≤ length ws → length (t ∷ ts) ≤ length (cond b (t ∷ ts) (t ∷ ws))
grows-step true t ts ws more = omega arith
grows-step false t ts ws more = omega arith

pub grows : (text : List ℕ) (texts : List (List ℕ)) → length texts ≤ length (with_text text texts)
grows text [] = omega arith
grows text (t ∷ ts) = grows-step (same_text t text) t ts (with_text text ts) (grows text ts)

pub grow_by_all : (texts more : List (List ℕ)) → length texts ≤ length (with_texts texts more)
grow_by_all texts [] = omega arith
grow_by_all texts (text ∷ more) = omega (arith, grows text texts, grow_by_all (with_text text texts) more)

-- a new text is one more
new_below : (o : Option ℕ) → is_none (option_map (λ place. place + 1) o) ≡ true → is_none o ≡ true
new_below None new = new
new_below (Some place) new = absurd cc

one_more-step : (b : Bool) (t : List ℕ) (ts ws : List (List ℕ)) (o : Option ℕ) → (is_none o ≡ true → length ws ≡ length ts + 1)
    → is_none (cond b (Some 0) (option_map (λ place. place + 1) o)) ≡ true → length (cond b (t ∷ ts) (t ∷ ws)) ≡ length (t ∷ ts) + 1
one_more-step true t ts ws o more new = absurd cc
one_more-step false t ts ws o more new = omega (arith, more (new_below o new))

one_more : (text : List ℕ) (texts : List (List ℕ)) → is_none (position_of text texts) ≡ true → length (with_text text texts) ≡ length texts + 1
one_more text [] new = refl
one_more text (t ∷ ts) new = one_more-step (same_text t text) t ts (with_text text ts) (position_of text ts) (one_more text ts) new

-- a list is full for a text that is new where it holds as many as it may
pub full-list : (limit : ℕ) (text : List ℕ) (texts : List (List ℕ)) → IsTrue (is_none (position_of text texts) && nat_le limit (length texts)) → limit < length (with_text text texts)
full-list limit text texts full =
    let both = and_parts (is_none (position_of text texts)) (nat_le limit (length texts)) full in
    omega (arith, one_more text texts both.0, leb-true limit (length texts) both.1)

-- and then the book isn't within its limits, whatever comes after it
pub not_within : (book : NameBook) → CLASSES < length book.classes → IsTrue (not (is_within_limits book))
not_within book many = by (nat_le (length book.classes) CLASSES) refl
  where
    by : (b : Bool) → nat_le (length book.classes) CLASSES ≡ b → not (b && (nat_le (length book.selectors) SELECTORS && nat_le (length book.bodies) BODIES)) ≡ true
    by true few = absurd (omega (arith, leb-true (length book.classes) CLASSES few))
    by false few = refl

-- a class that doesn't fit
pub full_class : (book : NameBook) (name : List ℕ) (more : List (List ℕ)) → IsTrue (is_none (position_of name book.classes) && nat_le CLASSES (length book.classes))
    → IsTrue (not (is_within_limits (with_classes (with_class_name book name) more)))
full_class book name more full =
    not_within (with_classes (with_class_name book name) more) (omega (arith, full-list CLASSES name book.classes full, grow_by_all (with_text name book.classes) more))

-- the first of two names
pub first_stays : (old middle new : NameBook) (a b : List ℕ) (number : ℕ) → middle ≡ with_class_name old a → new ≡ with_class_name middle b → number ≡ number_in middle.classes a → number ≡ number_in new.classes a
first_stays old middle new a b number first second is =
    is ∙ ap (λ k. number_in k.classes a) first ∙ sym (number_kept a old.classes (b ∷ [])) ∙ ap (λ k. number_in (with_class_name k b).classes a) (sym first) ∙ ap (λ k. number_in k.classes a) (sym second)

-- the result of numbering, where a fault is handed on
pub handed_number : {T : Type 0} (old new : NameBook) (names : List (List ℕ)) (result : Result (List ℕ) NameFault) (fault : NameFault) → IsErrAnd result (λ e. e ≡ fault)
    → (IsErrOf {T = T} (Err fault) NamesFull → IsTrue (not (is_within_limits (with_classes old names)))) → IsNumbered old names result new
handed_number old new names (Ok numbers) fault same full = absurd same
handed_number old new names (Err NamesFull) fault same full = full (ap (λ f. Err f) (sym same))
handed_number old new names (Err NoMemory) fault same full = tt

-- the numbers of names that were numbered before others
pub numbers_stay : (middle new : NameBook) (more : List (List ℕ)) (number : ℕ) (name : List ℕ) → new ≡ with_classes middle more
    → is_some (position_of name middle.classes) ≡ true → number ≡ number_in middle.classes name → number ≡ number_in new.classes name
numbers_stay middle new more number name is known same =
    same ∙ ap (λ place. unwrap_or place 0) (sym (kept_by_all name middle.classes more known)) ∙ ap (λ k. number_in k.classes name) (sym is)

-- a book that isn't within its limits stays so
pub many_stay : (book : NameBook) (more : List (List ℕ)) → IsTrue (not (is_within_limits book)) → IsTrue (not (is_within_limits (with_classes book more)))
many_stay book more many = by (nat_le (length book.classes) CLASSES) (nat_le (length (with_texts book.classes more)) CLASSES) refl refl many
  where
    by : (a b : Bool) → nat_le (length book.classes) CLASSES ≡ a → nat_le (length (with_texts book.classes more)) CLASSES ≡ b
        → not (a && (nat_le (length book.selectors) SELECTORS && nat_le (length book.bodies) BODIES)) ≡ true
        → not (b && (nat_le (length book.selectors) SELECTORS && nat_le (length book.bodies) BODIES)) ≡ true
    by true true few few' many = many
    by true false few few' many = refl
    by false false few few' many = refl
    by false true few few' many =
        let over : CLASSES < length book.classes = grind (arith, nat_tests) in
        absurd (omega (arith, over, grow_by_all book.classes more, leb-true (length (with_texts book.classes more)) CLASSES few'))

-- both of two names are known
pub first_known : (a b : List ℕ) (texts : List (List ℕ)) → is_some (position_of a (with_text b (with_text a texts))) ≡ true
first_known a b texts = ap is_some (kept a b (with_text a texts) (named a texts)) ∙ named a texts

-- the numbers of three and of four classes
pub three_numbers : (old middle new : NameBook) (a b c : List ℕ) (x y z : ℕ) (numbers : List ℕ) → middle ≡ with_class_name (with_class_name old a) b → new ≡ with_class_name middle c
    → x ≡ number_in middle.classes a → y ≡ number_in middle.classes b → z ≡ number_in new.classes c → numbers ≡ x ∷ y ∷ z ∷ []
    → (new ≡ with_classes old (a ∷ b ∷ c ∷ [])) × (numbers ≡ numbers_in new (a ∷ b ∷ c ∷ []))
three_numbers old middle new a b c x y z numbers m n is_x is_y is_z are =
    let known_a : is_some (position_of a middle.classes) ≡ true = ap (λ k. is_some (position_of a k.classes)) m ∙ first_known a b old.classes in
    let known_b : is_some (position_of b middle.classes) ≡ true = ap (λ k. is_some (position_of b k.classes)) m ∙ named b (with_text a old.classes) in
    let in_x : x ≡ number_in new.classes a = numbers_stay middle new (c ∷ []) x a n known_a is_x in
    let in_y : y ≡ number_in new.classes b = numbers_stay middle new (c ∷ []) y b n known_b is_y in
    (n ∙ ap (λ k. with_class_name k c) m, cc)

pub four_numbers : (old middle new : NameBook) (a b c d : List ℕ) (x y z w : ℕ) (numbers : List ℕ) → middle ≡ with_class_name (with_class_name old a) b → new ≡ with_class_name (with_class_name middle c) d
    → x ≡ number_in middle.classes a → y ≡ number_in middle.classes b → z ≡ number_in new.classes c → w ≡ number_in new.classes d → numbers ≡ x ∷ y ∷ z ∷ w ∷ []
    → (new ≡ with_classes old (a ∷ b ∷ c ∷ d ∷ [])) × (numbers ≡ numbers_in new (a ∷ b ∷ c ∷ d ∷ []))
four_numbers old middle new a b c d x y z w numbers m n is_x is_y is_z is_w are =
    let known_a : is_some (position_of a middle.classes) ≡ true = ap (λ k. is_some (position_of a k.classes)) m ∙ first_known a b old.classes in
    let known_b : is_some (position_of b middle.classes) ≡ true = ap (λ k. is_some (position_of b k.classes)) m ∙ named b (with_text a old.classes) in
    let in_x : x ≡ number_in new.classes a = numbers_stay middle new (c ∷ d ∷ []) x a n known_a is_x in
    let in_y : y ≡ number_in new.classes b = numbers_stay middle new (c ∷ d ∷ []) y b n known_b is_y in
    (n ∙ ap (λ k. with_class_name (with_class_name k c) d) m, cc)

-- one more class of those that are left
pub parents_step : (names names' : NameBook) (name : List ℕ) (all rest : List (List ℕ)) (items : List ℕ) (number : ℕ) → names' ≡ with_class_name names name → number ≡ number_in names'.classes name
    → ((new : NameBook) → new ≡ with_classes names (name ∷ rest) → numbers_in new all ≡ items ++ numbers_in new (name ∷ rest))
    → (new : NameBook) → new ≡ with_classes names' rest → numbers_in new all ≡ (items ++ number ∷ []) ++ numbers_in new rest
parents_step names names' name all rest items number is is_number so_far new new_is =
    let known : is_some (position_of name names'.classes) ≡ true = ap (λ k. is_some (position_of name k.classes)) is ∙ named name names.classes in
    let stays : number ≡ number_in new.classes name = numbers_stay names' new rest number name new_is known is_number in
    so_far new (new_is ∙ ap (λ k. with_classes k rest) is) ∙ ap (λ k. items ++ k ∷ numbers_in new rest) (sym stays) ∙ sym (append_assoc items (number ∷ []) (numbers_in new rest))
