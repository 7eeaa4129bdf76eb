-- What a book has after the names of a line.
use Rattle.std.proofs.Common.{◌≡◌, ℕ, Bor, codes, ◌≤◌, Bool, true, false, not, ◌&&◌, IsTrue, nat_le, List, [], ◌∷◌, ◌++◌, length, map, is_none, is_some, refl, sym, ap, subst, ◌∙◌, arith}
use Rattle.std.specs.Prelude.{Result, Ok, Err, IsErrOf, IsErrAnd}
use Rattle.std.proofs.lemmas.Bool.{and_parts, and_from, leb-true}
use Rattle.std.proofs.lemmas.Bool.Decides.{nat_tests}
use Rattle.dt_graph.specs.declared.limits.TheConstants.{CLASSES}
use Rattle.dt_selectors.specs.declared.limits.TheConstants.{SELECTORS, BODIES}
use Rattle.dt_selectors.specs.Names.{position_of}
use Rattle.dt_selectors.specs.declared.names.NameFault.{NameFault}
use Rattle.dt_selectors.specs.declared.names.NameFault.TheVariants.{NamesFull, NoMemory}
use Rattle.dt_script.specs.NameBook.{NameBook, with_class_name, with_selector_name, with_body_name, number_in, is_within_limits}
use Rattle.std.specs.List.{list_all}
use Rattle.dt_selectors.specs.Names.{is_name}
use Rattle.dt_script.specs.Numbering.{with_classes, numbers_in, IsNumbered}
use Rattle.dt_script.specs.declared.line.Line.TheVariants as line
use Rattle.dt_script.proofs.WrittenTexts.{texts-names}
use Rattle.dt_script.specs.Written.{Token, Plain, Number, ClassName, SelectorName, BodyName, with_token, with_tokens, tokens_of, text_of_token, texts_of, texts_of_classes}
use Rattle.dt_script.specs.Cut.{parts_at}
use Rattle.dt_script.specs.declared.written.Written.TheVariants as written
use Rattle.dt_script.specs.declared.written.Classes.{Classes}
use Rattle.dt_script.specs.NumberedLine.{IsLineNumbered}
use Rattle.dt_script.specs.declared.line.Line.{Line}
use Rattle.dt_script.specs.declared.written.Written.{Written}
use Rattle.dt_script.proofs.NumbersStay.{grows, full-list, named, numbers_stay}

-- no list is shorter than before
pub record IsLarger (small big : NameBook) : Type 0 where
  pub classes : length small.classes ≤ length big.classes
  pub selectors : length small.selectors ≤ length big.selectors
  pub bodies : length small.bodies ≤ length big.bodies

larger_by_one : (book : NameBook) (token : Token) → IsLarger book (with_token book token)
larger_by_one book (Plain text) = record { classes = omega arith; selectors = omega arith; bodies = omega arith }
larger_by_one book (Number number) = record { classes = omega arith; selectors = omega arith; bodies = omega arith }
larger_by_one book (ClassName text) = record { classes = grows text book.classes; selectors = omega arith; bodies = omega arith }
larger_by_one book (SelectorName text) = record { classes = omega arith; selectors = grows text book.selectors; bodies = omega arith }
larger_by_one book (BodyName text) = record { classes = omega arith; selectors = omega arith; bodies = grows text book.bodies }

pub larger : (book : NameBook) (tokens : List Token) → IsLarger book (with_tokens book tokens)
larger book [] = record { classes = omega arith; selectors = omega arith; bodies = omega arith }
larger book (token ∷ tokens) =
    let first = larger_by_one book token in
    let rest = larger (with_token book token) tokens in
    record { classes = omega (arith, first.classes, rest.classes); selectors = omega (arith, first.selectors, rest.selectors); bodies = omega (arith, first.bodies, rest.bodies) }

-- the three bounds
within_parts : (book : NameBook) → IsTrue (is_within_limits book) → (length book.classes ≤ CLASSES) × (length book.selectors ≤ SELECTORS) × (length book.bodies ≤ BODIES)
within_parts book within =
    let first = and_parts (nat_le (length book.classes) CLASSES) (nat_le (length book.selectors) SELECTORS && nat_le (length book.bodies) BODIES) within in
    let second = and_parts (nat_le (length book.selectors) SELECTORS) (nat_le (length book.bodies) BODIES) first.1 in
    (leb-true (length book.classes) CLASSES first.0, leb-true (length book.selectors) SELECTORS second.0, leb-true (length book.bodies) BODIES second.1)

within_from : (book : NameBook) → length book.classes ≤ CLASSES → length book.selectors ≤ SELECTORS → length book.bodies ≤ BODIES → IsTrue (is_within_limits book)
within_from book few few' few'' =
    and_from (nat_le (length book.classes) CLASSES) (nat_le (length book.selectors) SELECTORS && nat_le (length book.bodies) BODIES) (grind (arith, nat_tests))
    (and_from (nat_le (length book.selectors) SELECTORS) (nat_le (length book.bodies) BODIES) (grind (arith, nat_tests)) (grind (arith, nat_tests)))

not_true : (b : Bool) → (b ≡ true → ⊥) → IsTrue (not b)
not_true true wrong = absurd (wrong refl)
not_true false wrong = refl

-- a book that isn't within its limits stays so
pub many_tokens : (book : NameBook) (tokens : List Token) → IsTrue (not (is_within_limits book)) → IsTrue (not (is_within_limits (with_tokens book tokens)))
many_tokens book tokens many = not_true (is_within_limits (with_tokens book tokens)) (λ within.
    let few = within_parts (with_tokens book tokens) within in
    let grew = larger book tokens in
    let small : is_within_limits book ≡ true = within_from book (omega (arith, few.0, grew.classes)) (omega (arith, few.1, grew.selectors)) (omega (arith, few.2, grew.bodies)) in
    absurd cc)

-- and so does one that a name doesn't fit
pub full_class : (book : NameBook) (name : List ℕ) (tokens : List Token) → IsTrue (is_none (position_of name book.classes) && nat_le CLASSES (length book.classes))
    → IsTrue (not (is_within_limits (with_tokens (with_class_name book name) tokens)))
full_class book name tokens full = not_true (is_within_limits (with_tokens (with_class_name book name) tokens)) (λ within.
    omega (arith, (within_parts (with_tokens (with_class_name book name) tokens) within).0, (larger (with_class_name book name) tokens).classes, full-list CLASSES name book.classes full))

pub full_selector : (book : NameBook) (name : List ℕ) (tokens : List Token) → IsTrue (is_none (position_of name book.selectors) && nat_le SELECTORS (length book.selectors))
    → IsTrue (not (is_within_limits (with_tokens (with_selector_name book name) tokens)))
full_selector book name tokens full = not_true (is_within_limits (with_tokens (with_selector_name book name) tokens)) (λ within.
    omega (arith, (within_parts (with_tokens (with_selector_name book name) tokens) within).1, (larger (with_selector_name book name) tokens).selectors, full-list SELECTORS name book.selectors full))

pub full_body : (book : NameBook) (name : List ℕ) (tokens : List Token) → IsTrue (is_none (position_of name book.bodies) && nat_le BODIES (length book.bodies))
    → IsTrue (not (is_within_limits (with_tokens (with_body_name book name) tokens)))
full_body book name tokens full = not_true (is_within_limits (with_tokens (with_body_name book name) tokens)) (λ within.
    omega (arith, (within_parts (with_tokens (with_body_name book name) tokens) within).2, (larger (with_body_name book name) tokens).bodies, full-list BODIES name book.bodies full))

-- the names of classes, and words after them
pub classes-tokens : (book : NameBook) (names : List (List ℕ)) (tokens : List Token) → with_tokens book (map ClassName names ++ tokens) ≡ with_tokens (with_classes book names) tokens
classes-tokens book [] tokens = refl
classes-tokens book (name ∷ names) tokens = classes-tokens (with_class_name book name) names tokens

pub classes-alone : (book : NameBook) (names : List (List ℕ)) → with_tokens book (map ClassName names) ≡ with_classes book names
classes-alone book [] = refl
classes-alone book (name ∷ names) = classes-alone (with_class_name book name) names

-- a fault that is handed on
pub handed_line : {T : Type 0} (old new : NameBook) (w : Written) (result : Result Line NameFault) (fault : NameFault) → IsErrAnd result (λ e. e ≡ fault)
    → (IsErrOf {T = T} (Err fault) NamesFull → IsTrue (not (is_within_limits (with_tokens old (tokens_of w))))) → IsLineNumbered old w result new
handed_line old new w (Ok line) fault same full = absurd same
handed_line old new w (Err NamesFull) fault same full = full (ap (λ f. Err f) (sym same))
handed_line old new w (Err NoMemory) fault same full = tt

-- classes that don't fit
pub numbered_full : {T : Type 0} (old new : NameBook) (names : List (List ℕ)) (fault : NameFault) → IsNumbered old names (Err fault) new → IsErrOf {T = T} (Err fault) NamesFull
    → IsTrue (not (is_within_limits (with_classes old names)))
numbered_full old new names NamesFull numbered full = numbered
numbered_full old new names NoMemory numbered full = absurd cc

-- the classes or the body of a definition don't fit
pub define_classes_full : (old book : NameBook) (selector : List ℕ) (names : List (List ℕ)) (tokens : List Token) → book ≡ with_selector_name old selector → IsTrue (not (is_within_limits (with_classes book names)))
    → IsTrue (not (is_within_limits (with_tokens (with_selector_name old selector) (map ClassName names ++ tokens))))
define_classes_full old book selector names tokens is many =
    subst (λ (b : NameBook). IsTrue (not (is_within_limits b))) (ap (λ b. with_tokens (with_classes b names) tokens) is ∙ sym (classes-tokens (with_selector_name old selector) names tokens))
    (many_tokens (with_classes book names) tokens many)

pub define_body_full : (old book middle : NameBook) (selector body arrow : List ℕ) (names : List (List ℕ)) → book ≡ with_selector_name old selector → middle ≡ with_classes book names
    → IsTrue (is_none (position_of body middle.bodies) && nat_le BODIES (length middle.bodies))
    → IsTrue (not (is_within_limits (with_tokens (with_selector_name old selector) (map ClassName names ++ Plain arrow ∷ BodyName body ∷ []))))
define_body_full old book middle selector body arrow names is middle_is full =
    subst (λ (b : NameBook). IsTrue (not (is_within_limits b)))
    (ap (λ b. with_body_name b body) (middle_is ∙ ap (λ b. with_classes b names) is) ∙ sym (classes-tokens (with_selector_name old selector) names (Plain arrow ∷ BodyName body ∷ [])))
    (full_body middle body [] full)

-- the parents of a class don't fit
pub parents_full : (old book : NameBook) (class : List ℕ) (names : List (List ℕ)) → book ≡ with_class_name old class → IsTrue (not (is_within_limits (with_classes book names)))
    → IsTrue (not (is_within_limits (with_tokens (with_class_name old class) (map ClassName names))))
parents_full old book class names is many =
    subst (λ (b : NameBook). IsTrue (not (is_within_limits b))) (ap (λ b. with_classes b names) is ∙ sym (classes-alone (with_class_name old class) names)) many

-- a class with parents
pub subclass_numbered : (old book new : NameBook) (name : List ℕ) (names : List (List ℕ)) (class : ℕ) (parents items : List ℕ) → book ≡ with_class_name old name → class ≡ number_in book.classes name
    → new ≡ with_classes book names → items ≡ numbers_in new names → parents ≡ items
    → (new ≡ with_tokens (with_class_name old name) (map ClassName names)) × (line.AddClass class parents ≡ line.AddClass (number_in new.classes name) (numbers_in new names))
subclass_numbered old book new name names class parents items is is_class new_is are same =
    let known : is_some (position_of name book.classes) ≡ true = ap (λ k. is_some (position_of name k.classes)) is ∙ named name old.classes in
    let stays : class ≡ number_in new.classes name = numbers_stay book new names class name new_is known is_class in
    (new_is ∙ ap (λ b. with_classes b names) is ∙ sym (classes-alone (with_class_name old name) names), cc)

-- the names of a line are names
pub parents_are_names : (names : List (List ℕ)) → IsTrue (list_all is_name (map text_of_token (map ClassName names))) → IsTrue (list_all is_name names)
parents_are_names names are = subst (λ (l : List (List ℕ)). IsTrue (list_all is_name l)) (texts-names names) are

pub body_is_name : (names : List (List ℕ)) (arrow body : List ℕ) → IsTrue (list_all is_name (map text_of_token (map ClassName names ++ Plain arrow ∷ BodyName body ∷ []))) → IsTrue (is_name body)
body_is_name [] arrow body are = (and_parts (is_name body) true (and_parts (is_name arrow) (is_name body && true) are).1).0
body_is_name (name ∷ names) arrow body are =
    body_is_name names arrow body (and_parts (is_name name) (list_all is_name (map text_of_token (map ClassName names ++ Plain arrow ∷ BodyName body ∷ []))) are).1

pub subclass_names : (class parents : Bor (List ℕ)) → IsTrue (list_all is_name (texts_of (written.AddSubclass class parents))) → IsTrue (list_all is_name (parts_at 32 parents.now))
subclass_names class parents are =
    parents_are_names (parts_at 32 parents.now) (and_parts (is_name class.now) (list_all is_name (map text_of_token (map ClassName (parts_at 32 parents.now)))) are).1

pub define_body : (selector body : Bor (List ℕ)) (classes : Classes) → IsTrue (list_all is_name (texts_of (written.Define selector classes body))) → IsTrue (is_name body.now)
define_body selector body classes are =
    body_is_name (texts_of_classes classes) (codes "->") body.now
    (and_parts (is_name selector.now) (list_all is_name (map text_of_token (map ClassName (texts_of_classes classes) ++ Plain (codes "->") ∷ BodyName body.now ∷ []))) are).1
