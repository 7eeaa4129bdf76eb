-- Books that have no names but those before and some of a line's own, which come first.
use Rattle.std.proofs.Common.{◌≡◌, ℕ, List, Some, [], ◌∷◌, ◌++◌, map, refl, sym, ap, subst, ◌∙◌}
use Rattle.dt_script.specs.NameBook.{NameBook, with_class_name, with_selector_name, with_body_name}
use Rattle.dt_script.specs.Numbering.{with_classes}
use Rattle.dt_script.specs.Written.{Token, ClassName, SelectorName, BodyName, with_token, with_tokens, tokens_of, line_in}
use Rattle.dt_script.specs.Growth.{GrewAtEnd}
use Rattle.dt_script.specs.LawfulBook.{LawfulBook}
use Rattle.dt_script.specs.WrittenLine.{IsWrittenLine}
use Rattle.dt_script.specs.Line.{LineOf}
use Rattle.dt_script.specs.Laws.{OneMeaning}
use Rattle.dt_script.specs.declared.line.Line.{Line}
use Rattle.dt_script.specs.declared.written.Written.{Written}
use Rattle.dt_script.proofs.LineMade.{line_made}
use Rattle.dt_script.proofs.Grown.{grew_not, grew_on, grew_class, grew_selector, grew_body}
use Rattle.dt_script.proofs.Tokens.{classes-tokens, classes-alone}

-- with the names of tokens, and of classes
token-grows : (book : NameBook) (token : Token) → GrewAtEnd book (with_token book token)
token-grows book (ClassName text) = grew_class book (with_class_name book text) text refl
token-grows book (SelectorName text) = grew_selector book (with_selector_name book text) text refl
token-grows book (BodyName text) = grew_body book (with_body_name book text) text refl
token-grows book token = grew_not book

tokens-grow : (book : NameBook) (tokens : List Token) → GrewAtEnd book (with_tokens book tokens)
tokens-grow book [] = grew_not book
tokens-grow book (token ∷ tokens) = grew_on book (with_token book token) (with_tokens (with_token book token) tokens) (token-grows book token) (tokens-grow (with_token book token) tokens)

pub classes_grow : (book : NameBook) (names : List (List ℕ)) → GrewAtEnd book (with_classes book names)
classes_grow book names = subst (λ b. GrewAtEnd book b) (classes-alone book names) (tokens-grow book (map ClassName names))

-- all of them are there
pub own_all : (new after : NameBook) → new ≡ after → GrewAtEnd new after
own_all new after is = subst (λ b. GrewAtEnd new b) is (grew_not new)

-- or none
pub own_none : (old new : NameBook) (tokens : List Token) → new ≡ old → GrewAtEnd new (with_tokens old tokens)
own_none old new tokens is = subst (λ b. GrewAtEnd b (with_tokens old tokens)) (sym is) (tokens-grow old tokens)

-- or those before some classes
pub own_before : (old new : NameBook) (names : List (List ℕ)) → new ≡ old → GrewAtEnd new (with_classes old names)
own_before old new names is = subst (λ b. GrewAtEnd b (with_classes old names)) (sym is) (classes_grow old names)

-- and more names may come
pub own_more : (new middle : NameBook) (more : List (List ℕ)) → GrewAtEnd new middle → GrewAtEnd new (with_classes middle more)
own_more new middle more own = grew_on new middle (with_classes middle more) own (classes_grow middle more)

-- the classes of a line come last, or words come after them
pub own_classes : (old book new : NameBook) (names : List (List ℕ)) → book ≡ old → GrewAtEnd new (with_classes book names) → GrewAtEnd new (with_tokens old (map ClassName names))
own_classes old book new names is own = subst (λ b. GrewAtEnd new b) (ap (λ b. with_classes b names) is ∙ sym (classes-alone old names)) own

pub own_tokens : (old book new : NameBook) (names : List (List ℕ)) (tokens : List Token) → book ≡ old → GrewAtEnd new (with_classes book names) → GrewAtEnd new (with_tokens old (map ClassName names ++ tokens))
own_tokens old book new names tokens is own =
    subst (λ b. GrewAtEnd new b) (ap (λ b. with_tokens (with_classes b names) tokens) is ∙ sym (classes-tokens old names tokens))
    (grew_on new (with_classes book names) (with_tokens (with_classes book names) tokens) own (tokens-grow (with_classes book names) tokens))

-- the parents that are left of a line
pub own_left : (old book new : NameBook) (all left : List (List ℕ)) → with_classes old all ≡ with_classes book left → GrewAtEnd new (with_classes book left) → GrewAtEnd new (with_classes old all)
own_left old book new all left is own = subst (λ b. GrewAtEnd new b) (sym is) own

-- and the line's own book is the one after whichever line its bytes are
pub own_line : OneMeaning → (bytes : List ℕ) (w : Written) (before new : NameBook) → LawfulBook before → IsWrittenLine bytes (Some w) → GrewAtEnd new (with_tokens before (tokens_of w))
    → (line : Line) (after : NameBook) → LineOf bytes before line after → GrewAtEnd new after
own_line meaning bytes w before new lawful written own line after l =
    let full = with_tokens before (tokens_of w) in
    let same = meaning bytes before full after (line_in full w) line lawful (line_made bytes w before full written refl) l in
    subst (λ b. GrewAtEnd new b) same.1 own
