-- Two lines with the same words are the same, and the kinds of a line's words are known from its texts.
use Rattle.std.proofs.Common.{◌≡◌, ℕ, List, [], ◌∷◌, ◌++◌, map, flat_map, get_or, drop, codes, refl, sym, ap, ◌∙◌}
use Rattle.dt_script.specs.Word.{Word, Plain, Number, Class, Selector, Body}
use Rattle.dt_script.specs.Line.{words_of}
use Rattle.dt_script.specs.declared.keyword.Keyword.{Keyword}
use Rattle.dt_script.specs.declared.keyword.Keyword.TheVariants as keyword
use Rattle.dt_script.specs.declared.line.Line.{Line}
use Rattle.dt_script.specs.declared.line.Line.TheVariants as line
use Rattle.dt_script.proofs.Malformed.{first_of}

-- ---- the line that has some words

-- the numbers of the words of each kind
abbrev class_of : Word → List ℕ
class_of (Class number) = number ∷ []
class_of _ = []

abbrev selector_of : Word → List ℕ
selector_of (Selector number) = number ∷ []
selector_of _ = []

abbrev body_of : Word → List ℕ
body_of (Body number) = number ∷ []
body_of _ = []

abbrev number_of : Word → List ℕ
number_of (Number number) = number ∷ []
number_of _ = []

-- the line of this kind with these classes, selector, body and number
abbrev pub line_with : Keyword → List ℕ → ℕ → ℕ → ℕ → Line
line_with keyword.Dispatch classes selector body number = line.Header
line_with keyword.Class classes selector body number = line.AddClass (get_or classes 0 0) (drop 1 classes)
line_with keyword.Drop classes selector body number = line.DropClass (get_or classes 0 0)
line_with keyword.Link classes selector body number = line.Link (get_or classes 0 0) (get_or classes 1 0)
line_with keyword.Unlink classes selector body number = line.Unlink (get_or classes 0 0) (get_or classes 1 0)
line_with keyword.Selector classes selector body number = line.AddSelector selector number
line_with keyword.Forget classes selector body number = line.DropSelector selector
line_with keyword.Define classes selector body number = line.Define selector classes body
line_with keyword.Undefine classes selector body number = line.Undefine selector classes
line_with keyword.Begin classes selector body number = line.Begin
line_with keyword.Commit classes selector body number = line.Commit
line_with keyword.Phase classes selector body number = line.Phase
line_with keyword.Caller classes selector body number = line.Caller number
line_with keyword.Call classes selector body number = line.Call (record { selector = selector; classes = classes })
line_with keyword.Pin classes selector body number = line.Pin
line_with keyword.Unpin classes selector body number = line.Unpin
line_with keyword.End classes selector body number = line.End

abbrev pub line_from : Keyword → List Word → Line
line_from k words =
    line_with k (flat_map class_of words) (get_or (flat_map selector_of words) 0 0) (get_or (flat_map body_of words) 0 0) (get_or (flat_map number_of words) 0 0)

-- classes alone, and before two words more
the-classes : (classes : List ℕ) → flat_map class_of (map Class classes) ≡ classes
the-classes [] = refl
the-classes (class ∷ classes) = ap (λ l. class ∷ l) (the-classes classes)

classes-before : (classes : List ℕ) (text : List ℕ) (body : ℕ) → flat_map class_of (map Class classes ++ Plain text ∷ Body body ∷ []) ≡ classes
classes-before [] text body = refl
classes-before (class ∷ classes) text body = ap (λ l. class ∷ l) (classes-before classes text body)

body-after : (classes : List ℕ) (text : List ℕ) (body : ℕ) → flat_map body_of (map Class classes ++ Plain text ∷ Body body ∷ []) ≡ body ∷ []
body-after [] text body = refl
body-after (class ∷ classes) text body = body-after classes text body

pub back : (l : Line) → line_from (first_of l) (words_of l) ≡ l
back (line.AddClass class (parent ∷ parents)) = ap (λ ps. line.AddClass class (parent ∷ ps)) (the-classes parents)
back (line.Define selector classes body) = rw (classes-before classes (codes "->") body, body-after classes (codes "->") body) refl
back (line.Undefine selector classes) = ap (line.Undefine selector) (the-classes classes)
back (line.Call query) = ap (λ cs. line.Call (record { selector = query.selector; classes = cs })) (the-classes query.classes)
back l = refl

-- so lines of one first word and the same words are the same
pub same_words : (a b : Line) → first_of a ≡ first_of b → words_of a ≡ words_of b → a ≡ b
same_words a b first words = sym (back a) ∙ ap (λ k. line_from k (words_of a)) first ∙ ap (line_from (first_of b)) words ∙ back b
