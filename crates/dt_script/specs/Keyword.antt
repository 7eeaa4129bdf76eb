-- The first words of lines, and what may follow each.
use Rattle.std.specs.Prelude.{◌≡◌, ℕ, IsTrue, List, [], ◌∷◌, ◌++◌, length, codes, decimal, ◌⊎◌}
use Rattle.dt_script.specs.Line.{is_from_one_to}
use Rattle.dt_script.specs.declared.limits.TheConstants.{CALLERS}
use Rattle.dt_script.specs.declared.keyword.Keyword.{Keyword}
use Rattle.dt_script.specs.declared.keyword.Keyword.TheVariants.{Dispatch, Class, Drop, Link, Unlink, Selector, Forget, Define, Undefine, Begin, Commit, Phase, Caller, Call, Pin, Unpin, End}

-- the text of a first word
abbrev pub text_of_keyword : Keyword → List ℕ
text_of_keyword Dispatch = codes "dispatch"
text_of_keyword Class = codes "class"
text_of_keyword Drop = codes "drop"
text_of_keyword Link = codes "link"
text_of_keyword Unlink = codes "unlink"
text_of_keyword Selector = codes "selector"
text_of_keyword Forget = codes "forget"
text_of_keyword Define = codes "define"
text_of_keyword Undefine = codes "undefine"
text_of_keyword Begin = codes "begin"
text_of_keyword Commit = codes "commit"
text_of_keyword Phase = codes "phase"
text_of_keyword Caller = codes "caller"
text_of_keyword Call = codes "call"
text_of_keyword Pin = codes "pin"
text_of_keyword Unpin = codes "unpin"
text_of_keyword End = codes "end"

-- a selector and one to four classes
abbrev pub HasClasses : List (List ℕ) → Type 0
HasClasses texts = (selector : List ℕ) × (classes : List (List ℕ)) × (texts ≡ selector ∷ classes)
    × IsTrue (is_from_one_to 4 (length classes))

-- the texts that may follow a first word
abbrev pub MayFollow : Keyword → List (List ℕ) → Type 0
MayFollow Dispatch texts = texts ≡ codes "1" ∷ []
MayFollow Class texts =
    ((class : List ℕ) × (texts ≡ class ∷ []))
    ⊎ ((class parent : List ℕ) × (parents : List (List ℕ)) × (texts ≡ class ∷ codes "<" ∷ parent ∷ parents))
MayFollow Drop texts = (class : List ℕ) × (texts ≡ class ∷ [])
MayFollow Link texts = (class parent : List ℕ) × (texts ≡ class ∷ codes "<" ∷ parent ∷ [])
MayFollow Unlink texts = (class parent : List ℕ) × (texts ≡ class ∷ codes "<" ∷ parent ∷ [])
MayFollow Selector texts = (selector : List ℕ) × (arity : ℕ) × (texts ≡ selector ∷ decimal arity ∷ [])
    × IsTrue (is_from_one_to 4 arity)
MayFollow Forget texts = (selector : List ℕ) × (texts ≡ selector ∷ [])
MayFollow Define texts = (selector : List ℕ) × (classes : List (List ℕ)) × (body : List ℕ)
    × (texts ≡ selector ∷ classes ++ codes "->" ∷ body ∷ []) × IsTrue (is_from_one_to 4 (length classes))
MayFollow Undefine texts = HasClasses texts
MayFollow Begin texts = texts ≡ []
MayFollow Commit texts = texts ≡ []
MayFollow Phase texts = texts ≡ []
MayFollow Caller texts = (caller : ℕ) × (texts ≡ decimal caller ∷ []) × IsTrue (is_from_one_to CALLERS caller)
MayFollow Call texts = HasClasses texts
MayFollow Pin texts = texts ≡ []
MayFollow Unpin texts = texts ≡ []
MayFollow End texts = texts ≡ []
