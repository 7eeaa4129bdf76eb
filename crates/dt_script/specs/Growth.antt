-- Books grow at their end, so that each name keeps its number.
use Rattle.std.specs.Prelude.{◌≡◌, ℕ, List, [], ◌∷◌, ◌++◌, codes, get_or, refl}
use Rattle.std.proofs.Common.{ap, arith}
use Rattle.dt_script.specs.NameBook.{NameBook, with_class_name, with_body_name}

-- the texts are these and some more after them
abbrev pub AreFirst : List (List ℕ) → List (List ℕ) → Type 0
AreFirst first texts = (more : List (List ℕ)) × (texts ≡ first ++ more)

-- each list of the book after has the names before, and after them those that are new
pub record GrewAtEnd (before after : NameBook) : Type 0 where
  pub classes : AreFirst before.classes after.classes
  pub selectors : AreFirst before.selectors after.selectors
  pub bodies : AreFirst before.bodies after.bodies

-- the book with two classes and a body
abbrev some_names : NameBook
some_names = record { classes = codes "A" ∷ codes "B" ∷ []; selectors = []; bodies = codes "b" ∷ [] }

two_more : GrewAtEnd some_names (with_body_name (with_class_name some_names (codes "C")) (codes "a"))
two_more = record { classes = (codes "C" ∷ [], refl); selectors = ([], refl); bodies = (codes "a" ∷ [], refl) }

-- a name that stands before the others isn't at the end
before_the_others : GrewAtEnd some_names (record { classes = codes "C" ∷ codes "A" ∷ codes "B" ∷ []; selectors = []; bodies = codes "b" ∷ [] }) → ⊥
before_the_others grew =
    let first : 67 ≡ 65 = ap (λ texts. get_or (get_or texts 0 []) 0 0) grew.classes.1 in
    omega (arith, first)
