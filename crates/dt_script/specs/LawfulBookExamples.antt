-- Worked examples of lawful books.
use Rattle.std.specs.Prelude.{◌≡◌, IsTrue, [], ◌∷◌, Some, codes, refl}
use Rattle.std.proofs.lemmas.List.Elements.{All-nil}
use Rattle.dt_selectors.specs.Names.{is_name, position_of}
use Rattle.dt_script.specs.NameBook.{empty_book}
use Rattle.dt_script.specs.LawfulBook.{LawfulTexts, LawfulBook}

no_texts : LawfulTexts []
no_texts = record { distinct = λ number text is. absurd cc; are_names = All-nil (λ text. IsTrue (is_name text)) }

pub no_names_are_lawful : LawfulBook empty_book
no_names_are_lawful = record { classes = no_texts; selectors = no_texts; bodies = no_texts }

-- a class that has two numbers
one_class_twice : LawfulBook (record { classes = codes "A" ∷ codes "A" ∷ []; selectors = []; bodies = [] }) → ⊥
one_class_twice lawful =
    let second : position_of (codes "A") (codes "A" ∷ codes "A" ∷ []) ≡ Some 1 = lawful.classes.distinct 1 (codes "A") refl in
    cc
