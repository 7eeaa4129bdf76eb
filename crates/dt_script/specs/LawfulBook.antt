-- What holds of every book that the calls make.
use Rattle.std.specs.Prelude.{ℕ, IsTrue, List, All}
use Rattle.dt_selectors.specs.Names.{is_name}
use Rattle.dt_selectors.specs.Lawful.{HasDistinctTexts}
use Rattle.dt_script.specs.NameBook.{NameBook}

-- no text stands twice, and each is a name
pub record LawfulTexts (texts : List (List ℕ)) : Type 0 where
  pub distinct : HasDistinctTexts texts
  pub are_names : All (λ text. IsTrue (is_name text)) texts

-- no two classes have one name, nor two selectors, nor two bodies
pub record LawfulBook (book : NameBook) : Type 0 where
  pub classes : LawfulTexts book.classes
  pub selectors : LawfulTexts book.selectors
  pub bodies : LawfulTexts book.bodies
