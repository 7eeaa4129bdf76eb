-- Names with a list of names more.
use Rattle.std.specs.Prelude.{◌≡◌, ℕ, List, [], ◌∷◌, Some, refl}
use Rattle.dt_selectors.specs.Names.{Names, position_of, with_name}

-- the names with all of these, one after the other
abbrev pub with_names : Names → List (List ℕ) → Names
with_names names [] = names
with_names names (text ∷ texts) = with_names (with_name names text) texts

-- a name that has a number keeps it when any list of names is added
abbrev pub NumbersStayAlong : Type 0
NumbersStayAlong = (names : Names) (name : List ℕ) (added : List (List ℕ)) (number : ℕ) →
    position_of name names.texts ≡ Some number → position_of name (with_names names added).texts ≡ Some number

-- of three names one is there already
abbrev one_name : Names
one_name = record { limit = 4; texts = (97 ∷ []) ∷ [] }

two_more : (with_names one_name ((98 ∷ []) ∷ (97 ∷ []) ∷ (99 ∷ []) ∷ [])).texts ≡ (97 ∷ []) ∷ (98 ∷ []) ∷ (99 ∷ []) ∷ []
two_more = refl

the_first_stays : NumbersStayAlong →
    position_of (97 ∷ []) (with_names one_name ((98 ∷ []) ∷ (97 ∷ []) ∷ (99 ∷ []) ∷ [])).texts ≡ Some 0
the_first_stays law = law one_name (97 ∷ []) ((98 ∷ []) ∷ (97 ∷ []) ∷ (99 ∷ []) ∷ []) 0 refl
