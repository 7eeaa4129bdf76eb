-- What holds of all names and of all lists of selectors that the calls make.
use Rattle.std.specs.Prelude.{◌≡◌, ℕ, ◌<◌, ◌≤◌, IsTrue, nat_lt, List, length, Some, slice_get, All}
use Rattle.dt_graph.specs.InOrder.{Ascends}
use Rattle.dt_selectors.specs.Names.{Names, is_name, position_of}
use Rattle.dt_selectors.specs.Selectors.{Selector}
use Rattle.dt_selectors.specs.declared.limits.TheConstants.{NAMES, SELECTORS}

-- each text's place is its number, so no text stands twice
abbrev pub HasDistinctTexts : List (List ℕ) → Type 0
HasDistinctTexts texts =
    (number : ℕ) (text : List ℕ) → slice_get texts number ≡ Some text → position_of text texts ≡ Some number

-- lawful names: no text stands twice, each is a name, and there are no more than the limit
pub record LawfulNames (names : Names) : Type 0 where
  pub distinct : HasDistinctTexts names.texts
  pub are_names : All (λ text. IsTrue (is_name text)) names.texts
  pub few : length names.texts ≤ names.limit
  pub limit_in_range : (1 ≤ names.limit) × (names.limit ≤ NAMES)

-- each selector's number is below the next one's
abbrev pub AscendingSelectors : List Selector → Type 0
AscendingSelectors selectors = Ascends (λ s. s.number) nat_lt selectors

-- a selector in range
abbrev pub LawfulSelector : Selector → Type 0
LawfulSelector s = (s.number < SELECTORS) × (0 < s.arity) × (s.arity ≤ 4)

-- lawful selectors: they ascend, so none stands twice, and each is in range
pub record LawfulSelectors (selectors : List Selector) : Type 0 where
  pub ascend : AscendingSelectors selectors
  pub in_range : All LawfulSelector selectors
