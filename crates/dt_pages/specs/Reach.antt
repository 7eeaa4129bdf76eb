-- The pages that a top page reaches, as a list.
use Rattle.std.specs.Prelude.{ℕ, zero, suc, ◌==◌, ◌↔◌, if◌then◌else◌, List, [], ◌∷◌, Contains}
use Rattle.std.specs.List.{IsDistinct, flat_map, list_any, range_with_len}
use Rattle.dt_pages.specs.Reading.{Pages, page_words, levels, Reaches}

-- the pages met on all ways down from the page of this number, over so many levels, as often as they are met
unfoldable pub met : Pages → ℕ → ℕ → List ℕ
met pages zero found = []
met pages (suc level) found = found ∷ flat_map (λ at. met pages level (pages found at)) (range_with_len 0 page_words)

-- the numbers of a list, each once
abbrev pub each_once : List ℕ → List ℕ
each_once [] = []
each_once (number ∷ numbers) =
    if list_any (λ other. number == other) numbers then each_once numbers else number ∷ each_once numbers

-- the pages that the top page reaches, each once
unfoldable pub reached : Pages → ℕ → List ℕ
reached pages top = each_once (met pages levels top)

-- they are those of the relation, and each stands there once
pub record ReachIsListed (pages : Pages) (top : ℕ) : Type 0 where
  pub each_once : IsDistinct (λ a b. a == b) (reached pages top)
  pub reached : (page : ℕ) → Contains (reached pages top) page ↔ Reaches pages top page

-- so for all pages
abbrev pub EachReachIsListed : Type 0
EachReachIsListed = (pages : Pages) (top : ℕ) → ReachIsListed pages top
