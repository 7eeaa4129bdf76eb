-- Runs over few pages.
use Rattle.std.proofs.Common.{◌≡◌, ◌≢◌, ◌⊎◌, ℕ, zero, suc, ◌+◌, ◌*◌, ◌<◌, List, get_or, set, replicate, sym, subst, ◌∙◌, inl, inr, arith}
use Rattle.dt_pages.specs.Reading.{Pages, Reading, Meets, Reaches, levels, page_words}
use Rattle.dt_pages.specs.Laws.{PageZeroIsEmpty}
use Rattle.dt_gate.specs.declared.gate.Gate.{Gate}
use Rattle.dt_gate.specs.Gate.{Bounds, IsLive, pages_of, root_at}
use Rattle.dt_gate.proofs.Kept.{Kept}
use Rattle.dt_gate.proofs.Lists.{at_set}
use Rattle.dt_gate.proofs.Running.{same_everywhere}

-- where all words are zero, a page reaches itself and page 0
meets_zero : (pages : Pages) → ((page at : ℕ) → pages page at ≡ 0) → (level found page : ℕ) → Meets pages level found page → (found ≡ page) ⊎ (page ≡ 0)
meets_zero pages zeros zero found page met = absurd met
meets_zero pages zeros (suc level) found page (inl is) = inl is
meets_zero pages zeros (suc level) found page (inr way) = again (meets_zero pages zeros level (pages found way.0) page way.2)
  where
    again : (pages found way.0 ≡ page) ⊎ (page ≡ 0) → (found ≡ page) ⊎ (page ≡ 0)
    again (inl e) = inr (sym e ∙ zeros found way.0)
    again (inr e) = inr e

-- so all that it reaches is in bounds
pub zero_in_bounds : (n bound top page : ℕ) → top < bound → Reaches (pages_of (replicate n 0)) top page → page < bound
zero_in_bounds n bound top page below met = go (meets_zero (pages_of (replicate n 0)) (λ p at. same_everywhere n 0 (page_words * p + at)) levels top page met)
  where
    go : (top ≡ page) ⊎ (page ≡ 0) → page < bound
    go (inl e) = omega (arith, e, below)
    go (inr e) = omega (arith, e, below)

-- where all words are numbers of pages, all that a page reaches is in bounds
pub bounded_reach : (pages : Pages) (bound : ℕ) → ((page at : ℕ) → pages page at < bound) → (level found page : ℕ) → found < bound → Meets pages level found page → page < bound
bounded_reach pages bound words zero found page below met = absurd met
bounded_reach pages bound words (suc level) found page below (inl is) = omega (arith, is, below)
bounded_reach pages bound words (suc level) found page below (inr way) = bounded_reach pages bound words level (pages found way.0) page (words found way.0) way.2

-- one word more is set
pub bounded_set : (words : List ℕ) (bound i word : ℕ) → word < bound → ((j : ℕ) → get_or words j 0 < bound) → (j : ℕ) → get_or (set words i word) j 0 < bound
bounded_set words bound i word below all j = at_set (λ w. w < bound) 0 words i j word (λ e. below) (λ n. all j) (λ past. all j)

-- while only root 0 is live, and its top is page 0, no other page is reached
pub not_reached : {M I : Type 0} (shows : Reading → List I → Type 0) (bounds : Bounds) (gate : Gate M I) → PageZeroIsEmpty → Kept shows bounds gate
    → ((root : ℕ) → IsLive (root_at gate.author root).standing → (root_at gate.author root).top ≡ 0) → (page : ℕ) → page ≢ 0
    → (root : ℕ) → IsLive (root_at gate.author root).standing → ¬ Reaches (pages_of gate.author.words) (root_at gate.author root).top page
not_reached shows bounds gate page_zero kept only page other root live met =
    other (page_zero.reach (pages_of gate.author.words) kept.shown.pages.page_zero_is_empty page (subst (λ t. Reaches (pages_of gate.author.words) t page) (only root live) met))
