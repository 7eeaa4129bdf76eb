-- What a new version of a tree needs: the pages to write and their words, the new top, and the pages that it has no more.
use Rattle.std.specs.Prelude.{◌≡◌, ℕ, ◌<◌, ◌==◌, ◌&&◌, nat_lt, if◌then◌else◌, List, [], length, get_or, Option, Some, None, refl}
use Rattle.std.specs.List.{IsDistinct}
use Rattle.std.specs.Coded.{Coded, code_by, coded×, coded_list, coded_ℕ}
use Rattle.std.specs.FinMap as finite
use Rattle.dt_pages.specs.Reading.{addresses, page_words}
use Rattle.dt_pages.specs.Draft.{Drafted, laid_over}
use Rattle.dt_pages.specs.Numbering.{Numbering, IsNode, top_node, child, Follows, AreGone}

-- the words and page numbers that change, by position; the pages to write and the words of each; the new top; and the pages
-- that go
pub record Planned : Type 0 where
  pub changes : Drafted
  pub pages : List ℕ
  pub contents : List (List ℕ)
  pub top : ℕ
  pub gone : List ℕ

-- by this proofs tell two of them apart
abbrev pub planned_code : Coded Planned
planned_code = code_by (Drafted × (List ℕ × (List (List ℕ) × (ℕ × List ℕ))))
    (coded× (finite.code coded_ℕ coded_ℕ) (coded× (coded_list coded_ℕ) (coded× (coded_list (coded_list coded_ℕ)) (coded× coded_ℕ (coded_list coded_ℕ)))))
    (λ p. (p.changes, (p.pages, (p.contents, (p.top, p.gone)))))
    (λ p. record { changes = p.0; pages = p.1.0; contents = p.1.1.0; top = p.1.1.1.0; gone = p.1.1.1.1 }) (λ _. refl)

-- the page to write at a place, where there is one
abbrev pub planned_page : Planned → ℕ → Option ℕ
planned_page plan place = if nat_lt place (length plan.pages) then Some (get_or plan.pages place 0) else None

-- the word at a place of a page that is to be written, where there is one
abbrev pub planned_word : Planned → ℕ → ℕ → Option ℕ
planned_word plan place at =
    if nat_lt place (length plan.contents) && nat_lt at page_words then Some (get_or (get_or plan.contents place []) at 0) else None

-- the plan of a draft over a numbering, with the pages of a list: the words are those of the draft; the numbers follow with
-- all pages of the list; each page is to have what stands at its node's places; and the top and the pages that go, each
-- listed once, are those of the new numbering
pub record IsPlan (numbers : Numbering) (drafted : Drafted) (list : List ℕ) (plan : Planned) : Type 0 where
  pub words : (address : ℕ) → address < addresses → laid_over plan.changes numbers address ≡ laid_over drafted numbers address
  pub follows : Follows numbers (laid_over plan.changes numbers) list
  pub listed : plan.pages ≡ list
  pub count : length plan.contents ≡ length list
  pub contents : (node place at : ℕ) → IsNode node → place < length list → laid_over plan.changes numbers node ≡ get_or list place 0 → at < page_words
      → get_or (get_or plan.contents place []) at 0 ≡ laid_over plan.changes numbers (child node at)
  pub top : plan.top ≡ laid_over plan.changes numbers top_node
  pub gone : AreGone numbers (laid_over plan.changes numbers) plan.gone
  pub gone_once : IsDistinct (λ a b. a == b) plan.gone
