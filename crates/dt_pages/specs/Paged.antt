-- A tree with a page for each node: its image, and the numbers of the pages.
use Rattle.std.specs.Prelude.{ℕ, ◌-◌, List, get_or, nat_lt, if◌then◌else◌, refl}
use Rattle.std.specs.Coded.{Coded, code_by, coded×, coded_list, coded_ℕ}
use Rattle.std.specs.FinMap as map
use Rattle.dt_pages.specs.Reading.{addresses}
use Rattle.dt_pages.specs.Image.{Image, look_up}
use Rattle.dt_pages.specs.Draft.{Drafted, laid_over}
use Rattle.dt_pages.specs.TreeForm.{image_of}
use Rattle.dt_pages.specs.Numbering.{Numbering}

-- the image, and the page numbers of the leaves, the middle nodes and the top, in this order
pub record Paged : Type 0 where
  pub image : Image
  pub page_numbers : List ℕ

-- by this proofs tell two of them apart
abbrev pub paged_code : Coded Paged
paged_code = code_by (Image × List ℕ) (coded× (map.code coded_ℕ coded_ℕ) (coded_list coded_ℕ))
    (λ p. (p.image, p.page_numbers)) (λ p. record { image = p.0; page_numbers = p.1 }) (λ _. refl)

-- at each address its word, and at each node the number of its page
abbrev pub numbering : Paged → Numbering
numbering paged position =
    if nat_lt position addresses then look_up paged.image position else get_or paged.page_numbers (position - addresses) 0

-- the image with the words of a draft set over it
abbrev pub image_under : Drafted → Image → Image
image_under drafted image = image_of (laid_over drafted (look_up image))
