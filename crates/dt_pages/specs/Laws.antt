-- What holds of readings, of what they reach, and of images.
use Rattle.std.specs.Prelude.{true, ◌≢◌, ◌≡◌, ℕ, ◌+◌, ◌<◌, ◌≤◌, ◌^◌, ◌↔◌, length, Some, Any, Contains}
use Rattle.std.specs.List.Sorted.{IsStrictlyIncreasing}
use Rattle.std.specs.FinMap.{empty, entries, get}
use Rattle.dt_pages.specs.Reading.{Pages, page_words, blank, levels, addresses, reading, Reaches}
use Rattle.dt_pages.specs.Image.{Image, IsImage, place, used_places, differs_below, look_up, between, nodes, IsInRegions, need}

-- the words of the page are the same in both
abbrev pub SamePage : Pages → Pages → ℕ → Type 0
SamePage pages others page = (at : ℕ) → at < page_words → pages page at ≡ others page at

-- where the words of every page that a top page reaches are the same, it gives the same reading
abbrev pub SameReading : Type 0
SameReading = (pages others : Pages) (top : ℕ) → ((page : ℕ) → Reaches pages top page → SamePage pages others page)
    → reading pages top ≡ reading others top

-- where the words of every page that a top page reaches are the same, it reaches the same pages
abbrev pub SameReach : Type 0
SameReach = (pages others : Pages) (top : ℕ) → ((page : ℕ) → Reaches pages top page → SamePage pages others page)
    → (page : ℕ) → Reaches pages top page ↔ Reaches others top page

-- a top page reaches itself
abbrev pub TopIsReached : Type 0
TopIsReached = (pages : Pages) (top : ℕ) → Reaches pages top top

-- so the words of the pages that a top page reaches decide what it gives and what it reaches; it is one of them
pub record ReachedPagesDecide : Type 0 where
  pub reading : SameReading
  pub reach : SameReach
  pub itself : TopIsReached

-- a word of the image is set below this place of a level
abbrev pub HasWordBelow : Image → ℕ → ℕ → Type 0
HasWordBelow image level at = Any (λ set. place level set.0 ≡ at) (entries image)

-- the places that are counted for nodes are those below which a word is set, each once
pub record PlacesAreCounted (image : Image) (level : ℕ) : Type 0 where
  pub each_once : IsStrictlyIncreasing (used_places image level)
  pub used : (at : ℕ) → Contains (used_places image level) at ↔ HasWordBelow image level at

-- two images differ below a place of a level where some address there has different words
pub record PlacesDiffer (old new : Image) (level at : ℕ) : Type 0 where
  pub address : ℕ
  pub is_there : place level address ≡ at
  pub is_other : look_up old address ≢ look_up new address

-- the test by which needed nodes are counted says so
abbrev pub DifferencesAreSeen : Type 0
DifferencesAreSeen = (old new : Image) (level at : ℕ) → (differs_below old new level at ≡ true) ↔ PlacesDiffer old new level at

-- so at every level of every image
abbrev pub NodesAreCounted : Type 0
NodesAreCounted = (image : Image) (level : ℕ) → PlacesAreCounted image level

-- beside the empty image each node of an image needs a page
abbrev pub FirstNeedsAll : Type 0
FirstNeedsAll = (image : Image) → IsImage image → need empty image ≡ nodes image

-- beside the image itself none does
abbrev pub SameNeedsNone : Type 0
SameNeedsNone = (image : Image) → need image image ≡ 0

-- and never more do than there are
abbrev pub NeedIsAtMostNodes : Type 0
NeedIsAtMostNodes = (old new : Image) → need old new ≤ nodes new

-- the nodes are at most one at the top, those between the top and the leaves, and one leaf for each word that is set
abbrev pub NodesAreFew : Type 0
NodesAreFew = (image : Image) → IsImage image → nodes image ≤ 1 + between image + length (entries image)

-- in the regions between them there are at most 321 of them, so all are at most 322 and the words
abbrev pub NodesInRegionsAreFew : Type 0
NodesInRegionsAreFew = (image : Image) → IsImage image → IsInRegions image → nodes image ≤ 322 + length (entries image)

-- where nothing is set, every address reads as 0
abbrev pub EmptyImageIsBlank : Type 0
EmptyImageIsBlank = look_up empty ≡ blank

-- where page 0 has zeros, every address of it reads as 0
abbrev pub PageZeroIsBlank : Type 0
PageZeroIsBlank = (pages : Pages) → ((at : ℕ) → at < page_words → pages 0 at ≡ 0) → reading pages 0 ≡ blank

-- where page 0 has zeros, it reaches only itself
abbrev pub PageZeroReachesItself : Type 0
PageZeroReachesItself = (pages : Pages) → ((at : ℕ) → at < page_words → pages 0 at ≡ 0)
    → (page : ℕ) → Reaches pages 0 page → page ≡ 0

-- so page 0 is the empty page
pub record PageZeroIsEmpty : Type 0 where
  pub image : EmptyImageIsBlank
  pub reading : PageZeroIsBlank
  pub reach : PageZeroReachesItself

-- so many levels of pages stand over all addresses
abbrev pub LevelsHoldAddresses : Type 0
LevelsHoldAddresses = addresses ≤ page_words ^ levels

-- what is set in an image is set at an address, and isn't 0
abbrev pub ImagesSetWords : Type 0
ImagesSetWords = (image : Image) → IsImage image → (address word : ℕ) → get image address ≡ Some word
    → (address < addresses) × (word ≢ 0)

-- past the last address nothing is read, neither in a tree of pages nor in an image
abbrev pub NothingIsPastTheLast : Type 0
NothingIsPastTheLast = (address : ℕ) → addresses ≤ address
    → ((pages : Pages) (top : ℕ) → reading pages top address ≡ 0)
    × ((image : Image) → IsImage image → look_up image address ≡ 0)
