-- What a tree of pages keeps: a finite map from addresses to words, and how many pages it takes.
use Rattle.std.specs.Prelude.{◌≢◌, ◌≤◌, ◌⊎◌, ℕ, zero, suc, ◌+◌, ◌-◌, ◌/◌, ◌^◌, ◌<◌, ◌==◌, ◌&&◌, not, Bool, List, ◌++◌, length, map, filter, unwrap_or, All}
use Rattle.std.specs.Ordering.{nat_cmp}
use Rattle.std.specs.FinMap.{FinMap, get, entries}
use Rattle.std.specs.List.{list_any, dedup}
use Rattle.dt_pages.specs.Reading.{Reading, page_words, levels, addresses}

-- the words that are set, by address
abbrev pub Image : Type 0
Image = FinMap nat_cmp ℕ

-- only addresses are set, and no word that is set is 0
abbrev pub IsImage : Image → Type 0
IsImage image = All (λ set. (set.0 < addresses) × (set.1 ≢ 0)) (entries image)

-- the image as a reading: the word that is set, or 0
abbrev pub look_up : Image → Reading
look_up image address = unwrap_or (get image address) 0

-- a page of level 1 stands over `page_words` addresses, one of each further level over so many pages of the level below;
-- this is the place of an address's page among those of a level
abbrev pub place : ℕ → ℕ → ℕ
place level address = address / page_words ^ level

-- the places of a level below which a word is set, each once
abbrev pub used_places : Image → ℕ → List ℕ
used_places image level = dedup (λ a b. a == b) (map (λ set. place level set.0) (entries image))

-- below this place of a level the images have different words
abbrev pub differs_below : Image → Image → ℕ → ℕ → Bool
differs_below old new level at =
    list_any (λ set. (place level set.0 == at) && not (look_up old set.0 == look_up new set.0))
    (entries old ++ entries new)

-- how many nodes the levels up to this one have below which a word is set
abbrev pub nodes_up_to : ℕ → Image → ℕ
nodes_up_to zero image = 0
nodes_up_to (suc level) image = nodes_up_to level image + length (used_places image (suc level))

-- how many nodes the tree of the image has below which a word is set
abbrev pub nodes : Image → ℕ
nodes image = nodes_up_to levels image

-- how many nodes the levels above the leaves have, up to this one
abbrev pub above_leaves_up_to : ℕ → Image → ℕ
above_leaves_up_to zero image = 0
above_leaves_up_to (suc level) image = above_leaves_up_to level image + length (used_places image (suc (suc level)))

-- how many nodes are neither the top nor a leaf
abbrev pub between : Image → ℕ
between image = above_leaves_up_to (levels - 2) image

-- the regions of an image: class words, selector words and place words; cells of one receiver; cells of the master array
abbrev pub IsInRegion : ℕ → Type 0
IsInRegion address = (address < 12288) ⊎ ((2 ^ 24 ≤ address) × (address < 2 ^ 25)) ⊎ ((2 ^ 26 ≤ address) × (address < 2 ^ 27))

-- every word that is set lies in one of them
abbrev pub IsInRegions : Image → Type 0
IsInRegions image = All (λ set. IsInRegion set.0) (entries image)

-- how many nodes of the levels up to this one have a word of the new image set below them, and differ from the old image
abbrev pub need_up_to : ℕ → Image → Image → ℕ
need_up_to zero old new = 0
need_up_to (suc level) old new =
    need_up_to level old new + length (filter (differs_below old new (suc level)) (used_places new (suc level)))

-- how many pages a new image needs beside the old one: its nodes below which a word is set and which differ from the old image
abbrev pub need : Image → Image → ℕ
need old new = need_up_to levels old new
