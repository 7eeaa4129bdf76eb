-- How a tree of pages is read.
-- A page has `page_words` words. They are numbers of pages, down to the last level, whose words are those that are read.
use Rattle.std.specs.Prelude.{◌≡◌, ◌⊎◌, ℕ, zero, suc, ◌/◌, ◌%◌, ◌^◌, ◌<◌, if◌then◌else◌, nat_lt}

-- the words of all pages, by the page's number and the place in the page
abbrev pub Pages : Type 0
Pages = ℕ → ℕ → ℕ

-- a word for every address
abbrev pub Reading : Type 0
Reading = ℕ → ℕ

-- the reading that has 0 everywhere
abbrev pub blank : Reading
blank address = 0

-- a page has so many words
abbrev pub page_words : ℕ
page_words = 512

-- a tree has so many levels of pages: a change of their number is made here and in `addresses`
abbrev pub levels : ℕ
levels = 3

-- addresses are below this number
abbrev pub addresses : ℕ
addresses = 2 ^ 27

-- what is found at an address by following so many levels of pages, from the page of this number on
abbrev pub follow : Pages → ℕ → ℕ → ℕ → ℕ
follow pages zero found address = found
follow pages (suc level) found address = follow pages level (pages found (address / page_words ^ level % page_words)) address

-- the reading from a top page; past the last address it has 0
abbrev pub reading : Pages → ℕ → Reading
reading pages top address = if nat_lt address addresses then follow pages levels top address else 0

-- the page is met on a way down from the page of this number, over so many levels
abbrev pub Meets : Pages → ℕ → ℕ → ℕ → Type 0
Meets pages zero found page = ⊥
Meets pages (suc level) found page = (found ≡ page) ⊎ ((at : ℕ) × (at < page_words) × Meets pages level (pages found at) page)

-- the top page reaches the page
abbrev pub Reaches : Pages → ℕ → ℕ → Type 0
Reaches pages top page = Meets pages levels top page
