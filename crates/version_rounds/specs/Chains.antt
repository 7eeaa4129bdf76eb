-- What an author keeps that publishes each version on a chain of three pages: root r has the pages 1 + 3 r, 2 + 3 r and 3 + 3 r.
use Rattle.std.specs.Prelude.{◌≡◌, ◌≢◌, ℕ, ◌+◌, ◌*◌, ◌<◌, List, length, slice_index_or}
use Rattle.dt_pages.specs.Reading.{page_words}
use Rattle.dt_gate.specs.declared.gate.Author.{Author}
use Rattle.dt_gate.specs.declared.gate.Standing.{Standing}
use Rattle.dt_gate.specs.declared.gate.Standing.TheVariants as standing
use Rattle.dt_gate.specs.Gate.{pages_of, root_at, IsLive}
use Rattle.dt_version.specs.declared.view.Size.{Size}
use Rattle.version_rounds.specs.declared.known.Known.{Known}
use Rattle.version_rounds.specs.declared.known.Known.TheVariants as known

-- a word fits its page: page 0 has no word, the top page of a chain only 0 or the number of the next page, and so has the middle one
pub record IsFit (page word : ℕ) : Type 0 where
  pub none_in_page_zero : page ≡ 0 → word ≡ 0
  pub from_top : (root : ℕ) → page ≡ 1 + 3 * root → root < 4 → word ≢ 0 → word ≡ 2 + 3 * root
  pub from_middle : (root : ℕ) → page ≡ 2 + 3 * root → root < 4 → word ≢ 0 → word ≡ 3 + 3 * root

-- the standing that is kept
abbrev pub standing_of : Known → Standing
standing_of known.Free = standing.Free
standing_of known.Now = standing.Now
standing_of (known.Old entries) = standing.Old entries

-- how the root of this number is known
abbrev pub known_at : List Known → ℕ → Known
known_at kept root = slice_index_or kept root known.Free

module _ {M I : Type 0} where
  -- live roots have chains of their own, or no page but page 0
  pub record IsOnChains (author : Author M I) : Type 0 where
    pub four_roots : length author.roots ≡ 4
    pub sixteen_pages : length author.words ≡ 8192
    pub tops : (root : ℕ) → IsLive (root_at author root).standing
        → (root_at author root).top ≢ 0 → (root_at author root).top ≡ 1 + 3 * root
    pub words_fit : (page at : ℕ) → at < page_words → IsFit page (pages_of author.words page at)

  -- the author stands between two rounds: this is known of its roots, so many versions were published, so many readers are out
  pub record IsReady (size : Size) (kept : List Known) (version out : ℕ) (author : Author M I) : Type 0 where
    pub two_readers : size.readers ≡ 2
    pub pages_are : size.pages ≡ 16
    pub chains : IsOnChains author
    pub four_kept : length kept ≡ 4
    pub is_known : (root : ℕ) → root < 4 → (root_at author root).standing ≡ standing_of (known_at kept root)
    pub current_is : (root_at author author.current).standing ≡ standing.Now
    pub current_below : author.current < 4
    pub version_is : length author.history ≡ version
    pub out_is : author.out ≡ out

  -- the chain of the root is filled, and address 0 has this word
  pub record IsFilled (author : Author M I) (root word : ℕ) : Type 0 where
    pub top : pages_of author.words (1 + 3 * root) 0 ≡ 2 + 3 * root
    pub middle : pages_of author.words (2 + 3 * root) 0 ≡ 3 + 3 * root
    pub leaf : pages_of author.words (3 + 3 * root) 0 ≡ word
