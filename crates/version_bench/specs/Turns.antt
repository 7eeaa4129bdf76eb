-- Where the author of a bench stands: while it fills a fresh store, and from round to round as it publishes on two roots in turn.
use Rattle.std.specs.Prelude.{◌≡◌, ◌≢◌, ℕ, ◌+◌, ◌<◌, [], length}
use Rattle.dt_pages.specs.Reading.{page_words}
use Rattle.dt_gate.specs.declared.gate.Author.{Author}
use Rattle.dt_gate.specs.declared.gate.Standing.{Standing}
use Rattle.dt_gate.specs.declared.gate.Standing.TheVariants as standing
use Rattle.dt_gate.specs.Gate.{pages_of, root_at}
use Rattle.dt_version.specs.declared.view.Size.{Size}
use Rattle.version_bench.specs.declared.known.Known.{Known}
use Rattle.version_bench.specs.declared.known.Known.TheVariants as known

-- the standing that is kept of the root that is not current
abbrev pub standing_of : Known → Standing
standing_of known.Free = standing.Free
standing_of (known.Old entries) = standing.Old entries

module _ {M I : Type 0} where
  -- each word is the number of a page that there is
  abbrev pub AreSmall : Size → Author M I → Type 0
  AreSmall size author = (page at : ℕ) → at < page_words → pages_of author.words page at < size.pages

  -- a fresh author that has filled words, and done no more: none of page 0, and each the number of a page that there is
  pub record IsFilling (size : Size) (author : Author M I) : Type 0 where
    pub current_is : author.current ≡ 0
    pub long : length author.roots ≡ size.readers + 2
    pub first_now : (root_at author 0).standing ≡ standing.Now
    pub first_top : (root_at author 0).top ≡ 0
    pub others_free : (root : ℕ) → root ≢ 0 → (root_at author root).standing ≡ standing.Free
    pub none_published : author.history ≡ []
    pub none_out : author.out ≡ 0
    pub page_zero : (at : ℕ) → at < page_words → pages_of author.words 0 at ≡ 0
    pub small : AreSmall size author

  -- the author publishes on two roots in turn: this one is current, and of the other one this is known;
  -- so many versions were published, and so many readers are out
  pub record IsTurning (size : Size) (current other : ℕ) (kept : Known) (version out : ℕ) (author : Author M I) : Type 0 where
    pub long : length author.roots ≡ size.readers + 2
    pub current_there : current < size.readers + 2
    pub other_there : other < size.readers + 2
    pub apart : current ≢ other
    pub current_is : author.current ≡ current
    pub current_now : (root_at author current).standing ≡ standing.Now
    pub other_is : (root_at author other).standing ≡ standing_of kept
    pub version_is : length author.history ≡ version
    pub out_is : author.out ≡ out
    pub small : AreSmall size author
