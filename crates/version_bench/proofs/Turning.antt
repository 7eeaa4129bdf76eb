-- Why an author that publishes on two roots in turn may publish what it has laid.
use Rattle.std.proofs.Common.{◌≡◌, ℕ, zero, suc, ◌+◌, ◌<◌, length, Some, inl, inr, refl, ap, subst, ◌∙◌, arith, length-set, get_or-set_same, get_or-set_other}
use Rattle.dt_pages.specs.Reading.{Meets}
use Rattle.dt_gate.specs.declared.event.RecordWord.{RecordWord}
use Rattle.dt_gate.specs.declared.event.RecordWord.TheVariants.{Exits, Version, Top}
use Rattle.dt_gate.specs.declared.gate.Author.{Author}
use Rattle.dt_gate.specs.declared.gate.Root.{Root}
use Rattle.dt_gate.specs.Gate.{pages_of, root_at, blank_root}
use Rattle.dt_gate.specs.Author.{MayPublish, after_lay, with_root, with_word}
use Rattle.dt_gate.specs.WrongMachines.{anything}
use Rattle.dt_version.specs.AuthorCalls.{laid_whole}
use Rattle.dt_version.specs.Limits.{bounds}
use Rattle.dt_version.specs.declared.view.Size.{Size}
use Rattle.version_bench.specs.declared.known.Known.{Known}
use Rattle.version_bench.specs.declared.known.Known.TheVariants as known
use Rattle.version_bench.specs.Turns.{IsTurning, AreSmall, standing_of}

word_keeps : (r : Root) (word : RecordWord) (value : ℕ) → (with_word r word value).standing ≡ r.standing
word_keeps r Exits value = refl
word_keeps r Version value = refl
word_keeps r Top value = refl

module _ {M I : Type 0} where
  -- the root that is not current is another, of this standing
  other_set : (size : Size) (current other : ℕ) (kept after : Known) (version out : ℕ) (author : Author M I) (r : Root) → r.standing ≡ standing_of after
      → IsTurning size current other kept version out author → IsTurning size current other after version out (with_root author other r)
  other_set size current other kept after version out author r is turning = let long = turning.long in let there = turning.other_there in record {
    long = length-set author.roots other r ∙ turning.long;
    current_there = turning.current_there;
    other_there = turning.other_there;
    apart = turning.apart;
    current_is = turning.current_is;
    current_now = ap (λ (s : Root). s.standing) (get_or-set_other author.roots other current r blank_root turning.apart) ∙ turning.current_now;
    other_is = ap (λ (s : Root). s.standing) (get_or-set_same author.roots other r blank_root (omega (arith, long, there))) ∙ is;
    version_is = turning.version_is;
    out_is = turning.out_is;
    small = turning.small;
  }

  lay_keeps : (size : Size) (current other version out : ℕ) (author : Author M I) (word : RecordWord) (value : ℕ) → IsTurning size current other known.Free version out author
      → IsTurning size current other known.Free version out (after_lay author other word value)
  lay_keeps size current other version out author word value turning =
      other_set size current other known.Free known.Free version out author (with_word (root_at author other) word value)
      (word_keeps (root_at author other) word value ∙ turning.other_is) turning

  laid_at : (author : Author M I) (root : ℕ) (word : RecordWord) (value : ℕ) → root < length author.roots
      → root_at (after_lay author root word value) root ≡ with_word (root_at author root) word value
  laid_at author root word value below = get_or-set_same author.roots root (with_word (root_at author root) word value) blank_root below

  laid_root : (size : Size) (current other version out next top : ℕ) (author : Author M I) → IsTurning size current other known.Free version out author
      → root_at (laid_whole author other next top) other ≡ with_word (with_word (with_word (root_at author other) Exits 0) Version next) Top top
  laid_root size current other version out next top author turning =
      let one = lay_keeps size current other version out author Exits 0 turning in
      let two = lay_keeps size current other version out (after_lay author other Exits 0) Version next one in
      let there = turning.other_there in let long_0 = turning.long in let long_1 = one.long in let long_2 = two.long in
      laid_at (after_lay (after_lay author other Exits 0) other Version next) other Top top (omega (arith, there, long_2))
      ∙ ap (λ r. with_word r Top top) (laid_at (after_lay author other Exits 0) other Version next (omega (arith, there, long_1))
      ∙ ap (λ r. with_word r Version next) (laid_at author other Exits 0 (omega (arith, there, long_0))))

  -- where all words are small, what a small top page reaches is
  reached_small : (size : Size) (author : Author M I) → AreSmall size author → (level found page : ℕ) → found < size.pages
      → Meets (pages_of author.words) level found page → page < size.pages
  reached_small size author small zero found page below met = absurd met
  reached_small size author small (suc level) found page below (inl e) = subst (λ n. n < size.pages) e below
  reached_small size author small (suc level) found page below (inr (at, place, rest)) =
      reached_small size author small level (pages_of author.words found at) page (small found at place) rest

module _ {M : Type 0} where
  pub may_publish : (size : Size) (current other version out next : ℕ) (author : Author M ℕ) → next ≡ version + 1 → 1 < size.pages
      → IsTurning size current other known.Free version out author
      → MayPublish anything (bounds size) (laid_whole author other next 1) other next
  may_publish size current other version out next author is_next two turning = record {
    is_free = ap (λ (r : Root). r.standing) is ∙ turning.other_is;
    no_exit = ap (λ (r : Root). r.laid.exits) is;
    next_version = ap (λ (r : Root). r.laid.version) is ∙ ap (λ n. Some n) (let known = turning.version_is in let e : next ≡ length author.history + 1 = omega (arith, known, is_next) in e);
    top = 1;
    top_is_laid = ap (λ (r : Root). r.laid.top) is;
    top_shows = tt;
    in_bounds = λ page met. reached_small size author turning.small 3 1 page two met;
  }
    where
      is : root_at (laid_whole author other next 1) other ≡ with_word (with_word (with_word (root_at author other) Exits 0) Version next) Top 1
      is = laid_root size current other version out next 1 author turning
