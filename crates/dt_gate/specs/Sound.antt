-- What holds of every gate that a run can reach. It is kept by each event, and so is more than a reader rests on:
-- the sizes, what isn't laid, who has entered nothing.
use Rattle.std.specs.Prelude.{◌≡◌, ℕ, ◌+◌, ◌*◌, ◌<◌, ◌≤◌, true, false, List, [], ◌∷◌, ◌++◌, length, take, All, ⊤}
use Rattle.std.specs.Option.{ForSome}
use mathlib.Core.List.{IsPrefix}
use Rattle.dt_pages.specs.Reading.{Reading, reading, Reaches, page_words}
use Rattle.dt_pages.specs.Laws.{SamePage}
use Rattle.dt_gate.specs.declared.gate.Author.{Author}
use Rattle.dt_gate.specs.declared.gate.Frozen.{Frozen}
use Rattle.dt_gate.specs.declared.gate.Gate.{Gate}
use Rattle.dt_gate.specs.declared.gate.Root.{Root}
use Rattle.dt_gate.specs.declared.gate.Seat.{Seat}
use Rattle.dt_gate.specs.declared.gate.Stage.TheVariants.{In}
use Rattle.dt_gate.specs.declared.gate.Standing.TheVariants.{Free, Now, Old}
use Rattle.dt_gate.specs.Gate.{Bounds, pages_of, nothing_laid, IsLive, is_old, stands_in, root_at, exits_at, seat_at}
use Rattle.dt_gate.specs.Seats.{IsReader}
use Rattle.dt_gate.specs.Counts.{inside, near, readers, inside_unswept, times_taken, times_entered}

-- each number stands in the list once
abbrev pub AreDistinct : List ℕ → Type 0
AreDistinct [] = ⊤
AreDistinct (number ∷ numbers) = (stands_in number numbers ≡ false) × AreDistinct numbers

-- the words that are kept as laid are the words of their root, which so many have left
pub record LaidWordsStand (left : ℕ) (root : Root) : Type 0 where
  pub exits : ForSome root.laid.exits (λ word. word ≡ left)
  pub version : ForSome root.laid.version (λ word. word ≡ root.version)
  pub top : ForSome root.laid.top (λ word. word ≡ root.top)

-- both histories are prefixes of this one
abbrev pub BothArePrefixes : {I : Type 0} → List I × List I → List I → Type 0
BothArePrefixes joined history = IsPrefix joined.0 history × IsPrefix joined.1 history

module _ {M I : Type 0} where
  -- there are two roots more than readers, as many exits, and so many words as the pages have
  pub record HasItsSizes (bounds : Bounds) (gate : Gate M I) : Type 0 where
    pub roots : length gate.author.roots ≡ bounds.readers + 2
    pub exits : length gate.exits ≡ bounds.readers + 2
    pub words : length gate.author.words ≡ page_words * bounds.pages

  -- exactly one root is current, and it is the one that the version word names
  pub record OneRootIsCurrent (author : Author M I) : Type 0 where
    pub named : (root_at author author.current).standing ≡ Now
    pub no_other : (root : ℕ) → (root_at author root).standing ≡ Now → root ≡ author.current

  -- every entry is accounted for: who entered has left or is still inside
  pub record EntriesAreAccountedFor (gate : Gate M I) : Type 0 where
    pub of_the_current_root : exits_at gate gate.author.current + inside gate gate.author.current ≡ gate.entries
    pub of_an_old_root : (root entries : ℕ) → (root_at gate.author root).standing ≡ Old entries
        → exits_at gate root + inside gate root ≡ entries
    pub none_inside_a_free_root : (root : ℕ) → (root_at gate.author root).standing ≡ Free → inside gate root ≡ 0

  -- entries and readers stay within what was given
  pub record CountsAreBounded (bounds : Bounds) (gate : Gate M I) : Type 0 where
    pub entries : gate.entries + near gate ≤ bounds.entries + bounds.readers
    pub of_an_old_root : (root entries : ℕ) → (root_at gate.author root).standing ≡ Old entries
        → entries ≤ bounds.entries + bounds.readers
    pub readers_are_out : readers gate ≡ gate.author.out
    pub readers_out : gate.author.out ≤ bounds.readers

  -- the words of a root that a reader is inside are the words as it found them
  pub record WordsAreFrozen (author : Author M I) (root : ℕ) (frozen : Frozen) : Type 0 where
    pub version : frozen.version ≡ (root_at author root).version
    pub top : frozen.top ≡ (root_at author root).top
    pub pages : (page : ℕ) → Reaches (pages_of frozen.words) frozen.top page
        → SamePage (pages_of frozen.words) (pages_of author.words) page

  -- what a reader inside a root rests on: the words stay as it found them; it entered their version last;
  -- they show as many first items of its own history as that version says; and it has seen so many
  pub record InsideIsSafe (shows : Reading → List I → Type 0) (author : Author M I) (seat : Seat M I)
      (root : ℕ) (frozen : Frozen) : Type 0 where
    pub words_stay : WordsAreFrozen author root frozen
    pub entered_last : (before : List ℕ) × (seat.entered ≡ before ++ frozen.version ∷ [])
    pub words_show : shows (reading (pages_of frozen.words) frozen.top) (take frozen.version seat.history)
    pub version_is_seen : frozen.version ≤ length seat.history

  -- pages and versions
  pub record PagesShowVersions (shows : Reading → List I → Type 0) (bounds : Bounds)
      (gate : Gate M I) : Type 0 where
    pub page_zero_is_empty : (at : ℕ) → at < page_words → pages_of gate.author.words 0 at ≡ 0
    pub current_version : (root_at gate.author gate.author.current).version ≡ length gate.author.history
    pub version_is_published : (root : ℕ) → IsLive (root_at gate.author root).standing
        → (root_at gate.author root).version ≤ length gate.author.history
    pub versions_are_distinct : (root other : ℕ)
        → IsLive (root_at gate.author root).standing → IsLive (root_at gate.author other).standing
        → (root_at gate.author root).version ≡ (root_at gate.author other).version → root ≡ other
    pub each_shows_its_version : (root : ℕ) → IsLive (root_at gate.author root).standing
        → shows (reading (pages_of gate.author.words) (root_at gate.author root).top)
        (take (root_at gate.author root).version gate.author.history)
    pub reach_is_in_bounds : (root : ℕ) → IsLive (root_at gate.author root).standing
        → (page : ℕ) → Reaches (pages_of gate.author.words) (root_at gate.author root).top page
        → page < bounds.pages
    pub live_is_not_laid : (root : ℕ) → IsLive (root_at gate.author root).standing
        → (root_at gate.author root).laid ≡ nothing_laid
    pub laid_words_stand : (root : ℕ) → LaidWordsStand (exits_at gate root) (root_at gate.author root)
    pub inside_is_safe : (seat root : ℕ) (frozen : Frozen) → (seat_at gate seat).stage ≡ In root frozen
        → InsideIsSafe shows gate.author (seat_at gate seat) root frozen

  -- what a sweep has found held are old roots, each once
  pub record HeldAreOld (author : Author M I) : Type 0 where
    pub old : (root : ℕ) → stands_in root author.held ≡ true → is_old (root_at author root).standing ≡ true
    pub once : AreDistinct author.held

  -- they and the seats inside old roots not found held are together at most its count,
  -- which is at most the readers; so a sweep leaves no more roots than readers were out
  pub record SweepIsBounded (bounds : Bounds) (gate : Gate M I) : Type 0 where
    pub held_are_old : HeldAreOld gate.author
    pub held : length gate.author.held + inside_unswept gate ≤ gate.author.sweep
    pub count : gate.author.sweep ≤ bounds.readers

  -- every history that anyone has seen is a prefix of the author's, and what a taker joined are prefixes of its own
  pub record HistoriesArePrefixes (gate : Gate M I) : Type 0 where
    pub of_a_seat : (seat : ℕ) → IsPrefix (seat_at gate seat).history gate.author.history
    pub joined_by_a_seat : (seat : ℕ) → BothArePrefixes (seat_at gate seat).joined (seat_at gate seat).history
    pub joined_by_the_author : BothArePrefixes gate.author.joined gate.author.history

  -- the entries of a root are the times that its version was entered, and who entered a version has seen so many
  pub record EntriesAreEntered (gate : Gate M I) : Type 0 where
    pub of_the_current_root :
        gate.entries ≡ times_entered gate (root_at gate.author gate.author.current).version
    pub of_an_old_root : (root entries : ℕ) → (root_at gate.author root).standing ≡ Old entries
        → entries ≡ times_entered gate (root_at gate.author root).version
    pub only_published : (version : ℕ) → 0 < times_entered gate version → version ≤ length gate.author.history
    pub only_by_readers : (seat : ℕ) → ¬ IsReader (seat_at gate seat).stage → (seat_at gate seat).entered ≡ []
    pub only_seen : (seat : ℕ) → All (λ version. version ≤ length (seat_at gate seat).history) (seat_at gate seat).entered

  -- a worn look is accounted for: its version was published, the number that it found is at least the limit,
  -- and its version was entered at least so often
  pub record WasEntered (bounds : Bounds) (gate : Gate M I) (look : ℕ × ℕ) : Type 0 where
    pub published : look.0 ≤ length gate.author.history
    pub at_the_limit : bounds.entries ≤ look.1
    pub as_often : look.1 ≤ times_entered gate look.0

  -- so is each worn look of a seat, and each of the seats that were taken back
  pub record WornWasEntered (bounds : Bounds) (gate : Gate M I) : Type 0 where
    pub of_a_seat : (seat : ℕ) → All (WasEntered bounds gate) (seat_at gate seat).worn
    pub of_those_taken_back : All (All (WasEntered bounds gate)) gate.author.worn
    pub only_by_readers : (seat : ℕ) → ¬ IsReader (seat_at gate seat).stage → (seat_at gate seat).worn ≡ []
    pub as_many_taken_back : length gate.author.worn ≡ length gate.author.taken

  -- where no reader is out, the number of each worn look is at most how often its version was taken
  abbrev pub WornWasTaken : Author M I → Type 0
  WornWasTaken author = author.out ≡ 0 → All (All (λ look. look.1 ≤ times_taken author look.0)) author.worn

  -- histories and counts
  pub record HistoriesAndCounts (bounds : Bounds) (gate : Gate M I) : Type 0 where
    pub prefixes : HistoriesArePrefixes gate
    pub entries : EntriesAreEntered gate
    pub worn : WornWasEntered bounds gate
    pub worn_taken : WornWasTaken gate.author

  -- the gate is sound: it has its sizes, and the six parts hold
  pub record IsSound (shows : Reading → List I → Type 0) (bounds : Bounds) (gate : Gate M I) : Type 0 where
    pub has_its_sizes : HasItsSizes bounds gate
    pub one_root_is_current : OneRootIsCurrent gate.author
    pub entries_are_accounted_for : EntriesAreAccountedFor gate
    pub counts_are_bounded : CountsAreBounded bounds gate
    pub pages_show_versions : PagesShowVersions shows bounds gate
    pub sweep_is_bounded : SweepIsBounded bounds gate
    pub histories_and_counts : HistoriesAndCounts bounds gate
