-- Sweeps: the author polls each old root once. All of this but the room that a sweep leaves speaks of the author's record alone,
-- so it holds whatever readers do between the polls.
use Rattle.std.specs.Prelude.{◌≡◌, ◌≢◌, ◌⊎◌, ℕ, ◌+◌, ◌<◌, ◌≤◌, true, false, List, [], ◌∷◌, ◌++◌, length, map, filter}
use Rattle.std.specs.List.{AllByRecursion}
use Rattle.dt_pages.specs.Reading.{Reading}
use Rattle.dt_gate.specs.declared.gate.Author.{Author}
use Rattle.dt_gate.specs.declared.gate.Gate.{Gate}
use Rattle.dt_gate.specs.declared.gate.Standing.TheVariants.{Free, Old}
use Rattle.dt_gate.specs.Gate.{Bounds, is_old, stands_in, root_at}
use Rattle.dt_gate.specs.Author.{after_poll}
use Rattle.dt_gate.specs.Counts.{old_roots}
use Rattle.dt_gate.specs.Sound.{AreDistinct}
use Rattle.dt_gate.specs.Runs.{IsReached}

-- the roots that were polled
abbrev pub polled : List (ℕ × ℕ) → List ℕ
polled reads = map (λ read. read.0) reads

module _ {M I : Type 0} where
  -- the author after it polled these roots one after the other, and read these exits
  abbrev pub after_polls : Author M I → List (ℕ × ℕ) → Author M I
  after_polls author [] = author
  after_polls author (read ∷ reads) = after_polls (after_poll author read.0 read.1) reads

  -- every old root is found held
  abbrev pub AllOldAreHeld : Author M I → Type 0
  AllOldAreHeld author =
      (root : ℕ) → is_old (root_at author root).standing ≡ true → stands_in root author.held ≡ true

  -- a sweep may begin: nothing is found held, as after a publish, or every old root is, as after a sweep
  abbrev pub MayBeginASweep : Author M I → Type 0
  MayBeginASweep author = (author.held ≡ []) ⊎ AllOldAreHeld author

  -- a sweep, or a part of one: it polled these roots and read these exits; all were old, and each was polled once
  pub record IsOfASweep (author : Author M I) (reads : List (ℕ × ℕ)) : Type 0 where
    pub begins : MayBeginASweep author
    pub old : (root : ℕ) → stands_in root (polled reads) ≡ true → is_old (root_at author root).standing ≡ true
    pub once : AreDistinct (polled reads)

  -- what was read of an old root decides: where the exits are its final entries it is free, with its words as they were,
  -- and else it is as it was
  pub record ReadDecides (author next : Author M I) (read : ℕ × ℕ) : Type 0 where
    pub frees : (entries : ℕ) → (root_at author read.0).standing ≡ Old entries → read.1 ≡ entries
        → root_at next read.0 ≡ record (root_at author read.0) { standing = Free }
    pub holds : (entries : ℕ) → (root_at author read.0).standing ≡ Old entries → read.1 ≢ entries
        → root_at next read.0 ≡ root_at author read.0

  -- where it leads: each poll is kept, once; each read decides; what is held are the polled roots that are still old,
  -- in the order of the polls; the other roots are as they were, and as many; where every old root was polled, each that
  -- is still old is held; the count of the sweep is that of the readers out, which stay; all but the roots, what is held,
  -- this count and the polls is as it was; and where nothing was polled, so are these
  pub record SweepLeads (author : Author M I) (reads : List (ℕ × ℕ)) (next : Author M I) : Type 0 where
    pub polls : next.polls ≡ author.polls ++ reads
    pub decides : AllByRecursion (ReadDecides author next) reads
    pub held : (reads ≡ []) ⊎ (next.held ≡ filter (λ root. is_old (root_at next root).standing) (polled reads))
    pub others : (root : ℕ) → stands_in root (polled reads) ≡ false → root_at next root ≡ root_at author root
    pub as_many : length next.roots ≡ length author.roots
    pub whole : ((root : ℕ) → is_old (root_at author root).standing ≡ true → stands_in root (polled reads) ≡ true)
        → AllOldAreHeld next
    pub count : (reads ≡ []) ⊎ (next.sweep ≡ author.out)
    pub out : next.out ≡ author.out
    pub no_more : next ≡ record author { roots = next.roots; held = next.held; sweep = next.sweep; polls = next.polls }
    pub none : reads ≡ [] → next ≡ author

  -- no more roots are old than were found held, which are no more than the count of the sweep, and so no more than readers;
  -- and some root is free
  pub record LeavesRoom (bounds : Bounds) (author : Author M I) : Type 0 where
    pub still_old : old_roots author ≤ length author.held
    pub held : length author.held ≤ author.sweep
    pub count : author.sweep ≤ bounds.readers
    pub some_free : (root : ℕ) × (root < bounds.readers + 2) × ((root_at author root).standing ≡ Free)

-- every sweep leads there, whatever exits it reads
abbrev pub SweepsLead : (M I : Type 0) → Type 0
SweepsLead M I = (author : Author M I) (reads : List (ℕ × ℕ)) → IsOfASweep author reads
    → SweepLeads author reads (after_polls author reads)

module _ (M : Type 0) {I : Type 0} (shows : Reading → List I → Type 0) (bounds : Bounds) where
  -- where every old root of a gate that is reached is found held, there is room
  abbrev pub SweepsLeaveRoom : Type 0
  SweepsLeaveRoom = (gate : Gate M I) → IsReached shows bounds gate → AllOldAreHeld gate.author
      → LeavesRoom bounds gate.author
