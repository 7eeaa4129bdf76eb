-- What a reader can rest on.
use Rattle.std.specs.Prelude.{◌≡◌, ℕ, ◌<◌, ◌≤◌, List, [], ◌∷◌, ◌++◌, length, All}
use Rattle.dt_pages.specs.Reading.{Reading, Reaches}
use Rattle.dt_gate.specs.declared.event.Event.TheVariants.{Look, Read, Fill, Lay}
use Rattle.dt_gate.specs.declared.event.ReadWord.{ReadWord}
use Rattle.dt_gate.specs.declared.event.ReadWord.TheVariants.{Version, Top, Page}
use Rattle.dt_gate.specs.declared.event.RecordWord.{RecordWord}
use Rattle.dt_gate.specs.declared.gate.Author.{Author}
use Rattle.dt_gate.specs.declared.gate.Frozen.{Frozen}
use Rattle.dt_gate.specs.declared.gate.Gate.{Gate}
use Rattle.dt_gate.specs.declared.gate.Stage.TheVariants.{Out, Near, In}
use Rattle.dt_gate.specs.Gate.{Bounds, pages_of, root_at, seat_at}
use Rattle.dt_gate.specs.Seats.{frozen_word}
use Rattle.dt_gate.specs.Events.{IsAllowed, step}
use Rattle.dt_gate.specs.Counts.{inside, entries_made}
use Rattle.dt_gate.specs.Runs.{IsReached}

-- the word as it is now
abbrev pub word_now : {M I : Type 0} → Author M I → ℕ → ReadWord → ℕ
word_now author root Version = (root_at author root).version
word_now author root Top = (root_at author root).top
word_now author root (Page page at) = pages_of author.words page at

module _ {M I : Type 0} where
  -- what a look finds: below the limit the seat is near, and at the limit it has a worn look more
  pub record LookDecides (bounds : Bounds) (gate next : Gate M I) (seat : ℕ) : Type 0 where
    pub near : gate.entries < bounds.entries → seat_at next seat ≡ record (seat_at gate seat) { stage = Near }
    pub worn : bounds.entries ≤ gate.entries → seat_at next seat ≡ record (seat_at gate seat) {
      history = gate.author.history;
      worn = (seat_at gate seat).worn ++ (length gate.author.history, gate.entries) ∷ [];
    }

  -- no look of any seat was worn, and none of those that were taken back
  pub record NoneWasWorn (gate : Gate M I) : Type 0 where
    pub of_a_seat : (seat : ℕ) → (seat_at gate seat).worn ≡ []
    pub of_those_taken_back : All (λ worn. worn ≡ []) gate.author.worn

module _ (M : Type 0) {I : Type 0} (shows : Reading → List I → Type 0) (bounds : Bounds) where
  -- a reader reads each word as it found it
  abbrev pub ReadsAreFrozen : Type 0
  ReadsAreFrozen = (gate : Gate M I) (seat root : ℕ) (frozen : Frozen) (word : ReadWord)
      → IsReached shows bounds gate
      → (seat_at gate seat).stage ≡ In root frozen → IsAllowed shows bounds gate (Read seat word)
      → word_now gate.author root word ≡ frozen_word frozen word

  -- no page is filled that is reached from a root that a reader is inside
  abbrev pub NoFillUnderAReader : Type 0
  NoFillUnderAReader = (gate : Gate M I) (seat root : ℕ) (frozen : Frozen) (page at word : ℕ)
      → IsReached shows bounds gate
      → (seat_at gate seat).stage ≡ In root frozen → IsAllowed shows bounds gate (Fill page at word)
      → ¬ Reaches (pages_of frozen.words) frozen.top page

  -- no root is laid that a reader is inside
  abbrev pub NoLayUnderAReader : Type 0
  NoLayUnderAReader = (gate : Gate M I) (root : ℕ) (word : RecordWord) (value : ℕ)
      → IsReached shows bounds gate
      → IsAllowed shows bounds gate (Lay root word value) → inside gate root ≡ 0

  -- a look of a seat that is out decides so
  abbrev pub LooksDecide : Type 0
  LooksDecide = (gate : Gate M I) (seat : ℕ) → (seat_at gate seat).stage ≡ Out
      → LookDecides bounds gate (step bounds gate (Look seat)) seat

  -- while all readers together entered less often than the limit, no look was worn, and none is
  abbrev pub NoneIsWornBelowTheLimit : Type 0
  NoneIsWornBelowTheLimit = (gate : Gate M I) → IsReached shows bounds gate
      → entries_made gate < bounds.entries → NoneWasWorn gate × (gate.entries < bounds.entries)
