-- The words of the store, and the one access that each event makes of them.
use Rattle.std.specs.Prelude.{◌≡◌, ℕ, ◌+◌, ◌*◌, ◌/◌, ◌%◌, ◌^◌, ◌<◌, List, [], ◌∷◌, ◌++◌, length, slice_index, slice_set, ⊤}
use Rattle.dt_pages.specs.Reading.{Reading, page_words}
use Rattle.dt_gate.specs.declared.access.Access.{Access}
use Rattle.dt_gate.specs.declared.access.Access.TheVariants.{Load, Add, Store, Swap}
use Rattle.dt_gate.specs.declared.event.Event.{Event}
use Rattle.dt_gate.specs.declared.event.Event.TheVariants.{Look, Enter, Read, Leave, Fill, Lay, Publish, Poll, SeatOut, NoteOut, SeatBack, NoteBack, Tell}
use Rattle.dt_gate.specs.declared.event.ReadWord.{ReadWord}
use Rattle.dt_gate.specs.declared.event.ReadWord.TheVariants as read
use Rattle.dt_gate.specs.declared.event.RecordWord.{RecordWord}
use Rattle.dt_gate.specs.declared.event.RecordWord.TheVariants.{Exits, Version, Top}
use Rattle.dt_gate.specs.declared.gate.Gate.{Gate}
use Rattle.dt_gate.specs.declared.gate.Root.{Root}
use Rattle.dt_gate.specs.declared.gate.Stage.{Stage}
use Rattle.dt_gate.specs.declared.gate.Stage.TheVariants.{Out, Near, In, Note, Spent}
use Rattle.dt_gate.specs.Gate.{Bounds, IsLive, root_at, exits_at, seat_at}
use Rattle.dt_gate.specs.Seats.{frozen_word}
use Rattle.dt_gate.specs.Events.{IsAllowed, step}
use Rattle.dt_gate.specs.Runs.{IsReached}

-- the version word: the root in the high 32 bits, the entry count in the low 32 bits
abbrev pub packed : ℕ → ℕ → ℕ
packed root entries = root * 2 ^ 32 + entries

-- each root's exits, version and top page, one root behind the other
abbrev pub record_words : List ℕ → List Root → List ℕ
record_words [] roots = []
record_words (exits ∷ others) [] = []
record_words (exits ∷ others) (root ∷ roots) = exits ∷ root.version ∷ root.top ∷ record_words others roots

-- where a record word of a root lies
abbrev pub record_word : ℕ → RecordWord → ℕ
record_word root Exits = 1 + 3 * root
record_word root Version = 2 + 3 * root
record_word root Top = 3 + 3 * root

-- where a page word lies: behind the record words of the two roots more than readers
abbrev pub page_word : Bounds → ℕ → ℕ → ℕ
page_word bounds page at = 1 + 3 * (bounds.readers + 2) + (page_words * page + at)

-- where a word that a reader reads lies
abbrev pub read_word : Bounds → ℕ → ReadWord → ℕ
read_word bounds root read.Version = record_word root Version
read_word bounds root read.Top = record_word root Top
read_word bounds root (read.Page page at) = page_word bounds page at

-- the word that an access is of
abbrev pub word_of : Access → ℕ
word_of (Load word) = word
word_of (Add word) = word
word_of (Store word value) = word
word_of (Swap word value) = word

-- what an access finds
abbrev pub found : Access → List ℕ → ℕ
found access words = slice_index words (word_of access)

-- the words after an access
abbrev pub accessed : Access → List ℕ → List ℕ
accessed (Load word) words = words
accessed (Add word) words = slice_set words word (slice_index words word + 1)
accessed (Store word value) words = slice_set words word value
accessed (Swap word value) words = slice_set words word value

-- what a reader inside a root reads
abbrev pub frozen_at : ReadWord → Stage → ℕ
frozen_at word (In root frozen) = frozen_word frozen word
frozen_at word Out = 0
frozen_at word Near = 0
frozen_at word Note = 0
frozen_at word Spent = 0

-- a reader inside a root loads a word of it
abbrev pub read_access : Bounds → ReadWord → Stage → Access
read_access bounds word (In root frozen) = Load (read_word bounds root word)
read_access bounds word Out = Load 0
read_access bounds word Near = Load 0
read_access bounds word Note = Load 0
read_access bounds word Spent = Load 0

-- and adds to its exits
abbrev pub leave_access : Stage → Access
leave_access (In root frozen) = Add (record_word root Exits)
leave_access Out = Load 0
leave_access Near = Load 0
leave_access Note = Load 0
leave_access Spent = Load 0

module _ {M I : Type 0} where
  -- all words of the store, in their order
  abbrev pub words_of : Gate M I → List ℕ
  words_of gate = packed gate.author.current gate.entries
      ∷ record_words gate.exits gate.author.roots ++ gate.author.words

  -- the access of each event
  abbrev pub access_of : Bounds → Gate M I → Event M I → Access
  access_of bounds gate (Look seat) = Load 0
  access_of bounds gate (Enter seat) = Add 0
  access_of bounds gate (Read seat word) = read_access bounds word (seat_at gate seat).stage
  access_of bounds gate (Leave seat) = leave_access (seat_at gate seat).stage
  access_of bounds gate (Fill page at word) = Store (page_word bounds page at) word
  access_of bounds gate (Lay root word value) = Store (record_word root word) value
  access_of bounds gate (Publish root item) = Swap 0 (packed root 0)
  access_of bounds gate (Poll root) = Load (record_word root Exits)
  access_of bounds gate SeatOut = Load 0
  access_of bounds gate (NoteOut giver) = Load 0
  access_of bounds gate (SeatBack seat) = Load 0
  access_of bounds gate (NoteBack note taker) = Load 0
  access_of bounds gate (Tell taker) = Load 0

  -- what an event learns of what its access finds: a reader inside a root the word as it found it, a poll the exits,
  -- and who accesses the version word the current root and its entries
  abbrev pub Finds : Gate M I → Event M I → ℕ → Type 0
  Finds gate (Read seat word) number = number ≡ frozen_at word (seat_at gate seat).stage
  Finds gate (Poll root) number = number ≡ exits_at gate root
  Finds gate (Leave seat) number = ⊤
  Finds gate (Fill page at word) number = ⊤
  Finds gate (Lay root word value) number = ⊤
  Finds gate event number = number ≡ packed gate.author.current gate.entries

  -- the event is one access: of a word that is there; the words change by it and by nothing else; and it finds this
  pub record IsOneAccess (bounds : Bounds) (gate : Gate M I) (event : Event M I) : Type 0 where
    pub is_there : word_of (access_of bounds gate event) < length (words_of gate)
    pub changes : words_of (step bounds gate event) ≡ accessed (access_of bounds gate event) (words_of gate)
    pub finds : Finds gate event (found (access_of bounds gate event) (words_of gate))

  -- counts fit in 32 bits, so the halves of the version word are the current root and its entries
  pub record CountsFit (gate : Gate M I) : Type 0 where
    pub entries : gate.entries < 2 ^ 32
    pub exits : (root : ℕ) → IsLive (root_at gate.author root).standing → exits_at gate root < 2 ^ 32
    pub root : gate.author.current < 2 ^ 32
    pub high_half : packed gate.author.current gate.entries / 2 ^ 32 ≡ gate.author.current
    pub low_half : packed gate.author.current gate.entries % 2 ^ 32 ≡ gate.entries

module _ (M : Type 0) {I : Type 0} (shows : Reading → List I → Type 0) (bounds : Bounds) where
  -- an event that is allowed in a gate that is reached is its access
  abbrev pub EachEventIsOneAccess : Type 0
  EachEventIsOneAccess = (gate : Gate M I) (event : Event M I) → IsReached shows bounds gate
      → IsAllowed shows bounds gate event → IsOneAccess bounds gate event

  -- in a gate that is reached counts fit
  abbrev pub CountsAlwaysFit : Type 0
  CountsAlwaysFit = (gate : Gate M I) → IsReached shows bounds gate → CountsFit gate
