-- What a reader does: its stages, and what each of its steps makes of its seat.
use Rattle.std.specs.Prelude.{ℕ, ◌<◌, nat_lt, if◌then◌else◌, List, [], ◌∷◌, ◌++◌, length, ⊤}
use Rattle.dt_pages.specs.Reading.{Reaches, page_words}
use Rattle.dt_gate.specs.declared.event.ReadWord.{ReadWord}
use Rattle.dt_gate.specs.declared.event.ReadWord.TheVariants as read
use Rattle.dt_gate.specs.declared.gate.Author.{Author}
use Rattle.dt_gate.specs.declared.gate.Frozen.{Frozen}
use Rattle.dt_gate.specs.declared.gate.Seat.{Seat}
use Rattle.dt_gate.specs.declared.gate.Stage.{Stage}
use Rattle.dt_gate.specs.declared.gate.Stage.TheVariants.{Out, Near, In, Note, Spent}
use Rattle.dt_gate.specs.Gate.{Bounds, pages_of, root_at}
use Rattle.dt_gate.specs.Author.{longer}

-- the seat is a reader's, and was not given back
abbrev pub IsReader : Stage → Type 0
IsReader Out = ⊤
IsReader Near = ⊤
IsReader (In root frozen) = ⊤
IsReader Note = ⊥
IsReader Spent = ⊥

-- the reader is inside some root
abbrev pub IsInside : Stage → Type 0
IsInside (In root frozen) = ⊤
IsInside Out = ⊥
IsInside Near = ⊥
IsInside Note = ⊥
IsInside Spent = ⊥

-- the word is one of the root that the reader is inside:
-- its version, its top page's number, or a word of a page that the top page reaches
abbrev pub IsFrozenWord : ReadWord → Stage → Type 0
IsFrozenWord word Out = ⊥
IsFrozenWord word Near = ⊥
IsFrozenWord word Note = ⊥
IsFrozenWord word Spent = ⊥
IsFrozenWord read.Version (In root frozen) = ⊤
IsFrozenWord read.Top (In root frozen) = ⊤
IsFrozenWord (read.Page page at) (In root frozen) = Reaches (pages_of frozen.words) frozen.top page × (at < page_words)

-- the word as the reader found it
abbrev pub frozen_word : Frozen → ReadWord → ℕ
frozen_word frozen read.Version = frozen.version
frozen_word frozen read.Top = frozen.top
frozen_word frozen (read.Page page at) = pages_of frozen.words page at

module _ {M I : Type 0} where
  -- a look that found so many entries: below the limit the reader comes near;
  -- else it has seen the history, and keeps the version and the count
  abbrev pub after_look : Bounds → List I → ℕ → Seat M I → Seat M I
  after_look bounds history entries seat =
      if nat_lt entries bounds.entries
      then record seat { stage = Near }
      else record seat { history = history; worn = seat.worn ++ (length history, entries) ∷ [] }

  -- the words as a reader finds them that enters now
  abbrev pub frozen_now : Author M I → Frozen
  frozen_now author = let root = root_at author author.current in
      record { words = author.words; version = root.version; top = root.top }

  -- an enter: the reader is inside the current root, has seen the history, and entered this version
  abbrev pub after_enter : Author M I → Seat M I → Seat M I
  after_enter author seat = record seat {
    stage = In author.current (frozen_now author);
    history = author.history;
    entered = seat.entered ++ length author.history ∷ [];
  }

  -- a seat or a note that was just given out
  abbrev pub given : Stage → List I → Seat M I
  given stage history = record { stage = stage; history = history; entered = []; worn = []; joined = ([], []) }

  -- a note is given back to a reader: it keeps both histories, and has the longer one
  abbrev pub after_hearing : Seat M I → List I → Seat M I
  after_hearing seat history =
      record seat { history = longer seat.history history; joined = (seat.history, history) }
