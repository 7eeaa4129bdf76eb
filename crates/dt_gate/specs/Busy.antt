-- A gate in the midst of its work, and the run that leads to it. The examples of events and of soundness start from it.
use Rattle.std.specs.Prelude.{◌≡◌, ◌≢◌, ℕ, ◌*◌, List, [], ◌∷◌, ◌++◌, length, replicate, Some, None}
use Rattle.dt_pages.specs.Reading.{Reading, page_words}
use Rattle.dt_gate.specs.declared.event.Event.{Event}
use Rattle.dt_gate.specs.declared.event.Event.TheVariants.{Look, Enter, Leave, Lay, Publish, Poll, SeatOut, NoteOut}
use Rattle.dt_gate.specs.declared.event.Holder.TheVariants as holder
use Rattle.dt_gate.specs.declared.event.RecordWord.TheVariants.{Exits}
use Rattle.dt_gate.specs.declared.gate.Author.{Author}
use Rattle.dt_gate.specs.declared.gate.Gate.{Gate}
use Rattle.dt_gate.specs.declared.gate.Root.{Root}
use Rattle.dt_gate.specs.declared.gate.Seat.{Seat}
use Rattle.dt_gate.specs.declared.gate.Stage.TheVariants.{Out, In, Note}
use Rattle.dt_gate.specs.declared.gate.Standing.TheVariants.{Now, Old}
use Rattle.dt_gate.specs.Gate.{Bounds, bounds_of, nothing_laid, blank_root, fresh}
use Rattle.dt_gate.specs.Sound.{IsSound}
use Rattle.dt_gate.specs.Runs.{gate_after, AreAllowed}
use Rattle.dt_gate.specs.WrongMachines.{anything, laying}

-- a meaning by which every reading shows every list but the empty one
abbrev pub something : Reading → List ℕ → Type 0
something reading items = length items ≢ 0

-- two readers, sixteen pages and a limit of two entries
abbrev pub two : Bounds
two = bounds_of 2 16 2

-- all words are zero
abbrev pub zeros : List ℕ
zeros = replicate (page_words * 16) 0

-- root 0 is old: two readers entered it, and one has left
abbrev pub old_root : Root
old_root = record { version = 0; top = 0; standing = Old 2; laid = nothing_laid }

-- root 1 is current: one reader entered it, and has left
abbrev pub current_root : Root
current_root = record { version = 1; top = 0; standing = Now; laid = nothing_laid }

-- root 2 is free, and its exits are laid
abbrev pub laid_root : Root
laid_root = record blank_root { laid = record { exits = Some 0; version = None; top = None } }

-- seat 0 is inside the old root
abbrev pub inside_seat : Seat ℕ ℕ
inside_seat = record {
  stage = In 0 (record { words = zeros; version = 0; top = 0 });
  history = [];
  entered = 0 ∷ [];
  worn = [];
  joined = ([], []);
}

-- seat 1 is out, and was inside both
abbrev pub out_seat : Seat ℕ ℕ
out_seat = record { stage = Out; history = 7 ∷ []; entered = 0 ∷ 1 ∷ []; worn = []; joined = ([], []) }

-- a note with this history
abbrev pub note_of : List ℕ → Seat ℕ ℕ
note_of history = record { stage = Note; history = history; entered = []; worn = []; joined = ([], []) }

-- root 0 was found held in the sweep after the publish
abbrev pub busy_author : Author ℕ ℕ
busy_author = record {
  current = 1;
  roots = old_root ∷ current_root ∷ laid_root ∷ blank_root ∷ [];
  words = zeros;
  history = 7 ∷ [];
  out = 2;
  held = 0 ∷ [];
  sweep = 2;
  polls = (0, 1) ∷ [];
  taken = [];
  worn = [];
  joined = ([], []);
}

-- one has left each of the first two roots; seats 2 and 3 are notes, of the author and of the reader inside
abbrev pub busy : Gate ℕ ℕ
busy = record {
  entries = 1;
  exits = 1 ∷ 1 ∷ 0 ∷ 0 ∷ [];
  author = busy_author;
  seats = inside_seat ∷ out_seat ∷ note_of (7 ∷ []) ∷ note_of [] ∷ [];
}

-- the busy gate with another record of the author
abbrev pub with_author : Author ℕ ℕ → Gate ℕ ℕ
with_author author = record busy { author = author }

-- both readers enter root 0 and one leaves it; root 1 is published, entered and left, and root 0 is polled between
abbrev pub busy_run : List (Event ℕ ℕ)
busy_run = SeatOut ∷ SeatOut ∷ Look 0 ∷ Enter 0 ∷ Look 1 ∷ Enter 1 ∷ Leave 1 ∷ laying 0
    ++ Publish 1 7 ∷ Poll 0 ∷ Look 1 ∷ Enter 1 ∷ Leave 1 ∷ NoteOut holder.Author ∷ NoteOut (holder.Reader 0) ∷ Lay 2 Exits 0 ∷ []

-- the run is allowed, and leads to the gate, which is sound
pub record BusyIsReached : Type 0 where
  pub allowed : AreAllowed anything two (fresh two) busy_run
  pub leads_there : gate_after two (fresh two) busy_run ≡ busy
  pub is_sound : IsSound anything two busy
