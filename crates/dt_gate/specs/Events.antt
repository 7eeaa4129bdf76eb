-- Each event: where it is allowed, and what it does. It changes the view of the one who steps, and at most one word of those
-- that are not the author's alone.
use Rattle.std.specs.Prelude.{◌≡◌, ℕ, ◌+◌, ◌<◌, List, [], ◌∷◌, ◌++◌, slice_set, ⊤}
use Rattle.dt_pages.specs.Reading.{Reading}
use Rattle.dt_gate.specs.declared.event.Event.{Event}
use Rattle.dt_gate.specs.declared.event.Event.TheVariants.{Look, Enter, Read, Leave, Fill, Lay, Publish, Poll, SeatOut, NoteOut, SeatBack, NoteBack, Tell}
use Rattle.dt_gate.specs.declared.event.Holder.{Holder}
use Rattle.dt_gate.specs.declared.event.Holder.TheVariants as holder
use Rattle.dt_gate.specs.declared.event.RecordWord.{RecordWord}
use Rattle.dt_gate.specs.declared.event.RecordWord.TheVariants.{Exits, Version, Top}
use Rattle.dt_gate.specs.declared.gate.Gate.{Gate}
use Rattle.dt_gate.specs.declared.gate.Seat.{Seat}
use Rattle.dt_gate.specs.declared.gate.Stage.{Stage}
use Rattle.dt_gate.specs.declared.gate.Stage.TheVariants.{Out, Near, In, Note, Spent}
use Rattle.dt_gate.specs.Gate.{Bounds, IsOld, root_at, exits_at, seat_at, spent}
use Rattle.dt_gate.specs.Author.{MayFill, after_fill, MayLay, after_lay, MayPublish, after_publish, after_poll, after_seat_out, after_hear, after_seat_back}
use Rattle.dt_gate.specs.Seats.{IsReader, IsInside, IsFrozenWord, after_look, after_enter, given, after_hearing}

-- the exits after a word was laid
abbrev pub exits_laid : List ℕ → ℕ → RecordWord → ℕ → List ℕ
exits_laid exits root Exits value = slice_set exits root value
exits_laid exits root Version value = exits
exits_laid exits root Top value = exits

module _ {M I : Type 0} where
  -- the gate with one seat changed
  abbrev pub with_seat : Gate M I → ℕ → Seat M I → Gate M I
  with_seat gate seat changed = record gate { seats = slice_set gate.seats seat changed }

  -- the history that a holder has seen
  abbrev pub history_of : Gate M I → Holder → List I
  history_of gate holder.Author = gate.author.history
  history_of gate (holder.Reader seat) = (seat_at gate seat).history

  -- the holder is the author, or a reader whose seat was not given back
  abbrev pub IsHolder : Gate M I → Holder → Type 0
  IsHolder gate holder.Author = ⊤
  IsHolder gate (holder.Reader seat) = IsReader (seat_at gate seat).stage

  -- a leave: the root has one exit more, and the reader is out
  abbrev pub after_leave : Gate M I → ℕ → Stage → Gate M I
  after_leave gate seat (In root frozen) =
      with_seat (record gate { exits = slice_set gate.exits root (exits_at gate root + 1) })
      seat (record (seat_at gate seat) { stage = Out })
  after_leave gate seat Out = gate
  after_leave gate seat Near = gate
  after_leave gate seat Note = gate
  after_leave gate seat Spent = gate

  -- a note is given back
  abbrev pub after_note_back : Gate M I → Holder → List I → Gate M I
  after_note_back gate holder.Author history = record gate { author = after_hear gate.author history }
  after_note_back gate (holder.Reader taker) history = with_seat gate taker (after_hearing (seat_at gate taker) history)

  -- where each event is allowed
  -- (changed: `IsAllowedBare` lets a seat enter without a look)
  abbrev pub IsAllowed : (Reading → List I → Type 0) → Bounds → Gate M I → Event M I → Type 0
  IsAllowed shows bounds gate (Look seat) = (seat_at gate seat).stage ≡ Out
  IsAllowed shows bounds gate (Enter seat) = (seat_at gate seat).stage ≡ Near
  IsAllowed shows bounds gate (Read seat word) = IsFrozenWord word (seat_at gate seat).stage
  IsAllowed shows bounds gate (Leave seat) = IsInside (seat_at gate seat).stage
  IsAllowed shows bounds gate (Fill page at word) = MayFill bounds gate.author page at
  IsAllowed shows bounds gate (Lay root word value) = MayLay bounds gate.author root
  IsAllowed shows bounds gate (Publish root item) = MayPublish shows bounds gate.author root item
  IsAllowed shows bounds gate (Poll root) = IsOld (root_at gate.author root).standing
  IsAllowed shows bounds gate SeatOut = gate.author.out < bounds.readers
  IsAllowed shows bounds gate (NoteOut giver) = IsHolder gate giver
  IsAllowed shows bounds gate (SeatBack seat) = (seat_at gate seat).stage ≡ Out
  IsAllowed shows bounds gate (NoteBack note taker) = ((seat_at gate note).stage ≡ Note) × IsHolder gate taker
  IsAllowed shows bounds gate (Tell taker) = IsHolder gate taker

  -- what each event does
  abbrev pub step : Bounds → Gate M I → Event M I → Gate M I
  step bounds gate (Look seat) =
      with_seat gate seat (after_look bounds gate.author.history gate.entries (seat_at gate seat))
  step bounds gate (Enter seat) =
      with_seat (record gate { entries = gate.entries + 1 }) seat (after_enter gate.author (seat_at gate seat))
  step bounds gate (Read seat word) = gate
  step bounds gate (Leave seat) = after_leave gate seat (seat_at gate seat).stage
  step bounds gate (Fill page at word) = record gate { author = after_fill gate.author page at word }
  step bounds gate (Lay root word value) = record gate {
    exits = exits_laid gate.exits root word value;
    author = after_lay gate.author root word value;
  }
  step bounds gate (Publish root item) = record gate {
    entries = 0;
    author = after_publish gate.author root item gate.entries;
  }
  step bounds gate (Poll root) = record gate { author = after_poll gate.author root (exits_at gate root) }
  step bounds gate SeatOut = record gate {
    author = after_seat_out gate.author;
    seats = gate.seats ++ given Out gate.author.history ∷ [];
  }
  step bounds gate (NoteOut giver) = record gate { seats = gate.seats ++ given Note (history_of gate giver) ∷ [] }
  step bounds gate (SeatBack seat) =
      with_seat (record gate { author = after_seat_back gate.author (seat_at gate seat) }) seat spent
  step bounds gate (NoteBack note taker) =
      with_seat (after_note_back gate taker (seat_at gate note).history) note spent
  step bounds gate (Tell taker) = gate
