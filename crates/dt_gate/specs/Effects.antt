-- What each event does to the busy gate, as the whole gate after it.
use Rattle.std.specs.Prelude.{◌≡◌, ℕ, List, [], ◌∷◌, slice_set, Some, None, refl}
use Rattle.dt_gate.specs.declared.event.Event.{Event}
use Rattle.dt_gate.specs.declared.event.Event.TheVariants.{Look, Enter, Read, Leave, Fill, Lay, Publish, Poll, SeatOut, NoteOut, SeatBack, NoteBack, Tell}
use Rattle.dt_gate.specs.declared.event.Holder.TheVariants as holder
use Rattle.dt_gate.specs.declared.event.ReadWord.TheVariants as read
use Rattle.dt_gate.specs.declared.event.RecordWord.TheVariants.{Exits, Version, Top}
use Rattle.dt_gate.specs.declared.gate.Gate.{Gate}
use Rattle.dt_gate.specs.declared.gate.Seat.{Seat}
use Rattle.dt_gate.specs.declared.gate.Stage.TheVariants.{Out, Near, In}
use Rattle.dt_gate.specs.declared.gate.Standing.TheVariants.{Free, Now, Old}
use Rattle.dt_gate.specs.Gate.{nothing_laid, blank_root, pages_of, spent}
use Rattle.dt_gate.specs.Events.{step}
use Rattle.dt_gate.specs.Busy.{two, zeros, busy, busy_author, with_author, old_root, current_root, laid_root, inside_seat, out_seat, note_of}

-- the busy gate after one event
abbrev after_event : Event ℕ ℕ → Gate ℕ ℕ
after_event event = step two busy event

-- the seats with the second changed
abbrev with_out : Seat ℕ ℕ → List (Seat ℕ ℕ)
with_out seat = inside_seat ∷ seat ∷ note_of (7 ∷ []) ∷ note_of [] ∷ []

-- ---- readers

a_look_below_the_limit : after_event (Look 1) ≡ record busy { seats = with_out (record out_seat { stage = Near }) }
a_look_below_the_limit = refl

-- at the limit the look is worn, and joins the history of the author
a_look_at_the_limit : step two (record busy { entries = 2; seats = out_seat ∷ []; author = record busy_author { history = 7 ∷ 8 ∷ [] } }) (Look 0)
    ≡ record busy { entries = 2; seats = record out_seat { history = 7 ∷ 8 ∷ []; worn = (2, 2) ∷ [] } ∷ []; author = record busy_author { history = 7 ∷ 8 ∷ [] } }
a_look_at_the_limit = refl

a_second_worn_look : step two (record busy { entries = 3; seats = record out_seat { worn = (0, 2) ∷ [] } ∷ [] }) (Look 0)
    ≡ record busy { entries = 3; seats = record out_seat { worn = (0, 2) ∷ (1, 3) ∷ [] } ∷ [] }
a_second_worn_look = refl

-- the reader finds the current root, and no other
an_enter : step two (record busy { seats = record out_seat { stage = Near; history = [] } ∷ []; author = record busy_author { words = slice_set zeros 512 9; roots = old_root ∷ record current_root { top = 1 } ∷ [] } }) (Enter 0)
    ≡ record busy {
      entries = 2;
      seats = record out_seat {
        stage = In 1 (record { words = slice_set zeros 512 9; version = 1; top = 1 });
        history = 7 ∷ [];
        entered = 0 ∷ 1 ∷ 1 ∷ [];
      } ∷ [];
      author = record busy_author { words = slice_set zeros 512 9; roots = old_root ∷ record current_root { top = 1 } ∷ [] };
    }
an_enter = refl

a_read : after_event (Read 0 read.Version) ≡ busy
a_read = refl

-- the exits of the root that the reader is inside are raised, and not those of the current one
a_leave : after_event (Leave 0) ≡ record busy { seats = record inside_seat { stage = Out } ∷ out_seat ∷ note_of (7 ∷ []) ∷ note_of [] ∷ []; exits = 2 ∷ 1 ∷ 0 ∷ 0 ∷ [] }
a_leave = refl

-- ---- pages and roots

-- the place is of this page, and the word alone changes
a_fill : after_event (Fill 1 511 9) ≡ with_author (record busy_author { words = slice_set zeros 1023 9 })
a_fill = refl

the_word_that_was_filled : pages_of (after_event (Fill 1 511 9)).author.words 1 511 ≡ 9
the_word_that_was_filled = refl

the_next_page : pages_of (after_event (Fill 1 511 9)).author.words 2 0 ≡ 0
the_next_page = refl

laid_exits : after_event (Lay 3 Exits 5) ≡ record busy {
  exits = 1 ∷ 1 ∷ 0 ∷ 5 ∷ [];
  author = record busy_author { roots = old_root ∷ current_root ∷ laid_root ∷ record blank_root { laid = record nothing_laid { exits = Some 5 } } ∷ [] };
}
laid_exits = refl

-- what was laid before is kept
a_laid_version : after_event (Lay 2 Version 2) ≡ with_author (record busy_author { roots = old_root ∷ current_root ∷ record laid_root { version = 2; laid = record { exits = Some 0; version = Some 2; top = None } } ∷ blank_root ∷ [] })
a_laid_version = refl

a_laid_top_page : after_event (Lay 2 Top 3) ≡ with_author (record busy_author { roots = old_root ∷ current_root ∷ record laid_root { top = 3; laid = record { exits = Some 0; version = None; top = Some 3 } } ∷ blank_root ∷ [] })
a_laid_top_page = refl

-- root 2 in the place of root 1, which keeps its record words; the sweep to come counts the readers that are out now
a_publish : step two (with_author (record busy_author { sweep = 1 })) (Publish 2 8) ≡ record busy { entries = 0; author = record busy_author { current = 2; roots = old_root ∷ record current_root { standing = Old 1 } ∷ record blank_root { standing = Now } ∷ blank_root ∷ []; history = 7 ∷ 8 ∷ []; held = []; sweep = 2 } }
a_publish = refl

-- a sweep of which nothing is held yet counts the readers that are out now
a_first_poll : step two (with_author (record busy_author { held = []; sweep = 1 })) (Poll 0) ≡ with_author (record busy_author { sweep = 2; polls = (0, 1) ∷ (0, 1) ∷ [] })
a_first_poll = refl

-- the sweep has come round to root 0 again, so it begins anew
a_second_poll : step two (with_author (record busy_author { out = 1; held = 0 ∷ 2 ∷ [] })) (Poll 0)
    ≡ with_author (record busy_author { out = 1; held = 0 ∷ []; sweep = 1; polls = (0, 1) ∷ (0, 1) ∷ [] })
a_second_poll = refl

-- the sweep has found another root held, and goes on
a_poll_of_another_root : step two (with_author (record busy_author { out = 1; held = 2 ∷ [] })) (Poll 0)
    ≡ with_author (record busy_author { out = 1; held = 2 ∷ 0 ∷ []; polls = (0, 1) ∷ (0, 1) ∷ [] })
a_poll_of_another_root = refl

-- all that entered have left: the root is free, with the words that it had, and isn't held
a_poll_that_frees : step two (record busy { exits = 2 ∷ 1 ∷ 0 ∷ 0 ∷ [] }) (Poll 0)
    ≡ record busy {
      exits = 2 ∷ 1 ∷ 0 ∷ 0 ∷ [];
      author = record busy_author {
        roots = record old_root { standing = Free } ∷ current_root ∷ laid_root ∷ blank_root ∷ [];
        held = [];
        polls = (0, 1) ∷ (0, 2) ∷ [];
      };
    }
a_poll_that_frees = refl

-- ---- seats and notes

a_seat_out : step two (record busy { seats = out_seat ∷ []; author = record busy_author { out = 1 } }) SeatOut ≡ record busy { seats = out_seat ∷ record { stage = Out; history = 7 ∷ []; entered = []; worn = []; joined = ([], []) } ∷ [] }
a_seat_out = refl

a_note_of_the_author : step two (record busy { seats = inside_seat ∷ [] }) (NoteOut holder.Author) ≡ record busy { seats = inside_seat ∷ note_of (7 ∷ []) ∷ [] }
a_note_of_the_author = refl

a_note_of_a_reader : step two (record busy { seats = inside_seat ∷ [] }) (NoteOut (holder.Reader 0)) ≡ record busy { seats = inside_seat ∷ note_of [] ∷ [] }
a_note_of_a_reader = refl

-- the author keeps both histories, and what the seat entered and its worn looks, behind those of the seats before it
a_seat_back : step two (record busy { seats = record out_seat { history = []; worn = (0, 2) ∷ [] } ∷ []; author = record busy_author { taken = [] ∷ []; worn = [] ∷ [] } }) (SeatBack 0)
    ≡ record busy { seats = spent ∷ []; author = record busy_author { out = 1; taken = [] ∷ (0 ∷ 1 ∷ []) ∷ []; worn = [] ∷ ((0, 2) ∷ []) ∷ []; joined = (7 ∷ [], []) } }
a_seat_back = refl

a_note_back_to_the_author : after_event (NoteBack 3 holder.Author) ≡ record busy { seats = inside_seat ∷ out_seat ∷ note_of (7 ∷ []) ∷ spent ∷ []; author = record busy_author { joined = (7 ∷ [], []) } }
a_note_back_to_the_author = refl

-- the reader inside learns of the version, and stays inside the root that it entered
a_note_back_to_a_reader : after_event (NoteBack 2 (holder.Reader 0)) ≡ record busy { seats = record inside_seat { history = 7 ∷ []; joined = ([], 7 ∷ []) } ∷ out_seat ∷ spent ∷ note_of [] ∷ [] }
a_note_back_to_a_reader = refl

-- a note that knows less than its taker
an_older_note_back : after_event (NoteBack 3 (holder.Reader 1)) ≡ record busy { seats = inside_seat ∷ record out_seat { joined = (7 ∷ [], []) } ∷ note_of (7 ∷ []) ∷ spent ∷ [] }
an_older_note_back = refl

a_tell : after_event (Tell (holder.Reader 1)) ≡ busy
a_tell = refl
