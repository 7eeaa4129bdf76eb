-- Runs, worked out.
use Rattle.std.specs.Prelude.{◌≡◌, ℕ, List, [], ◌∷◌, ◌++◌, length, refl}
use Rattle.dt_pages.specs.Reading.{Reading}
use Rattle.dt_gate.specs.declared.event.Event.{Event}
use Rattle.dt_gate.specs.declared.event.Event.TheVariants.{Look, Enter, Read, Leave, Fill, Lay, Publish, Poll, SeatOut, NoteOut, SeatBack, NoteBack, Tell}
use Rattle.dt_gate.specs.declared.event.Holder.TheVariants as holder
use Rattle.dt_gate.specs.declared.event.ReadWord.TheVariants.{Top, Page}
use Rattle.dt_gate.specs.declared.event.RecordWord.TheVariants as laid
use Rattle.dt_gate.specs.declared.gate.Gate.{Gate}
use Rattle.dt_gate.specs.declared.gate.Stage.TheVariants.{Out, Spent}
use Rattle.dt_gate.specs.declared.gate.Standing.TheVariants.{Free, Now, Old}
use Rattle.dt_gate.specs.Gate.{Bounds, bounds_of, blank_root, root_at, seat_at, fresh}
use Rattle.dt_gate.specs.Readers.{word_now}
use Rattle.dt_gate.specs.Runs.{gate_after, AreAllowed}
use Rattle.dt_gate.specs.WrongMachines.{small, start, anything, laying, one_inside_an_old_root}

-- one reader, no pages
the_fresh_gate : fresh {M = ℕ} {I = ℕ} (bounds_of 1 0 5) ≡ record {
  entries = 0;
  exits = 0 ∷ 0 ∷ 0 ∷ [];
  author = record {
    current = 0;
    roots = record blank_root { standing = Now } ∷ blank_root ∷ blank_root ∷ [];
    words = [];
    history = [];
    out = 0;
    held = [];
    sweep = 0;
    polls = [];
    taken = [];
    worn = [];
    joined = ([], []);
  };
  seats = [];
}
the_fresh_gate = refl

-- one reader looks and enters, a version is published, and the old root is polled
abbrev pub polled_held : List (Event ℕ ℕ)
polled_held = one_inside_an_old_root ++ Poll 0 ∷ []

-- the reader leaves, and the old root is polled again
abbrev pub polled_free : List (Event ℕ ℕ)
polled_free = polled_held ++ Leave 0 ∷ Poll 0 ∷ []

-- the old root is found held while the reader is inside, and is free once it has left
pub record OldRootIsFreed : Type 0 where
  pub allowed : AreAllowed anything small start polled_free
  pub still_old : (root_at (gate_after small start polled_held).author 0).standing ≡ Old 1
  pub found_held : (gate_after small start polled_held).author.held ≡ 0 ∷ []
  pub then_free : (root_at (gate_after small start polled_free).author 0).standing ≡ Free
  pub other_is_current : (root_at (gate_after small start polled_free).author 1).standing ≡ Now
  pub polls : (gate_after small start polled_free).author.polls ≡ (0, 0) ∷ (0, 1) ∷ []
  pub history : (gate_after small start polled_free).author.history ≡ 7 ∷ []

-- three readers, and a limit of two entries
abbrev pub three_readers : Bounds
three_readers = bounds_of 3 16 2

-- the fresh gate of these
abbrev pub begun : Gate ℕ ℕ
begun = fresh three_readers

-- all three look before any of them enters
abbrev pub three_inside : List (Event ℕ ℕ)
three_inside = SeatOut ∷ SeatOut ∷ SeatOut ∷ Look 0 ∷ Look 1 ∷ Look 2 ∷ Enter 0 ∷ Enter 1 ∷ Enter 2 ∷ []

-- the first leaves and looks again
abbrev pub one_looks_again : List (Event ℕ ℕ)
one_looks_again = three_inside ++ Leave 0 ∷ Look 0 ∷ []

-- the entries pass the limit, by less than the readers; the next look finds three, and is worn
pub record PastTheLimit : Type 0 where
  pub allowed : AreAllowed anything three_readers begun one_looks_again
  pub entries : (gate_after three_readers begun one_looks_again).entries ≡ 3
  pub still_out : (seat_at (gate_after three_readers begun one_looks_again) 0).stage ≡ Out
  pub worn : (seat_at (gate_after three_readers begun one_looks_again) 0).worn ≡ (0, 3) ∷ []
  pub entered : (seat_at (gate_after three_readers begun one_looks_again) 0).entered ≡ 0 ∷ []

-- a meaning with a content: the word at address 0 is the number of items
abbrev pub counted : Reading → List ℕ → Type 0
counted reading items = reading 0 ≡ length items

-- one page of each level is filled, so that address 0 has the word 1; a root is laid with the first as its top page, and
-- published
abbrev pub filled_and_published : List (Event ℕ ℕ)
filled_and_published = Fill 1 0 2 ∷ Fill 2 0 3 ∷ Fill 3 0 1 ∷ laying 1 ++ Publish 1 7 ∷ []

-- a reader enters, and reads its way down from the top page
abbrev pub read_down : List (Event ℕ ℕ)
read_down = filled_and_published ++ SeatOut ∷ Look 0 ∷ Enter 0 ∷ Read 0 Top ∷ Read 0 (Page 1 0) ∷ Read 0 (Page 2 0) ∷ Read 0 (Page 3 0) ∷ []

-- what was filled is read, and counts the items
pub record PagesAreRead : Type 0 where
  pub allowed : AreAllowed counted small start read_down
  pub top : word_now (gate_after small start read_down).author 1 Top ≡ 1
  pub middle : word_now (gate_after small start read_down).author 1 (Page 1 0) ≡ 2
  pub leaf : word_now (gate_after small start read_down).author 1 (Page 2 0) ≡ 3
  pub word : word_now (gate_after small start read_down).author 1 (Page 3 0) ≡ 1

-- a version is published, and a reader that hasn't looked hears of it by a note of the author
abbrev pub told_by_a_note : List (Event ℕ ℕ)
told_by_a_note = SeatOut ∷ laying 0 ++ Publish 1 7 ∷ NoteOut holder.Author ∷ NoteBack 1 (holder.Reader 0) ∷ Tell (holder.Reader 0) ∷ []

-- the reader has the author's history, and keeps both; the note is spent
pub record NoteTellsHistory : Type 0 where
  pub allowed : AreAllowed anything small start told_by_a_note
  pub history : (seat_at (gate_after small start told_by_a_note) 0).history ≡ 7 ∷ []
  pub joined : (seat_at (gate_after small start told_by_a_note) 0).joined ≡ ([], 7 ∷ [])
  pub note : (seat_at (gate_after small start told_by_a_note) 1).stage ≡ Spent

-- a reader enters once, looks once more at the limit, and is given back
abbrev pub given_back : List (Event ℕ ℕ)
given_back = SeatOut ∷ Look 0 ∷ Enter 0 ∷ Leave 0 ∷ Look 0 ∷ SeatBack 0 ∷ Tell holder.Author ∷ []

-- the author has what the reader entered and its worn look, and no reader is out
pub record SeatIsTakenBack : Type 0 where
  pub allowed : AreAllowed anything small start given_back
  pub out : (gate_after small start given_back).author.out ≡ 0
  pub taken : (gate_after small start given_back).author.taken ≡ (0 ∷ []) ∷ []
  pub worn : (gate_after small start given_back).author.worn ≡ ((0, 1) ∷ []) ∷ []

-- ---- two roots are held in one sweep

-- a root is laid and published
abbrev published : List (Event ℕ ℕ)
published = laying 0 ++ Publish 1 7 ∷ []

-- two readers, and a limit of two entries
abbrev two_readers : Bounds
two_readers = bounds_of 2 16 2

-- each of two readers is inside a root of its own, both roots are old, and both are polled
abbrev two_inside : List (Event ℕ ℕ)
two_inside = SeatOut ∷ SeatOut ∷ Look 0 ∷ Enter 0 ∷ published ++ Look 1 ∷ Enter 1
    ∷ Lay 2 laid.Exits 0 ∷ Lay 2 laid.Version 2 ∷ Lay 2 laid.Top 0 ∷ Publish 2 8 ∷ Poll 0 ∷ Poll 1 ∷ []

both_are_held : (gate_after two_readers (fresh {M = ℕ} two_readers) two_inside).author.held ≡ 0 ∷ 1 ∷ []
both_are_held = refl

as_many_as_readers : (gate_after two_readers (fresh {M = ℕ} two_readers) two_inside).author.sweep ≡ 2
as_many_as_readers = refl

-- ---- worn by another reader

-- two readers, and a limit of one entry
abbrev one_entry : Bounds
one_entry = bounds_of 2 16 1

-- a reader uses up the one entry of version 1, and another looks for the first time
abbrev worn_at_first : List (Event ℕ ℕ)
worn_at_first = SeatOut ∷ SeatOut ∷ published ++ Look 1 ∷ Enter 1 ∷ Look 0 ∷ []

the_worn_look : (seat_at (gate_after one_entry (fresh {M = ℕ} one_entry) worn_at_first) 0).worn ≡ (1, 1) ∷ []
the_worn_look = refl

it_has_seen_the_version : (seat_at (gate_after one_entry (fresh {M = ℕ} one_entry) worn_at_first) 0).history ≡ 7 ∷ []
it_has_seen_the_version = refl
