-- What each seat at the table of a store knows: the author its record of the gate, a reader or a note its seat.
use Rattle.std.specs.Prelude.{◌≡◌, ℕ, ◌+◌, ◌<◌, Bool, true, false, List, [], ◌∷◌, map}
use Rattle.atomic_table.specs.Seated.{TableId}
use Rattle.atomic_table.specs.declared.shared.Seat.{Seat as Place}
use Rattle.dt_pages.specs.Reading.{Reaches}
use Rattle.dt_gate.specs.declared.gate.Author.{Author}
use Rattle.dt_gate.specs.declared.gate.Frozen.{Frozen}
use Rattle.dt_gate.specs.declared.gate.Gate.{Gate}
use Rattle.dt_gate.specs.declared.gate.Seat.{Seat}
use Rattle.dt_gate.specs.declared.gate.Stage.{Stage}
use Rattle.dt_gate.specs.declared.gate.Stage.TheVariants.{Out, Near, In, Note, Spent}
use Rattle.dt_gate.specs.Gate.{pages_of, spent, fresh_author}
use Rattle.dt_gate.specs.Author.{after_seat_out, after_hear, after_seat_back}
use Rattle.dt_gate.specs.Seats.{given, after_hearing}
use Rattle.dt_version.specs.Limits.{bounds}
use Rattle.dt_version.specs.declared.view.Size.{Size}
use Rattle.dt_version.specs.declared.view.View.{View}
use Rattle.dt_version.specs.declared.view.View.TheVariants as view

module _ {M I : Type 0} where
  -- a record of no author
  abbrev pub no_author : Author M I
  no_author = record {
    current = 0;
    roots = [];
    words = [];
    history = [];
    out = 0;
    held = [];
    sweep = 0;
    polls = [];
    taken = [];
    worn = [];
    joined = ([], []);
  }

  -- the view of a seat: one that was given back knows nothing
  abbrev pub view_at : Size → Seat M I → Stage → View M I
  view_at size seat Out = view.Reader size seat
  view_at size seat Near = view.Reader size seat
  view_at size seat (In root frozen) = view.Reader size seat
  view_at size seat Note = view.Reader size seat
  view_at size seat Spent = view.Gone

  abbrev pub view_of : Size → Seat M I → View M I
  view_of size seat = view_at size seat seat.stage

  -- the views of a gate: the author is first, and seat i of the gate is behind it at i + 1
  abbrev pub views_of : Size → Gate M I → List (View M I)
  views_of size gate = view.Author size gate.author ∷ map (view_of size) gate.seats

  -- the seat that a view shows
  abbrev pub seat_shown : View M I → Seat M I
  seat_shown (view.Reader size seat) = seat
  seat_shown (view.Author size author) = spent
  seat_shown view.Gone = spent

  -- the numbers that a view has, or these
  abbrev pub size_shown : Size → View M I → Size
  size_shown other (view.Reader size seat) = size
  size_shown other (view.Author size author) = size
  size_shown other view.Gone = other

  abbrev pub is_reader : View M I → Bool
  is_reader (view.Reader size seat) = true
  is_reader (view.Author size author) = false
  is_reader view.Gone = false

  -- the view is a reader's, of a store with these numbers
  pub record IsReaderOf (size : Size) (view : View M I) : Type 0 where
    pub reader : is_reader view ≡ true
    pub readers_are : (size_shown size view).readers ≡ size.readers
    pub pages_are : (size_shown size view).pages ≡ size.pages
    pub entries_are : (size_shown size view).entries ≡ size.entries

  -- the author's record that a view shows
  abbrev pub author_shown : View M I → Author M I
  author_shown (view.Author size author) = author
  author_shown (view.Reader size seat) = no_author
  author_shown view.Gone = no_author

  abbrev pub is_author : View M I → Bool
  is_author (view.Author size author) = true
  is_author (view.Reader size seat) = false
  is_author view.Gone = false

  -- the view is the author's, of a store with these numbers
  pub record IsAuthorOf (size : Size) (view : View M I) : Type 0 where
    pub author : is_author view ≡ true
    pub readers_are : (size_shown size view).readers ≡ size.readers
    pub pages_are : (size_shown size view).pages ≡ size.pages
    pub entries_are : (size_shown size view).entries ≡ size.entries

  -- the author's record that a seat at the table stands for
  abbrev pub author_of : Place ℕ (View M I) → Author M I
  author_of place = author_shown place.me.0

  -- the seat of the gate that a seat at the table stands for
  abbrev pub seat_of : Place ℕ (View M I) → Seat M I
  seat_of place = seat_shown place.me.0

-- the root that a reader is inside, or this number
abbrev pub root_or : ℕ → Stage → ℕ
root_or other (In root frozen) = root
root_or other Out = other
root_or other Near = other
root_or other Note = other
root_or other Spent = other

-- the stage is one of a reader seat that was not given back
abbrev pub is_reading : Stage → Bool
is_reading Out = true
is_reading Near = true
is_reading (In root frozen) = true
is_reading Note = false
is_reading Spent = false

-- the stage is that of a note
abbrev pub is_note : Stage → Bool
is_note Note = true
is_note Out = false
is_note Near = false
is_note (In root frozen) = false
is_note Spent = false

-- a reader that is inside is inside a root that there is, which reaches only pages that there are
abbrev pub IsInBounds : ℕ → ℕ → Stage → Type 0
IsInBounds readers pages stage = (root : ℕ) (frozen : Frozen) → stage ≡ In root frozen
    → (root < readers + 2) × ((page : ℕ) → Reaches (pages_of frozen.words) frozen.top page → page < pages)

module _ {M I : Type 0} where
  -- the first seat of a store: the author's, before any step
  pub record IsFirstSeat (table : TableId) (size : Size) (place : Place ℕ (View M I)) : Type 0 where
    pub at : place.table_id ≡ table
    pub me : place.me ≡ (view.Author size (fresh_author (bounds size)), [])

  -- ---- how views are cut and joined: the event of the same name, of the views

  abbrev pub after_out : View M I → View M I
  after_out (view.Author size author) = view.Author size (after_seat_out author)
  after_out (view.Reader size seat) = view.Reader size seat
  after_out view.Gone = view.Gone

  abbrev pub given_by : Stage → View M I → View M I
  given_by stage (view.Author size author) = view.Reader size (given stage author.history)
  given_by stage (view.Reader size seat) = view.Reader size (given stage seat.history)
  given_by stage view.Gone = view.Gone

  -- the author with the history that it had
  abbrev pub with_history_of : Author M I → Author M I → Author M I
  with_history_of author next = record next { history = author.history }

  -- a reader seat is given back to the author, whose history stays: no one has seen more
  abbrev pub with_seat_back : View M I → View M I → View M I
  with_seat_back (view.Author size author) other = view.Author size (with_history_of author (after_seat_back author (seat_shown other)))
  with_seat_back (view.Reader size seat) other = view.Reader size seat
  with_seat_back view.Gone other = view.Gone

  -- a note is given back to who takes it; an author's history stays here too
  abbrev pub with_note_back : View M I → View M I → View M I
  with_note_back (view.Author size author) other = view.Author size (with_history_of author (after_hear author (seat_shown other).history))
  with_note_back (view.Reader size seat) other = view.Reader size (after_hearing seat (seat_shown other).history)
  with_note_back view.Gone other = view.Gone
