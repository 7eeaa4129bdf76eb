-- What holds of every state of the table of a store, and of each step. A reader is told of Look, Enter, Read, Leave and Tell as
-- it takes them, the author of Fill, Lay, Publish, Poll and Tell. SeatOut, NoteOut, SeatBack and NoteBack cut a view in two or
-- join two; each is an access too, a load of the version word, but nobody learns what it finds.
use Rattle.std.specs.Prelude.{◌≡◌, ℕ, suc, ◌<◌, List, [], ◌∷◌, ◌++◌, slice_set}
use mathlib.Core.Option.{some}
use lib.ListN.{get_elem?}
use Rattle.atomic_table.specs.Table.{State}
use Rattle.dt_pages.specs.Reading.{Reading}
use Rattle.dt_gate.specs.declared.event.Event.{Event}
use Rattle.dt_gate.specs.declared.event.Event.TheVariants.{SeatOut, NoteOut, SeatBack, NoteBack}
use Rattle.dt_gate.specs.declared.event.Holder.TheVariants as holder
use Rattle.dt_gate.specs.declared.gate.Author.{Author}
use Rattle.dt_gate.specs.declared.gate.Gate.{Gate}
use Rattle.dt_gate.specs.declared.gate.Seat.{Seat}
use Rattle.dt_gate.specs.declared.gate.Stage.TheVariants.{Out, Note}
use Rattle.dt_gate.specs.Events.{IsAllowed, step}
use Rattle.dt_gate.specs.Seats.{IsReader}
use Rattle.dt_gate.specs.Sound.{IsSound}
use Rattle.dt_gate.specs.Words.{IsOneAccess}
use Rattle.dt_version.specs.declared.view.Size.{Size}
use Rattle.dt_version.specs.declared.view.View.{View}
use Rattle.dt_version.specs.declared.view.View.TheVariants as view
use Rattle.dt_version.specs.Limits.{bounds}
use Rattle.dt_version.specs.Views.{after_out, given_by, with_seat_back, with_note_back}
use Rattle.dt_version.specs.Rule.{IsRunning, IsShown, Holds}
use Rattle.dt_version.specs.Told.{ReaderIsTold, AuthorIsTold}

module _ {M I : Type 0} where
  -- the words and views of the state are those of a gate that is sound
  pub record IsOfASoundGate (shows : Reading → List I → Type 0) (size : Size) (state : State ℕ (View M I)) : Type 0 where
    pub gate : Gate M I
    pub shown : IsShown size gate state
    pub sound : IsSound shows (bounds size) gate

  -- the step was the event: one access of the gate's words, after which a gate runs that is sound
  pub record IsOneEvent (shows : Reading → List I → Type 0) (size : Size) (gate : Gate M I) (event : Event M I) : Type 0 where
    pub access : IsOneAccess (bounds size) gate event
    pub runs : IsRunning shows size (step (bounds size) gate event)
    pub sound : IsSound shows (bounds size) (step (bounds size) gate event)

  -- ---- seats and notes that go out and come back: no number is told, so what is said is said of the table itself

  -- the table shows a gate that is reached, and the seat at this place knows this
  pub record IsAt (shows : Reading → List I → Type 0) (size : Size) (gate : Gate M I) (state : State ℕ (View M I)) (id : ℕ) (me : View M I) : Type 0 where
    pub running : IsRunning shows size gate
    pub shown : IsShown size gate state
    pub at : get_elem? state.views id ≡ some me

  -- the table after the view at a place was cut in two, of which a new seat has the second: no word changes
  abbrev pub cut : State ℕ (View M I) → ℕ → View M I → View M I → State ℕ (View M I)
  cut state id left right = record { words = state.words; homes = state.homes; views = slice_set state.views id left ++ right ∷ [] }

  -- the table after the view at a place took in that at another, which is gone: no word changes
  abbrev pub joined : State ℕ (View M I) → ℕ → View M I → ℕ → State ℕ (View M I)
  joined state id both other = record { words = state.words; homes = state.homes; views = slice_set (slice_set state.views id both) other view.Gone }

  -- the event is allowed in the gate, it is one event of it, and the table shows the gate after it
  pub record GoesBy (shows : Reading → List I → Type 0) (size : Size) (gate : Gate M I) (event : Event M I) (after : State ℕ (View M I)) : Type 0 where
    pub allowed : IsAllowed shows (bounds size) gate event
    pub one : IsOneEvent shows size gate event
    pub shown : IsShown size (step (bounds size) gate event) after

  -- the same by an event of the seat at a place: seat i of the gate is at place i + 1
  pub record GoesByASeat (shows : Reading → List I → Type 0) (size : Size) (gate : Gate M I) (place : ℕ) (event : ℕ → Event M I) (after : State ℕ (View M I)) : Type 0 where
    pub seat : ℕ
    pub place_is : place ≡ suc seat
    pub goes : GoesBy shows size gate (event seat) after

module _ (M : Type 0) {I : Type 0} (shows : Reading → List I → Type 0) where
  -- every state that the rule holds of is of a sound gate
  abbrev pub RuleIsSound : Type 0
  RuleIsSound = (size : Size) (state : State ℕ (View M I)) → Holds shows size state → IsOfASoundGate shows size state

  -- what a reader's step tells is one event of the gate that it tells of
  abbrev pub ReaderStepsAreEvents : Type 0
  ReaderStepsAreEvents = (size : Size) (event : ℕ → Event M I) (before after : View M I) (number : ℕ)
      → (told : ReaderIsTold shows size event before after number) → IsOneEvent shows size told.gate (event told.seat)

  -- and so is what the author's step tells
  abbrev pub AuthorStepsAreEvents : Type 0
  AuthorStepsAreEvents = (size : Size) (event : Event M I) (before after : View M I) (number : ℕ)
      → (told : AuthorIsTold shows size event before after number) → IsOneEvent shows size told.gate event

  -- a reader seat that the author gives out
  abbrev pub SeatsOutAreEvents : Type 0
  SeatsOutAreEvents = (size : Size) (gate : Gate M I) (state : State ℕ (View M I)) (id : ℕ) (author : Author M I)
      → IsAt shows size gate state id (view.Author size author) → author.out < size.readers
      → GoesBy shows size gate SeatOut (cut state id (after_out (view.Author size author)) (given_by Out (view.Author size author)))

  -- a note that the author gives out, and one that a reader does
  abbrev pub AuthorNotesOutAreEvents : Type 0
  AuthorNotesOutAreEvents = (size : Size) (gate : Gate M I) (state : State ℕ (View M I)) (id : ℕ) (author : Author M I)
      → IsAt shows size gate state id (view.Author size author)
      → GoesBy shows size gate (NoteOut holder.Author) (cut state id (view.Author size author) (given_by Note (view.Author size author)))

  abbrev pub ReaderNotesOutAreEvents : Type 0
  ReaderNotesOutAreEvents = (size : Size) (gate : Gate M I) (state : State ℕ (View M I)) (id : ℕ) (seat : Seat M I)
      → IsAt shows size gate state id (view.Reader size seat) → IsReader seat.stage
      → GoesByASeat shows size gate id (λ k. NoteOut (holder.Reader k)) (cut state id (view.Reader size seat) (given_by Note (view.Reader size seat)))

  -- a reader seat that is given back to the author
  abbrev pub SeatsBackAreEvents : Type 0
  SeatsBackAreEvents = (size : Size) (gate : Gate M I) (state : State ℕ (View M I)) (id other : ℕ) (author : Author M I) (seat : Seat M I)
      → IsAt shows size gate state id (view.Author size author) → IsAt shows size gate state other (view.Reader size seat) → seat.stage ≡ Out
      → GoesByASeat shows size gate other SeatBack (joined state id (with_seat_back (view.Author size author) (view.Reader size seat)) other)

  -- a note that is given back to the author, and one to another seat, a reader's
  abbrev pub AuthorNotesBackAreEvents : Type 0
  AuthorNotesBackAreEvents = (size : Size) (gate : Gate M I) (state : State ℕ (View M I)) (id other : ℕ) (author : Author M I) (note : Seat M I)
      → IsAt shows size gate state id (view.Author size author) → IsAt shows size gate state other (view.Reader size note) → note.stage ≡ Note
      → GoesByASeat shows size gate other (λ k. NoteBack k holder.Author) (joined state id (with_note_back (view.Author size author) (view.Reader size note)) other)

  abbrev pub ReaderNotesBackAreEvents : Type 0
  ReaderNotesBackAreEvents = (size : Size) (gate : Gate M I) (state : State ℕ (View M I)) (id other : ℕ) (seat note : Seat M I)
      → IsAt shows size gate state id (view.Reader size seat) → IsAt shows size gate state other (view.Reader size note) → ¬ (other ≡ id)
      → IsReader seat.stage → note.stage ≡ Note → (taker : ℕ) × ((id ≡ suc taker)
      × GoesByASeat shows size gate other (λ k. NoteBack k (holder.Reader taker)) (joined state id (with_note_back (view.Reader size seat) (view.Reader size note)) other))
