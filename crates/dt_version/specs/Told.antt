-- What a step tells who takes it: it was an event of a gate that is reached, where the event was allowed.
use Rattle.std.specs.Prelude.{◌≡◌, ℕ, ◌<◌, List, length, Option, Some}
use Rattle.atomic_table.specs.Table.{Me, Step}
use Rattle.dt_pages.specs.Reading.{Reading, page_words}
use Rattle.dt_gate.specs.declared.event.Event.{Event}
use Rattle.dt_gate.specs.declared.event.Event.TheVariants.{Look, Enter, Read, Leave, Fill, Lay, Publish, Poll, Tell}
use Rattle.dt_gate.specs.declared.event.Holder.TheVariants as holder
use Rattle.dt_gate.specs.declared.event.RecordWord.{RecordWord}
use Rattle.dt_gate.specs.declared.event.RecordWord.TheVariants.{Exits}
use Rattle.dt_gate.specs.declared.event.ReadWord.{ReadWord}
use Rattle.dt_gate.specs.declared.event.ReadWord.TheVariants.{Page}
use Rattle.dt_gate.specs.declared.gate.Gate.{Gate}
use Rattle.dt_gate.specs.Gate.{seat_at}
use Rattle.dt_gate.specs.Events.{IsAllowed, step}
use Rattle.dt_gate.specs.Words.{packed, page_word, record_word, Finds}
use Rattle.dt_version.specs.declared.view.Size.{Size}
use Rattle.dt_version.specs.declared.view.View.{View}
use Rattle.dt_version.specs.declared.view.View.TheVariants as view
use Rattle.dt_version.specs.Limits.{bounds}
use Rattle.dt_version.specs.Rule.{IsRunning}

module _ {M I : Type 0} where
  -- a reader's step: its view before is that of a seat of the gate, its view after that of the seat after the event,
  -- and the number is what the event's access finds
  pub record ReaderIsTold (shows : Reading → List I → Type 0) (size : Size) (event : ℕ → Event M I)
      (before after : View M I) (number : ℕ) : Type 0 where
    pub gate : Gate M I
    pub seat : ℕ
    pub running : IsRunning shows size gate
    pub there : seat < length gate.seats
    pub allowed : IsAllowed shows (bounds size) gate (event seat)
    pub was : before ≡ view.Reader size (seat_at gate seat)
    pub is : after ≡ view.Reader size (seat_at (step (bounds size) gate (event seat)) seat)
    pub finds : Finds gate (event seat) number

  -- a reader's event as a play of the table: no slot is taken or given
  pub record ReaderPlays (shows : Reading → List I → Type 0) (event : ℕ → Event M I)
      (before : Me ℕ (View M I)) (number : ℕ) (after : Me ℕ (View M I)) : Type 0 where
    pub slots : after.1 ≡ before.1
    pub size : Size
    pub told : ReaderIsTold shows size event before.0 after.0 number

  abbrev pub Looked : (Reading → List I → Type 0) → Step ℕ → Me ℕ (View M I) → ℕ → Me ℕ (View M I) → Type 0
  Looked shows at = ReaderPlays shows Look

  abbrev pub Entered : (Reading → List I → Type 0) → Step ℕ → Me ℕ (View M I) → ℕ → Me ℕ (View M I) → Type 0
  Entered shows at = ReaderPlays shows Enter

  abbrev pub WordRead : ReadWord → (Reading → List I → Type 0) → Step ℕ → Me ℕ (View M I) → ℕ → Me ℕ (View M I) → Type 0
  WordRead word shows at = ReaderPlays shows (λ seat. Read seat word)

  -- the page and the place lie in the number of the word
  pub record PageRead (shows : Reading → List I → Type 0) (at : Step ℕ)
      (before : Me ℕ (View M I)) (number : ℕ) (after : Me ℕ (View M I)) : Type 0 where
    pub slots : after.1 ≡ before.1
    pub size : Size
    pub page : ℕ
    pub place : ℕ
    pub in_page : place < page_words
    pub word_is : at.word ≡ page_word (bounds size) page place
    pub told : ReaderIsTold shows size (λ seat. Read seat (Page page place)) before.0 after.0 number

  abbrev pub LeftRoot : (Reading → List I → Type 0) → Step ℕ → Me ℕ (View M I) → ℕ → Me ℕ (View M I) → Type 0
  LeftRoot shows at = ReaderPlays shows Leave

  -- ---- the author

  -- the author's step: its view before is that of the gate's author, its view after that of the author after the event,
  -- and the number is what the event's access finds
  pub record AuthorIsTold (shows : Reading → List I → Type 0) (size : Size) (event : Event M I)
      (before after : View M I) (number : ℕ) : Type 0 where
    pub gate : Gate M I
    pub running : IsRunning shows size gate
    pub allowed : IsAllowed shows (bounds size) gate event
    pub was : before ≡ view.Author size gate.author
    pub is : after ≡ view.Author size (step (bounds size) gate event).author
    pub finds : Finds gate event number

  -- the page and the place lie in the number of the word
  pub record Filled (shows : Reading → List I → Type 0) (at : Step ℕ)
      (before : Me ℕ (View M I)) (number : ℕ) (after : Me ℕ (View M I)) : Type 0 where
    pub slots : after.1 ≡ before.1
    pub size : Size
    pub page : ℕ
    pub place : ℕ
    pub in_page : place < page_words
    pub word_is : at.word ≡ page_word (bounds size) page place
    pub told : AuthorIsTold shows size (Fill page place at.first) before.0 after.0 number

  -- the root lies in the number of the word
  pub record LaidWord (word : RecordWord) (shows : Reading → List I → Type 0) (at : Step ℕ)
      (before : Me ℕ (View M I)) (number : ℕ) (after : Me ℕ (View M I)) : Type 0 where
    pub slots : after.1 ≡ before.1
    pub size : Size
    pub root : ℕ
    pub word_is : at.word ≡ record_word root word
    pub told : AuthorIsTold shows size (Lay root word at.first) before.0 after.0 number

  -- the root lies in what is stored, and the item is given
  pub record Published (item : I) (shows : Reading → List I → Type 0) (at : Step ℕ)
      (before : Me ℕ (View M I)) (number : ℕ) (after : Me ℕ (View M I)) : Type 0 where
    pub slots : after.1 ≡ before.1
    pub size : Size
    pub root : ℕ
    pub value_is : at.first ≡ packed root 0
    pub told : AuthorIsTold shows size (Publish root item) before.0 after.0 number

  pub record Polled (shows : Reading → List I → Type 0) (at : Step ℕ)
      (before : Me ℕ (View M I)) (number : ℕ) (after : Me ℕ (View M I)) : Type 0 where
    pub slots : after.1 ≡ before.1
    pub size : Size
    pub root : ℕ
    pub word_is : at.word ≡ record_word root Exits
    pub told : AuthorIsTold shows size (Poll root) before.0 after.0 number

  pub record AuthorHeard (shows : Reading → List I → Type 0) (at : Step ℕ)
      (before : Me ℕ (View M I)) (number : ℕ) (after : Me ℕ (View M I)) : Type 0 where
    pub slots : after.1 ≡ before.1
    pub size : Size
    pub told : AuthorIsTold shows size (Tell holder.Author) before.0 after.0 number

  abbrev pub ReaderHeard : (Reading → List I → Type 0) → Step ℕ → Me ℕ (View M I) → ℕ → Me ℕ (View M I) → Type 0
  ReaderHeard shows at = ReaderPlays shows (λ seat. Tell (holder.Reader seat))

  -- a publish of the item that was said
  abbrev pub PublishedSaid : Option I → (Reading → List I → Type 0) → Step ℕ → Me ℕ (View M I) → ℕ → Me ℕ (View M I) → Type 0
  PublishedSaid said shows at before number after = (item : I) → said ≡ Some item → Published item shows at before number after
