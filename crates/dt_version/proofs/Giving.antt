-- Seats and notes are given out and back.
use Rattle.std.proofs.Common.{◌≡◌, ◌≢◌, get_or-set_other, ℕ, zero, suc, ◌<◌, List, [], ◌∷◌, ◌++◌, map, get_or, set, refl, sym, ap, subst, ◌∙◌, arith}
use mathlib.Core.Option.{some}
use lib.ListN.{get_elem?}
use Rattle.atomic_table.specs.Table.{State, Splits, Joins}
use Rattle.atomic_table.proofs.Lists.{set_else}
use Rattle.dt_pages.specs.Reading.{Reading}
use Rattle.dt_gate.specs.declared.access.Access.TheVariants.{Load}
use Rattle.dt_gate.specs.declared.event.Event.{Event}
use Rattle.dt_gate.specs.declared.event.Event.TheVariants.{SeatOut, NoteOut, SeatBack, NoteBack}
use Rattle.dt_gate.specs.declared.event.Holder.TheVariants as holder
use Rattle.dt_gate.specs.declared.gate.Author.{Author}
use Rattle.dt_gate.specs.declared.gate.Gate.{Gate}
use Rattle.dt_gate.specs.declared.gate.Seat.{Seat}
use Rattle.dt_gate.specs.declared.gate.Stage.{Stage}
use Rattle.dt_gate.specs.declared.gate.Stage.TheVariants.{Out, Near, In, Note, Spent}
use Rattle.dt_gate.specs.Gate.{seat_at, spent}
use Rattle.dt_gate.specs.Author.{longer, after_seat_out, after_seat_back, after_hear}
use Rattle.dt_gate.specs.Seats.{IsReader, given, after_hearing}
use Rattle.dt_gate.specs.Events.{IsAllowed, step}
use Rattle.dt_gate.specs.Words.{accessed, access_of, words_of}
use Rattle.dt_gate.specs.AllBounds.{LawsOfRuns}
use Rattle.dt_version.specs.declared.view.Size.{Size}
use Rattle.dt_version.specs.declared.view.View.{View}
use Rattle.dt_version.specs.declared.view.View.TheVariants as view
use Rattle.dt_version.specs.Limits.{bounds}
use Rattle.dt_version.specs.Views.{view_at, view_of, views_of, after_out, given_by, with_history_of, with_seat_back, with_note_back}
use Rattle.dt_version.specs.Rule.{IsRunning, Holds}
use Rattle.dt_version.specs.Laws.{IsAt, cut, joined, GoesBy, GoesByASeat}
use Rattle.dt_version.proofs.Lists.{map-set, longer_whole}
use Rattle.dt_version.proofs.Seats.{reader_found}
use Rattle.dt_version.proofs.AuthorSteps.{author_found}
use Rattle.dt_version.proofs.Steps.{one_event}

-- a live stage is seen
view_is_seen : {M I : Type 0} (size : Size) (seat : Seat M I) (stage : Stage) → IsReader stage → view_at size seat stage ≡ view.Reader size seat
view_is_seen size seat Out reads = refl
view_is_seen size seat Near reads = refl
view_is_seen size seat (In root frozen) reads = refl
view_is_seen size seat Note reads = absurd reads
view_is_seen size seat Spent reads = absurd reads

module _ {M I : Type 0} (shows : Reading → List I → Type 0) (laws : LawsOfRuns M shows) (size : Size) where
  map_push : (seats : List (Seat M I)) (seat : Seat M I) → map (view_of size) (seats ++ seat ∷ []) ≡ map (view_of size) seats ++ view_of size seat ∷ []
  map_push [] seat = refl
  map_push (s ∷ seats) seat = ap (λ vs. view_of size s ∷ vs) (map_push seats seat)

  -- the table goes by an event that loads the version word where the views become those of the gate after it
  goes : (gate : Gate M I) (event : Event M I) (after : State ℕ (View M I)) → IsRunning shows size gate → IsAllowed shows (bounds size) gate event
      → access_of (bounds size) gate event ≡ Load 0 → after.words ≡ words_of gate → after.views ≡ views_of size (step (bounds size) gate event)
      → GoesBy shows size gate event after
  goes gate event after running allowed loads words views =
      let one = one_event shows laws size gate event running allowed in record {
        allowed = allowed;
        one = one;
        shown = record { words = words ∙ (sym (ap (λ a. accessed a (words_of gate)) loads) ∙ sym one.access.changes); views = views };
      }

  -- and so the rule holds after it
  holds_after : (gate : Gate M I) (event : Event M I) (after : State ℕ (View M I)) → GoesBy shows size gate event after → Holds shows size after
  holds_after gate event after by = (step (bounds size) gate event, by.one.runs, by.shown)

  pub seat_goes_out : (gate : Gate M I) (state : State ℕ (View M I)) (id : ℕ) (author : Author M I)
      → IsAt shows size gate state id (view.Author size author) → author.out < size.readers
      → GoesBy shows size gate SeatOut (cut state id (after_out (view.Author size author)) (given_by Out (view.Author size author)))
  seat_goes_out gate state id author mine room =
      let here = author_found size size gate id author (subst (λ vs. get_elem? vs id ≡ some (view.Author size author)) mine.shown.views mine.at) in
      let allowed : gate.author.out < size.readers = subst (λ (a : Author M I). a.out < size.readers) (sym here.author_is) room in
      goes gate SeatOut (cut state id (after_out (view.Author size author)) (given_by Out (view.Author size author))) mine.running allowed refl mine.shown.words
      (ap (λ vs. set vs id (view.Author size (after_seat_out author)) ++ view.Reader size (given Out author.history) ∷ []) mine.shown.views
      ∙ (ap (λ j. set (views_of size gate) j (view.Author size (after_seat_out author)) ++ view.Reader size (given Out author.history) ∷ []) here.first
      ∙ (ap (λ (a : Author M I). view.Author size (after_seat_out a) ∷ (map (view_of size) gate.seats ++ view.Reader size (given Out a.history) ∷ [])) (sym here.author_is)
      ∙ ap (λ vs. view.Author size (after_seat_out gate.author) ∷ vs) (sym (map_push gate.seats (given Out gate.author.history))))))

  pub gives_a_seat : (id : ℕ) (author : Author M I) (me : View M I) → me ≡ view.Author size author → author.out < size.readers
      → Splits (Holds shows size) id me (after_out me) (given_by Out me)
  gives_a_seat id author me is room = subst (λ v. Splits (Holds shows size) id v (after_out v) (given_by Out v)) (sym is)
      (λ state (gate, running, shown) at.
      holds_after gate SeatOut (cut state id (after_out (view.Author size author)) (given_by Out (view.Author size author)))
      (seat_goes_out gate state id author (record { running = running; shown = shown; at = at }) room))

  pub note_goes_out : (gate : Gate M I) (state : State ℕ (View M I)) (id : ℕ) (author : Author M I)
      → IsAt shows size gate state id (view.Author size author)
      → GoesBy shows size gate (NoteOut holder.Author) (cut state id (view.Author size author) (given_by Note (view.Author size author)))
  note_goes_out gate state id author mine =
      let here = author_found size size gate id author (subst (λ vs. get_elem? vs id ≡ some (view.Author size author)) mine.shown.views mine.at) in
      goes gate (NoteOut holder.Author) (cut state id (view.Author size author) (given_by Note (view.Author size author))) mine.running tt refl mine.shown.words
      (ap (λ vs. set vs id (view.Author size author) ++ view.Reader size (given Note author.history) ∷ []) mine.shown.views
      ∙ (ap (λ j. set (views_of size gate) j (view.Author size author) ++ view.Reader size (given Note author.history) ∷ []) here.first
      ∙ (ap (λ (a : Author M I). view.Author size a ∷ (map (view_of size) gate.seats ++ view.Reader size (given Note a.history) ∷ [])) (sym here.author_is)
      ∙ ap (λ vs. view.Author size gate.author ∷ vs) (sym (map_push gate.seats (given Note gate.author.history))))))

  pub gives_a_note : (id : ℕ) (author : Author M I) (me : View M I) → me ≡ view.Author size author
      → Splits (Holds shows size) id me me (given_by Note me)
  gives_a_note id author me is = subst (λ v. Splits (Holds shows size) id v v (given_by Note v)) (sym is)
      (λ state (gate, running, shown) at.
      holds_after gate (NoteOut holder.Author) (cut state id (view.Author size author) (given_by Note (view.Author size author)))
      (note_goes_out gate state id author (record { running = running; shown = shown; at = at })))

  pub reader_note_goes_out : (gate : Gate M I) (state : State ℕ (View M I)) (id : ℕ) (seat : Seat M I)
      → IsAt shows size gate state id (view.Reader size seat) → IsReader seat.stage
      → GoesByASeat shows size gate id (λ k. NoteOut (holder.Reader k)) (cut state id (view.Reader size seat) (given_by Note (view.Reader size seat)))
  reader_note_goes_out gate state id seat mine reads =
      let here = reader_found size size gate id seat (subst (λ vs. get_elem? vs id ≡ some (view.Reader size seat)) mine.shown.views mine.at) in
      let k : ℕ = here.number in
      let same : view.Reader size seat ≡ view_of size (seat_at gate k) =
      sym (view_is_seen size seat seat.stage reads) ∙ ap (view_of size) (sym here.seat_is) in
      let note : view.Reader size (given Note seat.history) ≡ view_of size (given Note (seat_at gate k).history) =
      ap (λ (s : Seat M I). view.Reader size (given Note s.history)) (sym here.seat_is) in record {
        seat = k;
        place_is = here.behind;
        goes = goes gate (NoteOut (holder.Reader k)) (cut state id (view.Reader size seat) (given_by Note (view.Reader size seat))) mine.running
            (subst (λ (s : Seat M I). IsReader s.stage) (sym here.seat_is) reads) refl mine.shown.words
            (ap (λ vs. set vs id (view.Reader size seat) ++ view.Reader size (given Note seat.history) ∷ []) mine.shown.views
            ∙ (ap (λ j. set (views_of size gate) j (view.Reader size seat) ++ view.Reader size (given Note seat.history) ∷ []) here.behind
            ∙ (ap (λ vs. view.Author size gate.author ∷ (vs ++ view.Reader size (given Note seat.history) ∷ []))
            (ap (set (map (view_of size) gate.seats) k) same ∙ set_as_is gate.seats k)
            ∙ (ap (λ v. view.Author size gate.author ∷ (map (view_of size) gate.seats ++ v ∷ [])) note
            ∙ ap (λ vs. view.Author size gate.author ∷ vs) (sym (map_push gate.seats (given Note (seat_at gate k).history)))))));
      }
    where
      set_as_is : (ss : List (Seat M I)) (j : ℕ) → set (map (view_of size) ss) j (view_of size (get_or ss j spent)) ≡ map (view_of size) ss
      set_as_is [] j = refl
      set_as_is (s ∷ ss) zero = refl
      set_as_is (s ∷ ss) (suc j) = ap (λ vs. view_of size s ∷ vs) (set_as_is ss j)

  pub reader_gives_a_note : (id : ℕ) (seat : Seat M I) (me : View M I) → me ≡ view.Reader size seat → IsReader seat.stage
      → Splits (Holds shows size) id me me (given_by Note me)
  reader_gives_a_note id seat me is reads = subst (λ v. Splits (Holds shows size) id v v (given_by Note v)) (sym is)
      (λ state (gate, running, shown) at.
      let by = reader_note_goes_out gate state id seat (record { running = running; shown = shown; at = at }) reads in
      holds_after gate (NoteOut (holder.Reader by.seat)) (cut state id (view.Reader size seat) (given_by Note (view.Reader size seat))) by.goes)

  -- the author's history is the longest
  longest : (gate : Gate M I) (k : ℕ) → IsRunning shows size gate → longer gate.author.history (seat_at gate k).history ≡ gate.author.history
  longest gate k running = let sound = laws.sound (bounds size) running.in_range running.empty gate running.reached in
      longer_whole gate.author.history (seat_at gate k).history (sound.histories_and_counts.prefixes.of_a_seat k)

  seat_then : (gate : Gate M I) (k : ℕ) (author : Author M I) (seat : Seat M I) → IsRunning shows size gate → gate.author ≡ author → seat_at gate k ≡ seat
      → after_seat_back gate.author (seat_at gate k) ≡ with_history_of author (after_seat_back author seat)
  seat_then gate k author seat running author_is seat_is =
      (λ i. record (after_seat_back gate.author (seat_at gate k)) { history = longest gate k running i })
      ∙ (λ i. with_history_of (author_is i) (after_seat_back (author_is i) (seat_is i)))

  note_then : (gate : Gate M I) (k : ℕ) (author : Author M I) (note : Seat M I) → IsRunning shows size gate → gate.author ≡ author → seat_at gate k ≡ note
      → after_hear gate.author (seat_at gate k).history ≡ with_history_of author (after_hear author note.history)
  note_then gate k author note running author_is note_is =
      (λ i. record (after_hear gate.author (seat_at gate k).history) { history = longest gate k running i })
      ∙ (λ i. with_history_of (author_is i) (after_hear (author_is i) (note_is i).history))

  -- a seat is given back to the author: it is one of the seats, and its view is gone
  module _ (own : Size) (id other : ℕ) (author : Author M I) (seat : Seat M I) (next : Author M I) (event : ℕ → Event M I)
      (may : (gate : Gate M I) (k : ℕ) → gate.author ≡ author → seat_at gate k ≡ seat → IsAllowed shows (bounds size) gate (event k))
      (loads : (gate : Gate M I) (k : ℕ) → access_of (bounds size) gate (event k) ≡ Load 0)
      (author_then : (gate : Gate M I) (k : ℕ) → IsRunning shows size gate → gate.author ≡ author → seat_at gate k ≡ seat → (step (bounds size) gate (event k)).author ≡ next)
      (seats_then : (gate : Gate M I) (k : ℕ) → (step (bounds size) gate (event k)).seats ≡ set gate.seats k spent) where
    author_goes : (gate : Gate M I) (state : State ℕ (View M I)) → IsAt shows size gate state id (view.Author size author)
        → get_elem? (set state.views id (view.Author size next)) other ≡ some (view.Reader own seat)
        → GoesByASeat shows size gate other event (joined state id (view.Author size next) other)
    author_goes gate state mine there =
        let here = author_found size size gate id author (subst (λ vs. get_elem? vs id ≡ some (view.Author size author)) mine.shown.views mine.at) in
        let changed : set state.views id (view.Author size next) ≡ view.Author size next ∷ map (view_of size) gate.seats =
        ap (λ vs. set vs id (view.Author size next)) mine.shown.views ∙ ap (λ j. set (views_of size gate) j (view.Author size next)) here.first in
        let found = reader_found size own (record gate { author = next }) other seat
        (subst (λ vs. get_elem? vs other ≡ some (view.Reader own seat)) changed there) in
        let k : ℕ = found.number in record {
          seat = k;
          place_is = found.behind;
          goes = goes gate (event k) (joined state id (view.Author size next) other) mine.running
              (may gate k here.author_is found.seat_is) (loads gate k) mine.shown.words
              (ap (λ vs. set vs other view.Gone) changed
              ∙ (ap (λ j. set (view.Author size next ∷ map (view_of size) gate.seats) j view.Gone) found.behind
              ∙ (ap (λ vs. view.Author size next ∷ vs) (sym (map-set (view_of size) gate.seats k spent))
              ∙ (λ i. view.Author size (sym (author_then gate k mine.running here.author_is found.seat_is) i) ∷ map (view_of size) (sym (seats_then gate k) i)))));
        }

    author_takes : Joins (Holds shows size) id (view.Author size author) other (view.Reader own seat) (view.Author size next) view.Gone
    author_takes state (gate, running, shown) at apart there =
        let by = author_goes gate state (record { running = running; shown = shown; at = at }) there in
        holds_after gate (event by.seat) (joined state id (view.Author size next) other) by.goes

    -- the same of a seat that was there before
    author_goes_on : (gate : Gate M I) (state : State ℕ (View M I)) → IsAt shows size gate state id (view.Author size author)
        → get_elem? state.views other ≡ some (view.Reader own seat)
        → GoesByASeat shows size gate other event (joined state id (view.Author size next) other)
    author_goes_on gate state mine there =
        let here = author_found size size gate id author (subst (λ vs. get_elem? vs id ≡ some (view.Author size author)) mine.shown.views mine.at) in
        let found = reader_found size own gate other seat (subst (λ vs. get_elem? vs other ≡ some (view.Reader own seat)) mine.shown.views there) in
        let first : id ≡ 0 = here.first in
        let behind : other ≡ suc found.number = found.behind in
        let apart : other ≢ id = λ same. omega (arith, same, first, behind) in
        author_goes gate state mine (set_else state.views id other (view.Author size next) apart ∙ there)

  pub seat_comes_back : (gate : Gate M I) (state : State ℕ (View M I)) (id other : ℕ) (author : Author M I) (seat : Seat M I)
      → IsAt shows size gate state id (view.Author size author) → get_elem? state.views other ≡ some (view.Reader size seat) → seat.stage ≡ Out
      → GoesByASeat shows size gate other SeatBack (joined state id (with_seat_back (view.Author size author) (view.Reader size seat)) other)
  seat_comes_back gate state id other author seat mine his out = author_goes_on size id other author seat (with_history_of author (after_seat_back author seat)) SeatBack
      (λ gate k author_is seat_is. ap (λ (s : Seat M I). s.stage) seat_is ∙ out)
      (λ gate k. refl)
      (λ gate k. seat_then gate k author seat)
      (λ gate k. refl)
      gate state mine his

  pub takes_a_seat : (own : Size) (id other : ℕ) (author : Author M I) (seat : Seat M I) (me him : View M I) → me ≡ view.Author size author → him ≡ view.Reader own seat
      → seat.stage ≡ Out → Joins (Holds shows size) id me other him (with_seat_back me him) view.Gone
  takes_a_seat own id other author seat me him me_is him_is out =
      subst (λ v. Joins (Holds shows size) id v other him (with_seat_back v him) view.Gone) (sym me_is)
      (subst (λ w. Joins (Holds shows size) id (view.Author size author) other w (with_seat_back (view.Author size author) w) view.Gone) (sym him_is)
      (author_takes own id other author seat (with_history_of author (after_seat_back author seat)) SeatBack
      (λ gate k author_is seat_is. ap (λ (s : Seat M I). s.stage) seat_is ∙ out)
      (λ gate k. refl)
      (λ gate k. seat_then gate k author seat)
      (λ gate k. refl)))

  pub note_comes_back : (gate : Gate M I) (state : State ℕ (View M I)) (id other : ℕ) (author : Author M I) (note : Seat M I)
      → IsAt shows size gate state id (view.Author size author) → get_elem? state.views other ≡ some (view.Reader size note) → note.stage ≡ Note
      → GoesByASeat shows size gate other (λ k. NoteBack k holder.Author) (joined state id (with_note_back (view.Author size author) (view.Reader size note)) other)
  note_comes_back gate state id other author note mine his is_note = author_goes_on size id other author note (with_history_of author (after_hear author note.history)) (λ k. NoteBack k holder.Author)
      (λ gate k author_is seat_is. (ap (λ (s : Seat M I). s.stage) seat_is ∙ is_note, tt))
      (λ gate k. refl)
      (λ gate k. note_then gate k author note)
      (λ gate k. refl)
      gate state mine his

  pub takes_a_note : (own : Size) (id other : ℕ) (author : Author M I) (seat : Seat M I) (me him : View M I) → me ≡ view.Author size author → him ≡ view.Reader own seat
      → seat.stage ≡ Note → Joins (Holds shows size) id me other him (with_note_back me him) view.Gone
  takes_a_note own id other author seat me him me_is him_is note =
      subst (λ v. Joins (Holds shows size) id v other him (with_note_back v him) view.Gone) (sym me_is)
      (subst (λ w. Joins (Holds shows size) id (view.Author size author) other w (with_note_back (view.Author size author) w) view.Gone) (sym him_is)
      (author_takes own id other author seat (with_history_of author (after_hear author seat.history)) (λ k. NoteBack k holder.Author)
      (λ gate k author_is seat_is. (ap (λ (s : Seat M I). s.stage) seat_is ∙ note, tt))
      (λ gate k. refl)
      (λ gate k. note_then gate k author seat)
      (λ gate k. refl)))

  -- a note is given back to a reader
  reader_goes : (own : Size) (gate : Gate M I) (state : State ℕ (View M I)) (id other : ℕ) (mine note : Seat M I)
      → IsAt shows size gate state id (view.Reader size mine) → ¬ (other ≡ id)
      → get_elem? (set state.views id (view.Reader size (after_hearing mine note.history))) other ≡ some (view.Reader own note)
      → IsReader mine.stage → note.stage ≡ Note → (taker : ℕ) × ((id ≡ suc taker)
      × GoesByASeat shows size gate other (λ k. NoteBack k (holder.Reader taker)) (joined state id (view.Reader size (after_hearing mine note.history)) other))
  reader_goes own gate state id other mine note at_mine apart there reads is_note =
      let here = reader_found size size gate id mine (subst (λ vs. get_elem? vs id ≡ some (view.Reader size mine)) at_mine.shown.views at_mine.at) in
      let k : ℕ = here.number in
      let heard : Seat M I = after_hearing mine note.history in
      let seen : view.Reader size heard ≡ view_of size heard = sym (view_is_seen size heard heard.stage reads) in
      let changed : set state.views id (view.Reader size heard) ≡ views_of size (record gate { seats = set gate.seats k heard }) =
      ap (λ vs. set vs id (view.Reader size heard)) at_mine.shown.views
      ∙ (ap (λ j. set (views_of size gate) j (view.Reader size heard)) here.behind
      ∙ ap (λ vs. view.Author size gate.author ∷ vs) (ap (set (map (view_of size) gate.seats) k) seen ∙ sym (map-set (view_of size) gate.seats k heard))) in
      let found = reader_found size own (record gate { seats = set gate.seats k heard }) other note
      (subst (λ vs. get_elem? vs other ≡ some (view.Reader own note)) changed there) in
      let j : ℕ = found.number in
      let other_place : j ≢ k = λ e. apart (found.behind ∙ (ap suc e ∙ sym here.behind)) in
      let note_is : seat_at gate j ≡ note = sym (get_or-set_other gate.seats k j heard spent other_place) ∙ found.seat_is in
      let heard_is : after_hearing (seat_at gate k) (seat_at gate j).history ≡ heard = λ i. after_hearing (here.seat_is i) (note_is i).history in (
        k,
        (
          here.behind,
          record {
            seat = j;
            place_is = found.behind;
            goes = goes gate (NoteBack j (holder.Reader k)) (joined state id (view.Reader size heard) other) at_mine.running
                (ap (λ (s : Seat M I). s.stage) note_is ∙ is_note, subst (λ (s : Seat M I). IsReader s.stage) (sym here.seat_is) reads) refl at_mine.shown.words
                (ap (λ vs. set vs other view.Gone) changed
                ∙ (ap (λ n. set (views_of size (record gate { seats = set gate.seats k heard })) n view.Gone) found.behind
                ∙ (ap (λ vs. view.Author size gate.author ∷ vs) (sym (map-set (view_of size) (set gate.seats k heard) j spent))
                ∙ ap (λ (s : Seat M I). view.Author size gate.author ∷ map (view_of size) (set (set gate.seats k s) j spent)) (sym heard_is))));
          },
        ),
      )

  pub reader_note_comes_back : (gate : Gate M I) (state : State ℕ (View M I)) (id other : ℕ) (seat note : Seat M I)
      → IsAt shows size gate state id (view.Reader size seat) → get_elem? state.views other ≡ some (view.Reader size note) → ¬ (other ≡ id)
      → IsReader seat.stage → note.stage ≡ Note → (taker : ℕ) × ((id ≡ suc taker)
      × GoesByASeat shows size gate other (λ k. NoteBack k (holder.Reader taker)) (joined state id (with_note_back (view.Reader size seat) (view.Reader size note)) other))
  reader_note_comes_back gate state id other seat note mine his apart reads is_note = reader_goes size gate state id other seat note mine apart
      (set_else state.views id other (view.Reader size (after_hearing seat note.history)) apart ∙ his) reads is_note

  pub reader_takes_a_note : (own : Size) (id other : ℕ) (mine note : Seat M I) (me him : View M I) → me ≡ view.Reader size mine → him ≡ view.Reader own note
      → IsReader mine.stage → note.stage ≡ Note → Joins (Holds shows size) id me other him (with_note_back me him) view.Gone
  reader_takes_a_note own id other mine note me him me_is him_is reads is_note =
      subst (λ v. Joins (Holds shows size) id v other him (with_note_back v him) view.Gone) (sym me_is)
      (subst (λ w. Joins (Holds shows size) id (view.Reader size mine) other w (with_note_back (view.Reader size mine) w) view.Gone) (sym him_is)
      (λ state (gate, running, shown) at apart there.
      let by = reader_goes own gate state id other mine note (record { running = running; shown = shown; at = at }) apart there reads is_note in
      holds_after gate (NoteBack by.1.1.seat (holder.Reader by.0)) (joined state id (view.Reader size (after_hearing mine note.history)) other) by.1.1.goes))
