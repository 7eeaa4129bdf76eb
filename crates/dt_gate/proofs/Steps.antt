-- Every step keeps what is kept.
use Rattle.std.proofs.Common.{◌≡◌, ℕ, ◌+◌, ◌-◌, ◌<◌, nat_lt, Bool, true, false, cond, List, [], ◌∷◌, ◌++◌, length, set, refl, sym, ap, subst, ◌∙◌, arith, ltb-true, ltb-false}
use mathlib.Core.List.{IsPrefix}
use Rattle.dt_pages.specs.Reading.{Reading}
use Rattle.dt_pages.specs.Laws.{ReachedPagesDecide}
use Rattle.dt_gate.specs.declared.event.Event.{Event}
use Rattle.dt_gate.specs.declared.event.Event.TheVariants.{Look, Enter, Read, Leave, Fill, Lay, Publish, Poll, SeatOut, NoteOut, SeatBack, NoteBack, Tell}
use Rattle.dt_gate.specs.declared.event.Holder.{Holder}
use Rattle.dt_gate.specs.declared.event.Holder.TheVariants as holder
use Rattle.dt_gate.specs.declared.event.RecordWord.{RecordWord}
use Rattle.dt_gate.specs.declared.gate.Author.{Author}
use Rattle.dt_gate.specs.declared.gate.Gate.{Gate}
use Rattle.dt_gate.specs.declared.gate.Frozen.{Frozen}
use Rattle.dt_gate.specs.declared.gate.Seat.{Seat}
use Rattle.dt_gate.specs.declared.gate.Stage.{Stage}
use Rattle.dt_gate.specs.declared.gate.Stage.TheVariants.{Out, Near, In, Note, Spent}
use Rattle.dt_gate.specs.Gate.{Bounds, root_at, exits_at, seat_at, spent}
use Rattle.dt_gate.specs.Author.{with_word, MayFill, MayLay, MayPublish, after_hear, after_seat_back}
use Rattle.dt_gate.specs.Seats.{given, IsReader, after_enter, after_hearing, frozen_now}
use Rattle.dt_gate.specs.Events.{with_seat, history_of, IsHolder, exits_laid, after_leave, IsAllowed, step}
use Rattle.dt_gate.proofs.Kept.{Entered, Kept}
use Rattle.dt_gate.proofs.Lists.{at_set}
use Rattle.dt_gate.proofs.Roots.{lay_keeps_standing}
use Rattle.dt_gate.proofs.Histories.{prefix_same, prefix_empty, prefix_trans, prefix_length, longer_is_longer}
use Rattle.dt_gate.proofs.CountedSeats.{counted_copy, counted_stays, counted_near, counted_enter, counted_seat_out, counted_note_out, counted_seat_back, counted_note_back}
use Rattle.dt_gate.proofs.CountedRoots.{inside_is_live, counted_leave, counted_lay, counted_publish, counted_poll}
use Rattle.dt_gate.proofs.ShownSeats.{SeatIsShown, seat_is_shown, outside_is_shown, spent_is_shown, shown_copy, shown_with_seat, shown_push, shown_joined, joined_is_shown, enter_is_shown}
use Rattle.dt_gate.proofs.ShownRoots.{exits_of_others, exits_as_many, shown_exits, shown_lay}
use Rattle.dt_gate.proofs.ShownPages.{shown_fill, shown_publish, shown_poll}
use Rattle.dt_gate.proofs.EnteredSeats.{seat_is_entered, reader_is_entered, spent_is_entered, entered_copy, entered_stays, entered_push, entered_back, entered_joined, entered_enter}
use Rattle.dt_gate.proofs.EnteredRoots.{worn_look, entered_lay, entered_publish, entered_poll}

module _ {M I : Type 0} (shows : Reading → List I → Type 0) (bounds : Bounds) where
  kept_look : (gate : Gate M I) (seat : ℕ) → Kept shows bounds gate → (seat_at gate seat).stage ≡ Out → Kept shows bounds (step bounds gate (Look seat))
  kept_look gate seat kept is = go (nat_lt gate.entries bounds.entries) refl
    where
      s : Seat M I
      s = seat_at gate seat

      shown : SeatIsShown shows gate.author s
      shown = seat_is_shown shows bounds gate kept.shown seat

      reader : IsReader s.stage
      reader = subst IsReader (sym is) tt

      near : Seat M I
      near = record s { stage = Near }

      worn : Seat M I
      worn = record s { history = gate.author.history; worn = s.worn ++ (length gate.author.history, gate.entries) ∷ [] }

      not_inside : (root : ℕ) (frozen : Frozen) → ¬ (s.stage ≡ In root frozen)
      not_inside root frozen inside = out_is_not_in (sym is ∙ inside)
        where
          out_is_not_in : ¬ (Out ≡ In root frozen)
          out_is_not_in c = cc

      go : (below : Bool) → nat_lt gate.entries bounds.entries ≡ below → Kept shows bounds (with_seat gate seat (cond below near worn))
      go true e = record {
        counted = counted_near bounds gate seat near kept.counted is refl (ltb-true gate.entries bounds.entries e);
        shown = shown_with_seat shows bounds gate seat near kept.shown (outside_is_shown shows gate.author near (λ root frozen c. cc) shown.history shown.joined);
        entered = entered_stays bounds gate seat near kept.entered refl (reader_is_entered bounds gate kept.entered seat near refl tt refl (omega arith));
      }
      go false e = record {
        counted = counted_stays bounds gate seat worn kept.counted refl;
        shown = shown_with_seat shows bounds gate seat worn kept.shown (outside_is_shown shows gate.author worn not_inside (prefix_same gate.author.history)
            (prefix_trans s.joined.0 s.history gate.author.history shown.joined.0 shown.history, prefix_trans s.joined.1 s.history gate.author.history shown.joined.1 shown.history));
        entered = entered_stays bounds gate seat worn kept.entered refl
            (worn_look bounds shows gate s kept.shown kept.entered (seat_is_entered bounds gate kept.entered seat) reader
            (prefix_length s.history gate.author.history shown.history) (ltb-false gate.entries bounds.entries e));
      }

  kept_enter : (gate : Gate M I) (seat : ℕ) → Kept shows bounds gate → (seat_at gate seat).stage ≡ Near → Kept shows bounds (step bounds gate (Enter seat))
  kept_enter gate seat kept is =
      let to : Seat M I = after_enter gate.author (seat_at gate seat) in
      record {
        counted = counted_enter bounds gate seat to (frozen_now gate.author) kept.counted is refl;
        shown = shown_copy shows bounds (with_seat gate seat to) (gate.entries + 1) gate.author
            (shown_with_seat shows bounds gate seat to kept.shown
            (enter_is_shown shows bounds gate (seat_at gate seat) kept.shown kept.counted.one.named (seat_is_shown shows bounds gate kept.shown seat)));
        entered = entered_enter bounds shows gate seat kept.counted kept.shown kept.entered is;
      }

  kept_leave : (gate : Gate M I) (seat : ℕ) → Kept shows bounds gate → (stage : Stage) → (seat_at gate seat).stage ≡ stage → Kept shows bounds (after_leave gate seat stage)
  kept_leave gate seat kept Out is = kept
  kept_leave gate seat kept Near is = kept
  kept_leave gate seat kept Note is = kept
  kept_leave gate seat kept Spent is = kept
  kept_leave gate seat kept (In root frozen) is = record {
    counted = counted_leave bounds gate seat root frozen to kept.counted is refl;
    shown = shown_with_seat shows bounds between seat to
        (shown_exits shows bounds gate root (exits_at gate root + 1) kept.shown (inside_is_live bounds gate kept.counted seat root frozen is))
        (outside_is_shown shows gate.author to (λ r f c. cc) shown.history shown.joined);
    entered = entered_stays bounds between seat to entered_between refl (reader_is_entered bounds between entered_between seat to refl tt refl (omega arith));
  }
    where
      to : Seat M I
      to = record (seat_at gate seat) { stage = Out }

      between : Gate M I
      between = record gate { exits = set gate.exits root (exits_at gate root + 1) }

      shown : SeatIsShown shows gate.author (seat_at gate seat)
      shown = seat_is_shown shows bounds gate kept.shown seat

      entered_between : Entered bounds between
      entered_between = entered_copy bounds gate between.exits gate.author kept.entered

  kept_fill : (tree : ReachedPagesDecide) (gate : Gate M I) (page at word : ℕ) → Kept shows bounds gate → MayFill bounds gate.author page at → Kept shows bounds (step bounds gate (Fill page at word))
  kept_fill tree gate page at word kept may =
      let next : Author M I = (step bounds gate (Fill page at word)).author in
      record {
        counted = counted_copy bounds gate next kept.counted;
        shown = shown_fill shows bounds tree gate page at word kept.counted kept.shown may;
        entered = entered_copy bounds gate gate.exits next kept.entered;
      }

  kept_lay : (gate : Gate M I) (root : ℕ) (word : RecordWord) (value : ℕ) → Kept shows bounds gate → MayLay bounds gate.author root → Kept shows bounds (step bounds gate (Lay root word value))
  kept_lay gate root word value kept may =
      let exits : List ℕ = exits_laid gate.exits root word value in
      let laid : Gate M I = record gate { author = (step bounds gate (Lay root word value)).author } in
      record {
        counted = counted_lay bounds gate root (with_word (root_at gate.author root) word value) exits kept.counted may.is_free (lay_keeps_standing (root_at gate.author root) word value ∙ may.is_free)
            (exits_of_others gate.exits root word value) (exits_as_many gate.exits root word value);
        shown = shown_lay shows bounds gate root word value kept.counted kept.shown may.is_there may.is_free;
        entered = entered_copy bounds laid exits laid.author (entered_lay bounds gate root word value kept.counted kept.entered may.is_free);
      }

  kept_publish : (gate : Gate M I) (root : ℕ) (item : I) → Kept shows bounds gate → MayPublish shows bounds gate.author root item → Kept shows bounds (step bounds gate (Publish root item))
  kept_publish gate root item kept may = record {
    counted = counted_publish bounds gate root item kept.counted may.is_free may.no_exit (sym ((kept.shown.pages.laid_words_stand root).exits 0 may.no_exit));
    shown = shown_publish shows bounds gate root item kept.counted kept.shown may;
    entered = entered_publish bounds shows gate root item kept.counted kept.shown kept.entered may;
  }

  kept_seat_out : (gate : Gate M I) → Kept shows bounds gate → gate.author.out < bounds.readers → Kept shows bounds (step bounds gate SeatOut)
  kept_seat_out gate kept room =
      let new : Seat M I = given Out gate.author.history in
      let pushed : Gate M I = record gate { seats = gate.seats ++ new ∷ [] } in
      let next : Author M I = record gate.author { out = gate.author.out + 1 } in
      record {
        counted = counted_seat_out bounds gate gate.author.history kept.counted room;
        shown = shown_copy shows bounds pushed gate.entries next (shown_push shows bounds gate new kept.shown
            (outside_is_shown shows gate.author new (λ r f c. cc) (prefix_same gate.author.history) (prefix_empty gate.author.history, prefix_empty gate.author.history)));
        entered = entered_copy bounds pushed gate.exits next (entered_push bounds gate Out gate.author.history kept.entered);
      }

  kept_note_out : (gate : Gate M I) (giver : Holder) → Kept shows bounds gate → Kept shows bounds (step bounds gate (NoteOut giver))
  kept_note_out gate giver kept =
      let new : Seat M I = given Note (history_of gate giver) in
      record {
        counted = counted_note_out bounds gate (history_of gate giver) kept.counted;
        shown = shown_push shows bounds gate new kept.shown
            (outside_is_shown shows gate.author new (λ r f c. cc) (seen giver) (prefix_empty (history_of gate giver), prefix_empty (history_of gate giver)));
        entered = entered_push bounds gate Note (history_of gate giver) kept.entered;
      }
    where
      seen : (holder : Holder) → IsPrefix (history_of gate holder) gate.author.history
      seen holder.Author = prefix_same gate.author.history
      seen (holder.Reader seat) = kept.shown.prefixes.of_a_seat seat

  kept_seat_back : (gate : Gate M I) (seat : ℕ) → Kept shows bounds gate → (seat_at gate seat).stage ≡ Out → Kept shows bounds (step bounds gate (SeatBack seat))
  kept_seat_back gate seat kept is =
      let s : Seat M I = seat_at gate seat in
      let seen : IsPrefix s.history gate.author.history = kept.shown.prefixes.of_a_seat seat in
      let next : Author M I = after_seat_back gate.author s in
      let joined : Gate M I = record gate { author = after_hear gate.author s.history } in
      record {
        counted = counted_copy bounds (with_seat (record gate { author = record gate.author { out = gate.author.out - 1 } }) seat spent) next (counted_seat_back bounds gate seat kept.counted is);
        shown = shown_copy shows bounds (with_seat joined seat spent) gate.entries next
            (shown_with_seat shows bounds joined seat spent (shown_joined shows bounds gate s.history kept.shown seen) (spent_is_shown shows joined.author));
        entered = entered_back bounds gate seat kept.entered is seen;
      }

  -- a note is given back, after its taker took in its history
  kept_note_spent : (gate : Gate M I) (note : ℕ) → Kept shows bounds gate → (seat_at gate note).stage ≡ Note → Kept shows bounds (with_seat gate note spent)
  kept_note_spent gate note kept is = record {
    counted = counted_note_back bounds gate note kept.counted is;
    shown = shown_with_seat shows bounds gate note spent kept.shown (spent_is_shown shows gate.author);
    entered = entered_stays bounds gate note spent kept.entered (sym (kept.entered.entries.only_by_readers note (λ reader. subst IsReader is reader))) (spent_is_entered bounds gate);
  }

  kept_note_back : (gate : Gate M I) (note : ℕ) (taker : Holder) → Kept shows bounds gate → (seat_at gate note).stage ≡ Note → IsHolder gate taker → Kept shows bounds (step bounds gate (NoteBack note taker))
  kept_note_back gate note holder.Author kept is holds =
      let history : List I = (seat_at gate note).history in
      let joined : Gate M I = record gate { author = after_hear gate.author history } in
      kept_note_spent joined note (record {
        counted = counted_copy bounds gate joined.author kept.counted;
        shown = shown_joined shows bounds gate history kept.shown (kept.shown.prefixes.of_a_seat note);
        entered = entered_joined bounds gate history kept.entered (kept.shown.prefixes.of_a_seat note);
      }) is
  kept_note_back gate note (holder.Reader taker) kept is holds =
      let s : Seat M I = seat_at gate taker in
      let history : List I = (seat_at gate note).history in
      let to : Seat M I = after_hearing s history in
      kept_note_spent (with_seat gate taker to) note (record {
        counted = counted_stays bounds gate taker to kept.counted refl;
        shown = shown_with_seat shows bounds gate taker to kept.shown
            (joined_is_shown shows gate.author s history (seat_is_shown shows bounds gate kept.shown taker) (kept.shown.prefixes.of_a_seat note));
        entered = entered_stays bounds gate taker to kept.entered refl (reader_is_entered bounds gate kept.entered taker to refl holds refl (longer_is_longer s.history history));
      })
      (at_set (λ (x : Seat M I). x.stage ≡ Note) spent gate.seats taker note to
      (λ e. absurd (subst IsReader (ap (λ k. (seat_at gate k).stage) (sym e) ∙ is) holds)) (λ n. is) (λ past. is))

  -- every event that is allowed keeps what is kept
  pub kept_step : (tree : ReachedPagesDecide) (gate : Gate M I) (event : Event M I) → Kept shows bounds gate → IsAllowed shows bounds gate event → Kept shows bounds (step bounds gate event)
  kept_step tree gate (Look seat) kept allowed = kept_look gate seat kept allowed
  kept_step tree gate (Enter seat) kept allowed = kept_enter gate seat kept allowed
  kept_step tree gate (Read seat word) kept allowed = kept
  kept_step tree gate (Leave seat) kept allowed = kept_leave gate seat kept (seat_at gate seat).stage refl
  kept_step tree gate (Fill page at word) kept allowed = kept_fill tree gate page at word kept allowed
  kept_step tree gate (Lay root word value) kept allowed = kept_lay gate root word value kept allowed
  kept_step tree gate (Publish root item) kept allowed = kept_publish gate root item kept allowed
  kept_step tree gate (Poll root) kept allowed = record {
    counted = counted_poll bounds gate root kept.counted allowed;
    shown = shown_poll shows bounds gate root kept.shown allowed;
    entered = entered_poll bounds gate root kept.entered allowed;
  }
  kept_step tree gate SeatOut kept allowed = kept_seat_out gate kept allowed
  kept_step tree gate (NoteOut giver) kept allowed = kept_note_out gate giver kept
  kept_step tree gate (SeatBack seat) kept allowed = kept_seat_back gate seat kept allowed
  kept_step tree gate (NoteBack note taker) kept allowed = kept_note_back gate note taker kept allowed.0 allowed.1
  kept_step tree gate (Tell taker) kept allowed = kept
