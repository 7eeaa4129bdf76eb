-- Who entered what is kept by the events that change seats.
use Rattle.std.proofs.Common.{◌≡◌, ℕ, ◌+◌, ◌≤◌, ◌==◌, cond, List, [], ◌∷◌, ◌++◌, length, get_or, set, sum_by, All, refl, sym, ap, subst, ◌∙◌, arith, length-append}
use Rattle.std.proofs.lemmas.List.Sums.{sum_by-set, sum_by_push}
use Rattle.std.proofs.lemmas.List.Elements.{All-push}
use mathlib.Core.List.{IsPrefix}
use native.Mathlib.Decide.{ℕ_discrete}
use Rattle.dt_pages.specs.Reading.{Reading}
use Rattle.dt_gate.specs.declared.gate.Author.{Author}
use Rattle.dt_gate.specs.declared.gate.Gate.{Gate}
use Rattle.dt_gate.specs.declared.gate.Root.{Root}
use Rattle.dt_gate.specs.declared.gate.Seat.{Seat}
use Rattle.dt_gate.specs.declared.gate.Stage.{Stage}
use Rattle.dt_gate.specs.declared.gate.Stage.TheVariants.{Out, Near}
use Rattle.dt_gate.specs.Gate.{Bounds, IsLive, root_at, seat_at, spent}
use Rattle.dt_gate.specs.Author.{after_hear, after_seat_back}
use Rattle.dt_gate.specs.Seats.{given, IsReader, after_enter}
use Rattle.dt_gate.specs.Events.{with_seat}
use Rattle.dt_gate.specs.Counts.{times_in, times_taken, times_entered}
use Rattle.dt_gate.specs.Sound.{WasEntered}
use Rattle.dt_gate.proofs.Kept.{Counted, Shown, Entered}
use Rattle.dt_gate.proofs.Lists.{at_set, at_push, sum_same, one_same, one_other}
use Rattle.dt_gate.proofs.Seats.{seat_here}
use Rattle.dt_gate.proofs.Histories.{prefix_length, longer_mine}
use Rattle.dt_gate.proofs.CountedSeats.{old_not_current}

module _ {M I : Type 0} where
  -- another gate that has at least the history, and in which no version was entered less often
  pub record HasMore (gate next : Gate M I) : Type 0 where
    pub history : length gate.author.history ≤ length next.author.history
    pub times : (version : ℕ) → times_entered gate version ≤ times_entered next version

  -- the author with what is seen here, and all else of another
  abbrev pub entered_author : Author M I → Author M I → Author M I
  entered_author author other = record other { current = author.current; roots = author.roots; history = author.history; taken = author.taken; worn = author.worn }

module _ {I : Type 0} where
  -- a history has seen each of these versions
  abbrev pub AllAreSeen : List I → List ℕ → Type 0
  AllAreSeen history versions = All (λ version. version ≤ length history) versions

  -- so has one that is as long
  pub seen_more : (history next : List I) (versions : List ℕ) → length history ≤ length next → AllAreSeen history versions → AllAreSeen next versions
  seen_more history next versions more all k d below = omega (arith, all k d below, more)

module _ {M I : Type 0} (bounds : Bounds) where
  pub worn_more : (gate next : Gate M I) → HasMore gate next → (looks : List (ℕ × ℕ)) → All (WasEntered bounds gate) looks → All (WasEntered bounds next) looks
  worn_more gate next more looks all k d below =
      let was = all k d below in
      record {
        published = omega (arith, was.published, more.history);
        at_the_limit = was.at_the_limit;
        as_often = omega (arith, was.as_often, more.times (get_or looks k d).0);
      }

  pub all_worn_more : (gate next : Gate M I) → HasMore gate next → (worn : List (List (ℕ × ℕ))) → All (All (WasEntered bounds gate)) worn → All (All (WasEntered bounds next)) worn
  all_worn_more gate next more worn all k d below = worn_more gate next more (get_or worn k d) (all k d below)

  -- what a seat keeps is in order
  pub record SeatIsEntered (gate : Gate M I) (seat : Seat M I) : Type 0 where
    pub worn : All (WasEntered bounds gate) seat.worn
    pub no_entry : ¬ IsReader seat.stage → seat.entered ≡ []
    pub no_look : ¬ IsReader seat.stage → seat.worn ≡ []
    pub seen : AllAreSeen seat.history seat.entered

  pub seat_is_entered : (gate : Gate M I) → Entered bounds gate → (seat : ℕ) → SeatIsEntered gate (seat_at gate seat)
  seat_is_entered gate kept seat = record { worn = kept.worn.of_a_seat seat; no_entry = kept.entries.only_by_readers seat; no_look = kept.worn.only_by_readers seat; seen = kept.entries.only_seen seat }

  -- a reader's seat keeps what it had, and may see more
  pub reader_is_entered : (gate : Gate M I) → Entered bounds gate → (seat : ℕ) (to : Seat M I) → to.worn ≡ (seat_at gate seat).worn → IsReader to.stage
      → to.entered ≡ (seat_at gate seat).entered → length (seat_at gate seat).history ≤ length to.history → SeatIsEntered gate to
  reader_is_entered gate kept seat to same reader as_entered more = record {
    worn = subst (All (WasEntered bounds gate)) (sym same) (kept.worn.of_a_seat seat);
    no_entry = λ none. absurd (none reader);
    no_look = λ none. absurd (none reader);
    seen = subst (AllAreSeen to.history) (sym as_entered) (seen_more (seat_at gate seat).history to.history (seat_at gate seat).entered more (kept.entries.only_seen seat));
  }

  no_looks : (gate : Gate M I) → All (WasEntered bounds gate) []
  no_looks gate k d below = absurd (omega arith)

  pub given_is_entered : (gate : Gate M I) (stage : Stage) (history : List I) → SeatIsEntered gate (given stage history)
  given_is_entered gate stage history = record { worn = no_looks gate; no_entry = λ h. refl; no_look = λ h. refl; seen = λ k d below. absurd (omega arith) }

  pub spent_is_entered : (gate : Gate M I) → SeatIsEntered gate spent
  spent_is_entered gate = record { worn = no_looks gate; no_entry = λ h. refl; no_look = λ h. refl; seen = λ k d below. absurd (omega arith) }

  -- only what is not seen here changes, and no version is entered or taken
  pub entered_copy : (gate : Gate M I) (exits : List ℕ) (other : Author M I) → Entered bounds gate → Entered bounds (record gate { exits = exits; author = entered_author gate.author other })
  entered_copy gate exits other kept =
      let next : Gate M I = record gate { exits = exits; author = entered_author gate.author other } in
      let more : HasMore gate next = record { history = omega arith; times = λ v. omega arith } in
      record {
        entries = record {
          of_the_current_root = kept.entries.of_the_current_root;
          of_an_old_root = kept.entries.of_an_old_root;
          only_published = kept.entries.only_published;
          only_by_readers = kept.entries.only_by_readers;
          only_seen = kept.entries.only_seen;
        };
        worn = record {
          of_a_seat = λ seat. worn_more gate next more (seat_at gate seat).worn (kept.worn.of_a_seat seat);
          of_those_taken_back = all_worn_more gate next more gate.author.worn kept.worn.of_those_taken_back;
          only_by_readers = kept.worn.only_by_readers;
          as_many_taken_back = kept.worn.as_many_taken_back;
        };
      }

  -- the seats change, and no version is entered more or less often
  pub entered_seats : (gate : Gate M I) (seats : List (Seat M I)) (taken : List (List ℕ)) (worn : List (List (ℕ × ℕ))) → Entered bounds gate
      → ((version : ℕ) → sum_by (λ (s : Seat M I). times_in version s.entered) seats + sum_by (times_in version) taken ≡ times_entered gate version)
      → ((seat : ℕ) → SeatIsEntered gate (get_or seats seat spent))
      → All (All (WasEntered bounds gate)) worn
      → length worn ≡ length taken
      → Entered bounds (record gate { author = record gate.author { taken = taken; worn = worn }; seats = seats })
  entered_seats gate seats taken worn kept same each all as_many = record {
    entries = record {
      of_the_current_root = kept.entries.of_the_current_root ∙ sym (same (root_at gate.author gate.author.current).version);
      of_an_old_root = λ root e is. kept.entries.of_an_old_root root e is ∙ sym (same (root_at gate.author root).version);
      only_published = λ v some. kept.entries.only_published v (omega (arith, some, same v));
      only_by_readers = λ seat. (each seat).no_entry;
      only_seen = λ seat. (each seat).seen;
    };
    worn = record {
      of_a_seat = λ seat. worn_more gate next more (get_or seats seat spent).worn (each seat).worn;
      of_those_taken_back = all_worn_more gate next more worn all;
      only_by_readers = λ seat. (each seat).no_look;
      as_many_taken_back = as_many;
    };
  }
    where
      next : Gate M I
      next = record gate { author = record gate.author { taken = taken; worn = worn }; seats = seats }

      more : HasMore gate next
      more = record { history = omega arith; times = λ v. omega (arith, same v) }

  -- a seat changes that keeps what it entered
  pub entered_stays : (gate : Gate M I) (seat : ℕ) (to : Seat M I) → Entered bounds gate → to.entered ≡ (seat_at gate seat).entered → SeatIsEntered gate to → Entered bounds (with_seat gate seat to)
  entered_stays gate seat to kept same new = entered_seats gate (set gate.seats seat to) gate.author.taken gate.author.worn kept
      (λ v. ap (λ n. n + times_taken gate.author v) (sum_same (λ (s : Seat M I). times_in v s.entered) spent gate.seats seat to (ap (times_in v) same)))
      (λ x. at_set (SeatIsEntered gate) spent gate.seats seat x to (λ e. new) (λ n. seat_is_entered gate kept x) (λ past. seat_is_entered gate kept x))
      kept.worn.of_those_taken_back kept.worn.as_many_taken_back

  -- a new seat has entered nothing
  pub entered_push : (gate : Gate M I) (stage : Stage) (history : List I) → Entered bounds gate → Entered bounds (record gate { seats = gate.seats ++ given stage history ∷ [] })
  entered_push gate stage history kept = let new : Seat M I = given stage history in
      entered_seats gate (gate.seats ++ new ∷ []) gate.author.taken gate.author.worn kept
      (λ v. omega (arith, sum_by_push (λ (s : Seat M I). times_in v s.entered) gate.seats new))
      (λ x. at_push (SeatIsEntered gate) spent gate.seats new x (given_is_entered gate stage history) (seat_is_entered gate kept x) (spent_is_entered gate))
      kept.worn.of_those_taken_back kept.worn.as_many_taken_back

  -- the author takes in a history that is a prefix of its own
  pub entered_joined : (gate : Gate M I) (history : List I) → Entered bounds gate → IsPrefix history gate.author.history
      → Entered bounds (record gate { author = after_hear gate.author history })
  entered_joined gate history kept seen = subst (λ h. Entered bounds (record gate { author = record gate.author { history = h; joined = (gate.author.history, history) } }))
      (sym (longer_mine gate.author.history history seen))
      (entered_copy gate gate.exits (record gate.author { joined = (gate.author.history, history) }) kept)

  -- a reader seat is given back: what it entered is now among what was taken
  pub entered_back : (gate : Gate M I) (seat : ℕ) → Entered bounds gate → (seat_at gate seat).stage ≡ Out → IsPrefix (seat_at gate seat).history gate.author.history
      → Entered bounds (with_seat (record gate { author = after_seat_back gate.author (seat_at gate seat) }) seat spent)
  entered_back gate seat kept is seen =
      entered_copy back gate.exits (after_seat_back gate.author (seat_at gate seat))
      (entered_seats joined (set gate.seats seat spent) (gate.author.taken ++ (seat_at gate seat).entered ∷ []) (gate.author.worn ++ (seat_at gate seat).worn ∷ []) kept_joined
      (λ v. omega (
        arith,
        sum_by_push (times_in v) gate.author.taken (seat_at gate seat).entered,
        sum_by-set (λ (s : Seat M I). times_in v s.entered) gate.seats seat spent spent (seat_here gate seat Out is tt),
      ))
      (λ x. at_set (SeatIsEntered joined) spent gate.seats seat x spent (λ e. spent_is_entered joined) (λ n. seat_is_entered joined kept_joined x) (λ past. seat_is_entered joined kept_joined x))
      (All-push (All (WasEntered bounds joined)) gate.author.worn (seat_at gate seat).worn kept_joined.worn.of_those_taken_back (kept_joined.worn.of_a_seat seat))
      (omega (arith, kept.worn.as_many_taken_back, length-append gate.author.worn ((seat_at gate seat).worn ∷ []), length-append gate.author.taken ((seat_at gate seat).entered ∷ []))))
    where
      joined : Gate M I
      joined = record gate { author = after_hear gate.author (seat_at gate seat).history }

      kept_joined : Entered bounds joined
      kept_joined = entered_joined gate (seat_at gate seat).history kept seen

      back : Gate M I
      back = record joined {
        author = record joined.author { taken = gate.author.taken ++ (seat_at gate seat).entered ∷ []; worn = gate.author.worn ++ (seat_at gate seat).worn ∷ [] };
        seats = set gate.seats seat spent;
      }

  -- an enter: the current version is entered once more
  pub entered_enter : (shows : Reading → List I → Type 0) (gate : Gate M I) (seat : ℕ) → Counted bounds gate → Shown shows bounds gate → Entered bounds gate → (seat_at gate seat).stage ≡ Near
      → Entered bounds (with_seat (record gate { entries = gate.entries + 1 }) seat (after_enter gate.author (seat_at gate seat)))
  entered_enter shows gate seat counted shown kept is = record {
    entries = record {
      of_the_current_root = omega (arith, kept.entries.of_the_current_root, times current.version, one_same (length gate.author.history) current.version (sym shown.pages.current_version));
      of_an_old_root = λ root e old. omega (
        arith,
        kept.entries.of_an_old_root root e old,
        times (root_at gate.author root).version,
        one_other (length gate.author.history) (root_at gate.author root).version (λ same. old_not_current bounds gate counted root e old
            (shown.pages.versions_are_distinct root gate.author.current (subst IsLive (sym old) tt) (subst IsLive (sym counted.one.named) tt) (sym same ∙ sym shown.pages.current_version))),
      );
      only_published = λ v some. elim (ℕ_discrete (length gate.author.history) v) [
        | yes e ↦ omega (arith, e)
        | no n ↦ kept.entries.only_published v (omega (arith, some, times v, one_other (length gate.author.history) v n))
      ];
      only_by_readers = λ x. at_set (λ (s : Seat M I). ¬ IsReader s.stage → s.entered ≡ []) spent gate.seats seat x to
          (λ e none. absurd (none tt)) (λ n. kept.entries.only_by_readers x) (λ past. kept.entries.only_by_readers x);
      only_seen = λ x. at_set (λ (s : Seat M I). AllAreSeen s.history s.entered) spent gate.seats seat x to
          (λ e. all_seen) (λ n. kept.entries.only_seen x) (λ past. kept.entries.only_seen x);
    };
    worn = record {
      of_a_seat = λ x. at_set (λ (s : Seat M I). All (WasEntered bounds next) s.worn) spent gate.seats seat x to
          (λ e. looks (seat_at gate seat).worn (kept.worn.of_a_seat seat)) (λ n. looks (seat_at gate x).worn (kept.worn.of_a_seat x)) (λ past. looks (seat_at gate x).worn (kept.worn.of_a_seat x));
      of_those_taken_back = all_worn_more gate next more gate.author.worn kept.worn.of_those_taken_back;
      only_by_readers = λ x. at_set (λ (s : Seat M I). ¬ IsReader s.stage → s.worn ≡ []) spent gate.seats seat x to
          (λ e none. absurd (none tt)) (λ n. kept.worn.only_by_readers x) (λ past. kept.worn.only_by_readers x);
      as_many_taken_back = kept.worn.as_many_taken_back;
    };
  }
    where
      current : Root
      current = root_at gate.author gate.author.current

      to : Seat M I
      to = after_enter gate.author (seat_at gate seat)

      next : Gate M I
      next = with_seat (record gate { entries = gate.entries + 1 }) seat to

      times : (v : ℕ) → times_entered next v ≡ times_entered gate v + cond {A = ℕ} (length gate.author.history == v) 1 0
      times v = omega (
        arith,
        sum_by-set (λ (s : Seat M I). times_in v s.entered) gate.seats seat to spent (seat_here gate seat Near is tt),
        sum_by_push (λ entered. cond {A = ℕ} (entered == v) 1 0) (seat_at gate seat).entered (length gate.author.history),
      )

      more : HasMore gate next
      more = record { history = omega arith; times = λ v. omega (arith, times v) }

      all_seen : AllAreSeen to.history to.entered
      all_seen = All-push (λ v. v ≤ length gate.author.history) (seat_at gate seat).entered (length gate.author.history)
          (seen_more (seat_at gate seat).history gate.author.history (seat_at gate seat).entered
          (prefix_length (seat_at gate seat).history gate.author.history (shown.prefixes.of_a_seat seat)) (kept.entries.only_seen seat)) (omega arith)

      looks : (worn : List (ℕ × ℕ)) → All (WasEntered bounds gate) worn → All (WasEntered bounds next) worn
      looks = worn_more gate next more
