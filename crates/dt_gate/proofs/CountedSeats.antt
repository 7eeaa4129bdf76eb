-- Roots, entries, readers and the sweep are kept by the events that change seats.
use Rattle.std.proofs.Common.{◌≡◌, ◌≢◌, ℕ, ◌+◌, ◌-◌, ◌<◌, ◌≤◌, ◌&&◌, not, cond, List, [], ◌∷◌, ◌++◌, set, sum_by, sym, ap, ◌∙◌, arith}
use Rattle.dt_gate.specs.declared.gate.Author.{Author}
use Rattle.dt_gate.specs.declared.gate.Gate.{Gate}
use Rattle.dt_gate.specs.declared.gate.Frozen.{Frozen}
use Rattle.dt_gate.specs.declared.gate.Seat.{Seat}
use Rattle.dt_gate.specs.declared.gate.Stage.{Stage}
use Rattle.dt_gate.specs.declared.gate.Stage.TheVariants.{Out, Near, In, Note}
use Rattle.dt_gate.specs.declared.gate.Standing.{Standing}
use Rattle.dt_gate.specs.declared.gate.Standing.TheVariants.{Free, Now, Old}
use Rattle.dt_gate.specs.Gate.{Bounds, root_at, exits_at, seat_at, spent, is_old, stands_in}
use Rattle.dt_gate.specs.Seats.{given}
use Rattle.dt_gate.specs.Events.{with_seat}
use Rattle.dt_gate.specs.Counts.{one_inside, one_near, one_reader, one_unswept, inside, near, readers, inside_unswept}
use Rattle.dt_gate.proofs.Kept.{Counted}
use Rattle.dt_gate.proofs.Seats.{moves, stays, joins, inside_one, inside_other, near_readers, unswept_mono}

module _ {M I : Type 0} (bounds : Bounds) where
  -- a root that stands elsewhere is not the current one
  pub not_current : (gate : Gate M I) → Counted bounds gate → (root : ℕ) (standing : Standing) → (root_at gate.author root).standing ≡ standing → ¬ (Now ≡ standing) → root ≢ gate.author.current
  not_current gate kept root standing is apart same =
      apart (sym kept.one.named ∙ ap (λ r. (root_at gate.author r).standing) (sym same) ∙ is)

  pub old_not_current : (gate : Gate M I) → Counted bounds gate → (root entries : ℕ) → (root_at gate.author root).standing ≡ Old entries → root ≢ gate.author.current
  old_not_current gate kept root entries is = not_current gate kept root (Old entries) is (λ e. cc)

  pub free_not_current : (gate : Gate M I) → Counted bounds gate → (root : ℕ) → (root_at gate.author root).standing ≡ Free → root ≢ gate.author.current
  free_not_current gate kept root is = not_current gate kept root Free is (λ e. cc)

  -- the author with what counts see, and all else of another
  abbrev pub counted_author : Author M I → Author M I → Author M I
  counted_author author other = record other { current = author.current; roots = author.roots; out = author.out; held = author.held; sweep = author.sweep }

  -- the words, histories and lists of the author are not seen
  pub counted_copy : (gate : Gate M I) (other : Author M I) → Counted bounds gate → Counted bounds (record gate { author = counted_author gate.author other })
  counted_copy gate other kept =
      let copy : Author M I = counted_author gate.author other in
      record {
        one = record { named = kept.one.named; no_other = kept.one.no_other };
        accounted = record {
          of_the_current_root = kept.accounted.of_the_current_root;
          of_an_old_root = kept.accounted.of_an_old_root;
          none_inside_a_free_root = kept.accounted.none_inside_a_free_root;
        };
        bounded = record {
          entries = kept.bounded.entries;
          of_an_old_root = kept.bounded.of_an_old_root;
          readers_are_out = kept.bounded.readers_are_out;
          readers_out = kept.bounded.readers_out;
        };
        sweep = record {
          held_are_old = record { old = kept.sweep.held_are_old.old; once = kept.sweep.held_are_old.once };
          held = omega (arith, kept.sweep.held, unswept_mono copy gate.author (λ root h. h) gate.seats);
          count = kept.sweep.count;
        };
        roots = kept.roots;
        exits = kept.exits;
      }

  -- only the seats, the entries and the readers out change
  pub counted_seats : (gate : Gate M I) (seats : List (Seat M I)) (entries out : ℕ) → Counted bounds gate
      → exits_at gate gate.author.current + sum_by (λ (s : Seat M I). one_inside gate.author.current s.stage) seats ≡ entries
      → ((root : ℕ) → root ≢ gate.author.current → sum_by (λ (s : Seat M I). one_inside root s.stage) seats ≡ inside gate root)
      → entries + sum_by (λ (s : Seat M I). one_near s.stage) seats ≤ bounds.entries + bounds.readers
      → sum_by (λ (s : Seat M I). one_reader s.stage) seats ≡ out
      → out ≤ bounds.readers
      → sum_by (λ (s : Seat M I). one_unswept gate.author s.stage) seats ≤ inside_unswept gate
      → Counted bounds (record gate { seats = seats; entries = entries; author = record gate.author { out = out } })
  counted_seats gate seats entries out kept current others near readers bound unswept =
      let copy : Author M I = record gate.author { out = out } in
      record {
        one = record { named = kept.one.named; no_other = kept.one.no_other };
        accounted = record {
          of_the_current_root = current;
          of_an_old_root = λ root e is. ap (λ n. exits_at gate root + n) (others root (old_not_current gate kept root e is)) ∙ kept.accounted.of_an_old_root root e is;
          none_inside_a_free_root = λ root is. others root (free_not_current gate kept root is) ∙ kept.accounted.none_inside_a_free_root root is;
        };
        bounded = record { entries = near; of_an_old_root = kept.bounded.of_an_old_root; readers_are_out = readers; readers_out = bound };
        sweep = record {
          held_are_old = record { old = kept.sweep.held_are_old.old; once = kept.sweep.held_are_old.once };
          held = omega (arith, kept.sweep.held, unswept_mono copy gate.author (λ root h. h) seats, unswept);
          count = kept.sweep.count;
        };
        roots = kept.roots;
        exits = kept.exits;
      }

  -- a seat that stays at its stage
  pub counted_stays : (gate : Gate M I) (seat : ℕ) (to : Seat M I) → Counted bounds gate → to.stage ≡ (seat_at gate seat).stage → Counted bounds (with_seat gate seat to)
  counted_stays gate seat to kept same =
      counted_seats gate (set gate.seats seat to) gate.entries gate.author.out kept
      (omega (arith, kept.accounted.of_the_current_root, stays gate (one_inside gate.author.current) seat to same))
      (λ root other. stays gate (one_inside root) seat to same)
      (omega (arith, kept.bounded.entries, stays gate one_near seat to same))
      (omega (arith, kept.bounded.readers_are_out, stays gate one_reader seat to same))
      kept.bounded.readers_out
      (omega (arith, stays gate (one_unswept gate.author) seat to same))

  -- a look that comes near
  pub counted_near : (gate : Gate M I) (seat : ℕ) (to : Seat M I) → Counted bounds gate → (seat_at gate seat).stage ≡ Out → to.stage ≡ Near
      → gate.entries < bounds.entries → Counted bounds (with_seat gate seat to)
  counted_near gate seat to kept is to_near room =
      let at : (f : Stage → ℕ) → f to.stage ≡ f Near = λ f. ap f to_near in
      counted_seats gate (set gate.seats seat to) gate.entries gate.author.out kept
      (omega (arith, kept.accounted.of_the_current_root, moves gate (one_inside gate.author.current) seat Out to is tt, at (one_inside gate.author.current)))
      (λ root other. omega (arith, moves gate (one_inside root) seat Out to is tt, at (one_inside root)))
      (omega (arith, kept.bounded.readers_are_out, kept.bounded.readers_out, moves gate one_reader seat Out to is tt, at one_reader, near_readers (set gate.seats seat to)))
      (omega (arith, kept.bounded.readers_are_out, moves gate one_reader seat Out to is tt, at one_reader))
      kept.bounded.readers_out
      (omega (arith, moves gate (one_unswept gate.author) seat Out to is tt, at (one_unswept gate.author)))

  -- an enter: the seat moves from near to inside the current root, which has one item more
  pub counted_enter : (gate : Gate M I) (seat : ℕ) (to : Seat M I) (frozen : Frozen) → Counted bounds gate → (seat_at gate seat).stage ≡ Near
      → to.stage ≡ In gate.author.current frozen → Counted bounds (with_seat (record gate { entries = gate.entries + 1 }) seat to)
  counted_enter gate seat to frozen kept is to_inside =
      let at : (f : Stage → ℕ) → f to.stage ≡ f (In gate.author.current frozen) = λ f. ap f to_inside in
      let swept : one_unswept gate.author (In gate.author.current frozen) ≡ 0 =
      ap (λ standing. cond {A = ℕ} (is_old standing && not (stands_in gate.author.current gate.author.held)) 1 0) kept.one.named in
      counted_seats gate (set gate.seats seat to) (gate.entries + 1) gate.author.out kept
      (omega (arith, kept.accounted.of_the_current_root, moves gate (one_inside gate.author.current) seat Near to is tt, at (one_inside gate.author.current), inside_one gate.author.current frozen))
      (λ root other. omega (arith, moves gate (one_inside root) seat Near to is tt, at (one_inside root), inside_other root gate.author.current frozen (λ e. other (sym e))))
      (omega (arith, kept.bounded.entries, moves gate one_near seat Near to is tt, at one_near))
      (omega (arith, kept.bounded.readers_are_out, moves gate one_reader seat Near to is tt, at one_reader))
      kept.bounded.readers_out
      (omega (arith, moves gate (one_unswept gate.author) seat Near to is tt, at (one_unswept gate.author), swept))

  -- a seat that counts for no root and isn't near comes or goes
  pub counted_seat_out : (gate : Gate M I) (history : List I) → Counted bounds gate → gate.author.out < bounds.readers
      → Counted bounds (record gate { seats = gate.seats ++ given Out history ∷ []; author = record gate.author { out = gate.author.out + 1 } })
  counted_seat_out gate history kept room =
      let new : Seat M I = given Out history in
      counted_seats gate (gate.seats ++ new ∷ []) gate.entries (gate.author.out + 1) kept
      (omega (arith, kept.accounted.of_the_current_root, joins gate (one_inside gate.author.current) new))
      (λ root other. omega (arith, joins gate (one_inside root) new))
      (omega (arith, kept.bounded.entries, joins gate one_near new))
      (omega (arith, kept.bounded.readers_are_out, joins gate one_reader new))
      (omega (arith, room))
      (omega (arith, joins gate (one_unswept gate.author) new))

  pub counted_note_out : (gate : Gate M I) (history : List I) → Counted bounds gate → Counted bounds (record gate { seats = gate.seats ++ given Note history ∷ [] })
  counted_note_out gate history kept =
      let new : Seat M I = given Note history in
      counted_seats gate (gate.seats ++ new ∷ []) gate.entries gate.author.out kept
      (omega (arith, kept.accounted.of_the_current_root, joins gate (one_inside gate.author.current) new))
      (λ root other. omega (arith, joins gate (one_inside root) new))
      (omega (arith, kept.bounded.entries, joins gate one_near new))
      (omega (arith, kept.bounded.readers_are_out, joins gate one_reader new))
      kept.bounded.readers_out
      (omega (arith, joins gate (one_unswept gate.author) new))

  pub counted_seat_back : (gate : Gate M I) (seat : ℕ) → Counted bounds gate → (seat_at gate seat).stage ≡ Out
      → Counted bounds (with_seat (record gate { author = record gate.author { out = gate.author.out - 1 } }) seat spent)
  counted_seat_back gate seat kept is =
      counted_seats gate (set gate.seats seat spent) gate.entries (gate.author.out - 1) kept
      (omega (arith, kept.accounted.of_the_current_root, moves gate (one_inside gate.author.current) seat Out spent is tt))
      (λ root other. omega (arith, moves gate (one_inside root) seat Out spent is tt))
      (omega (arith, kept.bounded.entries, moves gate one_near seat Out spent is tt))
      (omega (arith, kept.bounded.readers_are_out, moves gate one_reader seat Out spent is tt))
      (omega (arith, kept.bounded.readers_out))
      (omega (arith, moves gate (one_unswept gate.author) seat Out spent is tt))

  pub counted_note_back : (gate : Gate M I) (note : ℕ) → Counted bounds gate → (seat_at gate note).stage ≡ Note → Counted bounds (with_seat gate note spent)
  counted_note_back gate note kept is =
      counted_seats gate (set gate.seats note spent) gate.entries gate.author.out kept
      (omega (arith, kept.accounted.of_the_current_root, moves gate (one_inside gate.author.current) note Note spent is tt))
      (λ root other. omega (arith, moves gate (one_inside root) note Note spent is tt))
      (omega (arith, kept.bounded.entries, moves gate one_near note Note spent is tt))
      (omega (arith, kept.bounded.readers_are_out, moves gate one_reader note Note spent is tt))
      kept.bounded.readers_out
      (omega (arith, moves gate (one_unswept gate.author) note Note spent is tt))
