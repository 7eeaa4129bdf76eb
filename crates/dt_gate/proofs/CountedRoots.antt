-- Roots, entries, readers and the sweep are kept by the events that change a root.
use Rattle.std.proofs.Common.{◌≡◌, ◌≢◌, ◌⊎◌, ℕ, ◌+◌, ◌<◌, ◌≤◌, ◌==◌, ◌&&◌, ◌||◌, not, Bool, true, false, cond, List, [], ◌∷◌, ◌++◌, length, set, get_or, Some, refl, sym, ap, subst, ◌∙◌, inl, inr, arith, length-set, length-append, eq-eqb, ne_eqb, true≢false}
use Rattle.std.proofs.lemmas.List.Folds.{list_any-append}
use native.Mathlib.Decide.{ℕ_discrete}
use Rattle.dt_gate.specs.declared.gate.Author.{Author}
use Rattle.dt_gate.specs.declared.gate.Gate.{Gate}
use Rattle.dt_gate.specs.declared.gate.Root.{Root}
use Rattle.dt_gate.specs.declared.gate.Frozen.{Frozen}
use Rattle.dt_gate.specs.declared.gate.Seat.{Seat}
use Rattle.dt_gate.specs.declared.gate.Stage.{Stage}
use Rattle.dt_gate.specs.declared.gate.Stage.TheVariants.{Out, Near, In, Note, Spent}
use Rattle.dt_gate.specs.declared.gate.Standing.{Standing}
use Rattle.dt_gate.specs.declared.gate.Standing.TheVariants.{Free, Now, Old}
use Rattle.dt_gate.specs.Gate.{Bounds, IsLive, blank_root, root_at, exits_at, seat_at, spent, is_old, IsOld, stands_in}
use Rattle.dt_gate.specs.Author.{with_root, after_publish, after_poll}
use Rattle.dt_gate.specs.Events.{with_seat}
use Rattle.dt_gate.specs.Counts.{one_inside, one_near, one_reader, one_unswept, is_unswept, inside, inside_unswept}
use Rattle.dt_gate.specs.Sound.{AreDistinct}
use Rattle.dt_gate.proofs.Kept.{Counted}
use Rattle.dt_gate.proofs.Roots.{old_is_not_now, now_is_not_old, now_is_not_free, old_is_not_free, free_is_not_now, free_is_not_old, old_is, gone_root, new_root, freed_root, at_publish, polled, polled_anew, poll_leads, part_stays}
use Rattle.dt_gate.proofs.Lists.{at_change, sum_split, one_same, one_other}
use Rattle.dt_gate.proofs.Places.{or_of, in_cons, in_head}
use Rattle.dt_gate.proofs.Seats.{root_here, moves, inside_one, unswept_readers, unswept_mono}
use Rattle.dt_gate.proofs.CountedSeats.{old_not_current, counted_copy}

or_false : (b : Bool) → (b || false) ≡ b
or_false true = refl
or_false false = refl

or_true : (b : Bool) → (b || true) ≡ true
or_true true = refl
or_true false = refl

and_false : (b : Bool) → (b && false) ≡ false
and_false true = refl
and_false false = refl

pub or_false_right : (a b : Bool) → (a || b) ≡ false → b ≡ false
or_false_right true b is = absurd (true≢false is)
or_false_right false b is = is

-- one number more, which was not there
distinct_push : (numbers : List ℕ) (number : ℕ) → AreDistinct numbers → stands_in number numbers ≡ false → AreDistinct (numbers ++ number ∷ [])
distinct_push [] number once new = (refl, tt)
distinct_push (first ∷ numbers) number once new = (
  list_any-append (λ other. other == first) numbers (number ∷ [])
      ∙ ap (λ b. stands_in first numbers || (b || false)) (ne_eqb number first (λ same. true≢false (sym (in_head first number numbers (sym same)) ∙ new)))
      ∙ or_false (stands_in first numbers) ∙ once.0,
  distinct_push numbers number once.1 (or_false_right (first == number) (stands_in number numbers) new),
)

module _ {M I : Type 0} (bounds : Bounds) where
  -- a root that a reader is inside is live
  pub inside_is_live : (gate : Gate M I) → Counted bounds gate → (seat root : ℕ) (frozen : Frozen) → (seat_at gate seat).stage ≡ In root frozen → IsLive (root_at gate.author root).standing
  inside_is_live gate kept seat root frozen is = go (root_at gate.author root).standing refl
    where
      some_inside : 1 ≤ inside gate root
      some_inside = omega (arith, moves gate (one_inside root) seat (In root frozen) spent is tt, inside_one root frozen)

      go : (standing : Standing) → (root_at gate.author root).standing ≡ standing → IsLive standing
      go Free free = absurd (omega (arith, some_inside, kept.accounted.none_inside_a_free_root root free))
      go Now now = tt
      go (Old entries) old = tt

  -- a root that is live has a place among the roots, and among the exits
  pub root_has_a_place : (gate : Gate M I) → Counted bounds gate → (root : ℕ) → IsLive (root_at gate.author root).standing → root < bounds.readers + 2
  root_has_a_place gate kept root live = omega (arith, root_here gate.author root live, kept.roots)

  -- a leave: one exit more of the root, one seat less inside it
  pub counted_leave : (gate : Gate M I) (seat root : ℕ) (frozen : Frozen) (to : Seat M I) → Counted bounds gate
      → (seat_at gate seat).stage ≡ In root frozen → to.stage ≡ Out
      → Counted bounds (with_seat (record gate { exits = set gate.exits root (exits_at gate root + 1) }) seat to)
  counted_leave gate seat root frozen to kept is to_out = record {
    one = kept.one;
    accounted = record {
      of_the_current_root = balance gate.author.current ∙ kept.accounted.of_the_current_root;
      of_an_old_root = λ x e old. balance x ∙ kept.accounted.of_an_old_root x e old;
      none_inside_a_free_root = λ x free. omega (arith, moves gate (one_inside x) seat (In root frozen) to is tt, at (one_inside x), kept.accounted.none_inside_a_free_root x free);
    };
    bounded = record {
      entries = omega (arith, kept.bounded.entries, moves gate one_near seat (In root frozen) to is tt, at one_near);
      of_an_old_root = kept.bounded.of_an_old_root;
      readers_are_out = omega (arith, kept.bounded.readers_are_out, moves gate one_reader seat (In root frozen) to is tt, at one_reader);
      readers_out = kept.bounded.readers_out;
    };
    sweep = record {
      held_are_old = kept.sweep.held_are_old;
      held = omega (arith, kept.sweep.held, moves gate (one_unswept gate.author) seat (In root frozen) to is tt, at (one_unswept gate.author));
      count = kept.sweep.count;
    };
    roots = kept.roots;
    exits = length-set gate.exits root (exits_at gate root + 1) ∙ kept.exits;
  }
    where
      next : Gate M I
      next = with_seat (record gate { exits = set gate.exits root (exits_at gate root + 1) }) seat to

      at : (f : Stage → ℕ) → f to.stage ≡ f Out
      at f = ap f to_out

      here : root < length gate.exits
      here = omega (arith, root_has_a_place gate kept root (inside_is_live gate kept seat root frozen is), kept.exits)

      balance : (x : ℕ) → exits_at next x + inside next x ≡ exits_at gate x + inside gate x
      balance x = at_change (λ n. n + inside next x ≡ exits_at gate x + inside gate x) 0 gate.exits root x (exits_at gate root + 1) here
          (λ e. omega (arith, ap (exits_at gate) e, moves gate (one_inside x) seat (In root frozen) to is tt, at (one_inside x), one_same root x (sym e)))
          (λ n. omega (arith, moves gate (one_inside x) seat (In root frozen) to is tt, at (one_inside x), one_other root x (λ e. n (sym e))))

  -- a free root stays free, and its exits may change
  pub counted_lay : (gate : Gate M I) (root : ℕ) (laid : Root) (exits : List ℕ) → Counted bounds gate → (root_at gate.author root).standing ≡ Free → laid.standing ≡ Free
      → ((x : ℕ) → x ≢ root → get_or exits x 0 ≡ exits_at gate x) → length exits ≡ length gate.exits
      → Counted bounds (record gate { exits = exits; author = with_root gate.author root laid })
  counted_lay gate root laid exits kept free still others as_many = record {
    one = record { named = same gate.author.current ∙ kept.one.named; no_other = λ x now. kept.one.no_other x (sym (same x) ∙ now) };
    accounted = record {
      of_the_current_root = left gate.author.current Now kept.one.named (λ e. cc) ∙ kept.accounted.of_the_current_root;
      of_an_old_root = λ x e old. left x (Old e) (sym (same x) ∙ old) (λ c. cc) ∙ kept.accounted.of_an_old_root x e (sym (same x) ∙ old);
      none_inside_a_free_root = λ x is. kept.accounted.none_inside_a_free_root x (sym (same x) ∙ is);
    };
    bounded = record {
      entries = kept.bounded.entries;
      of_an_old_root = λ x e old. kept.bounded.of_an_old_root x e (sym (same x) ∙ old);
      readers_are_out = kept.bounded.readers_are_out;
      readers_out = kept.bounded.readers_out;
    };
    sweep = record {
      held_are_old = record { old = λ x held. ap is_old (same x) ∙ kept.sweep.held_are_old.old x held; once = kept.sweep.held_are_old.once };
      held = omega (arith, kept.sweep.held, unswept);
      count = kept.sweep.count;
    };
    roots = length-set gate.author.roots root laid ∙ kept.roots;
    exits = as_many ∙ kept.exits;
  }
    where
      next : Author M I
      next = with_root gate.author root laid

      same : (x : ℕ) → (root_at next x).standing ≡ (root_at gate.author x).standing
      same = part_stays (λ (r : Root). r.standing) gate.author root laid (still ∙ sym free)

      left : (x : ℕ) (standing : Standing) → (root_at gate.author x).standing ≡ standing → ¬ (Free ≡ standing) → get_or exits x 0 + inside gate x ≡ exits_at gate x + inside gate x
      left x standing is apart = ap (λ n. n + inside gate x) (others x (λ e. apart (sym free ∙ ap (λ k. (root_at gate.author k).standing) (sym e) ∙ is)))

      unswept : inside_unswept (record gate { author = next }) ≤ inside_unswept gate
      unswept = unswept_mono next gate.author (λ x h. ap (λ st. is_old st && not (stands_in x gate.author.held)) (sym (same x)) ∙ h) gate.seats

  -- a publish: the current root is old, and the free root is current with no entry
  pub counted_publish : (gate : Gate M I) (root : ℕ) (item : I) → Counted bounds gate → (root_at gate.author root).standing ≡ Free
      → (root_at gate.author root).laid.exits ≡ Some 0 → exits_at gate root ≡ 0 → Counted bounds (record gate { entries = 0; author = after_publish gate.author root item gate.entries })
  counted_publish gate root item kept free laid exits = record {
    one = record {
      named = at (λ r. r.standing ≡ Now) root (λ e. refl) (λ n e. absurd (n refl)) (λ n m. absurd (n refl));
      no_other = λ x. at (λ r. r.standing ≡ Now → x ≡ root) x (λ e _. e) (λ n e c. absurd (old_is_not_now c)) (λ n m now. absurd (m (kept.one.no_other x now)));
    };
    accounted = record {
      of_the_current_root = omega (arith, exits, kept.accounted.none_inside_a_free_root root free);
      of_an_old_root = λ x e. at (λ r. r.standing ≡ Old e → exits_at gate x + inside gate x ≡ e) x
          (λ same c. absurd (now_is_not_old c))
          (λ n same c. omega (arith, old_is c, kept.accounted.of_the_current_root, ap (inside gate) same, ap (exits_at gate) same))
          (λ n m old. kept.accounted.of_an_old_root x e old);
      none_inside_a_free_root = λ x. at (λ r. r.standing ≡ Free → inside gate x ≡ 0) x
          (λ same c. absurd (now_is_not_free c)) (λ n same c. absurd (old_is_not_free c)) (λ n m is. kept.accounted.none_inside_a_free_root x is);
    };
    bounded = record {
      entries = omega (arith, kept.bounded.entries);
      of_an_old_root = λ x e. at (λ r. r.standing ≡ Old e → e ≤ bounds.entries + bounds.readers) x
          (λ same c. absurd (now_is_not_old c)) (λ n same c. omega (arith, old_is c, kept.bounded.entries)) (λ n m old. kept.bounded.of_an_old_root x e old);
      readers_are_out = kept.bounded.readers_are_out;
      readers_out = kept.bounded.readers_out;
    };
    sweep = record {
      held_are_old = record { old = λ x held. absurd (true≢false (sym held)); once = tt };
      held = omega (arith, unswept_readers next, kept.bounded.readers_are_out);
      count = kept.bounded.readers_out;
    };
    roots = length-set (set gate.author.roots gate.author.current (gone_root gate.author gate.entries)) root (new_root gate.author root)
        ∙ length-set gate.author.roots gate.author.current (gone_root gate.author gate.entries) ∙ kept.roots;
    exits = kept.exits;
  }
    where
      next : Gate M I
      next = record gate { entries = 0; author = after_publish gate.author root item gate.entries }

      at : (P : Root → Type 0) (x : ℕ) → (x ≡ root → P (new_root gate.author root)) → (x ≢ root → x ≡ gate.author.current → P (gone_root gate.author gate.entries))
          → (x ≢ root → x ≢ gate.author.current → P (root_at gate.author x)) → P (root_at next.author x)
      at = at_publish gate.author root item gate.entries (subst IsLive (sym kept.one.named) tt) laid

  -- a new sweep
  pub counted_sweep : (gate : Gate M I) → Counted bounds gate → Counted bounds (record gate { author = record gate.author { held = []; sweep = gate.author.out } })
  counted_sweep gate kept =
      let next : Gate M I = record gate { author = record gate.author { held = []; sweep = gate.author.out } } in
      record {
        one = record { named = kept.one.named; no_other = kept.one.no_other };
        accounted = record {
          of_the_current_root = kept.accounted.of_the_current_root;
          of_an_old_root = kept.accounted.of_an_old_root;
          none_inside_a_free_root = kept.accounted.none_inside_a_free_root;
        };
        bounded = record {
          entries = kept.bounded.entries;
          of_an_old_root = kept.bounded.of_an_old_root;
          readers_are_out = kept.bounded.readers_are_out;
          readers_out = kept.bounded.readers_out;
        };
        sweep = record {
          held_are_old = record { old = λ x held. absurd (true≢false (sym held)); once = tt };
          held = omega (arith, unswept_readers next, kept.bounded.readers_are_out);
          count = kept.bounded.readers_out;
        };
        roots = kept.roots;
        exits = kept.exits;
      }

  -- all that entered an old root have left: it is free, and was not found held in this sweep
  pub counted_free : (gate : Gate M I) (root entries : ℕ) → Counted bounds gate → (root_at gate.author root).standing ≡ Old entries → exits_at gate root ≡ entries
      → stands_in root gate.author.held ≡ false → Counted bounds (record gate { author = with_root gate.author root (freed_root gate.author root) })
  counted_free gate root entries kept old all_left new = record {
    one = record {
      named = at (λ r. r.standing ≡ Now) gate.author.current (λ e. absurd (old_not_current bounds gate kept root entries old (sym e))) (λ n. kept.one.named);
      no_other = λ x. at (λ r. r.standing ≡ Now → x ≡ gate.author.current) x (λ e c. absurd (free_is_not_now c)) (λ n now. kept.one.no_other x now);
    };
    accounted = record {
      of_the_current_root = kept.accounted.of_the_current_root;
      of_an_old_root = λ x e. at (λ r. r.standing ≡ Old e → exits_at gate x + inside gate x ≡ e) x (λ same c. absurd (free_is_not_old c)) (λ n is. kept.accounted.of_an_old_root x e is);
      none_inside_a_free_root = λ x. at (λ r. r.standing ≡ Free → inside gate x ≡ 0) x
          (λ same c. omega (arith, ap (inside gate) same, all_left, kept.accounted.of_an_old_root root entries old)) (λ n is. kept.accounted.none_inside_a_free_root x is);
    };
    bounded = record {
      entries = kept.bounded.entries;
      of_an_old_root = λ x e. at (λ r. r.standing ≡ Old e → e ≤ bounds.entries + bounds.readers) x (λ same c. absurd (free_is_not_old c)) (λ n is. kept.bounded.of_an_old_root x e is);
      readers_are_out = kept.bounded.readers_are_out;
      readers_out = kept.bounded.readers_out;
    };
    sweep = record {
      held_are_old = record {
        old = λ x held. at (λ r. is_old r.standing ≡ true) x
            (λ same. absurd (true≢false (sym held ∙ ap (λ k. stands_in k gate.author.held) same ∙ new))) (λ n. kept.sweep.held_are_old.old x held);
        once = kept.sweep.held_are_old.once;
      };
      held = omega (arith, kept.sweep.held, unswept);
      count = kept.sweep.count;
    };
    roots = length-set gate.author.roots root (freed_root gate.author root) ∙ kept.roots;
    exits = kept.exits;
  }
    where
      next : Author M I
      next = with_root gate.author root (freed_root gate.author root)

      here : root < length gate.author.roots
      here = root_here gate.author root (subst IsLive (sym old) tt)

      at : (P : Root → Type 0) (x : ℕ) → (x ≡ root → P (freed_root gate.author root)) → (x ≢ root → P (root_at gate.author x)) → P (root_at next x)
      at P x = at_change P blank_root gate.author.roots root x (freed_root gate.author root) here

      unswept : inside_unswept (record gate { author = next }) ≤ inside_unswept gate
      unswept = unswept_mono next gate.author (λ x. at (λ r. (is_old r.standing && not (stands_in x gate.author.held)) ≡ true → is_unswept gate.author x ≡ true) x
          (λ e c. cc) (λ n c. c)) gate.seats

  -- a root in which someone still is: the sweep has found one more held, and those inside it count no longer as unswept
  pub counted_held : (gate : Gate M I) (root entries : ℕ) → Counted bounds gate → (root_at gate.author root).standing ≡ Old entries → exits_at gate root ≢ entries
      → stands_in root gate.author.held ≡ false → Counted bounds (record gate { author = record gate.author { held = gate.author.held ++ root ∷ [] } })
  counted_held gate root entries kept old some_stay new =
      record {
        one = record { named = kept.one.named; no_other = kept.one.no_other };
        accounted = record {
          of_the_current_root = kept.accounted.of_the_current_root;
          of_an_old_root = kept.accounted.of_an_old_root;
          none_inside_a_free_root = kept.accounted.none_inside_a_free_root;
        };
        bounded = record {
          entries = kept.bounded.entries;
          of_an_old_root = kept.bounded.of_an_old_root;
          readers_are_out = kept.bounded.readers_are_out;
          readers_out = kept.bounded.readers_out;
        };
        sweep = record {
          held_are_old = record {
            old = λ x held. held_is_old x (or_of (stands_in x gate.author.held) (stands_in x (root ∷ [])) (sym (list_any-append (λ h. h == x) gate.author.held (root ∷ [])) ∙ held));
            once = distinct_push gate.author.held root kept.sweep.held_are_old.once new;
          };
          held = omega (arith, kept.sweep.held, fewer, some_inside, length-append gate.author.held (root ∷ []));
          count = kept.sweep.count;
        };
        roots = kept.roots;
        exits = kept.exits;
      }
    where
      next : Author M I
      next = record gate.author { held = gate.author.held ++ root ∷ [] }

      is_root : (x : ℕ) → ((root ≡ x) ⊎ (stands_in x [] ≡ true)) → is_old (root_at gate.author x).standing ≡ true
      is_root x (inl same) = ap (λ k. is_old (root_at gate.author k).standing) (sym same) ∙ ap is_old old
      is_root x (inr none) = absurd (true≢false (sym none))

      held_is_old : (x : ℕ) → (stands_in x gate.author.held ≡ true) ⊎ (stands_in x (root ∷ []) ≡ true) → is_old (root_at gate.author x).standing ≡ true
      held_is_old x (inl held) = kept.sweep.held_are_old.old x held
      held_is_old x (inr it) = is_root x (in_cons root x [] it)

      some_inside : 1 ≤ inside gate root
      some_inside = omega (arith, some_stay, kept.accounted.of_an_old_root root entries old)

      was_unswept : is_unswept gate.author root ≡ true
      was_unswept = ap (λ st. is_old st && not (stands_in root gate.author.held)) old ∙ ap not new

      -- whether a root is unswept after this
      other_root : (x : ℕ) → x ≢ root → is_unswept next x ≡ is_unswept gate.author x
      other_root x n = ap (λ b. is_old (root_at gate.author x).standing && not b)
          (list_any-append (λ held. held == x) gate.author.held (root ∷ []) ∙ ap (λ b. stands_in x gate.author.held || (b || false)) (ne_eqb root x (λ e. n (sym e)))
          ∙ or_false (stands_in x gate.author.held))

      this_root : is_unswept next root ≡ false
      this_root = ap (λ b. is_old (root_at gate.author root).standing && not b)
          (list_any-append (λ held. held == root) gate.author.held (root ∷ []) ∙ ap (λ b. stands_in root gate.author.held || (b || false)) (eq-eqb root root refl)
          ∙ or_true (stands_in root gate.author.held)) ∙ and_false (is_old (root_at gate.author root).standing)

      summand : (stage : Stage) → one_unswept next stage + one_inside root stage ≡ one_unswept gate.author stage
      summand Out = refl
      summand Near = refl
      summand Note = refl
      summand Spent = refl
      summand (In x frozen) = elim (ℕ_discrete x root) [
        | yes e ↦ omega (arith, ap (λ k. cond {A = ℕ} (is_unswept next k) 1 0) e, ap (λ k. cond {A = ℕ} (is_unswept gate.author k) 1 0) e, ap (λ b. cond {A = ℕ} b 1 0) this_root, ap (λ b. cond {A = ℕ} b 1 0) was_unswept, one_same x root e)
        | no n ↦ omega (arith, ap (λ b. cond {A = ℕ} b 1 0) (other_root x n), one_other x root n)
      ]

      fewer : inside_unswept (record gate { author = next }) + inside gate root ≡ inside_unswept gate
      fewer = sum_split _ _ _ (λ (s : Seat M I). summand s.stage) gate.seats

  -- a poll of an old root
  pub counted_poll : (gate : Gate M I) (root : ℕ) → Counted bounds gate → IsOld (root_at gate.author root).standing
      → Counted bounds (record gate { author = after_poll gate.author root (exits_at gate root) })
  counted_poll gate root kept old = poll_leads (λ author. Counted bounds (record gate { author = author })) gate.author root (exits_at gate root) old
      (λ new entries is all_left. counted_free (record gate { author = anew }) root entries kept_anew is all_left refl)
      (λ new entries is some_stay. counted_held (record gate { author = anew }) root entries kept_anew is some_stay refl)
      (λ on entries is all_left. counted_free (record gate { author = on_polled }) root entries kept_polled is all_left (or_false_right (length gate.author.held == 0) _ on))
      (λ on entries is some_stay. counted_held (record gate { author = on_polled }) root entries kept_polled is some_stay (or_false_right (length gate.author.held == 0) _ on))
    where
      on_polled : Author M I
      on_polled = polled gate.author root (exits_at gate root)

      anew : Author M I
      anew = polled_anew gate.author root (exits_at gate root)

      kept_polled : Counted bounds (record gate { author = on_polled })
      kept_polled = counted_copy bounds gate on_polled kept

      kept_anew : Counted bounds (record gate { author = anew })
      kept_anew = counted_sweep (record gate { author = on_polled }) kept_polled
