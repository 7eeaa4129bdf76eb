-- Who entered what is kept by the events that change a root.
use Rattle.std.proofs.Common.{◌≡◌, ◌≢◌, ℕ, ◌+◌, ◌≤◌, List, [], ◌∷◌, ◌++◌, length, get_or, set, refl, sym, ap, subst, ◌∙◌, arith, length-append}
use Rattle.std.proofs.lemmas.List.Elements.{All-push}
use native.Mathlib.Decide.{dec_lt}
use Rattle.dt_pages.specs.Reading.{Reading}
use Rattle.dt_gate.specs.declared.event.RecordWord.{RecordWord}
use Rattle.dt_gate.specs.declared.gate.Author.{Author}
use Rattle.dt_gate.specs.declared.gate.Gate.{Gate}
use Rattle.dt_gate.specs.declared.gate.Root.{Root}
use Rattle.dt_gate.specs.declared.gate.Seat.{Seat}
use Rattle.dt_gate.specs.declared.gate.Standing.{Standing}
use Rattle.dt_gate.specs.declared.gate.Standing.TheVariants.{Free, Now, Old}
use Rattle.dt_gate.specs.Gate.{Bounds, IsLive, blank_root, root_at, exits_at, seat_at, IsOld}
use Rattle.dt_gate.specs.Author.{with_root, with_word, after_lay, MayPublish, after_publish, after_poll}
use Rattle.dt_gate.specs.Seats.{IsReader}
use Rattle.dt_gate.specs.Counts.{times_entered}
use Rattle.dt_gate.specs.Sound.{WasEntered}
use Rattle.dt_gate.proofs.Kept.{Counted, Shown, Entered}
use Rattle.dt_gate.proofs.Roots.{now_is_not_old, free_is_not_old, old_is, lay_keeps_standing, gone_root, new_root, freed_root, part_stays, at_publish, polled, polled_anew, poll_leads}
use Rattle.dt_gate.proofs.Lists.{at_set}
use Rattle.dt_gate.proofs.EnteredSeats.{HasMore, worn_more, all_worn_more, seen_more, SeatIsEntered, entered_copy}

module _ {M I : Type 0} (bounds : Bounds) where
  -- a look that is worn: the pair that it keeps was entered so often
  pub worn_look : (shows : Reading → List I → Type 0) (gate : Gate M I) (seat : Seat M I) → Shown shows bounds gate → Entered bounds gate → SeatIsEntered bounds gate seat
      → IsReader seat.stage → length seat.history ≤ length gate.author.history → bounds.entries ≤ gate.entries
      → SeatIsEntered bounds gate (record seat { history = gate.author.history; worn = seat.worn ++ (length gate.author.history, gate.entries) ∷ [] })
  worn_look shows gate seat shown kept is reader behind reached = record {
    worn = All-push (WasEntered bounds gate) seat.worn (length gate.author.history, gate.entries) is.worn (record {
      published = omega arith;
      at_the_limit = reached;
      as_often = omega (arith, kept.entries.of_the_current_root, ap (times_entered gate) shown.pages.current_version);
    });
    no_entry = is.no_entry;
    no_look = λ none. absurd (none reader);
    seen = seen_more seat.history gate.author.history seat.entered behind is.seen;
  }

  -- the roots change, but no version of the current root or of an old one
  pub entered_roots : (gate : Gate M I) (roots : List Root) → Entered bounds gate
      → (get_or roots gate.author.current blank_root).version ≡ (root_at gate.author gate.author.current).version
      → ((root entries : ℕ) → (get_or roots root blank_root).standing ≡ Old entries
      → ((root_at gate.author root).standing ≡ Old entries) × ((get_or roots root blank_root).version ≡ (root_at gate.author root).version))
      → Entered bounds (record gate { author = record gate.author { roots = roots } })
  entered_roots gate roots kept current old = record {
    entries = record {
      of_the_current_root = kept.entries.of_the_current_root ∙ ap (times_entered gate) (sym current);
      of_an_old_root = λ root e is. kept.entries.of_an_old_root root e (old root e is).0 ∙ ap (times_entered gate) (sym (old root e is).1);
      only_published = kept.entries.only_published;
      only_by_readers = kept.entries.only_by_readers;
      only_seen = kept.entries.only_seen;
    };
    worn = record {
      of_a_seat = λ seat. worn_more bounds gate next more (seat_at gate seat).worn (kept.worn.of_a_seat seat);
      of_those_taken_back = all_worn_more bounds gate next more gate.author.worn kept.worn.of_those_taken_back;
      only_by_readers = kept.worn.only_by_readers;
      as_many_taken_back = kept.worn.as_many_taken_back;
    };
  }
    where
      next : Gate M I
      next = record gate { author = record gate.author { roots = roots } }

      more : HasMore gate next
      more = record { history = omega arith; times = λ v. omega arith }

  -- a root changes that keeps its version, and is old only if it was, as at a poll
  pub entered_with_root : (gate : Gate M I) (root : ℕ) (to : Root) → Entered bounds gate → to.version ≡ (root_at gate.author root).version
      → ((entries : ℕ) → to.standing ≡ Old entries → (root_at gate.author root).standing ≡ Old entries) → Entered bounds (record gate { author = with_root gate.author root to })
  entered_with_root gate root to kept version old = entered_roots gate (set gate.author.roots root to) kept (at_version gate.author.current) (λ x e is. (was_old x e is, at_version x))
    where
      at_version : (x : ℕ) → (root_at (with_root gate.author root to) x).version ≡ (root_at gate.author x).version
      at_version = part_stays (λ (r : Root). r.version) gate.author root to version

      was_old : (x e : ℕ) → (root_at (with_root gate.author root to) x).standing ≡ Old e → (root_at gate.author x).standing ≡ Old e
      was_old x e = at_set (λ (r : Root). r.standing ≡ Old e → (root_at gate.author x).standing ≡ Old e) blank_root gate.author.roots root x to
          (λ same is. ap (λ k. (root_at gate.author k).standing) same ∙ old e is) (λ n is. is) (λ past is. is)

  -- a free root is laid
  pub entered_lay : (gate : Gate M I) (root : ℕ) (word : RecordWord) (value : ℕ) → Counted bounds gate → Entered bounds gate → (root_at gate.author root).standing ≡ Free
      → Entered bounds (record gate { author = after_lay gate.author root word value })
  entered_lay gate root word value counted kept free = entered_roots gate (set gate.author.roots root to) kept
      (ap (λ (r : Root). r.version) (still gate.author.current Now counted.one.named (λ e. cc)))
      (λ x e is. let old = was_old x e is in (old, ap (λ (r : Root). r.version) (still x (Old e) old (λ c. cc))))
    where
      to : Root
      to = with_word (root_at gate.author root) word value

      next : Author M I
      next = with_root gate.author root to

      still_free : to.standing ≡ Free
      still_free = lay_keeps_standing (root_at gate.author root) word value ∙ free

      still : (x : ℕ) (standing : Standing) → (root_at gate.author x).standing ≡ standing → ¬ (Free ≡ standing) → root_at next x ≡ root_at gate.author x
      still x standing is apart = at_set (λ (r : Root). r ≡ root_at gate.author x) blank_root gate.author.roots root x to
          (λ e. absurd (apart (sym free ∙ ap (λ k. (root_at gate.author k).standing) (sym e) ∙ is))) (λ n. refl) (λ past. refl)

      was_old : (x e : ℕ) → (root_at next x).standing ≡ Old e → (root_at gate.author x).standing ≡ Old e
      was_old x e = at_set (λ (r : Root). r.standing ≡ Old e → (root_at gate.author x).standing ≡ Old e) blank_root gate.author.roots root x to
          (λ same is. absurd (free_is_not_old (sym still_free ∙ is))) (λ n is. is) (λ past is. is)

  -- a publish: the new version was not entered, and the one before it as often as its entries say
  pub entered_publish : (shows : Reading → List I → Type 0) (gate : Gate M I) (root : ℕ) (item : I) → Counted bounds gate → Shown shows bounds gate → Entered bounds gate
      → MayPublish shows bounds gate.author root item → Entered bounds (record gate { entries = 0; author = after_publish gate.author root item gate.entries })
  entered_publish shows gate root item counted shown kept may = record {
    entries = record {
      of_the_current_root = at (λ r. 0 ≡ times_entered gate r.version) root (λ e. none_entered) (λ n e. absurd (n refl)) (λ n m. absurd (n refl));
      of_an_old_root = λ x e. at (λ r. r.standing ≡ Old e → e ≡ times_entered gate r.version) x
          (λ same c. absurd (now_is_not_old c)) (λ n same c. sym (old_is c) ∙ kept.entries.of_the_current_root) (λ n m old. kept.entries.of_an_old_root x e old);
      only_published = λ v some. omega (arith, kept.entries.only_published v some, one_longer);
      only_by_readers = kept.entries.only_by_readers;
      only_seen = kept.entries.only_seen;
    };
    worn = record {
      of_a_seat = λ seat. worn_more bounds gate next more (seat_at gate seat).worn (kept.worn.of_a_seat seat);
      of_those_taken_back = all_worn_more bounds gate next more gate.author.worn kept.worn.of_those_taken_back;
      only_by_readers = kept.worn.only_by_readers;
      as_many_taken_back = kept.worn.as_many_taken_back;
    };
  }
    where
      next : Gate M I
      next = record gate { entries = 0; author = after_publish gate.author root item gate.entries }

      one_longer : length (gate.author.history ++ item ∷ []) ≡ length gate.author.history + 1
      one_longer = length-append gate.author.history (item ∷ [])

      more : HasMore gate next
      more = record { history = omega (arith, one_longer); times = λ v. omega arith }

      new_version : length gate.author.history + 1 ≡ (root_at gate.author root).version
      new_version = (shown.pages.laid_words_stand root).version (length gate.author.history + 1) may.next_version

      none_entered : 0 ≡ times_entered gate (root_at gate.author root).version
      none_entered = elim (dec_lt 0 (times_entered gate (root_at gate.author root).version)) [
        | yes some ↦ absurd (omega (arith, kept.entries.only_published (root_at gate.author root).version some, new_version))
        | no none ↦ omega (arith, none)
      ]

      at : (P : Root → Type 0) (x : ℕ) → (x ≡ root → P (new_root gate.author root)) → (x ≢ root → x ≡ gate.author.current → P (gone_root gate.author gate.entries))
          → (x ≢ root → x ≢ gate.author.current → P (root_at gate.author x)) → P (root_at next.author x)
      at = at_publish gate.author root item gate.entries (subst IsLive (sym counted.one.named) tt) may.no_exit

  -- a poll
  pub entered_poll : (gate : Gate M I) (root : ℕ) → Entered bounds gate → IsOld (root_at gate.author root).standing
      → Entered bounds (record gate { author = after_poll gate.author root (exits_at gate root) })
  entered_poll gate root kept old = poll_leads (λ author. Entered bounds (record gate { author = author })) gate.author root (exits_at gate root) old
      (λ new entries is all_left. frees anew (entered_copy bounds gate gate.exits anew kept))
      (λ new entries is some_stay. entered_copy bounds gate gate.exits (record anew { held = root ∷ [] }) kept)
      (λ on entries is all_left. frees on_polled (entered_copy bounds gate gate.exits on_polled kept))
      (λ on entries is some_stay. entered_copy bounds gate gate.exits (record on_polled { held = gate.author.held ++ root ∷ [] }) kept)
    where
      on_polled : Author M I
      on_polled = polled gate.author root (exits_at gate root)

      anew : Author M I
      anew = polled_anew gate.author root (exits_at gate root)

      frees : (start : Author M I) → Entered bounds (record gate { author = start }) → Entered bounds (record gate { author = with_root start root (freed_root start root) })
      frees start kept_start = entered_with_root (record gate { author = start }) root (freed_root start root) kept_start refl (λ e c. absurd (free_is_not_old c))
