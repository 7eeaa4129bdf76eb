-- A sweep over old roots finds each of them held or frees it, and changes nothing else.
use Rattle.std.proofs.Common.{◌≡◌, ◌≢◌, ◌⊎◌, ℕ, ◌<◌, ◌==◌, ◌||◌, ◌&&◌, Bool, true, false, cond, T, List, [], ◌∷◌, ◌++◌, length, filter, refl, sym, ap, subst, ◌∙◌, inl, inr, arith, append_assoc, append-nil, length-set, eqb-true, true≢false, get_or-set_same, get_or-set_other}
use Rattle.std.proofs.lemmas.List.Elements.{filter-append}
use Rattle.std.proofs.lemmas.List.Folds.{list_any-append}
use Rattle.std.proofs.lemmas.Map.Views.{any-filter_same}
use Rattle.std.specs.List.{AllByRecursion}
use Rattle.dt_gate.specs.declared.gate.Author.{Author}
use Rattle.dt_gate.specs.declared.gate.Root.{Root}
use Rattle.dt_gate.specs.declared.gate.Standing.TheVariants.{Free, Old}
use Rattle.dt_gate.specs.Gate.{IsLive, blank_root, root_at, is_old, IsOld, stands_in}
use Rattle.dt_gate.specs.Author.{with_root, is_new_sweep, after_poll}
use Rattle.dt_gate.specs.Sound.{AreDistinct}
use Rattle.dt_gate.specs.Sweeps as sweep
use Rattle.dt_gate.specs.Sweeps.{after_polls, AllOldAreHeld, MayBeginASweep, IsOfASweep, ReadDecides, SweepLeads}
use Rattle.dt_gate.proofs.Seats.{root_here}
use Rattle.dt_gate.proofs.Roots.{old_is, freed_root, polled, polled_anew, poll_leads}
use Rattle.dt_gate.proofs.Places.{or_of, in_head, in_tail, or_first, or_second}

nothing_of_empty : (held : List ℕ) → (length held == 0) ≡ true → held ≡ []
nothing_of_empty [] is = refl
nothing_of_empty (h ∷ held) is = let none : length (h ∷ held) ≡ 0 = eqb-true _ _ is in absurd (omega (arith, none))

-- two tests that agree on each number of a list leave the same of it
filter_alike : (f g : ℕ → Bool) (xs : List ℕ) → ((x : ℕ) → stands_in x xs ≡ true → f x ≡ g x) → filter f xs ≡ filter g xs
filter_alike f g [] alike = refl
filter_alike f g (x ∷ xs) alike = ap (λ b. cond b (x ∷ filter f xs) (filter f xs)) (alike x (in_head x x xs refl))
    ∙ ap (λ rest. cond (g x) (x ∷ rest) rest) (filter_alike f g xs (λ y is. alike y (in_tail x y xs is)))

-- a number stands in what a test leaves where it passes and stood in the list
filter_has : (f : ℕ → Bool) (x : ℕ) (xs : List ℕ) → stands_in x (filter f xs) ≡ (f x && stands_in x xs)
filter_has f x xs = any-filter_same (λ y. y == x) f (f x) (λ y same. ap f (eqb-true y x same)) xs

module _ {M I : Type 0} where
  -- the roots of these that are old
  abbrev old_of : Author M I → List ℕ → List ℕ
  old_of author roots = filter (λ root. is_old (root_at author root).standing) roots

  -- with one more, which was freed
  old_of_freed : (author : Author M I) (root : ℕ) (done : List ℕ) → root < length author.roots → stands_in root done ≡ false
      → old_of (with_root author root (freed_root author root)) (done ++ root ∷ []) ≡ old_of author done
  old_of_freed author root done here once =
      filter-append (λ x. is_old (root_at next x).standing) done (root ∷ [])
      ∙ ap (λ b. old_of next done ++ cond b (root ∷ []) []) (ap (λ (r : Root). is_old r.standing) (get_or-set_same author.roots root (freed_root author root) blank_root here))
      ∙ append-nil (old_of next done)
      ∙ filter_alike (λ x. is_old (root_at next x).standing) (λ x. is_old (root_at author x).standing) done
      (λ x is. ap (λ (r : Root). is_old r.standing) (get_or-set_other author.roots root x (freed_root author root) blank_root (apart x is)))
    where
      next : Author M I
      next = with_root author root (freed_root author root)

      apart : (x : ℕ) → stands_in x done ≡ true → x ≢ root
      apart x is e = true≢false (sym is ∙ ap (λ k. stands_in k done) e ∙ once)

  -- or is still old
  old_of_held : (author : Author M I) (root : ℕ) (done : List ℕ) → is_old (root_at author root).standing ≡ true
      → old_of author (done ++ root ∷ []) ≡ old_of author done ++ root ∷ []
  old_of_held author root done old = filter-append (λ x. is_old (root_at author x).standing) done (root ∷ [])
      ∙ ap (λ b. old_of author done ++ cond b (root ∷ []) []) old

  -- how far a sweep is, by the roots that were polled, in order
  pub record IsSweeping (done : List ℕ) (author : Author M I) : Type 0 where
    pub held : author.held ≡ old_of author done
    pub count : author.sweep ≡ author.out

  -- a poll, from where the sweep stands at its two possible starts
  sweeping_poll : (author : Author M I) (root exits : ℕ) (done : List ℕ) → IsOld (root_at author root).standing → stands_in root done ≡ false
      → (is_new_sweep author root ≡ true → old_of author done ≡ []) → (is_new_sweep author root ≡ false → IsSweeping done author)
      → IsSweeping (done ++ root ∷ []) (after_poll author root exits)
  sweeping_poll author root exits done old once anew on = poll_leads (IsSweeping (done ++ root ∷ [])) author root exits old
      (λ new entries is all_left. record { held = sym (old_of_freed author root done (here entries is) once ∙ anew new); count = refl })
      (λ new entries is some_stay. record { held = ap (λ held. held ++ root ∷ []) (sym (anew new)) ∙ sym (old_of_held author root done (ap is_old is)); count = refl })
      (λ goes entries is all_left. record { held = (on goes).held ∙ sym (old_of_freed author root done (here entries is) once); count = (on goes).count })
      (λ goes entries is some_stay. record { held = ap (λ held. held ++ root ∷ []) (on goes).held ∙ sym (old_of_held author root done (ap is_old is)); count = (on goes).count })
    where
      here : (entries : ℕ) → (root_at author root).standing ≡ Old entries → root < length author.roots
      here entries is = root_here author root (subst IsLive (sym is) tt)

  -- the first poll begins anew
  sweeping_first : (author : Author M I) (root exits : ℕ) → is_new_sweep author root ≡ true → IsOld (root_at author root).standing → IsSweeping (root ∷ []) (after_poll author root exits)
  sweeping_first author root exits new old = sweeping_poll author root exits [] old refl (λ _. refl) (λ goes. absurd (true≢false (sym new ∙ goes)))

  -- a later one goes on, or begins anew where nothing is held
  sweeping_next : (author : Author M I) (root exits : ℕ) (done : List ℕ) → IsSweeping done author → stands_in root done ≡ false → IsOld (root_at author root).standing
      → IsSweeping (done ++ root ∷ []) (after_poll author root exits)
  sweeping_next author root exits done so_far once old = sweeping_poll author root exits done old once
      (λ new. sym so_far.held ∙ empty (or_of (length author.held == 0) (stands_in root author.held) new)) (λ goes. so_far)
    where
      second : (a b : Bool) → (a && b) ≡ true → b ≡ true
      second true b is = is
      second false b is = absurd (true≢false (sym is))

      was_done : stands_in root author.held ≡ true → stands_in root done ≡ true
      was_done held = second (is_old (root_at author root).standing) (stands_in root done)
          (sym (filter_has (λ x. is_old (root_at author x).standing) root done) ∙ ap (stands_in root) (sym so_far.held) ∙ held)

      empty : ((length author.held == 0) ≡ true) ⊎ (stands_in root author.held ≡ true) → author.held ≡ []
      empty (inl none) = nothing_of_empty author.held none
      empty (inr held) = absurd (true≢false (sym (was_done held) ∙ once))

  -- ---- one poll

  -- the author with what a sweep changes as it is at another one
  abbrev as_swept : Author M I → Author M I → Author M I
  as_swept author next = record author { roots = next.roots; held = next.held; sweep = next.sweep; polls = next.polls }

  -- nothing else is changed
  abbrev IsTheRest : Author M I → Author M I → Type 0
  IsTheRest author next = next ≡ as_swept author next

  -- a poll changes no other root
  poll_leaves : (author : Author M I) (root exits x : ℕ) → IsOld (root_at author root).standing → x ≢ root → root_at (after_poll author root exits) x ≡ root_at author x
  poll_leaves author root exits x old apart = poll_leads (λ next. root_at next x ≡ root_at author x) author root exits old
      (λ new entries is all_left. freed) (λ new entries is some_stay. refl) (λ on entries is all_left. freed) (λ on entries is some_stay. refl)
    where
      freed : root_at (with_root author root (freed_root author root)) x ≡ root_at author x
      freed = get_or-set_other author.roots root x (freed_root author root) blank_root apart

  -- it leaves as many
  poll_as_many : (author : Author M I) (root exits : ℕ) → IsOld (root_at author root).standing → length (after_poll author root exits).roots ≡ length author.roots
  poll_as_many author root exits old = poll_leads (λ next. length next.roots ≡ length author.roots) author root exits old
      (λ new entries is all_left. freed) (λ new entries is some_stay. refl) (λ on entries is all_left. freed) (λ on entries is some_stay. refl)
    where
      freed : length (with_root author root (freed_root author root)).roots ≡ length author.roots
      freed = length-set author.roots root (freed_root author root)

  -- it is kept
  poll_is_kept : (author : Author M I) (root exits : ℕ) → IsOld (root_at author root).standing → (after_poll author root exits).polls ≡ author.polls ++ (root, exits) ∷ []
  poll_is_kept author root exits old = poll_leads (λ next. next.polls ≡ author.polls ++ (root, exits) ∷ []) author root exits old
      (λ new entries is all_left. refl) (λ new entries is some_stay. refl) (λ on entries is all_left. refl) (λ on entries is some_stay. refl)

  -- it changes nothing else than a sweep does
  poll_keeps : (author : Author M I) (root exits : ℕ) → IsOld (root_at author root).standing → IsTheRest author (after_poll author root exits)
  poll_keeps author root exits old = poll_leads (IsTheRest author) author root exits old
      (λ new entries is all_left. refl) (λ new entries is some_stay. refl) (λ on entries is all_left. refl) (λ on entries is some_stay. refl)

  -- and it decides
  poll_decides : (author : Author M I) (root exits : ℕ) → IsOld (root_at author root).standing → ReadDecides author (after_poll author root exits) (root, exits)
  poll_decides author root exits old = poll_leads (λ next. ReadDecides author next (root, exits)) author root exits old
      (λ new e is all_left. freed (polled_anew author root exits) e is all_left refl) (λ new e is some_stay. held e is some_stay)
      (λ on e is all_left. freed (polled author root exits) e is all_left refl) (λ on e is some_stay. held e is some_stay)
    where
      freed : (start : Author M I) (e : ℕ) → (root_at author root).standing ≡ Old e → exits ≡ e → start.roots ≡ author.roots
          → ReadDecides author (with_root start root (freed_root author root)) (root, exits)
      freed start e is all_left same = record {
        frees = λ entries was left. get_or-set_same start.roots root (freed_root author root) blank_root
            (subst (λ roots. root < length {A = Root} roots) (sym same) (root_here author root (subst IsLive (sym is) tt)));
        holds = λ entries was some. absurd (some (all_left ∙ old_is (sym is ∙ was)));
      }

      held : (e : ℕ) → (root_at author root).standing ≡ Old e → exits ≢ e → {held : List ℕ} {sweep : ℕ}
          → ReadDecides author (record (polled author root exits) { held = held; sweep = sweep }) (root, exits)
      held e is some_stay = record { frees = λ entries was left. absurd (some_stay (left ∙ old_is (sym was ∙ is))); holds = λ entries was some. refl }

  -- ---- all polls

  -- what later polls leave
  pub record IsSwept (done : List ℕ) (author : Author M I) (reads : List (ℕ × ℕ)) (next : Author M I) : Type 0 where
    pub sweeping : IsSweeping (done ++ sweep.polled reads) next
    pub polls : next.polls ≡ author.polls ++ reads
    pub decides : AllByRecursion (ReadDecides author next) reads
    pub others : (root : ℕ) → stands_in root (sweep.polled reads) ≡ false → root_at next root ≡ root_at author root
    pub as_many : length next.roots ≡ length author.roots
    pub no_more : IsTheRest author next

  -- what was decided of roots that stood before as they stand at a later author
  decided_before : (author later next : Author M I) (reads : List (ℕ × ℕ)) → ((root : ℕ) → stands_in root (sweep.polled reads) ≡ true → root_at later root ≡ root_at author root)
      → AllByRecursion (ReadDecides later next) reads → AllByRecursion (ReadDecides author next) reads
  decided_before author later next [] same all = tt
  decided_before author later next (read ∷ reads) same all =
      let root = same read.0 (in_head read.0 read.0 (sweep.polled reads) refl) in
      let was = ap (λ (r : Root). r.standing) root in (
        record {
          frees = λ entries is left. all.0.frees entries (was ∙ is) left ∙ ap (λ (r : Root). record r { standing = Free }) root;
          holds = λ entries is some. all.0.holds entries (was ∙ is) some ∙ root;
        },
        decided_before author later next reads (λ root is. same root (in_tail read.0 root (sweep.polled reads) is)) all.1,
      )

  -- one poll more before them
  one_more : (done : List ℕ) (author : Author M I) (read : ℕ × ℕ) (reads : List (ℕ × ℕ)) (next : Author M I) → IsOld (root_at author read.0).standing
      → stands_in read.0 (sweep.polled reads) ≡ false → IsSwept (done ++ read.0 ∷ []) (after_poll author read.0 read.1) reads next → IsSwept done author (read ∷ reads) next
  one_more done author read reads next old once rest = record {
    sweeping = subst (λ roots. IsSweeping roots next) (append_assoc done (read.0 ∷ []) (sweep.polled reads)) rest.sweeping;
    polls = rest.polls ∙ ap (λ polls. polls ++ reads) (poll_is_kept author read.0 read.1 old) ∙ append_assoc author.polls (read ∷ []) reads;
    decides = (
      record { frees = λ entries is left. stays ∙ first.frees entries is left; holds = λ entries is some. stays ∙ first.holds entries is some },
      decided_before author (after_poll author read.0 read.1) next reads (λ root is. poll_leaves author read.0 read.1 root old (apart root is)) rest.decides,
    );
    others = λ root is. rest.others root (second (read.0 == root) (stands_in root (sweep.polled reads)) is)
        ∙ poll_leaves author read.0 read.1 root old (λ e. true≢false (sym (in_head read.0 root (sweep.polled reads) (sym e)) ∙ is));
    as_many = rest.as_many ∙ poll_as_many author read.0 read.1 old;
    no_more = rest.no_more ∙ ap (λ (a : Author M I). as_swept a next) (poll_keeps author read.0 read.1 old);
  }
    where
      first : ReadDecides author (after_poll author read.0 read.1) (read.0, read.1)
      first = poll_decides author read.0 read.1 old

      stays : root_at next read.0 ≡ root_at (after_poll author read.0 read.1) read.0
      stays = rest.others read.0 once

      apart : (root : ℕ) → stands_in root (sweep.polled reads) ≡ true → root ≢ read.0
      apart root is e = true≢false (sym is ∙ ap (λ k. stands_in k (sweep.polled reads)) e ∙ once)

      second : (a b : Bool) → (a || b) ≡ false → b ≡ false
      second true b is = absurd (true≢false is)
      second false b is = is

  -- roots to come are not polled yet, and still old
  to_come : (author : Author M I) (read : ℕ × ℕ) (reads : List (ℕ × ℕ)) (done : List ℕ) → IsOld (root_at author read.0).standing → stands_in read.0 (sweep.polled reads) ≡ false
      → ((root : ℕ) → stands_in root (sweep.polled reads) ≡ true → (stands_in root done ≡ false) × (is_old (root_at author root).standing ≡ true))
      → (root : ℕ) → stands_in root (sweep.polled reads) ≡ true
      → (stands_in root (done ++ read.0 ∷ []) ≡ false) × (is_old (root_at (after_poll author read.0 read.1) root).standing ≡ true)
  to_come author read reads done old once before root is = (
    list_any-append (λ other. other == root) done (read.0 ∷ []) ∙ neither (stands_in root done) (read.0 == root) (before root is).0 (λ e. apart (sym (eqb-true read.0 root e))),
    ap (λ (r : Root). is_old r.standing) (poll_leaves author read.0 read.1 root old apart) ∙ (before root is).1,
  )
    where
      apart : root ≢ read.0
      apart e = true≢false (sym is ∙ ap (λ k. stands_in k (sweep.polled reads)) e ∙ once)

      neither : (a b : Bool) → a ≡ false → ¬ (b ≡ true) → (a || (b || false)) ≡ false
      neither true b e n = e
      neither false true e n = absurd (n refl)
      neither false false e n = refl

  swept : (reads : List (ℕ × ℕ)) (done : List ℕ) (author : Author M I) → IsSweeping done author → AreDistinct (sweep.polled reads)
      → ((root : ℕ) → stands_in root (sweep.polled reads) ≡ true → (stands_in root done ≡ false) × (is_old (root_at author root).standing ≡ true))
      → IsSwept done author reads (after_polls author reads)
  swept [] done author so_far once new = record {
    sweeping = subst (λ roots. IsSweeping roots author) (sym (append-nil done)) so_far;
    polls = sym (append-nil author.polls);
    decides = tt;
    others = λ root is. refl;
    as_many = refl;
    no_more = refl;
  }
  swept (read ∷ reads) done author so_far once new =
      let first = new read.0 (in_head read.0 read.0 (sweep.polled reads) refl) in
      let old : IsOld (root_at author read.0).standing = subst T (sym first.1) tt in
      one_more done author read reads (after_polls (after_poll author read.0 read.1) reads) old once.0
      (swept reads (done ++ read.0 ∷ []) (after_poll author read.0 read.1) (sweeping_next author read.0 read.1 done so_far first.0 old) once.1
      (to_come author read reads done old once.0 (λ root is. new root (in_tail read.0 root (sweep.polled reads) is))))

  -- where every old root was polled, each that is still old is held
  whole_sweep : (author next : Author M I) (reads : List (ℕ × ℕ)) → next.held ≡ old_of next (sweep.polled reads)
      → ((root : ℕ) → stands_in root (sweep.polled reads) ≡ false → root_at next root ≡ root_at author root)
      → ((root : ℕ) → is_old (root_at author root).standing ≡ true → stands_in root (sweep.polled reads) ≡ true) → AllOldAreHeld next
  whole_sweep author next reads held others every root old = go (stands_in root (sweep.polled reads)) refl
    where
      go : (polled : Bool) → stands_in root (sweep.polled reads) ≡ polled → stands_in root next.held ≡ true
      go true is = ap (stands_in root) held ∙ filter_has (λ x. is_old (root_at next x).standing) root (sweep.polled reads)
          ∙ ap (λ b. b && stands_in root (sweep.polled reads)) old ∙ is
      go false is = absurd (true≢false (sym (every root (ap (λ (r : Root). is_old r.standing) (sym (others root is)) ∙ old)) ∙ is))

  pub sweep_leads : (author : Author M I) (reads : List (ℕ × ℕ)) → IsOfASweep author reads → SweepLeads author reads (after_polls author reads)
  sweep_leads author [] part = record {
    polls = sym (append-nil author.polls);
    decides = tt;
    held = inl refl;
    others = λ root is. refl;
    as_many = refl;
    whole = λ every root old. absurd (true≢false (sym (every root old)));
    count = inl refl;
    out = refl;
    no_more = refl;
    none = λ is. refl;
  }
  sweep_leads author (read ∷ reads) part = record {
    polls = all.polls;
    decides = all.decides;
    held = inr all.sweeping.held;
    others = all.others;
    as_many = all.as_many;
    whole = whole_sweep author (after_polls author (read ∷ reads)) (read ∷ reads) all.sweeping.held all.others;
    count = inr (all.sweeping.count ∙ out);
    out = out;
    no_more = all.no_more;
    none = λ is. cc;
  }
    where
      first_old : is_old (root_at author read.0).standing ≡ true
      first_old = part.old read.0 (in_head read.0 read.0 (sweep.polled reads) refl)

      old : IsOld (root_at author read.0).standing
      old = subst T (sym first_old) tt

      begins : MayBeginASweep author → is_new_sweep author read.0 ≡ true
      begins (inl none) = or_first (length author.held == 0) (stands_in read.0 author.held) (ap (λ held. length {A = ℕ} held == 0) none)
      begins (inr each) = or_second (length author.held == 0) (stands_in read.0 author.held) (each read.0 first_old)

      all : IsSwept [] author (read ∷ reads) (after_polls author (read ∷ reads))
      all = one_more [] author read reads (after_polls (after_poll author read.0 read.1) reads) old part.once.0
          (swept reads (read.0 ∷ []) (after_poll author read.0 read.1) (sweeping_first author read.0 read.1 (begins part.begins) old) part.once.1
          (to_come author read reads [] old part.once.0 (λ root is. (refl, part.old root (in_tail read.0 root (sweep.polled reads) is)))))

      out : (after_polls author (read ∷ reads)).out ≡ author.out
      out = ap (λ (a : Author M I). a.out) all.no_more
