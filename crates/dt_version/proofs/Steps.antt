-- A step on the table is an event of the gate.
use Rattle.std.proofs.Common.{◌≡◌, ℕ, zero, suc, ◌<◌, ◌+◌, ◌%◌, ◌^◌, cond, Bool, true, false, nat_lt, List, [], ◌∷◌, ◌++◌, map, length, get_or, set, refl, sym, ap, subst, ◌∙◌, arith, get_or-set_same}
use Rattle.std.proofs.Math.Nat.{mod-eq_of_lt}
use mathlib.Core.Option.{some}
use lib.ListN.{get_elem?}
use Rattle.atomic_table.specs.Table.{Me, Allows, keeps}
use Rattle.dt_pages.specs.Reading.{Reading}
use Rattle.dt_gate.specs.declared.event.Event.{Event}
use Rattle.dt_gate.specs.declared.event.Event.TheVariants.{Look, Enter, Read, Leave, Tell}
use Rattle.dt_gate.specs.declared.event.Holder.TheVariants as holder
use Rattle.dt_gate.specs.declared.event.ReadWord.{ReadWord}
use Rattle.dt_gate.specs.declared.event.RecordWord.TheVariants as laid
use Rattle.dt_gate.specs.declared.gate.Frozen.{Frozen}
use Rattle.dt_gate.specs.declared.gate.Gate.{Gate}
use Rattle.dt_gate.specs.declared.gate.Seat.{Seat}
use Rattle.dt_gate.specs.declared.gate.Stage.{Stage}
use Rattle.dt_gate.specs.declared.gate.Stage.TheVariants.{Out, Near, In, Note, Spent}
use Rattle.dt_gate.specs.Gate.{seat_at, spent}
use Rattle.dt_gate.specs.Seats.{IsReader, IsInside, IsFrozenWord, after_look, after_enter}
use Rattle.dt_gate.specs.Events.{IsAllowed, step, after_leave}
use Rattle.dt_gate.specs.Words.{word_of, accessed, access_of, read_access, leave_access, read_word, record_word, packed, words_of, Finds}
use Rattle.dt_gate.specs.AllBounds.{LawsOfRuns}
use Rattle.dt_version.specs.declared.view.Size.{Size}
use Rattle.dt_version.specs.declared.view.View.{View}
use Rattle.dt_version.specs.declared.view.View.TheVariants as view
use Rattle.dt_version.specs.Limits.{bounds}
use Rattle.dt_version.specs.Views.{view_at, view_of, views_of}
use Rattle.dt_version.specs.Rule.{IsRunning, Holds}
use Rattle.dt_version.specs.Told.{ReaderIsTold, ReaderPlays}
use Rattle.dt_version.specs.Laws.{IsOneEvent}
use Rattle.dt_version.proofs.Lists.{set_self, map-set}
use Rattle.dt_version.proofs.Seats.{reader_found}

-- one more is one more where it fits in a word
pub one_more : (n : ℕ) → n + 1 < 2 ^ 64 → (n + 1) % 2 ^ 64 ≡ n + 1
one_more n fits = mod-eq_of_lt fits

module _ {M I : Type 0} (shows : Reading → List I → Type 0) (laws : LawsOfRuns M shows) (size : Size) where
  -- a gate that runs goes on by an allowed event
  pub runs_on : (gate : Gate M I) (event : Event M I) → IsRunning shows size gate → IsAllowed shows (bounds size) gate event
      → IsRunning shows size (step (bounds size) gate event)
  runs_on gate event running allowed = record {
    in_range = running.in_range;
    empty = running.empty;
    reached = laws.goes_on (bounds size) gate event running.reached allowed;
  }

  -- an allowed event of a gate that runs is one access, and leads to a sound gate
  pub one_event : (gate : Gate M I) (event : Event M I) → IsRunning shows size gate → IsAllowed shows (bounds size) gate event
      → IsOneEvent shows size gate event
  one_event gate event running allowed = let after = runs_on gate event running allowed in record {
    access = laws.accesses (bounds size) running.in_range running.empty gate event running.reached allowed;
    runs = after;
    sound = laws.sound (bounds size) after.in_range after.empty (step (bounds size) gate event) after.reached;
  }

  -- an event of a seat: it is allowed, its access is the step, and it changes this seat alone
  pub record IsEventOf (gate : Gate M I) (event : Event M I) (seat : ℕ) (i : ℕ) (f : ℕ → ℕ) : Type 0 where
    pub allowed : IsAllowed shows (bounds size) gate event
    pub word : word_of (access_of (bounds size) gate event) ≡ i
    pub stored : set (words_of gate) i (f (get_or (words_of gate) i 0)) ≡ accessed (access_of (bounds size) gate event) (words_of gate)
    pub next : Seat M I
    pub author : (step (bounds size) gate event).author ≡ gate.author
    pub seats : (step (bounds size) gate event).seats ≡ set gate.seats seat next
    pub live : view_of size next ≡ view.Reader size next

  -- a step keeps the rule and tells its event where it is an event of each gate that the table may show
  pub reader_steps : (event : ℕ → Event M I) (slots id i : ℕ) (f : ℕ → ℕ) (seat : Seat M I) (me : Me ℕ (View M I)) → me ≡ (view.Reader size seat, [])
      → ((gate : Gate M I) (k : ℕ) → IsRunning shows size gate → k < length gate.seats → seat_at gate k ≡ seat → IsEventOf gate (event k) k i f)
      → (then : ℕ → Me ℕ (View M I) → Type 0)
      → ((number : ℕ) (after : Me ℕ (View M I)) → ReaderIsTold shows size event me.0 after.0 number → after.1 ≡ me.1 → then number after)
      → Allows (Holds shows size) slots id me i f then
  reader_steps event slots id i f seat me me_is is_event then tells state (gate, running, shown) homes at fits =
      let here = reader_found size size gate id seat
      (subst (λ vs. get_elem? vs id ≡ some (view.Reader size seat)) shown.views (at ∙ ap (λ (m : Me ℕ (View M I)). some m.0) me_is)) in
      let k : ℕ = here.number in
      let is = is_event gate k running here.there here.seat_is in
      let one = laws.accesses (bounds size) running.in_range running.empty gate (event k) running.reached is.allowed in
      let seat_is : seat_at (step (bounds size) gate (event k)) k ≡ is.next =
      ap (λ ss. get_or ss k spent) is.seats ∙ get_or-set_same gate.seats k is.next spent here.there in
      let words : set state.words i (f (get_or state.words i 0)) ≡ words_of (step (bounds size) gate (event k)) =
      ap (λ ws. set ws i (f (get_or ws i 0))) shown.words ∙ (is.stored ∙ sym one.changes) in
      let views : set state.views id (view.Reader size is.next) ≡ views_of size (step (bounds size) gate (event k)) =
      ap (λ vs. set vs id (view.Reader size is.next)) shown.views
      ∙ (ap (λ j. set (views_of size gate) j (view.Reader size is.next)) here.behind
      ∙ (ap (λ vs. view.Author size gate.author ∷ vs)
      (ap (λ w. set (map (view_of size) gate.seats) k w) (sym is.live) ∙ sym (map-set (view_of size) gate.seats k is.next))
      ∙ (λ j. view.Author size (sym is.author j) ∷ map (view_of size) (sym is.seats j)))) in (
        view.Reader size is.next,
        keeps,
        tt,
        (step (bounds size) gate (event k), runs_on gate (event k) running is.allowed, record { words = words; views = views }),
        tells (get_or state.words i 0) (view.Reader size is.next, me.1) (record {
          gate = gate;
          seat = k;
          running = running;
          there = here.there;
          allowed = is.allowed;
          was = ap (λ (m : Me ℕ (View M I)). m.0) me_is ∙ ap (view.Reader size) (sym here.seat_is);
          is = ap (view.Reader size) (sym seat_is);
          finds = subst (Finds gate (event k)) (ap (λ j. get_or (words_of gate) j 0) is.word ∙ sym (ap (λ ws. get_or ws i 0) shown.words)) one.finds;
        }) refl,
      )

  pub plays : (event : ℕ → Event M I) (me : Me ℕ (View M I)) (number : ℕ) (after : Me ℕ (View M I))
      → ReaderIsTold shows size event me.0 after.0 number → after.1 ≡ me.1 → ReaderPlays shows event me number after
  plays event me number after told slots = record { slots = slots; size = size; told = told }

  -- the view after a look is a reader's
  look_is_live : (history : List I) (entries : ℕ) (seat : Seat M I) → seat.stage ≡ Out → (near : Bool)
      → view_of size (cond near (record seat { stage = Near }) (record seat { history = history; worn = seat.worn ++ (length history, entries) ∷ [] }))
      ≡ view.Reader size (cond near (record seat { stage = Near }) (record seat { history = history; worn = seat.worn ++ (length history, entries) ∷ [] }))
  look_is_live history entries seat out true = refl
  look_is_live history entries seat out false =
      ap (view_at size (record seat { history = history; worn = seat.worn ++ (length history, entries) ∷ [] })) out

  pub looks : (slots id : ℕ) (seat : Seat M I) (me : Me ℕ (View M I)) → me ≡ (view.Reader size seat, []) → seat.stage ≡ Out
      → Allows (Holds shows size) slots id me 0 (λ n. n) (ReaderPlays shows Look me)
  looks slots id seat me is out = reader_steps Look slots id 0 (λ n. n) seat me is (λ gate k running there same. record {
    allowed = ap (λ s. s.stage) same ∙ out;
    word = refl;
    stored = set_self (words_of gate) 0;
    next = after_look (bounds size) gate.author.history gate.entries (seat_at gate k);
    author = refl;
    seats = refl;
    live = look_is_live gate.author.history gate.entries (seat_at gate k) (ap (λ s. s.stage) same ∙ out) (nat_lt gate.entries size.entries);
  }) (ReaderPlays shows Look me) (plays Look me)

  pub enters : (slots id : ℕ) (seat : Seat M I) (me : Me ℕ (View M I)) → me ≡ (view.Reader size seat, []) → seat.stage ≡ Near
      → Allows (Holds shows size) slots id me 0 (λ n. (n + 1) % 2 ^ 64) (ReaderPlays shows Enter me)
  enters slots id seat me is near = reader_steps Enter slots id 0 (λ n. (n + 1) % 2 ^ 64) seat me is (λ gate k running there same.
      let may : IsAllowed shows (bounds size) gate (Enter k) = ap (λ s. s.stage) same ∙ near in
      let after = runs_on gate (Enter k) running may in
      let now = laws.counts (bounds size) running.in_range running.empty gate running.reached in
      let then = laws.counts (bounds size) running.in_range running.empty (step (bounds size) gate (Enter k)) after.reached in
      let root : gate.author.current < 2 ^ 32 = now.root in
      let entries : gate.entries + 1 < 2 ^ 32 = then.entries in
      let fits : packed gate.author.current gate.entries + 1 < 2 ^ 64 = omega (arith, root, entries) in record {
        allowed = may;
        word = refl;
        stored = ap (λ w. set (words_of gate) 0 w) (one_more (packed gate.author.current gate.entries) fits);
        next = after_enter gate.author (seat_at gate k);
        author = refl;
        seats = refl;
        live = refl;
      }) (ReaderPlays shows Enter me) (plays Enter me)

  read_is_event : (gate : Gate M I) (k : ℕ) (word : ReadWord) (root : ℕ) (frozen : Frozen) (stage : Stage) → (seat_at gate k).stage ≡ stage → stage ≡ In root frozen
      → IsFrozenWord word stage → k < length gate.seats → IsEventOf gate (Read k word) k (read_word (bounds size) root word) (λ n. n)
  read_is_event gate k word root frozen stage at is reads there =
      let in_root : (seat_at gate k).stage ≡ In root frozen = at ∙ is in record {
        allowed = subst (IsFrozenWord word) (sym at) reads;
        word = ap (λ t. word_of (read_access (bounds size) word t)) in_root;
        stored = set_self (words_of gate) (read_word (bounds size) root word)
            ∙ sym (ap (λ t. accessed (read_access (bounds size) word t) (words_of gate)) in_root);
        next = seat_at gate k;
        author = refl;
        seats = sym (set_as_is gate.seats k);
        live = ap (view_at size (seat_at gate k)) in_root;
      }
    where
      set_as_is : (ss : List (Seat M I)) (j : ℕ) → set ss j (get_or ss j spent) ≡ ss
      set_as_is [] j = refl
      set_as_is (s ∷ ss) zero = refl
      set_as_is (s ∷ ss) (suc j) = ap (λ ts. s ∷ ts) (set_as_is ss j)

  -- a load of a word of the root that the reader is inside
  pub reads : (slots id : ℕ) (seat : Seat M I) (word : ReadWord) (root : ℕ) (frozen : Frozen) (me : Me ℕ (View M I)) → me ≡ (view.Reader size seat, [])
      → seat.stage ≡ In root frozen → IsFrozenWord word seat.stage → (then : ℕ → Me ℕ (View M I) → Type 0)
      → ((number : ℕ) (after : Me ℕ (View M I)) → ReaderIsTold shows size (λ k. Read k word) me.0 after.0 number → after.1 ≡ me.1 → then number after)
      → Allows (Holds shows size) slots id me (read_word (bounds size) root word) (λ n. n) then
  reads slots id seat word root frozen me is inside frozen_word then tells =
      reader_steps (λ k. Read k word) slots id (read_word (bounds size) root word) (λ n. n) seat me is
      (λ gate k running there same. read_is_event gate k word root frozen seat.stage (ap (λ s. s.stage) same) inside frozen_word there)
      then tells

  pub leaves : (slots id : ℕ) (seat : Seat M I) (root : ℕ) (frozen : Frozen) (me : Me ℕ (View M I)) → me ≡ (view.Reader size seat, [])
      → seat.stage ≡ In root frozen
      → Allows (Holds shows size) slots id me (record_word root laid.Exits) (λ n. (n + 1) % 2 ^ 64) (ReaderPlays shows Leave me)
  leaves slots id seat root frozen me is inside = reader_steps Leave slots id (record_word root laid.Exits) (λ n. (n + 1) % 2 ^ 64) seat me is
      (λ gate k running there same.
      let in_root : (seat_at gate k).stage ≡ In root frozen = ap (λ s. s.stage) same ∙ inside in
      let fits = (laws.inside (bounds size) running.in_range running.empty gate k root frozen running.reached in_root).1 in record {
        allowed = subst IsInside (sym in_root) tt;
        word = ap (λ t. word_of (leave_access t)) in_root;
        stored = ap (λ w. set (words_of gate) (record_word root laid.Exits) w) (one_more (get_or (words_of gate) (record_word root laid.Exits) 0) fits)
            ∙ sym (ap (λ t. accessed (leave_access t) (words_of gate)) in_root);
        next = record (seat_at gate k) { stage = Out };
        author = ap (λ t. (after_leave gate k t).author) in_root;
        seats = ap (λ t. (after_leave gate k t).seats) in_root;
        live = refl;
      }) (ReaderPlays shows Leave me) (plays Leave me)

  -- a load after which a reader learns what both histories are
  pub reader_hears : (slots id : ℕ) (seat : Seat M I) (me : Me ℕ (View M I)) → me ≡ (view.Reader size seat, []) → IsReader seat.stage
      → Allows (Holds shows size) slots id me 0 (λ n. n) (ReaderPlays shows (λ k. Tell (holder.Reader k)) me)
  reader_hears slots id seat me is reads = reader_steps (λ k. Tell (holder.Reader k)) slots id 0 (λ n. n) seat me is (λ gate k running there same. record {
    allowed = subst (λ (s : Seat M I). IsReader s.stage) (sym same) reads;
    word = refl;
    stored = set_self (words_of gate) 0;
    next = seat_at gate k;
    author = refl;
    seats = sym (set_seat gate.seats k);
    live = seen (seat_at gate k) (seat_at gate k).stage (subst (λ (s : Seat M I). IsReader s.stage) (sym same) reads);
  }) (ReaderPlays shows (λ k. Tell (holder.Reader k)) me) (plays (λ k. Tell (holder.Reader k)) me)
    where
      set_seat : (ss : List (Seat M I)) (j : ℕ) → set ss j (get_or ss j spent) ≡ ss
      set_seat [] j = refl
      set_seat (s ∷ ss) zero = refl
      set_seat (s ∷ ss) (suc j) = ap (λ ts. s ∷ ts) (set_seat ss j)

      seen : (s : Seat M I) (stage : Stage) → IsReader stage → view_at size s stage ≡ view.Reader size s
      seen s Out reads = refl
      seen s Near reads = refl
      seen s (In root frozen) reads = refl
      seen s Note reads = absurd reads
      seen s Spent reads = absurd reads
