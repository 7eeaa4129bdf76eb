-- What a reader can rest on.
use Rattle.std.proofs.Common.{◌≡◌, ℕ, ◌<◌, ◌≤◌, ◌==◌, Bool, true, false, nat_lt, cond, List, [], ◌∷◌, ◌++◌, length, get_or, All, refl, sym, subst, ap, ◌∙◌, arith, ltb-true, ltb-false, get_or-set_same}
use Rattle.std.proofs.lemmas.List.Sums.{count_by-le-length}
use Rattle.dt_pages.specs.Reading.{Reading, Reaches}
use Rattle.dt_pages.specs.Laws.{ReachedPagesDecide}
use Rattle.dt_gate.specs.declared.event.Event.TheVariants.{Fill}
use Rattle.dt_gate.specs.declared.event.ReadWord.{ReadWord}
use Rattle.dt_gate.specs.declared.event.ReadWord.TheVariants.{Version, Top, Page}
use Rattle.dt_gate.specs.declared.gate.Frozen.{Frozen}
use Rattle.dt_gate.specs.declared.gate.Gate.{Gate}
use Rattle.dt_gate.specs.declared.gate.Seat.{Seat}
use Rattle.dt_gate.specs.declared.gate.Stage.TheVariants.{Out, Near, In}
use Rattle.dt_gate.specs.Gate.{Bounds, pages_of, root_at, seat_at, spent}
use Rattle.dt_gate.specs.Seats.{frozen_word, IsFrozenWord, after_look}
use Rattle.dt_gate.specs.Events.{with_seat, IsAllowed}
use Rattle.dt_gate.specs.Counts.{times_in, times_entered, entries_made}
use Rattle.dt_gate.specs.Sound.{WordsAreFrozen, WasEntered}
use Rattle.dt_gate.specs.Readers.{word_now, LookDecides, NoneWasWorn}
use Rattle.dt_gate.proofs.Kept.{Kept}
use Rattle.dt_gate.proofs.Lists.{sum_le}
use Rattle.dt_gate.proofs.Seats.{seat_here}
use Rattle.dt_gate.proofs.CountedRoots.{inside_is_live}

module _ {M I : Type 0} (shows : Reading → List I → Type 0) (bounds : Bounds) where
  pub read_is_frozen : (gate : Gate M I) (seat root : ℕ) (frozen : Frozen) (word : ReadWord) → Kept shows bounds gate → (seat_at gate seat).stage ≡ In root frozen
      → IsFrozenWord word (In root frozen) → word_now gate.author root word ≡ frozen_word frozen word
  read_is_frozen gate seat root frozen word kept is reads = go word reads
    where
      stay : WordsAreFrozen gate.author root frozen
      stay = (kept.shown.pages.inside_is_safe seat root frozen is).words_stay

      go : (word : ReadWord) → IsFrozenWord word (In root frozen) → word_now gate.author root word ≡ frozen_word frozen word
      go Version reads = sym stay.version
      go Top reads = sym stay.top
      go (Page page at) reads = sym (stay.pages page reads.0 at reads.1)

  pub no_fill_under_a_reader : ReachedPagesDecide → (gate : Gate M I) (seat root : ℕ) (frozen : Frozen) (page at word : ℕ) → Kept shows bounds gate → (seat_at gate seat).stage ≡ In root frozen
      → IsAllowed shows bounds gate (Fill page at word) → ¬ Reaches (pages_of frozen.words) frozen.top page
  no_fill_under_a_reader tree gate seat root frozen page at word kept is may met =
      let stay = (kept.shown.pages.inside_is_safe seat root frozen is).words_stay in
      may.not_reached root (inside_is_live bounds gate kept.counted seat root frozen is)
      (subst (λ t. Reaches (pages_of gate.author.words) t page) stay.top ((tree.reach (pages_of frozen.words) (pages_of gate.author.words) frozen.top stay.pages page).0 met))

  -- the entries of a version are among all that were made
  entered_were_made : (gate : Gate M I) (version : ℕ) → times_entered gate version ≤ entries_made gate
  entered_were_made gate version =
      omega (
        arith,
        sum_le (λ (seat : Seat M I). times_in version seat.entered) (λ (seat : Seat M I). length seat.entered) (λ seat. count_by-le-length (λ entered. entered == version) seat.entered) gate.seats,
        sum_le (times_in version) (λ entered. length entered) (λ entered. count_by-le-length (λ other. other == version) entered) gate.author.taken,
      )

  -- a list of worn looks that were entered, each as often as the limit, is empty while fewer entries were made
  pub none_was_worn : (gate : Gate M I) → Kept shows bounds gate → entries_made gate < bounds.entries → NoneWasWorn gate × (gate.entries < bounds.entries)
  none_was_worn gate kept less = (
    record {
      of_a_seat = λ seat. empty (seat_at gate seat).worn (kept.entered.worn.of_a_seat seat);
      of_those_taken_back = λ k d below. empty (get_or gate.author.worn k d) (kept.entered.worn.of_those_taken_back k d below);
    },
    omega (arith, kept.entered.entries.of_the_current_root, entered_were_made gate (root_at gate.author gate.author.current).version, less),
  )
    where
      empty : (worn : List (ℕ × ℕ)) → All (WasEntered bounds gate) worn → worn ≡ []
      empty [] entered = refl
      empty (look ∷ worn) entered =
          let first = entered 0 look (omega arith) in
          absurd (omega (arith, less, first.at_the_limit, first.as_often, entered_were_made gate look.0))

module _ {M I : Type 0} (bounds : Bounds) where
  pub look_decides : (gate : Gate M I) (seat : ℕ) → (seat_at gate seat).stage ≡ Out
      → LookDecides bounds gate (with_seat gate seat (after_look bounds gate.author.history gate.entries (seat_at gate seat))) seat
  look_decides gate seat out = go (nat_lt gate.entries bounds.entries) refl
    where
      near : Seat M I
      near = record (seat_at gate seat) { stage = Near }

      worn : Seat M I
      worn = record (seat_at gate seat) { history = gate.author.history; worn = (seat_at gate seat).worn ++ (length gate.author.history, gate.entries) ∷ [] }

      looked : Seat M I
      looked = after_look bounds gate.author.history gate.entries (seat_at gate seat)

      found : seat_at (with_seat gate seat looked) seat ≡ looked
      found = get_or-set_same gate.seats seat looked spent (seat_here gate seat Out out tt)

      go : (b : Bool) → nat_lt gate.entries bounds.entries ≡ b → LookDecides bounds gate (with_seat gate seat looked) seat
      go true e = record {
        near = λ below. found ∙ ap (λ b. cond b near worn) e;
        worn = λ reached. let below = ltb-true gate.entries bounds.entries e in absurd (omega arith);
      }
      go false e = record {
        near = λ below. let reached = ltb-false gate.entries bounds.entries e in absurd (omega arith);
        worn = λ reached. found ∙ ap (λ b. cond b near worn) e;
      }
