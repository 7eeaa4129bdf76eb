-- The fresh gate, and every gate after it.
use Rattle.std.proofs.Common.{◌≡◌, ℕ, zero, suc, ◌+◌, ◌*◌, ◌<◌, ◌≤◌, List, [], ◌∷◌, ◌++◌, take, get_or, replicate, sum_by, refl, sym, ap, subst, ◌∙◌, arith, true≢false}
use Rattle.std.proofs.lemmas.List.{get_or_past, get_or-replicate, length-replicate}
use Rattle.std.proofs.lemmas.List.Sums.{sum_by-cons}
use native.Mathlib.Decide.{dec_lt}
use Rattle.dt_pages.specs.Reading.{Reading, blank, reading, Reaches, page_words}
use Rattle.dt_pages.specs.Laws.{ReachedPagesDecide, PageZeroIsEmpty}
use Rattle.dt_gate.specs.declared.event.Event.{Event}
use Rattle.dt_gate.specs.declared.gate.Author.{Author}
use Rattle.dt_gate.specs.declared.gate.Gate.{Gate}
use Rattle.dt_gate.specs.declared.gate.Root.{Root}
use Rattle.dt_gate.specs.declared.gate.Seat.{Seat}
use Rattle.dt_gate.specs.declared.gate.Stage.{Stage}
use Rattle.dt_gate.specs.declared.gate.Stage.TheVariants.{Out, Near, In, Note, Spent}
use Rattle.dt_gate.specs.declared.gate.Standing.{Standing}
use Rattle.dt_gate.specs.declared.gate.Standing.TheVariants.{Free, Now, Old}
use Rattle.dt_gate.specs.Gate.{Bounds, IsLive, pages_of, blank_root, nothing_laid, root_at, exits_at, seat_at, spent, fresh_author, fresh}
use Rattle.dt_gate.specs.Seats.{IsReader}
use Rattle.dt_gate.specs.Events.{IsAllowed, step}
use Rattle.dt_gate.specs.Counts.{one_reader, times_in, times_taken, times_entered}
use Rattle.dt_gate.specs.Sound.{IsSound, WornWasTaken}
use Rattle.dt_gate.specs.Runs.{InRange, gate_after, AreAllowed, IsReached}
use Rattle.dt_gate.proofs.Kept.{Kept}
use Rattle.dt_gate.proofs.Histories.{prefix_empty}
use Rattle.dt_gate.proofs.ShownRoots.{nothing_stands}
use Rattle.dt_gate.proofs.Steps.{kept_step}

-- a list of one value has it everywhere, and past its end too
pub same_everywhere : {X : Type 0} (n : ℕ) (x : X) (i : ℕ) → get_or (replicate n x) i x ≡ x
same_everywhere n x i = elim (dec_lt i n) [
  | yes h ↦ get_or-replicate n i x x h
  | no h ↦ get_or_past (replicate n x) i x (omega (arith, length-replicate n x))
]

-- a sum is 0 where every summand is
pub summand_zero : {X : Type 0} (f : X → ℕ) (d : X) (xs : List X) (i : ℕ) → f d ≡ 0 → sum_by f xs ≡ 0 → f (get_or xs i d) ≡ 0
summand_zero f d [] i default all = default
summand_zero f d (x ∷ xs) zero default all = omega (arith, all, sum_by-cons f x xs)
summand_zero f d (x ∷ xs) (suc i) default all = summand_zero f d xs i default (omega (arith, all, sum_by-cons f x xs))

pub sum_zero : {X : Type 0} (f : X → ℕ) (d : X) (xs : List X) → ((i : ℕ) → f (get_or xs i d) ≡ 0) → sum_by f xs ≡ 0
sum_zero f d [] each = refl
sum_zero f d (x ∷ xs) each =
    let first : f x ≡ 0 = each 0 in
    omega (arith, sum_by-cons f x xs, first, sum_zero f d xs (λ i. each (suc i)))

no_reader : (stage : Stage) → one_reader stage ≡ 0 → ¬ IsReader stage
no_reader Out none reader = absurd (omega (arith, none))
no_reader Near none reader = absurd (omega (arith, none))
no_reader (In root frozen) none reader = absurd (omega (arith, none))
no_reader Note none reader = reader
no_reader Spent none reader = reader

module _ {M I : Type 0} (shows : Reading → List I → Type 0) (bounds : Bounds) where
  module _ (in_range : InRange bounds) (empty : shows blank []) where
    pub fresh_is_kept : PageZeroIsEmpty → Kept shows bounds (fresh {M = M} bounds)
    fresh_is_kept page_zero = record {
      counted = record {
        one = record { named = refl; no_other = only_zero Now (λ c. cc) };
        accounted = record {
          of_the_current_root = omega (arith, same_everywhere {X = ℕ} (bounds.readers + 2) 0 0);
          of_an_old_root = λ x e is. absurd (never_old x e is);
          none_inside_a_free_root = λ x is. refl;
        };
        bounded = record { entries = omega arith; of_an_old_root = λ x e is. absurd (never_old x e is); readers_are_out = refl; readers_out = omega arith };
        sweep = record { held_are_old = record { old = λ x held. absurd (true≢false (sym held)); once = tt }; held = omega arith; count = omega arith };
        roots = omega (arith, length-replicate (bounds.readers + 1) blank_root);
        exits = length-replicate (bounds.readers + 2) 0;
      };
      shown = record {
        pages = record {
          page_zero_is_empty = zeros;
          current_version = refl;
          version_is_published = λ x live. subst (λ k. (root_at start k).version ≤ 0) (sym (live_zero x live)) (omega arith);
          versions_are_distinct = λ x y lx ly same. live_zero x lx ∙ sym (live_zero y ly);
          each_shows_its_version = λ x live. subst (λ k. shows (reading (pages_of start.words) (root_at start k).top) (take (root_at start k).version start.history)) (sym (live_zero x live))
              (subst (λ r. shows r []) (sym (page_zero.reading (pages_of start.words) zeros)) empty);
          reach_is_in_bounds = λ x live page met. let zero_page : page ≡ 0 = page_zero.reach (pages_of start.words) zeros page
              (subst (λ k. Reaches (pages_of start.words) (root_at start k).top page) (live_zero x live) met) in
              omega (arith, zero_page, in_range.some_pages);
          live_is_not_laid = λ x live. none_laid x;
          laid_words_stand = λ x. nothing_stands (exits_at (fresh {M = M} {I = I} bounds) x) (root_at start x) (none_laid x);
          inside_is_safe = λ seat root frozen is. absurd (spent_is_not_in is);
        };
        prefixes = record {
          of_a_seat = λ seat. prefix_empty [];
          joined_by_a_seat = λ seat. (prefix_empty [], prefix_empty []);
          joined_by_the_author = (prefix_empty [], prefix_empty []);
        };
        words = length-replicate (page_words * bounds.pages) 0;
      };
      entered = record {
        entries = record {
          of_the_current_root = refl;
          of_an_old_root = λ x e is. absurd (never_old x e is);
          only_published = λ v some. absurd (omega (arith, some));
          only_by_readers = λ seat none. refl;
          only_seen = λ seat k d below. absurd (omega arith);
        };
        worn = record {
          of_a_seat = λ seat k d below. absurd (omega arith);
          of_those_taken_back = λ k d below. absurd (omega arith);
          only_by_readers = λ seat none. refl;
          as_many_taken_back = refl;
        };
      };
    }
      where
        start : Author M I
        start = fresh_author bounds

        free_is : (x : ℕ) → root_at start (suc x) ≡ blank_root
        free_is x = same_everywhere (bounds.readers + 1) blank_root x

        only_zero : (standing : Standing) → ¬ (Free ≡ standing) → (x : ℕ) → (root_at start x).standing ≡ standing → x ≡ 0
        only_zero standing apart zero is = refl
        only_zero standing apart (suc x) is = absurd (apart (sym (ap (λ (r : Root). r.standing) (free_is x)) ∙ is))

        never_old : (x e : ℕ) → ¬ ((root_at start x).standing ≡ Old e)
        never_old zero e is = cc
        never_old (suc x) e is = free_is_not_old (sym (ap (λ (r : Root). r.standing) (free_is x)) ∙ is)
          where
            free_is_not_old : ¬ (Free ≡ Old e)
            free_is_not_old c = cc

        live_zero : (x : ℕ) → IsLive (root_at start x).standing → x ≡ 0
        live_zero zero live = refl
        live_zero (suc x) live = absurd (subst (λ (r : Root). IsLive r.standing) (free_is x) live)

        none_laid : (x : ℕ) → (root_at start x).laid ≡ nothing_laid
        none_laid zero = refl
        none_laid (suc x) = ap (λ (r : Root). r.laid) (free_is x)

        zeros : (at : ℕ) → at < page_words → pages_of start.words 0 at ≡ 0
        zeros at below = same_everywhere (page_words * bounds.pages) 0 (page_words * 0 + at)

        spent_is_not_in : {root : ℕ} {frozen : _} → ¬ (Spent ≡ In root frozen)
        spent_is_not_in c = cc

  pub kept_after : ReachedPagesDecide → (events : List (Event M I)) (gate : Gate M I) → Kept shows bounds gate → AreAllowed shows bounds gate events → Kept shows bounds (gate_after bounds gate events)
  kept_after tree [] gate kept allowed = kept
  kept_after tree (event ∷ events) gate kept allowed = kept_after tree events (step bounds gate event) (kept_step shows bounds tree gate event kept allowed.0) allowed.1

  -- where no reader is out, every item is among those that were taken
  pub all_taken : (gate : Gate M I) → Kept shows bounds gate → gate.author.out ≡ 0 → (version : ℕ) → times_entered gate version ≡ times_taken gate.author version
  all_taken gate kept none version = omega (arith, no_one_out)
    where
      no_one_out : sum_by (λ (s : Seat M I). times_in version s.entered) gate.seats ≡ 0
      no_one_out = sum_zero (λ (s : Seat M I). times_in version s.entered) spent gate.seats (λ x. ap (times_in version) (kept.entered.entries.only_by_readers x (no_reader (seat_at gate x).stage
          (summand_zero (λ (s : Seat M I). one_reader s.stage) spent gate.seats x refl (kept.counted.bounded.readers_are_out ∙ none)))))

  pub worn_taken : (gate : Gate M I) → Kept shows bounds gate → WornWasTaken gate.author
  worn_taken gate kept none k d below j e within =
      let look = get_or (get_or gate.author.worn k d) j e in
      omega (arith, (kept.entered.worn.of_those_taken_back k d below j e within).as_often, all_taken gate kept none look.0)

  pub sound : (gate : Gate M I) → Kept shows bounds gate → IsSound shows bounds gate
  sound gate kept = record {
    has_its_sizes = record { roots = kept.counted.roots; exits = kept.counted.exits; words = kept.shown.words };
    one_root_is_current = kept.counted.one;
    entries_are_accounted_for = kept.counted.accounted;
    counts_are_bounded = kept.counted.bounded;
    pages_show_versions = kept.shown.pages;
    sweep_is_bounded = kept.counted.sweep;
    histories_and_counts = record {
      prefixes = kept.shown.prefixes;
      entries = kept.entered.entries;
      worn = kept.entered.worn;
      worn_taken = worn_taken gate kept;
    };
  }

  -- and the other way round
  pub sound_is_kept : (gate : Gate M I) → IsSound shows bounds gate → Kept shows bounds gate
  sound_is_kept gate sound = record {
    counted = record {
      one = sound.one_root_is_current;
      accounted = sound.entries_are_accounted_for;
      bounded = sound.counts_are_bounded;
      sweep = sound.sweep_is_bounded;
      roots = sound.has_its_sizes.roots;
      exits = sound.has_its_sizes.exits;
    };
    shown = record { pages = sound.pages_show_versions; prefixes = sound.histories_and_counts.prefixes; words = sound.has_its_sizes.words };
    entered = record { entries = sound.histories_and_counts.entries; worn = sound.histories_and_counts.worn };
  }

  pub step_is_sound : ReachedPagesDecide → (gate : Gate M I) (event : Event M I) → IsSound shows bounds gate → IsAllowed shows bounds gate event → IsSound shows bounds (step bounds gate event)
  step_is_sound tree gate event before allowed = sound (step bounds gate event) (kept_step shows bounds tree gate event (sound_is_kept gate before) allowed)

  -- one event more
  pub allowed_more : (events : List (Event M I)) (gate : Gate M I) (event : Event M I) → AreAllowed shows bounds gate events → IsAllowed shows bounds (gate_after bounds gate events) event
      → AreAllowed shows bounds gate (events ++ event ∷ [])
  allowed_more [] gate event all here = (here, tt)
  allowed_more (first ∷ events) gate event all here = (all.0, allowed_more events (step bounds gate first) event all.1 here)

  pub after_more : (events : List (Event M I)) (gate : Gate M I) (event : Event M I) → gate_after bounds gate (events ++ event ∷ []) ≡ step bounds (gate_after bounds gate events) event
  after_more [] gate event = refl
  after_more (first ∷ events) gate event = after_more events (step bounds gate first) event

  pub reached_more : (gate : Gate M I) (event : Event M I) → IsReached shows bounds gate → IsAllowed shows bounds gate event → IsReached shows bounds (step bounds gate event)
  reached_more gate event reached allowed = (
    reached.0 ++ event ∷ [],
    allowed_more reached.0 (fresh bounds) event reached.1 (subst (λ g. IsAllowed shows bounds g event) (sym reached.2) allowed),
    after_more reached.0 (fresh bounds) event ∙ ap (λ g. step bounds g event) reached.2,
  )

  module _ (in_range : InRange bounds) (empty : shows blank []) (tree : ReachedPagesDecide) (page_zero : PageZeroIsEmpty) where
    pub runs_are_sound : (events : List (Event M I)) → AreAllowed shows bounds (fresh bounds) events → IsSound shows bounds (gate_after bounds (fresh bounds) events)
    runs_are_sound events allowed = sound (gate_after bounds (fresh bounds) events) (kept_after tree events (fresh bounds) (fresh_is_kept in_range empty page_zero) allowed)

    pub reached_is_kept : (gate : Gate M I) → IsReached shows bounds gate → Kept shows bounds gate
    reached_is_kept gate reached = subst (Kept shows bounds) reached.2
        (kept_after tree reached.0 (fresh bounds) (fresh_is_kept in_range empty page_zero) reached.1)

    pub reached_is_sound : (gate : Gate M I) → IsReached shows bounds gate → IsSound shows bounds gate
    reached_is_sound gate reached = sound gate (reached_is_kept gate reached)
