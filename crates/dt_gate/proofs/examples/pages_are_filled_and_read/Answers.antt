use Rattle.std.proofs.Common.{◌≡◌, ◌≢◌, ℕ, zero, suc, ◌*◌, ◌+◌, ◌<◌, List, get_or, set, replicate, refl, inl, inr, subst, sym, arith}
use Rattle.dt_pages.specs.Reading.{Reaches, levels}
use Rattle.dt_pages.specs.Laws.{ReachedPagesDecide, PageZeroIsEmpty}
use Rattle.dt_gate.specs.declared.event.Event.TheVariants.{Fill}
use Rattle.dt_gate.specs.declared.gate.Gate.{Gate}
use Rattle.dt_gate.specs.Gate.{IsLive, pages_of, root_at}
use Rattle.dt_gate.specs.Events.{IsAllowed, step}
use Rattle.dt_gate.specs.Runs.{InRange}
use Rattle.dt_gate.specs.WrongMachines.{small, start}
use Rattle.dt_gate.specs.Examples.{counted}
use Rattle.dt_gate.proofs.Kept.{Kept}
use Rattle.dt_gate.proofs.Steps.{kept_step}
use Rattle.dt_gate.proofs.Running.{same_everywhere, fresh_is_kept}
use Rattle.dt_gate.proofs.SmallRuns.{bounded_reach, bounded_set, not_reached}
use Rattle.dt_gate.proofs.examples.pages_are_filled_and_read.Goals as goal

-- the memory does not matter to which roots are live
abbrev Before : Gate ℕ ℕ → Type 0
Before gate = (root : ℕ) → IsLive (root_at gate.author root).standing → (root_at gate.author root).top ≡ 0

at_first : Before start
at_first zero live = refl
at_first (suc zero) live = absurd live
at_first (suc (suc zero)) live = absurd live
at_first (suc (suc (suc root))) live = absurd live

in_range : InRange small
in_range = record { some_reader = omega arith; readers = omega arith; some_pages = omega arith; pages = omega arith; some_entry = omega arith; entries = omega arith }

-- the three fills, one after the other
one : Gate ℕ ℕ
one = step small start (Fill 1 0 2)

two : Gate ℕ ℕ
two = step small one (Fill 2 0 3)

module _ (tree : ReachedPagesDecide) (page_zero : PageZeroIsEmpty) where
  begun : Kept counted small start
  begun = fresh_is_kept counted small in_range refl page_zero

  fill : (gate : Gate ℕ ℕ) → Kept counted small gate → Before gate → (page word : ℕ) → page ≢ 0 → page < 16 → IsAllowed counted small gate (Fill page 0 word)
  fill gate kept before page word other below = record { not_page_zero = other; is_there = below; in_page = omega arith; not_reached = not_reached counted small gate page_zero kept before page other }

  first : IsAllowed counted small start (Fill 1 0 2)
  first = fill start begun at_first 1 2 (omega arith) (omega arith)

  second : IsAllowed counted small one (Fill 2 0 3)
  unfolding one
  second = fill one (kept_step counted small tree start (Fill 1 0 2) begun first) at_first 2 3 (omega arith) (omega arith)

  third : IsAllowed counted small two (Fill 3 0 1)
  unfolding one two
  third = fill two (kept_step counted small tree one (Fill 2 0 3) (kept_step counted small tree start (Fill 1 0 2) begun first) second) at_first 3 1 (omega arith) (omega arith)

words : List ℕ
words = set (set (set (replicate 8192 0) 512 2) 1024 3) 1536 1

all_bounded : (i : ℕ) → get_or words i 0 < 16
unfolding words
all_bounded i = bounded_set (set (set (replicate 8192 0) 512 2) 1024 3) 16 1536 1 (omega arith)
    (λ j. bounded_set (set (replicate 8192 0) 512 2) 16 1024 3 (omega arith)
    (λ k. bounded_set (replicate 8192 0) 16 512 2 (omega arith) (λ l. subst (λ w. w < 16) (sym (same_everywhere 8192 0 l)) (omega arith)) k) j) i

in_bounds : (page : ℕ) → Reaches (pages_of words) 1 page → page < 16
in_bounds page met = bounded_reach (pages_of words) 16 (λ p at. all_bounded (512 * p + at)) levels 1 page (omega arith) met

pub returns : goal.returns
unfolding one two words
returns c = record {
  allowed = (
    first c.reached_pages_decide.ensures c.page_zero_is_empty.ensures,
    (
      second c.reached_pages_decide.ensures c.page_zero_is_empty.ensures,
      (
        third c.reached_pages_decide.ensures c.page_zero_is_empty.ensures,
        (
          record { is_there = omega arith; is_free = refl },
          (
            record { is_there = omega arith; is_free = refl },
            (
              record { is_there = omega arith; is_free = refl },
              (
                record { is_free = refl; no_exit = refl; next_version = refl; top = 1; top_is_laid = refl; top_shows = refl; in_bounds = in_bounds },
                (
                  omega arith,
                  (
                    refl,
                    (
                      refl,
                      (
                        tt,
                        (
                          (inl refl, omega arith),
                          (
                            (inr (0, omega arith, inl refl), omega arith),
                            (
                              (inr (0, omega arith, inr (0, omega arith, inl refl)), omega arith),
                              tt,
                            ),
                          ),
                        ),
                      ),
                    ),
                  ),
                ),
              ),
            ),
          ),
        ),
      ),
    ),
  );
  top = refl;
  middle = refl;
  leaf = refl;
  word = refl;
}
