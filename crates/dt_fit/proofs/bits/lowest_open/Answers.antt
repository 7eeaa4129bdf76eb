use Rattle.std.proofs.Common.{ℕ, ◌+◌, subst, sym, arith}
use Rattle.dt_fit.specs.Bits.{is_open}
use Rattle.dt_fit.specs.Fits.{IsLowest}
use Rattle.dt_fit.proofs.OpenPlaces.{marks, searched_first, searched_more, room_after, found}
use Rattle.dt_fit.proofs.bits.lowest_open.Goals as goal

pub loop-blocked-init : goal.loop-blocked-init
loop-blocked-init c =
    searched_first c.args.taken.now c.args.words.now c.args.step c.blocked_places-blocked.result c.args.indexes.now
    c.blocked_places-blocked.type_inv
    (marks c.args.taken.now c.args.words.now c.args.step 0 c.window.result c.blocked_places-blocked.result c.args.indexes.now c.window.ensures c.blocked_places-blocked.ensures)

pub overflow_add-first : goal.overflow_add-first
overflow_add-first c = let small = c.loop-blocked.invariant.in_range in omega arith

pub blocked_places-blocked-requires-in-loop-blocked : goal.blocked_places-blocked-requires-in-loop-blocked
blocked_places-blocked-requires-in-loop-blocked c =
    let more = room_after c.args.taken.now c.args.words.now c.args.step c.loop-blocked.first c.loop-blocked.blocked c.args.indexes.now
    c.loop-blocked.invariant c.loop-blocked-test.true c.requires.room in record {
      step = c.requires.step;
      first = omega arith;
    }

pub loop-blocked-preserved : goal.loop-blocked-preserved
loop-blocked-preserved c =
    searched_more c.args.taken.now c.args.words.now c.args.step c.loop-blocked.first c.loop-blocked.blocked c.blocked_places-blocked-in-loop-blocked.result c.args.indexes.now
    c.loop-blocked.invariant c.loop-blocked-test.true c.requires.room c.blocked_places-blocked-in-loop-blocked.type_inv
    (marks c.args.taken.now c.args.words.now c.args.step (c.loop-blocked.first + 64) c.window-in-loop-blocked.result c.blocked_places-blocked-in-loop-blocked.result c.args.indexes.now
    c.window-in-loop-blocked.ensures c.blocked_places-blocked-in-loop-blocked.ensures)

pub returns : goal.returns
returns c =
    record {
      lowest = subst (λ (t : ℕ). IsLowest (is_open c.args.taken.now c.args.words.now c.args.step c.args.indexes.now) (c.loop-blocked.first + t)) (sym c.trailing_ones.ensures)
          (found c.args.taken.now c.args.words.now c.args.step c.loop-blocked.first c.loop-blocked.blocked c.args.indexes.now
          c.loop-blocked.invariant c.loop-blocked-test.false);
    }
