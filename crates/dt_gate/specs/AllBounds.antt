-- The laws at all bounds at once, with their premises inside: for who learns the premises only as it steps.
use Rattle.std.specs.Prelude.{◌≡◌, ℕ, ◌+◌, ◌^◌, ◌<◌, List, [], slice_index}
use Rattle.dt_pages.specs.Reading.{Reading, blank}
use Rattle.dt_gate.specs.declared.event.RecordWord.TheVariants.{Exits}
use Rattle.dt_gate.specs.declared.gate.Frozen.{Frozen}
use Rattle.dt_gate.specs.declared.gate.Gate.{Gate}
use Rattle.dt_gate.specs.declared.gate.Stage.TheVariants.{In}
use Rattle.dt_gate.specs.Gate.{Bounds, IsLive, root_at, seat_at}
use Rattle.dt_gate.specs.Runs.{InRange, IsReached, ReachedIsSound, FreshIsReached, RunsGoOn}
use Rattle.dt_gate.specs.Readers.{ReadsAreFrozen}
use Rattle.dt_gate.specs.Sweeps.{SweepsLeaveRoom}
use Rattle.dt_gate.specs.Words.{EachEventIsOneAccess, CountsAlwaysFit, record_word, words_of}

module _ (M : Type 0) {I : Type 0} (shows : Reading → List I → Type 0) (bounds : Bounds) where
  -- a root that a reader is inside is live, and one exit more fits in its word
  abbrev pub InsideIsLive : Type 0
  InsideIsLive = (gate : Gate M I) (seat root : ℕ) (frozen : Frozen) → IsReached shows bounds gate → (seat_at gate seat).stage ≡ In root frozen
      → IsLive (root_at gate.author root).standing × (slice_index (words_of gate) (record_word root Exits) + 1 < 2 ^ 64)

-- for all bounds in their ranges, and a meaning by which the empty image shows the empty list:
-- runs begin at the fresh gate and go on by allowed events, each gate that is reached is sound, each event is one access,
-- counts fit, a reader reads each word as it found it, and is inside a live root, and sweeps leave room
pub record LawsOfRuns (M : Type 0) {I : Type 0} (shows : Reading → List I → Type 0) : Type 0 where
  pub begins : (bounds : Bounds) → FreshIsReached M shows bounds
  pub goes_on : (bounds : Bounds) → RunsGoOn M shows bounds
  pub sound : (bounds : Bounds) → InRange bounds → shows blank [] → ReachedIsSound M shows bounds
  pub accesses : (bounds : Bounds) → InRange bounds → shows blank [] → EachEventIsOneAccess M shows bounds
  pub counts : (bounds : Bounds) → InRange bounds → shows blank [] → CountsAlwaysFit M shows bounds
  pub reads : (bounds : Bounds) → InRange bounds → shows blank [] → ReadsAreFrozen M shows bounds
  pub inside : (bounds : Bounds) → InRange bounds → shows blank [] → InsideIsLive M shows bounds
  pub room : (bounds : Bounds) → InRange bounds → shows blank [] → SweepsLeaveRoom M shows bounds
