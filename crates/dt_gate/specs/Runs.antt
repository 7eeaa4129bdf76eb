-- Runs of the machine.
use Rattle.std.specs.Prelude.{◌≡◌, ℕ, ◌^◌, ◌≤◌, List, [], ◌∷◌, take}
use Rattle.dt_pages.specs.Reading.{Reading}
use Rattle.dt_gate.specs.declared.event.Event.{Event}
use Rattle.dt_gate.specs.declared.gate.Gate.{Gate}
use Rattle.dt_gate.specs.Gate.{Bounds, fresh}
use Rattle.dt_gate.specs.Events.{IsAllowed, step}
use Rattle.dt_gate.specs.Sound.{IsSound}

-- the bounds are in their ranges
pub record InRange (bounds : Bounds) : Type 0 where
  pub some_reader : 1 ≤ bounds.readers
  pub readers : bounds.readers ≤ 256
  pub some_pages : 16 ≤ bounds.pages
  pub pages : bounds.pages ≤ 65536
  pub some_entry : 1 ≤ bounds.entries
  pub entries : bounds.entries ≤ 2 ^ 31

module _ {M I : Type 0} where
  -- the gate after these events
  abbrev pub gate_after : Bounds → Gate M I → List (Event M I) → Gate M I
  gate_after bounds gate [] = gate
  gate_after bounds gate (event ∷ events) = gate_after bounds (step bounds gate event) events

  -- each of these events is allowed where it stands
  abbrev pub AreAllowed : (Reading → List I → Type 0) → Bounds → Gate M I → List (Event M I) → Type 0
  AreAllowed shows bounds gate [] = Unit {0}
  AreAllowed shows bounds gate (event ∷ events) =
      IsAllowed shows bounds gate event × AreAllowed shows bounds (step bounds gate event) events

  -- from the fresh gate on, after the first n events, for every n, where each of them is allowed where it stands,
  -- the gate is sound
  abbrev pub EveryRunIsSound : (Reading → List I → Type 0) → Bounds → List (Event M I) → Type 0
  EveryRunIsSound shows bounds events = (n : ℕ) → AreAllowed shows bounds (fresh bounds) (take n events)
      → IsSound shows bounds (gate_after bounds (fresh bounds) (take n events))

  -- some run of allowed events leads from the fresh gate to this one
  abbrev pub IsReached : (Reading → List I → Type 0) → Bounds → Gate M I → Type 0
  IsReached shows bounds gate = (events : List (Event M I))
      × AreAllowed shows bounds (fresh bounds) events × (gate_after bounds (fresh bounds) events ≡ gate)

module _ (M : Type 0) {I : Type 0} (shows : Reading → List I → Type 0) (bounds : Bounds) where
  -- every gate that is reached is sound
  abbrev pub ReachedIsSound : Type 0
  ReachedIsSound = (gate : Gate M I) → IsReached shows bounds gate → IsSound shows bounds gate

  -- the fresh gate is reached
  abbrev pub FreshIsReached : Type 0
  FreshIsReached = IsReached shows bounds (fresh {M = M} bounds)

  -- an allowed event leads to a gate that is reached
  abbrev pub RunsGoOn : Type 0
  RunsGoOn = (gate : Gate M I) (event : Event M I) → IsReached shows bounds gate
      → IsAllowed shows bounds gate event
      → IsReached shows bounds (step bounds gate event)

  -- soundness is all that an event needs: from each sound gate, reached or not, an allowed one leads to a sound gate
  abbrev pub SoundnessIsKept : Type 0
  SoundnessIsKept = (gate : Gate M I) (event : Event M I) → IsSound shows bounds gate
      → IsAllowed shows bounds gate event
      → IsSound shows bounds (step bounds gate event)
