-- Five machines that differ from this one in one event, each with a run that breaks soundness.
use Rattle.std.specs.Prelude.{◌≡◌, ◌≢◌, ◌⊎◌, ℕ, ◌<◌, List, [], ◌∷◌, ◌++◌, slice_set, ⊤}
use Rattle.dt_pages.specs.Reading.{Reading, page_words}
use Rattle.dt_gate.specs.declared.event.Event.{Event}
use Rattle.dt_gate.specs.declared.event.Event.TheVariants.{Look, Enter, Leave, Fill, Lay, Publish, Poll, SeatOut}
use Rattle.dt_gate.specs.declared.event.RecordWord.TheVariants.{Exits, Version, Top}
use Rattle.dt_gate.specs.declared.gate.Gate.{Gate}
use Rattle.dt_gate.specs.declared.gate.Stage.TheVariants.{Out, Near}
use Rattle.dt_gate.specs.declared.gate.Standing.{Standing}
use Rattle.dt_gate.specs.declared.gate.Standing.TheVariants.{Free, Now, Old}
use Rattle.dt_gate.specs.Gate.{Bounds, bounds_of, root_at, seat_at, fresh}
use Rattle.dt_gate.specs.Author.{with_root, after_publish}
use Rattle.dt_gate.specs.Events.{IsAllowed, step}
use Rattle.dt_gate.specs.Sound.{IsSound}
use Rattle.dt_gate.specs.Runs.{gate_after, AreAllowed}

-- the runs are of one reader, sixteen pages and a limit of one entry; the items of the history are numbers
abbrev pub small : Bounds
small = bounds_of 1 16 1

-- the fresh gate of these
abbrev pub start : Gate ℕ ℕ
start = fresh small

-- a meaning by which every reading shows every list
abbrev pub anything : Reading → List ℕ → Type 0
anything reading items = ⊤

-- the author lays root 1 with version 1 and this top page
abbrev pub laying : ℕ → List (Event ℕ ℕ)
laying top = Lay 1 Exits 0 ∷ Lay 1 Version 1 ∷ Lay 1 Top top ∷ []

-- a reader is inside root 0, and root 1 is laid
abbrev pub one_inside_and_laid : List (Event ℕ ℕ)
one_inside_and_laid = SeatOut ∷ Look 0 ∷ Enter 0 ∷ laying 0

-- Publish makes the current root old. This one frees it at once.
abbrev pub publish_that_frees : Gate ℕ ℕ → ℕ → ℕ → Gate ℕ ℕ
publish_that_frees gate root item = record gate {
  entries = 0;
  author = with_root (after_publish gate.author root item gate.entries) gate.author.current
      (record (root_at gate.author gate.author.current) { standing = Free });
}

-- a run after which it breaks soundness: the reader is inside a free root
pub record FreesAtOnce : Type 0 where
  pub before : AreAllowed anything small start one_inside_and_laid
  pub publish : IsAllowed anything small (gate_after small start one_inside_and_laid) (Publish 1 7)
  pub breaks : ¬ IsSound anything small (publish_that_frees (gate_after small start one_inside_and_laid) 1 7)

-- Publish takes the entries out as it stores. This one loads them first, and stores later.
abbrev pub publish_by_store : ℕ → Gate ℕ ℕ → ℕ → ℕ → Gate ℕ ℕ
publish_by_store loaded gate root item = record gate { entries = 0; author = after_publish gate.author root item loaded }

-- the reader is near as the author loads, and enters before the author stores
abbrev pub near_and_laid : List (Event ℕ ℕ)
near_and_laid = SeatOut ∷ Look 0 ∷ laying 0

-- a run after which it breaks soundness: the entry between is not among those of the old root
pub record LoadsThenStores : Type 0 where
  pub before : AreAllowed anything small start near_and_laid
  pub loaded : (gate_after small start near_and_laid).entries ≡ 0
  pub between : IsAllowed anything small (gate_after small start near_and_laid) (Enter 0)
  pub publish : IsAllowed anything small (gate_after small start (near_and_laid ++ Enter 0 ∷ [])) (Publish 1 7)
  pub breaks : ¬ IsSound anything small (publish_by_store 0 (gate_after small start (near_and_laid ++ Enter 0 ∷ [])) 1 7)

-- Poll loads the exits of an old root. This one stores there what it waits for.
abbrev pub poll_that_drains : Gate ℕ ℕ → ℕ → Standing → Gate ℕ ℕ
poll_that_drains gate root (Old entries) = record gate { exits = slice_set gate.exits root entries }
poll_that_drains gate root Free = gate
poll_that_drains gate root Now = gate

-- a reader is inside a root that is old
abbrev pub one_inside_an_old_root : List (Event ℕ ℕ)
one_inside_an_old_root = one_inside_and_laid ++ Publish 1 7 ∷ []

-- a run after which it breaks soundness: the reader inside has not left
pub record DrainsExits : Type 0 where
  pub before : AreAllowed anything small start one_inside_an_old_root
  pub poll : IsAllowed anything small (gate_after small start one_inside_an_old_root) (Poll 0)
  pub breaks : ¬ IsSound anything small
      (poll_that_drains (gate_after small start one_inside_an_old_root) 0 (root_at (gate_after small start one_inside_an_old_root).author 0).standing)

-- Enter is allowed to a seat that is near. This one is allowed to a seat that is out as well,
-- so no look need stand before it.
abbrev pub IsAllowedBare : Gate ℕ ℕ → Event ℕ ℕ → Type 0
IsAllowedBare gate (Enter seat) = ((seat_at gate seat).stage ≡ Near) ⊎ ((seat_at gate seat).stage ≡ Out)
IsAllowedBare gate event = IsAllowed anything small gate event

-- each of these events is allowed so where it stands
abbrev pub AreAllowedBare : Gate ℕ ℕ → List (Event ℕ ℕ) → Type 0
AreAllowedBare gate [] = Unit {0}
AreAllowedBare gate (event ∷ events) =
    IsAllowedBare gate event × AreAllowedBare (step small gate event) events

-- one reader enters three times, at a limit of one
abbrev pub three_entries : List (Event ℕ ℕ)
three_entries = SeatOut ∷ Enter 0 ∷ Leave 0 ∷ Enter 0 ∷ Leave 0 ∷ Enter 0 ∷ []

-- after them soundness is broken: three entries are more than the limit and the reader
pub record EntersWithoutALook : Type 0 where
  pub before : AreAllowedBare start three_entries
  pub breaks : ¬ IsSound anything small (gate_after small start three_entries)

-- Fill is allowed where no live root reaches the page. This one is allowed at every page but page 0.
abbrev pub IsAllowedAnywhere : ℕ → ℕ → Type 0
IsAllowedAnywhere page at = (page ≢ 0) × (page < small.pages) × (at < page_words)

-- a reader is inside a root whose top page is page 1
abbrev pub inside_page_one : List (Event ℕ ℕ)
inside_page_one = laying 1 ++ Publish 1 7 ∷ SeatOut ∷ Look 0 ∷ Enter 0 ∷ []

-- a run after which it breaks soundness: the reader finds another word
pub record FillsUnderAReader : Type 0 where
  pub before : AreAllowed anything small start inside_page_one
  pub fill : IsAllowedAnywhere 1 0
  pub breaks : ¬ IsSound anything small (step small (gate_after small start inside_page_one) (Fill 1 0 5))
