-- What the calls of a reader make of its seat.
use Rattle.std.specs.Prelude.{◌≡◌, ℕ, ◌≤◌, List, [], ◌∷◌, ◌++◌, length}
use mathlib.Core.List.{IsPrefix}
use Rattle.dt_pages.specs.Reading.{Reading, reading}
use Rattle.dt_gate.specs.declared.gate.Frozen.{Frozen}
use Rattle.dt_gate.specs.declared.gate.Seat.{Seat}
use Rattle.dt_gate.specs.declared.gate.Stage.TheVariants.{In}
use Rattle.dt_gate.specs.Gate.{pages_of}

module _ {M I : Type 0} where
  -- a worn look found so many entries, at least the limit: the seat has seen a history that begins with its own,
  -- and keeps the version and the count; all else is as it was
  pub record IsWornLook (limit : ℕ) (old new : Seat M I) (entries : ℕ) : Type 0 where
    pub at_the_limit : limit ≤ entries
    pub seen : IsPrefix old.history new.history
    pub is : new ≡ record old { history = new.history; worn = old.worn ++ (length new.history, entries) ∷ [] }

  -- the reader is inside a root whose version is the length of the history that it has now seen, and whose words show that
  -- history; it begins with the one seen before; and this version was entered last
  pub record HasEntered (shows : Reading → List I → Type 0) (old new : Seat M I) : Type 0 where
    pub root : ℕ
    pub frozen : Frozen
    pub seen : IsPrefix old.history new.history
    pub version_is : frozen.version ≡ length new.history
    pub words_show : shows (reading (pages_of frozen.words) frozen.top) new.history
    pub is : new ≡ record old { stage = In root frozen; history = new.history; entered = old.entered ++ length new.history ∷ [] }
