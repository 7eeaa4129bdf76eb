-- The rule of the table: its words and views are those of a gate that is reached.
use Rattle.std.specs.Prelude.{◌≡◌, ℕ, List, []}
use Rattle.atomic_table.specs.Table.{State}
use Rattle.dt_pages.specs.Reading.{Reading, blank}
use Rattle.dt_gate.specs.declared.gate.Gate.{Gate}
use Rattle.dt_gate.specs.Runs.{InRange, IsReached}
use Rattle.dt_gate.specs.Words.{words_of}
use Rattle.dt_version.specs.declared.view.Size.{Size}
use Rattle.dt_version.specs.declared.view.View.{View}
use Rattle.dt_version.specs.Limits.{bounds}
use Rattle.dt_version.specs.Views.{views_of}

module _ {M I : Type 0} where
  -- the gate is reached by a run, within bounds in their ranges, by a meaning by which the empty image shows the empty list
  pub record IsRunning (shows : Reading → List I → Type 0) (size : Size) (gate : Gate M I) : Type 0 where
    pub in_range : InRange (bounds size)
    pub empty : shows blank []
    pub reached : IsReached shows (bounds size) gate

  -- the table's words and views are those of the gate
  pub record IsShown (size : Size) (gate : Gate M I) (state : State ℕ (View M I)) : Type 0 where
    pub words : state.words ≡ words_of gate
    pub views : state.views ≡ views_of size gate

  -- some gate that is reached has exactly these words and views
  abbrev pub Holds : (Reading → List I → Type 0) → Size → State ℕ (View M I) → Type 0
  Holds shows size state = (gate : Gate M I) × IsRunning shows size gate × IsShown size gate state
