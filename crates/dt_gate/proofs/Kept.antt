-- What every step keeps: soundness, in three records, each with its own lemma for each event.
use Rattle.std.proofs.Common.{◌≡◌, ◌+◌, ◌*◌, List, length}
use Rattle.dt_pages.specs.Reading.{Reading, page_words}
use Rattle.dt_gate.specs.declared.gate.Gate.{Gate}
use Rattle.dt_gate.specs.Gate.{Bounds}
use Rattle.dt_gate.specs.Sound.{OneRootIsCurrent, EntriesAreAccountedFor, CountsAreBounded, SweepIsBounded, PagesShowVersions, HistoriesArePrefixes, EntriesAreEntered, WornWasEntered}

module _ {M I : Type 0} where
  -- roots, entries, readers and the sweep
  pub record Counted (bounds : Bounds) (gate : Gate M I) : Type 0 where
    pub one : OneRootIsCurrent gate.author
    pub accounted : EntriesAreAccountedFor gate
    pub bounded : CountsAreBounded bounds gate
    pub sweep : SweepIsBounded bounds gate
    pub roots : length gate.author.roots ≡ bounds.readers + 2
    pub exits : length gate.exits ≡ bounds.readers + 2

  -- pages, versions and histories
  pub record Shown (shows : Reading → List I → Type 0) (bounds : Bounds) (gate : Gate M I) : Type 0 where
    pub pages : PagesShowVersions shows bounds gate
    pub prefixes : HistoriesArePrefixes gate
    pub words : length gate.author.words ≡ page_words * bounds.pages

  -- who entered what
  pub record Entered (bounds : Bounds) (gate : Gate M I) : Type 0 where
    pub entries : EntriesAreEntered gate
    pub worn : WornWasEntered bounds gate

  pub record Kept (shows : Reading → List I → Type 0) (bounds : Bounds) (gate : Gate M I) : Type 0 where
    pub counted : Counted bounds gate
    pub shown : Shown shows bounds gate
    pub entered : Entered bounds gate
