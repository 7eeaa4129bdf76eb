-- What the calls of an author make of its record.
use Rattle.std.specs.Prelude.{◌≡◌, ℕ, ◌≤◌, length}
use Rattle.dt_gate.specs.declared.event.RecordWord.TheVariants.{Exits, Version, Top}
use Rattle.dt_gate.specs.declared.gate.Author.{Author}
use Rattle.dt_gate.specs.declared.gate.Standing.TheVariants.{Old}
use Rattle.dt_gate.specs.Gate.{root_at}
use Rattle.dt_gate.specs.Author.{after_lay}

module _ {M I : Type 0} where
  -- the three record words of a root are laid: no exit, the version and the top page
  abbrev pub laid_whole : Author M I → ℕ → ℕ → ℕ → Author M I
  laid_whole author root version top = after_lay (after_lay (after_lay author root Exits 0) root Version version) root Top top

  -- what a poll finds: no more exits than final entries, and no more roots held than readers were out as the sweep began,
  -- which were no more than readers may be
  pub record IsPoll (readers root : ℕ) (old new : Author M I) (exits : ℕ) : Type 0 where
    pub at_most_entries : (entries : ℕ) → (root_at old root).standing ≡ Old entries → exits ≤ entries
    pub held : length new.held ≤ new.sweep
    pub sweep : new.sweep ≤ readers
