-- A table of a program, and when it can follow a batch.
use Rattle.std.specs.Prelude.{◌≡◌, ℕ, false, List}
use Rattle.dt_pages.specs.Reading.{Reading}
use Rattle.dt_definitions.specs.Program.{Program}
use Rattle.dt_scratch.specs.declared.reply.Change.{Change}
use Rattle.dt_cells.specs.Held.{Held, IsStageable}
use Rattle.dt_cells.specs.Kind.{Kind, sets}
use Rattle.dt_cells.specs.Heads.{HasHeads, with_heads}
use Rattle.dt_cells.specs.Serving.{HoldsCells, AreDifferences, NoneIsStray}

-- the value and the image are a table of the program: what is held is what the program understands, the heads are its
-- own, and no selector without a place has a place word
pub record IsTableOf (k : Kind) (stands : Reading → Held → Type 0) (low : ℕ) (x : Reading) (held : Held) (p : Program) : Type 0 where
  pub standing : stands x held
  pub holds : HoldsCells low k.arities p held
  pub heads : HasHeads p x
  pub strays : NoneIsStray k held x

-- it is a table of the old program, and the changes are the differences to the new one and may be staged
pub record CanFollow (k : Kind) (stands : Reading → Held → Type 0) (low : ℕ) (x : Reading) (held : Held) (changes : List Change) (old new : Program) : Type 0 where
  pub table : IsTableOf k stands low x held old
  pub differences : AreDifferences low k.arities old new changes
  pub stageable : IsStageable low k.arities held changes

-- the words that a batch makes of others: at the addresses that the kind sets those of its placing, and elsewhere the new
-- program's class words and selector words; no further word changes
pub record IsImageAfter (k : Kind) (x : Reading) (held : Held) (changes : List Change) (old new : Program) (y : Reading) : Type 0 where
  pub placed : k.places x held changes y
  pub rest : (address : ℕ) → sets k changes address ≡ false → y address ≡ with_heads old new x address

-- So each word after a batch is determined by the words before it.
abbrev pub ImagesAreDetermined : Kind → Type 0
ImagesAreDetermined k = (x y z : Reading) (held : Held) (changes : List Change) (old new : Program) → k.shows x held
    → IsImageAfter k x held changes old new y → IsImageAfter k x held changes old new z → (address : ℕ) → y address ≡ z address
