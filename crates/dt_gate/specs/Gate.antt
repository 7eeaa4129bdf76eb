-- The parts of a gate, and the fresh one.
use Rattle.std.specs.Prelude.{ℕ, ◌+◌, ◌*◌, ◌==◌, Bool, true, false, T, List, [], ◌∷◌, replicate, slice_index, slice_index_or, None}
use Rattle.std.specs.List.{list_any}
use Rattle.dt_pages.specs.Reading.{Pages, page_words}
use Rattle.dt_gate.specs.declared.gate.Author.{Author}
use Rattle.dt_gate.specs.declared.gate.Gate.{Gate}
use Rattle.dt_gate.specs.declared.gate.Root.{Root}
use Rattle.dt_gate.specs.declared.gate.Laid.{Laid}
use Rattle.dt_gate.specs.declared.gate.Seat.{Seat}
use Rattle.dt_gate.specs.declared.gate.Stage.TheVariants.{Spent}
use Rattle.dt_gate.specs.declared.gate.Standing.{Standing}
use Rattle.dt_gate.specs.declared.gate.Standing.TheVariants.{Free, Now, Old}

-- what is given once: how many readers may be out, how many pages there are, and at how many entries a look is worn
pub record Bounds : Type 0 where
  pub readers : ℕ
  pub pages : ℕ
  pub entries : ℕ

-- the bounds, given one by one
abbrev pub bounds_of : ℕ → ℕ → ℕ → Bounds
bounds_of readers pages entries = record { readers = readers; pages = pages; entries = entries }

-- the words of all pages lie one page behind the other
abbrev pub pages_of : List ℕ → Pages
pages_of words page at = slice_index words (page_words * page + at)

-- nothing is kept as laid
abbrev pub nothing_laid : Laid
nothing_laid = record { exits = None; version = None; top = None }

-- a root as it is at first
abbrev pub blank_root : Root
blank_root = record { version = 0; top = 0; standing = Free; laid = nothing_laid }

-- the root is not free
abbrev pub IsLive : Standing → Type 0
IsLive Free = ⊥
IsLive Now = Unit {0}
IsLive (Old entries) = Unit {0}

-- the root was published, and another one after it
abbrev pub is_old : Standing → Bool
is_old Free = false
is_old Now = false
is_old (Old entries) = true

-- the same as a condition
abbrev pub IsOld : Standing → Type 0
IsOld standing = T (is_old standing)

-- the number stands in the list
abbrev pub stands_in : ℕ → List ℕ → Bool
stands_in number numbers = list_any (λ other. other == number) numbers

module _ {M I : Type 0} where
  -- the root of this number; past the last it reads as a blank one
  abbrev pub root_at : Author M I → ℕ → Root
  root_at author root = slice_index_or author.roots root blank_root

  -- the exits of the root of this number
  abbrev pub exits_at : Gate M I → ℕ → ℕ
  exits_at gate root = slice_index gate.exits root

  -- a seat that was given back
  abbrev pub spent : Seat M I
  spent = record { stage = Spent; history = []; entered = []; worn = []; joined = ([], []) }

  -- the seat of this number; past the last it reads as one that was given back
  abbrev pub seat_at : Gate M I → ℕ → Seat M I
  seat_at gate seat = slice_index_or gate.seats seat spent

  -- at first all words are zero, root 0 is current, nothing was published and no seat is out
  abbrev pub fresh_author : Bounds → Author M I
  fresh_author bounds = record {
    current = 0;
    roots = record blank_root { standing = Now } ∷ replicate (bounds.readers + 1) blank_root;
    words = replicate (page_words * bounds.pages) 0;
    history = [];
    out = 0;
    held = [];
    sweep = 0;
    polls = [];
    taken = [];
    worn = [];
    joined = ([], []);
  }

  -- and nobody entered or left
  abbrev pub fresh : Bounds → Gate M I
  fresh bounds = record {
    entries = 0;
    exits = replicate (bounds.readers + 2) 0;
    author = fresh_author bounds;
    seats = [];
  }
