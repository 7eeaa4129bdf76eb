-- The counts over all seats that soundness speaks of: in each, every seat has one summand.
use Rattle.std.specs.Prelude.{ℕ, ◌+◌, Bool, ◌&&◌, not, ◌==◌, if◌then◌else◌, List, length, count_by, sum_by}
use Rattle.dt_gate.specs.declared.gate.Author.{Author}
use Rattle.dt_gate.specs.declared.gate.Gate.{Gate}
use Rattle.dt_gate.specs.declared.gate.Stage.{Stage}
use Rattle.dt_gate.specs.declared.gate.Stage.TheVariants.{Out, Near, In, Note, Spent}
use Rattle.dt_gate.specs.Gate.{is_old, stands_in, root_at}

-- 1 for a seat that is inside the root
abbrev pub one_inside : ℕ → Stage → ℕ
one_inside root (In inside frozen) = if inside == root then 1 else 0
one_inside root Out = 0
one_inside root Near = 0
one_inside root Note = 0
one_inside root Spent = 0

-- 1 for a seat that is near
abbrev pub one_near : Stage → ℕ
one_near Near = 1
one_near Out = 0
one_near (In root frozen) = 0
one_near Note = 0
one_near Spent = 0

-- 1 for a reader seat that was not given back
abbrev pub one_reader : Stage → ℕ
one_reader Out = 1
one_reader Near = 1
one_reader (In root frozen) = 1
one_reader Note = 0
one_reader Spent = 0

-- how often the version stands in the list
abbrev pub times_in : ℕ → List ℕ → ℕ
times_in version versions = count_by (λ entered. entered == version) versions

module _ {M I : Type 0} where
  -- how many seats are inside the root
  abbrev pub inside : Gate M I → ℕ → ℕ
  inside gate root = sum_by (λ seat. one_inside root seat.stage) gate.seats

  -- how many seats are near
  abbrev pub near : Gate M I → ℕ
  near gate = sum_by (λ seat. one_near seat.stage) gate.seats

  -- how many reader seats were not given back
  abbrev pub readers : Gate M I → ℕ
  readers gate = sum_by (λ seat. one_reader seat.stage) gate.seats

  -- the root is old, and the sweep has not found it held
  abbrev pub is_unswept : Author M I → ℕ → Bool
  is_unswept author root = is_old (root_at author root).standing && not (stands_in root author.held)

  -- 1 for a seat that is inside an old root which the sweep has not found held
  abbrev pub one_unswept : Author M I → Stage → ℕ
  one_unswept author (In root frozen) = if is_unswept author root then 1 else 0
  one_unswept author Out = 0
  one_unswept author Near = 0
  one_unswept author Note = 0
  one_unswept author Spent = 0

  -- how many seats are inside old roots that the sweep has not found held
  abbrev pub inside_unswept : Gate M I → ℕ
  inside_unswept gate = sum_by (λ seat. one_unswept gate.author seat.stage) gate.seats

  -- how many roots are old
  abbrev pub old_roots : Author M I → ℕ
  old_roots author = count_by (λ root. is_old root.standing) author.roots

  -- how often the version was taken by readers that are back
  abbrev pub times_taken : Author M I → ℕ → ℕ
  times_taken author version = sum_by (times_in version) author.taken

  -- how often the version was entered: by all seats, and by readers that are back
  abbrev pub times_entered : Gate M I → ℕ → ℕ
  times_entered gate version =
      sum_by (λ seat. times_in version seat.entered) gate.seats + times_taken gate.author version

  -- how often readers entered in all: those of all seats, and those that are back
  abbrev pub entries_made : Gate M I → ℕ
  entries_made gate =
      sum_by (λ seat. length seat.entered) gate.seats + sum_by (λ entered. length entered) gate.author.taken
