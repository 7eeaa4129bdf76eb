-- The kept words, had from the tried ones by putting back what the journal says stood before each change.
use Rattle.std.specs.Prelude.{ℕ, ◌<◌, List, [], ◌∷◌, length, All, set}
use Rattle.dt_fit.specs.declared.journal.WordBefore.{WordBefore}

-- the newest change is the last of the list, and is undone first
abbrev pub undone : List WordBefore → List ℕ → List ℕ
undone [] words = words
undone (before ∷ later) words = set (undone later words) before.at before.word

-- every change was of one of the words
abbrev pub AreWithin : List WordBefore → List ℕ → Type 0
AreWithin journal words = All (λ before. before.at < length words) journal
