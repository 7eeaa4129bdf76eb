-- What a sink took of a text, where it tells what it took.
use Rattle.std.specs.Prelude.{ℕ, ◌≤◌, List, length, take, Option}
use Rattle.std.specs.Io.KnownBytes.{Appends}
use Rattle.dt_outside.specs.Faults.{Rose}

-- known bytes grow by a prefix of the text
abbrev pub AppendsPrefix : Option (List ℕ) → Option (List ℕ) → List ℕ → Type 0
AppendsPrefix old new text = (count : ℕ) × (count ≤ length text) × Appends old new (take count text)

-- A text was told: the sink took a prefix of it, and all of it where its count of faults didn't rise.
pub record Told (before after : Option (List ℕ)) (faults_before faults_after : ℕ) (text : List ℕ) : Type 0 where
  pub prefix : AppendsPrefix before after text
  pub whole : (Rose faults_before faults_after → ⊥) → Appends before after text
