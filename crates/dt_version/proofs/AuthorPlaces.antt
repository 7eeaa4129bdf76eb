-- Where the author's roots stand.
use Rattle.std.proofs.Common.{ℕ, ◌<◌, List, length, get_or}
use Rattle.dt_gate.specs.declared.gate.Root.{Root}
use Rattle.dt_gate.specs.declared.gate.Standing.{Standing}
use Rattle.dt_gate.specs.declared.gate.Standing.TheVariants.{Free, Now, Old}
use Rattle.dt_gate.specs.Gate.{blank_root, IsLive, IsOld}
use Rattle.dt_version.proofs.Calls.{live_is_there}

old_is_live : (standing : Standing) → IsOld standing → IsLive standing
old_is_live (Old entries) old = tt
old_is_live Free old = absurd old
old_is_live Now old = absurd old

-- an old root is there
pub old_is_there : (roots : List Root) (root : ℕ) → IsOld (get_or roots root blank_root).standing → root < length roots
old_is_there roots root old = live_is_there roots root (old_is_live (get_or roots root blank_root).standing old)
