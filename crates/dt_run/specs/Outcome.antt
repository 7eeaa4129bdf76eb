-- What a log says of a script: its shape, its versions, its edits and its calls.
use Rattle.std.specs.Prelude.{ℕ}
use Rattle.dt_script.specs.Script.{Script}
use Rattle.dt_run.specs.Log.{Log}
use Rattle.dt_run.specs.LogShape.{HasShape}
use Rattle.dt_run.specs.Versions.{history_of, HasVersionsFrom}
use Rattle.dt_run.specs.Edits.{HasEdits}
use Rattle.dt_run.specs.Calls.{HasCalls}

-- the log is an outcome of the script, where there may be no version beyond the limit
pub record Outcome (script : Script) (limit : ℕ) (log : Log) : Type 0 where
  pub shape : HasShape script.phases log.phases
  pub versions : HasVersionsFrom 0 script.phases log.phases log.last
  pub edits : HasEdits limit (history_of script.phases log.phases) script.phases log.phases
  pub calls : HasCalls (history_of script.phases log.phases) script.phases log.phases
