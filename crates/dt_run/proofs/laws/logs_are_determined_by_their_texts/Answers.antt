use Rattle.dt_run.proofs.NamedText.{text_where_named}
use Rattle.dt_run.proofs.OneShape.{one_shape_of_script}
use Rattle.dt_run.proofs.SameLogs.{determined_by_text}
use Rattle.dt_run.proofs.laws.logs_are_determined_by_their_texts.Goals as goal

pub returns : goal.returns
returns c = record { named = text_where_named; shape = one_shape_of_script; determined = determined_by_text }
