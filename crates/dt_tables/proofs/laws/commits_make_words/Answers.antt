use Rattle.dt_tables.proofs.NextWords.{commits_make_words}
use Rattle.dt_tables.proofs.laws.commits_make_words.Goals as goal

pub returns : goal.returns
returns g c = commits_make_words g.K.TableKind.kind
