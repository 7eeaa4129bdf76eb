use Rattle.std.proofs.Common.{rules}
use Rattle.std.proofs.lemmas.Fn.{filter_same}
use Rattle.dt_tables.specs.Kept.{is_covered}
use Rattle.dt_tables.proofs.what_follows.keep_covered.Goals as goal

pub returns : goal.returns
returns c = filter_same _ (is_covered c.args.most) _ (λ x b f' r. search rules) _ _ c.retain.ensures.filtered
