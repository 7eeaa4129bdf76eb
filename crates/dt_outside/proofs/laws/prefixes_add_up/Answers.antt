use Rattle.dt_outside.proofs.OverCalls.{whole_is_prefix, nothing_is_prefix, prefixes_add_up, told_whole_where_calm}
use Rattle.dt_outside.proofs.laws.prefixes_add_up.Goals as goal

pub returns : goal.returns
returns c = record { whole = whole_is_prefix; nothing = nothing_is_prefix; sum = prefixes_add_up; calm = told_whole_where_calm }
