use Rattle.dt_script.proofs.Tokens.{subclass_names, define_body}
use Rattle.dt_script.proofs.numbered_line.line_by_kind.Goals as goal

pub subclass_line-requires-clause-parents : goal.subclass_line-requires-clause-parents
subclass_line-requires-clause-parents c = subclass_names c.in-AddSubclass.class c.in-AddSubclass.parents (rw c.in-AddSubclass.is at c.requires)

pub define_line-requires-clause-body : goal.define_line-requires-clause-body
define_line-requires-clause-body c = define_body c.in-Define.selector c.in-Define.body c.in-Define.classes (rw c.in-Define.is at c.requires)
