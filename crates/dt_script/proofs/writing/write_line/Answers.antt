use Rattle.std.proofs.Common.{rules}
use Rattle.dt_script.proofs.Joined.{line_spelled}
use Rattle.dt_script.proofs.writing.write_line.Goals as goal

pub returns-clause-ok : goal.returns-clause-ok
returns-clause-ok c = line_spelled c.args.names.now c.args.line.now c.args.out.now.items c.extend_from_slice.new.self.items c.requires (search rules)
