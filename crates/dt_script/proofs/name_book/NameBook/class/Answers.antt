use Rattle.std.proofs.Common.{rules}
use Rattle.dt_script.proofs.Grown.{grew_class}
use Rattle.dt_script.proofs.name_book.NameBook.class.Goals as goal

pub returns-clause-grew : goal.returns-clause-grew
returns-clause-grew c = grew_class c.args.self.now _ c.args.name.now (search rules)
