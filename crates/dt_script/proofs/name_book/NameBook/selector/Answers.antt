use Rattle.std.proofs.Common.{rules}
use Rattle.dt_script.proofs.Grown.{grew_selector}
use Rattle.dt_script.proofs.name_book.NameBook.selector.Goals as goal

pub returns-clause-grew : goal.returns-clause-grew
returns-clause-grew c = grew_selector c.args.self.now _ c.args.name.now (search rules)
