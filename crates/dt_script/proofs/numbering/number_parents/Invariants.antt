use Rattle.std.proofs.Common.{◌≡◌, ◌++◌, length}
use Rattle.std.specs.Prelude.{IsTrue}
use Rattle.std.specs.List.{list_all}
use Rattle.std.specs.Option.{option_copied}
use Rattle.dt_selectors.specs.Names.{is_name}
use Rattle.dt_script.specs.NameBook.{NameBook}
use Rattle.dt_script.specs.Growth.{GrewAtEnd}
use Rattle.dt_script.specs.Words.{words_left}
use Rattle.dt_script.specs.Numbering.{with_classes, numbers_in}
use Rattle.dt_script.proofs.numbering.number_parents.Given as goal

abbrev pub invariant-loop-left : goal.invariant-loop-left
invariant-loop-left l = record {
  book : with_classes l.fn.names (words_left (option_copied l.fn.words)) ≡ with_classes l.names (words_left (option_copied l.left));
  numbers : (new : NameBook) → new ≡ with_classes l.names (words_left (option_copied l.left)) → numbers_in new (words_left (option_copied l.fn.words)) ≡ l.parents.items ++ numbers_in new (words_left (option_copied l.left));
  grew : GrewAtEnd l.fn.names l.names;
  are_names : IsTrue (list_all is_name (words_left (option_copied l.left)));
}

abbrev pub decreases-loop-left : goal.decreases-loop-left
decreases-loop-left l = length (words_left (option_copied l.left))
