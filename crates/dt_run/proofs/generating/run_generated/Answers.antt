use Rattle.std.proofs.Common.{subst}
use Rattle.dt_script.specs.GeneratedSize.{IsSize}
use Rattle.dt_words.specs.declared.limits.TheConstants.{VERSIONS}
use Rattle.dt_run.specs.Outcome.{Outcome}
use Rattle.dt_run.proofs.Countable.{generated_is_countable}
use Rattle.dt_run.proofs.generating.run_generated.Goals as goal

pub perform_and_sum_up-requires-clause-countable : goal.perform_and_sum_up-requires-clause-countable
perform_and_sum_up-requires-clause-countable g c = λ _ _ log outcome.
    let size : IsSize c.args.classes c.args.selectors = record {
      two_classes = c.requires.two_classes;
      classes_in_range = c.requires.classes_in_range;
      one_selector = c.requires.one_selector;
      selectors_in_range = c.requires.selectors_in_range;
    } in
    generated_is_countable c.generated_texts_are_scripts.ensures.short c.args.number c.args.classes c.args.selectors log size
    (subst (λ script. Outcome script VERSIONS log) c.in-Ok.ensures outcome)
