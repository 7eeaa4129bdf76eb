use Rattle.std.proofs.Common.{◌≡◌, ◌∙◌, ap, arith, subst}
use Rattle.std.specs.Prelude.{Some}
use Rattle.dt_script.specs.GeneratedLaws.{generated_script}
use Rattle.dt_script.specs.GeneratedSize.{IsSize}
use Rattle.dt_script.specs.GeneratedText.{generated_text}
use Rattle.dt_script.specs.ScriptOf.{IsScriptOf}
use Rattle.dt_run.proofs.Endings.{read_told}
use Rattle.dt_run.proofs.generating.generate.Goals as goal

pub returns-in-Ok : goal.returns-in-Ok
returns-in-Ok c =
    let own = generated_script c.args.number c.args.classes c.args.selectors in
    let text = generated_text c.args.number c.args.classes c.args.selectors in
    let read = c.in-Ok.ensures.script in
    let same : read.0 ≡ text = read_told _ _ text read.0 (c.new-source.ensures.left ∙ ap Some c.in_ok-text.ensures) read.1 in
    let size : IsSize c.args.classes c.args.selectors = record {
      two_classes = c.requires.two_classes;
      classes_in_range = c.requires.classes_in_range;
      one_selector = c.requires.one_selector;
      selectors_in_range = c.requires.selectors_in_range;
    } in
    c.bytes_have_one_answer.ensures.script 4 text c.in-Ok.script own (subst (λ bytes. IsScriptOf 4 bytes c.in-Ok.script) same read.2)
    (c.generated_texts_are_scripts.ensures.script c.args.number c.args.classes c.args.selectors 4 size (omega arith))
