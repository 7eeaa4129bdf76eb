use Rattle.std.proofs.Common.{◌≡◌, ◌∙◌, ap, inl, inr, refl, subst, sym}
use Rattle.dt_words.specs.CommandOf.{command_of}
use Rattle.dt_run.specs.Ending.{readers_of, IsGeneration}
use Rattle.dt_run.specs.Run.{IsScript, IsNoScript}
use Rattle.dt_run.specs.Status.{number_of}
use Rattle.dt_run.specs.declared.status.Status.TheVariants.{Done, Usage, Script, NoMemory}
use Rattle.dispatch_cli.proofs.Words.{given_words, numbers_say, numbers_end, whatever_bytes, no_other_error, whatever_error}
use Rattle.dispatch_cli.proofs.program.exit_status.Goals.{in-Ok, in-Err}
use Rattle.dispatch_cli.proofs.program.exit_status.Goals as goal

pub returns-clause-ends : goal.returns-clause-ends
returns-clause-ends g c = elim c.match-words_of.branch [
  | in-Ok w ↦ (
    w.run.result.status,
    c.number.ensures ∙ ap number_of w.status-is,
    inl (w.run.result.log, rw (← given_words _ _ _ w.in-Ok.words w.in-Ok.ensures) (rw w.source-is (rw w.sink-is w.run.ensures.ends))),
  )
  | in-Err w ↦ (
    NoMemory,
    c.number.ensures ∙ ap number_of w.status-is,
    inr (refl, (w.source-is, w.sink-is)),
  )
]

pub returns-clause-no_memory_for_words : goal.returns-clause-no_memory_for_words
returns-clause-no_memory_for_words g c = elim c.match-words_of.branch [
  | in-Ok w ↦ no_other_error _ _ _ _ _ _ (λ error not is. not is) w.in-Ok.ensures
  | in-Err w ↦ whatever_error _ _ _ (c.number.ensures ∙ ap number_of w.status-is, w.source-is, w.sink-is)
]

pub returns-clause-unread : goal.returns-clause-unread
returns-clause-unread g c = λ none. elim c.match-words_of.branch [
  | in-Ok w ↦ w.source-is ∙ w.run.ensures.unread (ap readers_of (given_words _ _ _ w.in-Ok.words w.in-Ok.ensures) ∙ none)
  | in-Err w ↦ w.source-is
]

pub returns-clause-usage : goal.returns-clause-usage
returns-clause-usage g c = λ none. elim c.match-words_of.branch [
  | in-Ok w ↦
      let e : c.number.result ≡ number_of w.run.result.status = c.number.ensures ∙ ap number_of w.status-is in
      numbers_say w.run.result.status Usage NoMemory e (w.run.ensures.usage (ap command_of (given_words _ _ _ w.in-Ok.words w.in-Ok.ensures) ∙ none))
  | in-Err w ↦ inr (c.number.ensures ∙ ap number_of w.status-is)
]

pub returns-clause-generated : goal.returns-clause-generated
returns-clause-generated g c = λ generation calm_sink. elim c.match-words_of.branch [
  | in-Ok w ↦
      let e : c.number.result ≡ number_of w.run.result.status = c.number.ensures ∙ ap number_of w.status-is in
      numbers_say w.run.result.status Done NoMemory e
      (w.run.ensures.generated (subst (λ words. IsGeneration (command_of words)) (sym (given_words _ _ _ w.in-Ok.words w.in-Ok.ensures)) generation) (rw (← w.sink-is) calm_sink))
  | in-Err w ↦ inr (c.number.ensures ∙ ap number_of w.status-is)
]

pub returns-clause-script_always : goal.returns-clause-script_always
returns-clause-script_always g c = λ readers asked calm. elim c.match-words_of.branch [
  | in-Ok w ↦
      let e : c.number.result ≡ number_of w.run.result.status = c.number.ensures ∙ ap number_of w.status-is in
      numbers_end w.run.result.status Script NoMemory (IsNoScript readers) _ e
      (w.run.ensures.script_always readers (ap readers_of (given_words _ _ _ w.in-Ok.words w.in-Ok.ensures) ∙ asked) (rw (← w.source-is) calm))
  | in-Err w ↦ whatever_bytes _ (IsNoScript readers) _ (inr (c.number.ensures ∙ ap number_of w.status-is))
]

pub returns-clause-complete : goal.returns-clause-complete
returns-clause-complete g c = λ readers asked calm calm_sink. elim c.match-words_of.branch [
  | in-Ok w ↦
      let e : c.number.result ≡ number_of w.run.result.status = c.number.ensures ∙ ap number_of w.status-is in
      numbers_end w.run.result.status Done NoMemory (IsScript readers) _ e
      (w.run.ensures.complete readers (ap readers_of (given_words _ _ _ w.in-Ok.words w.in-Ok.ensures) ∙ asked)
      (rw (← w.source-is) calm) (rw (← w.sink-is) calm_sink))
  | in-Err w ↦ whatever_bytes _ (IsScript readers) _ (inr (c.number.ensures ∙ ap number_of w.status-is))
]
