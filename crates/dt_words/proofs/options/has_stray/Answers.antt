use Rattle.std.proofs.Common.{◌∙◌, ap, string_bytes}
use Rattle.std.specs.List.{list_any}
use Rattle.clap.proofs.WalkLemmas.{list_any-map}
use Rattle.dt_words.specs.Parsed.{is_stray}
use Rattle.dt_words.proofs.options.has_stray.Goals as goal

pub returns : goal.returns
returns c = c.is_any_stray.ensures ∙ list_any-map is_stray string_bytes c.texts.result.now ∙ ap (list_any is_stray) c.texts.ensures
