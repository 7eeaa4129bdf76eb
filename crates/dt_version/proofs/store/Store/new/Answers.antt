use Rattle.std.proofs.Common.{◌∙◌}
use Rattle.dt_version.proofs.Opening.{opens}
use Rattle.dt_version.proofs.store.Store.new.Goals as goal

pub of_words-requires : goal.of_words-requires
of_words-requires g c = opens g.M.Meaning.shows c.laws_of_runs.ensures c.requires
    (record { readers = c.args.limits.readers; pages = c.args.limits.pages; entries = c.args.limits.entries })
    c.args.limits.versions c.args.limits.in_range c.deref.result.now (c.deref.ensures.value ∙ c.in_ok-words.ensures)
