use Rattle.std.specs.Prelude.{Some}
use Rattle.dt_version.proofs.author.Author.publish.Given as goal

abbrev pub ghosts-publish_said : goal.ghosts-publish_said
ghosts-publish_said g a = record { item = Some a.entry.now }
