use Rattle.std.proofs.Common.{◌≡◌, ◌+◌, ap, ◌∙◌, arith}
use Rattle.dt_version.specs.Views.{author_shown}
use Rattle.std.proofs.Common.{length}
use Rattle.std.proofs.lemmas.List.{length-replicate}
use Rattle.dt_gate.specs.Gate.{fresh_author, blank_root}
use Rattle.dt_version.specs.Limits.{bounds}
use Rattle.dt_version.proofs.AuthorSteps.{author_is_of}
use Rattle.dt_version.proofs.author.Author.new.Goals as goal

pub invariant_of-result : goal.invariant_of-result
invariant_of-result g c =
    let key = c.args.store.now.table.shared.key in
    let many = length-replicate (key.readers + 1) blank_root in record {
      at = c.requires.at;
      no_slot = ap (λ m. m.1) c.requires.me;
      author = author_is_of key c.args.seat.place.me.0 (fresh_author (bounds key)) (ap (λ m. m.0) c.requires.me);
      sized = ap (λ m. length (author_shown m.0).roots) c.requires.me ∙ (let n : length (fresh_author {M = g.row.M.Denot} {I = g.row.M-Item.Denot} (bounds key)).roots ≡ key.readers + 2 = omega (arith, many) in n);
    }
