use Rattle.std.proofs.Common.{◌<◌, sym, subst, arith}
use Rattle.dt_gate.specs.Author.{MayPublish}
use Rattle.dt_gate.specs.WrongMachines.{anything}
use Rattle.dt_version.specs.Limits.{bounds}
use Rattle.dt_version.specs.Views.{author_of}
use Rattle.version_bench.specs.Turns.{IsTurning}
use Rattle.version_bench.proofs.Turning.{may_publish}
use Rattle.version_bench.proofs.turner.Turner.publish_free.Goals as goal

pub publish-old-requires-after_bounds : goal.publish-old-requires-after_bounds
publish-old-requires-after_bounds c κs = let old = c.args.self.now in
    let same = old.author.store.now.pages in let some = old.author.store.now.limits.in_range.some_pages in
    let two : 1 < old.author.store.now.table.shared.key.pages = omega (arith, same, some) in
    subst (λ s. MayPublish anything (bounds s.now.table.shared.key) (author_of c.lay.new.self.place) old.other c.args.version) (sym c.lay.ensures.store)
    (subst (λ a. MayPublish anything (bounds old.author.store.now.table.shared.key) a old.other c.args.version) (sym c.lay.ensures.laid)
    (may_publish _ _ _ _ _ _ (author_of old.author.place) c.requires.next two
    (subst (λ k. IsTurning old.author.store.now.table.shared.key old.current old.other k old.version old.out (author_of old.author.place)) c.requires.free old.turning)))
