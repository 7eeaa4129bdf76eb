use Rattle.std.proofs.Common.{◌+◌, ◌*◌, sym, subst, ap, ◌∙◌}
use Rattle.dt_gate.specs.Author.{MayFill, after_fill}
use Rattle.dt_version.specs.Limits.{bounds}
use Rattle.dt_version.specs.Views.{author_of}
use Rattle.version_rounds.proofs.Chains.{first_fill, second_fill, third_fill}
use Rattle.version_rounds.proofs.publisher.Publisher.fill_chain.Goals as goal

pub fill-requires-after_bounds : goal.fill-requires-after_bounds
fill-requires-after_bounds c κs = first_fill _ _ _ _ c.args.root _ c.args.self.now.ready c.requires.there c.requires.free

pub fill-requires-2-after_bounds : goal.fill-requires-2-after_bounds
fill-requires-2-after_bounds c κs =
    subst (λ s. MayFill (bounds s.now.table.shared.key) (author_of c.fill.new.self.place) (1 + 3 * c.args.root + 1) 0) (sym c.fill.ensures.store)
    (subst (λ a. MayFill (bounds c.args.self.now.author.store.now.table.shared.key) a (1 + 3 * c.args.root + 1) 0) (sym c.fill.ensures.filled)
    (second_fill _ _ _ _ c.args.root _ c.args.self.now.ready c.requires.there c.requires.free))

pub fill-requires-3-after_bounds : goal.fill-requires-3-after_bounds
fill-requires-3-after_bounds c κs =
    subst (λ s. MayFill (bounds s.now.table.shared.key) (author_of c.fill-2.new.self.place) (1 + 3 * c.args.root + 2) 0) (sym (c.fill-2.ensures.store ∙ c.fill.ensures.store))
    (subst (λ a. MayFill (bounds c.args.self.now.author.store.now.table.shared.key) a (1 + 3 * c.args.root + 2) 0)
    (sym (c.fill-2.ensures.filled ∙ ap (λ a. after_fill a (1 + 3 * c.args.root + 1) 0 (1 + 3 * c.args.root + 2)) c.fill.ensures.filled))
    (third_fill _ _ _ _ c.args.root _ c.args.self.now.ready c.requires.there c.requires.free))
