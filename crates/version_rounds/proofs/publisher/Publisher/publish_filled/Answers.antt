use Rattle.std.proofs.Common.{◌+◌, ◌*◌, sym, subst, ap, ◌∙◌, set}
use Rattle.dt_gate.specs.declared.gate.Root.{Root}
use Rattle.dt_gate.specs.Author.{MayPublish, after_publish}
use Rattle.dt_gate.specs.Examples.{counted}
use Rattle.dt_gate.specs.Gate.{root_at}
use Rattle.dt_version.specs.Limits.{bounds}
use Rattle.dt_version.specs.Views.{author_of}
use Rattle.version_rounds.specs.Chains.{IsReady}
use Rattle.version_rounds.specs.declared.known.Known.TheVariants as known
use Rattle.version_rounds.proofs.Chains.{laid_keeps, laid_root, may_publish, publish_keeps}
use Rattle.version_rounds.proofs.publisher.Publisher.publish_filled.Goals as goal

pub publish-old-requires-after_bounds : goal.publish-old-requires-after_bounds
publish-old-requires-after_bounds c κs =
    subst (λ s. MayPublish counted (bounds s.now.table.shared.key) (author_of c.lay.new.self.place) c.args.root c.args.version) (sym c.lay.ensures.store)
    (subst (λ a. MayPublish counted (bounds c.args.self.now.author.store.now.table.shared.key) a c.args.root c.args.version) (sym c.lay.ensures.laid)
    (may_publish _ _ _ _ (author_of c.args.self.now.author.place) c.args.root c.args.version c.requires.there c.requires.free c.requires.next c.requires.filled c.args.self.now.ready))

pub invariant_of-self : goal.invariant_of-self
invariant_of-self c =
    let old = c.args.self.now in
    let ready = laid_keeps _ _ _ _ (author_of old.author.place) c.args.root c.args.version (1 + 3 * c.args.root) c.requires.there c.requires.free old.ready in
    let laid = subst (λ a. IsReady old.author.store.now.table.shared.key old.known old.version old.out a) (sym c.lay.ensures.laid) ready in
    let top = ap (λ a. (root_at a c.args.root).top) c.lay.ensures.laid
    ∙ ap (λ (r : Root). r.top) (laid_root _ _ _ _ (author_of old.author.place) c.args.root c.args.version (1 + 3 * c.args.root) c.requires.there c.requires.free old.ready) in
    let next = publish_keeps _ _ _ _ (author_of c.lay.new.self.place) c.args.root c.args.version c.publish-old.result.entries c.requires.there c.requires.free top c.requires.next laid in
    record {
      ready =
          subst (λ s. IsReady s.now.table.shared.key (set (set old.known c.publish-old.result.root (known.Old c.publish-old.result.entries)) c.args.root known.Now) c.args.version old.out (author_of c.publish-old.new.self.place)) (sym (c.publish-old.ensures.store ∙ c.lay.ensures.store))
          (subst (λ a. IsReady old.author.store.now.table.shared.key (set (set old.known c.publish-old.result.root (known.Old c.publish-old.result.entries)) c.args.root known.Now) c.args.version old.out a) (sym c.publish-old.ensures.published)
          (subst (λ n. IsReady old.author.store.now.table.shared.key (set (set old.known n (known.Old c.publish-old.result.entries)) c.args.root known.Now) c.args.version old.out (after_publish (author_of c.lay.new.self.place) c.args.root c.args.version c.publish-old.result.entries)) (sym c.publish-old.ensures.root) next));
    }
