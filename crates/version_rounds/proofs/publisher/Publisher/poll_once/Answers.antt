use Rattle.std.proofs.Common.{sym, subst, set}
use Rattle.dt_version.specs.Views.{author_of}
use Rattle.version_rounds.specs.Chains.{IsReady}
use Rattle.version_rounds.specs.declared.known.Known.TheVariants as known
use Rattle.version_rounds.proofs.Chains.{poll_frees, poll_holds}
use Rattle.version_rounds.proofs.publisher.Publisher.poll_once.Goals as goal

pub invariant_of-self : goal.invariant_of-self
invariant_of-self c = let old = c.args.self.now in record {
  ready =
      subst (λ s. IsReady s.now.table.shared.key (set old.known c.args.root known.Free) old.version old.out (author_of c.poll-exits.new.self.place)) (sym c.poll-exits.ensures.store)
      (subst (λ a. IsReady old.author.store.now.table.shared.key (set old.known c.args.root known.Free) old.version old.out a) (sym c.poll-exits.ensures.polled)
      (poll_frees _ _ _ _ c.args.root c.args.entries c.poll-exits.result (author_of old.author.place) c.requires.there c.requires.old c.if-is_free.true old.ready));
}

pub invariant_of-self-else-is_free : goal.invariant_of-self-else-is_free
invariant_of-self-else-is_free c = let old = c.args.self.now in record {
  ready =
      subst (λ s. IsReady s.now.table.shared.key old.known old.version old.out (author_of c.poll-exits.new.self.place)) (sym c.poll-exits.ensures.store)
      (subst (λ a. IsReady old.author.store.now.table.shared.key old.known old.version old.out a) (sym c.poll-exits.ensures.polled)
      (poll_holds _ _ _ _ c.args.root c.args.entries c.poll-exits.result (author_of old.author.place) c.requires.there c.requires.old c.if-is_free.false old.ready));
}
