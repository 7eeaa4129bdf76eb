use Rattle.dt_scratch.proofs.MoreSpecific.{is_more_specific-transitive}
use Rattle.dt_scratch.proofs.specificity.law_of_specificity.Goals as goal

pub returns : goal.returns
returns c =
    let links = c.args.graph.now.links in
    is_more_specific-transitive links c.law.ensures.antisymmetric (c.below_is_an_order.ensures.transitive links)
