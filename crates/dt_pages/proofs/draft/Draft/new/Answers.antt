use Rattle.std.proofs.Common.{ap, ◌∙◌}
use Rattle.std.specs.Ordering.{nat_cmp}
use Rattle.std.specs.FinMap.{from_entries, get, get-empty}
use Rattle.dt_pages.proofs.draft.Draft.new.Goals as goal

pub invariant_of-result : goal.invariant_of-result
invariant_of-result c = λ at past. ap (λ es. get {R = nat_cmp} (from_entries es) at) c.new.ensures.empty ∙ get-empty nat_cmp at
