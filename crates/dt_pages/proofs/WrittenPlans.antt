-- Plans whose words stand in their pages.
use Rattle.std.proofs.Common.{◌≡◌, ◌≢◌, ◌⊎◌, ◌↔◌, ℕ, ◌<◌, List, length, get_or, Contains, sym, ap, subst, ◌∙◌}
use Rattle.std.proofs.lemmas.List.{get_or_default}
use Rattle.dt_pages.specs.Reading.{Pages, reading, Reaches}
use Rattle.dt_pages.specs.Draft.{Drafted, laid_over}
use Rattle.dt_pages.specs.Numbering.{Numbering, top_node, IsNumbering, StandsIn, IsWritten}
use Rattle.dt_pages.specs.Planned.{Planned, IsPlan}
use Rattle.dt_pages.specs.NumberingLaws.{HoldsPlan, WrittenPlansAreRead, WrittenPlansReach}
use Rattle.dt_pages.proofs.Standing.{both_stand, reach_of_following, standing_is_read}

module _ (memory after : Pages) (old : Numbering) (drafted : Drafted) (list : List ℕ) (plan : Planned) (is : IsNumbering old) (stands : StandsIn memory old)
    (planned : IsPlan old drafted list plan) (holds : HoldsPlan memory after old plan) where
  abbrev now : Numbering
  now = laid_over plan.changes old

  written : IsWritten memory after old now list
  written = record {
    zero_stays = holds.zero_stays;
    old_stay = holds.old_stay;
    words = λ node a_node inside at low.
        let same : now node ≡ get_or list inside.0 0 = sym inside.2 ∙ get_or_default list inside.0 (now node) 0 inside.1 in
        let below : inside.0 < length plan.pages = subst (λ (xs : List ℕ). inside.0 < length xs) (sym planned.listed) inside.1 in
        ap (λ page. after page at) (same ∙ ap (λ (xs : List ℕ). get_or xs inside.0 0) (sym planned.listed))
        ∙ holds.words inside.0 at below low ∙ planned.contents node inside.0 at a_node inside.1 same low;
  }

  both : StandsIn after old × StandsIn after now
  both = both_stand memory after old now list stands planned.follows written

  read : (address : ℕ) → address < 134217728 → reading after plan.top address ≡ laid_over drafted old address
  read address low =
      ap (λ top. reading after top address) planned.top ∙ standing_is_read after now planned.follows.numbers both.1 address low ∙ planned.words address low

  reached : (page : ℕ) → page ≢ 0 → Reaches after plan.top page ↔ ((Reaches memory (old top_node) page × ¬ Contains plan.gone page) ⊎ Contains list page)
  reached page some = subst (λ (top : ℕ). Reaches after top page ↔ ((Reaches memory (old top_node) page × ¬ Contains plan.gone page) ⊎ Contains list page)) (sym planned.top)
      (reach_of_following memory after old now list plan.gone is stands planned.follows planned.gone written page some)

pub written_plans_are_read : WrittenPlansAreRead
written_plans_are_read memory after old drafted list plan is stands planned holds =
    let two = both memory after old drafted list plan is stands planned holds in
    (two.0, two.1, read memory after old drafted list plan is stands planned holds)

pub written_plans_reach : WrittenPlansReach
written_plans_reach memory after old drafted list plan is stands planned holds = reached memory after old drafted list plan is stands planned holds
