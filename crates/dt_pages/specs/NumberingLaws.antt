-- What holds of trees that stand in the words of all pages.
use Rattle.std.specs.Prelude.{◌≡◌, ◌≢◌, ◌⊎◌, ℕ, ◌<◌, ◌↔◌, List, [], length, get_or, Contains}
use Rattle.dt_pages.specs.Reading.{Pages, page_words, addresses, reading, Reaches}
use Rattle.dt_pages.specs.Draft.{Drafted, laid_over}
use Rattle.dt_pages.specs.Planned.{Planned, IsPlan}
use Rattle.dt_pages.specs.Numbering.{Numbering, IsNode, top_node, IsNumbering, StandsIn, AreFree, Follows, AreGone, IsWritten}

-- what is read from the page of the top is the word at each address
abbrev pub StandingIsRead : Type 0
StandingIsRead = (memory : Pages) (numbers : Numbering) → IsNumbering numbers → StandsIn memory numbers
    → (address : ℕ) → address < addresses → reading memory (numbers top_node) address ≡ numbers address

-- beside page 0, the page of the top reaches the pages of the nodes and no other
abbrev pub NodesAreReached : Type 0
NodesAreReached = (memory : Pages) (numbers : Numbering) → IsNumbering numbers → StandsIn memory numbers
    → (page : ℕ) → page ≢ 0 → Reaches memory (numbers top_node) page ↔ ((node : ℕ) × IsNode node × (numbers node ≡ page))

-- where the pages of a following numbering were written, both stand
abbrev pub BothStand : Type 0
BothStand = (memory after : Pages) (old new : Numbering) (pages : List ℕ) → StandsIn memory old → Follows old new pages
    → IsWritten memory after old new pages → StandsIn after old × StandsIn after new

-- beside page 0, the new top reaches the pages that the old one reached without those that are gone, and those of the list
abbrev pub ReachOfFollowing : Type 0
ReachOfFollowing = (memory after : Pages) (old new : Numbering) (pages gone : List ℕ) → IsNumbering old → StandsIn memory old → Follows old new pages
    → AreGone old new gone → IsWritten memory after old new pages → (page : ℕ) → page ≢ 0
    → Reaches after (new top_node) page ↔ ((Reaches memory (old top_node) page × ¬ Contains gone page) ⊎ Contains pages page)

-- no free page is reached, so none that is written is a page of the old tree
abbrev pub FreeAreNotReached : Type 0
FreeAreNotReached = (memory : Pages) (numbers : Numbering) (pages : List ℕ) → IsNumbering numbers → StandsIn memory numbers → AreFree numbers pages
    → (page : ℕ) → Contains pages page → ¬ Reaches memory (numbers top_node) page

-- a plan's words stand in its pages, and neither page 0 nor a page of the old numbering was written
pub record HoldsPlan (memory after : Pages) (old : Numbering) (plan : Planned) : Type 0 where
  pub zero_stays : (at : ℕ) → at < page_words → after 0 at ≡ memory 0 at
  pub old_stay : (node : ℕ) → IsNode node → (at : ℕ) → at < page_words → after (old node) at ≡ memory (old node) at
  pub words : (place at : ℕ) → place < length plan.pages → at < page_words → after (get_or plan.pages place 0) at ≡ get_or (get_or plan.contents place []) at 0

-- so once a plan's words stand in its pages, the old tree still stands, the new one stands too, and from the new top the
-- words of the draft over those of the old tree are read
abbrev pub WrittenPlansAreRead : Type 0
WrittenPlansAreRead = (memory after : Pages) (old : Numbering) (drafted : Drafted) (list : List ℕ) (plan : Planned) → IsNumbering old → StandsIn memory old
    → IsPlan old drafted list plan → HoldsPlan memory after old plan
    → StandsIn after old × StandsIn after (laid_over plan.changes old)
    × ((address : ℕ) → address < addresses → reading after plan.top address ≡ laid_over drafted old address)

-- and beside page 0, the new top reaches the pages that the old one reached without those that are gone, and those of the list
abbrev pub WrittenPlansReach : Type 0
WrittenPlansReach = (memory after : Pages) (old : Numbering) (drafted : Drafted) (list : List ℕ) (plan : Planned) → IsNumbering old → StandsIn memory old
    → IsPlan old drafted list plan → HoldsPlan memory after old plan → (page : ℕ) → page ≢ 0
    → Reaches after plan.top page ↔ ((Reaches memory (old top_node) page × ¬ Contains plan.gone page) ⊎ Contains list page)
