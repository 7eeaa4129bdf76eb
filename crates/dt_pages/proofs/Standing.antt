-- Trees that stand in the words of all pages are read and reached by their numbers.
use Rattle.std.proofs.Common.{Bool, true, false, ◌≡◌, ◌⊎◌, ℕ, suc, ◌+◌, ◌-◌, ◌/◌, ◌%◌, ◌^◌, ◌<◌, ◌≤◌, nat_lt, if◌then◌else◌, List, Contains, refl, sym, ap, subst, ◌∙◌, inl, inr, arith}
use native.Mathlib.Decide.{ℕ_discrete}
use Rattle.std.proofs.lemmas.Bool.Decides.{nat_tests}
use Rattle.dt_pages.specs.Reading.{Pages, addresses, levels, follow, reading, Meets, Reaches}
use Rattle.dt_pages.specs.Numbering.{Numbering, IsNode, top_node, child, IsNumbering, StandsIn, Follows, IsWritten}
use Rattle.dt_pages.specs.NumberingLaws.{StandingIsRead, NodesAreReached, BothStand, ReachOfFollowing, FreeAreNotReached}

module _ (memory : Pages) (numbers : Numbering) (is : IsNumbering numbers) (stands : StandsIn memory numbers) where
  -- also the page of a node without one, page 0, has what stands at its places
  pub here : (node : ℕ) → IsNode node → (at : ℕ) → at < 512 → memory (numbers node) at ≡ numbers (child node at)
  here node a_node at below = elim (ℕ_discrete (numbers node) 0) [
    | yes none ↦ ap (λ page. memory page at) none ∙ stands.zeros at below ∙ sym ((is.blank node a_node).0 none at below)
    | no some ↦ stands.words node a_node some at below
  ]

  pub read : (address : ℕ) → address < addresses → reading memory (numbers top_node) address ≡ numbers address
  read address below =
      let a : ℕ = address / 512 ^ 2 % 512 in
      let b : ℕ = address / 512 ^ 1 % 512 in
      let c : ℕ = address / 512 ^ 0 % 512 in
      let middle : ℕ = child top_node a in
      let leaf : ℕ = child middle b in
      let inside : nat_lt address addresses ≡ true = grind (arith, nat_tests) in
      let last : child leaf c ≡ address = omega (arith, below) in
      ap (λ (t : Bool). if t then follow memory levels (numbers top_node) address else 0) inside
      ∙ ap (λ page. memory (memory page b) c) (here top_node (omega arith, omega arith) a (omega arith))
      ∙ ap (λ page. memory page c) (here middle (omega arith, omega (arith, below)) b (omega arith))
      ∙ here leaf (omega (arith, below), omega (arith, below)) c (omega arith)
      ∙ ap numbers last

  -- what is met from a child is met from its node
  from_child : (level node : ℕ) → IsNode node → (at : ℕ) → at < 512 → (page : ℕ) → Meets memory level (numbers (child node at)) page
      → Meets memory (suc level) (numbers node) page
  from_child level node a_node at below page met = inr (at, below, subst (λ (p : ℕ). Meets memory level p page) (sym (here node a_node at below)) met)

  abbrev Has : ℕ → Type 0
  Has page = (node : ℕ) × IsNode node × (numbers node ≡ page)

  from_leaf : (leaf : ℕ) → IsNode leaf → (page : ℕ) → Meets memory 1 (numbers leaf) page → Has page
  from_leaf leaf a_node page (inl same) = (leaf, a_node, same)
  from_leaf leaf a_node page (inr way) = absurd way.2

  from_middle : (middle : ℕ) → addresses + 262144 ≤ middle → middle < top_node → (page : ℕ) → Meets memory 2 (numbers middle) page → Has page
  from_middle middle low high page (inl same) = (middle, (omega (arith, low), omega (arith, high)), same)
  from_middle middle low high page (inr (at, below, met)) =
      from_leaf (child middle at) (omega (arith, low), omega (arith, high, below)) page
      (subst (λ (p : ℕ). Meets memory 1 p page) (here middle (omega (arith, low), omega (arith, high)) at below) met)

  from_top : (page : ℕ) → Reaches memory (numbers top_node) page → Has page
  from_top page (inl same) = (top_node, (omega arith, omega arith), same)
  from_top page (inr (at, below, met)) =
      from_middle (child top_node at) (omega arith) (omega (arith, below)) page
      (subst (λ (p : ℕ). Meets memory 2 p page) (here top_node (omega arith, omega arith) at below) met)

  -- each node is met
  met_middle : (node : ℕ) → addresses + 262144 ≤ node → node < top_node → (page : ℕ) → Meets memory 2 (numbers node) page → Reaches memory (numbers top_node) page
  met_middle node low high page met =
      let is_child : child top_node (node - (addresses + 262144)) ≡ node = omega (arith, low) in
      from_child 2 top_node (omega arith, omega arith) (node - (addresses + 262144)) (omega (arith, low, high)) page
      (subst (λ (n : ℕ). Meets memory 2 (numbers n) page) (sym is_child) met)

  met_leaf : (node : ℕ) → addresses ≤ node → node < addresses + 262144 → (page : ℕ) → Meets memory 1 (numbers node) page → Reaches memory (numbers top_node) page
  met_leaf node low high page met =
      let middle : ℕ = addresses + node / 512 in
      let is_child : child middle (node % 512) ≡ node = omega arith in
      met_middle middle (omega (arith, low)) (omega (arith, high)) page
      (from_child 1 middle (omega arith, omega (arith, high)) (node % 512) (omega arith) page
      (subst (λ (n : ℕ). Meets memory 1 (numbers n) page) (sym is_child) met))

  to_top : (page : ℕ) → Has page → Reaches memory (numbers top_node) page
  to_top page (node, a_node, same) = go (nat_lt node (addresses + 262144)) refl (nat_lt node top_node) refl
    where
      is_low : nat_lt node (addresses + 262144) ≡ true → node < addresses + 262144
      is_low e = grind arith

      is_high : nat_lt node (addresses + 262144) ≡ false → addresses + 262144 ≤ node
      is_high e = grind arith

      is_under : nat_lt node top_node ≡ true → node < top_node
      is_under e = grind arith

      is_top : nat_lt node top_node ≡ false → node ≡ top_node
      is_top e = let last = a_node.1 in grind arith

      go : (a : Bool) → nat_lt node (addresses + 262144) ≡ a → (b : Bool) → nat_lt node top_node ≡ b → Reaches memory (numbers top_node) page
      go true e b f = met_leaf node a_node.0 (is_low e) page (inl same)
      go false e true f = met_middle node (is_high e) (is_under f) page (inl same)
      go false e false f = subst (λ (n : ℕ). Reaches memory (numbers n) page) (is_top f) (inl same)

pub standing_is_read : StandingIsRead
standing_is_read memory numbers is stands address below = read memory numbers is stands address below

pub nodes_are_reached : NodesAreReached
nodes_are_reached memory numbers is stands page some = (from_top memory numbers is stands page, to_top memory numbers is stands page)

-- ---- a following numbering

module _ (memory after : Pages) (old new : Numbering) (pages : List ℕ) (stands : StandsIn memory old) (follows : Follows old new pages)
    (written : IsWritten memory after old new pages) where
  old_stands : StandsIn after old
  old_stands = record {
    zeros = λ at below. written.zero_stays at below ∙ stands.zeros at below;
    words = λ node a_node some at below. written.old_stay node a_node at below ∙ stands.words node a_node some at below;
  }

  new_stands : StandsIn after new
  new_stands = record {
    zeros = λ at below. written.zero_stays at below ∙ stands.zeros at below;
    words = λ node a_node some at below. elim (ℕ_discrete (new node) (old node)) [
      | yes same ↦ ap (λ page. after page at) same ∙ written.old_stay node a_node at below
          ∙ stands.words node a_node (λ none. some (same ∙ none)) at below ∙ sym ((follows.keeps node a_node).0 same at below)
      | no other ↦ written.words node a_node (follows.takes node a_node other some) at below
    ];
  }

pub both_stand : BothStand
both_stand memory after old new pages stands follows written =
    (old_stands memory after old new pages stands follows written, new_stands memory after old new pages stands follows written)

pub reach_of_following : ReachOfFollowing
reach_of_following memory after old new pages gone is stands follows goes written page some = (forward, backward)
  where
    reached_before : (node : ℕ) → IsNode node → old node ≡ page → Reaches memory (old top_node) page
    reached_before node a_node same = to_top memory old is stands page (node, a_node, same)

    stays : (node : ℕ) → IsNode node → old node ≡ page → new node ≡ old node → ¬ Contains gone page
    stays node a_node same kept listed =
        let left = (goes page).0 listed in
        let one : left.0 ≡ node = is.once left.0 node left.1 a_node (λ none. some (sym left.2 ∙ none)) (left.2 ∙ sym same) in
        left.4 (subst (λ (n : ℕ). new n ≡ old n) (sym one) kept)

    forward : Reaches after (new top_node) page → (Reaches memory (old top_node) page × ¬ Contains gone page) ⊎ Contains pages page
    forward met =
        let found = from_top after new follows.numbers (new_stands memory after old new pages stands follows written) page met in
        elim (ℕ_discrete (new found.0) (old found.0)) [
          | yes same ↦ inl (reached_before found.0 found.1 (sym same ∙ found.2), stays found.0 found.1 (sym same ∙ found.2) same)
          | no other ↦ inr (subst (Contains pages) found.2 (follows.takes found.0 found.1 other (λ none. some (sym found.2 ∙ none))))
        ]

    reached_after : (node : ℕ) → IsNode node → new node ≡ page → Reaches after (new top_node) page
    reached_after node a_node same =
        to_top after new follows.numbers (new_stands memory after old new pages stands follows written) page (node, a_node, same)

    backward : (Reaches memory (old top_node) page × ¬ Contains gone page) ⊎ Contains pages page → Reaches after (new top_node) page
    backward (inr listed) = let taken = follows.all_taken page listed in reached_after taken.0 taken.1 taken.2
    backward (inl (met, stay)) =
        let found = from_top memory old is stands page met in
        elim (ℕ_discrete (new found.0) (old found.0)) [
          | yes same ↦ reached_after found.0 found.1 (same ∙ found.2)
          | no other ↦ absurd (stay ((goes page).1 (found.0, found.1, found.2, some, other)))
        ]

pub free_are_not_reached : FreeAreNotReached
free_are_not_reached memory numbers pages is stands free page listed met =
    let found = from_top memory numbers is stands page met in
    free.no_node found.0 found.1 (subst (Contains pages) (sym found.2) listed)
