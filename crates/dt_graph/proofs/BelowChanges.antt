-- What becomes of below with one link more, and below by way of the parents.
use Rattle.std.proofs.Common.{◌≡◌, ◌==◌, ℕ, Bool, ◌&&◌, ◌||◌, IsTrue, List, [], ◌∷◌, sym, subst, ◌∙◌, ⊎_elim, eqb-true, eq-eqb}
use Rattle.std.proofs.lemmas.Bool.{or_cases, or_left, or_right}
use Rattle.std.specs.List.{list_any}
use Rattle.dt_graph.specs.Graph.{Link, has_link, insert_link}
use Rattle.dt_graph.specs.Below.{Leads, is_below}
use Rattle.dt_graph.specs.Parents.{parents_of}
use Rattle.dt_graph.proofs.Walks.{IsBelow-from_test, is_below-from_steps, is_below_self, is_below_step, is_below_more}
use Rattle.dt_graph.proofs.ParentLists.{has_link_listed}
use Rattle.dt_graph.proofs.LinkLists.{has_link-placed}
use Rattle.dt_graph.proofs.AscendingSets.{same_truth}
use Rattle.dt_graph.proofs.ListMembers.{any_listed, listed_any}

-- ---- one link more

is_below_same : (links more : List Link) → ((a b : ℕ) → has_link links a b ≡ has_link more a b) → (a b : ℕ) → is_below links a b ≡ is_below more a b
is_below_same links more same a b = same_truth (is_below links a b) (is_below more a b)
    (is_below_more links more (λ a b linked. sym (same a b) ∙ linked) a b)
    (is_below_more more links (λ a b linked. same a b ∙ linked) a b)

-- a way uses the new link not at all, or leads to its class and on from its parent
pub is_below_placed : (link : Link) (links : List Link) (a b : ℕ) → is_below (insert_link link links) a b ≡ (is_below links a b || (is_below links a link.class && is_below links link.parent b))
is_below_placed link links a b = is_below_same (insert_link link links) (link ∷ links) (has_link-placed link links) a b

-- ---- by way of the parents

-- a class is below itself, and below whatever one of its parents is below
pub is_below_by_parents : (links : List Link) (a b : ℕ) → is_below links a b ≡ ((a == b) || list_any (λ p. is_below links p b) (parents_of links a))
is_below_by_parents links a b = same_truth (is_below links a b) ((a == b) || list_any above (parents_of links a))
    (λ test. let way = IsBelow-from_test links a b test in there way.0 way.1)
    (λ either. ⊎_elim
    (λ same. let P : ℕ → Type 0 = λ n. IsTrue (is_below links a n) in subst P (eqb-true a b same) (is_below_self links a))
    (λ any.
    let one = listed_any above (parents_of links a) any in
    is_below_step links a one.0 b (has_link_listed links a one.0 ∙ one.1.0) one.1.1)
    (or_cases (a == b) (list_any above (parents_of links a)) either))
  where
    above : ℕ → Bool
    above p = is_below links p b

    there : (steps : List ℕ) → Leads links a steps b → IsTrue ((a == b) || list_any above (parents_of links a))
    there [] leads = or_left (a == b) (list_any above (parents_of links a)) (eq-eqb a b leads)
    there (s ∷ steps) leads = or_right (a == b) (list_any above (parents_of links a))
        (any_listed above (parents_of links a) s (sym (has_link_listed links a s) ∙ leads.0) (is_below-from_steps links steps s b leads.1))
