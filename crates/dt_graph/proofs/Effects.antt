-- Which classes are live and which links are there after a change: what the change is about, and what was there.
use Rattle.std.proofs.Common.{◌≡◌, ◌==◌, ℕ, Bool, true, false, not, ◌&&◌, ◌||◌, List, refl, ap, eq-eqb, arith}
use Rattle.std.proofs.lemmas.Bool.{and_right}
use Rattle.std.proofs.lemmas.Bool.Decides.{nat_tests}
use Rattle.dt_graph.specs.Graph.{Graph, has_number, is_live, is_link, has_link}
use Rattle.dt_graph.specs.GraphChange.{add_effect, drop_effect, link_effect, unlink_effect}
pub use Rattle.dt_graph.proofs.LinkLists.{has_number-filtered}
use Rattle.dt_graph.proofs.LinkLists.{has_number-placed, has_link-placed, has_link-all_placed, has_link-filtered}

-- ---- what each change leaves

pub live_after_add : (g : Graph) (class : ℕ) (parents : List ℕ) (other : ℕ) → is_live (add_effect g class parents) other ≡ ((class == other) || is_live g other)
live_after_add g class parents other = has_number-placed class g.classes other

pub links_after_add : (g : Graph) (class : ℕ) (parents : List ℕ) (low high : ℕ) → has_link (add_effect g class parents).links low high ≡ (((class == low) && has_number parents high) || has_link g.links low high)
links_after_add g class parents low high = has_link-all_placed class parents g.links low high

pub live_after_drop : (g : Graph) (class other : ℕ) → is_live (drop_effect g class) other ≡ (is_live g other && not (other == class))
live_after_drop g class other = has_number-filtered (λ c. not (c == class)) g.classes other

pub links_after_drop : (g : Graph) (class low high : ℕ) → has_link (drop_effect g class).links low high ≡ (has_link g.links low high && not (low == class))
links_after_drop g class low high = has_link-filtered (λ link. not (link.class == class)) g.links low high

pub live_after_link : (g : Graph) (class parent other : ℕ) → is_live (link_effect g class parent) other ≡ is_live g other
live_after_link g class parent other = refl

pub links_after_link : (g : Graph) (class parent low high : ℕ) → has_link (link_effect g class parent).links low high ≡ (((class == low) && (parent == high)) || has_link g.links low high)
links_after_link g class parent low high = has_link-placed (record { class = class; parent = parent }) g.links low high

pub link_made : (g : Graph) (class parent : ℕ) → has_link (link_effect g class parent).links class parent ≡ true
link_made g class parent = let made = links_after_link g class parent class parent in grind (arith, nat_tests)

pub live_after_unlink : (g : Graph) (class parent other : ℕ) → is_live (unlink_effect g class parent) other ≡ is_live g other
live_after_unlink g class parent other = refl

pub links_after_unlink : (g : Graph) (class parent low high : ℕ) → has_link (unlink_effect g class parent).links low high ≡ (has_link g.links low high && not ((low == class) && (high == parent)))
links_after_unlink g class parent low high = has_link-filtered (λ link. not (is_link class parent link)) g.links low high

pub never_own : (class : ℕ) (t : Bool) → (t && not (class == class)) ≡ false
never_own class t = and_right t (not (class == class)) (ap not (eq-eqb class class refl))
