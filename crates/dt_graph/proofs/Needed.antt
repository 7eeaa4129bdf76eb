-- A change is refused for no other reason than those for which it must be: it is void, or it leaves no lawful graph.
use Rattle.std.proofs.Common.{◌≡◌, ◌==◌, ℕ, suc, ◌<◌, ◌≤◌, Bool, false, cond, not, ◌&&◌, IsTrue, ◌↔◌, List, [], ◌∷◌, length, Option, None, Some, find, refl, sym, ap, subst, ◌∙◌, eqb-true, eq-eqb, nat_lt, nat_le, arith}
use Rattle.std.proofs.lemmas.Bool.{or_left, or_right, and_from, false≢true, false_from_ne_true, not-false, le-ltb, lt-leb}
use Rattle.dt_graph.specs.Graph.{Link, Graph, has_number, is_live, has_link, parent_count, insert_link}
use Rattle.dt_graph.specs.Below.{is_below}
use Rattle.dt_graph.specs.Lawful.{LawfulGraph}
use Rattle.dt_graph.specs.GraphChange.{add_cause, add_effect, drop_cause, drop_effect, link_cause, link_effect, unlink_cause, lowest_subclass, first_repeated}
use Rattle.dt_graph.specs.declared.limits.TheConstants.{CLASSES, PARENTS}
use Rattle.dt_graph.specs.declared.graph_fault.GraphFault.TheVariants.{ClassExists, ClassUnknown, ParentTwice, TooManyParents, LinkUnknown}
use Rattle.dt_graph.proofs.Walks.{LinksIn, is_below_more, is_below_self}
use Rattle.dt_graph.proofs.ParentLists.{parent_count-cons}
use Rattle.dt_graph.proofs.Refusals.{no_test, no_found}
use Rattle.dt_graph.proofs.LawfulChanges.{joins_live, no_round, add_keeps, drop_keeps, link_keeps, may_be_added, may_be_linked}
use Rattle.dt_graph.proofs.Effects.{live_after_add, links_after_add, live_after_drop, links_after_drop, links_after_link, link_made, never_own}
use Rattle.dt_graph.proofs.ListsOfGraphs.{lowest_is_subclass}

-- ---- a link

-- a link that wasn't there is one parent more
parent_count-new : (class parent : ℕ) (links : List Link) → has_link links class parent ≡ false → parent_count (insert_link (record { class = class; parent = parent }) links) class ≡ suc (parent_count links class)
parent_count-new class parent [] absent =
    let own : ◌≡◌ {A = ℕ} (cond (class == class) 1 0) 1 = rw (eq-eqb class class refl) refl in
    omega (arith, parent_count-cons (record { class = class; parent = parent }) [] class, own)
parent_count-new class parent (l ∷ links) absent =
    let new : Link = record { class = class; parent = parent } in
    let own : ◌≡◌ {A = ℕ} (cond (class == class) 1 0) 1 = rw (eq-eqb class class refl) refl in
    let first = parent_count-cons new (l ∷ links) class in
    let later = parent_count-cons l (insert_link new links) class in
    let others = parent_count-cons l links class in
    let rest = parent_count-new class parent links in grind arith

link_allowed : (g : Graph) (class parent : ℕ) → has_link g.links class parent ≡ false → LawfulGraph (link_effect g class parent) → link_cause g class parent ≡ None
link_allowed g class parent absent lawful = rw (live.0, live.1, absent, room, no_way_back) refl
  where
    linked : IsTrue (has_link (link_effect g class parent).links class parent)
    linked = link_made g class parent

    live : IsTrue (is_live g class) × IsTrue (is_live g parent)
    live = joins_live (link_effect g class parent) lawful class parent linked

    room : nat_le PARENTS (parent_count g.links class) ≡ false
    room = lt-leb PARENTS (parent_count g.links class) (omega (arith, parent_count-new class parent g.links absent, lawful.few_parents class))

    more : LinksIn g.links (link_effect g class parent).links
    more a b old = links_after_link g class parent a b ∙ or_right ((class == a) && (parent == b)) (has_link g.links a b) old

    no_way_back : is_below g.links parent class ≡ false
    no_way_back = false_from_ne_true (is_below g.links parent class) (λ below.
        no_round (link_effect g class parent).links lawful.no_cycle class parent linked (is_below_more g.links (link_effect g class parent).links more parent class below))

pub link_refused : (g : Graph) (class parent : ℕ) → LawfulGraph g → (link_cause g class parent ≡ None) ↔ ((has_link g.links class parent ≡ false) × LawfulGraph (link_effect g class parent))
link_refused g class parent lawful =
    (λ none. ((may_be_linked g class parent none).new, link_keeps g class parent lawful none), λ both. link_allowed g class parent both.0 both.1)

-- ---- a link that goes

unlink_allowed : (g : Graph) (class parent : ℕ) → LawfulGraph g → IsTrue (has_link g.links class parent) → unlink_cause g class parent ≡ None
unlink_allowed g class parent lawful linked =
    let live = joins_live g lawful class parent linked in rw (live.0, live.1, linked) refl

unlink_linked : (g : Graph) (class parent : ℕ) → unlink_cause g class parent ≡ None → IsTrue (has_link g.links class parent)
unlink_linked g class parent none =
    let first = no_test (not (is_live g class)) (ClassUnknown class) _ none in
    let second = no_test (not (is_live g parent)) (ClassUnknown parent) _ first.1 in
    let third = no_test (not (has_link g.links class parent)) LinkUnknown _ second.1 in
    not-false (has_link g.links class parent) third.0

pub unlink_refused : (g : Graph) (class parent : ℕ) → LawfulGraph g → (unlink_cause g class parent ≡ None) ↔ IsTrue (has_link g.links class parent)
unlink_refused g class parent lawful = (unlink_linked g class parent, unlink_allowed g class parent lawful)

-- ---- a class that goes

-- a class that goes is no parent
no_subclass_left : (g : Graph) (class : ℕ) → LawfulGraph g → LawfulGraph (drop_effect g class) → (told : Option ℕ) → lowest_subclass g.links class ≡ told → lowest_subclass g.links class ≡ None
no_subclass_left g class lawful lawful' None same = same
no_subclass_left g class lawful lawful' (Some low) same = absurd (false≢true (sym gone ∙ (joins_live (drop_effect g class) lawful' low class kept).1))
  where
    linked : IsTrue (has_link g.links low class)
    linked = (lowest_is_subclass g.links class low lawful.links_ascend same).0

    other : (low == class) ≡ false
    other = false_from_ne_true (low == class) (λ here.
        let P : ℕ → Type 0 = λ n. IsTrue (is_below g.links class n) in
        no_round g.links lawful.no_cycle low class linked (subst P (sym (eqb-true low class here)) (is_below_self g.links class)))

    kept : IsTrue (has_link (drop_effect g class).links low class)
    kept = links_after_drop g class low class ∙ and_from (has_link g.links low class) (not (low == class)) linked (ap not other)

    gone : is_live (drop_effect g class) class ≡ false
    gone = live_after_drop g class class ∙ never_own class (is_live g class)

drop_allowed : (g : Graph) (class : ℕ) → LawfulGraph g → IsTrue (is_live g class) → LawfulGraph (drop_effect g class) → drop_cause g class ≡ None
drop_allowed g class lawful live lawful' = rw (live, no_subclass_left g class lawful lawful' (lowest_subclass g.links class) refl) refl

drop_live : (g : Graph) (class : ℕ) → drop_cause g class ≡ None → IsTrue (is_live g class)
drop_live g class none = not-false (is_live g class) (no_test (not (is_live g class)) (ClassUnknown class) _ none).0

pub drop_refused : (g : Graph) (class : ℕ) → LawfulGraph g → (drop_cause g class ≡ None) ↔ (IsTrue (is_live g class) × LawfulGraph (drop_effect g class))
drop_refused g class lawful =
    (λ none. (drop_live g class none, drop_keeps g class lawful none), λ both. drop_allowed g class lawful both.0 both.1)

-- ---- a class that comes

-- where none of the list passes the test, none is found
none_found : (test : ℕ → Bool) (numbers : List ℕ) → ((n : ℕ) → IsTrue (has_number numbers n) → test n ≡ false) → find test numbers ≡ None
none_found test [] none = refl
none_found test (x ∷ numbers) none =
    rw (none x (or_left (x == x) (has_number numbers x) (eq-eqb x x refl)))
    (none_found test numbers (λ n listed. none n (or_right (x == n) (has_number numbers n) listed)))

add_allowed : (g : Graph) (class : ℕ) (parents : List ℕ) → is_live g class ≡ false → length parents ≤ PARENTS → first_repeated [] parents ≡ None → LawfulGraph (add_effect g class parents) → add_cause g class parents ≡ None
add_allowed g class parents new few once lawful = rw (new, le-ltb PARENTS (length parents) few, none_unknown, once) refl
  where
    linked : (p : ℕ) → IsTrue (has_number parents p) → IsTrue (has_link (add_effect g class parents).links class p)
    linked p listed =
        links_after_add g class parents class p
        ∙ or_left ((class == class) && has_number parents p) (has_link g.links class p) (and_from (class == class) (has_number parents p) (eq-eqb class class refl) listed)

    live : (p : ℕ) → IsTrue (has_number parents p) → IsTrue (is_live g p)
    live p listed =
        let added = live_after_add g class parents p in
        let ends = (joins_live (add_effect g class parents) lawful class p (linked p listed)).1 in
        let apart : IsTrue (class == p) → ⊥ = λ own. no_round (add_effect g class parents).links lawful.no_cycle class p (linked p listed)
        (subst (λ n. IsTrue (is_below (add_effect g class parents).links p n)) (sym (eqb-true class p own)) (is_below_self (add_effect g class parents).links p)) in
        grind arith

    none_unknown : find (λ p. not (is_live g p)) parents ≡ None
    none_unknown = none_found (λ p. not (is_live g p)) parents (λ p listed. ap not (live p listed))

once_where_added : (g : Graph) (class : ℕ) (parents : List ℕ) → add_cause g class parents ≡ None → first_repeated [] parents ≡ None
once_where_added g class parents none =
    let first = no_test (is_live g class) ClassExists _ none in
    let second = no_test (nat_lt PARENTS (length parents)) TooManyParents _ first.1 in
    let third = no_found ClassUnknown (find (λ c. not (is_live g c)) parents) _ second.1 in
    (no_found ParentTwice (first_repeated [] parents) [] third.1).0

pub add_refused : (g : Graph) (class : ℕ) (parents : List ℕ) → LawfulGraph g → class < CLASSES
    → (add_cause g class parents ≡ None) ↔ ((is_live g class ≡ false) × (length parents ≤ PARENTS) × (first_repeated [] parents ≡ None) × LawfulGraph (add_effect g class parents))
add_refused g class parents lawful in_range = (
  λ none. let may = may_be_added g class parents none in (may.new, may.few, once_where_added g class parents none, add_keeps g class parents lawful in_range none),
  λ all. add_allowed g class parents all.0 all.1 all.2 all.3,
)
