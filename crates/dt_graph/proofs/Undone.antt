-- Each change of a lawful graph is undone by one change, which isn't refused.
use Rattle.std.proofs.Common.{◌≡◌, ◌==◌, ℕ, ◌<◌, ◌≤◌, not, true, false, cond, IsTrue, nat_lt, List, [], ◌∷◌, length, filter, find, Option, None, Some, is_some, refl, sym, ap, subst, ◌∙◌, eqb, eq-eqb, arith}
use Rattle.std.proofs.lemmas.Bool.{and_right, or_left, or_right, eqb-true, false≢true}
use Rattle.std.proofs.lemmas.Bool.Decides.{nat_tests}
use Rattle.std.proofs.lemmas.List.Elements.{All-head, All-tail, All-filter, filter_agree}
use Rattle.dt_graph.specs.InOrder.{find_at}
use Rattle.dt_graph.specs.Graph.{Link, Graph, has_number, is_live, is_link, is_link_before, has_link, AscendingLinks, insert_number, insert_link, insert_links}
use Rattle.dt_graph.specs.Lawful.{AscendingNumbers, LawfulGraph}
use Rattle.dt_graph.specs.Parents.{parents_of}
use Rattle.dt_graph.specs.GraphChange.{add_effect, drop_effect, link_effect, unlink_effect, first_repeated}
use Rattle.dt_graph.specs.Laws.{AddingIsUndone, DroppingIsUndone, LinkingIsUndone, UnlinkingIsUndone}
use Rattle.dt_graph.specs.declared.limits.TheConstants.{CLASSES, PARENTS}
use Rattle.dt_graph.proofs.InOrder.{is_some-find, no_some, found_key, remove_inserted, put_back_removed, inserted_first, Ascends-tail}
use Rattle.dt_graph.proofs.Ascending.{number_order, order_of_links, first_is_lowest, LinkBelowAll, link_below_rest, links_tail}
use Rattle.dt_graph.proofs.LinkLists.{each_number}
use Rattle.dt_graph.proofs.ListMembers.{by_cases, filter-weaker}
use Rattle.dt_graph.proofs.ParentLists.{parent_count_listed}
use Rattle.dt_graph.proofs.ListsOfGraphs.{parents_ascend}
use Rattle.dt_graph.proofs.LawfulChanges.{joins_live, no_parents, may_be_added, may_be_linked, add_keeps, drop_keeps, link_keeps, unlink_keeps}
use Rattle.dt_graph.proofs.Effects.{live_after_add, live_after_drop, link_made, links_after_unlink, never_own}
use Rattle.dt_graph.proofs.Needed.{add_refused, drop_refused, link_refused, unlink_refused}

-- ---- changes touch one class

others_numbers : (class : ℕ) (numbers : List ℕ) → filter (λ c. not (eqb c class)) (insert_number class numbers) ≡ filter (λ c. not (eqb c class)) numbers
others_numbers class [] = rw (eq-eqb class class refl) refl
others_numbers class (n ∷ numbers) =
    let r = others_numbers class numbers in let e = eq-eqb class class refl in grind arith

others_link : (class parent : ℕ) (links : List Link) → filter (λ (l : Link). not (eqb l.class class)) (insert_link (record { class = class; parent = parent }) links) ≡ filter (λ (l : Link). not (eqb l.class class)) links
others_link class parent [] = rw (eq-eqb class class refl) refl
others_link class parent (l ∷ links) =
    let r = others_link class parent links in let e = eq-eqb class class refl in grind arith

others_links : (class : ℕ) (parents : List ℕ) (links : List Link) → filter (λ (l : Link). not (eqb l.class class)) (insert_links class parents links) ≡ filter (λ (l : Link). not (eqb l.class class)) links
others_links class [] links = refl
others_links class (p ∷ parents) links =
    others_links class parents (insert_link (record { class = class; parent = p }) links) ∙ others_link class p links

others_unlinked : (class parent : ℕ) (links : List Link) → filter (λ (l : Link). not (eqb l.class class)) (filter (λ l. not (is_link class parent l)) links) ≡ filter (λ (l : Link). not (eqb l.class class)) links
others_unlinked class parent links =
    filter-weaker (λ (l : Link). not (eqb l.class class)) (λ l. not (is_link class parent l)) links (λ l other. grind arith)

add_touches : (g : Graph) (class : ℕ) (parents : List ℕ) → drop_effect (add_effect g class parents) class ≡ drop_effect g class
add_touches g class parents = rw (others_numbers class g.classes, others_links class parents g.links) refl

pub drop_touches : (g : Graph) (class : ℕ) → drop_effect (drop_effect g class) class ≡ drop_effect g class
drop_touches g class =
    rw (
      filter-weaker (λ c. not (eqb c class)) (λ c. not (eqb c class)) g.classes (λ c e. e),
      filter-weaker (λ (l : Link). not (eqb l.class class)) (λ (l : Link). not (eqb l.class class)) g.links (λ l e. e),
    ) refl

pub unlink_touches : (g : Graph) (class parent : ℕ) → drop_effect (unlink_effect g class parent) class ≡ drop_effect g class
unlink_touches g class parent = rw (others_unlinked class parent g.links) refl

-- ---- a class comes back

found_itself : (class : ℕ) (numbers : List ℕ) → IsTrue (has_number numbers class) → find_at (λ n. n) (λ a b. eqb a b) class numbers ≡ Some class
found_itself class [] h = cc
found_itself class (n ∷ numbers) h = let r = found_itself class numbers in grind (arith, nat_tests)

number_back : (class : ℕ) (numbers : List ℕ) → AscendingNumbers numbers → IsTrue (has_number numbers class)
    → insert_number class (filter (λ c. not (eqb c class)) numbers) ≡ numbers
number_back class numbers u h =
    ap (insert_number class) (filter_agree (λ c. not (eqb c class)) (λ c. not (eqb class c)) (λ c. grind (arith, nat_tests)) numbers)
    ∙ put_back_removed (λ n. n) nat_lt (λ a b. eqb a b) number_order class class numbers u (found_itself class numbers h)

number_gone : (class : ℕ) (numbers : List ℕ) → has_number numbers class ≡ false → filter (λ c. not (eqb c class)) numbers ≡ numbers
number_gone class [] h = refl
number_gone class (n ∷ numbers) h = let r = number_gone class numbers in grind arith

-- the link stands before that of the class to each of these parents
abbrev BelowParents : Link → ℕ → List ℕ → Type 0
BelowParents l class [] = Unit {0}
BelowParents l class (p ∷ parents) = IsTrue (is_link_before l (record { class = class; parent = p })) × BelowParents l class parents

inserted_behind : (l : Link) (class : ℕ) (parents : List ℕ) (links : List Link) → BelowParents l class parents
    → insert_links class parents (l ∷ links) ≡ l ∷ insert_links class parents links
inserted_behind l class [] links h = refl
inserted_behind l class (p ∷ parents) links h =
    let new : Link = record { class = class; parent = p } in
    let one : insert_link new (l ∷ links) ≡ l ∷ insert_link new links = (let b = h.0 in grind (arith, nat_tests)) in
    ap (insert_links class parents) one ∙ inserted_behind l class parents (insert_link new links) h.1

parents_behind : (l : Link) (class : ℕ) (links : List Link) → LinkBelowAll l links → BelowParents l class (parents_of links class)
parents_behind l class [] h = tt
parents_behind l class (m ∷ links) h =
    let rest = parents_behind l class links (All-tail (λ k. IsTrue (is_link_before l k)) m links h) in
    by_cases (eqb m.class class)
    (λ e. rw e (let b = All-head (λ k. IsTrue (is_link_before l k)) m links h in let same = eqb-true m.class class e in grind (arith, nat_tests), rest))
    (λ e. rw e rest)

links_back : (class : ℕ) (links : List Link) → AscendingLinks links
    → insert_links class (parents_of links class) (filter (λ (l : Link). not (eqb l.class class)) links) ≡ links
links_back class [] u = refl
links_back class (l ∷ links) u =
    let others = filter (λ (l : Link). not (eqb l.class class)) links in
    let ps = parents_of links class in
    let b = link_below_rest l links u in
    let r = links_back class links (links_tail l links u) in
    let behind = inserted_behind l class ps others (parents_behind l class links b) in
    elim (eqb l.class class) as (λ t. eqb l.class class ≡ t
    → insert_links class (cond t (l.parent ∷ ps) ps) (cond (not t) (l ∷ others) others) ≡ l ∷ links) [
      | true ↦ λ e.
          let same = eqb-true l.class class e in
          let own : insert_link (record { class = class; parent = l.parent }) others ≡ l ∷ others =
          subst (λ k. insert_link (record { class = k; parent = l.parent }) others ≡ l ∷ others) same
          (inserted_first (λ l. l) is_link_before (λ a b. is_link a.class a.parent b) order_of_links l others
          (All-filter (λ (l : Link). not (eqb l.class class)) (λ k. IsTrue (is_link_before l k)) links b)) in
          ap (insert_links class ps) own ∙ behind ∙ ap (λ ls. l ∷ ls) r
      | false ↦ λ e. behind ∙ ap (λ ls. l ∷ ls) r
    ] refl

no_links_of : (class : ℕ) (links : List Link) → parents_of links class ≡ [] → filter (λ (l : Link). not (eqb l.class class)) links ≡ links
no_links_of class [] h = refl
no_links_of class (l ∷ links) h = let r = no_links_of class links in grind arith

back_live : (old : Graph) (class : ℕ) → LawfulGraph old → is_live old class ≡ true
    → add_effect (drop_effect old class) class (parents_of old.links class) ≡ old
back_live old class lawful live =
    rw (number_back class old.classes lawful.classes_ascend live, links_back class old.links lawful.links_ascend) refl

back_gone : (old : Graph) (class : ℕ) → LawfulGraph old → is_live old class ≡ false → drop_effect old class ≡ old
back_gone old class lawful gone =
    rw (number_gone class old.classes gone, no_links_of class old.links (no_parents old class (joins_live old lawful) gone)) refl

pub add_undone : AddingIsUndone
add_undone g class parents lawful small none =
    let new = add_effect g class parents in
    let back = add_touches g class parents ∙ back_gone g class lawful (may_be_added g class parents none).new in
    let live = live_after_add g class parents class ∙ or_left (class == class) (is_live g class) (eq-eqb class class refl) in
    ((drop_refused new class (add_keeps g class parents lawful small none)).1 (live, subst LawfulGraph (sym back) lawful), back)

-- numbers in ascending order, none of them among the earlier ones
once : (earlier numbers : List ℕ) → AscendingNumbers numbers → ((n : ℕ) → IsTrue (has_number numbers n) → has_number earlier n ≡ false)
    → first_repeated earlier numbers ≡ None
once earlier [] ascending none = refl
once earlier (x ∷ numbers) ascending none =
    rw (none x (or_left (x == x) (has_number numbers x) (eq-eqb x x refl)))
    (once (x ∷ earlier) numbers (Ascends-tail (λ n. n) nat_lt (λ a b. a == b) number_order x numbers ascending) (λ n listed.
    let above = first_is_lowest x numbers ascending n listed in
    let other = none n (or_right (x == n) (has_number numbers n) listed) in grind (arith, nat_tests)))

pub drop_undone : DroppingIsUndone
drop_undone g class lawful none =
    let parents = parents_of g.links class in
    let new = drop_effect g class in
    let live = ((drop_refused g class lawful).0 none).0 in
    let back = back_live g class lawful live in
    let small = each_number (λ n. n < CLASSES) g.classes lawful.classes_in_range class live in
    let few : length parents ≤ PARENTS = omega (arith, lawful.few_parents class, parent_count_listed g.links class) in
    let gone = live_after_drop g class class ∙ never_own class (is_live g class) in
    let single = once [] parents (parents_ascend g.links class lawful.links_ascend) (λ n listed. refl) in
    ((add_refused new class parents (drop_keeps g class lawful none) small).1 (gone, few, single, subst LawfulGraph (sym back) lawful), back)

-- ---- a link

abbrev to : ℕ → ℕ → Link
to class parent = record { class = class; parent = parent }

pub link_undone : LinkingIsUndone
link_undone g class parent lawful none =
    let linked = link_made g class parent in
    let absent = no_some _ (is_some-find (is_link class parent) g.links ∙ (may_be_linked g class parent none).new) in
    let gone = remove_inserted (λ l. l) is_link_before (λ a b. is_link a.class a.parent b) order_of_links (to class parent) g.links absent in (
      (unlink_refused (link_effect g class parent) class parent (link_keeps g class parent lawful none)).1 linked,
      ap (λ links. record { classes = g.classes; links = links }) gone,
    )

pub unlink_undone : UnlinkingIsUndone
unlink_undone g class parent lawful none =
    ((link_refused new class parent (unlink_keeps g class parent lawful)).1 (gone, subst LawfulGraph (sym back) lawful), back)
  where
    new : Graph
    new = unlink_effect g class parent

    gone : has_link new.links class parent ≡ false
    gone = links_after_unlink g class parent class parent
        ∙ rw (eq-eqb class class refl, eq-eqb parent parent refl) (and_right (has_link g.links class parent) false refl)

    again : (found : Option Link) → find (is_link class parent) g.links ≡ found → is_some found ≡ true
        → insert_link (to class parent) new.links ≡ g.links
    again None is there = absurd (false≢true there)
    again (Some old) is there =
        let key = found_key (λ l. l) is_link_before (λ a b. is_link a.class a.parent b) order_of_links (to class parent) g.links old is in
        subst (λ l. insert_link l new.links ≡ g.links) key
        (put_back_removed (λ l. l) is_link_before (λ a b. is_link a.class a.parent b) order_of_links (to class parent) old g.links lawful.links_ascend is)

    back : link_effect new class parent ≡ g
    back = ap (λ links. record { classes = g.classes; links = links })
        (again (find (is_link class parent) g.links) refl (is_some-find (is_link class parent) g.links ∙ (unlink_refused g class parent lawful).0 none))
