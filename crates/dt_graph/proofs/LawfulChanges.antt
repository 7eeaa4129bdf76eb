-- Changes of a class graph that aren't refused keep it lawful.
use Rattle.std.proofs.Common.{◌≡◌, ◌==◌, ◌≢◌, ℕ, ◌≤◌, ◌<◌, Bool, false, not, IsTrue, List, [], ◌∷◌, length, filter, find, refl, sym, ap, subst, ◌∙◌, ◌⊎◌, ⊎_elim, eqb-true, eq-eqb, ltb-false, leb-false, nat_lt, nat_le, arith, replicate, None}
use Rattle.std.proofs.lemmas.Bool.{or_cases, or_left, or_right, and_parts, false≢true, not-false, false_from_ne_true, not_from_false}
use Rattle.std.proofs.lemmas.Bool.Decides.{nat_tests}
use Rattle.std.proofs.lemmas.List.Elements.{All-nil}
use Rattle.dt_graph.specs.Graph.{Link, Graph, empty_graph, has_number, is_live, is_link, has_link, parent_count, insert_number, insert_link, insert_links, AscendingLinks}
use Rattle.dt_graph.specs.Below.{Leads, HasNoCycle, is_below}
use Rattle.dt_graph.specs.Lawful.{LawfulGraph}
use Rattle.dt_graph.specs.GraphRows.{graph_of, LawfulRows}
use Rattle.dt_graph.specs.declared.class_rows.Row.{Row}
use Rattle.std.proofs.lemmas.List.{length-replicate}
use Rattle.dt_graph.proofs.Rows.{graph_of-replicate}
use Rattle.dt_graph.specs.Parents.{parents_of}
use Rattle.dt_graph.specs.GraphChange.{add_cause, add_effect, drop_cause, drop_effect, link_cause, link_effect, unlink_effect, lowest_subclass}
use Rattle.dt_graph.specs.declared.limits.TheConstants.{CLASSES, PARENTS}
use Rattle.dt_graph.specs.declared.graph_fault.GraphFault.TheVariants.{ClassExists, ClassUnknown, TooManyParents, HasSubclasses, LinkExists, Cycle}
use Rattle.dt_graph.proofs.Walks.{LinksIn, Leads_more, IsBelow-from_test, is_below-from_steps, is_below_more, is_below_step, is_below_trans}
use Rattle.dt_graph.proofs.Refusals.{no_test, no_found, none_passes}
use Rattle.dt_graph.proofs.ParentLists.{has_link_listed, parent_count_listed}
use Rattle.dt_graph.proofs.LinkLists.{each_number, all_numbers, each_link, all_links, has_number-placed, has_link-placed, has_link-each_placed, has_number-filter, has_number-kept, has_link-filter, parent_count-placed, parent_count-each_placed, parent_count-filter}
use Rattle.dt_graph.proofs.AscendingSets.{nothing_listed}
use Rattle.dt_graph.proofs.Ascending.{AscendingNumbers-placed, AscendingNumbers-filter, AscendingLinks-placed, AscendingLinks-filter}

-- ---- what a lawful graph's links say, link by link

-- every link joins live classes
abbrev pub JoinsLive : Graph → Type 0
JoinsLive g = (a b : ℕ) → IsTrue (has_link g.links a b) → IsTrue (is_live g a) × IsTrue (is_live g b)

pub joins_live : (g : Graph) → LawfulGraph g → JoinsLive g
joins_live g lawful = each_link (λ a b. IsTrue (is_live g a) × IsTrue (is_live g b)) g.links lawful.links_join_live

-- no class is below itself by a link and more
abbrev pub HasNoRound : List Link → Type 0
HasNoRound links = (a b : ℕ) → IsTrue (has_link links a b) → IsTrue (is_below links b a) → ⊥

pub no_round : (links : List Link) → HasNoCycle links → HasNoRound links
no_round links none a b linked test =
    let steps = IsBelow-from_test links b a test in
    none a b steps.0 (linked, steps.1)

-- so no two classes are below each other
pub antisymmetric : (links : List Link) → HasNoCycle links → (a b : ℕ) → IsTrue (is_below links a b) → IsTrue (is_below links b a) → a ≡ b
antisymmetric links none a b first second =
    let steps = IsBelow-from_test links a b first in
    go steps.0 steps.1
  where
    go : (steps : List ℕ) → Leads links a steps b → a ≡ b
    go [] leads = leads
    go (s ∷ steps) leads =
        absurd (no_round links none a s leads.0 (is_below_trans links s b a (is_below-from_steps links steps s b leads.1) second))

no_cycle : (links : List Link) → HasNoRound links → HasNoCycle links
no_cycle links none class step steps leads =
    none class step leads.0 (is_below-from_steps links steps step class leads.1)

-- the graph with no class
pub empty_lawful : LawfulGraph empty_graph
empty_lawful = record {
  classes_ascend = tt;
  classes_in_range = All-nil (λ class. class < CLASSES);
  links_ascend = tt;
  links_join_live = All-nil (λ (link : Link). IsTrue (is_live empty_graph link.class) × IsTrue (is_live empty_graph link.parent));
  few_parents = λ class. omega arith;
  no_cycle = λ class step steps leads. false≢true leads.0;
}

-- a class that isn't live has no parents
pub no_parents : (g : Graph) (class : ℕ) → JoinsLive g → is_live g class ≡ false → parents_of g.links class ≡ []
no_parents g class joins not_live = nothing_listed (parents_of g.links class) (λ p. sym (has_link_listed g.links class p)
    ∙ false_from_ne_true _ (λ linked. false≢true (sym not_live ∙ (joins class p linked).0)))

no_parent_count : (g : Graph) (class : ℕ) → JoinsLive g → is_live g class ≡ false → parent_count g.links class ≡ 0
no_parent_count g class joins not_live = parent_count_listed g.links class ∙ ap length (no_parents g class joins not_live)

-- ---- a class is added

AscendingLinks-each_placed : (class : ℕ) (parents : List ℕ) (links : List Link) → AscendingLinks links → AscendingLinks (insert_links class parents links)
AscendingLinks-each_placed class [] links ascending = ascending
AscendingLinks-each_placed class (p ∷ parents) links ascending =
    AscendingLinks-each_placed class parents (insert_link (record { class = class; parent = p }) links) (AscendingLinks-placed (record { class = class; parent = p }) links ascending)

-- what is known of a class and its parents where it isn't refused
pub record MayBeAdded (g : Graph) (class : ℕ) (parents : List ℕ) : Type 0 where
  pub new : is_live g class ≡ false
  pub few : length parents ≤ PARENTS
  pub live : (p : ℕ) → IsTrue (has_number parents p) → IsTrue (is_live g p)

pub may_be_added : (g : Graph) (class : ℕ) (parents : List ℕ) → add_cause g class parents ≡ None → MayBeAdded g class parents
may_be_added g class parents none =
    let first = no_test (is_live g class) ClassExists _ none in
    let second = no_test (nat_lt PARENTS (length parents)) TooManyParents _ first.1 in
    let third = no_found ClassUnknown (find (λ c. not (is_live g c)) parents) _ second.1 in
    record {
      new = first.0;
      few = ltb-false PARENTS (length parents) second.0;
      live = λ p listed. not-false (is_live g p) (none_passes (λ c. not (is_live g c)) parents third.0 p listed);
    }

-- with links from a class to which none leads, no other way leads through it
apart_from : (class : ℕ) (links more : List Link) → ((a : ℕ) → IsTrue (has_link more a class) → ⊥) → ((a b : ℕ) → IsTrue (has_link more a b) → a ≢ class → IsTrue (has_link links a b)) → (steps : List ℕ) (a b : ℕ) → a ≢ class → Leads more a steps b → Leads links a steps b
apart_from class links more no_way_in old [] a b apart leads = leads
apart_from class links more no_way_in old (s ∷ steps) a b apart leads = (
  old a s leads.0 apart,
  apart_from class links more no_way_in old steps s b
      (λ same. no_way_in a (let P : ℕ → Type 0 = λ n. IsTrue (has_link more a n) in subst P same leads.0))
      leads.1,
)

pub add_keeps : (g : Graph) (class : ℕ) (parents : List ℕ) → LawfulGraph g → class < CLASSES → add_cause g class parents ≡ None → LawfulGraph (add_effect g class parents)
add_keeps g class parents lawful in_range none = record {
  classes_ascend = AscendingNumbers-placed class g.classes lawful.classes_ascend;
  classes_in_range = all_numbers (λ c. c < CLASSES) (insert_number class g.classes) (λ n listed. ⊎_elim
      (λ here. (let P : ℕ → Type 0 = λ m. m < CLASSES in subst P (eqb-true class n here) in_range))
      (λ old. each_number (λ c. c < CLASSES) g.classes lawful.classes_in_range n old)
      (or_cases (class == n) (has_number g.classes n) (sym (has_number-placed class g.classes n) ∙ listed)));
  links_ascend = AscendingLinks-each_placed class parents g.links lawful.links_ascend;
  links_join_live = all_links (λ a b. IsTrue (is_live new a) × IsTrue (is_live new b)) new.links (λ a b linked. ⊎_elim
      (λ fresh. (is_new a fresh.0, still b (may.live b fresh.1)))
      (λ old. (still a (joins a b old).0, still b (joins a b old).1))
      (has_link-each_placed class parents g.links a b linked));
  few_parents = λ c.
      let most = parent_count-each_placed class parents g.links c in
      let none_yet = no_parent_count g class joins may.new in
      let old = lawful.few_parents c in let few = may.few in grind (arith, nat_tests);
  no_cycle = no_cycle new.links (λ a b linked test.
      let steps = IsBelow-from_test new.links b a test in
      let round = apart_from class g.links new.links no_way_in old_link steps.0 b a (not_class a b linked) steps.1 in
      ⊎_elim
      (λ fresh. ends_elsewhere a steps.0 b (not_class a b linked) round fresh.0)
      (λ old. no_round g.links lawful.no_cycle a b old (is_below-from_steps g.links steps.0 b a round))
      (has_link-each_placed class parents g.links a b linked));
}
  where
    new : Graph
    new = add_effect g class parents

    joins : JoinsLive g
    joins = joins_live g lawful

    may : MayBeAdded g class parents
    may = may_be_added g class parents none

    is_new : (n : ℕ) → class ≡ n → IsTrue (is_live new n)
    is_new n same = has_number-placed class g.classes n ∙ or_left (class == n) (has_number g.classes n) (eq-eqb class n same)

    still : (n : ℕ) → IsTrue (is_live g n) → IsTrue (is_live new n)
    still n live = has_number-placed class g.classes n ∙ or_right (class == n) (has_number g.classes n) live

    no_way_in : (a : ℕ) → IsTrue (has_link new.links a class) → ⊥
    no_way_in a linked = ⊎_elim
        (λ fresh. false≢true (sym may.new ∙ may.live class fresh.1))
        (λ old. false≢true (sym may.new ∙ (joins a class old).1))
        (has_link-each_placed class parents g.links a class linked)

    old_link : (a b : ℕ) → IsTrue (has_link new.links a b) → a ≢ class → IsTrue (has_link g.links a b)
    old_link a b linked apart = ⊎_elim
        (λ fresh. absurd (apart (sym fresh.0)))
        (λ old. old)
        (has_link-each_placed class parents g.links a b linked)

    not_class : (a b : ℕ) → IsTrue (has_link new.links a b) → b ≢ class
    not_class a b linked same = no_way_in a (let P : ℕ → Type 0 = λ n. IsTrue (has_link new.links a n) in subst P same linked)

    ends_elsewhere : (a : ℕ) (steps : List ℕ) (b : ℕ) → b ≢ class → Leads g.links b steps a → class ≡ a → ⊥
    ends_elsewhere a [] b apart leads same = apart (leads ∙ sym same)
    ends_elsewhere a (s ∷ steps) b apart leads same =
        ends_elsewhere a steps s (λ at_class. false≢true (sym may.new ∙ (let P : ℕ → Type 0 = λ n. IsTrue (is_live g n) in subst P at_class (joins b s leads.0).1))) leads.1 same

-- ---- a class is dropped

-- where no class has it as a parent, no link leads to it
none_has_parent : (links : List Link) (class : ℕ) → lowest_subclass links class ≡ None → (a : ℕ) → has_link links a class ≡ false
none_has_parent [] class none a = refl
none_has_parent (link ∷ links) class none a =
    let rest : lowest_subclass links class ≡ None → has_link links a class ≡ false = λ later. none_has_parent links class later a in grind arith

-- fewer links make no cycle
fewer_no_cycle : (links fewer : List Link) → LinksIn fewer links → HasNoCycle links → HasNoCycle fewer
fewer_no_cycle links fewer in_links none class step steps leads =
    none class step steps (Leads_more fewer links in_links (step ∷ steps) class class leads)

pub drop_keeps : (g : Graph) (class : ℕ) → LawfulGraph g → drop_cause g class ≡ None → LawfulGraph (drop_effect g class)
drop_keeps g class lawful none = record {
  classes_ascend = AscendingNumbers-filter keeps_class g.classes lawful.classes_ascend;
  classes_in_range = all_numbers (λ c. c < CLASSES) new.classes (λ n listed. each_number (λ c. c < CLASSES) g.classes lawful.classes_in_range n (has_number-filter keeps_class g.classes n listed).0);
  links_ascend = AscendingLinks-filter keeps_link g.links lawful.links_ascend;
  links_join_live = all_links (λ a b. IsTrue (is_live new a) × IsTrue (is_live new b)) new.links (λ a b linked.
      let old = has_link-filter keeps_link g.links a b linked in
      let live = joins_live g lawful a b old.0 in (
        has_number-kept keeps_class g.classes a live.0 old.1,
        has_number-kept keeps_class g.classes b live.1 (not_from_false (b == class) (false_from_ne_true (b == class) (λ same. no_way_in a (let P : ℕ → Type 0 = λ n. IsTrue (has_link g.links a n) in subst P (eqb-true b class same) old.0)))),
      ));
  few_parents = λ c. omega (arith, parent_count-filter keeps_link g.links c, lawful.few_parents c);
  no_cycle = fewer_no_cycle g.links new.links (λ a b linked. (has_link-filter keeps_link g.links a b linked).0) lawful.no_cycle;
}
  where
    new : Graph
    new = drop_effect g class

    keeps_class : ℕ → Bool
    keeps_class c = not (c == class)

    keeps_link : Link → Bool
    keeps_link link = not (link.class == class)

    no_way_in : (a : ℕ) → IsTrue (has_link g.links a class) → ⊥
    no_way_in a linked = false≢true (sym (none_has_parent g.links class
        (no_found HasSubclasses (lowest_subclass g.links class) _ (no_test (not (is_live g class)) (ClassUnknown class) _ none).1).0 a) ∙ linked)

-- ---- a link is made

pub record MayBeLinked (g : Graph) (class parent : ℕ) : Type 0 where
  pub class_live : IsTrue (is_live g class)
  pub parent_live : IsTrue (is_live g parent)
  pub new : has_link g.links class parent ≡ false
  pub room : parent_count g.links class < PARENTS
  pub no_way_back : is_below g.links parent class ≡ false

pub may_be_linked : (g : Graph) (class parent : ℕ) → link_cause g class parent ≡ None → MayBeLinked g class parent
may_be_linked g class parent none =
    let first = no_test (not (is_live g class)) (ClassUnknown class) _ none in
    let second = no_test (not (is_live g parent)) (ClassUnknown parent) _ first.1 in
    let third = no_test (has_link g.links class parent) LinkExists _ second.1 in
    let fourth = no_test (nat_le PARENTS (parent_count g.links class)) TooManyParents _ third.1 in
    let fifth = no_test (is_below g.links parent class) Cycle _ fourth.1 in
    record {
      class_live = not-false (is_live g class) first.0;
      parent_live = not-false (is_live g parent) second.0;
      new = third.0;
      room = leb-false PARENTS (parent_count g.links class) fourth.0;
      no_way_back = fifth.0;
    }

pub link_keeps : (g : Graph) (class parent : ℕ) → LawfulGraph g → link_cause g class parent ≡ None → LawfulGraph (link_effect g class parent)
link_keeps g class parent lawful none = record {
  classes_ascend = lawful.classes_ascend;
  classes_in_range = lawful.classes_in_range;
  links_ascend = AscendingLinks-placed link g.links lawful.links_ascend;
  links_join_live = all_links (λ a b. IsTrue (is_live g a) × IsTrue (is_live g b)) new.links (λ a b linked. ⊎_elim
      (λ here.
      let ends = and_parts (class == a) (parent == b) here in
      let Live : ℕ → Type 0 = λ n. IsTrue (is_live g n) in
      (subst Live (eqb-true class a ends.0) may.class_live, subst Live (eqb-true parent b ends.1) may.parent_live))
      (λ old. joins_live g lawful a b old)
      (cases a b linked));
  few_parents = λ c.
      let more = parent_count-placed link g.links c in
      let same : class ≡ c → parent_count g.links c ≡ parent_count g.links class = λ e. ap (parent_count g.links) (sym e) in
      let old = lawful.few_parents c in let room = may.room in grind (arith, nat_tests);
  no_cycle = no_cycle new.links (λ a b linked test.
      let known = cases a b linked in
      let way = with_link b a test in
      let round = no_round g.links lawful.no_cycle a b in
      let step = is_below_step g.links a b class in
      let around = is_below_trans g.links parent a class in
      let no = may.no_way_back in grind (arith, nat_tests));
}
  where
    link : Link
    link = record { class = class; parent = parent }

    new : Graph
    new = link_effect g class parent

    may : MayBeLinked g class parent
    may = may_be_linked g class parent none

    cases : (a b : ℕ) → IsTrue (has_link new.links a b) → IsTrue (is_link a b link) ⊎ IsTrue (has_link g.links a b)
    cases a b linked = or_cases (is_link a b link) (has_link g.links a b) (sym (has_link-placed link g.links a b) ∙ linked)

    with_link : (a b : ℕ) → IsTrue (is_below new.links a b) → IsTrue (is_below (link ∷ g.links) a b)
    with_link = is_below_more new.links (link ∷ g.links) (λ a b linked. sym (has_link-placed link g.links a b) ∙ linked)

-- ---- a link is taken away

pub unlink_keeps : (g : Graph) (class parent : ℕ) → LawfulGraph g → LawfulGraph (unlink_effect g class parent)
unlink_keeps g class parent lawful = record {
  classes_ascend = lawful.classes_ascend;
  classes_in_range = lawful.classes_in_range;
  links_ascend = AscendingLinks-filter keeps g.links lawful.links_ascend;
  links_join_live = all_links (λ a b. IsTrue (is_live g a) × IsTrue (is_live g b)) (filter keeps g.links) (λ a b linked. joins_live g lawful a b (has_link-filter keeps g.links a b linked).0);
  few_parents = λ c. omega (arith, parent_count-filter keeps g.links c, lawful.few_parents c);
  no_cycle = fewer_no_cycle g.links (filter keeps g.links) (λ a b linked. (has_link-filter keeps g.links a b linked).0) lawful.no_cycle;
}
  where
    keeps : Link → Bool
    keeps l = not (is_link class parent l)

-- rows with nothing in them
pub LawfulRows-replicate : (rows : List Row) (n : ℕ) (row : Row) → rows ≡ replicate n row → n ≡ CLASSES → row.is_live ≡ false → row.parents.items ≡ [] → LawfulRows rows
LawfulRows-replicate rows n row same all not_live none = record {
  count = ap length same ∙ length-replicate n row ∙ all;
  lawful = subst LawfulGraph (sym (ap graph_of same ∙ graph_of-replicate n row not_live none)) empty_lawful;
}
