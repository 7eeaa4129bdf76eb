-- What is left of the changes of a plan while they are made.
use Rattle.std.proofs.Common.{◌≡◌, ℕ, ◌-◌, ◌<◌, ◌==◌, Bool, ◌||◌, true, false, if◌then◌else◌, List, ◌∷◌, get_or, length, Option, Some, None, is_some, unwrap_or, refl, sym, ap, subst, ◌∙◌, eqb-true}
use Rattle.std.specs.List.Sorted.{IsStrictlySortedBy}
use Rattle.std.proofs.lemmas.Map.Keys.{sorted_tail, sorted_head}
use Rattle.std.specs.Map.{keys_of}
use Rattle.std.specs.Ordering.{nat_cmp}
use Rattle.std.specs.BTreeMap.{BTreeMap}
use Rattle.std.specs.Cmp.{nat_cmp_total}
use Rattle.std.specs.FinMap.{find, get, from_entries, get-from_entries}
use Rattle.dt_pages.specs.Reading.{addresses}
use Rattle.dt_pages.specs.Draft.{Drafted, laid_over}
use Rattle.dt_pages.specs.Numbering.{IsNode}
use Rattle.dt_pages.specs.TreeForm.{TreeForm, word_of_tree, has_room, has_either, AreRooms}
use Rattle.dt_pages.proofs.Numbers.{by_cases}
use Rattle.dt_pages.proofs.Laying.{find_here, find_other, none_later}

-- one position more has its value
value_more : (at value : ℕ) (left : List (ℕ × ℕ)) → IsStrictlySortedBy nat_cmp (keys_of ((at, value) ∷ left)) → (q before now : ℕ)
    → now ≡ (if q == at then value else before) → unwrap_or (find nat_cmp q left) now ≡ unwrap_or (find nat_cmp q ((at, value) ∷ left)) before
value_more at value left sorted q before now is = by_cases (q == at)
    (λ t. let e : q ≡ at = eqb-true q at t in
    ap (λ (o : Option ℕ). unwrap_or o now) (subst (λ (n : ℕ). find nat_cmp n left ≡ None) (sym e) (none_later at left (sorted_head nat_cmp at (keys_of left) sorted)))
    ∙ is ∙ ap (λ b. if b then value else before) t
    ∙ sym (ap (λ (o : Option ℕ). unwrap_or o before) (find_here at value left q e)))
    (λ f. ap (unwrap_or (find nat_cmp q left)) (is ∙ ap (λ b. if b then value else before) f)
    ∙ sym (ap (λ (o : Option ℕ). unwrap_or o before) (find_other at value left q f)))

-- what is found later is found already
found_before : (at value : ℕ) (left : List (ℕ × ℕ)) → IsStrictlySortedBy nat_cmp (keys_of ((at, value) ∷ left)) → (q found : ℕ)
    → find nat_cmp q left ≡ Some found → find nat_cmp q ((at, value) ∷ left) ≡ Some found
found_before at value left sorted q found is = by_cases (q == at)
    (λ t. let e : q ≡ at = eqb-true q at t in
    let none : find nat_cmp q left ≡ None = subst (λ (n : ℕ). find nat_cmp n left ≡ None) (sym e) (none_later at left (sorted_head nat_cmp at (keys_of left) sorted)) in
    absurd (some_none found (find nat_cmp q left) is none))
    (λ f. find_other at value left q f ∙ is)
  where
    some_none : (v : ℕ) (o : Option ℕ) → o ≡ Some v → o ≡ None → ⊥
    some_none v o e f = cc

some_before : (at value : ℕ) (left : List (ℕ × ℕ)) (q : ℕ) → is_some (find nat_cmp q left) ≡ true → is_some (find nat_cmp q ((at, value) ∷ left)) ≡ true
some_before at value left q is = by_cases (q == at)
    (λ t. ap is_some (find_here at value left q (eqb-true q at t)))
    (λ f. ap is_some (find_other at value left q f) ∙ is)

-- the map's entries, in order, have what it has
found_of : (m : BTreeMap ℕ ℕ) (changes : Drafted) (es : List (ℕ × ℕ)) → from_entries m.entries ≡ changes → es ≡ m.entries → (q : ℕ) → find nat_cmp q es ≡ get changes q
found_of m changes es is all q = ap (find nat_cmp q) all ∙ sym (get-from_entries nat_cmp_total m.entries q) ∙ ap (λ (d : Drafted). get d q) is

-- all words of the changes were laid but those that are left
pub record LayingFrom (changes : Drafted) (left : List (ℕ × ℕ)) (start now rooms : TreeForm) : Type 0 where
  pub count : length now ≡ 512
  pub rooms_count : length rooms ≡ 512
  pub zeros : (q : ℕ) → word_of_tree rooms q ≡ 0
  pub words : (q : ℕ) → q < addresses → unwrap_or (find nat_cmp q left) (word_of_tree now q) ≡ laid_over changes (word_of_tree start) q
  pub either : (q : ℕ) → q < addresses → is_some (find nat_cmp q left) ≡ true → has_either now rooms q ≡ true
  pub sorted : IsStrictlySortedBy nat_cmp (keys_of left)

pub laying_start : (m : BTreeMap ℕ ℕ) (changes : Drafted) (es : List (ℕ × ℕ)) (start rooms : TreeForm) → from_entries m.entries ≡ changes → es ≡ m.entries
    → IsStrictlySortedBy nat_cmp (keys_of es) → length start ≡ 512 → AreRooms rooms changes → LayingFrom changes es start start rooms
laying_start m changes es start rooms is all sorted count are = record {
  count = count;
  rooms_count = are.count;
  zeros = are.zeros;
  words = λ q low. ap (λ (o : Option ℕ). unwrap_or o (word_of_tree start q)) (found_of m changes es is all q);
  either = λ q low some. or_second (has_room start q) (has_room rooms q) (are.rooms q low (ap is_some (sym (found_of m changes es is all q)) ∙ some));
  sorted = sorted;
}
  where
    or_second : (a b : Bool) → b ≡ true → (a || b) ≡ true
    or_second true b e = refl
    or_second false b e = e

pub laying_room : (changes : Drafted) (at word : ℕ) (all left : List (ℕ × ℕ)) (start now rooms : TreeForm) → all ≡ (at, word) ∷ left
    → LayingFrom changes all start now rooms → at < addresses → has_either now rooms at ≡ true
laying_room changes at word all left start now rooms is before low =
    before.either at low (ap is_some (ap (find nat_cmp at) is ∙ find_here at word left at refl))

pub laying_more : (changes : Drafted) (at word : ℕ) (all left : List (ℕ × ℕ)) (start now rooms new other : TreeForm) → all ≡ (at, word) ∷ left
    → LayingFrom changes all start now rooms → length new ≡ 512 → length other ≡ 512 → ((q : ℕ) → word_of_tree other q ≡ 0)
    → ((q : ℕ) → q < addresses → word_of_tree new q ≡ (if q == at then word else word_of_tree now q))
    → ((q : ℕ) → has_either new other q ≡ has_either now rooms q) → LayingFrom changes left start new other
laying_more changes at word all left start now rooms new other is before count other_count zeros set same =
    let was : LayingFrom changes ((at, word) ∷ left) start now rooms = subst (λ es. LayingFrom changes es start now rooms) is before in
    record {
      count = count;
      rooms_count = other_count;
      zeros = zeros;
      words = λ q low. value_more at word left was.sorted q (word_of_tree now q) (word_of_tree new q) (set q low) ∙ was.words q low;
      either = λ q low some. same q ∙ was.either q low (some_before at word left q some);
      sorted = sorted_tail nat_cmp at (keys_of left) was.sorted;
    }

-- all numbers of the changes were set but those that are left
pub record Renumbering (changes : Drafted) (left : List (ℕ × ℕ)) (start now : List ℕ) : Type 0 where
  pub count : length now ≡ 262657
  pub numbers : (node : ℕ) → IsNode node → unwrap_or (find nat_cmp node left) (get_or now (node - addresses) 0) ≡ unwrap_or (get changes node) (get_or start (node - addresses) 0)
  pub in_range : (node number : ℕ) → IsNode node → find nat_cmp node left ≡ Some number → number < 65536
  pub sorted : IsStrictlySortedBy nat_cmp (keys_of left)

pub renumbering_start : (m : BTreeMap ℕ ℕ) (changes : Drafted) (es : List (ℕ × ℕ)) (start : List ℕ) → from_entries m.entries ≡ changes → es ≡ m.entries
    → IsStrictlySortedBy nat_cmp (keys_of es) → length start ≡ 262657
    → ((node number : ℕ) → IsNode node → get changes node ≡ Some number → number < 65536) → Renumbering changes es start start
renumbering_start m changes es start is all sorted count low = record {
  count = count;
  numbers = λ node a_node. ap (λ (o : Option ℕ). unwrap_or o (get_or start (node - addresses) 0)) (found_of m changes es is all node);
  in_range = λ node number a_node found. low node number a_node (sym (found_of m changes es is all node) ∙ found);
  sorted = sorted;
}

pub renumbering_low : (changes : Drafted) (at number : ℕ) (all left : List (ℕ × ℕ)) (start now : List ℕ) → all ≡ (at, number) ∷ left
    → Renumbering changes all start now → IsNode at → number < 65536
renumbering_low changes at number all left start now is before a_node =
    before.in_range at number a_node (ap (find nat_cmp at) is ∙ find_here at number left at refl)

pub renumbering_more : (changes : Drafted) (at number : ℕ) (all left : List (ℕ × ℕ)) (start now new : List ℕ) → all ≡ (at, number) ∷ left
    → Renumbering changes all start now → length new ≡ 262657
    → ((node : ℕ) → IsNode node → get_or new (node - addresses) 0 ≡ (if node == at then number else get_or now (node - addresses) 0))
    → Renumbering changes left start new
renumbering_more changes at number all left start now new is before count set =
    let was : Renumbering changes ((at, number) ∷ left) start now = subst (λ es. Renumbering changes es start now) is before in
    record {
      count = count;
      numbers = λ node a_node. value_more at number left was.sorted node (get_or now (node - addresses) 0) (get_or new (node - addresses) 0) (set node a_node) ∙ was.numbers node a_node;
      in_range = λ node found a_node there. was.in_range node found a_node (found_before at number left was.sorted node found there);
      sorted = sorted_tail nat_cmp at (keys_of left) was.sorted;
    }
