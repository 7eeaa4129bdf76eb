-- Which numbers and links stand in a list after one is placed there or some are left out.
use Rattle.std.proofs.Common.{◌≡◌, ◌==◌, ℕ, ◌+◌, ◌≤◌, Bool, true, cond, ◌||◌, ◌&&◌, IsTrue, List, [], ◌∷◌, length, filter, refl, sym, ap, subst, ◌∙◌, ◌⊎◌, inl, inr, ⊎_elim, eqb-true, eq-eqb, arith, All}
use Rattle.std.proofs.lemmas.Bool.{or_cases, and_parts, and_from}
use Rattle.std.proofs.lemmas.Bool.Decides.{nat_tests}
use Rattle.dt_graph.specs.Graph.{Link, has_number, is_link, has_link, parent_count, insert_number, insert_link, insert_links}
use Rattle.dt_graph.proofs.ListMembers.{any_from_In, In-from_any, All-from_In, All-In}
use Rattle.dt_graph.proofs.ParentLists.{parent_count-cons}

-- ---- what holds of each number or link of a list

pub each_number : (P : ℕ → Type 0) (numbers : List ℕ) → All P numbers → (n : ℕ) → IsTrue (has_number numbers n) → P n
each_number P numbers all n listed =
    let i = In-from_any (λ m. m == n) numbers listed in subst P (eqb-true i.0 n i.2) (All-In P numbers i.0 all i.1)

pub all_numbers : (P : ℕ → Type 0) (numbers : List ℕ) → ((n : ℕ) → IsTrue (has_number numbers n) → P n) → All P numbers
all_numbers P numbers each = All-from_In P numbers (λ n i. each n (any_from_In (λ m. m == n) numbers n i (eq-eqb n n refl)))

is_link-equal : (a b : ℕ) (link : Link) → IsTrue (is_link a b link) → link ≡ record { class = a; parent = b }
is_link-equal a b link same =
    let ends = and_parts (link.class == a) (link.parent == b) same in
    let class : link.class ≡ a = eqb-true link.class a ends.0 in
    let parent : link.parent ≡ b = eqb-true link.parent b ends.1 in
    rw (sym class, sym parent) refl

pub each_link : (P : ℕ → ℕ → Type 0) (links : List Link) → All (λ link. P link.class link.parent) links → (a b : ℕ) → IsTrue (has_link links a b) → P a b
each_link P links all a b listed =
    let i = In-from_any (is_link a b) links listed in
    subst (λ (l : Link). P l.class l.parent) (is_link-equal a b i.0 i.2) (All-In (λ l. P l.class l.parent) links i.0 all i.1)

pub all_links : (P : ℕ → ℕ → Type 0) (links : List Link) → ((a b : ℕ) → IsTrue (has_link links a b) → P a b) → All (λ link. P link.class link.parent) links
all_links P links each = All-from_In (λ l. P l.class l.parent) links (λ l i. each l.class l.parent (any_from_In (is_link l.class l.parent) links l i
    (and_from _ _ (eq-eqb l.class l.class refl) (eq-eqb l.parent l.parent refl))))

-- ---- after one more is placed

pub has_number-placed : (new : ℕ) (numbers : List ℕ) (n : ℕ) → has_number (insert_number new numbers) n ≡ ((new == n) || has_number numbers n)
has_number-placed new [] n = refl
has_number-placed new (x ∷ numbers) n = let h = has_number-placed new numbers n in grind (arith, nat_tests)

pub has_link-placed : (link : Link) (links : List Link) (a b : ℕ) → has_link (insert_link link links) a b ≡ has_link (link ∷ links) a b
has_link-placed link [] a b = refl
has_link-placed link (l ∷ links) a b = let h = has_link-placed link links a b in grind (arith, nat_tests)

pub has_link-all_placed : (class : ℕ) (parents : List ℕ) (links : List Link) (a b : ℕ) → has_link (insert_links class parents links) a b ≡ (((class == a) && has_number parents b) || has_link links a b)
has_link-all_placed class [] links a b = grind arith
has_link-all_placed class (p ∷ parents) links a b =
    let link : Link = record { class = class; parent = p } in
    let rest = has_link-all_placed class parents (insert_link link links) a b in
    let one = has_link-placed link links a b in grind arith

-- a link after links to these parents were placed is one of them, or was there
pub has_link-each_placed : (class : ℕ) (parents : List ℕ) (links : List Link) (a b : ℕ) → IsTrue (has_link (insert_links class parents links) a b) → ((class ≡ a) × IsTrue (has_number parents b)) ⊎ IsTrue (has_link links a b)
has_link-each_placed class parents links a b listed = ⊎_elim
    (λ own. let ends = and_parts (class == a) (has_number parents b) own in inl (eqb-true class a ends.0, ends.1))
    (λ old. inr old)
    (or_cases ((class == a) && has_number parents b) (has_link links a b) (sym (has_link-all_placed class parents links a b) ∙ listed))

-- ---- after some are left out

pub has_number-filtered : (test : ℕ → Bool) (numbers : List ℕ) (n : ℕ) → has_number (filter test numbers) n ≡ (has_number numbers n && test n)
has_number-filtered test [] n = refl
has_number-filtered test (x ∷ numbers) n =
    let h = has_number-filtered test numbers n in
    let own : IsTrue (x == n) → test x ≡ test n = λ here. ap test (eqb-true x n here) in grind arith

pub has_number-filter : (test : ℕ → Bool) (numbers : List ℕ) (n : ℕ) → IsTrue (has_number (filter test numbers) n) → IsTrue (has_number numbers n) × (test n ≡ true)
has_number-filter test numbers n kept = and_parts (has_number numbers n) (test n) (sym (has_number-filtered test numbers n) ∙ kept)

pub has_number-kept : (test : ℕ → Bool) (numbers : List ℕ) (n : ℕ) → IsTrue (has_number numbers n) → test n ≡ true → IsTrue (has_number (filter test numbers) n)
has_number-kept test numbers n listed passes = has_number-filtered test numbers n ∙ and_from (has_number numbers n) (test n) listed passes

pub has_link-filtered : (test : Link → Bool) (links : List Link) (a b : ℕ) → has_link (filter test links) a b ≡ (has_link links a b && test (record { class = a; parent = b }))
has_link-filtered test [] a b = refl
has_link-filtered test (link ∷ links) a b =
    let h = has_link-filtered test links a b in
    let own : IsTrue (is_link a b link) → test link ≡ test (record { class = a; parent = b }) = λ here. ap test (is_link-equal a b link here) in grind arith

pub has_link-filter : (test : Link → Bool) (links : List Link) (a b : ℕ) → IsTrue (has_link (filter test links) a b) → IsTrue (has_link links a b) × (test (record { class = a; parent = b }) ≡ true)
has_link-filter test links a b kept =
    and_parts (has_link links a b) (test (record { class = a; parent = b })) (sym (has_link-filtered test links a b) ∙ kept)

-- ---- how many parents a class has then

pub parent_count-placed : (link : Link) (links : List Link) (class : ℕ) → parent_count (insert_link link links) class ≤ cond (link.class == class) 1 0 + parent_count links class
parent_count-placed link [] class = omega (arith, parent_count-cons link [] class)
parent_count-placed link (l ∷ links) class =
    let first = parent_count-cons link (l ∷ links) class in
    let here = parent_count-cons link links class in
    let own = parent_count-cons l links class in
    let later = parent_count-cons l (insert_link link links) class in
    let rest = parent_count-placed link links class in grind arith

pub parent_count-each_placed : (class : ℕ) (parents : List ℕ) (links : List Link) (c : ℕ) → parent_count (insert_links class parents links) c ≤ cond (class == c) (length parents) 0 + parent_count links c
parent_count-each_placed class [] links c = omega arith
parent_count-each_placed class (p ∷ parents) links c =
    let link : Link = record { class = class; parent = p } in
    let more = parent_count-each_placed class parents (insert_link link links) c in
    let one = parent_count-placed link links c in
    grind arith

pub parent_count-filter : (test : Link → Bool) (links : List Link) (class : ℕ) → parent_count (filter test links) class ≤ parent_count links class
parent_count-filter test [] class = omega arith
parent_count-filter test (l ∷ links) class =
    let kept = parent_count-cons l (filter test links) class in
    let own = parent_count-cons l links class in
    let rest = parent_count-filter test links class in grind arith

-- one is placed, so there is one more at most
pub length-placed : (new : ℕ) (numbers : List ℕ) → length (insert_number new numbers) ≤ length numbers + 1
length-placed new [] = omega arith
length-placed new (n ∷ numbers) = let h = length-placed new numbers in grind (arith, nat_tests)
