-- Below as a relation and below as a test agree: the test holds of a class and itself, and along a link.
use Rattle.std.proofs.Common.{◌≡◌, ◌==◌, ℕ, Bool, ◌&&◌, IsTrue, ◌↔◌, List, [], ◌∷◌, ◌++◌, ⊎_elim, refl, sym, ap, subst, ◌∙◌, eqb-true, eq-eqb, arith}
use Rattle.std.proofs.lemmas.Bool.{or_cases, or_left, or_right, and_parts, and_from, false≢true}
use Rattle.dt_graph.specs.Graph.{Link, is_link, has_link}
use Rattle.dt_graph.specs.Below.{Leads, IsBelow, is_below}

-- every link of the first list stands in the second
abbrev pub LinksIn : List Link → List Link → Type 0
LinksIn links more = (a b : ℕ) → IsTrue (has_link links a b) → IsTrue (has_link more a b)

-- steps along links are steps along more links
pub Leads_more : (links more : List Link) → LinksIn links more → (steps : List ℕ) (a b : ℕ) → Leads links a steps b → Leads more a steps b
Leads_more links more in_more [] a b leads = leads
Leads_more links more in_more (s ∷ steps) a b leads = (in_more a s leads.0, Leads_more links more in_more steps s b leads.1)

pub IsBelow_more : (links more : List Link) → LinksIn links more → (a b : ℕ) → IsBelow links a b → IsBelow more a b
IsBelow_more links more in_more a b below = (below.0, Leads_more links more in_more below.0 a b below.1)

LinksIn-cons : (link : Link) (links : List Link) → LinksIn links (link ∷ links)
LinksIn-cons link links = λ a b h. or_right (is_link a b link) (has_link links a b) h

-- steps to a class, a link on from it, and steps from there
Leads-append : (links : List Link) (front : List ℕ) (a m p : ℕ) (back : List ℕ) (b : ℕ) → Leads links a front m → IsTrue (has_link links m p) → Leads links p back b → Leads links a (front ++ p ∷ back) b
Leads-append links [] a m p back b first link second =
    (let P : ℕ → Type 0 = λ n. IsTrue (has_link links n p) in subst P (sym first) link, second)
Leads-append links (s ∷ front) a m p back b first link second =
    (first.0, Leads-append links front s m p back b first.1 link second)

-- a link's own ends are joined by it
is_link_self : (link : Link) → IsTrue (is_link link.class link.parent link)
is_link_self link = and_from _ _ (eq-eqb link.class link.class refl) (eq-eqb link.parent link.parent refl)

-- where the test holds, there are steps
pub IsBelow-from_test : (links : List Link) (a b : ℕ) → IsTrue (is_below links a b) → IsBelow links a b
IsBelow-from_test [] a b test = ([], eqb-true a b test)
IsBelow-from_test (link ∷ links) a b test = ⊎_elim
    (λ left. IsBelow_more links (link ∷ links) (LinksIn-cons link links) a b (IsBelow-from_test links a b left))
    (λ right.
    let both = and_parts (is_below links a link.class) (is_below links link.parent b) right in
    let first = IsBelow_more links (link ∷ links) (LinksIn-cons link links) a link.class (IsBelow-from_test links a link.class both.0) in
    let second = IsBelow_more links (link ∷ links) (LinksIn-cons link links) link.parent b (IsBelow-from_test links link.parent b both.1) in
    (first.0 ++ link.parent ∷ second.0, Leads-append (link ∷ links) first.0 a link.class link.parent second.0 b first.1 (or_left _ _ (is_link_self link)) second.1))
    (or_cases (is_below links a b) (is_below links a link.class && is_below links link.parent b) test)

-- each class is below itself
pub is_below_self : (links : List Link) (a : ℕ) → IsTrue (is_below links a a)
is_below_self [] a = eq-eqb a a refl
is_below_self (link ∷ links) a = or_left _ _ (is_below_self links a)

-- a class is below whatever its parent is below
pub is_below_step : (links : List Link) (a b c : ℕ) → IsTrue (has_link links a b) → IsTrue (is_below links b c) → IsTrue (is_below links a c)
is_below_step [] a b c linked test = absurd (false≢true linked)
is_below_step (link ∷ links) a b c linked test =
    let own : IsTrue (is_link a b link) → IsTrue (is_below links a link.class) = λ here.
    subst (λ n. IsTrue (is_below links a n)) (sym (eqb-true link.class a (and_parts (link.class == a) (link.parent == b) here).0)) (is_below_self links a) in
    let on : IsTrue (is_link a b link) → is_below links link.parent c ≡ is_below links b c = λ here.
    ap (λ n. is_below links n c) (eqb-true link.parent b (and_parts (link.class == a) (link.parent == b) here).1) in
    let direct = is_below_step links a b c in
    let through = is_below_step links a b link.class in grind arith

-- where there are steps, the test holds
pub is_below-from_steps : (links : List Link) (steps : List ℕ) (a b : ℕ) → Leads links a steps b → IsTrue (is_below links a b)
is_below-from_steps links [] a b leads = (let P : ℕ → Type 0 = λ n. IsTrue (is_below links a n) in subst P leads (is_below_self links a))
is_below-from_steps links (s ∷ steps) a b leads =
    is_below_step links a s b leads.0 (is_below-from_steps links steps s b leads.1)

-- the test is true exactly where the relation holds
pub below_agrees : (links : List Link) (a b : ℕ) → IsTrue (is_below links a b) ↔ IsBelow links a b
below_agrees links a b = (IsBelow-from_test links a b, λ below. is_below-from_steps links below.0 a b below.1)

-- what is below something below a class is below the class
pub is_below_trans : (links : List Link) (a b c : ℕ) → IsTrue (is_below links a b) → IsTrue (is_below links b c) → IsTrue (is_below links a c)
is_below_trans links a b c first second =
    let steps = IsBelow-from_test links a b first in
    go steps.0 a steps.1
  where
    go : (steps : List ℕ) (a : ℕ) → Leads links a steps b → IsTrue (is_below links a c)
    go [] a leads = (let P : ℕ → Type 0 = λ n. IsTrue (is_below links n c) in subst P (sym leads) second)
    go (s ∷ steps) a leads = is_below_step links a s c leads.0 (go steps s leads.1)

-- more links keep what is below
pub is_below_more : (links more : List Link) → LinksIn links more → (a b : ℕ) → IsTrue (is_below links a b) → IsTrue (is_below more a b)
is_below_more links more in_more a b test =
    let steps = IsBelow-from_test links a b test in
    is_below-from_steps more steps.0 a b (Leads_more links more in_more steps.0 a b steps.1)

-- an answer that is the test's
pub below_answers : (links : List Link) (a b : ℕ) (answer : Bool) → answer ≡ is_below links a b → IsTrue answer ↔ IsBelow links a b
below_answers links a b answer same =
    (λ holds. IsBelow-from_test links a b (sym same ∙ holds), λ below. same ∙ is_below-from_steps links below.0 a b below.1)
