-- Laws of used indexes and of the rows of others.
use Rattle.std.proofs.Common.{◌≡◌, ◌≢◌, ◌==◌, ℕ, zero, suc, ◌<◌, ◌≤◌, Bool, true, false, ◌||◌, if◌then◌else◌, List, [], ◌∷◌, ◌++◌, length, refl, sym, ap, subst, ◌∙◌, arith, All}
use Rattle.std.specs.List.{list_any}
use Rattle.std.proofs.lemmas.Bool.{eqb-true, eq-eqb, true≢false}
use Rattle.std.proofs.lemmas.List.Elements.{All-nil, All-cons, All-head, All-tail, All-append}
use Rattle.dt_scratch.specs.declared.reply.Answer.{Answer}
use Rattle.dt_scratch.specs.declared.reply.Answer.TheVariants.{Method, NotUnderstood, Ambiguous}
use Rattle.dt_cells.specs.Held.{Held, IsHeld}
use Rattle.dt_cells.specs.HeldLaws.{by_cases, if_true, if_false}
use Rattle.dt_fit.specs.Rows.{PlacedRow}
use Rattle.dt_placing.specs.Rows.{single, is_understood, indexes_below, is_some, has_index, indexes, others_below}

-- ---- answers

pub understood : (v : Answer) → v ≢ NotUnderstood → is_understood v ≡ true
understood NotUnderstood h = absurd (h refl)
understood Ambiguous h = refl
understood (Method b) h = refl

pub not_understood : (v : Answer) → is_understood v ≡ true → v ≢ NotUnderstood
not_understood NotUnderstood e f = true≢false (sym e)
not_understood Ambiguous e f = true≢false (sym e ∙ ap is_understood f)
not_understood (Method b) e f = true≢false (sym e ∙ ap is_understood f)

-- ---- used indexes

-- what holds of the classes below the bound that understand the selector holds of its indexes
pub all_indexes : (P : ℕ → Type 0) (held : Held) (s n : ℕ) → ((class : ℕ) → class < n → IsHeld held (single s class) → P class)
    → All P (indexes_below held s n)
unfolding indexes_below
all_indexes P held s zero each = All-nil P
all_indexes P held s (suc n) each =
    All-append P (indexes_below held s n) (if is_understood (held (single s n)) then n ∷ [] else [])
    (all_indexes P held s n (λ class below h. each class (omega arith) h))
    (last (is_understood (held (single s n))) refl)
  where
    last : (v : Bool) → is_understood (held (single s n)) ≡ v → All P (if v then n ∷ [] else [])
    last true e = All-cons P n [] (each n (omega arith) (not_understood (held (single s n)) e)) (All-nil P)
    last false e = All-nil P

pub All-parts : {X : Type 0} (P : X → Type 0) (xs ys : List X) → All P (xs ++ ys) → All P xs × All P ys
All-parts P [] ys all = (All-nil P, all)
All-parts P (x ∷ xs) ys all =
    let rest = All-parts P xs ys (All-tail P x (xs ++ ys) all) in
    (All-cons P x xs (All-head P x (xs ++ ys) all) rest.0, rest.1)

-- and what holds of its indexes holds of them
pub of_index : (P : ℕ → Type 0) (held : Held) (s n : ℕ) → All P (indexes_below held s n)
    → (class : ℕ) → class < n → IsHeld held (single s class) → P class
unfolding indexes_below
of_index P held s zero all class below h = absurd (omega arith)
of_index P held s (suc n) all class below h =
    let parts = All-parts P (indexes_below held s n) (if is_understood (held (single s n)) then n ∷ [] else []) all in
    by_cases (class == n)
    (λ t. let same : class ≡ n = eqb-true class n t in
    let has : IsHeld held (single s n) = subst (λ c. IsHeld held (single s c)) same h in
    subst P (sym same) (All-head P n [] (subst (All P) (if_true (is_understood (held (single s n))) (n ∷ []) [] (understood (held (single s n)) has)) parts.1)))
    (λ f. of_index P held s n parts.0 class (smaller f) h)
  where
    smaller : (class == n) ≡ false → class < n
    smaller f = let apart : class ≢ n = (λ e. true≢false (sym (eq-eqb class n e) ∙ f)) in omega (arith, apart)

-- the indexes depend on what is held of the selector alone
pub same_indexes : (held other : Held) (s n : ℕ) → ((class : ℕ) → held (single s class) ≡ other (single s class)) → indexes_below held s n ≡ indexes_below other s n
unfolding indexes_below
same_indexes held other s zero same = refl
same_indexes held other s (suc n) same =
    ap (λ (l : List ℕ). l ++ (if is_understood (held (single s n)) then n ∷ [] else [])) (same_indexes held other s n same)
    ∙ ap (λ (v : Answer). indexes_below other s n ++ (if is_understood v then n ∷ [] else [])) (same n)

none_of : (xs : List ℕ) → is_some xs ≡ false → xs ≡ []
none_of [] e = refl
none_of (x ∷ xs) e = absurd (true≢false e)

pub no_indexes : (held : Held) (s : ℕ) → has_index held s ≡ false → indexes held s ≡ []
no_indexes held s e = none_of (indexes held s) e

-- a class that understands the selector is one of its indexes
pub has_index_of : (held : Held) (s class : ℕ) → class < 2048 → IsHeld held (single s class) → has_index held s ≡ true
has_index_of held s class below h = by_cases (has_index held s) (λ t. t)
    (λ f. absurd (of_index (λ c. ⊥) held s 2048 (subst (All (λ c. ⊥)) (sym (no_indexes held s f)) (All-nil (λ c. ⊥))) class below h))

first_of_all : (P : ℕ → Type 0) (xs : List ℕ) → is_some xs ≡ true → All P xs → (class : ℕ) × P class
first_of_all P [] e all = absurd (true≢false (sym e))
first_of_all P (x ∷ xs) e all = (x, All-head P x xs all)

-- where a selector has an index, some class understands it
pub index_of : (held : Held) (s : ℕ) → has_index held s ≡ true → (class : ℕ) × ((class < 2048) × IsHeld held (single s class))
index_of held s e = first_of_all (λ class. (class < 2048) × IsHeld held (single s class)) (indexes held s) e
    (all_indexes (λ class. (class < 2048) × IsHeld held (single s class)) held s 2048 (λ class below h. (below, h)))

-- ---- the rows of others

-- a test passes for one of them where it passes for the row of another selector
pub one_of_others : (row : ℕ → PlacedRow) (f : PlacedRow → Bool) (s n other : ℕ) → other < n → other ≢ s → f (row other) ≡ true
    → list_any f (others_below row s n) ≡ true
unfolding others_below
one_of_others row f s zero other below apart is = absurd (omega arith)
one_of_others row f s (suc n) other below apart is = by_cases (n == s)
    (λ t. let same : n ≡ s = eqb-true n s t in
    let less : other < n = (let differs : other ≢ n = (λ e. apart (e ∙ same)) in omega (arith, differs)) in
    ap (list_any f) (if_true (n == s) (others_below row s n) (row n ∷ others_below row s n) t)
    ∙ one_of_others row f s n other less apart is)
    (λ g. ap (list_any f) (if_false (n == s) (others_below row s n) (row n ∷ others_below row s n) g)
    ∙ (by_cases (other == n)
    (λ t. let same : other ≡ n = eqb-true other n t in
    ap (λ (v : Bool). v || list_any f (others_below row s n)) (ap (λ k. f (row k)) (sym same) ∙ is))
    (λ h. let less : other < n = (let differs : other ≢ n = (λ e. true≢false (sym (eq-eqb other n e) ∙ h)) in omega (arith, differs)) in
    or_last (f (row n)) (list_any f (others_below row s n)) (one_of_others row f s n other less apart is))))
  where
    or_last : (a b : Bool) → b ≡ true → (a || b) ≡ true
    or_last true b e = refl
    or_last false b e = e

-- where it passes for one of them, there is such a selector
pub other_of : (row : ℕ → PlacedRow) (f : PlacedRow → Bool) (s n : ℕ) → list_any f (others_below row s n) ≡ true
    → (other : ℕ) × ((other < n) × (other ≢ s) × (f (row other) ≡ true))
unfolding others_below
other_of row f s zero e = absurd (true≢false (sym e))
other_of row f s (suc n) e = by_cases (n == s)
    (λ t. let found = other_of row f s n (sym (ap (list_any f) (if_true (n == s) (others_below row s n) (row n ∷ others_below row s n) t)) ∙ e) in
    (found.0, (omega (arith, found.1.0), found.1.1, found.1.2)))
    (λ g. let both : (f (row n) || list_any f (others_below row s n)) ≡ true
    = sym (ap (list_any f) (if_false (n == s) (others_below row s n) (row n ∷ others_below row s n) g)) ∙ e in
    by_cases (f (row n))
    (λ t. (n, (omega arith, (λ same. true≢false (sym (eq-eqb n s same) ∙ g)), t)))
    (λ h. let found = other_of row f s n (sym (ap (λ (v : Bool). v || list_any f (others_below row s n)) h) ∙ both) in
    (found.0, (omega (arith, found.1.0), found.1.1, found.1.2))))

-- a test answers the same for rows for which it answers the same one by one
pub same_others : (row other : ℕ → PlacedRow) (f : PlacedRow → Bool) (s n : ℕ) → ((t : ℕ) → t < n → t ≢ s → f (row t) ≡ f (other t))
    → list_any f (others_below row s n) ≡ list_any f (others_below other s n)
unfolding others_below
same_others row other f s zero same = refl
same_others row other f s (suc n) same = by_cases (n == s)
    (λ t. ap (list_any f) (if_true (n == s) (others_below row s n) (row n ∷ others_below row s n) t)
    ∙ same_others row other f s n (λ k below. same k (omega arith))
    ∙ sym (ap (list_any f) (if_true (n == s) (others_below other s n) (other n ∷ others_below other s n) t)))
    (λ g. ap (list_any f) (if_false (n == s) (others_below row s n) (row n ∷ others_below row s n) g)
    ∙ ap (λ (v : Bool). v || list_any f (others_below row s n)) (same n (omega arith) (λ e. true≢false (sym (eq-eqb n s e) ∙ g)))
    ∙ ap (λ (v : Bool). f (other n) || v) (same_others row other f s n (λ k below. same k (omega arith)))
    ∙ sym (ap (list_any f) (if_false (n == s) (others_below other s n) (other n ∷ others_below other s n) g)))

-- they are fewer than the bound
pub few_others : (row : ℕ → PlacedRow) (s n : ℕ) → length (others_below row s n) ≤ n
unfolding others_below
few_others row s zero = omega arith
few_others row s (suc n) = by_cases (n == s)
    (λ t. let e : length (others_below row s (suc n)) ≡ length (others_below row s n) = ap length (if_true (n == s) (others_below row s n) (row n ∷ others_below row s n) t) in
    omega (arith, e, few_others row s n))
    (λ g. let e : length (others_below row s (suc n)) ≡ suc (length (others_below row s n)) = ap length (if_false (n == s) (others_below row s n) (row n ∷ others_below row s n) g) in
    omega (arith, e, few_others row s n))

pub fewer_others : (row : ℕ → PlacedRow) (s n : ℕ) → s < n → length (others_below row s n) < n
unfolding others_below
fewer_others row s zero below = absurd (omega arith)
fewer_others row s (suc n) below = by_cases (n == s)
    (λ t. let e : length (others_below row s (suc n)) ≡ length (others_below row s n) = ap length (if_true (n == s) (others_below row s n) (row n ∷ others_below row s n) t) in
    omega (arith, e, few_others row s n))
    (λ g. let differs : n ≢ s = (λ e. true≢false (sym (eq-eqb n s e) ∙ g)) in
    let e : length (others_below row s (suc n)) ≡ suc (length (others_below row s n)) = ap length (if_false (n == s) (others_below row s n) (row n ∷ others_below row s n) g) in
    omega (arith, e, fewer_others row s n (omega (arith, differs))))

-- what holds of all rows holds of them
pub all_others : (P : PlacedRow → Type 0) (row : ℕ → PlacedRow) (s n : ℕ) → ((t : ℕ) → P (row t)) → All P (others_below row s n)
unfolding others_below
all_others P row s zero each = All-nil P
all_others P row s (suc n) each = by_cases (n == s)
    (λ t. subst (All P) (sym (if_true (n == s) (others_below row s n) (row n ∷ others_below row s n) t)) (all_others P row s n each))
    (λ g. subst (All P) (sym (if_false (n == s) (others_below row s n) (row n ∷ others_below row s n) g))
    (All-cons P (row n) (others_below row s n) (each n) (all_others P row s n each)))
