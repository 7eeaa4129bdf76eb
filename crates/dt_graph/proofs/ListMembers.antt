-- Which elements stand in a list, which of them a filter keeps, and whether any passes a test.
use Rattle.std.proofs.Common.{◌≡◌, ◌==◌, ℕ, zero, suc, ◌<◌, ◌≤◌, Bool, true, false, ◌&&◌, ◌||◌, cond, List, [], ◌∷◌, ◌++◌, length, map, get_or, ◌⊎◌, inl, inr, ⊎_elim, refl, sym, ap, subst, ◌∙◌, arith, All, IsTrue, eqb-true, eq-eqb}
use Rattle.std.specs.List.{Contains, filter, list_any}
use Rattle.std.proofs.lemmas.Bool.{or_parts, or_from, or_cases, or_left, or_right, false≢true}
use Rattle.dt_graph.specs.Graph.{has_number}
use Rattle.std.proofs.lemmas.List.Elements.{All-nil, All-cons, All-head, All-tail, Contains-append_right}

pub by_cases : {G : Type 0} (b : Bool) → (b ≡ true → G) → (b ≡ false → G) → G
by_cases true f g = f refl
by_cases false f g = g refl

-- the element stands in the list
abbrev pub In : {T : Type 0} → List T → T → Type 0
In [] x = ⊥
In (y ∷ ys) x = (x ≡ y) ⊎ In ys x

module _ {T : Type 0} where
  pub In-append : (xs ys : List T) (x : T) → In xs x → In (xs ++ ys) x
  In-append [] ys x i = absurd i
  In-append (z ∷ zs) ys x (inl e) = inl e
  In-append (z ∷ zs) ys x (inr i) = inr (In-append zs ys x i)

  pub In-push : (xs : List T) (x : T) → In (xs ++ x ∷ []) x
  In-push [] x = inl refl
  In-push (z ∷ zs) x = inr (In-push zs x)

  pub Contains-from_In : (xs : List T) (x : T) → In xs x → Contains xs x
  Contains-from_In [] x i = absurd i
  Contains-from_In (z ∷ zs) x (inl e) = (0, omega arith, sym e)
  Contains-from_In (z ∷ zs) x (inr i) = Contains-append_right (z ∷ []) zs x (Contains-from_In zs x i)

  In-at : (xs : List T) (k : ℕ) (d x : T) → k < length xs → get_or xs k d ≡ x → In xs x
  In-at [] k d x h e = absurd (omega arith)
  In-at (z ∷ zs) zero d x h e = inl (sym e)
  In-at (z ∷ zs) (suc k) d x h e = inr (In-at zs k d x (omega arith) e)

  pub In-from_Contains : (xs : List T) (x : T) → Contains xs x → In xs x
  In-from_Contains xs x c = In-at xs c.0 x x c.1 c.2

module _ {T : Type 0} where
  pub In-from_append : (xs ys : List T) (x : T) → In (xs ++ ys) x → In xs x ⊎ In ys x
  In-from_append [] ys x i = inr i
  In-from_append (z ∷ zs) ys x (inl e) = inl (inl e)
  In-from_append (z ∷ zs) ys x (inr i) = ⊎_elim (λ a. inl (inr a)) (λ b. inr b) (In-from_append zs ys x i)

  pub In-later : (xs ys : List T) (x : T) → In ys x → In (xs ++ ys) x
  In-later [] ys x i = i
  In-later (z ∷ zs) ys x i = inr (In-later zs ys x i)

module _ {T V : Type 0} (f : T → V) where
  pub In-map : (xs : List T) (x : T) → In xs x → In (map f xs) (f x)
  In-map [] x i = absurd i
  In-map (z ∷ zs) x (inl e) = inl (ap f e)
  In-map (z ∷ zs) x (inr i) = inr (In-map zs x i)

  pub In-from_map : (xs : List T) (v : V) → In (map f xs) v → (x : T) × In xs x × (v ≡ f x)
  In-from_map [] v i = absurd i
  In-from_map (z ∷ zs) v (inl e) = (z, inl refl, e)
  In-from_map (z ∷ zs) v (inr i) = let r = In-from_map zs v i in (r.0, inr r.1, r.2)

module _ {T : Type 0} (p : T → Bool) where
  -- one that passes, and the other way round
  pub any_from_In : (xs : List T) (x : T) → In xs x → p x ≡ true → list_any p xs ≡ true
  any_from_In [] x i t = absurd i
  any_from_In (y ∷ ys) x (inl e) t = or_left (p y) (list_any p ys) (sym (ap p e) ∙ t)
  any_from_In (y ∷ ys) x (inr i) t = or_right (p y) (list_any p ys) (any_from_In ys x i t)

  pub In-from_any : (xs : List T) → list_any p xs ≡ true → (x : T) × In xs x × (p x ≡ true)
  In-from_any [] t = absurd (false≢true t)
  In-from_any (y ∷ ys) t = ⊎_elim
      (λ here. (y, inl refl, here))
      (λ later. let r = In-from_any ys later in (r.0, inr r.1, r.2))
      (or_cases (p y) (list_any p ys) t)

  pub none_at : (xs : List T) (x : T) → In xs x → list_any p xs ≡ false → p x ≡ false
  none_at [] x i n = absurd i
  none_at (y ∷ ys) x (inl e) n = ap p e ∙ (or_parts (p y) (list_any p ys) n).0
  none_at (y ∷ ys) x (inr i) n = none_at ys x i (or_parts (p y) (list_any p ys) n).1

  pub none_from : (xs : List T) → ((x : T) → In xs x → p x ≡ false) → list_any p xs ≡ false
  none_from [] f = refl
  none_from (y ∷ ys) f = or_from (p y) (list_any p ys) (f y (inl refl)) (none_from ys (λ x i. f x (inr i)))

  pub In-filter : (xs : List T) (x : T) → In xs x → p x ≡ true → In (filter p xs) x
  In-filter [] x i e = absurd i
  In-filter (y ∷ ys) x (inl q) e = rw (← q, e) (inl refl)
  In-filter (y ∷ ys) x (inr i) e =
      elim (p y) as (λ v. In (cond v (y ∷ filter p ys) (filter p ys)) x) [ true ↦ inr (In-filter ys x i e) | false ↦ In-filter ys x i e ]

  pub filter_none_in : (xs : List T) → ((x : T) → In xs x → p x ≡ false) → filter p xs ≡ []
  filter_none_in [] f = refl
  filter_none_in (y ∷ ys) f = rw (f y (inl refl)) (filter_none_in ys (λ x i. f x (inr i)))

  -- what a filter keeps was there and passes
  pub In-from_filter : (xs : List T) (x : T) → In (filter p xs) x → In xs x × (p x ≡ true)
  In-from_filter [] x i = absurd i
  In-from_filter (y ∷ ys) x i = by_cases (p y)
      (λ e. ⊎_elim (λ q. (inl q, ap p q ∙ e)) (λ j. let r = In-from_filter ys x j in (inr r.0, r.1)) (rw e at i))
      (λ e. let r = In-from_filter ys x (rw e at i) in (inr r.0, r.1))

-- a number that is listed and passes makes the test of any true, and the other way round
pub any_listed : (test : ℕ → Bool) (numbers : List ℕ) (n : ℕ) → IsTrue (has_number numbers n) → IsTrue (test n) →
    IsTrue (list_any test numbers)
any_listed test numbers n listed passes =
    let i = In-from_any (λ m. m == n) numbers listed in
    any_from_In test numbers i.0 i.1 (subst (λ m. IsTrue (test m)) (sym (eqb-true i.0 n i.2)) passes)

pub listed_any : (test : ℕ → Bool) (numbers : List ℕ) → IsTrue (list_any test numbers) →
    (n : ℕ) × (IsTrue (has_number numbers n) × IsTrue (test n))
listed_any test numbers any =
    let i = In-from_any test numbers any in
    (i.0, (any_from_In (λ m. m == i.0) numbers i.0 i.1 (eq-eqb i.0 i.0 refl), i.2))

module _ {T : Type 0} (P : T → Type 0) where
  -- what holds of all elements holds of each, and the other way round
  pub All-from_In : (xs : List T) → ((x : T) → In xs x → P x) → All P xs
  All-from_In [] f = All-nil P
  All-from_In (y ∷ ys) f = All-cons P y ys (f y (inl refl)) (All-from_In ys (λ x i. f x (inr i)))

  pub All-In : (xs : List T) (x : T) → All P xs → In xs x → P x
  All-In [] x all i = absurd i
  All-In (y ∷ ys) x all (inl e) = subst P (sym e) (All-head P y ys all)
  All-In (y ∷ ys) x all (inr i) = All-In ys x (All-tail P y ys all) i

module _ {T : Type 0} (p q : T → Bool) where
  -- a stronger test keeps no more
  pub filter_fewer : (xs : List T) → ((x : T) → In xs x → p x ≡ true → q x ≡ true) →
      length (filter p xs) ≤ length (filter q xs)
  filter_fewer [] f = omega arith
  filter_fewer (y ∷ ys) f =
      let fewer = filter_fewer ys (λ x i. f x (inr i)) in
      let own = f y (inl refl) in grind arith

  -- tests that agree at each element answer the same of any
  pub list_any_agree_in : (xs : List T) → ((x : T) → In xs x → p x ≡ q x) → list_any p xs ≡ list_any q xs
  list_any_agree_in [] f = refl
  list_any_agree_in (y ∷ ys) f = rw (f y (inl refl), list_any_agree_in ys (λ x i. f x (inr i))) refl

  -- and keep the same elements
  pub filter_agree_in : (xs : List T) → ((x : T) → In xs x → p x ≡ q x) → filter p xs ≡ filter q xs
  filter_agree_in [] f = refl
  filter_agree_in (y ∷ ys) f = rw (f y (inl refl), filter_agree_in ys (λ x i. f x (inr i))) refl

  -- a filter after a weaker one
  pub filter-weaker : (xs : List T) → ((x : T) → p x ≡ true → q x ≡ true) → filter p (filter q xs) ≡ filter p xs
  filter-weaker [] f = refl
  filter-weaker (y ∷ ys) f = let r = filter-weaker ys f in let h = f y in grind arith

module _ {A B : Type 0} (f : A → B) (p : B → Bool) where
  pub filter-map : (xs : List A) → filter p (map f xs) ≡ map f (filter (λ x. p (f x)) xs)
  filter-map [] = refl
  filter-map (x ∷ xs) = let r = filter-map xs in grind arith

  pub list_any-map : (xs : List A) → list_any p (map f xs) ≡ list_any (λ x. p (f x)) xs
  list_any-map [] = refl
  list_any-map (x ∷ xs) = ap (λ v. p (f x) || v) (list_any-map xs)

module _ {A : Type 0} (p q : A → Bool) where
  pub filter-filter : (xs : List A) → filter q (filter p xs) ≡ filter (λ x. p x && q x) xs
  filter-filter [] = refl
  filter-filter (x ∷ xs) = let r = filter-filter xs in grind arith
