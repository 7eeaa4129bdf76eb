-- Lists under a strict order: the elements that have none less than them.
use Rattle.std.proofs.Common.{◌≡◌, Bool, true, false, not, List, [], ◌∷◌, ◌++◌, length, append-nil, ◌⊎◌, inl, inr, ⊎_elim, refl, sym, ap, ◌∙◌, subst, arith}
use Rattle.std.specs.List.{filter, list_any}
use Rattle.std.proofs.lemmas.Bool.{both_ways, or_from, false_from_ne_true, true_from_ne_false, not_from_false}
use Rattle.std.proofs.lemmas.List.Elements.{filter-append}
use Rattle.dt_graph.proofs.ListMembers.{by_cases, filter_none_in, In, In-filter, In-from_filter, none_at, filter_agree_in, filter-weaker}

-- none of the list is less than the element
abbrev pub none_less : {T : Type 0} → (T → T → Bool) → List T → T → Bool
none_less less xs x = not (list_any (λ other. less other x) xs)

-- those of the list that have none less than them
abbrev pub least : {T : Type 0} → (T → T → Bool) → List T → List T
least less xs = filter (none_less less xs) xs

pub record IsStrict {T : Type 0} (less : T → T → Bool) : Type 0 where
  pub irreflexive : (x : T) → less x x ≡ false
  pub transitive : (x y z : T) → less x y ≡ true → less y z ≡ true → less x z ≡ true

-- of a list with one element each is that one
one_alone : {T : Type 0} (xs : List T) → length xs ≡ 1 → (x : T) → In xs x → xs ≡ x ∷ []
one_alone [] n x i = absurd i
one_alone (y ∷ []) n x (inl q) = ap (λ v. v ∷ []) (sym q)
one_alone (y ∷ []) n x (inr i) = absurd i
one_alone (y ∷ z ∷ xs) n x i = absurd (omega (arith, n))

module _ {T : Type 0} (less : T → T → Bool) (strict : IsStrict less) where
  pub not_back : (x y : T) → less x y ≡ true → less y x ≡ false
  not_back x y e = let back = strict.transitive x y x e in let own = strict.irreflexive x in grind arith

  -- from an element one comes down to one that none of the list is less than
  pub record Descends (zs : List T) (m r : T) : Type 0 where
    pub down : (r ≡ m) ⊎ (less r m ≡ true)
    pub among : In (m ∷ zs) r
    pub none : list_any (λ z. less z r) zs ≡ false

  pub descend : (zs : List T) (m : T) → (r : T) × Descends zs m r
  descend [] m = (m, record { down = inl refl; among = inl refl; none = refl })
  descend (z ∷ zs) m = by_cases (less z m)
      (λ e. let d = descend zs z in (
        d.0,
        record {
          down = inr (⊎_elim (λ q. rw q e) (λ l. strict.transitive d.0 z m l e) d.1.down);
          among = inr d.1.among;
          none = or_from _ _ (⊎_elim (λ q. rw q (strict.irreflexive z)) (λ l. not_back d.0 z l) d.1.down) d.1.none;
        },
      ))
      (λ e. let d = descend zs m in (
        d.0,
        record {
          down = d.1.down;
          among = ⊎_elim (λ q. inl q) (λ i. inr (inr i)) d.1.among;
          none = or_from _ _ (⊎_elim (λ q. rw q e)
              (λ l. let t = strict.transitive z d.0 m in let back : less z d.0 ≡ false = grind arith in back) d.1.down) d.1.none;
        },
      ))

  -- where none is left over, there was none
  pub none_least : (xs : List T) → least less xs ≡ [] → xs ≡ []
  none_least [] e = refl
  none_least (x ∷ xs) e =
      let r = descend (x ∷ xs) x in
      absurd (subst (λ ys. In ys r.0) e (In-filter (none_less less (x ∷ xs)) (x ∷ xs) r.0
      (⊎_elim (λ q. inl q) (λ i. i) r.1.among) (ap not r.1.none)))

  -- an element of a list, and the elements that it isn't less than
  module _ (xs : List T) (c : T) (there : In xs c) where
    -- where it is the only such, it is less than all others
    others_lose : length (filter (λ x. not (less c x)) xs) ≡ 1 → (x : T) → In xs x → (x ≡ c) ⊎ (less c x ≡ true)
    others_lose one x i = by_cases (less c x) (λ l. inr l)
        (λ n. ⊎_elim (λ q. inl q) (λ f. absurd f) (subst (λ ys. In ys x)
        (one_alone _ one c (In-filter (λ y. not (less c y)) xs c there (ap not (strict.irreflexive c))))
        (In-filter (λ y. not (less c y)) xs x i (ap not n))))

    -- so what is less than it, and comes after them, is less than all others too
    pub lower_is_alone : (d : T) → length (filter (λ x. not (less c x)) xs) ≡ 1 → less d c ≡ true →
        length (filter (λ x. not (less d x)) (xs ++ d ∷ [])) ≡ 1
    lower_is_alone d one below =
        rw (
          filter-append (λ x. not (less d x)) xs (d ∷ []),
          filter_none_in (λ x. not (less d x)) xs (λ x i. ap not (⊎_elim (λ q. rw q below)
              (λ l. strict.transitive d c x below l) (others_lose one x i))),
          strict.irreflexive d,
        ) refl

  -- and one that it is less than changes nothing
  pub stays_alone : (xs : List T) (c d : T) → length (filter (λ x. not (less c x)) xs) ≡ 1 → less c d ≡ true →
      length (filter (λ x. not (less c x)) (xs ++ d ∷ [])) ≡ 1
  stays_alone xs c d one below = rw (filter-append (λ x. not (less c x)) xs (d ∷ []), below, append-nil) one

  -- an element that has none less than it, and the elements that it isn't less than
  module _ (xs : List T) (c : T) (is_least : In (least less xs) c) where
    here : In xs c × (none_less less xs c ≡ true)
    here = In-from_filter (none_less less xs) xs c is_least

    beaten : (x : T) → less c x ≡ true → none_less less xs x ≡ false
    beaten x e = ap not (true_from_ne_false _ (λ n. both_ways (less c x) (none_at (λ z. less z x) xs c here.0 n) e))

    -- where it is less than all others, it is the only one that has none less than it
    pub alone : length (filter (λ x. not (less c x)) xs) ≡ 1 → least less xs ≡ c ∷ []
    alone n =
        sym (filter-weaker (none_less less xs) (λ x. not (less c x)) xs (λ x e. not_from_false _ (false_from_ne_true _
        (λ f. both_ways (none_less less xs x) (beaten x f) e))))
        ∙ ap (filter (none_less less xs)) (one_alone _ n c (In-filter _ xs c here.0 (ap not (strict.irreflexive c))))
        ∙ rw here.1 refl

    -- and the other way round
    pub only_least : least less xs ≡ c ∷ [] → (x : T) → In xs x → (x ≡ c) ⊎ (less c x ≡ true)
    only_least e x i =
        let d = descend xs x in
        let is_c : (d.0 ≡ c) ⊎ ⊥ = subst (λ ys. In ys d.0) e (In-filter (none_less less xs) xs d.0
        (⊎_elim (λ q. subst (In xs) (sym q) i) (λ j. j) d.1.among) (ap not d.1.none)) in
        ⊎_elim (λ r. ⊎_elim (λ q. inl (sym q ∙ r)) (λ l. inr (subst (λ v. less v x ≡ true) r l)) d.1.down)
        (λ f. absurd f) is_c

    pub leads : least less xs ≡ c ∷ [] → length (filter (λ x. not (less c x)) xs) ≡ 1
    leads e = ap length (sym (filter_agree_in (none_less less xs) (λ x. not (less c x)) xs
        (λ x i. ⊎_elim (λ q. rw q (here.1 ∙ sym (ap not (strict.irreflexive c)))) (λ l. rw l (beaten x l)) (only_least e x i))) ∙ e)
