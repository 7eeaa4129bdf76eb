-- The numbering that drawing all nodes above a draft's words makes.
use Rattle.std.proofs.Common.{◌≡◌, ◌≢◌, ◌⊎◌, ◌↔◌, ℕ, zero, suc, ◌%◌, ◌<◌, ◌≤◌, nat_lt, Bool, true, false, List, [], ◌∷◌, length, get_or, Option, Some, None, unwrap_or, refl, sym, ap, subst, ◌∙◌, inl, inr, arith, true≢false, ltb-true, ltb-false}
use native.Mathlib.Decide.{ℕ_discrete}
use Rattle.std.specs.FinMap.{get}
use Rattle.dt_pages.specs.Reading.{addresses}
use Rattle.dt_pages.specs.Draft.{Drafted, laid_over}
use Rattle.dt_pages.specs.Numbering.{Numbering, IsNode, child, over, IsNumbering}
use Rattle.dt_pages.specs.Drawing.{Drawing, is_blank_below, changed_nodes, taken, drawn}
use Rattle.dt_pages.proofs.Blank.{all_blank, blank}
use Rattle.dt_pages.proofs.Rising.{In}
use Rattle.dt_pages.proofs.ChangedNodes.{AChange, change_low, nodes_rising, is_node, source, target}
use Rattle.dt_pages.proofs.Drawn.{Drawn, draw_facts}

pub decide_in : (n : ℕ) (xs : List ℕ) → In n xs ⊎ ¬ In n xs
decide_in n [] = inr (λ none. none)
decide_in n (x ∷ xs) = elim (ℕ_discrete n x) [
  | yes same ↦ inl (inl same)
  | no apart ↦ elim (decide_in n xs) [
    | inl there ↦ inl (inr there)
    | inr away ↦ inr (λ found. elim found [ inl same ↦ apart same | inr there ↦ away there ])
  ]
]

-- the pages that are taken, one after the other, are other than those of the nodes, and none is taken twice
pub record AreFresh (numbers : Numbering) (pages : List ℕ) : Type 0 where
  pub other : (j node : ℕ) → IsNode node → numbers node ≢ taken pages j
  pub some : (j : ℕ) → taken pages j ≢ 0
  pub once : (j k : ℕ) → taken pages j ≡ taken pages k → j ≡ k

pub by_option : {G : Type 0} (o : Option ℕ) → (o ≡ None → G) → ((w : ℕ) → o ≡ Some w → G) → G
by_option None f g = f refl
by_option (Some w) f g = g w refl

pub by_bool : {G : Type 0} (b : Bool) → (b ≡ true → G) → (b ≡ false → G) → G
by_bool true f g = f refl
by_bool false f g = g refl

module _ (numbers : Numbering) (drafted : Drafted) (within : (q : ℕ) → addresses ≤ q → get drafted q ≡ None) (numbered : IsNumbering numbers)
    (pages : List ℕ) (fresh : AreFresh numbers pages) where
  abbrev pub nodes : List ℕ
  nodes = changed_nodes numbers drafted

  abbrev pub start : Drawing
  start = record { changes = drafted; written = [] }

  abbrev pub after : Drawing
  after = drawn numbers pages start nodes

  abbrev pub new : Numbering
  new = laid_over after.changes numbers

  pub facts : Drawn numbers pages start after nodes
  facts = draw_facts numbers pages nodes addresses (omega arith) (nodes_rising numbers drafted within) (λ n there. (is_node numbers drafted within n there).1) start

  pub new_change : (q : ℕ) → q < addresses → get after.changes q ≡ get drafted q
  new_change q low = facts.outside q (λ there. let high = (is_node numbers drafted within q there).0 in absurd (omega (arith, low, high)))

  pub new_word : (q : ℕ) → q < addresses → new q ≡ laid_over drafted numbers q
  new_word q low = ap (λ o. unwrap_or o (numbers q)) (new_change q low)

  pub same_out : (q : ℕ) → addresses ≤ q → ¬ In q nodes → new q ≡ numbers q
  same_out q high away = ap (λ o. unwrap_or o (numbers q)) (facts.outside q away ∙ within q high)

  zero_in : (n : ℕ) → In n nodes → is_blank_below new n ≡ true → new n ≡ 0
  zero_in n there is = ap (λ o. unwrap_or o (numbers n)) (facts.blank n there is)

  pub page_in : (n : ℕ) → In n nodes → is_blank_below new n ≡ false → (j : ℕ) × (j < length after.written) × (get_or after.written j 0 ≡ n) × (new n ≡ taken pages j)
  page_in n there is = let f = facts.page n there is in (f.0, f.2, f.3, ap (λ o. unwrap_or o (numbers n)) f.4)

  pub child_of : (q n : ℕ) → over q ≡ n → child n (q % 512) ≡ q
  child_of q n is = omega (arith, is)

  pub over_child : (n at : ℕ) → IsNode n → at < 512 → over (child n at) ≡ n
  over_child n at a_node below = let low = a_node.0 in omega (arith, low, below)

  pub changed_word : (q : ℕ) → AChange numbers drafted within q → new q ≢ numbers q
  changed_word q (w, is, other) same =
      other (sym same ∙ new_word q (change_low numbers drafted within q (w, is, other)) ∙ ap (λ o. unwrap_or o (numbers q)) is)

  differs_up_to : (fuel n : ℕ) → n < fuel → In n nodes → new n ≢ numbers n
  differs_up_to zero n below there same = absurd (omega (arith, below))
  differs_up_to (suc fuel) n below there same =
      by_bool (is_blank_below new n) (when_blank (λ q low inside. differs_up_to fuel q (omega (arith, low, below)) inside)) when_some
    where
      a_node : IsNode n
      a_node = is_node numbers drafted within n there

      when_some : is_blank_below new n ≡ false → ⊥
      when_some is = let f = page_in n there is in fresh.other f.0 n a_node (sym same ∙ f.3)

      when_blank : ((q : ℕ) → q < n → In q nodes → new q ≢ numbers q) → is_blank_below new n ≡ true → ⊥
      when_blank before is =
          let from = source numbers drafted within n there in
          let q : ℕ = from.0 in
          let at : child n (q % 512) ≡ q = child_of q n from.1 in
          let none : new q ≡ 0 = subst (λ (k : ℕ). new k ≡ 0) at (all_blank new n is (q % 512) (omega arith)) in
          let was : numbers q ≡ 0 = subst (λ (k : ℕ). numbers k ≡ 0) at ((numbered.blank n a_node).0 (sym same ∙ zero_in n there is) (q % 512) (omega arith)) in
          let over_is : over q ≡ n = from.1 in
          let low = a_node.0 in
          let high = a_node.1 in
          elim from.2 [
            | inl change ↦ changed_word q change (none ∙ sym was)
            | inr inside ↦ before q (omega (arith, over_is, low, high)) inside (none ∙ sym was)
          ]

  pub differs_in : (n : ℕ) → In n nodes → new n ≢ numbers n
  differs_in n there = differs_up_to (suc n) n (omega arith) there

  pub child_changes : (n : ℕ) → In n nodes → (at : ℕ) × (at < 512) × (new (child n at) ≢ numbers (child n at))
  child_changes n there =
      let from = source numbers drafted within n there in
      let q : ℕ = from.0 in
      let at : child n (q % 512) ≡ q = child_of q n from.1 in
      (q % 512, omega arith, subst (λ (k : ℕ). new k ≢ numbers k) (sym at) (elim from.2 [ inl change ↦ changed_word q change | inr inside ↦ differs_in q inside ]))

  pub word_changes : (q : ℕ) → q < addresses → new q ≢ numbers q → AChange numbers drafted within q
  word_changes q low other = by_option (get drafted q)
      (λ none. absurd (other (new_word q low ∙ ap (λ o. unwrap_or o (numbers q)) none)))
      (λ w is. (w, is, λ same. other (new_word q low ∙ ap (λ o. unwrap_or o (numbers q)) is ∙ sym same)))

  pub change_in : (n at : ℕ) → IsNode n → at < 512 → new (child n at) ≢ numbers (child n at) → In n nodes
  change_in n at a_node below other = by_bool (nat_lt (child n at) addresses)
      (λ low. target numbers drafted within (child n at) n a_node (over_child n at a_node below) (inl (word_changes (child n at) (ltb-true (child n at) addresses low) other)))
      (λ high. elim (decide_in (child n at) nodes) [
        | inl there ↦ target numbers drafted within (child n at) n a_node (over_child n at a_node below) (inr there)
        | inr away ↦ absurd (other (same_out (child n at) (ltb-false (child n at) addresses high) away))
      ])

  children_stay : (n : ℕ) → IsNode n → ¬ In n nodes → (at : ℕ) → at < 512 → new (child n at) ≡ numbers (child n at)
  children_stay n a_node away at below = elim (ℕ_discrete (new (child n at)) (numbers (child n at))) [
    | yes same ↦ same
    | no other ↦ absurd (away (change_in n at a_node below other))
  ]

  pub keeps : (n : ℕ) → IsNode n → (new n ≡ numbers n) ↔ ((at : ℕ) → at < 512 → new (child n at) ≡ numbers (child n at))
  keeps n a_node = elim (decide_in n nodes) [
    | inl there ↦ (
      (λ same. absurd (differs_in n there same)),
      (λ all. let f = child_changes n there in absurd (f.2 (all f.0 f.1))),
    )
    | inr away ↦ ((λ same. children_stay n a_node away), (λ all. same_out n a_node.0 away))
  ]

  pub blank_new : (n : ℕ) → IsNode n → (new n ≡ 0) ↔ ((at : ℕ) → at < 512 → new (child n at) ≡ 0)
  blank_new n a_node = elim (decide_in n nodes) [
    | inl there ↦ by_bool (is_blank_below new n)
        (λ is. ((λ none. all_blank new n is), (λ all. zero_in n there is)))
        (λ is. let f = page_in n there is in (
          (λ none. absurd (fresh.some f.0 (sym f.3 ∙ none))),
          (λ all. absurd (true≢false (sym (blank new n all) ∙ is))),
        ))
    | inr away ↦ (
      (λ none at below. children_stay n a_node away at below ∙ (numbered.blank n a_node).0 (sym (same_out n a_node.0 away) ∙ none) at below),
      (λ all. same_out n a_node.0 away ∙ (numbered.blank n a_node).1 (λ at below. sym (children_stay n a_node away at below) ∙ all at below)),
    )
  ]

  -- a node of these that has a page has one of those that are taken
  pub some_page : (n : ℕ) → In n nodes → new n ≢ 0 → (j : ℕ) × (j < length after.written) × (get_or after.written j 0 ≡ n) × (new n ≡ taken pages j)
  some_page n there some = by_bool (is_blank_below new n) (λ is. absurd (some (zero_in n there is))) (λ is. page_in n there is)

  pub once_new : (n m : ℕ) → IsNode n → IsNode m → new n ≢ 0 → new n ≡ new m → n ≡ m
  once_new n m a b some same = elim (decide_in n nodes) [
    | inl n_in ↦ elim (decide_in m nodes) [
      | inl m_in ↦
          let f = some_page n n_in some in
          let g = some_page m m_in (λ none. some (same ∙ none)) in
          let turn : f.0 ≡ g.0 = fresh.once f.0 g.0 (sym f.3 ∙ same ∙ g.3) in
          sym f.2 ∙ ap (λ j. get_or after.written j 0) turn ∙ g.2
      | inr m_out ↦
          let f = some_page n n_in some in
          absurd (fresh.other f.0 m b (sym (same_out m b.0 m_out) ∙ sym same ∙ f.3))
    ]
    | inr n_out ↦ elim (decide_in m nodes) [
      | inl m_in ↦
          let g = some_page m m_in (λ none. some (same ∙ none)) in
          absurd (fresh.other g.0 n a (sym (same_out n a.0 n_out) ∙ same ∙ g.3))
      | inr m_out ↦ numbered.once n m a b (λ none. some (same_out n a.0 n_out ∙ none)) (sym (same_out n a.0 n_out) ∙ same ∙ same_out m b.0 m_out)
    ]
  ]
