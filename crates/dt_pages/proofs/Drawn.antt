-- What drawing nodes makes.
use Rattle.std.proofs.Common.{◌≡◌, ◌≢◌, ℕ, suc, ◌<◌, ◌≤◌, Bool, true, false, not, cond, List, [], ◌∷◌, ◌++◌, filter, length, get_or, Some, unwrap_or, refl, sym, ap, subst, ◌∙◌, inl, inr, arith, eq-eqb, ne_eqb, true≢false}
use Rattle.std.specs.Cmp.{nat_cmp_total}
use Rattle.std.specs.FinMap.{get, insert, get-insert}
use Rattle.std.proofs.lemmas.List.{append-nil, append_assoc}
use Rattle.dt_pages.specs.Reading.{addresses}
use Rattle.dt_pages.specs.Draft.{Drafted, laid_over}
use Rattle.dt_pages.specs.Numbering.{Numbering, IsNode, top_node, child}
use Rattle.dt_pages.specs.Drawing.{Drawing, is_blank_below, taken, drawn_one, drawn}
use Rattle.dt_pages.proofs.Numbers.{is_number}
use Rattle.dt_pages.proofs.Blank.{blank_same}
use Rattle.dt_pages.proofs.DrawnNodes.{drawn_blank, drawn_page}
use Rattle.dt_pages.proofs.Rising.{In, Rising, rising_low}

pub insert_here : (m : Drafted) (k v q : ℕ) → q ≡ k → get (insert m k v) q ≡ Some v
insert_here m k v q same = get-insert nat_cmp_total m k v q ∙ ap (λ b. cond b (Some v) (get m q)) (is_number q k ∙ eq-eqb q k same)

pub insert_other : (m : Drafted) (k v q : ℕ) → q ≢ k → get (insert m k v) q ≡ get m q
insert_other m k v q apart = get-insert nat_cmp_total m k v q ∙ ap (λ b. cond b (Some v) (get m q)) (is_number q k ∙ ne_eqb q k apart)

-- what stands behind a list
behind : (xs : List ℕ) (x : ℕ) (ys : List ℕ) → get_or (xs ++ x ∷ ys) (length xs) 0 ≡ x
behind [] x ys = refl
behind (y ∷ xs) x ys = behind xs x ys

longer : (xs : List ℕ) (x : ℕ) (ys : List ℕ) → length xs < length (xs ++ x ∷ ys)
longer [] x ys = omega arith
longer (y ∷ xs) x ys = omega (arith, longer xs x ys)

module _ (numbers : Numbering) (pages : List ℕ) where
  abbrev pub Under : Drawing → Numbering
  Under drawing = laid_over drawing.changes numbers

  -- the nodes that take a page
  abbrev pub takes_page : Drawing → ℕ → Bool
  takes_page drawing node = not (is_blank_below (Under drawing) node)

  pub record Drawn (before after : Drawing) (nodes : List ℕ) : Type 0 where
    pub outside : (q : ℕ) → ¬ In q nodes → get after.changes q ≡ get before.changes q
    pub blank : (n : ℕ) → In n nodes → is_blank_below (Under after) n ≡ true → get after.changes n ≡ Some 0
    pub page : (n : ℕ) → In n nodes → is_blank_below (Under after) n ≡ false
        → (j : ℕ) × (length before.written ≤ j) × (j < length after.written) × (get_or after.written j 0 ≡ n) × (get after.changes n ≡ Some (taken pages j))
    pub written : after.written ≡ before.written ++ filter (takes_page after) nodes

  module _ (node : ℕ) (rest : List ℕ) (rise : Rising (suc node) rest) (a_node : IsNode node) (before one after : Drawing) (later : Drawn one after rest)
      (value : ℕ) (set : one.changes ≡ insert before.changes node value) where
    not_later : (q : ℕ) → q ≤ node → ¬ In q rest
    not_later q low there = let high = rising_low (suc node) q rest rise there in absurd (omega (arith, high, low))

    at_node : get after.changes node ≡ Some value
    at_node = later.outside node (not_later node (omega arith)) ∙ ap (λ m. get m node) set ∙ insert_here before.changes node value node refl

    stays : (q : ℕ) → ¬ In q rest → q ≢ node → get after.changes q ≡ get before.changes q
    stays q away apart = later.outside q away ∙ ap (λ m. get m q) set ∙ insert_other before.changes node value q apart

    child_low : (at : ℕ) → at < 512 → child node at < node
    child_low at below = let low = a_node.0 in let high = a_node.1 in omega (arith, below, low, high)

    same_blank : is_blank_below (Under after) node ≡ is_blank_below (Under before) node
    same_blank = blank_same (Under after) (Under before) node (λ at below.
        let low = child_low at below in
        ap (λ o. unwrap_or o (numbers (child node at))) (stays (child node at) (not_later (child node at) (omega (arith, low))) (omega (arith, low))))

    stays_outside : (q : ℕ) → ¬ In q (node ∷ rest) → get after.changes q ≡ get before.changes q
    stays_outside q away = stays q (λ there. away (inr there)) (λ same. away (inl same))

    when_blank : is_blank_below (Under before) node ≡ true → value ≡ 0 → one.written ≡ before.written → Drawn before after (node ∷ rest)
    when_blank is zeroed same = record {
      outside = stays_outside;
      blank = λ n there blank. elim there [
        | inl here ↦ ap (get after.changes) here ∙ at_node ∙ ap Some zeroed
        | inr further ↦ later.blank n further blank
      ];
      page = λ n there some. elim there [
        | inl here ↦ absurd (true≢false (sym is ∙ sym same_blank ∙ ap (is_blank_below (Under after)) (sym here) ∙ some))
        | inr further ↦ let f = later.page n further some in let low = ap length same in (f.0, omega (arith, f.1, low), f.2, f.3, f.4)
      ];
      written = later.written ∙ ap (λ xs. xs ++ filter (takes_page after) rest) same
          ∙ ap (λ b. before.written ++ cond (not b) (node ∷ filter (takes_page after) rest) (filter (takes_page after) rest)) (sym (same_blank ∙ is));
    }

    when_some : is_blank_below (Under before) node ≡ false → value ≡ taken pages (length before.written) → one.written ≡ before.written ++ node ∷ []
        → Drawn before after (node ∷ rest)
    when_some is page made =
        let all : after.written ≡ before.written ++ node ∷ filter (takes_page after) rest =
        later.written ∙ ap (λ xs. xs ++ filter (takes_page after) rest) made ∙ append_assoc before.written (node ∷ []) (filter (takes_page after) rest) in
        record {
          outside = stays_outside;
          blank = λ n there blank. elim there [
            | inl here ↦ absurd (true≢false (sym blank ∙ ap (is_blank_below (Under after)) here ∙ same_blank ∙ is))
            | inr further ↦ later.blank n further blank
          ];
          page = λ n there some. elim there [
            | inl here ↦ (
              length before.written,
              omega arith,
              subst (λ (xs : List ℕ). length before.written < length xs) (sym all) (longer before.written node (filter (takes_page after) rest)),
              ap (λ xs. get_or xs (length before.written) 0) all ∙ behind before.written node (filter (takes_page after) rest) ∙ sym here,
              ap (get after.changes) here ∙ at_node ∙ ap Some page,
            )
            | inr further ↦
                let f = later.page n further some in
                let more = longer before.written node [] in
                let low = ap length made in
                (f.0, omega (arith, f.1, low, more), f.2, f.3, f.4)
          ];
          written = all ∙ ap (λ b. before.written ++ cond (not b) (node ∷ filter (takes_page after) rest) (filter (takes_page after) rest)) (sym (same_blank ∙ is));
        }

  pub draw_facts : (nodes : List ℕ) (low : ℕ) → addresses ≤ low → Rising low nodes → ((n : ℕ) → In n nodes → n ≤ top_node) → (before : Drawing)
      → Drawn before (drawn numbers pages before nodes) nodes
  draw_facts [] low base rise high before = record {
    outside = λ q away. refl;
    blank = λ n none blank. absurd none;
    page = λ n none some. absurd none;
    written = sym (append-nil before.written);
  }
  draw_facts (node ∷ rest) low base rise high before =
      go (is_blank_below (Under before) node) refl
      (draw_facts rest (suc node) (omega (arith, base, rise.0)) rise.1 (λ n there. high n (inr there)) (drawn_one numbers pages before node))
    where
      a_node : IsNode node
      a_node = (omega (arith, base, rise.0), high node (inl refl))

      go : (b : Bool) → is_blank_below (Under before) node ≡ b → Drawn (drawn_one numbers pages before node) (drawn numbers pages (drawn_one numbers pages before node) rest) rest
          → Drawn before (drawn numbers pages (drawn_one numbers pages before node) rest) (node ∷ rest)
      go true is later =
          let made = drawn_blank numbers pages before node is in
          when_blank node rest rise.1 a_node before (drawn_one numbers pages before node) (drawn numbers pages (drawn_one numbers pages before node) rest) later 0
          (sym (ap (λ (d : Drawing). d.changes) made)) is refl (sym (ap (λ (d : Drawing). d.written) made))
      go false is later =
          let made = drawn_page numbers pages before node is in
          when_some node rest rise.1 a_node before (drawn_one numbers pages before node) (drawn numbers pages (drawn_one numbers pages before node) rest) later
          (taken pages (length before.written))
          (sym (ap (λ (d : Drawing). d.changes) made)) is refl (sym (ap (λ (d : Drawing). d.written) made))
