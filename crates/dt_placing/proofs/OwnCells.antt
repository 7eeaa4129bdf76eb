-- Whose word is whose: the words of a selector's own cells, and the cells of a row.
use Rattle.std.proofs.Common.{◌≡◌, ◌≢◌, ◌==◌, ℕ, ◌+◌, ◌-◌, ◌*◌, ◌/◌, ◌<◌, true, false, if◌then◌else◌, List, [], ◌∷◌, inl, inr, refl, sym, ap, subst, ◌∙◌, arith, All}
use Rattle.std.specs.List.{list_any}
use Rattle.std.proofs.lemmas.Bool.{or_parts, eqb-true, eq-eqb, true≢false}
use Rattle.std.proofs.lemmas.List.Elements.{All-nil, All-cons, All-head, All-tail}
use Rattle.dt_pages.specs.Reading.{Reading}
use Rattle.dt_scratch.specs.Query.{Query}
use Rattle.dt_scratch.specs.declared.reply.Answer.{Answer}
use Rattle.dt_scratch.specs.declared.reply.Answer.TheVariants.{Method, NotUnderstood, Ambiguous}
use Rattle.dt_cells.specs.Regions.{place_of}
use Rattle.dt_cells.specs.Cell.{cell_word}
use Rattle.dt_cells.specs.Held.{Held, IsHeld, HasBodyInRange}
use Rattle.dt_cells.specs.HeldLaws.{by_cases, or_true, if_true, if_false}
use Rattle.dt_fit.specs.declared.geometry.Geometry.{Geometry}
use Rattle.dt_fit.specs.Geometry.{width_of}
use Rattle.dt_fit.specs.Rows.{row_uses}
use Rattle.dt_placing.specs.Rows.{single, is_understood, indexes, has_index}
use Rattle.dt_placing.specs.RowsLaws.{not_understood, all_indexes, of_index, has_index_of}
use Rattle.dt_placing.specs.Placing.{cell_at, tag_of, AreCells, Shows, word_kept}
use Rattle.dt_placing.specs.PlacingLaws.{unheld, owned_cell}
use Rattle.dt_placing.specs.Turn.{own_word}

pub tag_of_word : (s : ℕ) (v : Answer) → v ≢ NotUnderstood → HasBodyInRange v → cell_word (tag_of s) v / 4294967296 ≡ s + 1
tag_of_word s NotUnderstood h body = absurd (h refl)
tag_of_word s Ambiguous h body = omega arith
tag_of_word s (Method b) h body = let below : b < 65536 = body in omega arith

-- the words of two selectors are others
one_tag : (s t : ℕ) (v u : Answer) → v ≢ NotUnderstood → u ≢ NotUnderstood → HasBodyInRange v → HasBodyInRange u
    → cell_word (tag_of s) v ≡ cell_word (tag_of t) u → s ≡ t
one_tag s t v u hv hu bv bu same =
    let e : s + 1 ≡ t + 1 = sym (tag_of_word s v hv bv) ∙ ap (λ w. w / 4294967296) same ∙ tag_of_word t u hu bu in omega (arith, e)

module _ (g : Geometry) where
  -- the own word of a class is that of what is held
  pub own_is : (x : Reading) (held : Held) (s class : ℕ) → Shows g x held → class < 2048
      → own_word g x s (word_kept x held s) class ≡ cell_word (tag_of s) (held (single s class))
  own_is x held s class sh below = by_cases (has_index held s)
      (λ some. ap (λ w. own_word g x s w class) (if_true (has_index held s) (x (place_of s)) 0 some)
      ∙ if_false (x (place_of s) == 0) 0 _ (by_cases (x (place_of s) == 0)
      (λ t. (let room : 0 < x (place_of s) = (sh.room s some).some in let none : x (place_of s) ≡ 0 = eqb-true (x (place_of s)) 0 t in absurd (omega (arith, room, none))))
      (λ f. f))
      ∙ by_cases (is_understood (held (single s class)))
      (λ t. (let h : held (single s class) ≢ NotUnderstood = not_understood (held (single s class)) t in
      let is : x (cell_at g (x (place_of s) - 1) class) ≡ cell_word (tag_of s) (held (single s class)) = sh.cells.set s class below h in
      if_true (x (cell_at g (x (place_of s) - 1) class) / 4294967296 == (s + 1)) (x (cell_at g (x (place_of s) - 1) class)) 0
      (eq-eqb (x (cell_at g (x (place_of s) - 1) class) / 4294967296) (s + 1)
      (ap (λ w. w / 4294967296) is ∙ tag_of_word s (held (single s class)) h (sh.body (single s class))))
      ∙ is))
      (λ f. rest some f ∙ ap (cell_word (tag_of s)) (sym (unheld (held (single s class)) f))))
      (λ none. ap (λ w. own_word g x s w class) (if_false (has_index held s) (x (place_of s)) 0 none)
      ∙ ap (cell_word (tag_of s)) (sym (by_cases (is_understood (held (single s class)))
      (λ t. absurd (true≢false (sym (has_index_of held s class below (not_understood (held (single s class)) t)) ∙ none)))
      (λ f. unheld (held (single s class)) f))))
    where
      rest : has_index held s ≡ true → is_understood (held (single s class)) ≡ false
          → (if x (cell_at g (x (place_of s) - 1) class) / 4294967296 == (s + 1) then x (cell_at g (x (place_of s) - 1) class) else 0) ≡ 0
      rest some none =
          let cell : ℕ = cell_at g (x (place_of s) - 1) class in
          by_cases (x cell / 4294967296 == (s + 1))
          (λ t. if_true (x cell / 4294967296 == (s + 1)) (x cell) 0 t ∙ by_cases (x cell == 0)
          (λ z. eqb-true (x cell) 0 z)
          (λ f. absurd (let u = sh.cells.used cell (owned_cell g (x (place_of s)) class (sh.room s some) below) (λ z. true≢false (sym (eq-eqb (x cell) 0 z) ∙ f)) in
          let is : x cell ≡ cell_word (tag_of u.0) (held (single u.0 u.1)) = ap x (sym u.4) ∙ sh.cells.set u.0 u.1 u.2 u.3 in
          let tag : x cell / 4294967296 ≡ s + 1 = eqb-true (x cell / 4294967296) (s + 1) t in
          let e : u.0 + 1 ≡ s + 1 = sym (tag_of_word u.0 (held (single u.0 u.1)) u.3 (sh.body (single u.0 u.1))) ∙ ap (λ w. w / 4294967296) (sym is) ∙ tag in
          let same : u.0 ≡ s = omega (arith, e) in
          let at : 16777216 + (width_of g * (x (place_of s) - 1) + u.1) ≡ 16777216 + (width_of g * (x (place_of s) - 1) + class)
          = subst (λ t. cell_at g (x (place_of t) - 1) u.1 ≡ cell) same u.4 in
          let one : u.1 ≡ class = omega (arith, at) in
          let has : IsHeld held (single s class) = subst (λ c. IsHeld held (single s c)) one (subst (λ t. IsHeld held (single t u.1)) same u.3) in
          has (unheld (held (single s class)) none))))
          (λ f. if_false (x cell / 4294967296 == (s + 1)) (x cell) 0 f)

  -- a row uses the cell of each of its indexes
  pub uses_index : (held : Held) (t place class cell : ℕ) → class < 2048 → IsHeld held (single t class) → width_of g * place + class ≡ cell
      → row_uses g (record { place = place; indexes = indexes held t }) cell ≡ true
  uses_index held t place class cell below h is = by_cases (row_uses g (record { place = place; indexes = indexes held t }) cell)
      (λ e. e)
      (λ f. absurd (of_index (λ index. width_of g * place + index ≢ cell) held t 2048 (none_used place cell (indexes held t) f) class below h is))
    where
      none_used : (place cell : ℕ) (list : List ℕ) → row_uses g (record { place = place; indexes = list }) cell ≡ false
          → All (λ index. width_of g * place + index ≢ cell) list
      none_used place cell [] f = All-nil (λ index. width_of g * place + index ≢ cell)
      none_used place cell (i ∷ is) f =
          let parts = or_parts (width_of g * place + i == cell) (list_any (λ index. width_of g * place + index == cell) is) f in
          All-cons (λ index. width_of g * place + index ≢ cell) i is (λ e. true≢false (sym (eq-eqb (width_of g * place + i) cell e) ∙ parts.0))
          (none_used place cell is parts.1)

  -- and no other
  pub index_used : (held : Held) (t place cell : ℕ) → row_uses g (record { place = place; indexes = indexes held t }) cell ≡ true
      → (class : ℕ) × ((class < 2048) × IsHeld held (single t class) × (width_of g * place + class ≡ cell))
  index_used held t place cell e = found (indexes held t)
      (all_indexes (λ class. (class < 2048) × IsHeld held (single t class)) held t 2048 (λ class below h. (below, h))) e
    where
      found : (list : List ℕ) → All (λ class. (class < 2048) × IsHeld held (single t class)) list
          → row_uses g (record { place = place; indexes = list }) cell ≡ true
          → (class : ℕ) × ((class < 2048) × IsHeld held (single t class) × (width_of g * place + class ≡ cell))
      found [] all e = absurd (true≢false (sym e))
      found (i ∷ is) all e = elim (or_true (width_of g * place + i == cell) (list_any (λ index. width_of g * place + index == cell) is) e) [
        | inl here ↦ (let h = All-head (λ class. (class < 2048) × IsHeld held (single t class)) i is all in (i, (h.0, h.1, eqb-true (width_of g * place + i) cell here)))
        | inr there ↦ found is (All-tail (λ class. (class < 2048) × IsHeld held (single t class)) i is all) there
      ]

  -- two held queries with a cell in common are of one selector
  pub one_owner : (words : ℕ → ℕ) (held : Held) (d : Reading) → AreCells g words held d → ((q : Query) → HasBodyInRange (held q))
      → (s t c k : ℕ) → c < 2048 → k < 2048 → IsHeld held (single s c) → IsHeld held (single t k)
      → cell_at g (words s - 1) c ≡ cell_at g (words t - 1) k → s ≡ t
  one_owner words held d cells body s t c k cb kb hs ht same =
      one_tag s t (held (single s c)) (held (single t k)) hs ht (body (single s c)) (body (single t k))
      (sym (cells.set s c cb hs) ∙ ap d same ∙ cells.set t k kb ht)
