-- Steps of drawing, as the code makes them.
use Rattle.std.proofs.Common.{◌≡◌, ℕ, ◌++◌, ◌==◌, Bool, true, false, cond, List, [], ◌∷◌, map, take, length, zero, suc, ◌≤◌, ◌≢◌, refl, sym, ap, ap₂, ◌∙◌, arith, eq-eqb, ne_eqb, append_assoc}
use Rattle.std.specs.List.{dedup}
use Rattle.std.specs.FinMap.{insert}
use Rattle.dt_pages.specs.Draft.{Drafted, laid_over}
use Rattle.dt_pages.specs.Numbering.{Numbering, over}
use Rattle.dt_pages.specs.Drawing.{Drawing, is_blank_below, nodes_over, changed_leaves, changed_nodes, leaves_of, taken, drawn_one}
use Rattle.std.specs.FinMap.{entries}

pub nodes_over_is : (nodes above found : List ℕ) → above ≡ map over nodes → found ≡ dedup (λ a b. a == b) above → found ≡ nodes_over nodes
unfolding nodes_over
nodes_over_is nodes above found is same = same ∙ ap (dedup (λ a b. a == b)) is

module _ (numbers : Numbering) (pages : List ℕ) (drawing : Drawing) (node : ℕ) where
  abbrev Over : Bool → Drawing
  Over b = cond b (record { changes = insert drawing.changes node 0; written = drawing.written })
      (record { changes = insert drawing.changes node (taken pages (length drawing.written)); written = drawing.written ++ node ∷ [] })

  pub drawn_blank : is_blank_below (laid_over drawing.changes numbers) node ≡ true
      → record { changes = insert drawing.changes node 0; written = drawing.written } ≡ drawn_one numbers pages drawing node
  unfolding drawn_one
  drawn_blank is = sym (ap Over is)

  pub drawn_page : is_blank_below (laid_over drawing.changes numbers) node ≡ false
      → record { changes = insert drawing.changes node (taken pages (length drawing.written)); written = drawing.written ++ node ∷ [] } ≡ drawn_one numbers pages drawing node
  unfolding drawn_one
  drawn_page is = sym (ap Over is)

take_all : (xs : List ℕ) (n : ℕ) → length xs ≤ n → take n xs ≡ xs
take_all [] zero past = refl
take_all [] (suc n) past = refl
take_all (x ∷ xs) zero past = absurd (omega (arith, past))
take_all (x ∷ xs) (suc n) past = ap (λ rest. x ∷ rest) (take_all xs n (omega (arith, past)))

pub all_above : (nodes above : List ℕ) (n : ℕ) → above ≡ map over (take n nodes) → length nodes ≤ n → above ≡ map over nodes
all_above nodes above n is past = is ∙ ap (map over) (take_all nodes n past)

-- one entry of the draft
pub leaves_skip : (numbers : Numbering) (at word : ℕ) (all rest : List (ℕ × ℕ)) → all ≡ (at, word) ∷ rest → numbers at ≡ word
    → leaves_of numbers all ≡ leaves_of numbers rest
leaves_skip numbers at word all rest is same =
    ap (leaves_of numbers) is ∙ ap (λ b. cond b (leaves_of numbers rest) (over at ∷ leaves_of numbers rest)) (eq-eqb (numbers at) word same)

pub leaves_push : (numbers : Numbering) (at word : ℕ) (all rest : List (ℕ × ℕ)) → all ≡ (at, word) ∷ rest → numbers at ≢ word
    → leaves_of numbers all ≡ over at ∷ leaves_of numbers rest
leaves_push numbers at word all rest is other =
    ap (leaves_of numbers) is ∙ ap (λ b. cond b (leaves_of numbers rest) (over at ∷ leaves_of numbers rest)) (ne_eqb (numbers at) word other)

pub pushed : (numbers : Numbering) (at word : ℕ) (all rest : List (ℕ × ℕ)) (leaves new whole : List ℕ) → all ≡ (at, word) ∷ rest → numbers at ≢ word
    → new ≡ leaves ++ over at ∷ [] → leaves ++ leaves_of numbers all ≡ whole → new ++ leaves_of numbers rest ≡ whole
pushed numbers at word all rest leaves new whole is other made before =
    ap (λ xs. xs ++ leaves_of numbers rest) made ∙ append_assoc leaves (over at ∷ []) (leaves_of numbers rest)
    ∙ ap (λ xs. leaves ++ xs) (sym (leaves_push numbers at word all rest is other)) ∙ before

pub changed_are : (numbers : Numbering) (drafted : Drafted) (words leaves middles tops lower all : List ℕ) → words ≡ leaves_of numbers (entries drafted)
    → leaves ≡ dedup (λ a b. a == b) words → middles ≡ nodes_over leaves → tops ≡ nodes_over middles → lower ≡ leaves ++ middles → all ≡ lower ++ tops
    → all ≡ changed_nodes numbers drafted
unfolding changed_nodes changed_leaves
changed_are numbers drafted words leaves middles tops lower all is same above top two three =
    let first : leaves ≡ changed_leaves numbers drafted = same ∙ ap (dedup (λ a b. a == b)) is in
    let second : middles ≡ nodes_over (changed_leaves numbers drafted) = above ∙ ap nodes_over first in
    let third : tops ≡ nodes_over (nodes_over (changed_leaves numbers drafted)) = top ∙ ap nodes_over second in
    three ∙ ap₂ (λ a b. a ++ b) (two ∙ ap₂ (λ a b. a ++ b) first second) third
