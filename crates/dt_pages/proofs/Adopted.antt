-- A tree with pages that has taken a plan.
use Rattle.std.proofs.Common.{◌≡◌, ℕ, ◌-◌, ◌<◌, ◌≤◌, nat_lt, if◌then◌else◌, Bool, false, get_or, Option, Some, unwrap_or, sym, ap, ◌∙◌, arith}
use Rattle.std.proofs.lemmas.Bool.Decides.{nat_tests}
use Rattle.std.specs.FinMap.{get}
use Rattle.dt_pages.specs.Reading.{addresses}
use Rattle.dt_pages.specs.Image.{look_up}
use Rattle.dt_pages.specs.Draft.{Drafted, laid_over}
use Rattle.dt_pages.specs.Numbering.{Numbering, IsNode, IsNumbering, child, top_node}
use Rattle.dt_pages.specs.Paged.{Paged, numbering}
use Rattle.dt_pages.proofs.Numbers.{by_cases}
use Rattle.dt_pages.proofs.Needing.{numbering_word}

numbering_node : (paged : Paged) (q : ℕ) → addresses ≤ q → numbering paged q ≡ get_or paged.page_numbers (q - addresses) 0
numbering_node paged q high =
    let test : nat_lt q addresses ≡ false = grind (arith, nat_tests) in
    ap (λ (b : Bool). if b then look_up paged.image q else get_or paged.page_numbers (q - addresses) 0) test

-- numbers up to the top make a numbering
pub same_numbering : (a b : Numbering) → ((q : ℕ) → q ≤ top_node → a q ≡ b q) → IsNumbering b → IsNumbering a
same_numbering a b same is = record {
  blank = λ node a_node. (
    (λ none at low. same (child node at) (inside node at a_node low) ∙ (is.blank node a_node).0 (sym (same node a_node.1) ∙ none) at low),
    (λ zeros. same node a_node.1 ∙ (is.blank node a_node).1 (λ at low. sym (same (child node at) (inside node at a_node low)) ∙ zeros at low)),
  );
  once = λ node other a_node an_other some both.
      is.once node other a_node an_other (λ none. some (same node a_node.1 ∙ none)) (sym (same node a_node.1) ∙ both ∙ same other an_other.1);
  in_range = λ node a_node.
      let low = is.in_range node a_node in
      let it = same node a_node.1 in
      omega (arith, low, it);
}
  where
    inside : (node at : ℕ) → IsNode node → at < 512 → child node at ≤ top_node
    inside node at a_node low = omega (arith, a_node.0, a_node.1, low)

pub numbers_low : (changes : Drafted) (numbers : Numbering) → IsNumbering (laid_over changes numbers)
    → (node number : ℕ) → IsNode node → get changes node ≡ Some number → number < 65536
numbers_low changes numbers is node number a_node found =
    let low = is.in_range node a_node in
    let it : laid_over changes numbers node ≡ number = ap (λ (o : Option ℕ). unwrap_or o (numbers node)) found in
    omega (arith, low, it)

module _ (old new : Paged) (changes : Drafted)
    (words : (address : ℕ) → address < addresses → look_up new.image address ≡ laid_over changes (look_up old.image) address)
    (numbers : (node : ℕ) → IsNode node → get_or new.page_numbers (node - addresses) 0 ≡ unwrap_or (get changes node) (get_or old.page_numbers (node - addresses) 0)) where
  pub adopted : (position : ℕ) → position ≤ top_node → numbering new position ≡ laid_over changes (numbering old) position
  adopted position low = by_cases (nat_lt position addresses)
      (λ t. let under : position < addresses = grind arith in
      numbering_word new position under ∙ words position under ∙ ap (unwrap_or (get changes position)) (sym (numbering_word old position under)))
      (λ f. let high : addresses ≤ position = grind arith in
      numbering_node new position high ∙ numbers position (high, low) ∙ ap (unwrap_or (get changes position)) (sym (numbering_node old position high)))

  pub adopted_words : (drafted : Drafted) → ((address : ℕ) → address < addresses → laid_over changes (numbering old) address ≡ laid_over drafted (numbering old) address)
      → (address : ℕ) → address < addresses → look_up new.image address ≡ laid_over drafted (look_up old.image) address
  adopted_words drafted same address low =
      words address low ∙ ap (unwrap_or (get changes address)) (sym (numbering_word old address low)) ∙ same address low
      ∙ ap (unwrap_or (get drafted address)) (numbering_word old address low)
