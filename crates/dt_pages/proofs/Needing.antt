-- What drawing tells of a tree with pages.
use Rattle.std.proofs.Common.{◌≡◌, ℕ, ◌+◌, ◌-◌, ◌<◌, ◌≤◌, nat_lt, if◌then◌else◌, Bool, true, List, [], length, get_or, All, None, is_some, sym, ap, subst, ◌∙◌, arith}
use Rattle.std.proofs.lemmas.Bool.Decides.{nat_tests}
use Rattle.std.specs.FinMap.{get}
use Rattle.dt_pages.specs.Reading.{addresses}
use Rattle.dt_pages.specs.Image.{IsImage, look_up, need}
use Rattle.dt_pages.specs.Draft.{Drafted, laid_over}
use Rattle.dt_pages.specs.Numbering.{Numbering, IsNode, IsNumbering, AreFree, child, top_node}
use Rattle.dt_pages.specs.Planned.{Planned, IsPlan}
use Rattle.dt_pages.specs.TreeForm.{TreeForm, AreRooms}
use Rattle.dt_pages.proofs.Planning.{made, fresh, written_nodes, range, planned}
use Rattle.dt_pages.specs.Paged.{Paged, numbering, image_under}
use Rattle.dt_pages.specs.Drawing.{Drawing, changed_nodes, drawn, pages_of}
use Rattle.dt_pages.proofs.Redrawn.{AreFresh, new_change}
use Rattle.dt_pages.proofs.Counted.{counted, few}

pub fresh_none : (numbers : Numbering) → IsNumbering numbers → AreFresh numbers []
fresh_none numbers is = record {
  other = λ j node a_node same. let low = is.in_range node a_node in let at : numbers node ≡ 65536 + j = same in absurd (omega (arith, low, at));
  some = λ j none. let at : ◌≡◌ {A = ℕ} (65536 + j) 0 = none in absurd (omega (arith, at));
  once = λ j k same. let at : 65536 + j ≡ 65536 + k = same in omega (arith, at);
}

pub numbering_word : (paged : Paged) (q : ℕ) → q < addresses → numbering paged q ≡ look_up paged.image q
numbering_word paged q low =
    let test : nat_lt q addresses ≡ true = grind (arith, nat_tests) in
    ap (λ (b : Bool). if b then look_up paged.image q else get_or paged.page_numbers (q - addresses) 0) test

module _ (paged : Paged) (drafted : Drafted) (within : (q : ℕ) → addresses ≤ q → get drafted q ≡ None) (is : IsNumbering (numbering paged)) (is_image : IsImage paged.image)
    (drawing : Drawing) (made_is : drawing ≡ drawn (numbering paged) [] (record { changes = drafted; written = [] }) (changed_nodes (numbering paged) drafted)) where
  pub count_is : length drawing.written ≡ need paged.image (image_under drafted paged.image)
  count_is = ap (λ (d : Drawing). length d.written) made_is
      ∙ counted (numbering paged) drafted within is [] (fresh_none (numbering paged) is) paged.image is_image (numbering_word paged)

  pub count_few : length drawing.written ≤ 262657
  count_few =
      let same = ap (λ (d : Drawing). length d.written) made_is in
      let most = few (numbering paged) drafted within is [] (fresh_none (numbering paged) is) paged.image is_image (numbering_word paged) in
      omega (arith, same, most)

-- the same with the pages of a list, as many as the draft needs
module _ (paged : Paged) (drafted : Drafted) (within : (q : ℕ) → addresses ≤ q → get drafted q ≡ None) (is : IsNumbering (numbering paged)) (is_image : IsImage paged.image)
    (pages : List ℕ) (free : AreFree (numbering paged) pages) (enough : length pages ≡ need paged.image (image_under drafted paged.image))
    (drawing : Drawing) (made_is : drawing ≡ drawn (numbering paged) pages (record { changes = drafted; written = [] }) (changed_nodes (numbering paged) drafted)) where
  as_many : length (made (numbering paged) drafted within is pages free).written ≡ length pages
  as_many = counted (numbering paged) drafted within is pages (fresh (numbering paged) drafted within is pages free) paged.image is_image (numbering_word paged) ∙ sym enough

  pub plan_written : (xs : List ℕ) → xs ≡ drawing.written → All IsNode xs
  plan_written xs same = subst (All IsNode) (sym (same ∙ ap (λ (d : Drawing). d.written) made_is)) (written_nodes (numbering paged) drafted within is pages free)

  pub plan_top : laid_over drawing.changes (numbering paged) top_node < 65536
  plan_top = subst (λ (m : Drafted). laid_over m (numbering paged) top_node < 65536) (sym (ap (λ (d : Drawing). d.changes) made_is))
      (range (numbering paged) drafted within is pages free as_many top_node (omega arith, omega arith))

  pub plan_few : length pages ≤ 262657
  plan_few =
      let most = few (numbering paged) drafted within is pages (fresh (numbering paged) drafted within is pages free) paged.image is_image (numbering_word paged) in
      let same = as_many in
      omega (arith, same, most)

  pub plan_rooms : (rooms : TreeForm) → AreRooms rooms drafted → AreRooms rooms drawing.changes
  plan_rooms rooms are = record {
    count = are.count;
    zeros = are.zeros;
    rooms = λ address low some. are.rooms address low (ap is_some
        (sym (ap (λ (d : Drawing). get d.changes address) made_is
        ∙ new_change (numbering paged) drafted within is pages (fresh (numbering paged) drafted within is pages free) address low)) ∙ some);
  }

  pub plan_is : (plan : Planned) (written : List ℕ) → plan.changes ≡ drawing.changes → plan.pages ≡ pages → written ≡ drawing.written → length plan.contents ≡ length written
      → ((k at : ℕ) → k < length written → at < 512 → get_or (get_or plan.contents k []) at 0 ≡ laid_over drawing.changes (numbering paged) (child (get_or written k 0) at))
      → plan.top ≡ laid_over drawing.changes (numbering paged) top_node → plan.gone ≡ pages_of (numbering paged) (changed_nodes (numbering paged) drafted)
      → IsPlan (numbering paged) drafted pages plan
  plan_is plan written changes listed same count words top gone =
      let m : Drawing = made (numbering paged) drafted within is pages free in
      let written_is : written ≡ m.written = same ∙ ap (λ (d : Drawing). d.written) made_is in
      let changes_are : drawing.changes ≡ m.changes = ap (λ (d : Drawing). d.changes) made_is in
      planned (numbering paged) drafted within is pages free as_many plan (changes ∙ changes_are) listed (count ∙ ap length written_is)
      (λ k at below low. ap (λ (xs : List ℕ). get_or (get_or plan.contents k []) at 0) written_is
      ∙ words k at (subst (λ (n : ℕ). k < n) (sym (ap length written_is)) below) low
      ∙ ap (λ (x : Drafted). laid_over x (numbering paged) (child (get_or written k 0) at)) changes_are
      ∙ ap (λ (xs : List ℕ). laid_over m.changes (numbering paged) (child (get_or xs k 0) at)) written_is)
      (top ∙ ap (λ (x : Drafted). laid_over x (numbering paged) top_node) changes_are) gone
