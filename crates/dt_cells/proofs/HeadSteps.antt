-- The class words and selector words that a batch changes are those that its edits name.
use Rattle.std.proofs.Common.{◌≡◌, ◌==◌, ℕ, zero, suc, ◌+◌, ◌-◌, ◌<◌, ◌≤◌, Bool, true, false, ◌&&◌, ◌||◌, not, if◌then◌else◌, List, [], ◌∷◌, take, Some, refl, sym, ap, subst, ◌∙◌, arith}
use Rattle.std.specs.Prelude.{slice_get, nat_lt, nat_le, unwrap_or, Option}
use Rattle.std.specs.List.{list_any}
use Rattle.std.proofs.lemmas.Bool.{or_parts, eqb-true, eq-eqb, false≢true}
use Rattle.std.proofs.lemmas.Bool.Decides.{nat_tests}
use Rattle.dt_pages.specs.Reading.{Reading}
use Rattle.dt_graph.specs.Graph.{is_live}
use Rattle.dt_graph.proofs.Effects.{live_after_add, live_after_drop}
use Rattle.dt_selectors.proofs.Arities.{adding, dropping}
use Rattle.dt_definitions.specs.Program.{Program, arity_of}
use Rattle.dt_definitions.specs.Effect.{effect}
use Rattle.dt_definitions.specs.Laws.{LeadsTo}
use Rattle.dt_definitions.specs.declared.edit.Edit.{Edit}
use Rattle.dt_definitions.specs.declared.edit.Edit.TheVariants.{AddClass, DropClass, Link, Unlink, AddSelector, DropSelector, Define, Undefine}
use Rattle.dt_definitions.proofs.AnswerLaws.{ok_has_no_cause}
use Rattle.dt_cells.specs.Regions.{class_numbers, selector_numbers, selector_at}
use Rattle.dt_cells.specs.HeldLaws.{by_cases, if_true, if_false}
use Rattle.dt_cells.specs.Heads.{HasHeads, class_word, selector_word, head_word, with_heads, sets_head, sets_head_any}

-- ---- one edit

at_least : (m n : ℕ) → nat_le m n ≡ true → m ≤ n
at_least m n t = grind arith

other_class : (address class : ℕ) → (address == class) ≡ false → (class == address) ≡ false
other_class address class f = grind (arith, nat_tests)

other_selector : (address selector : ℕ) → 4096 ≤ address → (address == (4096 + selector)) ≡ false → (selector == (address - 4096)) ≡ false
other_selector address selector from f = grind (arith, nat_tests)

and_true : (b : Bool) → (b && true) ≡ b
and_true true = refl
and_true false = refl

-- where the class word and the selector word that may stand at the address are the same in both, so is the head word
same_word : (p q : Program) (address : ℕ) → is_live p.graph address ≡ is_live q.graph address
    → (4096 ≤ address → arity_of p (address - 4096) ≡ arity_of q (address - 4096)) → head_word p address ≡ head_word q address
same_word p q address live arity =
    ap (λ (b : Bool). if nat_lt address class_numbers then (if b then 1 else 0) else selector_part p) live
    ∙ ap (λ (w : ℕ). if nat_lt address class_numbers then class_word q address else w) (by_cases (nat_le 4096 address)
    (λ t. ap (λ (o : Option ℕ). if nat_le 4096 address && nat_lt address 8192 then unwrap_or o 0 else 0) (arity (at_least 4096 address t)))
    (λ f. rw f refl))
  where
    selector_part : Program → ℕ
    selector_part r = if nat_le 4096 address && nat_lt address 8192 then selector_word r (address - 4096) else 0

head_by_edit : (p : Program) (edit : Edit) (address : ℕ) → sets_head address edit ≡ false → head_word p address ≡ head_word (effect p edit) address
head_by_edit p (AddClass class parents) address unset = same_word p (effect p (AddClass class parents)) address
    (sym (live_after_add p.graph class parents address ∙ ap (λ b. b || is_live p.graph address) (other_class address class unset))) (λ from. refl)
head_by_edit p (DropClass class) address unset = same_word p (effect p (DropClass class)) address
    (sym (live_after_drop p.graph class address ∙ ap (λ b. is_live p.graph address && not b) unset ∙ and_true (is_live p.graph address))) (λ from. refl)
head_by_edit p (Link class parent) address unset = refl
head_by_edit p (Unlink class parent) address unset = refl
head_by_edit p (AddSelector selector arity) address unset = same_word p (effect p (AddSelector selector arity)) address refl
    (λ from. sym (adding p.selectors (record { number = selector; arity = arity }) (address - 4096)
    ∙ rw (other_selector address selector from unset) refl))
head_by_edit p (DropSelector selector) address unset = same_word p (effect p (DropSelector selector)) address refl
    (λ from. sym (dropping p.selectors selector (address - 4096) ∙ rw (other_selector address selector from unset) refl))
head_by_edit p (Define selector classes body) address unset = refl
head_by_edit p (Undefine selector classes) address unset = refl

-- ---- a batch

pub head_by_edits : (p q : Program) (edits : List Edit) → LeadsTo p edits q → (address : ℕ) → sets_head_any address edits ≡ false
    → head_word p address ≡ head_word q address
head_by_edits p q [] same address unset = ap (λ r. head_word r address) same
head_by_edits p q (edit ∷ edits) leads address unset =
    let parts = or_parts (sets_head address edit) (sets_head_any address edits) unset in
    let next : leads.0 ≡ effect p edit = (ok_has_no_cause p leads.0 edit leads.1).1 in
    head_by_edit p edit address parts.0 ∙ ap (λ r. head_word r address) (sym next) ∙ head_by_edits leads.0 q edits leads.2 address parts.1

-- ---- the loop over the edits

-- what is set in two steps is set in one
pub set_again : (same first second : Bool) (x y z w : ℕ) → y ≡ (if first then (if same then x else w) else x)
    → z ≡ (if second then (if same then y else w) else y) → z ≡ (if first || second then (if same then x else w) else x)
set_again true true true x y z w e f = f ∙ e
set_again true true false x y z w e f = f ∙ e
set_again true false true x y z w e f = f ∙ e
set_again true false false x y z w e f = f ∙ e
set_again false true true x y z w e f = f
set_again false true false x y z w e f = f ∙ e
set_again false false true x y z w e f = f
set_again false false false x y z w e f = f ∙ e

-- where nothing is set nothing need be
pub set_or_same : (set same : Bool) (x w : ℕ) → (set ≡ false → same ≡ true) → (if set then (if same then x else w) else x) ≡ (if same then x else w)
set_or_same true same x w h = refl
set_or_same false true x w h = refl
set_or_same false false x w h = absurd (false≢true (h refl))

some_same : {T : Type 0} (a b : T) → Some a ≡ Some b → a ≡ b
some_same a b same = cc

or_false : (b : Bool) → (b || false) ≡ b
or_false true = refl
or_false false = refl

or_assoc : (a b c : Bool) → (a || (b || c)) ≡ ((a || b) || c)
or_assoc true b c = refl
or_assoc false b c = refl

along : {T : Type 0} (test : T → Bool) (xs : List T) (i : ℕ) (x : T) → slice_get xs i ≡ Some x → list_any test (take (suc i) xs) ≡ (list_any test (take i xs) || test x)
along test [] i x e = absurd cc
along test (y ∷ ys) zero x e = or_false (test y) ∙ ap test (some_same y x e)
along test (y ∷ ys) (suc i) x e = ap (λ v. test y || v) (along test ys i x e) ∙ or_assoc (test y) (list_any test (take i ys)) (test x)

pub one_more : {T : Type 0} (test : T → Bool) (xs : List T) (i : ℕ) (x : T) → slice_get xs i ≡ Some x → list_any test (take (i + 1) xs) ≡ (list_any test (take i xs) || test x)
one_more test xs i x e = ap (λ n. list_any test (take n xs)) (let s : i + 1 ≡ suc i = omega arith in s) ∙ along test xs i x e

-- ---- the heads of the new program

class_head_word : (p : Program) (class : ℕ) → class < class_numbers → head_word p class ≡ class_word p class
class_head_word p class below = if_true (nat_lt class class_numbers) (class_word p class) _ (grind (arith, nat_tests))

selector_head_word : (p : Program) (selector : ℕ) → selector < selector_numbers → head_word p (selector_at selector) ≡ selector_word p selector
selector_head_word p selector below =
    let past : nat_lt (4096 + selector) 2048 ≡ false = grind (arith, nat_tests) in
    let among : (nat_le 4096 (4096 + selector) && nat_lt (4096 + selector) 8192) ≡ true = grind (arith, nat_tests) in
    let back : 4096 + selector - 4096 ≡ selector = omega arith in
    if_false (nat_lt (4096 + selector) 2048) (class_word p (4096 + selector)) _ past
    ∙ if_true (nat_le 4096 (4096 + selector) && nat_lt (4096 + selector) 8192) (selector_word p (4096 + selector - 4096)) 0 among
    ∙ ap (selector_word p) back

new_word : (old new : Program) (x : Reading) (address : ℕ) → x address ≡ head_word old address → with_heads old new x address ≡ head_word new address
new_word old new x address is = by_cases (head_word old address == head_word new address)
    (λ t. if_true (head_word old address == head_word new address) (x address) (head_word new address) t ∙ is ∙ eqb-true (head_word old address) (head_word new address) t)
    (λ f. if_false (head_word old address == head_word new address) (x address) (head_word new address) f)

pub new_heads : (old new : Program) (x y : Reading) → ((address : ℕ) → y address ≡ with_heads old new x address) → HasHeads old x → HasHeads new y
new_heads old new x y words heads = record {
  classes = λ class below. words class
      ∙ new_word old new x class (heads.classes class below ∙ sym (class_head_word old class below)) ∙ class_head_word new class below;
  selectors = λ s below. words (selector_at s)
      ∙ new_word old new x (selector_at s) (heads.selectors s below ∙ sym (selector_head_word old s below)) ∙ selector_head_word new s below;
}
