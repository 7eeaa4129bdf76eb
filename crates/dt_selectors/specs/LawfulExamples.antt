-- Worked examples of what is lawful, of rows, and of the laws at some names and selectors.
use Rattle.std.specs.Prelude.{◌≡◌, ℕ, zero, suc, ◌<◌, ◌≤◌, true, IsTrue, [], ◌∷◌, Option, None, Some, IfSome, refl}
use Rattle.std.proofs.Common.{arith, subst}
use Rattle.std.proofs.lemmas.List.Elements.{All-nil, All-cons, All-head}
use Rattle.dt_selectors.specs.Examples.{ab, b, c, two_names, two_selectors}
use Rattle.dt_selectors.specs.Lawful.{HasDistinctTexts, LawfulNames, AscendingSelectors, LawfulSelector, LawfulSelectors}
use Rattle.dt_selectors.specs.Laws.{NumbersStay, NewNamesAreLast, KnownNamesStay, AddingSetsOneArity, DroppingUnsetsOneArity}
use Rattle.dt_selectors.specs.Names.{position_of, is_name, with_name}
use Rattle.dt_selectors.specs.Rows.{AritiesInRange}
use Rattle.dt_selectors.specs.Selectors.{Selector, arity_in, insert_selector, without_selector}

-- each of two names has its place
two_are_distinct : HasDistinctTexts two_names.texts
two_are_distinct zero text is = let same : ab ≡ text = cc in subst (λ t. position_of t two_names.texts ≡ Some 0) same refl
two_are_distinct (suc zero) text is = let same : b ≡ text = cc in subst (λ t. position_of t two_names.texts ≡ Some 1) same refl
two_are_distinct (suc (suc number)) text is = absurd (cc)

-- a text that stands twice has one place
twice_is_not_distinct : HasDistinctTexts (b ∷ b ∷ []) → ⊥
twice_is_not_distinct distinct = let first : position_of b (b ∷ b ∷ []) ≡ Some 1 = distinct 1 b refl in cc

-- two names of at most two are lawful; a limit of none, a third name and an empty text aren't
two_are_lawful : LawfulNames two_names
two_are_lawful = record {
  distinct = two_are_distinct;
  are_names = All-cons (λ t. IsTrue (is_name t)) ab (b ∷ []) refl (All-cons (λ t. IsTrue (is_name t)) b [] refl (All-nil (λ t. IsTrue (is_name t))));
  few = omega arith;
  limit_in_range = (omega arith, omega arith);
}

no_limit_is_unlawful : LawfulNames (record { limit = 0; texts = [] }) → ⊥
no_limit_is_unlawful lawful = let limit : 1 ≤ 0 = lawful.limit_in_range.0 in omega (arith, limit)

too_great_a_limit_is_unlawful : LawfulNames (record { limit = 65537; texts = [] }) → ⊥
too_great_a_limit_is_unlawful lawful = let limit : 65537 ≤ 65536 = lawful.limit_in_range.1 in omega (arith, limit)

a_third_is_unlawful : LawfulNames (with_name two_names c) → ⊥
a_third_is_unlawful lawful = let few : 3 ≤ 2 = lawful.few in omega (arith, few)

an_empty_text_is_unlawful : LawfulNames (record { limit = 2; texts = [] ∷ [] }) → ⊥
an_empty_text_is_unlawful lawful = let name : is_name [] ≡ true = All-head (λ t. IsTrue (is_name t)) [] [] lawful.are_names in cc

-- a selector with this many arguments
abbrev takes : ℕ → ℕ → Selector
takes number arity = record { number = number; arity = arity }

two_ascend : AscendingSelectors two_selectors
two_ascend = (refl, tt)

the_higher_first : AscendingSelectors (takes 9 2 ∷ takes 7 1 ∷ []) → ⊥
the_higher_first ascend = cc

the_same_twice : AscendingSelectors (takes 7 1 ∷ takes 7 2 ∷ []) → ⊥
the_same_twice ascend = cc

-- selectors go to 4,095 and have one to four arguments
the_last_selector : LawfulSelector (takes 4095 4)
the_last_selector = (omega arith, omega arith, omega arith)

past_the_last_selector : LawfulSelector (takes 4096 4) → ⊥
past_the_last_selector lawful = omega (arith, lawful.0)

no_argument : LawfulSelector (takes 7 0) → ⊥
no_argument lawful = omega (arith, lawful.1)

five_arguments : LawfulSelector (takes 7 5) → ⊥
five_arguments lawful = omega (arith, lawful.2)

two_selectors_are_lawful : LawfulSelectors two_selectors
two_selectors_are_lawful = record {
  ascend = two_ascend;
  in_range = All-cons LawfulSelector (takes 7 1) (takes 9 2 ∷ []) (omega arith, omega arith, omega arith)
      (All-cons LawfulSelector (takes 9 2) [] (omega arith, omega arith, omega arith) (All-nil LawfulSelector));
}

the_same_twice_is_unlawful : LawfulSelectors (takes 7 1 ∷ takes 7 1 ∷ []) → ⊥
the_same_twice_is_unlawful lawful = the_same_twice lawful.ascend

-- rows hold one to four arguments, or none where no selector is live
abbrev IsArityRow : Option ℕ → Type 0
IsArityRow row = IfSome row (λ arity. (0 < arity) × (arity ≤ 4))

rows_in_range : AritiesInRange (None ∷ Some 4 ∷ [])
rows_in_range =
    All-cons IsArityRow None (Some 4 ∷ []) tt
    (All-cons IsArityRow (Some 4) [] (omega arith, omega arith) (All-nil IsArityRow))

a_row_of_five : AritiesInRange (Some 5 ∷ []) → ⊥
a_row_of_five arities =
    let few : (0 < 5) × (5 ≤ 4) = All-head IsArityRow (Some 5) [] arities in omega (arith, few.1)

-- each law at an example
ab_keeps_its_number : NumbersStay → position_of ab (with_name two_names c).texts ≡ Some 0
ab_keeps_its_number law = law two_names ab c 0 refl

c_is_the_last : NewNamesAreLast → position_of c (with_name two_names c).texts ≡ Some 2
c_is_the_last law = (law two_names c refl).0

b_changes_nothing : KnownNamesStay → with_name two_names b ≡ two_names
b_changes_nothing law = law two_names b 1 refl

eight_is_added : AddingSetsOneArity → (arity_in (insert_selector (takes 8 4) two_selectors) 8 ≡ Some 4)
    × (arity_in (insert_selector (takes 8 4) two_selectors) 9 ≡ Some 2)
eight_is_added law = (law two_selectors (takes 8 4) 8, law two_selectors (takes 8 4) 9)

nine_is_dropped : DroppingUnsetsOneArity → (arity_in (without_selector two_selectors 9) 9 ≡ None)
    × (arity_in (without_selector two_selectors 9) 7 ≡ Some 1)
nine_is_dropped law = (law two_selectors 9 9, law two_selectors 9 7)
