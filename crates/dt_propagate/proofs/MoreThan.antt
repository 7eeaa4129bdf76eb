-- Whether it holds of more than so many, by a list of all.
use Rattle.std.proofs.Common.{◌≡◌, ℕ, ◌≤◌, true, List, [], ◌∷◌, length, None, Some, inl, inr, refl, sym, subst, ◌∙◌, arith}
use Rattle.std.specs.declared.cmp.Ordering.{Ordering}
use Rattle.std.specs.declared.cmp.Ordering.TheVariants.{Less, Equal, Greater}
use Rattle.std.specs.Cmp.{IsTotalOrder}
use Rattle.std.proofs.lemmas.Cmp.{tied_itself, nat_cmp_total, nat_list_cmp_total, on_total, then_total}
use Rattle.std.proofs.lemmas.Bool.{false≢true}
use Rattle.dt_graph.proofs.ListMembers.{In, In-from_Contains, All-In}
use Rattle.dt_scratch.specs.Query.{Query, arity_of_query, query_order}
use Rattle.dt_propagate.specs.Begun.{up_to}
use Rattle.dt_propagate.specs.Counts.{NoneTwice}
use Rattle.dt_propagate.specs.Differences.{Ascending, AreAll, MoreThan, is_less}
use Rattle.dt_propagate.proofs.Begun.{up_to_some, up_to_none, up_to_few}
use Rattle.dt_propagate.proofs.Counts.{parts_are_no_longer}

query_total : IsTotalOrder query_order
query_total =
    then_total (on_total (λ (q : Query). q.selector) nat_cmp_total)
    (then_total (on_total arity_of_query nat_cmp_total) (on_total (λ (q : Query). q.classes) nat_list_cmp_total))

is_less-true : (o : Ordering) → is_less o ≡ true → o ≡ Less
is_less-true Less t = refl
is_less-true Equal t = absurd (false≢true t)
is_less-true Greater t = absurd (false≢true t)

tail : (a : Query) (xs : List Query) → Ascending query_order (a ∷ xs) → Ascending query_order xs
tail a [] h = tt
tail a (b ∷ xs) h = h.1

less_than_all : (a : Query) (xs : List Query) → Ascending query_order (a ∷ xs) → (x : Query) → In xs x → query_order a x ≡ Less
less_than_all a [] h x i = absurd i
less_than_all a (b ∷ xs) h x (inl e) = subst (λ y. query_order a y ≡ Less) (sym e) (is_less-true (query_order a b) h.0)
less_than_all a (b ∷ xs) h x (inr i) =
    query_total.trans a b x (is_less-true (query_order a b) h.0) (less_than_all b xs h.1 x i)

pub none_twice : (xs : List Query) → Ascending query_order xs → NoneTwice xs
none_twice [] h = tt
none_twice (a ∷ xs) h = (
  λ there.
      let less = less_than_all a xs h a (In-from_Contains xs a there) in
      let tied = tied_itself query_total a in
      let both : Less ≡ Equal = sym less ∙ tied in absurd (cc),
  none_twice xs (tail a xs h),
)

module _ (Holds : Query → Type 0) (all : List Query) (are : AreAll query_order Holds all) (most : ℕ) where
  pub more_than : up_to most (length all) ≡ None → MoreThan query_order Holds most
  more_than none = (all, are.ascending, are.each_holds, up_to_none most (length all) none)

  pub no_more_than : (count : ℕ) → up_to most (length all) ≡ Some count → MoreThan query_order Holds most → ⊥
  no_more_than count some more =
      let few = (up_to_some most (length all) count some).1 in
      let le = parts_are_no_longer more.0 all (none_twice more.0 more.1)
      (λ x there. are.none_missing x (All-In Holds more.0 x more.2 (In-from_Contains more.0 x there))) in
      absurd (omega (arith, few, le, more.3))

  pub no_more_if_few : length all ≤ most → MoreThan query_order Holds most → ⊥
  no_more_if_few few = no_more_than (length all) (up_to_few most (length all) few)

-- fewer are passed too
pub more_than_fewer : (Holds : Query → Type 0) (n most : ℕ) → n ≤ most → MoreThan query_order Holds most → MoreThan query_order Holds n
more_than_fewer Holds n most low more = (more.0, more.1, more.2, omega (arith, low, more.3))
