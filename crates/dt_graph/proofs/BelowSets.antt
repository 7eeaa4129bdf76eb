-- What becomes of below when the links of a set of classes change.
use Rattle.std.proofs.Common.{◌≡◌, ℕ, false, IsTrue, List, [], ◌∷◌, sym, subst, ap, ◌∙◌, ◌⊎◌, inl, inr, ⊎_elim}
use Rattle.std.proofs.lemmas.Bool.{false≢true}
use Rattle.std.proofs.Math.Bool.{or-false}
use Rattle.dt_graph.specs.Graph.{Link, Graph, has_number, is_live, has_link}
use Rattle.dt_graph.specs.Below.{Leads, is_below}
use Rattle.dt_graph.specs.Lawful.{LawfulGraph}
use Rattle.dt_graph.specs.LinkChanges.{is_below_any, OthersKeepTheirLinks}
use Rattle.dt_graph.specs.Laws.{BelowIsAmongLive, SameAreBelowEdited, OthersStayBelow}
use Rattle.dt_graph.proofs.Walks.{IsBelow-from_test, is_below_self, is_below_step, is_below_trans}
use Rattle.dt_graph.proofs.AscendingSets.{same_truth}
use Rattle.dt_graph.proofs.LawfulChanges.{joins_live}
use Rattle.dt_graph.proofs.ListMembers.{by_cases, any_listed, listed_any}

-- ---- live classes

-- a link leads from a live class to a live one, so both ends of steps are live or neither is
leads_live : (graph : Graph) → LawfulGraph graph → (steps : List ℕ) (low high : ℕ) → Leads graph.links low steps high →
    is_live graph low ≡ is_live graph high
leads_live graph lawful [] low high leads = ap (is_live graph) leads
leads_live graph lawful (step ∷ steps) low high leads =
    let ends = joins_live graph lawful low step leads.0 in
    ends.0 ∙ sym ends.1 ∙ leads_live graph lawful steps step high leads.1

pub both_live : BelowIsAmongLive
both_live graph lawful low high test =
    let way = IsBelow-from_test graph.links low high test in leads_live graph lawful way.0 low high way.1

-- ---- links that change

-- what is below something that is below one of them is below one of them
pub below_any_trans : (links : List Link) (edited : List ℕ) (a b : ℕ) → IsTrue (is_below links a b) →
    IsTrue (is_below_any links edited b) → IsTrue (is_below_any links edited a)
below_any_trans links edited a b below any =
    let e = listed_any (λ high. is_below links b high) edited any in
    any_listed (λ high. is_below links a high) edited e.0 e.1.0 (is_below_trans links a b e.0 below e.1.1)

-- each of them is below one of them
pub edited_is_below_any : (links : List Link) (edited : List ℕ) (class : ℕ) → IsTrue (has_number edited class) →
    IsTrue (is_below_any links edited class)
edited_is_below_any links edited class here =
    any_listed (λ high. is_below links class high) edited class here (is_below_self links class)

pub OthersKeep-sym : (edited : List ℕ) (old new : List Link) → OthersKeepTheirLinks edited old new →
    OthersKeepTheirLinks edited new old
OthersKeep-sym edited old new same = λ class parent apart. sym (same class parent apart)

module _ (edited : List ℕ) (old new : List Link) (same : OthersKeepTheirLinks edited old new) where
  -- a way along the old links is one along the new ones too, or the new ones lead to one of the classes
  there_or_through : (steps : List ℕ) (a b : ℕ) → Leads old a steps b →
      IsTrue (is_below new a b) ⊎ IsTrue (is_below_any new edited a)
  there_or_through [] a b leads =
      inl (let P : ℕ → Type 0 = λ n. IsTrue (is_below new a n) in subst P leads (is_below_self new a))
  there_or_through (s ∷ steps) a b leads = by_cases (has_number edited a)
      (λ here. inr (edited_is_below_any new edited a here))
      (λ apart.
      let linked : IsTrue (has_link new a s) = sym (same a s apart) ∙ leads.0 in
      ⊎_elim
      (λ there. inl (is_below_step new a s b linked there))
      (λ through. inr (below_any_trans new edited a s (is_below_step new a s s linked (is_below_self new s)) through))
      (there_or_through steps s b leads.1))

  below_there_or_through : (a b : ℕ) → IsTrue (is_below old a b) →
      IsTrue (is_below new a b) ⊎ IsTrue (is_below_any new edited a)
  below_there_or_through a b test =
      let way = IsBelow-from_test old a b test in there_or_through way.0 a b way.1

  still_below_any : (a : ℕ) → IsTrue (is_below_any old edited a) → IsTrue (is_below_any new edited a)
  still_below_any a any =
      let e = listed_any (λ high. is_below old a high) edited any in
      ⊎_elim
      (λ there. any_listed (λ high. is_below new a high) edited e.0 e.1.0 there)
      (λ through. through)
      (below_there_or_through a e.0 e.1.1)

  still_below : (a b : ℕ) → is_below_any new edited a ≡ false → IsTrue (is_below old a b) → IsTrue (is_below new a b)
  still_below a b apart test = ⊎_elim
      (λ there. there)
      (λ through. absurd (false≢true (sym apart ∙ through)))
      (below_there_or_through a b test)

pub same_are_below_edited : SameAreBelowEdited
same_are_below_edited edited old new same a = same_truth (is_below_any old edited a) (is_below_any new edited a)
    (still_below_any edited old new same a)
    (still_below_any edited new old (OthersKeep-sym edited old new same) a)

pub others_stay_below : OthersStayBelow
others_stay_below edited old new same a b apart = same_truth (is_below old a b) (is_below new a b)
    (still_below edited old new same a b (sym (same_are_below_edited edited old new same a) ∙ apart))
    (still_below edited new old (OthersKeep-sym edited old new same) a b apart)

-- ---- the links of one class that change

-- the same classes are at or below the class
pub same_below_class : (class : ℕ) (old new : List Link) → OthersKeepTheirLinks (class ∷ []) old new → (a : ℕ) → is_below old a class ≡ is_below new a class
same_below_class class old new same a =
    sym (or-false (is_below old a class)) ∙ same_are_below_edited (class ∷ []) old new same a ∙ or-false (is_below new a class)

-- a class that isn't is below what it was below
pub same_below_elsewhere : (class : ℕ) (old new : List Link) → OthersKeepTheirLinks (class ∷ []) old new → (a b : ℕ) → is_below old a class ≡ false → is_below old a b ≡ is_below new a b
same_below_elsewhere class old new same a b apart = others_stay_below (class ∷ []) old new same a b (or-false (is_below old a class) ∙ apart)
