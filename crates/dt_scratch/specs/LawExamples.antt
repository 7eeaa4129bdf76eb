-- Worked examples of cells, and of the laws at small programs.
use Rattle.std.specs.Prelude.{◌≡◌, ◌==◌, ℕ, ◌<◌, Bool, IsTrue, true, false, [], ◌∷◌, refl}
use Rattle.std.proofs.Common.{arith, ap, sym, ⊎_elim}
use Rattle.std.proofs.lemmas.Bool.{eqb-true}
use Rattle.std.proofs.lemmas.List.Elements.{All-nil, All-cons, All-head, All-tail}
use Rattle.dt_graph.specs.Graph.{is_live}
use Rattle.dt_graph.proofs.ListMembers.{In-from_Contains}
use Rattle.dt_graph.specs.Below.{is_below}
use Rattle.dt_definitions.specs.Program.{Program, Definition}
use Rattle.dt_definitions.specs.Lawful.{Lawful}
use Rattle.dt_scratch.specs.declared.reply.Answer.TheVariants.{Method, NotUnderstood, Ambiguous}
use Rattle.dt_scratch.specs.declared.reply.Reply.TheVariants.{NoSelector, NoClass, Answered}
use Rattle.dt_scratch.specs.Query.{LawfulQuery}
use Rattle.dt_scratch.specs.Resolve.{are_below, applicable, answer, reply, cell_of, cell}
use Rattle.dt_scratch.specs.Laws.{IsTop, TopSeesItself, IsLowest, MethodsAreLowest, LowestAnswers, NotUnderstoodWhereNone, SeeTheSame, SameAnswersWhereSame}
use Rattle.dt_scratch.specs.CellLaws.{OnlyAnswersAreInCells, IsUnderstood, UnderstoodCells, CellsAreAnswers}
use Rattle.dt_scratch.specs.Examples.{A, B, C, D, f, at, asks, defined, diamond, diamond_graph, diamond_definitions, program_of}

-- the diamond with a definition at D, which settles it, and with one at A
abbrev settled : Program
settled = program_of diamond_graph (defined f (D ∷ []) 30 diamond_definitions)

abbrev with_top : Program
with_top = program_of diamond_graph (defined f (A ∷ []) 5 diamond_definitions)

-- a reply that is no answer leaves its cell not understood
no_cell_without_selector : cell_of NoSelector ≡ NotUnderstood
no_cell_without_selector = refl

no_cell_at_a_dead_class : cell_of (NoClass 1) ≡ NotUnderstood
no_cell_at_a_dead_class = refl

-- a class that has no parent is below no other, and one that has a parent is
a_or_other : (same : Bool) (other : ℕ) → (A == other) ≡ same → is_below diamond_graph.links A other ≡ true → A ≡ other
a_or_other true other e below = eqb-true A other e
a_or_other false other e below = grind (arith, e)

a_is_top : IsTop diamond_graph.links A
a_is_top other below = a_or_other (A == other) other refl below

b_is_not_top : IsTop diamond_graph.links B → ⊥
b_is_not_top top = let same : B ≡ A = top A refl in omega (arith, same)

-- in the settled diamond the definition at D is the lowest that is applicable at D
abbrev IsBelowBy : ℕ → Definition → Type 0
IsBelowBy class d = IsTrue (are_below diamond_graph.links (class ∷ []) d.classes)

d_is_lowest : IsLowest settled (asks f D) (at f D 30)
d_is_lowest = (
  (2, omega arith, refl),
  All-cons (IsBelowBy D) (at f B 10) (at f C 20 ∷ at f D 30 ∷ []) refl
      (All-cons (IsBelowBy D) (at f C 20) (at f D 30 ∷ []) refl
      (All-cons (IsBelowBy D) (at f D 30) [] refl (All-nil (IsBelowBy D)))),
)

-- and without it that at B isn't, since it isn't below the one at C
b_is_not_lowest : IsLowest diamond (asks f D) (at f B 10) → ⊥
b_is_not_lowest lowest =
    let beside : false ≡ true =
    All-head (IsBelowBy B) (at f C 20) [] (All-tail (IsBelowBy B) (at f B 10) (at f C 20 ∷ []) lowest.1) in cc

abbrev IsLive : ℕ → Type 0
IsLive class = IsTrue (is_live diamond_graph class)

-- a query of one class is one that may be asked, and one without a class isn't
abbrev IsSmall : ℕ → Type 0
IsSmall n = n < 65536

d_may_be_asked : LawfulQuery (asks f D)
d_may_be_asked = record {
  some = omega arith;
  few = omega arith;
  selector_in_range = omega arith;
  classes_in_range = All-cons IsSmall D [] (omega arith) (All-nil IsSmall);
}

no_class_is_none : LawfulQuery (record { selector = f; classes = [] }) → ⊥
no_class_is_none lawful = omega (arith, lawful.some)

-- a query that is understood, one to which no definition is applicable, and one of a class that isn't live
d_is_understood : IsUnderstood diamond (asks f D)
d_is_understood = record {
  arity_fits = refl;
  classes_live = All-cons IsLive D [] refl (All-nil IsLive);
  some_applicable = λ e. cc;
}

a_is_not_understood : IsUnderstood diamond (asks f A) → ⊥
a_is_not_understood understood = understood.some_applicable refl

a_dead_class_is_not_understood : IsUnderstood diamond (asks f 9) → ⊥
a_dead_class_is_not_understood understood =
    let live : false ≡ true = All-head IsLive 9 [] understood.classes_live in cc

-- another selector's definition is not seen
abbrev with_another : Program
with_another = program_of diamond_graph (at 3 A 50 ∷ diamond_definitions)

sees_no_other : SeeTheSame (asks f D) diamond with_another
sees_no_other = record { applicable_stay = λ d. ((λ there. there), (λ there. there)); order_stays = λ a b i j. refl }

sees_one_more : SeeTheSame (asks f D) diamond settled → ⊥
sees_one_more same =
    let seen = In-from_Contains (at f B 10 ∷ at f C 20 ∷ []) (at f D 30) ((same.applicable_stay (at f D 30)).1 (2, omega arith, refl)) in
    ⊎_elim (λ e. let n : 30 ≡ 10 = ap (λ (d : Definition). d.body) e in omega (arith, n))
    (λ later. ⊎_elim (λ e. let n : 30 ≡ 20 = ap (λ (d : Definition). d.body) e in omega (arith, n)) (λ none. none) later) seen

-- each law at an example
only_its_own : TopSeesItself → applicable with_top (asks f A) ≡ at f A 5 ∷ []
only_its_own law = law with_top (asks f A) (All-cons (IsTop diamond_graph.links) A [] a_is_top (All-nil (IsTop diamond_graph.links)))

method_of_the_lowest : MethodsAreLowest → Lawful settled → (d : Definition) × IsLowest settled (asks f D) d × (d.body ≡ 30)
method_of_the_lowest law lawful = law settled lawful (asks f D) 30 refl

lowest_is_the_method : LowestAnswers → Lawful settled → answer settled (asks f D) ≡ Method 30
lowest_is_the_method law lawful = law settled lawful (asks f D) (at f D 30) d_is_lowest

none_at_a : NotUnderstoodWhereNone → Lawful diamond → applicable diamond (asks f A) ≡ []
none_at_a law lawful = (law diamond lawful (asks f A)).0 refl

ambiguous_with_another : SameAnswersWhereSame → Lawful diamond → Lawful with_another → answer with_another (asks f D) ≡ Ambiguous
ambiguous_with_another law is_old is_new = sym (law diamond with_another is_old is_new (asks f D) sees_no_other)

cell_of_its_reply : OnlyAnswersAreInCells → reply diamond (asks f B) ≡ Answered (Method 10)
cell_of_its_reply law = law diamond (asks f B) (λ e. cc)

cell_of_the_understood : UnderstoodCells → Lawful diamond → cell diamond (asks f D) ≡ NotUnderstood → ⊥
cell_of_the_understood law lawful = (law diamond lawful (asks f D)).1 d_is_understood

cell_of_a_dead_class : CellsAreAnswers → Lawful diamond → cell diamond (asks f 9) ≡ NotUnderstood
cell_of_a_dead_class law lawful = law diamond lawful (asks f 9)
