-- Worked examples of differences, cells and rows: the diamond, and what a definition at D makes of it.
use Rattle.std.specs.Prelude.{◌≡◌, ℕ, ◌<◌, true, false, [], ◌∷◌, refl}
use Rattle.std.proofs.Common.{arith}
use Rattle.std.proofs.lemmas.List.Elements.{All-nil, All-cons, All-head}
use Rattle.std.specs.declared.cmp.Ordering.TheVariants.{Less, Equal}
use Rattle.std.specs.Ordering.{nat_cmp}
use Rattle.dt_definitions.specs.Program.{Program}
use Rattle.dt_definitions.specs.Step.{stepped}
use Rattle.dt_definitions.specs.declared.edit.Edit.TheVariants as edit
use Rattle.dt_scratch.specs.declared.reply.Answer.TheVariants.{Method, Ambiguous}
use Rattle.dt_scratch.specs.declared.reply.Change.{Change}
use Rattle.dt_scratch.specs.Query.{query_order}
use Rattle.dt_propagate.specs.Differences.{Ascending, MoreThan, Differs, TellsNewCell, AreDifferences, is_less}
use Rattle.dt_propagate.specs.Understood.{Understands, GoesOn, IsRow, gone_on}
use Rattle.dt_scratch.specs.Examples.{A, B, D, f, asks, asks_two, diamond}

less : is_less Less ≡ true
less = refl

not_less : is_less Equal ≡ false
not_less = refl

-- queries ascend by selector, arity and classes
in_order : Ascending query_order (asks f D ∷ asks_two f A B ∷ asks 5 A ∷ [])
in_order = (refl, (refl, tt))

not_twice : Ascending query_order (asks f D ∷ asks f D ∷ []) → ⊥
not_twice ascending = let there : false ≡ true = ascending.0 in cc

-- two numbers are below 2, and so more than one is
abbrev BelowTwo : ℕ → Type 0
BelowTwo n = n < 2

more_than_one : MoreThan nat_cmp BelowTwo 1
more_than_one = (
  0 ∷ 1 ∷ [],
  (refl, tt),
  All-cons BelowTwo 0 (1 ∷ []) (omega arith) (All-cons BelowTwo 1 [] (omega arith) (All-nil BelowTwo)),
  omega arith,
)

-- a definition at D settles the diamond there, and nowhere else
abbrev settled : Program
settled = stepped diamond (edit.Define f (D ∷ []) 30 ∷ [])

d_differs : Differs diamond settled (asks f D)
d_differs same = cc

b_does_not : Differs diamond settled (asks f B) → ⊥
b_does_not differs = differs refl

abbrev to_d : Change
to_d = record { query = asks f D; answer = Method 30 }

tells_of_d : TellsNewCell settled to_d
tells_of_d = refl

tells_the_old : TellsNewCell settled (record { query = asks f D; answer = Ambiguous }) → ⊥
tells_the_old same = cc

-- no change is a difference where one is missing
one_is_missing : AreDifferences diamond settled [] → ⊥
one_is_missing changes = let there = changes.queries.none_missing (asks f D) d_differs in omega (arith, there.1)

b_is_none : AreDifferences diamond settled (record { query = asks f B; answer = Method 10 } ∷ []) → ⊥
b_is_none changes = All-head (Differs diamond settled) (asks f B) [] changes.queries.each_holds refl

-- nor where one stands twice, or with its old cell
d_stands_twice : AreDifferences diamond settled (to_d ∷ to_d ∷ []) → ⊥
d_stands_twice changes = let there : false ≡ true = changes.queries.ascending.0 in cc

d_has_its_old_cell : AreDifferences diamond settled (record { query = asks f D; answer = Ambiguous } ∷ []) → ⊥
d_has_its_old_cell changes =
    tells_the_old (All-head (TellsNewCell settled) (record { query = asks f D; answer = Ambiguous }) [] changes.answers)

-- at D the diamond is understood, at A it isn't
understood_at_d : Understands diamond (asks f D)
understood_at_d none = cc

not_at_a : Understands diamond (asks f A) → ⊥
not_at_a understood = understood refl

-- so a selector by itself is a row, and with the class there is nothing left to go on by
from_nothing : gone_on (record { selector = f; classes = [] }) (D ∷ []) ≡ asks f D
from_nothing = refl

after_its_classes : gone_on (asks f A) (B ∷ []) ≡ asks_two f A B
after_its_classes = refl

the_selector_is_a_row : IsRow diamond (record { selector = f; classes = [] })
the_selector_is_a_row = (D ∷ [], record { some = λ none. cc; understood = understood_at_d })

not_by_nothing : GoesOn diamond (asks f D) [] → ⊥
not_by_nothing on = on.some refl
