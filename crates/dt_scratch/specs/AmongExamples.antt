-- Worked examples of look-up among the definitions of one selector, and of how a query is kept.
use Rattle.std.specs.Prelude.{◌≡◌, ℕ, true, false, List, [], ◌∷◌, None, Some, refl}
use Rattle.std.proofs.Common.{arith}
use Rattle.dt_graph.specs.Graph.{Link}
use Rattle.dt_definitions.specs.declared.defined.Defined.{Defined}
use Rattle.dt_scratch.specs.declared.reply.Answer.TheVariants.{Method, Ambiguous}
use Rattle.dt_scratch.specs.Among.{answer_among, applicable_among, beats, HasAllApplicable, IsAlone, IsTransitive, is_better, count_unbeaten}
use Rattle.dt_scratch.specs.QueryParts.{IsPadded, pad}
use Rattle.dt_scratch.specs.Resolve.{is_more_specific_at}
use Rattle.dt_scratch.specs.Examples.{A, B, C, D, f, asks, at, diamond, diamond_graph}

abbrev links : List Link
links = diamond_graph.links

-- what the selector is at one class
abbrev kept : ℕ → ℕ → Defined
kept class body = record { classes = class ∷ []; body = body }

-- of the definitions at A, B and C two are applicable to B, in the order in which they are kept
applicable_to_b : applicable_among links (B ∷ []) (kept A 5 ∷ kept B 10 ∷ kept C 20 ∷ []) ≡ kept A 5 ∷ kept B 10 ∷ []
applicable_to_b = refl

none_applicable : applicable_among links (A ∷ []) (kept B 10 ∷ kept C 20 ∷ []) ≡ []
none_applicable = refl

-- the answer among them is that of the most specific one
answer_at_b : answer_among links (B ∷ []) (at f A 5 ∷ at f B 10 ∷ at f C 20 ∷ []) ≡ Method 10
answer_at_b = refl

answer_at_d : answer_among links (D ∷ []) (at f A 5 ∷ at f B 10 ∷ at f C 20 ∷ []) ≡ Ambiguous
answer_at_d = refl

-- lower in one position and the same in the other is more specific; lower in one and higher in the other isn't
lower_in_one : is_more_specific_at links (B ∷ A ∷ []) (A ∷ A ∷ []) ≡ true
lower_in_one = refl

lower_and_higher : is_more_specific_at links (B ∷ A ∷ []) (A ∷ B ∷ []) ≡ false
lower_and_higher = refl

the_same_classes : is_more_specific_at links (B ∷ A ∷ []) (B ∷ A ∷ []) ≡ false
the_same_classes = refl

-- where two classes are below each other, more specific doesn't go on
two_in_a_circle : IsTransitive (record { class = 0; parent = 1 } ∷ record { class = 1; parent = 0 } ∷ []) → ⊥
two_in_a_circle chains = let back : false ≡ true = chains (0 ∷ []) (1 ∷ []) (0 ∷ []) refl refl in cc

-- any is better than none, and then only a more specific one
better_than_none : is_better links (kept A 5) None ≡ true
better_than_none = refl

better_than_a : is_better links (kept B 10) (Some (kept A 5)) ≡ true
better_than_a = refl

no_better_than_b : is_better links (kept C 20) (Some (kept B 10)) ≡ false
no_better_than_b = refl

-- at D the one at B beats that at A, but not that at C; where there is one at D, it beats all but itself
two_unbeaten : count_unbeaten links (D ∷ []) (kept B 10) (kept A 5 ∷ kept B 10 ∷ kept C 20 ∷ []) ≡ 2
two_unbeaten = refl

only_the_best : count_unbeaten links (D ∷ []) (kept D 30) (kept A 5 ∷ kept B 10 ∷ kept C 20 ∷ kept D 30 ∷ []) ≡ 1
only_the_best = refl

-- those that aren't applicable don't count
c_does_not_count : count_unbeaten links (B ∷ []) (kept B 10) (kept A 5 ∷ kept B 10 ∷ kept C 20 ∷ []) ≡ 1
c_does_not_count = refl

-- the best so far is more specific than one above it, and not than one beside it
b_beats_a : beats links (Some (kept B 10)) (kept A 5) ≡ true
b_beats_a = refl

b_does_not_beat_c : beats links (Some (kept B 10)) (kept C 20) ≡ false
b_does_not_beat_c = refl

none_beats_none : beats links None (kept C 20) ≡ false
none_beats_none = refl

-- at D the one at D is alone, and without it that at B isn't
d_is_alone : IsAlone links (D ∷ []) (kept B 10 ∷ kept C 20 ∷ kept D 30 ∷ []) (Some (kept D 30))
d_is_alone = refl

b_is_not_alone : IsAlone links (D ∷ []) (kept B 10 ∷ kept C 20 ∷ []) (Some (kept B 10)) → ⊥
b_is_not_alone alone = omega (arith, alone)

-- to answer at B in the diamond the definition at B is enough, and that at C isn't
b_is_enough : HasAllApplicable diamond (asks f B) (kept B 10 ∷ [])
b_is_enough = refl

c_is_not_enough : HasAllApplicable diamond (asks f B) (kept C 20 ∷ []) → ⊥
c_is_not_enough same = cc

-- the positions after the classes hold 0, and there is a class
one_class : IsPadded 1 (3 ∷ 0 ∷ 0 ∷ 0 ∷ [])
one_class = record { some = omega arith; few = omega arith; four = refl; padded = refl }

a_number_after_the_classes : IsPadded 1 (3 ∷ 9 ∷ 0 ∷ 0 ∷ []) → ⊥
a_number_after_the_classes padded =
    let same : pad (3 ∷ []) ≡ 3 ∷ 9 ∷ 0 ∷ 0 ∷ [] = padded.padded in cc

no_class : IsPadded 0 (0 ∷ 0 ∷ 0 ∷ 0 ∷ []) → ⊥
no_class padded = omega (arith, padded.some)
