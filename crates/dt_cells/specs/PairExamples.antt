-- The pair, worked out: a selector whose arity changes goes from one part to the other within one batch.
use Rattle.std.specs.Prelude.{◌≡◌, ℕ, ◌==◌, if◌then◌else◌, List, [], ◌∷◌, true, false, refl}
use Rattle.std.proofs.Common.{inl, inr, arith}
use Rattle.dt_pages.specs.Reading.{Reading}
use Rattle.dt_scratch.specs.Query.{Query}
use Rattle.dt_scratch.specs.declared.reply.Answer.{Answer}
use Rattle.dt_scratch.specs.declared.reply.Answer.TheVariants.{Method, NotUnderstood}
use Rattle.dt_scratch.specs.declared.reply.Change.{Change}
use Rattle.dt_cells.specs.Regions.{place_of}
use Rattle.dt_cells.specs.Held.{Held, none_held, IsHeld, held_after}
use Rattle.dt_cells.specs.Kind.{Kind}
use Rattle.dt_cells.specs.PlaceWords.{is_place_among, own_words}
use Rattle.dt_cells.specs.Pair.{single_held, multi_held, single_changes, multi_changes, IsWordOfPair, pair_kind}

abbrev sent : List ℕ → Query
sent classes = record { selector = 3; classes = classes }

-- the changes of a batch: of the query of class 1, and of that of classes 1 and 2
abbrev of_one : Answer → Change
of_one answer = record { query = sent (1 ∷ []); answer = answer }

abbrev of_two : Answer → Change
of_two answer = record { query = sent (1 ∷ 2 ∷ []); answer = answer }

-- a kind in which a selector has a place where its query of these classes is held, with one cell, that answers so
abbrev with_place : List ℕ → ℕ → Answer → Kind
with_place classes cell answer = record {
  arities = 4;
  most_low = 2;
  has_places = true;
  owns = λ address. address == cell;
  part = λ x q. if x cell == 0 then NotUnderstood else answer;
  placed = λ held s. IsHeld held (record { selector = s; classes = classes });
  way = λ x q n. cell;
  shows = λ x held. Unit {0};
  places = λ x held changes y. Unit {0};
}

abbrev a : Kind
a = with_place (1 ∷ []) 16777216 (Method 7)

abbrev b : Kind
b = with_place (1 ∷ 2 ∷ []) 67108864 (Method 8)

-- the place word of the selector is this one
abbrev worded : ℕ → Reading
worded word address = if address == place_of 3 then word else 0

-- what is held before: one query
abbrev one_held : Held
one_held = held_after none_held (of_one (Method 7) ∷ [])

abbrev two_held : Held
two_held = held_after none_held (of_two (Method 8) ∷ [])

-- ---- what belongs to which part

abbrev to_two : List Change
to_two = of_one NotUnderstood ∷ of_two (Method 8) ∷ []

the_first_takes_out : single_changes to_two ≡ of_one NotUnderstood ∷ []
the_first_takes_out = refl

the_second_puts_in : multi_changes to_two ≡ of_two (Method 8) ∷ []
the_second_puts_in = refl

the_first_holds_it_before : single_held one_held (sent (1 ∷ [])) ≡ Method 7
the_first_holds_it_before = refl

the_second_does_not : multi_held one_held (sent (1 ∷ [])) ≡ NotUnderstood
the_second_does_not = refl

the_first_owns_its_cell : (pair_kind a b).owns 16777216 ≡ true
the_first_owns_its_cell = refl

the_second_owns_its_cell : (pair_kind a b).owns 67108864 ≡ true
the_second_owns_its_cell = refl

no_other_cell : (pair_kind a b).owns 16777217 ≡ false
no_other_cell = refl

one_class_by_the_first : (pair_kind a b).part (λ address. 1) (sent (1 ∷ [])) ≡ Method 7
one_class_by_the_first = refl

two_classes_by_the_second : (pair_kind a b).part (λ address. 1) (sent (1 ∷ 2 ∷ [])) ≡ Method 8
two_classes_by_the_second = refl

-- ---- from the first part to the second: it had place word 5, the first's stage leaves 0, the second's 9

it_has_the_word_of_the_second : IsWordOfPair a b (worded 5) one_held to_two (worded 0) (worded 9) 3 9
it_has_the_word_of_the_second = inr (inl ((λ e. cc), refl))

not_that_of_the_first : IsWordOfPair a b (worded 5) one_held to_two (worded 0) (worded 9) 3 0 → ⊥
not_that_of_the_first (inl w) = w.0 refl
not_that_of_the_first (inr (inl w)) = let is : 0 ≡ 9 = w.1 in omega (arith, is)
not_that_of_the_first (inr (inr w)) = w.1 (λ e. cc)

-- ---- from the second part to the first: the second's stage, which is the last, leaves 0, and the word is the first's

abbrev to_one : List Change
to_one = of_one (Method 7) ∷ of_two NotUnderstood ∷ []

it_has_the_word_of_the_first : IsWordOfPair a b (worded 9) two_held to_one (worded 6) (worded 0) 3 6
it_has_the_word_of_the_first = inl ((λ e. cc), refl)

not_what_the_last_stage_left : IsWordOfPair a b (worded 9) two_held to_one (worded 6) (worded 0) 3 0 → ⊥
not_what_the_last_stage_left (inl w) = let is : 0 ≡ 6 = w.1 in omega (arith, is)
not_what_the_last_stage_left (inr (inl w)) = w.0 refl
not_what_the_last_stage_left (inr (inr w)) = w.0 (λ e. cc)

-- ---- a change in the part in which it has no place: it keeps the word of the other, which has no change of it

abbrev nothing_there : List Change
nothing_there = of_one NotUnderstood ∷ []

it_keeps_its_word : IsWordOfPair a b (worded 9) two_held nothing_there (worded 0) (worded 9) 3 9
it_keeps_its_word = inr (inl ((λ e. cc), refl))

-- ---- no query of it is held any more

it_has_no_word : IsWordOfPair a b (worded 9) two_held (of_two NotUnderstood ∷ []) (worded 9) (worded 0) 3 0
it_has_no_word = inr (inr ((λ h. h refl), (λ h. h refl), refl))

-- ---- the words with which the stage of a part begins

its_place_word : is_place_among (3 ∷ []) 8195 ≡ true
its_place_word = refl

that_of_another : is_place_among (3 ∷ []) 8196 ≡ false
that_of_another = refl

its_own_where_it_has_a_place : own_words (λ selector. selector == 3) (worded 5) 8195 ≡ 5
its_own_where_it_has_a_place = refl

none_where_it_has_no_place : own_words (λ selector. false) (worded 5) 8195 ≡ 0
none_where_it_has_no_place = refl
