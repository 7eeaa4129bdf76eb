-- Small worked examples of counts of faults, of what sources lose and of what sinks take.
use Rattle.std.specs.Prelude.{◌≡◌, ℕ, zero, suc, ◌+◌, ◌-◌, ◌^◌, List, [], ◌∷◌, length, codes, true, false, None, Some, Ok, Err, refl}
use Rattle.std.proofs.Common.{ap, arith, lit<, lit≤, length-append, length-take}
use Rattle.dt_outside.specs.Faults.{last_count, Rose, one_fault_more, IsCounted}
use Rattle.dt_outside.specs.Losing.{Loses, LosesAtMost}
use Rattle.dt_outside.specs.Putting.{AppendsPrefix}
use Rattle.dt_outside.specs.InMemory.{ListSource, ListSink, next_call, is_failing, is_refused, Reads, Puts}

-- ---- counts of faults

-- the greatest count is the greatest number of 64 bits
greatest_count : last_count ≡ 18446744073709551615
greatest_count = refl

no_count_after_it : last_count + 1 ≡ 2 ^ 64
no_count_after_it = refl

one_fault_rises : Rose 3 4
one_fault_rises = λ below. lit< tt

no_fault_no_rise : Rose 3 3 → ⊥
no_fault_no_rise rose = omega (arith, rose (lit< tt))

fall_no_rise : Rose 4 3 → ⊥
fall_no_rise rose = omega (arith, rose (lit< tt))

-- the greatest count stands still at a fault
greatest_count_rises : Rose last_count last_count
greatest_count_rises = λ below. absurd (omega (arith, below))

fault_counted : one_fault_more 3 ≡ 4
fault_counted = refl

last_fault_counted : one_fault_more last_count ≡ last_count
last_fault_counted = refl

good_call_counts_none : IsCounted {T = ℕ} {E = ℕ} (Ok 5) 3 3
good_call_counts_none = refl

failed_call_counts_one : IsCounted {T = ℕ} {E = ℕ} (Err 0) 3 4
failed_call_counts_one = refl

-- a call that is fine counts no fault, and one that failed no two
no_fault_at_a_good_call : IsCounted {T = ℕ} {E = ℕ} (Ok 5) 3 4 → ⊥
no_fault_at_a_good_call counted = omega (arith, counted)

no_two_faults_at_once : IsCounted {T = ℕ} {E = ℕ} (Err 0) 3 5 → ⊥
no_two_faults_at_once counted = let wrong : ◌≡◌ {A = ℕ} 5 4 = counted in omega (arith, wrong)

-- ---- what a source loses

two_of_three : LosesAtMost 2 (Some (1 ∷ 2 ∷ 3 ∷ [])) (Some (3 ∷ []))
two_of_three = (1 ∷ 2 ∷ [], lit≤ tt, refl)

exactly_two : Loses 2 (Some (1 ∷ 2 ∷ 3 ∷ [])) (Some (3 ∷ []))
exactly_two = (1 ∷ 2 ∷ [], refl, refl)

two_is_not_three : Loses 3 (Some (1 ∷ 2 ∷ 3 ∷ [])) (Some (3 ∷ [])) → ⊥
two_is_not_three (lost, count, split) = omega (arith, count, ap length split, length-append lost (3 ∷ []))

more_than_one : LosesAtMost 1 (Some (1 ∷ 2 ∷ 3 ∷ [])) (Some (3 ∷ [])) → ⊥
more_than_one (lost, few, split) = omega (arith, few, ap length split, length-append lost (3 ∷ []))

-- the last byte of a text
abbrev last_byte : List ℕ → ℕ
last_byte [] = 0
last_byte (byte ∷ []) = byte
last_byte (byte ∷ next ∷ bytes) = last_byte (next ∷ bytes)

-- what is lost stands at the front
not_from_the_end : LosesAtMost 1 (Some (1 ∷ 2 ∷ [])) (Some (1 ∷ [])) → ⊥
not_from_the_end ([], few, split) = absurd cc
not_from_the_end (x ∷ [], few, split) = let wrong : ◌≡◌ {A = ℕ} 2 1 = ap last_byte split in absurd (omega (arith, wrong))
not_from_the_end (x ∷ y ∷ lost, few, split) = omega (arith, few)

-- a source that told its bytes still tells them; one that doesn't may lose any
still_told : LosesAtMost 9 (Some []) None → ⊥
still_told lost = lost

never_told : LosesAtMost 0 None None
never_told = tt

-- ---- what a sink takes of a text

two_of_the_text : AppendsPrefix (Some (9 ∷ [])) (Some (9 ∷ 1 ∷ 2 ∷ [])) (1 ∷ 2 ∷ 3 ∷ [])
two_of_the_text = (2, lit≤ tt, refl)

other_bytes : AppendsPrefix (Some []) (Some (2 ∷ [])) (1 ∷ []) → ⊥
other_bytes (zero, few, taken) = absurd cc
other_bytes (suc zero, few, taken) = absurd cc
other_bytes (suc (suc count), few, taken) = omega (arith, few)

more_than_the_text : AppendsPrefix (Some []) (Some (1 ∷ 2 ∷ [])) (1 ∷ []) → ⊥
more_than_the_text (count, few, taken) = omega (arith, few, ap length taken, length-take {A = ℕ} count (1 ∷ []))

-- ---- the places of calls

first_call : next_call 0 ≡ 1
first_call = refl

last_call : next_call (2 ^ 32 - 1) ≡ 2 ^ 32 - 1
last_call = refl

-- the call after two is the third
third_call_fails : is_failing (3 ∷ []) 2 ≡ true
third_call_fails = refl

fourth_call_does_not : is_failing (3 ∷ []) 3 ≡ false
fourth_call_does_not = refl

-- ---- a source of three bytes that gives two a call, and fails at the second

abbrev three_left : ListSource
three_left = record { left = codes "abc"; step = 2; failing = 2 ∷ []; calls = 0; faults = 0 }

abbrev one_left : ListSource
one_left = record { left = codes "c"; step = 2; failing = 2 ∷ []; calls = 1; faults = 0 }

abbrev one_left_after_fault : ListSource
one_left_after_fault = record { left = codes "c"; step = 2; failing = 2 ∷ []; calls = 2; faults = 1 }

abbrev none_left : ListSource
none_left = record { left = []; step = 2; failing = 2 ∷ []; calls = 3; faults = 1 }

first_read : Reads {E = ℕ} three_left 5 (Ok 2) one_left
first_read = (refl, refl, refl)

second_read : Reads {E = ℕ} one_left 5 (Err 0) one_left_after_fault
second_read = (refl, refl)

third_read : Reads {E = ℕ} one_left_after_fault 5 (Ok 1) none_left
third_read = (refl, refl, refl)

no_read_of_less : (new : ListSource) → Reads {E = ℕ} three_left 5 (Ok 1) new → ⊥
no_read_of_less new (works, count, is) = absurd cc

no_read_past_the_room : (new : ListSource) → Reads {E = ℕ} three_left 1 (Ok 2) new → ⊥
no_read_past_the_room new (works, count, is) = absurd cc

no_fault_of_its_own : (new : ListSource) → Reads {E = ℕ} three_left 5 (Err 0) new → ⊥
no_fault_of_its_own new (fails, is) = absurd cc

no_read_at_a_fault : (count : ℕ) (new : ListSource) → Reads {E = ℕ} one_left 5 (Ok count) new → ⊥
no_read_at_a_fault count new (works, is_count, is) = absurd cc

-- ---- a sink with room for three bytes that takes two a call, and fails at the second

abbrev none_taken : ListSink
none_taken = record { taken = []; step = 2; room = 3; failing = 2 ∷ []; calls = 0; faults = 0 }

abbrev two_taken : ListSink
two_taken = record { taken = codes "ab"; step = 2; room = 3; failing = 2 ∷ []; calls = 1; faults = 0 }

abbrev two_taken_after_fault : ListSink
two_taken_after_fault = record { taken = codes "ab"; step = 2; room = 3; failing = 2 ∷ []; calls = 2; faults = 1 }

abbrev three_taken : ListSink
three_taken = record { taken = codes "abc"; step = 2; room = 3; failing = 2 ∷ []; calls = 3; faults = 1 }

first_put : Puts {E = ℕ} none_taken (codes "abcd") (Ok 2) two_taken
first_put = (refl, refl, refl)

second_put : Puts {E = ℕ} two_taken (codes "cd") (Err 0) two_taken_after_fault
second_put = (refl, refl)

third_put : Puts {E = ℕ} two_taken_after_fault (codes "cd") (Ok 1) three_taken
third_put = (refl, refl, refl)

-- the room is full
full_sink_refuses : is_refused three_taken ≡ true
full_sink_refuses = refl

no_put_past_the_room : (count : ℕ) (new : ListSink) → Puts {E = ℕ} three_taken (codes "d") (Ok count) new → ⊥
no_put_past_the_room count new (works, is_count, is) = absurd cc

no_put_of_less : (new : ListSink) → Puts {E = ℕ} none_taken (codes "abcd") (Ok 1) new → ⊥
no_put_of_less new (works, count, is) = absurd cc
