-- Small worked examples of where a line may stand; the lines before it are given latest first.
use Rattle.std.specs.Prelude.{◌≡◌, [], ◌∷◌, true, false, refl}
use Rattle.dt_script.specs.Place.{may_stand}
use Rattle.dt_script.specs.declared.line.Line.{Line}
use Rattle.dt_script.specs.declared.line.Line.TheVariants.{Header, DropClass, Begin, Commit, Phase, Caller, Call, Pin, Unpin, End}

abbrev one_call : Line
one_call = Call (record { selector = 0; classes = 0 ∷ [] })

-- ---- the header, and the end

header_first : may_stand 8 [] Header ≡ true
header_first = refl

no_second_header : may_stand 8 (Header ∷ []) Header ≡ false
no_second_header = refl

nothing_after_the_end : may_stand 8 (End ∷ Header ∷ []) (DropClass 0) ≡ false
nothing_after_the_end = refl

no_second_end : may_stand 8 (End ∷ Header ∷ []) End ≡ false
no_second_end = refl

end_after_calls : may_stand 8 (one_call ∷ Caller 1 ∷ Header ∷ []) End ≡ true
end_after_calls = refl

-- ---- batches

batch_after_an_edit : may_stand 8 (DropClass 0 ∷ Header ∷ []) Begin ≡ true
batch_after_an_edit = refl

no_batch_in_a_batch : may_stand 8 (DropClass 0 ∷ Begin ∷ Header ∷ []) Begin ≡ false
no_batch_in_a_batch = refl

commit_in_a_batch : may_stand 8 (DropClass 0 ∷ Begin ∷ Header ∷ []) Commit ≡ true
commit_in_a_batch = refl

batch_of_no_edit : may_stand 8 (Begin ∷ Header ∷ []) Commit ≡ true
batch_of_no_edit = refl

second_batch : may_stand 8 (Commit ∷ Begin ∷ Header ∷ []) Begin ≡ true
second_batch = refl

no_commit_outside : may_stand 8 (Commit ∷ Begin ∷ Header ∷ []) Commit ≡ false
no_commit_outside = refl

no_end_in_a_batch : may_stand 8 (Begin ∷ Header ∷ []) End ≡ false
no_end_in_a_batch = refl

no_phase_in_a_batch : may_stand 8 (Begin ∷ Header ∷ []) Phase ≡ false
no_phase_in_a_batch = refl

no_caller_in_a_batch : may_stand 8 (Begin ∷ Header ∷ []) (Caller 1) ≡ false
no_caller_in_a_batch = refl

-- ---- edits stand before the callers of their phase

no_edit_after_a_caller : may_stand 8 (Caller 1 ∷ Header ∷ []) (DropClass 0) ≡ false
no_edit_after_a_caller = refl

no_batch_after_a_call : may_stand 8 (one_call ∷ Caller 1 ∷ Header ∷ []) Begin ≡ false
no_batch_after_a_call = refl

edit_in_the_next_phase : may_stand 8 (Phase ∷ one_call ∷ Caller 1 ∷ Header ∷ []) (DropClass 0) ≡ true
edit_in_the_next_phase = refl

-- ---- phases

phase_at_the_beginning : may_stand 8 (Header ∷ []) Phase ≡ true
phase_at_the_beginning = refl

phase_after_calls : may_stand 8 (one_call ∷ Caller 1 ∷ Header ∷ []) Phase ≡ true
phase_after_calls = refl

-- ---- callers and calls

last_reader : may_stand 8 (Header ∷ []) (Caller 8) ≡ true
last_reader = refl

no_reader_after_the_last : may_stand 8 (Header ∷ []) (Caller 9) ≡ false
no_reader_after_the_last = refl

no_caller_twice : may_stand 8 (one_call ∷ Caller 2 ∷ Caller 1 ∷ Header ∷ []) (Caller 1) ≡ false
no_caller_twice = refl

caller_in_each_phase : may_stand 8 (Phase ∷ one_call ∷ Caller 1 ∷ Header ∷ []) (Caller 1) ≡ true
caller_in_each_phase = refl

no_call_without_a_caller : may_stand 8 (Header ∷ []) one_call ≡ false
no_call_without_a_caller = refl

no_call_of_the_phase_before : may_stand 8 (Phase ∷ Caller 1 ∷ Header ∷ []) one_call ≡ false
no_call_of_the_phase_before = refl

call_after_another : may_stand 8 (one_call ∷ Caller 1 ∷ Header ∷ []) one_call ≡ true
call_after_another = refl

call_after_a_pin : may_stand 8 (Pin ∷ Caller 1 ∷ Header ∷ []) one_call ≡ true
call_after_a_pin = refl

-- ---- pins

pin_first : may_stand 8 (Caller 1 ∷ Header ∷ []) Pin ≡ true
pin_first = refl

no_unpin_first : may_stand 8 (Caller 1 ∷ Header ∷ []) Unpin ≡ false
no_unpin_first = refl

no_pin_twice : may_stand 8 (one_call ∷ Pin ∷ Caller 1 ∷ Header ∷ []) Pin ≡ false
no_pin_twice = refl

-- a pin holds on through the phases
unpin_in_a_later_phase : may_stand 8 (Caller 1 ∷ Phase ∷ Pin ∷ Caller 1 ∷ Header ∷ []) Unpin ≡ true
unpin_in_a_later_phase = refl

no_pin_in_a_later_phase : may_stand 8 (Caller 1 ∷ Phase ∷ Pin ∷ Caller 1 ∷ Header ∷ []) Pin ≡ false
no_pin_in_a_later_phase = refl

-- each caller has its own
pin_of_another : may_stand 8 (Caller 2 ∷ Pin ∷ Caller 1 ∷ Header ∷ []) Pin ≡ true
pin_of_another = refl

no_unpin_of_another : may_stand 8 (Caller 2 ∷ Pin ∷ Caller 1 ∷ Header ∷ []) Unpin ≡ false
no_unpin_of_another = refl

-- and keeps it whatever another pins and unpins
pin_beside_another : may_stand 8 (Caller 1 ∷ Phase ∷ Pin ∷ Caller 2 ∷ Pin ∷ Caller 1 ∷ Header ∷ []) Unpin ≡ true
pin_beside_another = refl

pin_after_the_unpin_of_another : may_stand 8 (Caller 1 ∷ Phase ∷ Unpin ∷ Pin ∷ Caller 2 ∷ Pin ∷ Caller 1 ∷ Header ∷ []) Unpin ≡ true
pin_after_the_unpin_of_another = refl

pin_after_an_unpin : may_stand 8 (Unpin ∷ Pin ∷ Caller 1 ∷ Header ∷ []) Pin ≡ true
pin_after_an_unpin = refl

no_pin_without_a_caller : may_stand 8 (Phase ∷ Caller 1 ∷ Header ∷ []) Pin ≡ false
no_pin_without_a_caller = refl
