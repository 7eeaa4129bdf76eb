use Rattle.dt_outside.proofs.OverCalls.{same_count_rose_at_last, one_fault_more_is_rise, rose_in_one_of_two, rose_over_two}
use Rattle.dt_outside.proofs.laws.counts_rise_call_by_call.Goals as goal

pub returns : goal.returns
returns c = record { same = same_count_rose_at_last; fault = one_fault_more_is_rise; in_one = rose_in_one_of_two; over_two = rose_over_two }
