-- The laws of counts, losses and prefixes over two calls.
use Rattle.std.proofs.Common.{◌≡◌, ◌+◌, ◌<◌, ◌≤◌, Bool, true, false, nat_lt, [], ◌∷◌, ◌++◌, length, take, Some, None, ◌⊎◌, inl, inr, refl, sym, ap, ◌∙◌, arith, append_assoc, append-nil, length-append}
use Rattle.std.proofs.lemmas.Bool.Decides.{nat_tests}
use Rattle.std.proofs.Math.Seq.{take-length, take-append-add}
use Rattle.dt_outside.specs.Faults.{last_count, Rose}
use Rattle.dt_outside.specs.Laws.{SameCountRoseAtLast, OneFaultMoreIsRise, RoseInOneOfTwo, RoseOverTwo, LosingNoneIsKeeping, KeepingIsLosingNone, LossesAddUp, WholeIsPrefix, NothingIsPrefix, PrefixesAddUp, ToldWholeWhereCalm}

pub same_count_rose_at_last : SameCountRoseAtLast
same_count_rose_at_last count rose = by (nat_lt count last_count) refl
  where
    by : (b : Bool) → nat_lt count last_count ≡ b → last_count ≤ count
    by true below = absurd (let under : count < last_count = grind (arith, nat_tests) in omega (arith, rose under))
    by false below = grind (arith, nat_tests)

pub one_fault_more_is_rise : OneFaultMoreIsRise
one_fault_more_is_rise count = λ below. omega arith

pub rose_in_one_of_two : RoseInOneOfTwo
rose_in_one_of_two old middle new up up' (inl first) = λ below. omega (arith, first below)
rose_in_one_of_two old middle new up up' (inr second) = λ below. by (nat_lt old middle) refl below
  where
    by : (b : Bool) → nat_lt old middle ≡ b → old < last_count → old < new
    by true rises below = grind (arith, nat_tests)
    by false rises below =
        let same : middle ≤ old = grind (arith, nat_tests) in
        let under : middle < last_count = omega arith in
        omega (arith, second under)

pub rose_over_two : RoseOverTwo
rose_over_two old middle new up rose = by (nat_lt old middle) refl
  where
    by : (b : Bool) → nat_lt old middle ≡ b → Rose old middle ⊎ Rose middle new
    by true rises = inl (λ below. grind (arith, nat_tests))
    by false rises = inr (λ below.
        let same : middle ≤ old = grind (arith, nat_tests) in
        let under : old < last_count = omega arith in
        omega (arith, rose under))

pub losing_none_is_keeping : LosingNoneIsKeeping
losing_none_is_keeping None new lost = tt
losing_none_is_keeping (Some left) None lost = absurd lost
losing_none_is_keeping (Some left) (Some rest) ([], few, split) = sym split
losing_none_is_keeping (Some left) (Some rest) (x ∷ lost, few, split) = absurd (omega (arith, few))

pub keeping_is_losing_none : KeepingIsLosingNone
keeping_is_losing_none limit None new kept = tt
keeping_is_losing_none limit (Some left) None kept = absurd kept
keeping_is_losing_none limit (Some left) (Some rest) kept = ([], omega arith, sym kept)

pub losses_add_up : LossesAddUp
losses_add_up first second None middle new lost lost' = tt
losses_add_up first second (Some left) None new lost lost' = absurd lost
losses_add_up first second (Some left) (Some rest) None lost lost' = absurd lost'
losses_add_up first second (Some left) (Some rest) (Some last) (gone, few, split) (more, few', split') = (
  gone ++ more,
  omega (arith, few, few', length-append gone more),
  split ∙ ap (λ l. gone ++ l) split' ∙ sym (append_assoc gone more last),
)

pub whole_is_prefix : WholeIsPrefix
whole_is_prefix None new text taken = (0, omega arith, tt)
whole_is_prefix (Some xs) None text taken = absurd taken
whole_is_prefix (Some xs) (Some ys) text taken = (length text, omega arith, taken ∙ ap (λ l. xs ++ l) (sym (take-length text)))

pub nothing_is_prefix : NothingIsPrefix
nothing_is_prefix None new text kept = (0, omega arith, tt)
nothing_is_prefix (Some xs) None text kept = absurd kept
nothing_is_prefix (Some xs) (Some ys) text kept = (0, omega arith, kept ∙ sym (append-nil xs))

pub prefixes_add_up : PrefixesAddUp
prefixes_add_up None middle new text more taken prefix = (0, omega arith, tt)
prefixes_add_up (Some xs) None new text more taken prefix = absurd taken
prefixes_add_up (Some xs) (Some ys) None text more taken prefix = absurd prefix.2
prefixes_add_up (Some xs) (Some ys) (Some zs) text more taken (count, few, put) = (
  length text + count,
  omega (arith, few, length-append text more),
  put ∙ ap (λ l. l ++ take count more) taken ∙ append_assoc xs text (take count more) ∙ ap (λ l. xs ++ l) (sym (take-append-add text more count)),
)

pub told_whole_where_calm : ToldWholeWhereCalm
told_whole_where_calm before after faults text below told = told.whole (λ rose. omega (arith, rose below))
