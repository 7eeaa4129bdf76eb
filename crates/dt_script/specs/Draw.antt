-- The numbers that a generated script draws: a state that starts as any number below 2 ^ 64, and what each state gives.
use Rattle.std.specs.Prelude.{◌≡◌, ℕ, ◌+◌, ◌*◌, ◌/◌, ◌%◌, ◌^◌, zero, suc, refl}

-- the state after this one
unfoldable pub next_state : ℕ → ℕ
next_state state = (state * 6_364_136_223_846_793_005 + 1_442_695_040_888_963_407) % 2 ^ 64

-- the number below the bound that a state gives
unfoldable pub number_of : ℕ → ℕ → ℕ
number_of state bound = state / 2 ^ 33 % bound

-- the number below the bound that is drawn at a state: that of the state after it
abbrev pub drawn : ℕ → ℕ → ℕ
drawn state bound = number_of (next_state state) bound

-- the state after so many draws
abbrev pub after_draws : ℕ → ℕ → ℕ
after_draws state zero = state
after_draws state (suc draws) = after_draws (next_state state) draws

-- the state after so many things, the first of which has this number, where each leaves a state at the one before it
unfoldable pub state_after : (ℕ → ℕ → ℕ) → ℕ → ℕ → ℕ → ℕ
state_after leaves state number zero = state
state_after leaves state number (suc more) = state_after leaves (leaves state number) (number + 1) more

the_state_after_1 : next_state 1 ≡ 7_806_831_264_735_756_412
unfolding next_state
the_state_after_1 = refl

-- the greatest of its 64 bits is used, and what is past them is lost
the_state_after_2 : next_state 2 ≡ 14_170_967_488_582_549_417
unfolding next_state
the_state_after_2 = refl

the_state_after_3 : next_state 3 ≡ 2_088_359_638_719_790_806
unfolding next_state
the_state_after_3 = refl

what_1_draws_below_100 : drawn 1 100 ≡ 74
unfolding next_state number_of
what_1_draws_below_100 = refl

what_0_draws_below_2048 : drawn 0 2048 ≡ 1471
unfolding next_state number_of
what_0_draws_below_2048 = refl
