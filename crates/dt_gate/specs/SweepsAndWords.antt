-- Sweeps of the busy gate and of gates that differ from it in one thing, and the words of the busy gate.
use Rattle.std.specs.Prelude.{◌≡◌, ℕ, zero, suc, ◌+◌, ◌^◌, ◌<◌, ◌≤◌, Bool, true, false, List, [], ◌∷◌, ◌++◌, slice_set, ◌⊎◌, refl}
use Rattle.std.proofs.Common.{ap, arith, inl, inr}
use Rattle.std.proofs.lemmas.Bool.Decides.{nat_tests}
use Rattle.dt_gate.specs.declared.access.Access.TheVariants.{Load, Add, Store, Swap}
use Rattle.dt_gate.specs.declared.event.Event.TheVariants.{Look, Enter, Read, Leave, Fill, Lay, Publish, Poll}
use Rattle.dt_gate.specs.declared.event.ReadWord.TheVariants as read
use Rattle.dt_gate.specs.declared.event.RecordWord.TheVariants.{Top}
use Rattle.dt_gate.specs.declared.gate.Author.{Author}
use Rattle.dt_gate.specs.declared.gate.Root.{Root}
use Rattle.dt_gate.specs.declared.gate.Standing.{Standing}
use Rattle.dt_gate.specs.declared.gate.Standing.TheVariants.{Free, Now, Old}
use Rattle.dt_gate.specs.Gate.{blank_root, root_at, is_old, stands_in}
use Rattle.dt_gate.specs.Sweeps.{after_polls, MayBeginASweep, IsOfASweep, SweepLeads, LeavesRoom}
use Rattle.dt_gate.specs.Words.{words_of, access_of, accessed, found}
use Rattle.dt_gate.specs.Busy.{two, zeros, busy, busy_author, old_root, current_root}

-- ---- sweeps

-- roots 0, 2 and 3 are old, with two entries each
abbrev three_old : Author ℕ ℕ
three_old = record busy_author {
  roots = old_root ∷ current_root ∷ record old_root { version = 5 } ∷ record old_root { version = 6 } ∷ [];
  held = [];
  sweep = 1;
  polls = [];
}

-- the polls of a whole sweep
abbrev reads : List (ℕ × ℕ)
reads = (0, 1) ∷ (2, 2) ∷ (3, 1) ∷ []

-- a number past these is none of them
past : (number : ℕ) → 3 < number → ¬ (stands_in number (0 ∷ 2 ∷ 3 ∷ []) ≡ true)
past number far is = grind (arith, nat_tests)

they_are_of_a_sweep : IsOfASweep three_old reads
they_are_of_a_sweep = record { begins = inl refl; old = old; once = (refl, (refl, (refl, tt))) }
  where
    old : (root : ℕ) → stands_in root (0 ∷ 2 ∷ 3 ∷ []) ≡ true → is_old (root_at three_old root).standing ≡ true
    old zero is = refl
    old (suc zero) is = let never : ◌≡◌ {A = Bool} false true = is in cc
    old (suc (suc zero)) is = refl
    old (suc (suc (suc zero))) is = refl
    old (suc (suc (suc (suc root)))) is = absurd (past (suc (suc (suc (suc root)))) (omega arith) is)

-- two have left root 2, and one each of the others: root 2 is free, the others are held, and the count is of the readers out now
a_whole_sweep : after_polls three_old reads ≡ record three_old {
  roots = old_root ∷ current_root ∷ record old_root { version = 5; standing = Free } ∷ record old_root { version = 6 } ∷ [];
  held = 0 ∷ 3 ∷ [];
  sweep = 2;
  polls = (0, 1) ∷ (2, 2) ∷ (3, 1) ∷ [];
}
a_whole_sweep = refl

-- the next one begins anew with its first poll, since root 0 is held already
a_second_sweep : (after_polls three_old ((0, 1) ∷ (2, 2) ∷ (3, 1) ∷ (0, 2) ∷ (3, 1) ∷ [])).held ≡ 3 ∷ []
a_second_sweep = refl

-- a sweep that polled root 0 alone, which one reader is still inside
abbrev one_held : Author ℕ ℕ
one_held = record three_old { held = 0 ∷ []; sweep = 2; polls = (0, 1) ∷ [] }

a_part_of_a_sweep : after_polls three_old ((0, 1) ∷ []) ≡ one_held
a_part_of_a_sweep = refl

-- it leaves in the root that is held what the reader found
a_sweep_that_lays_a_held_root : ¬ SweepLeads three_old ((0, 1) ∷ []) (record one_held { roots = slice_set one_held.roots 0 (record old_root { version = 9; top = 5 }) })
a_sweep_that_lays_a_held_root leads =
    let is : ◌≡◌ {A = ℕ} 9 0 = ap (λ (root : Root). root.version) (leads.decides.0.holds 2 refl (λ same. omega (arith, same))) in absurd (omega (arith, is))

-- and in one that it frees
a_sweep_that_lays_a_freed_root : ¬ SweepLeads three_old ((0, 2) ∷ []) (record three_old {
  roots = slice_set three_old.roots 0 (record old_root { version = 9; top = 5; standing = Free });
  sweep = 2;
  polls = (0, 2) ∷ [];
})
a_sweep_that_lays_a_freed_root leads =
    let is : ◌≡◌ {A = ℕ} 9 0 = ap (λ (root : Root). root.version) (leads.decides.0.frees 2 refl refl) in absurd (omega (arith, is))

-- it changes neither the current root nor pages nor the history
a_sweep_that_forgets : ¬ SweepLeads three_old ((0, 1) ∷ []) (record one_held { current = 3; words = []; history = [] })
a_sweep_that_forgets leads = let is : ◌≡◌ {A = ℕ} 3 1 = ap (λ (author : Author ℕ ℕ). author.current) leads.no_more in absurd (omega (arith, is))

-- it finds held what it polled, and each once
a_sweep_that_holds_the_current_root : ¬ SweepLeads three_old ((0, 1) ∷ []) (record one_held { held = 0 ∷ 1 ∷ [] })
a_sweep_that_holds_the_current_root leads = held leads.held
  where
    held : (◌≡◌ {A = List (ℕ × ℕ)} ((0, 1) ∷ []) []) ⊎ (◌≡◌ {A = List ℕ} (0 ∷ 1 ∷ []) (0 ∷ [])) → ⊥
    held (inl none) = cc
    held (inr same) = cc

-- it adds no root, though one past the last reads as a blank one
a_sweep_that_adds_a_root : ¬ SweepLeads three_old ((0, 1) ∷ []) (record one_held { roots = one_held.roots ++ blank_root ∷ [] })
a_sweep_that_adds_a_root leads = let is : ◌≡◌ {A = ℕ} 5 4 = leads.as_many in absurd (omega (arith, is))

-- nor does it begin with no poll
a_sweep_of_no_poll : ¬ SweepLeads three_old [] (record three_old { sweep = 2 })
a_sweep_of_no_poll leads = let is : ◌≡◌ {A = ℕ} 2 1 = ap (λ (author : Author ℕ ℕ). author.sweep) (leads.none refl) in absurd (omega (arith, is))

-- neither nothing is held, nor each old root: a poll of root 0 would go on with the sweep that found root 2 held
no_sweep_begins_in_the_midst : ¬ MayBeginASweep (record three_old { held = 2 ∷ [] })
no_sweep_begins_in_the_midst (inl none) = let is : ◌≡◌ {A = List ℕ} (2 ∷ []) [] = none in cc
no_sweep_begins_in_the_midst (inr all) = let is : ◌≡◌ {A = Bool} false true = all 0 refl in cc

a_sweep_that_polls_twice : ¬ IsOfASweep busy_author ((0, 1) ∷ (0, 1) ∷ [])
a_sweep_that_polls_twice sweep = let is : ◌≡◌ {A = Bool} true false = sweep.once.0 in cc

a_sweep_that_polls_the_current_root : ¬ IsOfASweep busy_author ((0, 1) ∷ (1, 1) ∷ [])
a_sweep_that_polls_the_current_root sweep = let is : ◌≡◌ {A = Bool} false true = sweep.old 1 refl in cc

-- two roots are still old, both held, as many as readers were out, and root 2 is free
a_sweep_that_leaves_room : LeavesRoom two (after_polls three_old reads)
a_sweep_that_leaves_room = let two_of_two : 2 ≤ 2 = omega arith in
    record { still_old = two_of_two; held = two_of_two; count = two_of_two; some_free = (2, omega arith, refl) }

more_old_roots_than_held : ¬ LeavesRoom two three_old
more_old_roots_than_held room = let is : 3 ≤ 0 = room.still_old in absurd (omega (arith, is))

more_held_than_readers_were_out : ¬ LeavesRoom two (record busy_author { held = 0 ∷ 2 ∷ []; sweep = 1 })
more_held_than_readers_were_out room = let is : 2 ≤ 1 = room.held in absurd (omega (arith, is))

more_readers_out_than_there_are : ¬ LeavesRoom two (record busy_author { sweep = 3 })
more_readers_out_than_there_are room = let is : 3 ≤ 2 = room.count in absurd (omega (arith, is))

-- each of the four roots is old or current, and all else holds
abbrev none_free : Author ℕ ℕ
none_free = record busy_author { roots = old_root ∷ current_root ∷ old_root ∷ current_root ∷ []; held = 0 ∷ 2 ∷ []; sweep = 2 }

no_root_is_free : ¬ LeavesRoom two none_free
no_root_is_free room = none room.some_free.0 room.some_free.1 room.some_free.2
  where
    none : (root : ℕ) → root < 4 → ¬ ((root_at none_free root).standing ≡ Free)
    none zero below is = let never : ◌≡◌ {A = Standing} (Old 2) Free = is in cc
    none (suc zero) below is = let never : ◌≡◌ {A = Standing} Now Free = is in cc
    none (suc (suc zero)) below is = let never : ◌≡◌ {A = Standing} (Old 2) Free = is in cc
    none (suc (suc (suc zero))) below is = let never : ◌≡◌ {A = Standing} Now Free = is in cc
    none (suc (suc (suc (suc root)))) below is = absurd (omega (arith, below))

-- ---- words

-- root 1 is current, with one entry; then the record words of four roots, and the pages
the_words : words_of busy ≡ (2 ^ 32 + 1) ∷ 1 ∷ 0 ∷ 0 ∷ 1 ∷ 1 ∷ 0 ∷ 0 ∷ 0 ∷ 0 ∷ 0 ∷ 0 ∷ 0 ∷ zeros
the_words = refl

each_access : (access_of two busy (Look 1) ≡ Load 0) × (access_of two busy (Enter 1) ≡ Add 0) × (access_of two busy (Leave 0) ≡ Add 1)
    × (access_of two busy (Read 0 (read.Page 2 7)) ≡ Load 1044) × (access_of two busy (Fill 2 7 9) ≡ Store 1044 9)
    × (access_of two busy (Lay 2 Top 5) ≡ Store 9 5) × (access_of two busy (Publish 2 8) ≡ Swap 0 8589934592) × (access_of two busy (Poll 0) ≡ Load 1)
each_access = (refl, refl, refl, refl, refl, refl, refl, refl)

what_a_poll_finds : found (Load 1) (words_of busy) ≡ 1
what_a_poll_finds = refl

-- an enter adds to the low half
an_entry_more : accessed (Add 0) (4294967297 ∷ []) ≡ 4294967298 ∷ []
an_entry_more = refl
