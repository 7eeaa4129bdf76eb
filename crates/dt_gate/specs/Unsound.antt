-- Gates that differ from the busy one in one thing, each refused by a sentence of soundness.
-- Some differ in more, where no single change reaches the sentence.
use Rattle.std.specs.Prelude.{◌≡◌, ℕ, ◌<◌, ◌≤◌, Bool, true, false, List, [], ◌∷◌, ◌++◌, slice_set, Option, Some, None, refl}
use Rattle.std.proofs.Common.{ap, arith, inl}
use Rattle.dt_gate.specs.declared.gate.Frozen.{Frozen}
use Rattle.dt_gate.specs.declared.gate.Gate.{Gate}
use Rattle.dt_gate.specs.declared.gate.Laid.{Laid}
use Rattle.dt_gate.specs.declared.gate.Root.{Root}
use Rattle.dt_gate.specs.declared.gate.Seat.{Seat}
use Rattle.dt_gate.specs.declared.gate.Stage.TheVariants.{Near, In, Spent}
use Rattle.dt_gate.specs.declared.gate.Standing.{Standing}
use Rattle.dt_gate.specs.declared.gate.Standing.TheVariants.{Now, Old}
use Rattle.dt_gate.specs.Gate.{nothing_laid, blank_root}
use Rattle.dt_gate.specs.Sound.{HasItsSizes, OneRootIsCurrent, EntriesAreAccountedFor, CountsAreBounded, InsideIsSafe, PagesShowVersions, HeldAreOld, SweepIsBounded, HistoriesArePrefixes, EntriesAreEntered, WornWasEntered, WornWasTaken, IsSound}
use Rattle.dt_gate.specs.WrongMachines.{anything}
use Rattle.dt_gate.specs.Busy.{something, two, zeros, busy, busy_author, with_author, old_root, current_root, laid_root, inside_seat, out_seat, note_of}
use Rattle.dt_gate.specs.Examples.{counted}

-- the busy gate with its current root changed
abbrev with_current : Root → Gate ℕ ℕ
with_current root = with_author (record busy_author { roots = old_root ∷ root ∷ laid_root ∷ blank_root ∷ [] })

-- the busy gate with its old root changed
abbrev with_old : Root → Gate ℕ ℕ
with_old root = with_author (record busy_author { roots = root ∷ current_root ∷ laid_root ∷ blank_root ∷ [] })

-- the busy gate with its third root changed, which is free and laid
abbrev with_third : Root → Gate ℕ ℕ
with_third root = with_author (record busy_author { roots = old_root ∷ current_root ∷ root ∷ blank_root ∷ [] })

-- the busy gate with these two reader seats
abbrev with_readers : Seat ℕ ℕ → Seat ℕ ℕ → Gate ℕ ℕ
with_readers first second = record busy { seats = first ∷ second ∷ note_of (7 ∷ []) ∷ note_of [] ∷ [] }

-- a seat that is inside this root
abbrev inside_root : ℕ → Seat ℕ ℕ
inside_root root = record out_seat { stage = In root (record { words = zeros; version = 1; top = 0 }) }

-- ---- one root is current

the_named_root_is_old : ¬ OneRootIsCurrent (with_current (record current_root { standing = Old 1 })).author
the_named_root_is_old part = let is : ◌≡◌ {A = Standing} (Old 1) Now = part.named in cc

another_is_current_too : ¬ OneRootIsCurrent (with_third (record blank_root { standing = Now })).author
another_is_current_too part = let is : ◌≡◌ {A = ℕ} 2 1 = part.no_other 2 refl in absurd (omega (arith, is))

-- ---- sizes

a_root_too_few : ¬ HasItsSizes two (with_author (record busy_author { roots = old_root ∷ current_root ∷ laid_root ∷ [] }))
a_root_too_few sizes = let is : ◌≡◌ {A = ℕ} 3 4 = sizes.roots in absurd (omega (arith, is))

exits_of_a_root_too_many : ¬ HasItsSizes two (record busy { exits = 1 ∷ 1 ∷ 0 ∷ 0 ∷ 0 ∷ [] })
exits_of_a_root_too_many sizes = let is : ◌≡◌ {A = ℕ} 5 4 = sizes.exits in absurd (omega (arith, is))

a_word_too_many : ¬ HasItsSizes two (with_author (record busy_author { words = 0 ∷ zeros }))
a_word_too_many sizes = let is : ◌≡◌ {A = ℕ} 8193 8192 = sizes.words in absurd (omega (arith, is))

-- ---- entries are accounted for

an_entry_more_than_left_the_current_root : ¬ EntriesAreAccountedFor (record busy { entries = 2 })
an_entry_more_than_left_the_current_root part = let is : ◌≡◌ {A = ℕ} 1 2 = part.of_the_current_root in absurd (omega (arith, is))

more_left_the_current_root_than_entered : ¬ EntriesAreAccountedFor (record busy { entries = 0 })
more_left_the_current_root_than_entered part = let is : ◌≡◌ {A = ℕ} 1 0 = part.of_the_current_root in absurd (omega (arith, is))

an_entry_more_of_an_old_root : ¬ EntriesAreAccountedFor (with_old (record old_root { standing = Old 3 }))
an_entry_more_of_an_old_root part = let is : ◌≡◌ {A = ℕ} 2 3 = part.of_an_old_root 0 3 refl in absurd (omega (arith, is))

an_entry_less_of_an_old_root : ¬ EntriesAreAccountedFor (with_old (record old_root { standing = Old 1 }))
an_entry_less_of_an_old_root part = let is : ◌≡◌ {A = ℕ} 2 1 = part.of_an_old_root 0 1 refl in absurd (omega (arith, is))

one_inside_a_free_root : ¬ EntriesAreAccountedFor (record busy { seats = inside_seat ∷ inside_root 3 ∷ [] })
one_inside_a_free_root part = let is : ◌≡◌ {A = ℕ} 1 0 = part.none_inside_a_free_root 3 refl in absurd (omega (arith, is))

-- ---- entries and readers are bounded

entries_past_the_limit_and_the_readers : ¬ CountsAreBounded two (record busy { entries = 5 })
entries_past_the_limit_and_the_readers part = let is : 5 ≤ 4 = part.entries in absurd (omega (arith, is))

no_room_for_one_that_is_near : ¬ CountsAreBounded two (record (with_readers inside_seat (record out_seat { stage = Near })) { entries = 4 })
no_room_for_one_that_is_near part = let is : 5 ≤ 4 = part.entries in absurd (omega (arith, is))

a_reader_that_is_not_counted : ¬ CountsAreBounded two (with_author (record busy_author { out = 1 }))
a_reader_that_is_not_counted part = let is : ◌≡◌ {A = ℕ} 2 1 = part.readers_are_out in absurd (omega (arith, is))

a_reader_that_is_not_there : ¬ CountsAreBounded two (with_readers inside_seat (record out_seat { stage = Spent }))
a_reader_that_is_not_there part = let is : ◌≡◌ {A = ℕ} 1 2 = part.readers_are_out in absurd (omega (arith, is))

three_readers_of_two : ¬ CountsAreBounded two (record busy { seats = inside_seat ∷ out_seat ∷ out_seat ∷ []; author = record busy_author { out = 3 } })
three_readers_of_two part = let is : 3 ≤ 2 = part.readers_out in absurd (omega (arith, is))

-- the limit is two, and so are the readers
entries_of_an_old_root_past_the_bound : ¬ CountsAreBounded two (with_old (record old_root { standing = Old 5 }))
entries_of_an_old_root_past_the_bound part = let is : 5 ≤ 4 = part.of_an_old_root 0 5 refl in absurd (omega (arith, is))

-- ---- pages show versions

-- the busy gate with no seat in it, and these words
abbrev with_words : List ℕ → Gate ℕ ℕ
with_words words = record busy { seats = []; author = record busy_author { words = words } }

a_first_word_in_page_zero : ¬ PagesShowVersions anything two (with_words (slice_set zeros 0 1))
a_first_word_in_page_zero part = let is : ◌≡◌ {A = ℕ} 1 0 = part.page_zero_is_empty 0 (omega arith) in absurd (omega (arith, is))

a_last_word_in_page_zero : ¬ PagesShowVersions anything two (with_words (slice_set zeros 511 1))
a_last_word_in_page_zero part = let is : ◌≡◌ {A = ℕ} 1 0 = part.page_zero_is_empty 511 (omega arith) in absurd (omega (arith, is))

a_version_behind_the_history : ¬ PagesShowVersions anything two (with_author (record busy_author { history = 7 ∷ 8 ∷ [] }))
a_version_behind_the_history part = let is : ◌≡◌ {A = ℕ} 1 2 = part.current_version in absurd (omega (arith, is))

a_version_before_the_history : ¬ PagesShowVersions anything two (record busy { seats = []; author = record busy_author { history = [] } })
a_version_before_the_history part = let is : ◌≡◌ {A = ℕ} 1 0 = part.current_version in absurd (omega (arith, is))

-- an old root of version 99, where the history has one item: the first 99 items would be that one
an_old_version_past_the_history : ¬ PagesShowVersions anything two (with_old (record old_root { version = 99 }))
an_old_version_past_the_history part = let is : 99 ≤ 1 = part.version_is_published 0 tt in absurd (omega (arith, is))

an_old_root_of_the_current_version : ¬ PagesShowVersions anything two (with_third (record blank_root { version = 1; standing = Old 0 }))
an_old_root_of_the_current_version part = let is : ◌≡◌ {A = ℕ} 2 1 = part.versions_are_distinct 2 1 tt tt refl in absurd (omega (arith, is))

two_old_roots_of_one_version : ¬ PagesShowVersions anything two (with_third (record blank_root { standing = Old 0 }))
two_old_roots_of_one_version part = let is : ◌≡◌ {A = ℕ} 0 2 = part.versions_are_distinct 0 2 tt tt refl in absurd (omega (arith, is))

the_current_root_shows_another_history : ¬ PagesShowVersions counted two busy
the_current_root_shows_another_history part = let is : ◌≡◌ {A = ℕ} 0 1 = part.each_shows_its_version 1 tt in absurd (omega (arith, is))

an_old_root_shows_another_history : ¬ PagesShowVersions something two (with_words zeros)
an_old_root_shows_another_history part = part.each_shows_its_version 0 tt refl

a_top_page_past_the_last : ¬ PagesShowVersions anything two (with_current (record current_root { top = 16 }))
a_top_page_past_the_last part = let is : 16 < 16 = part.reach_is_in_bounds 1 tt 16 (inl refl) in absurd (omega (arith, is))

a_top_page_of_an_old_root_past_the_last : ¬ PagesShowVersions anything two (with_old (record old_root { top = 16 }))
a_top_page_of_an_old_root_past_the_last part = let is : 16 < 16 = part.reach_is_in_bounds 0 tt 16 (inl refl) in absurd (omega (arith, is))

-- a publish that lays nothing could follow
a_current_root_that_is_kept_as_laid : ¬ PagesShowVersions anything two (with_current (record current_root { laid = record { exits = Some 1; version = Some 1; top = Some 0 } }))
a_current_root_that_is_kept_as_laid part = not_laid (ap (λ (laid : Laid). laid.exits) (part.live_is_not_laid 1 tt))
  where
    not_laid : ¬ (◌≡◌ {A = Option ℕ} (Some 1) None)
    not_laid is = cc

-- exits, a version and a top page that were laid otherwise than they stand in the root
laid_exits_that_do_not_stand : ¬ PagesShowVersions anything two (with_third (record blank_root { laid = record nothing_laid { exits = Some 1 } }))
laid_exits_that_do_not_stand part = let is : ◌≡◌ {A = ℕ} 1 0 = (part.laid_words_stand 2).exits 1 refl in absurd (omega (arith, is))

a_laid_version_that_does_not_stand : ¬ PagesShowVersions anything two (with_third (record blank_root { laid = record nothing_laid { version = Some 1 } }))
a_laid_version_that_does_not_stand part = let is : ◌≡◌ {A = ℕ} 1 0 = (part.laid_words_stand 2).version 1 refl in absurd (omega (arith, is))

a_laid_top_page_that_does_not_stand : ¬ PagesShowVersions anything two (with_third (record blank_root { laid = record nothing_laid { top = Some 1 } }))
a_laid_top_page_that_does_not_stand part = let is : ◌≡◌ {A = ℕ} 1 0 = (part.laid_words_stand 2).top 1 refl in absurd (omega (arith, is))

-- ---- a reader inside a root is safe

-- the busy gate where the seat inside root 0 has these words frozen, and entered these versions
abbrev with_frozen : Frozen → List ℕ → Gate ℕ ℕ
with_frozen frozen entered =
    with_readers (record inside_seat { stage = In 0 frozen; history = 7 ∷ []; entered = entered }) out_seat

another_version_than_was_found : ¬ PagesShowVersions anything two (with_frozen (record { words = zeros; version = 1; top = 0 }) (1 ∷ []))
another_version_than_was_found part =
    let is : ◌≡◌ {A = ℕ} 1 0 = (part.inside_is_safe 0 0 _ refl).words_stay.version in absurd (omega (arith, is))

another_top_page_than_was_found : ¬ PagesShowVersions anything two (with_frozen (record { words = zeros; version = 0; top = 1 }) (0 ∷ []))
another_top_page_than_was_found part =
    let is : ◌≡◌ {A = ℕ} 1 0 = (part.inside_is_safe 0 0 _ refl).words_stay.top in absurd (omega (arith, is))

another_last_word_than_was_found : ¬ PagesShowVersions anything two (with_frozen (record { words = slice_set zeros 511 1; version = 0; top = 0 }) (0 ∷ []))
another_last_word_than_was_found part =
    let is : ◌≡◌ {A = ℕ} 1 0 = (part.inside_is_safe 0 0 _ refl).words_stay.pages 0 (inl refl) 511 (omega arith) in absurd (omega (arith, is))

-- a list that ends in this number, and is known, has it as its last
last_is : (before : List ℕ) (number : ℕ) → 0 ∷ 1 ∷ [] ≡ before ++ number ∷ [] → number ≡ 1
last_is [] number is = cc
last_is (a ∷ []) number is = cc
last_is (a ∷ b ∷ []) number is = cc
last_is (a ∷ b ∷ c ∷ before) number is = cc

it_entered_another_version_later : ¬ PagesShowVersions anything two (with_frozen (record { words = zeros; version = 0; top = 0 }) (0 ∷ 1 ∷ []))
it_entered_another_version_later part =
    let last = (part.inside_is_safe 0 0 _ refl).entered_last in
    absurd (omega (arith, last_is last.0 0 last.1))

-- the version that it entered is not the empty list of entries, by this meaning
its_words_show_another_history : ¬ InsideIsSafe something busy_author inside_seat 0 (record { words = zeros; version = 0; top = 0 })
its_words_show_another_history safe = safe.words_show refl

it_has_not_seen_its_version : ¬ PagesShowVersions anything two (with_readers (record (inside_root 1) { history = [] }) out_seat)
it_has_not_seen_its_version part =
    let is : 1 ≤ 0 = (part.inside_is_safe 0 1 _ refl).version_is_seen in absurd (omega (arith, is))

-- ---- a sweep is bounded

a_root_held_that_is_not_there : ¬ HeldAreOld (record busy_author { held = 99 ∷ [] })
a_root_held_that_is_not_there part = let is : ◌≡◌ {A = Bool} false true = part.old 99 refl in cc

a_current_root_that_is_held : ¬ HeldAreOld (record busy_author { held = 1 ∷ [] })
a_current_root_that_is_held part = let is : ◌≡◌ {A = Bool} false true = part.old 1 refl in cc

a_root_that_is_held_twice : ¬ HeldAreOld (record busy_author { held = 0 ∷ 0 ∷ [] })
a_root_that_is_held_twice part = let is : ◌≡◌ {A = Bool} true false = part.once.0 in cc

more_held_than_readers : ¬ SweepIsBounded two (with_author (record busy_author { held = 0 ∷ 0 ∷ 0 ∷ [] }))
more_held_than_readers part = let is : 3 ≤ 2 = part.held in absurd (omega (arith, is))

one_held_and_two_inside_another : ¬ SweepIsBounded two (record busy { seats = inside_seat ∷ inside_seat ∷ []; author = record busy_author { held = 2 ∷ [] } })
one_held_and_two_inside_another part = let is : 3 ≤ 2 = part.held in absurd (omega (arith, is))

a_count_past_the_readers : ¬ SweepIsBounded two (with_author (record busy_author { sweep = 3 }))
a_count_past_the_readers part = let is : 3 ≤ 2 = part.count in absurd (omega (arith, is))

-- ---- histories are prefixes

a_seat_with_another_history : ¬ HistoriesArePrefixes (with_readers inside_seat (record out_seat { history = 8 ∷ [] }))
a_seat_with_another_history part = let is : ◌≡◌ {A = List ℕ} (8 ∷ (part.of_a_seat 1).0) (7 ∷ []) = (part.of_a_seat 1).1 in cc

a_note_ahead_of_the_author : ¬ HistoriesArePrefixes (record busy { seats = note_of (7 ∷ 8 ∷ []) ∷ [] })
a_note_ahead_of_the_author part = let is : ◌≡◌ {A = List ℕ} (7 ∷ 8 ∷ (part.of_a_seat 0).0) (7 ∷ []) = (part.of_a_seat 0).1 in cc

a_seat_that_lost_what_it_had : ¬ HistoriesArePrefixes (with_readers inside_seat (record out_seat { joined = (7 ∷ 8 ∷ [], []) }))
a_seat_that_lost_what_it_had part =
    let is : ◌≡◌ {A = List ℕ} (7 ∷ 8 ∷ (part.joined_by_a_seat 1).0.0) (7 ∷ []) = (part.joined_by_a_seat 1).0.1 in cc

a_seat_that_lost_what_it_heard : ¬ HistoriesArePrefixes (with_readers inside_seat (record out_seat { joined = ([], 7 ∷ 8 ∷ []) }))
a_seat_that_lost_what_it_heard part =
    let is : ◌≡◌ {A = List ℕ} (7 ∷ 8 ∷ (part.joined_by_a_seat 1).1.0) (7 ∷ []) = (part.joined_by_a_seat 1).1.1 in cc

an_author_that_lost_what_it_had : ¬ HistoriesArePrefixes (with_author (record busy_author { joined = (7 ∷ 8 ∷ [], []) }))
an_author_that_lost_what_it_had part =
    let is : ◌≡◌ {A = List ℕ} (7 ∷ 8 ∷ part.joined_by_the_author.0.0) (7 ∷ []) = part.joined_by_the_author.0.1 in cc

an_author_that_lost_what_it_heard : ¬ HistoriesArePrefixes (with_author (record busy_author { joined = ([], 7 ∷ 8 ∷ []) }))
an_author_that_lost_what_it_heard part =
    let is : ◌≡◌ {A = List ℕ} (7 ∷ 8 ∷ part.joined_by_the_author.1.0) (7 ∷ []) = part.joined_by_the_author.1.1 in cc

-- ---- entries are entered

-- the busy gate where the seat that is out entered these versions
abbrev with_entered : List ℕ → Gate ℕ ℕ
with_entered entered = with_readers inside_seat (record out_seat { entered = entered })

an_entry_that_no_one_made : ¬ EntriesAreEntered (with_entered (0 ∷ []))
an_entry_that_no_one_made part = let is : ◌≡◌ {A = ℕ} 1 0 = part.of_the_current_root in absurd (omega (arith, is))

a_version_entered_uncounted : ¬ EntriesAreEntered (with_entered (0 ∷ 1 ∷ 1 ∷ []))
a_version_entered_uncounted part = let is : ◌≡◌ {A = ℕ} 1 2 = part.of_the_current_root in absurd (omega (arith, is))

a_version_taken_uncounted : ¬ EntriesAreEntered (with_author (record busy_author { taken = (1 ∷ []) ∷ [] }))
a_version_taken_uncounted part = let is : ◌≡◌ {A = ℕ} 1 2 = part.of_the_current_root in absurd (omega (arith, is))

an_old_entry_that_no_one_made : ¬ EntriesAreEntered (with_entered (1 ∷ []))
an_old_entry_that_no_one_made part = let is : ◌≡◌ {A = ℕ} 2 1 = part.of_an_old_root 0 2 refl in absurd (omega (arith, is))

an_old_version_entered_uncounted : ¬ EntriesAreEntered (with_entered (0 ∷ 0 ∷ 1 ∷ []))
an_old_version_entered_uncounted part = let is : ◌≡◌ {A = ℕ} 2 3 = part.of_an_old_root 0 2 refl in absurd (omega (arith, is))

a_version_entered_before_it_was_published : ¬ EntriesAreEntered (with_entered (0 ∷ 1 ∷ 2 ∷ []))
a_version_entered_before_it_was_published part = let is : 2 ≤ 1 = part.only_published 2 (omega arith) in absurd (omega (arith, is))

-- a note that has entered the first version, instead of the reader that did
a_note_that_entered : ¬ EntriesAreEntered (record busy { seats = record inside_seat { entered = [] } ∷ out_seat ∷ record (note_of (7 ∷ [])) { entered = 0 ∷ [] } ∷ note_of [] ∷ [] })
a_note_that_entered part = let is : ◌≡◌ {A = List ℕ} (0 ∷ []) [] = part.only_by_readers 2 (λ reader. reader) in cc

-- the seat that is out entered version 1, which is one item
a_version_entered_unseen : ¬ EntriesAreEntered (with_readers inside_seat (record out_seat { history = [] }))
a_version_entered_unseen part = let is : 1 ≤ 0 = part.only_seen 1 1 0 (omega arith) in absurd (omega (arith, is))

-- ---- worn looks were entered and taken

-- the busy gate where the seat that is out has these worn looks
abbrev with_worn : List (ℕ × ℕ) → Gate ℕ ℕ
with_worn worn = with_readers inside_seat (record out_seat { worn = worn })

worn_before_it_was_published : ¬ WornWasEntered two (with_worn ((2, 0) ∷ []))
worn_before_it_was_published part = let is : 2 ≤ 1 = (part.of_a_seat 1 0 (2, 0) (omega arith)).published in absurd (omega (arith, is))

worn_below_the_limit : ¬ WornWasEntered two (with_worn ((1, 1) ∷ []))
worn_below_the_limit part = let is : 2 ≤ 1 = (part.of_a_seat 1 0 (0, 0) (omega arith)).at_the_limit in absurd (omega (arith, is))

a_note_that_looked : ¬ WornWasEntered two (record busy { seats = inside_seat ∷ out_seat ∷ record (note_of (7 ∷ [])) { worn = (0, 2) ∷ [] } ∷ note_of [] ∷ [] })
a_note_that_looked part = let is : ◌≡◌ {A = List (ℕ × ℕ)} ((0, 2) ∷ []) [] = part.only_by_readers 2 (λ reader. reader) in cc

looks_of_more_than_were_taken_back : ¬ WornWasEntered two (with_author (record busy_author { worn = [] ∷ [] }))
looks_of_more_than_were_taken_back part = let is : ◌≡◌ {A = ℕ} 1 0 = part.as_many_taken_back in absurd (omega (arith, is))

worn_by_more_than_entered : ¬ WornWasEntered two (with_worn ((1, 1) ∷ (0, 3) ∷ []))
worn_by_more_than_entered part = let is : 3 ≤ 2 = (part.of_a_seat 1 1 (0, 0) (omega arith)).as_often in absurd (omega (arith, is))

taken_worn_before_it_was_published : ¬ WornWasEntered two (with_author (record busy_author { worn = [] ∷ ((2, 0) ∷ []) ∷ [] }))
taken_worn_before_it_was_published part =
    let is : 2 ≤ 1 = (part.of_those_taken_back 1 [] (omega arith) 0 (0, 0) (omega arith)).published in absurd (omega (arith, is))

taken_worn_by_more_than_entered : ¬ WornWasEntered two (with_author (record busy_author { worn = ((1, 1) ∷ (1, 2) ∷ []) ∷ [] }))
taken_worn_by_more_than_entered part =
    let is : 2 ≤ 1 = (part.of_those_taken_back 0 [] (omega arith) 1 (0, 0) (omega arith)).as_often in absurd (omega (arith, is))

worn_by_more_than_taken : ¬ WornWasTaken (with_author (record busy_author { out = 0; worn = ((0, 2) ∷ []) ∷ []; taken = (0 ∷ []) ∷ [] })).author
worn_by_more_than_taken part = let is : 2 ≤ 1 = part refl 0 [] (omega arith) 0 (0, 0) (omega arith) in absurd (omega (arith, is))

-- ---- the whole: each part is one of soundness

not_sound_without_a_root : ¬ IsSound anything two (with_author (record busy_author { roots = old_root ∷ current_root ∷ laid_root ∷ [] }))
not_sound_without_a_root sound = a_root_too_few sound.has_its_sizes

not_sound_with_another_current_root : ¬ IsSound anything two (with_third (record blank_root { standing = Now }))
not_sound_with_another_current_root sound = another_is_current_too sound.one_root_is_current

not_sound_with_an_entry_more : ¬ IsSound anything two (record busy { entries = 2 })
not_sound_with_an_entry_more sound = an_entry_more_than_left_the_current_root sound.entries_are_accounted_for

not_sound_with_a_reader_more : ¬ IsSound anything two (with_author (record busy_author { out = 1 }))
not_sound_with_a_reader_more sound = a_reader_that_is_not_counted sound.counts_are_bounded

not_sound_with_a_version_past_the_history : ¬ IsSound anything two (with_old (record old_root { version = 99 }))
not_sound_with_a_version_past_the_history sound = an_old_version_past_the_history sound.pages_show_versions

not_sound_with_a_root_held_that_is_not_there : ¬ IsSound anything two (with_author (record busy_author { held = 99 ∷ [] }))
not_sound_with_a_root_held_that_is_not_there sound = a_root_held_that_is_not_there sound.sweep_is_bounded.held_are_old

not_sound_with_a_lost_history : ¬ IsSound anything two (with_author (record busy_author { joined = (7 ∷ 8 ∷ [], []) }))
not_sound_with_a_lost_history sound = an_author_that_lost_what_it_had sound.histories_and_counts.prefixes

-- so the law that every gate that is reached is sound says something: not every gate is
not_every_gate_is_sound : ¬ ((gate : Gate ℕ ℕ) → IsSound anything two gate)
not_every_gate_is_sound all = not_sound_without_a_root (all (with_author (record busy_author { roots = old_root ∷ current_root ∷ laid_root ∷ [] })))
