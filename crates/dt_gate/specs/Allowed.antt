-- Where each event is just allowed, and where it is just not, from the busy gate on.
use Rattle.std.specs.Prelude.{◌≡◌, ℕ, zero, suc, ◌<◌, List, [], ◌∷◌, ◌++◌, Option, Some, None, replicate, refl}
use Rattle.std.proofs.Common.{sym, subst, ◌∙◌, arith, inl, inr}
use Rattle.std.proofs.lemmas.List.{get_or-append-add, get_or-replicate}
use Rattle.dt_pages.specs.Reading.{levels, Meets, Reaches}
use Rattle.dt_gate.specs.declared.event.Event.{Event}
use Rattle.dt_gate.specs.declared.event.Event.TheVariants.{Look, Enter, Read, Leave, Fill, Lay, Publish, Poll, SeatOut, NoteOut, SeatBack, NoteBack, Tell}
use Rattle.dt_gate.specs.declared.event.Holder.TheVariants as holder
use Rattle.dt_gate.specs.declared.event.ReadWord.TheVariants as read
use Rattle.dt_gate.specs.declared.event.RecordWord.TheVariants.{Exits, Version, Top}
use Rattle.dt_gate.specs.declared.gate.Gate.{Gate}
use Rattle.dt_gate.specs.declared.gate.Root.{Root}
use Rattle.dt_gate.specs.declared.gate.Stage.{Stage}
use Rattle.dt_gate.specs.declared.gate.Stage.TheVariants.{Out, Near, In, Note, Spent}
use Rattle.dt_gate.specs.declared.gate.Standing.{Standing}
use Rattle.dt_gate.specs.declared.gate.Standing.TheVariants.{Free, Now, Old}
use Rattle.dt_gate.specs.Gate.{blank_root, pages_of, IsLive, root_at}
use Rattle.dt_gate.specs.Events.{IsAllowed}
use Rattle.dt_gate.specs.WrongMachines.{anything}
use Rattle.dt_gate.specs.Busy.{something, two, busy, busy_author, with_author, old_root, current_root, laid_root, inside_seat, out_seat, note_of}
use Rattle.dt_gate.specs.Examples.{counted}

-- the event is allowed in the gate
abbrev May : Gate ℕ ℕ → Event ℕ ℕ → Type 0
May gate event = IsAllowed anything two gate event

-- the busy gate with seat 1 near
abbrev one_near : Gate ℕ ℕ
one_near = record busy { seats = inside_seat ∷ record out_seat { stage = Near } ∷ note_of [] ∷ [] }

-- ---- by stages: seat 0 is inside, seat 1 is out or near, seat 2 is a note, and there is no seat 4

who_is_out_may_look : May busy (Look 1)
who_is_out_may_look = refl

-- also at the limit, where the look is worn
who_is_out_may_look_at_the_limit : May (record busy { entries = 4 }) (Look 1)
who_is_out_may_look_at_the_limit = refl

who_is_inside_may_not_look : ¬ May busy (Look 0)
who_is_inside_may_not_look may = let is : ◌≡◌ {A = Stage} (In 0 _) Out = may in cc

who_is_near_may_not_look_again : ¬ May one_near (Look 1)
who_is_near_may_not_look_again may = let is : ◌≡◌ {A = Stage} Near Out = may in cc

a_note_may_not_look : ¬ May busy (Look 2)
a_note_may_not_look may = let is : ◌≡◌ {A = Stage} Note Out = may in cc

no_seat_may_not_look : ¬ May busy (Look 4)
no_seat_may_not_look may = let is : ◌≡◌ {A = Stage} Spent Out = may in cc

who_is_near_may_enter : May one_near (Enter 1)
who_is_near_may_enter = refl

-- also past the limit, if the look stood before it
who_is_near_may_enter_at_the_limit : May (record one_near { entries = 3 }) (Enter 1)
who_is_near_may_enter_at_the_limit = refl

who_is_out_may_not_enter : ¬ May busy (Enter 1)
who_is_out_may_not_enter may = let is : ◌≡◌ {A = Stage} Out Near = may in cc

who_is_inside_may_not_enter : ¬ May busy (Enter 0)
who_is_inside_may_not_enter may = let is : ◌≡◌ {A = Stage} (In 0 _) Near = may in cc

who_is_inside_may_read : May busy (Read 0 read.Version) × May busy (Read 0 read.Top) × May busy (Read 0 (read.Page 0 511))
who_is_inside_may_read = (tt, tt, (inl refl, omega arith))

a_place_past_a_page_may_not_be_read : ¬ May busy (Read 0 (read.Page 0 512))
a_place_past_a_page_may_not_be_read may = let is : 512 < 512 = may.1 in absurd (omega (arith, is))

who_is_out_may_not_read : ¬ May busy (Read 1 read.Version)
who_is_out_may_not_read may = may

who_is_near_may_not_read : ¬ May one_near (Read 1 read.Top)
who_is_near_may_not_read may = may

who_is_inside_may_leave : May busy (Leave 0)
who_is_inside_may_leave = tt

who_is_out_may_not_leave : ¬ May busy (Leave 1)
who_is_out_may_not_leave may = may

who_is_near_may_not_leave : ¬ May one_near (Leave 1)
who_is_near_may_not_leave may = may

-- ---- pages

-- a gate whose words are all 0 past the end of a list, so that a page reaches no other but page 0; the free root 2 has top
-- page 15
abbrev bare : Gate ℕ ℕ
bare = with_author (record busy_author { words = []; roots = old_root ∷ current_root ∷ record laid_root { top = 15 } ∷ [] })

-- so page 0 reaches no other
from_zero : (page : ℕ) → Reaches (pages_of []) 0 page → page ≡ 0
from_zero page (inl is) = sym is
from_zero page (inr (at, below, inl is)) = sym is
from_zero page (inr (at, below, inr (next, under, inl is))) = sym is
from_zero page (inr (at, below, inr (next, under, inr way))) = absurd way.2

a_page_that_is_not_reached_may_not_be_read :
    ¬ May (record bare { seats = record inside_seat { stage = In 0 (record { words = []; version = 0; top = 0 }) } ∷ [] }) (Read 0 (read.Page 1 0))
a_page_that_is_not_reached_may_not_be_read may = absurd (omega (arith, from_zero 1 may.0))

-- and no live root page 15
not_reached : (root : ℕ) → IsLive (root_at bare.author root).standing → ¬ Reaches (pages_of []) (root_at bare.author root).top 15
not_reached zero live met = absurd (omega (arith, from_zero 15 met))
not_reached (suc zero) live met = not_reached zero tt met
not_reached (suc (suc zero)) live met = absurd live
not_reached (suc (suc (suc root))) live met = absurd live

-- the last word of the last page, though a free root reaches it
the_last_page_may_be_filled : May bare (Fill 15 511 9)
the_last_page_may_be_filled = record { not_page_zero = omega arith; is_there = omega arith; in_page = omega arith; not_reached = not_reached }

-- page 1 has no word that is 0
abbrev ones : List ℕ
ones = replicate 512 0 ++ replicate 512 1

-- the busy gate with these words, and one live root, whose top page is page 1
abbrev full : Gate ℕ ℕ
full = with_author (record busy_author { words = ones; roots = blank_root ∷ record current_root { top = 1 } ∷ [] })

one_at : (at : ℕ) → at < 512 → pages_of ones 1 at ≡ 1
one_at at below = get_or-append-add (replicate 512 0) (replicate 512 1) at 0 ∙ get_or-replicate 512 at 1 0 below

page_one_meets_no_other : (level : ℕ) → ¬ Meets (pages_of ones) level 1 0
page_one_meets_no_other zero met = met
page_one_meets_no_other (suc level) (inl is) = absurd (omega (arith, is))
page_one_meets_no_other (suc level) (inr (at, below, met)) =
    page_one_meets_no_other level (subst (λ page. Meets (pages_of ones) level page 0) (one_at at below) met)

page_zero_is_not_reached : (root : ℕ) → IsLive (root_at full.author root).standing → ¬ Reaches (pages_of ones) (root_at full.author root).top 0
page_zero_is_not_reached zero live met = live
page_zero_is_not_reached (suc zero) live met = page_one_meets_no_other levels met
page_zero_is_not_reached (suc (suc root)) live met = live

-- no live root reaches it, and yet it may not be filled
page_zero_may_not_be_filled : ¬ May full (Fill 0 0 9)
page_zero_may_not_be_filled may = may.not_page_zero refl

a_page_past_the_last_may_not_be_filled : ¬ May bare (Fill 16 0 9)
a_page_past_the_last_may_not_be_filled may = let is : 16 < 16 = may.is_there in absurd (omega (arith, is))

a_place_past_a_page_may_not_be_filled : ¬ May bare (Fill 15 512 9)
a_place_past_a_page_may_not_be_filled may = let is : 512 < 512 = may.in_page in absurd (omega (arith, is))

a_page_of_the_current_root_may_not_be_filled : ¬ May (with_author (record busy_author { roots = old_root ∷ record current_root { top = 15 } ∷ [] })) (Fill 15 0 9)
a_page_of_the_current_root_may_not_be_filled may = may.not_reached 1 tt (inl refl)

a_page_of_an_old_root_may_not_be_filled : ¬ May (with_author (record busy_author { roots = record old_root { top = 15 } ∷ current_root ∷ [] })) (Fill 15 0 9)
a_page_of_an_old_root_may_not_be_filled may = may.not_reached 0 tt (inl refl)

-- ---- roots

a_free_root_may_be_laid : May busy (Lay 2 Top 3) × May busy (Lay 3 Exits 0)
a_free_root_may_be_laid = (record { is_there = omega arith; is_free = refl }, record { is_there = omega arith; is_free = refl })

-- it would be free, if it were there
a_root_past_the_last_may_not_be_laid : ¬ May busy (Lay 4 Top 3)
a_root_past_the_last_may_not_be_laid may = let is : 4 < 4 = may.is_there in absurd (omega (arith, is))

the_current_root_may_not_be_laid : ¬ May busy (Lay 1 Version 2)
the_current_root_may_not_be_laid may = let is : ◌≡◌ {A = Standing} Now Free = may.is_free in cc

an_old_root_may_not_be_laid : ¬ May busy (Lay 0 Exits 2)
an_old_root_may_not_be_laid may = let is : ◌≡◌ {A = Standing} (Old 2) Free = may.is_free in cc

an_old_root_may_be_polled : May busy (Poll 0)
an_old_root_may_be_polled = tt

the_current_root_may_not_be_polled : ¬ May busy (Poll 1)
the_current_root_may_not_be_polled may = may

a_free_root_may_not_be_polled : ¬ May busy (Poll 2)
a_free_root_may_not_be_polled may = may

-- ---- a publish

-- root 2, laid for the next version with this top page
abbrev laid_whole : ℕ → Root
laid_whole top = record blank_root { version = 2; top = top; laid = record { exits = Some 0; version = Some 2; top = Some top } }

-- the bare gate with this root 2
abbrev with_root_two : Root → Gate ℕ ℕ
with_root_two root = record bare { author = record bare.author { roots = old_root ∷ current_root ∷ root ∷ [] } }

-- the bare gate where these exits, this version and this top page are laid in root 2
abbrev laid_with : Option ℕ → Option ℕ → Option ℕ → Gate ℕ ℕ
laid_with exits version top = with_root_two (record (laid_whole 15) { laid = record { exits = exits; version = version; top = top } })

-- from the last page there are only it and page 0 to reach
in_bounds : (page : ℕ) → Reaches (pages_of []) 15 page → page < 16
in_bounds page (inl is) = omega (arith, is)
in_bounds page (inr (at, below, inl is)) = let zero_is : ◌≡◌ {A = ℕ} 0 page = is in omega (arith, zero_is)
in_bounds page (inr (at, below, inr (next, under, inl is))) = let zero_is : ◌≡◌ {A = ℕ} 0 page = is in omega (arith, zero_is)
in_bounds page (inr (at, below, inr (next, under, inr way))) = absurd way.2

a_laid_root_may_be_published : May (with_root_two (laid_whole 15)) (Publish 2 8)
a_laid_root_may_be_published = record {
  is_free = refl;
  no_exit = refl;
  next_version = refl;
  top = 15;
  top_is_laid = refl;
  top_shows = tt;
  in_bounds = in_bounds;
}

-- the gate with an empty history of the author
abbrev without_history : Gate ℕ ℕ → Gate ℕ ℕ
without_history gate = record gate { author = record gate.author { history = [] } }

-- its pages show the history with the item, and need not show the one before
the_first_item_may_be_published : IsAllowed something two (without_history (laid_with (Some 0) (Some 1) (Some 15))) (Publish 2 8)
the_first_item_may_be_published = record {
  is_free = refl;
  no_exit = refl;
  next_version = refl;
  top = 15;
  top_is_laid = refl;
  top_shows = omega arith;
  in_bounds = in_bounds;
}

a_live_root_may_not_be_published : ¬ May (with_root_two (record (laid_whole 15) { standing = Old 0 })) (Publish 2 8)
a_live_root_may_not_be_published may = let is : ◌≡◌ {A = Standing} (Old 0) Free = may.is_free in cc

a_root_with_exits_may_not_be_published : ¬ May (laid_with (Some 1) (Some 2) (Some 15)) (Publish 2 8)
a_root_with_exits_may_not_be_published may = let is : ◌≡◌ {A = Option ℕ} (Some 1) (Some 0) = may.no_exit in cc

a_root_with_exits_not_laid_may_not_be_published : ¬ May (laid_with None (Some 2) (Some 15)) (Publish 2 8)
a_root_with_exits_not_laid_may_not_be_published may = let is : ◌≡◌ {A = Option ℕ} None (Some 0) = may.no_exit in cc

the_version_before_may_not_be_published : ¬ May (laid_with (Some 0) (Some 1) (Some 15)) (Publish 2 8)
the_version_before_may_not_be_published may = let is : ◌≡◌ {A = Option ℕ} (Some 1) (Some 2) = may.next_version in cc

a_version_left_out_may_not_be_published : ¬ May (laid_with (Some 0) (Some 3) (Some 15)) (Publish 2 8)
a_version_left_out_may_not_be_published may = let is : ◌≡◌ {A = Option ℕ} (Some 3) (Some 2) = may.next_version in cc

a_top_page_not_laid_may_not_be_published : ¬ May (laid_with (Some 0) (Some 2) None) (Publish 2 8)
a_top_page_not_laid_may_not_be_published may = let is : None ≡ Some may.top = may.top_is_laid in cc

a_top_page_past_the_last_may_not_be_published : ¬ May (with_root_two (laid_whole 16)) (Publish 2 8)
a_top_page_past_the_last_may_not_be_published may =
    let laid : Some 16 ≡ Some may.top = may.top_is_laid in
    let is : may.top ≡ 16 = cc in
    absurd (omega (arith, is, may.in_bounds may.top (inl refl)))

-- the reading of zeros shows the empty list alone, and not the two items
pages_of_another_history_may_not_be_published : ¬ IsAllowed counted two (with_root_two (laid_whole 15)) (Publish 2 8)
pages_of_another_history_may_not_be_published may = let is : ◌≡◌ {A = ℕ} 0 2 = may.top_shows in absurd (omega (arith, is))

-- ---- seats and notes

one_reader_more_may_go_out : May (with_author (record busy_author { out = 1 })) SeatOut
one_reader_more_may_go_out = omega arith

a_third_reader_of_two_may_not_go_out : ¬ May busy SeatOut
a_third_reader_of_two_may_not_go_out may = let is : 2 < 2 = may in absurd (omega (arith, is))

who_may_give_a_note : May busy (NoteOut holder.Author) × May busy (NoteOut (holder.Reader 0)) × May busy (NoteOut (holder.Reader 1)) × May one_near (NoteOut (holder.Reader 1))
who_may_give_a_note = (tt, tt, tt, tt)

a_note_may_not_give_a_note : ¬ May busy (NoteOut (holder.Reader 2))
a_note_may_not_give_a_note may = may

no_seat_may_not_give_a_note : ¬ May busy (NoteOut (holder.Reader 4))
no_seat_may_not_give_a_note may = may

who_is_out_may_go_back : May busy (SeatBack 1)
who_is_out_may_go_back = refl

who_is_inside_may_not_go_back : ¬ May busy (SeatBack 0)
who_is_inside_may_not_go_back may = let is : ◌≡◌ {A = Stage} (In 0 _) Out = may in cc

who_is_near_may_not_go_back : ¬ May one_near (SeatBack 1)
who_is_near_may_not_go_back may = let is : ◌≡◌ {A = Stage} Near Out = may in cc

a_note_may_not_go_back_as_a_seat : ¬ May busy (SeatBack 2)
a_note_may_not_go_back_as_a_seat may = let is : ◌≡◌ {A = Stage} Note Out = may in cc

who_may_take_a_note : May busy (NoteBack 2 holder.Author) × May busy (NoteBack 2 (holder.Reader 0)) × May busy (NoteBack 3 (holder.Reader 1))
    × May one_near (NoteBack 2 (holder.Reader 1))
who_may_take_a_note = ((refl, tt), (refl, tt), (refl, tt), (refl, tt))

a_seat_may_not_be_taken_as_a_note : ¬ May busy (NoteBack 1 holder.Author)
a_seat_may_not_be_taken_as_a_note may = let is : ◌≡◌ {A = Stage} Out Note = may.0 in cc

a_note_may_not_take_a_note : ¬ May busy (NoteBack 2 (holder.Reader 3))
a_note_may_not_take_a_note may = may.1

whom_may_be_told : May busy (Tell holder.Author) × May busy (Tell (holder.Reader 0)) × May busy (Tell (holder.Reader 1))
whom_may_be_told = (tt, tt, tt)

a_note_may_not_be_told : ¬ May busy (Tell (holder.Reader 2))
a_note_may_not_be_told may = may
