-- A source and a sink in memory, and what a call of each does.
use Rattle.std.specs.Prelude.{◌≡◌, ◌==◌, ℕ, ◌+◌, ◌-◌, ◌^◌, Bool, ◌||◌, IsTrue, not, min, List, ◌++◌, length, take, drop, Result, Ok, Err}
use Rattle.std.specs.List.{list_any}
use Rattle.dt_outside.specs.Faults.{one_fault_more}

-- the bytes that are left, how many a call gives at most, the places of the calls that fail, how many calls there were,
-- and how many failed
pub record ListSource : Type 0 where
  pub left : List ℕ
  pub step : ℕ
  pub failing : List ℕ
  pub calls : ℕ
  pub faults : ℕ

-- the bytes that were taken, how many a call takes at most, how many are taken in all, the places of the calls that
-- fail, how many calls there were, and how many failed
pub record ListSink : Type 0 where
  pub taken : List ℕ
  pub step : ℕ
  pub room : ℕ
  pub failing : List ℕ
  pub calls : ℕ
  pub faults : ℕ

-- the place of the next call, from 1
abbrev pub next_call : ℕ → ℕ
next_call calls = min (calls + 1) (2 ^ 32 - 1)

-- whether the next call is one of those that fail
abbrev pub is_failing : List ℕ → ℕ → Bool
is_failing failing calls = list_any (λ place. place == next_call calls) failing

-- A read fails exactly where its place is listed. Else it gives as many bytes as fit the room, are allowed and are left.
abbrev pub Reads : {E : Type 0} → ListSource → ℕ → Result ℕ E → ListSource → Type 0
Reads old room (Ok count) new =
    IsTrue (not (is_failing old.failing old.calls)) × (count ≡ min (min room old.step) (length old.left))
    × (new ≡ record {
      left = drop count old.left;
      step = old.step;
      failing = old.failing;
      calls = next_call old.calls;
      faults = old.faults;
    })
Reads old room (Err fault) new =
    IsTrue (is_failing old.failing old.calls)
    × (new ≡ record {
      left = old.left;
      step = old.step;
      failing = old.failing;
      calls = next_call old.calls;
      faults = one_fault_more old.faults;
    })

-- whether the next put fails: it is one of those that fail, or the room is full
abbrev pub is_refused : ListSink → Bool
is_refused s = (s.room - length s.taken == 0) || is_failing s.failing s.calls

-- A put fails exactly where its place is listed or the room is full. Else it takes as many bytes of the piece's front as
-- there are, are allowed and fit the room.
abbrev pub Puts : {E : Type 0} → ListSink → List ℕ → Result ℕ E → ListSink → Type 0
Puts old piece (Ok count) new =
    IsTrue (not (is_refused old)) × (count ≡ min (min (length piece) old.step) (old.room - length old.taken))
    × (new ≡ record {
      taken = old.taken ++ take count piece;
      step = old.step;
      room = old.room;
      failing = old.failing;
      calls = next_call old.calls;
      faults = old.faults;
    })
Puts old piece (Err fault) new =
    IsTrue (is_refused old)
    × (new ≡ record {
      taken = old.taken;
      step = old.step;
      room = old.room;
      failing = old.failing;
      calls = next_call old.calls;
      faults = one_fault_more old.faults;
    })
