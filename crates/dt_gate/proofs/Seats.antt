-- Sums over seats after one seat changed.
use Rattle.std.proofs.Common.{◌≡◌, ◌≢◌, ℕ, ◌+◌, ◌<◌, ◌≤◌, Bool, true, false, cond, List, [], ◌∷◌, ◌++◌, length, set, sum_by, refl, sym, ap, subst, arith}
use Rattle.std.proofs.lemmas.List.Sums.{sum_by-set, sum_by_push}
use Rattle.dt_gate.specs.declared.gate.Author.{Author}
use Rattle.dt_gate.specs.declared.gate.Gate.{Gate}
use Rattle.dt_gate.specs.declared.gate.Root.{Root}
use Rattle.dt_gate.specs.declared.gate.Frozen.{Frozen}
use Rattle.dt_gate.specs.declared.gate.Seat.{Seat}
use Rattle.dt_gate.specs.declared.gate.Stage.{Stage}
use Rattle.dt_gate.specs.declared.gate.Stage.TheVariants.{Out, Near, In, Note, Spent}
use Rattle.dt_gate.specs.Gate.{blank_root, IsLive, root_at, seat_at, spent}
use Rattle.dt_gate.specs.Counts.{one_inside, one_near, one_reader, one_unswept, is_unswept, readers, inside_unswept}
use Rattle.dt_gate.proofs.Lists.{in_list, sum_same, sum_le, one_same, one_other}

-- the seat was not given back
abbrev pub IsHere : Stage → Type 0
IsHere Spent = ⊥
IsHere Out = Unit {0}
IsHere Near = Unit {0}
IsHere (In root frozen) = Unit {0}
IsHere Note = Unit {0}

module _ {M I : Type 0} where
  pub seat_here : (gate : Gate M I) (seat : ℕ) (stage : Stage) → (seat_at gate seat).stage ≡ stage → IsHere stage → seat < length gate.seats
  seat_here gate seat stage is here = in_list (λ (s : Seat M I). IsHere s.stage) spent (λ h. h) gate.seats seat (subst IsHere (sym is) here)

  pub root_here : (author : Author M I) (root : ℕ) → IsLive (root_at author root).standing → root < length author.roots
  root_here author root live = in_list (λ (r : Root). IsLive r.standing) blank_root (λ h. h) author.roots root live

  -- a seat changes from one stage to another: a sum over stages loses the one summand and gains the other
  pub moves : (gate : Gate M I) (f : Stage → ℕ) (seat : ℕ) (from : Stage) (to : Seat M I) → (seat_at gate seat).stage ≡ from → IsHere from
      → sum_by (λ (s : Seat M I). f s.stage) (set gate.seats seat to) + f from ≡ sum_by (λ (s : Seat M I). f s.stage) gate.seats + f to.stage
  moves gate f seat from to is here =
      let was : f (seat_at gate seat).stage ≡ f from = ap f is in
      omega (arith, was, sum_by-set (λ (s : Seat M I). f s.stage) gate.seats seat to spent (seat_here gate seat from is here))

  -- a seat that stays at its stage changes no such sum
  pub stays : (gate : Gate M I) (f : Stage → ℕ) (seat : ℕ) (to : Seat M I) → to.stage ≡ (seat_at gate seat).stage
      → sum_by (λ (s : Seat M I). f s.stage) (set gate.seats seat to) ≡ sum_by (λ (s : Seat M I). f s.stage) gate.seats
  stays gate f seat to same = sum_same (λ (s : Seat M I). f s.stage) spent gate.seats seat to (ap f same)

  -- a new seat adds its summand
  pub joins : (gate : Gate M I) (f : Stage → ℕ) (new : Seat M I)
      → sum_by (λ (s : Seat M I). f s.stage) (gate.seats ++ new ∷ []) ≡ sum_by (λ (s : Seat M I). f s.stage) gate.seats + f new.stage
  joins gate f new = sum_by_push (λ (s : Seat M I). f s.stage) gate.seats new

-- summands of a reader inside
pub inside_one : (root : ℕ) (frozen : Frozen) → one_inside root (In root frozen) ≡ 1
inside_one root frozen = one_same root root refl

pub inside_other : (root other : ℕ) (frozen : Frozen) → other ≢ root → one_inside root (In other frozen) ≡ 0
inside_other root other frozen n = one_other other root n

near_le_reader : (stage : Stage) → one_near stage ≤ one_reader stage
near_le_reader Out = omega arith
near_le_reader Near = omega arith
near_le_reader (In root frozen) = omega arith
near_le_reader Note = omega arith
near_le_reader Spent = omega arith

cond_le : (b : Bool) → cond {A = ℕ} b 1 0 ≤ 1
cond_le true = omega arith
cond_le false = omega arith

cond_mono : (a b : Bool) → (a ≡ true → b ≡ true) → cond {A = ℕ} a 1 0 ≤ cond {A = ℕ} b 1 0
cond_mono false b h = omega arith
cond_mono true b h = subst (λ c. 1 ≤ cond {A = ℕ} c 1 0) (sym (h refl)) (omega arith)

module _ {M I : Type 0} where
  -- who is inside an old root that was not found held is a reader
  pub unswept_le_reader : (author : Author M I) (stage : Stage) → one_unswept author stage ≤ one_reader stage
  unswept_le_reader author Out = omega arith
  unswept_le_reader author Near = omega arith
  unswept_le_reader author (In root frozen) = cond_le (is_unswept author root)
  unswept_le_reader author Note = omega arith
  unswept_le_reader author Spent = omega arith

  pub near_readers : (seats : List (Seat M I)) → sum_by (λ (s : Seat M I). one_near s.stage) seats ≤ sum_by (λ (s : Seat M I). one_reader s.stage) seats
  near_readers seats = sum_le _ _ (λ (s : Seat M I). near_le_reader s.stage) seats

  pub unswept_readers : (gate : Gate M I) → inside_unswept gate ≤ readers gate
  unswept_readers gate = sum_le _ _ (λ (s : Seat M I). unswept_le_reader gate.author s.stage) gate.seats

  one_unswept_mono : (author other : Author M I) → ((root : ℕ) → is_unswept author root ≡ true → is_unswept other root ≡ true)
      → (stage : Stage) → one_unswept author stage ≤ one_unswept other stage
  one_unswept_mono author other h Out = omega arith
  one_unswept_mono author other h Near = omega arith
  one_unswept_mono author other h (In root frozen) = cond_mono (is_unswept author root) (is_unswept other root) (h root)
  one_unswept_mono author other h Note = omega arith
  one_unswept_mono author other h Spent = omega arith

  -- where fewer roots are unswept, no more seats are inside them
  pub unswept_mono : (author other : Author M I) → ((root : ℕ) → is_unswept author root ≡ true → is_unswept other root ≡ true)
      → (seats : List (Seat M I)) → sum_by (λ (s : Seat M I). one_unswept author s.stage) seats ≤ sum_by (λ (s : Seat M I). one_unswept other s.stage) seats
  unswept_mono author other h seats = sum_le _ _ (λ (s : Seat M I). one_unswept_mono author other h s.stage) seats
