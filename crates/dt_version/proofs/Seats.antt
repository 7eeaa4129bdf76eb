-- Which seat of the gate a view at the table is of.
use Rattle.std.proofs.Common.{◌≡◌, ℕ, zero, suc, ◌<◌, true≢false, [], length, refl, sym, ap, subst}
use mathlib.Core.Option.{some, some-injective}
use lib.ListN.{get_elem?}
use Rattle.atomic_table.specs.Table.{Me}
use Rattle.dt_gate.specs.declared.gate.Frozen.{Frozen}
use Rattle.dt_gate.specs.declared.gate.Gate.{Gate}
use Rattle.dt_gate.specs.declared.gate.Seat.{Seat}
use Rattle.dt_gate.specs.declared.gate.Stage.{Stage}
use Rattle.dt_gate.specs.declared.gate.Stage.TheVariants.{Out, Near, In, Note, Spent}
use Rattle.dt_gate.specs.Gate.{seat_at, spent}
use Rattle.dt_gate.specs.Seats.{IsInside}
use Rattle.dt_version.specs.declared.view.Size.{Size}
use Rattle.dt_version.specs.declared.view.View.{View}
use Rattle.dt_version.specs.declared.view.View.TheVariants as view
use Rattle.dt_version.specs.Views.{view_at, view_of, views_of, seat_shown, size_shown, is_reader, IsReaderOf}
use Rattle.dt_version.proofs.Lists.{at_mapped}

pub same_size : (size own : Size) → own.readers ≡ size.readers → own.pages ≡ size.pages → own.entries ≡ size.entries → own ≡ size
same_size size own r p e = λ i. record { readers = r i; pages = p i; entries = e i }

module _ {M I : Type 0} where
  -- the view stands for this seat of the gate
  pub record IsSeat (size own : Size) (gate : Gate M I) (id : ℕ) (seat : Seat M I) : Type 0 where
    pub number : ℕ
    pub behind : id ≡ suc number
    pub there : number < length gate.seats
    pub size_is : size ≡ own
    pub seat_is : seat_at gate number ≡ seat

  shown_same : (size own : Size) (s seat : Seat M I) (stage : Stage) → view_at size s stage ≡ view.Reader own seat → (size ≡ own) × (s ≡ seat)
  shown_same size own s seat Out e = (ap (size_shown own) e, ap seat_shown e)
  shown_same size own s seat Near e = (ap (size_shown own) e, ap seat_shown e)
  shown_same size own s seat (In root frozen) e = (ap (size_shown own) e, ap seat_shown e)
  shown_same size own s seat Note e = (ap (size_shown own) e, ap seat_shown e)
  shown_same size own s seat Spent e = absurd (true≢false (sym (ap is_reader e)))

  pub reader_found : (size own : Size) (gate : Gate M I) (id : ℕ) (seat : Seat M I)
      → get_elem? (views_of size gate) id ≡ some (view.Reader own seat) → IsSeat size own gate id seat
  reader_found size own gate zero seat e =
      absurd (true≢false (sym (ap is_reader (some-injective (view.Author size gate.author) (view.Reader own seat) e))))
  reader_found size own gate (suc k) seat e =
      let at = at_mapped (view_of size) gate.seats spent k (view.Reader own seat) e in
      let same = shown_same size own (seat_at gate k) seat (seat_at gate k).stage at.1 in
      record { number = k; behind = refl; there = at.0; size_is = same.0; seat_is = same.1 }

  -- a reader's view is that of its seat
  pub reader_view : (size : Size) (v : View M I) → IsReaderOf size v → v ≡ view.Reader size (seat_shown v)
  reader_view size (view.Reader own seat) is = ap (λ (z : Size). view.Reader z seat) (same_size size own is.readers_are is.pages_are is.entries_are)
  reader_view size (view.Author own author) is = absurd (true≢false (sym is.reader))
  reader_view size view.Gone is = absurd (true≢false (sym is.reader))

  pub reader_of : (size : Size) (v : View M I) (seat : Seat M I) → v ≡ view.Reader size seat → IsReaderOf size v
  reader_of size v seat is = subst (IsReaderOf size) (sym is) (record { reader = refl; readers_are = refl; pages_are = refl; entries_are = refl })

  pub reader_me : (size : Size) (me : Me ℕ (View M I)) → IsReaderOf size me.0 → me.1 ≡ [] → me ≡ (view.Reader size (seat_shown me.0), [])
  reader_me size me is none = λ i. (reader_view size me.0 is i, none i)

-- who is inside is inside some root
pub inside_is : (stage : Stage) → IsInside stage → (root : ℕ) × (frozen : Frozen) × (stage ≡ In root frozen)
inside_is (In root frozen) inside = (root, frozen, refl)
inside_is Out inside = absurd inside
inside_is Near inside = absurd inside
inside_is Note inside = absurd inside
inside_is Spent inside = absurd inside
