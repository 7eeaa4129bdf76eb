-- The author's steps on the table are its events.
use Rattle.std.proofs.Common.{◌≡◌, ℕ, zero, suc, false, true≢false, List, [], ◌∷◌, map, get_or, set, refl, sym, ap, subst, ◌∙◌}
use mathlib.Core.Option.{some, some-injective}
use lib.ListN.{get_elem?}
use Rattle.atomic_table.specs.Table.{Me, Allows, keeps}
use Rattle.dt_pages.specs.Reading.{Reading}
use Rattle.dt_gate.specs.declared.event.Event.{Event}
use Rattle.dt_gate.specs.declared.event.Event.TheVariants.{Fill, Lay, Publish, Poll, Tell}
use Rattle.dt_gate.specs.declared.event.Holder.TheVariants as holder
use Rattle.dt_gate.specs.declared.event.RecordWord.{RecordWord}
use Rattle.dt_gate.specs.declared.event.RecordWord.TheVariants.{Exits}
use Rattle.dt_gate.specs.declared.gate.Author.{Author}
use Rattle.dt_gate.specs.declared.gate.Gate.{Gate}
use Rattle.dt_gate.specs.declared.gate.Seat.{Seat}
use Rattle.dt_gate.specs.declared.gate.Stage.{Stage}
use Rattle.dt_gate.specs.declared.gate.Stage.TheVariants.{Out, Near, In, Note, Spent}
use Rattle.dt_gate.specs.Gate.{IsOld, root_at, spent}
use Rattle.dt_gate.specs.Author.{MayFill, MayLay, MayPublish}
use Rattle.dt_gate.specs.Events.{IsAllowed, step}
use Rattle.dt_gate.specs.Words.{word_of, accessed, access_of, record_word, page_word, packed, words_of, Finds}
use Rattle.dt_gate.specs.AllBounds.{LawsOfRuns}
use Rattle.dt_version.specs.declared.view.Size.{Size}
use Rattle.dt_version.specs.declared.view.View.{View}
use Rattle.dt_version.specs.declared.view.View.TheVariants as view
use Rattle.dt_version.specs.Limits.{bounds}
use Rattle.dt_version.specs.Views.{view_at, view_of, views_of, size_shown, author_shown, is_author, IsAuthorOf}
use Rattle.dt_version.specs.Rule.{IsRunning, Holds}
use Rattle.dt_version.specs.Told.{AuthorIsTold}
use Rattle.dt_version.proofs.Lists.{set_self, at_mapped}
use Rattle.dt_version.proofs.Seats.{same_size}
use Rattle.dt_version.proofs.Steps.{runs_on}

module _ {M I : Type 0} where
  never_author : (size : Size) (seat : Seat M I) (stage : Stage) → is_author (view_at size seat stage) ≡ false
  never_author size seat Out = refl
  never_author size seat Near = refl
  never_author size seat (In root frozen) = refl
  never_author size seat Note = refl
  never_author size seat Spent = refl

  pub record IsAuthor (size own : Size) (gate : Gate M I) (id : ℕ) (author : Author M I) : Type 0 where
    pub first : id ≡ 0
    pub size_is : size ≡ own
    pub author_is : gate.author ≡ author

  pub author_found : (size own : Size) (gate : Gate M I) (id : ℕ) (author : Author M I)
      → get_elem? (views_of size gate) id ≡ some (view.Author own author) → IsAuthor size own gate id author
  author_found size own gate zero author e =
      let same = some-injective (view.Author size gate.author) (view.Author own author) e in
      record { first = refl; size_is = ap (size_shown own) same; author_is = ap author_shown same }
  author_found size own gate (suc k) author e =
      let at = at_mapped (view_of size) gate.seats spent k (view.Author own author) e in
      absurd (true≢false (sym (ap is_author at.1) ∙ never_author size (get_or gate.seats k spent) (get_or gate.seats k spent).stage))

  pub author_view : (size : Size) (v : View M I) → IsAuthorOf size v → v ≡ view.Author size (author_shown v)
  author_view size (view.Author own author) is = ap (λ (z : Size). view.Author z author) (same_size size own is.readers_are is.pages_are is.entries_are)
  author_view size (view.Reader own seat) is = absurd (true≢false (sym is.author))
  author_view size view.Gone is = absurd (true≢false (sym is.author))

  pub author_is_of : (size : Size) (v : View M I) (author : Author M I) → v ≡ view.Author size author → IsAuthorOf size v
  author_is_of size v author is = subst (IsAuthorOf size) (sym is) (record { author = refl; readers_are = refl; pages_are = refl; entries_are = refl })

  pub author_me : (size : Size) (me : Me ℕ (View M I)) → IsAuthorOf size me.0 → me.1 ≡ [] → me ≡ (view.Author size (author_shown me.0), [])
  author_me size me is none = λ i. (author_view size me.0 is i, none i)

module _ {M I : Type 0} (shows : Reading → List I → Type 0) (laws : LawsOfRuns M shows) (size : Size) where
  -- an event of the author: it is allowed, its access is the step, and it changes no seat
  pub record IsEventOfAuthor (gate : Gate M I) (event : Event M I) (i : ℕ) (f : ℕ → ℕ) : Type 0 where
    pub allowed : IsAllowed shows (bounds size) gate event
    pub word : word_of (access_of (bounds size) gate event) ≡ i
    pub stored : set (words_of gate) i (f (get_or (words_of gate) i 0)) ≡ accessed (access_of (bounds size) gate event) (words_of gate)
    pub seats : (step (bounds size) gate event).seats ≡ gate.seats

  pub author_steps : (event : Event M I) (slots id i : ℕ) (f : ℕ → ℕ) (author : Author M I) (me : Me ℕ (View M I)) → me ≡ (view.Author size author, [])
      → ((gate : Gate M I) → IsRunning shows size gate → gate.author ≡ author → IsEventOfAuthor gate event i f)
      → (then : ℕ → Me ℕ (View M I) → Type 0)
      → ((number : ℕ) (after : Me ℕ (View M I)) → AuthorIsTold shows size event me.0 after.0 number → after.1 ≡ me.1 → then number after)
      → Allows (Holds shows size) slots id me i f then
  author_steps event slots id i f author me me_is is_event then tells state (gate, running, shown) homes at fits =
      let here = author_found size size gate id author
      (subst (λ vs. get_elem? vs id ≡ some (view.Author size author)) shown.views (at ∙ ap (λ (m : Me ℕ (View M I)). some m.0) me_is)) in
      let is = is_event gate running here.author_is in
      let one = laws.accesses (bounds size) running.in_range running.empty gate event running.reached is.allowed in
      let after : Author M I = (step (bounds size) gate event).author in
      let words : set state.words i (f (get_or state.words i 0)) ≡ words_of (step (bounds size) gate event) =
      ap (λ ws. set ws i (f (get_or ws i 0))) shown.words ∙ (is.stored ∙ sym one.changes) in
      let views : set state.views id (view.Author size after) ≡ views_of size (step (bounds size) gate event) =
      ap (λ vs. set vs id (view.Author size after)) shown.views
      ∙ (ap (λ j. set (views_of size gate) j (view.Author size after)) here.first
      ∙ (λ j. view.Author size after ∷ map (view_of size) (sym is.seats j))) in (
        view.Author size after,
        keeps,
        tt,
        (step (bounds size) gate event, runs_on shows laws size gate event running is.allowed, record { words = words; views = views }),
        tells (get_or state.words i 0) (view.Author size after, me.1) (record {
          gate = gate;
          running = running;
          allowed = is.allowed;
          was = ap (λ (m : Me ℕ (View M I)). m.0) me_is ∙ ap (view.Author size) (sym here.author_is);
          is = refl;
          finds = subst (Finds gate event) (ap (λ j. get_or (words_of gate) j 0) is.word ∙ sym (ap (λ ws. get_or ws i 0) shown.words)) one.finds;
        }) refl,
      )

  pub fills : (slots id page place word : ℕ) (author : Author M I) (me : Me ℕ (View M I)) → me ≡ (view.Author size author, [])
      → MayFill (bounds size) author page place
      → (then : ℕ → Me ℕ (View M I) → Type 0)
      → ((number : ℕ) (after : Me ℕ (View M I)) → AuthorIsTold shows size (Fill page place word) me.0 after.0 number → after.1 ≡ me.1 → then number after)
      → Allows (Holds shows size) slots id me (page_word (bounds size) page place) (λ _. word) then
  fills slots id page place word author me is may = author_steps (Fill page place word) slots id (page_word (bounds size) page place) (λ _. word) author me is
      (λ gate running same. record { allowed = subst (λ a. MayFill (bounds size) a page place) (sym same) may; word = refl; stored = refl; seats = refl })

  pub lays : (slots id root : ℕ) (word : RecordWord) (value : ℕ) (author : Author M I) (me : Me ℕ (View M I)) → me ≡ (view.Author size author, [])
      → MayLay (bounds size) author root
      → (then : ℕ → Me ℕ (View M I) → Type 0)
      → ((number : ℕ) (after : Me ℕ (View M I)) → AuthorIsTold shows size (Lay root word value) me.0 after.0 number → after.1 ≡ me.1 → then number after)
      → Allows (Holds shows size) slots id me (record_word root word) (λ _. value) then
  lays slots id root word value author me is may = author_steps (Lay root word value) slots id (record_word root word) (λ _. value) author me is
      (λ gate running same. record { allowed = subst (λ a. MayLay (bounds size) a root) (sym same) may; word = refl; stored = refl; seats = refl })

  pub publishes : (slots id root : ℕ) (item : I) (author : Author M I) (me : Me ℕ (View M I)) → me ≡ (view.Author size author, [])
      → MayPublish shows (bounds size) author root item
      → (then : ℕ → Me ℕ (View M I) → Type 0)
      → ((number : ℕ) (after : Me ℕ (View M I)) → AuthorIsTold shows size (Publish root item) me.0 after.0 number → after.1 ≡ me.1 → then number after)
      → Allows (Holds shows size) slots id me 0 (λ _. packed root 0) then
  publishes slots id root item author me is may = author_steps (Publish root item) slots id 0 (λ _. packed root 0) author me is
      (λ gate running same. record { allowed = subst (λ a. MayPublish shows (bounds size) a root item) (sym same) may; word = refl; stored = refl; seats = refl })

  pub polls : (slots id root : ℕ) (author : Author M I) (me : Me ℕ (View M I)) → me ≡ (view.Author size author, [])
      → IsOld (root_at author root).standing
      → (then : ℕ → Me ℕ (View M I) → Type 0)
      → ((number : ℕ) (after : Me ℕ (View M I)) → AuthorIsTold shows size (Poll root) me.0 after.0 number → after.1 ≡ me.1 → then number after)
      → Allows (Holds shows size) slots id me (record_word root Exits) (λ n. n) then
  polls slots id root author me is old = author_steps (Poll root) slots id (record_word root Exits) (λ n. n) author me is
      (λ gate running same. record {
        allowed = subst (λ (a : Author M I). IsOld (root_at a root).standing) (sym same) old;
        word = refl;
        stored = set_self (words_of gate) (record_word root Exits);
        seats = refl;
      })

  pub hears : (slots id : ℕ) (author : Author M I) (me : Me ℕ (View M I)) → me ≡ (view.Author size author, [])
      → (then : ℕ → Me ℕ (View M I) → Type 0)
      → ((number : ℕ) (after : Me ℕ (View M I)) → AuthorIsTold shows size (Tell holder.Author) me.0 after.0 number → after.1 ≡ me.1 → then number after)
      → Allows (Holds shows size) slots id me 0 (λ n. n) then
  hears slots id author me is = author_steps (Tell holder.Author) slots id 0 (λ n. n) author me is
      (λ gate running same. record { allowed = tt; word = refl; stored = set_self (words_of gate) 0; seats = refl })
