-- What a reader's step makes of its seat.
use Rattle.std.proofs.Common.{◌≡◌, ℕ, zero, suc, ◌<◌, ◌≤◌, ◌+◌, ◌*◌, ◌/◌, ◌%◌, ◌^◌, cond, Bool, true, false, true≢false, nat_lt, List, [], ◌∷◌, ◌++◌, length, take, get_or, refl, sym, ap, subst, ◌∙◌, inl, arith, get_or-set_same, ltb-true, ltb-false}
use Rattle.std.proofs.Math.Seq.{take-length}
use mathlib.Core.List.{IsPrefix}
use Rattle.atomic_table.specs.Table.{Step, Me}
use Rattle.dt_pages.specs.Reading.{Reading, reading, Reaches, page_words}
use Rattle.dt_gate.specs.declared.event.Event.{Event}
use Rattle.dt_gate.specs.declared.event.Event.TheVariants.{Look, Enter, Read, Leave, Tell}
use Rattle.dt_gate.specs.declared.event.Holder.TheVariants as holder
use Rattle.dt_gate.specs.declared.event.ReadWord.{ReadWord}
use Rattle.dt_gate.specs.declared.event.ReadWord.TheVariants.{Page, Top}
use Rattle.dt_gate.specs.declared.gate.Frozen.{Frozen}
use Rattle.dt_gate.specs.declared.gate.Gate.{Gate}
use Rattle.dt_gate.specs.declared.gate.Root.{Root}
use Rattle.dt_gate.specs.declared.gate.Seat.{Seat}
use Rattle.dt_gate.specs.declared.gate.Standing.{Standing}
use Rattle.dt_gate.specs.declared.gate.Standing.TheVariants.{Now}
use Rattle.dt_gate.specs.declared.gate.Stage.{Stage}
use Rattle.dt_gate.specs.declared.gate.Stage.TheVariants.{Out, Near, In, Note, Spent}
use Rattle.dt_gate.specs.Gate.{blank_root, pages_of, IsLive, root_at, seat_at, spent}
use Rattle.dt_gate.specs.Seats.{IsReader, IsInside, IsFrozenWord, after_look, after_enter, frozen_now}
use Rattle.dt_gate.specs.Events.{IsAllowed, step, after_leave}
use Rattle.dt_gate.specs.Words.{Finds, frozen_at, page_word}
use Rattle.dt_gate.specs.Sound.{IsSound, BothArePrefixes}
use Rattle.dt_gate.specs.AllBounds.{LawsOfRuns}
use Rattle.dt_version.specs.declared.view.Size.{Size}
use Rattle.dt_version.specs.declared.view.View.{View}
use Rattle.dt_version.specs.declared.view.View.TheVariants as view
use Rattle.dt_version.specs.Limits.{bounds}
use Rattle.dt_version.specs.Views.{seat_shown, size_shown, IsReaderOf, IsInBounds, root_or, is_reading, is_note}
use Rattle.dt_version.specs.Rule.{IsRunning}
use Rattle.dt_version.specs.Told.{ReaderIsTold, ReaderPlays, PageRead}
use Rattle.dt_version.specs.Calls.{IsWornLook, HasEntered}
use Rattle.dt_version.proofs.Seats.{reader_of, inside_is}

-- a live root has a place in the list
pub live_is_there : (roots : List Root) (root : ℕ) → IsLive (get_or roots root blank_root).standing → root < length roots
live_is_there [] root live = absurd live
live_is_there (r ∷ roots) zero live = omega arith
live_is_there (r ∷ roots) (suc root) live = let below : root < length roots = live_is_there roots root live in omega arith

now_is_live : (standing : Standing) → standing ≡ Now → IsLive standing
now_is_live standing is = subst IsLive (sym is) tt

stages_differ : Near ≡ Out → ⊥
stages_differ is = cc

-- who isn't inside is in bounds
pub outside_in_bounds : (readers pages : ℕ) → IsInBounds readers pages Out
outside_in_bounds readers pages root frozen is = let no : ◌≡◌ {A = Stage} Out (In root frozen) = is in absurd cc

pub near_in_bounds : (readers pages : ℕ) → IsInBounds readers pages Near
near_in_bounds readers pages root frozen is = let no : ◌≡◌ {A = Stage} Near (In root frozen) = is in absurd cc

abbrev root_of : Stage → ℕ
root_of stage = root_or 0 stage

abbrev frozen_of : Frozen → Stage → Frozen
frozen_of other (In root frozen) = frozen
frozen_of other Out = other
frozen_of other Near = other
frozen_of other Note = other
frozen_of other Spent = other

module _ {M I : Type 0} (shows : Reading → List I → Type 0) (laws : LawsOfRuns M shows) where
  -- what a reader's play tells of the seat that it is of
  pub record IsToldOf (size : Size) (seat : Seat M I) (event : ℕ → Event M I) (number : ℕ) (after : View M I) : Type 0 where
    pub gate : Gate M I
    pub place : ℕ
    pub running : IsRunning shows size gate
    pub there : place < length gate.seats
    pub allowed : IsAllowed shows (bounds size) gate (event place)
    pub seat_is : seat_at gate place ≡ seat
    pub is : after ≡ view.Reader size (seat_at (step (bounds size) gate (event place)) place)
    pub finds : Finds gate (event place) number

  told_of : (size own : Size) (seat : Seat M I) (event : ℕ → Event M I) (before after : View M I) (number : ℕ) → before ≡ view.Reader size seat
      → own ≡ size → ReaderIsTold shows own event before after number → IsToldOf size seat event number after
  told_of size own seat event before after number is same told =
      let here : ReaderIsTold shows size event before after number = subst (λ z. ReaderIsTold shows z event before after number) same told in record {
        gate = here.gate;
        place = here.seat;
        running = here.running;
        there = here.there;
        allowed = here.allowed;
        seat_is = ap seat_shown (sym here.was ∙ is);
        is = here.is;
        finds = here.finds;
      }

  pub play_tells : (size : Size) (seat : Seat M I) (event : ℕ → Event M I) (me after : Me ℕ (View M I)) (number : ℕ) → me ≡ (view.Reader size seat, [])
      → ReaderPlays shows event me number after → (after.1 ≡ []) × IsToldOf size seat event number after.0
  play_tells size seat event me after number is play = (
    play.slots ∙ ap (λ (m : Me ℕ (View M I)). m.1) is,
    told_of size play.size seat event me.0 after.0 number (ap (λ (m : Me ℕ (View M I)). m.0) is)
        (ap (size_shown size) (sym play.told.was ∙ ap (λ (m : Me ℕ (View M I)). m.0) is)) play.told,
  )

  -- ---- looks

  pub record LookIs (size : Size) (seat : Seat M I) (number : ℕ) (after : View M I) : Type 0 where
    pub near : number % 2 ^ 32 < size.entries → after ≡ view.Reader size (record seat { stage = Near })
    pub worn : size.entries ≤ number % 2 ^ 32 → (next : Seat M I) × ((after ≡ view.Reader size next) × (next.stage ≡ seat.stage)
        × IsWornLook size.entries seat next (number % 2 ^ 32))

  pub look_is : (size : Size) (seat : Seat M I) (number : ℕ) (after : View M I) → IsToldOf size seat Look number after → LookIs size seat number after
  look_is size seat number after told = go (nat_lt told.gate.entries size.entries) refl
    where
      gate : Gate M I
      gate = told.gate

      entries_are : number % 2 ^ 32 ≡ gate.entries
      entries_are = ap (λ n. n % 2 ^ 32) told.finds ∙ (laws.counts (bounds size) told.running.in_range told.running.empty gate told.running.reached).low_half

      seen : IsPrefix seat.history gate.author.history
      seen = subst (λ (s : Seat M I). IsPrefix s.history gate.author.history) told.seat_is
          ((laws.sound (bounds size) told.running.in_range told.running.empty gate told.running.reached).histories_and_counts.prefixes.of_a_seat told.place)

      after_is : after ≡ view.Reader size (after_look (bounds size) gate.author.history gate.entries seat)
      after_is = told.is ∙ (ap (view.Reader size)
          (get_or-set_same gate.seats told.place (after_look (bounds size) gate.author.history gate.entries (seat_at gate told.place)) spent told.there)
          ∙ ap (λ s. view.Reader size (after_look (bounds size) gate.author.history gate.entries s)) told.seat_is)

      near_seat : Seat M I
      near_seat = record seat { stage = Near }

      worn_seat : ℕ → Seat M I
      worn_seat entries = record seat { history = gate.author.history; worn = seat.worn ++ (length gate.author.history, entries) ∷ [] }

      go : (below : Bool) → nat_lt gate.entries size.entries ≡ below → LookIs size seat number after
      go true e = record {
        near = λ less. after_is ∙ ap (λ b. view.Reader size (cond b near_seat (worn_seat gate.entries))) e;
        worn = λ reached. let less = ltb-true gate.entries size.entries e in absurd (omega (arith, entries_are, less, reached));
      }
      go false e = record {
        near = λ less. let reached = ltb-false gate.entries size.entries e in absurd (omega (arith, entries_are, less, reached));
        worn = λ reached. (
          worn_seat (number % 2 ^ 32),
          (
            after_is ∙ (ap (λ b. view.Reader size (cond b near_seat (worn_seat gate.entries))) e ∙ ap (λ n. view.Reader size (worn_seat n)) (sym entries_are)),
            refl,
            record { at_the_limit = reached; seen = seen; is = refl },
          ),
        );
      }

  -- ---- enters

  pub record EnterIs (size : Size) (seat : Seat M I) (number : ℕ) (after : View M I) : Type 0 where
    pub next : Seat M I
    pub root : ℕ
    pub frozen : Frozen
    pub is : after ≡ view.Reader size next
    pub inside : next.stage ≡ In root frozen
    pub root_is : number / 2 ^ 32 ≡ root
    pub in_bounds : (root < size.readers + 2) × ((page : ℕ) → Reaches (pages_of frozen.words) frozen.top page → page < size.pages)
    pub entered : HasEntered shows seat next

  pub enter_is : (size : Size) (seat : Seat M I) (number : ℕ) (after : View M I) → IsToldOf size seat Enter number after → EnterIs size seat number after
  enter_is size seat number after told = record {
    next = after_enter gate.author seat;
    root = gate.author.current;
    frozen = frozen_now gate.author;
    is = told.is ∙ (ap (view.Reader size)
        (get_or-set_same gate.seats told.place (after_enter gate.author (seat_at gate told.place)) spent told.there)
        ∙ ap (λ s. view.Reader size (after_enter gate.author s)) told.seat_is);
    inside = refl;
    root_is = ap (λ n. n / 2 ^ 32) told.finds ∙ (laws.counts (bounds size) told.running.in_range told.running.empty gate told.running.reached).high_half;
    in_bounds = (below, sound.pages_show_versions.reach_is_in_bounds gate.author.current live);
    entered = record {
      root = gate.author.current;
      frozen = frozen_now gate.author;
      seen = subst (λ (s : Seat M I). IsPrefix s.history gate.author.history) told.seat_is (sound.histories_and_counts.prefixes.of_a_seat told.place);
      version_is = sound.pages_show_versions.current_version;
      words_show = subst (shows (reading (pages_of gate.author.words) (root_at gate.author gate.author.current).top))
          (ap (λ n. take n gate.author.history) sound.pages_show_versions.current_version ∙ take-length gate.author.history)
          (sound.pages_show_versions.each_shows_its_version gate.author.current live);
      is = refl;
    };
  }
    where
      gate : Gate M I
      gate = told.gate

      sound : IsSound shows (bounds size) gate
      sound = laws.sound (bounds size) told.running.in_range told.running.empty gate told.running.reached

      live : IsLive (root_at gate.author gate.author.current).standing
      live = now_is_live (root_at gate.author gate.author.current).standing sound.one_root_is_current.named

      below : gate.author.current < size.readers + 2
      below = omega (arith, live_is_there gate.author.roots gate.author.current live, sound.has_its_sizes.roots)

  -- ---- reads and leaves

  pub read_is : (size : Size) (seat : Seat M I) (word : ReadWord) (number : ℕ) (after : View M I) → IsToldOf size seat (λ k. Read k word) number after
      → (after ≡ view.Reader size seat) × (number ≡ frozen_at word seat.stage)
  read_is size seat word number after told =
      (told.is ∙ ap (view.Reader size) told.seat_is, told.finds ∙ ap (λ (s : Seat M I). frozen_at word s.stage) told.seat_is)

  pub leave_is : (size : Size) (seat : Seat M I) (root : ℕ) (frozen : Frozen) (number : ℕ) (after : View M I) → seat.stage ≡ In root frozen
      → IsToldOf size seat Leave number after → after ≡ view.Reader size (record seat { stage = Out })
  leave_is size seat root frozen number after inside told =
      told.is ∙ (ap (λ t. view.Reader size (seat_at (after_leave told.gate told.place t) told.place))
      (ap (λ (s : Seat M I). s.stage) told.seat_is ∙ inside)
      ∙ (ap (view.Reader size) (get_or-set_same told.gate.seats told.place (record (seat_at told.gate told.place) { stage = Out }) spent told.there)
      ∙ ap (λ (s : Seat M I). view.Reader size (record s { stage = Out })) told.seat_is))

  -- the page and the place are those of the word
  pub page_is : (size : Size) (seat : Seat M I) (at : Step ℕ) (page place : ℕ) (me after : Me ℕ (View M I)) (number : ℕ) → me ≡ (view.Reader size seat, [])
      → at.word ≡ page_word (bounds size) page place → place < page_words → PageRead shows at me number after
      → (after.1 ≡ []) × (after.0 ≡ view.Reader size seat) × (number ≡ frozen_at (Page page place) seat.stage)
  page_is size seat at page place me after number is word below play =
      let own : play.size ≡ size = ap (size_shown size) (sym play.told.was ∙ ap (λ (m : Me ℕ (View M I)). m.0) is) in
      let readers : play.size.readers ≡ size.readers = ap (λ (z : Size). z.readers) own in
      let same : 1 + 3 * (size.readers + 2) + (page_words * play.page + play.place) ≡ 1 + 3 * (size.readers + 2) + (page_words * page + place) =
      ap (λ n. 1 + 3 * (n + 2) + (page_words * play.page + play.place)) (sym readers) ∙ (sym play.word_is ∙ word) in
      let in_page : play.place < page_words = play.in_page in
      let page_same : play.page ≡ page = omega (arith, same, in_page, below) in
      let place_same : play.place ≡ place = omega (arith, same, page_same) in
      let told = told_of size play.size seat (λ k. Read k (Page play.page play.place)) me.0 after.0 number (ap (λ (m : Me ℕ (View M I)). m.0) is) own play.told in
      let read = read_is size seat (Page play.page play.place) number after.0 told in (
        play.slots ∙ ap (λ (m : Me ℕ (View M I)). m.1) is,
        read.0,
        read.1 ∙ (λ i. frozen_at (Page (page_same i) (place_same i)) seat.stage),
      )

  -- the same of a page that the reader may read
  pub page_shown : (size : Size) (seat : Seat M I) (at : Step ℕ) (page place : ℕ) (me after : Me ℕ (View M I)) (number : ℕ) → me ≡ (view.Reader size seat, [])
      → at.word ≡ 1 + 3 * (size.readers + 2) + (page_words * page + place) → IsFrozenWord (Page page place) seat.stage → PageRead shows at me number after
      → (after.1 ≡ []) × (after.0 ≡ view.Reader size seat) × (number ≡ frozen_at (Page page place) seat.stage)
  page_shown size seat at page place me after number is word reads = page_is size seat at page place me after number is word (in_page seat.stage reads)
    where
      in_page : (stage : Stage) → IsFrozenWord (Page page place) stage → place < page_words
      in_page (In root frozen) reads = reads.1
      in_page Out reads = absurd reads
      in_page Near reads = absurd reads
      in_page Note reads = absurd reads
      in_page Spent reads = absurd reads

  -- what a reader is told after a note was given back to it: both histories are prefixes
  pub heard_is : (size : Size) (seat : Seat M I) (number : ℕ) (after : View M I) → IsToldOf size seat (λ k. Tell (holder.Reader k)) number after
      → (after ≡ view.Reader size seat) × BothArePrefixes seat.joined seat.history
  heard_is size seat number after told = (
    told.is ∙ ap (view.Reader size) told.seat_is,
    subst (λ (s : Seat M I). BothArePrefixes s.joined s.history) told.seat_is
        ((laws.sound (bounds size) told.running.in_range told.running.empty told.gate told.running.reached).histories_and_counts.prefixes.joined_by_a_seat told.place),
  )

  -- what is kept of a seat that is in bounds and whose root the code knows
  pub record IsKept (size : Size) (root : ℕ) (after : Me ℕ (View M I)) : Type 0 where
    pub no_slot : after.1 ≡ []
    pub reader : IsReaderOf size after.0
    pub inside : root_or root (seat_shown after.0).stage ≡ root
    pub in_bounds : IsInBounds size.readers size.pages (seat_shown after.0).stage
    pub reads : is_reading (seat_shown after.0).stage ≡ true

  pub kept : (size : Size) (root : ℕ) (after : Me ℕ (View M I)) (next : Seat M I) → after.1 ≡ [] → after.0 ≡ view.Reader size next
      → root_or root next.stage ≡ root → IsInBounds size.readers size.pages next.stage → is_reading next.stage ≡ true → IsKept size root after
  kept size root after next none is inside bounded reads =
      let stage : next.stage ≡ (seat_shown after.0).stage = sym (ap (λ (v : View M I). (seat_shown v).stage) is) in record {
        no_slot = none;
        reader = reader_of size after.0 next is;
        inside = subst (λ t. root_or root t ≡ root) stage inside;
        in_bounds = subst (IsInBounds size.readers size.pages) stage bounded;
        reads = subst (λ t. is_reading t ≡ true) stage reads;
      }

  pub kept_by_look : (size : Size) (root : ℕ) (seat : Seat M I) (number : ℕ) (after : Me ℕ (View M I)) → after.1 ≡ [] → seat.stage ≡ Out
      → LookIs size seat number after.0 → IsKept size root after
  kept_by_look size root seat number after none out is = go (nat_lt (number % 2 ^ 32) size.entries) refl
    where
      go : (below : Bool) → nat_lt (number % 2 ^ 32) size.entries ≡ below → IsKept size root after
      go true e = kept size root after (record seat { stage = Near }) none (is.near (ltb-true (number % 2 ^ 32) size.entries e)) refl
          (near_in_bounds size.readers size.pages) refl
      go false e = let worn = is.worn (ltb-false (number % 2 ^ 32) size.entries e) in
          let stage : worn.0.stage ≡ Out = worn.1.1 ∙ out in
          kept size root after worn.0 none worn.1.0 (ap (root_or root) stage) (subst (IsInBounds size.readers size.pages) (sym stage) (outside_in_bounds size.readers size.pages))
          (ap is_reading stage)

  pub kept_by_enter : (size : Size) (root : ℕ) (seat : Seat M I) (number : ℕ) (after : Me ℕ (View M I)) → after.1 ≡ [] → number / 2 ^ 32 ≡ root
      → EnterIs size seat number after.0 → IsKept size root after
  kept_by_enter size root seat number after none same is = kept size root after is.next none is.is
      (ap (root_or root) is.inside ∙ (sym is.root_is ∙ same))
      (subst (IsInBounds size.readers size.pages) (sym is.inside) (λ other frozen e.
      let root_same : is.root ≡ other = ap root_of e in
      let frozen_same : is.frozen ≡ frozen = ap (frozen_of is.frozen) e in (
        subst (λ r. r < size.readers + 2) root_same is.in_bounds.0,
        subst (λ (f : Frozen). (page : ℕ) → Reaches (pages_of f.words) f.top page → page < size.pages) frozen_same is.in_bounds.1,
      )))
      (ap is_reading is.inside)

-- the root that the code knows is the one that the reader is inside
pub root_known : (own root : ℕ) (frozen : Frozen) (stage : Stage) → stage ≡ In root frozen → root_or own stage ≡ own → stage ≡ In own frozen
root_known own root frozen stage is inside = is ∙ ap (λ r. In r frozen) (sym (ap (root_or own) is) ∙ inside)

-- a reader that is inside, as the code knows it
pub record IsInsideAt (readers pages own : ℕ) (stage : Stage) : Type 0 where
  pub frozen : Frozen
  pub is : stage ≡ In own frozen
  pub below : own < readers + 2
  pub pages_below : (page : ℕ) → Reaches (pages_of frozen.words) frozen.top page → page < pages

pub inside_at : (readers pages own : ℕ) (stage : Stage) → IsInside stage → root_or own stage ≡ own → IsInBounds readers pages stage → IsInsideAt readers pages own stage
inside_at readers pages own stage inside same bounded =
    let at = inside_is stage inside in
    let is = root_known own at.0 at.1 stage at.2 same in
    record { frozen = at.1; is = is; below = (bounded own at.1 is).0; pages_below = (bounded own at.1 is).1 }

-- who reads a frozen word is inside
pub reads_inside : (word : ReadWord) (stage : Stage) → IsFrozenWord word stage → IsInside stage
reads_inside word (In root frozen) reads = tt
reads_inside word Out reads = absurd reads
reads_inside word Near reads = absurd reads
reads_inside word Note reads = absurd reads
reads_inside word Spent reads = absurd reads

-- the page that a reader reads is below the pages, and the place below those of a page
pub page_below : (pages page at root : ℕ) (frozen : Frozen) (stage : Stage) → stage ≡ In root frozen
    → ((p : ℕ) → Reaches (pages_of frozen.words) frozen.top p → p < pages) → IsFrozenWord (Page page at) stage → (page < pages) × (at < page_words)
page_below pages page at root frozen stage is bounded reads =
    let here : IsFrozenWord (Page page at) (In root frozen) = subst (IsFrozenWord (Page page at)) is reads in (bounded page here.0, here.1)

-- the top page is below the pages
pub top_below : (pages root : ℕ) (frozen : Frozen) (stage : Stage) → stage ≡ In root frozen
    → ((p : ℕ) → Reaches (pages_of frozen.words) frozen.top p → p < pages) → frozen_at Top stage < pages
top_below pages root frozen stage is bounded = subst (λ t. frozen_at Top t < pages) (sym is) (bounded frozen.top (inl refl))

-- a stage by its test
pub reading_is : (stage : Stage) → is_reading stage ≡ true → IsReader stage
reading_is Out is = tt
reading_is Near is = tt
reading_is (In root frozen) is = tt
reading_is Note is = absurd (true≢false (sym is))
reading_is Spent is = absurd (true≢false (sym is))

pub note_is : (stage : Stage) → is_note stage ≡ true → stage ≡ Note
note_is Note is = refl
note_is Out is = absurd (true≢false (sym is))
note_is Near is = absurd (true≢false (sym is))
note_is (In root frozen) is = absurd (true≢false (sym is))
note_is Spent is = absurd (true≢false (sym is))
