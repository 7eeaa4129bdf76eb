-- What the author's step makes of its record.
use Rattle.std.proofs.Common.{◌≡◌, ℕ, ◌<◌, ◌≤◌, ◌+◌, ◌*◌, ◌/◌, ◌%◌, ◌^◌, List, [], length, sym, ap, subst, ◌∙◌, arith}
use mathlib.Core.List.{IsPrefix}
use Rattle.atomic_table.specs.Table.{Step, Me}
use Rattle.dt_pages.specs.Reading.{Reading, page_words}
use Rattle.dt_gate.specs.declared.event.Event.{Event}
use Rattle.dt_gate.specs.declared.event.Event.TheVariants.{Fill, Lay, Publish, Poll, Tell}
use Rattle.dt_gate.specs.declared.event.Holder.TheVariants as holder
use Rattle.dt_gate.specs.declared.event.RecordWord.{RecordWord}
use Rattle.dt_gate.specs.declared.event.RecordWord.TheVariants.{Exits, Version, Top}
use Rattle.dt_gate.specs.declared.gate.Author.{Author}
use Rattle.dt_gate.specs.declared.gate.Gate.{Gate}
use Rattle.dt_gate.specs.declared.gate.Seat.{Seat}
use Rattle.dt_gate.specs.declared.gate.Standing.{Standing}
use Rattle.dt_gate.specs.declared.gate.Standing.TheVariants.{Free, Now, Old}
use Rattle.dt_gate.specs.Gate.{IsLive, IsOld, root_at, exits_at}
use Rattle.dt_gate.specs.Author.{after_fill, after_lay, after_publish, after_poll, after_hear, after_seat_back}
use Rattle.dt_gate.specs.Events.{IsAllowed, step}
use Rattle.dt_gate.specs.Sound.{BothArePrefixes, WornWasTaken}
use Rattle.dt_gate.specs.Sweeps.{AllOldAreHeld, LeavesRoom}
use Rattle.dt_gate.specs.Words.{record_word, page_word, packed, Finds}
use Rattle.dt_gate.specs.AllBounds.{LawsOfRuns}
use Rattle.dt_version.specs.declared.view.Size.{Size}
use Rattle.dt_version.specs.declared.view.View.{View}
use Rattle.dt_version.specs.declared.view.View.TheVariants as view
use Rattle.dt_version.specs.Limits.{bounds}
use Rattle.dt_version.specs.Views.{author_shown, size_shown, with_history_of, IsAuthorOf}
use Rattle.dt_version.specs.Rule.{IsRunning}
use Rattle.dt_version.specs.Told.{AuthorIsTold, Filled, LaidWord, Published, Polled, AuthorHeard}
use Rattle.dt_version.specs.AuthorCalls.{IsPoll}
use Rattle.dt_version.proofs.Lists.{longer_whole}
use Rattle.dt_version.proofs.Steps.{runs_on}
use Rattle.dt_version.proofs.AuthorSteps.{author_is_of}
use Rattle.dt_version.proofs.Calls.{live_is_there}

old_is_live : (standing : Standing) → IsOld standing → IsLive standing
old_is_live (Old entries) old = tt
old_is_live Free old = absurd old
old_is_live Now old = absurd old

module _ {M I : Type 0} (shows : Reading → List I → Type 0) (laws : LawsOfRuns M shows) where
  -- what the author's play tells of the record that it is of
  pub record IsToldOfAuthor (size : Size) (author : Author M I) (event : Event M I) (number : ℕ) (after : View M I) : Type 0 where
    pub gate : Gate M I
    pub running : IsRunning shows size gate
    pub allowed : IsAllowed shows (bounds size) gate event
    pub author_is : gate.author ≡ author
    pub is : after ≡ view.Author size (step (bounds size) gate event).author
    pub finds : Finds gate event number

  pub told_of_author : (size own : Size) (author : Author M I) (event : Event M I) (me after : Me ℕ (View M I)) (number : ℕ) → me ≡ (view.Author size author, [])
      → AuthorIsTold shows own event me.0 after.0 number → IsToldOfAuthor size author event number after.0
  told_of_author size own author event me after number is told =
      let before : me.0 ≡ view.Author size author = ap (λ (m : Me ℕ (View M I)). m.0) is in
      let same : own ≡ size = ap (size_shown size) (sym told.was ∙ before) in
      let here : AuthorIsTold shows size event me.0 after.0 number = subst (λ z. AuthorIsTold shows z event me.0 after.0 number) same told in record {
        gate = here.gate;
        running = here.running;
        allowed = here.allowed;
        author_is = ap author_shown (sym here.was ∙ before);
        is = here.is;
        finds = here.finds;
      }

  -- the view after, and what is kept of it
  pub record AuthorIsKept (size : Size) (next : Author M I) (after : Me ℕ (View M I)) : Type 0 where
    pub no_slot : after.1 ≡ []
    pub is : author_shown after.0 ≡ next
    pub author : IsAuthorOf size after.0
    pub sized : length (author_shown after.0).roots ≡ size.readers + 2

  pub author_kept : (size : Size) (author next : Author M I) (event : Event M I) (number : ℕ) (me after : Me ℕ (View M I)) → me ≡ (view.Author size author, [])
      → after.1 ≡ me.1 → (told : IsToldOfAuthor size author event number after.0) → (step (bounds size) told.gate event).author ≡ next → AuthorIsKept size next after
  author_kept size author next event number me after is slots told next_is =
      let running = runs_on shows laws size told.gate event told.running told.allowed in
      let sound = laws.sound (bounds size) running.in_range running.empty (step (bounds size) told.gate event) running.reached in record {
        no_slot = slots ∙ ap (λ (m : Me ℕ (View M I)). m.1) is;
        is = ap author_shown told.is ∙ next_is;
        author = author_is_of size after.0 (step (bounds size) told.gate event).author told.is;
        sized = subst (λ (v : View M I). length (author_shown v).roots ≡ size.readers + 2) (sym told.is) sound.has_its_sizes.roots;
      }

  pub fill_is : (size : Size) (author : Author M I) (at : Step ℕ) (page place word : ℕ) (me after : Me ℕ (View M I)) (number : ℕ) → me ≡ (view.Author size author, [])
      → at.word ≡ page_word (bounds size) page place → at.first ≡ word → place < page_words → Filled shows at me number after
      → AuthorIsKept size (after_fill author page place word) after
  fill_is size author at page place word me after number is word_is value_is below play =
      let told = told_of_author size play.size author (Fill play.page play.place at.first) me after number is play.told in
      let own : play.size ≡ size = ap (size_shown size) (sym play.told.was ∙ ap (λ (m : Me ℕ (View M I)). m.0) is) in
      let readers : play.size.readers ≡ size.readers = ap (λ (z : Size). z.readers) own in
      let same : 1 + 3 * (size.readers + 2) + (page_words * play.page + play.place) ≡ 1 + 3 * (size.readers + 2) + (page_words * page + place) =
      ap (λ n. 1 + 3 * (n + 2) + (page_words * play.page + play.place)) (sym readers) ∙ (sym play.word_is ∙ word_is) in
      let in_page : play.place < page_words = play.in_page in
      let page_same : play.page ≡ page = omega (arith, same, in_page, below) in
      let place_same : play.place ≡ place = omega (arith, same, page_same) in
      author_kept size author (after_fill author page place word) (Fill play.page play.place at.first) number me after is play.slots told
      (λ i. after_fill (told.author_is i) (page_same i) (place_same i) (value_is i))

  pub lay_is : (size : Size) (author : Author M I) (at : Step ℕ) (root : ℕ) (word : RecordWord) (value : ℕ) (me after : Me ℕ (View M I)) (number : ℕ) → me ≡ (view.Author size author, [])
      → at.word ≡ record_word root word → at.first ≡ value → LaidWord word shows at me number after
      → AuthorIsKept size (after_lay author root word value) after
  lay_is size author at root word value me after number is word_is value_is play =
      let told = told_of_author size play.size author (Lay play.root word at.first) me after number is play.told in
      let same : play.root ≡ root = one_record play.root root word (sym play.word_is ∙ word_is) in
      author_kept size author (after_lay author root word value) (Lay play.root word at.first) number me after is play.slots told
      (λ i. after_lay (told.author_is i) (same i) word (value_is i))
    where
      one_record : (a b : ℕ) (w : RecordWord) → record_word a w ≡ record_word b w → a ≡ b
      one_record a b Exits e = omega (arith, e)
      one_record a b Version e = omega (arith, e)
      one_record a b Top e = omega (arith, e)

  pub record PublishIs (size : Size) (author : Author M I) (root : ℕ) (item : I) (number : ℕ) (after : Me ℕ (View M I)) : Type 0 where
    pub kept : AuthorIsKept size (after_publish author root item (number % 2 ^ 32)) after
    pub root_is : number / 2 ^ 32 ≡ author.current
    pub root_fits : number / 2 ^ 32 < 2 ^ 16
    pub entries : number % 2 ^ 32 ≤ size.entries + size.readers

  pub publish_is : (size : Size) (author : Author M I) (at : Step ℕ) (root : ℕ) (item : I) (me after : Me ℕ (View M I)) (number : ℕ) → me ≡ (view.Author size author, [])
      → at.first ≡ packed root 0 → Published item shows at me number after → PublishIs size author root item number after
  publish_is size author at root item me after number is value_is play =
      let told = told_of_author size play.size author (Publish play.root item) me after number is play.told in
      let e : packed play.root 0 ≡ packed root 0 = sym play.value_is ∙ value_is in
      let same : play.root ≡ root = omega (arith, e) in
      let counts = laws.counts (bounds size) told.running.in_range told.running.empty told.gate told.running.reached in
      let sound = laws.sound (bounds size) told.running.in_range told.running.empty told.gate told.running.reached in
      let entries_are : number % 2 ^ 32 ≡ told.gate.entries = ap (λ n. n % 2 ^ 32) told.finds ∙ counts.low_half in
      let root_is : number / 2 ^ 32 ≡ told.gate.author.current = ap (λ n. n / 2 ^ 32) told.finds ∙ counts.high_half in
      let below : told.gate.author.current < length told.gate.author.roots = live_is_there told.gate.author.roots told.gate.author.current
      (subst IsLive (sym sound.one_root_is_current.named) tt) in
      let roots : length told.gate.author.roots ≡ size.readers + 2 = sound.has_its_sizes.roots in
      let readers : size.readers ≤ 256 = told.running.in_range.readers in
      let bound = sound.counts_are_bounded.entries in record {
        kept = author_kept size author (after_publish author root item (number % 2 ^ 32)) (Publish play.root item) number me after is play.slots told
            (λ i. after_publish (told.author_is i) (same i) item (sym entries_are i));
        root_is = root_is ∙ ap (λ (a : Author M I). a.current) told.author_is;
        root_fits = omega (arith, root_is, below, roots, readers);
        entries = omega (arith, entries_are, bound);
      }

  pub record PollIs (size : Size) (author : Author M I) (root : ℕ) (number : ℕ) (after : Me ℕ (View M I)) : Type 0 where
    pub kept : AuthorIsKept size (after_poll author root number) after
    pub fits : number < 2 ^ 32
    pub room : AllOldAreHeld (author_shown after.0) → LeavesRoom (bounds size) (author_shown after.0)
    pub bounds : IsPoll size.readers root author (author_shown after.0) number

  pub poll_is : (size : Size) (author : Author M I) (at : Step ℕ) (root : ℕ) (me after : Me ℕ (View M I)) (number : ℕ) → me ≡ (view.Author size author, [])
      → at.word ≡ record_word root Exits → IsOld (root_at author root).standing → Polled shows at me number after → PollIs size author root number after
  poll_is size author at root me after number is word_is old play =
      let told = told_of_author size play.size author (Poll play.root) me after number is play.told in
      let e : record_word play.root Exits ≡ record_word root Exits = sym play.word_is ∙ word_is in
      let same : play.root ≡ root = omega (arith, e) in
      let counts = laws.counts (bounds size) told.running.in_range told.running.empty told.gate told.running.reached in
      let sound = laws.sound (bounds size) told.running.in_range told.running.empty told.gate told.running.reached in
      let running = runs_on shows laws size told.gate (Poll play.root) told.running told.allowed in
      let then = laws.sound (bounds size) running.in_range running.empty (step (bounds size) told.gate (Poll play.root)) running.reached in
      let exits_are : number ≡ exits_at told.gate root = told.finds ∙ ap (exits_at told.gate) same in
      let standing : (root_at told.gate.author root).standing ≡ (root_at author root).standing = ap (λ (a : Author M I). (root_at a root).standing) told.author_is in
      let exits : exits_at told.gate root < 2 ^ 32 = counts.exits root (old_is_live (root_at told.gate.author root).standing (subst IsOld (sym standing) old)) in
      let shown : author_shown after.0 ≡ (step (bounds size) told.gate (Poll play.root)).author = ap author_shown told.is in record {
        kept = author_kept size author (after_poll author root number) (Poll play.root) number me after is play.slots told
            (λ i. after_poll (told.author_is i) (same i) (sym told.finds i));
        fits = omega (arith, exits_are, exits);
        bounds = record {
          at_most_entries = λ entries is_old. let all = sound.entries_are_accounted_for.of_an_old_root root entries (standing ∙ is_old) in omega (arith, all, exits_are);
          held = let held = then.sweep_is_bounded.held in
              subst (λ (a : Author M I). length a.held ≤ a.sweep) (sym shown) (omega (arith, held));
          sweep = subst (λ (a : Author M I). a.sweep ≤ size.readers) (sym shown) then.sweep_is_bounded.count;
        };
        room = λ held. subst (LeavesRoom (bounds size)) (sym shown)
            (laws.room (bounds size) running.in_range running.empty (step (bounds size) told.gate (Poll play.root)) running.reached (subst AllOldAreHeld shown held));
      }

  -- what the author is told after a seat was given back: both histories are prefixes, and where no reader is out worn looks
  -- are accounted for
  pub record HearIs (size : Size) (author : Author M I) (after : Me ℕ (View M I)) : Type 0 where
    pub kept : AuthorIsKept size author after
    pub prefixes : BothArePrefixes author.joined author.history
    pub worn : WornWasTaken author

  pub hear_is : (size : Size) (author : Author M I) (at : Step ℕ) (me after : Me ℕ (View M I)) (number : ℕ) → me ≡ (view.Author size author, [])
      → AuthorHeard shows at me number after → HearIs size author after
  hear_is size author at me after number is play =
      let told = told_of_author size play.size author (Tell holder.Author) me after number is play.told in
      let sound = laws.sound (bounds size) told.running.in_range told.running.empty told.gate told.running.reached in record {
        kept = author_kept size author author (Tell holder.Author) number me after is play.slots told told.author_is;
        prefixes = subst (λ (a : Author M I). BothArePrefixes a.joined a.history) told.author_is sound.histories_and_counts.prefixes.joined_by_the_author;
        worn = subst WornWasTaken told.author_is sound.histories_and_counts.worn_taken;
      }

  -- where the author's history stayed as it was, the seat or note that came back has seen no more
  pub kept_is_heard : (author : Author M I) (history : List I) → IsPrefix history author.history
      → with_history_of author (after_hear author history) ≡ after_hear author history
  kept_is_heard author history p = λ i. record (after_hear author history) { history = sym (longer_whole author.history history p) i }

  pub kept_is_back : (author : Author M I) (seat : Seat M I) → IsPrefix seat.history author.history
      → with_history_of author (after_seat_back author seat) ≡ after_seat_back author seat
  kept_is_back author seat p = λ i. record (after_seat_back author seat) { history = sym (longer_whole author.history seat.history p) i }
