-- Each event changes the words as its one access does.
use Rattle.std.proofs.Common.{◌≡◌, ℕ, suc, ◌+◌, ◌*◌, ◌^◌, ◌<◌, List, ◌∷◌, ◌++◌, length, get_or, set, refl, sym, ap, subst, ◌∙◌, arith, length-append, length-set}
use Rattle.dt_pages.specs.Reading.{Reading, Reaches, page_words}
use Rattle.dt_pages.specs.Laws.{ReachedPagesDecide}
use Rattle.dt_gate.specs.declared.access.Access.TheVariants.{Load}
use Rattle.dt_gate.specs.declared.event.Event.{Event}
use Rattle.dt_gate.specs.declared.event.Event.TheVariants.{Look, Enter, Read, Leave, Fill, Lay, Publish, Poll, SeatOut, NoteOut, SeatBack, NoteBack, Tell}
use Rattle.dt_gate.specs.declared.event.Holder.TheVariants as holder
use Rattle.dt_gate.specs.declared.event.ReadWord.{ReadWord}
use Rattle.dt_gate.specs.declared.event.ReadWord.TheVariants as read
use Rattle.dt_gate.specs.declared.event.RecordWord.{RecordWord}
use Rattle.dt_gate.specs.declared.event.RecordWord.TheVariants.{Exits, Version, Top}
use Rattle.dt_gate.specs.declared.gate.Gate.{Gate}
use Rattle.dt_gate.specs.declared.gate.Root.{Root}
use Rattle.dt_gate.specs.declared.gate.Stage.{Stage}
use Rattle.dt_gate.specs.declared.gate.Stage.TheVariants.{Out, Near, In, Note, Spent}
use Rattle.dt_gate.specs.declared.gate.Standing.{Standing}
use Rattle.dt_gate.specs.declared.gate.Standing.TheVariants.{Free, Now, Old}
use Rattle.dt_gate.specs.Gate.{Bounds, blank_root, IsLive, IsOld, pages_of, root_at, exits_at, seat_at}
use Rattle.dt_gate.specs.Author.{MayPublish, after_poll}
use Rattle.dt_gate.specs.Seats.{IsInside, IsFrozenWord}
use Rattle.dt_gate.specs.Events.{after_leave, IsAllowed, step}
use Rattle.dt_gate.specs.Sound.{WordsAreFrozen}
use Rattle.dt_gate.specs.Readers.{word_now}
use Rattle.dt_gate.specs.Runs.{InRange}
use Rattle.dt_gate.specs.Words.{packed, record_words, record_word, page_word, read_word, word_of, found, accessed, frozen_at, read_access, leave_access, words_of, IsOneAccess, CountsFit}
use Rattle.dt_gate.proofs.Kept.{Kept}
use Rattle.dt_gate.proofs.Lists.{at_set}
use Rattle.dt_gate.proofs.Roots.{gone_root, new_root, freed_root, at_publish, poll_leads}
use Rattle.dt_gate.proofs.CountedRoots.{inside_is_live, root_has_a_place}
use Rattle.dt_gate.proofs.ReaderLaws.{read_is_frozen}
use Rattle.dt_gate.proofs.Words.{set_in_front, set_behind, get_in_front, get_behind, offset, of_record, records_length, get_record, lay_record, exits_record, IsAlike, records_alike}

old_is_live : (standing : Standing) → IsOld standing → IsLive standing
old_is_live Free old = absurd old
old_is_live Now old = absurd old
old_is_live (Old entries) old = tt

-- a load keeps the words
reads_keep : (bounds : Bounds) (words : List ℕ) (word : ReadWord) (stage : Stage) → accessed (read_access bounds word stage) words ≡ words
reads_keep bounds words word Out = refl
reads_keep bounds words word Near = refl
reads_keep bounds words word Note = refl
reads_keep bounds words word Spent = refl
reads_keep bounds words word (In root frozen) = refl

module _ {M I : Type 0} (shows : Reading → List I → Type 0) (bounds : Bounds) where
  module _ (tree : ReachedPagesDecide) (gate : Gate M I) (kept : Kept shows bounds gate) where
    as_many : length gate.exits ≡ length gate.author.roots
    as_many = omega (arith, kept.counted.exits, kept.counted.roots)

    long : length (record_words gate.exits gate.author.roots) ≡ 3 * (bounds.readers + 2)
    long = omega (arith, records_length gate.exits gate.author.roots as_many, kept.counted.roots)

    all : length (words_of gate) ≡ 1 + 3 * (bounds.readers + 2) + page_words * bounds.pages
    all = omega (arith, long, kept.shown.words, length-append (record_words gate.exits gate.author.roots) gate.author.words)

    -- where a record word lies
    at_record : (root : ℕ) (word : RecordWord) → record_word root word ≡ suc (offset word + 3 * root)
    at_record root Exits = omega arith
    at_record root Version = omega arith
    at_record root Top = omega arith

    in_records : (root : ℕ) (word : RecordWord) → root < bounds.readers + 2 → offset word + 3 * root < length (record_words gate.exits gate.author.roots)
    in_records root Exits below = omega (arith, long, below)
    in_records root Version below = omega (arith, long, below)
    in_records root Top below = omega (arith, long, below)

    record_is_there : (root : ℕ) (word : RecordWord) → root < bounds.readers + 2 → record_word root word < length (words_of gate)
    record_is_there root word below = omega (arith, at_record root word, in_records root word below, all, long)

    record_is_found : (root : ℕ) (word : RecordWord) → root < bounds.readers + 2
        → get_or (words_of gate) (record_word root word) 0 ≡ of_record (exits_at gate root) (root_at gate.author root) word
    record_is_found root word below =
        ap (λ k. get_or (words_of gate) k 0) (at_record root word)
        ∙ get_in_front (record_words gate.exits gate.author.roots) gate.author.words (offset word + 3 * root) (in_records root word below)
        ∙ get_record gate.exits gate.author.roots root word as_many (omega (arith, below, kept.counted.roots))

    record_is_set : (root : ℕ) (word : RecordWord) (value : ℕ) → root < bounds.readers + 2
        → set (words_of gate) (record_word root word) value
        ≡ packed gate.author.current gate.entries ∷ set (record_words gate.exits gate.author.roots) (offset word + 3 * root) value ++ gate.author.words
    record_is_set root word value below =
        ap (λ k. set (words_of gate) k value) (at_record root word)
        ∙ ap (λ words. packed gate.author.current gate.entries ∷ words)
        (set_in_front (record_words gate.exits gate.author.roots) gate.author.words (offset word + 3 * root) value (in_records root word below))

    -- where a page word lies
    at_page : (page at : ℕ) → page_word bounds page at ≡ suc (3 * (bounds.readers + 2) + (page_words * page + at))
    at_page page at = omega arith

    page_is_there : (page at : ℕ) → page < bounds.pages → at < page_words → page_word bounds page at < length (words_of gate)
    page_is_there page at below in_page =
        let room : page_words * page + at < page_words * bounds.pages = omega (arith, below, in_page) in
        omega (arith, all, room)

    page_is_found : (page at : ℕ) → get_or (words_of gate) (page_word bounds page at) 0 ≡ pages_of gate.author.words page at
    page_is_found page at =
        ap (λ k. get_or (words_of gate) k 0) (at_page page at)
        ∙ get_behind (record_words gate.exits gate.author.roots) gate.author.words (3 * (bounds.readers + 2)) (page_words * page + at) long

    some_word : 0 < length (words_of gate)
    some_word = omega (arith, all)

    -- what a reader inside a root reads
    read_is_one_access : (seat : ℕ) (word : ReadWord) (stage : Stage) → (seat_at gate seat).stage ≡ stage → IsFrozenWord word stage
        → (word_of (read_access bounds word stage) < length (words_of gate))
        × (found (read_access bounds word stage) (words_of gate) ≡ frozen_at word stage)
    read_is_one_access seat word Out is reads = absurd reads
    read_is_one_access seat word Near is reads = absurd reads
    read_is_one_access seat word Note is reads = absurd reads
    read_is_one_access seat word Spent is reads = absurd reads
    read_is_one_access seat word (In root frozen) is reads = (place word reads, value word reads ∙ read_is_frozen shows bounds gate seat root frozen word kept is reads)
      where
        live : IsLive (root_at gate.author root).standing
        live = inside_is_live bounds gate kept.counted seat root frozen is

        below : root < bounds.readers + 2
        below = root_has_a_place bounds gate kept.counted root live

        stay : WordsAreFrozen gate.author root frozen
        stay = (kept.shown.pages.inside_is_safe seat root frozen is).words_stay

        place : (word : ReadWord) → IsFrozenWord word (In root frozen) → read_word bounds root word < length (words_of gate)
        place read.Version reads = record_is_there root Version below
        place read.Top reads = record_is_there root Top below
        place (read.Page page at) reads = page_is_there page at
            (kept.shown.pages.reach_is_in_bounds root live page
            (subst (λ t. Reaches (pages_of gate.author.words) t page) stay.top ((tree.reach (pages_of frozen.words) (pages_of gate.author.words) frozen.top stay.pages page).0 reads.0)))
            reads.1

        value : (word : ReadWord) → IsFrozenWord word (In root frozen) → found (Load (read_word bounds root word)) (words_of gate) ≡ word_now gate.author root word
        value read.Version reads = record_is_found root Version below
        value read.Top reads = record_is_found root Top below
        value (read.Page page at) reads = page_is_found page at

    leave_is_one_access : (seat : ℕ) (stage : Stage) → (seat_at gate seat).stage ≡ stage → IsInside stage
        → (word_of (leave_access stage) < length (words_of gate)) × (words_of (after_leave gate seat stage) ≡ accessed (leave_access stage) (words_of gate))
    leave_is_one_access seat Out is inside = absurd inside
    leave_is_one_access seat Near is inside = absurd inside
    leave_is_one_access seat Note is inside = absurd inside
    leave_is_one_access seat Spent is inside = absurd inside
    leave_is_one_access seat (In root frozen) is inside = (
      record_is_there root Exits below,
      ap (λ words. packed gate.author.current gate.entries ∷ words ++ gate.author.words)
          (exits_record gate.exits gate.author.roots root (exits_at gate root + 1) as_many (omega (arith, below, kept.counted.roots)))
          ∙ sym (record_is_set root Exits (exits_at gate root + 1) below)
          ∙ ap (λ n. set (words_of gate) (record_word root Exits) (n + 1)) (sym (record_is_found root Exits below)),
    )
      where
        below : root < bounds.readers + 2
        below = root_has_a_place bounds gate kept.counted root (inside_is_live bounds gate kept.counted seat root frozen is)

    -- where the roots keep their versions and top pages, so do the words
    roots_alike : (roots : List Root) → length roots ≡ length gate.author.roots → ((x : ℕ) → IsAlike (root_at gate.author x) (get_or roots x blank_root))
        → record_words gate.exits roots ++ gate.author.words ≡ record_words gate.exits gate.author.roots ++ gate.author.words
    roots_alike roots same alike = ap (λ words. words ++ gate.author.words) (records_alike gate.exits gate.author.roots roots same alike)

    poll_keeps_words : (root : ℕ) → IsOld (root_at gate.author root).standing
        → words_of (record gate { author = after_poll gate.author root (exits_at gate root) }) ≡ words_of gate
    poll_keeps_words root old = poll_leads (λ author. words_of (record gate { author = author }) ≡ words_of gate) gate.author root (exits_at gate root) old
        (λ new entries is all_left. freed) (λ new entries is some_stay. refl) (λ on entries is all_left. freed) (λ on entries is some_stay. refl)
      where
        freed : packed gate.author.current gate.entries ∷ record_words gate.exits (set gate.author.roots root (freed_root gate.author root)) ++ gate.author.words ≡ words_of gate
        freed = ap (λ words. packed gate.author.current gate.entries ∷ words)
            (roots_alike (set gate.author.roots root (freed_root gate.author root)) (length-set gate.author.roots root (freed_root gate.author root))
            (λ x. at_set (IsAlike (root_at gate.author x)) blank_root gate.author.roots root x (freed_root gate.author root)
            (λ e. subst (λ k. IsAlike (root_at gate.author k) (freed_root gate.author root)) (sym e) (record { version = refl; top = refl }))
            (λ n. record { version = refl; top = refl }) (λ past. record { version = refl; top = refl })))

    publish_keeps_records : (root : ℕ) (item : I) → MayPublish shows bounds gate.author root item
        → words_of (step bounds gate (Publish root item)) ≡ packed root 0 ∷ record_words gate.exits gate.author.roots ++ gate.author.words
    publish_keeps_records root item may = ap (λ words. packed root 0 ∷ words)
        (roots_alike roots (length-set (set gate.author.roots gate.author.current gone) root new ∙ length-set gate.author.roots gate.author.current gone)
        (λ x. at_publish gate.author root item gate.entries (subst IsLive (sym kept.counted.one.named) tt) may.no_exit (IsAlike (root_at gate.author x)) x
        (λ e. subst (λ k. IsAlike (root_at gate.author k) new) (sym e) (record { version = refl; top = refl }))
        (λ n e. subst (λ k. IsAlike (root_at gate.author k) gone) (sym e) (record { version = refl; top = refl }))
        (λ n m. record { version = refl; top = refl })))
      where
        gone : Root
        gone = gone_root gate.author gate.entries

        new : Root
        new = new_root gate.author root

        roots : List Root
        roots = set (set gate.author.roots gate.author.current gone) root new

    pub is_one_access : (event : Event M I) → IsAllowed shows bounds gate event → IsOneAccess bounds gate event
    is_one_access (Look seat) allowed = record { is_there = some_word; changes = refl; finds = refl }
    is_one_access (Enter seat) allowed = record {
      is_there = some_word;
      changes = let sum : packed gate.author.current (gate.entries + 1) ≡ packed gate.author.current gate.entries + 1 = omega arith in
          ap (λ word. word ∷ record_words gate.exits gate.author.roots ++ gate.author.words) sum;
      finds = refl;
    }
    is_one_access (Read seat word) allowed =
        let read = read_is_one_access seat word (seat_at gate seat).stage refl allowed in
        record { is_there = read.0; changes = sym (reads_keep bounds (words_of gate) word (seat_at gate seat).stage); finds = read.1 }
    is_one_access (Leave seat) allowed =
        let left = leave_is_one_access seat (seat_at gate seat).stage refl allowed in
        record { is_there = left.0; changes = left.1; finds = tt }
    is_one_access (Fill page at word) allowed = record {
      is_there = page_is_there page at allowed.is_there allowed.in_page;
      changes = ap (λ words. packed gate.author.current gate.entries ∷ words)
          (sym (set_behind (record_words gate.exits gate.author.roots) gate.author.words (3 * (bounds.readers + 2)) (page_words * page + at) word long))
          ∙ ap (λ k. set (words_of gate) k word) (sym (at_page page at));
      finds = tt;
    }
    is_one_access (Lay root word value) allowed = record {
      is_there = record_is_there root word allowed.is_there;
      changes = ap (λ words. packed gate.author.current gate.entries ∷ words ++ gate.author.words)
          (lay_record gate.exits gate.author.roots root word value as_many (omega (arith, allowed.is_there, kept.counted.roots)))
          ∙ sym (record_is_set root word value allowed.is_there);
      finds = tt;
    }
    is_one_access (Publish root item) allowed = record { is_there = some_word; changes = publish_keeps_records root item allowed; finds = refl }
    is_one_access (Poll root) allowed =
        let below = root_has_a_place bounds gate kept.counted root (old_is_live (root_at gate.author root).standing allowed) in
        record { is_there = record_is_there root Exits below; changes = poll_keeps_words root allowed; finds = record_is_found root Exits below }
    is_one_access SeatOut allowed = record { is_there = some_word; changes = refl; finds = refl }
    is_one_access (NoteOut giver) allowed = record { is_there = some_word; changes = refl; finds = refl }
    is_one_access (SeatBack seat) allowed = record { is_there = some_word; changes = refl; finds = refl }
    is_one_access (NoteBack note holder.Author) allowed = record { is_there = some_word; changes = refl; finds = refl }
    is_one_access (NoteBack note (holder.Reader taker)) allowed = record { is_there = some_word; changes = refl; finds = refl }
    is_one_access (Tell taker) allowed = record { is_there = some_word; changes = refl; finds = refl }

  -- the counts fit in 32 bits
  pub counts_fit : InRange bounds → (gate : Gate M I) → Kept shows bounds gate → CountsFit gate
  counts_fit in_range gate kept = record {
    entries = entries;
    exits = λ root live. exits root (root_at gate.author root).standing refl live;
    root = current;
    high_half = omega (arith, entries);
    low_half = omega (arith, entries);
  }
    where
      entries : gate.entries < 2 ^ 32
      entries = omega (arith, kept.counted.bounded.entries, in_range.readers, in_range.entries)

      exits : (root : ℕ) (standing : Standing) → (root_at gate.author root).standing ≡ standing → IsLive standing → exits_at gate root < 2 ^ 32
      exits root Free is live = absurd live
      exits root Now is live = omega (arith, entries, kept.counted.accounted.of_the_current_root, ap (exits_at gate) (kept.counted.one.no_other root is))
      exits root (Old e) is live = omega (arith, kept.counted.bounded.of_an_old_root root e is, kept.counted.accounted.of_an_old_root root e is, in_range.readers, in_range.entries)

      current : gate.author.current < 2 ^ 32
      current = omega (arith, root_has_a_place bounds gate kept.counted gate.author.current (subst IsLive (sym kept.counted.one.named) tt), in_range.readers)
