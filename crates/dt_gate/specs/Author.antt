-- What the author does: where it may, and what each of its steps makes of its record.
-- `WrongMachines` has changes of one step that are not sound. A comment names each beside the step that it changes.
use Rattle.std.specs.Prelude.{◌≡◌, ◌≢◌, ℕ, ◌+◌, ◌-◌, ◌*◌, ◌<◌, Bool, ◌||◌, ◌==◌, nat_lt, if◌then◌else◌, List, [], ◌∷◌, ◌++◌, length, slice_set, Some}
use Rattle.dt_pages.specs.Reading.{Reading, reading, Reaches, page_words}
use Rattle.dt_gate.specs.declared.event.RecordWord.{RecordWord}
use Rattle.dt_gate.specs.declared.event.RecordWord.TheVariants.{Exits, Version, Top}
use Rattle.dt_gate.specs.declared.gate.Author.{Author}
use Rattle.dt_gate.specs.declared.gate.Root.{Root}
use Rattle.dt_gate.specs.declared.gate.Seat.{Seat}
use Rattle.dt_gate.specs.declared.gate.Standing.{Standing}
use Rattle.dt_gate.specs.declared.gate.Standing.TheVariants.{Free, Now, Old}
use Rattle.dt_gate.specs.Gate.{Bounds, pages_of, nothing_laid, IsLive, stands_in, root_at}

-- the root with a word laid; of the exits the author keeps only what it laid
abbrev pub with_word : Root → RecordWord → ℕ → Root
with_word root Exits value = record root { laid = record root.laid { exits = Some value } }
with_word root Version value = record root { version = value; laid = record root.laid { version = Some value } }
with_word root Top value = record root { top = value; laid = record root.laid { top = Some value } }

-- the longer of two histories
abbrev pub longer : {I : Type 0} → List I → List I → List I
longer mine other = if nat_lt (length mine) (length other) then other else mine

module _ {M I : Type 0} where
  -- the author with one root changed
  abbrev pub with_root : Author M I → ℕ → Root → Author M I
  with_root author root changed = record author { roots = slice_set author.roots root changed }

  -- a page word may be filled: it is of a page other than page 0 that is there and that no live root reaches
  -- (changed: `IsAllowedAnywhere` leaves the last of these out)
  pub record MayFill (bounds : Bounds) (author : Author M I) (page at : ℕ) : Type 0 where
    pub not_page_zero : page ≢ 0
    pub is_there : page < bounds.pages
    pub in_page : at < page_words
    pub not_reached : (root : ℕ) → IsLive (root_at author root).standing
        → ¬ Reaches (pages_of author.words) (root_at author root).top page

  -- a fill: that word is another
  abbrev pub after_fill : Author M I → ℕ → ℕ → ℕ → Author M I
  after_fill author page at word = record author { words = slice_set author.words (page_words * page + at) word }

  -- a root may be laid: it is there, and free
  pub record MayLay (bounds : Bounds) (author : Author M I) (root : ℕ) : Type 0 where
    pub is_there : root < bounds.readers + 2
    pub is_free : (root_at author root).standing ≡ Free

  -- a lay: that record word is another, and kept as laid
  abbrev pub after_lay : Author M I → ℕ → RecordWord → ℕ → Author M I
  after_lay author root word value = with_root author root (with_word (root_at author root) word value)

  -- a publish may come: the root is free, and laid with no exit, the next version,
  -- and a top page that shows the history with the item and reaches only pages that there are
  pub record MayPublish (shows : Reading → List I → Type 0) (bounds : Bounds) (author : Author M I)
      (root : ℕ) (item : I) : Type 0 where
    pub is_free : (root_at author root).standing ≡ Free
    pub no_exit : (root_at author root).laid.exits ≡ Some 0
    pub next_version : (root_at author root).laid.version ≡ Some (length author.history + 1)
    pub top : ℕ
    pub top_is_laid : (root_at author root).laid.top ≡ Some top
    pub top_shows : shows (reading (pages_of author.words) top) (author.history ++ item ∷ [])
    pub in_bounds : (page : ℕ) → Reaches (pages_of author.words) top page → page < bounds.pages

  -- a publish that found so many entries: the current root is old, with these;
  -- this root is current, and what was laid in it is no longer kept as laid
  -- (changed: `publish_that_frees` frees the current root at once;
  -- `publish_by_store` keeps a count that was loaded before)
  abbrev pub after_publish : Author M I → ℕ → I → ℕ → Author M I
  after_publish author root item entries = record author {
    current = root;
    roots = slice_set
        (slice_set author.roots author.current (record (root_at author author.current) { standing = Old entries }))
        root (record (root_at author root) { standing = Now; laid = nothing_laid });
    history = author.history ++ item ∷ [];
    held = [];
    sweep = author.out;
  }

  -- a new sweep begins: nothing was found held, or this root was already
  abbrev pub is_new_sweep : Author M I → ℕ → Bool
  is_new_sweep author root = (length author.held == 0) || stands_in root author.held

  -- where a new sweep begins, nothing is found held yet, and its count is the readers out
  abbrev pub with_new_sweep : Author M I → ℕ → Author M I
  with_new_sweep author root =
      if is_new_sweep author root then record author { held = []; sweep = author.out } else author

  -- what a poll finds: the root is free where its exits are its entries, and else it is found held
  abbrev pub poll_finds : Author M I → ℕ → ℕ → Standing → Author M I
  poll_finds author root exits (Old entries) =
      if exits == entries
      then with_root author root (record (root_at author root) { standing = Free })
      else record author { held = author.held ++ root ∷ [] }
  poll_finds author root exits Free = author
  poll_finds author root exits Now = author

  -- a poll that found so many exits: they are kept, a new sweep may begin, and then the root is free or found held
  -- (changed: `poll_that_drains` stores the final entries into the exits)
  abbrev pub after_poll : Author M I → ℕ → ℕ → Author M I
  after_poll author root exits =
      let kept = record author { polls = author.polls ++ (root, exits) ∷ [] } in
      poll_finds (with_new_sweep kept root) root exits (root_at author root).standing

  -- a reader seat is given out
  abbrev pub after_seat_out : Author M I → Author M I
  after_seat_out author = record author { out = author.out + 1 }

  -- a note is given back to the author: it keeps both histories, and has the longer one
  abbrev pub after_hear : Author M I → List I → Author M I
  after_hear author history =
      record author { history = longer author.history history; joined = (author.history, history) }

  -- a reader seat is given back: the author also keeps what the seat entered, and its worn looks
  abbrev pub after_seat_back : Author M I → Seat M I → Author M I
  after_seat_back author seat = record (after_hear author seat.history) {
    taken = author.taken ++ seat.entered ∷ [];
    worn = author.worn ++ seat.worn ∷ [];
    out = author.out - 1;
  }
