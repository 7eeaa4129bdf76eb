-- Pages, versions and histories are kept by the events that change seats.
use Rattle.std.proofs.Common.{◌≡◌, ℕ, List, [], ◌∷◌, ◌++◌, get_or, set, refl, sym, ap, subst, ◌∙◌, arith}
use mathlib.Core.List.{IsPrefix}
use Rattle.dt_pages.specs.Reading.{Reading, reading, Reaches}
use Rattle.dt_pages.specs.Laws.{SamePage}
use Rattle.dt_gate.specs.declared.gate.Author.{Author}
use Rattle.dt_gate.specs.declared.gate.Gate.{Gate}
use Rattle.dt_gate.specs.declared.gate.Frozen.{Frozen}
use Rattle.dt_gate.specs.declared.gate.Seat.{Seat}
use Rattle.dt_gate.specs.declared.gate.Stage.{Stage}
use Rattle.dt_gate.specs.declared.gate.Stage.TheVariants.{Out, Near, In, Note, Spent}
use Rattle.dt_gate.specs.declared.gate.Standing.TheVariants.{Now}
use Rattle.dt_gate.specs.Gate.{Bounds, IsLive, pages_of, root_at, seat_at, spent}
use Rattle.dt_gate.specs.Author.{longer, after_hear}
use Rattle.dt_gate.specs.Seats.{frozen_now, after_enter, after_hearing}
use Rattle.dt_gate.specs.Events.{with_seat}
use Rattle.dt_gate.specs.Sound.{InsideIsSafe}
use Rattle.dt_gate.proofs.Kept.{Shown}
use Rattle.dt_gate.proofs.Lists.{at_set, at_push}
use Rattle.dt_gate.proofs.Histories.{prefix_same, prefix_empty, prefix_trans, prefix_length, take_prefix, longer_mine, longer_whole, longer_has_mine, longer_has_other}

module _ {M I : Type 0} (shows : Reading → List I → Type 0) where
  -- the words that a reader rests on are the same with another author
  pub record StaysFrozen (author other : Author M I) (root : ℕ) (frozen : Frozen) : Type 0 where
    pub version : (root_at other root).version ≡ (root_at author root).version
    pub top : (root_at other root).top ≡ (root_at author root).top
    pub pages : (page : ℕ) → Reaches (pages_of frozen.words) frozen.top page → SamePage (pages_of author.words) (pages_of other.words) page

  pub safe_still : (author other : Author M I) (seat : Seat M I) (root : ℕ) (frozen : Frozen)
      → StaysFrozen author other root frozen → InsideIsSafe shows author seat root frozen → InsideIsSafe shows other seat root frozen
  safe_still author other seat root frozen stays safe = record {
    words_stay = record {
      version = safe.words_stay.version ∙ sym stays.version;
      top = safe.words_stay.top ∙ sym stays.top;
      pages = λ page met at below. safe.words_stay.pages page met at below ∙ stays.pages page met at below;
    };
    entered_last = safe.entered_last;
    words_show = safe.words_show;
    version_is_seen = safe.version_is_seen;
  }

  -- a seat as it may stand beside the author
  pub record SeatIsShown (author : Author M I) (seat : Seat M I) : Type 0 where
    pub safe : (root : ℕ) (frozen : Frozen) → seat.stage ≡ In root frozen → InsideIsSafe shows author seat root frozen
    pub history : IsPrefix seat.history author.history
    pub joined : IsPrefix seat.joined.0 seat.history × IsPrefix seat.joined.1 seat.history

  pub seat_is_shown : (bounds : Bounds) (gate : Gate M I) → Shown shows bounds gate → (seat : ℕ) → SeatIsShown gate.author (seat_at gate seat)
  seat_is_shown bounds gate kept seat = record { safe = kept.pages.inside_is_safe seat; history = kept.prefixes.of_a_seat seat; joined = kept.prefixes.joined_by_a_seat seat }

  -- a seat that is not inside
  pub outside_is_shown : (author : Author M I) (seat : Seat M I) → ((root : ℕ) (frozen : Frozen) → ¬ (seat.stage ≡ In root frozen)) → IsPrefix seat.history author.history
      → IsPrefix seat.joined.0 seat.history × IsPrefix seat.joined.1 seat.history → SeatIsShown author seat
  outside_is_shown author seat out history joined = record { safe = λ root frozen is. absurd (out root frozen is); history = history; joined = joined }

  pub spent_is_shown : (author : Author M I) → SeatIsShown author spent
  spent_is_shown author = outside_is_shown author spent (λ root frozen is. cc) (prefix_empty author.history) (prefix_empty [], prefix_empty [])

  -- the author with what is seen here, and all else of another
  abbrev pub shown_author : Author M I → Author M I → Author M I
  shown_author author other = record other { current = author.current; roots = author.roots; words = author.words; history = author.history; joined = author.joined }

  module _ (bounds : Bounds) where
    -- the seats change, and what is not seen here
    pub shown_seats : (gate : Gate M I) (entries : ℕ) (other : Author M I) (seats : List (Seat M I)) → Shown shows bounds gate → ((seat : ℕ) → SeatIsShown gate.author (get_or seats seat spent))
        → Shown shows bounds (record gate { entries = entries; author = shown_author gate.author other; seats = seats })
    shown_seats gate entries other seats kept each = record {
      pages = record {
        page_zero_is_empty = kept.pages.page_zero_is_empty;
        current_version = kept.pages.current_version;
        version_is_published = kept.pages.version_is_published;
        versions_are_distinct = kept.pages.versions_are_distinct;
        each_shows_its_version = kept.pages.each_shows_its_version;
        reach_is_in_bounds = kept.pages.reach_is_in_bounds;
        live_is_not_laid = kept.pages.live_is_not_laid;
        laid_words_stand = kept.pages.laid_words_stand;
        inside_is_safe = λ seat root frozen is. safe_still gate.author (shown_author gate.author other) (get_or seats seat spent) root frozen
            (record { version = refl; top = refl; pages = λ page met at below. refl }) ((each seat).safe root frozen is);
      };
      prefixes = record {
        of_a_seat = λ seat. (each seat).history;
        joined_by_a_seat = λ seat. (each seat).joined;
        joined_by_the_author = kept.prefixes.joined_by_the_author;
      };
      words = kept.words;
    }

    pub shown_copy : (gate : Gate M I) (entries : ℕ) (other : Author M I) → Shown shows bounds gate
        → Shown shows bounds (record gate { entries = entries; author = shown_author gate.author other })
    shown_copy gate entries other kept = shown_seats gate entries other gate.seats kept (seat_is_shown bounds gate kept)

    pub shown_with_seat : (gate : Gate M I) (seat : ℕ) (to : Seat M I) → Shown shows bounds gate → SeatIsShown gate.author to → Shown shows bounds (with_seat gate seat to)
    shown_with_seat gate seat to kept new = shown_seats gate gate.entries gate.author (set gate.seats seat to) kept
        (λ x. at_set (SeatIsShown gate.author) spent gate.seats seat x to (λ e. new) (λ n. seat_is_shown bounds gate kept x) (λ past. seat_is_shown bounds gate kept x))

    pub shown_push : (gate : Gate M I) (new : Seat M I) → Shown shows bounds gate → SeatIsShown gate.author new → Shown shows bounds (record gate { seats = gate.seats ++ new ∷ [] })
    shown_push gate new kept is = shown_seats gate gate.entries gate.author (gate.seats ++ new ∷ []) kept
        (λ x. at_push (SeatIsShown gate.author) spent gate.seats new x is (seat_is_shown bounds gate kept x) (spent_is_shown gate.author))

    -- the author takes in a history that is a prefix of its own
    pub shown_joined : (gate : Gate M I) (history : List I) → Shown shows bounds gate → IsPrefix history gate.author.history
        → Shown shows bounds (record gate { author = after_hear gate.author history })
    shown_joined gate history kept seen = subst (λ h. Shown shows bounds (record gate { author = record gate.author { history = h; joined = (gate.author.history, history) } }))
        (sym (longer_mine gate.author.history history seen)) (record {
          pages = record {
            page_zero_is_empty = kept.pages.page_zero_is_empty;
            current_version = kept.pages.current_version;
            version_is_published = kept.pages.version_is_published;
            versions_are_distinct = kept.pages.versions_are_distinct;
            each_shows_its_version = kept.pages.each_shows_its_version;
            reach_is_in_bounds = kept.pages.reach_is_in_bounds;
            live_is_not_laid = kept.pages.live_is_not_laid;
            laid_words_stand = kept.pages.laid_words_stand;
            inside_is_safe = λ seat root frozen is. safe_still gate.author (record gate.author { joined = (gate.author.history, history) }) (seat_at gate seat) root frozen
                (record { version = refl; top = refl; pages = λ page met at below. refl }) (kept.pages.inside_is_safe seat root frozen is);
          };
          prefixes = record {
            of_a_seat = kept.prefixes.of_a_seat;
            joined_by_a_seat = kept.prefixes.joined_by_a_seat;
            joined_by_the_author = (prefix_same gate.author.history, seen);
          };
          words = kept.words;
        })

  -- a reader takes in a history; its stage stays, and it shows what it did
  pub joined_is_shown : (author : Author M I) (seat : Seat M I) (history : List I) → SeatIsShown author seat → IsPrefix history author.history
      → SeatIsShown author (after_hearing seat history)
  joined_is_shown author seat history is seen = record {
    safe = λ root frozen inside. let safe = is.safe root frozen inside in record {
      words_stay = safe.words_stay;
      entered_last = safe.entered_last;
      words_show = subst (shows (reading (pages_of frozen.words) frozen.top)) (sym (take_prefix frozen.version seat.history (longer seat.history history) has_mine safe.version_is_seen)) safe.words_show;
      version_is_seen = omega (arith, safe.version_is_seen, prefix_length seat.history (longer seat.history history) has_mine);
    };
    history = longer_whole seat.history history author.history is.history seen;
    joined = (has_mine, longer_has_other seat.history history author.history is.history seen);
  }
    where
      has_mine : IsPrefix seat.history (longer seat.history history)
      has_mine = longer_has_mine seat.history history author.history is.history seen

  -- a reader enters
  pub enter_is_shown : (bounds : Bounds) (gate : Gate M I) (seat : Seat M I) → Shown shows bounds gate → (root_at gate.author gate.author.current).standing ≡ Now → SeatIsShown gate.author seat
      → SeatIsShown gate.author (after_enter gate.author seat)
  enter_is_shown bounds gate seat kept now is = record {
    safe = λ root frozen inside. subst (λ st. stage_safe st (after_enter gate.author seat)) inside current_is_safe;
    history = prefix_same gate.author.history;
    joined = (prefix_trans seat.joined.0 seat.history gate.author.history is.joined.0 is.history, prefix_trans seat.joined.1 seat.history gate.author.history is.joined.1 is.history);
  }
    where
      live : IsLive (root_at gate.author gate.author.current).standing
      live = subst IsLive (sym now) tt

      stage_safe : Stage → Seat M I → Type 0
      stage_safe (In root frozen) seat = InsideIsSafe shows gate.author seat root frozen
      stage_safe Out seat = Unit {0}
      stage_safe Near seat = Unit {0}
      stage_safe Note seat = Unit {0}
      stage_safe Spent seat = Unit {0}

      current_is_safe : InsideIsSafe shows gate.author (after_enter gate.author seat) gate.author.current (frozen_now gate.author)
      current_is_safe = record {
        words_stay = record { version = refl; top = refl; pages = λ page met at below. refl };
        entered_last = (seat.entered, ap (λ v. seat.entered ++ v ∷ []) (sym kept.pages.current_version));
        words_show = kept.pages.each_shows_its_version gate.author.current live;
        version_is_seen = kept.pages.version_is_published gate.author.current live;
      }
