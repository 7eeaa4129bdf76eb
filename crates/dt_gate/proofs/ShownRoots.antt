-- Pages, versions and histories are kept by the events that change a root or a page.
use Rattle.std.proofs.Common.{◌≡◌, ◌≢◌, ℕ, ◌+◌, ◌*◌, ◌<◌, ◌≤◌, List, length, take, get_or, set, Option, Some, refl, sym, ap, subst, ◌∙◌, arith, get_or-set_other, get_or-set_same, length-set}
use mathlib.Core.List.{IsPrefix}
use Rattle.dt_pages.specs.Reading.{Pages, Reading, reading, Reaches, page_words}
use Rattle.dt_gate.specs.declared.event.RecordWord.{RecordWord}
use Rattle.dt_gate.specs.declared.event.RecordWord.TheVariants.{Exits, Version, Top}
use Rattle.dt_gate.specs.declared.gate.Author.{Author}
use Rattle.dt_gate.specs.declared.gate.Gate.{Gate}
use Rattle.dt_gate.specs.declared.gate.Root.{Root}
use Rattle.dt_gate.specs.declared.gate.Laid.{Laid}
use Rattle.dt_gate.specs.declared.gate.Frozen.{Frozen}
use Rattle.dt_gate.specs.declared.gate.Stage.TheVariants.{In}
use Rattle.dt_gate.specs.declared.gate.Standing.TheVariants.{Free}
use Rattle.dt_gate.specs.Gate.{Bounds, IsLive, pages_of, blank_root, nothing_laid, root_at, exits_at, seat_at}
use Rattle.dt_gate.specs.Author.{with_root, with_word, after_lay}
use Rattle.dt_gate.specs.Events.{exits_laid}
use Rattle.dt_gate.specs.Sound.{LaidWordsStand, InsideIsSafe}
use Rattle.dt_gate.proofs.Kept.{Counted, Shown}
use Rattle.dt_gate.proofs.Roots.{none_is_not_some, lay_keeps_standing, part_stays}
use Rattle.dt_gate.proofs.Lists.{at_set}
use Rattle.dt_gate.proofs.CountedRoots.{inside_is_live}
use Rattle.dt_gate.proofs.Histories.{prefix_same, prefix_trans}
use Rattle.dt_gate.proofs.ShownSeats.{StaysFrozen, safe_still}

-- a lay changes the exits of no other root, nor how many there are
pub exits_of_others : (exits : List ℕ) (root : ℕ) (word : RecordWord) (value x : ℕ) → x ≢ root → get_or (exits_laid exits root word value) x 0 ≡ get_or exits x 0
exits_of_others exits root Exits value x n = get_or-set_other exits root x value 0 n
exits_of_others exits root Version value x n = refl
exits_of_others exits root Top value x n = refl

pub exits_as_many : (exits : List ℕ) (root : ℕ) (word : RecordWord) (value : ℕ) → length (exits_laid exits root word value) ≡ length exits
exits_as_many exits root Exits value = length-set exits root value
exits_as_many exits root Version value = refl
exits_as_many exits root Top value = refl

-- nothing laid stands for any words
pub nothing_stands : (left : ℕ) (root : Root) → root.laid ≡ nothing_laid → LaidWordsStand left root
nothing_stands left root none = record {
  exits = λ word is. absurd (none_is_not_some word (sym (ap (λ (l : Laid). l.exits) none) ∙ is));
  version = λ word is. absurd (none_is_not_some word (sym (ap (λ (l : Laid). l.version) none) ∙ is));
  top = λ word is. absurd (none_is_not_some word (sym (ap (λ (l : Laid). l.top) none) ∙ is));
}

-- a root as a live one may stand over these pages beside this history
pub record RootIsShown {I : Type 0} (shows : Reading → List I → Type 0) (bounds : Bounds) (pages : Pages) (history : List I) (root : Root) : Type 0 where
  pub version : shows (reading pages root.top) (take root.version history)
  pub in_bounds : (page : ℕ) → Reaches pages root.top page → page < bounds.pages
  pub laid : root.laid ≡ nothing_laid
  pub published : root.version ≤ length history

module _ {M I : Type 0} (shows : Reading → List I → Type 0) (bounds : Bounds) where
  pub root_is_shown : (gate : Gate M I) → Shown shows bounds gate → (root : ℕ) → IsLive (root_at gate.author root).standing
      → RootIsShown shows bounds (pages_of gate.author.words) gate.author.history (root_at gate.author root)
  root_is_shown gate kept root live = record {
    version = kept.pages.each_shows_its_version root live;
    in_bounds = kept.pages.reach_is_in_bounds root live;
    laid = kept.pages.live_is_not_laid root live;
    published = kept.pages.version_is_published root live;
  }

  -- the exits, the current root, the roots, the words and the history change
  pub shown_roots : (gate : Gate M I) (exits : List ℕ) (current : ℕ) (roots : List Root) (words : List ℕ) (history : List I) → Shown shows bounds gate → IsPrefix gate.author.history history
      → length words ≡ page_words * bounds.pages
      → ((at : ℕ) → at < page_words → pages_of words 0 at ≡ 0)
      → (get_or roots current blank_root).version ≡ length history
      → ((root : ℕ) → IsLive (get_or roots root blank_root).standing → RootIsShown shows bounds (pages_of words) history (get_or roots root blank_root))
      → ((root other : ℕ) → IsLive (get_or roots root blank_root).standing → IsLive (get_or roots other blank_root).standing
      → (get_or roots root blank_root).version ≡ (get_or roots other blank_root).version → root ≡ other)
      → ((root : ℕ) → LaidWordsStand (get_or exits root 0) (get_or roots root blank_root))
      → ((seat root : ℕ) (frozen : Frozen) → (seat_at gate seat).stage ≡ In root frozen → InsideIsSafe shows gate.author (seat_at gate seat) root frozen
      → StaysFrozen shows gate.author (record gate.author { current = current; roots = roots; words = words; history = history }) root frozen)
      → Shown shows bounds (record gate { exits = exits; author = record gate.author { current = current; roots = roots; words = words; history = history } })
  shown_roots gate exits current roots words history kept more as_many zeros version each distinct laid stays = record {
    pages = record {
      page_zero_is_empty = zeros;
      current_version = version;
      version_is_published = λ root live. (each root live).published;
      versions_are_distinct = distinct;
      each_shows_its_version = λ root live. (each root live).version;
      reach_is_in_bounds = λ root live. (each root live).in_bounds;
      live_is_not_laid = λ root live. (each root live).laid;
      laid_words_stand = laid;
      inside_is_safe = λ seat root frozen is. let safe = kept.pages.inside_is_safe seat root frozen is in
          safe_still shows gate.author next (seat_at gate seat) root frozen (stays seat root frozen is safe) safe;
    };
    prefixes = record {
      of_a_seat = λ seat. prefix_trans (seat_at gate seat).history gate.author.history history (kept.prefixes.of_a_seat seat) more;
      joined_by_a_seat = kept.prefixes.joined_by_a_seat;
      joined_by_the_author = (
        prefix_trans gate.author.joined.0 gate.author.history history kept.prefixes.joined_by_the_author.0 more,
        prefix_trans gate.author.joined.1 gate.author.history history kept.prefixes.joined_by_the_author.1 more,
      );
    };
    words = as_many;
  }
    where
      next : Author M I
      next = record gate.author { current = current; roots = roots; words = words; history = history }

  -- the exits of a live root change, as at a leave
  pub shown_exits : (gate : Gate M I) (root left : ℕ) → Shown shows bounds gate → IsLive (root_at gate.author root).standing
      → Shown shows bounds (record gate { exits = set gate.exits root left })
  shown_exits gate root left kept live =
      shown_roots gate (set gate.exits root left) gate.author.current gate.author.roots gate.author.words gate.author.history kept (prefix_same gate.author.history) kept.words
      kept.pages.page_zero_is_empty kept.pages.current_version (root_is_shown gate kept) kept.pages.versions_are_distinct
      (λ x. at_set (λ n. LaidWordsStand n (root_at gate.author x)) 0 gate.exits root x left
      (λ e. nothing_stands left (root_at gate.author x) (kept.pages.live_is_not_laid x (subst (λ k. IsLive (root_at gate.author k).standing) (sym e) live)))
      (λ n. kept.pages.laid_words_stand x) (λ past. kept.pages.laid_words_stand x))
      (λ seat x frozen is safe. record { version = refl; top = refl; pages = λ page met at below. refl })

  -- a root changes that keeps its version and its top, as at a poll
  pub shown_with_root : (gate : Gate M I) (root : ℕ) (to : Root) → Shown shows bounds gate
      → to.version ≡ (root_at gate.author root).version → to.top ≡ (root_at gate.author root).top → to.laid ≡ (root_at gate.author root).laid
      → IsLive (root_at gate.author root).standing → Shown shows bounds (record gate { author = with_root gate.author root to })
  shown_with_root gate root to kept version top laid live =
      shown_roots gate gate.exits gate.author.current (set gate.author.roots root to) gate.author.words gate.author.history kept (prefix_same gate.author.history) kept.words kept.pages.page_zero_is_empty
      (at_version gate.author.current ∙ kept.pages.current_version)
      (λ x is. let was = was_live x is in record {
        version = subst (λ t. shows (reading (pages_of gate.author.words) t) (take (root_at next x).version gate.author.history)) (sym (at_top x))
            (subst (λ v. shows (reading (pages_of gate.author.words) (root_at gate.author x).top) (take v gate.author.history)) (sym (at_version x)) (kept.pages.each_shows_its_version x was));
        in_bounds = λ page. subst (λ t. Reaches (pages_of gate.author.words) t page → page < bounds.pages) (sym (at_top x)) (kept.pages.reach_is_in_bounds x was page);
        laid = at_laid x ∙ kept.pages.live_is_not_laid x was;
        published = subst (λ v. v ≤ length gate.author.history) (sym (at_version x)) (kept.pages.version_is_published x was);
      })
      (λ x y lx ly same. kept.pages.versions_are_distinct x y (was_live x lx) (was_live y ly) (sym (at_version x) ∙ same ∙ at_version y))
      (λ x. at_set (LaidWordsStand (exits_at gate x)) blank_root gate.author.roots root x to
      (λ e. nothing_stands (exits_at gate x) to (laid ∙ kept.pages.live_is_not_laid root live)) (λ n. kept.pages.laid_words_stand x) (λ past. kept.pages.laid_words_stand x))
      (λ seat x frozen is safe. record { version = at_version x; top = at_top x; pages = λ page met at below. refl })
    where
      next : Author M I
      next = with_root gate.author root to

      at_version : (x : ℕ) → (root_at next x).version ≡ (root_at gate.author x).version
      at_version = part_stays (λ (r : Root). r.version) gate.author root to version

      at_top : (x : ℕ) → (root_at next x).top ≡ (root_at gate.author x).top
      at_top = part_stays (λ (r : Root). r.top) gate.author root to top

      at_laid : (x : ℕ) → (root_at next x).laid ≡ (root_at gate.author x).laid
      at_laid = part_stays (λ (r : Root). r.laid) gate.author root to laid

      was_live : (x : ℕ) → IsLive (root_at next x).standing → IsLive (root_at gate.author x).standing
      was_live x = at_set (λ (r : Root). IsLive r.standing → IsLive (root_at gate.author x).standing) blank_root gate.author.roots root x to
          (λ e is. subst (λ k. IsLive (root_at gate.author k).standing) (sym e) live) (λ n is. is) (λ past is. is)

  -- a free root is laid
  pub shown_lay : (gate : Gate M I) (root : ℕ) (word : RecordWord) (value : ℕ) → Counted bounds gate → Shown shows bounds gate → root < bounds.readers + 2 → (root_at gate.author root).standing ≡ Free
      → Shown shows bounds (record gate { exits = exits_laid gate.exits root word value; author = after_lay gate.author root word value })
  shown_lay gate root word value counted kept below free =
      shown_roots gate (exits_laid gate.exits root word value) gate.author.current (set gate.author.roots root to) gate.author.words gate.author.history kept (prefix_same gate.author.history) kept.words
      kept.pages.page_zero_is_empty
      (ap (λ (r : Root). r.version) (still gate.author.current (subst IsLive (sym counted.one.named) tt)) ∙ kept.pages.current_version)
      (λ x is. let was = was_live x is in subst (RootIsShown shows bounds (pages_of gate.author.words) gate.author.history) (sym (still x was)) (root_is_shown gate kept x was))
      (λ x y lx ly same. kept.pages.versions_are_distinct x y (was_live x lx) (was_live y ly)
      (sym (ap (λ (r : Root). r.version) (still x (was_live x lx))) ∙ same ∙ ap (λ (r : Root). r.version) (still y (was_live y ly))))
      (λ x. at_set (LaidWordsStand (get_or (exits_laid gate.exits root word value) x 0)) blank_root gate.author.roots root x to
      (λ e. subst (λ k. LaidWordsStand (get_or (exits_laid gate.exits root word value) k 0) to) (sym e) (laid word))
      (λ n. subst (λ n. LaidWordsStand n (root_at gate.author x)) (sym (other_exits word x n)) (kept.pages.laid_words_stand x))
      (λ past. absurd (omega (arith, past, below, counted.roots))))
      (λ seat x frozen is safe. let same = still x (inside_is_live bounds gate counted seat x frozen is) in
      record { version = ap (λ (r : Root). r.version) same; top = ap (λ (r : Root). r.top) same; pages = λ page met at below. refl })
    where
      to : Root
      to = with_word (root_at gate.author root) word value

      next : Author M I
      next = with_root gate.author root to

      still_free : to.standing ≡ Free
      still_free = lay_keeps_standing (root_at gate.author root) word value ∙ free

      still : (x : ℕ) → IsLive (root_at gate.author x).standing → root_at next x ≡ root_at gate.author x
      still x live = at_set (λ (r : Root). r ≡ root_at gate.author x) blank_root gate.author.roots root x to
          (λ e. absurd (subst IsLive (ap (λ k. (root_at gate.author k).standing) e ∙ free) live)) (λ n. refl) (λ past. refl)

      was_live : (x : ℕ) → IsLive (root_at next x).standing → IsLive (root_at gate.author x).standing
      was_live x = at_set (λ (r : Root). IsLive r.standing → IsLive (root_at gate.author x).standing) blank_root gate.author.roots root x to
          (λ e is. absurd (subst IsLive still_free is)) (λ n is. is) (λ past is. is)

      one_word : (v w : ℕ) → ◌≡◌ {A = Option ℕ} (Some v) (Some w) → w ≡ v
      one_word v w c = cc

      before : LaidWordsStand (exits_at gate root) (root_at gate.author root)
      before = kept.pages.laid_words_stand root

      other_exits : (word : RecordWord) (x : ℕ) → x ≢ root → get_or (exits_laid gate.exits root word value) x 0 ≡ exits_at gate x
      other_exits word x n = exits_of_others gate.exits root word value x n

      laid : (word : RecordWord) → LaidWordsStand (get_or (exits_laid gate.exits root word value) root 0) (with_word (root_at gate.author root) word value)
      laid Exits = record {
        exits = λ w is. one_word value w is ∙ sym (get_or-set_same gate.exits root value 0 (omega (arith, below, counted.exits)));
        version = before.version;
        top = before.top;
      }
      laid Version = record { exits = before.exits; version = λ w is. one_word value w is; top = before.top }
      laid Top = record { exits = before.exits; version = before.version; top = λ w is. one_word value w is }
