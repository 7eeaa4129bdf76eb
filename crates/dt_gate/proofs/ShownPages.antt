-- Pages, versions and histories are kept by a fill, a publish and a poll.
use Rattle.std.proofs.Common.{◌≡◌, ◌≢◌, ℕ, ◌+◌, ◌*◌, ◌<◌, List, [], ◌∷◌, ◌++◌, length, take, get_or, set, refl, sym, ap, subst, ◌∙◌, arith, length-append, length-set, take_all, get_or-set_other, le_of_eq}
use mathlib.Core.List.{IsPrefix}
use native.Mathlib.Decide.{ℕ_discrete}
use Rattle.dt_pages.specs.Reading.{Reading, reading, Reaches, page_words}
use Rattle.dt_pages.specs.Laws.{SamePage, ReachedPagesDecide}
use Rattle.dt_gate.specs.declared.gate.Author.{Author}
use Rattle.dt_gate.specs.declared.gate.Gate.{Gate}
use Rattle.dt_gate.specs.declared.gate.Root.{Root}
use Rattle.dt_gate.specs.declared.gate.Standing.{Standing}
use Rattle.dt_gate.specs.declared.gate.Standing.TheVariants.{Old}
use Rattle.dt_gate.specs.Gate.{Bounds, IsLive, pages_of, blank_root, root_at, exits_at, IsOld}
use Rattle.dt_gate.specs.Author.{with_root, MayFill, after_fill, MayPublish, after_publish, after_poll}
use Rattle.dt_gate.specs.Sound.{LaidWordsStand}
use Rattle.dt_gate.proofs.Kept.{Counted, Shown}
use Rattle.dt_gate.proofs.Roots.{gone_root, new_root, freed_root, at_publish, polled, polled_anew, poll_leads}
use Rattle.dt_gate.proofs.CountedRoots.{inside_is_live}
use Rattle.dt_gate.proofs.Histories.{prefix_same, prefix_more, take_prefix}
use Rattle.dt_gate.proofs.ShownSeats.{shown_copy}
use Rattle.dt_gate.proofs.ShownRoots.{nothing_stands, RootIsShown, root_is_shown, shown_roots, shown_with_root}

-- a store of a word of one page leaves every other page as it was
pub other_page : (words : List ℕ) (page at word other : ℕ) → at < page_words → other ≢ page → SamePage (pages_of words) (pages_of (set words (page_words * page + at) word)) other
other_page words page at word other below apart place in_page =
    sym (get_or-set_other words (page_words * page + at) (page_words * other + place) word 0 (λ same. apart (omega arith)))

module _ {M I : Type 0} (shows : Reading → List I → Type 0) (bounds : Bounds) where
  -- a page is filled that no live root reaches
  pub shown_fill : (tree : ReachedPagesDecide) (gate : Gate M I) (page at word : ℕ) → Counted bounds gate → Shown shows bounds gate → MayFill bounds gate.author page at
      → Shown shows bounds (record gate { author = after_fill gate.author page at word })
  shown_fill tree gate page at word counted kept may =
      shown_roots shows bounds gate gate.exits gate.author.current gate.author.roots words gate.author.history kept (prefix_same gate.author.history)
      (length-set gate.author.words (page_words * page + at) word ∙ kept.words)
      (λ place in_page. sym (other_page gate.author.words page at word 0 may.in_page (λ e. may.not_page_zero (sym e)) place in_page) ∙ kept.pages.page_zero_is_empty place in_page)
      kept.pages.current_version
      (λ x live. record {
        version = subst (λ r. shows r (take (root_at gate.author x).version gate.author.history))
            (tree.reading (pages_of gate.author.words) (pages_of words) (root_at gate.author x).top (same_pages x live)) (kept.pages.each_shows_its_version x live);
        in_bounds = λ q met. kept.pages.reach_is_in_bounds x live q
            ((tree.reach (pages_of gate.author.words) (pages_of words) (root_at gate.author x).top (same_pages x live) q).1 met);
        laid = kept.pages.live_is_not_laid x live;
        published = kept.pages.version_is_published x live;
      })
      kept.pages.versions_are_distinct
      kept.pages.laid_words_stand
      (λ seat x frozen is safe. record {
        version = refl;
        top = refl;
        pages = λ q met. same_pages x (inside_is_live bounds gate counted seat x frozen is) q
            (subst (λ t. Reaches (pages_of gate.author.words) t q) safe.words_stay.top
            ((tree.reach (pages_of frozen.words) (pages_of gate.author.words) frozen.top safe.words_stay.pages q).0 met));
      })
    where
      words : List ℕ
      words = set gate.author.words (page_words * page + at) word

      same_pages : (x : ℕ) → IsLive (root_at gate.author x).standing → (q : ℕ) → Reaches (pages_of gate.author.words) (root_at gate.author x).top q → SamePage (pages_of gate.author.words) (pages_of words) q
      same_pages x live q met = other_page gate.author.words page at word q may.in_page
          (λ same. may.not_reached x live (subst (Reaches (pages_of gate.author.words) (root_at gate.author x).top) same met))

  -- a publish
  pub shown_publish : (gate : Gate M I) (root : ℕ) (item : I) → Counted bounds gate → Shown shows bounds gate → MayPublish shows bounds gate.author root item
      → Shown shows bounds (record gate { entries = 0; author = after_publish gate.author root item gate.entries })
  shown_publish gate root item counted kept may =
      shown_copy shows bounds (record gate { author = record gate.author { current = root; roots = roots; history = history } }) 0 next
      (shown_roots shows bounds gate gate.exits root roots gate.author.words history kept more kept.words kept.pages.page_zero_is_empty
      (at (λ r. r.version ≡ length history) root (λ e. new_version) (λ n e. absurd (n refl)) (λ n m. absurd (n refl)))
      (λ x. at (λ r. IsLive r.standing → RootIsShown shows bounds (pages_of gate.author.words) history r) x
      (λ e live. new_is_shown)
      (λ n e live. longer_is_shown (root_at gate.author gate.author.current) (Old gate.entries) (root_is_shown shows bounds gate kept gate.author.current current_live))
      (λ n m live. longer_is_shown (root_at gate.author x) (root_at gate.author x).standing (root_is_shown shows bounds gate kept x live)))
      distinct
      (λ x. at (LaidWordsStand (exits_at gate x)) x (λ e. nothing_stands (exits_at gate x) (new_root gate.author root) refl)
      (λ n e. nothing_stands (exits_at gate x) (gone_root gate.author gate.entries) (kept.pages.live_is_not_laid gate.author.current current_live)) (λ n m. kept.pages.laid_words_stand x))
      (λ seat x frozen is safe. let apart = λ (e : x ≡ root). free_is_dead (subst (λ k. IsLive (root_at gate.author k).standing) e (inside_is_live bounds gate counted seat x frozen is)) in
      record { version = still (λ r. r.version) x apart refl; top = still (λ r. r.top) x apart refl; pages = λ page met in_page below. refl }))
    where
      next : Author M I
      next = after_publish gate.author root item gate.entries

      roots : List Root
      roots = set (set gate.author.roots gate.author.current (gone_root gate.author gate.entries)) root (new_root gate.author root)

      history : List I
      history = gate.author.history ++ item ∷ []

      more : IsPrefix gate.author.history history
      more = prefix_more gate.author.history gate.author.history item (prefix_same gate.author.history)

      one_longer : length history ≡ length gate.author.history + 1
      one_longer = length-append gate.author.history (item ∷ [])

      current_live : IsLive (root_at gate.author gate.author.current).standing
      current_live = subst IsLive (sym counted.one.named) tt

      free_is_dead : ¬ IsLive (root_at gate.author root).standing
      free_is_dead live = subst IsLive may.is_free live

      at : (P : Root → Type 0) (x : ℕ) → (x ≡ root → P (new_root gate.author root)) → (x ≢ root → x ≡ gate.author.current → P (gone_root gate.author gate.entries)) → (x ≢ root → x ≢ gate.author.current → P (root_at gate.author x))
          → P (get_or roots x blank_root)
      at = at_publish gate.author root item gate.entries current_live may.no_exit

      still : {X : Type 0} (f : Root → X) (x : ℕ) → x ≢ root → f (gone_root gate.author gate.entries) ≡ f (root_at gate.author gate.author.current) → f (get_or roots x blank_root) ≡ f (root_at gate.author x)
      still f x apart same = at (λ r. f r ≡ f (root_at gate.author x)) x (λ e. absurd (apart e)) (λ n e. same ∙ ap (λ k. f (root_at gate.author k)) (sym e)) (λ n m. refl)

      new_version : (root_at gate.author root).version ≡ length history
      new_version = sym ((kept.pages.laid_words_stand root).version (length gate.author.history + 1) may.next_version) ∙ sym one_longer

      new_top : may.top ≡ (root_at gate.author root).top
      new_top = (kept.pages.laid_words_stand root).top may.top may.top_is_laid

      new_is_shown : RootIsShown shows bounds (pages_of gate.author.words) history (new_root gate.author root)
      new_is_shown = record {
        version = subst (λ t. shows (reading (pages_of gate.author.words) t) (take (root_at gate.author root).version history)) new_top
            (subst (shows (reading (pages_of gate.author.words) may.top)) (sym (take_all (root_at gate.author root).version history (le_of_eq (sym new_version)))) may.top_shows);
        in_bounds = λ page met. may.in_bounds page (subst (λ t. Reaches (pages_of gate.author.words) t page) (sym new_top) met);
        laid = refl;
        published = le_of_eq new_version;
      }

      -- an older version shows what it did
      longer_is_shown : (r : Root) (standing : Standing) → RootIsShown shows bounds (pages_of gate.author.words) gate.author.history r
          → RootIsShown shows bounds (pages_of gate.author.words) history (record r { standing = standing })
      longer_is_shown r standing is = record {
        version = subst (shows (reading (pages_of gate.author.words) r.top)) (sym (take_prefix r.version gate.author.history history more is.published)) is.version;
        in_bounds = is.in_bounds;
        laid = is.laid;
        published = omega (arith, is.published, one_longer);
      }

      -- the version of every other live root was published before
      older : (x : ℕ) → x ≢ root → IsLive (get_or roots x blank_root).standing → IsLive (root_at gate.author x).standing
      older x apart = at (λ r. IsLive r.standing → IsLive (root_at gate.author x).standing) x (λ e. absurd (apart e))
          (λ n e live. subst (λ k. IsLive (root_at gate.author k).standing) (sym e) current_live) (λ n m live. live)

      distinct : (x y : ℕ) → IsLive (get_or roots x blank_root).standing → IsLive (get_or roots y blank_root).standing
          → (get_or roots x blank_root).version ≡ (get_or roots y blank_root).version → x ≡ y
      distinct x y lx ly same = elim (ℕ_discrete x root) [
        | yes ex ↦ elim (ℕ_discrete y root) [
          | yes ey ↦ ex ∙ sym ey
          | no ny ↦ absurd (omega (arith, same, still (λ r. r.version) y ny refl, kept.pages.version_is_published y (older y ny ly), newest x ex, one_longer))
        ]
        | no nx ↦ elim (ℕ_discrete y root) [
          | yes ey ↦ absurd (omega (arith, same, still (λ r. r.version) x nx refl, kept.pages.version_is_published x (older x nx lx), newest y ey, one_longer))
          | no ny ↦ kept.pages.versions_are_distinct x y (older x nx lx) (older y ny ly) (sym (still (λ r. r.version) x nx refl) ∙ same ∙ still (λ r. r.version) y ny refl)
        ]
      ]
        where
          newest : (x : ℕ) → x ≡ root → (get_or roots x blank_root).version ≡ length history
          newest x e = at (λ r. r.version ≡ length history) x (λ _. new_version) (λ n _. absurd (n e)) (λ n m. absurd (n e))

  -- a poll
  pub shown_poll : (gate : Gate M I) (root : ℕ) → Shown shows bounds gate → IsOld (root_at gate.author root).standing
      → Shown shows bounds (record gate { author = after_poll gate.author root (exits_at gate root) })
  shown_poll gate root kept old = poll_leads (λ author. Shown shows bounds (record gate { author = author })) gate.author root (exits_at gate root) old
      (λ new entries is all_left. frees anew entries (shown_copy shows bounds gate gate.entries anew kept) is)
      (λ new entries is some_stay. shown_copy shows bounds gate gate.entries (record anew { held = root ∷ [] }) kept)
      (λ on entries is all_left. frees on_polled entries (shown_copy shows bounds gate gate.entries on_polled kept) is)
      (λ on entries is some_stay. shown_copy shows bounds gate gate.entries (record on_polled { held = gate.author.held ++ root ∷ [] }) kept)
    where
      on_polled : Author M I
      on_polled = polled gate.author root (exits_at gate root)

      anew : Author M I
      anew = polled_anew gate.author root (exits_at gate root)

      frees : (start : Author M I) (entries : ℕ) → Shown shows bounds (record gate { author = start }) → (root_at start root).standing ≡ Old entries
          → Shown shows bounds (record gate { author = with_root start root (freed_root start root) })
      frees start entries kept_start is = shown_with_root shows bounds (record gate { author = start }) root (freed_root start root) kept_start refl refl refl (subst IsLive (sym is) tt)
