-- What each step of an author leaves of its roots and chains.
use Rattle.std.proofs.Common.{◌≡◌, ◌≢◌, ℕ, ◌+◌, ◌*◌, ◌<◌, ◌≤◌, Bool, true, false, cond, List, [], ◌∷◌, ◌++◌, length, get_or, set, Some, inl, inr, refl, sym, ap, subst, ◌∙◌, arith, length-set, length-append, get_or-set_same, get_or-set_other, eq-eqb, ne_eqb}
use Rattle.std.proofs.lemmas.List.{get_or_past, set-get_or}
use native.Mathlib.Decide.{dec_lt, ℕ_discrete}
use Rattle.dt_pages.specs.Reading.{Meets, Reaches, page_words}
use Rattle.dt_gate.specs.declared.event.RecordWord.{RecordWord}
use Rattle.dt_gate.specs.declared.event.RecordWord.TheVariants.{Exits, Version, Top}
use Rattle.dt_gate.specs.declared.gate.Author.{Author}
use Rattle.dt_gate.specs.declared.gate.Root.{Root}
use Rattle.dt_gate.specs.declared.gate.Standing.{Standing}
use Rattle.dt_gate.specs.declared.gate.Standing.TheVariants as standing
use Rattle.dt_gate.specs.Gate.{pages_of, root_at, IsLive, blank_root, nothing_laid}
use Rattle.dt_gate.specs.Author.{MayFill, MayPublish, after_fill, after_lay, after_publish, after_poll, poll_finds, is_new_sweep, with_new_sweep, with_root, with_word}
use Rattle.dt_gate.specs.Examples.{counted}
use Rattle.dt_version.specs.AuthorCalls.{laid_whole}
use Rattle.dt_version.specs.Limits.{bounds}
use Rattle.dt_version.specs.declared.view.Size.{Size}
use Rattle.version_rounds.specs.Chains.{IsFit, IsOnChains, IsReady, IsFilled, standing_of, known_at}
use Rattle.version_rounds.specs.declared.known.Known.{Known}
use Rattle.version_rounds.specs.declared.known.Known.TheVariants as known

in_list : {X : Type 0} (P : X → Type 0) (d : X) → ¬ P d → (xs : List X) (i : ℕ) → P (get_or xs i d) → i < length xs
in_list P d none xs i here = elim (dec_lt i (length xs)) [ yes h ↦ h | no h ↦ absurd (none (subst P (get_or_past xs i d (omega arith)) here)) ]

-- what holds of the element at j after a change at i
at_set : {X : Type 0} (P : X → Type 0) (d : X) (xs : List X) (i j : ℕ) (y : X) → i < length xs
    → (j ≡ i → P y) → (j ≢ i → P (get_or xs j d)) → P (get_or (set xs i y) j d)
at_set P d xs i j y h same other =
    elim (ℕ_discrete j i) [
      | yes e ↦ subst (λ k. P (get_or (set xs i y) k d)) (sym e) (subst P (sym (get_or-set_same xs i y d h)) (same e))
      | no n ↦ subst P (sym (get_or-set_other xs i j y d n)) (other n)
    ]

-- ---- which pages a chain reaches

module _ (words : List ℕ) (fit : (page at : ℕ) → at < page_words → IsFit page (pages_of words page at)) (root : ℕ) (below : root < 4) where
  reach_1 : (x page : ℕ) → (x ≢ 0 → x ≡ 3 + 3 * root) → page ≢ 0 → Meets (pages_of words) 1 x page → (1 + 3 * root ≤ page) × (page ≤ 3 + 3 * root)
  reach_1 x page is some (inl e) = let at : x ≡ 3 + 3 * root = is (λ z. some (sym e ∙ z)) in (omega (arith, at, e), omega (arith, at, e))
  reach_1 x page is some (inr (at, place, none)) = absurd none

  reach_2 : (x page : ℕ) → (x ≢ 0 → x ≡ 2 + 3 * root) → page ≢ 0 → Meets (pages_of words) 2 x page → (1 + 3 * root ≤ page) × (page ≤ 3 + 3 * root)
  reach_2 x page is some (inl e) = let at : x ≡ 2 + 3 * root = is (λ z. some (sym e ∙ z)) in (omega (arith, at, e), omega (arith, at, e))
  reach_2 x page is some (inr (at, place, rest)) = reach_1 (pages_of words x at) page
      (λ w. elim (ℕ_discrete x 0) [ yes z ↦ absurd (w ((fit x at place).none_in_page_zero z)) | no n ↦ (fit x at place).from_middle root (is n) below w ]) some rest

  reach_3 : (x page : ℕ) → (x ≢ 0 → x ≡ 1 + 3 * root) → page ≢ 0 → Reaches (pages_of words) x page → (1 + 3 * root ≤ page) × (page ≤ 3 + 3 * root)
  reach_3 x page is some (inl e) = let at : x ≡ 1 + 3 * root = is (λ z. some (sym e ∙ z)) in (omega (arith, at, e), omega (arith, at, e))
  reach_3 x page is some (inr (at, place, rest)) = reach_2 (pages_of words x at) page
      (λ w. elim (ℕ_discrete x 0) [ yes z ↦ absurd (w ((fit x at place).none_in_page_zero z)) | no n ↦ (fit x at place).from_top root (is n) below w ]) some rest

fit_top : (root : ℕ) → IsFit (1 + 3 * root) (1 + 3 * root + 1)
fit_top root = record {
  none_in_page_zero = λ e. absurd (omega (arith, e));
  from_top = λ r e lt w. omega (arith, e);
  from_middle = λ r e lt w. absurd (omega (arith, e));
}

fit_middle : (root : ℕ) → IsFit (1 + 3 * root + 1) (1 + 3 * root + 2)
fit_middle root = record {
  none_in_page_zero = λ e. absurd (omega (arith, e));
  from_top = λ r e lt w. absurd (omega (arith, e));
  from_middle = λ r e lt w. omega (arith, e);
}

fit_leaf : (root word : ℕ) → IsFit (1 + 3 * root + 2) word
fit_leaf root word = record {
  none_in_page_zero = λ e. absurd (omega (arith, e));
  from_top = λ r e lt w. absurd (omega (arith, e));
  from_middle = λ r e lt w. absurd (omega (arith, e));
}

module _ {M I : Type 0} where
  -- ---- fills

  fill_keeps : (author : Author M I) (page at word : ℕ) → page < 16 → at < page_words → IsFit page word → IsOnChains author
      → IsOnChains (after_fill author page at word)
  fill_keeps author page at word is_there in_page fits chains = let long = chains.sixteen_pages in record {
    four_roots = chains.four_roots;
    sixteen_pages = length-set author.words (page_words * page + at) word ∙ chains.sixteen_pages;
    tops = chains.tops;
    words_fit = λ q place below. at_set (IsFit q) 0 author.words (page_words * page + at) (page_words * q + place) word (omega (arith, is_there, in_page, long))
        (λ same. let e : page ≡ q = omega (arith, same, below, in_page) in subst (λ p. IsFit p word) e fits)
        (λ n. chains.words_fit q place below);
  }

  may_fill : (size : Size) (author : Author M I) (root page : ℕ) → size.pages ≡ 16 → IsOnChains author → root < 4 → (root_at author root).standing ≡ standing.Free
      → 1 + 3 * root ≤ page → page ≤ 3 + 3 * root → MayFill (bounds size) author page 0
  may_fill size author root page sixteen chains below free least most = record {
    not_page_zero = λ e. absurd (omega (arith, e, least));
    is_there = omega (arith, sixteen, below, most);
    in_page = omega arith;
    not_reached = λ other live met.
        let there = in_list (λ (r : Root). IsLive r.standing) blank_root (λ x. x) author.roots other live in
        let four = chains.four_roots in
        let met_in = reach_3 author.words chains.words_fit other (omega (arith, there, four)) (root_at author other).top page (chains.tops other live) (λ z. absurd (omega (arith, z, least))) met in
        let low = met_in.0 in
        let high = met_in.1 in
        let e : other ≡ root = omega (arith, low, high, least, most) in
        subst IsLive free (subst (λ o. IsLive (root_at author o).standing) e live);
  }

  -- the second and the third page of a chain
  pub first_fill : (size : Size) (kept : List Known) (version out root : ℕ) (author : Author M I) → IsReady size kept version out author → root < 4 → known_at kept root ≡ known.Free
      → MayFill (bounds size) author (1 + 3 * root) 0
  first_fill size kept version out root author ready below free = may_fill size author root _ ready.pages_are ready.chains below (ready.is_known root below ∙ ap standing_of free) (omega arith) (omega arith)

  pub second_fill : (size : Size) (kept : List Known) (version out root : ℕ) (author : Author M I) → IsReady size kept version out author → root < 4 → known_at kept root ≡ known.Free
      → MayFill (bounds size) (after_fill author (1 + 3 * root) 0 (1 + 3 * root + 1)) (1 + 3 * root + 1) 0
  second_fill size kept version out root author ready below free = may_fill size (after_fill author (1 + 3 * root) 0 (1 + 3 * root + 1)) root _ ready.pages_are
      (fill_keeps author _ _ _ (omega (arith, below)) (omega arith) (fit_top root) ready.chains) below (ready.is_known root below ∙ ap standing_of free) (omega arith) (omega arith)

  pub two_filled : (root : ℕ) (author : Author M I) → IsOnChains author → root < 4
      → IsOnChains (after_fill (after_fill author (1 + 3 * root) 0 (1 + 3 * root + 1)) (1 + 3 * root + 1) 0 (1 + 3 * root + 2))
  two_filled root author chains below = fill_keeps (after_fill author (1 + 3 * root) 0 (1 + 3 * root + 1)) _ _ _ (omega (arith, below)) (omega arith) (fit_middle root)
      (fill_keeps author _ _ _ (omega (arith, below)) (omega arith) (fit_top root) chains)

  pub third_fill : (size : Size) (kept : List Known) (version out root : ℕ) (author : Author M I) → IsReady size kept version out author → root < 4 → known_at kept root ≡ known.Free
      → MayFill (bounds size) (after_fill (after_fill author (1 + 3 * root) 0 (1 + 3 * root + 1)) (1 + 3 * root + 1) 0 (1 + 3 * root + 2)) (1 + 3 * root + 2) 0
  third_fill size kept version out root author ready below free = may_fill size (after_fill (after_fill author (1 + 3 * root) 0 (1 + 3 * root + 1)) (1 + 3 * root + 1) 0 (1 + 3 * root + 2)) root _ ready.pages_are
      (two_filled root author ready.chains below) below (ready.is_known root below ∙ ap standing_of free) (omega arith) (omega arith)

-- what is known of the roots is so
record AreKept (kept : List Known) (roots : List Root) : Type 0 where
  pub four_roots : length roots ≡ 4
  pub four_kept : length kept ≡ 4
  pub tops : (x : ℕ) → IsLive (get_or roots x blank_root).standing → (get_or roots x blank_root).top ≢ 0 → (get_or roots x blank_root).top ≡ 1 + 3 * x
  pub is_known : (x : ℕ) → x < 4 → (get_or roots x blank_root).standing ≡ standing_of (get_or kept x known.Free)

kept_set : (kept : List Known) (roots : List Root) (i : ℕ) (k : Known) (r : Root) → i < 4 → r.standing ≡ standing_of k
    → (IsLive r.standing → r.top ≢ 0 → r.top ≡ 1 + 3 * i) → AreKept kept roots → AreKept (set kept i k) (set roots i r)
kept_set kept roots i k r below same top are = let roots_are = are.four_roots in let kept_are = are.four_kept in record {
  four_roots = length-set roots i r ∙ are.four_roots;
  four_kept = length-set kept i k ∙ are.four_kept;
  tops = λ x. at_set (λ (s : Root). IsLive s.standing → s.top ≢ 0 → s.top ≡ 1 + 3 * x) blank_root roots i x r (omega (arith, below, roots_are))
      (λ e live some. top live some ∙ ap (λ n. 1 + 3 * n) (sym e)) (λ n. are.tops x);
  is_known = λ x lt. elim (ℕ_discrete x i) [
    | yes e ↦ subst (λ n. (get_or (set roots i r) n blank_root).standing ≡ standing_of (get_or (set kept i k) n known.Free)) (sym e)
        (ap (λ (s : Root). s.standing) (get_or-set_same roots i r blank_root (omega (arith, below, roots_are))) ∙ same
        ∙ sym (ap standing_of (get_or-set_same kept i k known.Free (omega (arith, below, kept_are)))))
    | no n ↦ ap (λ (s : Root). s.standing) (get_or-set_other roots i x r blank_root n) ∙ are.is_known x lt ∙ sym (ap standing_of (get_or-set_other kept i x k known.Free n))
  ];
}

old_now : (entries : ℕ) → ¬ (standing.Now ≡ standing.Old entries)
old_now entries e = let is : ◌≡◌ {A = Standing} standing.Now (standing.Old entries) = e in cc

free_now : ¬ (standing.Now ≡ standing.Free)
free_now e = let is : ◌≡◌ {A = Standing} standing.Now standing.Free = e in cc

word_keeps : (r : Root) (word : RecordWord) (value : ℕ) → (with_word r word value).standing ≡ r.standing
word_keeps r Exits value = refl
word_keeps r Version value = refl
word_keeps r Top value = refl

module _ {M I : Type 0} where
  kept_of : (size : Size) (kept : List Known) (version out : ℕ) (author : Author M I) → IsReady size kept version out author → AreKept kept author.roots
  kept_of size kept version out author ready = record {
    four_roots = ready.chains.four_roots;
    four_kept = ready.four_kept;
    tops = ready.chains.tops;
    is_known = ready.is_known;
  }

  -- one root is changed, and not from or to the current one
  ready_root : (size : Size) (kept : List Known) (version out : ℕ) (author : Author M I) (i : ℕ) (k : Known) (r : Root) → i < 4 → r.standing ≡ standing_of k
      → (IsLive r.standing → r.top ≢ 0 → r.top ≡ 1 + 3 * i) → author.current ≢ i → IsReady size kept version out author
      → IsReady size (set kept i k) version out (with_root author i r)
  ready_root size kept version out author i k r below same top apart ready =
      let are = kept_set kept author.roots i k r below same top (kept_of size kept version out author ready) in record {
        two_readers = ready.two_readers;
        pages_are = ready.pages_are;
        chains = record { four_roots = are.four_roots; sixteen_pages = ready.chains.sixteen_pages; tops = are.tops; words_fit = ready.chains.words_fit };
        four_kept = are.four_kept;
        is_known = are.is_known;
        current_is = ap (λ (s : Root). s.standing) (get_or-set_other author.roots i author.current r blank_root apart) ∙ ready.current_is;
        current_below = ready.current_below;
        version_is = ready.version_is;
        out_is = ready.out_is;
      }

  -- a root with another standing isn't current
  not_current : (size : Size) (kept : List Known) (version out : ℕ) (author : Author M I) (i : ℕ) → i < 4 → IsReady size kept version out author
      → ¬ (standing.Now ≡ standing_of (known_at kept i)) → author.current ≢ i
  not_current size kept version out author i below ready other e =
      other (sym ready.current_is ∙ ap (λ c. (root_at author c).standing) e ∙ ready.is_known i below)

  -- ---- a poll

  ready_swept : (size : Size) (kept : List Known) (version out root exits : ℕ) (author : Author M I) → IsReady size kept version out author
      → IsReady size kept version out (with_new_sweep (record author { polls = author.polls ++ (root, exits) ∷ [] }) root)
  ready_swept size kept version out root exits author ready = go (is_new_sweep polled root)
    where
      polled : Author M I
      polled = record author { polls = author.polls ++ (root, exits) ∷ [] }

      go : (b : Bool) → IsReady size kept version out (cond b (record polled { held = []; sweep = polled.out }) polled)
      go true = record {
        two_readers = ready.two_readers;
        pages_are = ready.pages_are;
        chains = record { four_roots = ready.chains.four_roots; sixteen_pages = ready.chains.sixteen_pages; tops = ready.chains.tops; words_fit = ready.chains.words_fit };
        four_kept = ready.four_kept;
        is_known = ready.is_known;
        current_is = ready.current_is;
        current_below = ready.current_below;
        version_is = ready.version_is;
        out_is = ready.out_is;
      }
      go false = record {
        two_readers = ready.two_readers;
        pages_are = ready.pages_are;
        chains = record { four_roots = ready.chains.four_roots; sixteen_pages = ready.chains.sixteen_pages; tops = ready.chains.tops; words_fit = ready.chains.words_fit };
        four_kept = ready.four_kept;
        is_known = ready.is_known;
        current_is = ready.current_is;
        current_below = ready.current_below;
        version_is = ready.version_is;
        out_is = ready.out_is;
      }

  pub poll_frees : (size : Size) (kept : List Known) (version out root entries exits : ℕ) (author : Author M I) → root < 4 → known_at kept root ≡ known.Old entries
      → exits ≡ entries → IsReady size kept version out author
      → IsReady size (set kept root known.Free) version out (after_poll author root exits)
  poll_frees size kept version out root entries exits author below old same ready =
      subst (λ s. IsReady size (set kept root known.Free) version out (poll_finds swept root exits s)) (sym (ready.is_known root below ∙ ap standing_of old))
      (subst (λ b. IsReady size (set kept root known.Free) version out
      (cond b (with_root swept root (record (root_at swept root) { standing = standing.Free })) (record swept { held = swept.held ++ root ∷ [] }))) (sym (eq-eqb exits entries same))
      (ready_root size kept version out swept root known.Free (record (root_at swept root) { standing = standing.Free }) below refl (λ live. absurd live)
      (not_current size kept version out swept root below ready_now (λ e. old_now entries (e ∙ ap standing_of old))) ready_now))
    where
      swept : Author M I
      swept = with_new_sweep (record author { polls = author.polls ++ (root, exits) ∷ [] }) root

      ready_now : IsReady size kept version out swept
      ready_now = ready_swept size kept version out root exits author ready

  pub poll_holds : (size : Size) (kept : List Known) (version out root entries exits : ℕ) (author : Author M I) → root < 4 → known_at kept root ≡ known.Old entries
      → exits ≢ entries → IsReady size kept version out author
      → IsReady size kept version out (after_poll author root exits)
  poll_holds size kept version out root entries exits author below old other ready =
      subst (λ s. IsReady size kept version out (poll_finds swept root exits s)) (sym (ready.is_known root below ∙ ap standing_of old))
      (subst (λ b. IsReady size kept version out
      (cond b (with_root swept root (record (root_at swept root) { standing = standing.Free })) (record swept { held = swept.held ++ root ∷ [] }))) (sym (ne_eqb exits entries other))
      record {
        two_readers = ready_now.two_readers;
        pages_are = ready_now.pages_are;
        chains = record { four_roots = ready_now.chains.four_roots; sixteen_pages = ready_now.chains.sixteen_pages; tops = ready_now.chains.tops; words_fit = ready_now.chains.words_fit };
        four_kept = ready_now.four_kept;
        is_known = ready_now.is_known;
        current_is = ready_now.current_is;
        current_below = ready_now.current_below;
        version_is = ready_now.version_is;
        out_is = ready_now.out_is;
      })
    where
      swept : Author M I
      swept = with_new_sweep (record author { polls = author.polls ++ (root, exits) ∷ [] }) root

      ready_now : IsReady size kept version out swept
      ready_now = ready_swept size kept version out root exits author ready

  -- ---- a root is laid and published

  lay_keeps : (size : Size) (kept : List Known) (version out : ℕ) (author : Author M I) (root : ℕ) (word : RecordWord) (value : ℕ) → root < 4 → known_at kept root ≡ known.Free
      → IsReady size kept version out author → IsReady size kept version out (after_lay author root word value)
  lay_keeps size kept version out author root word value below free ready =
      let is : (with_word (root_at author root) word value).standing ≡ standing.Free = word_keeps (root_at author root) word value ∙ ready.is_known root below ∙ ap standing_of free in
      subst (λ k. IsReady size k version out (after_lay author root word value)) (set-get_or kept root known.Free)
      (ready_root size kept version out author root (known_at kept root) (with_word (root_at author root) word value) below (is ∙ sym (ap standing_of free))
      (λ live. absurd (subst IsLive is live)) (not_current size kept version out author root below ready (λ e. free_now (e ∙ ap standing_of free))) ready)

  laid_at : (author : Author M I) (root : ℕ) (word : RecordWord) (value : ℕ) → root < length author.roots
      → root_at (after_lay author root word value) root ≡ with_word (root_at author root) word value
  laid_at author root word value below = get_or-set_same author.roots root (with_word (root_at author root) word value) blank_root below

  pub laid_keeps : (size : Size) (kept : List Known) (version out : ℕ) (author : Author M I) (root next top : ℕ) → root < 4 → known_at kept root ≡ known.Free
      → IsReady size kept version out author → IsReady size kept version out (laid_whole author root next top)
  laid_keeps size kept version out author root next top below free ready =
      lay_keeps size kept version out (after_lay (after_lay author root Exits 0) root Version next) root Top top below free
      (lay_keeps size kept version out (after_lay author root Exits 0) root Version next below free
      (lay_keeps size kept version out author root Exits 0 below free ready))

  pub laid_root : (size : Size) (kept : List Known) (version out : ℕ) (author : Author M I) (root next top : ℕ) → root < 4 → known_at kept root ≡ known.Free
      → IsReady size kept version out author
      → root_at (laid_whole author root next top) root ≡ with_word (with_word (with_word (root_at author root) Exits 0) Version next) Top top
  laid_root size kept version out author root next top below free ready =
      let one = lay_keeps size kept version out author root Exits 0 below free ready in
      let two = lay_keeps size kept version out (after_lay author root Exits 0) root Version next below free one in
      let four_0 = ready.chains.four_roots in let four_1 = one.chains.four_roots in let four_2 = two.chains.four_roots in
      laid_at (after_lay (after_lay author root Exits 0) root Version next) root Top top (omega (arith, below, four_2))
      ∙ ap (λ r. with_word r Top top) (laid_at (after_lay author root Exits 0) root Version next (omega (arith, below, four_1))
      ∙ ap (λ r. with_word r Version next) (laid_at author root Exits 0 (omega (arith, below, four_0))))

module _ {M : Type 0} where
  pub may_publish : (size : Size) (kept : List Known) (version out : ℕ) (author : Author M ℕ) (root next : ℕ) → root < 4 → known_at kept root ≡ known.Free
      → next ≡ version + 1 → IsFilled author root next → IsReady size kept version out author
      → MayPublish counted (bounds size) (laid_whole author root next (1 + 3 * root)) root next
  may_publish size kept version out author root next below free is_next filled ready = record {
    is_free = ap (λ (r : Root). r.standing) is ∙ ready.is_known root below ∙ ap standing_of free;
    no_exit = ap (λ (r : Root). r.laid.exits) is;
    next_version = ap (λ (r : Root). r.laid.version) is ∙ ap (λ n. Some n) next_is;
    top = 1 + 3 * root;
    top_is_laid = ap (λ (r : Root). r.laid.top) is;
    top_shows = ap (λ x. pages_of author.words (pages_of author.words x 0) 0) filled.top ∙ ap (λ x. pages_of author.words x 0) filled.middle ∙ filled.leaf ∙ next_is
        ∙ sym (length-append author.history (next ∷ []));
    in_bounds = λ page met. elim (ℕ_discrete page 0) [
      | yes z ↦ let sixteen = ready.pages_are in omega (arith, sixteen, z)
      | no n ↦ let sixteen = ready.pages_are in
          let high = (reach_3 author.words ready.chains.words_fit root below (1 + 3 * root) page (λ w. refl) n met).1 in omega (arith, sixteen, high, below)
    ];
  }
    where
      is : root_at (laid_whole author root next (1 + 3 * root)) root ≡ with_word (with_word (with_word (root_at author root) Exits 0) Version next) Top (1 + 3 * root)
      is = laid_root size kept version out author root next (1 + 3 * root) below free ready

      next_is : next ≡ length author.history + 1
      next_is = let known = ready.version_is in omega (arith, known, is_next)

  -- publishing a free root whose top page is that of its chain
  pub publish_keeps : (size : Size) (kept : List Known) (version out : ℕ) (author : Author M ℕ) (root next entries : ℕ) → root < 4 → known_at kept root ≡ known.Free
      → (root_at author root).top ≡ 1 + 3 * root → next ≡ version + 1 → IsReady size kept version out author
      → IsReady size (set (set kept author.current (known.Old entries)) root known.Now) next out (after_publish author root next entries)
  publish_keeps size kept version out author root next entries below free top is_next ready =
      let before = kept_set kept author.roots author.current (known.Old entries) (record (root_at author author.current) { standing = standing.Old entries }) ready.current_below refl
      (λ live some. ready.chains.tops author.current (subst IsLive (sym ready.current_is) tt) some) (kept_of size kept version out author ready) in
      let are = kept_set _ _ root known.Now (record (root_at author root) { standing = standing.Now; laid = nothing_laid }) below refl (λ live some. top) before in
      let four = before.four_roots in
      let known = ready.version_is in
      let more = length-append author.history (next ∷ []) in record {
        two_readers = ready.two_readers;
        pages_are = ready.pages_are;
        chains = record { four_roots = are.four_roots; sixteen_pages = ready.chains.sixteen_pages; tops = are.tops; words_fit = ready.chains.words_fit };
        four_kept = are.four_kept;
        is_known = are.is_known;
        current_is = ap (λ (r : Root). r.standing) (get_or-set_same (set author.roots author.current (record (root_at author author.current) { standing = standing.Old entries })) root
            (record (root_at author root) { standing = standing.Now; laid = nothing_laid }) blank_root (omega (arith, below, four)));
        current_below = below;
        version_is = more ∙ omega (arith, known, is_next);
        out_is = ready.out_is;
      }
