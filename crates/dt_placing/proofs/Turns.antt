-- Turns that follow one another place the changes of a batch.
use Rattle.std.proofs.Common.{◌≡◌, ◌≢◌, ◌==◌, ℕ, zero, suc, ◌+◌, ◌<◌, ◌≤◌, Bool, true, false, ◌&&◌, ◌||◌, List, [], ◌∷◌, ◌++◌, length, get_or, set, take, drop, inl, inr, refl, sym, ap, subst, ◌∙◌, arith, append_assoc, All}
use Rattle.std.specs.Prelude.{nat_le, nat_lt}
use Rattle.std.specs.List.{AllByRecursion}
use Rattle.std.specs.List.Sorted.{IsStrictlySortedBy}
use Rattle.std.specs.Ordering.{nat_cmp, ordering_then}
use Rattle.std.specs.Cmp.{nat_cmp_is}
use Rattle.std.specs.Cmp.Lexicographic.{slice_cmp}
use Rattle.std.specs.declared.cmp.Ordering.{Ordering}
use Rattle.std.specs.declared.cmp.Ordering.TheVariants.{Less, Greater}
use Rattle.std.proofs.lemmas.Map.Keys.{sorted_head, sorted_tail}
use Rattle.std.proofs.lemmas.Bool.{or_left, or_right, or_parts, eqb-true, eq-eqb, true≢false}
use Rattle.std.proofs.lemmas.List.{take-append-drop, length-set, get_or-set_same, get_or-set_other}
use Rattle.std.proofs.lemmas.List.Elements.{All-nil, All-cons, All-head, All-tail, All-append}
use Rattle.dt_pages.specs.Reading.{Reading}
use Rattle.dt_scratch.specs.Query.{query_order, arity_of_query}
use Rattle.dt_scratch.specs.declared.reply.Change.{Change}
use Rattle.dt_cells.specs.Regions.{place_of}
use Rattle.dt_cells.specs.Held.{Held, IsStageableChange, is_changed, is_changed_place}
use Rattle.dt_cells.specs.HeldLaws.{by_cases, or_true, if_true, if_false, changed_place}
use Rattle.dt_fit.specs.declared.geometry.Geometry.{Geometry}
use Rattle.dt_fit.specs.Cells.{Cells, is_kept, is_tried}
use Rattle.dt_placing.specs.declared.staged.StagedWord.{StagedWord}
use Rattle.dt_placing.specs.RowsLaws.{All-parts, has_index_of}
use Rattle.dt_placing.specs.Placing.{owns, AreUsed, Places, with_words}
use Rattle.dt_placing.specs.PlacingLaws.{le_test, le_tested, owned_cell, move_cells}
use Rattle.dt_placing.specs.PlacingStanding.{used_elsewhere}
use Rattle.dt_placing.specs.Turn.{CanTurn, CanTakeTurns, AreWordsOf, run_of}
use Rattle.dt_placing.proofs.OneSelector.{changed_append, others_unchanged}

abbrev pub order : Change → Change → Ordering
order a b = query_order a.query b.query

at_least : (c d : Change) → order c d ≡ Less → c.query.selector ≤ d.query.selector
at_least c d e = by_cases (nat_le c.query.selector d.query.selector)
    (λ t. le_tested c.query.selector d.query.selector t)
    (λ f. absurd (greater_less _ (let below : d.query.selector < c.query.selector = (let apart : c.query.selector ≤ d.query.selector → ⊥ = (λ h. true≢false (sym (le_test c.query.selector d.query.selector h) ∙ f)) in not_le c.query.selector d.query.selector apart) in
    let is : Greater ≡ nat_cmp c.query.selector d.query.selector = nat_cmp_is c.query.selector d.query.selector Greater below in
    ap (λ o. ordering_then o (ordering_then (nat_cmp (arity_of_query c.query) (arity_of_query d.query)) (slice_cmp nat_cmp c.query.classes d.query.classes))) (sym is)) e))
  where
    greater_less : (o : Ordering) → o ≡ Greater → o ≡ Less → ⊥
    greater_less o e f = cc

    not_le : (m n : ℕ) → (m ≤ n → ⊥) → n < m
    not_le m n h = by_cases (nat_le m n) (λ t. absurd (h (le_tested m n t))) (λ f. below m n f)
      where
        below : (m n : ℕ) → nat_le m n ≡ false → n < m
        below m n f = grind arith

-- the changes of a run are of the selector
pub run_own : (s : ℕ) (cs : List Change) → All (λ change. change.query.selector ≡ s) (take (run_of s cs) cs)
run_own s [] = All-nil (λ (change : Change). change.query.selector ≡ s)
run_own s (c ∷ cs) = by_cases (c.query.selector == s)
    (λ t. subst (λ n. All (λ (change : Change). change.query.selector ≡ s) (take n (c ∷ cs))) (sym (if_true (c.query.selector == s) (suc (run_of s cs)) 0 t))
    (All-cons (λ (change : Change). change.query.selector ≡ s) c (take (run_of s cs) cs) (eqb-true c.query.selector s t) (run_own s cs)))
    (λ f. subst (λ n. All (λ (change : Change). change.query.selector ≡ s) (take n (c ∷ cs))) (sym (if_false (c.query.selector == s) (suc (run_of s cs)) 0 f))
    (All-nil (λ (change : Change). change.query.selector ≡ s)))

rest_above : (s : ℕ) (c : Change) (cs : List Change) → s < c.query.selector → AllByRecursion (λ e. order c e ≡ Less) cs → All (λ e. s < e.query.selector) cs
rest_above s c [] below all = All-nil (λ (e : Change). s < e.query.selector)
rest_above s c (d ∷ ds) below all = All-cons (λ (e : Change). s < e.query.selector) d ds
    (let least : c.query.selector ≤ d.query.selector = at_least c d all.0 in omega (arith, below, least)) (rest_above s c ds below all.1)

-- those after it are of later ones
pub run_more : (s : ℕ) (cs : List Change) → IsStrictlySortedBy order cs → All (λ e. s ≤ e.query.selector) cs → All (λ e. s < e.query.selector) (drop (run_of s cs) cs)
run_more s [] sorted from = All-nil (λ (e : Change). s < e.query.selector)
run_more s (c ∷ cs) sorted from = by_cases (c.query.selector == s)
    (λ t. subst (λ n. All (λ (e : Change). s < e.query.selector) (drop n (c ∷ cs))) (sym (if_true (c.query.selector == s) (suc (run_of s cs)) 0 t))
    (run_more s cs (sorted_tail order c cs sorted) (All-tail (λ (e : Change). s ≤ e.query.selector) c cs from)))
    (λ f. subst (λ n. All (λ (e : Change). s < e.query.selector) (drop n (c ∷ cs))) (sym (if_false (c.query.selector == s) (suc (run_of s cs)) 0 f))
    (let apart : c.query.selector ≢ s = (λ e. true≢false (sym (eq-eqb c.query.selector s e) ∙ f)) in
    let least : s ≤ c.query.selector = All-head (λ (e : Change). s ≤ e.query.selector) c cs from in
    let below : s < c.query.selector = omega (arith, apart, least) in
    All-cons (λ (e : Change). s < e.query.selector) c cs below (rest_above s c cs below (sorted_head order c cs sorted))))

from_head : (c : Change) (cs : List Change) → AllByRecursion (λ e. order c e ≡ Less) cs → All (λ e. c.query.selector ≤ e.query.selector) cs
from_head c [] all = All-nil (λ (e : Change). c.query.selector ≤ e.query.selector)
from_head c (d ∷ ds) all = All-cons (λ (e : Change). c.query.selector ≤ e.query.selector) d ds (at_least c d all.0) (from_head c ds all.1)

sorted_drop : (n : ℕ) (cs : List Change) → IsStrictlySortedBy order cs → IsStrictlySortedBy order (drop n cs)
sorted_drop zero cs sorted = sorted
sorted_drop (suc n) [] sorted = sorted
sorted_drop (suc n) (c ∷ cs) sorted = sorted_drop n cs (sorted_tail order c cs sorted)

-- ---- what turns keep

pub record TurnsSoFar (g : Geometry) (words : List ℕ) (x : Reading) (first : Reading) (changes rest : List Change) (before now : Cells) (d : Reading) (staged : List StagedWord) : Type 0 where
  pub geometry_is : now.geometry ≡ g
  pub kept : (cell : ℕ) → is_kept now cell ≡ is_kept before cell
  pub done : List Change
  pub split : done ++ rest ≡ changes
  pub each : All (IsStageableChange 1 1) rest
  pub each_done : All (IsStageableChange 1 1) done
  pub sorted : IsStrictlySortedBy order rest
  pub below : All (λ c. All (λ e. c.query.selector < e.query.selector) rest) done
  pub places : (held : Held) → CanTakeTurns g before words x first held changes → Places g x held done d × AreUsed (is_tried now) d
  pub words_are : AreWordsOf words done d staged
  pub rest_is : (address : ℕ) → owns address ≡ false → is_changed_place done address ≡ false → d address ≡ first address

module _ (g : Geometry) where
  pub none_done : (words : List ℕ) (x first : Reading) (changes : List Change) (before : Cells) → before.geometry ≡ g
      → All (IsStageableChange 1 1) changes → IsStrictlySortedBy order changes → TurnsSoFar g words x first changes changes before before first []
  none_done words x first changes before is each sorted = record {
    geometry_is = is;
    kept = λ cell. refl;
    done = [];
    split = refl;
    each = each;
    each_done = All-nil (IsStageableChange 1 1);
    sorted = sorted;
    below = All-nil (λ (c : Change). All (λ (e : Change). c.query.selector < e.query.selector) changes);
    places = λ held able. (let sh = able.shows in (
      record {
        turns = λ s e. absurd (true≢false (sym e));
        room = λ s some. sh.room s some;
        cells = move_cells g (λ s. x (place_of s)) (λ s. x (place_of s)) held x first (λ s class b h. refl)
            (λ s class b h. owned_cell g (x (place_of s)) class (sh.room s (has_index_of held s class b h)) b) (λ address t. sym (able.untouched address t)) sh.cells;
      },
      used_elsewhere g (is_tried before) x first (λ address t. sym (able.untouched address t)) able.used,
    ));
    words_are = record { changed = λ t small e. absurd (true≢false (sym e)); others = λ t small e. refl };
    rest_is = λ address out e. refl;
  }

  earlier_below : (done rest : List Change) (c : Change) (t : ℕ) → All (λ a. All (λ e. a.query.selector < e.query.selector) (c ∷ rest)) done
      → is_changed done t ≡ true → t < c.query.selector
  earlier_below [] rest c t all e = absurd (true≢false (sym e))
  earlier_below (a ∷ as1) rest c t all e = elim (or_true (a.query.selector == t) (is_changed as1 t) e) [
    | inl is ↦ (let same : a.query.selector ≡ t = eqb-true a.query.selector t is in
        let less : a.query.selector < c.query.selector = All-head (λ (e : Change). a.query.selector < e.query.selector) c rest
        (All-head (λ (b : Change). All (λ (e : Change). b.query.selector < e.query.selector) (c ∷ rest)) a as1 all) in omega (arith, same, less))
    | inr later ↦ earlier_below as1 rest c t (All-tail (λ (b : Change). All (λ (e : Change). b.query.selector < e.query.selector) (c ∷ rest)) a as1 all) later
  ]

  pub can_turn : (words : List ℕ) (x first d : Reading) (changes cs : List Change) (c : Change) (before now : Cells) (staged : List StagedWord) (held : Held)
      → (so : TurnsSoFar g words x first changes (c ∷ cs) before now d staged) → CanTakeTurns g before words x first held changes
      → CanTurn g (is_tried now) x held so.done (take (run_of c.query.selector (c ∷ cs)) (c ∷ cs)) c.query.selector (get_or words c.query.selector 0) d
  can_turn words x first d changes cs c before now staged held so able =
      let s : ℕ = c.query.selector in
      let range : s < 4096 = (All-head (IsStageableChange 1 1) c cs so.each).range.selector in
      let made = so.places held able in
      let n : run_of s (c ∷ cs) ≡ suc (run_of s cs) = if_true (s == s) (suc (run_of s cs)) 0 (eq-eqb s s refl) in
      record {
        shows = able.shows;
        word = able.words s range;
        range = range;
        earlier = so.each_done;
        below = λ t e. earlier_below so.done cs c t so.below e;
        each = (All-parts (IsStageableChange 1 1) (take (run_of s (c ∷ cs)) (c ∷ cs)) (drop (run_of s (c ∷ cs)) (c ∷ cs))
            (subst (All (IsStageableChange 1 1)) (sym (take-append-drop (run_of s (c ∷ cs)) (c ∷ cs))) so.each)).0;
        own_each = run_own s (c ∷ cs);
        some = subst (λ k. is_changed (take k (c ∷ cs)) s ≡ true) (sym n) (or_left (s == s) (is_changed (take (run_of s cs) cs) s) (eq-eqb s s refl));
        places = made.0;
        used = made.1;
      }

  with_append : (staged : List StagedWord) (p : StagedWord) (words : List ℕ) → with_words (staged ++ p ∷ []) words ≡ set (with_words staged words) p.selector p.word
  with_append [] p words = refl
  with_append (q ∷ qs) p words = with_append qs p (set words q.selector q.word)

  same_count : (staged : List StagedWord) (words : List ℕ) → length (with_words staged words) ≡ length words
  same_count [] words = refl
  same_count (q ∷ qs) words = same_count qs (set words q.selector q.word) ∙ length-set words q.selector q.word

  small_place : (t : ℕ) → t < 4096 → owns (place_of t) ≡ false
  small_place t below = by_cases (nat_le 16777216 (8192 + t))
      (λ e. absurd (let from : 16777216 ≤ 8192 + t = le_tested 16777216 (8192 + t) e in omega (arith, from, below)))
      (λ f. ap (λ b. b && nat_lt (8192 + t) 33554432) f)

  pub next_turn : (words : List ℕ) (x first d next : Reading) (changes cs : List Change) (c : Change) (before now later : Cells) (staged : List StagedWord) (p : StagedWord)
      → length words ≡ 4096 → (so : TurnsSoFar g words x first changes (c ∷ cs) before now d staged)
      → p.selector ≡ c.query.selector → later.geometry ≡ g → ((cell : ℕ) → is_kept later cell ≡ is_kept now cell)
      → ((held : Held) (done : List Change)
      → CanTurn g (is_tried now) x held done (take (run_of c.query.selector (c ∷ cs)) (c ∷ cs)) c.query.selector (get_or words c.query.selector 0) d
      → Places g x held (done ++ take (run_of c.query.selector (c ∷ cs)) (c ∷ cs)) next × AreUsed (is_tried later) next)
      → p.word ≡ next (place_of c.query.selector)
      → ((address : ℕ) → owns address ≡ false → address ≢ place_of c.query.selector → next address ≡ d address)
      → TurnsSoFar g words x first changes (drop (run_of c.query.selector (c ∷ cs)) (c ∷ cs)) before later next (staged ++ p ∷ [])
  next_turn words x first d next changes cs c before now later staged p count so named is kept placed word rest =
      let s : ℕ = c.query.selector in
      let own : List Change = take (run_of s (c ∷ cs)) (c ∷ cs) in
      let more : List Change = drop (run_of s (c ∷ cs)) (c ∷ cs) in
      let whole : own ++ more ≡ c ∷ cs = take-append-drop (run_of s (c ∷ cs)) (c ∷ cs) in
      let range : s < 4096 = (All-head (IsStageableChange 1 1) c cs so.each).range.selector in
      let each = All-parts (IsStageableChange 1 1) own more (subst (All (IsStageableChange 1 1)) (sym whole) so.each) in
      let above : All (λ (e : Change). s < e.query.selector) more
      = run_more s (c ∷ cs) so.sorted (All-cons (λ (e : Change). s ≤ e.query.selector) c cs (omega arith) (from_head c cs (sorted_head order c cs so.sorted))) in
      record {
        geometry_is = is;
        kept = λ cell. kept cell ∙ so.kept cell;
        done = so.done ++ own;
        split = append_assoc so.done own more ∙ ap (λ (l : List Change). so.done ++ l) whole ∙ so.split;
        each = each.1;
        each_done = All-append (IsStageableChange 1 1) so.done own so.each_done each.0;
        sorted = sorted_drop (run_of s (c ∷ cs)) (c ∷ cs) so.sorted;
        below = All-append (λ (a : Change). All (λ (e : Change). a.query.selector < e.query.selector) more) so.done own
            (fewer so.done own more (c ∷ cs) whole so.below) (all_above own s more (run_own s (c ∷ cs)) above);
        places = λ held able. placed held so.done (can_turn words x first d changes cs c before now staged held so able);
        words_are = record {
          changed = λ t small e. words_changed_by t small e;
          others = λ t small e. words_others t small e;
        };
        rest_is = λ address out e. (let parts = or_parts (is_changed_place so.done address) (is_changed_place own address) (sym (place_append so.done own address) ∙ e) in
            rest address out (not_own address parts.1) ∙ so.rest_is address out parts.0);
      }
    where
      fewer : (done own more all : List Change) → own ++ more ≡ all → All (λ a. All (λ e. a.query.selector < e.query.selector) all) done
          → All (λ a. All (λ e. a.query.selector < e.query.selector) more) done
      fewer [] own more all is below = All-nil (λ (a : Change). All (λ (e : Change). a.query.selector < e.query.selector) more)
      fewer (a ∷ as1) own more all is below = All-cons (λ (a : Change). All (λ (e : Change). a.query.selector < e.query.selector) more) a as1
          (All-parts (λ (e : Change). a.query.selector < e.query.selector) own more (subst (All (λ (e : Change). a.query.selector < e.query.selector)) (sym is)
          (All-head (λ (a : Change). All (λ (e : Change). a.query.selector < e.query.selector) all) a as1 below))).1
          (fewer as1 own more all is (All-tail (λ (a : Change). All (λ (e : Change). a.query.selector < e.query.selector) all) a as1 below))

      all_above : (own : List Change) (s : ℕ) (more : List Change) → All (λ a. a.query.selector ≡ s) own → All (λ e. s < e.query.selector) more
          → All (λ a. All (λ e. a.query.selector < e.query.selector) more) own
      all_above [] s more each above = All-nil (λ (a : Change). All (λ (e : Change). a.query.selector < e.query.selector) more)
      all_above (a ∷ as1) s more each above = All-cons (λ (a : Change). All (λ (e : Change). a.query.selector < e.query.selector) more) a as1
          (subst (λ k. All (λ (e : Change). k < e.query.selector) more) (sym (All-head (λ (a : Change). a.query.selector ≡ s) a as1 each)) above)
          (all_above as1 s more (All-tail (λ (a : Change). a.query.selector ≡ s) a as1 each) above)

      place_append : (done own : List Change) (address : ℕ) → is_changed_place (done ++ own) address ≡ (is_changed_place done address || is_changed_place own address)
      place_append [] own address = refl
      place_append (a ∷ as1) own address = ap (λ b. (place_of a.query.selector == address) || b) (place_append as1 own address)
          ∙ or_assoc (place_of a.query.selector == address) (is_changed_place as1 address) (is_changed_place own address)
        where
          or_assoc : (a b c : Bool) → (a || (b || c)) ≡ ((a || b) || c)
          or_assoc true b c = refl
          or_assoc false b c = refl

      n_is : run_of c.query.selector (c ∷ cs) ≡ suc (run_of c.query.selector cs)
      n_is = if_true (c.query.selector == c.query.selector) (suc (run_of c.query.selector cs)) 0 (eq-eqb c.query.selector c.query.selector refl)

      own_changed : is_changed (take (run_of c.query.selector (c ∷ cs)) (c ∷ cs)) c.query.selector ≡ true
      own_changed = subst (λ k. is_changed (take k (c ∷ cs)) c.query.selector ≡ true) (sym n_is)
          (or_left (c.query.selector == c.query.selector) (is_changed (take (run_of c.query.selector cs) cs) c.query.selector) (eq-eqb c.query.selector c.query.selector refl))

      not_own : (address : ℕ) → is_changed_place (take (run_of c.query.selector (c ∷ cs)) (c ∷ cs)) address ≡ false → address ≢ place_of c.query.selector
      not_own address f e = true≢false (sym (ap (is_changed_place (take (run_of c.query.selector (c ∷ cs)) (c ∷ cs))) e
          ∙ changed_place (take (run_of c.query.selector (c ∷ cs)) (c ∷ cs)) c.query.selector ∙ own_changed) ∙ f)

      other_place : (t : ℕ) → t ≢ c.query.selector → place_of t ≢ place_of c.query.selector
      other_place t apart e = let f : 8192 + t ≡ 8192 + c.query.selector = e in apart (omega (arith, f))

      changed_in : (t : ℕ) → t ≢ c.query.selector → is_changed (so.done ++ take (run_of c.query.selector (c ∷ cs)) (c ∷ cs)) t ≡ is_changed so.done t
      changed_in t apart = changed_append so.done (take (run_of c.query.selector (c ∷ cs)) (c ∷ cs)) t
          ∙ ap (λ b. is_changed so.done t || b) (others_unchanged (take (run_of c.query.selector (c ∷ cs)) (c ∷ cs)) c.query.selector t (run_own c.query.selector (c ∷ cs)) apart)
          ∙ or_none (is_changed so.done t)
        where
          or_none : (b : Bool) → (b || false) ≡ b
          or_none true = refl
          or_none false = refl

      set_other : (t : ℕ) → t ≢ c.query.selector → get_or (with_words (staged ++ p ∷ []) words) t 0 ≡ get_or (with_words staged words) t 0
      set_other t apart = ap (λ (l : List ℕ). get_or l t 0) (with_append staged p words)
          ∙ get_or-set_other (with_words staged words) p.selector t p.word 0 (λ e. apart (e ∙ named))

      words_changed_by : (t : ℕ) → t < 4096 → is_changed (so.done ++ take (run_of c.query.selector (c ∷ cs)) (c ∷ cs)) t ≡ true
          → get_or (with_words (staged ++ p ∷ []) words) t 0 ≡ next (place_of t)
      words_changed_by t small e = by_cases (t == c.query.selector)
          (λ same. (let is : t ≡ c.query.selector = eqb-true t c.query.selector same in
          let mine : t ≡ p.selector = is ∙ sym named in
          ap (λ (l : List ℕ). get_or l t 0) (with_append staged p words)
          ∙ ap (λ k. get_or (set (with_words staged words) p.selector p.word) k 0) mine
          ∙ get_or-set_same (with_words staged words) p.selector p.word 0 (let n = same_count staged words in omega (arith, n, count, mine, small))
          ∙ word ∙ ap (λ k. next (place_of k)) (sym is)))
          (λ f. (let apart : t ≢ c.query.selector = (λ e. true≢false (sym (eq-eqb t c.query.selector e) ∙ f)) in
          set_other t apart ∙ so.words_are.changed t small (sym (changed_in t apart) ∙ e) ∙ sym (rest (place_of t) (small_place t small) (other_place t apart))))

      words_others : (t : ℕ) → t < 4096 → is_changed (so.done ++ take (run_of c.query.selector (c ∷ cs)) (c ∷ cs)) t ≡ false
          → get_or (with_words (staged ++ p ∷ []) words) t 0 ≡ get_or words t 0
      words_others t small e =
          let apart : t ≢ c.query.selector = (λ is. true≢false (sym (changed_append so.done (take (run_of c.query.selector (c ∷ cs)) (c ∷ cs)) t
          ∙ or_right (is_changed so.done t) (is_changed (take (run_of c.query.selector (c ∷ cs)) (c ∷ cs)) t) (ap (is_changed (take (run_of c.query.selector (c ∷ cs)) (c ∷ cs))) is ∙ own_changed)) ∙ e)) in
          set_other t apart ∙ so.words_are.others t small (sym (changed_in t apart) ∙ e)

  pub can_turn_at : (words : List ℕ) (x first d : Reading) (changes rest : List Change) (f : Change) (before now : Cells) (staged : List StagedWord) (held : Held)
      → 0 < length rest → f ≡ get_or rest 0 f → (so : TurnsSoFar g words x first changes rest before now d staged) → CanTakeTurns g before words x first held changes
      → (own : List Change) (s word : ℕ) → own ≡ take (run_of s rest) rest → s ≡ f.query.selector → word ≡ get_or words s 0
      → CanTurn g (is_tried now) x held so.done own s word d
  can_turn_at words x first d changes [] f before now staged held some is so able own s word own_is named word_is = absurd (omega arith)
  can_turn_at words x first d changes (c ∷ cs) f before now staged held some is so able own s word own_is named word_is =
      let e : s ≡ c.query.selector = named ∙ ap (λ (k : Change). k.query.selector) is in
      subst (λ b. CanTurn g (is_tried now) x held so.done own s b d) (sym word_is)
      (subst (λ (o : List Change). CanTurn g (is_tried now) x held so.done o s (get_or words s 0) d) (sym own_is)
      (subst (λ k. CanTurn g (is_tried now) x held so.done (take (run_of k (c ∷ cs)) (c ∷ cs)) k (get_or words k 0) d) (sym e)
      (can_turn words x first d changes cs c before now staged held so able)))

  pub next_turn_at : (words : List ℕ) (x first d next : Reading) (changes rest : List Change) (f : Change) (before now later : Cells) (staged : List StagedWord) (p : StagedWord)
      → length words ≡ 4096 → 0 < length rest → f ≡ get_or rest 0 f → TurnsSoFar g words x first changes rest before now d staged
      → (own more : List Change) (s word : ℕ) → own ≡ take (run_of s rest) rest → more ≡ drop (run_of s rest) rest → s ≡ f.query.selector → word ≡ get_or words s 0
      → p.selector ≡ s → later.geometry ≡ g → ((cell : ℕ) → is_kept later cell ≡ is_kept now cell)
      → ((held : Held) (done : List Change) → CanTurn g (is_tried now) x held done own s word d → Places g x held (done ++ own) next × AreUsed (is_tried later) next)
      → p.word ≡ next (place_of s) → ((address : ℕ) → owns address ≡ false → address ≢ place_of s → next address ≡ d address)
      → TurnsSoFar g words x first changes more before later next (staged ++ p ∷ [])
  next_turn_at words x first d next changes [] f before now later staged p count some is so own more s word own_is more_is named word_is p_is geometry kept placed p_word others = absurd (omega arith)
  next_turn_at words x first d next changes (c ∷ cs) f before now later staged p count some is so own more s word own_is more_is named word_is p_is geometry kept placed p_word others =
      let e : s ≡ c.query.selector = named ∙ ap (λ (k : Change). k.query.selector) is in
      let one : (held : Held) (done : List Change) → CanTurn g (is_tried now) x held done (take (run_of s (c ∷ cs)) (c ∷ cs)) s (get_or words s 0) d
      → Places g x held (done ++ take (run_of s (c ∷ cs)) (c ∷ cs)) next × AreUsed (is_tried later) next
      = λ held done can. subst (λ (o : List Change). Places g x held (done ++ o) next × AreUsed (is_tried later) next) own_is
      (placed held done (subst (λ b. CanTurn g (is_tried now) x held done own s b d) (sym word_is)
      (subst (λ (o : List Change). CanTurn g (is_tried now) x held done o s (get_or words s 0) d) (sym own_is) can))) in
      subst (λ (l : List Change). TurnsSoFar g words x first changes l before later next (staged ++ p ∷ [])) (ap (λ k. drop (run_of k (c ∷ cs)) (c ∷ cs)) (sym e) ∙ sym more_is)
      (next_turn words x first d next changes cs c before now later staged p count so (p_is ∙ e) geometry kept
      (subst (λ k. (held : Held) (done : List Change) → CanTurn g (is_tried now) x held done (take (run_of k (c ∷ cs)) (c ∷ cs)) k (get_or words k 0) d
      → Places g x held (done ++ take (run_of k (c ∷ cs)) (c ∷ cs)) next × AreUsed (is_tried later) next) e one)
      (p_word ∙ ap (λ k. next (place_of k)) e)
      (subst (λ k. (address : ℕ) → owns address ≡ false → address ≢ place_of k → next address ≡ d address) e others))
