-- Before the first turn: of every row that a batch touches what isn't used any more is taken away.
use Rattle.std.proofs.Common.{◌≡◌, ◌≢◌, ◌==◌, ℕ, suc, ◌+◌, ◌-◌, ◌*◌, Bool, true, false, ◌&&◌, ◌||◌, not, ◌⊎◌, inl, inr, refl, sym, ap, subst, ◌∙◌, arith}
use Rattle.std.proofs.lemmas.Bool.{and_parts, and_from, or_left, or_right, not_from_false, eqb-true, eq-eqb, true≢false}
use Rattle.dt_pages.specs.Reading.{Reading}
use Rattle.dt_cells.specs.Held.{Held, Row}
use Rattle.dt_cells.specs.HeldLaws.{by_cases, or_true}
use Rattle.dt_mrd.specs.Rows.{HasIndex, IsRow}
use Rattle.dt_mrd.specs.Reading.{owns, cell_at, tag_read}
use Rattle.dt_mrd.specs.ReadingLaws.{row_of, index_in_range, owned_cell}
use Rattle.dt_mrd.specs.Placing.{Shows, Rows, code_of}
use Rattle.dt_mrd.specs.MrdLaws.{small_code}
use Rattle.dt_mrd.specs.Kept.{AreUsed, AreTaken}
use Rattle.dt_mrd.specs.Midway.{HasNow, IsNow, Midway, Touches, HasLeft, IsLeft, Cleared, WasRowOf, TakenAway}
use Rattle.dt_mrd.proofs.Midway.{word_tag}

not_true : (b : Bool) → not b ≡ true → b ≡ false
not_true true e = absurd (true≢false (sym e))
not_true false e = refl

module _ (x : Reading) (held next : Held) (after : Row → ℕ) (sh : Shows x held) where
  abbrev rows : Rows
  rows = record { held = held; next = next; before = tag_read x; after = after }

  left_held : (gone : Row → Bool) (row : Row) (class : ℕ) → HasLeft rows gone row class → HasIndex held row class
  left_held gone row class has = elim has [ inl a ↦ a.1 | inr b ↦ b.1 ]

  left_row : (gone : Row → Bool) (row : Row) → IsLeft rows gone row → IsRow held row
  left_row gone row is = elim is [ inl a ↦ a.1 | inr b ↦ b.1 ]

  -- at first all is left
  pub nothing_gone : (d : Reading) (used taken : ℕ → Bool) → ((address : ℕ) → owns address ≡ true → d address ≡ x address)
      → AreUsed used x → AreTaken taken (tag_read x) held → Cleared rows (λ row. false) d used taken
  nothing_gone d used taken same are by = record {
    set = λ row class has. (let index = left_held (λ r. false) row class has in
        same (cell_at (tag_read x row) class) (owned_cell (tag_read x row) class (sh.room row (row_of held row class index)) (index_in_range held row.0 row.1 class sh.tabled index))
        ∙ sh.cells.set row class index);
    rest = λ address own some. (let u = sh.cells.used address own (λ z. some (same address own ∙ z)) in (u.0, u.1, inr (refl, u.2), u.3));
    used_are = λ cell. are cell ∙ by_cases (owns (67108864 + cell))
        (λ t. ap (λ w. owns (67108864 + cell) && not (w == 0)) (sym (same (67108864 + cell) t)))
        (λ f. ap (λ b. b && not (x (67108864 + cell) == 0)) f ∙ sym (ap (λ b. b && not (d (67108864 + cell) == 0)) f));
    taken_by = λ row is displacement e. by.of_rows row (left_row (λ r. false) row is) displacement e;
    taken_of = λ displacement e. (let r = by.no_other displacement e in (r.0, inr (refl, r.1), r.2));
  }

  module _ (gone : Row → Bool) (d : Reading) (used taken : ℕ → Bool) (c : Cleared rows gone d used taken) where
    -- a cell is of one row
    left_one : (row other : Row) (class k : ℕ) → HasLeft rows gone row class → HasLeft rows gone other k
        → cell_at (tag_read x row) class ≡ cell_at (tag_read x other) k → row ≡ other
    left_one row other class k has is same =
        let first = left_held gone row class has in
        let second = left_held gone other k is in
        sh.apart row other (row_of held row class first) (row_of held other k second)
        (word_tag (tag_read x row) (tag_read x other) (code_of held (tag_read x) row class) (code_of held (tag_read x) other k)
        (small_code (tag_read x) held sh.tabled sh.room row.0 row.1 class first) (small_code (tag_read x) held sh.tabled sh.room other.0 other.1 k second)
        (sym (c.set row class has) ∙ ap d same ∙ c.set other k is))

    module _ (turn : Row) (waits : gone turn ≡ false) (before : ℕ) (old new : ℕ → Bool) (stays : Bool) (of : WasRowOf rows turn before old new stays)
        (used_then taken_then : ℕ → Bool) (then_words : Reading) (away : TakenAway before old new stays used taken d used_then taken_then then_words)
        (gone_then : Row → Bool) (gone_turn : gone_then turn ≡ true) (gone_same : (row : Row) → row ≢ turn → gone_then row ≡ gone row)
        (same : (row : Row) → (row ≡ turn) ⊎ (row ≢ turn)) where
      was_row : (class : ℕ) → old class ≡ true → IsRow held turn
      was_row class o = row_of held turn class (of.old_is class o)

      back : (row : Row) (class : ℕ) → row ≢ turn → HasLeft rows gone_then row class → HasLeft rows gone row class
      back row class differs has = elim has [
        | inl a ↦ inl (sym (gone_same row differs) ∙ a.0, a.1, a.2)
        | inr b ↦ inr (sym (gone_same row differs) ∙ b.0, b.1)
      ]

      forth : (row : Row) (class : ℕ) → row ≢ turn → HasLeft rows gone row class → HasLeft rows gone_then row class
      forth row class differs has = elim has [
        | inl a ↦ inl (gone_same row differs ∙ a.0, a.1, a.2)
        | inr b ↦ inr (gone_same row differs ∙ b.0, b.1)
      ]

      row_back : (row : Row) → row ≢ turn → IsLeft rows gone_then row → IsLeft rows gone row
      row_back row differs is = elim is [
        | inl a ↦ inl (sym (gone_same row differs) ∙ a.0, a.1, a.2)
        | inr b ↦ inr (sym (gone_same row differs) ∙ b.0, b.1)
      ]

      row_forth : (row : Row) → row ≢ turn → IsLeft rows gone row → IsLeft rows gone_then row
      row_forth row differs is = elim is [
        | inl a ↦ inl (gone_same row differs ∙ a.0, a.1, a.2)
        | inr b ↦ inr (gone_same row differs ∙ b.0, b.1)
      ]

      -- the row itself has left what it has before and after
      turn_left : (class : ℕ) → HasLeft rows gone_then turn class → HasIndex held turn class × HasIndex next turn class
      turn_left class has = elim has [
        | inl a ↦ (a.1, a.2)
        | inr b ↦ absurd (true≢false (sym gone_turn ∙ b.0))
      ]

      turn_row : IsLeft rows gone_then turn → IsRow held turn × IsRow next turn
      turn_row is = elim is [
        | inl a ↦ (a.1, a.2)
        | inr b ↦ absurd (true≢false (sym gone_turn ∙ b.0))
      ]

      -- a word that is left stays
      turn_word : (class : ℕ) → HasIndex held turn class → HasIndex next turn class → then_words (cell_at (tag_read x turn) class) ≡ d (cell_at (tag_read x turn) class)
      turn_word class h n = elim (away.clears (cell_at (tag_read x turn) class)) [
        | inl lost ↦ (let parts = and_parts (old lost.0) (not (new lost.0)) lost.2 in
            let tags : before ≡ tag_read x turn = of.before_is (row_of held turn class h) in
            let at : 67108864 + (before - 1 + lost.0) ≡ 67108864 + (tag_read x turn - 1 + class) = lost.3 in
            let one : lost.0 ≡ class = omega (arith, at, tags) in
            absurd (true≢false (sym (of.new_has class n) ∙ ap new (sym one) ∙ not_true (new lost.0) parts.1)))
        | inr rest ↦ rest.1
      ]

      other_word : (row : Row) (class : ℕ) → row ≢ turn → HasLeft rows gone row class → then_words (cell_at (tag_read x row) class) ≡ d (cell_at (tag_read x row) class)
      other_word row class differs has = elim (away.clears (cell_at (tag_read x row) class)) [
        | inl lost ↦ (let parts = and_parts (old lost.0) (not (new lost.0)) lost.2 in
            let tags : before ≡ tag_read x turn = of.before_is (was_row lost.0 parts.0) in
            absurd (differs (sym (left_one turn row lost.0 class (inr (waits, of.old_is lost.0 parts.0)) has (ap (λ t. cell_at t lost.0) (sym tags) ∙ lost.3)))))
        | inr rest ↦ rest.1
      ]

      rest_then : (address : ℕ) → owns address ≡ true → then_words address ≢ 0
          → (row : Row) × (class : ℕ) × HasLeft rows gone_then row class × (cell_at (tag_read x row) class ≡ address)
      rest_then address own some = elim (away.clears address) [
        | inl lost ↦ absurd (some lost.4)
        | inr rest ↦ (let n = c.rest address own (λ z. some (rest.1 ∙ z)) in
            elim (same n.0) [
              | inl e ↦ (let has : HasIndex held turn n.1 = subst (λ (r : Row). HasIndex held r n.1) e (left_held gone n.0 n.1 n.2) in
                  let at : cell_at (tag_read x turn) n.1 ≡ address = subst (λ (r : Row). cell_at (tag_read x r) n.1 ≡ address) e n.3 in
                  by_cases (new n.1)
                  (λ t. (turn, n.1, inl (gone_turn, has, of.new_is n.1 t), at))
                  (λ f. absurd (rest.0 n.1 (index_in_range held turn.0 turn.1 n.1 sh.tabled has)
                  (and_from (old n.1) (not (new n.1)) (of.old_has n.1 has) (not_from_false (new n.1) f))
                  (ap (λ t. cell_at t n.1) (of.before_is (row_of held turn n.1 has)) ∙ at))))
              | inr differs ↦ (n.0, n.1, forth n.0 n.1 differs n.2, n.3)
            ])
      ]

      used_then_are : AreUsed used_then then_words
      used_then_are cell = elim (away.frees cell) [
        | inl lost ↦ (let at : before - 1 + lost.0 ≡ cell = lost.3 in
            lost.4 ∙ elim (away.clears (67108864 + cell)) [
              | inl gone ↦ sym (ap (λ w. owns (67108864 + cell) && not (w == 0)) gone.4 ∙ never (owns (67108864 + cell)))
              | inr rest ↦ absurd (rest.0 lost.0 lost.1 lost.2 (ap (λ n. 67108864 + n) at))
            ])
        | inr rest ↦ elim (away.clears (67108864 + cell)) [
          | inl gone ↦ (let at : 67108864 + (before - 1 + gone.0) ≡ 67108864 + cell = gone.3 in absurd (rest.0 gone.0 gone.1 gone.2 (omega (arith, at))))
          | inr words ↦ rest.1 ∙ c.used_are cell ∙ ap (λ w. owns (67108864 + cell) && not (w == 0)) (sym words.1)
        ]
      ]
        where
          never : (b : Bool) → (b && not (0 == 0)) ≡ false
          never true = refl
          never false = refl

      taken_then_by : (row : Row) → IsLeft rows gone_then row → (displacement : ℕ) → tag_read x row ≡ suc displacement → taken_then displacement ≡ true
      taken_then_by row is displacement e = away.gives displacement ∙ elim (same row) [
        | inl a ↦ (let both = turn_row (subst (λ (r : Row). IsLeft rows gone_then r) a is) in
            and_from (stays || not (suc displacement == before)) (taken displacement) (or_left stays (not (suc displacement == before)) (of.stays_has both.1))
            (c.taken_by turn (inr (waits, both.0)) displacement (ap (tag_read x) (sym a) ∙ e)))
        | inr differs ↦ (let here = row_back row differs is in
            and_from (stays || not (suc displacement == before)) (taken displacement)
            (or_right stays (not (suc displacement == before)) (not_from_false (suc displacement == before) (by_cases (suc displacement == before)
            (λ t. (let equal : suc displacement ≡ before = eqb-true (suc displacement) before t in
            let was : IsRow held turn = of.was (λ z. (let none : suc displacement ≡ 0 = equal ∙ z in omega (arith, none))) in
            absurd (differs (sh.apart row turn (left_row gone row here) was (e ∙ equal ∙ of.before_is was)))))
            (λ f. f))))
            (c.taken_by row here displacement e))
      ]

      taken_then_of : (displacement : ℕ) → taken_then displacement ≡ true → (row : Row) × IsLeft rows gone_then row × (tag_read x row ≡ suc displacement)
      taken_then_of displacement e =
          let parts = and_parts (stays || not (suc displacement == before)) (taken displacement) (sym (away.gives displacement) ∙ e) in
          let n = c.taken_of displacement parts.1 in
          elim (same n.0) [
            | inl a ↦ (let was : IsRow held turn = subst (IsRow held) a (left_row gone n.0 n.1) in
                let tag : tag_read x turn ≡ suc displacement = ap (tag_read x) (sym a) ∙ n.2 in
                elim (or_true stays (not (suc displacement == before)) parts.0) [
                  | inl s ↦ (turn, inl (gone_turn, was, of.stays_is s), tag)
                  | inr apart ↦ absurd (true≢false (sym (eq-eqb (suc displacement) before (sym tag ∙ sym (of.before_is was))) ∙ not_true (suc displacement == before) apart))
                ])
            | inr differs ↦ (n.0, row_forth n.0 differs n.1, n.2)
          ]

      pub taken_away : Cleared rows gone_then then_words used_then taken_then
      taken_away = record {
        set = λ row class has. elim (same row) [
          | inl e ↦ (let both = turn_left class (subst (λ (r : Row). HasLeft rows gone_then r class) e has) in
              subst (λ (r : Row). then_words (cell_at (tag_read x r) class) ≡ tag_read x r * 4294967296 + code_of held (tag_read x) r class) (sym e)
              (turn_word class both.0 both.1 ∙ c.set turn class (inr (waits, both.0))))
          | inr differs ↦ (let here = back row class differs has in other_word row class differs here ∙ c.set row class here)
        ];
        rest = rest_then;
        used_are = used_then_are;
        taken_by = taken_then_by;
        taken_of = taken_then_of;
      }

    -- when it was done for all rows that are touched the first turn can begin
    pub all_gone : (touched : Row → Bool) → Touches rows touched → ((row : Row) → touched row ≡ true → gone row ≡ true) → Midway rows (λ row. false) d used taken
    all_gone touched touches all = record {
      room = λ row is. sh.room row (was row is);
      apart = λ row other is has e. sh.apart row other (was row is) (was other has) e;
      small = λ row class has. small_code (tag_read x) held sh.tabled sh.room row.0 row.1 class (index row class has);
      set = λ row class has. c.set row class (left row class has);
      rest = λ address own some. (let n = c.rest address own some in (n.0, n.1, now n.0 n.1 n.2, n.3));
      used_are = c.used_are;
      taken_by = λ row is displacement e. c.taken_by row (left_is row is) displacement e;
      taken_of = λ displacement e. (let n = c.taken_of displacement e in (n.0, now_is n.0 n.1, n.2));
    }
      where
        was : (row : Row) → IsNow rows (λ r. false) row → IsRow held row
        was row is = elim is [ inl a ↦ absurd (true≢false (sym a.0)) | inr b ↦ b.1 ]

        index : (row : Row) (class : ℕ) → HasNow rows (λ r. false) row class → HasIndex held row class
        index row class has = elim has [ inl a ↦ absurd (true≢false (sym a.0)) | inr b ↦ b.1 ]

        left : (row : Row) (class : ℕ) → HasNow rows (λ r. false) row class → HasLeft rows gone row class
        left row class has = elim has [
          | inl a ↦ absurd (true≢false (sym a.0))
          | inr b ↦ by_cases (gone row) (λ t. inl (t, b.1, b.2)) (λ f. inr (f, b.1))
        ]

        left_is : (row : Row) → IsNow rows (λ r. false) row → IsLeft rows gone row
        left_is row is = elim is [
          | inl a ↦ absurd (true≢false (sym a.0))
          | inr b ↦ by_cases (gone row) (λ t. inl (t, b.1, b.2)) (λ f. inr (f, b.1))
        ]

        untouched : (row : Row) → gone row ≡ false → touched row ≡ false
        untouched row f = by_cases (touched row) (λ t. absurd (true≢false (sym (all row t) ∙ f))) (λ g. g)

        now : (row : Row) (class : ℕ) → HasLeft rows gone row class → HasNow rows (λ r. false) row class
        now row class has = elim has [
          | inl a ↦ inr (refl, a.1, a.2)
          | inr b ↦ inr (refl, b.1, touches.keeps row class (untouched row b.0) b.1)
        ]

        now_is : (row : Row) → IsLeft rows gone row → IsNow rows (λ r. false) row
        now_is row is = elim is [
          | inl a ↦ inr (refl, a.1, a.2)
          | inr b ↦ inr (refl, b.1, (b.1.0, touches.keeps row b.1.0 (untouched row b.0) b.1.1))
        ]
