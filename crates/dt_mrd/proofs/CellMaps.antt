-- Cells of a row as an ordered map from classes.
use Rattle.std.proofs.Common.{◌≡◌, ◌==◌, ℕ, ◌+◌, ◌<◌, Option, List, ◌∷◌, length, drop, get_or, cond, sym, ap, ◌∙◌, arith}
use Rattle.std.specs.Ordering.{nat_cmp}
use Rattle.std.specs.BTreeMap as tree
use Rattle.std.specs.BTreeMap.{BTreeMap, is_at}
use Rattle.std.proofs.lemmas.Bool.Decides.{nat_tests}
use Rattle.std.proofs.lemmas.List.{drop_more}
use Rattle.dt_scratch.specs.declared.reply.Change.{Change}
use Rattle.dt_mrd.specs.declared.kept_row.Next.{Next}
use Rattle.dt_mrd.specs.declared.kept_row.KeptRow.{KeptRow}
use Rattle.dt_mrd.specs.declared.turn.Turn.{Turn}
use Rattle.dt_mrd.specs.Kept.{row_at, next_in, key_of_next, key_along}
use Rattle.dt_mrd.specs.Changing.{Cells, put_at, change_put, changes_put, turn_put, turns_put}

at_class : (class other : ℕ) → is_at (nat_cmp class) other ≡ (other == class)
at_class class other = grind (arith, nat_tests)

-- an ordered map that is updated has the cell at the class, and all others as before
pub put_gives : (m n : BTreeMap ℕ Next) (class : ℕ) (w : Option Next) → tree.Updates nat_cmp m n class w
    → (other : ℕ) → tree.get nat_cmp n other ≡ put_at (tree.get nat_cmp m) class w other
put_gives m n class w u other = u.0 other ∙ ap (λ b. cond b w (tree.get nat_cmp m other)) (at_class class other)

-- one change, or one turn, after the others
pub changes_step : (before now : Cells) (depth : ℕ) (changes : List Change) (at : ℕ) (change : Change) → at < length changes → get_or changes at change ≡ change
    → ((other : ℕ) → now other ≡ change_put before depth change other)
    → (other : ℕ) → changes_put now depth (drop (at + 1) changes) other ≡ changes_put before depth (drop at changes) other
changes_step before now depth changes at change below is put other =
    ap (λ (cells : Cells). changes_put cells depth (drop (at + 1) changes) other) (λ i q. put q i)
    ∙ ap (λ (c : Change). changes_put before depth (c ∷ drop (at + 1) changes) other) (sym is)
    ∙ ap (λ (l : List Change). changes_put before depth l other) (sym (drop_more changes at change below))

pub turns_step : (before now : Cells) (depth : ℕ) (turns : List Turn) (at : ℕ) (turn : Turn) → at < length turns → get_or turns at turn ≡ turn
    → ((other : ℕ) → now other ≡ turn_put before depth turn other)
    → (other : ℕ) → turns_put now depth (drop (at + 1) turns) other ≡ turns_put before depth (drop at turns) other
turns_step before now depth turns at turn below is put other =
    ap (λ (cells : Cells). turns_put cells depth (drop (at + 1) turns) other) (λ i q. put q i)
    ∙ ap (λ (t : Turn). turns_put before depth (t ∷ drop (at + 1) turns) other) (sym is)
    ∙ ap (λ (l : List Turn). turns_put before depth l other) (sym (drop_more turns at turn below))
