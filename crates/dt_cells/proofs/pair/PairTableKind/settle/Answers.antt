use Rattle.std.proofs.Common.{subst, ◌∙◌}
use Rattle.dt_cells.specs.Held.{Held}
use Rattle.dt_cells.specs.Pair.{single_held, multi_held, single_changes, multi_changes}
use Rattle.dt_cells.specs.PairHeldLaws.{single_after, multi_after}
use Rattle.dt_cells.specs.PairLaws.{keeps_first, keeps_rest}
use Rattle.dt_cells.specs.PartLaws.{part_stands}
use Rattle.dt_cells.proofs.pair.PairTableKind.settle.Goals as goal

pub returns-clause-stands : goal.returns-clause-stands
returns-clause-stands g c = λ x held changes y st follows pl stay.
    let la = g.met.A.TableKind.laws in
    let lb = g.met.B.TableKind.laws in
    record {
      first = subst (λ (v : Held). g.A.TableKind.stands c.settle.new.self y v) (single_after held changes)
          (part_stands g.A.TableKind.kind la (g.A.TableKind.stands c.settle.new.self) (λ x' y' h st' same. g.met.A.TableKind.standing.elsewhere c.settle.new.self x' y' h st' same)
          x pl.first y (single_held held) (single_changes changes)
          (λ z placed stays. c.settle.ensures.stands x (single_held held) (single_changes changes) z st.first follows.first placed stays)
          pl.by_first (keeps_first g.A.TableKind.kind g.B.TableKind.kind la lb x y held changes pl stay));
      rest = subst (λ (v : Held). g.B.TableKind.stands c.settle-2.new.self y v) (multi_after held changes)
          (part_stands g.B.TableKind.kind lb (g.B.TableKind.stands c.settle-2.new.self) (λ x' y' h st' same. g.met.B.TableKind.standing.elsewhere c.settle-2.new.self x' y' h st' same)
          x pl.rest y (multi_held held) (multi_changes changes)
          (λ z placed stays. c.settle-2.ensures.stands x (multi_held held) (multi_changes changes) z st.rest follows.rest placed stays)
          pl.by_rest (keeps_rest g.A.TableKind.kind g.B.TableKind.kind la lb x y held changes pl stay));
      first_low = c.settle.ensures.low ∙ st.first_low;
      rest_low = c.settle-2.ensures.low ∙ st.rest_low;
    }
