use Rattle.std.proofs.Common.{subst, sym, ◌∙◌}
use Rattle.dt_pages.specs.Image.{look_up}
use Rattle.dt_definitions.specs.Program.{Program}
use Rattle.dt_cells.specs.Held.{held_after}
use Rattle.dt_cells.specs.Following.{IsTableOf}
use Rattle.dt_tables.specs.Words.{AreNextWords}
use Rattle.dt_tables.proofs.Premises.{covered_can_follow}
use Rattle.dt_tables.proofs.NextWords.{next_words}
use Rattle.dt_tables.proofs.following.follow_tried.Goals as goal

pub follow-requires-clause-table : goal.follow-requires-clause-table
follow-requires-clause-table g c κs within = (
  c.requires.table.0,
  covered_can_follow c.law_of_cells.ensures.understood c.law_of_cells.ensures.answers c.law_of_answers.ensures.in_range c.cells_follow.ensures
      c.stands-old.result.now c.tried-new.result.now c.law.ensures.lawful c.law-2.ensures.lawful c.ARITIES.result c.deref.result.now
      (c.in_ok-changes.ensures.covered.0, c.in_ok-changes.ensures.covered.1, c.deref.ensures.value ∙ c.in_ok-changes.ensures.covered.2)
      g.K.TableKind.kind ((g.met.K.TableKind g.world.𝓛 g.world.𝓜 g.world.𝓡 ((λ s x. x), (λ x. x), (λ x. x), λ x. x)).covers ∙ sym c.ARITIES.ensures) (g.K.TableKind.stands c.args.kind.now) (g.K.TableKind.low c.args.kind.now) c.requires.low
      (look_up c.args.tree.now) c.requires.table.0 c.in_ok-changes.ensures.within
      (subst (λ (p : Program). IsTableOf g.K.TableKind.kind (g.K.TableKind.stands c.args.kind.now) 1 (look_up c.args.tree.now) c.requires.table.0 p)
      (sym c.stands-old.ensures) c.requires.table.1),
)

pub returns-in-Ok-clause-table : goal.returns-in-Ok-clause-table
returns-in-Ok-clause-table g c = (
  held_after c.requires.table.0 c.deref.result.now,
  subst (λ (p : Program). IsTableOf g.K.TableKind.kind (g.K.TableKind.stands c.follow.new.kind) 1 (look_up c.follow.new.tree) (held_after c.requires.table.0 c.deref.result.now) p)
      c.tried-new.ensures
      (subst (λ n. IsTableOf g.K.TableKind.kind (g.K.TableKind.stands c.follow.new.kind) n (look_up c.follow.new.tree) (held_after c.requires.table.0 c.deref.result.now) c.tried-new.result.now)
      c.requires.low
      (c.in-Ok.ensures.table c.requires.table.0
      (covered_can_follow c.law_of_cells.ensures.understood c.law_of_cells.ensures.answers c.law_of_answers.ensures.in_range c.cells_follow.ensures
      c.stands-old.result.now c.tried-new.result.now c.law.ensures.lawful c.law-2.ensures.lawful c.ARITIES.result c.deref.result.now
      (c.in_ok-changes.ensures.covered.0, c.in_ok-changes.ensures.covered.1, c.deref.ensures.value ∙ c.in_ok-changes.ensures.covered.2)
      g.K.TableKind.kind ((g.met.K.TableKind g.world.𝓛 g.world.𝓜 g.world.𝓡 ((λ s x. x), (λ x. x), (λ x. x), λ x. x)).covers ∙ sym c.ARITIES.ensures) (g.K.TableKind.stands c.args.kind.now) (g.K.TableKind.low c.args.kind.now) c.requires.low
      (look_up c.args.tree.now) c.requires.table.0 c.in_ok-changes.ensures.within
      (subst (λ (p : Program). IsTableOf g.K.TableKind.kind (g.K.TableKind.stands c.args.kind.now) 1 (look_up c.args.tree.now) c.requires.table.0 p)
      (sym c.stands-old.ensures) c.requires.table.1)))),
)

pub returns-in-Ok-clause-words : goal.returns-in-Ok-clause-words
returns-in-Ok-clause-words g c =
    subst (λ (p : Program). AreNextWords g.K.TableKind.kind p c.args.programs.now.tried (look_up c.args.tree.now) (look_up c.follow.new.tree)) c.stands-old.ensures
    (subst (λ (p : Program). AreNextWords g.K.TableKind.kind c.stands-old.result.now p (look_up c.args.tree.now) (look_up c.follow.new.tree)) c.tried-new.ensures
    (next_words g.K.TableKind.kind (g.K.TableKind.stands c.args.kind.now) ((g.met.K.TableKind g.world.𝓛 g.world.𝓜 g.world.𝓡 ((λ s x. x), (λ x. x), (λ x. x), λ x. x)).standing.shows c.args.kind.now)
    c.stands-old.result.now c.tried-new.result.now (look_up c.args.tree.now) (look_up c.follow.new.tree) c.requires.table.0
    (subst (λ (p : Program). IsTableOf g.K.TableKind.kind (g.K.TableKind.stands c.args.kind.now) 1 (look_up c.args.tree.now) c.requires.table.0 p)
    (sym c.stands-old.ensures) c.requires.table.1)
    c.ARITIES.result ((g.met.K.TableKind g.world.𝓛 g.world.𝓜 g.world.𝓡 ((λ s x. x), (λ x. x), (λ x. x), λ x. x)).covers ∙ sym c.ARITIES.ensures) c.deref.result.now
    (c.in_ok-changes.ensures.covered.0, c.in_ok-changes.ensures.covered.1, c.deref.ensures.value ∙ c.in_ok-changes.ensures.covered.2)
    (c.in-Ok.ensures.words c.requires.table.0
    (covered_can_follow c.law_of_cells.ensures.understood c.law_of_cells.ensures.answers c.law_of_answers.ensures.in_range c.cells_follow.ensures
    c.stands-old.result.now c.tried-new.result.now c.law.ensures.lawful c.law-2.ensures.lawful c.ARITIES.result c.deref.result.now
    (c.in_ok-changes.ensures.covered.0, c.in_ok-changes.ensures.covered.1, c.deref.ensures.value ∙ c.in_ok-changes.ensures.covered.2)
    g.K.TableKind.kind ((g.met.K.TableKind g.world.𝓛 g.world.𝓜 g.world.𝓡 ((λ s x. x), (λ x. x), (λ x. x), λ x. x)).covers ∙ sym c.ARITIES.ensures) (g.K.TableKind.stands c.args.kind.now) (g.K.TableKind.low c.args.kind.now) c.requires.low
    (look_up c.args.tree.now) c.requires.table.0 c.in_ok-changes.ensures.within
    (subst (λ (p : Program). IsTableOf g.K.TableKind.kind (g.K.TableKind.stands c.args.kind.now) 1 (look_up c.args.tree.now) c.requires.table.0 p)
    (sym c.stands-old.ensures) c.requires.table.1)))))
