use Rattle.std.proofs.Common.{◌≡◌, ◌∙◌, ap, sym, subst, ℕ, ◌<◌}
use Rattle.dt_pages.specs.Reading.{addresses}
use Rattle.dt_pages.specs.Image.{look_up}
use Rattle.dt_pages.specs.Draft.{Drafted, laid_over}
use Rattle.dt_pages.specs.Numbering.{IsNumbering}
use Rattle.dt_pages.specs.Planned.{Planned}
use Rattle.dt_pages.specs.Paged.{Paged, numbering}
use Rattle.dt_pages.proofs.Adopted.{same_numbering, numbers_low, adopted, adopted_words}
use Rattle.dt_pages.proofs.paged.PagedTree.adopt.Goals as goal

pub set_all-requires-clause-in_range : goal.set_all-requires-clause-in_range
set_all-requires-clause-in_range c = numbers_low c.plan.inside.changes (numbering c.args.self.now)
    (subst (λ (d : Drafted). IsNumbering (laid_over d (numbering c.args.self.now))) (sym (ap (λ (p : Planned). p.changes) c.plan.view_is)) c.requires.2.follows.numbers)

pub invariant_of-self : goal.invariant_of-self
invariant_of-self c =
    let old : Paged = record { image = c.self.inside.tree; page_numbers = c.self.inside.page_numbers.items } in
    let new : Paged = record { image = c.adopt.new.self; page_numbers = c.set_all.new.numbers.items } in
    let follows : IsNumbering (laid_over c.plan.inside.changes (numbering old)) =
    subst (λ (p : Paged). IsNumbering (laid_over c.plan.inside.changes (numbering p))) (sym c.self.view_is)
    (subst (λ (d : Drafted). IsNumbering (laid_over d (numbering c.args.self.now))) (sym (ap (λ (p : Planned). p.changes) c.plan.view_is)) c.requires.2.follows.numbers) in (
      c.set_all.ensures.count,
      same_numbering (numbering new) (laid_over c.plan.inside.changes (numbering old)) (adopted old new c.plan.inside.changes c.adopt.ensures c.set_all.ensures.numbers) follows,
    )

pub returns-clause-numbers : goal.returns-clause-numbers
returns-clause-numbers c = λ position low.
    let old : Paged = record { image = c.self.inside.tree; page_numbers = c.self.inside.page_numbers.items } in
    let new : Paged = record { image = c.adopt.new.self; page_numbers = c.set_all.new.numbers.items } in
    adopted old new c.plan.inside.changes c.adopt.ensures c.set_all.ensures.numbers position low
    ∙ ap (λ (p : Planned). laid_over p.changes (numbering old) position) c.plan.view_is
    ∙ ap (λ (p : Paged). laid_over c.args.plan.changes (numbering p) position) c.self.view_is

pub returns-clause-words : goal.returns-clause-words
returns-clause-words c = λ drafted list planned address low.
    let old : Paged = record { image = c.self.inside.tree; page_numbers = c.self.inside.page_numbers.items } in
    let new : Paged = record { image = c.adopt.new.self; page_numbers = c.set_all.new.numbers.items } in
    let same : (a : ℕ) → a < addresses → laid_over c.plan.inside.changes (numbering old) a ≡ laid_over drafted (numbering old) a =
    λ a below. ap (λ (p : Planned). laid_over p.changes (numbering old) a) c.plan.view_is
    ∙ ap (λ (p : Paged). laid_over c.args.plan.changes (numbering p) a) c.self.view_is
    ∙ planned.words a below ∙ sym (ap (λ (p : Paged). laid_over drafted (numbering p) a) c.self.view_is) in
    adopted_words old new c.plan.inside.changes c.adopt.ensures c.set_all.ensures.numbers drafted same address low
    ∙ ap (λ (p : Paged). laid_over drafted (look_up p.image) address) c.self.view_is
