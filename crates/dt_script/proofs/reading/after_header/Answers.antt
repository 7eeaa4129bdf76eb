use Rattle.std.proofs.Common.{[], ◌∷◌, subst}
use Rattle.dt_script.specs.NameBook.{empty_book}
use Rattle.dt_script.specs.Place.{StandsAfter}
use Rattle.dt_script.specs.declared.line.Line.{Line}
use Rattle.dt_script.proofs.SamePlace.{header_written, header_is_line}
use Rattle.dt_script.proofs.reading.after_header.Goals as goal

pub returns-in-Some : goal.returns-in-Some
returns-in-Some c =
    subst (λ (l : Line). StandsAfter c.take.new.self (l ∷ [])) (header_written empty_book c.in-Some.header c.in-Some.ensures) (c.take.ensures [] empty_book c.new-places.ensures)

pub returns-in_default : goal.returns-in_default
returns-in_default c = absurd (header_is_line c.in_default.ensures)
