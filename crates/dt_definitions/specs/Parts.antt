-- A program by its parts.
use Rattle.dt_definitions.specs.Program.{Program}
use Rattle.dt_definitions.specs.declared.parts.Parts.{Parts}

-- the program that the three parts make
abbrev pub program_of : Parts → Program
program_of parts = record { graph = parts.graph; selectors = parts.selectors; definitions = parts.definitions.all }
