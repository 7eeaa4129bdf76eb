-- The text of a generated script: its lines, in which each name is spelled by its number.
use Rattle.std.specs.Prelude.{ℕ, List, [], ◌∷◌, ◌++◌, map, flat_map, codes, decimal}
use Rattle.std.specs.List.{join_with_byte}
use Rattle.dt_script.specs.Word.{Word, Plain, Number, Class, Selector, Body}
use Rattle.dt_script.specs.Line.{words_of}
use Rattle.dt_script.specs.GeneratedLines.{generated_lines}
use Rattle.dt_script.specs.declared.line.Line.{Line}

-- a word: classes are `c0`, `c1` and so on, selectors `s0` and so on, bodies `b0` and so on
abbrev pub generated_word : Word → List ℕ
generated_word (Plain text) = text
generated_word (Number number) = decimal number
generated_word (Class number) = codes "c" ++ decimal number
generated_word (Selector number) = codes "s" ++ decimal number
generated_word (Body number) = codes "b" ++ decimal number

-- a line: its words with one space between two
abbrev pub generated_line : Line → List ℕ
generated_line line = join_with_byte 32 (map generated_word (words_of line))

-- a line with the line feed that ends it
abbrev pub ended : Line → List ℕ
ended line = generated_line line ++ 10 ∷ []

-- lines, one after the other
abbrev pub text_of_lines : List Line → List ℕ
text_of_lines lines = flat_map ended lines

-- the text that is generated from a number, a number of classes and a number of selectors
abbrev pub generated_text : ℕ → ℕ → ℕ → List ℕ
generated_text number classes selectors = text_of_lines (generated_lines number classes selectors)
