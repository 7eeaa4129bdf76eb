-- What a command line means. Read in this order: what a number is, which options the words write, the limits of a run,
-- and the command; then the worked examples.
pub mod Number
pub mod Options
pub mod Limits
pub mod CommandOf
-- worked examples
pub mod CommandExamples
-- how the words are passed on to the parser of options: no public clause names it
pub mod Parsed
