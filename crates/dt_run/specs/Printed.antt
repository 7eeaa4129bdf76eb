-- What a sink took of the text of a log.
use Rattle.std.specs.Prelude.{◌≡◌, ℕ, List, Option, Some}
use Rattle.std.specs.Io.KnownBytes.{Appends}
use Rattle.dt_outside.specs.Putting.{AppendsPrefix}
use Rattle.dt_script.specs.NameBook.{NameBook}
use Rattle.dt_run.specs.Log.{Log}
use Rattle.dt_run.specs.Text.{text_of}

-- the log has a text, and the sink took all of it
abbrev pub TookText : NameBook → Log → Option (List ℕ) → Option (List ℕ) → Type 0
TookText book log before after = (text : List ℕ) × (text_of book log ≡ Some text) × Appends before after text

-- the log has a text, and the sink took a prefix of it
abbrev pub TookPrefix : NameBook → Log → Option (List ℕ) → Option (List ℕ) → Type 0
TookPrefix book log before after = (text : List ℕ) × (text_of book log ≡ Some text) × AppendsPrefix before after text
