-- What a run is limited by.
use Rattle.std.specs.Prelude.{ℕ, Bool, ◌&&◌, nat_le}
use Rattle.dt_words.specs.declared.limits.TheConstants.{READERS, READERS_UNLESS_GIVEN, LEAST_PAGES, PAGES, PAGES_UNLESS_GIVEN, ENTRIES, ENTRIES_UNLESS_GIVEN, VERSIONS}

-- how many readers may be out, how many pages there are, how many entries a version takes, and how many versions come
pub record LimitNumbers : Type 0 where
  pub reader_count : ℕ
  pub page_count : ℕ
  pub entry_limit : ℕ
  pub version_limit : ℕ

-- whether each number is in its range
abbrev pub are_limits : LimitNumbers → Bool
are_limits l = (nat_le 1 l.reader_count && nat_le l.reader_count READERS)
    && ((nat_le LEAST_PAGES l.page_count && nat_le l.page_count PAGES)
    && ((nat_le 1 l.entry_limit && nat_le l.entry_limit ENTRIES)
    && (nat_le 1 l.version_limit && nat_le l.version_limit VERSIONS)))

-- the limits of a command line that gives none
abbrev pub limits_unless_given : LimitNumbers
limits_unless_given = record {
  reader_count = READERS_UNLESS_GIVEN;
  page_count = PAGES_UNLESS_GIVEN;
  entry_limit = ENTRIES_UNLESS_GIVEN;
  version_limit = VERSIONS;
}
