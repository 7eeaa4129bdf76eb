use Rattle.std.proofs.Common.{subst}
use Rattle.dt_gate.specs.Gate.{bounds_of}
use Rattle.dt_gate.specs.Seats.{IsFrozenWord}
use Rattle.dt_gate.proofs.Running.{reached_is_kept}
use Rattle.dt_gate.proofs.ReaderLaws.{read_is_frozen, no_fill_under_a_reader, none_was_worn, look_decides}
use Rattle.dt_gate.proofs.laws.nothing_changes_under_a_reader.Goals as goal

pub returns-clause-reads : goal.returns-clause-reads
returns-clause-reads g c = λ gate seat root frozen word reached is allowed.
    read_is_frozen g.M.Meaning.shows (bounds_of c.args.readers c.args.pages c.args.entries) gate seat root frozen word
    (reached_is_kept g.M.Meaning.shows (bounds_of c.args.readers c.args.pages c.args.entries) c.requires.bounds c.requires.empty
    c.reached_pages_decide.ensures c.page_zero_is_empty.ensures gate reached) is (subst (IsFrozenWord word) is allowed)

pub returns-clause-pages : goal.returns-clause-pages
returns-clause-pages g c = λ gate seat root frozen page at word reached.
    no_fill_under_a_reader g.M.Meaning.shows (bounds_of c.args.readers c.args.pages c.args.entries) c.reached_pages_decide.ensures gate seat root frozen page at word
    (reached_is_kept g.M.Meaning.shows (bounds_of c.args.readers c.args.pages c.args.entries) c.requires.bounds c.requires.empty
    c.reached_pages_decide.ensures c.page_zero_is_empty.ensures gate reached)

pub returns-clause-roots : goal.returns-clause-roots
returns-clause-roots g c = λ gate root word value reached may.
    (reached_is_kept g.M.Meaning.shows (bounds_of c.args.readers c.args.pages c.args.entries) c.requires.bounds c.requires.empty
    c.reached_pages_decide.ensures c.page_zero_is_empty.ensures gate reached).counted.accounted.none_inside_a_free_root root may.is_free

pub returns-clause-looks : goal.returns-clause-looks
returns-clause-looks g c = look_decides (bounds_of c.args.readers c.args.pages c.args.entries)

pub returns-clause-worn : goal.returns-clause-worn
returns-clause-worn g c = λ gate reached.
    none_was_worn g.M.Meaning.shows (bounds_of c.args.readers c.args.pages c.args.entries) gate
    (reached_is_kept g.M.Meaning.shows (bounds_of c.args.readers c.args.pages c.args.entries) c.requires.bounds c.requires.empty
    c.reached_pages_decide.ensures c.page_zero_is_empty.ensures gate reached)
