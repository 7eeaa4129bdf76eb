use Rattle.dt_gate.specs.Gate.{bounds_of}
use Rattle.dt_gate.proofs.Running.{reached_is_kept}
use Rattle.dt_gate.proofs.Accesses.{is_one_access, counts_fit}
use Rattle.dt_gate.proofs.laws.each_event_is_one_access.Goals as goal

pub returns-clause-accesses : goal.returns-clause-accesses
returns-clause-accesses g c = λ gate event reached.
    is_one_access g.M.Meaning.shows (bounds_of c.args.readers c.args.pages c.args.entries) c.reached_pages_decide.ensures gate
    (reached_is_kept g.M.Meaning.shows (bounds_of c.args.readers c.args.pages c.args.entries) c.requires.bounds c.requires.empty
    c.reached_pages_decide.ensures c.page_zero_is_empty.ensures gate reached) event

pub returns-clause-counts : goal.returns-clause-counts
returns-clause-counts g c = λ gate reached.
    counts_fit g.M.Meaning.shows (bounds_of c.args.readers c.args.pages c.args.entries) c.requires.bounds gate
    (reached_is_kept g.M.Meaning.shows (bounds_of c.args.readers c.args.pages c.args.entries) c.requires.bounds c.requires.empty
    c.reached_pages_decide.ensures c.page_zero_is_empty.ensures gate reached)
