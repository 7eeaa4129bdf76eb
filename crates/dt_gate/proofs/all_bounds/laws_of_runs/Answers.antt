use Rattle.std.proofs.Common.{[], refl, subst}
use Rattle.dt_gate.specs.Seats.{IsFrozenWord}
use Rattle.dt_gate.proofs.Running.{reached_is_sound, reached_is_kept, reached_more}
use Rattle.dt_gate.proofs.Accesses.{is_one_access, counts_fit}
use Rattle.dt_gate.proofs.ReaderLaws.{read_is_frozen}
use Rattle.dt_gate.proofs.InsideRoots.{inside_a_live_root}
use Rattle.dt_gate.proofs.Room.{room}
use Rattle.dt_gate.proofs.all_bounds.laws_of_runs.Goals as goal

pub returns : goal.returns
returns g c = record {
  begins = λ bounds. ([], tt, refl);
  goes_on = λ bounds. reached_more g.M.Meaning.shows bounds;
  sound = λ bounds range empty. reached_is_sound g.M.Meaning.shows bounds range empty c.reached_pages_decide.ensures c.page_zero_is_empty.ensures;
  accesses = λ bounds range empty gate event reached. is_one_access g.M.Meaning.shows bounds c.reached_pages_decide.ensures gate
      (reached_is_kept g.M.Meaning.shows bounds range empty c.reached_pages_decide.ensures c.page_zero_is_empty.ensures gate reached) event;
  counts = λ bounds range empty gate reached. counts_fit g.M.Meaning.shows bounds range gate
      (reached_is_kept g.M.Meaning.shows bounds range empty c.reached_pages_decide.ensures c.page_zero_is_empty.ensures gate reached);
  reads = λ bounds range empty gate seat root frozen word reached is allowed. read_is_frozen g.M.Meaning.shows bounds gate seat root frozen word
      (reached_is_kept g.M.Meaning.shows bounds range empty c.reached_pages_decide.ensures c.page_zero_is_empty.ensures gate reached)
      is (subst (IsFrozenWord word) is allowed);
  inside = λ bounds range empty gate seat root frozen reached. inside_a_live_root g.M.Meaning.shows bounds range gate
      (reached_is_kept g.M.Meaning.shows bounds range empty c.reached_pages_decide.ensures c.page_zero_is_empty.ensures gate reached) seat root frozen;
  room = λ bounds range empty gate reached. room g.M.Meaning.shows bounds gate
      (reached_is_kept g.M.Meaning.shows bounds range empty c.reached_pages_decide.ensures c.page_zero_is_empty.ensures gate reached);
}
