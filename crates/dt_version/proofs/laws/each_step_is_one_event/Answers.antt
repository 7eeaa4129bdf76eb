use Rattle.dt_version.proofs.Steps.{one_event}
use Rattle.dt_version.proofs.Giving.{seat_goes_out, note_goes_out, reader_note_goes_out, seat_comes_back, note_comes_back, reader_note_comes_back}
use Rattle.dt_version.proofs.laws.each_step_is_one_event.Goals as goal

pub returns : goal.returns
returns g c = let shows = g.M.Meaning.shows in
    let laws = c.laws_of_runs.ensures in record {
      readers = λ size event before after number told. one_event shows laws size told.gate (event told.seat) told.running told.allowed;
      author = λ size event before after number told. one_event shows laws size told.gate event told.running told.allowed;
      seats_out = λ size. seat_goes_out shows laws size;
      seats_back = λ size gate state id other author seat mine his. seat_comes_back shows laws size gate state id other author seat mine his.at;
      author_notes_out = λ size. note_goes_out shows laws size;
      reader_notes_out = λ size. reader_note_goes_out shows laws size;
      author_notes_back = λ size gate state id other author note mine his. note_comes_back shows laws size gate state id other author note mine his.at;
      reader_notes_back = λ size gate state id other seat note mine his. reader_note_comes_back shows laws size gate state id other seat note mine his.at;
    }
