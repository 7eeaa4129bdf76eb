use Rattle.std.proofs.Common.{ap, ◌∙◌, get_or}
use Rattle.dt_pages.specs.Image.{look_up}
use Rattle.dt_pages.specs.Draft.{laid_over}
use Rattle.dt_cells.specs.Regions.{place_of}
use Rattle.dt_cells.proofs.PlaceSteps.{put_step, map_at}
use Rattle.dt_cells.proofs.place_words.put_missing_words.Goals as goal

pub loop-index-preserved : goal.loop-index-preserved
loop-index-preserved c = λ read are.
    put_step read (laid_over c.loop-index.draft (look_up c.args.tree.now)) (laid_over c.put_missing_word.new.draft (look_up c.args.tree.now)) (laid_over c.args.draft.now (look_up c.args.tree.now))
    c.args.selectors.now c.loop-index.index 0 (get_or c.args.words.now c.loop-index.index 0) c.loop-index-test.true
    (c.loop-index.invariant read are)
    (ap (λ l. get_or l c.loop-index.index 0) are ∙ map_at (λ selector. read (place_of selector)) c.args.selectors.now c.loop-index.index 0 c.loop-index-test.true)
    c.in_ok-put_missing_word.ensures
