use Rattle.std.proofs.Common.{◌≡◌, ◌+◌, get_or, ap, sym, ◌∙◌, true}
use Rattle.dt_pages.specs.Image.{look_up}
use Rattle.dt_cells.specs.Find.{is_class_read}
use Rattle.dt_cells.proofs.Reading.{one_read, read_in_range, range_more, one_more}
use Rattle.dt_cells.proofs.head.read_classes.Goals as goal

pub loop-index-preserved : goal.loop-index-preserved
loop-index-preserved g c =
    let read : is_class_read (look_up (g.W.Words.image c.args.words.now)) (get_or c.args.classes.now c.loop-index.index 0) ≡ true =
    ap (λ i. is_class_read (look_up i) (get_or c.args.classes.now c.loop-index.index 0)) (sym c.loop-index.invariant.image)
    ∙ sym c.read_class.ensures.value ∙ c.if-not-read_class.false in
    record {
      value = c.loop-index.invariant.value
          ∙ one_read (look_up (g.W.Words.image c.args.words.now)) (c.loop-index.index + 1) c.args.classes.now c.loop-index.index 0 c.loop-index-test.true read;
      range = range_more c.args.classes.now c.loop-index.index 0 c.loop-index-test.true c.loop-index.invariant.range
          (read_in_range (look_up (g.W.Words.image c.args.words.now)) _ read);
      image = c.read_class.ensures.image ∙ c.loop-index.invariant.image;
      cost = one_more (g.W.Words.cost c.args.words.now) (g.W.Words.cost c.loop-index.words) (g.W.Words.cost c.read_class.new.words) c.loop-index.index g.W.Words.COST
          c.loop-index.invariant.cost c.read_class.ensures.cost;
      kept = g.met.W.Words.kept_chains c.args.words.now c.loop-index.words c.read_class.new.words c.loop-index.invariant.kept c.read_class.ensures.kept;
    }
