use Rattle.std.proofs.Common.{◌≡◌, ◌+◌, ◌*◌, ◌<◌, subst, refl, ◌∙◌, arith}
use mathlib.Core.Option.{none}
use Rattle.atomic_table.specs.Table.{step}
use Rattle.dt_version.specs.Views.{author_of}
use Rattle.dt_version.specs.Told.{Polled}
use Rattle.dt_version.proofs.AuthorSteps.{author_me, polls}
use Rattle.dt_version.proofs.AuthorCalls.{poll_is}
use Rattle.dt_version.specs.AuthorCalls.{IsPoll}
use Rattle.dt_version.proofs.AuthorPlaces.{old_is_there}
use Rattle.dt_version.proofs.author.Author.poll.Goals as goal

pub load-requires : goal.load-requires
load-requires g c = let me = c.args.self.now in
    let words = me.store.now.words in
    let readers : me.store.now.table.shared.key.readers ≡ me.store.now.limits.readers = me.store.now.readers in
    let roots = me.sized in
    let root = old_is_there (author_of me.place).roots c.args.root c.requires in (
      me.at,
      omega (arith, words, readers, roots, root),
      polls g.M.Meaning.shows c.laws_of_runs.ensures me.store.now.table.shared.key _ _ c.args.root (author_of me.place) me.place.me
          (author_me me.store.now.table.shared.key me.place.me me.author me.no_slot) c.requires
          (Polled g.M.Meaning.shows (step me.store.now.table.shared.table_id.slots (1 + 3 * c.args.root) 0 0 none) me.place.me)
          (λ number after told slots. record { slots = slots; size = me.store.now.table.shared.key; root = c.args.root; word_is = refl; told = told }),
    )

pub overflow_cast-result : goal.overflow_cast-result
overflow_cast-result g c = let me = c.args.self.now in
    let poll = poll_is g.M.Meaning.shows c.laws_of_runs.ensures me.store.now.table.shared.key (author_of me.place) _ c.args.root me.place.me c.load.new.seat.me c.load.result
    (author_me me.store.now.table.shared.key me.place.me me.author me.no_slot) refl c.requires c.load.ensures.2 in
    let fits : c.load.result < 4294967296 = poll.fits in omega (arith, fits)

pub invariant_of-self : goal.invariant_of-self
invariant_of-self g c = let me = c.args.self.now in
    let poll = (poll_is g.M.Meaning.shows c.laws_of_runs.ensures me.store.now.table.shared.key (author_of me.place) _ c.args.root me.place.me c.load.new.seat.me c.load.result
    (author_me me.store.now.table.shared.key me.place.me me.author me.no_slot) refl c.requires c.load.ensures.2).kept in
    record { at = c.load.ensures.0 ∙ me.at; no_slot = poll.no_slot; author = poll.author; sized = poll.sized }

pub returns : goal.returns
returns g c = let me = c.args.self.now in
    let poll = poll_is g.M.Meaning.shows c.laws_of_runs.ensures me.store.now.table.shared.key (author_of me.place) _ c.args.root me.place.me c.load.new.seat.me c.load.result
    (author_me me.store.now.table.shared.key me.place.me me.author me.no_slot) refl c.requires c.load.ensures.2 in
    let readers : me.store.now.table.shared.key.readers ≡ me.store.now.limits.readers = me.store.now.readers in
    record {
      polled = poll.kept.is;
      bounds = subst (λ n. IsPoll n c.args.root (author_of me.place) (author_of c.load.new.seat) c.load.result) readers poll.bounds;
      room = poll.room;
      store = refl;
    }
