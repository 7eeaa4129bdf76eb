use Rattle.std.proofs.Common.{◌≡◌, ◌+◌, ◌*◌, ◌<◌, refl, ◌∙◌, arith}
use mathlib.Core.Option.{none}
use Rattle.atomic_table.specs.Table.{step}
use Rattle.dt_gate.specs.declared.event.RecordWord.TheVariants.{Top}
use Rattle.dt_version.specs.Views.{author_of}
use Rattle.dt_version.specs.Told.{LaidWord}
use Rattle.dt_version.proofs.AuthorSteps.{author_me, lays}
use Rattle.dt_version.proofs.AuthorCalls.{lay_is}
use Rattle.dt_version.proofs.author.Author.lay_top.Goals as goal

pub store-requires : goal.store-requires
store-requires g c = let me = c.args.self.now in
    let words = me.store.now.words in
    let readers : me.store.now.table.shared.key.readers ≡ me.store.now.limits.readers = me.store.now.readers in
    let root : c.args.root < me.store.now.table.shared.key.readers + 2 = c.requires.is_there in (
      me.at,
      omega (arith, words, readers, root),
      lays g.M.Meaning.shows c.laws_of_runs.ensures me.store.now.table.shared.key _ _ c.args.root Top c.args.top (author_of me.place) me.place.me
          (author_me me.store.now.table.shared.key me.place.me me.author me.no_slot) c.requires
          (λ n. LaidWord Top g.M.Meaning.shows (step me.store.now.table.shared.table_id.slots (3 + 3 * c.args.root) c.args.top 0 none) me.place.me c.args.top)
          (λ number after told slots. record {
            slots = slots;
            size = me.store.now.table.shared.key;
            root = c.args.root;
            word_is = refl;
            told = record { gate = told.gate; running = told.running; allowed = told.allowed; was = told.was; is = told.is; finds = tt };
          }),
    )

pub invariant_of-self : goal.invariant_of-self
invariant_of-self g c = let me = c.args.self.now in
    let lay = lay_is g.M.Meaning.shows c.laws_of_runs.ensures me.store.now.table.shared.key (author_of me.place) _ c.args.root Top c.args.top me.place.me c.store.new.seat.me _
    (author_me me.store.now.table.shared.key me.place.me me.author me.no_slot) refl refl c.store.ensures.2 in
    record { at = c.store.ensures.0 ∙ me.at; no_slot = lay.no_slot; author = lay.author; sized = lay.sized }

pub returns-clause-laid : goal.returns-clause-laid
returns-clause-laid g c = let me = c.args.self.now in
    (lay_is g.M.Meaning.shows c.laws_of_runs.ensures me.store.now.table.shared.key (author_of me.place) _ c.args.root Top c.args.top me.place.me c.store.new.seat.me _
    (author_me me.store.now.table.shared.key me.place.me me.author me.no_slot) refl refl c.store.ensures.2).is
