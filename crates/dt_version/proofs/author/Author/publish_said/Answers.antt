use Rattle.std.proofs.Common.{◌≡◌, ◌*◌, ap, subst, sym, refl, ◌∙◌, arith}
use mathlib.Core.Option.{none}
use Rattle.atomic_table.specs.Table.{Allows, step}
use Rattle.dt_version.specs.Views.{author_of}
use Rattle.dt_version.specs.Rule.{Holds}
use Rattle.dt_version.specs.Told.{Published, PublishedSaid}
use Rattle.dt_version.proofs.AuthorSteps.{author_me, publishes}
use Rattle.dt_version.proofs.AuthorCalls.{publish_is}
use Rattle.std.proofs.Common.{Option, Some, None}
use Rattle.dt_gate.specs.Words.{packed}
use Rattle.dt_version.proofs.author.Author.publish_said.Goals as goal

abbrev or_else : {A : Type 0} → A → Option A → A
or_else other (Some a) = a
or_else other None = other

pub swap-found-requires : goal.swap-found-requires
swap-found-requires g c = let me = c.args.self.now in
    let value : packed c.args.root 0 ≡ c.args.root * 4294967296 = omega arith in (
      me.at,
      (let words = me.store.now.words in omega (arith, words)),
      subst (λ v. Allows (Holds g.M.Meaning.shows me.store.now.table.shared.key) me.store.now.table.shared.table_id.slots me.place.id me.place.me 0 (λ n. v)
          (PublishedSaid g.E.Said.item g.M.Meaning.shows (step me.store.now.table.shared.table_id.slots 0 v 0 none) me.place.me)) value
          (publishes g.M.Meaning.shows c.laws_of_runs.ensures me.store.now.table.shared.key _ _ c.args.root c.args.entry.now (author_of me.place) me.place.me
          (author_me me.store.now.table.shared.key me.place.me me.author me.no_slot) c.requires.may
          (PublishedSaid g.E.Said.item g.M.Meaning.shows (step me.store.now.table.shared.table_id.slots 0 (packed c.args.root 0) 0 none) me.place.me)
          (λ number after told slots item is.
          let same : c.args.entry.now ≡ item = ap (or_else c.args.entry.now) (sym c.requires.said ∙ is) in
          subst (λ x. Published x g.M.Meaning.shows (step me.store.now.table.shared.table_id.slots 0 (packed c.args.root 0) 0 none) me.place.me number after) same
          (record { slots = slots; size = me.store.now.table.shared.key; root = c.args.root; value_is = refl; told = told }))),
    )

pub invariant_of-self : goal.invariant_of-self
invariant_of-self g c = let me = c.args.self.now in
    let publish = (publish_is g.M.Meaning.shows c.laws_of_runs.ensures me.store.now.table.shared.key (author_of me.place) _ c.args.root c.args.entry.now me.place.me c.swap-found.new.seat.me c.swap-found.result
    (author_me me.store.now.table.shared.key me.place.me me.author me.no_slot) (omega arith) (c.swap-found.ensures.2 c.args.entry.now c.requires.said)).kept in
    record { at = c.swap-found.ensures.0 ∙ me.at; no_slot = publish.no_slot; author = publish.author; sized = publish.sized }

pub overflow_cast-result : goal.overflow_cast-result
overflow_cast-result g c = let me = c.args.self.now in
    let publish = publish_is g.M.Meaning.shows c.laws_of_runs.ensures me.store.now.table.shared.key (author_of me.place) _ c.args.root c.args.entry.now me.place.me c.swap-found.new.seat.me c.swap-found.result
    (author_me me.store.now.table.shared.key me.place.me me.author me.no_slot) (omega arith) (c.swap-found.ensures.2 c.args.entry.now c.requires.said) in
    let fits = publish.root_fits in omega (arith, fits)

pub returns : goal.returns
returns g c = let me = c.args.self.now in
    let publish = publish_is g.M.Meaning.shows c.laws_of_runs.ensures me.store.now.table.shared.key (author_of me.place) _ c.args.root c.args.entry.now me.place.me c.swap-found.new.seat.me c.swap-found.result
    (author_me me.store.now.table.shared.key me.place.me me.author me.no_slot) (omega arith) (c.swap-found.ensures.2 c.args.entry.now c.requires.said) in
    let readers : me.store.now.table.shared.key.readers ≡ me.store.now.limits.readers = me.store.now.readers in
    let entries : me.store.now.table.shared.key.entries ≡ me.store.now.limits.entries = me.store.now.entries in
    let bound = publish.entries in
    record { published = publish.kept.is; root = publish.root_is; entries = omega (arith, bound, readers, entries); store = refl }
