use Rattle.std.proofs.Common.{◌≡◌, ◌+◌, ◌*◌, ◌<◌, subst, sym, refl, ◌∙◌, arith}
use mathlib.Core.Option.{none}
use Rattle.atomic_table.specs.Table.{Allows, step}
use Rattle.dt_pages.specs.Reading.{page_words}
use Rattle.dt_version.specs.Views.{author_of}
use Rattle.dt_version.specs.Rule.{Holds}
use Rattle.dt_version.specs.Told.{Filled}
use Rattle.dt_version.proofs.AuthorSteps.{author_me, fills}
use Rattle.dt_version.proofs.AuthorCalls.{fill_is}
use Rattle.dt_version.proofs.author.Author.fill.Goals as goal

pub store-requires : goal.store-requires
store-requires g c = let me = c.args.self.now in
    let words = me.store.now.words in
    let readers : me.store.now.table.shared.key.readers ≡ me.store.now.limits.readers = me.store.now.readers in
    let pages : me.store.now.table.shared.key.pages ≡ me.store.now.limits.pages = me.store.now.pages in
    let page : c.args.page < me.store.now.table.shared.key.pages = c.requires.is_there in
    let place : c.args.at < 512 = c.requires.in_page in
    let word = c.page_word-index.ensures in
    let word_is : c.page_word-index.result ≡ 1 + 3 * (me.store.now.table.shared.key.readers + 2) + (page_words * c.args.page + c.args.at) = omega (arith, word, readers) in (
      me.at,
      omega (arith, words, word, page, place, pages),
      subst (λ w. Allows (Holds g.M.Meaning.shows me.store.now.table.shared.key) me.store.now.table.shared.table_id.slots me.place.id me.place.me w (λ n. c.args.word)
          (λ n. Filled g.M.Meaning.shows (step me.store.now.table.shared.table_id.slots w c.args.word 0 none) me.place.me c.args.word)) (sym word_is)
          (fills g.M.Meaning.shows c.laws_of_runs.ensures me.store.now.table.shared.key _ _ c.args.page c.args.at c.args.word (author_of me.place) me.place.me
          (author_me me.store.now.table.shared.key me.place.me me.author me.no_slot) c.requires
          (λ n. Filled g.M.Meaning.shows (step me.store.now.table.shared.table_id.slots (1 + 3 * (me.store.now.table.shared.key.readers + 2) + (page_words * c.args.page + c.args.at)) c.args.word 0 none) me.place.me c.args.word)
          (λ number after told slots. record {
            slots = slots;
            size = me.store.now.table.shared.key;
            page = c.args.page;
            place = c.args.at;
            in_page = place;
            word_is = refl;
            told = record { gate = told.gate; running = told.running; allowed = told.allowed; was = told.was; is = told.is; finds = tt };
          })),
    )

pub invariant_of-self : goal.invariant_of-self
invariant_of-self g c = let me = c.args.self.now in
    let fill = fill_is g.M.Meaning.shows c.laws_of_runs.ensures me.store.now.table.shared.key (author_of me.place) _ c.args.page c.args.at c.args.word me.place.me c.store.new.seat.me _
    (author_me me.store.now.table.shared.key me.place.me me.author me.no_slot)
    (let word = c.page_word-index.ensures in let readers : me.store.now.table.shared.key.readers ≡ me.store.now.limits.readers = me.store.now.readers in omega (arith, word, readers))
    refl c.requires.in_page c.store.ensures.2 in
    record { at = c.store.ensures.0 ∙ me.at; no_slot = fill.no_slot; author = fill.author; sized = fill.sized }

pub returns-clause-filled : goal.returns-clause-filled
returns-clause-filled g c = let me = c.args.self.now in
    let fill = fill_is g.M.Meaning.shows c.laws_of_runs.ensures me.store.now.table.shared.key (author_of me.place) _ c.args.page c.args.at c.args.word me.place.me c.store.new.seat.me _
    (author_me me.store.now.table.shared.key me.place.me me.author me.no_slot)
    (let word = c.page_word-index.ensures in let readers : me.store.now.table.shared.key.readers ≡ me.store.now.limits.readers = me.store.now.readers in omega (arith, word, readers))
    refl c.requires.in_page c.store.ensures.2 in
    fill.is
