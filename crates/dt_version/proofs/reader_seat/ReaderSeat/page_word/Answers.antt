use Rattle.std.proofs.Common.{◌≡◌, ◌+◌, ◌*◌, ◌<◌, ap, subst, sym, refl, ◌∙◌, arith}
use Rattle.dt_gate.specs.declared.event.ReadWord.TheVariants.{Page}
use Rattle.dt_version.specs.Views.{seat_of, seat_shown}
use Rattle.dt_pages.specs.Reading.{page_words}
use Rattle.dt_version.proofs.Seats.{reader_me}
use Rattle.dt_version.proofs.Steps.{reads}
use Rattle.dt_version.proofs.Calls.{page_shown, kept, inside_at, reads_inside, page_below}
use mathlib.Core.Option.{none}
use Rattle.atomic_table.specs.Table.{Allows, step}
use Rattle.dt_version.specs.Rule.{Holds}
use Rattle.dt_version.specs.Told.{PageRead}
use Rattle.dt_version.proofs.reader_seat.ReaderSeat.page_word.Goals as goal

pub page_word-word-requires-clause-page : goal.page_word-word-requires-clause-page
page_word-word-requires-clause-page g c = let me = c.args.self.now in
    let at = inside_at me.store.now.table.shared.key.readers me.store.now.table.shared.key.pages me.root (seat_of me.place).stage
    (reads_inside (Page c.args.page c.args.at) (seat_of me.place).stage c.requires) me.inside me.in_bounds in
    let below = page_below me.store.now.table.shared.key.pages c.args.page c.args.at me.root at.frozen (seat_of me.place).stage at.is at.pages_below c.requires in
    let page : c.args.page < me.store.now.table.shared.key.pages = below.0 in
    let pages : me.store.now.table.shared.key.pages ≡ me.store.now.limits.pages = me.store.now.pages in omega (arith, page, pages)

pub page_word-word-requires-clause-at : goal.page_word-word-requires-clause-at
page_word-word-requires-clause-at g c κs lives = let me = c.args.self.now in
    let at = inside_at me.store.now.table.shared.key.readers me.store.now.table.shared.key.pages me.root (seat_of me.place).stage
    (reads_inside (Page c.args.page c.args.at) (seat_of me.place).stage c.requires) me.inside me.in_bounds in
    (page_below me.store.now.table.shared.key.pages c.args.page c.args.at me.root at.frozen (seat_of me.place).stage at.is at.pages_below c.requires).1

pub load-requires : goal.load-requires
load-requires g c = let me = c.args.self.now in
    let at = inside_at me.store.now.table.shared.key.readers me.store.now.table.shared.key.pages me.root (seat_of me.place).stage
    (reads_inside (Page c.args.page c.args.at) (seat_of me.place).stage c.requires) me.inside me.in_bounds in
    let below = page_below me.store.now.table.shared.key.pages c.args.page c.args.at me.root at.frozen (seat_of me.place).stage at.is at.pages_below c.requires in
    let page : c.args.page < me.store.now.table.shared.key.pages = below.0 in
    let place : c.args.at < 512 = below.1 in
    let words = me.store.now.words in
    let readers : me.store.now.table.shared.key.readers ≡ me.store.now.limits.readers = me.store.now.readers in
    let pages : me.store.now.table.shared.key.pages ≡ me.store.now.limits.pages = me.store.now.pages in
    let word = c.page_word-word.ensures in
    let word_is : c.page_word-word.result ≡ 1 + 3 * (me.store.now.table.shared.key.readers + 2) + (page_words * c.args.page + c.args.at) = omega (arith, word, readers) in (
      me.at,
      omega (arith, words, word, page, place, pages),
      subst (λ w. Allows (Holds g.M.Meaning.shows me.store.now.table.shared.key) me.store.now.table.shared.table_id.slots me.place.id me.place.me w (λ n. n)
          (PageRead g.M.Meaning.shows (step me.store.now.table.shared.table_id.slots w 0 0 none) me.place.me)) (sym word_is)
          (reads g.M.Meaning.shows c.laws_of_runs.ensures me.store.now.table.shared.key _ _ (seat_of me.place) (Page c.args.page c.args.at) me.root at.frozen me.place.me
          (reader_me me.store.now.table.shared.key me.place.me me.reader me.no_slot) at.is c.requires
          (PageRead g.M.Meaning.shows (step me.store.now.table.shared.table_id.slots (1 + 3 * (me.store.now.table.shared.key.readers + 2) + (page_words * c.args.page + c.args.at)) 0 0 none) me.place.me)
          (λ number after told slots. record { slots = slots; size = me.store.now.table.shared.key; page = c.args.page; place = c.args.at; in_page = below.1; word_is = refl; told = told })),
    )

pub invariant_of-self : goal.invariant_of-self
invariant_of-self g c = let me = c.args.self.now in
    let read = page_shown g.M.Meaning.shows c.laws_of_runs.ensures me.store.now.table.shared.key (seat_of me.place) _ c.args.page c.args.at me.place.me c.load.new.seat.me c.load.result
    (reader_me me.store.now.table.shared.key me.place.me me.reader me.no_slot)
    (let word = c.page_word-word.ensures in let readers : me.store.now.table.shared.key.readers ≡ me.store.now.limits.readers = me.store.now.readers in omega (arith, word, readers))
    c.requires c.load.ensures.2 in
    let is = kept g.M.Meaning.shows c.laws_of_runs.ensures me.store.now.table.shared.key me.root c.load.new.seat.me (seat_of me.place) read.0 read.1 me.inside me.in_bounds me.reads in
    record { at = c.load.ensures.0 ∙ me.at; no_slot = is.no_slot; reader = is.reader; inside = is.inside; in_bounds = is.in_bounds; reads = is.reads }

pub returns : goal.returns
returns g c = let me = c.args.self.now in
    let read = page_shown g.M.Meaning.shows c.laws_of_runs.ensures me.store.now.table.shared.key (seat_of me.place) _ c.args.page c.args.at me.place.me c.load.new.seat.me c.load.result
    (reader_me me.store.now.table.shared.key me.place.me me.reader me.no_slot)
    (let word = c.page_word-word.ensures in let readers : me.store.now.table.shared.key.readers ≡ me.store.now.limits.readers = me.store.now.readers in omega (arith, word, readers))
    c.requires c.load.ensures.2 in
    record { word = read.2; same = ap seat_shown read.1; store = refl; counted = c.tick.ensures }
