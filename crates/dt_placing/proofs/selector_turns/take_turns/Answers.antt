use Rattle.std.proofs.Common.{◌<◌, List, length, get_or, take, drop, refl, sym, ap, subst, ◌∙◌, rules}
use Rattle.dt_pages.specs.Image.{look_up}
use Rattle.dt_pages.specs.Draft.{laid_over}
use Rattle.dt_scratch.specs.declared.reply.Change.{Change}
use Rattle.dt_placing.specs.declared.staged.StagedWord.{StagedWord}
use Rattle.dt_placing.proofs.Turns.{TurnsSoFar, none_done, can_turn_at, next_turn_at}
use Rattle.dt_placing.proofs.selector_turns.take_turns.Goals as goal

pub loop-rest-init : goal.loop-rest-init
loop-rest-init c =
    let x = look_up c.args.tree.now in
    let first = laid_over c.args.draft.now x in
    subst (λ (l : List StagedWord). TurnsSoFar c.args.geometry c.args.words.now x first c.args.changes.now c.args.changes.now c.args.cells.now c.args.cells.now first l)
    (sym c.new-staged.ensures.items)
    (none_done c.args.geometry c.args.words.now x first c.args.changes.now c.args.cells.now c.requires.geometry c.requires.able.1.each c.requires.able.1.ascending)

pub take_turn-requires-clause-turn : goal.take_turn-requires-clause-turn
take_turn-requires-clause-turn c =
    let x = look_up c.args.tree.now in
    let so = c.loop-rest.invariant in
    let within : 0 < length c.loop-rest.rest.now = search rules in (
      c.requires.able.0,
      so.done,
      can_turn_at c.args.geometry c.args.words.now x (laid_over c.args.draft.now x) (laid_over c.loop-rest.draft x) c.args.changes.now c.loop-rest.rest.now c.index-rest-0.result
          c.args.cells.now c.loop-rest.cells c.loop-rest.staged.items c.requires.able.0 within c.index-rest-0.is so c.requires.able.1
          c.split_at.result.0.now c.selector-selector.result (get_or c.args.words.now c.from.result 0)
          (c.split_at.ensures.front ∙ ap (λ n. take n c.loop-rest.rest.now) c.run-count.ensures.value) (c.selector-selector.ensures ∙ ap (λ (f : Change). f.query.selector) (sym c.index-rest-0.is)) (ap (λ k. get_or c.args.words.now k 0) c.from.ensures),
    )

pub loop-rest-preserved : goal.loop-rest-preserved
loop-rest-preserved c =
    let x = look_up c.args.tree.now in
    let so = c.loop-rest.invariant in
    let within : 0 < length c.loop-rest.rest.now = search rules in
    let p : StagedWord = record { selector = c.selector-selector.result; word = c.in_ok-word.word } in
    subst (λ (l : List StagedWord). TurnsSoFar c.args.geometry c.args.words.now x (laid_over c.args.draft.now x) c.args.changes.now c.split_at.result.1.now c.args.cells.now c.take_turn.new.cells
    (laid_over c.take_turn.new.draft x) l)
    (sym c.in_ok-push.ensures.items)
    (next_turn_at c.args.geometry c.args.words.now x (laid_over c.args.draft.now x) (laid_over c.loop-rest.draft x) (laid_over c.take_turn.new.draft x) c.args.changes.now c.loop-rest.rest.now
    c.index-rest-0.result c.args.cells.now c.loop-rest.cells c.take_turn.new.cells c.loop-rest.staged.items p c.requires.count within c.index-rest-0.is so
    c.split_at.result.0.now c.split_at.result.1.now c.selector-selector.result (get_or c.args.words.now c.from.result 0)
    (c.split_at.ensures.front ∙ ap (λ n. take n c.loop-rest.rest.now) c.run-count.ensures.value)
    (c.split_at.ensures.back ∙ ap (λ n. drop n c.loop-rest.rest.now) c.run-count.ensures.value)
    (c.selector-selector.ensures ∙ ap (λ (f : Change). f.query.selector) (sym c.index-rest-0.is)) (ap (λ k. get_or c.args.words.now k 0) c.from.ensures)
    refl c.in_ok-word.ensures.geometry c.in_ok-word.ensures.kept c.in_ok-word.ensures.over.placed c.in_ok-word.ensures.over.word_is c.in_ok-word.ensures.over.rest)
