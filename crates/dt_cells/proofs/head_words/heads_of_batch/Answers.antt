use Rattle.std.proofs.Common.{◌≡◌, ◌==◌, ◌≤◌, ℕ, take, length, sym, ap, ◌∙◌, if◌then◌else◌, arith, eq-eqb}
use Rattle.std.proofs.lemmas.List.{take_all}
use Rattle.dt_pages.specs.Reading.{Reading}
use Rattle.dt_pages.specs.Draft.{laid_over}
use Rattle.dt_cells.specs.Heads.{HasHeads, head_word, sets_head, sets_head_any, with_heads}
use Rattle.dt_cells.proofs.HeadSteps.{head_by_edits, new_heads, one_more, set_again, set_or_same}
use Rattle.dt_cells.proofs.head_words.heads_of_batch.Goals as goal

pub loop-place-preserved : goal.loop-place-preserved
loop-place-preserved c = λ base address.
    let x : ℕ = laid_over c.args.draft.now base address in
    let w : ℕ = head_word c.args.new.now address in
    set_again (head_word c.args.old.now address == head_word c.args.new.now address) (sets_head_any address (take c.loop-place.place c.args.batch.now))
    (sets_head address c.edit_at.result.now) x (laid_over c.loop-place.draft base address) (laid_over c.head_of_edit.new.draft base address) w
    (c.loop-place.invariant base address) (c.in_ok-head_of_edit.ensures base address)
    ∙ ap (λ b. if b then with_heads c.args.old.now c.args.new.now (laid_over c.args.draft.now base) address else x)
    (sym (one_more (sets_head address) c.args.batch.now c.loop-place.place c.edit_at.result.now c.edit_at.ensures))

words_set : (c : goal.After-loop-place) (base : Reading) (address : ℕ)
    → laid_over c.loop-place.draft base address ≡ with_heads c.args.old.now c.args.new.now (laid_over c.args.draft.now base) address
words_set c base address =
    let x : ℕ = laid_over c.args.draft.now base address in
    let w : ℕ = head_word c.args.new.now address in
    c.loop-place.invariant base address
    ∙ ap (λ edits. if sets_head_any address edits then with_heads c.args.old.now c.args.new.now (laid_over c.args.draft.now base) address else x)
    (take_all c.loop-place.place c.args.batch.now (omega (arith, c.loop-place-test.false, c.len-place-end.ensures)))
    ∙ set_or_same (sets_head_any address c.args.batch.now) (head_word c.args.old.now address == head_word c.args.new.now address) x w
    (λ unset. eq-eqb (head_word c.args.old.now address) (head_word c.args.new.now address)
    (head_by_edits c.args.old.now c.args.new.now c.args.batch.now
    (c.batches_are_their_edits.ensures.accepted c.args.old.now c.args.new.now c.args.batch.now c.requires) address unset))

pub returns : goal.returns
returns c = record {
  words = words_set c;
  heads = λ base. new_heads c.args.old.now c.args.new.now (laid_over c.args.draft.now base) (laid_over c.loop-place.draft base) (words_set c base);
}
