use Rattle.std.proofs.Common.{◌≡◌, ◌∷◌, [], ap, sym, subst, refl, arith}
use Rattle.dt_script.specs.GeneratedLines.{selector_line, after_selector}
use Rattle.dt_script.specs.declared.line.Line.TheVariants.{AddSelector}
use Rattle.dt_script.proofs.Joined.{on_ok}
use Rattle.dt_script.proofs.WrittenInTurn.{WrittenSoFar, nothing_written, one_line_written, batch_written}
use Rattle.dt_script.proofs.generated_selectors.push_selectors.Goals as goal

pub loop-selector-init : goal.loop-selector-init
loop-selector-init c = nothing_written selector_line after_selector c.push.new.text.items 0 0

pub loop-selector-preserved : goal.loop-selector-preserved
loop-selector-preserved c =
    one_line_written selector_line after_selector c.push.new.text.items 0 0 c.loop-selector.selector c.loop-selector.selector c.loop-selector.text.items c.push_selector.new.text.items
    0 0 (AddSelector c.loop-selector.selector c.arity_of.result) (omega arith) c.in_ok-push_selector.ensures (ap (λ a. AddSelector c.loop-selector.selector a ∷ []) (sym c.arity_of.ensures)) refl c.loop-selector.invariant

pub returns : goal.returns
returns c =
    let all : c.loop-selector.selector ≡ c.args.size.selectors = omega arith in
    let written = subst (λ n. WrittenSoFar selector_line after_selector c.push.new.text.items 0 0 n c.loop-selector.text.items 0) all c.loop-selector.invariant in
    on_ok c.push-2.result c.push-2.ensures (λ is. batch_written selector_line after_selector c.args.text.now.items c.push.new.text.items c.loop-selector.text.items c.push-2.new.text.items 0 0 c.args.size.selectors 0
    c.in_ok-push.ensures written is)
