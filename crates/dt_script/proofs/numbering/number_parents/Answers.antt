use Rattle.std.proofs.Common.{◌≡◌, ◌++◌, List, ℕ, length, sym, ap, ◌∙◌, subst, arith, append-nil, refl}
use Rattle.std.specs.Prelude.{IsTrue, not}
use Rattle.std.specs.List.{list_all}
use Rattle.std.specs.Option.{option_copied}
use Rattle.std.proofs.lemmas.Bool.{and_parts}
use Rattle.dt_selectors.specs.Names.{is_name}
use Rattle.dt_selectors.specs.declared.names.NameFault.TheVariants.{NamesFull}
use Rattle.dt_script.specs.NameBook.{NameBook, is_within_limits}
use Rattle.dt_script.specs.Words.{words_left}
use Rattle.dt_script.specs.Numbering.{with_classes, numbers_in}
use Rattle.dt_script.proofs.Grown.{grew_on}
use Rattle.dt_script.proofs.HandedOn.{handed_on}
use Rattle.dt_script.proofs.NumbersStay.{full_class, parents_step}
use Rattle.dt_script.proofs.WrittenTexts.{left_words}
use Rattle.dt_script.proofs.OwnNames.{own_before, own_left, classes_grow}
use Rattle.dt_script.proofs.numbering.number_parents.Goals as goal

pub class-requires : goal.class-requires
class-requires c =
    let words = left_words c.loop-left.left c.cut_word.result.1 c.in-Some.bytes c.cut_word.result.0.now c.in-Some.is c.cut_word.ensures in
    (and_parts (is_name c.cut_word.result.0.now) (list_all is_name (words_left (option_copied c.cut_word.result.1))) (subst (λ (l : List (List ℕ)). IsTrue (list_all is_name l)) words c.loop-left.invariant.are_names)).0

pub returns-in_err-class-clause-full : goal.returns-in_err-class-clause-full
returns-in_err-class-clause-full c = λ full.
    let words = left_words c.loop-left.left c.cut_word.result.1 c.in-Some.bytes c.cut_word.result.0.now c.in-Some.is c.cut_word.ensures in
    let over = full_class c.loop-left.names c.cut_word.result.0.now (words_left (option_copied c.cut_word.result.1)) (c.in_err-class.ensures.full.0 (handed_on c.from_residual.result c.in_err-class.field-0.0 NamesFull c.from_residual.ensures.1 full)) in
    subst (λ (b : NameBook). IsTrue (not (is_within_limits b))) (ap (λ l. with_classes c.loop-left.names l) (sym words) ∙ sym c.loop-left.invariant.book) over

pub loop-left-smaller : goal.loop-left-smaller
loop-left-smaller c =
    let words = left_words c.loop-left.left c.cut_word.result.1 c.in-Some.bytes c.cut_word.result.0.now c.in-Some.is c.cut_word.ensures in
    omega (arith, ap length words)

pub loop-left-preserved : goal.loop-left-preserved
loop-left-preserved c =
    let words = left_words c.loop-left.left c.cut_word.result.1 c.in-Some.bytes c.cut_word.result.0.now c.in-Some.is c.cut_word.ensures in
    let rest = words_left (option_copied c.cut_word.result.1) in
    let so_far = subst (λ (l : List (List ℕ)). (new : NameBook) → new ≡ with_classes c.loop-left.names l → numbers_in new (words_left (option_copied c.args.words)) ≡ c.loop-left.parents.items ++ numbers_in new l) words c.loop-left.invariant.numbers in
    let step = parents_step c.loop-left.names c.class.new.self c.cut_word.result.0.now (words_left (option_copied c.args.words)) rest c.loop-left.parents.items c.in_ok-class.class c.in_ok-class.ensures.ok c.in_ok-class.ensures.number so_far in
    record {
      book = c.loop-left.invariant.book ∙ ap (λ l. with_classes c.loop-left.names l) words ∙ ap (λ b. with_classes b rest) (sym c.in_ok-class.ensures.ok);
      numbers = λ new is. step new is ∙ ap (λ l. l ++ numbers_in new rest) (sym c.in_ok-push.ensures.ok);
      grew = grew_on c.args.names.now c.loop-left.names c.class.new.self c.loop-left.invariant.grew c.in_ok-class.ensures.grew;
      are_names = (and_parts (is_name c.cut_word.result.0.now) (list_all is_name rest) (subst (λ (l : List (List ℕ)). IsTrue (list_all is_name l)) words c.loop-left.invariant.are_names)).1;
    }

pub returns-clause-ok : goal.returns-clause-ok
returns-clause-ok c = sym (rw c.in_default.is at c.loop-left.invariant.book)

pub returns-clause-numbers : goal.returns-clause-numbers
returns-clause-numbers c =
    let all = rw c.in_default.is at c.loop-left.invariant.numbers in
    sym (all c.loop-left.names refl ∙ append-nil c.loop-left.parents.items)

pub returns-in_err-class-clause-own : goal.returns-in_err-class-clause-own
returns-in_err-class-clause-own c =
    own_left c.args.names.now c.loop-left.names c.class.new.self (words_left (option_copied c.args.words)) (words_left (option_copied c.loop-left.left)) c.loop-left.invariant.book
    (own_before c.loop-left.names c.class.new.self (words_left (option_copied c.loop-left.left)) c.in_err-class.ensures.err)

pub returns-in_err-push-clause-own : goal.returns-in_err-push-clause-own
returns-in_err-push-clause-own c =
    let words = left_words c.loop-left.left c.cut_word.result.1 c.in-Some.bytes c.cut_word.result.0.now c.in-Some.is c.cut_word.ensures in
    let rest = words_left (option_copied c.cut_word.result.1) in
    own_left c.args.names.now c.class.new.self c.class.new.self (words_left (option_copied c.args.words)) rest
    (c.loop-left.invariant.book ∙ ap (λ l. with_classes c.loop-left.names l) words ∙ ap (λ b. with_classes b rest) (sym c.in_ok-class.ensures.ok)) (classes_grow c.class.new.self rest)
