-- Programs that see the same give the same answer.
use Rattle.std.proofs.Common.{◌≡◌, ℕ, IsTrue, List, [], ◌∷◌, inl, refl, sym, ap, subst, ◌∙◌}
use Rattle.dt_graph.proofs.ListMembers.{In, In-from_Contains, Contains-from_In, All-In, All-from_In}
use Rattle.dt_definitions.specs.Program.{Definition, Program}
use Rattle.dt_definitions.specs.Lawful.{Lawful}
use Rattle.dt_scratch.specs.declared.reply.Answer.{Answer}
use Rattle.dt_scratch.specs.declared.reply.Answer.TheVariants.{Method, NotUnderstood, Ambiguous}
use Rattle.dt_scratch.specs.Query.{Query}
use Rattle.dt_scratch.specs.Resolve.{are_below, applicable, answer}
use Rattle.dt_scratch.specs.Laws.{SeeTheSame, SameAnswersWhereSame}
use Rattle.dt_scratch.proofs.Lowest.{methods_are_lowest, lowest_answers, not_understood_where_none}

-- nothing stands in a list of which no element does
pub none_contained : (ds : List Definition) → ((d : Definition) → In ds d → ⊥) → ds ≡ []
none_contained [] none = refl
none_contained (d ∷ ds) none = absurd (none d (inl refl))

-- an answer but an ambiguous one is the other answer too
pub record Stays (a b : Answer) : Type 0 where
  pub method : (body : ℕ) → a ≡ Method body → b ≡ Method body
  pub none : a ≡ NotUnderstood → b ≡ NotUnderstood

answer_stays : (query : Query) (old new : Program) → Lawful old → Lawful new → SeeTheSame query old new →
    Stays (answer old query) (answer new query)
answer_stays query old new is_old is_new same = record {
  method = λ body e.
      let d = methods_are_lowest old is_old query body e in
      lowest_answers new is_new query d.0 (
        (same.applicable_stay d.0).0 d.1.0,
        All-from_In (λ other. IsTrue (are_below new.graph.links d.0.classes other.classes)) (applicable new query) (λ other i.
            let there = (same.applicable_stay other).1 (Contains-from_In (applicable new query) other i) in
            sym (same.order_stays d.0 other d.1.0 there)
            ∙ All-In (λ other. IsTrue (are_below old.graph.links d.0.classes other.classes)) (applicable old query) other d.1.1
            (In-from_Contains (applicable old query) other there)),
      ) ∙ ap Method d.2;
  none = λ e.
      let found = (not_understood_where_none old is_old query).0 e in
      (not_understood_where_none new is_new query).1 (none_contained (applicable new query) (λ d i.
      subst (λ ds. In ds d) found (In-from_Contains (applicable old query) d
      ((same.applicable_stay d).1 (Contains-from_In (applicable new query) d i)))));
}

both_ways : (a b : Answer) → Stays a b → Stays b a → a ≡ b
both_ways (Method body) b there back = sym (there.method body refl)
both_ways NotUnderstood b there back = sym (there.none refl)
both_ways Ambiguous (Method body) there back = back.method body refl
both_ways Ambiguous NotUnderstood there back = back.none refl
both_ways Ambiguous Ambiguous there back = refl

pub same_answers : SameAnswersWhereSame
same_answers old new is_old is_new query same =
    both_ways (answer old query) (answer new query) (answer_stays query old new is_old is_new same)
    (answer_stays query new old is_new is_old (record {
      applicable_stay = λ d. ((same.applicable_stay d).1, (same.applicable_stay d).0);
      order_stays = λ a b i j. sym (same.order_stays a b ((same.applicable_stay a).1 i) ((same.applicable_stay b).1 j));
    }))
