use Rattle.std.proofs.Common.{◌≡◌, ◌++◌, subst, IfOk, OnOk}
use Rattle.meaning_rules.specs.Meanings.{Judged}
use Rattle.expression_check.proofs.Members.{beside_values}
use Rattle.expression_check.proofs.named.thing_member.Goals as goal

pub returns-in_default : goal.returns-in_default
returns-in_default c = record {
  told = λ ls. subst (λ (j : Judged). OnOk c.found_member.result (c.found_member.new.into ≡ c.args.into.now ++ j.notes))
      (beside_values c.args.sight.now ls c.args.place c.args.thing c.args.word.now c.in_default.not-Member) c.found_member.ensures.told;
  meaning = λ ls. subst (λ (j : Judged). IfOk c.found_member.result (λ m. m ≡ j.meaning))
      (beside_values c.args.sight.now ls c.args.place c.args.thing c.args.word.now c.in_default.not-Member) c.found_member.ensures.meaning;
}
