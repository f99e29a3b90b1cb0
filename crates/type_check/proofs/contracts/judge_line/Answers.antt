use Rattle.std.proofs.Common.{OnOk, ap, subst, sym}
use Rattle.std.specs.Prelude.{option_copied}
use Rattle.type_check.specs.Firsts.{IsFirstOf}
use Rattle.type_check.proofs.Lines.{class_placed}
use Rattle.type_check.proofs.contracts.judge_line.Goals as goal

pub returns-in-Some-clause-paths : goal.returns-in-Some-clause-paths
returns-in-Some-clause-paths c =
    subst (λ ps. OnOk c.judge_contract.result (IsFirstOf c.args.found.now.paths ps c.judge_contract.new.found.paths))
    (sym (class_placed c.args.sight.now c.args.item.now c.in-Some.class.now (option_copied c.in_ok-class.field-0) c.in_ok-class.ensures (ap option_copied c.in-Some.is)))
    c.judge_contract.ensures.paths
