-- What is answered, from the first rule that is broken and from the typed contracts.
use Rattle.std.proofs.Common.{◌≡◌, List, Option, None, Result, subst}
use Rattle.puya_base.specs.declared.source.Refusal.{Refusal}
use Rattle.puya_base.specs.declared.source.SourceFault.{SourceFault}
use Rattle.awst.specs.declared.contract.Contract.{Contract}
use Rattle.py_grammar.specs.declared.module.Item.{Item}
use Rattle.py_grammar.specs.declared.module.Module.{Module}
use Rattle.path_rules.specs.Rules.{IsFirst}
use Rattle.type_check.specs.Placing as placing
use Rattle.type_check.specs.Whole as spec
use Rattle.type_check.specs.Whole.{Checks, IsBrokenIn}

pub answers_when : (is : List Item) (r : Result (List Contract) SourceFault) → placing.IsAssembled is r → placing.Answers is None r
answers_when is _ (placing.assembled cs e) = placing.answers cs e
answers_when is _ placing.lacks = placing.lacks None

checks_at : (m : Module) (first : Option Refusal) (r : Result (List Contract) SourceFault) → placing.Answers m.items first r → IsFirst (IsBrokenIn m) first → Checks m r
checks_at m _ _ (placing.answers cs e) h = spec.answers cs h e
checks_at m _ _ (placing.refuses r) h = spec.refuses r h
checks_at m _ _ (placing.lacks r) h = spec.lacks

pub checks_by : (m : Module) (is : List Item) (first : Option Refusal) (r : Result (List Contract) SourceFault) → is ≡ m.items
    → IsFirst (IsBrokenIn (record { items = is })) first → placing.Answers is first r → Checks m r
checks_by m is first r e h a =
    checks_at m first r (subst (λ z. placing.Answers z first r) e a) (subst (λ z. IsFirst (IsBrokenIn (record { items = z })) first) e h)
