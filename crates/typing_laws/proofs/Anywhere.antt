-- What is judged of an expression is good where each variable may be read.
use Rattle.std.proofs.Common.{true, List, [], ◌∷◌, Option, Some, None, refl}
use Rattle.puya_base.specs.declared.source.Place.{Place}
use Rattle.awst.specs.Sound.{Names}
use Rattle.path_rules.specs.declared.note.Note.{Note}
use Rattle.path_rules.specs.Steps.{Step, broken, read, assign, forget, arm, choice, may_end, loop, break, continue, return, step_of}
use Rattle.source_names.specs.Source.{Ex}
use Rattle.meaning_rules.specs.declared.meaning.Context.{Context}
use Rattle.meaning_rules.specs.declared.meaning.Hope.{Hope}
use Rattle.meaning_rules.specs.declared.meaning.Typed.{Typed}
use Rattle.meaning_rules.specs.declared.scope.Scope.{Scope}
use Rattle.meaning_rules.specs.declared.scope.Local.{Local}
use Rattle.meaning_rules.specs.declared.scope.Status.{Status}
use Rattle.meaning_rules.specs.declared.scope.Status.TheVariants as status
use Rattle.meaning_rules.specs.Meanings.{Valued, value, condition, operand_of}
use Rattle.expression_check.specs.Expressions.{judge}
use Rattle.statement_check.specs.Statements.{seeing, for_status, type_in}
use Rattle.typing_laws.proofs.Good.{World, Always, Gives, IsAllowed, Allows, GoodNames, GoodScope, Settled, KeptLocals, GoodOption, GoodValued, GoodMeaning, GoodCondition, GoodOperand}
use Rattle.typing_laws.proofs.Meanings.{value_good, required_good, condition_good, operand_good}
use Rattle.typing_laws.proofs.Expressions.{judge_good}
use Rattle.typing_laws.proofs.Fixing.{KeptOption, kept_none, kept_some}
use Rattle.typing_laws.proofs.Growing.{kept_settled}

-- each variable may be read
abbrev pub anywhere : Names → World
anywhere names = record { names = names; reads = λ x. true }

-- where each variable may be read, notes read what they may
pub allows_all : (ns : List Note) → Allows (λ y. true) ns
allows_all [] = tt
allows_all (n ∷ ns) = (allowed_step (step_of n), allows_all ns)
  where
    allowed_step : (f : Step) → IsAllowed (λ y. true) f
    allowed_step (broken r) = tt
    allowed_step (read y p) = refl
    allowed_step (assign y) = tt
    allowed_step (forget y) = tt
    allowed_step (arm always body) = tt
    allowed_step (choice fs) = tt
    allowed_step may_end = tt
    allowed_step (loop fs) = tt
    allowed_step (break p) = tt
    allowed_step (continue p) = tt
    allowed_step return = tt

pub given : (names : Names) (Q : Type 0) (ns : List Note) → Gives (anywhere names) Always ns Q → Q
given names Q ns g = g.holds tt (allows_all ns)

-- ---- scopes

pub names_at : (names : Names) (s : Scope) (ls : List Local) → GoodNames names s → GoodNames names (seeing s ls)
names_at names s ls g = record { entries = g.entries; constants = g.constants; functions = g.functions }

pub scope_now : (names : Names) (s : Scope) → GoodNames names s → KeptLocals s.locals → Settled names s.locals → GoodScope names s
scope_now names s g k h = record { known = g; locals = kept_settled names s.locals h k }

pub scope_at : (names : Names) (s : Scope) (ls : List Local) → GoodNames names s → KeptLocals ls → Settled names ls → GoodScope names (seeing s ls)
scope_at names s ls g k h = scope_now names (seeing s ls) (names_at names s ls g) k h

-- ---- expressions

pub meaning_given : (names : Names) (s : Scope) (c : Context) (e : Ex) → GoodScope names s → GoodMeaning (anywhere names) (judge s c e).meaning
meaning_given names s c e g = given names (GoodMeaning (anywhere names) (judge s c e).meaning) (judge s c e).notes (judge_good (anywhere names) s c e g)

pub operand_given : (names : Names) (s : Scope) (p : Place) (c : Context) (e : Ex) → GoodScope names s → GoodOperand (anywhere names) (operand_of p (judge s c e)).operand
operand_given names s p c e g =
    given names (GoodOperand (anywhere names) (operand_of p (judge s c e)).operand) (operand_of p (judge s c e)).notes (operand_good (anywhere names) p (judge s c e) (judge_good (anywhere names) s c e g))

pub judged_value : (names : Names) (s : Scope) (h : Hope) (p : Place) (c : Context) (e : Ex) → GoodScope names s → GoodValued (anywhere names) Always (value h p (judge s c e))
judged_value names s h p c e g = value_good (anywhere names) h p (judge s c e) (judge_good (anywhere names) s c e g)

pub option_given : (names : Names) (v : Valued) → GoodValued (anywhere names) Always v → GoodOption (anywhere names) v.typed
option_given names v g = given names (GoodOption (anywhere names) v.typed) v.notes g

pub condition_given : (names : Names) (s : Scope) (p : Place) (c : Context) (e : Ex) → GoodScope names s → GoodCondition (anywhere names) (condition p (judge s c e)).typed
condition_given names s p c e g =
    given names (GoodCondition (anywhere names) (condition p (judge s c e)).typed) (condition p (judge s c e)).notes (condition_good (anywhere names) p (judge s c e) (judge_good (anywhere names) s c e g))

pub for_status_good : (w : World) (t : Status) (v : Valued) → GoodValued w Always v → GoodValued w Always (for_status t v)
for_status_good w status.Unseen v g = g
for_status_good w (status.Fixed t) v g = required_good w t v g

pub type_kept : (w : World) (t : Option Typed) → GoodOption w t → KeptOption (type_in t)
type_kept w None g = kept_none
type_kept w (Some t) g = kept_some t.ty g.1
