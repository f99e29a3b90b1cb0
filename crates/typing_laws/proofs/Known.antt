-- What is known: where no rule is told as broken, each part of a source means something. What a name stands for can be unknown without a broken rule only
-- where the module brings it in from a package that is not built yet, or where no name is written at all; both are premises.
use Rattle.std.proofs.Common.{◌≡◌, ℕ, ◌<◌, List, [], ◌∷◌, length, Option, Some, None}
use Rattle.std.specs.Prelude.{slice_get}
use Rattle.path_rules.specs.declared.note.Note.{Note}
use Rattle.path_rules.specs.Steps.{Step, broken}
use Rattle.source_names.specs.declared.types.SourceType.{SourceType}
use Rattle.source_names.specs.declared.constant.Constant.{Constant}
use Rattle.source_names.specs.declared.constant.Constant.TheVariants as constant_
use Rattle.source_names.specs.declared.named.Thing.{Thing}
use Rattle.source_names.specs.declared.named.Thing.TheVariants as thing
use Rattle.source_names.specs.declared.named.Entry.{Entry}
use Rattle.source_names.specs.declared.signature.Parameter.{Parameter}
use Rattle.source_names.specs.declared.signature.Signature.{Signature}
use Rattle.meaning_rules.specs.declared.meaning.Hope.{Hope}
use Rattle.meaning_rules.specs.declared.meaning.Hope.TheVariants as hope
use Rattle.meaning_rules.specs.declared.meaning.Expect.{Expect}
use Rattle.meaning_rules.specs.declared.meaning.Expect.TheVariants as expect
use Rattle.meaning_rules.specs.declared.meaning.Context.{Context}
use Rattle.meaning_rules.specs.declared.meaning.Meaning.{Meaning}
use Rattle.meaning_rules.specs.declared.meaning.Meaning.TheVariants as meaning
use Rattle.meaning_rules.specs.declared.operand.Operand.{Operand}
use Rattle.meaning_rules.specs.declared.operand.Operand.TheVariants.{Missing as missing}
use Rattle.meaning_rules.specs.declared.scope.Scope.{Scope}
use Rattle.meaning_rules.specs.declared.scope.Local.{Local}
use Rattle.meaning_rules.specs.declared.scope.Method.{Method}
use Rattle.meaning_rules.specs.declared.scope.Status.TheVariants as status
use Rattle.meaning_rules.specs.Meanings.{Judged, Valued, Operated}
use Rattle.typing_laws.proofs.Good.{Each}

-- ---- notes on expressions

abbrev pub IsUnbroken : Step → Type 0
IsUnbroken (broken r) = ⊥
IsUnbroken _ = Unit {0}

-- none of them tells of a broken rule
abbrev pub Unbroken : List Note → Type 0
Unbroken ns = Each IsUnbroken ns

-- ---- what is hoped for

abbrev pub IsHope : Hope → Type 0
IsHope hope.Unknown = ⊥
IsHope _ = Unit {0}

abbrev pub AreHopes : List Hope → Type 0
AreHopes [] = Unit {0}
AreHopes (h ∷ hs) = IsHope h × AreHopes hs

abbrev pub IsExpected : Expect → Type 0
IsExpected (expect.One h) = IsHope h
IsExpected (expect.Each hs) = AreHopes hs

abbrev pub IsHopeful : Context → Type 0
IsHopeful c = IsExpected c.expect

-- ---- names

-- a thing that means something in a scope
abbrev pub KnownThing : Scope → Thing → Type 0
KnownThing s (thing.Function i) = i < length s.functions
KnownThing s (thing.Method i) = i < length s.functions
KnownThing s (thing.Constant i) = i < length s.constants
KnownThing s thing.Unknown = ⊥
KnownThing s _ = Unit {0}

abbrev pub KnownConstant : Constant → Type 0
KnownConstant constant_.Unknown = ⊥
KnownConstant _ = Unit {0}

abbrev pub IsKnownType : Option SourceType → Type 0
IsKnownType None = ⊥
IsKnownType (Some t) = Unit {0}

abbrev pub KnownParams : List Parameter → Type 0
KnownParams [] = Unit {0}
KnownParams (p ∷ ps) = IsKnownType p.ty × KnownParams ps

abbrev pub KnownSignature : Signature → Type 0
KnownSignature g = KnownParams g.params × IsKnownType g.result

-- a scope in which each name means something, its variables aside
pub record KnownNames (s : Scope) : Type 0 where
  pub entries : (i : ℕ) (e : Entry) → slice_get s.entries i ≡ Some e → KnownThing s e.thing
  pub constants : (i : ℕ) (c : Constant) → slice_get s.constants i ≡ Some c → KnownConstant c
  pub functions : (i : ℕ) (g : Signature) → slice_get s.functions i ≡ Some g → KnownSignature g
  pub methods : (i : ℕ) (m : Method) → slice_get s.methods i ≡ Some m → m.function < length s.functions

-- no variable has a type that is not known
abbrev pub KnownLocals : List Local → Type 0
KnownLocals ls = (i : ℕ) (l : Local) → slice_get ls i ≡ Some l → l.status ≡ status.Fixed None → ⊥

pub record KnownScope (s : Scope) : Type 0 where
  pub known : KnownNames s
  pub locals : KnownLocals s.locals

-- ---- what is said of expressions, where they tell of no broken rule

abbrev pub KnownMeaning : Scope → Meaning → Type 0
KnownMeaning s (meaning.Thing t) = KnownThing s t
KnownMeaning s meaning.Unknown = ⊥
KnownMeaning s _ = Unit {0}

abbrev pub KnownOperand : Operand → Type 0
KnownOperand missing = ⊥
KnownOperand _ = Unit {0}

abbrev pub KnownTyped : {A : Type 0} → Option A → Type 0
KnownTyped None = ⊥
KnownTyped (Some t) = Unit {0}

abbrev pub KnownJudged : Scope → Judged → Type 0
KnownJudged s j = Unbroken j.notes → KnownMeaning s j.meaning

abbrev pub KnownOperated : Operated → Type 0
KnownOperated o = Unbroken o.notes → KnownOperand o.operand

abbrev pub KnownValued : Valued → Type 0
KnownValued v = Unbroken v.notes → KnownTyped v.typed
