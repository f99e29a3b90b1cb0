-- Compound statements are sound where what they are made of is.
use Rattle.std.proofs.Common.{◌≡◌, ℕ, Bool, true, false, not, List, [], ◌∷◌, Option, Some, None, refl, ap, ◌∙◌, subst}
use Rattle.std.specs.Prelude.{slice_get, if◌then◌else◌}
use Rattle.puya_base.specs.declared.source.Place.{Place}
use Rattle.puya_base.specs.declared.source.Rule.TheVariants as rule
use Rattle.awst.specs.declared.statement.Stmt.{Stmt}
use Rattle.awst.specs.declared.statement.StmtKind.{StmtKind}
use Rattle.awst.specs.declared.statement.Arm.{Arm}
use Rattle.awst.specs.Sound.{Names, Within, in_a_loop}
use Rattle.algopy_library.specs.declared.scalar.Scalar.{Scalar}
use Rattle.algopy_library.specs.declared.scalar.Scalar.TheVariants as scalar
use Rattle.path_rules.specs.declared.note.Note.{Note}
use Rattle.source_names.specs.declared.types.SourceType.{SourceType}
use Rattle.source_names.specs.declared.types.SourceType.TheVariants as ty
use Rattle.source_names.specs.Types.{same_type, scalar_of}
use Rattle.meaning_rules.specs.declared.meaning.Typed.{Typed}
use Rattle.meaning_rules.specs.declared.meaning.Meaning.{Meaning}
use Rattle.meaning_rules.specs.declared.meaning.Meaning.TheVariants as meaning
use Rattle.meaning_rules.specs.declared.operand.Operand.{Operand}
use Rattle.meaning_rules.specs.declared.operand.Operand.TheVariants.{Value as a_value, Literal as a_literal, Missing as missing}
use Rattle.meaning_rules.specs.declared.scope.Local.{Local}
use Rattle.meaning_rules.specs.declared.scope.Status.{Status}
use Rattle.meaning_rules.specs.declared.scope.Status.TheVariants as status
use Rattle.meaning_rules.specs.Meanings.{Judged, broken, operand_of}
use Rattle.expression_check.specs.Variables.{fixed, status_at}
use Rattle.statement_check.specs.Statements.{Done, done, stmt, behind_done, arm_typed, if_typed, while_typed, differs, turn_differs, for_typed, over_scalar, over_operand, over}
use Rattle.typing_laws.proofs.Good.{value_type, GoodTyped, GoodCondition, GoodMeaning, GoodOperand, Settled}
use Rattle.typing_laws.proofs.TypeLaws.{scalar_is, scalar_value_is, same_value}
use Rattle.typing_laws.proofs.Anywhere.{anywhere}
use Rattle.typing_laws.proofs.StatementNodes.{AreSoundTyped, SoundWhen, both_sound, while_sound, range_sound, each_sound, SoundArms, no_arms_sound, arm_sound, if_sound}
use Rattle.typing_laws.proofs.Taking.{Exists, type_fixed}

-- ---- one behind another

behind_by : (names : Names) (within : Within) (ls ms : List Local) (ns os : List Note) (a b : Option (List Stmt)) → SoundWhen names within a → SoundWhen names within b → SoundWhen names within (behind_done (done ls ns a) (done ms os b)).typed
behind_by names within ls ms ns os None b h k = tt
behind_by names within ls ms ns os (Some a) None h k = tt
behind_by names within ls ms ns os (Some a) (Some b) h k = both_sound names within a b h k

pub behind_sound : (names : Names) (within : Within) (d e : Done) → SoundWhen names within d.typed → SoundWhen names within e.typed → SoundWhen names within (behind_done d e).typed
behind_sound names within d e h k = behind_by names within d.locals e.locals d.notes e.notes d.typed e.typed h k

-- ---- arms

abbrev pub ArmsWhen : Names → Within → Option (List Arm) → Option (List Stmt) → Type 0
ArmsWhen names within (Some as_) (Some b) = SoundArms names within as_ b
ArmsWhen names within (Some as_) None = Unit {0}
ArmsWhen names within None b = Unit {0}

pub rest_when : (names : Names) (within : Within) (b : Option (List Stmt)) → SoundWhen names within b → ArmsWhen names within (Some []) b
rest_when names within None h = tt
rest_when names within (Some b) h = no_arms_sound names within b h

pub arm_when : (names : Names) (within : Within) (c : Option Typed) (b : Option (List Stmt)) (as_ : Option (List Arm)) (rest : Option (List Stmt)) → GoodCondition (anywhere names) c → SoundWhen names within b → ArmsWhen names within as_ rest
    → ArmsWhen names within (arm_typed c b as_) rest
arm_when names within None b as_ rest g h k = tt
arm_when names within (Some c) None as_ rest g h k = tt
arm_when names within (Some c) (Some b) None rest g h k = tt
arm_when names within (Some c) (Some b) (Some as_) None g h k = tt
arm_when names within (Some c) (Some b) (Some as_) (Some rest) g h k = arm_sound names within c.expr b as_ rest (g.0.sound, g.1) h k

pub if_when : (names : Names) (within : Within) (p : Place) (as_ : Option (List Arm)) (b : Option (List Stmt)) → ArmsWhen names within as_ b → SoundWhen names within (if_typed p as_ b)
if_when names within p (Some as_) (Some b) h = if_sound names within p as_ b h
if_when names within p (Some as_) None h = tt
if_when names within p None b h = tt

-- ---- loops

pub while_when : (names : Names) (within : Within) (p : Place) (c : Option Typed) (b : Option (List Stmt)) → GoodCondition (anywhere names) c → SoundWhen names (in_a_loop within) b → SoundWhen names within (while_typed p c b)
while_when names within p (Some c) (Some b) g h = while_sound names within p c.expr b (g.0.sound, g.1) h
while_when names within p (Some c) None g h = tt
while_when names within p None b g h = tt

-- what a `for` goes over gives a sound statement over a sound body
abbrev pub OverFits : Names → Option SourceType → Option (ℕ → List Stmt → StmtKind) → Type 0
OverFits names t None = Unit {0}
OverFits names t (Some k) =
    (u : SourceType) × (t ≡ Some u) × ((within : Within) (p : Place) (i : ℕ) (b : List Stmt) → slice_get names.variables i ≡ Some (value_type u) → AreSoundTyped names (in_a_loop within) b → AreSoundTyped names within (stmt p (k i b)))

scalar_fits : (names : Names) (t : Typed) (s : Option Scalar) → scalar_of t.ty ≡ s → GoodTyped (anywhere names) t → OverFits names (over_scalar t s).ty (over_scalar t s).over
scalar_fits names t None e g = tt
scalar_fits names t (Some scalar.UInt64) e g = tt
scalar_fits names t (Some scalar.Bool) e g = tt
scalar_fits names t (Some scalar.Bytes) e g =
    (ty.Scalar scalar.Bytes, refl, λ within p i b h k. each_sound names within p i t.expr b (h ∙ ap Some (scalar_is scalar.Bytes)) (g.sound, g.type_is ∙ scalar_value_is t.ty scalar.Bytes e) k)
scalar_fits names t (Some scalar.Text) e g = tt
scalar_fits names t (Some scalar.Account) e g = tt

operand_fits : (names : Names) (o : Operand) → GoodOperand (anywhere names) o → OverFits names (over_operand o).ty (over_operand o).over
operand_fits names (a_value t) g = scalar_fits names t (scalar_of t.ty) refl g.0
operand_fits names (a_literal q l) g = tt
operand_fits names missing g = tt

over_by : (names : Names) (p : Place) (ns : List Note) (m : Meaning) → GoodMeaning (anywhere names) m → GoodOperand (anywhere names) (operand_of p (record { notes = ns; meaning = m })).operand
    → OverFits names (over p (record { notes = ns; meaning = m })).ty (over p (record { notes = ns; meaning = m })).over
over_by names p ns (meaning.Range r) g o =
    (ty.Scalar scalar.UInt64, refl, λ within q i b h k. range_sound names within q i r.start r.stop r.step b (h ∙ ap Some (scalar_is scalar.UInt64)) g.start g.stop g.step k)
over_by names p ns (meaning.Value t) g o = operand_fits names (operand_of p (record { notes = ns; meaning = meaning.Value t })).operand o
over_by names p ns (meaning.Literal q l) g o = operand_fits names (operand_of p (record { notes = ns; meaning = meaning.Literal q l })).operand o
over_by names p ns (meaning.Thing t) g o = operand_fits names (operand_of p (record { notes = ns; meaning = meaning.Thing t })).operand o
over_by names p ns meaning.Unknown g o = operand_fits names (operand_of p (record { notes = ns; meaning = meaning.Unknown })).operand o

pub over_fits : (names : Names) (p : Place) (j : Judged) → GoodMeaning (anywhere names) j.meaning → GoodOperand (anywhere names) (operand_of p j).operand → OverFits names (over p j).ty (over p j).over
over_fits names p j g o = over_by names p j.notes j.meaning g o

not_differs : (b : Bool) → not b ≡ false → b ≡ true
not_differs true h = refl
not_differs false h = absurd (cc)

turn_fits : (s : Status) (t : Option SourceType) (u v : SourceType) → differs s t ≡ false → t ≡ Some u → s ≡ status.Fixed (Some v) → value_type v ≡ value_type u
turn_fits s t u v h e f = same_value v u (not_differs (same_type v u) (subst (λ (z : Status). differs z (Some u) ≡ false) f (subst (λ (z : Option SourceType). differs s z ≡ false) e h)))

for_by : (names : Names) (within : Within) (ls : List Local) (p q : Place) (i : ℕ) (t : Option SourceType) (f : Option (ℕ → List Stmt → StmtKind)) (b : Option (List Stmt)) (c : Bool) → differs (status_at ls i) t ≡ c → OverFits names t f
    → Exists ls i → Settled names (fixed ls i t) → SoundWhen names (in_a_loop within) b → SoundWhen names within (for_typed p i (if c then broken rule.P14 q ∷ [] else []) f b)
for_by names within ls p q i t f b true e o x h k = tt
for_by names within ls p q i t None b false e o x h k = tt
for_by names within ls p q i t (Some f) None false e o x h k = tt
for_by names within ls p q i t (Some f) (Some b) false e o x h k =
    o.2 within p i b (type_fixed names ls i o.0 x (subst (λ (z : Option SourceType). Settled names (fixed ls i z)) o.1 h) (λ v z. turn_fits (status_at ls i) t o.0 v e o.1 z)) k

pub for_when : (names : Names) (within : Within) (ls : List Local) (p q : Place) (i : ℕ) (t : Option SourceType) (f : Option (ℕ → List Stmt → StmtKind)) (b : Option (List Stmt)) → OverFits names t f
    → Exists ls i → Settled names (fixed ls i t) → SoundWhen names (in_a_loop within) b → SoundWhen names within (for_typed p i (turn_differs (status_at ls i) q t) f b)
for_when names within ls p q i t f b o x h k = for_by names within ls p q i t f b (differs (status_at ls i) t) refl o x h k
