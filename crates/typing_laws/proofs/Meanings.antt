-- Literals, values and conditions are good where what they are made of is.
use Rattle.std.proofs.Common.{◌≡◌, ◌∙◌, unwrap_or, Bool, true, false, Option, Some, None, [], ◌∷◌, refl, sym, ap, subst}
use Rattle.std.specs.Prelude.{IsTrue, if◌then◌else◌}
use Rattle.std.proofs.lemmas.Option.{none-some, same_Some}
use Rattle.puya_base.specs.declared.source.Place.{Place}
use Rattle.puya_base.specs.declared.source.Rule.TheVariants as rule
use Rattle.awst.specs.Shapes as shapes
use Rattle.awst.specs.declared.primitive.Primitive.TheVariants as prim
use Rattle.algopy_library.specs.declared.scalar.Scalar.{Scalar}
use Rattle.algopy_library.specs.declared.scalar.Scalar.TheVariants as scalar
use Rattle.source_names.specs.declared.types.SourceType.{SourceType}
use Rattle.source_names.specs.declared.types.SourceType.TheVariants as ty
use Rattle.source_names.specs.Types.{same_type, scalar_of, is_nothing}
use Rattle.meaning_rules.specs.declared.meaning.Hope.{Hope}
use Rattle.meaning_rules.specs.declared.meaning.Hope.TheVariants as hope
use Rattle.meaning_rules.specs.declared.meaning.Lit.{Lit}
use Rattle.meaning_rules.specs.declared.meaning.Lit.TheVariants as lit
use Rattle.meaning_rules.specs.declared.meaning.Typed.{Typed}
use Rattle.meaning_rules.specs.declared.meaning.Meaning.{Meaning}
use Rattle.meaning_rules.specs.declared.meaning.Meaning.TheVariants as meaning
use Rattle.meaning_rules.specs.declared.operand.Operand.{Operand}
use Rattle.meaning_rules.specs.declared.operand.Operand.TheVariants.{Value as a_value, Literal as a_literal, Missing as missing}
use Rattle.meaning_rules.specs.Meanings.{Judged, Valued, literal, lit_node, lit_type, value_breaks, a_typed, kept, operand, operand_of, settled, value, fits_type, fits_when, required, truth_of, condition_at, condition_of, condition, Operated}
use Rattle.typing_laws.proofs.Good.{World, Always, Gives, GoodLit, GoodMeaning, GoodOption, GoodJudged, GoodOperand, GoodOperated, GoodValued, GoodCondition, GoodTyped, IsKeptType, value_type}
use Rattle.typing_laws.proofs.Giving.{gives_none, gives_broken, gives_then}
use Rattle.typing_laws.proofs.TypeLaws.{same_value, scalar_type, scalar_value_is, scalar_is, kept_scalar}
use Rattle.typing_laws.proofs.Nodes.{number_good, text_good, bytes_good, prim_good, scalar_kept}

-- ---- literals

pub lit_good : (w : World) (p : Place) (l : Lit) → GoodLit l → GoodTyped w (lit_node p l) × IsKeptType (lit_node p l).ty
lit_good w p (lit.Number n) h = (number_good w p n, kept_scalar scalar.UInt64)
lit_good w p (lit.Text b) h = (text_good w p b h, kept_scalar scalar.Text)
lit_good w p (lit.Bytes b) h = (bytes_good w p b h, kept_scalar scalar.Bytes)

abbrev literal_when : Place → Lit → Bool → Valued
literal_when p l b = if b then a_typed (lit_node p l) else value_breaks rule.P14 p

literal_by : (w : World) (p : Place) (l : Lit) (b : Bool) → Gives w (GoodLit l) (literal_when p l b).notes (GoodOption w (literal_when p l b).typed)
literal_by w p l true = gives_none w _ _ (lit_good w p l)
literal_by w p l false = gives_broken w _ _ rule.P14 p (λ g. tt)

pub literal_good : (w : World) (h : Hope) (p : Place) (l : Lit) → Gives w (GoodLit l) (literal h p l).notes (GoodOption w (literal h p l).typed)
literal_good w (hope.Wants t) p l = literal_by w p l (same_type t (lit_type l))
literal_good w hope.Free p l = gives_broken w _ _ rule.P14 p (λ g. tt)
literal_good w hope.Unknown p l = gives_none w _ _ (λ g. tt)

literal_type_by : (t : SourceType) (p : Place) (l : Lit) (b : Bool) (u : Typed) → same_type t (lit_type l) ≡ b → (literal_when p l b).typed ≡ Some u → value_type u.ty ≡ value_type t
literal_type_by t q l true u e h = ap (λ (v : Typed). value_type v.ty) (sym (same_Some (lit_node q l) u h)) ∙ sym (same_value t (lit_type l) e)
literal_type_by t q l false u e h = absurd (none-some u h)

-- a literal that fits has the type that is wanted
pub literal_type : (t : SourceType) (p : Place) (l : Lit) (u : Typed) → (literal (hope.Wants t) p l).typed ≡ Some u → value_type u.ty ≡ value_type t
literal_type t p l u h = literal_type_by t p l (same_type t (lit_type l)) u refl h

-- ---- values

kept_by : (w : World) (p : Place) (t : Typed) (b : Bool) → is_nothing t.ty ≡ b → Gives w (GoodTyped w t) (kept p t).notes (GoodOperand w (kept p t).operand)
kept_by w p t true e = rw e (gives_broken w _ _ rule.P14 p (λ g. tt))
kept_by w p t false e = rw e (gives_none w _ _ (λ g. (g, g.kept e)))

pub operand_gives : (w : World) (p : Place) (m : Meaning) → Gives w (GoodMeaning w m) (operand p m).notes (GoodOperand w (operand p m).operand)
operand_gives w p (meaning.Value t) = kept_by w p t (is_nothing t.ty) refl
operand_gives w p (meaning.Literal q l) = gives_none w _ _ (λ g. g)
operand_gives w p (meaning.Thing t) = gives_broken w _ _ rule.P14 p (λ g. tt)
operand_gives w p (meaning.Range r) = gives_broken w _ _ rule.P14 p (λ g. tt)
operand_gives w p meaning.Unknown = gives_none w _ _ (λ g. g)

pub operand_good : (w : World) (p : Place) (j : Judged) → GoodJudged w Always j → GoodOperated w Always (operand_of p j)
operand_good w p j g = gives_then w _ _ _ j.notes (operand p j.meaning).notes g (operand_gives w p j.meaning)

pub settled_gives : (w : World) (h : Hope) (o : Operand) → Gives w (GoodOperand w o) (settled h o).notes (GoodOption w (settled h o).typed)
settled_gives w h (a_value t) = gives_none w _ _ (λ g. g)
settled_gives w h (a_literal q l) = literal_good w h q l
settled_gives w h missing = gives_none w _ _ (λ g. tt)

-- an operand settled as a value
pub settled_good : (w : World) (h : Hope) (o : Operated) → Gives w (GoodOperand w o.operand) (settled h o.operand).notes (GoodOption w (settled h o.operand).typed)
settled_good w h o = settled_gives w h o.operand

pub value_good : (w : World) (h : Hope) (p : Place) (j : Judged) → GoodJudged w Always j → GoodValued w Always (value h p j)
value_good w h p j g = gives_then w _ _ _ (operand_of p j).notes (settled h (operand_of p j).operand).notes (operand_good w p j g) (settled_good w h (operand_of p j))

fits_by : (w : World) (t : SourceType) (e : Typed) (b : Bool) → same_type e.ty t ≡ b → Gives w (GoodTyped w e × IsKeptType e.ty) (fits_type t e).notes (GoodOption w (fits_type t e).typed)
fits_by w t e true h = rw h (gives_none w _ _ (λ g. g))
fits_by w t e false h = rw h (gives_broken w _ _ rule.P14 e.expr.place (λ g. tt))

pub fits_good : (w : World) (t : SourceType) (e : Typed) → Gives w (GoodTyped w e × IsKeptType e.ty) (fits_type t e).notes (GoodOption w (fits_type t e).typed)
fits_good w t e = fits_by w t e (same_type e.ty t) refl

fits_is_by : (t : SourceType) (e u : Typed) (b : Bool) → same_type e.ty t ≡ b → (if b then a_typed e else value_breaks rule.P14 e.expr.place).typed ≡ Some u → value_type u.ty ≡ value_type t
fits_is_by t e u true h k = subst (λ z. value_type (unwrap_or z e).ty ≡ value_type t) k (same_value e.ty t h)
fits_is_by t e u false h k = cc

pub fits_type_is : (t : SourceType) (e u : Typed) → (fits_type t e).typed ≡ Some u → value_type u.ty ≡ value_type t
fits_type_is t e u h = fits_is_by t e u (same_type e.ty t) refl h

pub fits_when_good : (w : World) (t : Option SourceType) (o : Option Typed) → Gives w (GoodOption w o) (fits_when t o).notes (GoodOption w (fits_when t o).typed)
fits_when_good w (Some t) (Some e) = fits_good w t e
fits_when_good w (Some t) None = gives_none w _ _ (λ g. tt)
fits_when_good w None o = gives_none w _ _ (λ g. tt)

pub required_good : (w : World) (t : Option SourceType) (v : Valued) → GoodValued w Always v → GoodValued w Always (required t v)
required_good w t v g = gives_then w _ _ _ v.notes (fits_when t v.typed).notes g (fits_when_good w t v.typed)

pub required_is : (t : SourceType) (o : Option Typed) (u : Typed) → (fits_when (Some t) o).typed ≡ Some u → value_type u.ty ≡ value_type t
required_is t (Some e) u h = fits_type_is t e u h
required_is t None u h = cc

-- a value that fits has the type that is required
pub required_type : (t : SourceType) (v : Valued) (u : Typed) → (required (Some t) v).typed ≡ Some u → value_type u.ty ≡ value_type t
required_type t v u h = required_is t v.typed u h

-- ---- conditions

truth_good : (w : World) (t : Typed) (s : Scalar) → scalar_of t.ty ≡ Some s → IsTrue (shapes.has_truth (scalar_type s)) → GoodTyped w t × IsKeptType t.ty → GoodCondition w (Some (truth_of t))
truth_good w t s e h g =
    let fits : shapes.Fits shapes.tells_truth (value_type t.ty ∷ []) (value_type (ty.Scalar scalar.Bool)) =
    (value_type t.ty, refl, subst (λ z. IsTrue (shapes.has_truth z)) (sym (scalar_value_is t.ty s e)) h, scalar_is scalar.Bool) in
    let n = prim_good w t.expr.place (ty.Scalar scalar.Bool) prim.Truth (t ∷ []) (g, tt) fits (scalar_kept scalar.Bool) in
    (n, n.type_is ∙ scalar_is scalar.Bool)

condition_at_good : (w : World) (t : Typed) (s : Option Scalar) → scalar_of t.ty ≡ s → Gives w (GoodTyped w t × IsKeptType t.ty) (condition_at t s).notes (GoodCondition w (condition_at t s).typed)
condition_at_good w t None e = gives_broken w _ _ rule.P14 t.expr.place (λ g. tt)
condition_at_good w t (Some scalar.Bool) e = gives_none w _ _ (λ g. (g.0, g.0.type_is ∙ scalar_value_is t.ty scalar.Bool e))
condition_at_good w t (Some scalar.UInt64) e = gives_none w _ _ (truth_good w t scalar.UInt64 e refl)
condition_at_good w t (Some scalar.Bytes) e = gives_none w _ _ (truth_good w t scalar.Bytes e refl)
condition_at_good w t (Some scalar.Text) e = gives_none w _ _ (truth_good w t scalar.Text e refl)
condition_at_good w t (Some scalar.Account) e = gives_broken w _ _ rule.P14 t.expr.place (λ g. tt)

condition_of_good : (w : World) (o : Option Typed) → Gives w (GoodOption w o) (condition_of o).notes (GoodCondition w (condition_of o).typed)
condition_of_good w None = gives_none w _ _ (λ g. tt)
condition_of_good w (Some t) = condition_at_good w t (scalar_of t.ty) refl

pub condition_good : (w : World) (p : Place) (j : Judged) → GoodJudged w Always j → Gives w Always (condition p j).notes (GoodCondition w (condition p j).typed)
condition_good w p j g = gives_then w _ _ _ (value hope.Free p j).notes (condition_of (value hope.Free p j).typed).notes (value_good w hope.Free p j g) (condition_of_good w (value hope.Free p j).typed)
