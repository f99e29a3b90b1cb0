-- Conditional expressions and tuples are good where their parts are.
use Rattle.std.proofs.Common.{◌≡◌, List, [], ◌∷◌, ◌++◌, Option, Some, None}
use Rattle.puya_base.specs.declared.source.Place.{Place}
use Rattle.puya_base.specs.declared.source.Rule.TheVariants as rule
use Rattle.awst.specs.declared.expression.ExprKind.TheVariants as kind
use Rattle.source_names.specs.declared.types.SourceType.TheVariants as ty
use Rattle.source_names.specs.Types.{same_type, fits_limits}
use Rattle.meaning_rules.specs.declared.meaning.Hope.{Hope}
use Rattle.meaning_rules.specs.declared.meaning.Lit.{Lit}
use Rattle.meaning_rules.specs.declared.meaning.Typed.{Typed}
use Rattle.meaning_rules.specs.declared.operand.Operand.{Operand}
use Rattle.meaning_rules.specs.declared.operand.Operand.TheVariants.{Value as a_value, Literal as a_literal, Missing as missing}
use Rattle.meaning_rules.specs.Meanings.{Judged, Valued, breaks, node, literal, operand_of, condition}
use Rattle.meaning_rules.specs.Operations.{Parts, chosen_when, chosen, choose_two, beside, choose_literal, choose_first, choose_literals, choose_values, judge_choose, both, no_parts, and_part, types_in, exprs_in, tuple_when, judge_tuple}
use Rattle.typing_laws.proofs.Good.{World, Always, value_type, GoodLit, GoodTypedsWhen, GoodOption, GoodOperand, GoodCondition, GoodJudged, GoodValued, GoodParts}
use Rattle.typing_laws.proofs.Giving.{gives_none, gives_broken, gives_then, gives_pair, gives_both, gives_map}
use Rattle.typing_laws.proofs.TypeLaws.{same_value}
use Rattle.typing_laws.proofs.Nodes.{prim_good, scalar_kept, and_good, or_good}
use Rattle.typing_laws.proofs.Nodes as nodes
use Rattle.typing_laws.proofs.Meanings.{literal_good, operand_good, condition_good}
use Rattle.typing_laws.proofs.Fitting.{gives_with, GoodValue, either_good, when_good}

-- ---- conditional expressions

abbrev GoodTwo : World → Typed → Typed → Type 0
GoodTwo w a b = GoodValue w a × GoodValue w b

chosen_when_good : (w : World) (p : Place) (c : Option Typed) (a b : Typed) → value_type a.ty ≡ value_type b.ty → GoodJudged w (GoodCondition w c × GoodTwo w a b) (chosen_when p c a b)
chosen_when_good w p None a b e = gives_none w _ _ (λ g. tt)
chosen_when_good w p (Some c) a b e = gives_none w _ _ (λ g. nodes.choose_good w p c a b g.0.0 g.0.1 g.1.0.0 g.1.0.1 g.1.1.0 e)

chosen_good : (w : World) (p q : Place) (c : Option Typed) (a b : Typed) → GoodJudged w (GoodCondition w c × GoodTwo w a b) (chosen p q c a b)
chosen_good w p q c a b =
    when_good w _ (same_type a.ty b.ty) (chosen_when p c a b) (breaks rule.P14 q) (λ e. chosen_when_good w p c a b (same_value a.ty b.ty e)) (gives_broken w _ _ rule.P14 q (λ g. tt))

choose_two_good : (w : World) (p q : Place) (c a b : Option Typed) → GoodJudged w (GoodCondition w c × (GoodOption w a × GoodOption w b)) (choose_two p q c a b)
choose_two_good w p q c (Some a) (Some b) = chosen_good w p q c a b
choose_two_good w p q c (Some a) None = gives_none w _ _ (λ g. tt)
choose_two_good w p q c None b = gives_none w _ _ (λ g. tt)

abbrev GoodChoice : World → Option Typed → Operand → Operand → Type 0
GoodChoice w c a b = GoodCondition w c × (GoodOperand w a × GoodOperand w b)

second_literal : (w : World) (p q : Place) (c : Option Typed) (a : Typed) (h : Hope) (l : Lit) → GoodJudged w (GoodChoice w c (a_value a) (a_literal q l)) (choose_literal p q c a (literal h q l))
second_literal w p q c a h l =
    let v = literal h q l in
    gives_with w _ (GoodLit l) _ _ v.notes (choose_two p q c (Some a) v.typed).notes (λ g. g.1.1) (literal_good w h q l)
    (gives_map w (GoodCondition w c × (GoodValue w a × GoodOption w v.typed)) _ _ _ _ (λ g. (g.0.0, (g.0.1.0, g.1))) (λ g. g) (choose_two_good w p q c (Some a) v.typed))

first_literal : (w : World) (p q : Place) (c : Option Typed) (h : Hope) (l : Lit) (b : Typed) → GoodJudged w (GoodChoice w c (a_literal q l) (a_value b)) (choose_first p q c (literal h q l) b)
first_literal w p q c h l b =
    let v = literal h q l in
    gives_with w _ (GoodLit l) _ _ v.notes (choose_two p q c v.typed (Some b)).notes (λ g. g.1.0) (literal_good w h q l)
    (gives_map w (GoodCondition w c × (GoodOption w v.typed × GoodValue w b)) _ _ _ _ (λ g. (g.0.0, (g.1, g.0.1.1))) (λ g. g) (choose_two_good w p q c v.typed (Some b)))

two_literals : (w : World) (p q r : Place) (c : Option Typed) (h : Hope) (l k : Lit) → GoodJudged w (GoodChoice w c (a_literal q l) (a_literal r k)) (choose_literals p r c (literal h q l) (literal h r k))
two_literals w p q r c h l k =
    let v = literal h q l in let u = literal h r k in
    gives_with w _ (GoodLit l × GoodLit k) _ _ (v.notes ++ u.notes) (choose_two p r c v.typed u.typed).notes (λ g. g.1)
    (gives_both w _ _ _ _ v.notes u.notes (literal_good w h q l) (literal_good w h r k))
    (gives_map w (GoodCondition w c × (GoodOption w v.typed × GoodOption w u.typed)) _ _ _ _ (λ g. (g.0.0, g.1)) (λ g. g) (choose_two_good w p r c v.typed u.typed))

choose_values_good : (w : World) (p pb : Place) (h : Hope) (c : Option Typed) (a b : Operand) → GoodJudged w (GoodChoice w c a b) (choose_values p pb h c a b)
choose_values_good w p pb h c (a_value a) (a_value b) = chosen_good w p pb c a b
choose_values_good w p pb h c (a_value a) (a_literal q l) = second_literal w p q c a (beside h a.ty) l
choose_values_good w p pb h c (a_literal q l) (a_value b) = first_literal w p q c (beside h b.ty) l b
choose_values_good w p pb h c (a_literal q l) (a_literal r k) = two_literals w p q r c h l k
choose_values_good w p pb h c (a_value a) missing = gives_none w _ _ (λ g. tt)
choose_values_good w p pb h c (a_literal q l) missing = gives_none w _ _ (λ g. tt)
choose_values_good w p pb h c missing b = gives_none w _ _ (λ g. tt)

pub choose_is_good : (w : World) (p pa pc pb : Place) (h : Hope) (x z y : Judged) → GoodJudged w Always x → GoodJudged w Always z → GoodJudged w Always y → GoodJudged w Always (judge_choose p pa pc pb h x z y)
choose_is_good w p pa pc pb h x z y g k m =
    let c = condition pc z in let a = operand_of pa x in let b = operand_of pb y in
    gives_then w _ _ _ (a.notes ++ (c.notes ++ b.notes)) (choose_values p pb h c.typed a.operand b.operand).notes
    (gives_map w Always (GoodOperand w a.operand × (GoodCondition w c.typed × GoodOperand w b.operand)) _ _ _ (λ t. t) (λ t. (t.1.0, (t.0, t.1.1)))
    (gives_pair w _ _ _ a.notes (c.notes ++ b.notes) (operand_good w pa x g) (gives_pair w _ _ _ c.notes b.notes (condition_good w pc z k) (operand_good w pb y m))))
    (choose_values_good w p pb h c.typed a.operand b.operand)

-- ---- tuples

both_good : (w : World) (t : Option Typed) (ts : Option (List Typed)) → GoodOption w t × GoodTypedsWhen w ts → GoodTypedsWhen w (both t ts)
both_good w (Some t) (Some ts) g = g
both_good w (Some t) None g = tt
both_good w None ts g = tt

pub no_parts_good : (w : World) → GoodParts w no_parts
no_parts_good w = gives_none w _ _ (λ g. tt)

pub part_is_good : (w : World) (v : Valued) (r : Parts) → GoodValued w Always v → GoodParts w r → GoodParts w (and_part v r)
part_is_good w v r g h = gives_map w Always (GoodOption w v.typed × GoodTypedsWhen w r.typed) _ _ _ (λ t. t) (both_good w v.typed r.typed) (gives_pair w _ _ _ v.notes r.notes g h)

tuple_of_good : (w : World) (p : Place) (ts : Option (List Typed)) → GoodJudged w (GoodTypedsWhen w ts) (tuple_when p ts)
tuple_of_good w p None = gives_none w _ _ (λ g. tt)
tuple_of_good w p (Some []) = gives_broken w _ _ rule.P13 p (λ g. tt)
tuple_of_good w p (Some (t ∷ ts)) =
    either_good w _ (fits_limits (ty.Tuple (types_in (t ∷ ts)))) (node p (ty.Tuple (types_in (t ∷ ts))) (kind.Tuple (exprs_in (t ∷ ts)))) (breaks rule.P13 p)
    (gives_none w _ _ (nodes.tuple_good w p t ts)) (gives_broken w _ _ rule.P13 p (λ g. tt))

pub tuple_is_good : (w : World) (p : Place) (r : Parts) → GoodParts w r → GoodJudged w Always (judge_tuple p r)
tuple_is_good w p r g = gives_then w _ _ _ r.notes (tuple_when p r.typed).notes g (tuple_of_good w p r.typed)
