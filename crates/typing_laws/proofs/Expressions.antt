-- What is judged of an expression is good.
use Rattle.std.proofs.Common.{◌≡◌, ℕ, suc, ◌≤◌, Bool, true, false, List, ◌++◌, length, ◌∙◌, Some, refl, subst, sym, ap, arith, leb-true}
use Rattle.std.specs.Prelude.{if◌then◌else◌}
use Rattle.puya_base.specs.declared.source.Place.{Place}
use Rattle.puya_base.specs.declared.source.Rule.TheVariants as rule
use Rattle.awst.specs.declared.expression.ExprKind.TheVariants as kind
use Rattle.awst.specs.Sound.{IsSound, ty_of}
use Rattle.awst.proofs.Equations.{tree-Expr}
use Rattle.algopy_library.specs.declared.scalar.Scalar.TheVariants as scalar
use Rattle.source_names.specs.declared.types.SourceType.TheVariants as ty
use Rattle.source_names.specs.Literals.{is_short, joined}
use Rattle.source_names.specs.Source.{Ex, name, number, text, bytes, flag, paren, tuple, display, index, slice, call, unary, binary, choose, Exs, no_exprs, an_expr, Maybe, absent, present, Args, no_args, an_arg, place_of}
use Rattle.source_names.specs.Source as source
use Rattle.meaning_rules.specs.declared.meaning.Hope.{Hope}
use Rattle.meaning_rules.specs.declared.meaning.Context.{Context}
use Rattle.meaning_rules.specs.declared.meaning.Typed.{Typed}
use Rattle.meaning_rules.specs.declared.meaning.Lit.{Lit}
use Rattle.meaning_rules.specs.declared.meaning.Lit.TheVariants as lit
use Rattle.meaning_rules.specs.declared.meaning.Meaning.{Meaning}
use Rattle.meaning_rules.specs.declared.meaning.Meaning.TheVariants as meaning
use Rattle.meaning_rules.specs.declared.scope.Scope.{Scope}
use Rattle.call_rules.specs.declared.arguments.Known.{Known}
use Rattle.call_rules.specs.declared.slots.Used.{Used}
use Rattle.meaning_rules.specs.Meanings.{Judged, Operated, unknown, breaks, a_node, node, operand_of, value, context, freely, part_hope, whole_hope}
use Rattle.meaning_rules.specs.Operations.{Items, short_literal, index_hope, based, is_bytes, absent_end, and_item, judge_display}
use Rattle.call_rules.specs.Calls as calls
use Rattle.expression_check.specs.Expressions.{judge, parts, items, end, arguments, at_place, at_meaning, in_parens}
use Rattle.typing_laws.proofs.Good.{World, Always, Gives, Reading, Within, GoodScope, GoodTyped, GoodMeaning, GoodJudged, GoodParts, GoodEnded, GoodLit}
use Rattle.typing_laws.proofs.Giving.{reading_append, gives_none, gives_broken, gives_reading, gives_then, gives_map}
use Rattle.typing_laws.proofs.Nodes as nodes
use Rattle.typing_laws.proofs.Meanings.{operand_good, value_good}
use Rattle.typing_laws.proofs.Fitting.{either_good}
use Rattle.typing_laws.proofs.Names.{name_is_good, member_is_good}
use Rattle.typing_laws.proofs.Betweens.{binary_is_good, unary_is_good}
use Rattle.typing_laws.proofs.Choices.{choose_is_good, no_parts_good, part_is_good, tuple_is_good}
use Rattle.typing_laws.proofs.Indexes.{based_is_good, index_is_good, end_is_good, slice_is_good}
use Rattle.typing_laws.proofs.Ordering.{arguments_fresh, arguments_counting}
use Rattle.typing_laws.proofs.Calls.{GoodCallee, GoodKnownsWhen, Placed, callee_good, given_good, and_given_good, call_good}

-- ---- literals

short_good_by : (w : World) (p : Place) (b : List ℕ) (l : Lit) (short : Bool) → is_short b ≡ short → (length b ≤ 4096 → GoodLit l) → GoodJudged w Always (short_literal p b l)
short_good_by w p b l true e h = rw e (gives_none w Always (GoodLit l) (λ t. h (leb-true (length b) 4096 e)))
short_good_by w p b l false e h = rw e (gives_broken w Always (Unit {0}) rule.P14 p (λ t. tt))

short_good : (w : World) (p : Place) (b : List ℕ) (l : Lit) → (length b ≤ 4096 → GoodLit l) → GoodJudged w Always (short_literal p b l)
short_good w p b l h = short_good_by w p b l (is_short b) refl h

flag_good : (w : World) (p : Place) (b : Bool) → GoodJudged w Always (node p (ty.Scalar scalar.Bool) (kind.Flag b))
flag_good w p b = gives_none w Always (GoodTyped w (a_node p (ty.Scalar scalar.Bool) (kind.Flag b))) (λ t. nodes.flag_good w p b)

-- ---- displays

and_item_reading : (o : Operated) (r : Items) → Reading o.notes → Reading r.notes → Reading (and_item o r).notes
and_item_reading o r g h = reading_append o.notes r.notes g h

display_good : (w : World) (p : Place) (r : Items) → Reading r.notes → GoodJudged w Always (judge_display p r)
display_good w p r g =
    gives_then w Always Always _ r.notes (if r.known then breaks rule.P14 p else unknown).notes (gives_reading w _ _ _ g (λ z. z))
    (either_good w Always r.known (breaks rule.P14 p) unknown (gives_broken w _ _ rule.P14 p (λ z. tt)) (gives_none w _ _ (λ z. tt)))

-- ---- parentheses

paren_typed : (w : World) (p : Place) (t : Typed) → GoodTyped w t → GoodTyped w (at_place p t)
paren_typed w p t g =
    let here = tree-Expr (at_place p t).expr in
    let there = tree-Expr t.expr in
    record {
      sound = subst (IsSound w.names) (sym here) (subst (IsSound w.names) there g.sound);
      type_is = ap ty_of here ∙ (sym (ap ty_of there) ∙ g.type_is);
      kept = g.kept;
      reads = subst (Within w.reads) (sym here) (subst (Within w.reads) there g.reads);
    }

paren_meaning : (w : World) (p : Place) (m : Meaning) → GoodMeaning w m → GoodMeaning w (at_meaning p m)
paren_meaning w p (meaning.Value t) g = paren_typed w p t g
paren_meaning w p (meaning.Literal q l) g = g
paren_meaning w p (meaning.Thing t) g = g
paren_meaning w p (meaning.Range r) g = g
paren_meaning w p meaning.Unknown g = g

paren_good : (w : World) (p : Place) (j : Judged) → GoodJudged w Always j → GoodJudged w Always (in_parens p j)
paren_good w p j g = gives_map w Always (GoodMeaning w j.meaning) Always (GoodMeaning w (at_meaning p j.meaning)) j.notes (λ t. t) (paren_meaning w p j.meaning) g

-- ---- calls

absent_good : (w : World) → GoodEnded w absent_end
absent_good w = gives_none w Always (Unit {0}) (λ t. tt)

placed : (s : Scope) (c : calls.Callee) (as_ : Args) (ks : List Known) → (arguments s c 0 calls.nothing_used as_).known ≡ Some ks → Placed c ks
placed s (calls.a_function n g) as_ ks e = λ l. arguments_fresh s n g 0 calls.nothing_used as_ ks e (λ h. tt) (omega (arith, l))
placed s (calls.a_form f) as_ ks e = arguments_counting s f 0 calls.nothing_used as_ ks e
placed s (calls.a_type t) as_ ks e = tt
placed s calls.from_hex as_ ks e = tt
placed s calls.logs as_ ks e = tt
placed s calls.ranges as_ ks e = tt
placed s calls.no_callee as_ ks e = tt
placed s calls.unknown_callee as_ ks e = tt

abbrev bound_of : Scope → Judged → Args → calls.Bound
bound_of s j as_ = arguments s (calls.callee s.functions j.meaning) 0 calls.nothing_used as_

abbrev called : Scope → Place → Judged → Args → Judged
called s p j as_ = calls.call p (calls.callee s.functions j.meaning) (bound_of s j as_)

applied_good : (w : World) (s : Scope) (p : Place) (j : Judged) (as_ : Args) → GoodScope w.names s → GoodJudged w Always j
    → Gives w Always (bound_of s j as_).notes (GoodKnownsWhen w (bound_of s j as_).known)
    → Gives w Always (j.notes ++ (called s p j as_).notes) (GoodMeaning w (called s p j as_).meaning)
applied_good w s p j as_ g h k =
    let c = calls.callee s.functions j.meaning in
    gives_then w Always (GoodCallee w c) (GoodMeaning w (called s p j as_).meaning) j.notes (called s p j as_).notes
    (gives_map w Always (GoodMeaning w j.meaning) Always (GoodCallee w c) j.notes (λ t. t) (callee_good w s j.meaning g.known) h)
    (call_good w p c (bound_of s j as_) k (placed s c as_))

mutual
  pub judge_good : (w : World) (s : Scope) (c : Context) (e : Ex) → GoodScope w.names s → GoodJudged w Always (judge s c e)
  judge_good w s c (name x) g = name_is_good w s x g
  judge_good w s c (number l) g = gives_none w Always (Unit {0}) (λ t. tt)
  judge_good w s c (text p ls) g = short_good w p (joined ls) (lit.Text (joined ls)) (λ h. h)
  judge_good w s c (bytes p ls) g = short_good w p (joined ls) (lit.Bytes (joined ls)) (λ h. h)
  judge_good w s c (flag p b) g = flag_good w p b
  judge_good w s c (paren p e) g = paren_good w p (judge s c e) (judge_good w s c e g)
  judge_good w s c (tuple p es) g = tuple_is_good w p (parts s c 0 es) (parts_good w s c 0 es g)
  judge_good w s c (display p es) g = display_good w p (items s es) (items_good w s es g)
  judge_good w s c (source.member p e x) g = member_is_good w s p (place_of e) x (judge s freely e) g (judge_good w s freely e g)
  judge_good w s c (index p e i) g =
      let o = operand_of (place_of e) (judge s freely e) in
      let h = context false (index_hope o.operand) in
      index_is_good w p (place_of i) o (judge s h i) (operand_good w (place_of e) (judge s freely e) (judge_good w s freely e g)) (judge_good w s h i g)
  judge_good w s c (slice p e a z) g =
      let o = operand_of (place_of e) (judge s freely e) in
      let b = is_bytes (based o).typed in
      let h = index_hope o.operand in
      slice_is_good w p (based o) (end s b h a) (end s b h z) (based_is_good w o (operand_good w (place_of e) (judge s freely e) (judge_good w s freely e g)))
      (end_good_at w s b h a g) (end_good_at w s b h z g)
  judge_good w s c (call p f as_) g =
      let j = judge s freely f in
      applied_good w s p j as_ g (judge_good w s freely f g) (arguments_good w s (calls.callee s.functions j.meaning) 0 calls.nothing_used as_ g)
  judge_good w s c (unary p o e) g = unary_is_good w p (place_of e) o (judge s freely e) (judge_good w s freely e g)
  judge_good w s c (binary p o a b) g = binary_is_good w p (place_of a) (place_of b) o (judge s freely a) (judge s freely b) (judge_good w s freely a g) (judge_good w s freely b g)
  judge_good w s c (choose p a z b) g =
      choose_is_good w p (place_of a) (place_of z) (place_of b) (whole_hope c.expect) (judge s c a) (judge s freely z) (judge s c b) (judge_good w s c a g) (judge_good w s freely z g) (judge_good w s c b g)

  parts_good : (w : World) (s : Scope) (c : Context) (i : ℕ) (es : Exs) → GoodScope w.names s → GoodParts w (parts s c i es)
  parts_good w s c i no_exprs g = no_parts_good w
  parts_good w s c i (an_expr e es) g =
      let h = part_hope c.expect i in
      let j = judge s (context c.copying h) e in
      part_is_good w (value h (place_of e) j) (parts s c (suc i) es) (value_good w h (place_of e) j (judge_good w s (context c.copying h) e g)) (parts_good w s c (suc i) es g)

  items_good : (w : World) (s : Scope) (es : Exs) → GoodScope w.names s → Reading (items s es).notes
  items_good w s no_exprs g = tt
  items_good w s (an_expr e es) g =
      let j = judge s freely e in
      and_item_reading (operand_of (place_of e) j) (items s es) (operand_good w (place_of e) j (judge_good w s freely e g)).reading (items_good w s es g)

  end_good_at : (w : World) (s : Scope) (b : Bool) (h : Hope) (m : Maybe) → GoodScope w.names s → GoodEnded w (end s b h m)
  end_good_at w s b h absent g = absent_good w
  end_good_at w s b h (present e) g =
      let j = judge s (context false h) e in
      end_is_good w b (operand_of (place_of e) j) (operand_good w (place_of e) j (judge_good w s (context false h) e g))

  arguments_good : (w : World) (s : Scope) (c : calls.Callee) (i : ℕ) (u : Used) (as_ : Args) → GoodScope w.names s → Gives w Always (arguments s c i u as_).notes (GoodKnownsWhen w (arguments s c i u as_).known)
  arguments_good w s c i u no_args g = gives_none w Always (Unit {0}) (λ t. tt)
  arguments_good w s c i u (an_arg k e as_) g =
      let t = calls.slot c i u k (place_of e) in
      let j = judge s (context true (calls.slot_hope c t)) e in
      and_given_good w (calls.given c t (place_of e) j) (arguments s c (suc i) (calls.use_of u t k) as_)
      (given_good w c t (place_of e) j (judge_good w s (context true (calls.slot_hope c t)) e g)) (arguments_good w s c (suc i) (calls.use_of u t k) as_ g)
