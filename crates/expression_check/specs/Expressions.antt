-- Expressions (Python reference, chapter 6; Algorand Python guide, "Types"): P08, P09 on names and members, P13 on tuples, P14 and P15.
use Rattle.std.specs.Prelude.{ℕ, suc, Bool, true, false}
use Rattle.puya_base.specs.declared.source.Place.{Place}
use Rattle.awst.specs.declared.expression.ExprKind.TheVariants as kind
use Rattle.algopy_library.specs.declared.scalar.Scalar.TheVariants as scalar
use Rattle.source_names.specs.declared.types.SourceType.TheVariants as ty
use Rattle.source_names.specs.Literals.{number_of, joined}
use Rattle.source_names.specs.Source.{Between, does, and_then, or_else, is_in, Ex, name, number, text, bytes, flag, paren, tuple, display, index, slice, call, unary, binary, choose, Exs, no_exprs, an_expr, Maybe, absent, present, Args, no_args, an_arg, place_of}
use Rattle.source_names.specs.Source as source
use Rattle.meaning_rules.specs.declared.meaning.Hope.{Hope}
use Rattle.meaning_rules.specs.declared.meaning.Context.{Context}
use Rattle.meaning_rules.specs.declared.meaning.Typed.{Typed}
use Rattle.meaning_rules.specs.declared.meaning.Lit.TheVariants as lit
use Rattle.meaning_rules.specs.declared.meaning.Meaning.{Meaning}
use Rattle.meaning_rules.specs.declared.meaning.Meaning.TheVariants as meaning
use Rattle.meaning_rules.specs.declared.scope.Scope.{Scope}
use Rattle.call_rules.specs.declared.slots.Used.{Used}
use Rattle.meaning_rules.specs.Meanings.{Judged, says, after, node, operand_of, value, context, freely, part_hope, whole_hope}
use Rattle.call_rules.specs.Calls as calls
use Rattle.meaning_rules.specs.Operations.{short_literal, judge_name, judge_member, judge_binary, judge_unary, judge_choose, no_parts, and_part, judge_tuple, no_items, and_item, judge_display, index_hope, based, judge_index, is_bytes, end_of, absent_end, judge_slice, Parts, Items, Ended}

-- ---- expressions

abbrev pub at_place : Place → Typed → Typed
at_place p t = record { ty = t.ty; expr = record { place = p; ty = t.expr.ty; kind = t.expr.kind } }

abbrev pub at_meaning : Place → Meaning → Meaning
at_meaning p (meaning.Value t) = meaning.Value (at_place p t)
at_meaning p m = m

-- parentheses change nothing but where an expression begins
abbrev pub in_parens : Place → Judged → Judged
in_parens p j = record { notes = j.notes; meaning = at_meaning p j.meaning }

abbrev mutual
  pub judge : Scope → Context → Ex → Judged
  judge s c (name w) = judge_name s w
  judge s c (number l) = says (meaning.Literal l.place (lit.Number (number_of l)))
  judge s c (text p ls) = short_literal p (joined ls) (lit.Text (joined ls))
  judge s c (bytes p ls) = short_literal p (joined ls) (lit.Bytes (joined ls))
  judge s c (flag p b) = node p (ty.Scalar scalar.Bool) (kind.Flag b)
  judge s c (paren p e) = in_parens p (judge s c e)
  judge s c (tuple p es) = judge_tuple p (parts s c 0 es)
  judge s c (display p es) = judge_display p (items s es)
  judge s c (source.member p e w) = judge_member s p (place_of e) w (judge s freely e)
  judge s c (index p e i) =
      let b = operand_of (place_of e) (judge s freely e) in
      judge_index p (place_of i) b (judge s (context false (index_hope b.operand)) i)
  judge s c (slice p e a z) =
      let o = operand_of (place_of e) (judge s freely e) in
      let b = based o in
      judge_slice p b (end s (is_bytes b.typed) (index_hope o.operand) a) (end s (is_bytes b.typed) (index_hope o.operand) z)
  judge s c (call p f as_) =
      let j = judge s freely f in
      after j.notes (calls.call p (calls.callee s.functions j.meaning) (arguments s (calls.callee s.functions j.meaning) 0 calls.nothing_used as_))
  judge s c (unary p o e) = judge_unary p (place_of e) o (judge s freely e)
  judge s c (binary p o a b) = judge_binary p (place_of a) (place_of b) o (judge s freely a) (judge s freely b)
  judge s c (choose p a z b) = judge_choose p (place_of a) (place_of z) (place_of b) (whole_hope c.expect) (judge s c a) (judge s freely z) (judge s c b)

  pub parts : Scope → Context → ℕ → Exs → Parts
  parts s c i no_exprs = no_parts
  parts s c i (an_expr e es) =
      and_part (value (part_hope c.expect i) (place_of e) (judge s (context c.copying (part_hope c.expect i)) e)) (parts s c (suc i) es)

  pub items : Scope → Exs → Items
  items s no_exprs = no_items
  items s (an_expr e es) = and_item (operand_of (place_of e) (judge s freely e)) (items s es)

  pub end : Scope → Bool → Hope → Maybe → Ended
  end s b h absent = absent_end
  end s b h (present e) = end_of b (operand_of (place_of e) (judge s (context false h) e))

  pub arguments : Scope → calls.Callee → ℕ → Used → Args → calls.Bound
  arguments s c i u no_args = calls.no_arguments
  arguments s c i u (an_arg k e as_) =
      let t = calls.slot c i u k (place_of e) in
      calls.and_given (calls.given c t (place_of e) (judge s (context true (calls.slot_hope c t)) e)) (arguments s c (suc i) (calls.use_of u t k) as_)
