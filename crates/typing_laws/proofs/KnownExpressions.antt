-- An expression that tells of no broken rule means something.
use Rattle.std.proofs.Common.{ℕ, zero, suc, Bool, true, false, List, [], ◌∷◌, Some, None, Option, refl}
use Rattle.std.specs.Prelude.{slice_get}
use Rattle.puya_base.specs.declared.source.Place.{Place}
use Rattle.puya_base.specs.declared.source.Rule.TheVariants as rule
use Rattle.source_names.specs.Literals.{is_short, joined}
use Rattle.source_names.specs.Source.{Ex, name, number, text, bytes, flag, paren, tuple, display, index, slice, call, unary, binary, choose, Exs, no_exprs, an_expr, Maybe, absent, present, Args, no_args, an_arg, place_of}
use Rattle.source_names.specs.Source as source
use Rattle.source_names.specs.declared.types.SourceType.{SourceType}
use Rattle.source_names.specs.Types.{tuple_parts}
use Rattle.meaning_rules.specs.declared.meaning.Hope.{Hope}
use Rattle.meaning_rules.specs.declared.meaning.Hope.TheVariants as hope
use Rattle.meaning_rules.specs.declared.meaning.Expect.{Expect}
use Rattle.meaning_rules.specs.declared.meaning.Expect.TheVariants as expect
use Rattle.meaning_rules.specs.declared.meaning.Context.{Context}
use Rattle.meaning_rules.specs.declared.meaning.Lit.{Lit}
use Rattle.meaning_rules.specs.declared.meaning.Lit.TheVariants as lit
use Rattle.meaning_rules.specs.declared.meaning.Meaning.{Meaning}
use Rattle.meaning_rules.specs.declared.meaning.Meaning.TheVariants as meaning
use Rattle.meaning_rules.specs.declared.scope.Scope.{Scope}
use Rattle.meaning_rules.specs.Meanings.{Judged, after, Valued, value, required, operand_of, condition, says, breaks, context, freely, wants, part_wanted, hope_or_free, part_of_hope, part_hope, whole_hope}
use Rattle.meaning_rules.specs.Operations.{short_literal, index_hope, based, is_bytes}
use Rattle.call_rules.specs.declared.slots.Used.{Used}
use Rattle.call_rules.specs.Calls as calls
use Rattle.expression_check.specs.Expressions.{at_meaning, in_parens, judge, parts, items, end, arguments}
use Rattle.typing_laws.proofs.Known.{KnownScope, KnownJudged, KnownValued, KnownOperated, KnownMeaning, IsHope, AreHopes, IsExpected, IsHopeful}
use Rattle.typing_laws.proofs.KnownParts.{says_then, known_breaks, either_known, operand_is_known, value_is_known, required_is_known, condition_is_known}
use Rattle.typing_laws.proofs.KnownReads.{name_known, member_known}
use Rattle.typing_laws.proofs.KnownOperators.{binary_known, unary_known, choose_known, KnownTupleParts, and_part_known, tuple_known, KnownItems, and_item_known, display_known}
use Rattle.typing_laws.proofs.KnownIndexes.{index_known, KnownEnded, end_known, absent_known, slice_known}
use Rattle.typing_laws.proofs.KnownArguments.{KnownCallee, callee_known, KnownBound, given_known, and_given_known}
use Rattle.typing_laws.proofs.KnownCalls.{call_known}

-- ---- what is hoped of parts

wants_hope : (t : Option SourceType) → IsHope (wants t)
wants_hope None = tt
wants_hope (Some t) = tt

part_wanted_hope : (ts : Option (List SourceType)) (i : ℕ) → IsHope (part_wanted ts i)
part_wanted_hope None i = tt
part_wanted_hope (Some ts) i = wants_hope (slice_get ts i)

of_hope : (h : Hope) (i : ℕ) → IsHope h → IsHope (part_of_hope h i)
of_hope (hope.Wants t) i k = part_wanted_hope (tuple_parts t) i
of_hope hope.Free i k = tt
of_hope hope.Unknown i k = absurd k

among_hopes : (hs : List Hope) (i : ℕ) → AreHopes hs → IsHope (hope_or_free (slice_get hs i))
among_hopes [] i k = tt
among_hopes (h ∷ hs) zero k = k.0
among_hopes (h ∷ hs) (suc i) k = among_hopes hs i k.1

part_hope_is : (x : Expect) (i : ℕ) → IsExpected x → IsHope (part_hope x i)
part_hope_is (expect.One h) i k = of_hope h i k
part_hope_is (expect.Each hs) i k = among_hopes hs i k

whole_hope_is : (x : Expect) → IsExpected x → IsHope (whole_hope x)
whole_hope_is (expect.One h) k = k
whole_hope_is (expect.Each hs) k = tt

-- ---- literals and parentheses

short_known : (s : Scope) (p : Place) (b : List ℕ) (l : Lit) → KnownJudged s (short_literal p b l)
short_known s p b l = either_known s (is_short b) (says (meaning.Literal p l)) (breaks rule.P14 p) (λ u. tt) (known_breaks s rule.P14 p)

at_known : (s : Scope) (p : Place) (m : Meaning) → KnownMeaning s m → KnownMeaning s (at_meaning p m)
at_known s p (meaning.Value t) k = tt
at_known s p (meaning.Literal q l) k = tt
at_known s p (meaning.Thing t) k = k
at_known s p (meaning.Range r) k = tt
at_known s p meaning.Unknown k = absurd k

paren_known : (s : Scope) (p : Place) (j : Judged) → KnownJudged s j → KnownJudged s (in_parens p j)
paren_known s p j k u = at_known s p j.meaning (k u)

-- ---- expressions

abbrev bound_of : Scope → Judged → Args → calls.Bound
bound_of s j as_ = arguments s (calls.callee s.functions j.meaning) 0 calls.nothing_used as_

called_known : (s : Scope) (p : Place) (j : Judged) (as_ : Args) → KnownScope s → KnownJudged s j → (KnownCallee (calls.callee s.functions j.meaning) → KnownBound (bound_of s j as_))
    → KnownJudged s (after j.notes (calls.call p (calls.callee s.functions j.meaning) (bound_of s j as_)))
called_known s p j as_ k g h =
    let c = calls.callee s.functions j.meaning in let r = calls.call p c (bound_of s j as_) in
    says_then (KnownMeaning s j.meaning) (KnownMeaning s r.meaning) j.notes r.notes g (λ m. let d = callee_known s j.meaning k.known m in call_known s p c (bound_of s j as_) d (h d))

mutual
  pub judge_known : (s : Scope) (c : Context) (e : Ex) → KnownScope s → IsHopeful c → KnownJudged s (judge s c e)
  judge_known s c (name w) k h = name_known s w k
  judge_known s c (number l) k h = λ u. tt
  judge_known s c (text p ls) k h = short_known s p (joined ls) (lit.Text (joined ls))
  judge_known s c (bytes p ls) k h = short_known s p (joined ls) (lit.Bytes (joined ls))
  judge_known s c (flag p b) k h = λ u. tt
  judge_known s c (paren p e) k h = paren_known s p (judge s c e) (judge_known s c e k h)
  judge_known s c (tuple p es) k h = tuple_known s p (parts s c 0 es) (parts_known s c 0 es k h)
  judge_known s c (display p es) k h = display_known s p (items s es) (items_known s es k)
  judge_known s c (source.member p e w) k h = member_known s p (place_of e) w (judge s freely e) k (judge_known s freely e k tt)
  judge_known s c (index p e i) k h =
      let o = operand_of (place_of e) (judge s freely e) in
      let d = context false (index_hope o.operand) in
      index_known s p (place_of i) o (judge s d i) (operand_is_known s (place_of e) (judge s freely e) (judge_known s freely e k tt)) (judge_known s d i k)
  judge_known s c (slice p e a z) k h =
      let o = operand_of (place_of e) (judge s freely e) in
      let b = is_bytes (based o).typed in
      let d = index_hope o.operand in
      slice_known s p o (end s b d a) (end s b d z) (operand_is_known s (place_of e) (judge s freely e) (judge_known s freely e k tt)) (end_is_known s b d a k) (end_is_known s b d z k)
  judge_known s c (call p f as_) k h =
      let j = judge s freely f in called_known s p j as_ k (judge_known s freely f k tt) (arguments_known s (calls.callee s.functions j.meaning) 0 calls.nothing_used as_ k)
  judge_known s c (unary p o e) k h = unary_known s p (place_of e) o (judge s freely e) (judge_known s freely e k tt)
  judge_known s c (binary p o a b) k h = binary_known s p (place_of a) (place_of b) o (judge s freely a) (judge s freely b) (judge_known s freely a k tt) (judge_known s freely b k tt)
  judge_known s c (choose p a z b) k h =
      choose_known s p (place_of a) (place_of z) (place_of b) (whole_hope c.expect) (judge s c a) (judge s freely z) (judge s c b) (whole_hope_is c.expect h)
      (judge_known s c a k h) (judge_known s freely z k tt) (judge_known s c b k h)

  parts_known : (s : Scope) (c : Context) (i : ℕ) (es : Exs) → KnownScope s → IsHopeful c → KnownTupleParts (parts s c i es)
  parts_known s c i no_exprs k h = λ u. tt
  parts_known s c i (an_expr e es) k h =
      let d = part_hope c.expect i in
      let j = judge s (context c.copying d) e in
      let g = part_hope_is c.expect i h in
      and_part_known (value d (place_of e) j) (parts s c (suc i) es) (value_is_known s d (place_of e) j g (judge_known s (context c.copying d) e k g)) (parts_known s c (suc i) es k h)

  items_known : (s : Scope) (es : Exs) → KnownScope s → KnownItems (items s es)
  items_known s no_exprs k = λ u. refl
  items_known s (an_expr e es) k =
      let j = judge s freely e in and_item_known (operand_of (place_of e) j) (items s es) (operand_is_known s (place_of e) j (judge_known s freely e k tt)) (items_known s es k)

  end_is_known : (s : Scope) (b : Bool) (d : Hope) (m : Maybe) → KnownScope s → IsHope d → KnownEnded (end s b d m)
  end_is_known s b d absent k h = absent_known
  end_is_known s b d (present e) k h =
      let j = judge s (context false d) e in end_known b (operand_of (place_of e) j) (operand_is_known s (place_of e) j (judge_known s (context false d) e k h))

  arguments_known : (s : Scope) (c : calls.Callee) (i : ℕ) (u : Used) (as_ : Args) → KnownScope s → KnownCallee c → KnownBound (arguments s c i u as_)
  arguments_known s c i u no_args k h = λ n. tt
  arguments_known s c i u (an_arg w e as_) k h =
      let t = calls.slot c i u w (place_of e) in
      let j = judge s (context true (calls.slot_hope c t)) e in
      and_given_known (calls.given c t (place_of e) j) (arguments s c (suc i) (calls.use_of u t w) as_)
      (given_known s c t (place_of e) j h (judge_known s (context true (calls.slot_hope c t)) e k)) (arguments_known s c (suc i) (calls.use_of u t w) as_ k h)

-- ---- parts of them

pub operand_known : (s : Scope) (p : Place) (j : Judged) → KnownJudged s j → KnownOperated (operand_of p j)
operand_known s p j k = operand_is_known s p j k

pub value_known : (s : Scope) (h : Hope) (p : Place) (j : Judged) → IsHope h → KnownJudged s j → KnownValued (value h p j)
value_known s h p j g k = value_is_known s h p j g k

pub required_known : (t : SourceType) (v : Valued) → KnownValued v → KnownValued (required (Some t) v)
required_known t v k = required_is_known t v k

pub condition_known : (s : Scope) (p : Place) (j : Judged) → KnownJudged s j → KnownValued (condition p j)
condition_known s p j k = condition_is_known s p j k
