-- Calls of types, of `from_hex` and of `urange` are good where their arguments are.
use Rattle.std.proofs.Common.{◌≡◌, ℕ, zero, suc, ◌*◌, ◌+◌, ◌≤◌, ◌∙◌, Bool, true, false, List, [], ◌∷◌, ◌++◌, length, Option, Some, None, refl, ap, subst, arith}
use Rattle.std.proofs.lemmas.Option.{none-some, same_Some}
use Rattle.std.specs.Prelude.{if◌then◌else◌, IsTrue}
use Rattle.puya_base.specs.declared.source.Place.{Place}
use Rattle.puya_base.specs.declared.source.Rule.TheVariants as rule
use Rattle.awst.specs.declared.expression.ExprKind.TheVariants as kind
use Rattle.awst.specs.declared.primitive.Primitive.{Primitive}
use Rattle.awst.specs.declared.primitive.Primitive.TheVariants as prim
use Rattle.awst.specs.Types.{uint64}
use Rattle.awst.specs.Tree.{Ex}
use Rattle.awst.specs.Shapes.{Fits, shape_of, has_truth}
use Rattle.awst.specs.Plain.{tree_of}
use Rattle.awst.specs.Sound.{ty_of}
use Rattle.py_lexer.specs.Numbers.{digit_value}
use Rattle.algopy_library.specs.declared.scalar.Scalar.{Scalar}
use Rattle.algopy_library.specs.declared.scalar.Scalar.TheVariants as scalar
use Rattle.algopy_library.specs.Operators as library
use Rattle.source_names.specs.declared.types.SourceType.TheVariants as ty
use Rattle.source_names.specs.Types.{scalar_of}
use Rattle.meaning_rules.specs.declared.meaning.Typed.{Typed}
use Rattle.meaning_rules.specs.declared.meaning.Lit.{Lit}
use Rattle.meaning_rules.specs.declared.meaning.Lit.TheVariants as lit
use Rattle.meaning_rules.specs.declared.meaning.Hope.TheVariants as hope
use Rattle.meaning_rules.specs.declared.meaning.Meaning.TheVariants as meaning
use Rattle.meaning_rules.specs.Meanings.{a_node, says, breaks, literal, lit_node, fits_type}
use Rattle.call_rules.specs.declared.arguments.Known.{Known}
use Rattle.call_rules.specs.declared.arguments.Known.TheVariants.{Value as value_at, Literal as literal_at}
use Rattle.call_rules.specs.Calls.{empty_of, same_lit, number_of_value, truth_when, of_value, of_known, call_type, with_pair, hex_bytes, hex_data, hex_literal, call_hex, bound, Stepped, no_step, step_number, step_literal, step_of, step_one, range_from, range_to, range_parts, call_range}
use Rattle.typing_laws.proofs.Good.{World, Gives, GoodTyped, GoodLit, GoodMeaning, GoodOption, IsKeptType, Within, value_type}
use Rattle.typing_laws.proofs.Giving.{gives_none, gives_broken, gives_both, gives_map}
use Rattle.typing_laws.proofs.TypeLaws.{kept_scalar, scalar_value_is, scalar_type, scalar_is}
use Rattle.typing_laws.proofs.Nodes as nodes
use Rattle.typing_laws.proofs.Meanings.{literal_good, fits_good, fits_type_is, literal_type}
use Rattle.typing_laws.proofs.CallParts.{GoodKnown, GoodKnowns}

-- ---- literals, and values of one part

literal_node : (w : World) (p : Place) (l : Lit) → GoodLit l → GoodTyped w (lit_node p l)
literal_node w p (lit.Number n) h = nodes.number_good w p n
literal_node w p (lit.Text b) h = nodes.text_good w p b h
literal_node w p (lit.Bytes b) h = nodes.bytes_good w p b h

one_part : (w : World) (p : Place) (s : Scalar) (q : Primitive) (t : Typed) → GoodTyped w t → Fits (shape_of q) (ty_of (tree_of t.expr) ∷ []) (value_type (ty.Scalar s)) → GoodTyped w (a_node p (ty.Scalar s) (kind.Prim q (t.expr ∷ [])))
one_part w p s q t g f =
    nodes.strict_good w p (ty.Scalar s) q (t.expr ∷ []) (g.sound, tt) (g.reads, tt) f (λ h. kept_scalar s)

tree_type : (w : World) (t : Typed) (s : Scalar) → GoodTyped w t → scalar_of t.ty ≡ Some s → ty_of (tree_of t.expr) ≡ scalar_type s
tree_type w t s g e = g.type_is ∙ (scalar_value_is t.ty s e)

-- ---- types

breaks_at : (w : World) (P : Type 0) (p : Place) → Gives w P (breaks rule.P14 p).notes (Unit {0})
breaks_at w P p = gives_broken w P (Unit {0}) rule.P14 p (λ t. tt)

empty_good : (w : World) (P : Type 0) (p : Place) (s : Scalar) → Gives w P (empty_of p s).notes (GoodMeaning w (empty_of p s).meaning)
empty_good w P p scalar.UInt64 = gives_none w P _ (λ t. nodes.number_good w p 0)
empty_good w P p scalar.Bytes = gives_none w P _ (λ t. nodes.bytes_good w p [] (omega arith))
empty_good w P p scalar.Text = gives_none w P _ (λ t. nodes.text_good w p [] (omega arith))
empty_good w P p scalar.Bool = gives_broken w P (Unit {0}) rule.P15 p (λ t. tt)
empty_good w P p scalar.Account = gives_broken w P (Unit {0}) rule.P15 p (λ t. tt)

of_literal_by : (w : World) (p q : Place) (l : Lit) (b : Bool) → Gives w (GoodLit l) (if b then says (meaning.Value (lit_node p l)) else breaks rule.P14 q).notes (GoodMeaning w (if b then says (meaning.Value (lit_node p l)) else breaks rule.P14 q).meaning)
of_literal_by w p q l true = gives_none w (GoodLit l) _ (literal_node w p l)
of_literal_by w p q l false = breaks_at w (GoodLit l) q

number_good : (w : World) (p : Place) (t : Typed) (o : Option Scalar) → scalar_of t.ty ≡ o → Gives w (GoodTyped w t × IsKeptType t.ty) (number_of_value p t o).notes (GoodMeaning w (number_of_value p t o).meaning)
number_good w p t (Some scalar.Bool) e = gives_none w _ _ (λ h. one_part w p scalar.UInt64 prim.NumberOfBool t h.0 (ap (λ z. z ∷ []) (tree_type w t scalar.Bool h.0 e), scalar_is scalar.UInt64))
number_good w p t (Some scalar.UInt64) e = breaks_at w _ t.expr.place
number_good w p t (Some scalar.Bytes) e = breaks_at w _ t.expr.place
number_good w p t (Some scalar.Text) e = breaks_at w _ t.expr.place
number_good w p t (Some scalar.Account) e = breaks_at w _ t.expr.place
number_good w p t None e = breaks_at w _ t.expr.place

truth_scalar : (s : Scalar) → library.has_truth s ≡ true → IsTrue (has_truth (scalar_type s))
truth_scalar scalar.UInt64 h = refl
truth_scalar scalar.Bool h = refl
truth_scalar scalar.Bytes h = refl
truth_scalar scalar.Text h = refl
truth_scalar scalar.Account h = cc

truth_good_by : (w : World) (p : Place) (t : Typed) (s : Scalar) (b : Bool) → scalar_of t.ty ≡ Some s → library.has_truth s ≡ b
    → let j = if b then says (meaning.Value (a_node p (ty.Scalar scalar.Bool) (kind.Prim prim.Truth (t.expr ∷ [])))) else breaks rule.P14 t.expr.place in Gives w (GoodTyped w t × IsKeptType t.ty) j.notes (GoodMeaning w j.meaning)
truth_good_by w p t s true e h = gives_none w _ _ (λ k. one_part w p scalar.Bool prim.Truth t k.0 (scalar_type s, ap (λ z. z ∷ []) (tree_type w t s k.0 e), truth_scalar s h, scalar_is scalar.Bool))
truth_good_by w p t s false e h = breaks_at w _ t.expr.place

truth_good : (w : World) (p : Place) (t : Typed) (o : Option Scalar) → scalar_of t.ty ≡ o → Gives w (GoodTyped w t × IsKeptType t.ty) (truth_when p t o).notes (GoodMeaning w (truth_when p t o).meaning)
truth_good w p t None e = breaks_at w _ t.expr.place
truth_good w p t (Some s) e = truth_good_by w p t s (library.has_truth s) e refl

of_value_good : (w : World) (p : Place) (s : Scalar) (t : Typed) → Gives w (GoodTyped w t × IsKeptType t.ty) (of_value p s t).notes (GoodMeaning w (of_value p s t).meaning)
of_value_good w p scalar.UInt64 t = number_good w p t (scalar_of t.ty) refl
of_value_good w p scalar.Bool t = truth_good w p t (scalar_of t.ty) refl
of_value_good w p scalar.Bytes t = breaks_at w _ t.expr.place
of_value_good w p scalar.Text t = breaks_at w _ t.expr.place
of_value_good w p scalar.Account t = breaks_at w _ t.expr.place

of_known_good : (w : World) (p : Place) (s : Scalar) (k : Known) → Gives w (GoodKnown w k) (of_known p s k).notes (GoodMeaning w (of_known p s k).meaning)
of_known_good w p s (value_at i t) = of_value_good w p s t
of_known_good w p s (literal_at i q l) = of_literal_by w p q l (same_lit s l)

first_of_one : (w : World) (Q R : Type 0) (ns : _) → Gives w Q ns R → Gives w (Q × Unit {0}) ns R
first_of_one w Q R ns h = gives_map w Q R (Q × Unit {0}) R ns (λ k. k.0) (λ r. r) h

pub type_good : (w : World) (p : Place) (s : Scalar) (ks : List Known) → Gives w (GoodKnowns w ks) (call_type p s ks).notes (GoodMeaning w (call_type p s ks).meaning)
type_good w p s [] = empty_good w _ p s
type_good w p s (k ∷ []) = first_of_one w (GoodKnown w k) (GoodMeaning w (of_known p s k).meaning) (of_known p s k).notes (of_known_good w p s k)
type_good w p s (k ∷ m ∷ ks) = gives_broken w _ (Unit {0}) rule.P15 p (λ t. tt)

-- ---- `from_hex`

pair_short : (x y : Option ℕ) (r : Option (List ℕ)) (ds bs : List ℕ) → ((cs : List ℕ) → r ≡ Some cs → length cs ≤ length ds) → with_pair x y r ≡ Some bs → length bs ≤ suc (suc (length ds))
pair_short None y r ds bs h e = absurd (none-some bs e)
pair_short (Some x) None r ds bs h e = absurd (none-some bs e)
pair_short (Some x) (Some y) None ds bs h e = absurd (none-some bs e)
pair_short (Some x) (Some y) (Some cs) ds bs h e = let low = h cs refl in subst (λ (z : List ℕ). length z ≤ suc (suc (length ds))) (same_Some ((x * 16 + y) ∷ cs) bs e) (omega (arith, low))

hex_short : (ds bs : List ℕ) → hex_bytes ds ≡ Some bs → length bs ≤ length ds
hex_short [] bs e = subst (λ (z : List ℕ). length z ≤ 0) (same_Some [] bs e) (omega arith)
hex_short (h ∷ []) bs e = absurd (none-some bs e)
hex_short (h ∷ l ∷ ds) bs e = pair_short (digit_value h) (digit_value l) (hex_bytes ds) ds bs (λ cs. hex_short ds cs) e

hex_data_good : (w : World) (p q : Place) (b : List ℕ) (o : Option (List ℕ)) → hex_bytes b ≡ o → Gives w (length b ≤ 4096) (hex_data p q o).notes (GoodMeaning w (hex_data p q o).meaning)
hex_data_good w p q b None e = breaks_at w _ q
hex_data_good w p q b (Some bs) e = gives_none w _ _ (λ h. nodes.bytes_good w p bs (let low = hex_short b bs e in omega (arith, low, h)))

hex_literal_good : (w : World) (p q : Place) (l : Lit) → Gives w (GoodLit l) (hex_literal p q l).notes (GoodMeaning w (hex_literal p q l).meaning)
hex_literal_good w p q (lit.Text b) = hex_data_good w p q b (hex_bytes b) refl
hex_literal_good w p q (lit.Number n) = breaks_at w _ q
hex_literal_good w p q (lit.Bytes b) = breaks_at w _ q

pub hex_good : (w : World) (p : Place) (ks : List Known) → Gives w (GoodKnowns w ks) (call_hex p ks).notes (GoodMeaning w (call_hex p ks).meaning)
hex_good w p [] = gives_broken w _ (Unit {0}) rule.P15 p (λ t. tt)
hex_good w p (value_at i t ∷ []) = breaks_at w _ t.expr.place
hex_good w p (literal_at i q l ∷ []) = first_of_one w (GoodLit l) (GoodMeaning w (hex_literal p q l).meaning) (hex_literal p q l).notes (hex_literal_good w p q l)
hex_good w p (value_at i t ∷ m ∷ ks) = gives_broken w _ (Unit {0}) rule.P15 p (λ t. tt)
hex_good w p (literal_at i q l ∷ m ∷ ks) = gives_broken w _ (Unit {0}) rule.P15 p (λ t. tt)

-- ---- `urange`

abbrev GoodNumber : World → Option Typed → Type 0
GoodNumber w None = Unit {0}
GoodNumber w (Some t) = GoodTyped w t × (ty_of (tree_of t.expr) ≡ uint64)

abbrev GoodStep : Option ℕ → Type 0
GoodStep None = Unit {0}
GoodStep (Some n) = 1 ≤ n

number_when : (w : World) (o : Option Typed) → ((u : Typed) → o ≡ Some u → value_type u.ty ≡ value_type (ty.Scalar scalar.UInt64)) → GoodOption w o → GoodNumber w o
number_when w None h g = tt
number_when w (Some t) h g = (g.0, g.0.type_is ∙ (h t refl ∙ scalar_is scalar.UInt64))

bound_good : (w : World) (k : Known) → Gives w (GoodKnown w k) (bound k).notes (GoodNumber w (bound k).typed)
bound_good w (value_at i t) =
    let v = fits_type (ty.Scalar scalar.UInt64) t in
    gives_map w (GoodTyped w t × IsKeptType t.ty) (GoodOption w v.typed) (GoodTyped w t × IsKeptType t.ty) (GoodNumber w v.typed) v.notes (λ h. h) (number_when w v.typed (fits_type_is (ty.Scalar scalar.UInt64) t)) (fits_good w (ty.Scalar scalar.UInt64) t)
bound_good w (literal_at i q l) =
    let n = ty.Scalar scalar.UInt64 in
    let v = literal (hope.Wants n) q l in
    gives_map w (GoodLit l) (GoodOption w v.typed) (GoodLit l) (GoodNumber w v.typed) v.notes (λ h. h) (number_when w v.typed (literal_type n q l)) (literal_good w (hope.Wants n) q l)

no_step_good : (w : World) (P : Type 0) (p : Place) → Gives w P (no_step p).notes (GoodStep (no_step p).step)
no_step_good w P p = gives_broken w P (Unit {0}) rule.P15 p (λ t. tt)

step_number_good : (w : World) (P : Type 0) (q : Place) (n : ℕ) → Gives w P (step_number q n).notes (GoodStep (step_number q n).step)
step_number_good w P q zero = no_step_good w P q
step_number_good w P q (suc n) = gives_none w P (1 ≤ suc n) (λ t. omega arith)

step_literal_good : (w : World) (P : Type 0) (q : Place) (l : Lit) → Gives w P (step_literal q l).notes (GoodStep (step_literal q l).step)
step_literal_good w P q (lit.Number n) = step_number_good w P q n
step_literal_good w P q (lit.Text b) = no_step_good w P q
step_literal_good w P q (lit.Bytes b) = no_step_good w P q

step_good : (w : World) (P : Type 0) (k : Known) → Gives w P (step_of k).notes (GoodStep (step_of k).step)
step_good w P (value_at i t) = no_step_good w P t.expr.place
step_good w P (literal_at i q l) = step_literal_good w P q l

within_some : (w : World) (t : Typed) → GoodTyped w t → (e : Ex) → Some (tree_of t.expr) ≡ Some e → Within w.reads e
within_some w t g e h = subst (Within w.reads) (same_Some (tree_of t.expr) e h) g.reads

range_from_good : (w : World) (a b : Option Typed) (s : Option ℕ) → GoodNumber w a → GoodNumber w b → GoodStep s → GoodMeaning w (range_from a b s)
range_from_good w None b s g h k = tt
range_from_good w (Some a) None s g h k = tt
range_from_good w (Some a) (Some b) None g h k = tt
range_from_good w (Some a) (Some b) (Some n) g h k = record { start = (g.0.sound, g.1); start_reads = within_some w a g.0; stop = (h.0.sound, h.1); stop_reads = h.0.reads; step = k }

range_to_good : (w : World) (o : Option Typed) → GoodNumber w o → GoodMeaning w (range_to o)
range_to_good w None h = tt
range_to_good w (Some b) h = record { start = tt; start_reads = λ e z. absurd (none-some e z); stop = (h.0.sound, h.1); stop_reads = h.0.reads; step = omega arith }

range_parts_good : (w : World) (a b : Known) (s : Stepped) (R : Type 0) → Gives w R s.notes (GoodStep s.step)
    → Gives w (GoodKnown w a × GoodKnown w b × R) (range_parts (bound a) (bound b) s).notes (GoodMeaning w (range_parts (bound a) (bound b) s).meaning)
range_parts_good w a b s R h =
    let x = bound a in
    let y = bound b in
    gives_map w (GoodKnown w a × (GoodKnown w b × R)) (GoodNumber w x.typed × (GoodNumber w y.typed × GoodStep s.step)) (GoodKnown w a × GoodKnown w b × R) (GoodMeaning w (range_from x.typed y.typed s.step))
    (x.notes ++ (y.notes ++ s.notes)) (λ k. (k.0, (k.1, k.2))) (λ k. range_from_good w x.typed y.typed s.step k.0 k.1.0 k.1.1)
    (gives_both w (GoodKnown w a) (GoodNumber w x.typed) (GoodKnown w b × R) (GoodNumber w y.typed × GoodStep s.step) x.notes (y.notes ++ s.notes) (bound_good w a)
    (gives_both w (GoodKnown w b) (GoodNumber w y.typed) R (GoodStep s.step) y.notes s.notes (bound_good w b) h))

pub range_good : (w : World) (p : Place) (ks : List Known) → Gives w (GoodKnowns w ks) (call_range p ks).notes (GoodMeaning w (call_range p ks).meaning)
range_good w p [] = gives_broken w _ (Unit {0}) rule.P15 p (λ t. tt)
range_good w p (b ∷ []) = gives_map w (GoodKnown w b) (GoodNumber w (bound b).typed) (GoodKnown w b × Unit {0}) (GoodMeaning w (range_to (bound b).typed)) (bound b).notes (λ k. k.0) (range_to_good w (bound b).typed) (bound_good w b)
range_good w p (a ∷ b ∷ []) =
    let j = range_parts (bound a) (bound b) step_one in
    gives_map w (GoodKnown w a × GoodKnown w b × Unit {0}) (GoodMeaning w j.meaning) (GoodKnowns w (a ∷ b ∷ [])) (GoodMeaning w j.meaning) j.notes (λ k. (k.0, k.1.0, tt)) (λ k. k)
    (range_parts_good w a b step_one (Unit {0}) (gives_none w (Unit {0}) (1 ≤ 1) (λ t. omega arith)))
range_good w p (a ∷ b ∷ s ∷ []) =
    let j = range_parts (bound a) (bound b) (step_of s) in
    gives_map w (GoodKnown w a × GoodKnown w b × Unit {0}) (GoodMeaning w j.meaning) (GoodKnowns w (a ∷ b ∷ s ∷ [])) (GoodMeaning w j.meaning) j.notes (λ k. (k.0, k.1.0, tt)) (λ k. k)
    (range_parts_good w a b (step_of s) (Unit {0}) (step_good w (Unit {0}) s))
range_good w p (a ∷ b ∷ s ∷ t ∷ ks) = gives_broken w _ (Unit {0}) rule.P15 p (λ t. tt)
