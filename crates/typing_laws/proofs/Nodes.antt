-- Nodes of typed trees: what their plain trees are, and when they are good.
use Rattle.std.proofs.Common.{◌≡◌, ◌∙◌, ℕ, zero, suc, ◌<◌, ◌≤◌, get_or, arith, unwrap_or, Bool, Some, List, [], ◌∷◌, length, map, inl, inr, refl, sym, ap, ap₂, subst}
use Rattle.std.specs.Prelude.{IsTrue, slice_get, option_map}
use Rattle.std.proofs.lemmas.Option.{slice_get-map}
use Rattle.puya_base.specs.declared.source.Place.{Place}
use Rattle.awst.specs.declared.primitive.Primitive.{Primitive}
use Rattle.awst.specs.declared.expression.Expr.{Expr}
use Rattle.awst.specs.declared.expression.ExprKind.{ExprKind}
use Rattle.awst.specs.declared.expression.ExprKind.TheVariants as kind
use Rattle.awst.specs.declared.expression.ExprKind.TheOpen.{ExprKind-F, Index-F}
use Rattle.awst.specs.declared.expression.ExprKind.TheFolds.{fold-roll-ExprKind, fold-roll-Index}
use Rattle.awst.specs.declared.expression.Index.{Index}
use Rattle.awst.specs.declared.expression.Index.TheVariants as index
use Rattle.awst.specs.Types.{ValueType, bool, types_of, is_kept}
use Rattle.awst.specs.Tree.{Ex, pack}
use Rattle.awst.specs.Plain.{Bare, Which, fixed, kind_layer, index_layer, expr_layer, tree_of, trees_of, bare_of, which_of}
use Rattle.awst.specs.Plain as plain
use Rattle.awst.specs.Shapes.{Fits, shape_of}
use Rattle.awst.specs.Sound.{literal_limit, IsOperation, IsSound, AreSound, IsSoundForm, ty_of, types_in, type_list}
use Rattle.awst.proofs.Equations.{tree-Expr}
use Rattle.algopy_library.specs.declared.scalar.Scalar.{Scalar}
use Rattle.algopy_library.specs.declared.scalar.Scalar.TheVariants as scalar
use Rattle.source_names.specs.declared.types.SourceType.{SourceType}
use Rattle.source_names.specs.declared.types.SourceType.TheVariants as ty
use Rattle.source_names.specs.Types.{tuple_parts}
use Rattle.meaning_rules.specs.declared.meaning.Typed.{Typed}
use Rattle.meaning_rules.specs.Meanings.{a_node}
use Rattle.meaning_rules.specs.Operations.{exprs_in}
use Rattle.meaning_rules.specs.Operations as operations
use Rattle.typing_laws.proofs.TypeLaws.{scalar_is, kept_scalar, parts_value, kept_parts, tuple_value, kept_tuple}
use Rattle.typing_laws.proofs.Good.{World, Within, FormWithin, AllWithin, value_type, IsResultType, IsKeptType, GoodTyped, GoodTypeds, EachKept}

-- ---- the plain form of each kind

pub bare-Int : (n : ℕ) → bare_of (kind.Int n) ≡ kind_layer (ExprKind-F.Int n)
bare-Int n = ap bare_of (sym (kind.rolls-Int n)) ∙ fold-roll-ExprKind Bare Which Ex kind_layer index_layer expr_layer (ExprKind-F.Int n)

pub bare-Flag : (b : Bool) → bare_of (kind.Flag b) ≡ kind_layer (ExprKind-F.Flag b)
bare-Flag b = ap bare_of (sym (kind.rolls-Flag b)) ∙ fold-roll-ExprKind Bare Which Ex kind_layer index_layer expr_layer (ExprKind-F.Flag b)

pub bare-Data : (b : List ℕ) → bare_of (kind.Data b) ≡ kind_layer (ExprKind-F.Data b)
bare-Data b = ap bare_of (sym (kind.rolls-Data b)) ∙ fold-roll-ExprKind Bare Which Ex kind_layer index_layer expr_layer (ExprKind-F.Data b)

pub bare-Local : (x : ℕ) → bare_of (kind.Local x) ≡ kind_layer (ExprKind-F.Local x)
bare-Local x = ap bare_of (sym (kind.rolls-Local x)) ∙ fold-roll-ExprKind Bare Which Ex kind_layer index_layer expr_layer (ExprKind-F.Local x)

pub bare-Prim : (q : Primitive) (es : List Expr) → bare_of (kind.Prim q es) ≡ kind_layer (ExprKind-F.Prim q (map tree_of es))
bare-Prim q es = ap bare_of (sym (kind.rolls-Prim q es)) ∙ fold-roll-ExprKind Bare Which Ex kind_layer index_layer expr_layer (ExprKind-F.Prim q es)

pub bare-And : (a b : Expr) → bare_of (kind.And a b) ≡ kind_layer (ExprKind-F.And (tree_of a) (tree_of b))
bare-And a b = ap bare_of (sym (kind.rolls-And a b)) ∙ fold-roll-ExprKind Bare Which Ex kind_layer index_layer expr_layer (ExprKind-F.And a b)

pub bare-Or : (a b : Expr) → bare_of (kind.Or a b) ≡ kind_layer (ExprKind-F.Or (tree_of a) (tree_of b))
bare-Or a b = ap bare_of (sym (kind.rolls-Or a b)) ∙ fold-roll-ExprKind Bare Which Ex kind_layer index_layer expr_layer (ExprKind-F.Or a b)

pub bare-Choose : (c a b : Expr) → bare_of (kind.Choose c a b) ≡ kind_layer (ExprKind-F.Choose (tree_of c) (tree_of a) (tree_of b))
bare-Choose c a b = ap bare_of (sym (kind.rolls-Choose c a b)) ∙ fold-roll-ExprKind Bare Which Ex kind_layer index_layer expr_layer (ExprKind-F.Choose c a b)

pub bare-Tuple : (es : List Expr) → bare_of (kind.Tuple es) ≡ kind_layer (ExprKind-F.Tuple (map tree_of es))
bare-Tuple es = ap bare_of (sym (kind.rolls-Tuple es)) ∙ fold-roll-ExprKind Bare Which Ex kind_layer index_layer expr_layer (ExprKind-F.Tuple es)

pub bare-Item : (e : Expr) (i : Index) → bare_of (kind.Item e i) ≡ kind_layer (ExprKind-F.Item (tree_of e) (which_of i))
bare-Item e i = ap bare_of (sym (kind.rolls-Item e i)) ∙ fold-roll-ExprKind Bare Which Ex kind_layer index_layer expr_layer (ExprKind-F.Item e i)

pub bare-Call : (f : ℕ) (es : List Expr) (order : List ℕ) → bare_of (kind.Call f es order) ≡ kind_layer (ExprKind-F.Call f (map tree_of es) order)
bare-Call f es order = ap bare_of (sym (kind.rolls-Call f es order)) ∙ fold-roll-ExprKind Bare Which Ex kind_layer index_layer expr_layer (ExprKind-F.Call f es order)

pub which-Fixed : (i : ℕ) → which_of (index.Fixed i) ≡ fixed i
which-Fixed i = ap which_of (sym (index.rolls-Fixed i)) ∙ fold-roll-Index Bare Which Ex kind_layer index_layer expr_layer (Index-F.Fixed i)

-- ---- a node is good where its form is

pub node_tree : (p : Place) (t : SourceType) (k : ExprKind) (b : Bare) → bare_of k ≡ b → tree_of (a_node p t k).expr ≡ plain.typed p (value_type t) b
node_tree p t k b h = tree-Expr (a_node p t k).expr ∙ ap (plain.typed p (value_type t)) h

pub node_good : (w : World) (p : Place) (t : SourceType) (k : ExprKind) (b : Bare) → bare_of k ≡ b → IsSoundForm w.names (value_type t) b.form → FormWithin w.reads b.form → IsResultType t → GoodTyped w (a_node p t k)
node_good w p t k b e s r h =
    let tree = node_tree p t k b e in
    record { sound = subst (IsSound w.names) (sym tree) s; type_is = ap ty_of tree; kept = h; reads = subst (Within w.reads) (sym tree) r }

-- each type of one value can be kept
pub scalar_kept : (s : Scalar) → IsResultType (ty.Scalar s)
scalar_kept s h = kept_scalar s

-- ---- lists of parts

-- the types of plain trees for those of the parts
abbrev pub part_types : List Typed → List ValueType
part_types ts = map value_type (operations.types_in ts)

pub parts_sound : (w : World) (ts : List Typed) → GoodTypeds w ts → AreSound w.names (trees_of (exprs_in ts))
parts_sound w [] g = tt
parts_sound w (t ∷ ts) g = (g.0.0.sound, parts_sound w ts g.1)

pub parts_types : (w : World) (ts : List Typed) → GoodTypeds w ts → types_in (trees_of (exprs_in ts)) ≡ part_types ts
parts_types w [] g = refl
parts_types w (t ∷ ts) g = ap₂ ◌∷◌ g.0.0.type_is (parts_types w ts g.1)

pub parts_within : (w : World) (ts : List Typed) → GoodTypeds w ts → AllWithin w.reads (trees_of (exprs_in ts))
parts_within w [] g = tt
parts_within w (t ∷ ts) g = (g.0.0.reads, parts_within w ts g.1)

-- ---- each kind

pub number_good : (w : World) (p : Place) (n : ℕ) → GoodTyped w (a_node p (ty.Scalar scalar.UInt64) (kind.Int n))
number_good w p n = node_good w p _ _ _ (bare-Int n) (scalar_is scalar.UInt64) tt (scalar_kept scalar.UInt64)

pub flag_good : (w : World) (p : Place) (b : Bool) → GoodTyped w (a_node p (ty.Scalar scalar.Bool) (kind.Flag b))
flag_good w p b = node_good w p _ _ _ (bare-Flag b) (scalar_is scalar.Bool) tt (scalar_kept scalar.Bool)

pub text_good : (w : World) (p : Place) (b : List ℕ) → length b ≤ literal_limit → GoodTyped w (a_node p (ty.Scalar scalar.Text) (kind.Data b))
text_good w p b h = node_good w p _ _ _ (bare-Data b) (inr (scalar_is scalar.Text), h) tt (scalar_kept scalar.Text)

pub bytes_good : (w : World) (p : Place) (b : List ℕ) → length b ≤ literal_limit → GoodTyped w (a_node p (ty.Scalar scalar.Bytes) (kind.Data b))
bytes_good w p b h = node_good w p _ _ _ (bare-Data b) (inl (scalar_is scalar.Bytes), h) tt (scalar_kept scalar.Bytes)

pub local_good : (w : World) (p : Place) (t : SourceType) (x : ℕ) → slice_get w.names.variables x ≡ Some (value_type t) → IsTrue (w.reads x) → IsKeptType t → GoodTyped w (a_node p t (kind.Local x))
local_good w p t x h r k = node_good w p _ _ _ (bare-Local x) h r (λ z. k)

-- what is done with parts
pub strict_good : (w : World) (p : Place) (t : SourceType) (q : Primitive) (es : List Expr) → AreSound w.names (trees_of es) → AllWithin w.reads (trees_of es) → Fits (shape_of q) (types_in (trees_of es)) (value_type t) → IsResultType t → GoodTyped w (a_node p t (kind.Prim q es))
strict_good w p t q es s r f h = node_good w p _ _ _ (bare-Prim q es) (s, f) r h

pub prim_good : (w : World) (p : Place) (t : SourceType) (q : Primitive) (ts : List Typed) → GoodTypeds w ts → Fits (shape_of q) (part_types ts) (value_type t) → IsResultType t → GoodTyped w (a_node p t (kind.Prim q (exprs_in ts)))
prim_good w p t q ts g f h =
    strict_good w p t q (exprs_in ts) (parts_sound w ts g) (parts_within w ts g) (subst (λ z. Fits (shape_of q) z (value_type t)) (sym (parts_types w ts g)) f) h

pub and_good : (w : World) (p : Place) (a b : Typed) → GoodTyped w a → GoodTyped w b → value_type a.ty ≡ bool → value_type b.ty ≡ bool → GoodTyped w (a_node p (ty.Scalar scalar.Bool) (kind.And a.expr b.expr))
and_good w p a b g h e f =
    node_good w p _ _ _ (bare-And a.expr b.expr) (g.sound, h.sound, g.type_is ∙ e, h.type_is ∙ f, scalar_is scalar.Bool) (g.reads, h.reads) (scalar_kept scalar.Bool)

pub or_good : (w : World) (p : Place) (a b : Typed) → GoodTyped w a → GoodTyped w b → value_type a.ty ≡ bool → value_type b.ty ≡ bool → GoodTyped w (a_node p (ty.Scalar scalar.Bool) (kind.Or a.expr b.expr))
or_good w p a b g h e f =
    node_good w p _ _ _ (bare-Or a.expr b.expr) (g.sound, h.sound, g.type_is ∙ e, h.type_is ∙ f, scalar_is scalar.Bool) (g.reads, h.reads) (scalar_kept scalar.Bool)

pub choose_good : (w : World) (p : Place) (c a b : Typed) → GoodTyped w c → ty_of (tree_of c.expr) ≡ bool → GoodTyped w a → IsKeptType a.ty → GoodTyped w b → value_type a.ty ≡ value_type b.ty → GoodTyped w (a_node p a.ty (kind.Choose c.expr a.expr b.expr))
choose_good w p c a b g e h k m f =
    node_good w p _ _ _ (bare-Choose c.expr a.expr b.expr) (g.sound, h.sound, m.sound, e, h.type_is, m.type_is ∙ sym f, k) (g.reads, (h.reads, m.reads)) (λ z. k)

kept_at : (w : World) (ts : List Typed) → GoodTypeds w ts → (k : ℕ) (d : ValueType) → k < length (part_types ts) → IsTrue (is_kept (get_or (part_types ts) k d))
kept_at w [] g k d h = absurd (omega (arith, h))
kept_at w (t ∷ ts) g zero d h = g.0.1
kept_at w (t ∷ ts) g (suc k) d h = kept_at w ts g.1 k d (omega (arith, h))

pub each_kept : (w : World) (ts : List Typed) → GoodTypeds w ts → EachKept (operations.types_in ts)
each_kept w [] g = tt
each_kept w (t ∷ ts) g = (g.0.1, each_kept w ts g.1)

-- a tuple of one part or more
pub tuple_good : (w : World) (p : Place) (t : Typed) (ts : List Typed) → GoodTypeds w (t ∷ ts) → GoodTyped w (a_node p (ty.Tuple (operations.types_in (t ∷ ts))) (kind.Tuple (exprs_in (t ∷ ts))))
tuple_good w p t ts g =
    node_good w p _ _ _ (bare-Tuple (exprs_in (t ∷ ts)))
    (parts_sound w (t ∷ ts) g, subst (λ z. IsOperation pack z (value_type (ty.Tuple (operations.types_in (t ∷ ts))))) (sym (parts_types w (t ∷ ts) g)) (tuple_value (operations.types_in (t ∷ ts)), omega arith, kept_at w (t ∷ ts) g))
    (parts_within w (t ∷ ts) g)
    (λ z. kept_tuple (operations.types_in (t ∷ ts)) (each_kept w (t ∷ ts) g))

listed_types : (ts : List ValueType) → type_list (types_of ts) ≡ ts
listed_types [] = refl
listed_types (t ∷ ts) = ap (λ z. t ∷ z) (listed_types ts)

kept_in : (ts : List SourceType) (i : ℕ) (t : SourceType) → EachKept ts → slice_get ts i ≡ Some t → IsKeptType t
kept_in [] i t k h = cc
kept_in (u ∷ ts) zero t k h = subst (λ z. IsKeptType (unwrap_or z u)) h k.0
kept_in (u ∷ ts) (suc i) t k h = kept_in ts i t k.1 h

-- a part of a tuple
pub item_good : (w : World) (p : Place) (b : Typed) (ts : List SourceType) (i : ℕ) (t : SourceType) → GoodTyped w b → IsKeptType b.ty → tuple_parts b.ty ≡ Some ts → slice_get ts i ≡ Some t → GoodTyped w (a_node p t (kind.Item b.expr (index.Fixed i)))
item_good w p b ts i t g k h e =
    node_good w p _ _ _ (bare-Item b.expr (index.Fixed i) ∙ ap (plain.item (tree_of b.expr)) (which-Fixed i)) (
      (g.sound, tt),
      (
        types_of (map value_type ts),
        ap (λ z. z ∷ []) (g.type_is ∙ parts_value b.ty ts h),
        ap (λ z. slice_get z i) (listed_types (map value_type ts)) ∙ slice_get-map value_type ts i ∙ ap (option_map value_type) e,
      ),
    )
    (g.reads, tt)
    (λ z. kept_in ts i t (kept_parts b.ty ts h k) e)
