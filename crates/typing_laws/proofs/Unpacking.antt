-- Assignments to variables, alone and of the parts of a tuple, are sound.
use Rattle.std.proofs.Common.{◌≡◌, ℕ, Bool, true, false, List, [], ◌∷◌, map, Option, Some, None, refl, sym, ap, ◌∙◌, subst}
use Rattle.puya_base.specs.declared.source.Place.{Place}
use Rattle.awst.specs.declared.expression.Index.TheVariants as index
use Rattle.awst.specs.declared.ty.Ty.{Ty}
use Rattle.awst.specs.declared.statement.StmtKind.TheVariants as kind
use Rattle.awst.specs.declared.statement.Target.{Target}
use Rattle.awst.specs.declared.statement.Target.TheVariants as target
use Rattle.awst.specs.Types.{tuple, types_of, type_of}
use Rattle.awst.specs.Plain.{fixed as fixed_part, item, tree_of, typed as typed_tree, destination}
use Rattle.awst.specs.Sound.{Names, Within, IsSound, Takes, TakeEach, TakeParts, ty_of}
use Rattle.awst.proofs.Equations.{tree-Expr}
use Rattle.source_names.specs.declared.types.SourceType.{SourceType}
use Rattle.source_names.specs.Types.{typed, tuple_parts}
use Rattle.source_names.specs.Source.{Ex as Source_ex, place_of}
use Rattle.meaning_rules.specs.declared.meaning.Hope.TheVariants as hope
use Rattle.meaning_rules.specs.declared.meaning.Expect.TheVariants as expect
use Rattle.meaning_rules.specs.declared.meaning.Typed.{Typed}
use Rattle.meaning_rules.specs.declared.scope.Scope.{Scope}
use Rattle.meaning_rules.specs.declared.scope.Local.{Local}
use Rattle.meaning_rules.specs.declared.scope.Status.{Status}
use Rattle.meaning_rules.specs.declared.scope.Status.TheVariants as status
use Rattle.meaning_rules.specs.Meanings.{Valued, value, context}
use Rattle.expression_check.specs.Expressions.{judge}
use Rattle.expression_check.specs.Variables.{fixed, status_at}
use Rattle.statement_check.specs.Statements.{Slots, of_typed, for_status, status_hope, type_in, assign_variable, taken, slot_targets, slot_hopes, first_type, first_part, unpack_to, unpack_typed, unpacked_parts, unpacked_value, unpack_slots}
use Rattle.typing_laws.proofs.Good.{Always, value_type, GoodTyped, GoodOption, GoodScope, GoodValued, Settled}
use Rattle.typing_laws.proofs.TypeLaws.{parts_value}
use Rattle.typing_laws.proofs.Nodes.{bare-Item, which-Fixed}
use Rattle.typing_laws.proofs.Meanings.{required_type}
use Rattle.typing_laws.proofs.Anywhere.{anywhere, judged_value, option_given, for_status_good}
use Rattle.typing_laws.proofs.StatementNodes.{SoundWhen, assign_sound, drop_sound}
use Rattle.typing_laws.proofs.Taking.{Exists, type_fixed, EachExists, all_take, take_each}

-- ---- one variable

status_fits : (s : Status) (v : Valued) (x : Typed) (u : SourceType) → (for_status s v).typed ≡ Some x → s ≡ status.Fixed (Some u) → value_type u ≡ value_type x.ty
status_fits s v x u h e = sym (required_type u v x (ap (λ (z : Status). (for_status z v).typed) (sym e) ∙ h))

assigned_sound : (names : Names) (within : Within) (ls : List Local) (p : Place) (i : ℕ) (o : Option Typed) → GoodOption (anywhere names) o → Exists ls i → Settled names (fixed ls i (type_in o))
    → ((x : Typed) (u : SourceType) → o ≡ Some x → status_at ls i ≡ status.Fixed (Some u) → value_type u ≡ value_type x.ty) → SoundWhen names within (of_typed p o (kind.Assign (target.Local i ∷ []) None))
assigned_sound names within ls p i None g e h f = tt
assigned_sound names within ls p i (Some x) g e h f =
    assign_sound names within p (target.Local i ∷ []) x.expr g.0.sound (type_fixed names ls i x.ty e h (λ u z. f x u refl z) ∙ ap Some (sym g.0.type_is))

pub variable_sound : (names : Names) (within : Within) (s : Scope) (p : Place) (i : ℕ) (e : Source_ex) → GoodScope names s → Exists s.locals i → Settled names (assign_variable s p i e).locals → SoundWhen names within (assign_variable s p i e).typed
variable_sound names within s p i e g x h =
    let v : Valued = value (status_hope (status_at s.locals i)) (place_of e) (judge s (context true (status_hope (status_at s.locals i))) e) in
    let w : Valued = for_status (status_at s.locals i) v in
    let k : GoodValued (anywhere names) Always v = judged_value names s (status_hope (status_at s.locals i)) (place_of e) (context true (status_hope (status_at s.locals i))) e g in
    assigned_sound names within s.locals p i w.typed (option_given names w (for_status_good (anywhere names) (status_at s.locals i) v k)) x h (λ y u a b. status_fits (status_at s.locals i) v y u a b)

-- ---- a tuple's first part

tree-first : (t : Typed) (u : Ty) → tree_of (first_part t u) ≡ typed_tree t.expr.place (type_of u) (item (tree_of t.expr) (fixed_part 0))
tree-first t u = tree-Expr (first_part t u) ∙ ap (typed_tree t.expr.place (type_of u)) (bare-Item t.expr (index.Fixed 0) ∙ ap (item (tree_of t.expr)) (which-Fixed 0))

first_sound : (names : Names) (t : Typed) (u : SourceType) (us : List SourceType) → GoodTyped (anywhere names) t → value_type t.ty ≡ tuple (types_of (map value_type (u ∷ us))) → IsSound names (tree_of (first_part t (typed u)))
first_sound names t u us g e = subst (λ z. IsSound names z) (sym (tree-first t (typed u))) ((g.sound, tt), (types_of (map value_type (u ∷ us)), ap (λ z. z ∷ []) (g.type_is ∙ e), refl))

-- ---- several variables

to_sound : (names : Names) (within : Within) (p : Place) (as_ : List Target) (ts : List SourceType) (t : Typed) → GoodTyped (anywhere names) t → value_type t.ty ≡ tuple (types_of (map value_type ts))
    → TakeEach names (map destination as_) (types_of (map value_type ts)) → SoundWhen names within (unpack_to p as_ (first_type ts) t)
to_sound names within p [] ts t g e h = drop_sound names within p t.expr g.sound
to_sound names within p (a ∷ []) [] t g e h = absurd h
to_sound names within p (a ∷ []) (u ∷ us) t g e h =
    assign_sound names within p (a ∷ []) (first_part t (typed u)) (first_sound names t u us g e) (subst (λ z. Takes names (destination a) z) (sym (ap ty_of (tree-first t (typed u)))) h.0)
to_sound names within p (a ∷ b ∷ as_) ts t g e h =
    assign_sound names within p (a ∷ b ∷ as_) t.expr g.sound (subst (λ z. TakeParts names (map destination (a ∷ b ∷ as_)) z) (sym (g.type_is ∙ e)) h)

typed_sound : (names : Names) (within : Within) (ls : List Local) (p : Place) (is : List (Option ℕ)) (ts : List SourceType) (t : Typed) (b : Bool) (o : Option (List Target)) → (taken ls is ts).all ≡ b → slot_targets is ≡ o
    → GoodTyped (anywhere names) t → tuple_parts t.ty ≡ Some ts → EachExists ls is → Settled names (taken ls is ts).locals → SoundWhen names within (unpack_typed p b o (first_type ts) t)
typed_sound names within ls p is ts t false o h k g e x m = tt
typed_sound names within ls p is ts t true None h k g e x m = tt
typed_sound names within ls p is ts t true (Some as_) h k g e x m = to_sound names within p as_ ts t g (parts_value t.ty ts e) (take_each names is ts as_ k (all_take names ls is ts h x m))

parts_sound : (names : Names) (within : Within) (ls : List Local) (p : Place) (is : List (Option ℕ)) (t : Typed) (ts : Option (List SourceType)) → tuple_parts t.ty ≡ ts → GoodTyped (anywhere names) t → EachExists ls is
    → Settled names (unpacked_parts ls p is t ts).locals → SoundWhen names within (unpacked_parts ls p is t ts).typed
parts_sound names within ls p is t None e g x m = tt
parts_sound names within ls p is t (Some ts) e g x m = typed_sound names within ls p is ts t (taken ls is ts).all (slot_targets is) refl refl g e x m

unpacked_sound : (names : Names) (within : Within) (ls : List Local) (p : Place) (is : List (Option ℕ)) (t : Option Typed) → GoodOption (anywhere names) t → EachExists ls is → Settled names (unpacked_value ls p is t).locals
    → SoundWhen names within (unpacked_value ls p is t).typed
unpacked_sound names within ls p is None g x m = tt
unpacked_sound names within ls p is (Some t) g x m = parts_sound names within ls p is t (tuple_parts t.ty) refl g.0 x m

pub unpack_sound : (names : Names) (within : Within) (s : Scope) (p : Place) (r : Slots) (e : Source_ex) → GoodScope names s → EachExists s.locals r.numbers → Settled names (unpack_slots s p r e).locals → SoundWhen names within (unpack_slots s p r e).typed
unpack_sound names within s p r e g x m =
    let v : Valued = value hope.Free (place_of e) (judge s (record { expect = expect.Each (slot_hopes s.locals r.numbers); copying = true }) e) in
    unpacked_sound names within s.locals p r.numbers v.typed (option_given names v (judged_value names s hope.Free (place_of e) (record { expect = expect.Each (slot_hopes s.locals r.numbers); copying = true }) e g)) x m
