-- Statements of one line are sound.
use Rattle.std.proofs.Common.{◌≡◌, ℕ, Bool, true, false, List, [], ◌∷◌, Option, Some, None, refl, sym, ◌∙◌, subst}
use Rattle.std.specs.Prelude.{IsTrue}
use Rattle.puya_base.specs.declared.source.Place.{Place}
use Rattle.py_grammar.specs.declared.type_tree.TypeTree.{TypeTree}
use Rattle.awst.specs.declared.statement.Stmt.{Stmt}
use Rattle.awst.specs.Types.{is_kept}
use Rattle.awst.specs.Sound.{Names, Within}
use Rattle.algopy_library.specs.declared.operator.Operator.{Operator}
use Rattle.path_rules.specs.declared.note.Note.{Note}
use Rattle.source_names.specs.declared.types.SourceType.{SourceType}
use Rattle.source_names.specs.Types.{is_nothing}
use Rattle.source_names.specs.Annotations.{Written, written, of_value}
use Rattle.source_names.specs.Source.{Ex, Exs, place_of}
use Rattle.meaning_rules.specs.declared.meaning.Typed.{Typed}
use Rattle.meaning_rules.specs.declared.meaning.Lit.{Lit}
use Rattle.meaning_rules.specs.declared.meaning.Lit.TheVariants as lit
use Rattle.meaning_rules.specs.declared.meaning.Meaning.{Meaning}
use Rattle.meaning_rules.specs.declared.meaning.Meaning.TheVariants as meaning
use Rattle.meaning_rules.specs.declared.scope.Scope.{Scope}
use Rattle.meaning_rules.specs.declared.scope.Local.{Local}
use Rattle.meaning_rules.specs.Meanings.{Valued, value, required, hoped, context, freely, condition}
use Rattle.expression_check.specs.Expressions.{judge}
use Rattle.expression_check.specs.Variables.{fixed, status_at, local_names}
use Rattle.statement_check.specs.Lines.{Line, skip, leave, again, give, claim, delete, alone, assign, augment, annotate}
use Rattle.statement_check.specs.Targets.{target_name, unpacked}
use Rattle.statement_check.specs.Statements.{check_line, seeing, returned_typed, nothing_returned, return_value, claimed, message_is_text, alone_literal, alone_says, variable_of, assign_one, assign_all, slots, augment_one, only_when, annotated_value, annotate_one, annotation_typed, annotated_again, assign_variable}
use Rattle.typing_laws.proofs.Good.{value_type, GoodNames, GoodScope, GoodOption, GoodCondition, GoodMeaning, Settled, KeptLocals, Quiet}
use Rattle.typing_laws.proofs.TypeLaws.{nothing_value}
use Rattle.typing_laws.proofs.Meanings.{required_good, required_type}
use Rattle.typing_laws.proofs.Fixing.{fixed_keeps}
use Rattle.typing_laws.proofs.Growing.{settled_before, fixed_later, line_later}
use Rattle.typing_laws.proofs.Annotated.{annotation_kept}
use Rattle.typing_laws.proofs.Anywhere.{anywhere, names_at, scope_now, meaning_given, judged_value, option_given, condition_given}
use Rattle.typing_laws.proofs.Quieting.{quiet_break, quiet_continue}
use Rattle.typing_laws.proofs.StatementNodes.{SoundWhen, none_sound, drop_sound, assert_sound, break_sound, continue_sound, return_sound}
use Rattle.typing_laws.proofs.Taking.{Exists, variable_exists, exists_later, slots_exist}
use Rattle.typing_laws.proofs.Unpacking.{variable_sound, unpack_sound}
use Rattle.typing_laws.proofs.Augmenting.{augment_sound}
use Rattle.typing_laws.proofs.Updates.{is_update, LineUpdates}

module _ (names : Names) (within : Within) where
  -- ---- returns, assertions, expressions

  nothing_sound : (ls : List Local) (p : Place) (t : SourceType) (b : Bool) → is_nothing t ≡ b → within.result ≡ value_type t → SoundWhen names within (nothing_returned ls p b).typed
  nothing_sound ls p t true e h = return_sound names within p None (h ∙ nothing_value t e)
  nothing_sound ls p t false e h = tt

  returned_sound : (p : Place) (o : Option Typed) → GoodOption (anywhere names) o → ((u : Typed) → o ≡ Some u → value_type u.ty ≡ within.result) → SoundWhen names within (returned_typed p o)
  returned_sound p None g f = tt
  returned_sound p (Some u) g f = return_sound names within p (Some u.expr) ((g.0.sound, g.0.type_is ∙ f u refl), subst (λ z. IsTrue (is_kept z)) (f u refl) g.1)

  value_sound : (s : Scope) (t : SourceType) (p : Place) (e : Ex) → GoodScope names s → within.result ≡ value_type t → SoundWhen names within (return_value s (Some t) p e).typed
  value_sound s t p e g h =
      let v : Valued = value (hoped (Some t)) (place_of e) (judge s (context true (hoped (Some t))) e) in
      let w : Valued = required (Some t) v in
      returned_sound p w.typed (option_given names w (required_good (anywhere names) (Some t) v (judged_value names s (hoped (Some t)) (place_of e) (context true (hoped (Some t))) e g)))
      (λ u z. required_type t v u z ∙ sym h)

  claimed_sound : (p : Place) (b : Bool) (o : Option Typed) → GoodCondition (anywhere names) o → SoundWhen names within (claimed p b o)
  claimed_sound p true None g = tt
  claimed_sound p true (Some t) g = assert_sound names within p t.expr (g.0.sound, g.1)
  claimed_sound p false o g = tt

  literal_sound : (ls : List Local) (p : Place) (l : Lit) → SoundWhen names within (alone_literal ls p l).typed
  literal_sound ls p (lit.Number n) = tt
  literal_sound ls p (lit.Text b) = none_sound names within
  literal_sound ls p (lit.Bytes b) = tt

  alone_sound : (ls : List Local) (p : Place) (m : Meaning) → GoodMeaning (anywhere names) m → SoundWhen names within (alone_says ls p m).typed
  alone_sound ls p (meaning.Value t) g = drop_sound names within p t.expr g.sound
  alone_sound ls p (meaning.Literal q l) g = literal_sound ls q l
  alone_sound ls p (meaning.Thing t) g = tt
  alone_sound ls p (meaning.Range r) g = tt
  alone_sound ls p meaning.Unknown g = tt

  -- ---- assignments

  one_sound : (s : Scope) (t e : Ex) (i : Option ℕ) → variable_of s (target_name t) ≡ i → GoodScope names s → Settled names (assign_one s t i e).locals → SoundWhen names within (assign_one s t i e).typed
  one_sound s t e None z g h = tt
  one_sound s t e (Some i) z g h = variable_sound names within s (place_of t) i e g (variable_exists s (target_name t) i z) h

  all_sound : (s : Scope) (t e : Ex) (ts : Option Exs) → GoodScope names s → Settled names (assign_all s t ts e).locals → SoundWhen names within (assign_all s t ts e).typed
  all_sound s t e None g h = one_sound s t e (variable_of s (target_name t)) refl g h
  all_sound s t e (Some ts) g h = unpack_sound names within s (place_of t) (slots s ts) e g (slots_exist s ts) h

  update_one_sound : (s : Scope) (t : Ex) (i : Option ℕ) (o : Operator) (e : Ex) → IsTrue (is_update o) → GoodScope names s → SoundWhen names within (augment_one s t i o e).typed
  update_one_sound s t None o e k g = tt
  update_one_sound s t (Some i) o e k g = augment_sound names within s (place_of t) i o e k g

  -- ---- annotations

  only_sound : (a b : Option (List Stmt)) → SoundWhen names within b → SoundWhen names within (only_when a b)
  only_sound None b h = tt
  only_sound (Some a) b h = h

  annotation_sound : (ns : List Note) (t : Option SourceType) → SoundWhen names within (annotation_typed ns t)
  annotation_sound ns None = tt
  annotation_sound [] (Some t) = none_sound names within
  annotation_sound (n ∷ ns) (Some t) = tt

  annotated_sound : (s : Scope) (p : Place) (i : ℕ) (t : Option (List Stmt)) (e : Option Ex) → SoundWhen names within t → GoodNames names s → KeptLocals s.locals → Exists s.locals i → Settled names (annotated_value s p i t e).locals
      → SoundWhen names within (annotated_value s p i t e).typed
  annotated_sound s p i t None m g k x h = m
  annotated_sound s p i t (Some e) m g k x h =
      only_sound t (assign_variable s p i e).typed
      (variable_sound names within s p i e (scope_now names s g k (settled_before names s.locals (assign_variable s p i e).locals (fixed_later s.locals i _) h)) x h)

  annotate_sound : (s : Scope) (t : Ex) (i : Option ℕ) (a : TypeTree) (e : Option Ex) → variable_of s (target_name t) ≡ i → GoodNames names s → KeptLocals s.locals → Settled names (annotate_one s t i a e).locals
      → SoundWhen names within (annotate_one s t i a e).typed
  annotate_sound s t None a e z g k h = tt
  annotate_sound s t (Some i) a e z g k h =
      let w : Written = of_value (written s.entries (local_names s.locals) a) in
      annotated_sound (seeing s (fixed s.locals i w.ty)) (place_of t) i (annotation_typed (annotated_again (status_at s.locals i) w.place w.ty) w.ty) e
      (annotation_sound (annotated_again (status_at s.locals i) w.place w.ty) w.ty)
      (names_at names s (fixed s.locals i w.ty) g) (fixed_keeps s.locals i w.ty k (λ u y. annotation_kept s.entries (local_names s.locals) a u y))
      (exists_later s.locals (fixed s.locals i w.ty) i (fixed_later s.locals i w.ty) (variable_exists s (target_name t) i z)) h

  -- ---- a line

  pub line_sound : (s : Scope) (t : SourceType) (l : Line) → LineUpdates l → GoodNames names s → within.result ≡ value_type t → KeptLocals s.locals → Settled names (check_line s (Some t) l).locals
      → Quiet within.in_loop (check_line s (Some t) l).notes → SoundWhen names within (check_line s (Some t) l).typed
  line_sound s t l u g r k h q = line_by l u (scope_now names s g k (settled_before names s.locals (check_line s (Some t) l).locals (line_later s (Some t) l) h)) h q
    where
      line_by : (l : Line) → LineUpdates l → GoodScope names s → Settled names (check_line s (Some t) l).locals → Quiet within.in_loop (check_line s (Some t) l).notes → SoundWhen names within (check_line s (Some t) l).typed
      line_by skip u c h q = none_sound names within
      line_by (leave p) u c h q = break_sound names within p (quiet_break within.in_loop p [] q)
      line_by (again p) u c h q = continue_sound names within p (quiet_continue within.in_loop p [] q)
      line_by (give p None) u c h q = nothing_sound s.locals p t (is_nothing t) refl r
      line_by (give p (Some e)) u c h q = value_sound s t p e c r
      line_by (claim p e m) u c h q = claimed_sound p (message_is_text s m) (condition (place_of e) (judge s freely e)).typed (condition_given names s (place_of e) freely e c)
      line_by (delete p e) u c h q = tt
      line_by (alone e) u c h q = alone_sound s.locals (place_of e) (judge s freely e).meaning (meaning_given names s freely e c)
      line_by (assign y e) u c h q = all_sound s y e (unpacked y) c h
      line_by (augment y o e) u c h q = update_one_sound s y (variable_of s (target_name y)) o e u c
      line_by (annotate y a e) u c h q = annotate_sound s y (variable_of s (target_name y)) a e refl g k h
