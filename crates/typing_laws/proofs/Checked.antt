-- Typed statements are sound, where each augmented assignment has an operator that the source can write.
use Rattle.std.proofs.Common.{◌≡◌, ℕ, true, List, [], ◌∷◌, map, Option, Some, None, refl, subst}
use Rattle.puya_base.specs.declared.source.Place.{Place}
use Rattle.py_grammar.specs.declared.word.Word.{Word}
use Rattle.awst.specs.declared.statement.Stmt.{Stmt}
use Rattle.awst.specs.Plain.{all_plain, statement_of}
use Rattle.awst.specs.Sound.{Names, Within, in_a_loop, AreSoundStatements}
use Rattle.path_rules.specs.declared.note.Note.TheVariants as note
use Rattle.source_names.specs.declared.types.SourceType.{SourceType}
use Rattle.source_names.specs.Source.{Ex, place_of}
use Rattle.meaning_rules.specs.declared.scope.Scope.{Scope}
use Rattle.meaning_rules.specs.declared.scope.Local.{Local}
use Rattle.meaning_rules.specs.Meanings.{Judged, Valued, condition, freely}
use Rattle.meaning_rules.specs.Operations.{local_of}
use Rattle.expression_check.specs.Expressions.{judge}
use Rattle.expression_check.specs.Variables.{fixed, status_at}
use Rattle.statement_check.specs.Lines.{St, line, if_else, while_do, for_in, Sts, no_stmts, a_stmt, Branches, otherwise, a_branch}
use Rattle.statement_check.specs.Statements.{Done, Armed, check, checks, check_branches, seeing, is_true, turn_differs, Over, over, for_parts}
use Rattle.typing_laws.proofs.Good.{value_type, GoodNames, GoodScope, GoodCondition, Settled, KeptLocals, Quiet}
use Rattle.typing_laws.proofs.Fixing.{KeptOption, fixed_keeps}
use Rattle.typing_laws.proofs.Growing.{settled_before, check_later, checks_later, branches_later}
use Rattle.typing_laws.proofs.Keeping.{check_keeps, checks_keep, over_keeps}
use Rattle.typing_laws.proofs.Anywhere.{anywhere, names_at, scope_at, meaning_given, operand_given, condition_given}
use Rattle.typing_laws.proofs.Quieting.{quiet_front, quiet_behind, quiet_loop, quiet_tail, QuietIf, quiet_if, quiet_rest, quiet_arms, quiet_arm}
use Rattle.typing_laws.proofs.StatementNodes.{SoundWhen, none_sound}
use Rattle.typing_laws.proofs.Taking.{local_exists}
use Rattle.typing_laws.proofs.Simple.{line_sound}
use Rattle.typing_laws.proofs.Compound.{behind_sound, ArmsWhen, rest_when, arm_when, if_when, while_when, OverFits, over_fits, for_when}
use Rattle.typing_laws.proofs.Updates.{Updates, AllUpdate, BranchesUpdate}

module _ (names : Names) (s : Scope) (t : SourceType) (g : GoodNames names s) where
  for_sound : (within : Within) (ls : List Local) (p : Place) (w : Word) (i : Option ℕ) (o : Over) (b : Sts) → local_of (seeing s ls) w.name ≡ i → KeptOption o.ty → OverFits names o.ty o.over
      → ((ms : List Local) → KeptLocals ms → Settled names (checks s (Some t) ms b).locals → Quiet true (checks s (Some t) ms b).notes → SoundWhen names (in_a_loop within) (checks s (Some t) ms b).typed)
      → KeptLocals ls → Settled names (for_parts ls p w i o (λ ms. checks s (Some t) ms b)).locals → Quiet within.in_loop (for_parts ls p w i o (λ ms. checks s (Some t) ms b)).notes
      → SoundWhen names within (for_parts ls p w i o (λ ms. checks s (Some t) ms b)).typed
  for_sound within ls p w None o b z y f h k m q = tt
  for_sound within ls p w (Some i) o b z y f h k m q =
      let d : Done = checks s (Some t) (fixed ls i o.ty) b in
      for_when names within ls p w.place i o.ty o.over d.typed f (local_exists (seeing s ls) w.name i z)
      (settled_before names (fixed ls i o.ty) d.locals (checks_later s (Some t) (fixed ls i o.ty) b) m)
      (h (fixed ls i o.ty) (fixed_keeps ls i o.ty k y) m
      (quiet_tail true (note.Assign i) d.notes
      (quiet_loop within.in_loop [] true (note.Assign i ∷ d.notes) (note.Forget i ∷ [])
      (quiet_behind within.in_loop (turn_differs (status_at ls i) w.place o.ty) (note.Loop [] true (note.Assign i ∷ d.notes) ∷ note.Forget i ∷ [])
      (quiet_behind within.in_loop o.notes _ q)))))

  test_given : (ls : List Local) (e : Ex) → KeptLocals ls → Settled names ls → GoodCondition (anywhere names) (condition (place_of e) (judge (seeing s ls) freely e)).typed
  test_given ls e k m = condition_given names (seeing s ls) (place_of e) freely e (scope_at names s ls g k m)

  mutual
    check_sound : (within : Within) (ls : List Local) (b : St) → Updates b → within.result ≡ value_type t → KeptLocals ls → Settled names (check s (Some t) ls b).locals → Quiet within.in_loop (check s (Some t) ls b).notes
        → SoundWhen names within (check s (Some t) ls b).typed
    check_sound within ls (line l) u e k m q = line_sound names within (seeing s ls) t l u (names_at names s ls g) e k m q
    check_sound within ls (if_else p bs) u e k m q =
        let r : Armed = check_branches s (Some t) ls bs in
        if_when names within p r.typed_arms r.typed_rest (branches_sound within ls bs u e k m (quiet_if within.in_loop r.arms r.rest [] q))
    check_sound within ls (while_do p x b) u e k m q =
        let c : Valued = condition (place_of x) (judge (seeing s ls) freely x) in
        let d : Done = checks s (Some t) ls b in
        while_when names within p c.typed d.typed (test_given ls x k (settled_before names ls d.locals (checks_later s (Some t) ls b) m))
        (all_sound (in_a_loop within) ls b u e k m (quiet_loop within.in_loop c.notes _ d.notes [] q))
    check_sound within ls (for_in p w x b) u e k m q =
        let j : Judged = judge (seeing s ls) freely x in
        let c : GoodScope names (seeing s ls) = scope_at names s ls g k (settled_before names ls (check s (Some t) ls (for_in p w x b)).locals (check_later s (Some t) ls (for_in p w x b)) m) in
        for_sound within ls p w (local_of (seeing s ls) w.name) (over (place_of x) j) b refl (over_keeps (place_of x) j)
        (over_fits names (place_of x) j (meaning_given names (seeing s ls) freely x c) (operand_given names (seeing s ls) (place_of x) freely x c))
        (λ ms. λ k. λ m. λ q. all_sound (in_a_loop within) ms b u e k m q) k m q

    pub all_sound : (within : Within) (ls : List Local) (b : Sts) → AllUpdate b → within.result ≡ value_type t → KeptLocals ls → Settled names (checks s (Some t) ls b).locals → Quiet within.in_loop (checks s (Some t) ls b).notes
        → SoundWhen names within (checks s (Some t) ls b).typed
    all_sound within ls no_stmts u e k m q = none_sound names within
    all_sound within ls (a_stmt x ss) u e k m q =
        let d : Done = check s (Some t) ls x in
        let f : Done = checks s (Some t) d.locals ss in
        let h : Settled names d.locals = settled_before names d.locals f.locals (checks_later s (Some t) d.locals ss) m in
        behind_sound names within d f (check_sound within ls x u.0 e k h (quiet_front within.in_loop d.notes f.notes q))
        (all_sound within d.locals ss u.1 e (check_keeps names s (Some t) ls x g k h) m (quiet_behind within.in_loop d.notes f.notes q))

    branches_sound : (within : Within) (ls : List Local) (b : Branches) → BranchesUpdate b → within.result ≡ value_type t → KeptLocals ls → Settled names (check_branches s (Some t) ls b).locals
        → QuietIf within.in_loop (check_branches s (Some t) ls b).arms (check_branches s (Some t) ls b).rest → ArmsWhen names within (check_branches s (Some t) ls b).typed_arms (check_branches s (Some t) ls b).typed_rest
    branches_sound within ls (otherwise b) u e k m q =
        let d : Done = checks s (Some t) ls b in
        rest_when names within d.typed (all_sound within ls b u e k m (quiet_rest within.in_loop d.notes q))
    branches_sound within ls (a_branch x b bs) u e k m q =
        let c : Valued = condition (place_of x) (judge (seeing s ls) freely x) in
        let d : Done = checks s (Some t) ls b in
        let r : Armed = check_branches s (Some t) d.locals bs in
        let h : Settled names d.locals = settled_before names d.locals r.locals (branches_later s (Some t) d.locals bs) m in
        arm_when names within c.typed d.typed r.typed_arms r.typed_rest (test_given ls x k (settled_before names ls d.locals (checks_later s (Some t) ls b) h))
        (all_sound within ls b u.0 e k h (quiet_arm within.in_loop (record { test = c.notes; always = is_true c.typed; body = d.notes }) r.arms r.rest q))
        (branches_sound within d.locals bs u.1 e (checks_keep names s (Some t) ls b g k h) m (quiet_arms within.in_loop (record { test = c.notes; always = is_true c.typed; body = d.notes }) r.arms r.rest q))

-- typed statements are sound
pub checked_sound : (names : Names) (s : Scope) (within : Within) (t : SourceType) → GoodNames names s → within.result ≡ value_type t
    → (ls : List Local) (b : Sts) (ss : List Stmt) → AllUpdate b → KeptLocals ls → Settled names (checks s (Some t) ls b).locals → Quiet within.in_loop (checks s (Some t) ls b).notes → (checks s (Some t) ls b).typed ≡ Some ss
    → (a : ℕ) → AreSoundStatements names within (all_plain names.variables a (map statement_of ss))
checked_sound names s within t g e ls b ss u h m q d a = (subst (λ (o : Option (List Stmt)). SoundWhen names within o) d (all_sound names s t g within ls b u e h m q)) a
