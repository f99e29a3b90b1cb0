-- Statements that tell of no broken rule are typed, and the variables that they assign have types.
use Rattle.std.proofs.Common.{◌≡◌, ℕ, Bool, true, false, List, [], ◌∷◌, ◌++◌, Option, Some, None, refl}
use Rattle.std.specs.Prelude.{◌&&◌}
use Rattle.puya_base.specs.declared.source.Place.{Place}
use Rattle.puya_base.specs.declared.source.Rule.TheVariants as rule
use Rattle.py_grammar.specs.declared.word.Word.{Word}
use Rattle.path_rules.specs.declared.note.Note.{Note}
use Rattle.path_rules.specs.declared.note.NoteArm.{NoteArm}
use Rattle.path_rules.specs.declared.note.Note.TheVariants as note
use Rattle.source_names.specs.declared.types.SourceType.{SourceType}
use Rattle.source_names.specs.Source.{Ex, place_of}
use Rattle.meaning_rules.specs.declared.scope.Scope.{Scope}
use Rattle.meaning_rules.specs.declared.scope.Local.{Local}
use Rattle.meaning_rules.specs.Meanings.{Valued, broken, condition, freely}
use Rattle.meaning_rules.specs.Operations.{local_of}
use Rattle.expression_check.specs.Expressions.{judge}
use Rattle.expression_check.specs.Variables.{fixed, status_at}
use Rattle.statement_check.specs.Lines.{St, line, if_else, while_do, for_in, Sts, no_stmts, a_stmt, Branches, otherwise, a_branch}
use Rattle.statement_check.specs.Targets.{targets, all_targets, branch_targets}
use Rattle.statement_check.specs.Statements.{Done, Armed, check, checks, check_branches, seeing, is_true, turn_differs, Over, over, for_parts}
use Rattle.typing_laws.specs.Naming.{is_named, are_named, are_named_branches}
use Rattle.typing_laws.proofs.Good.{Quiet}
use Rattle.typing_laws.proofs.Growing.{checks_later, branches_later}
use Rattle.typing_laws.proofs.Lasting.{check_same, checks_same, fixed_same}
use Rattle.typing_laws.proofs.Quieting.{quiet_front, quiet_behind, quiet_loop, quiet_tail, QuietIf, quiet_if, quiet_rest, quiet_arms, quiet_arm}
use Rattle.typing_laws.proofs.Known.{KnownNames, KnownLocals, KnownTyped}
use Rattle.typing_laws.proofs.KnownExpressions.{judge_known, condition_known}
use Rattle.typing_laws.proofs.KnownNotes.{quiet_unbroken, not_broken, quiet_test, quiet_arm_test}
use Rattle.typing_laws.proofs.KnownVariables.{scope_known, fixed_known, AllSeen, all_later, all_before, one_seen}
use Rattle.typing_laws.proofs.KnownUnpacking.{KnownBy}
use Rattle.typing_laws.proofs.KnownLines.{line_known}
use Rattle.typing_laws.proofs.KnownCompound.{behind_known, both_seen, arm_known, if_known, while_known, KnownOver, over_known, for_known}

and_left : (a b : Bool) → (a && b) ≡ true → a ≡ true
and_left true b h = refl
and_left false b h = h

and_right : (a b : Bool) → (a && b) ≡ true → b ≡ true
and_right true b h = h
and_right false b h = absurd (cc)

module _ (s : Scope) (t : SourceType) (g : KnownNames s) where
  test_known : (ls : List Local) (e : Ex) (inside : Bool) → KnownLocals ls → Quiet inside (condition (place_of e) (judge (seeing s ls) freely e)).notes → KnownTyped (condition (place_of e) (judge (seeing s ls) freely e)).typed
  test_known ls e inside k q =
      let v : Scope = seeing s ls in
      condition_known v (place_of e) (judge v freely e) (judge_known v freely e (scope_known s ls g k) tt) (quiet_unbroken inside (condition (place_of e) (judge v freely e)).notes q)

  for_parts_known : (inside : Bool) (ls : List Local) (p : Place) (w : Word) (i : Option ℕ) (o : Over) (b : Sts) → local_of (seeing s ls) w.name ≡ i
      → ((q : Quiet inside o.notes) → KnownOver o.ty o.over) → KnownLocals ls
      → ((ms : List Local) → KnownLocals ms → Quiet true (checks s (Some t) ms b).notes → KnownBy ms (all_targets b) (checks s (Some t) ms b))
      → Quiet inside (for_parts ls p w i o (λ ms. checks s (Some t) ms b)).notes → KnownBy ls (w ∷ all_targets b) (for_parts ls p w i o (λ ms. checks s (Some t) ms b))
  for_parts_known inside ls p w None o b z f k h q =
      let d : Done = checks s (Some t) ls b in
      let rest : List Note = o.notes ++ (note.Loop [] true d.notes ∷ []) in
      not_broken rule.P16 w.place rest (quiet_unbroken inside (broken rule.P16 w.place ∷ rest) q)
  for_parts_known inside ls p w (Some i) o b z f k h q =
      let ms : List Local = fixed ls i o.ty in
      let d : Done = checks s (Some t) ms b in
      let ns : List Note = turn_differs (status_at ls i) w.place o.ty in
      let turns : List Note = note.Loop [] true (note.Assign i ∷ d.notes) ∷ note.Forget i ∷ [] in
      let v : KnownOver o.ty o.over = f (quiet_front inside o.notes (ns ++ turns) q) in
      let behind : Quiet inside (ns ++ turns) = quiet_behind inside o.notes (ns ++ turns) q in
      let r : KnownBy ms (all_targets b) d = h ms (fixed_known ls i o.ty k v.ty)
      (quiet_tail true (note.Assign i) d.notes (quiet_loop inside [] true (note.Assign i ∷ d.notes) (note.Forget i ∷ []) (quiet_behind inside ns turns behind))) in
      let own : AllSeen ls ms (w ∷ []) = one_seen (seeing s ls) (Some w) i o.ty z in
      record {
        typed = for_known ls p w.place i o.ty o.over d.typed (quiet_unbroken inside ns (quiet_front inside ns turns behind)) v.over r.typed;
        locals = r.locals;
        targets = ((all_later ls ms d.locals (w ∷ []) (checks_later s (Some t) ms b) own).0, all_before ls ms d.locals (all_targets b) (fixed_same ls i o.ty) r.targets);
      }

  record KnownArmed (ls : List Local) (ws : List Word) (r : Armed) : Type 0 where
    arms : KnownTyped r.typed_arms
    rest : KnownTyped r.typed_rest
    locals : KnownLocals r.locals
    targets : AllSeen ls r.locals ws

  mutual
    check_known : (inside : Bool) (ls : List Local) (b : St) → is_named b ≡ true → KnownLocals ls → Quiet inside (check s (Some t) ls b).notes → KnownBy ls (targets b) (check s (Some t) ls b)
    check_known inside ls (line l) n k q = line_known (seeing s ls) t l (scope_known s ls g k) n (quiet_unbroken inside (check s (Some t) ls (line l)).notes q)
    check_known inside ls (if_else p bs) n k q =
        let r : Armed = check_branches s (Some t) ls bs in
        let a : KnownArmed ls (branch_targets bs) r = branches_known inside ls bs n k (quiet_if inside r.arms r.rest [] q) in
        record { typed = if_known p r.typed_arms r.typed_rest a.arms a.rest; locals = a.locals; targets = a.targets }
    check_known inside ls (while_do p e b) n k q =
        let c : Valued = condition (place_of e) (judge (seeing s ls) freely e) in
        let d : Done = checks s (Some t) ls b in
        let r : KnownBy ls (all_targets b) d = checks_known true ls b n k (quiet_loop inside c.notes _ d.notes [] q) in
        record { typed = while_known p c.typed d.typed (test_known ls e true k (quiet_test inside c.notes _ d.notes [] q)) r.typed; locals = r.locals; targets = r.targets }
    check_known inside ls (for_in p w e b) n k q =
        let v : Scope = seeing s ls in
        let o : Over = over (place_of e) (judge v freely e) in
        for_parts_known inside ls p w (local_of v w.name) o b refl (λ h. over_known v e (scope_known s ls g k) (quiet_unbroken inside o.notes h)) k (λ ms. λ m. λ h. checks_known true ms b n m h) q

    pub checks_known : (inside : Bool) (ls : List Local) (b : Sts) → are_named b ≡ true → KnownLocals ls → Quiet inside (checks s (Some t) ls b).notes → KnownBy ls (all_targets b) (checks s (Some t) ls b)
    checks_known inside ls no_stmts n k q = record { typed = tt; locals = k; targets = tt }
    checks_known inside ls (a_stmt x ss) n k q =
        let d : Done = check s (Some t) ls x in
        let f : Done = checks s (Some t) d.locals ss in
        let h : KnownBy ls (targets x) d = check_known inside ls x (and_left (is_named x) (are_named ss) n) k (quiet_front inside d.notes f.notes q) in
        behind_known ls (targets x) (all_targets ss) d f (checks_later s (Some t) d.locals ss) (check_same s (Some t) ls x) h
        (checks_known inside d.locals ss (and_right (is_named x) (are_named ss) n) h.locals (quiet_behind inside d.notes f.notes q))

    branches_known : (inside : Bool) (ls : List Local) (b : Branches) → are_named_branches b ≡ true → KnownLocals ls → QuietIf inside (check_branches s (Some t) ls b).arms (check_branches s (Some t) ls b).rest
        → KnownArmed ls (branch_targets b) (check_branches s (Some t) ls b)
    branches_known inside ls (otherwise b) n k q =
        let d : Done = checks s (Some t) ls b in
        let r : KnownBy ls (all_targets b) d = checks_known inside ls b n k (quiet_rest inside d.notes q) in
        record { arms = tt; rest = r.typed; locals = r.locals; targets = r.targets }
    branches_known inside ls (a_branch e b bs) n k q =
        let c : Valued = condition (place_of e) (judge (seeing s ls) freely e) in
        let d : Done = checks s (Some t) ls b in
        let r : Armed = check_branches s (Some t) d.locals bs in
        let a : NoteArm = record { test = c.notes; always = is_true c.typed; body = d.notes } in
        let h : KnownBy ls (all_targets b) d = checks_known inside ls b (and_left (are_named b) (are_named_branches bs) n) k (quiet_arm inside a r.arms r.rest q) in
        let m : KnownArmed d.locals (branch_targets bs) r = branches_known inside d.locals bs (and_right (are_named b) (are_named_branches bs) n) h.locals (quiet_arms inside a r.arms r.rest q) in
        record {
          arms = arm_known c.typed d.typed r.typed_arms (test_known ls e inside k (quiet_arm_test inside a r.arms r.rest q)) h.typed m.arms;
          rest = m.rest;
          locals = m.locals;
          targets = both_seen ls d.locals r.locals (all_targets b) (branch_targets bs) (branches_later s (Some t) d.locals bs) (checks_same s (Some t) ls b) h.targets m.targets;
        }
