-- The walks of typed statements are walks of the notes on them.
use Rattle.std.proofs.Common.{◌≡◌, inl, inr, ℕ, List, [], ◌++◌, map, Bool, Option, Some, None, refl, sym, subst}
use Rattle.puya_base.specs.declared.source.Place.{Place}
use Rattle.py_grammar.specs.declared.word.Word.{Word}
use Rattle.awst.specs.declared.statement.Stmt.{Stmt}
use Rattle.awst.specs.Types.{ValueType}
use Rattle.awst.specs.Plain.{all_plain, statement_of}
use Rattle.awst.specs.Paths.{Moves, Way, Walks, sts_moves}
use Rattle.awst.specs.Sound.{Names}
use Rattle.path_rules.specs.declared.note.Note.{Note}
use Rattle.path_rules.specs.Steps.{steps_of}
use Rattle.source_names.specs.declared.types.SourceType.{SourceType}
use Rattle.source_names.specs.Source.{place_of}
use Rattle.meaning_rules.specs.declared.scope.Scope.{Scope}
use Rattle.meaning_rules.specs.declared.scope.Local.{Local}
use Rattle.meaning_rules.specs.Meanings.{freely, condition}
use Rattle.meaning_rules.specs.Operations.{local_of}
use Rattle.expression_check.specs.Expressions.{judge}
use Rattle.expression_check.specs.Variables.{fixed}
use Rattle.statement_check.specs.Lines.{St, line, if_else, while_do, for_in, Sts, no_stmts, a_stmt, Branches, otherwise, a_branch}
use Rattle.statement_check.specs.Statements.{Done, behind_done, seeing, Over, over, bad_for, for_parts, check, checks, check_branches}
use Rattle.typing_laws.proofs.Good.{GoodNames, Settled, KeptLocals, Later, Follows}
use Rattle.typing_laws.proofs.Growing.{later_itself, checks_later, check_later, branches_later, settled_before}
use Rattle.typing_laws.proofs.Keeping.{check_keeps, checks_keep}
use Rattle.typing_laws.proofs.Moving.{also}
use Rattle.typing_laws.proofs.Agreeing.{none_follow, notes_follow}
use Rattle.typing_laws.proofs.Deeds.{moves_of, moves-append}
use Rattle.typing_laws.proofs.Telling.{condition_told}
use Rattle.typing_laws.proofs.Assigning.{AllFollow, DoneFollows, untyped_follow, typed_follow}
use Rattle.typing_laws.proofs.Lines.{kept_before, good_at, line_follow}
use Rattle.typing_laws.proofs.Branching.{ArmsFollow, rest_arms, arm_arms, if_follow}
use Rattle.typing_laws.proofs.Turning.{OverTold, over_told, while_follow, for_follow}

-- ---- one statement behind another

behind_by : (vs : List ValueType) (ns more : List Note) (o u : Option (List Stmt)) → AllFollow vs ns o → AllFollow vs more u
    → AllFollow vs (ns ++ more) (elim o [ None ↦ None | Some a ↦ elim u [ None ↦ None | Some b ↦ Some (a ++ b) ] ])
behind_by vs ns more None u f g = untyped_follow vs (ns ++ more)
behind_by vs ns more (Some ss) None f g = untyped_follow vs (ns ++ more)
behind_by vs ns more (Some ss) (Some ts) f g =
    typed_follow vs (ns ++ more) (ss ++ ts)
    (λ a. subst (λ z. Follows (steps_of (ns ++ more)) z) (sym (moves-append vs a ss ts)) (notes_follow ns more (moves_of vs a ss) (moves_of vs a ts) (f ss refl a) (g ts refl a)))

behind_follow : (vs : List ValueType) (d e : Done) → DoneFollows vs d → DoneFollows vs e → DoneFollows vs (behind_done d e)
behind_follow vs d e f g = behind_by vs d.notes e.notes d.typed e.typed f g

-- ---- `for`

for_by : (names : Names) (ls : List Local) (p : Place) (w : Word) (i : Option ℕ) (o : Over) (body : List Local → Done) → OverTold o → ((ms : List Local) → Later ms (body ms).locals)
    → ((ms : List Local) → KeptLocals ms → Settled names (body ms).locals → DoneFollows names.variables (body ms))
    → KeptLocals (for_parts ls p w i o body).locals → Settled names (for_parts ls p w i o body).locals → DoneFollows names.variables (for_parts ls p w i o body)
for_by names ls p w None o body g h f k m = untyped_follow names.variables (bad_for w.place o (body ls)).notes
for_by names ls p w (Some i) o body g h f k m =
    let ms = fixed ls i o.ty in
    for_follow names.variables ls p w.place i o body g (f ms (kept_before ms (body ms).locals (h ms) k) m)

-- a scope, whose variables go on from those to others
module _ (names : Names) (s : Scope) (r : Option SourceType) (g : GoodNames names s) where
  mutual
    check_follow : (ls : List Local) (t : St) → KeptLocals ls → Settled names (check s r ls t).locals → DoneFollows names.variables (check s r ls t)
    check_follow ls (line l) k m = line_follow names s r ls l g k m
    check_follow ls (if_else p bs) k m = if_follow names.variables p (check_branches s r ls bs) (branches_follow ls bs k m)
    check_follow ls (while_do p e b) k m =
        let h = good_at names s ls ls g (later_itself ls) k (settled_before names ls (checks s r ls b).locals (checks_later s r ls b) m) in
        while_follow names.variables p (condition (place_of e) (judge (seeing s ls) freely e)) (checks s r ls b) (λ t i. condition_told names (seeing s ls) e t h i) (statements_follow ls b k m)
    check_follow ls (for_in p w e b) k m =
        let h = good_at names s ls ls g (later_itself ls) k (settled_before names ls (check s r ls (for_in p w e b)).locals (check_later s r ls (for_in p w e b)) m) in
        for_by names ls p w (local_of (seeing s ls) w.name) (over (place_of e) (judge (seeing s ls) freely e)) (λ ms. checks s r ms b) (over_told names (seeing s ls) e h)
        (λ ms. checks_later s r ms b) (λ ms. statements_follow ms b) (check_keeps names s r ls (for_in p w e b) g k m) m

    statements_follow : (ls : List Local) (b : Sts) → KeptLocals ls → Settled names (checks s r ls b).locals → DoneFollows names.variables (checks s r ls b)
    statements_follow ls no_stmts k m = typed_follow names.variables [] [] (λ a. none_follow)
    statements_follow ls (a_stmt t ss) k m =
        let d = check s r ls t in
        let settled = settled_before names d.locals (checks s r d.locals ss).locals (checks_later s r d.locals ss) m in
        behind_follow names.variables d (checks s r d.locals ss) (check_follow ls t k settled)
        (statements_follow d.locals ss (check_keeps names s r ls t g k settled) m)

    branches_follow : (ls : List Local) (b : Branches) → KeptLocals ls → Settled names (check_branches s r ls b).locals → ArmsFollow names.variables (check_branches s r ls b)
    branches_follow ls (otherwise b) k m = rest_arms names.variables (checks s r ls b) (statements_follow ls b k m)
    branches_follow ls (a_branch e b bs) k m =
        let d = checks s r ls b in
        let more = check_branches s r d.locals bs in
        let settled = settled_before names d.locals more.locals (branches_later s r d.locals bs) m in
        let h = good_at names s ls ls g (later_itself ls) k (settled_before names ls d.locals (checks_later s r ls b) settled) in
        arm_arms names.variables (condition (place_of e) (judge (seeing s ls) freely e)) d more (λ t i. condition_told names (seeing s ls) e t h i)
        (statements_follow ls b k settled) (branches_follow d.locals bs (checks_keep names s r ls b g k settled) m)

pub checks_follow : (names : Names) (s : Scope) (r : Option SourceType) → GoodNames names s
    → (ls : List Local) (b : Sts) (ss : List Stmt) → KeptLocals ls → Settled names (checks s r ls b).locals → (checks s r ls b).typed ≡ Some ss
    → (a : ℕ) → Follows (steps_of (checks s r ls b).notes) (sts_moves (all_plain names.variables a (map statement_of ss)))
checks_follow names s r g ls b ss h m d a = statements_follow names s r g ls b h m ss d a

-- a walk goes the same way whether its variable was assigned before or not
pub record Elsewhere (x : ℕ) (ms : Moves) (s : Bool) (w : Way) : Type 0 where
  pub state : Bool
  pub walk : Walks x ms s w state

pub from_anywhere : (x : ℕ) (ms : Moves) (s t : Bool) (w : Way) → Walks x ms s w t → (u : Bool) → Elsewhere x ms u w
from_anywhere x ms s t w h u = elim (also x ms s t w h u) [ inl k ↦ record { state = t; walk = k } | inr k ↦ record { state = u; walk = k } ]
