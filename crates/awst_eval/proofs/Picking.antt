-- The first arm of a choice, and those behind it.
use Rattle.std.proofs.Common.{◌≡◌, ℕ, ◌≤◌, Bool, true, false, List, [], ◌∷◌, map, drop, length, get_or, sym, ap, ◌∙◌, arith}
use Rattle.runs.specs.Steps.{World, Run, either}
use Rattle.puya_base.specs.declared.source.Place.{Place}
use Rattle.awst.specs.declared.statement.MatchArm.{MatchArm, out-MatchArm}
use Rattle.awst.specs.declared.statement.StmtKind.TheFolds.{fold_out-MatchArm}
use Rattle.awst.specs.Values.{Val}
use Rattle.awst.specs.Meaning.{Env, Flow, Setting, is_literal, picked, all_do}
use Rattle.awst.specs.Plain.{Scope, Statement, PlainArm, PlainPick, stmt_layer, arm_layer, pick_layer, placed_layer, statement_of, pick_of, picks_plain, all_plain}

-- an arm is its literal with its body
pick_is : (p : MatchArm) → pick_of p ≡ record { literal = (out-MatchArm p).literal; body = map statement_of (out-MatchArm p).body }
pick_is p = fold_out-MatchArm (Place → Statement) PlainArm PlainPick Statement stmt_layer arm_layer pick_layer placed_layer p

one_picked : (s : Setting) (n : ℕ) (v : Val) (scope : Scope) (a : ℕ) (p : MatchArm) (ps : List MatchArm) (rest : Run Flow) (env : Env) (w : World) (b : Bool) → is_literal (out-MatchArm p).literal v ≡ b →
    picked s n v (picks_plain scope a (map pick_of (p ∷ ps))) rest env w ≡ either b (all_do s n (all_plain scope a (map statement_of (out-MatchArm p).body)) env) (picked s n v (picks_plain scope a (map pick_of ps)) rest env) w
one_picked s n v scope a p ps rest env w b h =
    ap (λ (q : PlainPick). picked s n v (picks_plain scope a (q ∷ map pick_of ps)) rest env w) (pick_is p)
    ∙ ap (λ (c : Bool). either c (all_do s n (all_plain scope a (map statement_of (out-MatchArm p).body)) env) (picked s n v (picks_plain scope a (map pick_of ps)) rest env) w) h

pub picks_first : (s : Setting) (n : ℕ) (v : Val) (scope : Scope) (a : ℕ) (p : MatchArm) (left : List MatchArm) (rest : Run Flow) (env : Env) (w : World) → p ≡ get_or left 0 p → 1 ≤ length left → is_literal (out-MatchArm p).literal v ≡ true →
    picked s n v (picks_plain scope a (map pick_of left)) rest env w ≡ all_do s n (all_plain scope a (map statement_of (out-MatchArm p).body)) env w
picks_first s n v scope a p [] rest env w e h k = absurd (omega arith)
picks_first s n v scope a p (q ∷ left) rest env w e h k =
    ap (λ (o : MatchArm). picked s n v (picks_plain scope a (map pick_of (o ∷ left))) rest env w) (sym e) ∙ one_picked s n v scope a p left rest env w true k

pub picks_on : (s : Setting) (n : ℕ) (v : Val) (scope : Scope) (a : ℕ) (p : MatchArm) (left : List MatchArm) (rest : Run Flow) (env : Env) (w : World) → p ≡ get_or left 0 p → 1 ≤ length left → is_literal (out-MatchArm p).literal v ≡ false →
    picked s n v (picks_plain scope a (map pick_of left)) rest env w ≡ picked s n v (picks_plain scope a (map pick_of (drop 1 left))) rest env w
picks_on s n v scope a p [] rest env w e h k = absurd (omega arith)
picks_on s n v scope a p (q ∷ left) rest env w e h k =
    ap (λ (o : MatchArm). picked s n v (picks_plain scope a (map pick_of (o ∷ left))) rest env w) (sym e) ∙ one_picked s n v scope a p left rest env w false k
