-- Functions as plain data: their variables, their bodies, and what they pay and need.
use Rattle.std.specs.Prelude.{ℕ, ◌+◌, map, ◌++◌, length}
use Rattle.puya_base.specs.declared.source.Place.{Place}
use Rattle.awst.specs.declared.statement.Stmt.{Stmt}
use Rattle.awst.specs.declared.statement.StmtKind.{StmtKind}
use Rattle.awst.specs.declared.statement.StmtKind.TheOpen.{StmtKind-F, Stmt-F, Arm-F, MatchArm-F}
use Rattle.awst.specs.declared.statement.StmtKind.TheFolds.{fold-Stmt, fold-StmtKind, fold-Arm, fold-MatchArm}
use Rattle.awst.specs.declared.statement.Arm.{Arm}
use Rattle.awst.specs.declared.statement.MatchArm.{MatchArm}
use Rattle.awst.specs.declared.contract.Func.{Func}
use Rattle.awst.specs.Types.{type_of}
use Rattle.awst.specs.Table.{own_function, need_of_places}
use Rattle.awst.specs.Tree.{Sts}
use Rattle.awst.specs.Places.{wait, optional_wait, Load, load_of_wait, beside, all_loads, with_for, with_literals, places_with}
use Rattle.awst.specs.Plain.{Scope, tree_of, optional_tree, destination, assigned_value, all_plain, statement_of}
use Rattle.awst.specs.Meaning.{Function}

-- a place that no wait depends on
abbrev pub no_place : Place
no_place = record { line = 0; col = 0 }

-- one layer, with what each statement in it asks for
abbrev pub load_layer : StmtKind-F Load Load Load Load → Load
load_layer (StmtKind-F.Assign ts prim e) = load_of_wait (wait (assigned_value no_place prim (map destination ts) (tree_of e)))
load_layer (StmtKind-F.Drop e) = load_of_wait (wait (tree_of e))
load_layer (StmtKind-F.Assert e) = load_of_wait (wait (tree_of e))
load_layer (StmtKind-F.If arms rest) = beside (all_loads arms) (all_loads rest)
load_layer (StmtKind-F.While c body) = beside (load_of_wait (wait (tree_of c))) (all_loads body)
load_layer (StmtKind-F.Range x start stop step body) = with_for (beside (load_of_wait (optional_wait (optional_tree start))) (beside (load_of_wait (wait (tree_of stop))) (all_loads body)))
load_layer (StmtKind-F.Each x e body) = with_for (beside (load_of_wait (wait (tree_of e))) (all_loads body))
load_layer StmtKind-F.Break = load_of_wait 0
load_layer StmtKind-F.Continue = load_of_wait 0
load_layer (StmtKind-F.Return e) = load_of_wait (optional_wait (optional_tree e))
load_layer StmtKind-F.Fail = load_of_wait 0
load_layer (StmtKind-F.Match e picks rest) = with_literals (length picks) (beside (load_of_wait (wait (tree_of e))) (beside (all_loads picks) (all_loads rest)))

abbrev pub stmt_load_layer : Stmt-F Load Load Load Load → Load
stmt_load_layer s = s.kind

abbrev pub arm_load_layer : Arm-F Load Load Load Load → Load
arm_load_layer a = beside (load_of_wait (wait (tree_of a.condition))) (all_loads a.body)

abbrev pub pick_load_layer : MatchArm-F Load Load Load Load → Load
pick_load_layer a = all_loads a.body

abbrev pub load_of : Stmt → Load
load_of = fold-Stmt Load Load Load Load load_layer arm_load_layer pick_load_layer stmt_load_layer

abbrev pub load_of_kind : StmtKind → Load
load_of_kind = fold-StmtKind Load Load Load Load load_layer arm_load_layer pick_load_layer stmt_load_layer

abbrev pub load_of_arm : Arm → Load
load_of_arm = fold-Arm Load Load Load Load load_layer arm_load_layer pick_load_layer stmt_load_layer

abbrev pub load_of_pick : MatchArm → Load
load_of_pick = fold-MatchArm Load Load Load Load load_layer arm_load_layer pick_load_layer stmt_load_layer

abbrev pub scope_of : Func → Scope
scope_of f = map type_of (f.params ++ f.locals)

abbrev pub body_of : Func → Sts
body_of f = all_plain (scope_of f) 0 (map statement_of f.body)

abbrev pub load_of_body : Func → Load
load_of_body f = all_loads (map load_of f.body)

abbrev pub places_of : Func → ℕ
places_of f = places_with (scope_of f) (type_of f.result) (load_of_body f)

-- what a function needs on the stack: for each place two, sixteen more, and one for each literal of its greatest choice
abbrev pub stack_need_of : Func → ℕ
stack_need_of f = need_of_places (places_of f) + (load_of_body f).literals

abbrev pub function_of : Func → Function
function_of f = record { locals = length f.locals; price = own_function (places_of f); need = stack_need_of f; body = body_of f }
