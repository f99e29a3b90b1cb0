use Rattle.std.proofs.Common.{◌≡◌, ◌+◌, ◌*◌, ◌≤◌, max, map, drop, length, suc}
use Rattle.runs.specs.Steps.{after}
use Rattle.awst.specs.declared.expression.Expr.{size-Expr}
use Rattle.awst.specs.declared.expression.Index.{size-Index}
use Rattle.awst.specs.Values.{string}
use Rattle.awst.specs.Meaning.{value_of, values_of, all_do, picked, turns, turn_while, turn_of_range, turn_of_items, items_of}
use Rattle.awst.specs.Plain.{tree_of, trees_of, otherwise, all_plain, picks_plain, statement_of, arm_of, pick_of}
use Rattle.awst_eval.specs.Shown.{meant, all_meant}
use Rattle.awst_eval.specs.Worlds.{world_of}
use Rattle.awst_eval.specs.Frames.{setting_of, variables_of}
use Rattle.awst_eval.proofs.Looped.{behind_these}
use Rattle.awst_eval.proofs.Depths.{level, optional_depth, stmt_depth, body_depth, arms_depth, picks_depth}
use Rattle.awst_eval.proofs.meaning.+run.Given as goal

abbrev pub decreases-expressions::value : goal.decreases-expressions::value
decreases-expressions::value l = l.frame.now.clock * level l.frame.now.contract.now.funcs + (8 * (goal.size-expressions::value l) + 2)

abbrev pub decreases-expressions::kind_value : goal.decreases-expressions::kind_value
decreases-expressions::kind_value l = l.frame.now.clock * level l.frame.now.contract.now.funcs + (8 * (goal.size-expressions::kind_value l) + 1)

abbrev pub decreases-expressions::values : goal.decreases-expressions::values
decreases-expressions::values l = l.frame.now.clock * level l.frame.now.contract.now.funcs + (8 * (goal.size-expressions::values l) + 3)

abbrev pub decreases-expressions::primitive_value : goal.decreases-expressions::primitive_value
decreases-expressions::primitive_value l = l.frame.now.clock * level l.frame.now.contract.now.funcs + (8 * (goal.size-expressions::primitive_value l) + 4)

abbrev pub decreases-expressions::tuple_value : goal.decreases-expressions::tuple_value
decreases-expressions::tuple_value l = l.frame.now.clock * level l.frame.now.contract.now.funcs + (8 * (goal.size-expressions::tuple_value l) + 4)

abbrev pub decreases-expressions::item_value : goal.decreases-expressions::item_value
decreases-expressions::item_value l = l.frame.now.clock * level l.frame.now.contract.now.funcs + (8 * (max (size-Expr l.e.now) (size-Index l.index.now)) + 4)

abbrev pub decreases-expressions::part_value : goal.decreases-expressions::part_value
decreases-expressions::part_value l = l.frame.now.clock * level l.frame.now.contract.now.funcs + (8 * (size-Expr l.e.now) + 3)

abbrev pub decreases-expressions::element_value : goal.decreases-expressions::element_value
decreases-expressions::element_value l = l.frame.now.clock * level l.frame.now.contract.now.funcs + (8 * (max (size-Expr l.e.now) (size-Expr l.i.now)) + 3)

abbrev pub decreases-expressions::both : goal.decreases-expressions::both
decreases-expressions::both l = l.frame.now.clock * level l.frame.now.contract.now.funcs + (8 * (max (size-Expr l.a.now) (size-Expr l.b.now)) + 3)

abbrev pub decreases-expressions::one_of : goal.decreases-expressions::one_of
decreases-expressions::one_of l = l.frame.now.clock * level l.frame.now.contract.now.funcs + (8 * (max (size-Expr l.a.now) (size-Expr l.b.now)) + 3)

abbrev pub decreases-expressions::chosen : goal.decreases-expressions::chosen
decreases-expressions::chosen l = l.frame.now.clock * level l.frame.now.contract.now.funcs + (8 * (max (size-Expr l.c.now) (max (size-Expr l.a.now) (size-Expr l.b.now))) + 3)

abbrev pub decreases-expressions::call_value : goal.decreases-expressions::call_value
decreases-expressions::call_value l = l.frame.now.clock * level l.frame.now.contract.now.funcs + (8 * (goal.size-expressions::call_value l) + 4)

abbrev pub decreases-expressions::optional_value : goal.decreases-expressions::optional_value
decreases-expressions::optional_value l = l.frame.now.clock * level l.frame.now.contract.now.funcs + (8 * (optional_depth l.e.now) + 3)

abbrev pub decreases-statements::two_values : goal.decreases-statements::two_values
decreases-statements::two_values l = l.frame.now.clock * level l.frame.now.contract.now.funcs + (8 * (size-Expr l.e.now) + 3)

abbrev pub decreases-statements::updated : goal.decreases-statements::updated
decreases-statements::updated l = l.frame.now.clock * level l.frame.now.contract.now.funcs + (8 * (size-Expr l.e.now) + 4)

abbrev pub decreases-statements::assigned_value : goal.decreases-statements::assigned_value
decreases-statements::assigned_value l = l.frame.now.clock * level l.frame.now.contract.now.funcs + (8 * (size-Expr l.e.now) + 5)

abbrev pub decreases-statements::assign : goal.decreases-statements::assign
decreases-statements::assign l = l.frame.now.clock * level l.frame.now.contract.now.funcs + (8 * (size-Expr l.e.now) + 6)

abbrev pub decreases-statements::effect_done : goal.decreases-statements::effect_done
decreases-statements::effect_done l = l.frame.now.clock * level l.frame.now.contract.now.funcs + (8 * (size-Expr l.e.now) + 3)

abbrev pub decreases-statements::assert_done : goal.decreases-statements::assert_done
decreases-statements::assert_done l = l.frame.now.clock * level l.frame.now.contract.now.funcs + (8 * (size-Expr l.e.now) + 3)

abbrev pub decreases-statements::return_done : goal.decreases-statements::return_done
decreases-statements::return_done l = l.frame.now.clock * level l.frame.now.contract.now.funcs + (8 * (optional_depth l.e.now) + 4)

abbrev pub decreases-statements::arms_done : goal.decreases-statements::arms_done
decreases-statements::arms_done l = l.frame.now.clock * level l.frame.now.contract.now.funcs + (8 * (max (arms_depth l.arms.now) (body_depth l.rest.now)) + 6)

abbrev pub decreases-statements::if_done : goal.decreases-statements::if_done
decreases-statements::if_done l = l.frame.now.clock * level l.frame.now.contract.now.funcs + (8 * (max (arms_depth l.arms.now) (body_depth l.rest.now)) + 7)

abbrev pub decreases-loops::turn : goal.decreases-loops::turn
decreases-loops::turn l = l.frame.now.clock * level l.frame.now.contract.now.funcs + (8 * (body_depth l.body.now) + 6)

abbrev pub decreases-loops::while_turns : goal.decreases-loops::while_turns
decreases-loops::while_turns l = l.frame.now.clock * level l.frame.now.contract.now.funcs + (8 * (max (size-Expr l.c.now) (body_depth l.body.now)) + 7)

abbrev pub decreases-loops::while_done : goal.decreases-loops::while_done
decreases-loops::while_done l = l.frame.now.clock * level l.frame.now.contract.now.funcs + (8 * (max (size-Expr l.c.now) (body_depth l.body.now) + 1) + 0)

abbrev pub decreases-loops::range_turns : goal.decreases-loops::range_turns
decreases-loops::range_turns l = l.frame.now.clock * level l.frame.now.contract.now.funcs + (8 * (body_depth l.body.now) + 7)

abbrev pub decreases-loops::range_done : goal.decreases-loops::range_done
decreases-loops::range_done l = l.frame.now.clock * level l.frame.now.contract.now.funcs + (8 * (max (max (optional_depth l.start.now) (size-Expr l.stop.now)) (body_depth l.body.now) + 1) + 1)

abbrev pub decreases-loops::byte_turns : goal.decreases-loops::byte_turns
decreases-loops::byte_turns l = l.frame.now.clock * level l.frame.now.contract.now.funcs + (8 * (body_depth l.body.now) + 7)

abbrev pub decreases-loops::item_turns : goal.decreases-loops::item_turns
decreases-loops::item_turns l = l.frame.now.clock * level l.frame.now.contract.now.funcs + (8 * (body_depth l.body.now + 1) + 0)

abbrev pub decreases-loops::each_item : goal.decreases-loops::each_item
decreases-loops::each_item l = l.frame.now.clock * level l.frame.now.contract.now.funcs + (8 * (max (size-Expr l.e.now) (body_depth l.body.now) + 1) + 1)

abbrev pub decreases-loops::each_done : goal.decreases-loops::each_done
decreases-loops::each_done l = l.frame.now.clock * level l.frame.now.contract.now.funcs + (8 * (max (size-Expr l.e.now) (body_depth l.body.now) + 1) + 2)

abbrev pub decreases-statements::picked : goal.decreases-statements::picked
decreases-statements::picked l = l.frame.now.clock * level l.frame.now.contract.now.funcs + (8 * (max (picks_depth l.picks.now) (body_depth l.rest.now)) + 6)

abbrev pub decreases-statements::match_done : goal.decreases-statements::match_done
decreases-statements::match_done l = l.frame.now.clock * level l.frame.now.contract.now.funcs + (8 * (max (size-Expr l.e.now) (max (picks_depth l.picks.now) (body_depth l.rest.now))) + 7)

abbrev pub decreases-statements::statement : goal.decreases-statements::statement
decreases-statements::statement l = l.frame.now.clock * level l.frame.now.contract.now.funcs + (8 * (stmt_depth l.s.now) + 4)

abbrev pub decreases-statements::body_done : goal.decreases-statements::body_done
decreases-statements::body_done l = l.frame.now.clock * level l.frame.now.contract.now.funcs + (8 * (body_depth l.body.now) + 5)

abbrev pub decreases-calls::function_value : goal.decreases-calls::function_value
decreases-calls::function_value l = l.frame.now.clock * level l.frame.now.contract.now.funcs + (8 * body_depth l.frame.now.func.now.body + 14)

abbrev pub decreases-calls::open_function : goal.decreases-calls::open_function
decreases-calls::open_function l = l.frame.now.clock * level l.frame.now.contract.now.funcs + (8 * body_depth l.frame.now.func.now.body + 15)

abbrev pub decreases-calls::called : goal.decreases-calls::called
decreases-calls::called l = l.clock * level l.contract.now.funcs + 1

-- a level above what it calls, so that it stands below a call one level up
abbrev pub decreases-calls::numbered : goal.decreases-calls::numbered
decreases-calls::numbered l = suc l.clock * level l.contract.now.funcs

abbrev pub invariant-expressions::values-loop-e : goal.invariant-expressions::values-loop-e
invariant-expressions::values-loop-e l =
    values_of (setting_of l.frame) l.line (all_meant l.env) (trees_of l.parts) (world_of l.initial.world)
    ≡ after (values_of (setting_of l.frame) l.line (all_meant l.env) (trees_of (drop l.e-index l.parts)) (world_of l.world)) (behind_these (all_meant l.out))

-- what is left of the arms, and that it is no deeper
abbrev pub invariant-statements::arms_done-loop-left : goal.invariant-statements::arms_done-loop-left
invariant-statements::arms_done-loop-left l =
    (all_do (setting_of l.frame) l.frame.clock (otherwise l.place (variables_of l.frame) l.a (map arm_of l.arms) (map statement_of l.rest)) (all_meant l.initial.env) (world_of l.initial.world)
    ≡ all_do (setting_of l.frame) l.frame.clock (otherwise l.place (variables_of l.frame) l.a (map arm_of l.left) (map statement_of l.rest)) (all_meant l.env) (world_of l.world))
    × (arms_depth l.left ≤ arms_depth l.arms)

abbrev pub decreases-statements::arms_done-loop-left : goal.decreases-statements::arms_done-loop-left
decreases-statements::arms_done-loop-left l = length l.left

abbrev pub invariant-statements::body_done-loop-s : goal.invariant-statements::body_done-loop-s
invariant-statements::body_done-loop-s l =
    (all_do (setting_of l.frame) l.frame.clock (all_plain (variables_of l.frame) l.a (map statement_of l.body)) (all_meant l.initial.env) (world_of l.initial.world)
    ≡ all_do (setting_of l.frame) l.frame.clock (all_plain (variables_of l.frame) l.a (map statement_of (drop l.s-index l.body))) (all_meant l.env) (world_of l.world))
    × (body_depth (drop l.s-index l.body) ≤ body_depth l.body)

-- what is left of the picks, and that it is no deeper
abbrev pub invariant-statements::picked-loop-left : goal.invariant-statements::picked-loop-left
invariant-statements::picked-loop-left l =
    (picked (setting_of l.frame) l.frame.clock (meant l.v) (picks_plain (variables_of l.frame) l.a (map pick_of l.picks)) (all_do (setting_of l.frame) l.frame.clock (all_plain (variables_of l.frame) l.a (map statement_of l.rest)) (all_meant l.initial.env)) (all_meant l.initial.env) (world_of l.initial.world)
    ≡ picked (setting_of l.frame) l.frame.clock (meant l.v) (picks_plain (variables_of l.frame) l.a (map pick_of l.left)) (all_do (setting_of l.frame) l.frame.clock (all_plain (variables_of l.frame) l.a (map statement_of l.rest)) (all_meant l.env)) (all_meant l.env) (world_of l.world))
    × (picks_depth l.left ≤ picks_depth l.picks)

abbrev pub decreases-statements::picked-loop-left : goal.decreases-statements::picked-loop-left
decreases-statements::picked-loop-left l = length l.left

abbrev pub invariant-loops::while_turns-loop-condition : goal.invariant-loops::while_turns-loop-condition
invariant-loops::while_turns-loop-condition l =
    turns (suc l.frame.clock) l.price (turn_while (λ variables. value_of (setting_of l.frame) l.line variables (tree_of l.c))) (all_do (setting_of l.frame) l.frame.clock (all_plain (variables_of l.frame) l.inner (map statement_of l.body))) tt (all_meant l.initial.env) (world_of l.initial.world)
    ≡ turns (suc l.left) l.price (turn_while (λ variables. value_of (setting_of l.frame) l.line variables (tree_of l.c))) (all_do (setting_of l.frame) l.frame.clock (all_plain (variables_of l.frame) l.inner (map statement_of l.body))) tt (all_meant l.env) (world_of l.world)

abbrev pub decreases-loops::while_turns-loop-condition : goal.decreases-loops::while_turns-loop-condition
decreases-loops::while_turns-loop-condition l = l.left

abbrev pub invariant-loops::range_turns-loop-item : goal.invariant-loops::range_turns-loop-item
invariant-loops::range_turns-loop-item l =
    turns (suc l.frame.clock) l.price (turn_of_range l.items.x l.items.step l.stop) (all_do (setting_of l.frame) l.frame.clock (all_plain (variables_of l.frame) l.inner (map statement_of l.body))) l.items.from (all_meant l.initial.env) (world_of l.initial.world)
    ≡ turns (suc l.left) l.price (turn_of_range l.items.x l.items.step l.stop) (all_do (setting_of l.frame) l.frame.clock (all_plain (variables_of l.frame) l.inner (map statement_of l.body))) l.item (all_meant l.env) (world_of l.world)

abbrev pub decreases-loops::range_turns-loop-item : goal.decreases-loops::range_turns-loop-item
decreases-loops::range_turns-loop-item l = l.left

abbrev pub invariant-loops::byte_turns-loop-items : goal.invariant-loops::byte_turns-loop-items
invariant-loops::byte_turns-loop-items l =
    turns (suc l.frame.clock) l.price (turn_of_items l.x) (all_do (setting_of l.frame) l.frame.clock (all_plain (variables_of l.frame) l.inner (map statement_of l.body))) (items_of (string l.bytes)) (all_meant l.initial.env) (world_of l.initial.world)
    ≡ turns (suc l.left) l.price (turn_of_items l.x) (all_do (setting_of l.frame) l.frame.clock (all_plain (variables_of l.frame) l.inner (map statement_of l.body))) (items_of (string l.items)) (all_meant l.env) (world_of l.world)

abbrev pub decreases-loops::byte_turns-loop-items : goal.decreases-loops::byte_turns-loop-items
decreases-loops::byte_turns-loop-items l = length l.items
