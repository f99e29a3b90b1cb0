use Rattle.std.proofs.Common.{◌≡◌, ◌≤◌, ◌+◌, ◌*◌, ◌++◌, max, map, drop}
use Rattle.std.specs.Prelude.{◌&&◌}
use Rattle.source_names.specs.Source.{tree_of, exs_of, arg_of, args_of}
use Rattle.meaning_rules.specs.Operations.{types_in, exprs_in}
use Rattle.call_rules.specs.Callees.{meant}
use Rattle.call_rules.specs.Calls.{nothing_used}
use Rattle.expression_check.specs.Expressions as spec
use Rattle.expression_check.specs.Sights.{seen_by}
use Rattle.expression_check.specs.Walking.{behind_when, itself, mapped}
use Rattle.expression_check.proofs.Depths.{tree_depth, trees_depth, arg_depth, args_depth, end_depth}
use Rattle.expression_check.proofs.judging.+judge.Given as goal

abbrev pub decreases-judge : goal.decreases-judge
decreases-judge l = 8 * tree_depth l.tree.now + 1

abbrev pub decreases-judge_operand : goal.decreases-judge_operand
decreases-judge_operand l = 8 * tree_depth l.tree.now + 2

abbrev pub decreases-judge_part : goal.decreases-judge_part
decreases-judge_part l = 8 * tree_depth l.tree.now + 2

abbrev pub decreases-judge_items : goal.decreases-judge_items
decreases-judge_items l = 8 * trees_depth l.items.now + 3

abbrev pub decreases-judge_tuple : goal.decreases-judge_tuple
decreases-judge_tuple l = 8 * trees_depth l.items.now + 3

abbrev pub decreases-judge_listed : goal.decreases-judge_listed
decreases-judge_listed l = 8 * trees_depth l.items.now + 4

abbrev pub decreases-judge_paren : goal.decreases-judge_paren
decreases-judge_paren l = 8 * trees_depth l.items.now + 5

abbrev pub decreases-judge_display : goal.decreases-judge_display
decreases-judge_display l = 8 * trees_depth l.items.now + 4

abbrev pub decreases-judge_member : goal.decreases-judge_member
decreases-judge_member l = 8 * tree_depth l.of.now + 2

abbrev pub decreases-judge_unary : goal.decreases-judge_unary
decreases-judge_unary l = 8 * tree_depth l.of.now + 3

abbrev pub decreases-judge_index : goal.decreases-judge_index
decreases-judge_index l = 8 * max (tree_depth l.of.now) (trees_depth l.items.now) + 5

abbrev pub decreases-judge_end : goal.decreases-judge_end
decreases-judge_end l = 8 * end_depth l.end.now + 3

abbrev pub decreases-judge_slice : goal.decreases-judge_slice
decreases-judge_slice l = 8 * max (tree_depth l.of.now) (max (end_depth l.start.now) (end_depth l.stop.now)) + 4

abbrev pub decreases-judge_argument : goal.decreases-judge_argument
decreases-judge_argument l = 8 * arg_depth l.arg.now + 3

abbrev pub decreases-judge_given : goal.decreases-judge_given
decreases-judge_given l = 8 * tree_depth l.tree.now + 2

abbrev pub decreases-judge_arguments : goal.decreases-judge_arguments
decreases-judge_arguments l = 8 * args_depth l.args.now + 4

abbrev pub decreases-judge_call : goal.decreases-judge_call
decreases-judge_call l = 8 * max (tree_depth l.of.now) (args_depth l.args.now) + 5

abbrev pub decreases-judge_binary : goal.decreases-judge_binary
decreases-judge_binary l = 8 * max (tree_depth l.a.now) (tree_depth l.b.now) + 3

abbrev pub decreases-judge_choose : goal.decreases-judge_choose
decreases-judge_choose l = 8 * max (tree_depth l.a.now) (max (tree_depth l.test.now) (tree_depth l.b.now)) + 3

abbrev pub invariant-judge_tuple-loop-item : goal.invariant-judge_tuple-loop-item
invariant-judge_tuple-loop-item l =
    let s = seen_by l.view in
    let rest = spec.parts s l.context l.i (exs_of (map tree_of (drop l.item-index l.items))) in
    let whole = spec.parts s l.context 0 (exs_of (map tree_of l.items)) in
    record {
      count : l.i ≡ l.item-index;
      deep : trees_depth (drop l.item-index l.items) ≤ trees_depth l.items;
      told : l.into ++ rest.notes ≡ l.fn.into ++ whole.notes;
      types : behind_when types_in l.parts.known l.parts.types rest.typed ≡ mapped types_in whole.typed;
      exprs : behind_when exprs_in l.parts.known l.parts.exprs rest.typed ≡ mapped exprs_in whole.typed;
    }

abbrev pub invariant-judge_items-loop-item : goal.invariant-judge_items-loop-item
invariant-judge_items-loop-item l =
    let s = seen_by l.view in
    let rest = spec.items s (exs_of (map tree_of (drop l.item-index l.items))) in
    let whole = spec.items s (exs_of (map tree_of l.items)) in
    record {
      deep : trees_depth (drop l.item-index l.items) ≤ trees_depth l.items;
      told : l.into ++ rest.notes ≡ l.fn.into ++ whole.notes;
      known : l.known && rest.known ≡ whole.known;
    }

abbrev pub invariant-judge_arguments-loop-arg : goal.invariant-judge_arguments-loop-arg
invariant-judge_arguments-loop-arg l =
    let s = seen_by l.view in
    let c = meant l.view.sight.now.functions l.callee in
    let rest = spec.arguments s c l.i l.bound.used (args_of (map arg_of (drop l.arg-index l.args))) in
    let whole = spec.arguments s c 0 nothing_used (args_of (map arg_of l.args)) in
    record {
      count : l.i ≡ l.arg-index;
      deep : args_depth (drop l.arg-index l.args) ≤ args_depth l.args;
      told : l.into ++ rest.notes ≡ l.fn.into ++ whole.notes;
      known : behind_when itself l.bound.complete l.bound.known.items rest.known ≡ whole.known;
    }
