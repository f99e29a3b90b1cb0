use Rattle.std.proofs.Common.{arith}
use Rattle.source_names.proofs.Writing.{parts_at, no_parts, told_next, known_next, types_next, types_end, type_told, type_value}
use Rattle.source_names.specs.Parts.{argument}
use Rattle.std.proofs.Common.{map, drop, ◌+◌}
use Rattle.source_names.proofs.annotations.+written.Goals as goal

pub all_arguments-loop-arg-preserved : goal.all_arguments-loop-arg-preserved
all_arguments-loop-arg-preserved t c =
    let a = argument c.args.names.now c.args.variables.now c.arg-item.result in
    let before = map (argument c.args.names.now c.args.variables.now) (drop c.loop-arg.arg-index c.args.args.now) in
    let rest = map (argument c.args.names.now c.args.variables.now) (drop (c.loop-arg.arg-index + 1) c.args.args.now) in
    let is = parts_at c.args.names.now c.args.variables.now c.args.args.now c.loop-arg.arg-index c.arg-item.result c.arg-item.is (omega (arith, c.loop-arg-test.true, c.loop-arg.auto.arg-index-end)) in
    record {
      told = told_next c.loop-arg.into c.one_argument.new.into _ a before rest is c.in_ok-argument.ensures.told c.loop-arg.invariant.told;
      known = known_next c.loop-arg.arguments.known c.add_argument.new.arguments.known _ a c.in_ok-argument.argument before rest is
          c.in_ok-argument.ensures.value c.in_ok-add_argument.ensures.known c.loop-arg.invariant.known;
      types = types_next c.loop-arg.arguments.typed c.add_argument.new.arguments.typed c.loop-arg.arguments.types c.add_argument.new.arguments.types _ a c.in_ok-argument.argument before rest is
          c.in_ok-argument.ensures.value c.in_ok-add_argument.ensures.typed c.in_ok-add_argument.ensures.types c.loop-arg.invariant.types;
    }

pub all_arguments-returns-clause-types : goal.all_arguments-returns-clause-types
all_arguments-returns-clause-types t c =
    types_end c.loop-arg.arguments.typed c.loop-arg.arguments.types _ _
    (no_parts c.args.names.now c.args.variables.now c.args.args.now c.loop-arg.arg-index (omega (arith, c.loop-arg-test.false, c.loop-arg.auto.arg-index-end)))
    c.loop-arg.invariant.types

pub one_argument-returns-in_ok-of_value-in-Type-clause-told :
    goal.one_argument-returns-in_ok-of_value-in-Type-clause-told
one_argument-returns-in_ok-of_value-in-Type-clause-told t c =
    type_told c.args.names.now c.args.variables.now c.args.into.now c.written.new.into c.of_value.new.into c.args.arg.now c.in-Type.tree
    c.in_ok-annotation-in-Type.annotation.place c.in_ok-annotation-in-Type.annotation.ty
    c.in-Type.is c.in_ok-annotation-in-Type.ensures.told c.in_ok-annotation-in-Type.ensures.place c.in_ok-annotation-in-Type.ensures.ty c.in_ok-of_value-in-Type.ensures.told

pub one_argument-returns-in_ok-of_value-in-Type-clause-value :
    goal.one_argument-returns-in_ok-of_value-in-Type-clause-value
one_argument-returns-in_ok-of_value-in-Type-clause-value t c =
    type_value c.args.names.now c.args.variables.now c.args.arg.now c.in-Type.tree c.in_ok-annotation-in-Type.annotation.ty c.in_ok-of_value-in-Type.field-0.ty c.argument_of.result
    c.in-Type.is c.in_ok-annotation-in-Type.ensures.ty c.in_ok-of_value-in-Type.ensures.ty c.argument_of.ensures
