use Rattle.std.proofs.Common.{sym, ap, ◌∙◌}
use Rattle.awst.specs.declared.ty.Ty.TheVariants as awst
use Rattle.source_names.specs.Types.{typed}
use Rattle.meaning_rules.proofs.Equalities.{typed-of_Scalar, typed-of_Nothing, typed-of_Tuple}
use Rattle.meaning_rules.proofs.CopyLaws.{map_more, map_all}
use Rattle.meaning_rules.proofs.types.+typed.Goals as goal

pub tree_type-returns-in-Scalar : goal.tree_type-returns-in-Scalar
tree_type-returns-in-Scalar t c = c.typed_scalar.ensures ∙ sym (typed-of_Scalar c.args.ty.now _ c.in-Scalar.is)

pub tree_type-returns-in-Nothing : goal.tree_type-returns-in-Nothing
tree_type-returns-in-Nothing t c = sym (typed-of_Nothing c.args.ty.now c.in-Nothing.is)

pub tree_type-returns-in_ok-parts-in-Tuple : goal.tree_type-returns-in_ok-parts-in-Tuple
tree_type-returns-in_ok-parts-in-Tuple t c =
    ap awst.Tuple c.in_ok-parts-in-Tuple.ensures ∙ sym (typed-of_Tuple c.args.ty.now _ c.as_slice.result.now c.in-Tuple.is c.as_slice.ensures)

pub tree_types-loop-ty-preserved : goal.tree_types-loop-ty-preserved
tree_types-loop-ty-preserved t c =
    map_more typed c.args.tys.now c.loop-ty.ty-index c.ty-item.result c.in_ok-one.one c.loop-ty.all c.push.new.self
    c.loop-ty-test.true c.ty-item.is c.in_ok-one.ensures c.loop-ty.invariant c.in_ok-push.ensures.ok

pub tree_types-returns : goal.tree_types-returns
tree_types-returns t c = map_all typed c.args.tys.now c.loop-ty.ty-index c.loop-ty.all c.loop-ty-test.false c.loop-ty.invariant
