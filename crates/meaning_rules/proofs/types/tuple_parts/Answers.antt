use Rattle.meaning_rules.proofs.Equalities.{tuple_parts-Scalar, tuple_parts-Nothing, tuple_parts-Tuple}
use Rattle.meaning_rules.proofs.types.tuple_parts.Goals as goal

pub returns-in-Scalar : goal.returns-in-Scalar
returns-in-Scalar c = tuple_parts-Scalar c.args.ty.now _ c.in-Scalar.is

pub returns-in-Nothing : goal.returns-in-Nothing
returns-in-Nothing c = tuple_parts-Nothing c.args.ty.now c.in-Nothing.is

pub returns-in-Tuple : goal.returns-in-Tuple
returns-in-Tuple c = tuple_parts-Tuple c.args.ty.now _ c.as_slice.result.now c.in-Tuple.is c.as_slice.ensures
