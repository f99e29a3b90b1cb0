use Rattle.std.proofs.Common.{sym}
use Rattle.meaning_rules.proofs.Equalities.{is_nothing-Scalar, is_nothing-Nothing, is_nothing-Tuple}
use Rattle.meaning_rules.proofs.types.is_nothing.Goals as goal

pub returns-in-Scalar : goal.returns-in-Scalar
returns-in-Scalar c = sym (is_nothing-Scalar c.args.ty.now _ c.in-Scalar.is)

pub returns-in-Nothing : goal.returns-in-Nothing
returns-in-Nothing c = sym (is_nothing-Nothing c.args.ty.now c.in-Nothing.is)

pub returns-in-Tuple : goal.returns-in-Tuple
returns-in-Tuple c = sym (is_nothing-Tuple c.args.ty.now _ c.in-Tuple.is)
