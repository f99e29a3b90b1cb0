use Rattle.std.proofs.Common.{sym}
use Rattle.meaning_rules.proofs.Equalities.{scalar_of-Scalar, scalar_of-Nothing, scalar_of-Tuple}
use Rattle.meaning_rules.proofs.types.scalar_of.Goals as goal

pub returns-in-Scalar : goal.returns-in-Scalar
returns-in-Scalar c = sym (scalar_of-Scalar c.args.ty.now _ c.in-Scalar.is)

pub returns-in-Nothing : goal.returns-in-Nothing
returns-in-Nothing c = sym (scalar_of-Nothing c.args.ty.now c.in-Nothing.is)

pub returns-in-Tuple : goal.returns-in-Tuple
returns-in-Tuple c = sym (scalar_of-Tuple c.args.ty.now _ c.in-Tuple.is)
