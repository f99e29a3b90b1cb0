use Rattle.std.proofs.Common.{subst, sym, refl}
use Rattle.compiler.specs.Programs.{Serves, IsClear}
use Rattle.compiler.proofs.Serving.{serves}
use Rattle.compiler.proofs.Clearing.{clears}
use Rattle.compiler.proofs.compiling.built_of.Goals as goal

pub returns : goal.returns
returns c = record {
  name = c.in_ok-new.ensures;
  approval = subst (Serves c.args.sum) (sym c.in_ok-built.ensures) (serves c.args.sum c.requires.left c.requires.right);
  clear = subst IsClear (sym c.in_ok-clear_built.ensures) clears;
  description = refl;
}
