use Rattle.typing_laws.proofs.KnownModules.{unbroken_typed}
use Rattle.typing_laws.proofs.typed.unbroken_modules_are_typed.Goals as goal

pub returns : goal.returns
returns c = unbroken_typed
