use Rattle.typing_laws.proofs.Contracts.{checked_sound}
use Rattle.typing_laws.proofs.sound.checked_contracts_are_sound.Goals as goal

pub returns : goal.returns
returns c = checked_sound
