-- What a contract prescribes at a bound, as the definitions have it.
use Rattle.std.specs.Prelude.{Option, Some, None}
use Rattle.avm_state.specs.LedgerState.{LedgerState}
use Rattle.runs.specs.Moments as moments
use Rattle.awst_eval.specs.declared.moment.Ending.{Ending}
use Rattle.awst_eval.specs.declared.moment.Ending.TheVariants.{Approved, Rejected, Unfinished}
use Rattle.awst_eval.specs.declared.moment.Moment.{Moment}
use Rattle.awst_eval.specs.Worlds.{seen_of}

abbrev pub outcome_by : Ending → LedgerState → Option moments.Outcome
outcome_by Approved ledger = Some (moments.approved ledger)
outcome_by Rejected ledger = Some moments.rejected
outcome_by Unfinished ledger = None

abbrev pub moment_shown : Moment → moments.Moment
moment_shown m = record { outcome = outcome_by m.ending m.seen.ledger; seen = seen_of m.seen }
