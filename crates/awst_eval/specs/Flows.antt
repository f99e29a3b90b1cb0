-- How statements leave off, as the definitions have it.
use Rattle.std.specs.Prelude.{List, Option, Some, None}
use Rattle.awst.specs.Values.{Val}
use Rattle.awst.specs.Meaning as meaning
use Rattle.awst_eval.specs.declared.flow.Flow.{Flow}
use Rattle.awst_eval.specs.declared.flow.Flow.TheVariants as flow
use Rattle.awst_eval.specs.Shown.{meant}

-- with the variables as they are then
abbrev pub flow_of : List Val → Flow → meaning.Flow
flow_of env flow.On = meaning.On env
flow_of env (flow.Back v) = meaning.Back (meant v)
flow_of env flow.Broke = meaning.Broke env
flow_of env flow.Continued = meaning.Continued env

-- how a loop ends by how a turn of it left off, or none where its next turn follows
abbrev pub ended_by : Flow → Option Flow
ended_by flow.On = None
ended_by (flow.Back v) = Some (flow.Back v)
ended_by flow.Broke = Some flow.On
ended_by flow.Continued = None
