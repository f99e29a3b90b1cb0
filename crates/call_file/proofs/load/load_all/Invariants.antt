use Rattle.std.proofs.Common.{◌≡◌, drop, map}
use Rattle.serde_json.specs.View.{view}
use Rattle.call_file.specs.Loads.{load}
use Rattle.call_file.proofs.load.load_all.Given as goal

abbrev pub invariant-loop-item : goal.invariant-loop-item
invariant-loop-item g l = load (g.P.Part.puts l.part) l.fn.ledger (map view l.items) ≡ load (g.P.Part.puts l.part) l.ledger (map view (drop l.item-index l.items))
