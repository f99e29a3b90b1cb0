use Rattle.std.proofs.Common.{◌≡◌, ◌++◌, drop, map, option_map}
use Rattle.serde_json.specs.View.{view}
use Rattle.call_file.specs.Forms.{bytes_within, each}
use Rattle.call_file.proofs.lists.read_texts.Given as goal

abbrev pub invariant-loop-item : goal.invariant-loop-item
invariant-loop-item l = each (bytes_within l.low l.high) (map view l.items) ≡ option_map (λ rest. l.list ++ rest) (each (bytes_within l.low l.high) (map view (drop l.item-index l.items)))
