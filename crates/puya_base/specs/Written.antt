-- Files as the list of all that was written: the newest under a name counts.
use Rattle.std.specs.Prelude.{List, [], ◌∷◌, reverse}
use Rattle.std.specs.FinMap as map
use Rattle.puya_base.specs.Files.{Held}
use Rattle.puya_base.specs.declared.memory_files.Written.{Written}

-- what is held, from the newest write to the oldest
abbrev pub held_by : List Written → Held
held_by [] = map.empty
held_by (w ∷ ws) = map.insert (held_by ws) w.name w.bytes

abbrev pub held_of : List Written → Held
held_of written = held_by (reverse written)
