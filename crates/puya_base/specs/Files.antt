-- What a store of files holds, and what its calls may answer.
use Rattle.std.specs.Prelude.{◌≡◌, ℕ, ◌<◌, ◌≤◌, List, ◌++◌, length, take, Option, Some, None, Result, Ok, Err, ⊤, ◌⊎◌}
use Rattle.std.specs.Ordering.{nat_cmp}
use Rattle.std.specs.Cmp.Lexicographic.{slice_cmp}
use Rattle.std.specs.FinMap as map
use Rattle.puya_base.specs.declared.faults.FileFault.{FileFault}
use Rattle.puya_base.specs.declared.faults.FileFault.TheVariants.{Missing, TooLong, Failed, Memory}
use Rattle.puya_base.specs.declared.faults.SinkFault.{SinkFault}
use Rattle.puya_base.specs.declared.faults.SinkFault.TheVariants as sink
use Rattle.puya_base.specs.Causes.{Rose}

-- a finite map from names to bytes
abbrev pub Held : Type 0
Held = map.FinMap (slice_cmp nat_cmp) (List ℕ)

-- the length of the longest file that is read
abbrev pub max_length : ℕ
max_length = 1048576

-- the bytes are the front of others
abbrev pub IsFront : List ℕ → List ℕ → Type 0
IsFront part whole = take (length part) whole ≡ part

-- what a read answers, where the file is held so
abbrev pub ReadGives : Option (List ℕ) → Result ⊤ FileFault → List ℕ → Type 0
ReadGives held (Ok u) into = held ≡ Some into
ReadGives (Some bytes) (Err Missing) into = ⊥
ReadGives None (Err Missing) into = Unit {0}
ReadGives (Some bytes) (Err TooLong) into = max_length < length bytes
ReadGives None (Err TooLong) into = ⊥
ReadGives (Some bytes) (Err Failed) into = length bytes ≤ max_length
ReadGives None (Err Failed) into = ⊥
ReadGives held (Err Memory) into = Unit {0}

-- what a write answers and leaves: all the bytes under the name, or after a failure a front of them there or nothing changed
abbrev pub WriteGives : Held → Held → List ℕ → List ℕ → Result ⊤ FileFault → Type 0
WriteGives old new name bytes (Ok u) = new ≡ map.insert old name bytes
WriteGives old new name bytes (Err Missing) = ⊥
WriteGives old new name bytes (Err TooLong) = ⊥
WriteGives old new name bytes (Err Failed) = (new ≡ old) ⊎ ((part : List ℕ) × IsFront part bytes × (new ≡ map.insert old name part))
WriteGives old new name bytes (Err Memory) = new ≡ old

-- both tell what they hold, and these meet the relation, or neither tells
abbrev pub Told : Option Held → Option Held → (Held → Held → Type 0) → Type 0
Told (Some old) (Some new) R = R old new
Told None None R = Unit {0}
Told None (Some new) R = ⊥
Told (Some old) None R = ⊥

-- a failure comes only where the count rose, and the count never falls
abbrev pub FailsOnlyBy : ℕ → ℕ → Result ⊤ FileFault → Type 0
FailsOnlyBy before now (Ok u) = before ≤ now
FailsOnlyBy before now (Err Missing) = before ≤ now
FailsOnlyBy before now (Err TooLong) = before ≤ now
FailsOnlyBy before now (Err Failed) = (before ≤ now) × Rose before now
FailsOnlyBy before now (Err Memory) = before ≤ now

-- the same of a write, which answers no other refusal
abbrev pub WriteFailsOnlyBy : ℕ → ℕ → Result ⊤ FileFault → Type 0
WriteFailsOnlyBy before now (Ok u) = before ≤ now
WriteFailsOnlyBy before now (Err Missing) = ⊥
WriteFailsOnlyBy before now (Err TooLong) = ⊥
WriteFailsOnlyBy before now (Err Failed) = (before ≤ now) × Rose before now
WriteFailsOnlyBy before now (Err Memory) = before ≤ now

-- what a sink has taken: all the bytes, or after a failure a front of them
abbrev pub PutGives : List ℕ → List ℕ → List ℕ → Result ⊤ SinkFault → Type 0
PutGives old new bytes (Ok u) = new ≡ old ++ bytes
PutGives old new bytes (Err sink.Failed) = (part : List ℕ) × IsFront part bytes × (new ≡ old ++ part)
PutGives old new bytes (Err sink.Memory) = new ≡ old

-- both tell what they have taken, and these meet the relation, or neither tells
abbrev pub ToldBytes : Option (List ℕ) → Option (List ℕ) → (List ℕ → List ℕ → Type 0) → Type 0
ToldBytes (Some old) (Some new) R = R old new
ToldBytes None None R = Unit {0}
ToldBytes None (Some new) R = ⊥
ToldBytes (Some old) None R = ⊥

-- the same of a sink
abbrev pub PutFailsOnlyBy : ℕ → ℕ → Result ⊤ SinkFault → Type 0
PutFailsOnlyBy before now (Ok u) = before ≤ now
PutFailsOnlyBy before now (Err sink.Failed) = (before ≤ now) × Rose before now
PutFailsOnlyBy before now (Err sink.Memory) = before ≤ now
