-- What the files and the sink in memory hold.
use Rattle.std.specs.Prelude.{ℕ, ◌/◌, ◌++◌, ◌≡◌, List, length, refl, take, Result, Ok, Err, ⊤}
use Rattle.std.specs.FinMap as map
use Rattle.std.specs.Coded.{Coded, code_by, coded×, coded_ℕ, coded_list}
use Rattle.puya_base.specs.Files.{Held}
use Rattle.puya_base.specs.Calls.{Calls, calls_code}
use Rattle.puya_base.specs.declared.faults.FileFault.{FileFault}
use Rattle.puya_base.specs.declared.faults.FileFault.TheVariants as file
use Rattle.puya_base.specs.declared.faults.SinkFault.{SinkFault}
use Rattle.puya_base.specs.declared.faults.SinkFault.TheVariants as sink

-- files in memory: the bytes under each name, and the calls so far
pub record Stored : Type 0 where
  pub held : Held
  pub calls : Calls

-- stored as the pair of its parts
abbrev pub stored_code : Coded Stored
stored_code =
    code_by (Held × Calls) (coded× (map.code (coded_list coded_ℕ) (coded_list coded_ℕ)) calls_code) (λ s. (s.held, s.calls))
    (λ p. record { held = p.0; calls = p.1 }) (λ _. refl)

-- a sink in memory: the bytes that it has taken, and the calls so far
pub record Taken : Type 0 where
  pub bytes : List ℕ
  pub calls : Calls

-- the first half, rounded down
abbrev pub first_half : List ℕ → List ℕ
first_half bytes = take (length bytes / 2) bytes

-- a write that fails leaves the first half of the bytes
abbrev pub WritesInMemory : Held → Held → List ℕ → List ℕ → Result ⊤ FileFault → Type 0
WritesInMemory old new name bytes (Ok u) = new ≡ map.insert old name bytes
WritesInMemory old new name bytes (Err file.Failed) = new ≡ map.insert old name (first_half bytes)
WritesInMemory old new name bytes (Err file.Missing) = new ≡ old
WritesInMemory old new name bytes (Err file.TooLong) = new ≡ old
WritesInMemory old new name bytes (Err file.Memory) = new ≡ old

-- a put that fails takes the first half of the bytes
abbrev pub PutsInMemory : List ℕ → List ℕ → List ℕ → Result ⊤ SinkFault → Type 0
PutsInMemory old new bytes (Ok u) = new ≡ old ++ bytes
PutsInMemory old new bytes (Err sink.Failed) = new ≡ old ++ first_half bytes
PutsInMemory old new bytes (Err sink.Memory) = new ≡ old
