-- What a head told, as plain data.
use Rattle.std.specs.Prelude.{Bool, List, map, ◌++◌, Result, Ok}
use Rattle.arc4_types.specs.declared.abi.Abi.{Abi}
use Rattle.arc4_types.specs.declared.abi_fault.AbiFault.{AbiFault}
use Rattle.arc4_types.specs.declared.entry.Entry.{Entry}
use Rattle.arc4_types.specs.declared.entry.Entry.TheVariants as entry
use Rattle.arc4_types.specs.Types.{type_of}
use Rattle.arc4_types.specs.Values.{Val, value_of}
use Rattle.arc4_types.specs.Reading.{◌>>=◌, Reads, Told, told, waits, flags_told, reading}

abbrev pub told_of : Entry → Told
told_of (entry.Told v) = told (value_of v)
told_of (entry.Waits offset) = waits offset

abbrev pub all_told : List Entry → List Told
all_told es = map told_of es

-- the bools that were read, behind what was told before
abbrev pub flags_behind : List Told → Result (List Bool) AbiFault → Result (List Told) AbiFault
flags_behind front flags = flags >>= λ bs. Ok (front ++ flags_told bs)

-- the readers of types
abbrev pub readers : List Abi → List (Reads Val)
readers ts = map (λ t. reading (type_of t)) ts
