-- The calls that a file store or a sink in memory has taken.
use Rattle.std.specs.Prelude.{ℕ, ◌+◌, ◌-◌, ◌^◌, ◌≡◌, Bool, true, false, nat_eq, List, min, refl, Result, Ok, Err, ⊤}
use Rattle.std.specs.List.{list_any}
use Rattle.std.specs.Coded.{Coded, code_by, coded×, coded_ℕ, coded_list}
use Rattle.puya_base.specs.declared.faults.FileFault.{FileFault}
use Rattle.puya_base.specs.declared.faults.FileFault.TheVariants as file
use Rattle.puya_base.specs.declared.faults.SinkFault.{SinkFault}
use Rattle.puya_base.specs.declared.faults.SinkFault.TheVariants as sink

-- how many calls came, the numbers of those that are to fail, counted from 1, and how many failed
pub record Calls : Type 0 where
  pub count : ℕ
  pub failing : List ℕ
  pub faults : ℕ

-- stored as the tuple of its parts
abbrev pub calls_code : Coded Calls
calls_code =
    code_by (ℕ × (List ℕ × ℕ)) (coded× coded_ℕ (coded× (coded_list coded_ℕ) coded_ℕ)) (λ c. (c.count, (c.failing, c.faults)))
    (λ p. record { count = p.0; failing = p.1.0; faults = p.1.1 }) (λ _. refl)

-- one more, up to the last value of a counter
abbrev pub one_more : ℕ → ℕ
one_more n = min (n + 1) (2 ^ 64 - 1)

-- the coming call is one of those that are to fail
abbrev pub is_to_fail : Calls → Bool
is_to_fail c = list_any (λ n. nat_eq n (one_more c.count)) c.failing

-- with one call more
abbrev pub counted : Calls → Calls
counted c = record c { count = one_more c.count }

-- with one fault more
abbrev pub raised : Calls → Calls
raised c = record c { faults = one_more c.faults }

-- a call of the files is counted, and fails exactly where it is to: a refusal for what is held, or for memory, may come before that
abbrev pub CountsFileCall : Calls → Calls → Result ⊤ FileFault → Type 0
CountsFileCall old new (Ok u) = (is_to_fail old ≡ false) × (new ≡ counted old)
CountsFileCall old new (Err file.Failed) = (is_to_fail old ≡ true) × (new ≡ raised (counted old))
CountsFileCall old new (Err file.Missing) = new ≡ counted old
CountsFileCall old new (Err file.TooLong) = new ≡ counted old
CountsFileCall old new (Err file.Memory) = new ≡ counted old

-- the same of a call of a sink
abbrev pub CountsSinkCall : Calls → Calls → Result ⊤ SinkFault → Type 0
CountsSinkCall old new (Ok u) = (is_to_fail old ≡ false) × (new ≡ counted old)
CountsSinkCall old new (Err sink.Failed) = (is_to_fail old ≡ true) × (new ≡ raised (counted old))
CountsSinkCall old new (Err sink.Memory) = new ≡ counted old
