-- What a ledger holds (AVM specification, "Accessing Application State", "Boxes" and "Logging").
use Rattle.std.specs.Prelude.{ℕ, List, [], ◌≡◌, ◌⊎◌, refl, ⊤, Bool}
use Rattle.std.proofs.Common.{inl, inr}
use Rattle.std.specs.Coded.{Coded, code_by, coded×, coded⊎, coded_ℕ, coded_list}
use Rattle.std.specs.FinMap as map
use base.Stored.{coded_unit}
use Rattle.puya_base.specs.declared.value.Value.{Value}
use Rattle.puya_base.specs.declared.value.Value.TheVariants.{Int, Bytes}
use Rattle.avm_state.specs.Keys.{bytes_cmp, local_cmp}

-- a number or bytes, as one of two
abbrev pub parted : Value → ℕ ⊎ List ℕ
parted (Int n) = inl n
parted (Bytes b) = inr b

abbrev pub joined : ℕ ⊎ List ℕ → Value
joined (inl n) = Int n
joined (inr b) = Bytes b

pub joined_parted : (v : Value) → joined (parted v) ≡ v
joined_parted (Int n) = refl
joined_parted (Bytes b) = refl

-- the code by which a proof tells values apart
abbrev pub value_code : Coded Value
value_code = code_by (ℕ ⊎ List ℕ) (coded⊎ coded_ℕ (coded_list coded_ℕ)) parted joined joined_parted

-- byte keys and what stands under each
abbrev pub BytesMap : Type 0 → Type 0
BytesMap X = map.FinMap bytes_cmp X

-- an account's keys and what stands under each
abbrev pub LocalMap : Type 0
LocalMap = map.FinMap local_cmp Value

-- a finite map for the global state, the accounts that opted in, as the keys of a map to nothing, a finite map for the local state and one for the boxes, and the logs, oldest first
pub record LedgerState : Type 0 where
  pub global : BytesMap Value
  pub opted : BytesMap ⊤
  pub local : LocalMap
  pub boxes : BytesMap (List ℕ)
  pub logs : List (List ℕ)

-- the account has opted in
abbrev pub has_opted : LedgerState → List ℕ → Bool
has_opted ledger account = map.contains_key ledger.opted account

-- nothing in it
abbrev pub no_entries : LedgerState
no_entries = record { global = map.empty; opted = map.empty; local = map.empty; boxes = map.empty; logs = [] }

-- stored as the tuple of its parts
abbrev pub ledger_code : Coded LedgerState
ledger_code =
    code_by (BytesMap Value × (BytesMap ⊤ × (LocalMap × (BytesMap (List ℕ) × List (List ℕ)))))
    (coded× (map.code (coded_list coded_ℕ) value_code)
    (coded× (map.code (coded_list coded_ℕ) coded_unit)
    (coded× (map.code (coded× (coded_list coded_ℕ) (coded_list coded_ℕ)) value_code)
    (coded× (map.code (coded_list coded_ℕ) (coded_list coded_ℕ)) (coded_list (coded_list coded_ℕ))))))
    (λ l. (l.global, (l.opted, (l.local, (l.boxes, l.logs)))))
    (λ p. record { global = p.0; opted = p.1.0; local = p.1.1.0; boxes = p.1.1.1.0; logs = p.1.1.1.1 }) (λ _. refl)
