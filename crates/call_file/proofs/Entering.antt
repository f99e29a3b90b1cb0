-- What the count of a ledger's entries says of a new entry.
use Rattle.std.proofs.Common.{ℕ, ◌+◌, ◌≡◌, Bool, true, false, cond, ◌&&◌, List, Option, Some, None, refl, sym, ap, ◌∙◌, unwrap_or, arith}
use Rattle.std.specs.Prelude.{⊤, not}
use Rattle.std.specs.FinMap as map
use Rattle.std.proofs.lemmas.Cmp.{nat_list_cmp_total}
use Rattle.puya_base.specs.declared.value.Value.{Value}
use Rattle.avm_state.specs.KeyLaws.{local_cmp_total}
use Rattle.avm_state.specs.LedgerState.{LedgerState}
use Rattle.avm_state.specs.Steps.{where_holds, leaves, global_put_step, set_local_step, set_box_step}
use Rattle.call_file.specs.Loads.{put_new, globals, locals, boxes}

-- what a step that leaves a ledger where a test holds has left
pub left : (b : Bool) (l new : LedgerState) (a : ⊤) → where_holds b (leaves l) ≡ Some (new, a) → (b ≡ true) × (l ≡ new)
left true l new a e = (refl, ap (λ o. (unwrap_or {T = LedgerState × ⊤} o (new, a)).0) e)
left false l new a e = cc e

-- an entry is new exactly where the count grows
pub record Counts (l new : LedgerState) (due : Option LedgerState) (was is : ℕ) : Type 0 where
  pub again : is ≡ was → due ≡ None
  pub grown : (is ≡ was → ⊥) → due ≡ Some new

counts : (had fits : Bool) (l new : LedgerState) (was is : ℕ) → fits ≡ true → l ≡ new → is ≡ cond had was (was + 1) → Counts l new (cond (not had && fits) (Some l) None) was is
counts true fits l new was is f e n = record { again = λ _. refl; grown = λ no. absurd (no n) }
counts false true l new was is f e n = record { again = λ same. absurd (omega arith); grown = λ _. ap Some e }
counts false false l new was is f e n = cc f

pub global_counts : (old new : LedgerState) (key : List ℕ) (value : Value) (a : ⊤) → global_put_step old key value ≡ Some (new, a) → Counts (globals.put old (key, value)) new (put_new globals old (key, value)) (map.len old.global) (map.len new.global)
global_counts old new key value a e =
    let was = left _ _ new a e in
    counts (map.contains_key old.global key) _ _ new _ _ was.0 was.1 (ap (λ (l : LedgerState). map.len l.global) (sym was.1) ∙ map.len-insert nat_list_cmp_total old.global key value)

pub local_counts : (old new : LedgerState) (account key : List ℕ) (value : Value) (a : ⊤) → set_local_step old account key value ≡ Some (new, a) → Counts (locals.put old (account, (key, value))) new (put_new locals old (account, (key, value))) (map.len old.local) (map.len new.local)
local_counts old new account key value a e =
    let was = left _ _ new a e in
    counts (map.contains_key old.local (account, key)) _ _ new _ _ was.0 was.1 (ap (λ (l : LedgerState). map.len l.local) (sym was.1) ∙ map.len-insert local_cmp_total old.local (account, key) value)

pub box_counts : (old new : LedgerState) (name bytes : List ℕ) (a : ⊤) → set_box_step old name bytes ≡ Some (new, a) → Counts (boxes.put old (name, bytes)) new (put_new boxes old (name, bytes)) (map.len old.boxes) (map.len new.boxes)
box_counts old new name bytes a e =
    let was = left _ _ new a e in
    counts (map.contains_key old.boxes name) _ _ new _ _ was.0 was.1 (ap (λ (l : LedgerState). map.len l.boxes) (sym was.1) ∙ map.len-insert nat_list_cmp_total old.boxes name bytes)
