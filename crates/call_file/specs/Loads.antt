-- The entries of a list go into a ledger (AVM specification, "Accessing Application State", "Boxes").
use Rattle.std.specs.Prelude.{ℕ, Bool, true, if◌then◌else◌, ◌&&◌, not, nat_le, List, [], ◌∷◌, length, Option, Some, None, option_map, option_and_then}
use Rattle.std.specs.List.{list_all}
use Rattle.std.specs.Ordering.{eq_by_cmp}
use Rattle.std.specs.FinMap as map
use Rattle.serde_json.specs.Data.{Data}
use Rattle.puya_base.specs.declared.value.Value.{Value}
use Rattle.avm_state.specs.Keys.{bytes_cmp, local_cmp}
use Rattle.avm_state.specs.LedgerState.{LedgerState, has_opted}
use Rattle.avm_state.specs.Calls.{is_box_name}
use Rattle.avm_state.specs.Steps.{is_pair_within, box_limit, with_global, with_local, with_box, with_opted}
use Rattle.call_file.specs.Forms.{kept, items_within, list_within, address, global_entry, local_entry, box_entry}

-- no two of them are the same
abbrev pub are_distinct : {E : Type 0} → (E → E → Bool) → List E → Bool
are_distinct same [] = true
are_distinct same (e ∷ es) = list_all (λ f. not (same f e)) es && are_distinct same es

-- all of them put in
abbrev pub put_all : {E : Type 0} → (LedgerState → E → LedgerState) → LedgerState → List E → LedgerState
put_all put ledger [] = ledger
put_all put ledger (e ∷ es) = put_all put (put ledger e) es

-- a kind of entry: how it is written, which may go into a ledger (its key is not there, and it is within the limits of what stands there),
-- which two are under one key, and the ledger with one more
pub record Kind (E : Type 0) : Type 0 where
  pub reads : Data → Option E
  pub may_go : LedgerState → E → Bool
  pub same : E → E → Bool
  pub put : LedgerState → E → LedgerState

-- the entries may go into the ledger, and no two of them are under one key
abbrev pub may_all_go : {E : Type 0} → Kind E → LedgerState → List E → Bool
may_all_go kind ledger es = list_all (kind.may_go ledger) es && are_distinct kind.same es

-- the ledger with the entries of a list of at most so many
abbrev pub loaded : {E : Type 0} → ℕ → Kind E → LedgerState → Data → Option LedgerState
loaded most kind ledger d = option_map (put_all kind.put ledger) (kept (may_all_go kind ledger) (list_within most kind.reads d))

abbrev pub globals : Kind (List ℕ × Value)
globals = record {
  reads = global_entry;
  may_go = λ ledger e. not (map.contains_key ledger.global e.0) && is_pair_within e.0 e.1;
  same = λ e f. eq_by_cmp bytes_cmp e.0 f.0;
  put = λ ledger e. with_global ledger e.0 e.1;
}

abbrev pub opted : Kind (List ℕ)
opted = record {
  reads = address;
  may_go = λ ledger account. not (map.contains_key ledger.opted account);
  same = eq_by_cmp bytes_cmp;
  put = with_opted;
}

-- the account must have opted in
abbrev pub locals : Kind (List ℕ × (List ℕ × Value))
locals = record {
  reads = local_entry;
  may_go = λ ledger e. not (map.contains_key ledger.local (e.0, e.1.0)) && (has_opted ledger e.0 && is_pair_within e.1.0 e.1.1);
  same = λ e f. eq_by_cmp local_cmp (e.0, e.1.0) (f.0, f.1.0);
  put = λ ledger e. with_local ledger e.0 e.1.0 e.1.1;
}

abbrev pub boxes : Kind (List ℕ × List ℕ)
boxes = record {
  reads = box_entry;
  may_go = λ ledger e. not (map.contains_key ledger.boxes e.0) && (is_box_name e.0 && nat_le (length e.1) box_limit);
  same = λ e f. eq_by_cmp bytes_cmp e.0 f.0;
  put = λ ledger e. with_box ledger e.0 e.1;
}

-- How the code goes about it, entry after entry; `loads` in proofs/Loading shows that this is `loaded`.

-- one more of its kind, where it may go
abbrev pub put_new : {E : Type 0} → Kind E → LedgerState → E → Option LedgerState
put_new kind ledger e = if kind.may_go ledger e then Some (kind.put ledger e) else None

-- the same of one that is still to be read
abbrev pub puts : {E : Type 0} → Kind E → LedgerState → Data → Option LedgerState
puts kind ledger d = option_and_then (put_new kind ledger) (kind.reads d)

-- one after another
abbrev pub load : (LedgerState → Data → Option LedgerState) → LedgerState → List Data → Option LedgerState
load put ledger [] = Some ledger
load put ledger (d ∷ ds) = option_and_then (λ l. load put l ds) (put ledger d)

abbrev pub load_within : ℕ → (LedgerState → Data → Option LedgerState) → LedgerState → Data → Option LedgerState
load_within most put ledger d = option_and_then (load put ledger) (items_within most d)
