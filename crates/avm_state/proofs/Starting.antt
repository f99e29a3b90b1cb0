-- What a call file sets keeps a ledger in form, and logs nothing.
use Rattle.std.proofs.Common.{ℕ, ◌≡◌, ◌≤◌, Bool, true, false, cond, ◌&&◌, List, length, Option, Some, None, Result, Ok, Err, is_some, unwrap_or, IsTrue, nat_le, OnOk, OnErr, refl, sym, ap, subst, ◌∙◌}
use Rattle.std.proofs.lemmas.Cmp.{nat_list_cmp_total}
use Rattle.std.proofs.lemmas.Bool.{leb-true}
use Rattle.std.specs.Prelude.{⊤}
use Rattle.std.specs.Ordering.{is_eq}
use Rattle.std.specs.Cmp.{IsTotalOrder}
use Rattle.std.specs.declared.cmp.Ordering.{Ordering}
use Rattle.std.specs.declared.cmp.Ordering.TheVariants.{Less, Equal, Greater}
use Rattle.std.specs.FinMap as map
use Rattle.puya_base.specs.declared.faults.StepFault.{StepFault}
use Rattle.puya_base.specs.declared.faults.StepFault.TheVariants.{Fails, Memory}
use Rattle.puya_base.specs.declared.value.Value.{Value}
use Rattle.avm_state.specs.Keys.{bytes_cmp, local_cmp}
use Rattle.avm_state.specs.KeyLaws.{bytes_cmp_same, local_cmp_total, local_cmp_same}
use Rattle.avm_state.specs.LedgerState.{LedgerState, has_opted, no_entries}
use Rattle.avm_state.specs.Calls.{is_box_name}
use Rattle.avm_state.specs.Steps.{Step, Steps, where_holds, leaves, is_pair_within, box_limit, with_global, with_local, with_box, with_opted, global_put_step, set_local_step, set_box_step}
use Rattle.avm_state.specs.Forms.{IsStarting}

none_some : {X : Type 0} {P : Type 0} (x : X) → None ≡ Some x → P
none_some x e = cc e

pub no_entries_start : IsStarting no_entries
no_entries_start = record {
  in_form = record {
    global = λ key value is. none_some value (sym (map.get-empty bytes_cmp key) ∙ is);
    local = λ account key value is. none_some value (sym (map.get-empty local_cmp (account, key)) ∙ is);
    opted = λ account key value is. none_some value (sym (map.get-empty local_cmp (account, key)) ∙ is);
    box_names = λ name bytes is. none_some bytes (sym (map.get-empty bytes_cmp name) ∙ is);
    box_sizes = λ name bytes is. none_some bytes (sym (map.get-empty bytes_cmp name) ∙ is);
  };
  no_logs = refl;
}

module _ {K X : Type 0} {R : K → K → Ordering} (o : IsTotalOrder R) (same : map.IsAntisymmetric R) where
  -- what holds of each entry and of a new one holds of each entry with the new one
  insert_keeps : (P : K → X → Type 0) (m : map.FinMap R X) (k : K) (v : X) → ((q : K) (x : X) → map.get m q ≡ Some x → P q x) → P k v → (q : K) (x : X) → map.get (map.insert m k v) q ≡ Some x → P q x
  insert_keeps P m k v all here q x is = by_order (R q k) refl (sym (map.get-insert o m k v q) ∙ is)
    where
      by_order : (r : Ordering) → R q k ≡ r → cond (is_eq r) (Some v) (map.get m q) ≡ Some x → P q x
      by_order Less t e = all q x e
      by_order Equal t e = subst (λ z. P q z) (ap (λ z. unwrap_or z x) e) (subst (λ z. P z v) (sym (same q k t)) here)
      by_order Greater t e = all q x e

-- who had opted in has opted in after one more did
still : (r : Ordering) (x : Option ⊤) → is_some x ≡ true → is_some (cond (is_eq r) (Some tt) x) ≡ true
still Less x e = e
still Equal x e = refl
still Greater x e = e

opted_keeps : (old : LedgerState) (account other : List ℕ) → IsTrue (has_opted old other) → IsTrue (has_opted (with_opted old account) other)
opted_keeps old account other e = ap is_some (map.get-insert nat_list_cmp_total old.opted account tt other) ∙ still (bytes_cmp other account) (map.get old.opted other) e

both : (a b : Bool) → (a && b) ≡ true → (a ≡ true) × (b ≡ true)
both true b e = (refl, e)
both false b e = cc e

-- what a step that leaves a ledger where a test holds has left
left : (b : Bool) (l new : LedgerState) (a : ⊤) → where_holds b (leaves l) ≡ Some (new, a) → (b ≡ true) × (l ≡ new)
left true l new a e = (refl, ap (λ o. (unwrap_or {T = LedgerState × ⊤} o (new, a)).0) e)
left false l new a e = none_some (new, a) e

global_keeps : (old : LedgerState) (key : List ℕ) (value : Value) → IsTrue (is_pair_within key value) → IsStarting old → IsStarting (with_global old key value)
global_keeps old key value h s = record {
  in_form = record {
    global = insert_keeps nat_list_cmp_total bytes_cmp_same (λ k v. IsTrue (is_pair_within k v)) old.global key value s.in_form.global h;
    local = s.in_form.local;
    opted = s.in_form.opted;
    box_names = s.in_form.box_names;
    box_sizes = s.in_form.box_sizes;
  };
  no_logs = s.no_logs;
}

local_keeps : (old : LedgerState) (account key : List ℕ) (value : Value) → IsTrue (has_opted old account) → IsTrue (is_pair_within key value) → IsStarting old → IsStarting (with_local old account key value)
local_keeps old account key value h p s = record {
  in_form = record {
    global = s.in_form.global;
    local = λ a k v is. insert_keeps local_cmp_total local_cmp_same (λ q w. IsTrue (is_pair_within q.1 w)) old.local (account, key) value (λ q x e. s.in_form.local q.0 q.1 x e) p (a, k) v is;
    opted = λ a k v is. insert_keeps local_cmp_total local_cmp_same (λ q w. IsTrue (has_opted old q.0)) old.local (account, key) value (λ q x e. s.in_form.opted q.0 q.1 x e) h (a, k) v is;
    box_names = s.in_form.box_names;
    box_sizes = s.in_form.box_sizes;
  };
  no_logs = s.no_logs;
}

box_keeps : (old : LedgerState) (name bytes : List ℕ) → IsTrue (is_box_name name) → length bytes ≤ box_limit → IsStarting old → IsStarting (with_box old name bytes)
box_keeps old name bytes h p s = record {
  in_form = record {
    global = s.in_form.global;
    local = s.in_form.local;
    opted = s.in_form.opted;
    box_names = insert_keeps nat_list_cmp_total bytes_cmp_same (λ n b. IsTrue (is_box_name n)) old.boxes name bytes s.in_form.box_names h;
    box_sizes = insert_keeps nat_list_cmp_total bytes_cmp_same (λ n b. length b ≤ box_limit) old.boxes name bytes s.in_form.box_sizes p;
  };
  no_logs = s.no_logs;
}

opting_keeps : (old : LedgerState) (account : List ℕ) → IsStarting old → IsStarting (with_opted old account)
opting_keeps old account s = record {
  in_form = record {
    global = s.in_form.global;
    local = s.in_form.local;
    opted = λ a k v is. opted_keeps old account a (s.in_form.opted a k v is);
    box_names = s.in_form.box_names;
    box_sizes = s.in_form.box_sizes;
  };
  no_logs = s.no_logs;
}

-- a step that keeps a starting ledger where it acts keeps it however it ends
keeps : (due : Step ⊤) (old new : LedgerState) (result : Result ⊤ StepFault) → Steps due old new result → IsStarting old → ((a : ⊤) → due ≡ Some (new, a) → IsStarting new) → IsStarting new
keeps due old new (Ok a) w s acts = acts a w
keeps due old new (Err Fails) w s acts = subst IsStarting (sym w.1) s
keeps due old new (Err Memory) w s acts = subst IsStarting (sym w) s

pub global_put_keeps : (old new : LedgerState) (key : List ℕ) (value : Value) (result : Result ⊤ StepFault) → Steps (global_put_step old key value) old new result → IsStarting old → IsStarting new
global_put_keeps old new key value result w s =
    keeps (global_put_step old key value) old new result w s (λ a e.
    let was = left (is_pair_within key value) (with_global old key value) new a e in
    subst IsStarting was.1 (global_keeps old key value was.0 s))

pub set_local_keeps : (old new : LedgerState) (account key : List ℕ) (value : Value) (result : Result ⊤ StepFault) → Steps (set_local_step old account key value) old new result → IsStarting old → IsStarting new
set_local_keeps old new account key value result w s =
    keeps (set_local_step old account key value) old new result w s (λ a e.
    let was = left (has_opted old account && is_pair_within key value) (with_local old account key value) new a e in
    let parts = both (has_opted old account) (is_pair_within key value) was.0 in
    subst IsStarting was.1 (local_keeps old account key value parts.0 parts.1 s))

pub set_box_keeps : (old new : LedgerState) (name bytes : List ℕ) (result : Result ⊤ StepFault) → Steps (set_box_step old name bytes) old new result → IsStarting old → IsStarting new
set_box_keeps old new name bytes result w s =
    keeps (set_box_step old name bytes) old new result w s (λ a e.
    let was = left (is_box_name name && nat_le (length bytes) box_limit) (with_box old name bytes) new a e in
    let parts = both (is_box_name name) (nat_le (length bytes) box_limit) was.0 in
    subst IsStarting was.1 (box_keeps old name bytes parts.0 (leb-true (length bytes) box_limit parts.1) s))

pub opt_in_keeps : {E : Type 0} (old new : LedgerState) (account : List ℕ) (result : Result ⊤ E) → OnOk result (new ≡ with_opted old account) → OnErr result (new ≡ old) → IsStarting old → IsStarting new
opt_in_keeps old new account (Ok a) ok err s = subst IsStarting (sym ok) (opting_keeps old account s)
opt_in_keeps old new account (Err e) ok err s = subst IsStarting (sym err) s
