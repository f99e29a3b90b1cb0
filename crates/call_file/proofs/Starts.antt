-- What the fields give is a starting ledger.
use Rattle.std.proofs.Common.{ℕ, ◌≡◌, Bool, true, false, cond, ◌&&◌, List, [], ◌∷◌, Option, Some, None, option_map, Ok, refl, ap, subst}
use Rattle.std.specs.Prelude.{option_and_then, codes}
use Rattle.serde_json.specs.Data.{Data}
use Rattle.puya_base.specs.declared.faults.StepFault.{StepFault}
use Rattle.avm_state.specs.LedgerState.{LedgerState, no_entries}
use Rattle.avm_state.specs.Forms.{IsStarting}
use Rattle.avm_state.specs.Steps.{where_holds, leaves, with_global, with_local, with_box, with_opted}
use Rattle.avm_state.proofs.Starting.{no_entries_start, global_put_keeps, set_local_keeps, set_box_keeps, opt_in_keeps}
use Rattle.call_file.specs.Faults.{field}
use Rattle.call_file.specs.Forms.{kept, list_within}
use Rattle.call_file.specs.Loads.{Kind, put_all, may_all_go, loaded, globals, opted, locals, boxes}
use Rattle.call_file.specs.Saved.{ledger_of}
use Rattle.call_file.proofs.Answering.{Gives, Holds, then_holds, field_holds}
use Rattle.call_file.proofs.Loading.{IsKeyed, entered, all_enter, globals_keyed, opted_keyed, locals_keyed, boxes_keyed}

-- an entry that may go keeps a ledger a starting one
abbrev Keeps : {E : Type 0} → Kind E → Type 0
Keeps {E} kind = (l : LedgerState) (e : E) → kind.may_go l e ≡ true → IsStarting l → IsStarting (kind.put l e)

entered_starts : {E : Type 0} (kind : Kind E) → Keeps kind → (l : LedgerState) (es : List E) → IsStarting l → Gives IsStarting (entered kind l es)
entered_starts kind keeps l [] s = s
entered_starts kind keeps l (e ∷ es) s = by_test (kind.may_go l e) refl (λ t. entered_starts kind keeps (kind.put l e) es (keeps l e t s))
  where
    by_test : (b : Bool) → kind.may_go l e ≡ b → (kind.may_go l e ≡ true → Gives IsStarting (entered kind (kind.put l e) es)) → Gives IsStarting (option_and_then (λ m. entered kind m es) (cond b (Some (kind.put l e)) None))
    by_test true t more = more t
    by_test false t more = tt

loaded_starts : {E : Type 0} (kind : Kind E) → IsKeyed kind → Keeps kind → (most : ℕ) (l : LedgerState) → IsStarting l → (d : Data) → Gives IsStarting (loaded most kind l d)
loaded_starts {E} kind keyed keeps most l s d = by_entries (list_within most kind.reads d)
  where
    by_test : (b : Bool) (es : List E) → Gives IsStarting (cond b (Some (put_all kind.put l es)) None) → Gives IsStarting (option_map (put_all kind.put l) (cond b (Some es) None))
    by_test true es g = g
    by_test false es g = tt

    by_entries : (o : Option (List E)) → Gives IsStarting (option_map (put_all kind.put l) (kept (may_all_go kind l) o))
    by_entries None = tt
    by_entries (Some es) = by_test (may_all_go kind l es) es (subst (Gives IsStarting) (all_enter kind keyed l es) (entered_starts kind keeps l es s))

second_true : (a b : Bool) → (a && b) ≡ true → b ≡ true
second_true true b e = e
second_true false b e = cc e

acts : (b : Bool) (l : LedgerState) → b ≡ true → where_holds b (leaves l) ≡ Some (l, tt)
acts b l e = ap (λ (x : Bool). where_holds x (leaves l)) e

globals_keep : Keeps globals
globals_keep l e t s = global_put_keeps l (with_global l e.0 e.1) e.0 e.1 (Ok tt) (acts _ _ (second_true _ _ t)) s

opted_keep : Keeps opted
opted_keep l e t s = opt_in_keeps {E = StepFault} l (with_opted l e) e (Ok tt) refl tt s

locals_keep : Keeps locals
locals_keep l e t s = set_local_keeps l (with_local l e.0 e.1.0 e.1.1) e.0 e.1.0 e.1.1 (Ok tt) (acts _ _ (second_true _ _ t)) s

boxes_keep : Keeps boxes
boxes_keep l e t s = set_box_keeps l (with_box l e.0 e.1) e.0 e.1 (Ok tt) (acts _ _ (second_true _ _ t)) s

pub ledger_holds : (d : Data) → Holds IsStarting (ledger_of d)
ledger_holds d =
    then_holds IsStarting _ IsStarting (field (codes "global") (loaded 64 globals no_entries) d) (field_holds IsStarting (codes "global") (loaded 64 globals no_entries) d (loaded_starts globals globals_keyed globals_keep 64 no_entries no_entries_start))
    (λ first a. then_holds IsStarting _ IsStarting (field (codes "opted") (loaded 16 opted first) d) (field_holds IsStarting (codes "opted") (loaded 16 opted first) d (loaded_starts opted opted_keyed opted_keep 16 first a))
    (λ second b. then_holds IsStarting _ IsStarting (field (codes "local") (loaded 256 locals second) d) (field_holds IsStarting (codes "local") (loaded 256 locals second) d (loaded_starts locals locals_keyed locals_keep 256 second b))
    (λ third c. field_holds IsStarting (codes "box") (loaded 64 boxes third) d (loaded_starts boxes boxes_keyed boxes_keep 64 third c))))
