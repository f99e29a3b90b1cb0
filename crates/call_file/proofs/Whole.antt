-- The whole file.
use Rattle.std.proofs.Common.{ℕ, ◌≡◌, Bool, true, false, cond, List, Some, None, Result, Ok, Err, IfOk, is_some, refl, ap, ◌∙◌}
use Rattle.std.specs.Str.{IsUtf8, is_utf8}
use Rattle.std.proofs.lemmas.Str.{IsUtf8-from_is_utf8, is_utf8-from_IsUtf8}
use Rattle.serde_json.specs.Data.{Data}
use Rattle.serde_json.specs.Read.{read}
use Rattle.serde_json.specs.Find.{as_object}
use Rattle.avm_state.specs.Forms.{IsCallInForm, IsStarting}
use Rattle.call_file.specs.declared.fault.CallFault.{CallFault}
use Rattle.call_file.specs.declared.fault.CallFault.TheVariants.{Json}
use Rattle.call_file.specs.declared.saved.Saved.{Saved}
use Rattle.call_file.specs.Faults.{Answers}
use Rattle.call_file.specs.Saved.{contract_of, call_of, ledger_of, fields_of, value_of, of_value, saved_of}
use Rattle.call_file.proofs.Answering.{Holds, then_holds, answered}
use Rattle.call_file.proofs.InForm.{call_holds}
use Rattle.call_file.proofs.Starts.{ledger_holds}

any : {A : Type 0} (r : Result A CallFault) → Holds (λ (a : A). Unit {0}) r
any (Ok a) = tt
any (Err fault) = tt

-- a call in form, and a starting ledger
pub record IsReady (saved : Saved) : Type 0 where
  pub call : IsCallInForm saved.call
  pub ledger : IsStarting saved.ledger

fields_hold : (named : Bool) (d : Data) → Holds IsReady (fields_of named d)
fields_hold named d =
    then_holds (λ _. Unit {0}) _ IsReady (contract_of named d) (any (contract_of named d))
    (λ contract _. then_holds IsCallInForm _ IsReady (call_of d) (call_holds d)
    (λ call first. then_holds IsStarting _ IsReady (ledger_of d) (ledger_holds d)
    (λ ledger second. record { call = first; ledger = second })))

pub ready : (named : Bool) (d : Data) (r : Result Saved CallFault) → Answers (fields_of named d) r → IfOk r IsReady
ready named d r e = answered IsReady (fields_of named d) r (fields_hold named d) e

pub call_ready : (r : Result Saved CallFault) → IfOk r IsReady → IfOk r (λ saved. IsCallInForm saved.call)
call_ready (Ok saved) h = h.call
call_ready (Err fault) h = tt

pub ledger_ready : (r : Result Saved CallFault) → IfOk r IsReady → IfOk r (λ saved. IsStarting saved.ledger)
ledger_ready (Ok saved) h = h.ledger
ledger_ready (Err fault) h = tt

valued : (text : List ℕ) (d : Data) → IsUtf8 text → read text ≡ Some d → value_of text ≡ Some d
valued text d u e = ap (λ (b : Bool). cond b (read text) None) (is_utf8-from_IsUtf8 text u) ∙ e

pub of_object : (named : Bool) (text : List ℕ) (d : Data) → IsUtf8 text → read text ≡ Some d → is_some (as_object d) ≡ true → saved_of named text ≡ fields_of named d
unfolding saved_of
of_object named text d u e o = ap (of_value named) (valued text d u e) ∙ ap (λ (b : Bool). cond b (fields_of named d) (Err Json)) o

pub of_other : (named : Bool) (text : List ℕ) (d : Data) → IsUtf8 text → read text ≡ Some d → is_some (as_object d) ≡ false → saved_of named text ≡ Err Json
unfolding saved_of
of_other named text d u e o = ap (of_value named) (valued text d u e) ∙ ap (λ (b : Bool). cond b (fields_of named d) (Err Json)) o

pub of_nothing : (named : Bool) (text : List ℕ) → (IsUtf8 text → read text ≡ None) → saved_of named text ≡ Err Json
unfolding saved_of
of_nothing named text h = ap (of_value named) (by_test (is_utf8 text) refl)
  where
    by_test : (b : Bool) → is_utf8 text ≡ b → cond b (read text) None ≡ None
    by_test true t = h (IsUtf8-from_is_utf8 text t)
    by_test false t = refl
