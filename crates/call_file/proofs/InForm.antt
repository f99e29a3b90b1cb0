-- What the fields give is a call in form.
use Rattle.std.proofs.Common.{ℕ, ◌≡◌, ◌≢◌, ◌≤◌, Bool, true, false, ◌&&◌, List, length, refl, arith}
use Rattle.std.specs.Prelude.{IsTrue, not, nat_le, ◌==◌, codes, option_and_then}
use Rattle.std.proofs.lemmas.Bool.{leb-true}
use Rattle.std.proofs.lemmas.Bool.Decides.{nat_tests}
use Rattle.serde_json.specs.Data.{Data}
use Rattle.serde_json.specs.Find.{as_bool, as_str}
use Rattle.avm_state.specs.Calls.{is_box_name, clear_state}
use Rattle.avm_state.specs.Forms.{IsAddress, IsCallInForm}
use Rattle.avm_state.specs.Steps.{total_length}
use Rattle.call_file.specs.declared.parts.Act.{Act}
use Rattle.call_file.specs.declared.parts.Origin.{Origin}
use Rattle.call_file.specs.declared.parts.Reach.{Reach}
use Rattle.call_file.specs.declared.parts.Setting.{Setting}
use Rattle.call_file.specs.Faults.{field}
use Rattle.call_file.specs.Forms.{number, from_one, number_within, completion, hex_bytes, within_bytes, bytes_within, address, box_name, list_within, arguments}
use Rattle.call_file.specs.Saved.{act_of, origin_of, reach_of, setting_of, call_of}
use Rattle.call_file.proofs.Answering.{Gives, Holds, then_holds, field_holds, any_field, kept_gives, kept_both, AreFew, list_gives}

first_true : (a b : Bool) → (a && b) ≡ true → a ≡ true
first_true true b e = refl
first_true false b e = cc e

second_true : (a b : Bool) → (a && b) ≡ true → b ≡ true
second_true true b e = e
second_true false b e = cc e

pub record IsBetween (low high n : ℕ) : Type 0 where
  pub least : low ≤ n
  pub most : n ≤ high

between : (low high n : ℕ) → (nat_le low n && nat_le n high) ≡ true → IsBetween low high n
between low high n e = record { least = leb-true low n (first_true _ _ e); most = leb-true n high (second_true (nat_le low n) _ e) }

number_gives : (low high : ℕ) (x : Data) → Gives (IsBetween low high) (number_within low high x)
number_gives low high x = kept_gives (IsBetween low high) _ (number x) (between low high)

bytes_gives : (low high : ℕ) (x : Data) → Gives (λ b. IsBetween low high (length b)) (bytes_within low high x)
bytes_gives low high x = kept_gives (λ b. IsBetween low high (length b)) (within_bytes low high) _ (λ b. between low high (length b))

address_gives : (x : Data) → Gives IsAddress (address x)
address_gives x = kept_gives IsAddress (within_bytes 32 32) (option_and_then hex_bytes (as_str x)) (λ b t. let h = between 32 32 (length b) t in let low = h.least in let high = h.most in omega arith)

box_name_gives : (x : Data) → Gives (λ b. IsTrue (is_box_name b)) (box_name x)
box_name_gives x = kept_gives (λ b. IsTrue (is_box_name b)) (within_bytes 1 64) (option_and_then hex_bytes (as_str x)) (λ b t. let h = between 1 64 (length b) t in named b h.least h.most)
  where
    named : (b : List ℕ) → 1 ≤ length b → length b ≤ 64 → is_box_name b ≡ true
    named b low high = grind (arith, nat_tests)

pub record IsCompletion (creating : Bool) (n : ℕ) : Type 0 where
  pub most : n ≤ 5
  pub created : creating ≡ true → n ≢ clear_state

completion_gives : (creating : Bool) (x : Data) → Gives (IsCompletion creating) (completion creating x)
completion_gives creating x = kept_both (IsBetween 0 5) (IsCompletion creating) _ (number_within 0 5 x) (number_gives 0 5 x) (λ n h t. record { most = h.most; created = created creating n t })
  where
    created : (creating : Bool) (n : ℕ) → not (creating && (n == clear_state)) ≡ true → creating ≡ true → n ≢ clear_state
    created true n t c = grind (arith, nat_tests)
    created false n t c = cc c

pub record AreArguments (list : List (List ℕ)) : Type 0 where
  pub count : length list ≤ 16
  pub bytes : total_length list ≤ 2048

arguments_give : (x : Data) → Gives AreArguments (arguments x)
arguments_give x =
    kept_both (AreFew (λ b. IsBetween 0 2048 (length b)) 16) AreArguments _ (list_within 16 (bytes_within 0 2048) x)
    (list_gives (λ b. IsBetween 0 2048 (length b)) 16 (bytes_within 0 2048) (bytes_gives 0 2048) x)
    (λ list h t. record { count = h.few; bytes = leb-true (total_length list) 2048 t })

pub record IsAct (act : Act) : Type 0 where
  pub application : 1 ≤ act.application
  pub completion : IsCompletion act.creating act.on_completion
  pub args : AreArguments act.args

pub record IsOrigin (origin : Origin) : Type 0 where
  pub sender : IsAddress origin.sender
  pub note : length origin.note ≤ 1024

pub record IsReach (reach : Reach) : Type 0 where
  pub accounts : AreFew IsAddress 4 reach.accounts
  pub boxes : AreFew (λ b. IsTrue (is_box_name b)) 8 reach.boxes

pub record IsSetting (setting : Setting) : Type 0 where
  pub creator : IsAddress setting.creator
  pub budget : IsBetween 1 11200 setting.budget

act_holds : (d : Data) → Holds IsAct (act_of d)
act_holds d =
    then_holds (λ n. 1 ≤ n) _ IsAct (field (codes "application") from_one d)
    (field_holds (λ n. 1 ≤ n) (codes "application") from_one d (λ x. kept_gives (λ n. 1 ≤ n) (nat_le 1) (number x) (leb-true 1)))
    (λ application first. then_holds (λ _. Unit {0}) _ IsAct (field (codes "creating") as_bool d) (any_field (codes "creating") as_bool d)
    (λ creating _. then_holds (IsCompletion creating) _ IsAct (field (codes "on_completion") (completion creating) d) (field_holds (IsCompletion creating) (codes "on_completion") (completion creating) d (completion_gives creating))
    (λ on_completion second. then_holds AreArguments _ IsAct (field (codes "args") arguments d) (field_holds AreArguments (codes "args") arguments d arguments_give)
    (λ args third. record { application = first; completion = second; args = third }))))

origin_holds : (d : Data) → Holds IsOrigin (origin_of d)
origin_holds d =
    then_holds IsAddress _ IsOrigin (field (codes "sender") address d) (field_holds IsAddress (codes "sender") address d address_gives)
    (λ sender first. then_holds (λ _. Unit {0}) _ IsOrigin (field (codes "fee") number d) (any_field (codes "fee") number d)
    (λ fee _. then_holds (λ b. IsBetween 0 1024 (length b)) _ IsOrigin (field (codes "note") (bytes_within 0 1024) d) (field_holds (λ b. IsBetween 0 1024 (length b)) (codes "note") (bytes_within 0 1024) d (bytes_gives 0 1024))
    (λ note second. record { sender = first; note = second.most })))

reach_holds : (d : Data) → Holds IsReach (reach_of d)
reach_holds d =
    then_holds (AreFew IsAddress 4) _ IsReach (field (codes "accounts") (list_within 4 address) d) (field_holds (AreFew IsAddress 4) (codes "accounts") (list_within 4 address) d (list_gives IsAddress 4 address address_gives))
    (λ accounts first. then_holds (AreFew (λ b. IsTrue (is_box_name b)) 8) _ IsReach (field (codes "boxes") (list_within 8 box_name) d) (field_holds (AreFew (λ b. IsTrue (is_box_name b)) 8) (codes "boxes") (list_within 8 box_name) d (list_gives (λ b. IsTrue (is_box_name b)) 8 box_name box_name_gives))
    (λ boxes second. record { accounts = first; boxes = second }))

setting_holds : (d : Data) → Holds IsSetting (setting_of d)
setting_holds d =
    then_holds (λ _. Unit {0}) _ IsSetting (field (codes "round") number d) (any_field (codes "round") number d)
    (λ round _. then_holds (λ _. Unit {0}) _ IsSetting (field (codes "timestamp") number d) (any_field (codes "timestamp") number d)
    (λ timestamp _. then_holds IsAddress _ IsSetting (field (codes "creator") address d) (field_holds IsAddress (codes "creator") address d address_gives)
    (λ creator first. then_holds (IsBetween 1 11200) _ IsSetting (field (codes "budget") (number_within 1 11200) d) (field_holds (IsBetween 1 11200) (codes "budget") (number_within 1 11200) d (number_gives 1 11200))
    (λ budget second. record { creator = first; budget = second }))))

pub call_holds : (d : Data) → Holds IsCallInForm (call_of d)
call_holds d =
    then_holds IsAct _ IsCallInForm (act_of d) (act_holds d)
    (λ act a. then_holds IsOrigin _ IsCallInForm (origin_of d) (origin_holds d)
    (λ origin o. then_holds IsReach _ IsCallInForm (reach_of d) (reach_holds d)
    (λ reach r. then_holds IsSetting _ IsCallInForm (setting_of d) (setting_holds d)
    (λ setting s. record {
      application = a.application;
      completion = a.completion.most;
      creation = a.completion.created;
      sender = o.sender;
      creator = s.creator;
      arg_count = a.args.count;
      arg_bytes = a.args.bytes;
      note = o.note;
      account_count = r.accounts.few;
      accounts = r.accounts.all;
      box_count = r.boxes.few;
      boxes = r.boxes.all;
      some_budget = s.budget.least;
      most_budget = s.budget.most;
    }))))
