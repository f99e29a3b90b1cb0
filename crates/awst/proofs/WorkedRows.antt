-- The meaning, computed on small contracts.
use Rattle.std.proofs.Common.{◌≡◌, ℕ, Bool, true, false, List, [], ◌∷◌, length, replicate, Some, None, refl}
use Rattle.puya_base.specs.declared.source.Place.{Place}
use Rattle.avm_state.specs.declared.call.Call.{Call}
use Rattle.avm_state.specs.LedgerState.{LedgerState, no_entries}
use Rattle.avm_ops.specs.Table.{row_of, table}
use Rattle.runs.specs.Marks.{Mark, logs}
use Rattle.runs.specs.Moments.{approved, rejected, Meaning}
use Rattle.awst.specs.declared.primitive.Primitive.{Primitive}
use Rattle.awst.specs.declared.primitive.Primitive.TheVariants as prim
use Rattle.awst.specs.Types.{ValueType, uint64, bool, bytes, nothing, scalar_count, tuple, types_of}
use Rattle.awst.specs.Values.{number, flag, string}
use Rattle.awst.specs.Table.{own_number, own_flag, own_data, own_local, own_tuple, own_prim, own_choice, own_assign, own_effect, own_while, own_range, own_return, own_function, need_of_places}
use Rattle.awst.specs.Tree.{by, pack, Ex, constant, variable, strict, both, choose, exs_of, to_variable, St, assign, effect, loop, count, give_back, sts_of}
use Rattle.awst.specs.Places.{scalars_of}
use Rattle.awst.specs.Plain.{made, headed}
use Rattle.awst.specs.Meaning.{Function}
use Rattle.awst.specs.Prescribed.{PlainContract, prescribed_by}
use Rattle.awst.specs.Weight.{plain_weight}

at : ℕ → Place
at line = record { line = line; col = 9 }

abbrev num : ℕ → Ex
num n = made (record { line = 4; col = 9 }) uint64 (own_number n) (constant (number n))

abbrev data_of : List ℕ → Ex
data_of b = made (record { line = 4; col = 9 }) bytes (own_data (length b)) (constant (string b))

abbrev truth : Bool → Ex
truth b = made (record { line = 4; col = 9 }) bool own_flag (constant (flag b))

abbrev local : ℕ → ValueType → Ex
local x t = made (record { line = 4; col = 9 }) t (own_local (scalar_count t)) (variable x)

abbrev form : Primitive → List Ex → ValueType → Ex
form q es t = made (record { line = 4; col = 9 }) t (own_prim q (scalar_count t) (length es)) (strict (by q) (exs_of es))

abbrev pair : Ex → Ex → ValueType → Ex
pair a b t = made (record { line = 4; col = 9 }) t (own_tuple (scalar_count t)) (strict pack (exs_of (a ∷ b ∷ [])))

abbrev sets : ℕ → Ex → St
sets x e = headed (record { line = 4; col = 9 }) (own_assign (scalars_of e)) (assign (to_variable x ∷ []) e)

abbrev does_on : ℕ → Ex → St
does_on line e = headed (record { line = line; col = 9 }) (own_effect (scalars_of e)) (effect e)

abbrev returns_it : Ex → St
returns_it e = headed (record { line = 9; col = 9 }) (own_return (scalars_of e)) (give_back (Some e))

-- a function of so many locals and places
abbrev function : ℕ → ℕ → List St → Function
function locals places body = record { locals = locals; price = own_function places; need = need_of_places places; body = sts_of body }

-- a contract of one function
abbrev alone : ℕ → ℕ → List St → PlainContract
alone locals places body = record { functions = function locals places body ∷ []; approval = Some 0; clear = None; init = None }

abbrev plain_call : Call
plain_call = record { application = 1; creating = false; on_completion = 0; args = []; sender = replicate 32 0; fee = 0; note = []; accounts = []; boxes = []; round = 0; timestamp = 0; creator = replicate 32 0; budget = 11200 }

abbrev run_of : PlainContract → Meaning
run_of contract = prescribed_by contract plain_call no_entries

abbrev with_logs : List (List ℕ) → LedgerState
with_logs all = record no_entries { logs = all }

abbrev logged_at : ℕ → Mark
logged_at line = record { change = logs; line = line }

-- return UInt64(6) * UInt64(7): approved, at the price 166, with the needs of the entry and of the function
product : PlainContract
product = alone 0 4 (returns_it (form prim.Mul (num 6 ∷ num 7 ∷ []) uint64) ∷ [])

product_is_approved : (run_of product 1).outcome ≡ Some (approved no_entries)
unfolding product row_of table
product_is_approved = refl

product_has_its_price : (run_of product 1).seen.price ≡ 166
unfolding product row_of table
product_has_its_price = refl

product_has_its_need : (run_of product 1).seen.peak ≡ 74
unfolding product row_of table
product_has_its_need = refl

-- at the bound 0 its function is not called yet
product_begins : (run_of product 0).outcome ≡ None
unfolding product row_of table
product_begins = refl

-- return UInt64(0)
zero_result : PlainContract
zero_result = alone 0 4 (returns_it (num 0) ∷ [])

zero_is_rejected : (run_of zero_result 1).outcome ≡ Some rejected
unfolding zero_result row_of table
zero_is_rejected = refl

-- x = UInt64(18446744073709551615) + 1; return UInt64(1)
overflow : PlainContract
overflow = alone 1 5 (sets 0 (form prim.Add (num 18446744073709551615 ∷ num 1 ∷ []) uint64) ∷ returns_it (num 1) ∷ [])

overflow_is_rejected : (run_of overflow 1).outcome ≡ Some rejected
unfolding overflow row_of table
overflow_is_rejected = refl

-- return UInt64(0) ** UInt64(0)
no_power : PlainContract
no_power = alone 0 4 (returns_it (form prim.Power (num 0 ∷ num 0 ∷ []) uint64) ∷ [])

no_power_is_rejected : (run_of no_power 1).outcome ≡ Some rejected
unfolding no_power row_of table
no_power_is_rejected = refl

-- x = UInt64(7); y = Txn.num_app_args; z = x // y; return UInt64(1): the failing division rejects though z is not read
unread : PlainContract
unread = alone 3 7 (sets 0 (num 7) ∷ sets 1 (form prim.TxnNumAppArgs [] uint64) ∷ sets 2 (form prim.FloorDiv (local 0 uint64 ∷ local 1 uint64 ∷ []) uint64) ∷ returns_it (num 1) ∷ [])

unread_is_rejected : (run_of unread 1).outcome ≡ Some rejected
unfolding unread row_of table
unread_is_rejected = refl

-- for i in urange(18446744073709551610, 18446744073709551615, 3): log(i); return UInt64(1): the third item would overflow, and is none
high_range : PlainContract
high_range = alone 1 8 (headed (record { line = 4; col = 9 }) (own_range 1) (count 0 (Some (num 18446744073709551610)) (num 18446744073709551615) 3 (sts_of (does_on 5 (form prim.Log (local 0 uint64 ∷ []) nothing) ∷ []))) ∷ returns_it (num 1) ∷ [])

high_range_is_approved : (run_of high_range 3).outcome ≡ Some (approved (with_logs ((255 ∷ 255 ∷ 255 ∷ 255 ∷ 255 ∷ 255 ∷ 255 ∷ 250 ∷ []) ∷ (255 ∷ 255 ∷ 255 ∷ 255 ∷ 255 ∷ 255 ∷ 255 ∷ 253 ∷ []) ∷ [])))
unfolding high_range row_of table
high_range_is_approved = refl

high_range_is_marked : (run_of high_range 3).seen.marks ≡ logged_at 5 ∷ logged_at 5 ∷ []
unfolding high_range row_of table
high_range_is_marked = refl

-- each of its two turns and the call use one of the bound
high_range_goes_on : (run_of high_range 2).outcome ≡ None
unfolding high_range row_of table
high_range_goes_on = refl

-- a = UInt64(1); b = UInt64(2); for i in urange(5): a, b = b, a; log(a, b); return UInt64(1)
abbrev two_numbers : ValueType
two_numbers = tuple (types_of (uint64 ∷ uint64 ∷ []))

swap : PlainContract
swap = alone 3 12 (sets 0 (num 1) ∷ sets 1 (num 2) ∷ headed (record { line = 6; col = 9 }) (own_range 3) (count 2 None (num 5) 1 (sts_of (headed (record { line = 7; col = 9 }) (own_assign 2) (assign (to_variable 0 ∷ to_variable 1 ∷ []) (pair (local 1 uint64) (local 0 uint64) two_numbers)) ∷ []))) ∷ does_on 8 (form prim.Log (local 0 uint64 ∷ local 1 uint64 ∷ []) nothing) ∷ returns_it (num 1) ∷ [])

swap_is_approved : (run_of swap 6).outcome ≡ Some (approved (with_logs ((0 ∷ 0 ∷ 0 ∷ 0 ∷ 0 ∷ 0 ∷ 0 ∷ 2 ∷ 0 ∷ 0 ∷ 0 ∷ 0 ∷ 0 ∷ 0 ∷ 0 ∷ 1 ∷ []) ∷ [])))
unfolding swap row_of table
swap_is_approved = refl

-- while True: pass
forever : PlainContract
forever = alone 0 1 (headed (record { line = 4; col = 9 }) (own_while 0) (loop (truth true) (sts_of [])) ∷ [])

forever_goes_on : (run_of forever 9).outcome ≡ None
unfolding forever row_of table
forever_goes_on = refl

-- the entry, the function, the loop, and each turn with its condition
forever_pays : (run_of forever 9).seen.price ≡ 712
unfolding forever row_of table
forever_pays = refl

-- for i in urange(n): log(op.bzero(32)); return UInt64(1)
abbrev many_logs : ℕ → PlainContract
many_logs n = alone 1 8 (headed (record { line = 4; col = 9 }) (own_range 1) (count 0 None (num n) 1 (sts_of (does_on 5 (form prim.Log (form prim.OpBzero (num 32 ∷ []) bytes ∷ []) nothing) ∷ []))) ∷ returns_it (num 1) ∷ [])

most_logs : PlainContract
most_logs = many_logs 32

most_logs_are_approved : (run_of most_logs 33).outcome ≡ Some (approved (with_logs (replicate 32 (replicate 32 0))))
unfolding most_logs row_of table
most_logs_are_approved = refl

one_log_more : PlainContract
one_log_more = many_logs 33

one_log_more_is_rejected : (run_of one_log_more 34).outcome ≡ Some rejected
unfolding one_log_more row_of table
one_log_more_is_rejected = refl

-- return UInt64(1) if False and 1 // 0 == 0 else UInt64(2): the right part is not evaluated
lazy : PlainContract
lazy = alone 0 6 (returns_it (made (record { line = 4; col = 9 }) uint64 (own_choice 1) (choose (made (record { line = 4; col = 9 }) bool (own_choice 1) (both (truth false) (form prim.Equal (form prim.FloorDiv (num 1 ∷ num 0 ∷ []) uint64 ∷ num 0 ∷ []) bool))) (num 1) (num 2))) ∷ [])

lazy_is_approved : (run_of lazy 1).outcome ≡ Some (approved no_entries)
unfolding lazy row_of table
lazy_is_approved = refl

-- three logs of 700 bytes each, return UInt64(1); the clear state program returns UInt64(1)
three_logs : PlainContract
three_logs =
    let log_it = does_on 4 (form prim.Log (data_of (replicate 700 97) ∷ []) nothing) in
    record { functions = function 0 3 (log_it ∷ log_it ∷ log_it ∷ returns_it (num 1) ∷ []) ∷ function 0 1 (returns_it (num 1) ∷ []) ∷ []; approval = Some 0; clear = Some 1; init = None }

three_logs_weigh : plain_weight three_logs ≡ 2618
unfolding three_logs
three_logs_weigh = refl
