-- Values of ARC-4 types as plain data.
use Rattle.std.specs.Prelude.{ℕ, Bool, List, [], ◌∷◌, map}
use Rattle.arc4_types.specs.declared.abi_value.AbiValue.{AbiValue}
use Rattle.arc4_types.specs.declared.abi_value.AbiValue.TheOpen.{AbiValue-F}
use Rattle.arc4_types.specs.declared.abi_value.AbiValue.TheFolds.{fold-AbiValue}

mutual
  pub data Val : Type 0 where
    number : ℕ → Val
    truth : Bool → Val
    bytes : List ℕ → Val
    parts : Vals → Val

  pub data Vals : Type 0 where
    no_values : Vals
    a_value : Val → Vals → Vals

abbrev pub vals_of : List Val → Vals
vals_of [] = no_values
vals_of (v ∷ vs) = a_value v (vals_of vs)

abbrev pub items_of : Vals → List Val
items_of no_values = []
items_of (a_value v vs) = v ∷ items_of vs

abbrev pub value_step : AbiValue-F Val → Val
value_step (AbiValue-F.Number n) = number n
value_step (AbiValue-F.Flag b) = truth b
value_step (AbiValue-F.Data b) = bytes b
value_step (AbiValue-F.Parts vs) = parts (vals_of vs)

abbrev pub value_of : AbiValue → Val
value_of = fold-AbiValue Val value_step
