-- The equations of the folds.
use Rattle.std.proofs.Common.{◌≡◌, ◌∙◌, ℕ, Bool, List, [], ◌∷◌, map, refl, ap, sym}
use Rattle.std.specs.Prelude.{if◌then◌else◌}
use Rattle.arc4_types.specs.declared.abi.Abi.{Abi}
use Rattle.arc4_types.specs.declared.abi.Abi.TheVariants.{Array, Fixed, Tuple, rolls-Array, rolls-Fixed, rolls-Tuple}
use Rattle.arc4_types.specs.declared.abi.Abi.TheOpen.{Abi-F}
use Rattle.arc4_types.specs.declared.abi.Abi.TheFolds.{fold-roll-Abi}
use Rattle.arc4_types.specs.declared.abi_value.AbiValue.{AbiValue}
use Rattle.arc4_types.specs.declared.abi_value.AbiValue.TheVariants.{Number, Flag, Data, Parts, rolls-Number, rolls-Flag, rolls-Data, rolls-Parts}
use Rattle.arc4_types.specs.declared.abi_value.AbiValue.TheOpen.{AbiValue-F}
use Rattle.arc4_types.specs.declared.abi_value.AbiValue.TheFolds.{fold-roll-AbiValue}
use Rattle.arc4_types.specs.Types.{Ty, Tys, text, array, fixed, tuple, tys_of, type_of, type_step, is_byte}
use Rattle.arc4_types.specs.Values.{Val, Vals, number, truth, bytes, parts, vals_of, value_of, value_step}

pub type-Array : (t : Abi) → type_of (Array t) ≡ (if is_byte (type_of t) then text else array (type_of t))
type-Array t = ap type_of (sym (rolls-Array t)) ∙ fold-roll-Abi Ty type_step (Abi-F.Array t)

pub type-Fixed : (t : Abi) (n : ℕ) → type_of (Fixed t n) ≡ fixed (type_of t) n
type-Fixed t n = ap type_of (sym (rolls-Fixed t n)) ∙ fold-roll-Abi Ty type_step (Abi-F.Fixed t n)

pub type-Tuple : (ts : List Abi) → type_of (Tuple ts) ≡ tuple (tys_of (map type_of ts))
type-Tuple ts = ap type_of (sym (rolls-Tuple ts)) ∙ fold-roll-Abi Ty type_step (Abi-F.Tuple ts)

pub value-Number : (n : ℕ) → value_of (Number n) ≡ number n
value-Number n = ap value_of (sym (rolls-Number n)) ∙ fold-roll-AbiValue Val value_step (AbiValue-F.Number n)

pub value_flag : (b : Bool) → value_of (Flag b) ≡ truth b
value_flag b = ap value_of (sym (rolls-Flag b)) ∙ fold-roll-AbiValue Val value_step (AbiValue-F.Flag b)

pub value_number : (n : ℕ) → value_of (Number n) ≡ number n
value_number n = ap value_of (sym (rolls-Number n)) ∙ fold-roll-AbiValue Val value_step (AbiValue-F.Number n)

pub value_data : (b : List ℕ) → value_of (Data b) ≡ bytes b
value_data b = ap value_of (sym (rolls-Data b)) ∙ fold-roll-AbiValue Val value_step (AbiValue-F.Data b)

pub value-Flag : (b : Bool) → value_of (Flag b) ≡ truth b
value-Flag b = ap value_of (sym (rolls-Flag b)) ∙ fold-roll-AbiValue Val value_step (AbiValue-F.Flag b)

pub value-Data : (b : List ℕ) → value_of (Data b) ≡ bytes b
value-Data b = ap value_of (sym (rolls-Data b)) ∙ fold-roll-AbiValue Val value_step (AbiValue-F.Data b)

pub value-Parts : (vs : List AbiValue) → value_of (Parts vs) ≡ parts (vals_of (map value_of vs))
value-Parts vs = ap value_of (sym (rolls-Parts vs)) ∙ fold-roll-AbiValue Val value_step (AbiValue-F.Parts vs)
