-- The orders of keys are total, and tie only equal keys.
use Rattle.std.proofs.Common.{◌≡◌, refl}
use Rattle.std.specs.Ordering.{ordering_then}
use Rattle.std.specs.Cmp.{IsTotalOrder, on_total, then_total}
use Rattle.std.specs.declared.cmp.Ordering.{Ordering}
use Rattle.std.specs.declared.cmp.Ordering.TheVariants.{Less, Equal, Greater}
use Rattle.std.proofs.lemmas.Cmp.{nat_list_cmp_total}
use Rattle.std.specs.FinMap.{IsAntisymmetric, nat_cmp-IsAntisymmetric, slice_cmp-IsAntisymmetric}
use Rattle.avm_state.specs.Keys.{bytes_cmp, local_cmp, LocalKey}

pub bytes_cmp_same : IsAntisymmetric bytes_cmp
bytes_cmp_same = slice_cmp-IsAntisymmetric nat_cmp-IsAntisymmetric

pub local_cmp_total : IsTotalOrder local_cmp
local_cmp_total = then_total (on_total (λ (k : LocalKey). k.0) nat_list_cmp_total) (on_total (λ (k : LocalKey). k.1) nat_list_cmp_total)

then_first : (r s : Ordering) → ordering_then r s ≡ Equal → r ≡ Equal
then_first Less s e = cc e
then_first Equal s e = refl
then_first Greater s e = cc e

then_second : (r s : Ordering) → ordering_then r s ≡ Equal → s ≡ Equal
then_second Less s e = cc e
then_second Equal s e = e
then_second Greater s e = cc e

pub local_cmp_same : IsAntisymmetric local_cmp
local_cmp_same x y e =
    let accounts = bytes_cmp_same x.0 y.0 (then_first _ _ e) in
    let keys = bytes_cmp_same x.1 y.1 (then_second (bytes_cmp x.0 y.0) (bytes_cmp x.1 y.1) e) in
    λ i. (accounts i, keys i)
