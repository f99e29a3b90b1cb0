-- The names of the packages (Algorand Python guide; Python's built-in `bool` and `tuple`; `typing`).
use Rattle.std.specs.Prelude.{ℕ, List, [], ◌∷◌, codes, Option}
use Rattle.algopy_library.specs.declared.row.Row.{Row}
use Rattle.algopy_library.specs.declared.row.Row.TheVariants as row
use Rattle.algopy_library.specs.Tables.{named_in}

abbrev pub names : List (List ℕ × Row)
names =
    (codes "Contract", row.Contract) ∷
    (codes "ARC4Contract", row.Arc4Contract) ∷
    (codes "subroutine", row.Subroutine) ∷
    (codes "UInt64", row.UInt64) ∷
    (codes "Bytes", row.Bytes) ∷
    (codes "String", row.Text) ∷
    (codes "Account", row.Account) ∷
    (codes "GlobalState", row.GlobalState) ∷
    (codes "LocalState", row.LocalState) ∷
    (codes "Box", row.Box) ∷
    (codes "BoxMap", row.BoxMap) ∷
    (codes "BoxRef", row.BoxRef) ∷
    (codes "Txn", row.Txn) ∷
    (codes "Global", row.Global) ∷
    (codes "OnCompleteAction", row.OnCompleteAction) ∷
    (codes "urange", row.Urange) ∷
    (codes "log", row.Log) ∷
    (codes "op", row.Op) ∷
    (codes "arc4", row.Arc4) ∷
    (codes "Application", row.LeftOut) ∷
    (codes "Array", row.LeftOut) ∷
    (codes "Asset", row.LeftOut) ∷
    (codes "BigUInt", row.LeftOut) ∷
    (codes "ImmutableArray", row.LeftOut) ∷
    (codes "LogicSig", row.LeftOut) ∷
    (codes "OpUpFeeSource", row.LeftOut) ∷
    (codes "ReferenceArray", row.LeftOut) ∷
    (codes "StateTotals", row.LeftOut) ∷
    (codes "Struct", row.LeftOut) ∷
    (codes "TemplateVar", row.LeftOut) ∷
    (codes "TransactionType", row.LeftOut) ∷
    (codes "compile_contract", row.LeftOut) ∷
    (codes "compile_logicsig", row.LeftOut) ∷
    (codes "ensure_budget", row.LeftOut) ∷
    (codes "gtxn", row.LeftOut) ∷
    (codes "itxn", row.LeftOut) ∷
    (codes "logicsig", row.LeftOut) ∷
    (codes "uenumerate", row.LeftOut) ∷
    []

unfoldable pub package_named : List ℕ → Option Row
package_named n = named_in names n

abbrev pub built_ins : List (List ℕ × Row)
built_ins =
    (codes "bool", row.Bool) ∷
    (codes "tuple", row.Tuple) ∷
    []

unfoldable pub built_in : List ℕ → Option Row
built_in n = named_in built_ins n

abbrev pub of_typing : List (List ℕ × Row)
of_typing =
    (codes "Literal", row.Literal) ∷
    []

unfoldable pub typing_named : List ℕ → Option Row
typing_named n = named_in of_typing n
