-- A member of a value is what its type's table has.
use Rattle.std.proofs.Common.{◌≡◌, Option, Some, None, refl}
use Rattle.puya_base.specs.declared.source.Place.{Place}
use Rattle.py_grammar.specs.declared.word.Word.{Word}
use Rattle.algopy_library.specs.declared.scalar.Scalar.{Scalar}
use Rattle.meaning_rules.specs.declared.meaning.Typed.{Typed}
use Rattle.meaning_rules.specs.Operations.{value_operation, scalar_member}
use Rattle.meaning_rules.specs.Reads.{operation_named}

pub member_same : (p : Place) (w : Word) (t : Typed) (s : Option Scalar) → scalar_member p w t s ≡ value_operation p w.place t (operation_named s w.name)
member_same p w t None = refl
member_same p w t (Some s) = refl
