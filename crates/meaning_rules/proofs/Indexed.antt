-- An index of what is no Bytes, case by case, is what the rules say.
use Rattle.std.proofs.Common.{◌≡◌, ℕ, List, Option, Some, None, refl, sym}
use Rattle.std.specs.Prelude.{slice_get}
use Rattle.puya_base.specs.declared.source.Place.{Place}
use Rattle.source_names.specs.declared.types.SourceType.{SourceType}
use Rattle.meaning_rules.specs.declared.meaning.Typed.{Typed}
use Rattle.meaning_rules.specs.declared.meaning.Lit.TheVariants as lit
use Rattle.meaning_rules.specs.declared.operand.Operand.{Operand}
use Rattle.meaning_rules.specs.declared.operand.Operand.TheVariants as operand
use Rattle.meaning_rules.specs.Operations.{tuple_item, tuple_index}
use Rattle.meaning_rules.specs.Indexes as cases

item_same : (p q : Place) (b : Typed) (n : ℕ) (t : Option SourceType) → cases.item_of_type p q b n t ≡ tuple_item p q b n t
item_same p q b n None = refl
item_same p q b n (Some t) = refl

-- the index of a tuple is the one of the rules
pub index_same : (p q : Place) (b : Typed) (ts : Option (List SourceType)) (i : Operand) → tuple_index p q b ts i ≡ cases.tuple_index p q b ts i
index_same p q b None (operand.Value t) = refl
index_same p q b None (operand.Literal r (lit.Number n)) = refl
index_same p q b None (operand.Literal r (lit.Text x)) = refl
index_same p q b None (operand.Literal r (lit.Bytes x)) = refl
index_same p q b None operand.Missing = refl
index_same p q b (Some ts) (operand.Value t) = refl
index_same p q b (Some ts) (operand.Literal r (lit.Number n)) = sym (item_same p q b n (slice_get ts n))
index_same p q b (Some ts) (operand.Literal r (lit.Text x)) = refl
index_same p q b (Some ts) (operand.Literal r (lit.Bytes x)) = refl
index_same p q b (Some ts) operand.Missing = refl
