-- The parts of tuples.
use Rattle.std.proofs.Common.{◌≡◌, ℕ, ◌<◌, ◌++◌, List, [], ◌∷◌, map, length, ◌≤◌, get_or, slice_get, Some, None, refl, sym, ap, ◌∙◌, arith}
use Rattle.std.proofs.lemmas.Option.{slice_get-get_or, slice_get_past}
use Rattle.puya_base.specs.declared.value.Value.{Value}
use Rattle.awst.specs.Values.{Val, number, tuple, a_val, vals_of, listed, scalars, scalars_in, all_scalars, of_scalar, of_each, of_results, parts_of}
use Rattle.awst_eval.specs.declared.datum.Datum.{Datum}
use Rattle.awst_eval.specs.declared.datum.Datum.TheVariants as datum
use Rattle.awst_eval.specs.declared.datum.Datum.TheOpen.{Datum-F}
use Rattle.awst_eval.specs.declared.datum.Datum.TheFolds.{fold-roll-Datum}
use Rattle.awst_eval.specs.Shown.{meant, all_meant, datum_layer}

pub tuple_scalars : (vs : List Val) → scalars_in (vals_of vs) ≡ all_scalars vs
tuple_scalars [] = refl
tuple_scalars (v ∷ vs) = ap (λ l. scalars v ++ l) (tuple_scalars vs)

pub listed_parts : (vs : List Val) → listed (vals_of vs) ≡ vs
listed_parts [] = refl
listed_parts (v ∷ vs) = ap (λ l. v ∷ l) (listed_parts vs)

each_result : (xs : List Value) → of_each xs ≡ vals_of (map of_scalar xs)
each_result [] = refl
each_result (x ∷ xs) = ap (λ l. a_val (of_scalar x) l) (each_result xs)

-- several results are a tuple
several_results : (xs : List Value) → 1 < length xs → of_results xs ≡ tuple (vals_of (map of_scalar xs))
several_results [] h = absurd (omega arith)
several_results (x ∷ []) h = absurd (omega arith)
several_results (x ∷ y ∷ xs) h = ap tuple (each_result (x ∷ y ∷ xs))

meant-Tuple : (parts : List Datum) → meant (datum.Tuple parts) ≡ tuple (vals_of (all_meant parts))
meant-Tuple parts = ap meant (sym (datum.rolls-Tuple parts)) ∙ fold-roll-Datum Val datum_layer (Datum-F.Tuple parts)

pub result_tuple : (parts : List Datum) (xs : List Value) → 1 < length xs → all_meant parts ≡ map of_scalar xs → meant (datum.Tuple parts) ≡ of_results xs
result_tuple parts xs h e = meant-Tuple parts ∙ ap (λ l. tuple (vals_of l)) e ∙ sym (several_results xs h)

pub parts_in : (v : Datum) (parts : List Datum) → v ≡ datum.Tuple parts → parts_of (meant v) ≡ all_meant parts
parts_in v parts e = ap (λ x. parts_of (meant x)) e ∙ ap parts_of (meant-Tuple parts) ∙ listed_parts (all_meant parts)

pub scalars_of_parts : (v : Datum) (parts : List Datum) → v ≡ datum.Tuple parts → scalars (meant v) ≡ all_scalars (all_meant parts)
scalars_of_parts v parts e = ap (λ x. scalars (meant x)) e ∙ ap scalars (meant-Tuple parts) ∙ tuple_scalars (all_meant parts)

pub byte_there : (b : List ℕ) (i : ℕ) → i < length b → slice_get b i ≡ Some (get_or b i 0)
byte_there b i h = slice_get-get_or b i 0 h

pub byte_past : (b : List ℕ) (i : ℕ) → length b ≤ i → slice_get b i ≡ None
byte_past b i h = slice_get_past b i h

pub meant-Number : (n : ℕ) → meant (datum.Number n) ≡ number n
meant-Number n = ap meant (sym (datum.rolls-Number n)) ∙ fold-roll-Datum Val datum_layer (Datum-F.Number n)
