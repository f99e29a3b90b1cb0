-- What the values of the evaluator stand for.
use Rattle.std.specs.Prelude.{List, map}
use Rattle.awst.specs.Values.{Val, number, flag, string, nothing, tuple, vals_of}
use Rattle.awst_eval.specs.declared.datum.Datum.{Datum}
use Rattle.awst_eval.specs.declared.datum.Datum.TheOpen.{Datum-F}
use Rattle.awst_eval.specs.declared.datum.Datum.TheFolds.{fold-Datum}

-- one layer, with what each part stands for in its place
abbrev pub datum_layer : Datum-F Val → Val
datum_layer (Datum-F.Number n) = number n
datum_layer (Datum-F.Flag b) = flag b
datum_layer (Datum-F.Text b) = string b
datum_layer Datum-F.Nothing = nothing
datum_layer (Datum-F.Tuple parts) = tuple (vals_of parts)

abbrev pub meant : Datum → Val
meant = fold-Datum Val datum_layer

abbrev pub all_meant : List Datum → List Val
all_meant = map meant
