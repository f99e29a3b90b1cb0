-- The signatures of functions are good: their types are those of annotations.
use Rattle.std.proofs.Common.{◌≡◌, zero, suc, List, [], ◌∷◌, Bool, Option, Some, None, ◌∙◌, ap}
use Rattle.std.proofs.lemmas.Option.{none-some, same_Some}
use Rattle.puya_base.specs.declared.source.Place.{Place}
use Rattle.py_grammar.specs.declared.word.Word.{Word}
use Rattle.py_grammar.specs.declared.type_tree.TypeTree.{TypeTree}
use Rattle.py_grammar.specs.declared.module.Param.{Param}
use Rattle.py_grammar.specs.declared.module.Func.{Func}
use Rattle.source_names.specs.declared.types.SourceType.{SourceType}
use Rattle.source_names.specs.declared.named.Entry.{Entry}
use Rattle.source_names.specs.declared.signature.Parameter.{Parameter}
use Rattle.source_headers.specs.Headers.{annotated, parameter, parameters, divided, resulted, signature}
use Rattle.typing_laws.proofs.Good.{IsKeptType, IsResultType}
use Rattle.typing_laws.proofs.Annotated.{annotation_result, annotation_kept}
use Rattle.typing_laws.proofs.Locals.{KeptParams}
use Rattle.typing_laws.proofs.Functions.{GoodSignature}

param_kept : (es : List Entry) (w : Word) (o : Option TypeTree) (t : SourceType) → (annotated es w o).ty ≡ Some t → IsKeptType t
param_kept es w None t h = absurd (none-some t h)
param_kept es w (Some a) t h = annotation_kept es [] a t h

params_kept : (es : List Entry) (ps : List Param) → KeptParams (parameters es ps)
params_kept es [] i q t a b = absurd (none-some q a)
params_kept es (p ∷ ps) zero q t a b = param_kept es p.name p.annotation t (ap (λ (r : Parameter). r.ty) (same_Some (parameter es p) q a) ∙ b)
params_kept es (p ∷ ps) (suc i) q t a b = params_kept es ps i q t a b

result_good : (es : List Entry) (p : Place) (o : Option TypeTree) (t : SourceType) → (resulted es p o).ty ≡ Some t → IsResultType t
result_good es p None t h = absurd (none-some t h)
result_good es p (Some a) t h = annotation_result es [] a t h

pub signature_good : (es : List Entry) (inside : Bool) (f : Func) → GoodSignature (signature es inside f)
signature_good es inside f = record { params = params_kept es (divided inside f.params).others; result = λ t h. result_good es f.place f.result t h }
