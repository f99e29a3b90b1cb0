use Rattle.std.proofs.Common.{◌≡◌, ◌++◌, map, ap, ◌∙◌, arith}
use Rattle.awst.specs.Calls.{sts_called}
use Rattle.awst.specs.Functions.{function_of, scope_of}
use Rattle.awst.specs.Plain.{all_plain, statement_of}
use Rattle.awst.proofs.Noting.{not_visited, on_ok_same, visited}
use Rattle.awst.proofs.reach.visit.Goals as goal

pub returns-then-place-funcs-clause-marks : goal.returns-then-place-funcs-clause-marks
returns-then-place-funcs-clause-marks c = not_visited c.args.funcs.now c.args.f c.args.marks.now (omega arith)

pub returns-clause-marks : goal.returns-clause-marks
returns-clause-marks c =
    let func = c.index-funcs-place.result in
    let calls : c.as_slice-2.result.now ≡ sts_called (function_of func).body =
    c.as_slice-2.ensures.value ∙ c.in_ok-push_body_calls.ensures (scope_of func) 0
    ∙ ap (λ l. l ++ sts_called (all_plain (scope_of func) 0 (map statement_of c.as_slice.result.now))) c.clear.ensures.items
    ∙ ap (λ b. sts_called (all_plain (scope_of func) 0 (map statement_of b))) c.as_slice.ensures in
    on_ok_same c.note_all.result c.note_all.new.marks _ _ (visited c.args.funcs.now c.args.f func _ c.args.marks.now (omega arith) c.index-funcs-place.is calls) c.note_all.ensures.marks
