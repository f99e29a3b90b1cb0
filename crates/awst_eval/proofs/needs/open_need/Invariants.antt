use Rattle.std.proofs.Common.{◌≡◌, ◌+◌, map, drop}
use Rattle.runs.specs.Seen.{total}
use Rattle.awst.specs.Functions.{function_of}
use Rattle.awst.specs.Meaning.{need_in}
use Rattle.awst_eval.proofs.needs.open_need.Given as goal

abbrev pub invariant-loop-f : goal.invariant-loop-f
invariant-loop-f l = l.need + total (need_in 50 (map function_of l.contract.funcs)) (drop l.f-index l.opened) ≡ total (need_in 50 (map function_of l.contract.funcs)) l.opened
