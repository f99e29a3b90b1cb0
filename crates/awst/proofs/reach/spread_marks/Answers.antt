use Rattle.std.proofs.Common.{◌≡◌, List, [], ℕ, map, subst, arith}
use Rattle.std.proofs.lemmas.List.{nil_from_length}
use Rattle.awst.specs.Functions.{function_of}
use Rattle.awst.proofs.Noting.{Visiting, visiting_begins, visiting_goes_on, visiting_ends}
use Rattle.awst.proofs.reach.spread_marks.Goals as goal

pub loop-f-init : goal.loop-f-init
loop-f-init c = visiting_begins (map function_of c.args.funcs.now) c.args.marks.now c.args.waiting.now.items c.requires

pub loop-f-preserved : goal.loop-f-preserved
loop-f-preserved c =
    let P : List ℕ → Type 0 = λ w. Visiting (map function_of c.args.funcs.now) c.args.marks.now c.loop-f.marks w in
    visiting_goes_on (map function_of c.args.funcs.now) c.args.marks.now c.loop-f.marks _ _ _ _ (subst P c.in-Some.ensures.items c.loop-f.invariant) c.in_ok-visit.ensures.marks c.in_ok-visit.ensures.waits

pub returns : goal.returns
returns c =
    let none : c.loop-f.waiting.items ≡ [] = nil_from_length c.loop-f.waiting.items (omega (arith, c.in_default.ensures.cases.0, c.loop-f.waiting.ok.0)) in
    let P : List ℕ → Type 0 = λ w. Visiting (map function_of c.args.funcs.now) c.args.marks.now c.loop-f.marks w in
    visiting_ends (map function_of c.args.funcs.now) c.args.marks.now c.loop-f.marks (subst P none c.loop-f.invariant)
