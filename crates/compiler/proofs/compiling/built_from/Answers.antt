use Rattle.std.proofs.Common.{◌≡◌, ℕ, List, [], ◌∷◌, ◌++◌, ap, subst, sym}
use Rattle.compiler.specs.declared.build.Build.{Build}
use Rattle.compiler.specs.Compiled.{AreBuilt, IsBuilt}
use Rattle.compiler.specs.Form.{Form}
use Rattle.compiler.proofs.Forming.{no_class, no_sum, formed}
use Rattle.compiler.proofs.compiling.built_from.Goals as goal

pub returns-in_default : goal.returns-in_default
returns-in_default c = no_class c.args.tree.now c.in_default.ensures

pub returns-in_default-computed : goal.returns-in_default-computed
returns-in_default-computed c = no_sum c.args.tree.now c.in-Some.class.now c.in-Some.ensures (sym c.in_default-computed.ensures)

pub returns : goal.returns
returns c =
    let form : Form = record { name = c.in-Some.class.now.name.name; sum = c.in-Some-computed.sum } in
    let one : c.push.new.self ≡ c.in_ok-build.build ∷ [] = cc (c.in_ok-push.ensures.ok, ap (λ (bs : List Build). bs ++ (c.in_ok-build.build ∷ [])) c.new-builds.ensures) in
    let built = subst (λ (n : List ℕ). IsBuilt (record { name = n; sum = c.in-Some-computed.sum }) c.in_ok-build.build) c.as_str.ensures c.in_ok-build.ensures in
    (form, formed c.args.tree.now c.in-Some.class.now c.in-Some-computed.sum c.in-Some.ensures (sym c.in-Some-computed.ensures), subst (AreBuilt form) (sym one) built)
