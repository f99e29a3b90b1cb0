use Rattle.avm_run.proofs.Targets.{target_at}
use Rattle.std.proofs.Common.{ap, sym, ◌∙◌, Some, rules, FitsSigned}
use Rattle.std.specs.Prelude.{option_map}
use Rattle.std.specs.Int.{w16}
use Rattle.std.proofs.lemmas.Int.{to_z-of_z}
use Rattle.avm_run.specs.Bytes.{place, target}
use Rattle.avm_run.proofs.rows.target_place.Goals as goal

pub returns-in-Some : goal.returns-in-Some
returns-in-Some c =
    let fits : FitsSigned w16 c.in-Some.offset = search rules in
    ap Some (c.place_after.ensures ∙ ap (λ j. place (target c.args.next j)) (to_z-of_z w16 c.in-Some.offset fits))
    ∙ sym (target_at c.args.next c.args.imm.now c.args.number ∙ ap (option_map (λ j. place (target c.args.next j))) (sym c.in-Some.ensures))

pub returns-in-None : goal.returns-in-None
returns-in-None c = sym (target_at c.args.next c.args.imm.now c.args.number ∙ ap (option_map (λ j. place (target c.args.next j))) (sym c.in-None.ensures))
