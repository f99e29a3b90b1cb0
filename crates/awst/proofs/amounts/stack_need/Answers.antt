use Rattle.std.proofs.Common.{map, ap, ◌∙◌}
use Rattle.awst.specs.Capped.{capped}
use Rattle.awst.specs.Places.{all_loads}
use Rattle.awst.specs.Functions.{load_of, places_of, load_of_body}
use Rattle.awst.proofs.Counting.{need_result}
use Rattle.awst.proofs.amounts.stack_need.Goals as goal

pub returns : goal.returns
returns c =
    need_result (places_of c.args.f.now) (load_of_body c.args.f.now).literals _ _ _ _ _
    c.places.ensures c.saturating_mul-twice.ensures c.saturating_add.ensures
    (c.body_load-literals.ensures.literals ∙ ap (λ l. capped (all_loads (map load_of l)).literals) c.as_slice.ensures)
    c.saturating_add-2.ensures
