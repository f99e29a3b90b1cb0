use Rattle.std.proofs.Common.{◌+◌, ◌*◌, map, max, sym, ap, ◌∙◌}
use Rattle.awst.specs.Types.{type_of, types_of, scalar_count, scalar_total}
use Rattle.awst.specs.Capped.{capped}
use Rattle.awst.specs.Places.{all_loads}
use Rattle.awst.specs.Functions.{load_of}
use Rattle.awst.proofs.Counting.{scalars_append, places_result}
use Rattle.awst.proofs.amounts.places.Goals as goal

pub returns : goal.returns
returns c =
    let f = c.args.f.now in
    let load = all_loads (map load_of f.body) in
    places_result (scalar_total (types_of (map type_of f.params))) (scalar_total (types_of (map type_of f.locals))) load.fors (scalar_count (type_of f.result)) load.wait _ _ _ _ _ _ _ _ _ _
    (c.total_scalars-params.ensures ∙ ap (λ l. capped (scalar_total (types_of (map type_of l)))) c.as_slice.ensures)
    (c.total_scalars.ensures ∙ ap (λ l. capped (scalar_total (types_of (map type_of l)))) c.as_slice-2.ensures)
    c.saturating_add-variables.ensures
    (c.body_load-load.ensures.fors ∙ ap (λ l. capped (all_loads (map load_of l)).fors) c.as_slice-3.ensures)
    c.saturating_mul-fors.ensures
    (c.body_load-load.ensures.wait ∙ ap (λ l. capped (all_loads (map load_of l)).wait) c.as_slice-3.ensures)
    c.scalars.ensures c.max-most.ensures c.saturating_add.ensures c.saturating_add-2.ensures
    ∙ ap (λ n. capped (n + 3 * load.fors + max (scalar_count (type_of f.result)) load.wait)) (sym (scalars_append f.params f.locals))
