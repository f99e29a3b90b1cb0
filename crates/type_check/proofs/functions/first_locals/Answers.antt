use Rattle.std.proofs.Common.{◌≡◌, ◌++◌, [], map, ap, ◌∙◌, rules}
use Rattle.std.proofs.lemmas.Result.{IfOk-weaker}
use Rattle.source_headers.specs.Headers as headers
use Rattle.statement_check.specs.Lines.{block_of}
use Rattle.statement_check.specs.Noting.{target_local, with_names}
use Rattle.statement_check.specs.Targets.{all_targets, first_ones}
use Rattle.type_check.specs.Functions as spec
use Rattle.type_check.proofs.Params.{first_with_names}
use Rattle.type_check.proofs.functions.first_locals.Goals as goal

pub returns-clause-told : goal.returns-clause-told
returns-clause-told c =
    let names = spec.parameter_names c.args.signature.now.params in
    let seen : c.add_params.new.seen ≡ with_names [] names =
    c.in_ok-add_params.ensures.seen ∙ ap (λ s. with_names s (spec.parameter_names c.as_slice.result.now)) c.new-seen.ensures
    ∙ ap (λ ps. with_names [] (spec.parameter_names ps)) c.as_slice.ensures in
    let told : c.add_block.new.told ≡ c.args.told.now ++ headers.all_clashes c.args.names.now (spec.target_words c.args.inside c.args.signature.now c.args.func.now) =
    c.in_ok-add_block.ensures.told
    ∙ ap (λ ws. c.args.told.now ++ headers.all_clashes c.args.names.now ws)
    (first_with_names c.args.inside c.add_params.new.seen names (all_targets (block_of c.args.func.now.body)) seen) in
    search rules

pub returns-clause-locals : goal.returns-clause-locals
returns-clause-locals c =
    let names = spec.parameter_names c.args.signature.now.params in
    let seen : c.add_params.new.seen ≡ with_names [] names =
    c.in_ok-add_params.ensures.seen ∙ ap (λ s. with_names s (spec.parameter_names c.as_slice.result.now)) c.new-seen.ensures
    ∙ ap (λ ps. with_names [] (spec.parameter_names ps)) c.as_slice.ensures in
    let words = all_targets (block_of c.args.func.now.body) in
    let first : c.add_params.new.locals.items ≡ map spec.param_local c.args.signature.now.params =
    c.in_ok-add_params.ensures.locals ∙ ap (λ ls. ls ++ map spec.param_local c.as_slice.result.now) c.new-locals.ensures.items
    ∙ ap (map spec.param_local) c.as_slice.ensures in
    IfOk-weaker c.new.result _ _
    (λ ls e. e ∙ c.in_ok-add_block.ensures.locals
    ∙ ap (λ ls. ls ++ map target_local (first_ones c.args.inside c.add_params.new.seen words)) first
    ∙ ap (λ ws. map spec.param_local c.args.signature.now.params ++ map target_local ws) (first_with_names c.args.inside c.add_params.new.seen names words seen))
    c.new.ensures
