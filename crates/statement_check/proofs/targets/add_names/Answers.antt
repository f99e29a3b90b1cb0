use Rattle.std.proofs.Common.{◌∙◌, ◌++◌, map, ap}
use Rattle.source_headers.specs.Headers.{all_clashes}
use Rattle.source_names.specs.Source.{tree_of}
use Rattle.statement_check.specs.Noting.{noted, target_local}
use Rattle.statement_check.specs.Targets.{first_ones, one_name, target_name}
use Rattle.statement_check.proofs.Adding as adding
use Rattle.statement_check.proofs.targets.add_names.Goals as goal

pub loop-rest-preserved : goal.loop-rest-preserved
loop-rest-preserved c =
    let both = adding.names_split c.loop-rest.rest.now c.first-item.result c.first-item.is c.in-len1-up.len_at_least in
    let word = adding.copied_is c.target_name.result (target_name (tree_of c.first-item.result)) c.target_name.ensures in
    let told = c.in_ok-add_optional.ensures.told ∙ ap (λ o. c.loop-rest.told ++ all_clashes c.args.names.now (first_ones c.args.inside c.loop-rest.seen (one_name o))) word in
    let seen = c.in_ok-add_optional.ensures.seen ∙ ap (λ o. noted c.args.inside c.loop-rest.seen (one_name o)) word in
    let locals = c.in_ok-add_optional.ensures.locals ∙ ap (λ o. c.loop-rest.locals.items ++ map target_local (first_ones c.args.inside c.loop-rest.seen (one_name o))) word in
    record {
      told = adding.next_told c.args.inside c.loop-rest.seen c.add_optional.new.seen _ _ _ both seen c.args.names.now c.loop-rest.told c.add_optional.new.told _ told c.loop-rest.invariant.told;
      seen = adding.next_seen c.args.inside c.loop-rest.seen c.add_optional.new.seen _ _ _ both seen _ c.loop-rest.invariant.seen;
      locals = adding.next_locals c.args.inside c.loop-rest.seen c.add_optional.new.seen _ _ _ both seen c.loop-rest.locals.items c.add_optional.new.locals.items _ locals c.loop-rest.invariant.locals;
    }
