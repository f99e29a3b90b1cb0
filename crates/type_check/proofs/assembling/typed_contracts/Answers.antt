use Rattle.std.proofs.Common.{◌≡◌, [], ◌∷◌, ap, sym, subst, ◌∙◌}
use Rattle.source_headers.specs.Classes.{classes}
use Rattle.expression_check.specs.declared.sight.Sight.{Sight}
use Rattle.expression_check.specs.Sights.{seen}
use Rattle.type_check.specs.Placing.{AtModule, contracts_behind}
use Rattle.type_check.specs.Whole.{contracts, typed_contracts}
use Rattle.type_check.proofs.Modules.{all_typed, at_module, behind_none, line_behind, none_left}
use Rattle.type_check.proofs.assembling.typed_contracts.Goals as goal

pub loop-rest-preserved : goal.loop-rest-preserved
loop-rest-preserved c = record {
  typed = λ h.
      let items = c.args.items.now in
      let same : c.loop-rest.sight ≡ c.args.sight.now = c.loop-rest.invariant.sight (at_module c.args.sight.now items h) in
      line_behind items c.args.sight.now.names c.loop-rest.rest.now c.first-item.result c.loop-rest.all c.in_ok-all.all _
      c.first-item.is c.in-len1-up.len_at_least
      (c.in_ok-all.ensures.typed (ap (λ v. seen v []) same ∙ h)
      ∙ ap (λ (v : Sight). contracts_behind c.loop-rest.all (typed_contracts items (contracts v.names (classes (c.first-item.result ∷ []))))) same)
      (c.loop-rest.invariant.typed h);
  sight = λ at. c.in_ok-all.ensures.sight (subst AtModule (sym (c.loop-rest.invariant.sight at)) at) ∙ c.loop-rest.invariant.sight at;
}

pub returns : goal.returns
returns c h =
    let items = c.args.items.now in
    let names = c.args.sight.now.names in
    all_typed c.args.sight.now items c.loop-rest.all h
    (behind_none c.loop-rest.all
    ∙ ap (λ is. contracts_behind c.loop-rest.all (typed_contracts items (contracts names (classes is)))) (sym (none_left c.loop-rest.rest.now c.in_default.len_below))
    ∙ c.loop-rest.invariant.typed h)
