use Rattle.std.proofs.Common.{◌≡◌, ◌≤◌, ◌∙◌, length, ap, subst, sym, arith}
use Rattle.path_rules.specs.Summaries.{plain}
use Rattle.path_rules.specs.Describes.{Describes}
use Rattle.path_rules.proofs.TogetherLaws.{last_one, left_none}
use Rattle.path_rules.proofs.joining.joined.Goals as goal

pub returns-in-Some : goal.returns-in-Some
returns-in-Some c =
    let few : length c.loop-parts.parts.items ≤ 1 = omega (arith, c.loop-parts.parts.ok.0, c.len.ensures, c.loop-parts-test.false) in
    λ fs h. last_one c.pop.new.self.items c.in-Some.all c.loop-parts.parts.items c.in-Some.ensures.items few fs (c.loop-parts.invariant fs h)

pub returns : goal.returns
returns c =
    let none : length c.loop-parts.parts.items ≡ 0 = omega (arith, c.loop-parts.parts.ok.0, c.in-None.ensures.cases.0) in
    λ fs h. subst (λ m. Describes m fs) (sym (c.plain.ensures ∙ ap plain c.only_goes.ensures)) (left_none c.loop-parts.parts.items none fs (c.loop-parts.invariant fs h))
