use Rattle.std.proofs.Common.{◌∙◌, subst, sym, Option, ℕ, ◌<◌, ◌^◌}
use Rattle.std.specs.Prelude.{IfSome}
use Rattle.avm_asm.proofs.Tables.{lookup-place, low_place}
use Rattle.avm_asm.proofs.places.Places.place_of.Goals as goal

pub returns-clause-place : goal.returns-clause-place
returns-clause-place c = rw (← c.self.view_is) (c.copied.ensures ∙ c.get.ensures.value ∙ lookup-place c.args.label c.self.inside.map.entries)

pub returns-clause-low : goal.returns-clause-low
returns-clause-low c =
    subst (λ (r : Option ℕ). IfSome r (λ p. p < 2 ^ 62)) (sym (c.copied.ensures ∙ c.get.ensures.value ∙ lookup-place c.args.label c.self.inside.map.entries))
    (low_place c.args.label c.self.inside.map.entries c.self.invariant)
