-- Using one of the bound.
use Rattle.std.specs.Prelude.{◌≡◌, suc, Bool, true, false}
use Rattle.runs.specs.Steps.{World, with_rest}

abbrev pub Ticks : Bool → World → World → Type 0
Ticks true old new = (old.rest ≡ suc new.rest) × (new ≡ with_rest old new.rest)
Ticks false old new = (old.rest ≡ 0) × (new ≡ old)
