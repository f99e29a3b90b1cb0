-- Counts of places, with counts that stand still.
use Rattle.std.proofs.Common.{◌≡◌, ℕ, ◌+◌, ◌*◌, ◌∙◌, max, List, [], ◌∷◌, ◌++◌, map, length, Some, refl, ap, arith}
use Rattle.puya_base.specs.declared.source.Place.{Place}
use Rattle.awst.specs.declared.ty.Ty.{Ty}
use Rattle.awst.specs.declared.primitive.Primitive.{Primitive}
use Rattle.awst.specs.declared.statement.Target.{Target}
use Rattle.awst.specs.declared.statement.Target.TheVariants as target
use Rattle.awst.specs.Types.{type_of, types_of, scalar_total}
use Rattle.awst.specs.Capped.{capped}
use Rattle.awst.specs.Tree.{Ex, to_variable}
use Rattle.awst.specs.Plain.{updated, assigned_value, destination}

pub scalars_append : (ps ls : List Ty) → scalar_total (types_of (map type_of (ps ++ ls))) ≡ scalar_total (types_of (map type_of ps)) + scalar_total (types_of (map type_of ls))
scalars_append [] ls = omega arith
scalars_append (p ∷ ps) ls = omega (arith, scalars_append ps ls)

pub places_count : (p l f r w : ℕ) → capped (capped (capped (capped p + capped l) + capped (capped f * 3)) + max (capped w) (capped r)) ≡ capped (p + l + 3 * f + max r w)
places_count p l f r w = omega arith

pub need_count : (p l : ℕ) → capped (capped (capped (capped p * 2) + 16) + capped l) ≡ capped (2 * p + 16 + l)
need_count p l = omega arith

pub places_result : (p l f r w tp tl v lf fo lw sr mo b res : ℕ) →
    tp ≡ capped p → tl ≡ capped l → v ≡ capped (tp + tl) → lf ≡ capped f → fo ≡ capped (lf * 3) → lw ≡ capped w → sr ≡ capped r → mo ≡ max lw sr → b ≡ capped (v + fo) → res ≡ capped (b + mo) →
    res ≡ capped (p + l + 3 * f + max r w)
places_result p l f r w tp tl v lf fo lw sr mo b res etp etl ev elf efo elw esr emo eb eres =
    let v' : v ≡ capped (capped p + capped l) = ev ∙ ap (λ x. capped (x + tl)) etp ∙ ap (λ x. capped (capped p + x)) etl in
    let fo' : fo ≡ capped (capped f * 3) = efo ∙ ap (λ x. capped (x * 3)) elf in
    let mo' : mo ≡ max (capped w) (capped r) = emo ∙ ap (λ x. max x sr) elw ∙ ap (λ x. max (capped w) x) esr in
    let b' : b ≡ capped (capped (capped p + capped l) + capped (capped f * 3)) = eb ∙ ap (λ x. capped (x + fo)) v' ∙ ap (λ x. capped (capped (capped p + capped l) + x)) fo' in
    eres ∙ ap (λ x. capped (x + mo)) b' ∙ ap (λ x. capped (capped (capped (capped p + capped l) + capped (capped f * 3)) + x)) mo' ∙ places_count p l f r w

pub need_result : (p l cp tw a cl res : ℕ) → cp ≡ capped p → tw ≡ capped (cp * 2) → a ≡ capped (tw + 16) → cl ≡ capped l → res ≡ capped (a + cl) → res ≡ capped (2 * p + 16 + l)
need_result p l cp tw a cl res ecp etw ea ecl eres =
    eres ∙ ap (λ x. capped (x + cl)) (ea ∙ ap (λ x. capped (x + 16)) (etw ∙ ap (λ x. capped (x * 2)) ecp)) ∙ ap (λ x. capped (capped (capped (capped p * 2) + 16) + x)) ecl ∙ need_count p l

pub assigned_one : (place : Place) (prim : Primitive) (ts : List Target) (e : Ex) → length ts ≡ 1 → (x : ℕ) × (assigned_value place (Some prim) (map destination ts) e ≡ updated place prim (to_variable x) e)
assigned_one place prim [] e h = absurd (omega (arith, h))
assigned_one place prim (target.Local x ∷ []) e h = (x, refl)
assigned_one place prim (t ∷ u ∷ ts) e h = absurd (omega (arith, h))
