-- Turns and calls that use one of the bound.
use Rattle.std.proofs.Common.{◌≡◌, ℕ, zero, suc, true, false, Result, Err, refl, sym, ap, subst, ◌∙◌}
use Rattle.runs.specs.Steps.{World, Run, Gives, after, bind, pay, tick, use_one, with_rest}
use Rattle.runs.specs.Steps as runs
use Rattle.awst_eval.specs.declared.stop.Stop.{Stop}
use Rattle.awst_eval.specs.declared.stop.Stop.TheVariants.{Going}
use Rattle.awst_eval.specs.Ended.{Ends}
use Rattle.awst_eval.specs.Ticks.{Ticks}

use_bind : {A B : Type 0} (k price : ℕ) (run : Run A) (next : A → Run B) (w : World) → use_one k (pay price (bind run next)) w ≡ after (use_one k (pay price run) w) next
use_bind zero price run next w = refl
use_bind (suc k) price run next w = refl

-- what follows a turn may be taken out of it
pub tick_bind : {A B : Type 0} (price : ℕ) (run : Run A) (next : A → Run B) (w : World) → tick (pay price (bind run next)) w ≡ after (tick (pay price run) w) next
tick_bind price run next w = use_bind w.rest price run next w

pub used : {A : Type 0} (run : Run A) (old new : World) → Ticks true old new → tick run old ≡ run new
used run old new h = ap (λ k. use_one k run old) h.0 ∙ ap run (sym h.1)

pub unused : {A : Type 0} (run : Run A) (old new : World) → Ticks false old new → tick run old ≡ runs.Going new
unused run old new h = ap (λ k. use_one k run old) h.0 ∙ ap (λ w. runs.Going w) (sym h.1)

pub ticks_on : {R A : Type 0} (shown : R → A) (x : Result R Stop) (run : Run A) (old new w : World) → Ticks true old new → Ends shown x (run new) w → Ends shown x (tick run old) w
ticks_on shown x run old new w h g = subst (λ (r : runs.Result _). Ends shown x r w) (sym (used run old new h)) g

pub ticks_out : {R A : Type 0} (shown : R → A) (run : Run A) (old new : World) → Ticks false old new → Ends shown (Err Going) (tick run old) new
unfolding Ends
ticks_out shown run old new h = unused run old new h
