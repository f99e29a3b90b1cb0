-- How statements leave off, one in another.
use Rattle.std.proofs.Common.{◌≡◌, ℕ, List, ◌∷◌, Some, None, Result, refl, sym, ap, subst}
use Rattle.puya_base.specs.declared.source.Place.{Place}
use Rattle.runs.specs.Steps.{World, Run, Gives, Fails, Going, after, give}
use Rattle.runs.specs.Steps as runs
use Rattle.awst.specs.Meaning.{Env, Flow, On, Back, Broke, Continued, Setting, go_on, turned, does, all_do}
use Rattle.awst.specs.Plain.{Scope, Statement, PlainArm, if_plain, otherwise}
use Rattle.awst_eval.specs.declared.stop.Stop.{Stop}
use Rattle.awst_eval.specs.declared.flow.Flow.TheVariants as flow
use Rattle.awst_eval.specs.declared.flow.Flow as declared
use Rattle.awst_eval.specs.Flows.{flow_of, ended_by}
use Rattle.awst_eval.specs.Ended.{Ends}

-- a statement with none behind it
pub alone : (r : runs.Result Flow) → after r (go_on (λ env. give (On env))) ≡ r
alone (Gives (On env) w) = refl
alone (Gives (Back v) w) = refl
alone (Gives (Broke env) w) = refl
alone (Gives (Continued env) w) = refl
alone (Fails w) = refl
alone (Going w) = refl

pub alone_ends : {R : Type 0} (shown : R → Flow) (x : Result R Stop) (r : runs.Result Flow) (w : World) → Ends shown x r w → Ends shown x (after r (go_on (λ env. give (On env)))) w
alone_ends shown x r w h = subst (λ (q : runs.Result Flow). Ends shown x q w) (sym (alone r)) h

-- an `if` with arms is what stands otherwise before its first arm
pub if_first : (s : Setting) (n : ℕ) (place : Place) (scope : Scope) (a : ℕ) (arm : PlainArm) (arms : List PlainArm) (rest : List Statement) (env : Env) (w : World) →
    all_do s n (otherwise place scope a (arm ∷ arms) rest) env w ≡ does s n (if_plain place scope a (arm ∷ arms) rest) env w
if_first s n place scope a arm arms rest env w = alone (does s n (if_plain place scope a (arm ∷ arms) rest) env w)

-- the next turn follows
pub turned_again : (again : Env → Run Flow) (f : declared.Flow) (env : Env) (w : World) → ended_by f ≡ None → turned again (flow_of env f) w ≡ again env w
turned_again again flow.On env w h = refl
turned_again again (flow.Back v) env w h = cc h
turned_again again flow.Broke env w h = cc h
turned_again again flow.Continued env w h = refl

-- the loop ends
pub turned_end : (again : Env → Run Flow) (f end : declared.Flow) (env : Env) (w : World) → ended_by f ≡ Some end → turned again (flow_of env f) w ≡ Gives (flow_of env end) w
turned_end again flow.On end env w h = cc h
turned_end again (flow.Back v) end env w h = let e : flow.Back v ≡ end = cc h in ap (λ x. Gives (flow_of env x) w) e
turned_end again flow.Broke end env w h = let e : flow.On ≡ end = cc h in ap (λ x. Gives (flow_of env x) w) e
turned_end again flow.Continued end env w h = cc h
