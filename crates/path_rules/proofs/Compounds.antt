-- Summaries of arms, of an `if` and of a loop.
use Rattle.std.proofs.Common.{◌≡◌, ℕ, Bool, List, ◌++◌, [], ◌∷◌, sym, ◌∙◌, ap, subst}
use Rattle.std.specs.Prelude.{if◌then◌else◌, IfOk, Result, Ok, Err}
use Rattle.puya_base.specs.declared.memory.Memory.{Memory}
use Rattle.path_rules.specs.declared.summary.Exits.{Exits}
use Rattle.path_rules.specs.declared.summary.Effect.{Effect}
use Rattle.path_rules.specs.declared.summary.Summary.{Summary}
use Rattle.path_rules.specs.declared.summary.Frame.TheVariants.{Arm, If, Loop}
use Rattle.path_rules.specs.Steps.{Steps, one, before, arm, choice, an_end, an_arm, a_loop}
use Rattle.path_rules.specs.Summaries.{plain, naming, exits_at_end, only_goes, summary_behind, summary_in_frame}
use Rattle.path_rules.specs.Describes.{Describes, Together, TogetherWith}
use Rattle.path_rules.proofs.Describing.{describes_behind, describes_in_frame}
use Rattle.path_rules.proofs.Leaves.{describes_end}
use Rattle.path_rules.proofs.TogetherLaws.{with_last}

abbrev pub arm_summary : Summary → Bool → Summary → Summary
arm_summary test always body = summary_behind test (summary_in_frame (Arm always) body)

pub describes_arm : (test : Summary) (always : Bool) (body : Summary) (t b : Steps) → Describes test t → Describes body b → Describes (arm_summary test always body) (an_arm t always b)
describes_arm test always body t b h k = describes_behind test (summary_in_frame (Arm always) body) t (one (arm always b)) h (describes_in_frame (Arm always) body b k)

abbrev pub turn_summary : Summary → Bool → Summary → Summary
turn_summary test ends body = summary_behind test (summary_behind (plain (if ends then exits_at_end else only_goes)) body)

abbrev pub loop_summary : Summary → Bool → Summary → Summary
loop_summary test ends body = summary_in_frame Loop (turn_summary test ends body)

pub describes_loop : (test : Summary) (ends : Bool) (body : Summary) (t b : Steps) → Describes test t → Describes body b → Describes (loop_summary test ends body) (one (a_loop t ends b))
describes_loop test ends body t b h k =
    describes_in_frame Loop (turn_summary test ends body) (before t (before (an_end ends) b))
    (describes_behind test (summary_behind (plain (if ends then exits_at_end else only_goes)) body) t (before (an_end ends) b) h
    (describes_behind (plain (if ends then exits_at_end else only_goes)) body (an_end ends) b (describes_end ends) k))

-- ---- what the calls give

pub ok_map : {T E : Type 0} (P Q : T → Type 0) → ((x : T) → P x → Q x) → (r : Result T E) → IfOk r P → IfOk r Q
ok_map P Q f (Ok x) h = f x h
ok_map P Q f (Err e) h = h

pub arm_gives : (r : Result Summary Memory) (test done body : Summary) (always : Bool) → done ≡ summary_in_frame (Arm always) body → IfOk r (λ m. m ≡ summary_behind test done)
    → IfOk r (λ m. (t b : Steps) → Describes test t → Describes body b → Describes m (an_arm t always b))
arm_gives r test done body always e h =
    ok_map (λ m. m ≡ summary_behind test done) (λ m. (t b : Steps) → Describes test t → Describes body b → Describes m (an_arm t always b))
    (λ m is t b j k. subst (λ z. Describes z (an_arm t always b)) (sym (is ∙ ap (λ d. summary_behind test d) e)) (describes_arm test always body t b j k)) r h

pub if_gives : (r : Result Summary Memory) (parts into : List Summary) (rest all : Summary) → into ≡ parts ++ rest ∷ [] → ((fs : Steps) → Together into fs → Describes all fs) → IfOk r (λ m. m ≡ summary_in_frame If all)
    → IfOk r (λ m. (fs gs : Steps) → TogetherWith parts gs fs → Describes rest gs → Describes m (one (choice fs)))
if_gives r parts into rest all e d h =
    ok_map (λ m. m ≡ summary_in_frame If all) (λ m. (fs gs : Steps) → TogetherWith parts gs fs → Describes rest gs → Describes m (one (choice fs)))
    (λ m is fs gs w k. subst (λ z. Describes z (one (choice fs))) (sym is) (describes_in_frame If all fs (d fs (subst (λ l. Together l fs) (sym e) (with_last parts rest gs fs w k))))) r h

pub loop_gives : (r : Result Summary Memory) (test end rest turn body : Summary) (ends : Bool) → end ≡ plain (if ends then exits_at_end else only_goes) → rest ≡ summary_behind end body → turn ≡ summary_behind test rest → IfOk r (λ m. m ≡ summary_in_frame Loop turn)
    → IfOk r (λ m. (t b : Steps) → Describes test t → Describes body b → Describes m (one (a_loop t ends b)))
loop_gives r test end rest turn body ends e f g h =
    let turn_is : turn ≡ turn_summary test ends body = g ∙ ap (λ z. summary_behind test z) (f ∙ ap (λ z. summary_behind z body) e) in
    ok_map (λ m. m ≡ summary_in_frame Loop turn) (λ m. (t b : Steps) → Describes test t → Describes body b → Describes m (one (a_loop t ends b)))
    (λ m is t b j k. subst (λ z. Describes z (one (a_loop t ends b))) (sym (is ∙ ap (λ z. summary_in_frame Loop z) turn_is)) (describes_loop test ends body t b j k)) r h

pub plain_gives : (P : Summary → Type 0) (m : Summary) (e f : Exits) → m ≡ plain e → e ≡ f → P (plain f) → P m
plain_gives P m e f h k p = subst P (sym (h ∙ ap plain k)) p

pub naming_gives : (r : Result Summary Memory) (x : ℕ) (e f : Effect) (fs : Steps) → e ≡ f → IfOk r (λ m. m ≡ naming x e) → Describes (naming x f) fs → IfOk r (λ m. Describes m fs)
naming_gives r x e f fs h k d = ok_map (λ m. m ≡ naming x e) (λ m. Describes m fs) (λ m q. subst (λ z. Describes z fs) (sym (q ∙ ap (naming x) h)) d) r k
