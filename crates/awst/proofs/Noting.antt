-- Functions that are marked, and wait until their calls are looked at.
use Rattle.std.proofs.Common.{◌≡◌, ℕ, zero, suc, ◌+◌, ◌<◌, ◌≤◌, ◌⊎◌, inl, inr, ◌∙◌, Bool, true, false, ◌||◌, eqb, List, [], ◌∷◌, ◌++◌, length, get_or, set, map, replicate, Option, Some, None, refl, sym, ap, subst, arith, length-append}
use Rattle.std.proofs.lemmas.List.{get_or-set_other, get_or-set_same}
use Rattle.std.proofs.lemmas.Bool.{or_cases, or_left, or_right, eq-eqb, eqb-true, cases_eq, false≢true}
use Rattle.std.specs.Prelude.{Result, Ok, Err, OnOk}
use Rattle.puya_base.specs.declared.memory.Memory.{Memory}
use Rattle.awst.specs.declared.contract.Func.{Func}
use Rattle.awst.specs.Functions.{function_of}
use Rattle.awst.specs.Meaning.{Function}
use Rattle.awst.specs.Weight.{is_root, reached, roots_from, spread, sts_calls}
use Rattle.awst.specs.Calls.{is_in, sts_called}
use Rattle.awst.specs.Marks.{marked, marked_from}
use Rattle.awst.specs.Reach.{mark_at, calls_at, unmarked, Waits, AllWait}
use Rattle.awst.proofs.Calling.{is_in_append, sts_same}
use Rattle.awst.proofs.Marking.{marked_none, marked_one, marked_outside, marked_same}
use Rattle.awst.proofs.Reaching.{Below, Closed, mark_inside, mark_of_marked, length-marked, reached_is, reached_closed, reached_keeps}

or_false : (b : Bool) → (b || false) ≡ b
or_false true = refl
or_false false = refl

-- ---- marks

pub below_marked : (f : ℕ → Bool) (marks more : List Bool) → more ≡ marked f marks → Below marks more
below_marked f marks more e = record {
  same_length = sym (ap length e ∙ length-marked 0 f marks);
  within = λ g m. ap (λ l. mark_at l g) e ∙ mark_of_marked 0 f marks g (mark_inside marks g m) ∙ or_left (mark_at marks g) (f (0 + g)) m;
}

set_again : (marks : List Bool) (f : ℕ) → mark_at marks f ≡ true → set marks f true ≡ marks
set_again [] f m = refl
set_again (mark ∷ marks) zero m = ap (λ b. b ∷ marks) (sym m)
set_again (mark ∷ marks) (suc f) m = ap (λ l. mark ∷ l) (set_again marks f m)

pub marked_again : (f : ℕ) (marks : List Bool) → mark_at marks f ≡ true → marks ≡ marked (λ g. eqb f g) marks
marked_again f marks m = sym (set_again marks f m) ∙ marked_one f marks (mark_inside marks f m)

unmarked_set : (marks : List Bool) (f : ℕ) → f < length marks → mark_at marks f ≡ false → unmarked (set marks f true) + 1 ≡ unmarked marks
unmarked_set [] f h m = absurd (omega arith)
unmarked_set (true ∷ marks) zero h m = absurd (false≢true (sym m))
unmarked_set (false ∷ marks) zero h m = omega arith
unmarked_set (true ∷ marks) (suc f) h m = omega (arith, unmarked_set marks f (omega arith) m)
unmarked_set (false ∷ marks) (suc f) h m = omega (arith, unmarked_set marks f (omega arith) m)

-- ---- what waits

is_in_last : (waiting : List ℕ) (f g : ℕ) → is_in (waiting ++ f ∷ []) g ≡ (is_in waiting g || eqb f g)
is_in_last waiting f g = is_in_append waiting (f ∷ []) g ∙ ap (λ b. is_in waiting g || b) (or_false (eqb f g))

last_is_in : (waiting : List ℕ) (f g : ℕ) → f ≡ g → is_in (waiting ++ f ∷ []) g ≡ true
last_is_in waiting f g e = is_in_last waiting f g ∙ or_right (is_in waiting g) (eqb f g) (eq-eqb f g e)

pub waits_none : (marks : List Bool) (waiting : List ℕ) → Waits marks marks waiting waiting
waits_none marks waiting = record { kept = λ f e. e; added = λ f e. inl e; only = λ f e. inl e; size = refl }

pub waits_one : (f : ℕ) (marks : List Bool) (waiting : List ℕ) → f < length marks → mark_at marks f ≡ false → Waits marks (set marks f true) waiting (waiting ++ f ∷ [])
waits_one f marks waiting h m = record {
  kept = λ g e. is_in_last waiting f g ∙ or_left (is_in waiting g) (eqb f g) e;
  added = λ g e.
      elim (cases_eq f g) [
        | inl same ↦ inr (last_is_in waiting f g same)
        | inr other ↦ inl (sym (get_or-set_other marks f g true false (λ d. other (sym d))) ∙ e)
      ];
  only = λ g e.
      elim (or_cases (is_in waiting g) (eqb f g) (sym (is_in_last waiting f g) ∙ e)) [
        | inl before ↦ inl before
        | inr here ↦ inr (let same : f ≡ g = eqb-true f g here in ap (λ x. mark_at (set marks f true) x) (sym same) ∙ get_or-set_same marks f true false h)
      ];
  size = omega (arith, unmarked_set marks f h m, length-append waiting (f ∷ []));
}

pub waits_both : (a b c : List Bool) (u v w : List ℕ) → Waits a b u v → Waits b c v w → Below b c → Waits a c u w
waits_both a b c u v w p q below = record {
  kept = λ f e. q.kept f (p.kept f e);
  added = λ f e.
      elim (q.added f e) [
        | inl before ↦ elim (p.added f before) [ inl first ↦ inl first | inr waits ↦ inr (q.kept f waits) ]
        | inr waits ↦ inr waits
      ];
  only = λ f e.
      elim (q.only f e) [
        | inl before ↦ elim (p.only f before) [ inl first ↦ inl first | inr m ↦ inr (below.within f m) ]
        | inr m ↦ inr m
      ];
  size = q.size ∙ p.size;
}

-- ---- roots

pub root_alone : (f : ℕ) (marks : List Bool) → marked (λ g. eqb f g) marks ≡ marked (is_root (Some f ∷ [])) marks
root_alone f marks = marked_same (λ g. eqb f g) (is_root (Some f ∷ [])) marks (λ g. sym (or_false (eqb f g)))

pub root_first : (root : Option ℕ) (roots : List (Option ℕ)) (g : ℕ) → (is_root (root ∷ []) g || is_root roots g) ≡ is_root (root ∷ roots) g
root_first None roots g = refl
root_first (Some f) roots g = ap (λ b. b || is_root roots g) (or_false (eqb f g))

pub roots_first : (root : Option ℕ) (roots : List (Option ℕ)) (marks : List Bool) → marked (λ g. is_root (root ∷ []) g || is_root roots g) marks ≡ marked (is_root (root ∷ roots)) marks
roots_first root roots marks = marked_same (λ g. is_root (root ∷ []) g || is_root roots g) (is_root (root ∷ roots)) marks (root_first root roots)

roots_are_from : (x : ℕ) (roots : List (Option ℕ)) (functions : List Function) → marked_from x (is_root roots) (replicate (length functions) false) ≡ roots_from x roots functions
roots_are_from x roots [] = refl
roots_are_from x roots (function ∷ functions) = ap (λ l. is_root roots x ∷ l) (roots_are_from (x + 1) roots functions)

pub roots_are : (roots : List (Option ℕ)) (functions : List Function) → marked (is_root roots) (replicate (length functions) false) ≡ roots_from 0 roots functions
roots_are roots functions = roots_are_from 0 roots functions

no_marks_at : (n g : ℕ) → mark_at (replicate n false) g ≡ true → ⊥
no_marks_at zero g m = false≢true m
no_marks_at (suc n) zero m = false≢true m
no_marks_at (suc n) (suc g) m = no_marks_at n g m

-- what waits beside no marks are just the marked ones
pub all_wait : (n : ℕ) (marks : List Bool) (waiting : List ℕ) → Waits (replicate n false) marks [] waiting → AllWait marks waiting
all_wait n marks waiting w = record {
  marked_waits = λ f m. elim (w.added f m) [ inl before ↦ absurd (no_marks_at n f before) | inr waits ↦ waits ];
  waiting_is_marked = λ f e. elim (w.only f e) [ inl before ↦ absurd (false≢true before) | inr m ↦ m ];
}

-- ---- one function is visited after the other

outside : (functions : List Function) (f g : ℕ) → length functions ≤ f → calls_at functions f g ≡ false
outside [] f g h = refl
outside (function ∷ functions) zero g h = absurd (omega arith)
outside (function ∷ functions) (suc f) g h = outside functions f g (omega arith)

pub nothing_called : (functions : List Function) (f : ℕ) (marks : List Bool) → length functions ≤ f → marks ≡ marked (calls_at functions f) marks
nothing_called functions f marks h = marked_none marks ∙ marked_same (λ y. false) (calls_at functions f) marks (λ g. sym (outside functions f g h))

-- what is known while the waiting functions are visited
pub record Visiting (functions : List Function) (first marks : List Bool) (waiting : List ℕ) : Type 0 where
  pub holds : Below first marks
  pub sound : Below marks (spread (length first) functions first)
  pub looked_at : (h g : ℕ) → mark_at marks h ≡ true → calls_at functions h g ≡ true → g < length marks → (is_in waiting h ≡ true) ⊎ (mark_at marks g ≡ true)
  pub waiting_is_marked : (f : ℕ) → is_in waiting f ≡ true → mark_at marks f ≡ true

pub visiting_begins : (functions : List Function) (first : List Bool) (waiting : List ℕ) → AllWait first waiting → Visiting functions first first waiting
visiting_begins functions first waiting w = record {
  holds = record { same_length = refl; within = λ g m. m };
  sound = reached_keeps functions first;
  looked_at = λ h g m c inside. inl (w.marked_waits h m);
  waiting_is_marked = w.waiting_is_marked;
}

-- all is looked at
pub visiting_ends : (functions : List Function) (first marks : List Bool) → Visiting functions first marks [] → marks ≡ spread (length first) functions first
visiting_ends functions first marks v =
    let closed : Closed functions marks = record { calls = λ h g m c inside. elim (v.looked_at h g m c inside) [ inl waits ↦ absurd (false≢true waits) | inr there ↦ there ] } in
    reached_is functions first marks v.holds closed v.sound

marked_at : (f : ℕ → Bool) (marks : List Bool) (g : ℕ) → g < length marks → mark_at (marked f marks) g ≡ (mark_at marks g || f g)
marked_at f marks g h = mark_of_marked 0 f marks g h ∙ (let e : 0 + g ≡ g = omega arith in ap (λ y. mark_at marks g || f y) e)

sound_at : (functions : List Function) (first marks more : List Bool) (f : ℕ) → Below marks (spread (length first) functions first) → more ≡ marked (calls_at functions f) marks → mark_at marks f ≡ true →
    (g : ℕ) → g < length marks → mark_at more g ≡ true → mark_at (spread (length first) functions first) g ≡ true
sound_at functions first marks more f sound e m g inside n =
    let either : (mark_at marks g || calls_at functions f g) ≡ true = sym (ap (λ l. mark_at l g) e ∙ marked_at (calls_at functions f) marks g inside) ∙ n in
    elim (or_cases (mark_at marks g) (calls_at functions f g) either) [
      | inl before ↦ sound.within g before
      | inr called ↦ (reached_closed functions first).calls f g (sound.within f m) called (omega (arith, inside, sound.same_length))
    ]

-- the call of a function that is visited is marked
call_is_marked : (functions : List Function) (marks more : List Bool) (f g : ℕ) → more ≡ marked (calls_at functions f) marks → calls_at functions f g ≡ true → g < length marks → mark_at more g ≡ true
call_is_marked functions marks more f g e c inside = ap (λ l. mark_at l g) e ∙ marked_at (calls_at functions f) marks g inside ∙ or_right (mark_at marks g) (calls_at functions f g) c

still_looked_at : (functions : List Function) (marks more : List Bool) (left waiting : List ℕ) (f : ℕ) → more ≡ marked (calls_at functions f) marks → Waits marks more left waiting → Below marks more →
    (h g : ℕ) → calls_at functions h g ≡ true → g < length marks → (is_in (left ++ f ∷ []) h ≡ true) ⊎ (mark_at marks g ≡ true) → (is_in waiting h ≡ true) ⊎ (mark_at more g ≡ true)
still_looked_at functions marks more left waiting f e w below h g c inside (inr m) = inr (below.within g m)
still_looked_at functions marks more left waiting f e w below h g c inside (inl waits) =
    elim (or_cases (is_in left h) (eqb f h) (sym (is_in_last left f h) ∙ waits)) [
      | inl before ↦ inl (w.kept h before)
      | inr here ↦ inr (call_is_marked functions marks more f g e (ap (λ x. calls_at functions x g) (eqb-true f h here) ∙ c) inside)
    ]

-- a function that waited last is visited
pub visiting_goes_on : (functions : List Function) (first marks more : List Bool) (left waiting : List ℕ) (f : ℕ) →
    Visiting functions first marks (left ++ f ∷ []) → more ≡ marked (calls_at functions f) marks → Waits marks more left waiting → Visiting functions first more waiting
visiting_goes_on functions first marks more left waiting f v e w =
    let kept = below_marked (calls_at functions f) marks more e in
    let f_is_marked : mark_at marks f ≡ true = v.waiting_is_marked f (last_is_in left f f refl) in
    record {
      holds = record { same_length = v.holds.same_length ∙ kept.same_length; within = λ g m. kept.within g (v.holds.within g m) };
      sound = record {
        same_length = sym kept.same_length ∙ v.sound.same_length;
        within = λ g m. sound_at functions first marks more f v.sound e f_is_marked g (omega (arith, mark_inside more g m, kept.same_length)) m;
      };
      looked_at = λ h g m c inside.
          let within : g < length marks = omega (arith, inside, kept.same_length) in
          elim (w.added h m) [
            | inl before ↦ still_looked_at functions marks more left waiting f e w kept h g c within (v.looked_at h g before c within)
            | inr waits ↦ inl waits
          ];
      waiting_is_marked = λ g i.
          elim (w.only g i) [
            | inl before ↦ kept.within g (v.waiting_is_marked g (is_in_last left f g ∙ or_left (is_in left g) (eqb f g) before))
            | inr m ↦ m
          ];
    }

-- ---- what the functions in src/reach.rt need

pub marked_stays : (f : ℕ) (marks : List Bool) → (length marks ≤ f) ⊎ (mark_at marks f ≡ true) → marks ≡ marked (λ g. eqb f g) marks
marked_stays f marks (inl outside_row) = marked_outside f marks outside_row
marked_stays f marks (inr m) = marked_again f marks m

-- a function is noted after others
pub waits_next : (f : ℕ → Bool) (a b c : List Bool) (u v w : List ℕ) → Waits a b u v → c ≡ marked f b → Waits b c v w → Waits a c u w
waits_next f a b c u v w p e q = waits_both a b c u v w p q (below_marked f b c e)

calls_of_visited : (funcs : List Func) (f : ℕ) (func : Func) → f < length funcs → func ≡ get_or funcs f func → (g : ℕ) → sts_calls (function_of func).body g ≡ calls_at (map function_of funcs) f g
calls_of_visited [] f func h e g = absurd (omega arith)
calls_of_visited (first ∷ funcs) zero func h e g = ap (λ x. sts_calls (function_of x).body g) e
calls_of_visited (first ∷ funcs) (suc f) func h e g = calls_of_visited funcs f func (omega arith) e g

length-functions : (funcs : List Func) → length (map function_of funcs) ≡ length funcs
length-functions [] = refl
length-functions (f ∷ funcs) = ap suc (length-functions funcs)

-- the calls of a function are noted
pub visited : (funcs : List Func) (f : ℕ) (func : Func) (calls : List ℕ) (marks : List Bool) → f < length funcs → func ≡ get_or funcs f func → calls ≡ sts_called (function_of func).body →
    marked (is_in calls) marks ≡ marked (calls_at (map function_of funcs) f) marks
visited funcs f func calls marks h at_f e =
    ap (λ l. marked (is_in l) marks) e
    ∙ marked_same (is_in (sts_called (function_of func).body)) (calls_at (map function_of funcs) f) marks (λ g. sts_same (function_of func).body g ∙ calls_of_visited funcs f func h at_f g)

pub on_ok_same : (r : Result (Unit {0}) Memory) (new x y : List Bool) → x ≡ y → OnOk r (new ≡ x) → OnOk r (new ≡ y)
on_ok_same (Ok d) new x y e h = h ∙ e
on_ok_same (Err m) new x y e h = tt

pub not_visited : (funcs : List Func) (f : ℕ) (marks : List Bool) → length funcs ≤ f → marks ≡ marked (calls_at (map function_of funcs) f) marks
not_visited funcs f marks h = nothing_called (map function_of funcs) f marks (omega (arith, h, length-functions funcs))

pub waits_noted : (f : ℕ) (marks more : List Bool) (waiting longer : List ℕ) → f < length marks → mark_at marks f ≡ false → more ≡ set marks f true → longer ≡ waiting ++ f ∷ [] → Waits marks more waiting longer
waits_noted f marks more waiting longer h m e d = subst (λ l. Waits marks more waiting l) (sym d) (subst (λ l. Waits marks l waiting (waiting ++ f ∷ [])) (sym e) (waits_one f marks waiting h m))

-- the roots that are marked
pub first_marks : (roots : List (Option ℕ)) (funcs : List Func) (none marks : List Bool) → none ≡ replicate (length funcs) false → marks ≡ marked (is_root roots) none → marks ≡ roots_from 0 roots (map function_of funcs)
first_marks roots funcs none marks e m =
    m ∙ ap (marked (is_root roots)) (e ∙ ap (λ n. replicate n false) (sym (length-functions funcs))) ∙ roots_are roots (map function_of funcs)

length-roots : (x : ℕ) (roots : List (Option ℕ)) (functions : List Function) → length (roots_from x roots functions) ≡ length functions
length-roots x roots [] = refl
length-roots x roots (f ∷ functions) = ap suc (length-roots (x + 1) roots functions)

pub reached_result : (roots : List (Option ℕ)) (funcs : List Func) (first marks : List Bool) → first ≡ roots_from 0 roots (map function_of funcs) → marks ≡ spread (length first) (map function_of funcs) first → marks ≡ reached roots (map function_of funcs)
reached_result roots funcs first marks e m =
    m ∙ ap (λ l. spread (length l) (map function_of funcs) l) e ∙ ap (λ n. spread n (map function_of funcs) (roots_from 0 roots (map function_of funcs))) (length-roots 0 roots (map function_of funcs))
