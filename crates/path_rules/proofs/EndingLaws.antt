-- Endings of ways that are put together.
use Rattle.std.proofs.Common.{◌≡◌, ◌⊎◌, inl, inr, Bool, true, false, Some, None, refl, sym, ◌∙◌, subst, arith}
use Rattle.std.specs.Prelude.{◌||◌, if◌then◌else◌, ◌==◌, nat_lt}
use Rattle.std.proofs.lemmas.Bool.{false≢true, or_cases, or_left, or_right, ltb-true, ltb-false, eqb-true, eqb-false}
use Rattle.puya_base.specs.declared.source.Place.{Place}
use Rattle.path_rules.specs.declared.summary.Exits.{Exits}
use Rattle.path_rules.specs.declared.summary.Endings.{Endings}
use Rattle.path_rules.specs.declared.summary.Effect.{Effect}
use Rattle.path_rules.specs.Walks.{Exit, goes, leaves, breaks, continues, Way, out, returns, at, is_on, behind_arm, behind_if, behind_loop}
use Rattle.path_rules.specs.Rules.{IsNotAfter}
use Rattle.path_rules.specs.Order.{is_before}
use Rattle.path_rules.specs.Summaries.{no_exits, no_endings, either_exits, either, given, halted, endings_behind, arm_endings, if_endings, loop_endings, comes_back}
use Rattle.path_rules.specs.Describes.{has, AreEndings}
use Rattle.path_rules.proofs.Firsts.{IsTest, least_iff, least_either}

-- ---- the order of places

before_holds : (p q : Place) (c : Bool) → (p.line == q.line) ≡ c → (if c then nat_lt p.col q.col else nat_lt p.line q.line) ≡ true → IsNotAfter p q
before_holds p q true e h = let l = eqb-true p.line q.line e in let k = ltb-true p.col q.col h in inr (l, omega arith)
before_holds p q false e h = inl (ltb-true p.line q.line h)

before_fails : (p q : Place) (c : Bool) → (p.line == q.line) ≡ c → (if c then nat_lt p.col q.col else nat_lt p.line q.line) ≡ false → IsNotAfter q p
before_fails p q true e h = inr (sym (eqb-true p.line q.line e), ltb-false p.col q.col h)
before_fails p q false e h = let d = eqb-false p.line q.line e in let l = ltb-false p.line q.line h in inl (omega arith)

not_after_through : (p q r : Place) → IsNotAfter p q → IsNotAfter q r → IsNotAfter p r
not_after_through p q r (inl h) (inl k) = inl (omega arith)
not_after_through p q r (inl h) (inr k) = let l = k.0 in inl (omega arith)
not_after_through p q r (inr h) (inl k) = let l = h.0 in inl (omega arith)
not_after_through p q r (inr h) (inr k) = let l = h.1 in let m = k.1 in inr (h.0 ∙ k.0, omega arith)

pub place_test : IsTest IsNotAfter is_before
place_test = record {
  holds = λ p q h. before_holds p q (p.line == q.line) refl h;
  fails = λ p q h. before_fails p q (p.line == q.line) refl h;
  through = not_after_through;
}

-- ---- exits

pub none_has : (e : Exit) → has no_exits e ≡ true → ⊥
none_has goes h = false≢true h
none_has leaves h = false≢true h
none_has breaks h = false≢true h
none_has continues h = false≢true h

has_either : (a b : Exits) (e : Exit) → has (either_exits a b) e ≡ (has a e || has b e)
has_either a b goes = refl
has_either a b leaves = refl
has_either a b breaks = refl
has_either a b continues = refl

-- ---- endings

pub endings_iff : (P Q : Way → Type 0) → ((w : Way) → P w → Q w) → ((w : Way) → Q w → P w) → (a : Endings) → AreEndings P a → AreEndings Q a
endings_iff P Q to from a h = record {
  each = λ e k. to (out e) (h.each e k);
  all = λ e q. h.all e (from (out e) q);
  first = least_iff IsNotAfter (λ p. P (at p)) (λ p. Q (at p)) (λ p. to (at p)) (λ p. from (at p)) a.read h.first;
}

pub endings_either : (P Q : Way → Type 0) (a b : Endings) → AreEndings P a → AreEndings Q b → AreEndings (λ w. P w ⊎ Q w) (either a b)
endings_either P Q a b h k = record {
  each = λ e g. elim (or_cases (has a.exits e) (has b.exits e) (sym (has_either a.exits b.exits e) ∙ g)) [ inl i ↦ inl (h.each e i) | inr j ↦ inr (k.each e j) ];
  all = λ e r. has_either a.exits b.exits e ∙ elim r [ inl p ↦ or_left (has a.exits e) (has b.exits e) (h.all e p) | inr q ↦ or_right (has a.exits e) (has b.exits e) (k.all e q) ];
  first = least_either IsNotAfter is_before place_test (λ p. P (at p)) (λ p. Q (at p)) a.read b.read h.first k.first;
}

pub endings_none : (P : Way → Type 0) → ((w : Way) → P w → ⊥) → AreEndings P no_endings
endings_none P none = record { each = λ e h. absurd (none_has e h); all = λ e h. absurd (none (out e) h); first = λ p h. none (at p) h }

pub endings_given : (P : Way → Type 0) (c : Bool) (a : Endings) → AreEndings P a → AreEndings (λ w. (c ≡ true) × P w) (given c a)
endings_given P true a h = endings_iff P (λ w. (true ≡ true) × P w) (λ w p. (refl, p)) (λ w p. p.1) a h
endings_given P false a h = endings_none (λ w. (false ≡ true) × P w) (λ w p. false≢true p.0)

halted_each : (P : Way → Type 0) (a : Endings) → AreEndings P a → (e : Exit) → has (halted a).exits e ≡ true → (is_on (out e) ≡ false) × P (out e)
halted_each P a h goes k = absurd (false≢true k)
halted_each P a h leaves k = (refl, h.each leaves k)
halted_each P a h breaks k = (refl, h.each breaks k)
halted_each P a h continues k = (refl, h.each continues k)

halted_all : (P : Way → Type 0) (a : Endings) → AreEndings P a → (e : Exit) → (is_on (out e) ≡ false) × P (out e) → has (halted a).exits e ≡ true
halted_all P a h goes k = absurd (false≢true (sym k.0))
halted_all P a h leaves k = h.all leaves k.1
halted_all P a h breaks k = h.all breaks k.1
halted_all P a h continues k = h.all continues k.1

endings_halted : (P : Way → Type 0) (a : Endings) → AreEndings P a → AreEndings (λ w. (is_on w ≡ false) × P w) (halted a)
endings_halted P a h = record {
  each = halted_each P a h;
  all = halted_all P a h;
  first = least_iff IsNotAfter (λ p. P (at p)) (λ p. (is_on (at p) ≡ false) × P (at p)) (λ p q. (refl, q)) (λ p q. q.1) a.read h.first;
}

-- one piece behind another
pub endings_behind_are : (P Q R : Way → Type 0) (C : Type 0) (a : Endings) (on : Bool) (e : Effect) → (on ≡ true → C) → (C → on ≡ true) → AreEndings P a → AreEndings Q e.unassigned → AreEndings R e.assigned → AreEndings (λ w. ((is_on w ≡ false) × P w) ⊎ ((P (out goes) × Q w) ⊎ (C × R w))) (endings_behind a on e)
endings_behind_are P Q R C a on e to from h k m =
    endings_iff (λ w. ((is_on w ≡ false) × P w) ⊎ (((a.exits.goes ≡ true) × Q w) ⊎ ((on ≡ true) × R w))) (λ w. ((is_on w ≡ false) × P w) ⊎ ((P (out goes) × Q w) ⊎ (C × R w)))
    (λ w r. elim r [ inl p ↦ inl p | inr q ↦ elim q [ inl i ↦ inr (inl (h.each goes i.0, i.1)) | inr j ↦ inr (inr (to j.0, j.1)) ] ])
    (λ w r. elim r [ inl p ↦ inl p | inr q ↦ elim q [ inl i ↦ inr (inl (h.all goes i.0, i.1)) | inr j ↦ inr (inr (from j.0, j.1)) ] ])
    (endings_behind a on e)
    (endings_either (λ w. (is_on w ≡ false) × P w) (λ w. ((a.exits.goes ≡ true) × Q w) ⊎ ((on ≡ true) × R w)) (halted a) (either (given a.exits.goes e.unassigned) (given on e.assigned)) (endings_halted P a h)
    (endings_either (λ w. (a.exits.goes ≡ true) × Q w) (λ w. (on ≡ true) × R w) (given a.exits.goes e.unassigned) (given on e.assigned) (endings_given Q a.exits.goes e.unassigned k) (endings_given R on e.assigned m)))

-- ---- in a frame

pub same_exit : (a : Exits) (d e : Exit) → out d ≡ out e → has a d ≡ true → has a e ≡ true
same_exit a d e q h = let f : d ≡ e = cc in subst (λ z. has a z ≡ true) f h

arm_each : (P : Way → Type 0) (passes : Bool) (a : Endings) → AreEndings P a → (e : Exit) → has (arm_endings passes a).exits e ≡ true → ((passes ≡ true) × (out e ≡ out goes)) ⊎ ((w : Way) × P w × (behind_arm w ≡ out e))
arm_each P passes a h goes k = inl (k, refl)
arm_each P passes a h leaves k = elim (or_cases a.exits.goes a.exits.leaves k) [ inl i ↦ inr (out goes, h.each goes i, refl) | inr i ↦ inr (out leaves, h.each leaves i, refl) ]
arm_each P passes a h breaks k = inr (out breaks, h.each breaks k, refl)
arm_each P passes a h continues k = inr (out continues, h.each continues k, refl)

arm_done : (P : Way → Type 0) (passes : Bool) (a : Endings) → AreEndings P a → (e : Exit) (w : Way) → P w → behind_arm w ≡ out e → has (arm_endings passes a).exits e ≡ true
arm_done P passes a h e (out goes) p q = same_exit (arm_endings passes a).exits leaves e q (or_left a.exits.goes a.exits.leaves (h.all goes p))
arm_done P passes a h e (out leaves) p q = same_exit (arm_endings passes a).exits leaves e q (or_right a.exits.goes a.exits.leaves (h.all leaves p))
arm_done P passes a h e (out breaks) p q = same_exit (arm_endings passes a).exits breaks e q (h.all breaks p)
arm_done P passes a h e (out continues) p q = same_exit (arm_endings passes a).exits continues e q (h.all continues p)
arm_done P passes a h e returns p q = absurd (cc)
arm_done P passes a h e (at r) p q = absurd (cc)

arm_at : (w : Way) (p : Place) → behind_arm w ≡ at p → w ≡ at p
arm_at (out goes) p e = cc
arm_at (out leaves) p e = cc
arm_at (out breaks) p e = cc
arm_at (out continues) p e = cc
arm_at returns p e = cc
arm_at (at q) p e = e

pub arm_are : (P : Way → Type 0) (passes : Bool) (a : Endings) → AreEndings P a → AreEndings (λ v. ((passes ≡ true) × (v ≡ out goes)) ⊎ ((w : Way) × P w × (behind_arm w ≡ v))) (arm_endings passes a)
arm_are P passes a h = record {
  each = arm_each P passes a h;
  all = λ e r. elim r [
    | inl p ↦ let q : out goes ≡ out e = sym p.1 in same_exit (arm_endings passes a).exits goes e q p.0
    | inr p ↦ arm_done P passes a h e p.0 p.1 p.2
  ];
  first = least_iff IsNotAfter (λ p. P (at p)) (λ p. ((passes ≡ true) × (at p ≡ out goes)) ⊎ ((w : Way) × P w × (behind_arm w ≡ at p))) (λ p q. inr (at p, q, refl))
      (λ p r. elim r [ inl q ↦ let k = q.1 in absurd (cc) | inr q ↦ subst P (arm_at q.0 p q.2) q.1 ]) a.read h.first;
}

if_each : (P : Way → Type 0) (a : Endings) → AreEndings P a → (e : Exit) → has (if_endings a).exits e ≡ true → (w : Way) × P w × (behind_if w ≡ out e)
if_each P a h goes k = elim (or_cases a.exits.goes a.exits.leaves k) [ inl i ↦ (out goes, h.each goes i, refl) | inr i ↦ (out leaves, h.each leaves i, refl) ]
if_each P a h leaves k = absurd (false≢true k)
if_each P a h breaks k = (out breaks, h.each breaks k, refl)
if_each P a h continues k = (out continues, h.each continues k, refl)

if_done : (P : Way → Type 0) (a : Endings) → AreEndings P a → (e : Exit) (w : Way) → P w → behind_if w ≡ out e → has (if_endings a).exits e ≡ true
if_done P a h e (out goes) p q = same_exit (if_endings a).exits goes e q (or_left a.exits.goes a.exits.leaves (h.all goes p))
if_done P a h e (out leaves) p q = same_exit (if_endings a).exits goes e q (or_right a.exits.goes a.exits.leaves (h.all leaves p))
if_done P a h e (out breaks) p q = same_exit (if_endings a).exits breaks e q (h.all breaks p)
if_done P a h e (out continues) p q = same_exit (if_endings a).exits continues e q (h.all continues p)
if_done P a h e returns p q = absurd (cc)
if_done P a h e (at r) p q = absurd (cc)

if_at : (w : Way) (p : Place) → behind_if w ≡ at p → w ≡ at p
if_at (out goes) p e = cc
if_at (out leaves) p e = cc
if_at (out breaks) p e = cc
if_at (out continues) p e = cc
if_at returns p e = cc
if_at (at q) p e = e

pub if_are : (P : Way → Type 0) (a : Endings) → AreEndings P a → AreEndings (λ v. (w : Way) × P w × (behind_if w ≡ v)) (if_endings a)
if_are P a h = record {
  each = if_each P a h;
  all = λ e r. if_done P a h e r.0 r.1 r.2;
  first = least_iff IsNotAfter (λ p. P (at p)) (λ p. (w : Way) × P w × (behind_if w ≡ at p)) (λ p q. (at p, q, refl)) (λ p q. subst P (if_at q.0 p q.2) q.1) a.read h.first;
}

loop_each : (P : Way → Type 0) (a : Endings) → AreEndings P a → (e : Exit) → has (loop_endings a).exits e ≡ true → (w : Way) × P w × (behind_loop w ≡ Some (out e))
loop_each P a h goes k = elim (or_cases a.exits.leaves a.exits.breaks k) [ inl i ↦ (out leaves, h.each leaves i, refl) | inr i ↦ (out breaks, h.each breaks i, refl) ]
loop_each P a h leaves k = absurd (false≢true k)
loop_each P a h breaks k = absurd (false≢true k)
loop_each P a h continues k = absurd (false≢true k)

loop_done : (P : Way → Type 0) (a : Endings) → AreEndings P a → (e : Exit) (w : Way) → P w → behind_loop w ≡ Some (out e) → has (loop_endings a).exits e ≡ true
loop_done P a h e (out goes) p q = absurd (cc)
loop_done P a h e (out leaves) p q = let r : out goes ≡ out e = cc in same_exit (loop_endings a).exits goes e r (or_left a.exits.leaves a.exits.breaks (h.all leaves p))
loop_done P a h e (out breaks) p q = let r : out goes ≡ out e = cc in same_exit (loop_endings a).exits goes e r (or_right a.exits.leaves a.exits.breaks (h.all breaks p))
loop_done P a h e (out continues) p q = absurd (cc)
loop_done P a h e returns p q = absurd (cc)
loop_done P a h e (at r) p q = absurd (cc)

loop_at : (w : Way) (p : Place) → behind_loop w ≡ Some (at p) → w ≡ at p
loop_at (out goes) p e = cc
loop_at (out leaves) p e = cc
loop_at (out breaks) p e = cc
loop_at (out continues) p e = cc
loop_at returns p e = cc
loop_at (at q) p e = cc

pub loop_are : (P : Way → Type 0) (a : Endings) → AreEndings P a → AreEndings (λ v. (w : Way) × P w × (behind_loop w ≡ Some v)) (loop_endings a)
loop_are P a h = record {
  each = loop_each P a h;
  all = λ e r. loop_done P a h e r.0 r.1 r.2;
  first = least_iff IsNotAfter (λ p. P (at p)) (λ p. (w : Way) × P w × (behind_loop w ≡ Some (at p))) (λ p q. (at p, q, refl)) (λ p q. subst P (loop_at q.0 p q.2) q.1) a.read h.first;
}

pub back_to : (P : Way → Type 0) (a : Endings) → AreEndings P a → comes_back a.exits ≡ true → (w : Way) × P w × (behind_loop w ≡ None)
back_to P a h k = elim (or_cases a.exits.goes a.exits.continues k) [ inl i ↦ (out goes, h.each goes i, refl) | inr i ↦ (out continues, h.each continues i, refl) ]

pub back_from : (P : Way → Type 0) (a : Endings) → AreEndings P a → (w : Way) → P w → behind_loop w ≡ None → comes_back a.exits ≡ true
back_from P a h (out goes) p q = or_left a.exits.goes a.exits.continues (h.all goes p)
back_from P a h (out leaves) p q = absurd (cc)
back_from P a h (out breaks) p q = absurd (cc)
back_from P a h (out continues) p q = or_right a.exits.goes a.exits.continues (h.all continues p)
back_from P a h returns p q = absurd (cc)
back_from P a h (at r) p q = absurd (cc)
