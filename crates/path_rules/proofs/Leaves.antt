-- Summaries of single steps.
use Rattle.std.proofs.Common.{◌≡◌, ℕ, ◌⊎◌, inl, inr, Bool, true, false, None, refl, sym, ◌∙◌, subst, arith}
use Rattle.std.specs.Prelude.{◌==◌, if◌then◌else◌}
use Rattle.std.proofs.lemmas.Bool.{true≢false, false≢true, cond-true, cond-false, cond_both}
use Rattle.puya_base.specs.declared.source.Place.{Place}
use Rattle.puya_base.specs.declared.source.Refusal.{Refusal}
use Rattle.path_rules.specs.declared.summary.Exits.{Exits}
use Rattle.path_rules.specs.declared.summary.Endings.{Endings}
use Rattle.path_rules.specs.declared.summary.Effect.{Effect}
use Rattle.path_rules.specs.Steps.{Step, broken, read, assign, forget, may_end, break, continue, return, one, an_end}
use Rattle.path_rules.specs.Walks.{Exit, goes, leaves, breaks, continues, Way, out, returns, at, set_to, Walk, past_fault, at_read, past_read, assigns, forgets, ends, stays, broken_off, continued, returned}
use Rattle.path_rules.specs.Rules.{IsNotAfter}
use Rattle.path_rules.specs.Summaries.{no_exits, no_endings, untouched, endings_from, only_goes, exits_at_end, only_breaks, only_continues, plain, naming, read_effect, assign_effect, forget_effect}
use Rattle.path_rules.specs.Describes.{has, AreEndings, Ends, Describes}
use Rattle.path_rules.proofs.WalkLaws.{one_to, one_from}
use Rattle.path_rules.proofs.EndingLaws.{endings_iff, endings_none, none_has, same_exit}
use Rattle.path_rules.proofs.TogetherLaws.{only_has, describes_nothing}

-- ---- steps that name no variable

abbrev OnlyOut : Step → Exits → Type 0
OnlyOut f o = (x : ℕ) (s : Bool) (w : Way) (t : Bool) → Walk x f s w t → (e : Exit) × (w ≡ out e) × (has o e ≡ true) × (s ≡ t)

abbrev GivesOut : Step → Exits → Type 0
GivesOut f o = (x : ℕ) (s : Bool) (e : Exit) → has o e ≡ true → Walk x f s (out e) s

plain_exit : (f : Step) (o : Exits) → OnlyOut f o → (x : ℕ) (s : Bool) (e : Exit) (t : Bool) → Walk x f s (out e) t → has o e ≡ true
plain_exit f o only x s e t h = let r = only x s (out e) t h in same_exit o r.0 e (sym r.1) r.2

plain_effect : (f : Step) (o : Exits) → OnlyOut f o → GivesOut f o → (x : ℕ) (s : Bool) → AreEndings (λ w. Walk x f s w false) (endings_from s (untouched o))
plain_effect f o only made x true = endings_none (λ w. Walk x f true w false) (λ w h. true≢false (only x true w false h).3)
plain_effect f o only made x false = record {
  each = λ e h. made x false e h;
  all = λ e h. plain_exit f o only x false e false h;
  first = λ p h. let k = (only x false (at p) false h).1 in cc;
}

one_endings : (x : ℕ) (f : Step) (s : Bool) (a : Endings) → AreEndings (λ w. Walk x f s w false) a → AreEndings (Ends x (one f) s) a
one_endings x f s a h = endings_iff (λ w. Walk x f s w false) (Ends x (one f) s) (λ w k. one_to x f s w false k) (λ w k. one_from x f s w false k) a h

plain_describes : (f : Step) (o : Exits) → OnlyOut f o → GivesOut f o → Describes (plain o) (one f)
plain_describes f o only made = record {
  rises = tt;
  others = λ x s. record {
    each = λ e h. (tt, (s, one_to x f s (out e) s (made x s e h)));
    all = λ e h. plain_exit f o only x s e h.1.0 (one_from x f s (out e) h.1.0 h.1.1);
    first = λ p h. h.0;
  };
  effects = λ x s. one_endings x f s (endings_from s (untouched o)) (plain_effect f o only made x s);
}

fault_only : (r : Refusal) → OnlyOut (broken r) only_goes
fault_only r x _ _ _ (past_fault _ s) = (goes, refl, refl, refl)

pub describes_fault : (r : Refusal) → Describes (plain only_goes) (one (broken r))
describes_fault r = plain_describes (broken r) only_goes (fault_only r) (λ x s e h. subst (λ z. Walk x (broken r) s (out z) s) (sym (only_has e h)) (past_fault r s))

break_only : (p : Place) → OnlyOut (break p) only_breaks
break_only p x _ _ _ (broken_off _ s) = (breaks, refl, refl, refl)

break_made : (p : Place) → GivesOut (break p) only_breaks
break_made p x s goes h = absurd (false≢true h)
break_made p x s leaves h = absurd (false≢true h)
break_made p x s breaks h = broken_off p s
break_made p x s continues h = absurd (false≢true h)

pub describes_break : (p : Place) → Describes (plain only_breaks) (one (break p))
describes_break p = plain_describes (break p) only_breaks (break_only p) (break_made p)

continue_only : (p : Place) → OnlyOut (continue p) only_continues
continue_only p x _ _ _ (continued _ s) = (continues, refl, refl, refl)

continue_made : (p : Place) → GivesOut (continue p) only_continues
continue_made p x s goes h = absurd (false≢true h)
continue_made p x s leaves h = absurd (false≢true h)
continue_made p x s breaks h = absurd (false≢true h)
continue_made p x s continues h = continued p s

pub describes_continue : (p : Place) → Describes (plain only_continues) (one (continue p))
describes_continue p = plain_describes (continue p) only_continues (continue_only p) (continue_made p)

return_cases : (x : ℕ) (s : Bool) (w : Way) (t : Bool) → Walk x return s w t → w ≡ returns
return_cases x _ _ _ (returned s) = refl

no_return : (x : ℕ) (s : Bool) → AreEndings (λ w. Walk x return s w false) no_endings
no_return x s = record {
  each = λ e h. absurd (none_has e h);
  all = λ e h. let k = return_cases x s (out e) false h in absurd (cc);
  first = λ p h. let k = return_cases x s (at p) false h in cc;
}

return_effect : (x : ℕ) (s : Bool) → AreEndings (λ w. Walk x return s w false) (endings_from s (untouched no_exits))
return_effect x true = no_return x true
return_effect x false = no_return x false

pub describes_return : Describes (plain no_exits) (one return)
describes_return = record {
  rises = tt;
  others = λ x s. record {
    each = λ e h. absurd (none_has e h);
    all = λ e h. let k = return_cases x s (out e) h.1.0 (one_from x return s (out e) h.1.0 h.1.1) in absurd (cc);
    first = λ p h. h.0;
  };
  effects = λ x s. one_endings x return s (endings_from s (untouched no_exits)) (return_effect x s);
}

end_only : OnlyOut may_end exits_at_end
end_only x _ _ _ (ends s) = (leaves, refl, refl, refl)
end_only x _ _ _ (stays s) = (goes, refl, refl, refl)

end_made : GivesOut may_end exits_at_end
end_made x s goes h = stays s
end_made x s leaves h = ends s
end_made x s breaks h = absurd (false≢true h)
end_made x s continues h = absurd (false≢true h)

pub describes_end : (b : Bool) → Describes (plain (if b then exits_at_end else only_goes)) (an_end b)
describes_end true = plain_describes may_end exits_at_end end_only end_made
describes_end false = describes_nothing

-- ---- steps that name one variable

not_after_itself : (p : Place) → IsNotAfter p p
not_after_itself p = inr (refl, omega arith)

naming_describes : (f : Step) (y : ℕ) (effect : Effect)
    → ((x : ℕ) (s : Bool) (e : Exit) (t : Bool) → Walk x f s (out e) t → out e ≡ out goes)
    → ((x : ℕ) (s : Bool) → (t : Bool) × Walk x f s (out goes) t)
    → ((x : ℕ) → (x == y) ≡ false → (s : Bool) → AreEndings (λ w. Walk x f s w false) (endings_from s (untouched only_goes)))
    → ((x : ℕ) → (x == y) ≡ true → (s : Bool) → AreEndings (λ w. Walk x f s w false) (endings_from s effect))
    → Describes (naming y effect) (one f)
naming_describes f y effect only made others named = record {
  rises = (omega arith, tt);
  others = λ x s. record {
    each = λ e h. let m = made x s in (tt, (m.0, one_to x f s (out e) m.0 (subst (λ z. Walk x f s (out z) m.0) (sym (only_has e h)) m.1)));
    all = λ e h. same_exit only_goes goes e (sym (only x s e h.1.0 (one_from x f s (out e) h.1.0 h.1.1))) refl;
    first = λ p h. h.0;
  };
  effects = λ x s. cond_both (x == y) effect (untouched only_goes) (λ e. AreEndings (Ends x (one f) s) (endings_from s e))
      (λ h. one_endings x f s (endings_from s effect) (named x h s)) (λ h. one_endings x f s (endings_from s (untouched only_goes)) (others x h s));
}

-- of a variable that the step does not name
passing : (x : ℕ) (f : Step) → ((s : Bool) (w : Way) → Walk x f s w false → (w ≡ out goes) × (s ≡ false)) → Walk x f false (out goes) false → (s : Bool) → AreEndings (λ w. Walk x f s w false) (endings_from s (untouched only_goes))
passing x f only made true = endings_none (λ w. Walk x f true w false) (λ w h. true≢false (only true w h).1)
passing x f only made false = record {
  each = λ e h. subst (λ z. Walk x f false (out z) false) (sym (only_has e h)) made;
  all = λ e h. same_exit only_goes goes e (sym (only false (out e) h).0) refl;
  first = λ p h. let k = (only false (at p) h).0 in cc;
}

read_cases : (x y : ℕ) (p : Place) (s : Bool) (w : Way) (t : Bool) → Walk x (read y p) s w t → ((w ≡ at p) × ((x == y) ≡ true) × (s ≡ t)) ⊎ ((w ≡ out goes) × (s ≡ t))
read_cases x _ _ _ _ _ (at_read y p s h) = inl (refl, h, refl)
read_cases x _ _ _ _ _ (past_read y p s) = inr (refl, refl)

read_only : (x y : ℕ) (p : Place) (s : Bool) (e : Exit) (t : Bool) → Walk x (read y p) s (out e) t → out e ≡ out goes
read_only x y p s e t h = elim (read_cases x y p s (out e) t h) [ inl k ↦ (let r = k.0 in absurd (cc)) | inr k ↦ k.0 ]

read_kept : (x y : ℕ) (p : Place) (s : Bool) → (w : Way) → Walk x (read y p) s w false → s ≡ false
read_kept x y p s w h = elim (read_cases x y p s w false h) [ inl k ↦ k.2 | inr k ↦ k.1 ]

read_first : (x y : ℕ) (p q : Place) (s : Bool) → Walk x (read y p) s (at q) false → IsNotAfter p q
read_first x y p q s h = elim (read_cases x y p s (at q) false h) [
  | inl k ↦ (let r = k.0 in let is : p ≡ q = cc in subst (λ z. IsNotAfter p z) is (not_after_itself p))
  | inr k ↦ (let r = k.0 in absurd (cc))
]

read_named : (x y : ℕ) (p : Place) → (x == y) ≡ true → (s : Bool) → AreEndings (λ w. Walk x (read y p) s w false) (endings_from s (read_effect p))
read_named x y p e true = endings_none (λ w. Walk x (read y p) true w false) (λ w h. true≢false (read_kept x y p true w h))
read_named x y p e false = record {
  each = λ d h. subst (λ z. Walk x (read y p) false (out z) false) (sym (only_has d h)) (past_read y p false);
  all = λ d h. same_exit only_goes goes d (sym (read_only x y p false d false h)) refl;
  first = (at_read y p false e, λ q h. read_first x y p q false h);
}

read_other : (x y : ℕ) (p : Place) → (x == y) ≡ false → (s : Bool) (w : Way) → Walk x (read y p) s w false → (w ≡ out goes) × (s ≡ false)
read_other x y p e s w h = elim (read_cases x y p s w false h) [ inl k ↦ absurd (false≢true (sym e ∙ k.1)) | inr k ↦ k ]

pub describes_read : (y : ℕ) (p : Place) → Describes (naming y (read_effect p)) (one (read y p))
describes_read y p =
    naming_describes (read y p) y (read_effect p) (λ x s e t h. read_only x y p s e t h) (λ x s. (s, past_read y p s))
    (λ x h. passing x (read y p) (read_other x y p h) (past_read y p false)) (λ x h. read_named x y p h)

assign_cases : (x y : ℕ) (s : Bool) (w : Way) (t : Bool) → Walk x (assign y) s w t → (w ≡ out goes) × (t ≡ set_to x y true s)
assign_cases x _ _ _ _ (assigns y s) = (refl, refl)

assign_named : (x y : ℕ) → (x == y) ≡ true → (s : Bool) → AreEndings (λ w. Walk x (assign y) s w false) no_endings
assign_named x y e s = endings_none (λ w. Walk x (assign y) s w false) (λ w h. false≢true ((assign_cases x y s w false h).1 ∙ cond-true (x == y) true s e))

assign_effects : (x y : ℕ) → (x == y) ≡ true → (s : Bool) → AreEndings (λ w. Walk x (assign y) s w false) (endings_from s assign_effect)
assign_effects x y e true = assign_named x y e true
assign_effects x y e false = assign_named x y e false

assign_other : (x y : ℕ) → (x == y) ≡ false → (s : Bool) (w : Way) → Walk x (assign y) s w false → (w ≡ out goes) × (s ≡ false)
assign_other x y e s w h = let k = assign_cases x y s w false h in (k.0, sym (k.1 ∙ cond-false (x == y) true s e))

pub describes_assign : (y : ℕ) → Describes (naming y assign_effect) (one (assign y))
describes_assign y =
    naming_describes (assign y) y assign_effect (λ x s e t h. (assign_cases x y s (out e) t h).0) (λ x s. (set_to x y true s, assigns y s))
    (λ x h. passing x (assign y) (assign_other x y h) (subst (λ t. Walk x (assign y) false (out goes) t) (cond-false (x == y) true false h) (assigns y false))) (λ x h. assign_effects x y h)

forget_cases : (x y : ℕ) (s : Bool) (w : Way) (t : Bool) → Walk x (forget y) s w t → (w ≡ out goes) × (t ≡ set_to x y false s)
forget_cases x _ _ _ _ (forgets y s) = (refl, refl)

forget_named : (x y : ℕ) → (x == y) ≡ true → (s : Bool) → AreEndings (λ w. Walk x (forget y) s w false) (record { exits = only_goes; read = None })
forget_named x y e s = record {
  each = λ d h. subst (λ z. Walk x (forget y) s (out z) false) (sym (only_has d h)) (subst (λ t. Walk x (forget y) s (out goes) t) (cond-true (x == y) false s e) (forgets y s));
  all = λ d h. same_exit only_goes goes d (sym (forget_cases x y s (out d) false h).0) refl;
  first = λ p h. let k = (forget_cases x y s (at p) false h).0 in cc;
}

forget_effects : (x y : ℕ) → (x == y) ≡ true → (s : Bool) → AreEndings (λ w. Walk x (forget y) s w false) (endings_from s forget_effect)
forget_effects x y e true = forget_named x y e true
forget_effects x y e false = forget_named x y e false

forget_other : (x y : ℕ) → (x == y) ≡ false → (s : Bool) (w : Way) → Walk x (forget y) s w false → (w ≡ out goes) × (s ≡ false)
forget_other x y e s w h = let k = forget_cases x y s w false h in (k.0, sym (k.1 ∙ cond-false (x == y) false s e))

pub describes_forget : (y : ℕ) → Describes (naming y forget_effect) (one (forget y))
describes_forget y =
    naming_describes (forget y) y forget_effect (λ x s e t h. (forget_cases x y s (out e) t h).0) (λ x s. (set_to x y false s, forgets y s))
    (λ x h. passing x (forget y) (forget_other x y h) (subst (λ t. Walk x (forget y) false (out goes) t) (cond-false (x == y) false false h) (forgets y false))) (λ x h. forget_effects x y h)
