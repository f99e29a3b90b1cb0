-- What follows steps: moves one behind another, and what is done to a variable.
use Rattle.std.proofs.Common.{◌≡◌, ℕ, ◌⊎◌, inl, inr, Bool, true, false, List, [], ◌∷◌, ◌++◌, refl, sym, ap, subst}
use Rattle.puya_base.specs.declared.source.Place.{Place}
use Rattle.awst.specs.Paths as Paths
use Rattle.awst.specs.Paths.{Moves, Way, none, one, joined}
use Rattle.path_rules.specs.declared.note.Note.{Note}
use Rattle.path_rules.specs.Steps as steps
use Rattle.path_rules.specs.Steps.{Steps, no_steps, a_step, before, step_of, steps_of}
use Rattle.path_rules.specs.Walks as Walks
use Rattle.path_rules.specs.Walks.{out, goes, leaves, is_on}
use Rattle.path_rules.proofs.WalkLaws.{stop_before, on_before, one_to}
use Rattle.typing_laws.proofs.Truths.{never}
use Rattle.typing_laws.proofs.Good.{Agrees, Follows, Followed}
use Rattle.typing_laws.proofs.Moving.{split, one_from}

-- ---- ways

-- a walk of moves that goes on is one of steps that does
pub goes_agrees : (v : Walks.Way) → Agrees Paths.goes_on v → v ≡ out goes
goes_agrees (out goes) h = refl
goes_agrees (out leaves) h = absurd h
goes_agrees (out Walks.breaks) h = absurd h
goes_agrees (out Walks.continues) h = absurd h
goes_agrees Walks.returns h = absurd h
goes_agrees (Walks.at p) h = absurd h

pub break_agrees : (v : Walks.Way) → Agrees Paths.at_break v → v ≡ out Walks.breaks
break_agrees (out goes) h = absurd h
break_agrees (out leaves) h = absurd h
break_agrees (out Walks.breaks) h = refl
break_agrees (out Walks.continues) h = absurd h
break_agrees Walks.returns h = absurd h
break_agrees (Walks.at p) h = absurd h

pub continue_agrees : (v : Walks.Way) → Agrees Paths.at_continue v → v ≡ out Walks.continues
continue_agrees (out goes) h = absurd h
continue_agrees (out leaves) h = absurd h
continue_agrees (out Walks.breaks) h = absurd h
continue_agrees (out Walks.continues) h = refl
continue_agrees Walks.returns h = absurd h
continue_agrees (Walks.at p) h = absurd h

pub end_agrees : (v : Walks.Way) → Agrees Paths.at_end v → v ≡ Walks.returns
end_agrees (out goes) h = absurd h
end_agrees (out leaves) h = absurd h
end_agrees (out Walks.breaks) h = absurd h
end_agrees (out Walks.continues) h = absurd h
end_agrees Walks.returns h = refl
end_agrees (Walks.at p) h = absurd h

pub record ReadAt (v : Walks.Way) : Type 0 where
  pub place : Place
  pub is : v ≡ Walks.at place

pub read_agrees : (p : Place) (v : Walks.Way) → Agrees (Paths.at_read p) v → ReadAt v
read_agrees p (out goes) h = absurd h
read_agrees p (out leaves) h = absurd h
read_agrees p (out Walks.breaks) h = absurd h
read_agrees p (out Walks.continues) h = absurd h
read_agrees p Walks.returns h = absurd h
read_agrees p (Walks.at q) h = record { place = q; is = refl }

-- one that does not go on does not
pub stops_agree : (w : Way) (v : Walks.Way) → Agrees w v → Paths.is_going w ≡ false → is_on v ≡ false
stops_agree Paths.goes_on v h e = never (sym e)
stops_agree Paths.at_break v h e = rw (break_agrees v h) refl
stops_agree Paths.at_continue v h e = rw (continue_agrees v h) refl
stops_agree Paths.at_end v h e = rw (end_agrees v h) refl
stops_agree (Paths.at_read p) v h e = let r = read_agrees p v h in rw r.is refl

-- ---- nothing, and one list behind another

pub none_follow : Follows no_steps none
none_follow x _ _ _ (Paths.ended s) = record { way = out goes; agrees = tt; walk = Walks.ended s }

joined_by : (x : ℕ) (fs gs : Steps) (a b : Moves) (s u : Bool) (w : Way) → Follows fs a → Follows gs b
    → ((Paths.is_going w ≡ false) × Paths.Walks x a s w u) ⊎ ((t : Bool) × Paths.Walks x a s Paths.goes_on t × Paths.Walks x b t w u) → Followed x (before fs gs) s w u
joined_by x fs gs a b s u w f g (inl p) =
    let k = f x s u w p.1 in
    record { way = k.way; agrees = k.agrees; walk = stop_before x fs s k.way u k.walk gs (stops_agree w k.way k.agrees p.0) }
joined_by x fs gs a b s u w f g (inr p) =
    let k = f x s p.0 Paths.goes_on p.1 in
    let l = g x p.0 u w p.2 in
    record { way = l.way; agrees = l.agrees; walk = on_before x fs gs s p.0 l.way u (subst (λ v. Walks.Walks x fs s v p.0) (goes_agrees k.way k.agrees) k.walk) l.walk }

pub joined_follow : (fs gs : Steps) (a b : Moves) → Follows fs a → Follows gs b → Follows (before fs gs) (joined a b)
joined_follow fs gs a b f g x s u w h = joined_by x fs gs a b s u w f g (split x a b s w u h)

pub steps-append : (a b : List Note) → steps_of (a ++ b) ≡ before (steps_of a) (steps_of b)
steps-append [] b = refl
steps-append (n ∷ ns) b = ap (a_step (step_of n)) (steps-append ns b)

pub notes_follow : (a b : List Note) (m n : Moves) → Follows (steps_of a) m → Follows (steps_of b) n → Follows (steps_of (a ++ b)) (joined m n)
notes_follow a b m n f g = subst (λ z. Follows z (joined m n)) (sym (steps-append a b)) (joined_follow (steps_of a) (steps_of b) m n f g)

-- ---- what is done to a variable

sets_walk : (x y : ℕ) (s t : Bool) (w : Way) → Paths.Walk x (Paths.sets y) s w t → Followed x (steps.one (steps.assign y)) s w t
sets_walk x _ _ _ _ (Paths.setting y s) =
    record { way = out goes; agrees = tt; walk = one_to x (steps.assign y) s (out goes) (Walks.set_to x y true s) (Walks.assigns y s) }

pub sets_follow : (y : ℕ) → Follows (steps.one (steps.assign y)) (one (Paths.sets y) none)
sets_follow y x s t w h = sets_walk x y s t w (one_from x (Paths.sets y) s w t h)

forgets_walk : (x y : ℕ) (s t : Bool) (w : Way) → Paths.Walk x (Paths.forgets y) s w t → Followed x (steps.one (steps.forget y)) s w t
forgets_walk x _ _ _ _ (Paths.forgetting y s) =
    record { way = out goes; agrees = tt; walk = one_to x (steps.forget y) s (out goes) (Walks.set_to x y false s) (Walks.forgets y s) }

pub forgets_follow : (y : ℕ) → Follows (steps.one (steps.forget y)) (one (Paths.forgets y) none)
forgets_follow y x s t w h = forgets_walk x y s t w (one_from x (Paths.forgets y) s w t h)

break_walk : (x : ℕ) (p : Place) (s t : Bool) (w : Way) → Paths.Walk x Paths.breaks s w t → Followed x (steps.one (steps.break p)) s w t
break_walk x p _ _ _ (Paths.breaking s) =
    record { way = out Walks.breaks; agrees = tt; walk = one_to x (steps.break p) s (out Walks.breaks) s (Walks.broken_off p s) }

pub break_follow : (p : Place) → Follows (steps.one (steps.break p)) (one Paths.breaks none)
break_follow p x s t w h = break_walk x p s t w (one_from x Paths.breaks s w t h)

continue_walk : (x : ℕ) (p : Place) (s t : Bool) (w : Way) → Paths.Walk x Paths.continues s w t → Followed x (steps.one (steps.continue p)) s w t
continue_walk x p _ _ _ (Paths.continuing s) =
    record { way = out Walks.continues; agrees = tt; walk = one_to x (steps.continue p) s (out Walks.continues) s (Walks.continued p s) }

pub continue_follow : (p : Place) → Follows (steps.one (steps.continue p)) (one Paths.continues none)
continue_follow p x s t w h = continue_walk x p s t w (one_from x Paths.continues s w t h)

return_walk : (x : ℕ) (s t : Bool) (w : Way) → Paths.Walk x Paths.leaves s w t → Followed x (steps.one steps.return) s w t
return_walk x _ _ _ (Paths.leaving s) =
    record { way = Walks.returns; agrees = tt; walk = one_to x steps.return s Walks.returns s (Walks.returned s) }

pub return_follow : Follows (steps.one steps.return) (one Paths.leaves none)
return_follow x s t w h = return_walk x s t w (one_from x Paths.leaves s w t h)
