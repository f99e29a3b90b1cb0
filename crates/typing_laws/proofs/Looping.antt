-- What follows the steps of an `if`, and of loops.
use Rattle.std.proofs.Common.{◌≡◌, ℕ, ◌⊎◌, inl, inr, Bool, true, false, Some, None, refl, sym, ap, subst}
use Rattle.puya_base.specs.declared.source.Place.{Place}
use Rattle.awst.specs.Paths as Paths
use Rattle.awst.specs.Paths.{Moves, Way, none, one, joined, forked, over_items}
use Rattle.path_rules.specs.Steps as steps
use Rattle.path_rules.specs.Steps.{Steps, no_steps, a_step, before, an_arm, an_end, a_loop}
use Rattle.path_rules.specs.Walks as Walks
use Rattle.path_rules.specs.Walks.{out, goes, leaves, is_on, behind_arm, behind_if, behind_loop}
use Rattle.path_rules.proofs.WalkLaws.{stop_before, on_before, one_to}
use Rattle.typing_laws.proofs.Truths.{never}
use Rattle.typing_laws.proofs.Good.{Agrees, Follows, Followed}
use Rattle.typing_laws.proofs.Readings.{MovesRead, moves_stand}
use Rattle.typing_laws.proofs.Moving.{split, one_from, forks_cases, loop_cases}
use Rattle.typing_laws.proofs.Agreeing.{goes_agrees, break_agrees, continue_agrees, end_agrees, read_agrees, stops_agree, none_follow, joined_follow, sets_follow, forgets_follow}

-- ---- an `if`

pub record IfFollowed (x : ℕ) (fs : Steps) (s : Bool) (w : Way) (t : Bool) : Type 0 where
  pub way : Walks.Way
  pub agrees : Agrees w (behind_if way)
  pub walk : Walks.Walks x fs s way t

-- each walk of the moves is one of the arms, and what is behind them
abbrev pub IfFollows : Steps → Moves → Type 0
IfFollows fs ms = (x : ℕ) (s t : Bool) (w : Way) → Paths.Walks x ms s w t → IfFollowed x fs s w t

behind_agrees : (w : Way) (v : Walks.Way) → Agrees w v → Agrees w (behind_if v)
behind_agrees w (out goes) h = h
behind_agrees w (out leaves) h = absurd (not_leaves w h)
  where
    not_leaves : (w : Way) → Agrees w (out leaves) → ⊥
    not_leaves Paths.goes_on h = h
    not_leaves Paths.at_break h = h
    not_leaves Paths.at_continue h = h
    not_leaves Paths.at_end h = h
    not_leaves (Paths.at_read p) h = h
behind_agrees w (out Walks.breaks) h = h
behind_agrees w (out Walks.continues) h = h
behind_agrees w Walks.returns h = h
behind_agrees w (Walks.at p) h = h

-- the rest alone
pub rest_follow : (fs : Steps) (ms : Moves) → Follows fs ms → IfFollows fs ms
rest_follow fs ms f x s t w h = let k = f x s t w h in record { way = k.way; agrees = behind_agrees w k.way k.agrees; walk = k.walk }

-- a walk that did an arm is not on
arm_stops : (w : Way) (v : Walks.Way) → Agrees w v → is_on (behind_arm v) ≡ false
arm_stops w (out goes) h = refl
arm_stops w (out leaves) h = refl
arm_stops w (out Walks.breaks) h = refl
arm_stops w (out Walks.continues) h = refl
arm_stops w Walks.returns h = refl
arm_stops w (Walks.at p) h = refl

arm_agrees : (w : Way) (v : Walks.Way) → Agrees w v → Agrees w (behind_if (behind_arm v))
arm_agrees w (out goes) h = h
arm_agrees w (out leaves) h = behind_agrees w (out leaves) h
arm_agrees w (out Walks.breaks) h = h
arm_agrees w (out Walks.continues) h = h
arm_agrees w Walks.returns h = h
arm_agrees w (Walks.at p) h = h

in_arm : (x : ℕ) (always : Bool) (body rest : Steps) (a : Moves) (s t : Bool) (w : Way) → Follows body a → Paths.Walks x a s w t → IfFollowed x (a_step (steps.arm always body) rest) s w t
in_arm x always body rest a s t w f h =
    let k = f x s t w h in
    record {
      way = behind_arm k.way;
      agrees = arm_agrees w k.way k.agrees;
      walk = Walks.stopped (steps.arm always body) rest s (behind_arm k.way) t (arm_stops w k.way k.agrees) (Walks.done always body s k.way (behind_arm k.way) t k.walk refl);
    }

past_arm : (x : ℕ) (body rest : Steps) (b : Moves) (s t : Bool) (w : Way) → IfFollows rest b → Paths.Walks x b s w t → IfFollowed x (a_step (steps.arm false body) rest) s w t
past_arm x body rest b s t w f h =
    let k = f x s t w h in
    record { way = k.way; agrees = k.agrees; walk = Walks.went_on (steps.arm false body) rest s s k.way t (Walks.passed false body s refl) k.walk }

fork_follow : (x : ℕ) (always : Bool) (body rest : Steps) (a b : Moves) → Follows body a → IfFollows rest b → IfFollows (a_step (steps.arm always body) rest) (forked always a b)
fork_follow _ true body rest a b f g x s t w h = in_arm x true body rest a s t w f h
fork_follow _ false body rest a b f g x s t w h = elim (forks_cases x a b s w t (one_from x (Paths.forks a b) s w t h)) [
  | inl k ↦ in_arm x false body rest a s t w f k
  | inr k ↦ past_arm x body rest b s t w g k
]

if_joined_by : (x : ℕ) (fs gs : Steps) (a b : Moves) (s u : Bool) (w : Way) → Follows fs a → IfFollows gs b
    → ((Paths.is_going w ≡ false) × Paths.Walks x a s w u) ⊎ ((t : Bool) × Paths.Walks x a s Paths.goes_on t × Paths.Walks x b t w u) → IfFollowed x (before fs gs) s w u
if_joined_by x fs gs a b s u w f g (inl p) =
    let k = f x s u w p.1 in
    record { way = k.way; agrees = behind_agrees w k.way k.agrees; walk = stop_before x fs s k.way u k.walk gs (stops_agree w k.way k.agrees p.0) }
if_joined_by x fs gs a b s u w f g (inr p) =
    let k = f x s p.0 Paths.goes_on p.1 in
    let l = g x p.0 u w p.2 in
    record { way = l.way; agrees = l.agrees; walk = on_before x fs gs s p.0 l.way u (subst (λ v. Walks.Walks x fs s v p.0) (goes_agrees k.way k.agrees) k.walk) l.walk }

pub before-before : (a b c : Steps) → before (before a b) c ≡ before a (before b c)
before-before no_steps b c = refl
before-before (a_step f fs) b c = ap (a_step f) (before-before fs b c)

-- an arm, and what is behind it
pub arm_follow : (test : Steps) (always : Bool) (body rest : Steps) (c a b : Moves) → Follows test c → Follows body a → IfFollows rest b
    → IfFollows (before (an_arm test always body) rest) (joined c (forked always a b))
arm_follow test always body rest c a b f g h =
    let whole : IfFollows (before test (a_step (steps.arm always body) rest)) (joined c (forked always a b)) = λ x s u w k.
    if_joined_by x test (a_step (steps.arm always body) rest) c (forked always a b) s u w f (fork_follow x always body rest a b g h) (split x c (forked always a b) s w u k) in
    subst (λ z. IfFollows z (joined c (forked always a b))) (sym (before-before test (steps.one (steps.arm always body)) rest)) whole

pub choice_follow : (fs : Steps) (ms : Moves) → IfFollows fs ms → Follows (steps.one (steps.choice fs)) ms
choice_follow fs ms f x s t w h =
    let k = f x s t w h in
    record { way = behind_if k.way; agrees = k.agrees; walk = one_to x (steps.choice fs) s (behind_if k.way) t (Walks.chosen fs s k.way (behind_if k.way) t k.walk refl) }

-- ---- loops

record TurnFollowed (x : ℕ) (fs : Steps) (s : Bool) (w : Way) (t : Bool) : Type 0 where
  way : Walks.Way
  agrees : Agrees w way
  walk : Walks.Turns x fs s way t

abbrev turn_steps : Steps → Bool → Steps → Steps
turn_steps test ends body = before test (before (an_end ends) body)

-- past the end's place
past_end : (x : ℕ) (ends : Bool) (body : Steps) (s t : Bool) (v : Walks.Way) → Walks.Walks x body s v t → Walks.Walks x (before (an_end ends) body) s v t
past_end x true body s t v h = Walks.went_on steps.may_end body s s v t (Walks.stays s) h
past_end x false body s t v h = h

-- a turn that goes through its test into its body
in_turn_body : (x : ℕ) (test body : Steps) (ends : Bool) (c b : Moves) (s t u : Bool) (w : Way) (v : Walks.Way) → Follows test c → Paths.Walks x c s Paths.goes_on t → Walks.Walks x body t v u
    → Walks.Walks x (turn_steps test ends body) s v u
in_turn_body x test body ends c b s t u w v f h k =
    let l = f x s t Paths.goes_on h in
    on_before x test (before (an_end ends) body) s t v u (subst (λ z. Walks.Walks x test s z t) (goes_agrees l.way l.agrees) l.walk) (past_end x ends body t u v k)

module _ (test body : Steps) (c b : Moves) (f : Follows test c) (g : Follows body b) (reads : MovesRead (λ y. true) c) where
  -- a test that stops stops at a read
  test_stops : (x : ℕ) (ends : Bool) (s t : Bool) (w : Way) → Paths.is_going w ≡ false → Paths.Walks x c s w t → TurnFollowed x (turn_steps test ends body) s w t
  test_stops x ends s t Paths.goes_on e h = never (sym e)
  test_stops x ends s t Paths.at_break e h = absurd (moves_stand x (λ y. true) c s t Paths.at_break h reads).1
  test_stops x ends s t Paths.at_continue e h = absurd (moves_stand x (λ y. true) c s t Paths.at_continue h reads).1
  test_stops x ends s t Paths.at_end e h = absurd (moves_stand x (λ y. true) c s t Paths.at_end h reads).1
  test_stops x ends s t (Paths.at_read p) e h =
      let k = f x s t (Paths.at_read p) h in
      let r = read_agrees p k.way k.agrees in
      record {
        way = Walks.at r.place;
        agrees = tt;
        walk = Walks.last_turn (turn_steps test ends body) s (Walks.at r.place) (Walks.at r.place) t
            (stop_before x test s (Walks.at r.place) t (subst (λ z. Walks.Walks x test s z t) r.is k.walk) (before (an_end ends) body) refl) refl;
      }

  -- a turn that ends with the body so
  body_walk : (x : ℕ) (ends : Bool) (s t u : Bool) (w : Way) (v : Walks.Way) → Paths.Walks x c s Paths.goes_on t → Paths.Walks x b t w u → ((z : Walks.Way) → Agrees w z → z ≡ v) → Walks.Walks x (turn_steps test ends body) s v u
  body_walk x ends s t u w v h k e =
      let l = g x t u w k in
      in_turn_body x test body ends c b s t u w v f h (subst (λ z. Walks.Walks x body t z u) (e l.way l.agrees) l.walk)

-- a turn in which the body goes so, and the loop with it
ended_turn : (test body : Steps) (c b : Moves) (f : Follows test c) (g : Follows body b) (reads : MovesRead (λ y. true) c) (x : ℕ) (ends : Bool) (s t u : Bool) (w v : Way) (z y : Walks.Way) → Paths.Walks x c s Paths.goes_on t → Paths.Walks x b t w u
    → ((k : Walks.Way) → Agrees w k → k ≡ z) → behind_loop z ≡ Some y → Agrees v y → TurnFollowed x (turn_steps test ends body) s v u
ended_turn test body c b f g reads x ends s t u w v z y h k e i a =
    record { way = y; agrees = a; walk = Walks.last_turn (turn_steps test ends body) s z y u (body_walk test body c b f g reads x ends s t u w z h k e) i }

another_turn : (test body : Steps) (c b : Moves) (f : Follows test c) (g : Follows body b) (reads : MovesRead (λ y. true) c) (x : ℕ) (ends : Bool) (s t u o : Bool) (w v : Way) (z : Walks.Way) → Paths.Walks x c s Paths.goes_on t → Paths.Walks x b t w u
    → ((k : Walks.Way) → Agrees w k → k ≡ z) → behind_loop z ≡ None → TurnFollowed x (turn_steps test ends body) u v o → TurnFollowed x (turn_steps test ends body) s v o
another_turn test body c b f g reads x ends s t u o w v z h k e i l =
    record { way = l.way; agrees = l.agrees; walk = Walks.next_turn (turn_steps test ends body) s z u l.way o (body_walk test body c b f g reads x ends s t u w z h k e) i l.walk }

-- a turn in which the body stops at a read
read_turn : (test body : Steps) (c b : Moves) (f : Follows test c) (g : Follows body b) (x : ℕ) (ends : Bool) (s t u : Bool) (p : Place) → Paths.Walks x c s Paths.goes_on t → Paths.Walks x b t (Paths.at_read p) u → TurnFollowed x (turn_steps test ends body) s (Paths.at_read p) u
read_turn test body c b f g x ends s t u p h k =
    let l = g x t u (Paths.at_read p) k in
    let r = read_agrees p l.way l.agrees in
    let inner = subst (λ z. Walks.Walks x body t z u) r.is l.walk in
    record {
      way = Walks.at r.place;
      agrees = tt;
      walk = Walks.last_turn (turn_steps test ends body) s (Walks.at r.place) (Walks.at r.place) u (in_turn_body x test body ends c b s t u (Paths.at_read p) (Walks.at r.place) f h inner) refl;
    }

-- the loop ends before a turn
over_turn : (test body : Steps) (c : Moves) (f : Follows test c) (x : ℕ) (s t : Bool) → Paths.Walks x c s Paths.goes_on t → TurnFollowed x (turn_steps test true body) s Paths.goes_on t
over_turn test body c f x s t h =
    let l = f x s t Paths.goes_on h in
    let inner = subst (λ z. Walks.Walks x test s z t) (goes_agrees l.way l.agrees) l.walk in
    record {
      way = out goes;
      agrees = tt;
      walk = Walks.last_turn (turn_steps test true body) s (out leaves) (out goes) t
          (on_before x test (before (an_end true) body) s t (out leaves) t inner (Walks.stopped steps.may_end body t (out leaves) t refl (Walks.ends t))) refl;
    }

turning_follow : (test body : Steps) (x : ℕ) (c : Moves) (ends : Bool) (b : Moves) (s t : Bool) (w : Way) → Paths.Turning x c ends b s w t → Follows test c → Follows body b → MovesRead (λ y. true) c → TurnFollowed x (turn_steps test ends body) s w t
turning_follow test body x _ _ _ _ _ _ (Paths.over c b s t h) f g reads = over_turn test body c f x s t h
turning_follow test body x _ _ _ _ _ _ (Paths.in_test c ends b s t w e h) f g reads = test_stops test body c b f g reads x ends s t w e h
turning_follow test body x _ _ _ _ _ _ (Paths.broken c ends b s t u h k) f g reads = ended_turn test body c b f g reads x ends s t u Paths.at_break Paths.goes_on (out Walks.breaks) (out goes) h k break_agrees refl tt
turning_follow test body x _ _ _ _ _ _ (Paths.returned c ends b s t u h k) f g reads = ended_turn test body c b f g reads x ends s t u Paths.at_end Paths.at_end Walks.returns Walks.returns h k end_agrees refl tt
turning_follow test body x _ _ _ _ _ _ (Paths.in_body c ends b s t u p h k) f g reads = read_turn test body c b f g x ends s t u p h k
turning_follow test body x _ _ _ _ _ _ (Paths.again c ends b s t u v w h k l) f g reads =
    another_turn test body c b f g reads x ends s t u v Paths.goes_on w (out goes) h k goes_agrees refl (turning_follow test body x c ends b u v w l f g reads)
turning_follow test body x _ _ _ _ _ _ (Paths.again_by_continue c ends b s t u v w h k l) f g reads =
    another_turn test body c b f g reads x ends s t u v Paths.at_continue w (out Walks.continues) h k continue_agrees refl (turning_follow test body x c ends b u v w l f g reads)

loop_walk : (test body : Steps) (x : ℕ) (ends : Bool) (s t : Bool) (w : Way) → TurnFollowed x (turn_steps test ends body) s w t → Followed x (steps.one (a_loop test ends body)) s w t
loop_walk test body x ends s t w k =
    record { way = k.way; agrees = k.agrees; walk = one_to x (a_loop test ends body) s k.way t (Walks.turns (turn_steps test ends body) s k.way t k.walk) }

pub loop_follow : (test body : Steps) (c b : Moves) (ends : Bool) → Follows test c → Follows body b → MovesRead (λ y. true) c → Follows (steps.one (a_loop test ends body)) (one (Paths.loops c ends b) none)
loop_follow test body c b ends f g reads x s t w h =
    loop_walk test body x ends s t w (turning_follow test body x c ends b s t w (loop_cases x c ends b s w t (one_from x (Paths.loops c ends b) s w t h)) f g reads)

-- over items
pub items_follow : (y : ℕ) (body : Steps) (b : Moves) → Follows body b → Follows (a_step (a_loop no_steps true (a_step (steps.assign y) body)) (steps.one (steps.forget y))) (over_items y b)
items_follow y body b f =
    joined_follow (steps.one (a_loop no_steps true (a_step (steps.assign y) body))) (steps.one (steps.forget y)) (one (Paths.loops none true (one (Paths.sets y) b)) none) (one (Paths.forgets y) none)
    (loop_follow no_steps (a_step (steps.assign y) body) none (one (Paths.sets y) b) true none_follow
    (joined_follow (steps.one (steps.assign y)) body (one (Paths.sets y) none) b (sets_follow y) f) tt)
    (forgets_follow y)
