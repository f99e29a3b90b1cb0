-- A summary is that of steps.
use Rattle.std.specs.Prelude.{ℕ, ◌≡◌, Bool, true, false, List, [], ◌∷◌}
use Rattle.puya_base.specs.declared.source.Place.{Place}
use Rattle.puya_base.specs.declared.source.Refusal.{Refusal}
use Rattle.path_rules.specs.declared.summary.Exits.{Exits}
use Rattle.path_rules.specs.declared.summary.Endings.{Endings}
use Rattle.path_rules.specs.declared.summary.Summary.{Summary}
use Rattle.path_rules.specs.declared.summary.Frame.{Frame}
use Rattle.path_rules.specs.declared.summary.Frame.TheVariants.{Arm, If, Loop}
use Rattle.path_rules.specs.Steps.{Step, broken, arm, choice, loop, break, continue, return, Steps, no_steps, one, before}
use Rattle.path_rules.specs.Walks.{Exit, goes, leaves, breaks, continues, Way, out, returns, at, Walks}
use Rattle.path_rules.specs.Rules.{IsNotAfter, IsLeast}
use Rattle.path_rules.specs.Summaries.{Rises, effect_of, endings_from, untouched}

abbrev pub has : Exits → Exit → Bool
has e goes = e.goes
has e leaves = e.leaves
has e breaks = e.breaks
has e continues = e.continues

-- the endings are those of these ways
pub record AreEndings (P : Way → Type 0) (a : Endings) : Type 0 where
  pub each : (e : Exit) → has a.exits e ≡ true → P (out e)
  pub all : (e : Exit) → P (out e) → has a.exits e ≡ true
  pub first : IsLeast IsNotAfter (λ p. P (at p)) a.read

-- the ways by which walks from that state end with the variable unassigned
abbrev pub Ends : ℕ → Steps → Bool → Way → Type 0
Ends x fs s w = Walks x fs s w false

abbrev pub IsOut : Way → Type 0
IsOut (out e) = Unit {0}
IsOut returns = ⊥
IsOut (at p) = ⊥

-- the exits that walks have at all
abbrev pub GetsOut : ℕ → Steps → Bool → Way → Type 0
GetsOut x fs s w = IsOut w × ((t : Bool) × Walks x fs s w t)

pub record Describes (m : Summary) (fs : Steps) : Type 0 where
  pub rises : Rises 0 m.touched
  pub others : (x : ℕ) (s : Bool) → AreEndings (GetsOut x fs s) (untouched m.others).unassigned
  pub effects : (x : ℕ) (s : Bool) → AreEndings (Ends x fs s) (endings_from s (effect_of m x))

-- the summaries are those of pieces that make up the steps
abbrev pub Together : List Summary → Steps → Type 0
Together [] fs = no_steps ≡ fs
Together (m ∷ ms) fs = (g : Steps) × ((h : Steps) × (Describes m g × (Together ms h × (before g h ≡ fs))))

-- the same with steps that are still to come
pub record TogetherWith (ms : List Summary) (rest whole : Steps) : Type 0 where
  pub so_far : Steps
  pub together : Together ms so_far
  pub all_of : before so_far rest ≡ whole

abbrev pub step_in : Frame → Steps → Step
step_in (Arm always) fs = arm always fs
step_in If fs = choice fs
step_in Loop fs = loop fs

abbrev pub DescribesFault : Summary → Type 0
DescribesFault m = (r : Refusal) → Describes m (one (broken r))

abbrev pub DescribesBreak : Summary → Type 0
DescribesBreak m = (p : Place) → Describes m (one (break p))

abbrev pub DescribesContinue : Summary → Type 0
DescribesContinue m = (p : Place) → Describes m (one (continue p))

abbrev pub DescribesReturn : Summary → Type 0
DescribesReturn m = Describes m (one return)
