use Rattle.std.proofs.Common.{◌≡◌, ◌+◌, map, max, drop}
use Rattle.awst.specs.Capped.{capped}
use Rattle.awst.specs.Places.{Load, all_loads}
use Rattle.awst.specs.declared.loads.Load.{Load as Counted}
use Rattle.awst.specs.Functions.{load_of, load_of_arm, load_of_pick}
use Rattle.awst.proofs.loads.+load.Given as goal

-- what was counted and what is left make up the whole
pub record Covers (counted : Counted) (left whole : Load) : Type 0 where
  pub wait : capped (max counted.wait left.wait) ≡ capped whole.wait
  pub fors : capped (counted.fors + left.fors) ≡ capped whole.fors
  pub literals : capped (max counted.literals left.literals) ≡ capped whole.literals
  pub small_wait : capped counted.wait ≡ counted.wait
  pub small_fors : capped counted.fors ≡ counted.fors
  pub small_literals : capped counted.literals ≡ counted.literals

abbrev pub invariant-body_load-loop-s : goal.invariant-body_load-loop-s
invariant-body_load-loop-s l = Covers l.load (all_loads (map load_of (drop l.s-index l.body))) (all_loads (map load_of l.body))

abbrev pub invariant-arms_load-loop-arm : goal.invariant-arms_load-loop-arm
invariant-arms_load-loop-arm l = Covers l.load (all_loads (map load_of_arm (drop l.arm-index l.arms))) (all_loads (map load_of_arm l.arms))

abbrev pub invariant-picks_load-loop-pick : goal.invariant-picks_load-loop-pick
invariant-picks_load-loop-pick l = Covers l.load (all_loads (map load_of_pick (drop l.pick-index l.picks))) (all_loads (map load_of_pick l.picks))
