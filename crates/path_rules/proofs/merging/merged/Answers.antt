use Rattle.std.proofs.Common.{◌≡◌, ◌⊎◌, inl, inr, ◌++◌, [], map, drop, subst}
use Rattle.std.proofs.Math.ListN.{drop_of_length-le}
use Rattle.path_rules.specs.Summaries.{left_alone, right_alone}
use Rattle.path_rules.proofs.MergeLaws.{the_rest, finished}
use Rattle.path_rules.proofs.merging.merged.Goals as goal
use Rattle.path_rules.proofs.merging.merged.Goals.{then-loop-i-test+else-j-second, else-loop-i-test}

pub returns : goal.returns
returns c =
    let a = c.args.a in
    let b = c.args.b in
    let ts = drop c.loop-i.i c.args.first.now in
    let us = drop c.loop-i.j c.args.second.now in
    let one_ended : (ts ≡ []) ⊎ (us ≡ []) =
    elim c.loop-i-test.branch [
      | then-loop-i-test+else-j-second w ↦ inr (drop_of_length-le c.args.second.now w.if-j-second.false)
      | else-loop-i-test w ↦ inl (drop_of_length-le c.args.first.now w.loop-i-test.false)
    ] in
    finished a b c.loop-i.touched c.push_left.new.into c.push_right.new.into _ ts us one_ended c.loop-i.invariant.left
    (subst (λ z. c.push_left.new.into ≡ c.loop-i.touched ++ map (left_alone a b) z) (the_rest c.loop-i.i c.args.first.now) c.in_ok-push_left.ensures)
    (subst (λ z. c.push_right.new.into ≡ c.push_left.new.into ++ map (right_alone a b) z) (the_rest c.loop-i.j c.args.second.now) c.in_ok-push_right.ensures)
