use Rattle.std.proofs.Common.{◌≡◌, ◌+◌, ◌<◌, ◌≤◌, ◌++◌, List, [], ◌∷◌, nat_eq, get_or, drop, length, reverse, refl, sym, ◌∙◌, ap, subst, drop-cons, add-one}
use Rattle.std.proofs.lemmas.List.{drop_all, reverse-append, reverse-reverse}
use Rattle.indexmap.specs.IndexMap.{get, index_map_len}
use Rattle.phi_copies.specs.declared.copies.Pair.{Pair}
use Rattle.phi_copies.specs.Parallel.{Sequences}
use Rattle.phi_copies.specs.Paths.{Followed, moves_of}
use Rattle.phi_copies.specs.Waiting.{IsWaiting}
use Rattle.phi_copies.specs.Cycles.{OneMorePerCycle}
use Rattle.phi_copies.proofs.Counting.{IsCounting, count_none, count_one, counted, no_entries}
use Rattle.phi_copies.proofs.Turning.{IsTurning, turn_none, turn_one, turned}
use Rattle.phi_copies.proofs.sequencing.sequence.Goals as goal

pub loop-p-init : goal.loop-p-init
loop-p-init c =
    let pairs = c.args.copies.now.pairs in
    let spare = c.args.copies.now.spare in
    let w = get nat_eq c.in_ok-waiting.waiting in
    let n = index_map_len c.in_ok-waiting.waiting in
    let waiting = subst (λ q. IsWaiting q w n) c.as_slice-pairs.ensures c.in_ok-waiting.ensures in
    record {
      turning = subst (λ q. IsTurning spare pairs pairs w (reverse q)) (sym c.new-backwards.ensures.items) (turn_none spare pairs w n waiting c.requires.apart);
      counting = subst (λ q. IsCounting pairs w n (reverse q)) (sym c.new-backwards.ensures.items) (count_none pairs w n waiting);
    }

pub loop-p-preserved : goal.loop-p-preserved
loop-p-preserved c =
    let pairs = c.args.copies.now.pairs in
    let spare = c.args.copies.now.spare in
    let i = c.loop-p.p-index in
    let p : Pair = get_or pairs i (record { to = 0; from = 0 }) in
    let rest = drop (i + 1) pairs in
    let same = c.as_slice-pairs.ensures in
    let lt : i < length pairs = subst (λ q. i < length q) same c.loop-p-test.true in
    let cut : drop i pairs ≡ p ∷ rest = drop-cons pairs i (record { to = 0; from = 0 }) lt ∙ ap (λ n. p ∷ drop n pairs) (sym (add-one i)) in
    let old = get nat_eq c.loop-p.waiting in
    let new = get nat_eq c.follow.new.waiting in
    let path = c.in_ok-path.path in
    let followed = subst (λ (q : List Pair). Followed old new (get_or q i (record { to = 0; from = 0 })).to path.pairs path.end) same c.in_ok-path.ensures.path in
    let moves = moves_of spare path.end path.pairs in
    let before = c.loop-p.backwards.items in
    let turned : reverse (before ++ reverse moves) ≡ moves ++ reverse before = reverse-append before (reverse moves) ∙ ap (λ q. q ++ reverse before) (reverse-reverse moves) in
    let is = sym (ap reverse c.in_ok-add_backwards.ensures ∙ turned) in
    let n = index_map_len c.loop-p.waiting in
    let left = index_map_len c.follow.new.waiting in
    record {
      turning = subst (λ q. IsTurning spare pairs rest new q) is
          (turn_one spare pairs p rest old new (reverse before) path.pairs path.end (subst (λ q. IsTurning spare pairs q old (reverse before)) cut c.loop-p.invariant.turning) followed);
      counting = subst (λ q. IsCounting pairs new left q) is (count_one spare pairs p.to old new n left (reverse before) path.pairs path.end c.loop-p.invariant.counting followed c.in_ok-path.ensures.len);
    }

pub returns : goal.returns
returns c =
    let pairs = c.args.copies.now.pairs in
    let spare = c.args.copies.now.spare in
    let w = get nat_eq c.loop-p.waiting in
    let n = index_map_len c.loop-p.waiting in
    let moves = reverse c.loop-p.backwards.items in
    let none : drop c.loop-p.p-index pairs ≡ [] = drop_all c.loop-p.p-index pairs (subst (λ q. length q ≤ c.loop-p.p-index) c.as_slice-pairs.ensures c.loop-p-test.false) in
    let turning = subst (λ q. IsTurning spare pairs q w moves) none c.loop-p.invariant.turning in
    let is = sym (c.from_vec.ensures ∙ c.reverse.ensures.items) in
    record {
      same = subst (λ q. Sequences q pairs spare) is (turned spare pairs w moves turning);
      count = subst (λ q. OneMorePerCycle q pairs) is (counted pairs w n moves c.loop-p.invariant.counting (no_entries c.loop-p.waiting.entries (λ k. turning.only k refl)));
    }
