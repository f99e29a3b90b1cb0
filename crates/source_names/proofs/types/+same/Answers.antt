use Rattle.std.proofs.Common.{◌≡◌, Bool, ℕ, zero, suc, ◌≤◌, ◌<◌, length, true, false, List, [], ◌∷◌, refl, sym, ap, ◌∙◌, arith, drop}
use Rattle.source_names.specs.declared.types.SourceType.{SourceType}
use Rattle.source_names.specs.Types.{same_types}
use Rattle.source_names.proofs.types.+same.Goals as goal

more_left : (n : ℕ) (ys : List SourceType) → n < length ys → same_types [] (drop n ys) ≡ false
more_left zero [] h = absurd (omega arith)
more_left zero (y ∷ ys) h = refl
more_left (suc n) [] h = absurd (omega arith)
more_left (suc n) (y ∷ ys) h = more_left n ys (omega arith)

all_gone : (n : ℕ) (xs : List SourceType) → length xs ≤ n → drop n xs ≡ []
all_gone zero [] h = refl
all_gone zero (x ∷ xs) h = absurd (omega arith)
all_gone (suc n) [] h = refl
all_gone (suc n) (x ∷ xs) h = all_gone n xs (omega arith)

at_end : (n i : ℕ) (xs ys : List SourceType) (r : Bool) → length xs ≤ n → same_types [] (drop i ys) ≡ r → same_types (drop n xs) (drop i ys) ≡ same_types xs ys → r ≡ same_types xs ys
at_end n i xs ys r h e all = sym e ∙ ap (λ z. same_types z (drop i ys)) (sym (all_gone n xs h)) ∙ all

pub same_types-returns-then-i-n : goal.same_types-returns-then-i-n
same_types-returns-then-i-n t c = at_end c.loop-x.x-index c.loop-x.i c.args.xs.now c.args.ys.now false (omega arith) (more_left c.loop-x.i c.args.ys.now (omega arith)) c.loop-x.invariant.all

pub same_types-returns-else-i-n : goal.same_types-returns-else-i-n
same_types-returns-else-i-n t c = at_end c.loop-x.x-index c.loop-x.i c.args.xs.now c.args.ys.now true (omega arith) (ap (same_types []) (all_gone c.loop-x.i c.args.ys.now (omega arith))) c.loop-x.invariant.all
