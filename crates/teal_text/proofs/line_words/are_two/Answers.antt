use Rattle.std.proofs.Common.{◌∷◌, [], sym, arith}
use Rattle.std.specs.Prelude.{map}
use Rattle.std.proofs.lemmas.List.{length-map}
use Rattle.teal_text.proofs.TextSteps.{other_words}
use Rattle.teal_text.proofs.line_words.are_two.Goals as goal

pub returns-in_default : goal.returns-in_default
returns-in_default c = sym (other_words (map (λ w. w.now) c.args.words.now) (c.args.first.now ∷ c.args.second.now ∷ []) (λ e. omega (arith, simp length-map at e)))

pub returns-in_default-2 : goal.returns-in_default-2
returns-in_default-2 c = sym (other_words (map (λ w. w.now) c.args.words.now) (c.args.first.now ∷ c.args.second.now ∷ []) (λ e. omega (arith, simp length-map at e)))
