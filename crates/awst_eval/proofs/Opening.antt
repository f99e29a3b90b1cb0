-- Runs of functions that are open.
use Rattle.std.proofs.Common.{◌≡◌, ℕ, List, Result, Err, sym, ap, subst, ◌∙◌}
use Rattle.runs.specs.Seen.{entered, left_to}
use Rattle.runs.specs.Steps.{World, Run, Gives, after, inside, closed, with_seen}
use Rattle.awst_eval.specs.declared.stop.Stop.{Stop}
use Rattle.awst_eval.specs.Ended.{Ends}
use Rattle.awst_eval.proofs.Stopping.{stops}

-- a function gave a value, and is closed
pub opened_gives : {A : Type 0} (need : ℕ → ℕ) (f g : ℕ) (run : Run A) (a : A) (before : List ℕ) (w w1 w2 w3 : World) → g ≡ f → w1 ≡ with_seen w (entered need g w.seen) → before ≡ w.seen.opened → run w1 ≡ Gives a w2 → w3 ≡ with_seen w2 (left_to before w2.seen) →
    inside need f run w ≡ Gives a w3
opened_gives need f g run a before w w1 w2 w3 e h b r c =
    let there : with_seen w (entered need f w.seen) ≡ w1 = ap (λ (k : ℕ). with_seen w (entered need k w.seen)) (sym e) ∙ sym h in
    let value = ap run there ∙ r in
    ap (λ q. after q (closed w.seen.opened)) value
    ∙ ap (λ (o : List ℕ). Gives a (with_seen w2 (left_to o w2.seen))) (sym b)
    ∙ ap (λ (v : World). Gives a v) (sym c)

-- a function that stops is not closed
pub opened_stops : {R S A : Type 0} (shown : R → A) (known : S → A) (e : Stop) (x : Result S Stop) (need : ℕ → ℕ) (f g : ℕ) (run : Run A) (w w1 w2 : World) → g ≡ f → w1 ≡ with_seen w (entered need g w.seen) → Ends shown (Err e) (run w1) w2 → x ≡ Err e →
    Ends known x (inside need f run w) w2
opened_stops shown known e x need f g run w w1 w2 i h r k =
    let there : with_seen w (entered need f w.seen) ≡ w1 = ap (λ (j : ℕ). with_seen w (entered need j w.seen)) (sym i) ∙ sym h in
    stops shown known e x (run (with_seen w (entered need f w.seen))) (closed w.seen.opened) w2 (subst (λ (v : World). Ends shown (Err e) (run v) w2) (sym there) r) k
