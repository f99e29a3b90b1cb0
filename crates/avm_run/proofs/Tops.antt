-- The top of the stack: the last value of a list.
use Rattle.std.proofs.Common.{◌≡◌, ℕ, ◌+◌, ◌-◌, ◌<◌, ◌≤◌, List, [], ◌∷◌, ◌++◌, length, take, drop, get_or, true, false, refl, sym, ap, ◌∙◌, arith, length-append, add-one, append_assoc}
use Rattle.std.specs.Prelude.{ℤ, Option, Some, None, slice_get, slice_set, option_map, option_and_then, nat_lt, nat_le, ◌==◌, ◌||◌}
use Rattle.std.proofs.lemmas.Bool.{cond-false, cond-true}
use Rattle.std.proofs.lemmas.Bool.Decides.{nat_tests}
use Rattle.std.proofs.lemmas.Option.{slice_get_read, slice_get_within, get_or_from_slice_get}
use Rattle.std.proofs.lemmas.List.{get_or_push, drop_more, drop_all}
use Rattle.std.proofs.Math.Seq.{take-append_seam}
use Rattle.puya_base.specs.declared.value.Value.{Value}
use Rattle.avm_run.specs.declared.frame.Frame.{Frame}
use Rattle.avm_run.specs.Stack.{bury, cover, plain_row}
use Rattle.avm_ops.specs.declared.rows.StackRow.TheVariants.{Dup2}
use Rattle.avm_run.specs.Frames.{frame_bury, frame_set}

module _ {X : Type 0} where
  pub popped_length : (whole rest : List X) (last : X) → whole ≡ rest ++ last ∷ [] → length whole - 1 ≡ length rest
  popped_length whole rest last is = omega (arith, ap length is, length-append rest (last ∷ []))

  pub popped_last : (whole rest : List X) (last : X) → whole ≡ rest ++ last ∷ [] → slice_get whole (length whole - 1) ≡ Some last
  popped_last whole rest last is =
      let long : length whole ≡ length rest + 1 = omega (arith, ap length is, length-append rest (last ∷ [])) in
      let there : last ≡ get_or whole (length whole - 1) last = sym (ap (λ (l : List X). get_or l (length whole - 1) last) is ∙ get_or_push rest last last (length whole - 1) (sym (popped_length whole rest last is))) in
      slice_get_read whole (length whole) (length whole - 1) last refl (omega arith) there

  pub popped_rest : (whole rest : List X) (last : X) → whole ≡ rest ++ last ∷ [] → take (length whole - 1) whole ≡ rest
  popped_rest whole rest last is =
      ap (λ n. take n whole) (popped_length whole rest last is) ∙ ap (take (length rest)) is ∙ take-append_seam rest (last ∷ [])

  -- the two values on top
  pub top_two : (s : List X) (x y : X) → 2 ≤ length s → slice_get s (length s - 2) ≡ Some x → slice_get s (length s - 1) ≡ Some y → drop (length s - 2) s ≡ x ∷ y ∷ []
  top_two s x y long first second =
      let a : get_or s (length s - 2) x ≡ x = get_or_from_slice_get s (length s - 2) x x first in
      let b : get_or s (length s - 1) y ≡ y = get_or_from_slice_get s (length s - 1) y y second in
      let next : length s - 2 + 1 ≡ length s - 1 = omega arith in
      let tail : drop (length s - 1) s ≡ y ∷ [] =
      drop_more s (length s - 1) y (omega arith) ∙ ap (λ (h : X). h ∷ drop (length s - 1 + 1) s) b ∙ ap (λ (t : List X). y ∷ t) (drop_all (length s - 1 + 1) s (omega arith)) in
      drop_more s (length s - 2) x (omega arith) ∙ ap (λ (h : X). h ∷ drop (length s - 2 + 1) s) a ∙ ap (λ n. x ∷ drop n s) next ∙ ap (λ (t : List X). x ∷ t) tail

pub bury_is : (n : ℕ) (s rest : List Value) (v : Value) → s ≡ rest ++ v ∷ [] → 0 < n → n < length s → bury n s ≡ Some (slice_set rest (length s - 1 - n) v)
bury_is n s rest v is low high =
    let test : ((n == 0) || nat_le (length s) n) ≡ false = grind (arith, nat_tests) in
    cond-false ((n == 0) || nat_le (length s) n) _ _ test
    ∙ ap (option_map (λ (w : Value). slice_set (take (length s - 1) s) (length s - 1 - n) w)) (popped_last s rest v is)
    ∙ ap (λ (r : List Value). Some (slice_set r (length s - 1 - n) v)) (popped_rest s rest v is)

pub cover_is : (n : ℕ) (s rest : List Value) (v : Value) → s ≡ rest ++ v ∷ [] → n < length s → cover n s ≡ Some ((take (length s - 1 - n) rest ++ v ∷ []) ++ drop (length s - 1 - n) rest)
cover_is n s rest v is high =
    let i = length s - 1 - n in
    let test : nat_lt n (length s) ≡ true = grind (arith, nat_tests) in
    cond-true (nat_lt n (length s)) _ _ test
    ∙ ap (option_map (λ (w : Value). take i (take (length s - 1) s) ++ w ∷ drop i (take (length s - 1) s))) (popped_last s rest v is)
    ∙ ap (λ (r : List Value). Some (take i r ++ v ∷ drop i r)) (popped_rest s rest v is)
    ∙ ap Some (sym (append_assoc (take i rest) (v ∷ []) (drop i rest)))

pub frame_bury_is : (frames : List Frame) (i : ℤ) (s rest : List Value) (v : Value) → s ≡ rest ++ v ∷ [] → frame_bury frames i s ≡ frame_set frames i rest v
frame_bury_is frames i s rest v is =
    ap (option_and_then (frame_set frames i (take (length s - 1) s))) (popped_last s rest v is)
    ∙ ap (λ (r : List Value). frame_set frames i r v) (popped_rest s rest v is)

-- two more pushes of the two values on top
pub dup_two_is : (s once twice : List Value) (x y : Value) → 2 ≤ length s → slice_get s (length s - 2) ≡ Some x → slice_get s (length s - 1) ≡ Some y
    → once ≡ s ++ x ∷ [] → twice ≡ once ++ y ∷ [] → plain_row Dup2 s ≡ Some twice
dup_two_is s once twice x y long first second a b =
    let test : nat_le 2 (length s) ≡ true = grind (arith, nat_tests) in
    ap (option_map (λ (two : List Value). s ++ two)) (cond-true (nat_le 2 (length s)) _ _ test)
    ∙ ap (λ (two : List Value). Some (s ++ two)) (top_two s x y long first second)
    ∙ ap Some (sym (b ∙ ap (λ (l : List Value). l ++ y ∷ []) a ∙ append_assoc s (x ∷ []) (y ∷ [])))
