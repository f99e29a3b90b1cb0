-- How many moves there are: one for each pair, and one more for each path that runs into a cycle.
use Rattle.std.proofs.Common.{◌≡◌, ℕ, suc, ◌+◌, List, [], ◌∷◌, ◌++◌, length, refl, sym, ◌∙◌, ap, subst, inl, inr, arith, length-append}
use Rattle.std.specs.Prelude.{Bool, true, false, not, ◌||◌, if◌then◌else◌, nat_eq, Some, None}
use Rattle.std.specs.Map.{lookup}
use Rattle.std.proofs.lemmas.Bool.{cases_eq, cases_Bool, eq-eqb, ne_eqb, cond-true, cond-false, and_from, or_from, both_ways, false≢true}
use Rattle.phi_copies.specs.declared.copies.Pair.{Pair}
use Rattle.phi_copies.specs.Parallel.{writes, no_two_write_one}
use Rattle.phi_copies.specs.Paths.{Sources, with_pair, with_pairs, Fresh, Followed, closing, moves_of}
use Rattle.phi_copies.specs.Cycles.{Leads, proper, AllAmong, IsCycle, EachIsCycle, joined, OneMorePerCycle}
use Rattle.phi_copies.specs.Waiting.{IsWithin, IsWaiting}
use Rattle.phi_copies.proofs.Laws.{put_here, clash, NotIn, none_before, none_below, not_in, with_apart, fresh_within}
use Rattle.phi_copies.proofs.Following.{own_source}

closing_len : (spare end : ℕ) (ps : List Pair) → length (closing spare end ps) ≡ length ps
closing_len spare end [] = refl
closing_len spare end (p ∷ ps) = ap (λ n. suc n) (closing_len spare end ps)

-- after a pair that doesn't write the place, a later one does where one of them does
later_writes : (p : Pair) (ps : List Pair) (k : ℕ) (b : Bool) → (p.to ≡ k → ⊥) → writes k (p ∷ ps) ≡ b → writes k ps ≡ b
later_writes p ps k b ne h = ap (λ (t : Bool). t || writes k ps) (sym (ne_eqb p.to k ne)) ∙ h

first_writes : (p : Pair) (ps : List Pair) (k : ℕ) → p.to ≡ k → writes k (p ∷ ps) ≡ true
first_writes p ps k e = ap (λ (t : Bool). t || writes k ps) (eq-eqb p.to k e)

-- the moves of a path that runs into no cycle
moves_open : (spare end : ℕ) (ps : List Pair) → writes end ps ≡ false → length (moves_of spare end ps) ≡ length ps
moves_open spare end [] h = refl
moves_open spare end (p ∷ ps) h =
    let plain = p ∷ moves_of spare end ps in
    let saved = record { to = spare; from = end } ∷ closing spare end (p ∷ ps) in
    elim (cases_eq p.to end) [
      | inl e ↦ absurd (both_ways (writes end (p ∷ ps)) h (first_writes p ps end e))
      | inr ne ↦ ap length (cond-false (nat_eq p.to end) saved plain (ne_eqb p.to end ne)) ∙ ap (λ n. suc n) (moves_open spare end ps (later_writes p ps end false ne h))
    ]

-- the moves of a path that runs into a cycle
moves_closed : (spare end : ℕ) (ps : List Pair) → writes end ps ≡ true → length (moves_of spare end ps) ≡ suc (length ps)
moves_closed spare end [] h = absurd (false≢true h)
moves_closed spare end (p ∷ ps) h =
    let plain = p ∷ moves_of spare end ps in
    let saved = record { to = spare; from = end } ∷ closing spare end (p ∷ ps) in
    elim (cases_eq p.to end) [
      | inl e ↦ ap length (cond-true (nat_eq p.to end) saved plain (eq-eqb p.to end e)) ∙ ap (λ n. suc n) (closing_len spare end (p ∷ ps))
      | inr ne ↦ ap length (cond-false (nat_eq p.to end) saved plain (ne_eqb p.to end ne)) ∙ ap (λ n. suc n) (moves_closed spare end ps (later_writes p ps end true ne h))
    ]

-- the rest of a path from the pair that writes the place
abbrev pub cycle_of : ℕ → List Pair → List Pair
cycle_of end [] = []
cycle_of end (p ∷ ps) = if nat_eq p.to end then p ∷ ps else cycle_of end ps

is_cycle : (end start : ℕ) (ps : List Pair) → Leads start ps end → writes end ps ≡ true → IsCycle (cycle_of end ps)
is_cycle end start [] l h = absurd (false≢true h)
is_cycle end start (p ∷ ps) l h = elim (cases_eq p.to end) [
  | inl e ↦ subst IsCycle (sym (cond-true (nat_eq p.to end) (p ∷ ps) (cycle_of end ps) (eq-eqb p.to end e))) (refl, subst (λ q. Leads p.from ps q) (sym e) l.1)
  | inr ne ↦ subst IsCycle (sym (cond-false (nat_eq p.to end) (p ∷ ps) (cycle_of end ps) (ne_eqb p.to end ne))) (is_cycle end p.from ps l.1 (later_writes p ps end true ne h))
]

-- a property of a path that holds of what is left of it holds of its cycle
cycle_by : (P : List Pair → Type 0) (end : ℕ) (ps : List Pair) → ((p : Pair) (qs : List Pair) → P (p ∷ qs) → P qs) → P ps → P (cycle_of end ps)
cycle_by P end [] step h = h
cycle_by P end (p ∷ ps) step h = elim (cases_eq p.to end) [
  | inl e ↦ subst P (sym (cond-true (nat_eq p.to end) (p ∷ ps) (cycle_of end ps) (eq-eqb p.to end e))) h
  | inr ne ↦ subst P (sym (cond-false (nat_eq p.to end) (p ∷ ps) (cycle_of end ps) (ne_eqb p.to end ne))) (cycle_by P end ps step (step p ps h))
]

among_append : (a b qs : List Pair) → AllAmong a qs → AllAmong b qs → AllAmong (a ++ b) qs
among_append [] b qs h k = k
among_append (p ∷ a) b qs h k = (h.0, among_append a b qs h.1 k)

-- the pairs of a path are among those of the map
path_among : (ps : List Pair) (w u : Sources) (qs : List Pair) → Fresh ps w → ((k : ℕ) → with_pairs ps w k ≡ u k) → IsWithin u qs → AllAmong ps qs
path_among [] w u qs f same h = tt
path_among (p ∷ ps) w u qs f same h = (h p.to p.from (own_source p ps w u f same), path_among ps (with_pair p w) u qs f.1 same h)

fresh_append : (ps qs : List Pair) (w u : Sources) → Fresh ps w → ((k : ℕ) → with_pairs ps w k ≡ u k) → Fresh qs u → Fresh (ps ++ qs) w
fresh_append [] qs w u f same h = fresh_within qs u w (λ k e. same k ∙ e) h
fresh_append (p ∷ ps) qs w u f same h = (f.0, fresh_append ps qs (with_pair p w) u f.1 same h)

not_written : (ps : List Pair) (k : ℕ) → NotIn k ps → writes k ps ≡ false
not_written [] k h = refl
not_written (p ∷ ps) k h = or_from (nat_eq p.to k) (writes k ps) (ne_eqb p.to k h.0) (not_written ps k h.1)

-- pairs that come fresh one after another write a place each
fresh_single : (ps : List Pair) (w : Sources) → Fresh ps w → no_two_write_one ps ≡ true
fresh_single [] w f = refl
fresh_single (p ∷ ps) w f =
    let out = not_written ps p.to (not_in ps (with_pair p w) p.to p.from f.1 (put_here w p.to (Some p.from) p.to refl)) in
    and_from (not (writes p.to ps)) (no_two_write_one ps) (ap not out) (fresh_single ps (with_pair p w) f.1)

-- the moves so far, the pairs that wait, and the cycles so far
pub record IsCounting (pairs : List Pair) (w : Sources) (entries : ℕ) (moves : List Pair) : Type 0 where
  pub cycles : List (List Pair)
  pub each : EachIsCycle cycles
  pub among : AllAmong (joined cycles) (proper pairs)
  pub fresh : Fresh (joined cycles) w
  pub within : IsWithin w (proper pairs)
  pub count : length moves + entries ≡ length (proper pairs) + length cycles

pub count_none : (pairs : List Pair) (w : Sources) (entries : ℕ) → IsWaiting pairs w entries → IsCounting pairs w entries []
count_none pairs w entries h = record {
  cycles = [];
  each = tt;
  among = tt;
  fresh = tt;
  within = h.within;
  count = omega (arith, h.count);
}

stays_within : (old new : Sources) (start : ℕ) (path : List Pair) (end : ℕ) (qs : List Pair) → Followed old new start path end → IsWithin old qs → IsWithin new qs
stays_within old new start path end qs f h = λ k from e. h k from (sym (f.same k) ∙ with_apart path new k (not_in path new k from f.fresh e) ∙ e)

pub count_one : (spare : ℕ) (pairs : List Pair) (start : ℕ) (old new : Sources) (before after : ℕ) (moves path : List Pair) (end : ℕ)
    → IsCounting pairs old before moves → Followed old new start path end → length path + after ≡ before → IsCounting pairs new after (moves_of spare end path ++ moves)
count_one spare pairs start old new before after moves path end h f len =
    let ms = moves_of spare end path in
    let none : (k : ℕ) → old k ≡ None → new k ≡ None = λ k e. none_below path new k (f.same k ∙ e) in
    let within = stays_within old new start path end (proper pairs) f h.within in
    elim (cases_Bool (writes end path)) [
      | inl closed ↦
          let c = cycle_of end path in
          let path_in = path_among path new old (proper pairs) f.fresh f.same h.within in
          let c_in = cycle_by (λ ps. AllAmong ps (proper pairs)) end path (λ p qs q. q.1) path_in in
          let whole = fresh_append path (joined h.cycles) new old f.fresh f.same h.fresh in
          record {
            cycles = c ∷ h.cycles;
            each = (is_cycle end start path f.leads closed, h.each);
            among = among_append c (joined h.cycles) (proper pairs) c_in h.among;
            fresh = cycle_by (λ ps. Fresh (ps ++ joined h.cycles) new) end path (λ p qs q. fresh_within (qs ++ joined h.cycles) (with_pair p new) new (λ k e. (none_before p new k e).1) q.1) whole;
            within = within;
            count = omega (arith, length-append ms moves, moves_closed spare end path closed, h.count, len);
          }
      | inr free ↦ record {
        cycles = h.cycles;
        each = h.each;
        among = h.among;
        fresh = fresh_within (joined h.cycles) old new none h.fresh;
        within = within;
        count = omega (arith, length-append ms moves, moves_open spare end path free, h.count, len);
      }
    ]

pub counted : (pairs : List Pair) (w : Sources) (entries : ℕ) (moves : List Pair) → IsCounting pairs w entries moves → entries ≡ 0 → OneMorePerCycle moves pairs
counted pairs w entries moves h none = record {
  cycles = h.cycles;
  each = h.each;
  among = h.among;
  apart = fresh_single (joined h.cycles) w h.fresh;
  count = omega (arith, h.count, none);
}

-- a map without a value at any key has no entry
pub no_entries : (es : List (ℕ × ℕ)) → ((k : ℕ) → lookup (nat_eq k) es ≡ None) → length es ≡ 0
no_entries [] h = refl
no_entries (e ∷ es) h = absurd (clash (lookup (nat_eq e.0) (e ∷ es)) e.1 (cond-true (nat_eq e.0 e.0) (Some e.1) (lookup (nat_eq e.0) es) (eq-eqb e.0 e.0 refl)) (h e.0))
