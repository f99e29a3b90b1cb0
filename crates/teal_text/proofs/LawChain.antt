-- The instructions of a well-formed program: one behind another up to its end, each spelled at its place, and each branch to the start of one or to the end.
use Rattle.std.proofs.Common.{◌≡◌, ℕ, ℤ, pos, negsuc, zero, suc, ◌+◌, ◌-◌, ◌<◌, ◌≤◌, List, [], ◌∷◌, ◌++◌, length, drop, map, All, Bool, true, false, Some, None, Option, Result, Ok, Err, refl, arith, ap, sym, ◌∙◌, length-append, length-drop}
use Rattle.std.specs.Prelude.{◌==◌, ◌||◌, if◌then◌else◌, nat_eq, find, not}
use Rattle.std.specs.List.{flat_map, list_any}
use Rattle.std.proofs.lemmas.Bool.Decides.{nat_tests}
use Rattle.std.proofs.lemmas.Bool.{not-false, eqb-true, eq-eqb, or_left, or_right}
use Rattle.std.proofs.lemmas.List.Elements.{All-head, All-tail}
use Rattle.std.proofs.lemmas.List.{take-append-drop, drop-drop, drop_all}
use Rattle.avm_ops.specs.declared.instr.Instr.{Instr}
use Rattle.avm_ops.specs.declared.instr.DecodeFault.{DecodeFault}
use Rattle.avm_ops.specs.declared.instr.Imm.{Imm}
use Rattle.avm_ops.specs.declared.instr.Imm.TheVariants.{Jump, Jumps}
use Rattle.avm_ops.specs.declared.rows.Format.{Format}
use Rattle.avm_ops.specs.declared.rows.Format.TheVariants as format
use Rattle.avm_ops.specs.declared.rows.Row.{Row}
use Rattle.avm_ops.specs.Table.{row_of}
use Rattle.avm_ops.specs.Immediate.{IsOf, IsSigned16}
use Rattle.avm_ops.specs.Code.{HasFormOf, decoded, decoded_at, AreBytes, HasForm, instr_bytes}
use Rattle.avm_ops.proofs.Reading.{instr_read}
use Rattle.avm_ops.proofs.Only.{spelt_at}
use Rattle.avm_run.specs.declared.outline.Branch.{Branch}
use Rattle.avm_run.specs.declared.outline.Outline.{Outline}
use Rattle.avm_run.specs.declared.program.ProgramFault.{ProgramFault}
use Rattle.avm_run.specs.declared.program.ProgramFault.TheVariants.{Version}
use Rattle.avm_run.specs.Bytes.{offsets_of, target, place}
use Rattle.avm_run.specs.Form.{before, branch_at, branches_at, joined, no_outline, outline, outline_at, outline_on, is_target, stray, checked, judged, judged_at, IsWellFormed}
use Rattle.teal_text.specs.Printing.{Placed, placed_from, placed_then, instructions, places_of, targets}

-- ---- each element of a list

abbrev pub Each : {A : Type 0} → (A → Type 0) → List A → Type 0
Each P [] = Unit {0}
Each P (x ∷ xs) = P x × Each P xs

module _ {A : Type 0} where
  pub each_both : (P Q : A → Type 0) (xs : List A) → Each P xs → Each Q xs → Each (λ x. P x × Q x) xs
  each_both P Q [] p q = tt
  each_both P Q (x ∷ xs) p q = ((p.0, q.0), each_both P Q xs p.1 q.1)

  pub each_weaker : (P Q : A → Type 0) → ((x : A) → P x → Q x) → (xs : List A) → Each P xs → Each Q xs
  each_weaker P Q f [] p = tt
  each_weaker P Q f (x ∷ xs) p = (f x p.0, each_weaker P Q f xs p.1)

  pub each_front : (P : A → Type 0) (xs ys : List A) → Each P (xs ++ ys) → Each P xs
  each_front P [] ys p = tt
  each_front P (x ∷ xs) ys p = (p.0, each_front P xs ys p.1)

  pub each_back : (P : A → Type 0) (xs ys : List A) → Each P (xs ++ ys) → Each P ys
  each_back P [] ys p = p
  each_back P (x ∷ xs) ys p = each_back P xs ys p.1

  pub each_append : (P : A → Type 0) (xs ys : List A) → Each P xs → Each P ys → Each P (xs ++ ys)
  each_append P [] ys p q = q
  each_append P (x ∷ xs) ys p q = (p.0, each_append P xs ys p.1 q)

  -- what isn't found
  pub each_fails : (f : A → Bool) (xs : List A) → find f xs ≡ None → Each (λ x. f x ≡ false) xs
  each_fails f [] e = tt
  each_fails f (x ∷ xs) e = fails_by f x xs (f x) refl e (each_fails f xs)
    where
      fails_by : (f : A → Bool) (x : A) (xs : List A) (b : Bool) → f x ≡ b → (if b then Some x else find f xs) ≡ None → (find f xs ≡ None → Each (λ x. f x ≡ false) xs) → (f x ≡ false) × Each (λ x. f x ≡ false) xs
      fails_by f x xs true is e ih = absurd cc
      fails_by f x xs false is e ih = (is, ih e)

  pub none_found : (f : A → Bool) (xs : List A) → Each (λ x. f x ≡ false) xs → find f xs ≡ None
  none_found f [] p = refl
  none_found f (x ∷ xs) p = rw p.0 (none_found f xs p.1)

module _ {A B : Type 0} where
  pub each_of_map : (P : B → Type 0) (f : A → B) (xs : List A) → Each P (map f xs) → Each (λ x. P (f x)) xs
  each_of_map P f [] p = tt
  each_of_map P f (x ∷ xs) p = (p.0, each_of_map P f xs p.1)

  pub each_map : (P : B → Type 0) (f : A → B) (xs : List A) → Each (λ x. P (f x)) xs → Each P (map f xs)
  each_map P f [] p = tt
  each_map P f (x ∷ xs) p = (p.0, each_map P f xs p.1)

  pub each_of_flat_map : (P : B → Type 0) (f : A → List B) (xs : List A) → Each P (flat_map f xs) → Each (λ x. Each P (f x)) xs
  each_of_flat_map P f [] p = tt
  each_of_flat_map P f (x ∷ xs) p = (each_front P (f x) (flat_map f xs) p, each_of_flat_map P f xs (each_back P (f x) (flat_map f xs) p))

  pub each_flat_map : (P : B → Type 0) (f : A → List B) (xs : List A) → Each (λ x. Each P (f x)) xs → Each P (flat_map f xs)
  each_flat_map P f [] p = tt
  each_flat_map P f (x ∷ xs) p = each_append P (f x) (flat_map f xs) p.0 (each_flat_map P f xs p.1)

-- ---- one instruction behind another

-- an instruction that stands at a place, and ends where its spelling does
pub record IsLink (at : ℕ) (p : Placed) : Type 0 where
  pub here : p.pc ≡ at
  pub long : p.next ≡ at + length (instr_bytes p.instr)
  pub form : HasForm p.instr

-- one behind another, from a place to the end
abbrev pub IsChain : ℕ → ℕ → List Placed → Type 0
IsChain at end [] = at ≡ end
IsChain at end (p ∷ ps) = IsLink at p × IsChain p.next end ps

abbrev pub bytes_at : Placed → List ℕ
bytes_at p = instr_bytes p.instr

abbrev pub place_at : Placed → ℕ
place_at p = p.pc

abbrev pub branches_of : Placed → List Branch
branches_of p = branches_at p.pc p.instr p.next

-- an outline, and the instructions themselves
pub record IsWalk (code : List ℕ) (pc : ℕ) (o : Outline) (ps : List Placed) : Type 0 where
  pub chain : IsChain pc (length code) ps
  pub starts : o.starts ≡ map place_at ps
  pub branches : o.branches ≡ flat_map branches_of ps
  pub bytes : flat_map bytes_at ps ≡ drop pc code

-- how an instruction stands in the code
record Standing (code : List ℕ) (pc : ℕ) (i : Instr) (next : ℕ) : Type 0 where
  long : next ≡ pc + length (instr_bytes i)
  inside : next ≤ length code
  rest : drop pc code ≡ instr_bytes i ++ drop next code
  form : HasForm i

abbrev next_or : ℕ → Result (Instr × ℕ) DecodeFault → ℕ
next_or d (Ok p) = p.1
next_or d (Err f) = d

stands_so : (code : List ℕ) (pc : ℕ) (i : Instr) (next : ℕ) → AreBytes code → pc < length code → decoded_at code pc ≡ Ok (i, next) → Standing code pc i next
stands_so code pc i next h low e =
    let spelt = spelt_at code pc i next h e in
    let split : drop pc code ≡ instr_bytes i ++ drop (next - pc) (drop pc code) =
    sym (take-append-drop (next - pc) (drop pc code)) ∙ ap (λ (front : List ℕ). front ++ drop (next - pc) (drop pc code)) spelt.0 in
    let again : decoded_at code pc ≡ Ok (i, pc + length (instr_bytes i)) = ap (decoded pc) split ∙ instr_read i pc (drop (next - pc) (drop pc code)) spelt.1 in
    let long : next ≡ pc + length (instr_bytes i) = ap (next_or 0) (sym e ∙ again) in
    let there : pc + (next - pc) ≡ next = omega (arith, long) in
    let rest : drop pc code ≡ instr_bytes i ++ drop next code =
    split ∙ ap (λ (t : List ℕ). instr_bytes i ++ t) (drop-drop (next - pc) pc code ∙ ap (λ n. drop n code) there) in
    record {
      long = long;
      inside = omega (arith, long, ap length rest, length-drop pc code, length-drop next code, length-append (instr_bytes i) (drop next code));
      rest = rest;
      form = spelt.1;
    }

walk_end : (code : List ℕ) (pc : ℕ) (o : Outline) → pc ≡ length code → no_outline ≡ o → IsWalk code pc o []
walk_end code pc o at is = record {
  chain = at;
  starts = ap (λ (x : Outline). x.starts) (sym is);
  branches = ap (λ (x : Outline). x.branches) (sym is);
  bytes = sym (drop_all pc code (omega arith));
}

abbrev Follows : ℕ → List ℕ → ℕ → Type 0
Follows n code pc = (next : ℕ) (o : Outline) → pc < next → next ≤ length code → outline n code next ≡ Ok o → IsWalk code next o (placed_from n code next)

walk_joined : (n : ℕ) (code : List ℕ) (pc : ℕ) (i : Instr) (next : ℕ) (o : Outline) (r : Result Outline ProgramFault) → Standing code pc i next
    → r ≡ outline n code next → before (outline_at pc i next) r ≡ Ok o → Follows n code pc → IsWalk code pc o (record { pc = pc; instr = i; next = next } ∷ placed_from n code next)
walk_joined n code pc i next o (Err f) at is e ih = absurd cc
walk_joined n code pc i next o (Ok rest) at is e ih =
    let w = ih next rest (omega (arith, at.long)) at.inside (sym is) in
    let same : joined (outline_at pc i next) rest ≡ o = cc in
    record {
      chain = (record { here = refl; long = at.long; form = at.form }, w.chain);
      starts = ap (λ (x : Outline). x.starts) (sym same) ∙ ap (λ (xs : List ℕ). pc ∷ xs) w.starts;
      branches = ap (λ (x : Outline). x.branches) (sym same) ∙ ap (λ (xs : List Branch). branches_at pc i next ++ xs) w.branches;
      bytes = ap (λ (xs : List ℕ). instr_bytes i ++ xs) w.bytes ∙ sym at.rest;
    }

walk_decoded : (n : ℕ) (code : List ℕ) (pc : ℕ) (o : Outline) (r : Result (Instr × ℕ) DecodeFault) → AreBytes code → pc < length code → decoded_at code pc ≡ r
    → outline_on pc r (outline n code) ≡ Ok o → Follows n code pc → IsWalk code pc o (placed_then pc r (placed_from n code))
walk_decoded n code pc o (Err f) h low d e ih = absurd cc
walk_decoded n code pc o (Ok p) h low d e ih = walk_joined n code pc p.0 p.1 o (outline n code p.1) (stands_so code pc p.0 p.1 h low d) refl e ih

walk_by : (n : ℕ) (code : List ℕ) (pc : ℕ) (o : Outline) (b : Bool) → (pc == length code) ≡ b → AreBytes code → pc ≤ length code
    → (if b then Ok no_outline else outline_on pc (decoded_at code pc) (outline n code)) ≡ Ok o → Follows n code pc
    → IsWalk code pc o (if b then [] else placed_then pc (decoded_at code pc) (placed_from n code))
walk_by n code pc o true is h low e ih = let same : no_outline ≡ o = cc in walk_end code pc o (eqb-true pc (length code) is) same
walk_by n code pc o false is h low e ih = walk_decoded n code pc o (decoded_at code pc) h (grind (arith, nat_tests)) refl e ih

-- the outline's instructions are those of the printed text
pub walked : (n : ℕ) (code : List ℕ) (pc : ℕ) (o : Outline) → AreBytes code → pc ≤ length code → length code - pc ≤ n → outline n code pc ≡ Ok o → IsWalk code pc o (placed_from n code pc)
unfolding outline placed_from
walked zero code pc o h low few e = let same : no_outline ≡ o = cc in walk_end code pc o (omega arith) same
walked (suc n) code pc o h low few e = walk_by n code pc o (pc == length code) refl h low e (λ next rest more inside d. walked n code next rest h inside (omega arith) d)

-- ---- a well-formed program

pub record IsSound (code : List ℕ) : Type 0 where
  pub version : code ≡ 10 ∷ drop 1 code
  pub long : 1 ≤ length code
  pub outline : Outline
  pub walk : IsWalk code 1 outline (instructions code)
  pub known : stray outline (length code) ≡ None

sound_stray : (code : List ℕ) (o : Outline) (s : Option Branch) → stray o (length code) ≡ s → judged s ≡ Ok tt → code ≡ 10 ∷ drop 1 code → 1 ≤ length code → IsWalk code 1 o (instructions code) → IsSound code
sound_stray code o (Some b) is e v l w = absurd cc
sound_stray code o None is e v l w = record { version = v; long = l; outline = o; walk = w; known = is }

sound_outline : (code : List ℕ) (r : Result Outline ProgramFault) → AreBytes code → outline (length code - 1) code 1 ≡ r → judged_at (length code) r ≡ Ok tt → code ≡ 10 ∷ drop 1 code → 1 ≤ length code → IsSound code
sound_outline code (Err f) h is e v l = absurd cc
sound_outline code (Ok o) h is e v l = sound_stray code o (stray o (length code)) refl e v l (walked (length code - 1) code 1 o h l (omega arith) is)

sound_version : (b : ℕ) (bs : List ℕ) (c : Bool) → (b == 10) ≡ c → AreBytes (b ∷ bs) → (if c then judged_at (length (b ∷ bs)) (outline (length bs) (b ∷ bs) 1) else Err (Version b)) ≡ Ok tt → IsSound (b ∷ bs)
sound_version b bs false is h e = absurd cc
sound_version b bs true is h e =
    let count : length (b ∷ bs) - 1 ≡ length bs = omega arith in
    sound_outline (b ∷ bs) (outline (length (b ∷ bs) - 1) (b ∷ bs) 1) h refl
    (ap (λ n. judged_at (length (b ∷ bs)) (outline n (b ∷ bs) 1)) count ∙ e)
    (ap (λ (x : ℕ). x ∷ bs) (eqb-true b 10 is)) (omega arith)

pub sound : (code : List ℕ) → AreBytes code → IsWellFormed code → IsSound code
unfolding checked
sound [] h w = absurd cc
sound (b ∷ bs) h w = sound_version b bs (b == 10) refl h w

-- ---- its branches

-- a place is among these
abbrev pub is_in : List ℕ → ℕ → Bool
is_in ts t = list_any (λ u. u == t) ts

-- a place is the start of an instruction, or the end
abbrev pub stands_in : List ℕ → ℕ → ℕ → Bool
stands_in starts end t = list_any (λ s. nat_eq s t) starts || (t == end)

-- an offset leads to a place that is known
pub record Reaches (ts starts : List ℕ) (end next : ℕ) (j : ℤ) : Type 0 where
  pub spot : target next j ≡ pos (place (target next j))
  pub listed : is_in ts (place (target next j)) ≡ true
  pub stands : stands_in starts end (place (target next j)) ≡ true
  pub near : IsSigned16 j

-- an instruction of its row's form whose offsets do
pub record IsGood (ts starts : List ℕ) (end : ℕ) (p : Placed) : Type 0 where
  pub form : HasForm p.instr
  pub reaches : Each (Reaches ts starts end p.next) (offsets_of p.instr.imm)

each_here : (ts : List ℕ) → Each (λ t. is_in ts t ≡ true) ts
each_here [] = tt
each_here (t ∷ ts) = (
  or_left (t == t) (is_in ts t) (eq-eqb t t refl),
  each_weaker (λ u. is_in ts u ≡ true) (λ u. is_in (t ∷ ts) u ≡ true) (λ u h. or_right (t == u) (is_in ts u) h) ts (each_here ts),
)

each_of_all : {A : Type 0} (P : A → Type 0) (xs : List A) → All P xs → Each P xs
each_of_all P [] h = tt
each_of_all P (x ∷ xs) h = (All-head P x xs h, each_of_all P xs (All-tail P x xs h))

near_of : (f : Format) (i : Imm) → IsOf f i → Each IsSigned16 (offsets_of i)
near_of format.Jump (Jump j) h = (h, tt)
near_of format.Jumps (Jumps js) h = each_of_all IsSigned16 js h.1
near_of f (Jump j) h = absurd h
near_of f (Jumps js) h = absurd h
near_of f i h = tt

near_by : (row : Option Row) (i : Imm) → HasFormOf row i → Each IsSigned16 (offsets_of i)
near_by None i h = absurd h
near_by (Some row) i h = near_of row.format i h

each_formed : (at end : ℕ) (ps : List Placed) → IsChain at end ps → Each (λ p. HasForm p.instr) ps
each_formed at end [] h = tt
each_formed at end (p ∷ ps) h = (h.0.form, each_formed p.next end ps h.1)

spot_of : (starts : List ℕ) (end : ℕ) (z : ℤ) → is_target starts end z ≡ true → (z ≡ pos (place z)) × (stands_in starts end (place z) ≡ true)
spot_of starts end (pos n) h = (refl, h)
spot_of starts end (negsuc n) h = absurd cc

reaches_of : (ts starts : List ℕ) (end next : ℕ) (j : ℤ) → ((not (is_target starts end (target next j)) ≡ false) × (is_in ts (place (target next j)) ≡ true)) × IsSigned16 j → Reaches ts starts end next j
reaches_of ts starts end next j h =
    let there = spot_of starts end (target next j) (not-false (is_target starts end (target next j)) h.0.0) in
    record { spot = there.0; listed = h.0.1; stands = there.1; near = h.1 }

abbrev IsKnown : List ℕ → ℕ → Branch → Type 0
IsKnown starts end b = not (is_target starts end b.target) ≡ false

abbrev IsListed : List ℕ → ℕ → Type 0
IsListed ts t = is_in ts t ≡ true

abbrev Parts : List ℕ → List ℕ → ℕ → Placed → Type 0
Parts ts starts end p = (Each (IsKnown starts end) (branches_of p) × Each (IsListed ts) (places_of p)) × HasForm p.instr

good_of : (ts starts : List ℕ) (end : ℕ) (p : Placed) → Parts ts starts end p → IsGood ts starts end p
good_of ts starts end p h =
    let js = offsets_of p.instr.imm in
    let one = each_of_map (IsKnown starts end) (branch_at p.pc p.next) js h.0.0 in
    let two = each_of_map (λ z. IsListed ts (place z)) (target p.next) js (each_of_map (IsListed ts) place (map (target p.next) js) h.0.1) in
    let three = near_by (row_of p.instr.op) p.instr.imm h.1 in
    let Known : ℤ → Type 0 = λ j. not (is_target starts end (target p.next j)) ≡ false in
    let Listed : ℤ → Type 0 = λ j. is_in ts (place (target p.next j)) ≡ true in
    record {
      form = h.1;
      reaches = each_weaker (λ j. (Known j × Listed j) × IsSigned16 j) (Reaches ts starts end p.next) (reaches_of ts starts end p.next) js
          (each_both (λ j. Known j × Listed j) IsSigned16 js (each_both Known Listed js one two) three);
    }

-- each instruction of a well-formed program is so
pub each_good : (code : List ℕ) → IsSound code → Each (IsGood (targets (instructions code)) (map place_at (instructions code)) (length code)) (instructions code)
each_good code s =
    let ps = instructions code in
    let ts = targets ps in
    let starts = map place_at ps in
    let end = length code in
    let known : find (λ (b : Branch). not (is_target starts end b.target)) (flat_map branches_of ps) ≡ None =
    ap (λ (xs : List ℕ). find (λ (b : Branch). not (is_target xs end b.target)) (flat_map branches_of ps)) (sym s.walk.starts)
    ∙ ap (find (λ (b : Branch). not (is_target s.outline.starts end b.target))) (sym s.walk.branches)
    ∙ s.known in
    let one = each_of_flat_map (IsKnown starts end) branches_of ps (each_fails (λ (b : Branch). not (is_target starts end b.target)) (flat_map branches_of ps) known) in
    let two = each_of_flat_map (IsListed ts) places_of ps (each_here ts) in
    let three = each_formed 1 end ps s.walk.chain in
    let Known : Placed → Type 0 = λ p. Each (IsKnown starts end) (branches_of p) in
    let Listed : Placed → Type 0 = λ p. Each (IsListed ts) (places_of p) in
    let Formed : Placed → Type 0 = λ p. HasForm p.instr in
    each_weaker (Parts ts starts end) (IsGood ts starts end) (good_of ts starts end) ps
    (each_both (λ p. Known p × Listed p) Formed ps (each_both Known Listed ps one two) three)
