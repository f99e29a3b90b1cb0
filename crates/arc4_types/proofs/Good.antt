-- What is read of an encoding is its value, and what was read is the encoding of its value.
use Rattle.std.proofs.Common.{◌≡◌, ◌∙◌, ℕ, zero, suc, ◌+◌, ◌-◌, ◌<◌, ◌≤◌, Bool, true, false, cond, ltb, eqb, List, [], ◌∷◌, ◌++◌, length, take, drop, map, Option, Some, None, Result, Ok, Err, refl, sym, ap, subst, append_assoc, arith, add_assoc}
use Rattle.std.proofs.Math.ListN.{replicate, length-replicate}
use Rattle.std.proofs.lemmas.List.{length-append, length-map, append-nil, map-append, take-append-drop, length-take, nil_from_length}
use Rattle.std.proofs.lemmas.Bool.{ltb-true, ltb-false, lt-ltb, le-ltb, eqb-true, eq-eqb, and_parts, and_from}
use Rattle.std.specs.Prelude.{option_map, option_and_then, ◌&&◌}
use Rattle.std.specs.Int.{Width, w8, w16, byte_len, to_be_bytes}
use Rattle.arc4_types.specs.declared.abi_fault.AbiFault.{AbiFault}
use Rattle.arc4_types.specs.declared.abi_fault.AbiFault.TheVariants as fault
use Rattle.arc4_types.specs.declared.form.Form.{Form}
use Rattle.arc4_types.specs.declared.form.Form.TheVariants as form
use Rattle.arc4_types.specs.declared.placed.Placed.{Placed}
use Rattle.arc4_types.specs.declared.placed.Placed.TheVariants.{Here, Later}
use Rattle.arc4_types.specs.Types.{Ty, Tys, uint, byte, flag, text as string, address, array, fixed, tuple, no_types, a_type, width_of}
use Rattle.arc4_types.specs.Values.{Val, Vals, number, truth, bytes, parts, no_values, a_value, vals_of, items_of}
use Rattle.arc4_types.specs.Groups.{Part, Group, octet, static, dynamic, forms, bools_in, form_of, by_form, groups, covered}
use Rattle.arc4_types.specs.Encoding.{Codes, packed, flags_of, first_coded, first_placed, placed, in_head, head_size, heads, tails, offsets_fit, joined, row_coding, number_coding, flag_coding, text_coding, address_coding, tuple_coding, counted_coding, array_coding, coding, codings}
use Rattle.arc4_types.specs.Reading.{◌>>=◌, Reads, Told, told, waits, flags_told, mapped, taken, number_at, octet_at, one_flag, text_at, first_told, head_at, tail_at, tails_at, codes_in, row_at, reading, readings, whole_of, decoding}
use Rattle.arc4_types.proofs.Steps.{Bound, bind_ok, ok_is, done, Made, mapped_ok, if_err, else_err, Chained, then_some, Mapped, map_some, if_some, IsBytes, bytes_behind, bytes_in_front}
use Rattle.arc4_types.proofs.Bits.{octet_again, octet_takes, OctetTaken, flags_are, flags_of-truths, drop-truths}
use Rattle.arc4_types.proofs.Runs.{bools_at_most, bools_within}
use Rattle.arc4_types.proofs.Placing.{items-vals}
use Rattle.arc4_types.proofs.Numbers.{IsWide, wide, wide8, wide16, Digits, number_takes, number_again, Counted, text_takes, text_again, Front, taken_takes, taken_again}

-- a value that was read, with its encoding
pub record Taken (code : Codes) (bs : List ℕ) (v : Val) (rest : List ℕ) : Type 0 where
  pub text : List ℕ
  pub coded : code v ≡ Some text
  pub parts : bs ≡ text ++ rest

-- reading and writing that belong together
pub record Good (code : Codes) (read : Reads Val) : Type 0 where
  pub again : (v : Val) (text rest : List ℕ) → code v ≡ Some text → read (text ++ rest) ≡ Ok (v, rest)
  pub takes : (bs : List ℕ) (v : Val) (rest : List ℕ) → IsBytes bs → read bs ≡ Ok (v, rest) → Taken code bs v rest

abbrev pub some : {A : Type 0} → A → Option A
some x = Some x

pub some_is : {A : Type 0} (x y : A) → some x ≡ some y → x ≡ y
some_is x y e = cc

-- ---- rows: parts that belong together

pub data Agree : List (Part Codes) → List (Part (Reads Val)) → Type 0 where
  none : Agree [] []
  also : {code : Codes} {read : Reads Val} {ps : List (Part Codes)} {qs : List (Part (Reads Val))} (f : Form) → Good code read → Agree ps qs
      → Agree (record { form = f; code = code } ∷ ps) (record { form = f; code = read } ∷ qs)

-- groups that belong together, with the readers of their parts
data Alike : List (Group Codes) → List (Group (Reads Val)) → List (Reads Val) → Type 0 where
  no_groups : Alike [] [] []
  octets : {gs : List (Group Codes)} {hs : List (Group (Reads Val))} {rs : List (Reads Val)} (k : ℕ) (us : List (Reads Val)) → k ≤ 8 → length us ≡ k → Alike gs hs rs → Alike (octet k ∷ gs) (octet k ∷ hs) (us ++ rs)
  statics : {code : Codes} {read : Reads Val} {gs : List (Group Codes)} {hs : List (Group (Reads Val))} {rs : List (Reads Val)} → Good code read → Alike gs hs rs → Alike (static code ∷ gs) (static read ∷ hs) (read ∷ rs)
  dynamics : {code : Codes} {read : Reads Val} {gs : List (Group Codes)} {hs : List (Group (Reads Val))} {rs : List (Reads Val)} → Good code read → Alike gs hs rs → Alike (dynamic code ∷ gs) (dynamic read ∷ hs) (read ∷ rs)

forms_agree : {ps : List (Part Codes)} {qs : List (Part (Reads Val))} → Agree ps qs → forms ps ≡ forms qs
forms_agree none = refl
forms_agree (also f g a) = ap (λ fs. f ∷ fs) (forms_agree a)

lengths_agree : {ps : List (Part Codes)} {qs : List (Part (Reads Val))} → Agree ps qs → length ps ≡ length qs
lengths_agree none = refl
lengths_agree (also f g a) = ap suc (lengths_agree a)

octets_alike : (n m : ℕ) (gs : List (Group Codes)) (hs : List (Group (Reads Val))) (r : Reads Val) (rs : List (Reads Val)) → n ≡ m → n ≤ 7 → n ≤ length rs → Alike gs hs (drop n rs) → Alike (octet (suc n) ∷ gs) (octet (suc m) ∷ hs) (r ∷ rs)
octets_alike n m gs hs r rs e s l a =
    let us = r ∷ take n rs in
    let c : length us ≡ suc n = omega (arith, length-take n rs) in
    let w : us ++ drop n rs ≡ r ∷ rs = ap (λ xs. r ∷ xs) (take-append-drop n rs) in
    let o : Alike (octet (suc n) ∷ gs) (octet (suc n) ∷ hs) (us ++ drop n rs) = octets (suc n) us (omega arith) c a in
    subst (λ k. Alike (octet (suc n) ∷ gs) (octet (suc k) ∷ hs) (r ∷ rs)) e (subst (λ xs. Alike (octet (suc n) ∷ gs) (octet (suc n) ∷ hs) xs) w o)

groups_alike : {ps : List (Part Codes)} {qs : List (Part (Reads Val))} → Agree ps qs → (n : ℕ) → Alike (groups n ps) (groups n qs) (drop n (codes_in qs))
groups_alike none zero = no_groups
groups_alike none (suc n) = no_groups
groups_alike (also f g a) (suc n) = groups_alike a n
groups_alike (also form.Static g a) zero = statics g (groups_alike a zero)
groups_alike (also form.Dynamic g a) zero = dynamics g (groups_alike a zero)
groups_alike {ps = p ∷ ps} {qs = q ∷ qs} (also form.Bool g a) zero =
    let n = bools_in (forms ps) 7 in
    let e : n ≡ bools_in (forms qs) 7 = ap (λ fs. bools_in fs 7) (forms_agree a) in
    let w : n ≤ length (codes_in qs) = let b = bools_within (forms ps) 7 in omega (arith, b, length-map ps (λ p. p.form), lengths_agree a, length-map qs (λ q. q.code)) in
    let hs : Alike (groups n ps) (groups n qs) (drop n (codes_in qs)) = groups_alike a n in
    octets_alike n (bools_in (forms qs) 7) (groups n ps) (groups (bools_in (forms qs) 7) qs) q.code (codes_in qs) e (bools_at_most (forms ps) 7) w
    (subst (λ k. Alike (groups n ps) (groups k qs) (drop n (codes_in qs))) e hs)

-- ---- from the encoding to what is read

-- what a head tells, where the next tail begins there
data Waits : ℕ → List Placed → List Val → List (Reads Val) → List Told → Type 0 where
  no_parts : {at : ℕ} → Waits at [] [] [] []
  bools : {at : ℕ} {es : List Placed} {vs : List Val} {rs : List (Reads Val)} {ts : List Told} (x : List ℕ) (bs : List Bool) (us : List (Reads Val)) → length us ≡ length bs → Waits at es vs rs ts
      → Waits at (Here x ∷ es) (map truth bs ++ vs) (us ++ rs) (flags_told bs ++ ts)
  here : {at : ℕ} {es : List Placed} {vs : List Val} {rs : List (Reads Val)} {ts : List Told} (b : List ℕ) (v : Val) (r : Reads Val) → Waits at es vs rs ts → Waits at (Here b ∷ es) (v ∷ vs) (r ∷ rs) (told v ∷ ts)
  later : {at : ℕ} {es : List Placed} {vs : List Val} {rs : List (Reads Val)} {ts : List Told} (b : List ℕ) (v : Val) (r : Reads Val) → ((rest : List ℕ) → r (b ++ rest) ≡ Ok (v, rest)) → Waits (at + length b) es vs rs ts
      → Waits at (Later b ∷ es) (v ∷ vs) (r ∷ rs) (waits at ∷ ts)

record HeadRead (hs : List (Group (Reads Val))) (rs : List (Reads Val)) (es : List Placed) (vs : List Val) (at : ℕ) (rest : List ℕ) : Type 0 where
  ts : List Told
  read : head_at hs (heads at es ++ rest) ≡ Ok (ts, rest)
  wait : Waits at es vs rs ts

octet_head : (hs : List (Group (Reads Val))) (rs us : List (Reads Val)) (es : List Placed) (vs : List Val) (at k : ℕ) (rest : List ℕ) (bs : List Bool) → HeadRead hs rs es vs at rest → length bs ≡ k → k ≤ 8 → length us ≡ k
    → HeadRead (octet k ∷ hs) (us ++ rs) (Here (packed bs ∷ []) ∷ es) (map truth bs ++ vs) at rest
octet_head hs rs us es vs at k rest bs h c l u =
    let o : octet_at k (packed bs ∷ (heads at es ++ rest)) ≡ Ok (bs, heads at es ++ rest) = subst (λ n. octet_at n (packed bs ∷ (heads at es ++ rest)) ≡ Ok (bs, heads at es ++ rest)) c (octet_again bs (heads at es ++ rest) (omega arith)) in
    record {
      ts = flags_told bs ++ h.ts;
      read = ap (λ z. mapped flags_told z >>= λ x. mapped (λ ts. x.0 ++ ts) (head_at hs x.1)) o ∙ ap (mapped (λ ts. flags_told bs ++ ts)) h.read;
      wait = bools (packed bs ∷ []) bs us (u ∙ sym c) h.wait;
    }

static_head : (code : Codes) (read : Reads Val) (hs : List (Group (Reads Val))) (rs : List (Reads Val)) (es : List Placed) (v : Val) (vs : List Val) (at : ℕ) (b rest : List ℕ) → Good code read → code v ≡ Some b → HeadRead hs rs es vs at rest
    → HeadRead (static read ∷ hs) (read ∷ rs) (Here b ∷ es) (v ∷ vs) at rest
static_head code read hs rs es v vs at b rest g c h =
    let o : read ((b ++ heads at es) ++ rest) ≡ Ok (v, heads at es ++ rest) = ap read (append_assoc b (heads at es) rest) ∙ g.again v b (heads at es ++ rest) c in
    record {
      ts = told v ∷ h.ts;
      read = ap (λ z. mapped (λ v. told v ∷ []) z >>= λ x. mapped (λ ts. x.0 ++ ts) (head_at hs x.1)) o ∙ ap (mapped (λ ts. told v ∷ ts)) h.read;
      wait = here b v read h.wait;
    }

dynamic_head : (code : Codes) (read : Reads Val) (hs : List (Group (Reads Val))) (rs : List (Reads Val)) (es : List Placed) (v : Val) (vs : List Val) (at : ℕ) (b rest : List ℕ) → Good code read → code v ≡ Some b → at < 65536 → HeadRead hs rs es vs (at + length b) rest
    → HeadRead (dynamic read ∷ hs) (read ∷ rs) (Later b ∷ es) (v ∷ vs) at rest
dynamic_head code read hs rs es v vs at b rest g c l h =
    let more = heads (at + length b) es in
    let o : number_at w16 ((to_be_bytes w16 at ++ more) ++ rest) ≡ Ok (at, more ++ rest) = ap (number_at w16) (append_assoc (to_be_bytes w16 at) more rest) ∙ number_again w16 wide16 at (more ++ rest) l in
    record {
      ts = waits at ∷ h.ts;
      read = ap (λ z. mapped (λ o. waits o ∷ []) z >>= λ x. mapped (λ ts. x.0 ++ ts) (head_at hs x.1)) o ∙ ap (mapped (λ ts. waits at ∷ ts)) h.read;
      wait = later b v read (λ rest. g.again v b rest c) h.wait;
    }

-- the parts placed first and behind
record Begins (first : Option Placed) (more : Option (List Placed)) (es : List Placed) : Type 0 where
  p : Placed
  ps : List Placed
  first_is : first ≡ Some p
  more_is : more ≡ Some ps
  is : p ∷ ps ≡ es

begins : (first : Option Placed) (more : Option (List Placed)) (es : List Placed) → option_and_then (λ p. option_map (λ ps. p ∷ ps) more) first ≡ Some es → Begins first more es
begins first more es e =
    let t = then_some first (λ p. option_map (λ ps. p ∷ ps) more) es e in
    let m = map_some more (λ ps. t.got ∷ ps) es t.then in
    record { p = t.got; ps = m.got; first_is = t.first; more_is = m.first; is = m.is }

head_again : {gs : List (Group Codes)} {hs : List (Group (Reads Val))} {rs : List (Reads Val)} → Alike gs hs rs → (vs : List Val) (es : List Placed) (at : ℕ) (rest : List ℕ) → placed gs vs ≡ Some es → offsets_fit at es ≡ true → HeadRead hs rs es vs at rest
head_again no_groups [] es at rest e f = subst (λ xs. HeadRead [] [] xs [] at rest) (some_is [] es e) (record { ts = []; read = refl; wait = no_parts })
head_again no_groups (v ∷ vs) es at rest e f = absurd cc
head_again (octets {gs} {hs} {rs} k us le u a) vs es at rest e f =
    let b = begins (first_placed (octet k) vs) (placed gs (drop k vs)) es e in
    let m = map_some (flags_of k vs) (λ bs. Here (packed bs ∷ [])) b.p b.first_is in
    let q : Here (packed m.got ∷ []) ∷ b.ps ≡ es = ap (λ p. p ∷ b.ps) m.is ∙ b.is in
    let f1 : offsets_fit at b.ps ≡ true = subst (λ xs. offsets_fit at xs ≡ true) (sym q) f in
    let w = flags_are k vs m.got m.first in
    let r = octet_head hs rs us b.ps (drop k vs) at k rest m.got (head_again a (drop k vs) b.ps at rest b.more_is f1) w.count le u in
    subst (λ xs. HeadRead (octet k ∷ hs) (us ++ rs) xs vs at rest) q (subst (λ ws. HeadRead (octet k ∷ hs) (us ++ rs) (Here (packed m.got ∷ []) ∷ b.ps) ws at rest) (sym w.are) r)
head_again (statics g a) [] es at rest e f = absurd cc
head_again (statics {code} {read} {gs} {hs} {rs} g a) (v ∷ vs) es at rest e f =
    let b = begins (first_placed (static code) (v ∷ vs)) (placed gs vs) es e in
    let m = map_some (code v) (λ b. Here b) b.p b.first_is in
    let q : Here m.got ∷ b.ps ≡ es = ap (λ p. p ∷ b.ps) m.is ∙ b.is in
    let f1 : offsets_fit at b.ps ≡ true = subst (λ xs. offsets_fit at xs ≡ true) (sym q) f in
    subst (λ xs. HeadRead (static read ∷ hs) (read ∷ rs) xs (v ∷ vs) at rest) q (static_head code read hs rs b.ps v vs at m.got rest g m.first (head_again a vs b.ps at rest b.more_is f1))
head_again (dynamics g a) [] es at rest e f = absurd cc
head_again (dynamics {code} {read} {gs} {hs} {rs} g a) (v ∷ vs) es at rest e f =
    let b = begins (first_placed (dynamic code) (v ∷ vs)) (placed gs vs) es e in
    let m = map_some (code v) (λ b. Later b) b.p b.first_is in
    let q : Later m.got ∷ b.ps ≡ es = ap (λ p. p ∷ b.ps) m.is ∙ b.is in
    let f1 : offsets_fit at (Later m.got ∷ b.ps) ≡ true = subst (λ xs. offsets_fit at xs ≡ true) (sym q) f in
    let t = and_parts (ltb at 65536) (offsets_fit (at + length m.got) b.ps) f1 in
    subst (λ xs. HeadRead (dynamic read ∷ hs) (read ∷ rs) xs (v ∷ vs) at rest) q (dynamic_head code read hs rs b.ps v vs at m.got rest g m.first (ltb-true at 65536 t.0) (head_again a vs b.ps (at + length m.got) rest b.more_is t.1))

mapped_twice : (v : Val) (f : List Val → List Val) (r : Result (List Val × List ℕ) AbiFault) → mapped (λ vs. v ∷ vs) (mapped f r) ≡ mapped (λ vs. v ∷ f vs) r
mapped_twice v f (Ok x) = refl
mapped_twice v f (Err e) = refl

mapped_same : (r : Result (List Val × List ℕ) AbiFault) → r ≡ mapped (λ vs. vs) r
mapped_same (Ok x) = refl
mapped_same (Err e) = refl

flags_tail : (whole : ℕ) (bs : List Bool) (us rs : List (Reads Val)) (ts : List Told) (xs : List ℕ) → length us ≡ length bs → tails_at whole (us ++ rs) (flags_told bs ++ ts) xs ≡ mapped (λ vs. map truth bs ++ vs) (tails_at whole rs ts xs)
flags_tail whole [] [] rs ts xs l = mapped_same (tails_at whole rs ts xs)
flags_tail whole [] (u ∷ us) rs ts xs l = absurd (omega arith)
flags_tail whole (b ∷ bs) [] rs ts xs l = absurd (omega arith)
flags_tail whole (b ∷ bs) (u ∷ us) rs ts xs l = ap (mapped (λ vs. truth b ∷ vs)) (flags_tail whole bs us rs ts xs (omega arith)) ∙ mapped_twice (truth b) (λ vs. map truth bs ++ vs) (tails_at whole rs ts xs)

tails_again : {at : ℕ} {es : List Placed} {vs : List Val} {rs : List (Reads Val)} {ts : List Told} → Waits at es vs rs ts → (whole : ℕ) (rest : List ℕ) → at + length (tails es ++ rest) ≡ whole → tails_at whole rs ts (tails es ++ rest) ≡ Ok (vs, rest)
tails_again no_parts whole rest e = refl
tails_again (bools {at} {es} {vs} {rs} {ts} x bs us l w) whole rest e =
    flags_tail whole bs us rs ts (tails es ++ rest) l ∙ ap (mapped (λ vs. map truth bs ++ vs)) (tails_again w whole rest e)
tails_again (here b v r w) whole rest e = ap (mapped (λ vs. v ∷ vs)) (tails_again w whole rest e)
tails_again (later {at} {es} {vs} {rs} {ts} b v r g w) whole rest e =
    let n : length ((b ++ tails es) ++ rest) ≡ length b + length (tails es ++ rest) = ap length (append_assoc b (tails es) rest) ∙ length-append b (tails es ++ rest) in
    let p : eqb at (whole - length ((b ++ tails es) ++ rest)) ≡ true = eq-eqb at (whole - length ((b ++ tails es) ++ rest)) (omega arith) in
    let i = tails_again w whole rest (omega (arith, n, e)) in
    let s : r ((b ++ tails es) ++ rest) ≡ Ok (v, tails es ++ rest) = ap r (append_assoc b (tails es) rest) ∙ g (tails es ++ rest) in
    ap (λ t. cond t (r ((b ++ tails es) ++ rest)) (Err fault.Offset) >>= λ x. mapped (λ vs. x.0 ∷ vs) (tails_at whole rs ts x.1)) p
    ∙ ap (λ z. z >>= λ x. mapped (λ vs. x.0 ∷ vs) (tails_at whole rs ts x.1)) s
    ∙ ap (mapped (λ vs. v ∷ vs)) i

length-heads : (es : List Placed) (at : ℕ) → length (heads at es) ≡ head_size es
length-heads [] at = refl
length-heads (Here b ∷ es) at = length-append b (heads at es) ∙ ap (λ n. length b + n) (length-heads es at)
length-heads (Later b ∷ es) at = length-append (to_be_bytes w16 at) (heads (at + length b) es) ∙ ap (λ n. 2 + n) (length-heads es (at + length b))

pub row_again : {ps : List (Part Codes)} {qs : List (Part (Reads Val))} → Agree ps qs → (vs : List Val) (text rest : List ℕ) → row_coding ps vs ≡ Some text → row_at qs (text ++ rest) ≡ Ok (parts (vals_of vs), rest)
row_again {ps} {qs} a vs text rest e =
    let t = then_some (placed (groups 0 ps) vs) joined text e in
    let es = t.got in
    let at = head_size es in
    let j = if_some (offsets_fit at es) (some (heads at es ++ tails es)) text t.then in
    let x : heads at es ++ tails es ≡ text = some_is (heads at es ++ tails es) text j.1 in
    let h = head_again (groups_alike a 0) vs es at (tails es ++ rest) t.first j.0 in
    let y : text ++ rest ≡ heads at es ++ (tails es ++ rest) = ap (λ (z : List ℕ). z ++ rest) (sym x) ∙ append_assoc (heads at es) (tails es) rest in
    let n : at + length (tails es ++ rest) ≡ length (text ++ rest) = sym (ap length y ∙ length-append (heads at es) (tails es ++ rest) ∙ ap (λ k. k + length (tails es ++ rest)) (length-heads es at)) in
    let w = tails_again h.wait (length (text ++ rest)) rest n in
    let r : head_at (groups 0 qs) (text ++ rest) ≡ Ok (h.ts, tails es ++ rest) = ap (head_at (groups 0 qs)) y ∙ h.read in
    ap (λ z. z >>= λ h. mapped (λ vs. parts (vals_of vs)) (tails_at (length (text ++ rest)) (codes_in qs) h.0 h.1)) r ∙ ap (mapped (λ vs. parts (vals_of vs))) w

-- ---- from what is read to the encoding

-- what the bytes of a head tell
data Tells : List (Group Codes) → List (Reads Val) → List Told → List ℕ → Type 0 where
  nothing : Tells [] [] [] []
  bools_told : {gs : List (Group Codes)} {rs : List (Reads Val)} {ts : List Told} {h : List ℕ} (bs : List Bool) (us : List (Reads Val)) → length us ≡ length bs → Tells gs rs ts h
      → Tells (octet (length bs) ∷ gs) (us ++ rs) (flags_told bs ++ ts) (packed bs ∷ h)
  value_told : {code : Codes} {gs : List (Group Codes)} {rs : List (Reads Val)} {ts : List Told} {h : List ℕ} (v : Val) (b : List ℕ) (r : Reads Val) → code v ≡ Some b → Tells gs rs ts h
      → Tells (static code ∷ gs) (r ∷ rs) (told v ∷ ts) (b ++ h)
  offset_told : {code : Codes} {gs : List (Group Codes)} {rs : List (Reads Val)} {ts : List Told} {h : List ℕ} (o : ℕ) (r : Reads Val) → Good code r → o < 65536 → Tells gs rs ts h
      → Tells (dynamic code ∷ gs) (r ∷ rs) (waits o ∷ ts) (to_be_bytes w16 o ++ h)

record HeadTaken (gs : List (Group Codes)) (rs : List (Reads Val)) (bs : List ℕ) (ts : List Told) (rest : List ℕ) : Type 0 where
  head : List ℕ
  tells : Tells gs rs ts head
  split : bs ≡ head ++ rest
  fits : IsBytes rest

-- a first part that was read, and those behind it
record Reading (hs : List (Group (Reads Val))) (first : Result (List Told × List ℕ) AbiFault) (ts : List Told) (rest : List ℕ) : Type 0 where
  new : List Told
  left : List ℕ
  more : List Told
  first_is : first ≡ Ok (new, left)
  more_is : head_at hs left ≡ Ok (more, rest)
  is : new ++ more ≡ ts

reads_first : (hs : List (Group (Reads Val))) (first : Result (List Told × List ℕ) AbiFault) (ts : List Told) (rest : List ℕ) → (first >>= λ x. mapped (λ ts. x.0 ++ ts) (head_at hs x.1)) ≡ Ok (ts, rest) → Reading hs first ts rest
reads_first hs first ts rest e =
    let b = bind_ok first (λ x. mapped (λ ts. x.0 ++ ts) (head_at hs x.1)) (ts, rest) e in
    let m = mapped_ok (λ (ts : List Told). b.got.0 ++ ts) (head_at hs b.got.1) (ts, rest) b.then in
    record { new = b.got.0; left = b.got.1; more = m.got; first_is = b.first; more_is = m.read; is = m.is }

octet_told : (gs : List (Group Codes)) (rs us : List (Reads Val)) (bs left rest : List ℕ) (ts more : List Told) (flags : List Bool) (k : ℕ) → length us ≡ k → length flags ≡ k → bs ≡ packed flags ∷ left → flags_told flags ++ more ≡ ts
    → HeadTaken gs rs left more rest → HeadTaken (octet k ∷ gs) (us ++ rs) bs ts rest
octet_told gs rs us bs left rest ts more flags k u c p q h =
    let t : Tells (octet (length flags) ∷ gs) (us ++ rs) (flags_told flags ++ more) (packed flags ∷ h.head) = bools_told flags us (u ∙ sym c) h.tells in
    record {
      head = packed flags ∷ h.head;
      tells = subst (λ n. Tells (octet n ∷ gs) (us ++ rs) ts (packed flags ∷ h.head)) c (subst (λ z. Tells (octet (length flags) ∷ gs) (us ++ rs) z (packed flags ∷ h.head)) q t);
      split = p ∙ ap (λ z. packed flags ∷ z) h.split;
      fits = h.fits;
    }

static_told : (code : Codes) (gs : List (Group Codes)) (rs : List (Reads Val)) (r : Reads Val) (bs left rest : List ℕ) (ts more : List Told) (v : Val) (b : List ℕ) → code v ≡ Some b → bs ≡ b ++ left → told v ∷ more ≡ ts
    → HeadTaken gs rs left more rest → HeadTaken (static code ∷ gs) (r ∷ rs) bs ts rest
static_told code gs rs r bs left rest ts more v b c p q h =
    record {
      head = b ++ h.head;
      tells = subst (λ z. Tells (static code ∷ gs) (r ∷ rs) z (b ++ h.head)) q (value_told v b r c h.tells);
      split = p ∙ ap (λ (z : List ℕ). b ++ z) h.split ∙ sym (append_assoc b h.head rest);
      fits = h.fits;
    }

dynamic_told : (code : Codes) (gs : List (Group Codes)) (rs : List (Reads Val)) (r : Reads Val) (bs left rest : List ℕ) (ts more : List Told) (o : ℕ) → Good code r → o < 65536 → bs ≡ to_be_bytes w16 o ++ left → waits o ∷ more ≡ ts
    → HeadTaken gs rs left more rest → HeadTaken (dynamic code ∷ gs) (r ∷ rs) bs ts rest
dynamic_told code gs rs r bs left rest ts more o g l p q h =
    record {
      head = to_be_bytes w16 o ++ h.head;
      tells = subst (λ z. Tells (dynamic code ∷ gs) (r ∷ rs) z (to_be_bytes w16 o ++ h.head)) q (offset_told o r g l h.tells);
      split = p ∙ ap (λ (z : List ℕ). to_be_bytes w16 o ++ z) h.split ∙ sym (append_assoc (to_be_bytes w16 o) h.head rest);
      fits = h.fits;
    }

head_takes : {gs : List (Group Codes)} {hs : List (Group (Reads Val))} {rs : List (Reads Val)} → Alike gs hs rs → (bs : List ℕ) (ts : List Told) (rest : List ℕ) → IsBytes bs → head_at hs bs ≡ Ok (ts, rest) → HeadTaken gs rs bs ts rest
head_takes no_groups bs ts rest h e =
    subst (λ (x : List Told × List ℕ). HeadTaken [] [] bs x.0 x.1) (ok_is ([], bs) (ts, rest) e) (record { head = []; tells = nothing; split = refl; fits = h })
head_takes (octets {gs} {hs} {rs} k us le u a) bs ts rest h e =
    let r = reads_first hs (first_told (octet k) bs) ts rest e in
    let m = mapped_ok flags_told (octet_at k bs) (r.new, r.left) r.first_is in
    let o = octet_takes k bs m.got r.left le h m.read in
    let f : IsBytes r.left = bytes_behind (packed m.got ∷ []) r.left (subst IsBytes o.parts h) in
    octet_told gs rs us bs r.left rest ts r.more m.got k u o.count o.parts (ap (λ (z : List Told). z ++ r.more) m.is ∙ r.is) (head_takes a r.left r.more rest f r.more_is)
head_takes (statics {code} {read} {gs} {hs} {rs} g a) bs ts rest h e =
    let r = reads_first hs (first_told (static read) bs) ts rest e in
    let m = mapped_ok (λ v. told v ∷ []) (read bs) (r.new, r.left) r.first_is in
    let t = g.takes bs m.got r.left h m.read in
    let f : IsBytes r.left = bytes_behind t.text r.left (subst IsBytes t.parts h) in
    static_told code gs rs read bs r.left rest ts r.more m.got t.text t.coded t.parts (ap (λ (z : List Told). z ++ r.more) m.is ∙ r.is) (head_takes a r.left r.more rest f r.more_is)
head_takes (dynamics {code} {read} {gs} {hs} {rs} g a) bs ts rest h e =
    let r = reads_first hs (first_told (dynamic read) bs) ts rest e in
    let m = mapped_ok (λ o. waits o ∷ []) (number_at w16 bs) (r.new, r.left) r.first_is in
    let d = number_takes w16 wide16 bs m.got r.left h m.read in
    dynamic_told code gs rs read bs r.left rest ts r.more m.got g d.small d.parts (ap (λ (z : List Told). z ++ r.more) m.is ∙ r.is) (head_takes a r.left r.more rest d.fits r.more_is)

record TailsTaken (gs : List (Group Codes)) (vs : List Val) (at : ℕ) (h bs rest : List ℕ) : Type 0 where
  es : List Placed
  is : placed gs vs ≡ Some es
  head : h ≡ heads at es
  fit : offsets_fit at es ≡ true
  split : bs ≡ tails es ++ rest

bools_taken : (gs : List (Group Codes)) (vs all : List Val) (at : ℕ) (h bs rest : List ℕ) (flags : List Bool) → map truth flags ++ vs ≡ all → TailsTaken gs vs at h bs rest → TailsTaken (octet (length flags) ∷ gs) all at (packed flags ∷ h) bs rest
bools_taken gs vs all at h bs rest flags q t =
    let i : placed (octet (length flags) ∷ gs) (map truth flags ++ vs) ≡ Some (Here (packed flags ∷ []) ∷ t.es) =
    ap (λ o. option_and_then (λ p. option_map (λ ps. p ∷ ps) (placed gs (drop (length flags) (map truth flags ++ vs)))) (option_map (λ bs. Here (packed bs ∷ [])) o)) (flags_of-truths flags vs)
    ∙ ap (λ ws. option_map (λ ps. Here (packed flags ∷ []) ∷ ps) (placed gs ws)) (drop-truths flags vs) ∙ ap (option_map (λ ps. Here (packed flags ∷ []) ∷ ps)) t.is in
    subst (λ ws. TailsTaken (octet (length flags) ∷ gs) ws at (packed flags ∷ h) bs rest) q
    (record { es = Here (packed flags ∷ []) ∷ t.es; is = i; head = ap (λ z. packed flags ∷ z) t.head; fit = t.fit; split = t.split })

value_taken : (code : Codes) (gs : List (Group Codes)) (v : Val) (vs all : List Val) (at : ℕ) (b h bs rest : List ℕ) → code v ≡ Some b → v ∷ vs ≡ all → TailsTaken gs vs at h bs rest → TailsTaken (static code ∷ gs) all at (b ++ h) bs rest
value_taken code gs v vs all at b h bs rest c q t =
    let i : placed (static code ∷ gs) (v ∷ vs) ≡ Some (Here b ∷ t.es) =
    ap (λ o. option_and_then (λ p. option_map (λ ps. p ∷ ps) (placed gs vs)) (option_map (λ b. Here b) o)) c ∙ ap (option_map (λ ps. Here b ∷ ps)) t.is in
    subst (λ ws. TailsTaken (static code ∷ gs) ws at (b ++ h) bs rest) q
    (record { es = Here b ∷ t.es; is = i; head = ap (λ (z : List ℕ). b ++ z) t.head; fit = t.fit; split = t.split })

tail_taken : (code : Codes) (gs : List (Group Codes)) (v : Val) (vs all : List Val) (at o : ℕ) (b h bs left rest : List ℕ) → code v ≡ Some b → v ∷ vs ≡ all → o ≡ at → o < 65536 → bs ≡ b ++ left → TailsTaken gs vs (at + length b) h left rest
    → TailsTaken (dynamic code ∷ gs) all at (to_be_bytes w16 o ++ h) bs rest
tail_taken code gs v vs all at o b h bs left rest c q w l p t =
    let i : placed (dynamic code ∷ gs) (v ∷ vs) ≡ Some (Later b ∷ t.es) =
    ap (λ o. option_and_then (λ p. option_map (λ ps. p ∷ ps) (placed gs vs)) (option_map (λ b. Later b) o)) c ∙ ap (option_map (λ ps. Later b ∷ ps)) t.is in
    subst (λ ws. TailsTaken (dynamic code ∷ gs) ws at (to_be_bytes w16 o ++ h) bs rest) q
    (record {
      es = Later b ∷ t.es;
      is = i;
      head = ap (λ k. to_be_bytes w16 k ++ h) w ∙ ap (λ (z : List ℕ). to_be_bytes w16 at ++ z) t.head;
      fit = and_from (ltb at 65536) (offsets_fit (at + length b) t.es) (lt-ltb at 65536 (omega arith)) t.fit;
      split = p ∙ ap (λ (z : List ℕ). b ++ z) t.split ∙ sym (append_assoc b (tails t.es) rest);
    })

tails_takes : {gs : List (Group Codes)} {rs : List (Reads Val)} {ts : List Told} {h : List ℕ} → Tells gs rs ts h → (whole at : ℕ) (bs : List ℕ) (vs : List Val) (rest : List ℕ) → IsBytes bs → at + length bs ≡ whole
    → tails_at whole rs ts bs ≡ Ok (vs, rest) → TailsTaken gs vs at h bs rest
tails_takes nothing whole at bs vs rest f n e =
    subst (λ (x : List Val × List ℕ). TailsTaken [] x.0 at [] bs x.1) (ok_is ([], bs) (vs, rest) e) (record { es = []; is = refl; head = refl; fit = refl; split = refl })
tails_takes (bools_told {gs} {rs} {ts} {h} flags us l t) whole at bs vs rest f n e =
    let m = mapped_ok (λ ws. map truth flags ++ ws) (tails_at whole rs ts bs) (vs, rest) (sym (flags_tail whole flags us rs ts bs l) ∙ e) in
    bools_taken gs m.got vs at h bs rest flags m.is (tails_takes t whole at bs m.got rest f n m.read)
tails_takes (value_told {code} {gs} {rs} {ts} {h} v b r c t) whole at bs vs rest f n e =
    let m = mapped_ok (λ ws. v ∷ ws) (tails_at whole rs ts bs) (vs, rest) e in
    value_taken code gs v m.got vs at b h bs rest c m.is (tails_takes t whole at bs m.got rest f n m.read)
tails_takes (offset_told {code} {gs} {rs} {ts} {h} o r g l t) whole at bs vs rest f n e =
    let x = bind_ok (cond (eqb o (whole - length bs)) (r bs) (Err fault.Offset)) (λ x. mapped (λ ws. x.0 ∷ ws) (tails_at whole rs ts x.1)) (vs, rest) e in
    let y = else_err (eqb o (whole - length bs)) fault.Offset (r bs) x.got x.first in
    let z : o ≡ at = let q = eqb-true o (whole - length bs) y.0 in omega (arith, q, n) in
    let m = mapped_ok (λ ws. x.got.0 ∷ ws) (tails_at whole rs ts x.got.1) (vs, rest) x.then in
    let k = g.takes bs x.got.0 x.got.1 f y.1 in
    let i : IsBytes x.got.1 = bytes_behind k.text x.got.1 (subst IsBytes k.parts f) in
    let w : at + length k.text + length x.got.1 ≡ whole = let a = ap length k.parts in omega (arith, a, n, length-append k.text x.got.1) in
    tail_taken code gs x.got.0 m.got vs at o k.text h bs x.got.1 rest k.coded m.is z l k.parts (tails_takes t whole (at + length k.text) x.got.1 m.got rest i w m.read)

pub record RowTaken (ps : List (Part Codes)) (bs : List ℕ) (v : Val) (rest : List ℕ) : Type 0 where
  pub vs : List Val
  pub text : List ℕ
  pub coded : row_coding ps vs ≡ Some text
  pub is : parts (vals_of vs) ≡ v
  pub split : bs ≡ text ++ rest

-- a head and tails that were taken, as one encoding
whole_text : (es : List Placed) (bs h left rest : List ℕ) → bs ≡ h ++ left → h ≡ heads (head_size es) es → left ≡ tails es ++ rest → bs ≡ (heads (head_size es) es ++ tails es) ++ rest
whole_text es bs h left rest p q r = p ∙ ap (λ (z : List ℕ). z ++ left) q ∙ ap (λ (z : List ℕ). heads (head_size es) es ++ z) r ∙ sym (append_assoc (heads (head_size es) es) (tails es) rest)

lengths : (bs h left : List ℕ) → bs ≡ h ++ left → length h + length left ≡ length bs
lengths bs h left p = sym (ap length p ∙ length-append h left)

row_of_tails : (ps : List (Part Codes)) (vs : List Val) (v : Val) (bs h left rest : List ℕ) → TailsTaken (groups 0 ps) vs (length h) h left rest → bs ≡ h ++ left → parts (vals_of vs) ≡ v → RowTaken ps bs v rest
row_of_tails ps vs v bs h left rest t p q =
    let s : length h ≡ head_size t.es = ap length t.head ∙ length-heads t.es (length h) in
    let fit : offsets_fit (head_size t.es) t.es ≡ true = subst (λ k. offsets_fit k t.es ≡ true) s t.fit in
    let j : joined t.es ≡ Some (heads (head_size t.es) t.es ++ tails t.es) = ap (λ b. cond b (some (heads (head_size t.es) t.es ++ tails t.es)) None) fit in
    let g : h ≡ heads (head_size t.es) t.es = t.head ∙ ap (λ k. heads k t.es) s in
    record { vs = vs; text = heads (head_size t.es) t.es ++ tails t.es; coded = ap (option_and_then joined) t.is ∙ j; is = q; split = whole_text t.es bs h left rest p g t.split }

pub row_takes : {ps : List (Part Codes)} {qs : List (Part (Reads Val))} → Agree ps qs → (bs : List ℕ) (v : Val) (rest : List ℕ) → IsBytes bs → row_at qs bs ≡ Ok (v, rest) → RowTaken ps bs v rest
row_takes {ps} {qs} a bs v rest f e =
    let x = bind_ok (head_at (groups 0 qs) bs) (λ h. mapped (λ vs. parts (vals_of vs)) (tails_at (length bs) (codes_in qs) h.0 h.1)) (v, rest) e in
    let m = mapped_ok (λ vs. parts (vals_of vs)) (tails_at (length bs) (codes_in qs) x.got.0 x.got.1) (v, rest) x.then in
    let h = head_takes (groups_alike a 0) bs x.got.0 x.got.1 f x.first in
    let t = tails_takes h.tells (length bs) (length h.head) x.got.1 m.got rest h.fits (lengths bs h.head x.got.1 h.split) m.read in
    row_of_tails ps m.got v bs h.head x.got.1 rest t h.split m.is
