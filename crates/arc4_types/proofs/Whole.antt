-- Every type is read as it is written.
use Rattle.std.proofs.Common.{◌≡◌, ◌∙◌, ℕ, zero, suc, ◌+◌, ◌<◌, ◌≤◌, ◌^◌, Bool, true, false, cond, ltb, eqb, List, [], ◌∷◌, ◌++◌, length, Option, Some, None, Result, Ok, Err, refl, sym, ap, subst, append_assoc, arith}
use Rattle.std.proofs.Math.ListN.{replicate, length-replicate}
use Rattle.std.proofs.lemmas.List.{append-nil, nil_from_length}
use Rattle.std.proofs.lemmas.Bool.{ltb-true, lt-ltb, eqb-true, eq-eqb}
use Rattle.std.specs.Prelude.{option_map, IfOk}
use Rattle.std.specs.Int.{Width, w8, w16, byte_len, to_be_bytes, from_be_bytes}
use Rattle.arc4_types.specs.declared.abi_fault.AbiFault.{AbiFault}
use Rattle.arc4_types.specs.declared.abi_fault.AbiFault.TheVariants as fault
use Rattle.arc4_types.specs.declared.form.Form.{Form}
use Rattle.arc4_types.specs.Types.{Ty, Tys, uint, byte, flag, text as string, address, array, fixed, tuple, no_types, a_type, width_of}
use Rattle.arc4_types.specs.Values.{Val, Vals, number, truth, bytes, parts, no_values, a_value, vals_of, items_of}
use Rattle.arc4_types.specs.Groups.{Part, form_of}
use Rattle.arc4_types.specs.Encoding.{Codes, packed, row_coding, number_coding, flag_coding, text_coding, address_coding, tuple_coding, counted_coding, array_coding, coding, codings}
use Rattle.arc4_types.specs.Reading.{◌>>=◌, Reads, mapped, taken, number_at, octet_at, one_flag, text_at, row_at, reading, readings, whole_of, decoding, Gives}
use Rattle.arc4_types.proofs.Steps.{bind_ok, ok_is, done, mapped_ok, else_err, map_some, if_some, IsBytes}
use Rattle.arc4_types.proofs.Bits.{octet_again, octet_takes, OctetTaken}
use Rattle.arc4_types.proofs.Placing.{items-vals, row_counts}
use Rattle.arc4_types.proofs.Numbers.{IsWide, wide, wide8, wide16, number_takes, number_again, text_takes, text_again, taken_takes, taken_again}
use Rattle.arc4_types.proofs.Good.{Good, Taken, Agree, none, also, row_again, row_takes, some, some_is}

vals-items : (vs : Vals) → vals_of (items_of vs) ≡ vs
vals-items no_values = refl
vals-items (a_value v vs) = ap (a_value v) (vals-items vs)

replicate_agrees : (f : Form) (code : Codes) (read : Reads Val) (n : ℕ) → Good code read → Agree (replicate n (record { form = f; code = code })) (replicate n (record { form = f; code = read }))
replicate_agrees f code read zero g = none
replicate_agrees f code read (suc n) g = also f g (replicate_agrees f code read n g)

tuple_again : (ps : List (Part Codes)) (qs : List (Part (Reads Val))) → Agree ps qs → (v : Val) (b rest : List ℕ) → tuple_coding ps v ≡ Some b → row_at qs (b ++ rest) ≡ Ok (v, rest)
tuple_again ps qs a (parts vs) b rest e = row_again a (items_of vs) b rest e ∙ ap (λ ws. Ok (parts ws, rest)) (vals-items vs)
tuple_again ps qs a (number n) b rest e = absurd cc
tuple_again ps qs a (truth t) b rest e = absurd cc
tuple_again ps qs a (bytes x) b rest e = absurd cc

tuple_takes : (ps : List (Part Codes)) (qs : List (Part (Reads Val))) → Agree ps qs → (bs : List ℕ) (v : Val) (rest : List ℕ) → IsBytes bs → row_at qs bs ≡ Ok (v, rest) → Taken (tuple_coding ps) bs v rest
tuple_takes ps qs a bs v rest h e =
    let r = row_takes a bs v rest h e in
    subst (λ w. Taken (tuple_coding ps) bs w rest) r.is (record { text = r.text; coded = ap (row_coding ps) (items-vals r.vs) ∙ r.coded; parts = r.split })

uint_again : (w : Width) → IsWide w → (v : Val) (b rest : List ℕ) → number_coding w v ≡ Some b → mapped number (number_at w (b ++ rest)) ≡ Ok (v, rest)
uint_again w h (number n) b rest e =
    let i = if_some (ltb n (256 ^ byte_len w)) (some (to_be_bytes w n)) b e in
    let q : to_be_bytes w n ≡ b = some_is (to_be_bytes w n) b i.1 in
    ap (λ (x : List ℕ). mapped number (number_at w (x ++ rest))) (sym q) ∙ ap (mapped number) (number_again w h n rest (ltb-true n (256 ^ byte_len w) i.0))
uint_again w h (truth t) b rest e = absurd cc
uint_again w h (bytes x) b rest e = absurd cc
uint_again w h (parts vs) b rest e = absurd cc

uint_takes : (w : Width) → IsWide w → (bs : List ℕ) (v : Val) (rest : List ℕ) → IsBytes bs → mapped number (number_at w bs) ≡ Ok (v, rest) → Taken (number_coding w) bs v rest
uint_takes w h bs v rest f e =
    let m = mapped_ok number (number_at w bs) (v, rest) e in
    let d = number_takes w h bs m.got rest f m.read in
    let c : number_coding w (number m.got) ≡ Some (to_be_bytes w m.got) = ap (λ t. cond t (some (to_be_bytes w m.got)) None) (lt-ltb m.got (256 ^ byte_len w) d.small) in
    subst (λ x. Taken (number_coding w) bs x rest) m.is (record { text = to_be_bytes w m.got; coded = c; parts = d.parts })

flag_again : (v : Val) (b rest : List ℕ) → flag_coding v ≡ Some b → mapped one_flag (octet_at 1 (b ++ rest)) ≡ Ok (v, rest)
flag_again (truth t) b rest e =
    let q : packed (t ∷ []) ∷ [] ≡ b = some_is (packed (t ∷ []) ∷ []) b e in
    ap (λ (x : List ℕ). mapped one_flag (octet_at 1 (x ++ rest))) (sym q) ∙ ap (mapped one_flag) (octet_again (t ∷ []) rest (omega arith))
flag_again (number n) b rest e = absurd cc
flag_again (bytes x) b rest e = absurd cc
flag_again (parts vs) b rest e = absurd cc

flag_taken : (bs : List ℕ) (flags : List Bool) (rest : List ℕ) → OctetTaken 1 bs flags rest → Taken flag_coding bs (one_flag flags) rest
flag_taken bs [] rest o = absurd (let c = o.count in omega (arith, c))
flag_taken bs (b ∷ []) rest o = record { text = packed (b ∷ []) ∷ []; coded = refl; parts = o.parts }
flag_taken bs (b ∷ c ∷ flags) rest o = absurd (let d = o.count in omega (arith, d))

flag_takes : (bs : List ℕ) (v : Val) (rest : List ℕ) → IsBytes bs → mapped one_flag (octet_at 1 bs) ≡ Ok (v, rest) → Taken flag_coding bs v rest
flag_takes bs v rest f e =
    let m = mapped_ok one_flag (octet_at 1 bs) (v, rest) e in
    subst (λ x. Taken flag_coding bs x rest) m.is (flag_taken bs m.got rest (octet_takes 1 bs m.got rest (omega arith) f m.read))

string_again : (v : Val) (b rest : List ℕ) → text_coding v ≡ Some b → mapped bytes (text_at (b ++ rest)) ≡ Ok (v, rest)
string_again (bytes x) b rest e =
    let i = if_some (ltb (length x) 65536) (some (to_be_bytes w16 (length x) ++ x)) b e in
    let q : to_be_bytes w16 (length x) ++ x ≡ b = some_is (to_be_bytes w16 (length x) ++ x) b i.1 in
    ap (λ (y : List ℕ). mapped bytes (text_at (y ++ rest))) (sym q) ∙ ap (mapped bytes) (text_again x rest (ltb-true (length x) 65536 i.0))
string_again (number n) b rest e = absurd cc
string_again (truth t) b rest e = absurd cc
string_again (parts vs) b rest e = absurd cc

string_takes : (bs : List ℕ) (v : Val) (rest : List ℕ) → IsBytes bs → mapped bytes (text_at bs) ≡ Ok (v, rest) → Taken text_coding bs v rest
string_takes bs v rest f e =
    let m = mapped_ok bytes (text_at bs) (v, rest) e in
    let d = text_takes bs m.got rest f m.read in
    let c : text_coding (bytes m.got) ≡ Some (to_be_bytes w16 (length m.got) ++ m.got) = ap (λ t. cond t (some (to_be_bytes w16 (length m.got) ++ m.got)) None) (lt-ltb (length m.got) 65536 d.small) in
    subst (λ x. Taken text_coding bs x rest) m.is (record { text = to_be_bytes w16 (length m.got) ++ m.got; coded = c; parts = d.parts })

address_again : (v : Val) (b rest : List ℕ) → address_coding v ≡ Some b → mapped bytes (taken 32 (b ++ rest)) ≡ Ok (v, rest)
address_again (bytes x) b rest e =
    let i = if_some (eqb (length x) 32) (some x) b e in
    let q : x ≡ b = some_is x b i.1 in
    ap (λ (y : List ℕ). mapped bytes (taken 32 (y ++ rest))) (sym q) ∙ ap (mapped bytes) (taken_again 32 x rest (eqb-true (length x) 32 i.0))
address_again (number n) b rest e = absurd cc
address_again (truth t) b rest e = absurd cc
address_again (parts vs) b rest e = absurd cc

address_takes : (bs : List ℕ) (v : Val) (rest : List ℕ) → IsBytes bs → mapped bytes (taken 32 bs) ≡ Ok (v, rest) → Taken address_coding bs v rest
address_takes bs v rest f e =
    let m = mapped_ok bytes (taken 32 bs) (v, rest) e in
    let d = taken_takes 32 bs m.got rest m.read in
    let c : address_coding (bytes m.got) ≡ Some m.got = ap (λ t. cond t (some m.got) None) (eq-eqb (length m.got) 32 d.count) in
    subst (λ x. Taken address_coding bs x rest) m.is (record { text = m.got; coded = c; parts = d.parts })

array_again : (f : Form) (code : Codes) (read : Reads Val) → Good code read → (v : Val) (b rest : List ℕ) → array_coding (record { form = f; code = code }) v ≡ Some b
    → (number_at w16 (b ++ rest) >>= λ n. row_at (replicate n.0 (record { form = f; code = read })) n.1) ≡ Ok (v, rest)
array_again f code read g (parts vs) b rest e =
    let n = length (items_of vs) in
    let p : Part Codes = record { form = f; code = code } in
    let q : Part (Reads Val) = record { form = f; code = read } in
    let i = if_some (ltb n 65536) (option_map (λ b. to_be_bytes w16 n ++ b) (row_coding (replicate n p) (items_of vs))) b e in
    let m = map_some (row_coding (replicate n p) (items_of vs)) (λ b. to_be_bytes w16 n ++ b) b i.1 in
    let l : n < 65536 = ltb-true n 65536 i.0 in
    let s : b ++ rest ≡ to_be_bytes w16 n ++ (m.got ++ rest) = ap (λ (z : List ℕ). z ++ rest) (sym m.is) ∙ append_assoc (to_be_bytes w16 n) m.got rest in
    let d : number_at w16 (b ++ rest) ≡ Ok (n, m.got ++ rest) = ap (number_at w16) s ∙ number_again w16 wide16 n (m.got ++ rest) l in
    ap (λ r. r >>= λ n. row_at (replicate n.0 q) n.1) d ∙ row_again (replicate_agrees f code read n g) (items_of vs) m.got rest m.first ∙ ap (λ ws. Ok (parts ws, rest)) (vals-items vs)
array_again f code read g (number n) b rest e = absurd cc
array_again f code read g (truth t) b rest e = absurd cc
array_again f code read g (bytes x) b rest e = absurd cc

array_takes : (f : Form) (code : Codes) (read : Reads Val) → Good code read → (bs : List ℕ) (v : Val) (rest : List ℕ) → IsBytes bs
    → (number_at w16 bs >>= λ n. row_at (replicate n.0 (record { form = f; code = read })) n.1) ≡ Ok (v, rest) → Taken (array_coding (record { form = f; code = code })) bs v rest
array_takes f code read g bs v rest h e =
    let p : Part Codes = record { form = f; code = code } in
    let q : Part (Reads Val) = record { form = f; code = read } in
    let x = bind_ok (number_at w16 bs) (λ n. row_at (replicate n.0 q) n.1) (v, rest) e in
    let n = x.got.0 in
    let d = number_takes w16 wide16 bs n x.got.1 h x.first in
    let r = row_takes (replicate_agrees f code read n g) x.got.1 v rest d.fits x.then in
    let c : length r.vs ≡ n = row_counts (replicate n p) r.vs r.text r.coded ∙ length-replicate n p in
    let t : counted_coding p r.vs ≡ Some (to_be_bytes w16 n ++ r.text) =
    ap (λ k. cond (ltb k 65536) (option_map (λ b. to_be_bytes w16 k ++ b) (row_coding (replicate k p) r.vs)) None) c
    ∙ ap (λ z. cond z (option_map (λ b. to_be_bytes w16 n ++ b) (row_coding (replicate n p) r.vs)) None) (lt-ltb n 65536 d.small)
    ∙ ap (option_map (λ b. to_be_bytes w16 n ++ b)) r.coded in
    let s : bs ≡ (to_be_bytes w16 n ++ r.text) ++ rest = d.parts ∙ ap (λ (z : List ℕ). to_be_bytes w16 n ++ z) r.split ∙ sym (append_assoc (to_be_bytes w16 n) r.text rest) in
    subst (λ w. Taken (array_coding p) bs w rest) r.is (record { text = to_be_bytes w16 n ++ r.text; coded = ap (counted_coding p) (items-vals r.vs) ∙ t; parts = s })

tuple_good : (ps : List (Part Codes)) (qs : List (Part (Reads Val))) → Agree ps qs → Good (tuple_coding ps) (row_at qs)
tuple_good ps qs a = record { again = tuple_again ps qs a; takes = tuple_takes ps qs a }

number_good : (w : Width) → IsWide w → Good (number_coding w) (λ bs. mapped number (number_at w bs))
number_good w h = record { again = uint_again w h; takes = uint_takes w h }

flag_good : Good flag_coding (λ bs. mapped one_flag (octet_at 1 bs))
flag_good = record { again = flag_again; takes = flag_takes }

text_good : Good text_coding (λ bs. mapped bytes (text_at bs))
text_good = record { again = string_again; takes = string_takes }

address_good : Good address_coding (λ bs. mapped bytes (taken 32 bs))
address_good = record { again = address_again; takes = address_takes }

array_good : (f : Form) (code : Codes) (read : Reads Val) → Good code read → Good (array_coding (record { form = f; code = code })) (λ bs. number_at w16 bs >>= λ n. row_at (replicate n.0 (record { form = f; code = read })) n.1)
array_good f code read g = record { again = array_again f code read g; takes = array_takes f code read g }

mutual
  good : (t : Ty) → Good (coding t) (reading t)
  good (uint bits) = number_good (width_of bits) (wide bits)
  good byte = number_good w8 wide8
  good flag = flag_good
  good string = text_good
  good address = address_good
  good (array t) = array_good (form_of t) (coding t) (reading t) (good t)
  good (fixed t n) = tuple_good (replicate n (record { form = form_of t; code = coding t })) (replicate n (record { form = form_of t; code = reading t })) (replicate_agrees (form_of t) (coding t) (reading t) n (good t))
  good (tuple ts) = tuple_good (codings ts) (readings ts) (agree ts)

  agree : (ts : Tys) → Agree (codings ts) (readings ts)
  agree no_types = none
  agree (a_type t ts) = also (form_of t) (good t) (agree ts)

-- an encoding is read as its value
pub decodes : (t : Ty) (v : Val) (b : List ℕ) → coding t v ≡ Some b → decoding t b ≡ Ok v
decodes t v b e = ap (λ x. reading t x >>= whole_of) (sym (append-nil b)) ∙ ap (λ r. r >>= whole_of) ((good t).again v b [] e)

-- what is read of bytes has them for its encoding
pub encodes : (t : Ty) (v : Val) (bs : List ℕ) → IsBytes bs → decoding t bs ≡ Ok v → coding t v ≡ Some bs
encodes t v bs h e =
    let x = bind_ok (reading t bs) whole_of v e in
    let y = else_err (eqb (length x.got.1) 0) fault.Length (done x.got.0) v x.then in
    let n : x.got.1 ≡ [] = nil_from_length x.got.1 (eqb-true (length x.got.1) 0 y.0) in
    let q : x.got.0 ≡ v = ok_is x.got.0 v y.1 in
    let k = (good t).takes bs x.got.0 x.got.1 h x.first in
    let p : bs ≡ k.text = k.parts ∙ ap (λ (z : List ℕ). k.text ++ z) n ∙ append-nil k.text in
    ap (coding t) (sym q) ∙ k.coded ∙ ap (λ z. Some z) (sym p)

-- an encoding has one value
pub one_value : (t : Ty) (v w : Val) (b : List ℕ) → coding t v ≡ Some b → coding t w ≡ Some b → v ≡ w
one_value t v w b p q = ok_is v w (sym (decodes t v b p) ∙ decodes t w b q)

-- what a decoder answers, from what reading gives
pub found : {X : Type 0} (view : X → Val) (t : Ty) (bs : List ℕ) (r : Result X AbiFault) → IsBytes bs → Gives view r (decoding t bs) → IfOk r (λ x. coding t (view x) ≡ Some bs)
found view t bs (Ok x) h g = encodes t (view x) bs h g
found view t bs (Err e) h g = tt

pub only : {X : Type 0} (view : X → Val) (t : Ty) (bs : List ℕ) (r : Result X AbiFault) → Gives view r (decoding t bs) → (v : Val) → coding t v ≡ Some bs → Gives view r (Ok v)
only view t bs r g v e = subst (λ (z : Result Val AbiFault). Gives view r z) (decodes t v bs e) g
