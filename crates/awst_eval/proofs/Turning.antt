-- Turns of loops.
use Rattle.std.proofs.Common.{◌≡◌, ℕ, zero, suc, ◌+◌, ◌<◌, ◌≤◌, ◌^◌, ◌-◌, min, Bool, true, false, nat_lt, List, [], ◌∷◌, Result, Err, refl, sym, ap, subst, ◌∙◌, arith, length, drop, get_or}
use Rattle.std.specs.Prelude.{⊤, slice_set}
use Rattle.std.proofs.lemmas.Bool.{ltb-true, ltb-false, le-ltb, lt-ltb}
use Rattle.runs.specs.Steps.{World, Run, Gives, after, either, give, pay, tick}
use Rattle.runs.specs.Steps as runs
use Rattle.awst.specs.Values.{Val, number, string, holds}
use Rattle.awst.specs.Meaning.{Env, Flow, On, Turn, begins, over, turned, turns, next_turn, turn_while, turn_of_range, range_turn, turn_of_items, items_of}
use Rattle.awst_eval.specs.declared.stop.Stop.{Stop}
use Rattle.awst_eval.specs.Ended.{Ends}
use Rattle.awst_eval.proofs.Stopping.{stopped, stops}
use Rattle.awst_eval.proofs.Ticking.{tick_bind}

-- a turn that begins, and what is left of the loop behind it
pub begun : {S : Type 0} (n price : ℕ) (test : S → Env → Run (Turn S)) (body : Env → Run Flow) (s t : S) (env inner : Env) (w v : World) → test s env w ≡ Gives (begins t inner) v →
    turns (suc n) price test body s env w ≡ after (tick (pay price (body inner)) v) (turned (turns n price test body t))
begun n price test body s t env inner w v h =
    ap (λ r. after r (next_turn price body (turns n price test body) env)) h ∙ tick_bind price (body inner) (turned (turns n price test body t)) v

pub turns_on : {S : Type 0} (n price : ℕ) (test : S → Env → Run (Turn S)) (body : Env → Run Flow) (s t : S) (env inner : Env) (flow : Flow) (w v u : World) → test s env w ≡ Gives (begins t inner) v → tick (pay price (body inner)) v ≡ Gives flow u →
    turns (suc n) price test body s env w ≡ turned (turns n price test body t) flow u
turns_on n price test body s t env inner flow w v u h g = begun n price test body s t env inner w v h ∙ ap (λ r. after r (turned (turns n price test body t))) g

pub turns_over : {S : Type 0} (n price : ℕ) (test : S → Env → Run (Turn S)) (body : Env → Run Flow) (s : S) (env : Env) (w v : World) → test s env w ≡ Gives over v →
    turns (suc n) price test body s env w ≡ Gives (On env) v
turns_over n price test body s env w v h = ap (λ r. after r (next_turn price body (turns n price test body) env)) h

pub turns_stop : {R T S : Type 0} (shown : R → Flow) (known : T → Flow) (e : Stop) (x : Result T Stop) (n price : ℕ) (test : S → Env → Run (Turn S)) (body : Env → Run Flow) (s t : S) (env inner : Env) (w v u : World) → test s env w ≡ Gives (begins t inner) v → Ends shown (Err e) (tick (pay price (body inner)) v) u → x ≡ Err e →
    Ends known x (turns (suc n) price test body s env w) u
turns_stop shown known e x n price test body s t env inner w v u h g k =
    subst (λ (r : runs.Result Flow). Ends known x r u) (sym (begun n price test body s t env inner w v h)) (stops shown known e x (tick (pay price (body inner)) v) (turned (turns n price test body t)) u g k)

-- where an item is not below the stop, the loop is over
passed : (n price x step stop k : ℕ) (body : Env → Run Flow) (env : Env) (w : World) → nat_lt k stop ≡ false → turns (suc n) price (turn_of_range x step stop) body k env w ≡ Gives (On env) w
passed n price x step stop k body env w h = turns_over n price (turn_of_range x step stop) body k env w w (ap (λ b. Gives (range_turn x step stop b k env) w) h)

-- no item past the greatest number of 64 bits is below a stop
capped_item : (n price x step stop k : ℕ) (body : Env → Run Flow) (env : Env) (w : World) → stop ≤ 2 ^ 64 - 1 → (b : Bool) → nat_lt k stop ≡ b →
    turns (suc n) price (turn_of_range x step stop) body (min k (2 ^ 64 - 1)) env w ≡ turns (suc n) price (turn_of_range x step stop) body k env w
capped_item n price x step stop k body env w h true q =
    let below : k < stop = ltb-true k stop q in
    let same : min k (2 ^ 64 - 1) ≡ k = omega arith in
    ap (λ i. turns (suc n) price (turn_of_range x step stop) body i env w) same
capped_item n price x step stop k body env w h false q =
    let behind : stop ≤ k = ltb-false k stop q in
    let too : stop ≤ min k (2 ^ 64 - 1) = omega arith in
    passed n price x step stop (min k (2 ^ 64 - 1)) body env w (le-ltb (min k (2 ^ 64 - 1)) stop too) ∙ sym (passed n price x step stop k body env w q)

pub range_capped : (n price x step stop k : ℕ) (body : Env → Run Flow) (env : Env) (w : World) → stop ≤ 2 ^ 64 - 1 →
    turns n price (turn_of_range x step stop) body (min k (2 ^ 64 - 1)) env w ≡ turns n price (turn_of_range x step stop) body k env w
range_capped zero price x step stop k body env w h = refl
range_capped (suc n) price x step stop k body env w h = capped_item n price x step stop k body env w h (nat_lt k stop) refl

-- ---- `while`

-- the turn that a condition's value begins, or none
abbrev pub tells : Env → Val → Run (Turn ⊤)
tells env v = either (holds v) (give (begins tt env)) (give over)

tested : (f : Env → Run Val) (env : Env) (v : Val) (b : Bool) (w w1 : World) → f env w ≡ Gives v w1 → holds v ≡ b → turn_while f tt env w ≡ either b (give (begins tt env)) (give over) w1
tested f env v b w w1 h k = ap (λ r. after r (tells env)) h ∙ ap (λ c. either c (give (begins tt env)) (give over) w1) k

pub while_over : (n price : ℕ) (f : Env → Run Val) (body : Env → Run Flow) (env : Env) (v : Val) (w w1 : World) → f env w ≡ Gives v w1 → holds v ≡ false →
    turns (suc n) price (turn_while f) body tt env w ≡ Gives (On env) w1
while_over n price f body env v w w1 h k = turns_over n price (turn_while f) body tt env w w1 (tested f env v false w w1 h k)

pub while_on : (n price : ℕ) (f : Env → Run Val) (body : Env → Run Flow) (env : Env) (v : Val) (flow : Flow) (w w1 u : World) → f env w ≡ Gives v w1 → holds v ≡ true → tick (pay price (body env)) w1 ≡ Gives flow u →
    turns (suc n) price (turn_while f) body tt env w ≡ turned (turns n price (turn_while f) body tt) flow u
while_on n price f body env v flow w w1 u h k g = turns_on n price (turn_while f) body tt tt env env flow w w1 u (tested f env v true w w1 h k) g

pub while_stops : {R T : Type 0} (shown : R → Val) (known : T → Flow) (e : Stop) (x : Result T Stop) (n price : ℕ) (f : Env → Run Val) (body : Env → Run Flow) (env : Env) (w u : World) → Ends shown (Err e) (f env w) u → x ≡ Err e →
    Ends known x (turns (suc n) price (turn_while f) body tt env w) u
while_stops {R} shown known e x n price f body env w u h k =
    let never : R → Turn ⊤ = λ r. over in
    stops never known e x (turn_while f tt env w) (next_turn price body (turns n price (turn_while f) body) env) u (stopped shown never e (f env w) (tells env) u h) k

pub while_turn_stops : {R T : Type 0} (shown : R → Flow) (known : T → Flow) (e : Stop) (x : Result T Stop) (n price : ℕ) (f : Env → Run Val) (body : Env → Run Flow) (env : Env) (v : Val) (w w1 u : World) → f env w ≡ Gives v w1 → holds v ≡ true → Ends shown (Err e) (tick (pay price (body env)) w1) u → x ≡ Err e →
    Ends known x (turns (suc n) price (turn_while f) body tt env w) u
while_turn_stops shown known e x n price f body env v w w1 u h k g q = turns_stop shown known e x n price (turn_while f) body tt tt env env w w1 u (tested f env v true w w1 h k) g q

-- ---- `for` over a range

counted : (x step stop i : ℕ) (env : Env) (w : World) → i < stop → turn_of_range x step stop i env w ≡ Gives (begins (i + step) (slice_set env x (number i))) w
counted x step stop i env w h = ap (λ b. Gives (range_turn x step stop b i env) w) (lt-ltb i stop h)

pub range_over : (n price x step stop i : ℕ) (body : Env → Run Flow) (env : Env) (w : World) → stop ≤ i → turns (suc n) price (turn_of_range x step stop) body i env w ≡ Gives (On env) w
range_over n price x step stop i body env w h = passed n price x step stop i body env w (le-ltb i stop h)

pub range_on : (n price x step stop i : ℕ) (body : Env → Run Flow) (env : Env) (flow : Flow) (w u : World) → i < stop → tick (pay price (body (slice_set env x (number i)))) w ≡ Gives flow u →
    turns (suc n) price (turn_of_range x step stop) body i env w ≡ turned (turns n price (turn_of_range x step stop) body (i + step)) flow u
range_on n price x step stop i body env flow w u h g = turns_on n price (turn_of_range x step stop) body i (i + step) env (slice_set env x (number i)) flow w w u (counted x step stop i env w h) g

pub range_stops : {R T : Type 0} (shown : R → Flow) (known : T → Flow) (e : Stop) (q : Result T Stop) (n price x step stop i : ℕ) (body : Env → Run Flow) (env : Env) (w u : World) → i < stop → Ends shown (Err e) (tick (pay price (body (slice_set env x (number i)))) w) u → q ≡ Err e →
    Ends known q (turns (suc n) price (turn_of_range x step stop) body i env w) u
range_stops shown known e q n price x step stop i body env w u h g k = turns_stop shown known e q n price (turn_of_range x step stop) body i (i + step) env (slice_set env x (number i)) w w u (counted x step stop i env w h) g k

-- ---- `for` over bytes

pub bytes_on : (n price x b : ℕ) (bs : List ℕ) (body : Env → Run Flow) (env : Env) (flow : Flow) (w u : World) → tick (pay price (body (slice_set env x (string (b ∷ []))))) w ≡ Gives flow u →
    turns (suc n) price (turn_of_items x) body (items_of (string (b ∷ bs))) env w ≡ turned (turns n price (turn_of_items x) body (items_of (string bs))) flow u
bytes_on n price x b bs body env flow w u g = turns_on n price (turn_of_items x) body (items_of (string (b ∷ bs))) (items_of (string bs)) env (slice_set env x (string (b ∷ []))) flow w w u refl g

pub bytes_stop : {R T : Type 0} (shown : R → Flow) (known : T → Flow) (e : Stop) (q : Result T Stop) (n price x b : ℕ) (bs : List ℕ) (body : Env → Run Flow) (env : Env) (w u : World) → Ends shown (Err e) (tick (pay price (body (slice_set env x (string (b ∷ []))))) w) u → q ≡ Err e →
    Ends known q (turns (suc n) price (turn_of_items x) body (items_of (string (b ∷ bs))) env w) u
bytes_stop shown known e q n price x b bs body env w u g k = turns_stop shown known e q n price (turn_of_items x) body (items_of (string (b ∷ bs))) (items_of (string bs)) env (slice_set env x (string (b ∷ []))) w w u refl g k

-- the first of the bytes that are left
pub first_byte : (n price x b : ℕ) (items : List ℕ) (body : Env → Run Flow) (env : Env) (flow : Flow) (w u : World) → b ≡ get_or items 0 0 → 1 ≤ length items → tick (pay price (body (slice_set env x (string (b ∷ []))))) w ≡ Gives flow u →
    turns (suc n) price (turn_of_items x) body (items_of (string items)) env w ≡ turned (turns n price (turn_of_items x) body (items_of (string (drop 1 items)))) flow u
first_byte n price x b [] body env flow w u e h g = absurd (omega arith)
first_byte n price x b (first ∷ items) body env flow w u e h g =
    ap (λ (c : ℕ). turns (suc n) price (turn_of_items x) body (items_of (string (c ∷ items))) env w) (sym e) ∙ bytes_on n price x b items body env flow w u g
