-- Which parameters the arguments of a call are for: each one has its own, where there are no more arguments than parameters.
use Rattle.std.proofs.Common.{◌≡◌, ℕ, zero, suc, ◌+◌, ◌<◌, ◌≤◌, ◌⊎◌, inl, inr, Bool, true, false, ◌||◌, List, [], ◌∷◌, map, length, Option, Some, None, refl, sym, ◌∙◌, ap, subst, arith, eqb, eqb-true}
use Rattle.std.proofs.lemmas.Option.{slice_get_within, none-some, same_Some}
use Rattle.std.proofs.lemmas.Map.Steps.{length-le_from_distinct_below}
use Rattle.std.specs.List.{IsDistinct, AllByRecursion, list_any}
use Rattle.std.specs.Prelude.{if◌then◌else◌, bytes_eq, slice_get}
use Rattle.puya_base.specs.declared.source.Place.{Place}
use Rattle.awst.specs.Sound.{IsOrder}
use Rattle.py_grammar.specs.declared.word.Word.{Word}
use Rattle.source_names.specs.declared.signature.Parameter.{Parameter}
use Rattle.source_names.specs.declared.signature.Signature.{Signature}
use Rattle.source_names.specs.Source.{Args, no_args, an_arg, place_of}
use Rattle.algopy_library.specs.declared.form.Form.{Form}
use Rattle.puya_base.specs.declared.source.Rule.TheVariants as rule
use Rattle.meaning_rules.specs.declared.meaning.Lit.{Lit}
use Rattle.meaning_rules.specs.declared.meaning.Hope.{Hope}
use Rattle.meaning_rules.specs.declared.meaning.Typed.{Typed}
use Rattle.meaning_rules.specs.declared.scope.Scope.{Scope}
use Rattle.meaning_rules.specs.declared.operand.Operand.{Operand}
use Rattle.meaning_rules.specs.declared.operand.Operand.TheVariants.{Value as a_value, Literal as a_literal, Missing as missing}
use Rattle.meaning_rules.specs.Meanings.{Judged, context, literal, operand_of}
use Rattle.call_rules.specs.declared.callee.Slot.{Slot}
use Rattle.call_rules.specs.declared.callee.Slot.TheVariants.{Wrong as wrong, At as at, Beyond as beyond}
use Rattle.call_rules.specs.declared.slots.Used.{Used}
use Rattle.call_rules.specs.declared.arguments.Known.{Known}
use Rattle.call_rules.specs.declared.arguments.Known.TheVariants.{Value as value_at, Literal as literal_at}
use Rattle.call_rules.specs.Fittings.{number_of}
use Rattle.call_rules.specs.Calls as calls
use Rattle.expression_check.specs.Expressions.{judge, arguments}

-- each parameter once, and none that is used
abbrev pub Fresh : List ℕ → ℕ → List Known → Type 0
Fresh used n [] = Unit {0}
Fresh used n (k ∷ ks) = (calls.is_used (number_of k) used ≡ false) × (number_of k < n) × Fresh (number_of k ∷ used) n ks

-- each one at its position
abbrev pub Counting : ℕ → List Known → Type 0
Counting i [] = Unit {0}
Counting i (k ∷ ks) = (number_of k ≡ i) × Counting (suc i) ks

-- ---- as many distinct numbers below a number as it says are all of them

abbrev Distinct : List ℕ → Type 0
Distinct [] = Unit {0}
Distinct (x ∷ xs) = (calls.is_used x xs ≡ false) × Distinct xs

abbrev Below : ℕ → List ℕ → Type 0
Below n [] = Unit {0}
Below n (x ∷ xs) = (x < n) × Below n xs

unused_apart_by : (x y : ℕ) (ys : List ℕ) (b : Bool) → eqb x y ≡ b → (if b then true else calls.is_used x ys) ≡ false → (eqb x y ≡ false) × (calls.is_used x ys ≡ false)
unused_apart_by x y ys true e h = cc
unused_apart_by x y ys false e h = (e, h)

unused_apart : (x y : ℕ) (ys : List ℕ) → calls.is_used x (y ∷ ys) ≡ false → (eqb x y ≡ false) × (calls.is_used x ys ≡ false)
unused_apart x y ys h = unused_apart_by x y ys (eqb x y) refl h

unused_more : (x y : ℕ) (ys : List ℕ) → eqb x y ≡ false → calls.is_used x ys ≡ false → calls.is_used x (y ∷ ys) ≡ false
unused_more x y ys e h = rw e h

any_below_by : (n x : ℕ) (xs : List ℕ) (q : ℕ) (b : Bool) → eqb q x ≡ b → Below n (x ∷ xs) → (list_any (eqb q) xs ≡ true → q < n) → list_any (eqb q) (x ∷ xs) ≡ true → q < n
any_below_by n x xs q true e h k a = subst (λ z. z < n) (sym (eqb-true q x e)) h.0
any_below_by n x xs q false e h k a = k (rw e at a)

any_below : (n : ℕ) (xs : List ℕ) → Below n xs → (q : ℕ) → list_any (eqb q) xs ≡ true → q < n
any_below n [] h q a = cc
any_below n (x ∷ xs) h q a = any_below_by n x xs q (eqb q x) refl h (any_below n xs h.1 q) a

apart : (x : ℕ) (xs : List ℕ) → calls.is_used x xs ≡ false → AllByRecursion (λ y. eqb x y ≡ false) xs
apart x [] h = tt
apart x (y ∷ ys) h = let s = unused_apart x y ys h in (s.0, apart x ys s.1)

distinct_is : (xs : List ℕ) → Distinct xs → IsDistinct eqb xs
unfolding IsDistinct
distinct_is [] h = tt
distinct_is (x ∷ xs) h = (apart x xs h.0, distinct_is xs h.1)

few : (n : ℕ) (xs : List ℕ) → Distinct xs → Below n xs → length xs ≤ n
few n xs d b = length-le_from_distinct_below xs n (distinct_is xs d) (any_below n xs b)

abbrev Missing : ℕ → List Known → Type 0
Missing i [] = Unit {0}
Missing i (k ∷ ks) = (eqb i (number_of k) ≡ false) × Missing i ks

-- where one is missing there are fewer
fewer : (n i : ℕ) (used : List ℕ) (ks : List Known) → i < n → Distinct used → Below n used → calls.is_used i used ≡ false → Fresh used n ks → Missing i ks → suc (length used + length ks) ≤ n
fewer n i used [] low d b u f m = let all = few n (i ∷ used) (u, d) (low, b) in omega (arith, all)
fewer n i used (k ∷ ks) low d b u f m =
    let all = fewer n i (number_of k ∷ used) ks low (f.0, d) (f.1, b) (unused_more i (number_of k) used m.0 u) f.2 m.1 in omega (arith, all)

abbrev Found : ℕ → List Known → Type 0
Found i ks = ((k : ℕ) × (slice_get (map number_of ks) k ≡ Some i)) ⊎ Missing i ks

found_by : (i : ℕ) (k : Known) (ks : List Known) (b : Bool) → eqb i (number_of k) ≡ b → Found i ks → Found i (k ∷ ks)
found_by i k ks true e f = inl (0, ap Some (sym (eqb-true i (number_of k) e)))
found_by i k ks false e (inl h) = inl (suc h.0, h.1)
found_by i k ks false e (inr m) = inr (e, m)

found : (i : ℕ) (ks : List Known) → Found i ks
found i [] = inr tt
found i (k ∷ ks) = found_by i k ks (eqb i (number_of k)) refl (found i ks)

as_many : (ks : List Known) → length (map number_of ks) ≡ length ks
as_many [] = refl
as_many (k ∷ ks) = ap suc (as_many ks)

none_missing : (n i : ℕ) (ks : List Known) → length ks ≡ n → Fresh [] n ks → i < n → Found i ks → (k : ℕ) × (slice_get (map number_of ks) k ≡ Some i)
none_missing n i ks l f low (inl h) = h
none_missing n i ks l f low (inr m) = let all = fewer n i [] ks low tt tt refl f m in absurd (omega (arith, all, l))

-- as many as there are parameters are all of them
pub fresh_order : (n : ℕ) (ks : List Known) → length ks ≡ n → Fresh [] n ks → IsOrder (map number_of ks) n
fresh_order n ks l f = record { count = as_many ks ∙ l; all = λ i low. none_missing n i ks l f low (found i ks) }

-- ---- the first argument, and those behind it

pub record Split (o : Option Known) (r : Option (List Known)) (ks : List Known) : Type 0 where
  pub first : Known
  pub rest : List Known
  pub first_is : o ≡ Some first
  pub rest_is : r ≡ Some rest
  pub all : first ∷ rest ≡ ks

split : (o : Option Known) (r : Option (List Known)) (ks : List Known) → calls.both_known o r ≡ Some ks → Split o r ks
split None r ks e = absurd (none-some ks e)
split (Some k) None ks e = absurd (none-some ks e)
split (Some k) (Some rest) ks e = record { first = k; rest = rest; first_is = refl; rest_is = refl; all = same_Some (k ∷ rest) ks e }

value_number : (i : ℕ) (o : Option Typed) (k : Known) → calls.known_value i o ≡ Some k → number_of k ≡ i
value_number i None k e = absurd (none-some k e)
value_number i (Some t) k e = ap number_of (sym (same_Some (value_at i t) k e))

literal_number : (b : Bool) (h : Hope) (i : ℕ) (q : Place) (l : Lit) (k : Known) → (calls.given_literal b h i q l).known ≡ Some k → number_of k ≡ i
literal_number true h i q l k e = ap number_of (sym (same_Some (literal_at i q l) k e))
literal_number false h i q l k e = value_number i (literal h q l).typed k e

-- an argument has the number of its slot
operand_number : (c : calls.Callee) (t : Slot) (o : Operand) (k : Known) → (calls.given_operand c t o).known ≡ Some k → number_of k ≡ calls.slot_number t
operand_number c t (a_value v) k e = ap number_of (sym (same_Some (value_at (calls.slot_number t) v) k e))
operand_number c t (a_literal q l) k e = literal_number (calls.slot_takes c t) (calls.slot_hope c t) (calls.slot_number t) q l k e
operand_number c t missing k e = absurd (none-some k e)

right_number_by : (c : calls.Callee) (t : Slot) (o : Operand) (k : Known) → calls.only_right t (calls.given_operand c t o).known ≡ Some k → number_of k ≡ calls.slot_number t
right_number_by c (wrong r p) o k e = absurd (none-some k e)
right_number_by c (at i) o k e = operand_number c (at i) o k e
right_number_by c beyond o k e = operand_number c beyond o k e

right_number : (c : calls.Callee) (t : Slot) (p : Place) (j : Judged) (k : Known) → (calls.given c t p j).known ≡ Some k → number_of k ≡ calls.slot_number t
right_number c t p j k e = right_number_by c t (operand_of p j).operand k e

-- ---- arguments of a function

-- while no keyword is used, those that are used are before this position
abbrev pub Ready : ℕ → Used → Type 0
Ready i u = u.keyword ≡ false → Below i u.numbers

abbrev SlotFits : Signature → ℕ → Used → Option Word → Slot → Type 0
SlotFits g i u k (wrong r p) = Unit {0}
SlotFits g i u k (at j) = (calls.is_used j u.numbers ≡ false) × (j < length g.params) × (calls.is_keyword k ≡ false → j ≡ i)
SlotFits g i u k beyond = length g.params ≤ i

param_below_by : (i : ℕ) (n : List ℕ) (p : Parameter) (ps : List Parameter) (j : ℕ) (b : Bool) → (calls.param_from (suc i) n ps ≡ Some j → j < suc i + length ps)
    → (if b then Some i else calls.param_from (suc i) n ps) ≡ Some j → j < i + length (p ∷ ps)
param_below_by i n p ps j true h e = let same = same_Some i j e in omega (arith, same)
param_below_by i n p ps j false h e = let low = h e in omega (arith, low)

param_below : (i : ℕ) (n : List ℕ) (ps : List Parameter) (j : ℕ) → calls.param_from i n ps ≡ Some j → j < i + length ps
param_below i n [] j e = absurd (none-some j e)
param_below i n (p ∷ ps) j e = param_below_by i n p ps j (bytes_eq p.name n) (param_below (suc i) n ps j) e

below_more : (i : ℕ) (xs : List ℕ) → Below i xs → Below (suc i) xs
below_more i [] h = tt
below_more i (x ∷ xs) h = let low = h.0 in (omega (arith, low), below_more i xs h.1)

below_unused_by : (i x : ℕ) (xs : List ℕ) (b : Bool) → eqb i x ≡ b → x < i → calls.is_used i xs ≡ false → calls.is_used i (x ∷ xs) ≡ false
below_unused_by i x xs true e low h = let same = eqb-true i x e in absurd (omega (arith, low, same))
below_unused_by i x xs false e low h = unused_more i x xs e h

below_unused : (i : ℕ) (xs : List ℕ) → Below i xs → calls.is_used i xs ≡ false
below_unused i [] h = refl
below_unused i (x ∷ xs) h = below_unused_by i x xs (eqb i x) refl h.0 (below_unused i xs h.1)

past : {X : Type 0} (xs : List X) (i : ℕ) → slice_get xs i ≡ None → length xs ≤ i
past [] i e = omega arith
past (x ∷ xs) zero e = absurd (none-some x (sym e))
past (x ∷ xs) (suc i) e = let low = past xs i e in omega (arith, low)

keyed_by : (g : Signature) (i : ℕ) (u : Used) (k : Word) (p : Place) (j : ℕ) (b : Bool) → calls.is_used j u.numbers ≡ b → j < length g.params
    → SlotFits g i u (Some k) (if b then wrong rule.P15 p else at j)
keyed_by g i u k p j true e low = tt
keyed_by g i u k p j false e low = (e, low, λ h. cc)

keyed_fits : (g : Signature) (i : ℕ) (u : Used) (k : Word) (p : Place) (o : Option ℕ) → calls.param_from 0 k.name g.params ≡ o → SlotFits g i u (Some k) (calls.keyed p u.numbers o)
keyed_fits g i u k p None e = tt
keyed_fits g i u k p (Some j) e = keyed_by g i u k p j (calls.is_used j u.numbers) refl (let low = param_below 0 k.name g.params j e in omega (arith, low))

placed_fits : (g : Signature) (i : ℕ) (u : Used) (o : Option Parameter) → slice_get g.params i ≡ o → Below i u.numbers → SlotFits g i u None (calls.placed i o)
placed_fits g i u None e h = past g.params i e
placed_fits g i u (Some p) e h = (below_unused i u.numbers h, slice_get_within g.params i p e, λ k. refl)

position_fits : (g : Signature) (i : ℕ) (u : Used) (p : Place) (b : Bool) → u.keyword ≡ b → Ready i u → SlotFits g i u None (if b then wrong rule.P15 p else calls.placed i (slice_get g.params i))
position_fits g i u p true e r = tt
position_fits g i u p false e r = placed_fits g i u (slice_get g.params i) refl (r e)

slot_fits : (g : Signature) (i : ℕ) (u : Used) (k : Option Word) (p : Place) → Ready i u → SlotFits g i u k (calls.function_slot g i u k p)
slot_fits g i u None p r = position_fits g i u p u.keyword refl r
slot_fits g i u (Some k) p r = keyed_fits g i u k k.place (calls.param_from 0 k.name g.params) refl

neither : (a b : Bool) → (a || b) ≡ false → (a ≡ false) × (b ≡ false)
neither true b e = cc
neither false b e = (refl, e)

fresh_step : (g : Signature) (i : ℕ) (u : Used) (k : Option Word) (t : Slot) (o : Option Known) (first : Known) (rest : List Known) → SlotFits g i u k t → Ready i u
    → calls.only_right t o ≡ Some first → number_of first ≡ calls.slot_number t → i + length (first ∷ rest) ≤ length g.params
    → (Ready (suc i) (calls.use_of u t k) → suc i + length rest ≤ length g.params → Fresh (calls.use_of u t k).numbers (length g.params) rest) → Fresh u.numbers (length g.params) (first ∷ rest)
fresh_step g i u k (wrong q p) o first rest f r e n l more = absurd (none-some first e)
fresh_step g i u k beyond o first rest f r e n l more = absurd (omega (arith, f, l))
fresh_step g i u k (at j) o first rest f r e n l more =
    subst (λ m. (calls.is_used m u.numbers ≡ false) × (m < length g.params) × Fresh (m ∷ u.numbers) (length g.params) rest) (sym n)
    (f.0, f.1, more (λ h. let both = neither u.keyword (calls.is_keyword k) h in let same = f.2 both.1 in (omega (arith, same), below_more i u.numbers (r both.0))) (omega (arith, l)))

pub arguments_fresh : (s : Scope) (n : ℕ) (g : Signature) (i : ℕ) (u : Used) (as_ : Args) (ks : List Known)
    → (arguments s (calls.a_function n g) i u as_).known ≡ Some ks → Ready i u → i + length ks ≤ length g.params → Fresh u.numbers (length g.params) ks
arguments_fresh s n g i u no_args ks e r l = subst (Fresh u.numbers (length g.params)) (same_Some [] ks e) tt
arguments_fresh s n g i u (an_arg k x as_) ks e r l =
    let c = calls.a_function n g in
    let t = calls.function_slot g i u k (place_of x) in
    let j = judge s (context true (calls.slot_hope c t)) x in
    let d = split (calls.given c t (place_of x) j).known (arguments s c (suc i) (calls.use_of u t k) as_).known ks e in
    subst (Fresh u.numbers (length g.params)) d.all
    (fresh_step g i u k t (calls.given_operand c t (operand_of (place_of x) j).operand).known d.first d.rest (slot_fits g i u k (place_of x) r) r d.first_is
    (right_number c t (place_of x) j d.first d.first_is) (subst (λ z. i + length z ≤ length g.params) (sym d.all) l)
    (arguments_fresh s n g (suc i) (calls.use_of u t k) as_ d.rest d.rest_is))

-- ---- arguments of a form

counting_step : (i : ℕ) (k : Option Word) (o : Option Known) (first : Known) → calls.only_right (calls.library_slot i k) o ≡ Some first → number_of first ≡ calls.slot_number (calls.library_slot i k) → number_of first ≡ i
counting_step i None o first e n = n
counting_step i (Some k) o first e n = absurd (none-some first e)

pub arguments_counting : (s : Scope) (f : Form) (i : ℕ) (u : Used) (as_ : Args) (ks : List Known) → (arguments s (calls.a_form f) i u as_).known ≡ Some ks → Counting i ks
arguments_counting s f i u no_args ks e = subst (Counting i) (same_Some [] ks e) tt
arguments_counting s f i u (an_arg k x as_) ks e =
    let c = calls.a_form f in
    let t = calls.library_slot i k in
    let j = judge s (context true (calls.slot_hope c t)) x in
    let d = split (calls.given c t (place_of x) j).known (arguments s c (suc i) (calls.use_of u t k) as_).known ks e in
    subst (Counting i) d.all (
      counting_step i k (calls.given_operand c t (operand_of (place_of x) j).operand).known d.first d.first_is (right_number c t (place_of x) j d.first d.first_is),
      arguments_counting s f (suc i) (calls.use_of u t k) as_ d.rest d.rest_is,
    )
