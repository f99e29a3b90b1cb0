-- What holds of a thing that a field gives.
use Rattle.std.proofs.Common.{ℕ, zero, suc, ◌≡◌, ◌≤◌, Bool, true, false, cond, List, [], ◌∷◌, length, Option, Some, None, option_map, Result, Ok, Err, IfOk, refl, subst, arith}
use Rattle.std.specs.Prelude.{option_and_then, nat_le}
use Rattle.std.specs.List.{All}
use Rattle.serde_json.specs.Data.{Data}
use Rattle.std.proofs.lemmas.Bool.{leb-true}
use Rattle.serde_json.specs.Find.{get, as_array}
use Rattle.call_file.specs.declared.fault.CallFault.{CallFault}
use Rattle.call_file.specs.declared.fault.CallFault.TheVariants.{Json, Missing, Bad, Memory}
use Rattle.call_file.specs.Faults.{◌>>=◌, field, judged, formed, Answers}
use Rattle.call_file.specs.Forms.{kept, before, each, list_of, list_within}

-- what there is meets a claim
abbrev pub Gives : {A : Type 0} → (A → Type 0) → Option A → Type 0
Gives claim None = Unit {0}
Gives claim (Some a) = claim a

abbrev pub Holds : {A : Type 0} → (A → Type 0) → Result A CallFault → Type 0
Holds claim (Ok a) = claim a
Holds claim (Err fault) = Unit {0}

pub then_holds : {A B : Type 0} (claim : A → Type 0) (next : A → Result B CallFault) (goal : B → Type 0) (r : Result A CallFault) → Holds claim r → ((a : A) → claim a → Holds goal (next a)) → Holds goal (r >>= next)
then_holds claim next goal (Ok a) h more = more a h
then_holds claim next goal (Err fault) h more = tt

pub field_holds : {A : Type 0} (claim : A → Type 0) (name : List ℕ) (form : Data → Option A) (d : Data) → ((x : Data) → Gives claim (form x)) → Holds claim (field name form d)
field_holds {A} claim name form d h = by_value (get name d)
  where
    by_form : (o : Option A) → Gives claim o → Holds claim (formed name o)
    by_form None g = tt
    by_form (Some a) g = g

    by_value : (o : Option Data) → Holds claim (judged name form o)
    by_value None = tt
    by_value (Some x) = by_form (form x) (h x)

-- any field
pub any_field : {A : Type 0} (name : List ℕ) (form : Data → Option A) (d : Data) → Holds (λ (a : A). Unit {0}) (field name form d)
any_field {A} name form d = field_holds (λ (a : A). Unit {0}) name form d (λ x. any (form x))
  where
    any : (o : Option A) → Gives (λ (a : A). Unit {0}) o
    any None = tt
    any (Some a) = tt

pub kept_gives : {A : Type 0} (claim : A → Type 0) (test : A → Bool) (o : Option A) → ((a : A) → test a ≡ true → claim a) → Gives claim (kept test o)
kept_gives claim test None h = tt
kept_gives {A} claim test (Some a) h = by_test (test a) (h a)
  where
    by_test : (b : Bool) → (b ≡ true → claim a) → Gives claim (cond b (Some a) None)
    by_test true h = h refl
    by_test false h = tt

-- the same where the thing met a claim already
pub kept_still : {A : Type 0} (claim : A → Type 0) (test : A → Bool) (o : Option A) → Gives claim o → Gives claim (kept test o)
kept_still claim test None g = tt
kept_still claim test (Some a) g = by_test (test a)
  where
    by_test : (b : Bool) → Gives claim (cond b (Some a) None)
    by_test true = g
    by_test false = tt

pub kept_both : {A : Type 0} (claim more : A → Type 0) (test : A → Bool) (o : Option A) → Gives claim o → ((a : A) → claim a → test a ≡ true → more a) → Gives more (kept test o)
kept_both claim more test None g h = tt
kept_both claim more test (Some a) g h = by_test (test a) (h a g)
  where
    by_test : (b : Bool) → (b ≡ true → more a) → Gives more (cond b (Some a) None)
    by_test true h = h refl
    by_test false h = tt

-- as many things as values, each of which meets the claim
pub record AreAll {A : Type 0} (claim : A → Type 0) (n : ℕ) (list : List A) : Type 0 where
  pub count : length list ≡ n
  pub all : All claim list

all_nil : {A : Type 0} (claim : A → Type 0) → All claim []
all_nil claim k d h = absurd (omega arith)

all_cons : {A : Type 0} (claim : A → Type 0) (x : A) (xs : List A) → claim x → All claim xs → All claim (x ∷ xs)
all_cons claim x xs p ps zero d h = p
all_cons claim x xs p ps (suc k) d h = ps k d (omega arith)

each_gives : {A : Type 0} (claim : A → Type 0) (reads : Data → Option A) → ((x : Data) → Gives claim (reads x)) → (ds : List Data) → Gives (AreAll claim (length ds)) (each reads ds)
each_gives claim reads h [] = record { count = refl; all = all_nil claim }
each_gives {A} claim reads h (d ∷ ds) = by_first (reads d) (h d) (each reads ds) (each_gives claim reads h ds)
  where
    by_rest : (a : A) → claim a → (o : Option (List A)) → Gives (AreAll claim (length ds)) o → Gives (AreAll claim (length (d ∷ ds))) (before o a)
    by_rest a g None m = tt
    by_rest a g (Some list) m = let same = m.count in record { count = omega arith; all = all_cons claim a list g m.all }

    by_first : (o : Option A) → Gives claim o → (rest : Option (List A)) → Gives (AreAll claim (length ds)) rest → Gives (AreAll claim (length (d ∷ ds))) (option_and_then (before rest) o)
    by_first None g rest m = tt
    by_first (Some a) g rest m = by_rest a g rest m

-- a list of at most so many
pub record AreFew {A : Type 0} (claim : A → Type 0) (most : ℕ) (list : List A) : Type 0 where
  pub few : length list ≤ most
  pub all : All claim list

pub list_gives : {A : Type 0} (claim : A → Type 0) (most : ℕ) (reads : Data → Option A) → ((x : Data) → Gives claim (reads x)) → (d : Data) → Gives (AreFew claim most) (list_within most reads d)
list_gives {A} claim most reads h d = by_items (option_map list_of (as_array d))
  where
    few : (ds : List Data) → nat_le (length ds) most ≡ true → (o : Option (List A)) → Gives (AreAll claim (length ds)) o → Gives (AreFew claim most) o
    few ds t None g = tt
    few ds t (Some list) g = let size = leb-true (length ds) most t in let same = g.count in record { few = omega arith; all = g.all }

    by_test : (ds : List Data) (b : Bool) → nat_le (length ds) most ≡ b → Gives (AreFew claim most) (option_and_then (each reads) (cond b (Some ds) None))
    by_test ds true t = few ds t (each reads ds) (each_gives claim reads h ds)
    by_test ds false t = tt

    by_items : (o : Option (List Data)) → Gives (AreFew claim most) (option_and_then (each reads) (kept (λ ds. nat_le (length ds) most) o))
    by_items None = tt
    by_items (Some ds) = by_test ds (nat_le (length ds) most) refl

pub answered : {A : Type 0} (claim : A → Type 0) (due r : Result A CallFault) → Holds claim due → Answers due r → IfOk r claim
answered {A} claim due (Ok a) h e = subst (Holds claim) e h
answered claim due (Err Json) h e = tt
answered claim due (Err (Missing name)) h e = tt
answered claim due (Err (Bad name)) h e = tt
answered claim due (Err Memory) h e = tt
