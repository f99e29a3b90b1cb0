-- Entries that go into a ledger one after another are those of the definition.
use Rattle.std.proofs.Common.{ℕ, ◌≡◌, Bool, true, false, cond, ◌&&◌, List, [], ◌∷◌, Option, Some, None, option_map, is_some, refl, ap, ◌∙◌}
use Rattle.std.specs.Prelude.{not, option_and_then}
use Rattle.std.specs.List.{list_all}
use Rattle.std.specs.Ordering.{eq_by_cmp}
use Rattle.std.specs.Cmp.{IsTotalOrder}
use Rattle.std.specs.declared.cmp.Ordering.{Ordering}
use Rattle.std.specs.FinMap as map
use Rattle.std.proofs.lemmas.Cmp.{nat_list_cmp_total}
use Rattle.serde_json.specs.Data.{Data}
use Rattle.serde_json.specs.Find.{get}
use Rattle.avm_state.specs.KeyLaws.{local_cmp_total}
use Rattle.avm_state.specs.LedgerState.{LedgerState, has_opted}
use Rattle.avm_state.specs.Steps.{is_pair_within}
use Rattle.call_file.specs.Faults.{field, judged, formed}
use Rattle.call_file.specs.Forms.{kept, before, each, items_within}
use Rattle.call_file.specs.Loads.{Kind, are_distinct, put_all, may_all_go, loaded, put_new, puts, load, load_within, globals, opted, locals, boxes}

-- one more entry keeps out those under its key alone
abbrev pub IsKeyed : {E : Type 0} → Kind E → Type 0
IsKeyed {E} kind = (l : LedgerState) (e f : E) → kind.may_go (kind.put l e) f ≡ (kind.may_go l f && not (kind.same f e))

-- entries one after another
abbrev pub entered : {E : Type 0} → Kind E → LedgerState → List E → Option LedgerState
entered kind l [] = Some l
entered kind l (e ∷ es) = option_and_then (λ m. entered kind m es) (put_new kind l e)

nothing_more : {E : Type 0} (kind : Kind E) (o : Option (List E)) → None ≡ option_and_then (λ es. option_and_then (λ n. entered kind n es) None) o
nothing_more kind None = refl
nothing_more kind (Some es) = refl

put_entries : {E : Type 0} (kind : Kind E) (l : LedgerState) (ds : List Data) → load (puts kind) l ds ≡ option_and_then (entered kind l) (each kind.reads ds)
put_entries kind l [] = refl
put_entries {E} kind l (d ∷ ds) = by_entry (λ m. put_entries kind m ds) (kind.reads d)
  where
    by_new : ((m : LedgerState) → load (puts kind) m ds ≡ option_and_then (entered kind m) (each kind.reads ds)) → (m : Option LedgerState) → option_and_then (λ n. load (puts kind) n ds) m ≡ option_and_then (λ es. option_and_then (λ n. entered kind n es) m) (each kind.reads ds)
    by_new more None = nothing_more kind (each kind.reads ds)
    by_new more (Some m) = more m

    by_rest : (e : E) (o : Option (List E)) → option_and_then (λ es. option_and_then (λ n. entered kind n es) (put_new kind l e)) o ≡ option_and_then (entered kind l) (before o e)
    by_rest e None = refl
    by_rest e (Some es) = refl

    by_entry : ((m : LedgerState) → load (puts kind) m ds ≡ option_and_then (entered kind m) (each kind.reads ds)) → (o : Option E) → option_and_then (λ n. load (puts kind) n ds) (option_and_then (put_new kind l) o) ≡ option_and_then (entered kind l) (option_and_then (before (each kind.reads ds)) o)
    by_entry more None = refl
    by_entry more (Some e) = by_new more (put_new kind l e) ∙ by_rest e (each kind.reads ds)

and_assoc : (a b c : Bool) → ((a && b) && c) ≡ (a && (b && c))
and_assoc true b c = refl
and_assoc false b c = refl

and_swap : (a b c d : Bool) → ((a && b) && (c && d)) ≡ ((a && c) && (b && d))
and_swap true true c d = refl
and_swap true false true d = refl
and_swap true false false d = refl
and_swap false b c d = refl

all_after : {E : Type 0} (kind : Kind E) → IsKeyed kind → (l : LedgerState) (e : E) (es : List E) → list_all (kind.may_go (kind.put l e)) es ≡ (list_all (kind.may_go l) es && list_all (λ f. not (kind.same f e)) es)
all_after kind keyed l e [] = refl
all_after kind keyed l e (f ∷ es) =
    let first = keyed l e f in
    let rest = all_after kind keyed l e es in
    rw (first, rest) (and_swap (kind.may_go l f) (not (kind.same f e)) (list_all (kind.may_go l) es) (list_all (λ g. not (kind.same g e)) es))

-- all enter exactly where each may go and no two are under one key
pub all_enter : {E : Type 0} (kind : Kind E) → IsKeyed kind → (l : LedgerState) (es : List E) → entered kind l es ≡ cond (may_all_go kind l es) (Some (put_all kind.put l es)) None
all_enter kind keyed l [] = refl
all_enter {E} kind keyed l (e ∷ es) = by_first (all_enter kind keyed (kind.put l e) es) (kind.may_go l e)
  where
    after : may_all_go kind (kind.put l e) es ≡ (list_all (kind.may_go l) es && (list_all (λ f. not (kind.same f e)) es && are_distinct kind.same es))
    after = ap (λ (b : Bool). b && are_distinct kind.same es) (all_after kind keyed l e es) ∙ and_assoc (list_all (kind.may_go l) es) (list_all (λ f. not (kind.same f e)) es) (are_distinct kind.same es)

    by_first : entered kind (kind.put l e) es ≡ cond (may_all_go kind (kind.put l e) es) (Some (put_all kind.put (kind.put l e) es)) None → (b : Bool) → option_and_then (λ m. entered kind m es) (cond b (Some (kind.put l e)) None) ≡ cond ((b && list_all (kind.may_go l) es) && (list_all (λ f. not (kind.same f e)) es && are_distinct kind.same es)) (Some (put_all kind.put (kind.put l e) es)) None
    by_first more false = refl
    by_first more true = more ∙ ap (λ (b : Bool). cond b (Some (put_all kind.put (kind.put l e) es)) None) after

pub loads : {E : Type 0} (kind : Kind E) → IsKeyed kind → (most : ℕ) (l : LedgerState) (d : Data) → load_within most (puts kind) l d ≡ loaded most kind l d
loads {E} kind keyed most l d = by_items (items_within most d)
  where
    by_test : (b : Bool) (es : List E) → cond b (Some (put_all kind.put l es)) None ≡ option_map (put_all kind.put l) (cond b (Some es) None)
    by_test true es = refl
    by_test false es = refl

    by_entries : (o : Option (List E)) → option_and_then (entered kind l) o ≡ option_map (put_all kind.put l) (kept (may_all_go kind l) o)
    by_entries None = refl
    by_entries (Some es) = all_enter kind keyed l es ∙ by_test (may_all_go kind l es) es

    by_items : (o : Option (List Data)) → option_and_then (load (puts kind) l) o ≡ option_map (put_all kind.put l) (kept (may_all_go kind l) (option_and_then (each kind.reads) o))
    by_items None = refl
    by_items (Some ds) = put_entries kind l ds ∙ by_entries (each kind.reads ds)

-- a key is not there after another is put exactly where it was not there, and is not that other
absent : {X : Type 0} (tie : Bool) (v : X) (o : Option X) → not (is_some (cond tie (Some v) o)) ≡ (not (is_some o) && not tie)
absent true v None = refl
absent true v (Some w) = refl
absent false v None = refl
absent false v (Some w) = refl

absent_after : {K X : Type 0} {R : K → K → Ordering} (o : IsTotalOrder R) (m : map.FinMap R X) (k : K) (v : X) (q : K) → not (map.contains_key (map.insert m k v) q) ≡ (not (map.contains_key m q) && not (eq_by_cmp R q k))
absent_after {X = X} {R = R} o m k v q = ap (λ (x : Option X). not (is_some x)) (map.get-insert o m k v q) ∙ absent (eq_by_cmp R q k) v (map.get m q)

with_test : (a b c t : Bool) → a ≡ (b && c) → (a && t) ≡ ((b && t) && c)
with_test a true true true e = ap (λ (x : Bool). x && true) e
with_test a true true false e = ap (λ (x : Bool). x && false) e
with_test a true false true e = ap (λ (x : Bool). x && true) e
with_test a true false false e = ap (λ (x : Bool). x && false) e
with_test a false c t e = ap (λ (x : Bool). x && t) e

pub globals_keyed : IsKeyed globals
globals_keyed l e f = with_test _ _ _ (is_pair_within f.0 f.1) (absent_after nat_list_cmp_total l.global e.0 e.1 f.0)

pub opted_keyed : IsKeyed opted
opted_keyed l e f = absent_after nat_list_cmp_total l.opted e tt f

pub locals_keyed : IsKeyed locals
locals_keyed l e f = with_test _ _ _ (has_opted l f.0 && is_pair_within f.1.0 f.1.1) (absent_after local_cmp_total l.local (e.0, e.1.0) e.1.1 (f.0, f.1.0))

pub boxes_keyed : IsKeyed boxes
boxes_keyed l e f = with_test _ _ _ _ (absent_after nat_list_cmp_total l.boxes e.0 e.1 f.0)

-- a field of two forms that are one
pub same_field : {A : Type 0} (name : List ℕ) (f g : Data → Option A) (d : Data) → ((x : Data) → f x ≡ g x) → field name f d ≡ field name g d
same_field {A} name f g d same = by_value (get name d)
  where
    by_value : (o : Option Data) → judged name f o ≡ judged name g o
    by_value None = refl
    by_value (Some x) = ap (formed name) (same x)
