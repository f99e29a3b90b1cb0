-- Writing a part of the bytes under a key, in the list of entries.
use Rattle.std.proofs.Common.{ℕ, ◌≡◌, Bool, true, false, T, List, get_or, set, Option, Some, None, refl, sym, ap, subst, ◌∙◌}
use Rattle.std.proofs.lemmas.Cmp.{nat_list_cmp_total}
use Rattle.std.specs.FinMap as map
use Rattle.avm_state.specs.Keys.{bytes_cmp}
use Rattle.avm_state.specs.LedgerState.{BytesMap}
use Rattle.avm_state.specs.Places.{IsFound}
use Rattle.avm_state.specs.Steps.{WritesPart, Overwrites}
use Rattle.avm_state.proofs.Places as places

abbrev pub Entries : Type 0
Entries = List (List ℕ × List ℕ)

pub overwrites_found : (es : Entries) → T (map.is_sorted bytes_cmp es) → (key : List ℕ) (i : ℕ) (e : List ℕ × List ℕ) → e ≡ get_or es i e → IsFound bytes_cmp key es i
    → (start : ℕ) (part new : List ℕ) (b : Bool) → WritesPart e.1 new start part b
    → Overwrites (map.from_sorted es) (map.from_sorted (set es i (e.0, new))) key start part (Some e.1) b
overwrites_found es s key i e is h start part new true w =
    (w.0, places.map_set_at nat_list_cmp_total es s key new i e is h ∙ ap (map.insert (map.from_sorted es) key) w.1)
overwrites_found es s key i e is h start part new false w =
    (w.0, ap (λ v. map.from_sorted (set es i (e.0, v))) w.1 ∙ ap map.from_sorted (places.set_same es i e is))

pub overwrites_at : (es : Entries) → T (map.is_sorted bytes_cmp es) → (key : List ℕ) (i : ℕ) (e : List ℕ × List ℕ) → e ≡ get_or es i e → IsFound bytes_cmp key es i
    → (start : ℕ) (part new : List ℕ) (b : Bool) → WritesPart e.1 new start part b → (old : BytesMap (List ℕ)) → map.from_sorted es ≡ old
    → Overwrites old (map.from_sorted (set es i (e.0, new))) key start part (map.get old key) b
overwrites_at es s key i e is h start part new b w old view =
    let found : Some e.1 ≡ map.get (map.from_sorted es) key = ap (λ x. Some x.1) is ∙ sym (places.map_get_found nat_list_cmp_total es s key i e h) in
    subst (λ m. Overwrites m (map.from_sorted (set es i (e.0, new))) key start part (map.get m key) b) view
    (subst (λ o. Overwrites (map.from_sorted es) (map.from_sorted (set es i (e.0, new))) key start part o b) found (overwrites_found es s key i e is h start part new b w))

pub overwrites_none : (old : BytesMap (List ℕ)) (key : List ℕ) (start : ℕ) (part : List ℕ) (o : Option (List ℕ)) → None ≡ o → Overwrites old old key start part o false
overwrites_none old key start part o none = subst (λ o. Overwrites old old key start part o false) none refl
