-- A look-up in the files in memory.
use Rattle.std.proofs.Common.{◌≡◌, ℕ, List, [], ◌∷◌, Option, Some, refl, ap, ◌∙◌, sym, Bool, true, false, cond}
use Rattle.std.specs.Prelude.{find, option_map}
use Rattle.std.specs.Str.{bytes_eq}
use Rattle.std.specs.FinMap as map
use Rattle.std.proofs.lemmas.Cmp.{nat_list_cmp_total}
use Rattle.std.proofs.lemmas.Map.Text.{is_eq-slice_cmp}
use Rattle.puya_base.specs.Written.{held_by}
use Rattle.puya_base.specs.declared.memory_files.Written.{Written}

option_map-cond : {A B : Type 0} (f : A → B) (b : Bool) (x : A) (o : Option A) → option_map f (cond b (Some x) o) ≡ cond b (Some (f x)) (option_map f o)
option_map-cond f true x o = refl
option_map-cond f false x o = refl

pub held_at : (ws : List Written) (q : List ℕ) → option_map (λ w. w.bytes) (find (λ w. bytes_eq q w.name) ws) ≡ map.get (held_by ws) q
held_at [] q = sym (map.get-empty _ q)
held_at (w ∷ ws) q =
    option_map-cond (λ w. w.bytes) (bytes_eq q w.name) w (find (λ w. bytes_eq q w.name) ws)
    ∙ ap (cond (bytes_eq q w.name) (Some w.bytes)) (held_at ws q)
    ∙ sym (map.get-insert nat_list_cmp_total (held_by ws) w.name w.bytes q ∙ ap (λ b. cond b (Some w.bytes) (map.get (held_by ws) q)) (is_eq-slice_cmp q w.name))
