-- What parts leave of a limit, one part after the other.
use Rattle.std.proofs.Common.{◌≡◌, ℕ, suc, ◌+◌, ◌-◌, ◌<◌, ◌≤◌, sym, ap, ◌∙◌, arith, Some, None}
use Rattle.std.specs.Prelude.{List, length}
use Rattle.std.proofs.Common.{drop, get_or}
use Rattle.std.proofs.Math.Seq.{drop-cons}
use Rattle.std.proofs.Math.ListN.{drop_of_length-le}
use Rattle.source_names.specs.declared.types.SourceType.{SourceType}
use Rattle.source_names.specs.Types.{plain, plains, part_count, all_parts}
use Rattle.source_names.specs.Limits.{left}

pub none_left : (a b : ℕ) → left 0 (suc a + b) ≡ None
unfolding left
none_left a b = grind arith

pub too_many : (n a b : ℕ) → 0 < n → left (n - 1) a ≡ None → left n (suc a + b) ≡ None
unfolding left
too_many n a b h e = grind arith

pub one_part : (n a b r : ℕ) → 0 < n → left (n - 1) a ≡ Some r → left n (suc a + b) ≡ left r b
unfolding left
one_part n a b r h e = grind arith

pub nothing_more : (n : ℕ) → left n 0 ≡ Some n
unfolding left
nothing_more n = grind arith

up : (i : ℕ) → suc i ≡ i + 1
up i = omega arith

-- the parts from a place on are those of the type there, and those behind it
parts_at : (ts : List SourceType) (i : ℕ) (x : SourceType) → x ≡ get_or ts i x → i < length ts
    → all_parts (plains (drop i ts)) ≡ suc (part_count (plain x)) + all_parts (plains (drop (i + 1) ts))
parts_at ts i x is low =
    ap (λ z. all_parts (plains z)) (drop-cons ts i x low)
    ∙ ap (λ y. suc (part_count (plain y)) + all_parts (plains (drop (suc i) ts))) (sym is)
    ∙ ap (λ j. suc (part_count (plain x)) + all_parts (plains (drop j ts))) (up i)

pub no_room : (ts : List SourceType) (i room limit : ℕ) (x : SourceType) → x ≡ get_or ts i x → i < length ts → room ≡ 0
    → left room (all_parts (plains (drop i ts))) ≡ left limit (all_parts (plains ts)) → None ≡ left limit (all_parts (plains ts))
no_room ts i room limit x is low z h =
    sym (none_left (part_count (plain x)) (all_parts (plains (drop (i + 1) ts))))
    ∙ ap (λ r. left r (suc (part_count (plain x)) + all_parts (plains (drop (i + 1) ts)))) (sym z)
    ∙ ap (left room) (sym (parts_at ts i x is low))
    ∙ h

pub too_large : (ts : List SourceType) (i room limit : ℕ) (x : SourceType) → x ≡ get_or ts i x → i < length ts → 0 < room
    → None ≡ left (room - 1) (part_count (plain x))
    → left room (all_parts (plains (drop i ts))) ≡ left limit (all_parts (plains ts)) → None ≡ left limit (all_parts (plains ts))
too_large ts i room limit x is low z e h =
    sym (too_many room (part_count (plain x)) (all_parts (plains (drop (i + 1) ts))) z (sym e))
    ∙ ap (left room) (sym (parts_at ts i x is low))
    ∙ h

pub next_part : (ts : List SourceType) (i room limit next : ℕ) (x : SourceType) → x ≡ get_or ts i x → i < length ts → 0 < room
    → Some next ≡ left (room - 1) (part_count (plain x))
    → left room (all_parts (plains (drop i ts))) ≡ left limit (all_parts (plains ts)) → left next (all_parts (plains (drop (i + 1) ts))) ≡ left limit (all_parts (plains ts))
next_part ts i room limit next x is low z e h =
    sym (one_part room (part_count (plain x)) (all_parts (plains (drop (i + 1) ts))) next z (sym e))
    ∙ ap (left room) (sym (parts_at ts i x is low))
    ∙ h

pub all_left : (ts : List SourceType) (i room limit : ℕ) → length ts ≤ i
    → left room (all_parts (plains (drop i ts))) ≡ left limit (all_parts (plains ts)) → Some room ≡ left limit (all_parts (plains ts))
all_left ts i room limit done h =
    sym (nothing_more room) ∙ ap (λ z. left room (all_parts (plains z))) (sym (drop_of_length-le ts done)) ∙ h
