-- Which bytes a source may have, its line ends, and the place of a byte (Python reference 2.1; Unicode, chapter 3: UTF-8).
use Rattle.std.specs.Prelude.{ℕ, suc, ◌+◌, Bool, not, ◌&&◌, ◌||◌, if◌then◌else◌, ◌==◌, nat_le, List, [], ◌∷◌, slice_index, min}
use Rattle.std.specs.Str.Lossy.{utf8_valid_len}
use Rattle.std.specs.List.{starts_with}
use Rattle.std.proofs.Common.{eqb}
use Rattle.puya_base.specs.declared.source.Place.{Place}

-- bytes of a source, or of a part of it
abbrev pub Text : Type 0
Text = List ℕ

-- the byte, with those behind it, is a control byte other than tab, LF and CR before LF
abbrev pub is_control : ℕ → Text → Bool
is_control b behind = not (b == 9 || b == 10 || (b == 13 && slice_index behind 0 == 10) || (nat_le 32 b && not (b == 127)))

-- the place of the first such byte, or the length
abbrev pub control_at : Text → ℕ
control_at [] = 0
control_at (b ∷ bs) = if is_control b bs then 0 else suc (control_at bs)

-- the place of the first byte that no source has: a control byte, or the first of bytes that are no UTF-8; or the length
abbrev pub first_bad : Text → ℕ
first_bad bytes = min (control_at bytes) (utf8_valid_len bytes)

-- the length of the byte order mark at the front
abbrev pub order_mark_len : Text → ℕ
order_mark_len z = if starts_with eqb z (239 ∷ 187 ∷ 191 ∷ []) then 3 else 0

-- the place behind a byte
abbrev pub behind : Place → ℕ → Place
behind p b = if b == 10 then record { line = p.line + 1; col = 1 } else record { line = p.line; col = p.col + 1 }

-- the place behind a text whose first byte stands at a place
abbrev pub place_after : Place → Text → Place
place_after p [] = p
place_after p (b ∷ z) = place_after (behind p b) z

-- the length of the line end at the front, LF or CR LF, or 0
abbrev pub line_end_len : Text → ℕ
line_end_len [] = 0
line_end_len (b ∷ []) = if b == 10 then 1 else 0
line_end_len (b ∷ c ∷ z) = if b == 10 then 1 else if b == 13 && c == 10 then 2 else 0
