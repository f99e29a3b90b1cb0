-- A source as a list of pieces, each the longest at its place, and what the list gives.
use Rattle.std.specs.Prelude.{ℕ, zero, suc, ◌+◌, ◌-◌, if◌then◌else◌, nat_lt, List, [], ◌∷◌, length, take, drop, Result, Ok, Err}
use Rattle.std.specs.List.{prefix_len}
use Rattle.puya_base.specs.declared.source.Place.{Place}
use Rattle.puya_base.specs.declared.source.Rule.TheVariants.{P01}
use Rattle.py_lexer.specs.declared.token.Token.{Token}
use Rattle.py_lexer.specs.declared.pieces.Piece.{Piece}
use Rattle.py_lexer.specs.declared.layout.Stop.{Stop}
use Rattle.py_lexer.specs.declared.layout.Stop.TheVariants.{Memory, Broken}
use Rattle.py_lexer.specs.declared.layout.Spot.{Spot}
use Rattle.py_lexer.specs.declared.layout.Layout.{Layout}
use Rattle.py_lexer.specs.Bytes.{Text, place_after}
use Rattle.py_lexer.specs.Words.{is_space}
use Rattle.py_lexer.specs.Pieces.{piece_at}
use Rattle.py_lexer.specs.Layout.{at_first, and_then, after_piece, finished}

-- a piece, where it stands, and how many spaces lead it
pub record Placed : Type 0 where
  pub spot : Spot
  pub piece : Piece
  pub spaces : ℕ

-- the spot behind a text
abbrev pub behind_text : Spot → Text → Spot
behind_text s z = record { at = s.at + length z; place = place_after s.place z }

abbrev pub placed : Spot → Text → Placed
placed s z = record { spot = s; piece = piece_at z; spaces = prefix_len is_space (take (piece_at z).len z) }

-- the longest pieces of a text one behind the other; of the first so many bytes are behind us
abbrev pub pieces_from : ℕ → Spot → Text → List Placed
pieces_from left s [] = []
pieces_from (suc left) s (b ∷ z) = pieces_from left s z
pieces_from zero s (b ∷ z) = placed s (b ∷ z) ∷ pieces_from ((piece_at (b ∷ z)).len - 1) (behind_text s (take (piece_at (b ∷ z)).len (b ∷ z))) z

-- the tokens that pieces add to a layout up to the end of the source, or the first rule that they break
abbrev pub run : Spot → List Placed → Layout → Result (List Token) Stop
run end [] l = Ok (finished end l)
run end (p ∷ ps) l = and_then (after_piece p.spot p.piece p.spaces l) (run end ps)

-- the first byte of a source behind the byte order mark
abbrev pub first_spot : ℕ → Spot
first_spot begin = record { at = begin; place = record { line = 1; col = 1 } }

unfoldable pub scanned : ℕ → Text → Result (List Token) Stop
scanned begin source = run (behind_text (first_spot begin) (drop begin source)) (pieces_from 0 (first_spot begin) (drop begin source)) at_first

-- the place of a byte behind the byte order mark
abbrev pub place_of : ℕ → Text → ℕ → Place
place_of begin source at = place_after (record { line = 1; col = 1 }) (take (at - begin) (drop begin source))

-- where the first byte that no source has stands, the earlier of that and another broken rule; at one byte the text comes first
abbrev pub earlier : ℕ → ℕ → Result (List Token) Stop → Result (List Token) Stop
earlier bad end (Ok tokens) = if nat_lt bad end then Err (Broken P01 bad) else Ok tokens
earlier bad end (Err Memory) = Err Memory
earlier bad end (Err (Broken rule at)) = if nat_lt at bad then Err (Broken rule at) else if nat_lt bad end then Err (Broken P01 bad) else Err (Broken rule at)
