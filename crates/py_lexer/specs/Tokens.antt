-- What a source gives: its tokens, or the first rule that it breaks, by place and then by number (Python reference, chapter 2).
use Rattle.std.specs.Prelude.{◌≡◌, ℕ, ◌+◌, ◌≤◌, ◌<◌, ◌⊎◌, if◌then◌else◌, nat_lt, List, [], ◌∷◌, ◌++◌, length, drop, Result, Ok, Err}
use Rattle.puya_base.specs.declared.source.Rule.{Rule}
use Rattle.puya_base.specs.declared.source.Rule.TheVariants.{P01, P02, P03, P04, P05, P06, P07, P08, P09, P10, P11, P12, P13, P14, P15, P16, P17, P18, P19, P20, P21, P22, P23, P24, P25}
use Rattle.puya_base.specs.declared.source.Refusal.{Refusal}
use Rattle.puya_base.specs.declared.source.SourceFault.{SourceFault}
use Rattle.puya_base.specs.declared.source.SourceFault.TheVariants.{Refused, Memory}
use Rattle.py_lexer.specs.declared.token.Token.{Token}
use Rattle.py_lexer.specs.Bytes.{Text, first_bad, order_mark_len}
use Rattle.py_lexer.specs.Scan.{behind_text, first_spot, pieces_from, place_of}
use Rattle.py_lexer.specs.Lines.{Fault, laid}

-- the number of a rule that a text can break
abbrev pub number : Rule → ℕ
number P01 = 1
number P02 = 2
number P03 = 3
number P04 = 4
number P05 = 5
number P06 = 6
number P07 = 7
number P08 = 8
number P09 = 9
number P10 = 10
number P11 = 11
number P12 = 12
number P13 = 13
number P14 = 14
number P15 = 15
number P16 = 16
number P17 = 17
number P18 = 18
number P19 = 19
number P20 = 20
number P21 = 21
number P22 = 22
number P23 = 23
number P24 = 24
number P25 = 25

-- the first fault stands at most where the second does, and at one byte has at most its number
abbrev pub AtMost : Fault → Fault → Type 0
AtMost f g = (f.at < g.at) ⊎ ((f.at ≡ g.at) × (number f.rule ≤ number g.rule))

-- a fault stands at most where each of some does
abbrev pub AtMostAll : Fault → List Fault → Type 0
AtMostAll f [] = Unit {0}
AtMostAll f (g ∷ gs) = AtMost f g × AtMostAll f gs

abbrev pub IsAmong : Fault → List Fault → Type 0
IsAmong f [] = ⊥
IsAmong f (g ∷ gs) = (f ≡ g) ⊎ IsAmong f gs

-- P01: a byte that no source has
abbrev pub text_rule : ℕ → ℕ → List Fault
text_rule bad end = if nat_lt bad end then record { rule = P01; at = bad } ∷ [] else []

-- what is broken in the text, and what in its lines
abbrev pub with_text : List Fault → Result (List Token) (List Fault) → Result (List Token) (List Fault)
with_text [] r = r
with_text (f ∷ fs) (Ok tokens) = Err (f ∷ fs)
with_text (f ∷ fs) (Err gs) = Err ((f ∷ fs) ++ gs)

-- the tokens of a source whose text begins behind so many bytes, or the rules that are broken in its text and at the first piece
-- of its lines at which one is
unfoldable pub read_from : ℕ → Text → Result (List Token) (List Fault)
read_from begin source =
    with_text (text_rule (begin + first_bad (drop begin source)) (length source))
    (laid (pieces_from 0 (first_spot begin) (drop begin source)) (behind_text (first_spot begin) (drop begin source)))

-- the tokens of a source, behind its byte order mark, or the rules that are broken
abbrev pub read : Text → Result (List Token) (List Fault)
read source = read_from (order_mark_len source) source

-- a refusal is the first of the faults of a source
pub record Refuses (source : Text) (refusal : Refusal) : Type 0 where
  pub faults : List Fault
  pub broken : read source ≡ Err faults
  pub fault : Fault
  pub among : IsAmong fault faults
  pub first : AtMostAll fault faults
  pub rule : refusal.rule ≡ fault.rule
  pub place : refusal.place ≡ place_of (order_mark_len source) source fault.at

-- what is answered to a source: its tokens, or its first fault, unless memory fails
abbrev pub IsAnswer : Text → Result (List Token) SourceFault → Type 0
IsAnswer source (Ok tokens) = read source ≡ Ok tokens
IsAnswer source (Err (Refused refusal)) = Refuses source refusal
IsAnswer source (Err Memory) = Unit {0}
