-- A turn of the loop that cuts a source into pieces.
use Rattle.std.proofs.Common.{◌≡◌, ℕ, zero, suc, ◌+◌, ◌-◌, ◌≤◌, List, [], ◌∷◌, ◌++◌, length, take, drop, refl, sym, ◌∙◌, ap, subst, arith, length-append, length-take}
use Rattle.std.specs.Prelude.{Result, Ok, Err}
use Rattle.std.proofs.lemmas.List.{take-append-drop, drop-drop}
use Rattle.puya_base.specs.declared.source.Place.{Place}
use Rattle.py_lexer.specs.declared.token.Token.{Token}
use Rattle.py_lexer.specs.declared.layout.Stop.{Stop}
use Rattle.py_lexer.specs.declared.layout.Stop.TheVariants.{Memory, Broken}
use Rattle.py_lexer.specs.declared.layout.Spot.{Spot}
use Rattle.py_lexer.specs.declared.layout.Layout.{Layout}
use Rattle.py_lexer.specs.Bytes.{Text, behind, place_after}
use Rattle.py_lexer.specs.Words.{is_space}
use Rattle.py_lexer.specs.Pieces.{piece_at}
use Rattle.py_lexer.specs.declared.pieces.Piece.{Piece}
use Rattle.std.specs.List.{prefix_len}
use Rattle.py_lexer.specs.Layout.{Gives, Answers, and_then, after_piece}
use Rattle.py_lexer.specs.Scan.{behind_text, placed, pieces_from, run}

-- the place behind two texts is that behind the second, from the one behind the first on
pub place_through : (p : Place) (a b : Text) → place_after p (a ++ b) ≡ place_after (place_after p a) b
place_through p [] b = refl
place_through p (x ∷ a) b = place_through (behind p x) a b

skipped : (left : ℕ) (s : Spot) (z : Text) → pieces_from left s z ≡ pieces_from 0 s (drop left z)
skipped zero s z = refl
skipped (suc left) s [] = refl
skipped (suc left) s (b ∷ z) = skipped left s z

skipped_by : (n : ℕ) (s : Spot) (b : ℕ) (z : Text) → 1 ≤ n → pieces_from (n - 1) s z ≡ pieces_from 0 s (drop n (b ∷ z))
skipped_by zero s b z h = absurd (omega arith)
skipped_by (suc n) s b z h = let e : suc n - 1 ≡ n = omega arith in ap (λ q. pieces_from q s z) e ∙ skipped n s z

-- the pieces of a text are the longest at its front and those behind it
pub pieces_on : (s : Spot) (z : Text) → 1 ≤ length z → 1 ≤ (piece_at z).len
    → pieces_from 0 s z ≡ placed s z ∷ pieces_from 0 (behind_text s (take (piece_at z).len z)) (drop (piece_at z).len z)
pieces_on s [] h k = absurd (omega arith)
pieces_on s (b ∷ z) h k = ap (λ q. placed s (b ∷ z) ∷ q) (skipped_by (piece_at (b ∷ z)).len (behind_text s (take (piece_at (b ∷ z)).len (b ∷ z))) b z k)

-- the spot behind a text is that behind its rest
pub end_on : (s : Spot) (n : ℕ) (z : Text) → behind_text s z ≡ behind_text (behind_text s (take n z)) (drop n z)
end_on s n z =
    let whole : z ≡ take n z ++ drop n z = sym (take-append-drop n z) in
    let at : s.at + length z ≡ s.at + length (take n z) + length (drop n z) = omega (arith, ap length whole, length-append (take n z) (drop n z)) in
    let place : place_after s.place z ≡ place_after (place_after s.place (take n z)) (drop n z) = ap (place_after s.place) whole ∙ place_through s.place (take n z) (drop n z) in
    ap (λ q. record { at = q; place = place_after s.place z }) at ∙ ap (λ q. record { at = s.at + length (take n z) + length (drop n z); place = q }) place

-- what the rest of a source gives, from a spot and a layout on
abbrev pub rest_gives : Spot → Layout → Text → Result (List Token) Stop
rest_gives s l z = run (behind_text s z) (pieces_from 0 s z) l

-- a turn: what the rest gives is what its first piece and then the rest behind it give
pub turn : (s : Spot) (l : Layout) (z : Text) → 1 ≤ length z → 1 ≤ (piece_at z).len
    → rest_gives s l z ≡ and_then (after_piece s (piece_at z) (placed s z).spaces l) (λ m. rest_gives (behind_text s (take (piece_at z).len z)) m (drop (piece_at z).len z))
turn s l z h k =
    let n = (piece_at z).len in
    ap (λ q. run (behind_text s z) q l) (pieces_on s z h k)
    ∙ ap (λ q. and_then (after_piece s (piece_at z) (placed s z).spaces l) (run q (pieces_from 0 (behind_text s (take n z)) (drop n z)))) (end_on s n z)

stops_by : (e : Stop) (new : Layout) (due : Result Layout Stop) (f : Layout → Result (List Token) Stop) → Gives {A = Unit {0}} (Err e) new due → Answers (Err e) (and_then due f)
stops_by Memory new due f g = tt
stops_by (Broken rule at) new due f g = ap (λ q. and_then q f) g

-- a turn that stops
pub turn_stops : (s : Spot) (l new : Layout) (z : Text) (p : Piece) (spaces : ℕ) (e : Stop) (total : Result (List Token) Stop) → 1 ≤ length z → p ≡ piece_at z → 1 ≤ p.len → spaces ≡ prefix_len is_space (take p.len z)
    → Gives {A = Unit {0}} (Err e) new (after_piece s p spaces l) → rest_gives s l z ≡ total → Answers (Err e) total
turn_stops s l new z p spaces e total h is k led g same =
    let n : 1 ≤ (piece_at z).len = subst (λ q. 1 ≤ q.len) is k in
    let f = λ (m : Layout). rest_gives (behind_text s (take (piece_at z).len z)) m (drop (piece_at z).len z) in
    let g1 : Gives {A = Unit {0}} (Err e) new (after_piece s p (prefix_len is_space (take p.len z)) l) = subst (λ q. Gives {A = Unit {0}} (Err e) new (after_piece s p q l)) led g in
    let g2 : Gives {A = Unit {0}} (Err e) new (after_piece s (piece_at z) (placed s z).spaces l) = subst (λ q. Gives {A = Unit {0}} (Err e) new (after_piece s q (prefix_len is_space (take q.len z)) l)) is g1 in
    subst (λ q. Answers (Err e) q) (sym (turn s l z h n) ∙ same) (stops_by e new (after_piece s (piece_at z) (placed s z).spaces l) f g2)

pub taken_len : (n : ℕ) (z : Text) → n ≤ length z → length (take n z) ≡ n
taken_len n z h = omega (arith, length-take n z)

-- a turn that goes on
pub turn_on : (source : Text) (at : ℕ) (place next : Place) (l new : Layout) (z : Text) (p : Piece) (spaces : ℕ) (total : Result (List Token) Stop) → z ≡ drop at source → 1 ≤ length z → p ≡ piece_at z → 1 ≤ p.len → p.len ≤ length z
    → spaces ≡ prefix_len is_space (take p.len z) → next ≡ place_after place (take p.len z) → after_piece (record { at = at; place = place }) p spaces l ≡ Ok new
    → rest_gives (record { at = at; place = place }) l z ≡ total → rest_gives (record { at = at + p.len; place = next }) new (drop (at + p.len) source) ≡ total
turn_on source at place next l new z p spaces total whole h is k w led then g same =
    let s : Spot = record { at = at; place = place } in
    let over : drop (at + p.len) source ≡ drop p.len z = sym (drop-drop p.len at source) ∙ ap (λ q. drop p.len q) (sym whole) in
    let spot : record { at = at + p.len; place = next } ≡ behind_text s (take p.len z) = ap (λ q. record { at = at + p.len; place = q }) then ∙ ap (λ q. record { at = at + q; place = place_after place (take p.len z) }) (sym (taken_len p.len z w)) in
    let g1 : after_piece s p (prefix_len is_space (take p.len z)) l ≡ Ok new = ap (λ q. after_piece s p q l) (sym led) ∙ g in
    let one : rest_gives s l z ≡ rest_gives (behind_text s (take p.len z)) new (drop p.len z) =
    subst (λ (q : Piece). after_piece s q (prefix_len is_space (take q.len z)) l ≡ Ok new → rest_gives s l z ≡ rest_gives (behind_text s (take q.len z)) new (drop q.len z)) (sym is)
    (λ e. turn s l z h (subst (λ (q : Piece). 1 ≤ q.len) is k) ∙ ap (λ q. and_then q (λ m. rest_gives (behind_text s (take (piece_at z).len z)) m (drop (piece_at z).len z))) e) g1 in
    ap (λ q. rest_gives (record { at = at + p.len; place = next }) new q) over ∙ ap (λ q. rest_gives q new (drop p.len z)) spot ∙ sym one ∙ same
