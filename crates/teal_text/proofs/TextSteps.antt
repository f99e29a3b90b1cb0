-- Reading a text line by line: what is left of it, and what was read so far.
use Rattle.std.proofs.Common.{◌≡◌, ◌≢◌, ℕ, suc, ◌+◌, ◌-◌, ◌<◌, ◌≤◌, List, [], ◌∷◌, ◌++◌, length, take, drop, get_or, Bool, true, false, Ok, Err, Result, refl, sym, ap, ◌∙◌, arith, append_assoc, subst}
use Rattle.std.specs.Prelude.{◌==◌, ◌&&◌, bytes_eq, if◌then◌else◌, Option, Some, None, position, nat_lt, IsErr, IsErrAnd}
use Rattle.std.specs.List.{slice_split, position_or_len}
use Rattle.std.proofs.lemmas.Bool.Decides.{nat_tests}
use Rattle.std.proofs.lemmas.List.{append-nil}
use Rattle.std.proofs.lemmas.List.Splits.{slice_split_first, length-slice_split}
use Rattle.avm_asm.specs.declared.line.Line.{Line}
use Rattle.avm_asm.specs.Listing.{AreLines}
use Rattle.teal_line.specs.declared.statement.Statement.{Statement}
use Rattle.teal_line.specs.Words.{words_of}
use Rattle.teal_text.specs.declared.fault.TealFault.{TealFault}
use Rattle.teal_text.specs.declared.fault.TealFault.TheVariants.{NotAscii, Pragma, Word, Count, Number, Bytes, Memory}
use Rattle.teal_text.specs.Numbering.{numbered, line_by, names_of, with_names}
use Rattle.teal_text.specs.Reading.{Reads, are_words, before, ended, is_ascii, line_says, lines_by, lines_of, read_of, statements_in, versioned_by, without_return, words_say}
use Rattle.teal_text.proofs.NameNumbers.{both_suc, below_suc}
use Rattle.teal_text.specs.Steps.{Adds, FaultsAs, IsRoomy, lines_after, names_after}

-- words of another number are other words
pub other_words : (vs ws : List (List ℕ)) → length vs ≢ length ws → are_words vs ws ≡ false
other_words [] [] h = absurd (h refl)
other_words [] (w ∷ ws) h = refl
other_words (v ∷ vs) [] h = refl
other_words (v ∷ vs) (w ∷ ws) h = ap (λ b. bytes_eq v w && b) (other_words vs ws (λ e. h (ap suc e))) ∙ and-false (bytes_eq v w)
  where
    and-false : (b : Bool) → (b && false) ≡ false
    and-false true = refl
    and-false false = refl

-- a carriage return at the end, and another byte there
pub return_taken : (l : List ℕ) → 1 ≤ length l → get_or l (length l - 1) 0 ≡ 13 → take (length l - 1) l ≡ without_return l
return_taken [] h e = absurd (omega arith)
return_taken (b ∷ []) h e = let t : (b == 13) ≡ true = grind (arith, nat_tests) in rw t refl
return_taken (b ∷ c ∷ bs) h e =
    let n : length (b ∷ c ∷ bs) - 1 ≡ suc (length (c ∷ bs) - 1) = omega arith in
    rw n (ap (λ (t : List ℕ). b ∷ t) (return_taken (c ∷ bs) (omega arith) (rw n at e)))

pub no_return : (l : List ℕ) → (1 ≤ length l → get_or l (length l - 1) 0 ≢ 13) → l ≡ without_return l
no_return [] h = refl
no_return (b ∷ []) h = let no : b ≢ 13 = h (omega arith) in let t : (b == 13) ≡ false = grind (arith, nat_tests) in rw t refl
no_return (b ∷ c ∷ bs) h =
    let n : length (b ∷ c ∷ bs) - 1 ≡ suc (length (c ∷ bs) - 1) = omega arith in
    let other : get_or (b ∷ c ∷ bs) (length (b ∷ c ∷ bs) - 1) 0 ≢ 13 = h (omega arith) in
    let later : get_or (b ∷ c ∷ bs) (suc (length (c ∷ bs) - 1)) 0 ≢ 13 = rw n at other in
    ap (λ (t : List ℕ). b ∷ t) (no_return (c ∷ bs) (λ g. later))

-- a fault that a call passes on
pub passed_on : {A B : Type 0} (r : Result A TealFault) (f : TealFault) (due : Result B TealFault) → IsErr r → IsErrAnd r (λ e. e ≡ f) → Reads {A = B} (Err f) due → FaultsAs r due
passed_on {A} {B} (Ok x) f due e s h = cc
passed_on {A} {B} (Err g) f due e s h = subst (λ z. Reads {A = B} (Err z) due) (sym s) h

-- what the words of a line say, the line says
pub by_words : (n : ℕ) (v : Bool) (line : List ℕ) (ws : List (List ℕ)) → is_ascii line ≡ true → ws ≡ words_of line → words_say n v ws ≡ line_says n v line
unfolding line_says
by_words n v line ws a e = rw (a, e) refl

pub not_ascii : (n : ℕ) (v : Bool) (line : List ℕ) → is_ascii line ≡ false → line_says n v line ≡ Err (NotAscii n)
unfolding line_says
not_ascii n v line a = rw a refl

pub adds_said : (due : Result (Option Statement) TealFault) (o : Option Statement) (seen seen' : List (List ℕ)) (lines lines' : List Line) → due ≡ Ok o → seen' ≡ names_after seen o → lines' ≡ lines ++ lines_after seen o
    → Adds due seen lines seen' lines'
adds_said due o seen seen' lines lines' e s l = subst (λ (r : Result (Option Statement) TealFault). Adds r seen lines seen' lines') (sym e) (s, l)

-- lines behind these
abbrev pub behind : List Line → Result (List Line) TealFault → Result (List Line) TealFault
behind lines (Err f) = Err f
behind lines (Ok ls) = Ok (lines ++ ls)

-- statements as lines behind those names
abbrev pub numbered_by : List (List ℕ) → Result (List Statement) TealFault → Result (List Line) TealFault
numbered_by seen (Err f) = Err f
numbered_by seen (Ok ss) = Ok (numbered seen ss)

-- what the lines that are left say, behind what was read so far, is what the text says
pub record ToRead (text : List ℕ) (left : List (List ℕ)) (number : ℕ) (versioned : Bool) (names : List (List ℕ)) (lines : List Line) : Type 0 where
  pub same : behind lines (numbered_by names (statements_in number versioned left)) ≡ read_of text
  pub room : IsRoomy names number
  pub form : AreLines lines

pub read_all : (text : List ℕ) → ToRead text (lines_of text) 1 false [] []
unfolding read_of
read_all text = record { same = first (statements_in 1 false (lines_of text)); room = omega arith; form = λ k d h. absurd (omega arith) }
  where
    first : (r : Result (List Statement) TealFault) → behind [] (numbered_by [] r) ≡ lines_by r
    first (Err f) = refl
    first (Ok ss) = refl

one_more : (seen : List (List ℕ)) (lines : List Line) (o : Option Statement) (r : Result (List Statement) TealFault)
    → behind lines (numbered_by seen (before (Ok o) r)) ≡ behind (lines ++ lines_after seen o) (numbered_by (names_after seen o) r)
unfolding numbered
one_more seen lines None (Err f) = refl
one_more seen lines None (Ok ss) = ap (λ (ls : List Line). Ok (ls ++ numbered seen ss)) (sym (append-nil lines))
one_more seen lines (Some s) (Err f) = refl
one_more seen lines (Some s) (Ok ss) = ap Ok (sym (append_assoc lines (line_by seen s ∷ []) (numbered (with_names seen (names_of s)) ss)))

said_more : (n n' : ℕ) (v v' : Bool) (l : List ℕ) (ls : List (List ℕ)) → n' ≡ n + 1 → v' ≡ versioned_by v (words_of l) → statements_in n v (l ∷ ls) ≡ before (line_says n v l) (statements_in n' v' ls)
unfolding statements_in
said_more n n' v v' l ls e f = let s : n' ≡ suc n = omega arith in rw (s, f) refl

taken : (due : Result (Option Statement) TealFault) (r : Result (List Statement) TealFault) (seen seen' : List (List ℕ)) (lines lines' : List Line) → Adds due seen lines seen' lines'
    → behind lines' (numbered_by seen' r) ≡ behind lines (numbered_by seen (before due r))
taken (Err f) r seen seen' lines lines' a = absurd a
taken (Ok o) r seen seen' lines lines' a =
    ap (λ (z : List Line). behind z (numbered_by seen' r)) a.1
    ∙ ap (λ (z : List (List ℕ)). behind (lines ++ lines_after seen o) (numbered_by z r)) a.0
    ∙ sym (one_more seen lines o r)

pub read_more : (text : List ℕ) (l : List ℕ) (left ls : List (List ℕ)) (n n' : ℕ) (v v' : Bool) (seen seen' : List (List ℕ)) (lines lines' : List Line)
    → ToRead text left n v seen lines → left ≡ l ∷ ls → Adds (line_says n v l) seen lines seen' lines' → n' ≡ n + 1 → v' ≡ versioned_by v (words_of l) → IsRoomy seen' n' → AreLines lines'
    → ToRead text ls n' v' seen' lines'
read_more text l left ls n n' v v' seen seen' lines lines' to is a e f room form = record {
  same =
      taken (line_says n v l) (statements_in n' v' ls) seen seen' lines lines' a
      ∙ ap (λ (r : Result (List Statement) TealFault). behind lines (numbered_by seen r)) (sym (said_more n n' v v' l ls e f) ∙ ap (statements_in n v) (sym is))
      ∙ to.same;
  room = room;
  form = form;
}

-- nothing is left
pub read_whole : (text : List ℕ) (n : ℕ) (v : Bool) (seen : List (List ℕ)) (lines : List Line) → ToRead text [] n v seen lines → v ≡ true → read_of text ≡ Ok lines
unfolding statements_in numbered
read_whole text n v seen lines to e = sym to.same ∙ rw e (ap Ok (append-nil lines))

pub read_unversioned : (text : List ℕ) (n : ℕ) (v : Bool) (seen : List (List ℕ)) (lines : List Line) → ToRead text [] n v seen lines → v ≡ false → read_of text ≡ Err (Pragma 1)
unfolding statements_in
read_unversioned text n v seen lines to e = sym to.same ∙ rw e refl

-- the first line that has a fault
stops : (text l : List ℕ) (left ls : List (List ℕ)) (n : ℕ) (v : Bool) (seen : List (List ℕ)) (lines : List Line) (f : TealFault) → ToRead text left n v seen lines → left ≡ l ∷ ls → line_says n v l ≡ Err f → read_of text ≡ Err f
stops text l left ls n v seen lines f to is e =
    sym to.same
    ∙ ap (λ (r : Result (List Statement) TealFault). behind lines (numbered_by seen r))
    (ap (statements_in n v) is ∙ said_more n (n + 1) v (versioned_by v (words_of l)) l ls refl refl ∙ ap (λ (r : Result (Option Statement) TealFault). before r (statements_in (n + 1) (versioned_by v (words_of l)) ls)) e)

pub read_fault : (text l : List ℕ) (left ls : List (List ℕ)) (n : ℕ) (v : Bool) (seen : List (List ℕ)) (lines : List Line) (f : TealFault) → ToRead text left n v seen lines → left ≡ l ∷ ls
    → FaultsAs {A = Unit {0}} (Err f) (line_says n v l) → Reads {A = List Line} (Err f) (read_of text)
read_fault text l left ls n v seen lines (NotAscii k) to is e = stops text l left ls n v seen lines (NotAscii k) to is e
read_fault text l left ls n v seen lines (Pragma k) to is e = stops text l left ls n v seen lines (Pragma k) to is e
read_fault text l left ls n v seen lines (Word k) to is e = stops text l left ls n v seen lines (Word k) to is e
read_fault text l left ls n v seen lines (Count k) to is e = stops text l left ls n v seen lines (Count k) to is e
read_fault text l left ls n v seen lines (Number k) to is e = stops text l left ls n v seen lines (Number k) to is e
read_fault text l left ls n v seen lines (Bytes k) to is e = stops text l left ls n v seen lines (Bytes k) to is e
read_fault text l left ls n v seen lines Memory to is e = tt

-- the lines of a text: up to the first line feed, and then the rest
ended_more : (l : List ℕ) (ls : List (List ℕ)) → 1 ≤ length ls → ended (l ∷ ls) ≡ without_return l ∷ ended ls
ended_more l [] h = absurd (omega arith)
ended_more l (m ∷ ls) h = refl

split_by : (rest : List ℕ) (i : ℕ) (v : Bool) → nat_lt (position_or_len (λ b. b == 10) rest) (length rest) ≡ v → Some i ≡ (if v then Some (position_or_len (λ b. b == 10) rest) else None)
    → lines_of rest ≡ without_return (take i rest) ∷ lines_of (drop (i + 1) rest)
unfolding lines_of
split_by rest i true t e =
    let p : ℕ → Bool = λ b. b == 10 in
    let at : i ≡ position_or_len (λ b. b == 10) rest = cc in
    let low : position_or_len (λ b. b == 10) rest < length rest = grind (arith, nat_tests) in
    let some : 1 ≤ length (slice_split (λ b. b == 10) (drop (i + 1) rest)) = omega (arith, length-slice_split (λ b. b == 10) (drop (i + 1) rest)) in
    ap ended (slice_split_first (λ b. b == 10) rest 0 low ∙ ap (λ k. take k rest ∷ slice_split (λ b. b == 10) (drop (k + 1) rest)) (sym at))
    ∙ ended_more (take i rest) (slice_split (λ b. b == 10) (drop (i + 1) rest)) some
split_by rest i false t e = cc

pub line_more : (rest : List ℕ) (i : ℕ) → Some i ≡ position (λ b. b == 10) rest → lines_of rest ≡ without_return (take i rest) ∷ lines_of (drop (i + 1) rest)
line_more rest i e = split_by rest i (nat_lt (position_or_len (λ b. b == 10) rest) (length rest)) refl e

unsplit_by : (b : ℕ) (bs : List ℕ) (v : Bool) → (b == 10) ≡ v → nat_lt (position_or_len (λ b. b == 10) (b ∷ bs)) (length (b ∷ bs)) ≡ false
    → (nat_lt (position_or_len (λ b. b == 10) bs) (length bs) ≡ false → slice_split (λ b. b == 10) bs ≡ bs ∷ []) → slice_split (λ b. b == 10) (b ∷ bs) ≡ (b ∷ bs) ∷ []
unsplit_by b bs true e t more = let t' : nat_lt 0 (suc (length bs)) ≡ false = rw e at t in cc (below_suc 0 (length bs) (omega arith))
unsplit_by b bs false e t more =
    let t' : nat_lt (1 + position_or_len (λ b. b == 10) bs) (suc (length bs)) ≡ false = rw e at t in
    rw (e, more (both_suc (position_or_len (λ b. b == 10) bs) (length bs) ∙ t')) refl

unsplit : (bs : List ℕ) → nat_lt (position_or_len (λ b. b == 10) bs) (length bs) ≡ false → slice_split (λ b. b == 10) bs ≡ bs ∷ []
unsplit [] t = refl
unsplit (b ∷ bs) t = unsplit_by b bs (b == 10) refl t (unsplit bs)

last_by : (rest : List ℕ) (v : Bool) → nat_lt (position_or_len (λ b. b == 10) rest) (length rest) ≡ v → None ≡ (if v then Some (position_or_len (λ b. b == 10) rest) else None)
    → lines_of rest ≡ rest ∷ []
unfolding lines_of
last_by rest true t e = cc
last_by rest false t e = ap ended (unsplit rest t)

pub line_last : (rest : List ℕ) → None ≡ position (λ b. b == 10) rest → lines_of rest ≡ rest ∷ []
line_last rest e = last_by rest (nat_lt (position_or_len (λ b. b == 10) rest) (length rest)) refl e

-- the same of a fault that a call passes on
pub read_passed : (r : Result (List Line) TealFault) (f : TealFault) (due : Result (List Line) TealFault) → IsErr r → IsErrAnd r (λ e. e ≡ f) → Reads {A = List Line} (Err f) due → Reads r due
read_passed (Ok x) f due e s h = cc
read_passed (Err g) f due e s h = subst (λ z. Reads {A = List Line} (Err z) due) (sym s) h
