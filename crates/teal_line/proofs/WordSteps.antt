-- The words of a line, one after the other.
use Rattle.std.proofs.Common.{◌≡◌, ℕ, zero, suc, ◌+◌, ◌-◌, ◌≤◌, ◌<◌, Bool, true, false, List, [], ◌∷◌, ◌++◌, length, take, drop, refl, arith, ap, sym, ◌∙◌, length-drop, get_or, drop-cons, add-one, append-nil, append_assoc}
use Rattle.std.proofs.lemmas.List.{drop-drop, drop_all}
use Rattle.std.specs.Prelude.{◌==◌}
use Rattle.teal_line.specs.Words.{is_blank, is_comment, plain_length, word_length, words_in, words_of}
use Rattle.teal_line.proofs.Joined.{words_word, words_blank, words_comment, words_none}

plain_some : (b : ℕ) (bs : List ℕ) → is_blank b ≡ false → is_comment (b ∷ bs) ≡ false → 1 ≤ plain_length (b ∷ bs)
plain_some b bs blank comment = rw (blank, comment) (omega arith)

word_some_by : (b : ℕ) (bs : List ℕ) (t : Bool) → is_blank b ≡ false → is_comment (b ∷ bs) ≡ false → (b == 34) ≡ t → 1 ≤ word_length (b ∷ bs)
word_some_by b bs true blank comment e = rw e (omega arith)
word_some_by b bs false blank comment e = rw e (plain_some b bs blank comment)

-- a word takes at least a byte
pub word_some : (b : ℕ) (bs : List ℕ) → is_blank b ≡ false → is_comment (b ∷ bs) ≡ false → 1 ≤ word_length (b ∷ bs)
word_some b bs blank comment = word_some_by b bs (b == 34) blank comment refl

enough : (n m : ℕ) (bs : List ℕ) → length bs ≤ n → length bs ≤ m → words_in n bs ≡ words_in m bs
enough n m [] h g = words_none n ∙ sym (words_none m)
enough zero m (b ∷ bs) h g = absurd (omega arith)
enough (suc n) zero (b ∷ bs) h g = absurd (omega arith)
enough (suc n) (suc m) (b ∷ bs) h g = by (λ k cs p q. enough n m (drop k cs) p q) (is_blank b) (is_comment (b ∷ bs)) refl refl
  where
    by : ((k : ℕ) (cs : List ℕ) → length (drop k cs) ≤ n → length (drop k cs) ≤ m → words_in n (drop k cs) ≡ words_in m (drop k cs))
        → (t c : Bool) → is_blank b ≡ t → is_comment (b ∷ bs) ≡ c → words_in (suc n) (b ∷ bs) ≡ words_in (suc m) (b ∷ bs)
    by ih true c blank comment = words_blank n b bs blank ∙ ih 1 (b ∷ bs) (omega arith) (omega arith) ∙ sym (words_blank m b bs blank)
    by ih false true blank comment = words_comment n b bs blank comment ∙ sym (words_comment m b bs blank comment)
    by ih false false blank comment =
        let k = word_length (b ∷ bs) in
        let s : 1 ≤ k = word_some b bs blank comment in
        let l : length (drop k (b ∷ bs)) ≡ length (b ∷ bs) - k = length-drop k (b ∷ bs) in
        words_word n b bs blank comment
        ∙ ap (λ ws. take k (b ∷ bs) ∷ ws) (ih k (b ∷ bs) (omega (arith, l, s)) (omega (arith, l, s)))
        ∙ sym (words_word m b bs blank comment)

pub of_blank : (b : ℕ) (bs : List ℕ) → is_blank b ≡ true → words_of (b ∷ bs) ≡ words_of bs
unfolding words_of
of_blank b bs blank = words_blank (length bs) b bs blank

pub of_comment : (b : ℕ) (bs : List ℕ) → is_blank b ≡ false → is_comment (b ∷ bs) ≡ true → words_of (b ∷ bs) ≡ []
unfolding words_of
of_comment b bs blank comment = words_comment (length bs) b bs blank comment

pub of_word : (b : ℕ) (bs : List ℕ) → is_blank b ≡ false → is_comment (b ∷ bs) ≡ false
    → words_of (b ∷ bs) ≡ take (word_length (b ∷ bs)) (b ∷ bs) ∷ words_of (drop (word_length (b ∷ bs)) (b ∷ bs))
unfolding words_of
of_word b bs blank comment =
    let k = word_length (b ∷ bs) in
    let s : 1 ≤ k = word_some b bs blank comment in
    let l : length (drop k (b ∷ bs)) ≡ length (b ∷ bs) - k = length-drop k (b ∷ bs) in
    words_word (length bs) b bs blank comment
    ∙ ap (λ ws. take k (b ∷ bs) ∷ ws) (enough (length bs) (length (drop k (b ∷ bs))) (drop k (b ∷ bs)) (omega (arith, l, s)) (omega arith))

pub of_none : words_of [] ≡ []
unfolding words_of
of_none = refl

-- steps of a walk over a line from a place on, behind the words found so far

pub blank_step : (ws : List (List ℕ)) (line : List ℕ) (at : ℕ) → at < length line → is_blank (get_or line at 0) ≡ true
    → ws ++ words_of (drop at line) ≡ words_of line → ws ++ words_of (drop (at + 1) line) ≡ words_of line
blank_step ws line at h blank e =
    let s : drop (at + 1) line ≡ drop (suc at) line = ap (λ k. drop k line) (add-one at) in
    ap (λ r. ws ++ words_of r) s
    ∙ ap (λ r. ws ++ r) (sym (of_blank (get_or line at 0) (drop (suc at) line) blank))
    ∙ ap (λ r. ws ++ words_of r) (sym (drop-cons line at 0 h)) ∙ e

pub comment_end : (ws : List (List ℕ)) (line : List ℕ) (at : ℕ) → at < length line → is_blank (get_or line at 0) ≡ false → is_comment (drop at line) ≡ true
    → ws ++ words_of (drop at line) ≡ words_of line → ws ≡ words_of line
comment_end ws line at h blank comment e =
    let d : drop at line ≡ get_or line at 0 ∷ drop (suc at) line = drop-cons line at 0 h in
    sym (append-nil ws)
    ∙ ap (λ r. ws ++ r) (sym (of_comment (get_or line at 0) (drop (suc at) line) blank (ap is_comment (sym d) ∙ comment)))
    ∙ ap (λ r. ws ++ words_of r) (sym d) ∙ e

pub word_step : (ws : List (List ℕ)) (line : List ℕ) (at n : ℕ) → at < length line → is_blank (get_or line at 0) ≡ false → is_comment (drop at line) ≡ false
    → n ≡ word_length (drop at line)
    → ws ++ words_of (drop at line) ≡ words_of line → (ws ++ take n (drop at line) ∷ []) ++ words_of (drop (at + n) line) ≡ words_of line
word_step ws line at n h blank comment is e =
    let d : drop at line ≡ get_or line at 0 ∷ drop (suc at) line = drop-cons line at 0 h in
    let w : words_of (drop at line) ≡ take (word_length (drop at line)) (drop at line) ∷ words_of (drop (word_length (drop at line)) (drop at line)) =
    rw d (of_word (get_or line at 0) (drop (suc at) line) blank (ap is_comment (sym d) ∙ comment)) in
    append_assoc ws (take n (drop at line) ∷ []) (words_of (drop (at + n) line))
    ∙ ap (λ r. ws ++ take n (drop at line) ∷ words_of r) (sym (drop-drop n at line))
    ∙ ap (λ k. ws ++ take k (drop at line) ∷ words_of (drop k (drop at line))) is
    ∙ ap (λ r. ws ++ r) (sym w) ∙ e

pub word_progress : (line : List ℕ) (at n : ℕ) → at < length line → is_blank (get_or line at 0) ≡ false → is_comment (drop at line) ≡ false
    → n ≡ word_length (drop at line) → 1 ≤ n
word_progress line at n h blank comment is =
    let d : drop at line ≡ get_or line at 0 ∷ drop (suc at) line = drop-cons line at 0 h in
    let s = word_some (get_or line at 0) (drop (suc at) line) blank (ap is_comment (sym d) ∙ comment) in
    let t : 1 ≤ word_length (drop at line) = rw d s in
    omega (arith, is, t)

pub words_end : (ws : List (List ℕ)) (line : List ℕ) (at : ℕ) → length line ≤ at → ws ++ words_of (drop at line) ≡ words_of line → ws ≡ words_of line
words_end ws line at h e =
    sym (append-nil ws) ∙ ap (λ r. ws ++ r) (sym of_none) ∙ ap (λ r. ws ++ words_of r) (sym (drop_all at line h)) ∙ e
