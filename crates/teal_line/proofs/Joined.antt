-- Words with one space between them are cut into these words.
use Rattle.std.proofs.Common.{◌≡◌, ℕ, zero, suc, ◌≤◌, ◌<◌, Bool, true, false, ◌&&◌, not, List, [], ◌∷◌, ◌++◌, length, take, drop, refl, arith, ap, sym, ◌∙◌, length-append}
use Rattle.std.specs.Prelude.{◌==◌}
use Rattle.std.specs.List.{join_with_byte, list_all}
use Rattle.std.proofs.lemmas.Bool.Decides.{nat_tests}
use Rattle.std.proofs.lemmas.Bool.{and_parts, and_right}
use Rattle.std.proofs.Math.Seq.{take-append_seam, drop-append_seam, take-length, drop-length}
use Rattle.teal_line.specs.Operands.{is_between}
use Rattle.teal_line.specs.Words.{is_blank, is_comment, plain_length, word_length, words_in, words_of}

-- visible bytes, among which no comment starts
abbrev pub is_plain : List ℕ → Bool
is_plain [] = true
is_plain (b ∷ bs) = is_between 33 126 b && (not (is_comment (b ∷ bs)) && is_plain bs)

-- such bytes, of which there is one at least, and the first is no quote
abbrev pub is_word : List ℕ → Bool
is_word [] = false
is_word (b ∷ bs) = not (b == 34) && is_plain (b ∷ bs)

visible_is_no_blank : (b : ℕ) → is_between 33 126 b ≡ true → is_blank b ≡ false
visible_is_no_blank b h = grind (arith, nat_tests)

not_true : (b : Bool) → not b ≡ true → b ≡ false
not_true true h = sym h
not_true false h = refl

-- the parts of the test at a byte
record Plain (b : ℕ) (bs : List ℕ) : Type 0 where
  visible : is_between 33 126 b ≡ true
  blank : is_blank b ≡ false
  comment : is_comment (b ∷ bs) ≡ false
  more : is_plain bs ≡ true

plain_parts : (b : ℕ) (bs : List ℕ) → is_plain (b ∷ bs) ≡ true → Plain b bs
plain_parts b bs h =
    let p = and_parts (is_between 33 126 b) (not (is_comment (b ∷ bs)) && is_plain bs) h in
    let q = and_parts (not (is_comment (b ∷ bs))) (is_plain bs) p.1 in
    record { visible = p.0; blank = visible_is_no_blank b p.0; comment = not_true (is_comment (b ∷ bs)) q.0; more = q.1 }

-- a comment starts no sooner where a space follows
comment_before : (b : ℕ) (bs rest : List ℕ) → is_comment (b ∷ bs) ≡ false → is_comment (b ∷ (bs ++ 32 ∷ rest)) ≡ false
comment_before b [] rest h = and_right (b == 47) false refl
comment_before b (c ∷ cs) rest h = h

plain_step : (b : ℕ) (bs : List ℕ) (k : ℕ) → is_blank b ≡ false → is_comment (b ∷ bs) ≡ false → plain_length bs ≡ k → plain_length (b ∷ bs) ≡ suc k
plain_step b bs k blank comment more = grind (arith, blank, comment, more)

plain_end : (w : List ℕ) → is_plain w ≡ true → plain_length w ≡ length w
plain_end [] h = refl
plain_end (b ∷ bs) h =
    let p = plain_parts b bs h in
    plain_step b bs (length bs) p.blank p.comment (plain_end bs p.more)

plain_before : (w rest : List ℕ) → is_plain w ≡ true → plain_length (w ++ 32 ∷ rest) ≡ length w
plain_before [] rest h = refl
plain_before (b ∷ bs) rest h =
    let p = plain_parts b bs h in
    plain_step b (bs ++ 32 ∷ rest) (length bs) p.blank (comment_before b bs rest p.comment) (plain_before bs rest p.more)

word_plain : (b : ℕ) (bs : List ℕ) → (b == 34) ≡ false → word_length (b ∷ bs) ≡ plain_length (b ∷ bs)
word_plain b bs h = rw h refl

-- a word at the front is cut off
pub words_word : (n b : ℕ) (bs : List ℕ) → is_blank b ≡ false → is_comment (b ∷ bs) ≡ false
    → words_in (suc n) (b ∷ bs) ≡ take (word_length (b ∷ bs)) (b ∷ bs) ∷ words_in n (drop (word_length (b ∷ bs)) (b ∷ bs))
words_word n b bs blank comment = rw (blank, comment) refl

pub words_blank : (n b : ℕ) (bs : List ℕ) → is_blank b ≡ true → words_in (suc n) (b ∷ bs) ≡ words_in n bs
words_blank n b bs blank = rw blank refl

pub words_comment : (n b : ℕ) (bs : List ℕ) → is_blank b ≡ false → is_comment (b ∷ bs) ≡ true → words_in (suc n) (b ∷ bs) ≡ []
words_comment n b bs blank comment = rw (blank, comment) refl

pub words_none : (n : ℕ) → words_in n [] ≡ []
words_none zero = refl
words_none (suc n) = refl

cut_last : (n : ℕ) (w : List ℕ) → is_word w ≡ true → words_in (suc n) w ≡ w ∷ []
cut_last n [] h = absurd (cc h)
cut_last n (b ∷ bs) h =
    let q = and_parts (not (b == 34)) (is_plain (b ∷ bs)) h in
    let p = plain_parts b bs q.1 in
    let l : word_length (b ∷ bs) ≡ length (b ∷ bs) = word_plain b bs (not_true (b == 34) q.0) ∙ plain_end (b ∷ bs) q.1 in
    words_word n b bs p.blank p.comment
    ∙ ap (λ k. take k (b ∷ bs) ∷ words_in n (drop k (b ∷ bs))) l
    ∙ rw (take-length (b ∷ bs), drop-length (b ∷ bs), words_none n) refl

cut_more : (n : ℕ) (w rest : List ℕ) → is_word w ≡ true → words_in (suc (suc n)) (w ++ 32 ∷ rest) ≡ w ∷ words_in n rest
cut_more n [] rest h = absurd (cc h)
cut_more n (b ∷ bs) rest h =
    let q = and_parts (not (b == 34)) (is_plain (b ∷ bs)) h in
    let p = plain_parts b bs q.1 in
    let text = bs ++ 32 ∷ rest in
    let l : word_length (b ∷ text) ≡ length (b ∷ bs) = word_plain b text (not_true (b == 34) q.0) ∙ plain_before (b ∷ bs) rest q.1 in
    words_word (suc n) b text p.blank (comment_before b bs rest p.comment)
    ∙ ap (λ k. take k (b ∷ text) ∷ words_in (suc n) (drop k (b ∷ text))) l
    ∙ ap (λ v. v ∷ words_in (suc n) (drop (length (b ∷ bs)) (b ∷ text))) (take-append_seam (b ∷ bs) (32 ∷ rest))
    ∙ ap (λ r. (b ∷ bs) ∷ words_in (suc n) r) (drop-append_seam (b ∷ bs) (32 ∷ rest))

abbrev pub are_words : List (List ℕ) → Bool
are_words ws = list_all is_word ws

word_some : (w : List ℕ) → is_word w ≡ true → 0 < length w
word_some [] h = absurd (cc h)
word_some (b ∷ bs) h = omega arith

cut : (n : ℕ) (ws : List (List ℕ)) → are_words ws ≡ true → length (join_with_byte 32 ws) ≤ n → words_in n (join_with_byte 32 ws) ≡ ws
cut n [] h l = words_none n
cut zero (w ∷ []) h l = absurd (omega (arith, word_some w (and_parts (is_word w) true h).0))
cut (suc n) (w ∷ []) h l = cut_last n w (and_parts (is_word w) true h).0
cut zero (w ∷ v ∷ ws) h l =
    let q = and_parts (is_word w) (are_words (v ∷ ws)) h in
    absurd (omega (arith, word_some w q.0, length-append w (32 ∷ join_with_byte 32 (v ∷ ws))))
cut (suc zero) (w ∷ v ∷ ws) h l =
    let q = and_parts (is_word w) (are_words (v ∷ ws)) h in
    absurd (omega (arith, word_some w q.0, length-append w (32 ∷ join_with_byte 32 (v ∷ ws))))
cut (suc (suc n)) (w ∷ v ∷ ws) h l =
    let q = and_parts (is_word w) (are_words (v ∷ ws)) h in
    let rest = join_with_byte 32 (v ∷ ws) in
    let fits : length rest ≤ n = omega (arith, word_some w q.0, length-append w (32 ∷ rest)) in
    cut_more n w rest q.0 ∙ ap (λ r. w ∷ r) (cut n (v ∷ ws) q.1 fits)

pub words_joined : (ws : List (List ℕ)) → are_words ws ≡ true → words_of (join_with_byte 32 ws) ≡ ws
unfolding words_of
words_joined ws h = cut (length (join_with_byte 32 ws)) ws h (omega arith)
