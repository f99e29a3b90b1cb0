-- What the calls on the parts of a note give for the note.
use Rattle.std.proofs.Common.{◌≡◌, ℕ, suc, ◌+◌, ◌<◌, ◌≤◌, Bool, true, List, [], ◌∷◌, ◌++◌, length, get_or, drop, drop-cons, add-one, Option, Some, refl, sym, ◌∙◌, ap, subst}
use Rattle.std.specs.Prelude.{IfOk, Result}
use Rattle.std.proofs.Math.ListN.{drop_of_length-le}
use Rattle.puya_base.specs.declared.memory.Memory.{Memory}
use Rattle.puya_base.specs.declared.source.Place.{Place}
use Rattle.puya_base.specs.declared.source.Refusal.{Refusal}
use Rattle.path_rules.specs.declared.note.Note.{Note}
use Rattle.path_rules.specs.declared.note.NoteArm.{NoteArm}
use Rattle.path_rules.specs.declared.note.Note.TheVariants as note
use Rattle.path_rules.specs.declared.summary.Summary.{Summary}
use Rattle.path_rules.specs.Steps.{Step, choice, broken, read, assign, forget, break, continue, return, Steps, no_steps, one, before, in_turn, an_arm, an_if, a_loop, step_of, steps_of, arm_of, arms_of}
use Rattle.path_rules.specs.Describes.{Describes, Together, TogetherWith, DescribesFault, DescribesBreak, DescribesContinue, DescribesReturn}
use Rattle.path_rules.specs.Told.{loop_word, told_by, told_by_all}
use Rattle.path_rules.specs.Order.{earlier_refusal}
use Rattle.path_rules.proofs.Compounds.{ok_map}
use Rattle.path_rules.proofs.Equations.{step-Broken, step-Read, step-Assign, step-Forget, step-If, step-Loop, step-Break, step-Continue, step-Return, arm-is}
use Rattle.path_rules.proofs.TogetherLaws.{one_more, all_there}
use Rattle.path_rules.proofs.ToldLaws.{told_before, told_arm, told_loop}

-- ---- summaries

abbrev pub Gives : Result Summary Memory → Steps → Type 0
Gives r fs = IfOk r (λ m. Describes m fs)

gives_same : (r : Result Summary Memory) (f g : Step) → g ≡ f → Gives r (one f) → Gives r (one g)
gives_same r f g e h = subst (λ z. Gives r (one z)) (sym e) h

pub fault_step : (r : Result Summary Memory) (n : Note) (q : Refusal) → n ≡ note.Broken q → IfOk r (λ m. DescribesFault m) → Gives r (one (step_of n))
fault_step r n q e h = gives_same r (broken q) (step_of n) (ap step_of e ∙ step-Broken q) (ok_map (λ m. DescribesFault m) (λ m. Describes m (one (broken q))) (λ m d. d q) r h)

pub read_step : (r : Result Summary Memory) (n : Note) (x : ℕ) (p : Place) → n ≡ note.Read x p → Gives r (one (read x p)) → Gives r (one (step_of n))
read_step r n x p e h = gives_same r (read x p) (step_of n) (ap step_of e ∙ step-Read x p) h

pub assign_step : (r : Result Summary Memory) (n : Note) (x : ℕ) → n ≡ note.Assign x → Gives r (one (assign x)) → Gives r (one (step_of n))
assign_step r n x e h = gives_same r (assign x) (step_of n) (ap step_of e ∙ step-Assign x) h

pub forget_step : (r : Result Summary Memory) (n : Note) (x : ℕ) → n ≡ note.Forget x → Gives r (one (forget x)) → Gives r (one (step_of n))
forget_step r n x e h = gives_same r (forget x) (step_of n) (ap step_of e ∙ step-Forget x) h

pub break_step : (r : Result Summary Memory) (n : Note) (p : Place) → n ≡ note.Break p → IfOk r (λ m. DescribesBreak m) → Gives r (one (step_of n))
break_step r n p e h = gives_same r (break p) (step_of n) (ap step_of e ∙ step-Break p) (ok_map (λ m. DescribesBreak m) (λ m. Describes m (one (break p))) (λ m d. d p) r h)

pub continue_step : (r : Result Summary Memory) (n : Note) (p : Place) → n ≡ note.Continue p → IfOk r (λ m. DescribesContinue m) → Gives r (one (step_of n))
continue_step r n p e h = gives_same r (continue p) (step_of n) (ap step_of e ∙ step-Continue p) (ok_map (λ m. DescribesContinue m) (λ m. Describes m (one (continue p))) (λ m d. d p) r h)

pub return_step : (r : Result Summary Memory) (n : Note) → n ≡ note.Return → IfOk r (λ m. DescribesReturn m) → Gives r (one (step_of n))
return_step r n e h = gives_same r return (step_of n) (ap step_of e ∙ step-Return) h

pub if_step : (r : Result Summary Memory) (n : Note) (arms given_arms : List NoteArm) (rest given_rest : List Note) (parts : List Summary) (last : Summary) → n ≡ note.If arms rest → given_arms ≡ arms → given_rest ≡ rest
    → Together parts (in_turn (arms_of given_arms)) → Describes last (steps_of given_rest)
    → IfOk r (λ m. (fs gs : Steps) → TogetherWith parts gs fs → Describes last gs → Describes m (one (choice fs))) → Gives r (one (step_of n))
if_step r n arms given_arms rest given_rest parts last e f g h k d =
    let whole = before (in_turn (arms_of given_arms)) (steps_of given_rest) in
    let with_rest : TogetherWith parts (steps_of given_rest) whole = record { so_far = in_turn (arms_of given_arms); together = h; all_of = refl } in
    gives_same r (an_if (arms_of given_arms) (steps_of given_rest)) (step_of n)
    (ap step_of e ∙ step-If arms rest ∙ ap (λ z. an_if (arms_of z) (steps_of rest)) (sym f) ∙ ap (λ z. an_if (arms_of given_arms) (steps_of z)) (sym g))
    (ok_map (λ m. (fs gs : Steps) → TogetherWith parts gs fs → Describes last gs → Describes m (one (choice fs))) (λ m. Describes m (one (choice whole)))
    (λ m q. q whole (steps_of given_rest) with_rest k) r d)

pub loop_step : (r : Result Summary Memory) (n : Note) (test given_test : List Note) (ends : Bool) (body given_body : List Note) (first second : Summary) → n ≡ note.Loop test ends body → given_test ≡ test → given_body ≡ body
    → Describes first (steps_of given_test) → Describes second (steps_of given_body)
    → IfOk r (λ m. (t b : Steps) → Describes first t → Describes second b → Describes m (one (a_loop t ends b))) → Gives r (one (step_of n))
loop_step r n test given_test ends body given_body first second e f g h k d =
    gives_same r (a_loop (steps_of given_test) ends (steps_of given_body)) (step_of n)
    (ap step_of e ∙ step-Loop test ends body ∙ ap (λ z. a_loop (steps_of z) ends (steps_of body)) (sym f) ∙ ap (λ z. a_loop (steps_of given_test) ends (steps_of z)) (sym g))
    (ok_map (λ m. (t b : Steps) → Describes first t → Describes second b → Describes m (one (a_loop t ends b))) (λ m. Describes m (one (a_loop (steps_of given_test) ends (steps_of given_body))))
    (λ m q. q (steps_of given_test) (steps_of given_body) h k) r d)

pub arm_step : (r : Result Summary Memory) (a : NoteArm) (test body : Summary) (given_test given_body : List Note) → given_test ≡ a.test → given_body ≡ a.body → Describes test (steps_of given_test) → Describes body (steps_of given_body)
    → IfOk r (λ m. (t b : Steps) → Describes test t → Describes body b → Describes m (an_arm t a.always b)) → Gives r (arm_of a)
arm_step r a test body given_test given_body e f h k g =
    ok_map (λ m. (t b : Steps) → Describes test t → Describes body b → Describes m (an_arm t a.always b)) (λ m. Describes m (arm_of a))
    (λ m d. subst (λ z. Describes m z) (sym (arm-is a))
    (d (steps_of a.test) (steps_of a.body) (subst (λ z. Describes test (steps_of z)) e h) (subst (λ z. Describes body (steps_of z)) f k))) r g

-- ---- lists

pub nothing_yet : (parts : List Summary) (fs : Steps) → parts ≡ [] → TogetherWith parts fs fs
nothing_yet parts fs e = record { so_far = no_steps; together = subst (λ l. Together l no_steps) (sym e) refl; all_of = refl }

cut : {A : Type 0} (l : List A) (i : ℕ) (a : A) → i < length l → a ≡ get_or l i a → drop i l ≡ a ∷ drop (i + 1) l
cut l i a h e = drop-cons l i a h ∙ ap (λ z. z ∷ drop (suc i) l) (sym e) ∙ ap (λ n. a ∷ drop n l) (sym (add-one i))

pub next_note : (parts into : List Summary) (m : Summary) (notes : List Note) (i : ℕ) (n : Note) (whole : Steps) → i < length notes → n ≡ get_or notes i n → into ≡ parts ++ m ∷ [] → Describes m (one (step_of n))
    → TogetherWith parts (steps_of (drop i notes)) whole → TogetherWith into (steps_of (drop (i + 1) notes)) whole
next_note parts into m notes i n whole h e f k w =
    subst (λ l. TogetherWith l (steps_of (drop (i + 1) notes)) whole) (sym f)
    (one_more parts m (one (step_of n)) (steps_of (drop (i + 1) notes)) whole (subst (λ l. TogetherWith parts (steps_of l) whole) (cut notes i n h e) w) k)

pub all_notes : (r : Result Summary Memory) (parts : List Summary) (notes : List Note) (i : ℕ) → length notes ≤ i → TogetherWith parts (steps_of (drop i notes)) (steps_of notes)
    → IfOk r (λ m. (fs : Steps) → Together parts fs → Describes m fs) → Gives r (steps_of notes)
all_notes r parts notes i h w g =
    ok_map (λ m. (fs : Steps) → Together parts fs → Describes m fs) (λ m. Describes m (steps_of notes))
    (λ m d. d (steps_of notes) (all_there parts (steps_of notes) (subst (λ l. TogetherWith parts (steps_of l) (steps_of notes)) (drop_of_length-le notes h) w))) r g

pub next_arm : (parts into : List Summary) (m : Summary) (arms : List NoteArm) (i : ℕ) (a : NoteArm) (whole : Steps) → i < length arms → a ≡ get_or arms i a → into ≡ parts ++ m ∷ [] → Describes m (arm_of a)
    → TogetherWith parts (in_turn (arms_of (drop i arms))) whole → TogetherWith into (in_turn (arms_of (drop (i + 1) arms))) whole
next_arm parts into m arms i a whole h e f k w =
    let tail = in_turn (arms_of (drop (i + 1) arms)) in
    subst (λ l. TogetherWith l tail whole) (sym f)
    (one_more parts m (arm_of a) tail whole (subst (λ l. TogetherWith parts (in_turn (arms_of l)) whole) (cut arms i a h e) w) k)

pub all_arms : (parts : List Summary) (arms : List NoteArm) (i : ℕ) → length arms ≤ i
    → TogetherWith parts (in_turn (arms_of (drop i arms))) (in_turn (arms_of arms)) → Together parts (in_turn (arms_of arms))
all_arms parts arms i h w = all_there parts (in_turn (arms_of arms)) (subst (λ l. TogetherWith parts (in_turn (arms_of l)) (in_turn (arms_of arms))) (drop_of_length-le arms h) w)

-- ---- what is told

module _ (first : Option Refusal) (inside : Bool) where
  pub told_fault : (n : Note) (q : Refusal) (x : Option Refusal) → n ≡ note.Broken q → x ≡ earlier_refusal first (Some q) → x ≡ told_by first inside (step_of n)
  told_fault n q x e h = h ∙ ap (told_by first inside) (sym (ap step_of e ∙ step-Broken q))

  pub told_read : (n : Note) (y : ℕ) (p : Place) → n ≡ note.Read y p → first ≡ told_by first inside (step_of n)
  told_read n y p e = ap (told_by first inside) (sym (ap step_of e ∙ step-Read y p))

  pub told_assign : (n : Note) (y : ℕ) → n ≡ note.Assign y → first ≡ told_by first inside (step_of n)
  told_assign n y e = ap (told_by first inside) (sym (ap step_of e ∙ step-Assign y))

  pub told_forget : (n : Note) (y : ℕ) → n ≡ note.Forget y → first ≡ told_by first inside (step_of n)
  told_forget n y e = ap (told_by first inside) (sym (ap step_of e ∙ step-Forget y))

  pub told_return : (n : Note) → n ≡ note.Return → first ≡ told_by first inside (step_of n)
  told_return n e = ap (told_by first inside) (sym (ap step_of e ∙ step-Return))

  pub told_break : (n : Note) (p : Place) (x : Option Refusal) → n ≡ note.Break p → x ≡ loop_word first inside p → x ≡ told_by first inside (step_of n)
  told_break n p x e h = h ∙ ap (told_by first inside) (sym (ap step_of e ∙ step-Break p))

  pub told_continue : (n : Note) (p : Place) (x : Option Refusal) → n ≡ note.Continue p → x ≡ loop_word first inside p → x ≡ told_by first inside (step_of n)
  told_continue n p x e h = h ∙ ap (told_by first inside) (sym (ap step_of e ∙ step-Continue p))

  pub told_if : (n : Note) (arms given_arms : List NoteArm) (rest given_rest : List Note) (x y : Option Refusal) → n ≡ note.If arms rest → given_arms ≡ arms → given_rest ≡ rest
      → y ≡ told_by_all first inside (in_turn (arms_of given_arms)) → x ≡ told_by_all y inside (steps_of given_rest) → x ≡ told_by first inside (step_of n)
  told_if n arms given_arms rest given_rest x y e f g h k =
      k ∙ ap (λ z. told_by_all z inside (steps_of given_rest)) h ∙ sym (told_before first inside (in_turn (arms_of given_arms)) (steps_of given_rest))
      ∙ ap (λ z. told_by first inside (an_if (arms_of z) (steps_of given_rest))) f ∙ ap (λ z. told_by first inside (an_if (arms_of arms) (steps_of z))) g
      ∙ ap (told_by first inside) (sym (ap step_of e ∙ step-If arms rest))

  pub told_turns : (n : Note) (test given_test : List Note) (ends : Bool) (body given_body : List Note) (x y : Option Refusal) → n ≡ note.Loop test ends body → given_test ≡ test → given_body ≡ body
      → y ≡ told_by_all first true (steps_of given_test) → x ≡ told_by_all y true (steps_of given_body) → x ≡ told_by first inside (step_of n)
  told_turns n test given_test ends body given_body x y e f g h k =
      k ∙ ap (λ z. told_by_all z true (steps_of given_body)) h ∙ ap (λ z. told_by_all (told_by_all first true (steps_of z)) true (steps_of given_body)) f ∙ ap (λ z. told_by_all (told_by_all first true (steps_of test)) true (steps_of z)) g
      ∙ sym (told_loop first inside (steps_of test) ends (steps_of body)) ∙ ap (told_by first inside) (sym (ap step_of e ∙ step-Loop test ends body))

  pub told_whole_arm : (a : NoteArm) (given_test given_body : List Note) (x y : Option Refusal) → given_test ≡ a.test → given_body ≡ a.body → y ≡ told_by_all first inside (steps_of given_test) → x ≡ told_by_all y inside (steps_of given_body) → x ≡ told_by_all first inside (arm_of a)
  told_whole_arm a given_test given_body x y e f h k =
      k ∙ ap (λ z. told_by_all z inside (steps_of given_body)) h ∙ ap (λ z. told_by_all (told_by_all first inside (steps_of z)) inside (steps_of given_body)) e
      ∙ ap (λ z. told_by_all (told_by_all first inside (steps_of a.test)) inside (steps_of z)) f
      ∙ sym (told_arm first inside (steps_of a.test) a.always (steps_of a.body)) ∙ ap (told_by_all first inside) (sym (arm-is a))

  pub told_next_note : (notes : List Note) (i : ℕ) (n : Note) (x whole : Option Refusal) → i < length notes → n ≡ get_or notes i n → x ≡ told_by first inside (step_of n) → told_by_all first inside (steps_of (drop i notes)) ≡ whole → told_by_all x inside (steps_of (drop (i + 1) notes)) ≡ whole
  told_next_note notes i n x whole h e f g = ap (λ z. told_by_all z inside (steps_of (drop (i + 1) notes))) f ∙ sym (ap (λ l. told_by_all first inside (steps_of l)) (cut notes i n h e)) ∙ g

  pub told_one_arm : (arms : List NoteArm) (i : ℕ) (a : NoteArm) (x whole : Option Refusal) → i < length arms → a ≡ get_or arms i a → x ≡ told_by_all first inside (arm_of a)
      → told_by_all first inside (in_turn (arms_of (drop i arms))) ≡ whole → told_by_all x inside (in_turn (arms_of (drop (i + 1) arms))) ≡ whole
  told_one_arm arms i a x whole h e f g =
      ap (λ z. told_by_all z inside (in_turn (arms_of (drop (i + 1) arms)))) f ∙ sym (told_before first inside (arm_of a) (in_turn (arms_of (drop (i + 1) arms))))
      ∙ sym (ap (λ l. told_by_all first inside (in_turn (arms_of l))) (cut arms i a h e)) ∙ g

pub told_all_notes : (first : Option Refusal) (inside : Bool) (notes : List Note) (i : ℕ) (whole : Option Refusal) → length notes ≤ i → told_by_all first inside (steps_of (drop i notes)) ≡ whole → first ≡ whole
told_all_notes first inside notes i whole h g = sym (ap (λ l. told_by_all first inside (steps_of l)) (drop_of_length-le notes h)) ∙ g

pub told_all_arms : (first : Option Refusal) (inside : Bool) (arms : List NoteArm) (i : ℕ) (whole : Option Refusal) → length arms ≤ i → told_by_all first inside (in_turn (arms_of (drop i arms))) ≡ whole → first ≡ whole
told_all_arms first inside arms i whole h g = sym (ap (λ l. told_by_all first inside (in_turn (arms_of l))) (drop_of_length-le arms h)) ∙ g
