-- Notes on expressions, one list behind another, and what they give.
use Rattle.std.proofs.Common.{ℕ, Bool, List, [], ◌∷◌, ◌++◌, sym, subst}
use Rattle.std.specs.Prelude.{IsTrue}
use Rattle.puya_base.specs.declared.source.Place.{Place}
use Rattle.puya_base.specs.declared.source.Rule.{Rule}
use Rattle.puya_base.specs.declared.source.Refusal.{Refusal}
use Rattle.path_rules.specs.declared.note.Note.{Note}
use Rattle.path_rules.specs.declared.note.Note.TheVariants as note
use Rattle.path_rules.specs.Steps.{Step}
use Rattle.path_rules.proofs.Equations.{step-Broken, step-Read}
use Rattle.meaning_rules.specs.Meanings.{broken_all}
use Rattle.meaning_rules.specs.Meanings as meanings
use Rattle.typing_laws.proofs.Good.{Each, IsReading, IsAllowed, Reading, Allows, World, Gives}

-- ---- each of them

pub each_append : (P : Step → Type 0) (a b : List Note) → Each P a → Each P b → Each P (a ++ b)
each_append P [] b h k = k
each_append P (n ∷ ns) b h k = (h.0, each_append P ns b h.1 k)

pub each_front : (P : Step → Type 0) (a b : List Note) → Each P (a ++ b) → Each P a
each_front P [] b h = tt
each_front P (n ∷ ns) b h = (h.0, each_front P ns b h.1)

pub each_behind : (P : Step → Type 0) (a b : List Note) → Each P (a ++ b) → Each P b
each_behind P [] b h = h
each_behind P (n ∷ ns) b h = each_behind P ns b h.1

pub reading_append : (a b : List Note) → Reading a → Reading b → Reading (a ++ b)
reading_append a b = each_append IsReading a b

pub reading_broken : (r : Rule) (p : Place) → Reading (meanings.broken r p ∷ [])
reading_broken r p = (subst IsReading (sym (step-Broken (record { rule = r; place = p }))) tt, tt)

pub reading_broken_all : (fs : List Refusal) → Reading (broken_all fs)
reading_broken_all [] = tt
reading_broken_all (f ∷ fs) = (subst IsReading (sym (step-Broken f)) tt, reading_broken_all fs)

pub reading_read : (x : ℕ) (p : Place) → Reading (note.Read x p ∷ [])
reading_read x p = (subst IsReading (sym (step-Read x p)) tt, tt)

-- what a read that may be says
pub read_allowed : (reads : ℕ → Bool) (x : ℕ) (p : Place) (ns : List Note) → Allows reads (note.Read x p ∷ ns) → IsTrue (reads x)
read_allowed reads x p ns h = subst (IsAllowed reads) (step-Read x p) h.0

-- ---- what notes give

-- no notes
pub gives_none : (w : World) (P Q : Type 0) → (P → Q) → Gives w P [] Q
gives_none w P Q f = record { reading = tt; holds = λ p a. f p }

-- a broken rule
pub gives_broken : (w : World) (P Q : Type 0) (r : Rule) (p : Place) → (P → Q) → Gives w P (meanings.broken r p ∷ []) Q
gives_broken w P Q r p f = record { reading = reading_broken r p; holds = λ h a. f h }

-- notes alone
pub gives_reading : (w : World) (P Q : Type 0) (ns : List Note) → Reading ns → (P → Q) → Gives w P ns Q
gives_reading w P Q ns h f = record { reading = h; holds = λ p a. f p }

-- what notes give is what those behind them ask for
pub gives_then : (w : World) (P Q R : Type 0) (a b : List Note) → Gives w P a Q → Gives w Q b R → Gives w P (a ++ b) R
gives_then w P Q R a b g h = record {
  reading = each_append IsReading a b g.reading h.reading;
  holds = λ p k. h.holds (g.holds p (each_front (IsAllowed w.reads) a b k)) (each_behind (IsAllowed w.reads) a b k);
}

-- both
pub gives_both : (w : World) (P Q R S : Type 0) (a b : List Note) → Gives w P a Q → Gives w R b S → Gives w (P × R) (a ++ b) (Q × S)
gives_both w P Q R S a b g h = record {
  reading = each_append IsReading a b g.reading h.reading;
  holds = λ p k. (g.holds p.0 (each_front (IsAllowed w.reads) a b k), h.holds p.1 (each_behind (IsAllowed w.reads) a b k));
}

-- both from one premise
pub gives_pair : (w : World) (P Q S : Type 0) (a b : List Note) → Gives w P a Q → Gives w P b S → Gives w P (a ++ b) (Q × S)
gives_pair w P Q S a b g h = record {
  reading = each_append IsReading a b g.reading h.reading;
  holds = λ p k. (g.holds p (each_front (IsAllowed w.reads) a b k), h.holds p (each_behind (IsAllowed w.reads) a b k));
}

pub gives_map : (w : World) (P Q R S : Type 0) (a : List Note) → (R → P) → (Q → S) → Gives w P a Q → Gives w R a S
gives_map w P Q R S a f k g = record { reading = g.reading; holds = λ r h. k (g.holds (f r) h) }
