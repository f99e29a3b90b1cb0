-- The parts of a tuple as its head takes them: neighbouring bools share bytes, up to eight to a byte (ARC-4, "Encoding").
use Rattle.std.specs.Prelude.{ℕ, zero, suc, List, [], ◌∷◌, map}
use Rattle.std.proofs.Math.ListN.{replicate}
use Rattle.arc4_types.specs.declared.abi.Abi.{Abi}
use Rattle.arc4_types.specs.declared.form.Form.{Form}
use Rattle.arc4_types.specs.declared.form.Form.TheVariants as form
use Rattle.arc4_types.specs.Types.{Ty, Tys, uint, byte, flag, text, address, array, fixed, tuple, no_types, a_type, type_of}

-- how an array stands whose parts stand so
abbrev pub array_form : Form → Form
array_form form.Bool = form.Static
array_form form.Static = form.Static
array_form form.Dynamic = form.Dynamic

-- how a tuple stands, from its first part and those behind it
abbrev pub with_form : Form → Form → Form
with_form form.Bool more = more
with_form form.Static more = more
with_form form.Dynamic more = form.Dynamic

abbrev mutual
  pub form_of : Ty → Form
  form_of (uint bits) = form.Static
  form_of byte = form.Static
  form_of flag = form.Bool
  form_of text = form.Dynamic
  form_of address = form.Static
  form_of (array t) = form.Dynamic
  form_of (fixed t n) = array_form (form_of t)
  form_of (tuple ts) = has_dynamic ts

  -- how a tuple of these types stands: by an offset where one of them does
  pub has_dynamic : Tys → Form
  has_dynamic no_types = form.Static
  has_dynamic (a_type t ts) = with_form (form_of t) (has_dynamic ts)

-- a part of a tuple, by how it stands and what its type means
pub record Part (A : Type 0) : Type 0 where
  pub form : Form
  pub code : A

-- what stands in a head: a byte of so many bools, a part by its bytes, or a part by its offset
pub data Group (A : Type 0) : Type 0 where
  octet : ℕ → Group A
  static : A → Group A
  dynamic : A → Group A

-- how many parts that is
abbrev pub covered : {A : Type 0} → Group A → ℕ
covered (octet k) = k
covered (static code) = 1
covered (dynamic code) = 1

abbrev pub by_form : {A : Type 0} → Form → A → A → A → A
by_form form.Bool a b c = a
by_form form.Static a b c = b
by_form form.Dynamic a b c = c

-- how many bools stand in front, up to a number
abbrev pub bools_in : List Form → ℕ → ℕ
bools_in [] most = 0
bools_in (f ∷ fs) zero = 0
bools_in (f ∷ fs) (suc most) = by_form f (suc (bools_in fs most)) 0 0

abbrev pub forms : {A : Type 0} → List (Part A) → List Form
forms ps = map (λ p. p.form) ps

-- the parts, of which so many have their place in the byte before
abbrev pub groups : {A : Type 0} → ℕ → List (Part A) → List (Group A)
groups covered [] = []
groups (suc covered) (p ∷ ps) = groups covered ps
groups zero (p ∷ ps) =
    by_form p.form
    (octet (suc (bools_in (forms ps) 7)) ∷ groups (bools_in (forms ps) 7) ps)
    (static p.code ∷ groups zero ps)
    (dynamic p.code ∷ groups zero ps)

-- the types of a row: one for each part, or one for all
abbrev pub row_of : List Abi → ℕ → List Abi
row_of [] count = []
row_of (t ∷ []) count = replicate count t
row_of (t ∷ u ∷ ts) count = t ∷ u ∷ ts

abbrev pub part_of : {A : Type 0} → (Ty → A) → Abi → Part A
part_of code t = record { form = form_of (type_of t); code = code (type_of t) }

-- a part of this type at the front of a head, where so many bools stand there
abbrev pub group_of : {A : Type 0} → (Ty → A) → Abi → ℕ → Group A
group_of code t bools = by_form (form_of (type_of t)) (octet bools) (static (code (type_of t))) (dynamic (code (type_of t)))
