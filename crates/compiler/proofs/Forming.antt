-- The form of a tree from that of its class.
use Rattle.std.proofs.Common.{◌≡◌, Option, Some, None, refl}
use Rattle.py_grammar.specs.declared.module.Class.{Class}
use Rattle.py_grammar.specs.declared.module.Module.{Module}
use Rattle.compiler.specs.declared.form.Sum.{Sum}
use Rattle.compiler.specs.Form.{Form, class_in, computed, form_of}

pub no_class : (m : Module) → class_in m ≡ None → form_of m ≡ None
unfolding form_of
no_class m e = rw e refl

pub no_sum : (m : Module) (c : Class) → class_in m ≡ Some c → computed c ≡ None → form_of m ≡ None
unfolding form_of
no_sum m c e h = rw (e, h) refl

pub formed : (m : Module) (c : Class) (s : Sum) → class_in m ≡ Some c → computed c ≡ Some s → form_of m ≡ Some (record { name = c.name.name; sum = s })
unfolding form_of
formed m c s e h = rw (e, h) refl
