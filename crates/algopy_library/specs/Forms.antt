-- What the arguments of a form admit.
use Rattle.std.specs.Prelude.{ℕ, ◌==◌, if◌then◌else◌}
use Rattle.algopy_library.specs.declared.form.Admits.{Admits}
use Rattle.algopy_library.specs.declared.form.Admits.TheVariants as class
use Rattle.algopy_library.specs.declared.form.Form.{Form}

abbrev pub admitted : Form → ℕ → Admits
admitted f i =
    if i == 0 then f.first
    else if i == 1 then f.second
    else if i == 2 then f.third
    else if i == 3 then f.fourth
    else class.Nothing
