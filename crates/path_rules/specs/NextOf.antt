-- One step of a merge.
use Rattle.std.specs.Prelude.{if◌then◌else◌, nat_lt}
use Rattle.path_rules.specs.declared.summary.Exits.{Exits}
use Rattle.path_rules.specs.declared.summary.Touched.{Touched}
use Rattle.path_rules.specs.declared.merging.Next.{Next}
use Rattle.path_rules.specs.Summaries.{left_alone, right_alone, both_named}

-- the least of two variables, and how many items of each list it takes
abbrev pub next_of : Exits → Exits → Touched → Touched → Next
next_of a b t u =
    if nat_lt t.variable u.variable then record { touched = left_alone a b t; first = 1; second = 0 }
    else (if nat_lt u.variable t.variable then record { touched = right_alone a b u; first = 0; second = 1 } else record { touched = both_named a t u; first = 1; second = 1 })
