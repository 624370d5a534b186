-- Definition. Headings: what a call has to give for each parameter, and the type of a result.
use Rattle.std.specs.Prelude.{ℕ}
use Rattle.std.specs.Prelude.{Option}

-- what a heading asks of a call: a value, a variable or a procedure for each parameter; and the type of a result
mutual
  pub data Heading : Type 0 where
    heading : Formals → (result : Option ℕ) → Heading

  pub data Formals : Type 0 where
    no_formal : Formals
    value_then : (of : ℕ) → Formals → Formals
    variable_then : (of : ℕ) → Formals → Formals
    procedure_then : Heading → Formals → Formals

abbrev pub heading_result : Heading → Option ℕ
heading_result (heading formals result) = result

abbrev pub heading_formals : Heading → Formals
heading_formals (heading formals result) = formals
