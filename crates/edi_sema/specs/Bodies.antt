-- Definition. What is judged behind the declarations of procedures and modules.
use Rattle.std.specs.Prelude.{ℕ, true, []}
use Rattle.edi_tree.specs.Tree as text
use Rattle.edi_static.specs.Judged.{Judged, gives, ◌>>=◌}
use Rattle.edi_static.specs.Environment.{Environment, enter}
use Rattle.edi_static.specs.Statements.{add_statements, close_block, statement_list}
use Rattle.edi_static.specs.Declarations.{all_completed, leave_to, procedure_rest}

-- the statements of a block, and the symbol that closes it
abbrev pub finished : ℕ → text.StatementList → (end : ℕ) → Environment → Judged Environment
finished block s end env =
    all_completed env.begun >>= λ _. statement_list s env >>= λ done. close_block block done.what end done.env

-- the statements of a module, which this block executes
abbrev pub finished_module : ℕ → text.StatementList → Environment → Judged Environment
finished_module block s env =
    all_completed env.begun >>= λ _. statement_list s env >>= λ done. gives (add_statements block done.what done.env)

abbrev pub inside_module : Environment → Environment
inside_module env = record (enter true env) { begun = [] }

-- a procedure behind its heading, whose scope ends with it
abbrev pub whole_procedure : ℕ → text.Procedure → Environment → Judged Environment
whole_procedure block p env = procedure_rest block p env >>= λ after. gives (leave_to env env.begun after)
