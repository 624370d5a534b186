-- What a command comes to that takes no further line, makes no code and runs none.
use Rattle.std.proofs.Common.{◌≡◌, ℕ, List, [], ◌∷◌, ◌++◌, refl, subst}
use Rattle.std.specs.Prelude.{codes}
use Rattle.edi_session.specs.Shell.{shown_by}
use Rattle.edi_shell_io.specs.calls.Standing.{Leads}
use Rattle.edi_shell.proofs.sessions.acting.act_at_once.Goals as goal

bad_line : 98 ∷ 97 ∷ 100 ∷ 32 ∷ 99 ∷ 111 ∷ 109 ∷ 109 ∷ 97 ∷ 110 ∷ 100 ∷ 10 ∷ [] ≡ codes "bad command" ++ 10 ∷ []
bad_line = refl

pub returns-in-Bad-clause-exact : goal.returns-in-Bad-clause-exact
returns-in-Bad-clause-exact g c = λ s a t.
    rw c.in-Bad.is
    (subst (λ b. Leads g.C.ShellCalls.at g.C.ShellCalls.stands c.show.result (shown_by b s) c.show.new.self) bad_line (c.show.ensures.exact s a t))
