use Rattle.std.proofs.Common.{sym, ap, ◌∙◌}
use Rattle.edi_code.specs.Scope.{clause_kind_of}
use Rattle.edi_code.proofs.Aiming.{on_ok, on_ok_two, of_kind, closes_not_last, closes_loop, closes_phase}
use Rattle.edi_code.proofs.statements.emit_close.Goals as goal

pub returns-else-last : goal.returns-else-last
returns-else-last c =
    record {
      closes =
          on_ok_two c.open_jump.result _ _ _
          (λ p o clauses e. of_kind _ _ _ _ _ _ _ clauses (ap clause_kind_of c.in-Once.is) (closes_not_last _ _ _ _ _ clauses (sym e ∙ c.if-last.false) p o))
          c.open_jump.ensures.emits c.open_jump.ensures.opens;
    }

pub returns-in-Repeated : goal.returns-in-Repeated
returns-in-Repeated c =
    record {
      closes =
          on_ok c.put.result _ _ (λ p clauses e. of_kind _ _ _ _ _ _ _ clauses (ap clause_kind_of c.in-Repeated.is) (closes_loop _ _ _ _ clauses p))
          c.put.ensures.emits;
    }

pub returns-in_ok-put-in-Released : goal.returns-in_ok-put-in-Released
returns-in_ok-put-in-Released c =
    record {
      closes =
          on_ok_two c.open_jump-in-Released.result _ _ _
          (λ q o clauses e. of_kind _ _ _ _ _ _ _ clauses (ap clause_kind_of c.in-Released.is)
          (closes_phase _ _ _ _ _ _ clauses c.in_ok-put-in-Released.ensures.emits q o))
          c.open_jump-in-Released.ensures.emits c.open_jump-in-Released.ensures.opens;
    }
