use Rattle.std.proofs.Common.{sym, subst, Some, ◌∙◌}
use Rattle.std.specs.Prelude.{is_some}
use Rattle.edi_system.specs.Loading.{IsOn, LoadsNext}
use Rattle.edi_system.specs.Reading.{LooksIn}
use Rattle.edi_system.proofs.Lasting.{told_read, valid_ready}
use Rattle.edi_system.proofs.system.System.next_found.Goals as goal

pub returns-in-Ok-clause-looks : goal.returns-in-Ok-clause-looks
returns-in-Ok-clause-looks g c =
    subst (λ found. LooksIn (is_some c.in-Ok.byte) found (Some c.next_byte.new.reading)) (sym c.in-Some.is ∙ c.take.ensures.value)
    (c.in-Ok.ensures.same, c.in-Ok.ensures.there)

pub returns-in-Ok-clause-told : goal.returns-in-Ok-clause-told
returns-in-Ok-clause-told g c = told_read _ _ _ _ _ _ (valid_ready _ _ _ c.requires.ready) c.next_byte.ensures.byte

pub returns-in-Err-clause-told : goal.returns-in-Err-clause-told
returns-in-Err-clause-told g c = told_read _ _ _ _ _ _ (valid_ready _ _ _ c.requires.ready) c.next_byte.ensures.byte

pub returns-in-Ok-clause-loads : goal.returns-in-Ok-clause-loads
returns-in-Ok-clause-loads g c =
    subst
    (λ found. LoadsNext found (Some c.next_byte.new.reading) c.args.self.now.page c.next_byte.new.page c.args.self.now.catalog c.next_byte.new.catalog)
    (sym c.in-Some.is ∙ c.take.ensures.value) c.in-Ok.ensures.loads

pub returns-in-Ok-clause-on : goal.returns-in-Ok-clause-on
returns-in-Ok-clause-on g c =
    subst (λ found. IsOn c.next_byte.new.page found c.in-Ok.byte) (sym c.in-Some.is ∙ c.take.ensures.value) c.in-Ok.ensures.on
