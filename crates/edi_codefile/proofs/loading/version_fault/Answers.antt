use Rattle.std.proofs.Common.{sym, ◌∙◌}
use Rattle.edi_codefile.proofs.Files.{older_none, older_some}
use Rattle.edi_codefile.proofs.loading.version_fault.Goals as goal

pub returns-then-short_at-eq1-clause-some : goal.returns-then-short_at-eq1-clause-some
returns-then-short_at-eq1-clause-some c =
    older_some c.args.bytes.now c.args.words.now c.first_version_fault.result (sym c.short_at.ensures ∙ c.if-short_at-eq1.true) c.first_version_fault.ensures

pub returns-then-short_at-eq1-clause-none : goal.returns-then-short_at-eq1-clause-none
returns-then-short_at-eq1-clause-none c =
    older_none c.args.bytes.now c.args.words.now c.first_version_fault.result (sym c.short_at.ensures ∙ c.if-short_at-eq1.true) c.first_version_fault.ensures
