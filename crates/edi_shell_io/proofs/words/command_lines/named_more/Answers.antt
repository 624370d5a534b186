use Rattle.std.proofs.Common.{◌≡◌, ◌∙◌, sym, ap, ℕ, List, true, false, None}
use Rattle.std.specs.Prelude.{codes}
use Rattle.std.specs.Str.{bytes_eq}
use Rattle.edi_session.specs.declared.line.Line.TheVariants.{Bad, Release}
use Rattle.edi_session.specs.Words.{line_of_more, words_in}
use Rattle.edi_shell_io.specs.words.Operands.{one_title, line_or_bad}
use Rattle.edi_shell_io.proofs.words.Table.{one_bad}
use Rattle.edi_shell_io.proofs.words.command_lines.named_more.Goals as goal

no_release : (name : List ℕ) (operands : List (List ℕ)) → bytes_eq name (codes "delete") ≡ false → bytes_eq name (codes "protect") ≡ false
    → bytes_eq name (codes "release") ≡ true → one_title operands ≡ None → line_of_more name operands ≡ Bad
no_release name operands d p r n = rw (d, p, r) (one_bad operands Release n)

pub returns-in_err-one_title-3 : goal.returns-in_err-one_title-3
returns-in_err-one_title-3 c =
    let name = c.args.name.now in
    ap line_or_bad c.from_residual-in_err-one_title-3.ensures
    ∙ sym (no_release name (words_in c.args.operands.now)
    (sym (c.eq.ensures ∙ ap (bytes_eq name) c.as_slice.ensures) ∙ c.if-eq.false)
    (sym (c.eq-2.ensures ∙ ap (bytes_eq name) c.as_slice-2.ensures) ∙ c.if-eq-2.false)
    (sym (c.eq-3.ensures ∙ ap (bytes_eq name) c.as_slice-3.ensures) ∙ c.if-eq-3.true)
    (sym c.one_title-then-eq-3.ensures ∙ c.in_err-one_title-3.was))
