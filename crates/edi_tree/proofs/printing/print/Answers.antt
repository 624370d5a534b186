use Rattle.std.proofs.Common.{◌≡◌, ◌∙◌, ap, sym, subst, false}
use Rattle.edi_lex.specs.Symbols.{is_too_long, symbols_of}
use Rattle.edi_tree.specs.View.{procedure_of}
use Rattle.edi_tree.specs.Whole.{program_of}
use Rattle.edi_tree.specs.Printing.{print_procedure}
use Rattle.edi_tree.specs.Scanned.{ScansTo}
use Rattle.edi_tree.specs.declared.printer.Printer.{Printer}
use Rattle.edi_tree.proofs.Puts.{program_text}
use Rattle.edi_tree.proofs.Scans.{program_scans}
use Rattle.edi_tree.proofs.printing.print.Goals as goal

pub returns : goal.returns
returns c =
    let start : Printer = record { text = c.new.result; line = 1; begun = false } in
    let empty = ap (λ t. let p : Printer = record { text = t; line = 1; begun = false } in p) c.new.ensures.empty in
    let procedure = c.in_ok-procedure.ensures.exact ∙ ap (print_procedure (procedure_of c.args.tree.now.procedure)) c.in_ok-globals.ensures.exact in
    let tree = program_of c.args.tree.now in
    let is = c.into_vec.ensures.same ∙ ap (λ p. p.text) procedure ∙ program_text tree start empty in
    record {
      exact = is;
      scans = subst (λ t. is_too_long t ≡ false → ScansTo tree (symbols_of t)) (sym is) (program_scans tree c.args.tree.now.is_bounded);
    }
