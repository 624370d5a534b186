use Rattle.std.proofs.Common.{◌≡◌, ◌≤◌, ◌-◌, ◌+◌, length, ◌∙◌, ap, arith}
use Rattle.std.specs.Prelude.{insert, None}
use Rattle.edi_edit.specs.declared.TheConstants.{ROOM}
use Rattle.edi_edit.specs.Lines.{size_of_lines}
use Rattle.edi_edit.specs.Editing.{refusal, is_index}
use Rattle.edi_edit.specs.Steps.{plain}
use Rattle.edi_edit.proofs.Single.{plain-insert, counted, accepted, size-insert}
use Rattle.edi_edit.proofs.list.insert_line.Goals as goal
use Rattle.edi_edit.proofs.list.insert_line.Goals.{in-Ok-insert, in-Err}

pub returns : goal.returns
returns c =
    let lines = plain c.args.lines.now.items in
    let found = c.in_ok-line_index.ensures.ok in
    let line_index : c.in_ok-line_index.line_index ≡ c.args.at - 1 = omega (arith, found.1) in
    let count : c.len.result ≡ length lines = c.len.ensures ∙ counted c.args.lines.now in
    let sized : c.size.result ≡ size_of_lines lines = c.size.ensures.exact ∙ ap (λ ls. size_of_lines (plain ls)) c.deref.ensures.value in
    let small : size_of_lines (insert lines (c.args.at - 1) c.args.line.now) ≤ ROOM = omega (arith, size-insert lines (c.args.at - 1) c.args.line.now) in
    let free : refusal (is_index c.args.at (length lines + 1)) (insert lines (c.args.at - 1) c.args.line.now) ≡ None = accepted
    (is_index c.args.at (length lines + 1)) (insert lines (c.args.at - 1) c.args.line.now) (rw (← count) found.0) small in
    record {
      exact =
          elim c.match-insert.branch [
            | in-Ok-insert w ↦
                rw w.result-is (
                  free,
                  ap plain w.in-Ok-insert.ensures.items ∙ plain-insert _ _ _ ∙ ap (λ i. insert lines i c.in-Ok.copy.items) line_index
                      ∙ ap (λ line. insert lines (c.args.at - 1) line) c.in-Ok.ensures.items,
                )
            | in-Err w ↦ rw w.result-is (free, ap plain w.in-Err.ensures.items)
          ];
    }
