use Rattle.std.proofs.Common.{◌≡◌, ◌+◌, suc, ◌++◌, ◌∙◌, List, ℕ, ap, arith, drop}
use Rattle.std.specs.Prelude.{codes, decimal}
use Rattle.edi_timeline.specs.Text.{process_text, turns_text}
use Rattle.edi_timeline.specs.Told.{process_in}
use Rattle.edi_timeline.proofs.Written.{joined, named_near}
use Rattle.edi_timeline.proofs.plain.write_head.Goals as goal

pub write_turns-number_end-requires-clause-small : goal.write_turns-number_end-requires-clause-small
write_turns-number_end-requires-clause-small c = omega (arith, c.from.ensures, c.ranges.used.fits)

pub returns-clause-written : goal.returns-clause-written
returns-clause-written c =
    let w = c.write_number in
    let t = c.write_turns-number_end in
    let p = c.write_text-turns_end in
    let n = c.write_name-name_start in
    let next : c.from.result + 1 ≡ suc c.args.used = omega (arith, c.from.ensures) in
    let rest : List ℕ = drop c.args.end c.args.line.now in
    let name : List ℕ = process_text (process_in c.args.rows.now c.args.row.now) in
    let turns : List ℕ = turns_text (suc c.args.used) c.args.row.now.used in
    joined (decimal c.args.number) (turns ++ (codes " process " ++ name)) rest (drop w.result w.new.line) (drop t.result t.new.line)
    (w.ensures.written ∙ ap (λ m. decimal m ++ drop t.result t.new.line) c.from-2.ensures)
    (joined turns (codes " process " ++ name) rest (drop t.result t.new.line) (drop p.result p.new.line)
    (t.ensures.written ∙ ap (λ m. turns_text m c.args.row.now.used ++ drop p.result p.new.line) next)
    (joined (codes " process ") name rest (drop p.result p.new.line) (drop n.result n.new.line) p.ensures.written
    (named_near c.args.rows.now c.args.row.now c.requires.plain.near (drop n.result n.new.line) rest n.ensures.main n.ensures.branch)))
