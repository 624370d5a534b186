-- The bytes of a line that are kept.
use Rattle.std.proofs.Common.{◌<◌, ◌≤◌, ◌∷◌, [], length, length-append, ap, arith, sym, subst, ◌∙◌, rules}
use Rattle.edi_shell.proofs.commands.Lines.{keeps_all, keeps_more}
use Rattle.edi_shell.proofs.edit.taking.keep_byte.Goals as goal

pub returns-then-len-lt-MOST_KEPT-clause-keeps : goal.returns-then-len-lt-MOST_KEPT-clause-keeps
returns-then-len-lt-MOST_KEPT-clause-keeps c =
    let few : length c.args.line.now.items < 261121 = search rules in
    c.push_reserved.ensures.items ∙ keeps_more 261121 c.args.line.now.items c.args.byte few

pub returns-then-len-lt-MOST_KEPT-clause-short : goal.returns-then-len-lt-MOST_KEPT-clause-short
returns-then-len-lt-MOST_KEPT-clause-short c =
    let few : length c.args.line.now.items < 261121 = search rules in
    let longer = ap length c.push_reserved.ensures.items ∙ length-append c.args.line.now.items (c.args.byte ∷ []) in
    omega (arith, longer, few)

pub returns-then-len-lt-MOST_KEPT-clause-room : goal.returns-then-len-lt-MOST_KEPT-clause-room
returns-then-len-lt-MOST_KEPT-clause-room c = subst (λ n. 261121 ≤ n) (sym c.push_reserved.ensures.capacity) c.requires.room

pub returns-else-len-lt-MOST_KEPT-clause-keeps : goal.returns-else-len-lt-MOST_KEPT-clause-keeps
returns-else-len-lt-MOST_KEPT-clause-keeps c =
    let all : 261121 ≤ length c.args.line.now.items = search rules in
    keeps_all 261121 c.args.line.now.items c.args.byte c.requires.short all
