-- The bytes of a line that are kept.
use Rattle.std.proofs.Common.{◌<◌, ◌≤◌, length, ◌∙◌, rules}
use Rattle.edi_shell.proofs.commands.Lines.{keeps_all, keeps_more}
use Rattle.edi_shell.proofs.commands.taking.keep_byte.Goals as goal

pub returns-then-not-is_full : goal.returns-then-not-is_full
returns-then-not-is_full c =
    let few : length c.args.line.now.items < 81 = search rules in
    record { keeps = c.push.ensures.items ∙ keeps_more 81 c.args.line.now.items c.args.byte few }

pub returns-else-not-is_full : goal.returns-else-not-is_full
returns-else-not-is_full c =
    let most : length c.args.line.now.items ≤ 81 = search rules in
    let all : 81 ≤ length c.args.line.now.items = search rules in
    record { keeps = keeps_all 81 c.args.line.now.items c.args.byte most all }
