-- A slot that is free is taken out of its list, and the first one is in none.
use Rattle.std.proofs.Common.{refl, ◌∙◌, ap, arith}
use Rattle.edi_kernel.specs.Table.{first_home}
use Rattle.edi_kernel.proofs.PutBacks.{admits_first, admits_free, first_free}
use Rattle.edi_kernel.proofs.Slots.{some_home}
use Rattle.edi_kernel.proofs.table.Table.admit.Goals as goal

pub returns-then-slot-eq0 : goal.returns-then-slot-eq0
returns-then-slot-eq0 c =
    admits_first c.args.slot c.args.process c.args.self.now _ c.requires.sound (c.requires.absent ∙ ap first_home c.if-slot-eq0.true) refl

pub withdraw-requires-clause-listed : goal.withdraw-requires-clause-listed
withdraw-requires-clause-listed c =
    some_home c.args.self.now.lists c.args.slot 1 (c.requires.absent ∙ first_free c.args.slot (omega (arith, c.if-slot-eq0.false)) c.requires.slot)

pub returns : goal.returns
returns c =
    admits_free c.args.slot c.args.process c.args.self.now c.withdraw.new.self _ c.requires.sound
    (c.requires.absent ∙ first_free c.args.slot (omega (arith, c.if-slot-eq0.false)) c.requires.slot) c.withdraw.ensures refl
