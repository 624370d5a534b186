-- One process after another lines up.
use Rattle.std.proofs.Common.{◌∙◌, ap, sym, Some}
use Rattle.std.proofs.lemmas.Option.{slice_get-get_or}
use Rattle.edi_explore.proofs.Backs.{one_lined, still_going, still_homeless}
use Rattle.edi_explore.proofs.back.line_all_up.Goals as goal

pub line_up-requires-clause-slot : goal.line_up-requires-clause-slot
line_up-requires-clause-slot c =
    c.requires.may.inside c.loop-slot.slot-index c.from.result
    (slice_get-get_or c.args.slots.now c.loop-slot.slot-index 0 c.loop-slot-test.true ∙ ap Some (sym c.from.ensures))

pub line_up-requires-clause-homeless : goal.line_up-requires-clause-homeless
line_up-requires-clause-homeless c =
    still_homeless c.args.slots.now c.loop-slot.slot-index c.from.result c.args.kernel.now c.loop-slot.kernel c.requires.may
    (slice_get-get_or c.args.slots.now c.loop-slot.slot-index 0 c.loop-slot-test.true ∙ ap Some (sym c.from.ensures)) c.loop-slot.invariant

pub line_up-requires-clause-going : goal.line_up-requires-clause-going
line_up-requires-clause-going c =
    still_going c.args.slots.now c.loop-slot.slot-index c.from.result c.args.kernel.now c.loop-slot.kernel c.requires.may
    (slice_get-get_or c.args.slots.now c.loop-slot.slot-index 0 c.loop-slot-test.true ∙ ap Some (sym c.from.ensures)) c.loop-slot.invariant

pub loop-slot-preserved : goal.loop-slot-preserved
loop-slot-preserved c =
    one_lined c.args.slots.now c.loop-slot.slot-index c.from.result c.args.kernel.now c.loop-slot.kernel c.line_up.new.self c.requires.may
    (slice_get-get_or c.args.slots.now c.loop-slot.slot-index 0 c.loop-slot-test.true ∙ ap Some (sym c.from.ensures)) c.loop-slot.invariant
    c.line_up.ensures.exact c.line_up.ensures.kernel
