-- The name, how the process stands, and its frames.
use Rattle.std.proofs.Common.{◌≡◌, ◌∙◌, ap}
use Rattle.edi_kernel.specs.Table.{process_at}
use Rattle.edi_kernel.specs.TableIsMachine.{standing_of}
use Rattle.edi_waits.specs.declared.births.Birth.{Birth}
use Rattle.edi_waits.specs.Ends.{stands_by}
use Rattle.edi_waits.specs.Left.{frames_by, is_slot}
use Rattle.edi_waits.specs.Names.{forks_at}
use Rattle.edi_waits.proofs.ends.process_of.Goals as goal

pub returns : goal.returns
returns c =
    let k = c.args.kernel.now in
    let names = c.args.names.now in
    let slot = c.args.slot in
    let frames : c.in_ok-frames.frames.items ≡ frames_by k.store (process_at k.table slot).activity =
    c.in_ok-frames.ensures.exact ∙ ap (frames_by k.store) c.process-standing.ensures.activity in
    let stands : c.stands_by-stands.result ≡ stands_by (is_slot k.taken slot) (standing_of (process_at k.table slot).standing) (forks_at names slot) =
    c.stands_by-stands.ensures
    ∙ ap (λ b. stands_by b (standing_of c.process-standing.result.0) c.birth.result.forks)
    (c.is_slot-ran.ensures ∙ ap (λ o. is_slot o slot) c.taken.ensures.exact)
    ∙ ap (λ s. stands_by (is_slot k.taken slot) (standing_of s) c.birth.result.forks) c.process-standing.ensures.standing
    ∙ ap (λ (z : Birth). stands_by (is_slot k.taken slot) (standing_of (process_at k.table slot).standing) z.forks) c.birth.ensures.exact in
    record { exact = (λ i. record { process = c.in_ok-name.ensures.exact i; stands = stands i; frames = frames i }) }
