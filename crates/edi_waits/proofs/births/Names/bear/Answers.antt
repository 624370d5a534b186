-- Child after child is named.
use Rattle.std.proofs.Common.{◌≡◌, ◌-◌, sym, ap, ◌∙◌, arith, slice_set}
use Rattle.std.proofs.lemmas.List.{length-set}
use Rattle.edi_waits.specs.declared.births.Names.{Names}
use Rattle.edi_waits.specs.Names.{child_of, no_birth}
use Rattle.edi_waits.proofs.Lists.{item_other, item_same}
use Rattle.edi_waits.proofs.Naming.{bears_less, bears_more, bears_past, bears_same}
use Rattle.edi_waits.proofs.births.Names.bear.Goals as goal

pub loop-index-preserved-then-born-slot : goal.loop-index-preserved-then-born-slot
loop-index-preserved-then-born-slot c = record {
  bears = bears_same c.args.slot c.args.from c.loop-index.index _ c.args.self.now c.loop-index.self c.unwrap-born.result c.loop-index.invariant.bears
      (sym c.ready_slot.ensures ∙ c.unwrap-born.ensures) (omega (arith, c.if-born-slot.true));
}

pub loop-index-preserved-then-born-ge-SLOTS : goal.loop-index-preserved-then-born-ge-SLOTS
loop-index-preserved-then-born-ge-SLOTS c = record {
  bears = bears_past c.args.slot c.args.from c.loop-index.index _ c.args.self.now c.loop-index.self c.unwrap-born.result c.loop-index.invariant.bears
      (sym c.ready_slot.ensures ∙ c.unwrap-born.ensures) (omega (arith, c.if-born-ge-SLOTS.true));
}

pub loop-index-preserved : goal.loop-index-preserved
loop-index-preserved c =
    let now = c.loop-index.self in
    let next : Names = record { births = slice_set now.births c.unwrap-born.result c.child_of.result } in
    let b = c.loop-index.invariant.bears in
    let apart : c.unwrap-born.result ≡ c.args.slot → ⊥ = λ e. absurd (omega (arith, e, c.if-born-slot.false)) in
    record {
      bears = bears_more c.args.slot c.args.from c.loop-index.index _ c.args.self.now now c.unwrap-born.result b (sym c.ready_slot.ensures ∙ c.unwrap-born.ensures) next
          (omega (arith, c.loop-index.auto.index)) apart
          (length-set now.births c.unwrap-born.result c.child_of.result ∙ b.wide)
          (item_same no_birth now.births c.unwrap-born.result c.child_of.result (omega (arith, b.wide, c.if-born-ge-SLOTS.false))
          ∙ c.child_of.ensures.exact ∙ ap (λ p. child_of p (c.loop-index.index - c.args.from)) c.birth-parent.ensures.exact)
          (λ i other. item_other no_birth now.births c.unwrap-born.result i c.child_of.result other);
    }

pub returns : goal.returns
returns c = record {
  bears =
      bears_less c.args.slot c.args.from c.loop-index.index _ _ c.args.self.now c.loop-index.self
      (omega (arith, c.loop-index-test.false, c.ready-index-end.ensures.exact)) c.loop-index.invariant.bears;
}
