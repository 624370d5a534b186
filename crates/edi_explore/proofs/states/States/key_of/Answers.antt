-- The parts of the live processes, slot after slot.
use Rattle.std.proofs.Common.{◌+◌, List, ℕ, sym, ap, subst, ◌∙◌, arith}
use Rattle.edi_explore.specs.declared.states.States.{States}
use Rattle.edi_explore.specs.States.{AddsParts, ArePartsBelow}
use Rattle.edi_explore.proofs.Growing.{follows_on, stays_at}
use Rattle.edi_explore.proofs.Keying.{parts_key, parts_more, parts_none, parts_skip, same_place}
use Rattle.edi_explore.proofs.states.States.key_of.Goals as goal

adds_on : (a b c : States) → AddsParts a b → AddsParts b c → AddsParts a c
adds_on a b c f g = record {
  processes = follows_on a.processes.keys b.processes.keys c.processes.keys f.processes g.processes;
  places = follows_on a.places.keys b.places.keys c.places.keys f.places g.places;
  rest = g.rest ∙ ap (λ (x : States). record x { processes = c.processes; places = c.places }) f.rest;
}

pub loop-slot-init : goal.loop-slot-init
loop-slot-init c =
    let there = c.in_ok-place.ensures.there in
    record {
      parts =
          subst (λ (xs : List ℕ). ArePartsBelow 0 c.place_of.new.self.processes.keys xs c.args.kernel.now) (sym c.in_ok-parts.ensures.items)
          (parts_none c.place_of.new.self.processes.keys c.args.kernel.now);
      adds = c.in_ok-place.ensures.adds;
      place = (there.0, there.1, same_place c.args.asks c.args.calls.now c.in_ok-keep.field-0 there.0 c.in_ok-keep.ensures there.2);
    }

pub returns-clause-key : goal.returns-clause-key
returns-clause-key c =
    parts_key c.args.asks c.loop-slot.self (record { place = c.in_ok-place.place; parts = c.loop-slot.parts }) c.args.kernel.now c.args.calls.now c.loop-slot.slot
    c.loop-slot.invariant.parts (omega (arith, c.loop-slot-test.false)) c.loop-slot.invariant.place

pub loop-slot-preserved-then-not-lives : goal.loop-slot-preserved-then-not-lives
loop-slot-preserved-then-not-lives c = record {
  parts = parts_skip c.loop-slot.slot c.loop-slot.self.processes.keys c.loop-slot.parts.items c.args.kernel.now c.loop-slot.invariant.parts
      (sym c.lives.ensures ∙ c.if-not-lives.true);
  adds = c.loop-slot.invariant.adds;
  place = c.loop-slot.invariant.place;
}

pub loop-slot-preserved : goal.loop-slot-preserved
loop-slot-preserved c =
    let adds = c.in_ok-number.ensures.adds in
    let there = c.in_ok-number.ensures.there in
    let place = c.loop-slot.invariant.place in
    record {
      parts = subst (λ (xs : List ℕ). ArePartsBelow (c.loop-slot.slot + 1) c.number_of.new.self.processes.keys xs c.args.kernel.now) (sym c.in_ok-push.ensures.items)
          (parts_more c.loop-slot.slot c.loop-slot.self.processes.keys c.loop-slot.parts.items c.args.kernel.now c.loop-slot.invariant.parts
          c.number_of.new.self.processes.keys c.in_ok-number.number c.in_ok-keep-2.field-0 there.0 adds.processes there.1 there.2
          c.in_ok-keep-2.ensures.exact c.in_ok-keep-2.ensures.whole c.in_ok-keep-2.ensures.slot);
      adds = adds_on c.args.self.now c.loop-slot.self c.number_of.new.self c.loop-slot.invariant.adds adds;
      place = (
        place.0,
        stays_at c.loop-slot.self.places.keys c.number_of.new.self.places.keys c.in_ok-place.place place.0 adds.places place.1,
        place.2,
      );
    }
