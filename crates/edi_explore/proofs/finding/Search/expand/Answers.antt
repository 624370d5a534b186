-- Index after index; at the end one of them goes, or they stand still.
use Rattle.std.proofs.Common.{◌≡◌, ◌+◌, Bool, Some, refl, sym, ap, subst, ◌∙◌, arith}
use Rattle.std.specs.Prelude.{slice_get}
use Rattle.edi_kernel.specs.declared.ends.Ending.TheVariants as ending
use Rattle.edi_explore.specs.declared.expand.Expanded.{Expanded}
use Rattle.edi_explore.specs.declared.finding.Search.{Search}
use Rattle.edi_explore.specs.declared.states.Key.{Key}
use Rattle.edi_explore.specs.Shown.{HasEnding, asks_of}
use Rattle.edi_explore.specs.Tables.{shown_at}
use Rattle.edi_explore.specs.Expand.{Apart, ComesTo, HasExpanded, HasStintThat, HasStintsTo, both}
use Rattle.edi_explore.proofs.Expanding.{ends_going, ends_standing, further_on, further_same, more_so, no_stints}
use Rattle.edi_explore.proofs.Findings.{found_none, found_on}
use Rattle.edi_explore.proofs.Keying.{lookup}
use Rattle.edi_explore.proofs.finding.Search.expand.Goals as goal

pub overflow_cast-origin : goal.overflow_cast-origin
overflow_cast-origin c =
    let key : (k : Key) × (slice_get c.args.self.now.states.keys.keys c.args.state ≡ Some k) = lookup c.args.self.now.states.keys.keys c.args.state c.requires.state in
    let few = (c.requires.search.states.states c.args.state key.0 key.1).few in
    omega (arith, few, c.ready-index-end.ensures.slots, c.loop-index-test.true)

pub loop-index-init : goal.loop-index-init
loop-index-init c = record {
  finds = found_none c.args.code.now c.args.input.now c.args.limits c.args.self.now c.args.self.now refl refl;
  further = further_same c.args.code.now c.args.input.now c.args.limits c.args.self.now c.requires.search;
  few = c.requires.few;
  grown = omega arith;
  so = λ whole apart. no_stints c.args.code.now c.args.input.now c.args.limits c.args.self.now c.args.state;
}

pub returns-in_err-came-clause-finds : goal.returns-in_err-came-clause-finds
returns-in_err-came-clause-finds c =
    found_on c.args.code.now c.args.input.now c.args.limits c.args.self.now c.loop-index.self c.stint.new.self
    c.loop-index.invariant.finds c.stint.ensures.finds

pub loop-index-preserved : goal.loop-index-preserved
loop-index-preserved c =
    let follows =
    subst (λ n. ComesTo c.args.code.now c.args.input.now c.args.limits c.loop-index.self c.stint.new.self c.in_ok-came.came.expanded
    (Apart c.args.code.now c.args.input.now c.args.limits c.stint.new.self n →
    HasStintThat c.args.code.now c.args.input.now c.args.limits c.stint.new.self c.in_ok-came.came.fails n c.loop-index.index))
    c.in-Ok.ensures.1 c.in_ok-came.ensures.follows in
    record {
      finds = found_on c.args.code.now c.args.input.now c.args.limits c.args.self.now c.loop-index.self c.stint.new.self
          c.loop-index.invariant.finds c.stint.ensures.finds;
      further = further_on c.args.code.now c.args.input.now c.args.limits c.args.self.now c.loop-index.self c.stint.new.self
          c.loop-index.invariant.further follows.further;
      few = c.stint.ensures.few;
      grown = omega (arith, c.loop-index.invariant.grown, c.stint.ensures.grows);
      so = λ whole apart.
          subst (λ (b : Bool). HasStintsTo c.args.code.now c.args.input.now c.args.limits c.stint.new.self (c.loop-index.index + 1) c.args.state b)
          (sym c.fails_after-stands.ensures)
          (more_so c.args.code.now c.args.input.now c.args.limits c.args.self.now c.loop-index.self c.stint.new.self c.args.state c.loop-index.index
          c.loop-index.expanded c.in_ok-came.came.expanded c.loop-index.stands c.in_ok-came.came.fails c.requires.search c.requires.state
          (omega (arith, c.ready-index-end.ensures.slots, c.loop-index-test.true)) c.loop-index.invariant.further c.loop-index.invariant.so
          c.stint.ensures.finds.finds.more follows (sym c.and-expanded.ensures ∙ whole) apart);
    }

pub returns-then-not-stands-clause-expands : goal.returns-then-not-stands-clause-expands
returns-then-not-stands-clause-expands c =
    ends_going c.args.code.now c.args.input.now c.args.limits c.args.self.now c.loop-index.self c.args.state c.loop-index.index c.loop-index.expanded
    c.loop-index.stands c.requires.search c.requires.state c.loop-index.invariant.further c.loop-index.invariant.so
    (omega (arith, c.ready-index-end.ensures.slots, c.loop-index-test.false, c.loop-index.auto.index-end)) c.if-not-stands.true

pub returns-in_err-told-clause-finds : goal.returns-in_err-told-clause-finds
returns-in_err-told-clause-finds c =
    found_on c.args.code.now c.args.input.now c.args.limits c.args.self.now c.loop-index.self c.find.new.self
    c.loop-index.invariant.finds c.find.ensures.finds

pub returns-clause-finds : goal.returns-clause-finds
returns-clause-finds c =
    found_on c.args.code.now c.args.input.now c.args.limits c.args.self.now c.loop-index.self c.find.new.self
    c.loop-index.invariant.finds c.find.ensures.finds

pub returns-clause-expands : goal.returns-clause-expands
returns-clause-expands c =
    let rest = c.find.ensures.rest in
    subst (λ (e : Expanded). ComesTo c.args.code.now c.args.input.now c.args.limits c.args.self.now c.find.new.self e
    (HasExpanded c.args.code.now c.args.input.now c.args.limits c.find.new.self c.args.state))
    (ap (both c.loop-index.expanded) (sym c.by_record.ensures) ∙ sym c.and.ensures)
    (ends_standing c.args.code.now c.args.input.now c.args.limits c.args.self.now c.loop-index.self c.find.new.self c.args.state c.loop-index.index
    c.loop-index.expanded c.loop-index.stands c.in_ok-told.told c.requires.search c.requires.state c.loop-index.invariant.further c.loop-index.invariant.so
    (omega (arith, c.ready-index-end.ensures.slots, c.loop-index-test.false, c.loop-index.auto.index-end)) (ap (λ (s : Search). s.states) rest)
    (ap (λ (s : Search). s.calls.input.items) rest ∙ c.loop-index.invariant.further.search.input_is) c.find.ensures.finds.finds.more
    (λ told.
    subst (HasEnding (asks_of c.args.limits) c.find.new.self.found.items ending.Standstill)
    (c.in_ok-shown.ensures ∙ ap (λ (s : Search). shown_at s.states c.args.state) (sym rest)) (c.in_ok-told.ensures.told told)))
