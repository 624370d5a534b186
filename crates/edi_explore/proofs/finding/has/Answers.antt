-- One after another is compared.
use Rattle.std.proofs.Common.{◌≡◌, ◌⊎◌, inl, inr, ℕ, ◌+◌, ◌<◌, ◌≤◌, length, Some, refl, sym, ap, ◌∙◌, arith, subst}
use Rattle.std.specs.Prelude.{slice_get}
use Rattle.std.proofs.lemmas.Bool.{cases_lt}
use Rattle.std.proofs.lemmas.Option.{slice_get_read, slice_get_within}
use Rattle.edi_explore.specs.declared.ends.Found.{Found}
use Rattle.edi_explore.specs.Shown.{IsMet}
use Rattle.edi_explore.proofs.Findings.{at_contained, contains_at, some_same}
use Rattle.edi_explore.proofs.finding.has.Goals as goal

pub returns-then-is-clause-has : goal.returns-then-is-clause-has
returns-then-is-clause-has c = λ _.
    let fs = c.args.found.now in
    let at : slice_get fs c.loop-one.one-index ≡ Some c.one-item.result =
    slice_get_read fs (length fs) c.loop-one.one-index c.one-item.result refl c.loop-one-test.true c.one-item.is in
    (c.one-item.result, contains_at fs c.loop-one.one-index c.one-item.result at, c.is.ensures.is c.if-is.true)

pub loop-one-preserved : goal.loop-one-preserved
loop-one-preserved c = λ i one l at same. go i one l at same (cases_lt i c.loop-one.one-index)
  where
    go : (i : ℕ) (one : Found) → i < c.loop-one.one-index + 1 → slice_get c.args.found.now i ≡ Some one →
        IsMet c.args.asks one c.args.met.now.ending c.args.met.now.shown.items → (i < c.loop-one.one-index) ⊎ (c.loop-one.one-index ≤ i) → ⊥
    go i one l at same (inl less) = c.loop-one.invariant i one less at same
    go i one l at same (inr past) =
        let fs = c.args.found.now in
        let here : slice_get fs c.loop-one.one-index ≡ Some c.one-item.result =
        slice_get_read fs (length fs) c.loop-one.one-index c.one-item.result refl c.loop-one-test.true c.one-item.is in
        let e : i ≡ c.loop-one.one-index = omega (arith, l, past) in
        let it : one ≡ c.one-item.result = some_same (sym at ∙ ap (slice_get fs) e ∙ here) in
        c.is.ensures.is_not c.if-is.false (subst (λ (x : Found). IsMet c.args.asks x c.args.met.now.ending c.args.met.now.shown.items) it same)

pub returns-clause-lacks : goal.returns-clause-lacks
returns-clause-lacks c = λ _ h.
    let at = at_contained c.args.found.now h.0 h.1 in
    c.loop-one.invariant at.0 h.0 (omega (arith, slice_get_within c.args.found.now at.0 h.0 at.1, c.loop-one-test.false)) at.1 h.2
