-- Branch after branch.
use Rattle.std.proofs.Common.{◌≡◌, suc, ◌+◌, drop, length, sym, ap, ◌∙◌, arith, refl}
use Rattle.std.specs.Prelude.{nat_lt}
use Rattle.edi_waits.specs.Ends.{is_before}
use Rattle.edi_waits.specs.Told.{name_of}
use Rattle.edi_waits.proofs.Compared.{at_end, decides, goes_on}
use Rattle.edi_waits.proofs.ends.is_before.Goals as goal

pub loop-index-init : goal.loop-index-init
loop-index-init c = refl

pub returns-in-Some : goal.returns-in-Some
returns-in-Some c = record {
  exact =
      sym (decides c.args.name.now c.args.other.now c.loop-index.index c.in-Some.answer (sym c.in-Some.ensures.exact))
      ∙ c.loop-index.invariant;
}

pub loop-index-preserved : goal.loop-index-preserved
loop-index-preserved c =
    let next : suc c.loop-index.index ≡ c.loop-index.index + 1 = omega arith in
    ap (λ n. is_before (name_of (drop n c.args.name.now)) (name_of (drop n c.args.other.now))) (sym next)
    ∙ sym (goes_on c.args.name.now c.args.other.now c.loop-index.index (sym c.decided_at.ensures.exact ∙ c.in_default.is))
    ∙ c.loop-index.invariant

pub returns : goal.returns
returns c =
    let all : c.loop-index.index ≡ length c.args.name.now = omega (arith, c.loop-index-test.false, c.loop-index.auto.index-end) in
    record {
      exact =
          ap (λ n. nat_lt n (length c.args.other.now)) (sym all)
          ∙ sym (at_end c.args.name.now c.args.other.now c.loop-index.index (omega (arith, c.loop-index-test.false)))
          ∙ c.loop-index.invariant;
    }
