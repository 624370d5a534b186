-- Slot after slot.
use Rattle.std.proofs.Common.{◌≡◌, suc, ◌+◌, List, Bool, true, false, if◌then◌else◌, refl, sym, ap, ◌∙◌, arith}
use Rattle.edi_kernel.specs.Table.{is_live}
use Rattle.edi_waits.specs.Ends.{AtEnd}
use Rattle.edi_waits.specs.Left.{at_end_of, at_ends, put_in, told_ends}
use Rattle.edi_waits.proofs.ends.processes_in.Goals as goal

one : (b : Bool) (xs ys : List AtEnd) → b ≡ true → xs ≡ (if b then xs else ys)
one true xs ys e = refl
one false xs ys e = absurd (cc)

pub loop-slot-preserved : goal.loop-slot-preserved
loop-slot-preserved c =
    let k = c.args.kernel.now in
    let names = c.args.names.now in
    let n = c.loop-slot.slot in
    let lives : is_live k.table n ≡ true = sym c.lives.ensures ∙ c.if-not-lives.false in
    let next : suc n ≡ n + 1 = omega arith in
    c.in_ok-put_in.ensures.exact
    ∙ ap (λ (x : AtEnd). put_in x (told_ends c.loop-slot.processes)) c.in_ok-process.ensures.exact
    ∙ ap (λ (xs : List AtEnd). put_in (at_end_of k names n) xs) c.loop-slot.invariant
    ∙ one (is_live k.table n) (put_in (at_end_of k names n) (at_ends k names n)) (at_ends k names n) lives
    ∙ ap (at_ends k names) next

pub returns : goal.returns
returns c =
    let all : c.loop-slot.slot ≡ 32 = omega (arith, c.loop-slot-test.false, c.loop-slot.auto.slot-end) in
    record { exact = c.loop-slot.invariant ∙ ap (at_ends c.args.kernel.now c.args.names.now) all }
