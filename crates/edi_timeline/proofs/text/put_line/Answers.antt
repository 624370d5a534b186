use Rattle.std.proofs.Common.{◌≡◌, ◌+◌, suc, ◌++◌, List, ℕ, subst}
use Rattle.std.specs.Prelude.{OnOk, codes}
use Rattle.edi_timeline.specs.Plain.{IsPlain}
use Rattle.edi_timeline.proofs.Written.{same_line}
use Rattle.edi_timeline.proofs.text.put_line.Goals as goal

pub returns-then-is_plain : goal.returns-then-is_plain
returns-then-is_plain c =
    let plain : IsPlain c.args.rows.now c.args.row.now = c.is_plain.ensures c.if-is_plain.true in
    record {
      exact =
          subst (λ (t : List ℕ). OnOk c.put_plain.result (c.put_plain.new.out.items ≡ c.args.out.now.items ++ (t ++ codes "\n")))
          (same_line c.args.ending c.args.rows.now c.args.number (suc c.args.used) c.args.row.now plain.goes_on) c.put_plain.ensures.exact;
    }
