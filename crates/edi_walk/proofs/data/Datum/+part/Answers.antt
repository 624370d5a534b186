use Rattle.std.proofs.Common.{◌≡◌, sym, subst, refl, get_or, IfSome, Some}
use Rattle.std.specs.Prelude.{slice_get}
use Rattle.std.proofs.lemmas.Option.{slice_get_read}
use Rattle.edi_walk.specs.Data.{value_of}
use Rattle.edi_walk.proofs.PartsOf.{part_below}
use Rattle.edi_walk.proofs.data.Datum.+part.Goals as goal

pub returns : goal.returns
returns t c =
    let i = get_or c.args.path.now 0 0 in
    let part = c.in_ok-get.field-0.now in
    let found = c.in_ok-get.ensures.lookup in
    record {
      exact =
          subst (λ v. IfSome c.part.result (λ part. value_of part.now ≡ v))
          (sym (part_below c.args.self.now c.in-Compound.parts c.args.path.now c.in-Compound.is c.in-len1-up.len_at_least part
          (subst (λ xs. slice_get xs i ≡ Some part) c.deref.ensures.value (slice_get_read c.deref.result.now _ i part refl found.3.0 found.1))))
          c.part.ensures.exact;
    }
