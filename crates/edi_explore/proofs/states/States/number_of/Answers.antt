-- The number is that of an equal part.
use Rattle.std.proofs.Common.{◌≡◌, sym, subst, refl, Some}
use Rattle.std.specs.Prelude.{slice_get}
use Rattle.edi_kernel.specs.declared.kept.Kept.{Kept}
use Rattle.edi_kernel.specs.contracts.kept.KeptPartialEq.TheImpl as kept
use Rattle.edi_explore.specs.States.{Follows, IsSameKept}
use Rattle.edi_explore.proofs.Growing.{follows_insert, follows_same, for_ok, same_ok}
use Rattle.edi_explore.proofs.Equal.{kept_same}
use Rattle.edi_explore.proofs.states.States.number_of.Goals as goal

pub returns-clause-adds : goal.returns-clause-adds
returns-clause-adds c = for_ok c.as_number.result (record {
  processes = subst (Follows c.args.self.now.processes.keys) (sym c.in_ok-number.ensures.keys)
      (follows_insert (kept.ghosts).eq c.args.self.now.processes.keys c.args.kept);
  places = follows_same c.args.self.now.places.keys;
  rest = refl;
})

pub returns-clause-there : goal.returns-clause-there
returns-clause-there c =
    same_ok (λ number. (part : Kept) × (slice_get c.insert_full.new.self.keys number ≡ Some part) × IsSameKept c.args.kept part) c.as_number.result
    c.in_ok-number.number c.as_number.ensures
    (c.in_ok-number.ensures.stored.0, c.in_ok-number.ensures.stored.1, kept_same c.args.kept c.in_ok-number.ensures.stored.0 c.in_ok-number.ensures.stored.2)
