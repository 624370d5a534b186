use Rattle.std.proofs.Common.{◌-◌, length, refl, sym, ap, ◌∙◌}
use Rattle.edi_meaning.specs.Store.{frames}
use Rattle.edi_walk.proofs.Entries.{frames_counted}
use Rattle.edi_walk.proofs.memory.Memory.newest.Goals as goal

pub returns-in-Some : goal.returns-in-Some
returns-in-Some c = record {
  exact =
      ap (λ n. (c.args.name.now, n))
      (c.saturating_sub.ensures
      ∙ ap (λ n. n - 1) (sym (frames_counted c.in-Some.instances.now) ∙ ap (λ is. length (frames is)) c.in-Some.ensures.exact));
}

pub returns-in-None : goal.returns-in-None
returns-in-None c = record { exact = ap (λ is. (c.args.name.now, length (frames is) - 1)) (sym (c.in-None.ensures.none refl)) }
