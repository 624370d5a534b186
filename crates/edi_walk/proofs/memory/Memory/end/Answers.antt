use Rattle.std.proofs.Common.{refl, sym, ap, ◌∙◌}
use Rattle.std.specs.Prelude.{map}
use Rattle.edi_calls.specs.Names.{without}
use Rattle.edi_walk.specs.Memory.{entry_of, store_of}
use Rattle.edi_walk.proofs.Entries.{nowhere, stands_removed}
use Rattle.edi_walk.proofs.memory.Memory.end.Goals as goal

pub loop-place-preserved : goal.loop-place-preserved
loop-place-preserved c =
    ap (λ es. without (map entry_of es) c.args.name.now) c.remove-gone.ensures.items
    ∙ stands_removed c.args.name.now c.in-Some.place c.loop-place.self.entries.items c.in-Some.ensures.exact
    ∙ c.loop-place.invariant

pub returns : goal.returns
returns c = record { exact = sym (nowhere (store_of c.loop-place.self) c.args.name.now (c.in_default.ensures.none refl)) ∙ c.loop-place.invariant }
