-- A state but the first came from an earlier one.
use Rattle.std.proofs.Common.{◌≡◌, ℕ, zero, suc, ◌<◌, length, Some, sym, arith}
use Rattle.std.specs.Prelude.{slice_get}
use Rattle.std.proofs.lemmas.Option.{slice_get_read}
use Rattle.edi_explore.specs.declared.states.Origin.{Origin}
use Rattle.edi_explore.specs.declared.states.States.{States}
use Rattle.edi_explore.specs.States.{AreStates, slots_of}
use Rattle.edi_explore.proofs.states.States.origin.Goals as goal

came : (s : States) (o : Origin) → AreStates s → (v : ℕ) → slice_get s.origins.items v ≡ Some o → 0 < v → (o.state < v) × (o.index < length (slots_of s o.state))
came s o a zero e l = absurd (omega (arith, l))
came s o a (suc v) e l = let w = a.from v o e in (omega (arith, w.0), w.1)

pub returns-clause-before : goal.returns-clause-before
returns-clause-before c = λ l.
    let s = c.args.self.now in
    (came s c.index.result.now c.requires.states c.args.state
    (slice_get_read s.origins.items (length s.keys.keys) c.args.state c.index.result.now (sym c.requires.states.origins) c.requires.state c.index.ensures) l).0

pub returns-clause-index : goal.returns-clause-index
returns-clause-index c = λ l.
    let s = c.args.self.now in
    (came s c.index.result.now c.requires.states c.args.state
    (slice_get_read s.origins.items (length s.keys.keys) c.args.state c.index.result.now (sym c.requires.states.origins) c.requires.state c.index.ensures) l).1
