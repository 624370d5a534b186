-- The turns that are left never rise, and an evaluation never ends as a standstill.
use Rattle.std.proofs.Common.{ℕ, ◌≤◌, arith}
use Rattle.edi_calls.specs.Names.{Name}
use Rattle.edi_unit.specs.Tree.{ProgramUnit}
use Rattle.edi_meaning.proofs.Lasting.{IsOwn, own_over, Lasting}
use Rattle.edi_meaning.proofs.Worlds.{lasting}

-- no more turns than t are left
abbrev pub turning : (unit : ProgramUnit) (p : Name) (size t : ℕ) → Lasting unit p size
turning unit p size t = lasting (record {
  Level = Unit {0};
  Holds = λ x w. w.turns ≤ t;
  Ends = λ e system turns. (turns ≤ t) × IsOwn e;
  over = λ x e w o h. (h, own_over e w.turns o);
  turned = λ x n w e h. omega arith;
  stored = λ x l v w h. h;
  replied = λ x number asked words system w e h. h;
  called = λ x number parent cells w h. (tt, h, λ v k. k);
})
