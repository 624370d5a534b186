use Rattle.std.proofs.Common.{◌≡◌, ◌++◌, true, drop}
use Rattle.edi_dump.specs.values.Texts.{members_piece}
use Rattle.edi_dump.specs.values.Views.{constants_of}
use Rattle.edi_dump.proofs.values.sets.put_members.Given as goal

abbrev pub invariant-loop-n : goal.invariant-loop-n
invariant-loop-n l = record {
  text :
      l.out.items ++ (members_piece l.types (constants_of l.constants) l.first l.more l.base (drop l.n-index l.members)).text
      ≡ l.fn.out.items ++ (members_piece l.types (constants_of l.constants) true l.left l.base l.members).text;
  left :
      (members_piece l.types (constants_of l.constants) l.first l.more l.base (drop l.n-index l.members)).left
      ≡ (members_piece l.types (constants_of l.constants) true l.left l.base l.members).left;
}
