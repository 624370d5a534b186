-- Both runs are cut, and in the second there is neither a move nor a choice more.
use Rattle.std.proofs.Common.{◌≡◌, ◌+◌, ℕ, List, subst}
use Rattle.edi_unit.specs.Tree.{ProgramUnit}
use Rattle.edi_explore.specs.Verdicts.{IsCutAt}
use Rattle.edi_explore.proofs.cut.is_cut_behind.Goals as goal

as_many : (bound : ℕ) (unit : ProgramUnit) (input choices : List ℕ) (a b c d : ℕ) → a ≡ c → b ≡ d → IsCutAt bound unit input choices a b →
    IsCutAt bound unit input choices c d
as_many bound unit input choices a b c d e f h =
    subst (λ m. IsCutAt bound unit input choices m d) e (subst (λ n. IsCutAt bound unit input choices a n) f h)

pub returns : goal.returns
returns c = record {
  exact = λ unit coded is told.
      let goes = c.goes_on_as.ensures in
      record {
        before = c.args.before;
        moves = c.in_ok-first.first.moves;
        drawn = c.in_ok-first.first.drawn;
        begins = c.in_ok-first.ensures.exact unit coded is (goes.one told);
        goes_on = as_many (c.args.before + c.args.turns) unit c.args.input.now c.args.choices.now c.in_ok-second.second.moves c.in_ok-second.second.drawn
            c.in_ok-first.first.moves c.in_ok-first.first.drawn (goes.moves told) (goes.drawn told) (c.in_ok-second.ensures.exact unit coded is (goes.both told));
        few = c.requires.few;
        small = c.are_choices.ensures;
      };
}
