use Rattle.std.proofs.Common.{ℕ, refl}
use Rattle.edi_follows.proofs.Whole.{steps, starts}
use Rattle.edi_follows.proofs.kernel.Meaning.{steps_queue}
use Rattle.edi_follows.specs.places.Coded.{Coded}
use Rattle.edi_explored.specs.machine.PutBacks.{KeepsBy, FollowedPutBacks}
use Rattle.edi_explored.proofs.machine.Coding.{coded}
use Rattle.edi_explored.proofs.machine.Tied.{machines_below, machines_all}
use Rattle.edi_explored.proofs.machine.PutBacks.{put_backs_followed}
use Rattle.edi_explored.proofs.machine.put_backs_are_all.Goals as goal

pub returns : goal.returns
returns k c = record {
  all = λ g system report begin f. machines_all g system report ℕ begin (KeepsBy g system report ℕ begin k.P.PutBack.is k.P.PutBack.has)
      k.P.PutBack.has (put_backs_followed g system report ℕ begin k.P.PutBack.is k.P.PutBack.has f) (steps g) steps_queue (starts g);
  below = λ g system report begin most f. machines_below g system report ℕ begin (KeepsBy g system report ℕ begin k.P.PutBack.is k.P.PutBack.has)
      k.P.PutBack.has (put_backs_followed g system report ℕ begin k.P.PutBack.is k.P.PutBack.has f) (steps g) steps_queue (starts g) most;
  of_code = λ unit c system report begin most f.
      let g : Coded = coded unit c in
      let h : FollowedPutBacks g system report ℕ begin k.P.PutBack.is k.P.PutBack.has = f g refl refl in (
        machines_all g system report ℕ begin (KeepsBy g system report ℕ begin k.P.PutBack.is k.P.PutBack.has)
            k.P.PutBack.has (put_backs_followed g system report ℕ begin k.P.PutBack.is k.P.PutBack.has h) (steps g) steps_queue (starts g),
        machines_below g system report ℕ begin (KeepsBy g system report ℕ begin k.P.PutBack.is k.P.PutBack.has)
            k.P.PutBack.has (put_backs_followed g system report ℕ begin k.P.PutBack.is k.P.PutBack.has h) (steps g) steps_queue (starts g) most,
      );
}
