-- What is made of what the frames make: parts of a step, one after another.
use Rattle.std.proofs.Common.{ℕ, refl, ap}
use Rattle.edi_calls.specs.State.{State, Traced}
use Rattle.edi_meaning.specs.Laws.{GoesFrom}
use Rattle.edi_meaning.specs.Evaluation.{World, Evaluation, gives, ends, ◌>>=◌}
use Rattle.edi_meaning.specs.Whole.{words_of_cells}
use Rattle.edi_meaning.proofs.Going.{goes_all}
use Rattle.edi_walk.specs.declared.evaluation.Evaluation as code
use Rattle.edi_walk.specs.declared.stop.Stop.{Stop}
use Rattle.edi_walk.specs.declared.stop.Stop.TheVariants as stop
use Rattle.edi_walk.specs.Frames.{Given}
use Rattle.edi_walk.specs.Runs.{StopsTo}
use Rattle.edi_walk.specs.Steps.{Continues, StopsSo}
use Rattle.edi_walk.proofs.Moments.{Both, up_goes, failed_goes, behind}

pub further : {A : Type 0} (w v : World) (m : Evaluation A) → GoesFrom w v.system v.turns → Continues v m → Continues w m
further w v (gives a u) g h = goes_all w v u.system u.turns g h
further w v (ends e system turns) g h = goes_all w v system turns g h

pub continues_then : {A B : Type 0} (w : World) (m : Evaluation A) (f : A → World → Evaluation B) → Continues w m → ((a : A) (v : World) → Continues v (f a v)) →
    Continues w (m >>= f)
continues_then w (gives a v) f h k = further w v (f a v) h (k a v)
continues_then w (ends e system turns) f h k = h

pub both_continues : {A : Type 0} (w : World) (m : Evaluation A) → Both (GoesFrom w) m → Continues w m
both_continues w (gives a v) h = h
both_continues w (ends e system turns) h = h

-- ---- what stops a part stops the whole

pub stops_then : {A B : Type 0} (from : Traced) (s : Stop) (new : code.Evaluation) (now : State) (m : Evaluation A) (f : A → World → Evaluation B) →
    StopsSo from s new now m → ((a : A) (v : World) → Continues v (f a v)) → StopsSo from s new now (m >>= f)
stops_then from stop.Done new now m f h k = record { system = h.system; system_is = h.system_is; is = ap (λ x. x >>= f) h.is }
stops_then from (stop.Halted line) new now m f h k = record { system = h.system; system_is = h.system_is; is = ap (λ x. x >>= f) h.is }
stops_then from (stop.Failed c line) new now m f h k = record { system = h.system; system_is = h.system_is; is = ap (λ x. x >>= f) h.is }
stops_then from stop.Turns new now m f h k = record { system = h.system; system_is = h.system_is; is = ap (λ x. x >>= f) h.is }
stops_then from (stop.Fault number) new now m f h k = record {
  before = h.before;
  grew = h.grew;
  next = h.next;
  arguments = h.arguments;
  answer = h.answer;
  answers = h.answers;
  torn = h.torn;
  world = h.world;
  world_is = h.world_is;
  goes = continues_then h.world m f h.goes k;
}
stops_then from stop.NoMemory new now m f h k = record {
  world = h.world;
  grew = h.grew;
  system_is = h.system_is;
  goes = continues_then h.world m f h.goes k;
}

-- ---- a run of frames is such a part

pub stop_of_run : (levels : ℕ) (from : Traced) (s : Stop) (new : code.Evaluation) (now : State) (m : Evaluation Given) → StopsTo levels from s new now m →
    StopsSo from s new now m
stop_of_run levels from stop.Done new now m h = record { system = h.system; system_is = h.system_is; is = h.is }
stop_of_run levels from (stop.Halted line) new now m h = record { system = h.system; system_is = h.system_is; is = h.is }
stop_of_run levels from (stop.Failed c line) new now m h = record { system = h.system; system_is = h.system_is; is = h.is }
stop_of_run levels from stop.Turns new now m h = record { system = h.system; system_is = h.system_is; is = h.is }
stop_of_run levels from (stop.Fault number) new now m h = record {
  before = h.world.system;
  grew = h.grew;
  next = h.next;
  arguments = words_of_cells h.cells;
  answer = h.words;
  answers = h.answers;
  torn = h.torn;
  world = behind h;
  world_is = refl;
  goes = both_continues (behind h) m (failed_goes number _ _ _ levels from m now h);
}
stop_of_run levels from stop.NoMemory new now m h = record {
  world = h.world;
  grew = h.grew;
  system_is = h.system_is;
  goes = both_continues h.world m (up_goes _ _ _ levels from m now h);
}
