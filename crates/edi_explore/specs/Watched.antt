-- Words of contracts. What a watcher is told of a search: after each state that was expanded, how many states there were by then, with the
-- start of the program as one. So the number after the first one is at least 2, and so on. The numbers never fall, and none is greater than
-- the number of states in the end.
use Rattle.std.specs.Prelude.{◌≡◌, ◌+◌, ◌≤◌, ℕ, suc, List, ◌++◌, length, slice_get, Some, IfOk, Result}
use Rattle.edi_explore.specs.declared.ends.Verdict.{Verdict}
use Rattle.edi_explore.specs.declared.ends.Verdict.TheVariants as verdicts
use Rattle.edi_explore.specs.declared.expand.Expanded.{Expanded}
use Rattle.edi_explore.specs.declared.step.GivenUp.{GivenUp}

-- no number is less than the one before it
abbrev pub NeverFall : List ℕ → Type 0
NeverFall numbers = (i m n : ℕ) → slice_get numbers i ≡ Some m → slice_get numbers (suc i) ≡ Some n → m ≤ n

-- of the states from this one on, one after another; there are never fewer than so many, and never more than so many
pub record Sees (from least most : ℕ) (old new : List ℕ) : Type 0 where
  pub more : List ℕ
  pub is : new ≡ old ++ more
  pub each : (i n : ℕ) → slice_get more i ≡ Some n → (from + i + 2 ≤ n) × (least ≤ n) × (n ≤ most)
  pub rises : NeverFall more

-- of each state of a level, up to this one, where all were expanded
pub record SeesLevel (result : Result Expanded GivenUp) (from to most : ℕ) (old new : List ℕ) : Type 0 where
  pub sees : Sees from (to + 1) most old new
  pub whole : IfOk result (λ expanded. from + length sees.more ≡ to)

-- of each state but the first, where all were expanded; there may be no more states than so many
pub record IsWatched (verdict : Verdict) (most states : ℕ) (old new : List ℕ) : Type 0 where
  pub few : states ≤ most
  pub sees : Sees 0 0 states old new
  pub whole : verdict ≡ verdicts.All → length sees.more + 1 ≡ states
