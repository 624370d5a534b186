-- A search that notes another number of moves.
use Rattle.std.proofs.Common.{ℕ, List}
use Rattle.edi_target.specs.Check.{CodeParts}
use Rattle.edi_explore.specs.declared.ends.Limits.{Limits}
use Rattle.edi_explore.specs.declared.ends.Verdict.{Verdict}
use Rattle.edi_explore.specs.declared.ends.Verdict.TheVariants as verdict
use Rattle.edi_explore.specs.declared.finding.Search.{Search}
use Rattle.edi_explore.specs.Expand.{IsSearch}
use Rattle.edi_explore.proofs.Levelling.{IsSoFar}

module _ (code : CodeParts) (input : List ℕ) (limits : Limits) where
  pub noted_search : (s : Search) (moves : ℕ) → IsSearch code input limits s → IsSearch code input limits (record s { moves = moves })
  noted_search s moves h = record { states = h.states; input_is = h.input_is; kept = h.kept }

  pub noted_levels : (v : Verdict) (s : Search) (moves depth from : ℕ) → IsSoFar code input limits v s depth from →
      IsSoFar code input limits v (record s { moves = moves }) depth from
  noted_levels verdict.All s moves depth from h = record {
    starts = h.starts;
    levelled = h.levelled;
    at = h.at;
    last = h.last;
    within = h.within;
    all = h.all;
    first = h.first;
  }
  noted_levels (verdict.Full n) s moves depth from h = h
  noted_levels (verdict.Many n) s moves depth from h = h
  noted_levels (verdict.Cut n) s moves depth from h = h
  noted_levels (verdict.Unrecorded n) s moves depth from h = h
  noted_levels (verdict.NoMemory n) s moves depth from h = h
