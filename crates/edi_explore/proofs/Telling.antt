-- What is told of all endings with what was shown is told of all endings.
use Rattle.std.proofs.Common.{◌≡◌, ◌⊎◌, inl, inr, ℕ, Bool, true, List, Option, Some, None, refl}
use Rattle.std.specs.Prelude.{is_some, IsSome}
use Rattle.edi_calls.specs.Outcome.{Ending}
use Rattle.edi_calls.specs.State.{State}
use Rattle.edi_unit.specs.Tree.{ProgramUnit}
use Rattle.edi_explored.specs.Covered.{AllTold, AllToldBelow, IsCutOrTold}
use Rattle.edi_explored.specs.Reached.{AreAll, AreAllBelow, IsCutOr}
use Rattle.edi_explore.specs.declared.ends.Found.{Found}
use Rattle.edi_explore.specs.Found.{endings_of}
use Rattle.edi_explore.specs.Shown.{told_by}
use Rattle.edi_explore.proofs.Findings.{found_of, told_as}

pub some_asks : {X : Type 0} (o : Option X) → IsSome o → is_some o ≡ true
some_asks None h = absurd (cc)
some_asks (Some x) h = refl

ends : (asks : Bool) (fs : List Found) (e : Ending) (shown : List ℕ) → IsCutOrTold (told_by asks fs) e shown → IsCutOr (endings_of fs) e
ends asks fs e shown (inl cut) = inl cut
ends asks fs e shown (inr t) =
    let w = found_of asks fs e shown t in
    inr (told_as Rattle.std.proofs.Common.false fs w.one e shown w.among w.ending tt)

pub all_ends : (asks : Bool) (unit : ProgramUnit) (system : State) (fs : List Found) → AllTold unit system (told_by asks fs) → AreAll unit system (endings_of fs)
all_ends asks unit system fs all bound choices ending end turns drawn order e =
    ends asks fs ending end.now.shown (all bound choices ending end turns drawn order e)

pub below_ends : (asks : Bool) (unit : ProgramUnit) (system : State) (fs : List Found) (moves : ℕ) → AllToldBelow moves unit system (told_by asks fs) →
    AreAllBelow moves unit system (endings_of fs)
below_ends asks unit system fs moves all bound choices ending end turns drawn order e less =
    ends asks fs ending end.now.shown (all bound choices ending end turns drawn order e less)
