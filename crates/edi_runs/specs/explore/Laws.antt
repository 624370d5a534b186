-- Words of contracts. What is true of every exploration.
use Rattle.std.specs.Prelude.{◌≡◌, ℕ, true, List, Contains, Option, is_some}
use Rattle.edi_calls.specs.Choice.{Choices}
use Rattle.edi_calls.specs.Outcome.{Outcome}
use Rattle.edi_unit.specs.Tree.{ProgramUnit}
use Rattle.edi_texts.specs.Run.{IsRunOf}
use Rattle.edi_texts.specs.Texts.{IsUnit}
use Rattle.edi_explored.specs.Reached.{IsCutOr, IsCutOrShown, IsReached}
use Rattle.edi_explore.specs.declared.ends.Verdict.TheVariants as verdict
use Rattle.edi_explore.specs.Offline.{offline}
use Rattle.edi_runs.specs.explore.Explorations.{Findings, IsExplorationOf, IsReachedBy, Reached, endings_in, shown_endings_in}

-- what is found is reached by its choices in the program of the text
abbrev pub FoundIsReached : Type 0
FoundIsReached =
    (text input : List ℕ) (one : Reached) → IsReachedBy text input one →
    (unit : ProgramUnit) × IsUnit text unit × IsReached unit (offline input) one.choices one.ending

-- Where it says that it has found all, each run of the text, with whatever bound and choices, is cut by its bound or ends in one of these ways.
abbrev pub RunsEndAsTold : Type 0
RunsEndAsTold =
    (text input : List ℕ) (most turns : ℕ) (shown : Option ℕ) (findings : Findings) → IsExplorationOf text input most turns shown findings →
    findings.verdict ≡ verdict.All → (bound : ℕ) (choices : Choices) (outcome : Outcome) → IsRunOf text (offline input) bound choices outcome →
    IsCutOr (endings_in findings.endings) outcome.ending

-- And where output is looked at, it has then shown what is told beside this ending.
abbrev pub RunsShowAsTold : Type 0
RunsShowAsTold =
    (text input : List ℕ) (most turns : ℕ) (shown : Option ℕ) (findings : Findings) → IsExplorationOf text input most turns shown findings →
    is_some shown ≡ true → findings.verdict ≡ verdict.All → (bound : ℕ) (choices : Choices) (outcome : Outcome) →
    IsRunOf text (offline input) bound choices outcome → IsCutOrShown (shown_endings_in findings.endings) outcome.ending outcome.shown

-- And what any other exploration of the text finds is among these: two that have found all have found the same endings.
abbrev pub FoundAreAmongAll : Type 0
FoundAreAmongAll =
    (text input : List ℕ) (most turns more later : ℕ) (shown other : Option ℕ) (one all : Findings) → IsExplorationOf text input most turns shown one →
    IsExplorationOf text input more later other all → all.verdict ≡ verdict.All → (found : Reached) → Contains one.endings found → Contains (endings_in all.endings) found.ending
