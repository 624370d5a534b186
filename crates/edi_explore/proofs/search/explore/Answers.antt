-- What the verdict says of the report.
use Rattle.std.proofs.Common.{◌≡◌, ◌+◌, ◌≤◌, ℕ, Bool, List, [], length, sym, ap, subst, ◌∙◌, arith}
use Rattle.edi_told.proofs.Told.{WhereTold-map}
use Rattle.edi_target.specs.Check.{CodeParts}
use Rattle.edi_unit.specs.Tree.{ProgramUnit}
use Rattle.edi_explored.specs.Covered.{AllTold, AllToldBelow}
use Rattle.edi_explore.specs.declared.ends.Found.{Found}
use Rattle.edi_explore.specs.declared.ends.Limits.{Limits}
use Rattle.edi_explore.specs.declared.ends.Verdict.{Verdict}
use Rattle.edi_explore.specs.Fewest.{AreFewest, AreWithin}
use Rattle.edi_explore.specs.Found.{AllTellWaits, AreRecorded}
use Rattle.edi_explore.specs.Offline.{offline}
use Rattle.edi_explore.specs.Shown.{AreDistinct, asks_of, told_by}
use Rattle.edi_explore.specs.Verdicts.{HasCause, IsAnswer, IsConfirmed}
use Rattle.edi_explore.specs.Watched.{IsWatched}
use Rattle.edi_explore.proofs.Fewer.{fewest_confirmed, within_confirmed}
use Rattle.edi_explore.proofs.Findings.{never_bad}
use Rattle.edi_explore.proofs.Levelling.{answer_all, answer_confirmed, answer_full, answer_many, answer_steps, answer_to}
use Rattle.edi_explore.proofs.Longest.{longest_fewer}
use Rattle.edi_explore.proofs.Telling.{all_ends, below_ends, some_asks}
use Rattle.edi_explore.proofs.Watching.{watched_confirmed}
use Rattle.edi_explore.proofs.search.explore.Goals as goal

-- nothing was found before
module _ (fs : List Found) (e : fs ≡ []) where
  none_recorded : (unit : ProgramUnit) (input : List ℕ) → AreRecorded unit input fs
  none_recorded unit input = subst (AreRecorded unit input) (sym e) (λ one c. absurd (omega (arith, c.1)))

  none_distinct : (asks : Bool) → AreDistinct asks fs
  none_distinct asks = subst (AreDistinct asks) (sym e) (λ i j a b p q same. absurd (cc))

  none_told : (code : CodeParts) (input : List ℕ) → AllTellWaits code input fs
  none_told code input = subst (AllTellWaits code input) (sym e) (λ one c. absurd (omega (arith, c.1)))

pub returns-clause-recorded : goal.returns-clause-recorded
returns-clause-recorded g c = λ unit coded is.
    subst (λ fs. AreRecorded unit c.args.input.now fs) (sym (ap (λ x. x.items) c.report.ensures.found))
    (c.follow_all-first.ensures.finds.recorded unit coded is
    (none_recorded c.in_ok-search.search.found.items c.in_ok-search.ensures.begun.found unit c.args.input.now))

pub returns-clause-waits : goal.returns-clause-waits
returns-clause-waits g c =
    subst (λ fs. AllTellWaits c.args.code.now c.args.input.now fs) (sym (ap (λ x. x.items) c.report.ensures.found))
    (c.follow_all-first.ensures.finds.waits
    (none_told c.in_ok-search.search.found.items c.in_ok-search.ensures.begun.found c.args.code.now c.args.input.now))

pub returns-clause-good : goal.returns-clause-good
returns-clause-good g c = λ unit coded is one at there bad.
    never_bad unit c.args.input.now one (returns-clause-recorded g c unit coded is one there) at bad

pub returns-clause-distinct : goal.returns-clause-distinct
returns-clause-distinct g c =
    subst (AreDistinct (asks_of c.args.limits)) (sym (ap (λ x. x.items) c.report.ensures.found))
    (c.follow_all-first.ensures.finds.distinct
    (none_distinct c.in_ok-search.search.found.items c.in_ok-search.ensures.begun.found (asks_of c.args.limits)))

pub returns-clause-fewest : goal.returns-clause-fewest
returns-clause-fewest g c =
    let s = c.follow_all-first.new.self in
    subst (λ (v : Verdict). AreFewest c.args.code.now c.args.input.now c.args.limits v c.report.result.found.items) (sym c.report.ensures.verdict)
    (subst (AreFewest c.args.code.now c.args.input.now c.args.limits c.confirmed-verdict.result) (sym (ap (λ x. x.items) c.report.ensures.found))
    (fewest_confirmed c.args.code.now c.args.input.now c.args.limits c.follow_all-first.result c.confirmed-verdict.result s.found.items
    c.confirmed-verdict.ensures.same c.follow_all-first.ensures.fewest))

pub returns-clause-within : goal.returns-clause-within
returns-clause-within g c =
    let s = c.follow_all-first.new.self in
    subst (λ (v : Verdict). AreWithin v c.report.result.found.items) (sym c.report.ensures.verdict)
    (subst (AreWithin c.confirmed-verdict.result) (sym (ap (λ x. x.items) c.report.ensures.found))
    (within_confirmed c.args.code.now c.args.input.now c.args.limits c.follow_all-first.result c.confirmed-verdict.result s.found.items
    c.confirmed-verdict.ensures.same c.follow_all-first.ensures.within))

-- what the verdict says
answer : (code : CodeParts) (input : List ℕ) (limits : Limits) (count : ℕ) (fs gs : List Found) (first now told : Verdict) → gs ≡ fs → told ≡ now →
    IsConfirmed first now → IsAnswer code input limits count fs first → IsAnswer code input limits count gs told
answer code input limits count fs gs first now told same is confirmed h =
    subst (λ (v : Verdict). IsAnswer code input limits count gs v) (sym is)
    (subst (λ (xs : List Found). IsAnswer code input limits count xs now) (sym same) (answer_confirmed code input limits count fs first now confirmed h))

pub returns-clause-all : goal.returns-clause-all
returns-clause-all g c = λ unit coded is all.
    let s = c.follow_all-first.new.self in
    all_ends (asks_of c.args.limits) unit (offline c.args.input.now) c.report.result.found.items
    (answer_all c.args.code.now c.args.input.now c.args.limits (length s.states.keys.keys) c.report.result.found.items c.report.result.verdict
    (answer c.args.code.now c.args.input.now c.args.limits (length s.states.keys.keys) s.found.items c.report.result.found.items c.follow_all-first.result
    c.confirmed-verdict.result c.report.result.verdict (ap (λ x. x.items) c.report.ensures.found) c.report.ensures.verdict c.confirmed-verdict.ensures.same
    c.follow_all-first.ensures.answer) all unit coded is)

pub returns-clause-by_steps : goal.returns-clause-by_steps
returns-clause-by_steps g c = λ none unit coded is all.
    let s = c.follow_all-first.new.self in
    answer_steps c.args.code.now c.args.input.now c.args.limits (length s.states.keys.keys) c.report.result.found.items c.report.result.verdict
    (answer c.args.code.now c.args.input.now c.args.limits (length s.states.keys.keys) s.found.items c.report.result.found.items c.follow_all-first.result
    c.confirmed-verdict.result c.report.result.verdict (ap (λ x. x.items) c.report.ensures.found) c.report.ensures.verdict c.confirmed-verdict.ensures.same
    c.follow_all-first.ensures.answer) all none unit coded is

pub returns-clause-below : goal.returns-clause-below
returns-clause-below g c = λ unit coded is moves up.
    let s = c.follow_all-first.new.self in
    below_ends (asks_of c.args.limits) unit (offline c.args.input.now) c.report.result.found.items moves
    (answer_to c.args.code.now c.args.input.now c.args.limits (length s.states.keys.keys) c.report.result.found.items c.report.result.verdict moves
    (answer c.args.code.now c.args.input.now c.args.limits (length s.states.keys.keys) s.found.items c.report.result.found.items c.follow_all-first.result
    c.confirmed-verdict.result c.report.result.verdict (ap (λ x. x.items) c.report.ensures.found) c.report.ensures.verdict c.confirmed-verdict.ensures.same
    c.follow_all-first.ensures.answer) up unit coded is)

pub returns-clause-all_shown : goal.returns-clause-all_shown
returns-clause-all_shown g c = λ asks unit coded is all.
    let s = c.follow_all-first.new.self in
    subst (λ b. AllTold unit (offline c.args.input.now) (told_by b c.report.result.found.items)) (some_asks c.args.limits.shown asks)
    (answer_all c.args.code.now c.args.input.now c.args.limits (length s.states.keys.keys) c.report.result.found.items c.report.result.verdict
    (answer c.args.code.now c.args.input.now c.args.limits (length s.states.keys.keys) s.found.items c.report.result.found.items c.follow_all-first.result
    c.confirmed-verdict.result c.report.result.verdict (ap (λ x. x.items) c.report.ensures.found) c.report.ensures.verdict c.confirmed-verdict.ensures.same
    c.follow_all-first.ensures.answer) all unit coded is)

pub returns-clause-below_shown : goal.returns-clause-below_shown
returns-clause-below_shown g c = λ asks unit coded is moves up.
    let s = c.follow_all-first.new.self in
    subst (λ b. AllToldBelow moves unit (offline c.args.input.now) (told_by b c.report.result.found.items)) (some_asks c.args.limits.shown asks)
    (answer_to c.args.code.now c.args.input.now c.args.limits (length s.states.keys.keys) c.report.result.found.items c.report.result.verdict moves
    (answer c.args.code.now c.args.input.now c.args.limits (length s.states.keys.keys) s.found.items c.report.result.found.items c.follow_all-first.result
    c.confirmed-verdict.result c.report.result.verdict (ap (λ x. x.items) c.report.ensures.found) c.report.ensures.verdict c.confirmed-verdict.ensures.same
    c.follow_all-first.ensures.answer) up unit coded is)

pub returns-clause-full : goal.returns-clause-full
returns-clause-full g c = λ moves full.
    let s = c.follow_all-first.new.self in
    let enough : c.args.limits.states ≤ length s.states.keys.keys =
    answer_full c.args.code.now c.args.input.now c.args.limits (length s.states.keys.keys) c.report.result.found.items c.report.result.verdict moves
    (answer c.args.code.now c.args.input.now c.args.limits (length s.states.keys.keys) s.found.items c.report.result.found.items c.follow_all-first.result
    c.confirmed-verdict.result c.report.result.verdict (ap (λ x. x.items) c.report.ensures.found) c.report.ensures.verdict c.confirmed-verdict.ensures.same
    c.follow_all-first.ensures.answer) full in
    omega (arith, enough, c.report.ensures.states)

pub returns-clause-few : goal.returns-clause-few
returns-clause-few g c = omega (arith, c.follow_all-first.ensures.few, c.report.ensures.states)

pub returns-clause-many : goal.returns-clause-many
returns-clause-many g c = λ moves many.
    let s = c.follow_all-first.new.self in
    answer_many c.args.code.now c.args.input.now c.args.limits (length s.states.keys.keys) c.report.result.found.items c.report.result.verdict moves
    (answer c.args.code.now c.args.input.now c.args.limits (length s.states.keys.keys) s.found.items c.report.result.found.items c.follow_all-first.result
    c.confirmed-verdict.result c.report.result.verdict (ap (λ x. x.items) c.report.ensures.found) c.report.ensures.verdict c.confirmed-verdict.ensures.same
    c.follow_all-first.ensures.answer) many

pub returns-clause-few_found : goal.returns-clause-few_found
returns-clause-few_found g c = λ most is.
    let none = c.in_ok-search.ensures.begun.found in
    omega (arith, c.follow_all-first.ensures.finds.few most is (omega (arith, ap length none)), ap (λ x. length x.items) c.report.ensures.found)

pub returns-clause-watches : goal.returns-clause-watches
returns-clause-watches g c =
    let s = c.follow_all-first.new.self in
    WhereTold-map (IsWatched c.follow_all-first.result (c.args.limits.states + 1) (length s.states.keys.keys + 1))
    (IsWatched c.report.result.verdict (c.args.limits.states + 1) c.report.result.states) (g.W.Watcher.seen c.args.watcher.now)
    (g.W.Watcher.seen c.follow_all-first.new.watcher)
    (λ x y h.
    subst (λ y. y) (λ i. IsWatched (sym c.report.ensures.verdict i) (c.args.limits.states + 1) (sym c.report.ensures.states i) x y)
    (watched_confirmed c.follow_all-first.result c.confirmed-verdict.result (c.args.limits.states + 1) (length s.states.keys.keys + 1) x y
    c.confirmed-verdict.ensures.same h)) c.follow_all-first.ensures.watches

pub returns-clause-cause : goal.returns-clause-cause
returns-clause-cause g c = λ unit coded is.
    subst (λ (x : Verdict). HasCause c.args.limits.turns unit c.args.input.now x c.report.result.cut.items) (sym c.report.ensures.verdict)
    (subst (λ (xs : List ℕ). HasCause c.args.limits.turns unit c.args.input.now c.confirmed-verdict.result xs)
    (c.deref.ensures.value ∙ sym (ap (λ x. x.items) c.report.ensures.cut)) (c.confirmed-verdict.ensures.cause unit coded is))

pub returns-clause-longest : goal.returns-clause-longest
returns-clause-longest g c = λ unit coded is.
    let s = c.follow_all-first.new.self in
    longest_fewer c.args.code.now c.args.input.now c.args.limits c.follow_all-first.result s c.report.result.longest c.follow_all-first.ensures.whole
    c.report.ensures.longest unit coded is
