-- Where an instruction forks there is room for its children, and the first process does not end as a branch does.
use Rattle.std.proofs.Common.{◌≡◌, ℕ, zero, suc, ◌+◌, ◌≤◌, Bool, true, false, ◌&&◌, not, nat_eq, nat_lt, if◌then◌else◌, List, length, Option, Some, None}
use Rattle.std.proofs.Common.{refl, arith}
use Rattle.std.specs.Prelude.{⊤}
use Rattle.std.specs.List.{list_any}
use Rattle.std.proofs.lemmas.Bool.Decides.{nat_tests}
use Rattle.edi_calls.specs.Calls.{answer_words}
use Rattle.edi_calls.specs.declared.kinds.Cause.{Cause}
use Rattle.edi_calls.specs.declared.kinds.Cause.TheVariants as cause
use Rattle.edi_target.specs.Op as op
use Rattle.edi_target.specs.Op.{Instruction, Branch}
use Rattle.edi_target.specs.Effect.{Local, entering, leaving, looping, arriving, again, forking, exiting, finishing, Effect, goes, released, asks, due}
use Rattle.edi_target.specs.Effect.{fails, bad, in_range, enter, needs}
use Rattle.edi_target.specs.Perform.{short_cut, with_answer_address, system_call, exceeds, share_of, fork, perform}
use Rattle.edi_target.specs.Mach.{effect_at}

-- a fork leaves at most 32 live processes, and only a child ends as a branch
abbrev pub Fits : (live : ℕ) → (is_first : Bool) → Effect → Type 0
Fits live is_first (due (forking branches) l) = live + length branches ≤ 32
Fits live is_first (due exiting l) = is_first ≡ false
Fits live is_first effect = ⊤

-- the fact as a record, so that its effect is found where it is used
record Fit (live : ℕ) (is_first : Bool) (effect : Effect) : Type 0 where
  fits : Fits live is_first effect

module _ {live : ℕ} {is_first : Bool} where
  either : {effect other : Effect} (b : Bool) → Fit live is_first effect → Fit live is_first other → Fit live is_first (if b then effect else other)
  either true h k = h
  either false h k = k

  test : {effect : Effect} (b : Bool) → Fit live is_first effect → Fit live is_first (if b then effect else bad)
  test true h = h
  test false h = record { fits = tt }

  ranged : {go : ℕ → Effect} (line : ℕ) (x : Option ℕ) → ((z : ℕ) → Fit live is_first (go z)) → Fit live is_first (in_range line x go)
  ranged line None h = record { fits = tt }
  ranged line (Some z) h = h z

  goes_fits : {l : Local} → Fit live is_first (goes l)
  goes_fits = record { fits = tt }

  released_fits : {l : Local} → Fit live is_first (released l)
  released_fits = record { fits = tt }

  asks_fits : {number : ℕ} {arguments : List ℕ} {address : Option ℕ} {line : ℕ} {l : Local} → Fit live is_first (asks number arguments address line l)
  asks_fits = record { fits = tt }

  entering_fits : {l : Local} → Fit live is_first (due entering l)
  entering_fits = record { fits = tt }

  leaving_fits : {l : Local} → Fit live is_first (due leaving l)
  leaving_fits = record { fits = tt }

  looping_fits : {l : Local} → Fit live is_first (due looping l)
  looping_fits = record { fits = tt }

  arriving_fits : {l : Local} → Fit live is_first (due arriving l)
  arriving_fits = record { fits = tt }

  again_fits : {b : Bool} {l : Local} → Fit live is_first (due (again b) l)
  again_fits = record { fits = tt }

  finishing_fits : {l : Local} → Fit live is_first (due finishing l)
  finishing_fits = record { fits = tt }

  fails_fits : {c : Cause} {line : ℕ} → Fit live is_first (fails c line)
  fails_fits = record { fits = tt }

  bad_fits : Fit live is_first bad
  bad_fits = record { fits = tt }

  unheld : {effect : Effect} (b : Bool) (line : ℕ) → Fit live is_first effect → Fit live is_first (if b then fails cause.Held line else effect)
  unheld b line h = either b fails_fits h

  cut : (b : Bool) (target next : ℕ) (l : Local) → Fit live is_first (short_cut b target next l)
  cut true target next l = record { fits = tt }
  cut false target next l = record { fits = tt }

  entered : (found : Option (Instruction × ℕ)) (link back line : ℕ) (l : Local) → Fit live is_first (enter found link back line l)
  entered (Some (op.entry need r p v f, body)) link back line l = search (test, either, fails_fits, entering_fits) depth 9
  entered None link back line l = bad_fits
  entered (Some x) link back line l = bad_fits

  addressed : {go : Option ℕ → Local → Effect} (n : ℕ) (l : Local) → ((address : Option ℕ) (m : Local) → Fit live is_first (go address m))
      → Fit live is_first (with_answer_address n l go)
  addressed zero l h = h None l
  addressed (suc n) l h = test _ (h _ _)

  asked : (number line next : ℕ) (l : Local) → Fit live is_first (system_call number line next l)
  asked number line next l = test _ (addressed (answer_words number) l (λ address m. test _ asks_fits))

  room : (b c : Bool) (line n : ℕ) (branches : List Branch) (l : Local) → b ≡ nat_lt 32 (live + length branches)
      → Fit live is_first (if b then fails cause.ProcessLimit line else if c then fails cause.VariableLimit line else due (forking branches) l)
  room true c line n branches l e = fails_fits
  room false true line n branches l e = fails_fits
  room false false line n branches l e = record { fits = grind (arith, nat_tests) }

forked : {is_first : Bool} (live line next : ℕ) (branches : List Branch) (l : Local) → Fit live is_first (fork live line next branches l)
forked live line next branches l = room (nat_lt 32 (live + length branches)) (list_any (exceeds (share_of l (length branches))) branches) line 0 branches
    (record l { pc = next }) refl

ended : {live : ℕ} (is_first : Bool) (l : Local) → Fit live is_first (needs (not is_first && nat_eq l.base l.first && nat_eq l.held 0) (due exiting l))
ended true l = record { fits = tt }
ended false l = test (nat_eq l.base l.first && nat_eq l.held 0) (record { fits = refl })

each_fits : (fetch : ℕ → Option (Instruction × ℕ)) (live : ℕ) (is_first : Bool) (i : Instruction) (next : ℕ) (l : Local)
    → Fit live is_first (perform fetch live is_first i next l)
each_fits fetch live is_first (op.const value) next l =
    search (
      test,
      either,
      ranged,
      goes_fits,
      released_fits,
      asks_fits,
      entering_fits,
      leaving_fits,
      looping_fits,
      arriving_fits,
      again_fits,
      finishing_fits,
      fails_fits,
    ) depth 9
each_fits fetch live is_first (op.text words) next l =
    search (
      test,
      either,
      ranged,
      goes_fits,
      released_fits,
      asks_fits,
      entering_fits,
      leaving_fits,
      looping_fits,
      arriving_fits,
      again_fits,
      finishing_fits,
      fails_fits,
    ) depth 9
each_fits fetch live is_first (op.zeros count) next l =
    search (
      test,
      either,
      ranged,
      goes_fits,
      released_fits,
      asks_fits,
      entering_fits,
      leaving_fits,
      looping_fits,
      arriving_fits,
      again_fits,
      finishing_fits,
      fails_fits,
    ) depth 9
each_fits fetch live is_first (op.address k offset) next l =
    search (
      test,
      either,
      ranged,
      goes_fits,
      released_fits,
      asks_fits,
      entering_fits,
      leaving_fits,
      looping_fits,
      arriving_fits,
      again_fits,
      finishing_fits,
      fails_fits,
    ) depth 9
each_fits fetch live is_first (op.field offset) next l =
    search (
      test,
      either,
      ranged,
      goes_fits,
      released_fits,
      asks_fits,
      entering_fits,
      leaving_fits,
      looping_fits,
      arriving_fits,
      again_fits,
      finishing_fits,
      fails_fits,
    ) depth 9
each_fits fetch live is_first (op.index low high size line) next l =
    search (
      test,
      either,
      ranged,
      goes_fits,
      released_fits,
      asks_fits,
      entering_fits,
      leaving_fits,
      looping_fits,
      arriving_fits,
      again_fits,
      finishing_fits,
      fails_fits,
    ) depth 9
each_fits fetch live is_first (op.load count) next l =
    search (
      test,
      either,
      ranged,
      goes_fits,
      released_fits,
      asks_fits,
      entering_fits,
      leaving_fits,
      looping_fits,
      arriving_fits,
      again_fits,
      finishing_fits,
      fails_fits,
    ) depth 9
each_fits fetch live is_first (op.store count) next l =
    search (
      test,
      either,
      ranged,
      goes_fits,
      released_fits,
      asks_fits,
      entering_fits,
      leaving_fits,
      looping_fits,
      arriving_fits,
      again_fits,
      finishing_fits,
      fails_fits,
    ) depth 9
each_fits fetch live is_first (op.add line) next l =
    search (
      test,
      either,
      ranged,
      goes_fits,
      released_fits,
      asks_fits,
      entering_fits,
      leaving_fits,
      looping_fits,
      arriving_fits,
      again_fits,
      finishing_fits,
      fails_fits,
    ) depth 9
each_fits fetch live is_first (op.sub line) next l =
    search (
      test,
      either,
      ranged,
      goes_fits,
      released_fits,
      asks_fits,
      entering_fits,
      leaving_fits,
      looping_fits,
      arriving_fits,
      again_fits,
      finishing_fits,
      fails_fits,
    ) depth 9
each_fits fetch live is_first (op.mul line) next l =
    search (
      test,
      either,
      ranged,
      goes_fits,
      released_fits,
      asks_fits,
      entering_fits,
      leaving_fits,
      looping_fits,
      arriving_fits,
      again_fits,
      finishing_fits,
      fails_fits,
    ) depth 9
each_fits fetch live is_first (op.div line) next l =
    search (
      test,
      either,
      ranged,
      goes_fits,
      released_fits,
      asks_fits,
      entering_fits,
      leaving_fits,
      looping_fits,
      arriving_fits,
      again_fits,
      finishing_fits,
      fails_fits,
    ) depth 9
each_fits fetch live is_first (op.mod_ line) next l =
    search (
      test,
      either,
      ranged,
      goes_fits,
      released_fits,
      asks_fits,
      entering_fits,
      leaving_fits,
      looping_fits,
      arriving_fits,
      again_fits,
      finishing_fits,
      fails_fits,
    ) depth 9
each_fits fetch live is_first (op.neg line) next l =
    search (
      test,
      either,
      ranged,
      goes_fits,
      released_fits,
      asks_fits,
      entering_fits,
      leaving_fits,
      looping_fits,
      arriving_fits,
      again_fits,
      finishing_fits,
      fails_fits,
    ) depth 9
each_fits fetch live is_first op.not_ next l =
    search (
      test,
      either,
      ranged,
      goes_fits,
      released_fits,
      asks_fits,
      entering_fits,
      leaving_fits,
      looping_fits,
      arriving_fits,
      again_fits,
      finishing_fits,
      fails_fits,
    ) depth 9
each_fits fetch live is_first (op.eq count) next l =
    search (
      test,
      either,
      ranged,
      goes_fits,
      released_fits,
      asks_fits,
      entering_fits,
      leaving_fits,
      looping_fits,
      arriving_fits,
      again_fits,
      finishing_fits,
      fails_fits,
    ) depth 9
each_fits fetch live is_first (op.ne count) next l =
    search (
      test,
      either,
      ranged,
      goes_fits,
      released_fits,
      asks_fits,
      entering_fits,
      leaving_fits,
      looping_fits,
      arriving_fits,
      again_fits,
      finishing_fits,
      fails_fits,
    ) depth 9
each_fits fetch live is_first op.lt next l =
    search (
      test,
      either,
      ranged,
      goes_fits,
      released_fits,
      asks_fits,
      entering_fits,
      leaving_fits,
      looping_fits,
      arriving_fits,
      again_fits,
      finishing_fits,
      fails_fits,
    ) depth 9
each_fits fetch live is_first op.le next l =
    search (
      test,
      either,
      ranged,
      goes_fits,
      released_fits,
      asks_fits,
      entering_fits,
      leaving_fits,
      looping_fits,
      arriving_fits,
      again_fits,
      finishing_fits,
      fails_fits,
    ) depth 9
each_fits fetch live is_first op.gt next l =
    search (
      test,
      either,
      ranged,
      goes_fits,
      released_fits,
      asks_fits,
      entering_fits,
      leaving_fits,
      looping_fits,
      arriving_fits,
      again_fits,
      finishing_fits,
      fails_fits,
    ) depth 9
each_fits fetch live is_first op.ge next l =
    search (
      test,
      either,
      ranged,
      goes_fits,
      released_fits,
      asks_fits,
      entering_fits,
      leaving_fits,
      looping_fits,
      arriving_fits,
      again_fits,
      finishing_fits,
      fails_fits,
    ) depth 9
each_fits fetch live is_first op.union next l =
    search (
      test,
      either,
      ranged,
      goes_fits,
      released_fits,
      asks_fits,
      entering_fits,
      leaving_fits,
      looping_fits,
      arriving_fits,
      again_fits,
      finishing_fits,
      fails_fits,
    ) depth 9
each_fits fetch live is_first op.minus next l =
    search (
      test,
      either,
      ranged,
      goes_fits,
      released_fits,
      asks_fits,
      entering_fits,
      leaving_fits,
      looping_fits,
      arriving_fits,
      again_fits,
      finishing_fits,
      fails_fits,
    ) depth 9
each_fits fetch live is_first op.meet next l =
    search (
      test,
      either,
      ranged,
      goes_fits,
      released_fits,
      asks_fits,
      entering_fits,
      leaving_fits,
      looping_fits,
      arriving_fits,
      again_fits,
      finishing_fits,
      fails_fits,
    ) depth 9
each_fits fetch live is_first op.in_ next l =
    search (
      test,
      either,
      ranged,
      goes_fits,
      released_fits,
      asks_fits,
      entering_fits,
      leaving_fits,
      looping_fits,
      arriving_fits,
      again_fits,
      finishing_fits,
      fails_fits,
    ) depth 9
each_fits fetch live is_first (op.member line) next l =
    search (
      test,
      either,
      ranged,
      goes_fits,
      released_fits,
      asks_fits,
      entering_fits,
      leaving_fits,
      looping_fits,
      arriving_fits,
      again_fits,
      finishing_fits,
      fails_fits,
    ) depth 9
each_fits fetch live is_first (op.check low high line) next l =
    search (
      test,
      either,
      ranged,
      goes_fits,
      released_fits,
      asks_fits,
      entering_fits,
      leaving_fits,
      looping_fits,
      arriving_fits,
      again_fits,
      finishing_fits,
      fails_fits,
    ) depth 9
each_fits fetch live is_first (op.jump target) next l = search (test, either, goes_fits, cut) depth 9
each_fits fetch live is_first (op.false_ target) next l = search (test, either, goes_fits, cut) depth 9
each_fits fetch live is_first (op.and target) next l = search (test, either, goes_fits, cut) depth 9
each_fits fetch live is_first (op.or target) next l = search (test, either, goes_fits, cut) depth 9
each_fits fetch live is_first (op.loop target) next l =
    search (
      test,
      either,
      ranged,
      goes_fits,
      released_fits,
      asks_fits,
      entering_fits,
      leaving_fits,
      looping_fits,
      arriving_fits,
      again_fits,
      finishing_fits,
      fails_fits,
    ) depth 9
each_fits fetch live is_first (op.entry need r p v f) next l = bad_fits
each_fits fetch live is_first (op.call k target line) next l = entered (fetch target) _ _ line _
each_fits fetch live is_first (op.call_p k offset line) next l = search (test, either, asked, entered) depth 9
each_fits fetch live is_first (op.proc k target) next l =
    search (
      test,
      either,
      ranged,
      goes_fits,
      released_fits,
      asks_fits,
      entering_fits,
      leaving_fits,
      looping_fits,
      arriving_fits,
      again_fits,
      finishing_fits,
      fails_fits,
    ) depth 9
each_fits fetch live is_first (op.return results function) next l =
    search (
      test,
      either,
      ranged,
      goes_fits,
      released_fits,
      asks_fits,
      entering_fits,
      leaving_fits,
      looping_fits,
      arriving_fits,
      again_fits,
      finishing_fits,
      fails_fits,
    ) depth 9
each_fits fetch live is_first (op.halt line) next l =
    search (
      test,
      either,
      ranged,
      goes_fits,
      released_fits,
      asks_fits,
      entering_fits,
      leaving_fits,
      looping_fits,
      arriving_fits,
      again_fits,
      finishing_fits,
      fails_fits,
    ) depth 9
each_fits fetch live is_first (op.when line) next l =
    search (
      test,
      either,
      ranged,
      goes_fits,
      released_fits,
      asks_fits,
      entering_fits,
      leaving_fits,
      looping_fits,
      arriving_fits,
      again_fits,
      finishing_fits,
      fails_fits,
    ) depth 9
each_fits fetch live is_first (op.retry target) next l =
    search (
      test,
      either,
      ranged,
      goes_fits,
      released_fits,
      asks_fits,
      entering_fits,
      leaving_fits,
      looping_fits,
      arriving_fits,
      again_fits,
      finishing_fits,
      fails_fits,
    ) depth 9
each_fits fetch live is_first op.done next l =
    search (
      test,
      either,
      ranged,
      goes_fits,
      released_fits,
      asks_fits,
      entering_fits,
      leaving_fits,
      looping_fits,
      arriving_fits,
      again_fits,
      finishing_fits,
      fails_fits,
    ) depth 9
each_fits fetch live is_first (op.cobegin line branches) next l = unheld (nat_lt 0 l.held) line (forked live line next branches l)
each_fits fetch live is_first op.exit next l = ended is_first _
each_fits fetch live is_first (op.quiet target) next l =
    search (
      test,
      either,
      ranged,
      goes_fits,
      released_fits,
      asks_fits,
      entering_fits,
      leaving_fits,
      looping_fits,
      arriving_fits,
      again_fits,
      finishing_fits,
      fails_fits,
    ) depth 9

effect_fits : (fetch : ℕ → Option (Instruction × ℕ)) (found : Option (Instruction × ℕ)) (live : ℕ) (is_first : Bool) (l : Local)
    → Fit live is_first (effect_at fetch found live is_first l)
effect_fits fetch None live is_first l = bad_fits
effect_fits fetch (Some (i, next)) live is_first l = each_fits fetch live is_first i next l

pub every_effect_fits : (fetch : ℕ → Option (Instruction × ℕ)) (found : Option (Instruction × ℕ)) (live : ℕ) (is_first : Bool) (l : Local)
    → Fits live is_first (effect_at fetch found live is_first l)
every_effect_fits fetch found live is_first l = (effect_fits fetch found live is_first l).fits
