-- What each instruction does to `held`, and where a fork comes from.
use Rattle.std.proofs.Common.{◌≡◌, ℕ, zero, suc, ◌+◌, ◌<◌, Bool, true, false, nat_lt, nat_eq, if◌then◌else◌, List, Option, Some, None, length, refl, ap, arith}
use Rattle.std.specs.Prelude.{nat_le, ⊤}
use Rattle.std.specs.List.{list_any}
use Rattle.std.proofs.lemmas.Bool.{cond_both, eqb-true, leb-true, and_parts}
use Rattle.edi_calls.specs.Forks.{most_processes}
use Rattle.edi_calls.specs.declared.kinds.Cause.{Cause}
use Rattle.edi_calls.specs.declared.kinds.Cause.TheVariants as cause
use Rattle.edi_calls.specs.Calls.{answer_words}
use Rattle.edi_target.specs.Op as op
use Rattle.edi_target.specs.Op.{Instruction, Branch, is_allowed, is_count}
use Rattle.edi_target.specs.Fetch.{fetch}
use Rattle.edi_target.specs.Effect.{Local, entering, leaving, looping, arriving, again, forking, exiting, finishing, Effect, goes, released, asks, due}
use Rattle.edi_target.specs.Effect.{fails, bad, in_range, enter}
use Rattle.edi_target.specs.Perform.{short_cut, with_answer_address, system_call, perform, exceeds, share_of}
use Rattle.edi_machine.specs.Starts.{IsFork, branches_in}

module _ (words : List ℕ) (at : ℕ) where
  -- the activity that goes on has as many phases and calls as before, but where it ends its phase; a fork is that of the COBEGIN here
  abbrev pub Lawful : ℕ → Effect → Type 0
  Lawful held (goes l) = l.held ≡ held
  Lawful held (asks number arguments address line l) = l.held ≡ held
  Lawful held (released l) = (held ≡ 1) × (l.held ≡ 0)
  Lawful held (due (forking branches) l) = IsFork words at branches l
  Lawful held _ = ⊤

  -- the fact as a record, so that its effect is found where it is used
  pub record Law (held : ℕ) (effect : Effect) : Type 0 where
    pub law : Lawful held effect

  either : {held : ℕ} {effect other : Effect} (b : Bool) → Law held effect → Law held other → Law held (if b then effect else other)
  either true h k = h
  either false h k = k

  test : {held : ℕ} {effect : Effect} (b : Bool) → Law held effect → Law held (if b then effect else bad)
  test true h = h
  test false h = record { law = tt }

  ranged : {held : ℕ} {go : ℕ → Effect} (line : ℕ) (x : Option ℕ) → ((z : ℕ) → Law held (go z)) → Law held (in_range line x go)
  ranged line None h = record { law = tt }
  ranged line (Some z) h = h z

  -- the ends of an instruction
  goes_law : {held : ℕ} {l : Local} → l.held ≡ held → Law held (goes l)
  goes_law h = record { law = h }

  asks_law : {held number : ℕ} {arguments : List ℕ} {address : Option ℕ} {line : ℕ} {l : Local} → l.held ≡ held
      → Law held (asks number arguments address line l)
  asks_law h = record { law = h }

  entering_law : {held : ℕ} {l : Local} → Law held (due entering l)
  entering_law = record { law = tt }

  leaving_law : {held : ℕ} {l : Local} → Law held (due leaving l)
  leaving_law = record { law = tt }

  looping_law : {held : ℕ} {l : Local} → Law held (due looping l)
  looping_law = record { law = tt }

  arriving_law : {held : ℕ} {l : Local} → Law held (due arriving l)
  arriving_law = record { law = tt }

  again_law : {held : ℕ} {marks : Bool} {l : Local} → Law held (due (again marks) l)
  again_law = record { law = tt }

  exiting_law : {held : ℕ} {l : Local} → Law held (due exiting l)
  exiting_law = record { law = tt }

  finishing_law : {held : ℕ} {l : Local} → Law held (due finishing l)
  finishing_law = record { law = tt }

  fails_law : {held : ℕ} {c : Cause} {line : ℕ} → Law held (fails c line)
  fails_law = record { law = tt }

  bad_law : {held : ℕ} → Law held bad
  bad_law = record { law = tt }

  cut : {held : ℕ} (b : Bool) (target next : ℕ) (l : Local) → l.held ≡ held → Law held (short_cut b target next l)
  cut true target next l h = record { law = h }
  cut false target next l h = record { law = h }

  entered : {held : ℕ} (found : Option (Instruction × ℕ)) (link back line : ℕ) (l : Local) → Law held (enter found link back line l)
  entered (Some (op.entry need r p v f, body)) link back line l = search (test, either, fails_law, entering_law) depth 9
  entered None link back line l = bad_law
  entered (Some x) link back line l = bad_law

  addressed : {held : ℕ} {go : Option ℕ → Local → Effect} (n : ℕ) (l : Local) → l.held ≡ held
      → ((address : Option ℕ) (m : Local) → m.held ≡ held → Law held (go address m)) → Law held (with_answer_address n l go)
  addressed zero l e h = h None l e
  addressed (suc n) l e h = test _ (h _ _ e)

  asked : (number line next : ℕ) (l : Local) → Law l.held (system_call number line next l)
  asked number line next l = test _ (addressed (answer_words number) l refl (λ address m e. test _ (asks_law e)))

  -- DONE ends a phase
  ended : (l : Local) (next : ℕ) → Law l.held (if nat_eq l.held 1 then released (record l { pc = next; held = 0 }) else bad)
  ended l next =
      cond_both (nat_eq l.held 1) (released (record l { pc = next; held = 0 })) bad (Law l.held) (λ e. record { law = (eqb-true l.held 1 e, refl) })
      (λ e. bad_law)

  -- a COBEGIN forks
  forked : (live : ℕ) (is_first : Bool) (line next : ℕ) (branches : List Branch) (l : Local) → fetch words at ≡ Some (op.cobegin line branches, next)
      → 0 < length branches → Law l.held (perform (fetch words) live is_first (op.cobegin line branches) next l)
  forked live is_first line next branches l here some =
      either (nat_lt 0 l.held) (fails_law {c = cause.Held} {line = line})
      (either (nat_lt most_processes (live + length branches)) (fails_law {c = cause.ProcessLimit} {line = line})
      (cond_both (list_any (exceeds (share_of l (length branches))) branches) (fails cause.VariableLimit line)
      (due (forking branches) (record l { pc = next })) (Law l.held)
      (λ e. fails_law)
      (λ e. record { law = record { here = ap branches_in here; some = some; fits = e } })))

  some_branches : (branches : List Branch) (line : ℕ) → is_allowed (op.cobegin line branches) ≡ true → 0 < length branches
  some_branches branches line allowed =
      let count = and_parts (is_count (length branches)) _ allowed in
      let parts = and_parts (nat_le 1 (length branches)) _ count.0 in
      omega (arith, leb-true 1 (length branches) parts.0)

  pub each_law : (live : ℕ) (is_first : Bool) (i : Instruction) (next : ℕ) (l : Local) → fetch words at ≡ Some (i, next) → is_allowed i ≡ true
      → Law l.held (perform (fetch words) live is_first i next l)
  each_law live is_first (op.const value) next l here allowed = search (test, either, ranged, goes_law, fails_law) depth 9
  each_law live is_first (op.text words) next l here allowed = search (test, either, ranged, goes_law, fails_law) depth 9
  each_law live is_first (op.zeros count) next l here allowed = search (test, either, ranged, goes_law, fails_law) depth 9
  each_law live is_first (op.address k offset) next l here allowed = search (test, either, ranged, goes_law, fails_law) depth 9
  each_law live is_first (op.field offset) next l here allowed = search (test, either, ranged, goes_law, fails_law) depth 9
  each_law live is_first (op.index low high size line) next l here allowed = search (test, either, ranged, goes_law, fails_law) depth 9
  each_law live is_first (op.load count) next l here allowed = search (test, either, ranged, goes_law, fails_law) depth 9
  each_law live is_first (op.store count) next l here allowed = search (test, either, ranged, goes_law, fails_law) depth 9
  each_law live is_first (op.add line) next l here allowed = search (test, either, ranged, goes_law, fails_law) depth 9
  each_law live is_first (op.sub line) next l here allowed = search (test, either, ranged, goes_law, fails_law) depth 9
  each_law live is_first (op.mul line) next l here allowed = search (test, either, ranged, goes_law, fails_law) depth 9
  each_law live is_first (op.div line) next l here allowed = search (test, either, ranged, goes_law, fails_law) depth 9
  each_law live is_first (op.mod_ line) next l here allowed = search (test, either, ranged, goes_law, fails_law) depth 9
  each_law live is_first (op.neg line) next l here allowed = search (test, either, ranged, goes_law, fails_law) depth 9
  each_law live is_first op.not_ next l here allowed = search (test, either, ranged, goes_law, fails_law) depth 9
  each_law live is_first (op.eq count) next l here allowed = search (test, either, ranged, goes_law, fails_law) depth 9
  each_law live is_first (op.ne count) next l here allowed = search (test, either, ranged, goes_law, fails_law) depth 9
  each_law live is_first op.lt next l here allowed = search (test, either, ranged, goes_law, fails_law) depth 9
  each_law live is_first op.le next l here allowed = search (test, either, ranged, goes_law, fails_law) depth 9
  each_law live is_first op.gt next l here allowed = search (test, either, ranged, goes_law, fails_law) depth 9
  each_law live is_first op.ge next l here allowed = search (test, either, ranged, goes_law, fails_law) depth 9
  each_law live is_first op.union next l here allowed = search (test, either, ranged, goes_law, fails_law) depth 9
  each_law live is_first op.minus next l here allowed = search (test, either, ranged, goes_law, fails_law) depth 9
  each_law live is_first op.meet next l here allowed = search (test, either, ranged, goes_law, fails_law) depth 9
  each_law live is_first op.in_ next l here allowed = search (test, either, ranged, goes_law, fails_law) depth 9
  each_law live is_first (op.member line) next l here allowed = search (test, either, ranged, goes_law, fails_law) depth 9
  each_law live is_first (op.check low high line) next l here allowed = search (test, either, ranged, goes_law, fails_law) depth 9
  each_law live is_first (op.jump target) next l here allowed = search (test, either, ranged, goes_law, fails_law) depth 9
  each_law live is_first (op.false_ target) next l here allowed = search (test, either, ranged, goes_law, fails_law) depth 9
  each_law live is_first (op.and target) next l here allowed = search (test, cut) depth 9
  each_law live is_first (op.or target) next l here allowed = search (test, cut) depth 9
  each_law live is_first (op.loop target) next l here allowed = looping_law
  each_law live is_first (op.entry need r p v f) next l here allowed = bad_law
  each_law live is_first (op.call k target line) next l here allowed = entered (fetch words target) _ _ line l
  each_law live is_first (op.call_p k offset line) next l here allowed = search (test, either, asked, entered) depth 9
  each_law live is_first (op.proc k target) next l here allowed = search (test, either, ranged, goes_law, fails_law) depth 9
  each_law live is_first (op.return results function) next l here allowed = search (test, either, leaving_law, finishing_law) depth 9
  each_law live is_first (op.halt line) next l here allowed = fails_law
  each_law live is_first (op.when line) next l here allowed = search (either, fails_law, arriving_law) depth 9
  each_law live is_first (op.retry target) next l here allowed = test _ again_law
  each_law live is_first op.done next l here allowed = ended l next
  each_law live is_first (op.cobegin line branches) next l here allowed = forked live is_first line next branches l here (some_branches branches line allowed)
  each_law live is_first op.exit next l here allowed = test _ exiting_law
  each_law live is_first (op.quiet target) next l here allowed = test _ again_law
