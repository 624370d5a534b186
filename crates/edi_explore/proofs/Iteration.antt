-- One stint of a search: what was found of it, and what was found before of others.
use Rattle.std.proofs.Common.{◌≡◌, ◌⊎◌, inl, inr, ℕ, ◌<◌, ◌≤◌, ◌^◌, arith, Bool, false, List, length, None, refl, sym, ap, subst, ◌∙◌}
use Rattle.edi_calls.specs.Outcome as outcome
use Rattle.edi_calls.specs.State.{State}
use Rattle.edi_target.specs.Check.{CodeParts}
use Rattle.edi_kernel.specs.declared.ends.Ending.{Ending}
use Rattle.edi_kernel.specs.declared.ends.Ending.TheVariants as ending
use Rattle.edi_kernel.specs.declared.ends.StintEnd.{StintEnd}
use Rattle.edi_kernel.specs.declared.ends.StintEnd.TheVariants as stint_end
use Rattle.edi_kernel.specs.declared.state.KernelState.{KernelState}
use Rattle.edi_kernel.specs.Kernel.{IsKernel, is_over}
use Rattle.edi_kernel.specs.Runs.{IsAt}
use Rattle.edi_kernel.specs.Table.{ready_slots}
use Rattle.edi_explored.specs.Covered.{Report, Tells}
use Rattle.edi_explored.specs.machine.Alike.{Alike}
use Rattle.edi_explored.specs.machine.Kernels as law
use Rattle.edi_explored.specs.machine.Kernels.{IsBack, IsFailed, IsFound, LeadsOn, StintOf}
use Rattle.edi_explored.specs.machine.Levels.{StateTable, Below, IsExpanded, Nothing}
use Rattle.edi_explored.specs.machine.Ranks.{Among}
use Rattle.edi_explored.proofs.machine.Levels.{IsLater, expanded_later, goes_later, same_later, stint_later}
use Rattle.edi_explore.specs.declared.ends.Found.{Found}
use Rattle.edi_explore.specs.declared.ends.Limits.{Limits}
use Rattle.edi_explore.specs.declared.finding.Search.{Search}
use Rattle.edi_explore.specs.declared.offline.Offline.{Offline}
use Rattle.edi_explore.specs.declared.states.States.{States}
use Rattle.edi_explore.specs.Expand.{HasExpanded, HasOneThatGoes, HasStint, LeadsFrom, Never}
use Rattle.edi_explore.specs.Found.{IsTold}
use Rattle.edi_explore.specs.Links.{targets_of}
use Rattle.edi_explore.specs.Offline.{offline}
use Rattle.edi_explore.specs.Shown.{HasEnding, asks_of, told_by}
use Rattle.edi_explore.specs.Systems.{system_of}
use Rattle.edi_explore.specs.States.{AreStates, Follows, IsAdded, IsAddedFrom, slots_of}
use Rattle.edi_explore.specs.Steps.{GoesOn, IsProper}
use Rattle.edi_explore.specs.Tables.{Grows, table_of}
use Rattle.edi_explore.proofs.Findings.{asks_same, tells, tells_more}
use Rattle.edi_explore.proofs.Links.{targets_still}
use Rattle.edi_explore.proofs.Table.{is_back, is_order, is_system, later_of, leads_there, alike_there, processes_still, system_still, longer, grows_added}

-- ---- what was found of a stint, by how it has ended

pub is_told : (e : Ending) → IsProper e → IsTold e
is_told ending.Done h = tt
is_told (ending.Halted line) h = tt
is_told (ending.Failed cause line) h = tt
is_told ending.Turns h = absurd h
is_told ending.Standstill h = absurd h
is_told (ending.Bad at) h = tt
is_told ending.Fault h = absurd h

pub fails_marked : (end : StintEnd) (k : KernelState) → is_over end ≡ false → 0 < k.table.marks → IsFailed end k
fails_marked (stint_end.Arrived used) k over marks = marks
fails_marked (stint_end.Forked used) k over marks = marks
fails_marked (stint_end.Exited used) k over marks = marks
fails_marked (stint_end.Over used e) k over marks = absurd (cc)

pub goes_on : (end : StintEnd) (k : KernelState) → is_over end ≡ false → k.table.marks ≡ 0 → IsFailed end k → ⊥
goes_on (stint_end.Arrived used) k over none f = omega (arith, none, f)
goes_on (stint_end.Forked used) k over none f = omega (arith, none, f)
goes_on (stint_end.Exited used) k over none f = omega (arith, none, f)
goes_on (stint_end.Over used e) k over none f = cc

pub goes_ended : (used : ℕ) (e : Ending) (k : KernelState) → IsProper e → IsFailed (stint_end.Over used e) k → ⊥
goes_ended used ending.Done k p f = f
goes_ended used (ending.Halted line) k p f = f
goes_ended used (ending.Failed cause line) k p f = f
goes_ended used ending.Turns k p f = f
goes_ended used ending.Standstill k p f = p
goes_ended used (ending.Bad at) k p f = f
goes_ended used ending.Fault k p f = f

module _ (code : CodeParts) (start : State) (turns : ℕ) (asks : Bool) (found : List Found) (table : StateTable) (Has : ℕ → ℕ → Type 0) where
  abbrev report : Report
  report = told_by asks found

  abbrev pub FoundSo : StintEnd → KernelState → State → Type 0
  FoundSo end k now = IsFound code start turns report ℕ table.processes table.slots table.system (Nothing code start turns report table) Has 0 end k now

  abbrev pub Leads : KernelState → State → Type 0
  Leads k now = LeadsOn code start turns report ℕ table.processes table.slots table.system (Nothing code start turns report table) Has 0 k now

  -- it was only an attempt that failed
  pub found_failed : (end : StintEnd) (k : KernelState) (now : State) → IsFailed end k → FoundSo end k now
  found_failed (stint_end.Arrived used) k now f = λ none. absurd (omega (arith, none, f))
  found_failed (stint_end.Forked used) k now f = λ none. absurd (omega (arith, none, f))
  found_failed (stint_end.Exited used) k now f = λ none. absurd (omega (arith, none, f))
  found_failed (stint_end.Over used ending.Done) k now f = absurd f
  found_failed (stint_end.Over used (ending.Halted line)) k now f = absurd f
  found_failed (stint_end.Over used (ending.Failed cause line)) k now f = absurd f
  found_failed (stint_end.Over used ending.Turns) k now f = absurd f
  found_failed (stint_end.Over used ending.Standstill) k now f = tt
  found_failed (stint_end.Over used (ending.Bad at)) k now f = absurd f
  found_failed (stint_end.Over used ending.Fault) k now f = absurd f

  -- it leads to a state
  pub found_led : (end : StintEnd) (k : KernelState) (now : State) → is_over end ≡ false → Leads k now → FoundSo end k now
  found_led (stint_end.Arrived used) k now over l = l
  found_led (stint_end.Forked used) k now over l = l
  found_led (stint_end.Exited used) k now over l = l
  found_led (stint_end.Over used e) k now over l = absurd (cc)

  -- it has ended the run, in a way that is told
  pub found_ended : (used : ℕ) (e : Ending) (k : KernelState) (now : State) → IsProper e → HasEnding asks found e now.shown → FoundSo (stint_end.Over used e) k now
  found_ended used ending.Done k now p h = λ end same. tells asks found ending.Done now.shown end h same
  found_ended used (ending.Halted line) k now p h = λ end same. tells asks found (ending.Halted line) now.shown end h same
  found_ended used (ending.Failed cause line) k now p h = λ end same. tells asks found (ending.Failed cause line) now.shown end h same
  found_ended used ending.Turns k now p h = absurd p
  found_ended used ending.Standstill k now p h = absurd p
  found_ended used (ending.Bad at) k now p h = λ end same. tells asks found (ending.Bad at) now.shown end h same
  found_ended used ending.Fault k now p h = absurd p

-- ---- a stint that was followed

module _ (code : CodeParts) (input : List ℕ) (limits : Limits) (old new : States) (found : List Found) (v index : ℕ) (end : StintEnd) (k : KernelState) (o : Offline)
    (before : AreStates old) (inside : v < length old.keys.keys) (grows : Grows old new) (same : o.input.items ≡ input) (h : GoesOn old code limits.turns v index end k o)
  where
    abbrev N : StateTable
    N = table_of new input

    abbrev told : Report
    told = told_by (asks_of limits) found

    abbrev LeadsThere : ℕ → ℕ → Type 0
    LeadsThere = Among code (offline input) limits.turns told N (length new.keys.keys) (targets_of new.links.items) (targets_of new.links.items v)

    abbrev Stint : Type 0
    Stint = StintOf code (offline input) limits.turns told ℕ N.processes N.slots N.system (Nothing code (offline input) limits.turns told N) LeadsThere 0 v index

    -- with this end, and the kernel after it
    pub stint_there : FoundSo code (offline input) limits.turns (asks_of limits) found N LeadsThere end k (system_of o) → law.AreApart (N.processes v) →
        (one : Stint) × (one.end ≡ end) × (one.after ≡ k)
    stint_there f apart =
        let ps = processes_still old new input before grows v inside in
        let placed : h.placed.input.items ≡ input = ap (λ x. x.items) (sym h.input) ∙ same in
        let system = system_still old new input before grows v inside ∙ sym (is_system old input v h.back h.placed before h.puts h.printed placed) in
        let one : Stint = record {
          back = h.back;
          is_back = subst (λ x. IsBack x h.back) (sym ps) (is_back old input v h.back h.placed before h.puts (subst law.AreApart ps apart));
          order = is_order old input v h.back h.placed before h.puts ∙ sym (grows.slots v inside);
          taken = h.taken;
          takes = h.takes;
          entering = h.entering;
          end = end;
          after = k;
          now = system_of o;
          goes = λ m p others at. h.goes m p others (subst (λ y. IsAt code h.taken y limits.turns m p others) system at);
          kernel = h.kernel;
          long = h.long;
          free = h.free;
          found = f;
        } in
        (one, refl, refl)

-- ---- states that are added

-- a state that is added leads where it is kept
pub leads_on : (code : CodeParts) (input : List ℕ) (turns : ℕ) (asks : Bool) (old new : States) (found : List Found) (k : KernelState) (o : Offline)
    (Has : ℕ → ℕ → Type 0) (h : IsAdded asks old new k o) → Has 0 h.number → o.input.items ≡ input →
    Leads code (offline input) turns asks found (table_of new input) Has k (system_of o)
leads_on code input turns asks old new found k o Has h has same none = (
  h.number,
  has,
  leads_there old new input asks k o h,
  subst (λ t. Alike t ((table_of new input).system h.number) (system_of o)) (sym (asks_same asks found)) (alike_there old new input asks k o h same),
)

abbrev pub AreKeptIn : States → (input : List ℕ) → Type 0
AreKeptIn s input = (v : ℕ) → v < length s.keys.keys → (k : KernelState) × IsBack ((table_of s input).processes v) k × (ready_slots k.table ≡ (table_of s input).slots v)

pub kept_still : (old new : States) (input : List ℕ) (v : ℕ) → AreStates old → Grows old new → AreKeptIn old input → v < length old.keys.keys →
    (k : KernelState) × IsBack ((table_of new input).processes v) k × (ready_slots k.table ≡ (table_of new input).slots v)
kept_still old new input v before grows kept l =
    let r = kept v l in
    (r.0, subst (λ x. IsBack x r.0) (sym (processes_still old new input before grows v l)) r.1, r.2 ∙ sym (grows.slots v l))

-- each state is that of some kernel
pub kept_added : (from : ℕ) (asks : Bool) (old new : States) (input : List ℕ) (k : KernelState) (o : Offline) → AreStates old → IsKernel k → k.taken ≡ None → k.table.marks ≡ 0 →
    length k.store ≡ 2 ^ 16 → IsAddedFrom from asks old new k o → AreKeptIn old input → AreKeptIn new input
kept_added from asks old new input k o before kernel free marks long (h, link) kept v l = go (h.fresh v l)
  where
    go : (v < length old.keys.keys) ⊎ ((v ≡ h.number) × (slots_of new v ≡ ready_slots k.table)) →
        (q : KernelState) × IsBack ((table_of new input).processes v) q × (ready_slots q.table ≡ (table_of new input).slots v)
    go (inl less) = kept_still old new input v before (grows_added from asks old new k o (h, link)) kept less
    go (inr e) = (
      k,
      record {
        kernel = kernel;
        free = free;
        unmarked = kernel.table.clear marks;
        long = long;
        has = subst (λ n. law.AreKeptOf ((table_of new input).processes n) k) (sym e.0) (leads_there old new input asks k o h);
      },
      sym e.1,
    )

-- ---- what was found before

module _ (code : CodeParts) (input : List ℕ) (limits : Limits) (a b : Search) (before : AreStates a.states) (grows : Grows a.states b.states)
    (more : Follows a.found.items b.found.items) where
  abbrev Was : Report
  Was = told_by (asks_of limits) a.found.items

  abbrev Is : Report
  Is = told_by (asks_of limits) b.found.items

  abbrev TA : StateTable
  TA = table_of a.states input

  abbrev TB : StateTable
  TB = table_of b.states input

  pub is_later : (next next' : ℕ) → next ≤ length a.states.keys.keys → next ≤ next' → IsLater Was Is TA TB (λ w. w < next) (λ w. w < next')
  is_later next next' within low =
      later_of a.states b.states input before grows Was Is (λ e shown t. tells_more (asks_of limits) a.found.items b.found.items e shown more t)
      (asks_same (asks_of limits) b.found.items ∙ sym (asks_same (asks_of limits) a.found.items)) (λ w. w < next) (λ w. w < next')
      (λ w l. (omega (arith, l, low), omega (arith, l, within)))

  abbrev from : ℕ
  from = length a.states.keys.keys

  abbrev to : ℕ
  to = length b.states.keys.keys

  high : from ≤ to
  high = longer a.states b.states input before grows

  -- along the links of one state
  is_later_from : (v : ℕ) → IsLater Was Is TA TB (LeadsFrom code input limits a v 0) (LeadsFrom code input limits b v 0)
  is_later_from v =
      later_of a.states b.states input before grows Was Is (λ e shown t. tells_more (asks_of limits) a.found.items b.found.items e shown more t)
      (asks_same (asks_of limits) b.found.items ∙ sym (asks_same (asks_of limits) a.found.items)) (LeadsFrom code input limits a v 0)
      (LeadsFrom code input limits b v 0)
      (λ w h. ((omega (arith, h.0, high), targets_still a.states.links.items b.states.links.items v w grows.links h.1), h.0))

  pub stint_still : (v index : ℕ) → v < from → HasStint code input limits a v index → HasStint code input limits b v index
  stint_still v index l s =
      stint_later code (offline input) limits.turns Was Is TA TB (Never code input limits a) (Never code input limits b) (LeadsFrom code input limits a v)
      (LeadsFrom code input limits b v) 0 0 (is_later_from v) v index (processes_still a.states b.states input before grows v l) (grows.slots v l)
      (system_still a.states b.states input before grows v l) s

  pub goes_still : (v : ℕ) → v < from → HasOneThatGoes code input limits a v → HasOneThatGoes code input limits b v
  goes_still v l s =
      goes_later code (offline input) limits.turns Was Is TA TB (Never code input limits a) (Never code input limits b) (LeadsFrom code input limits a v)
      (LeadsFrom code input limits b v) 0 0 (is_later_from v) v (processes_still a.states b.states input before grows v l) (grows.slots v l)
      (system_still a.states b.states input before grows v l) s

  pub expanded_still : (v : ℕ) → v < from → HasExpanded code input limits a v → HasExpanded code input limits b v
  expanded_still v l x =
      let ps = processes_still a.states b.states input before grows v l in
      record {
        follows = λ apart index among.
            stint_still v index l (x.follows (subst law.AreApart ps apart) index (subst (λ xs. index < length xs) (grows.slots v l) among));
        stands = λ apart. elim (x.stands (subst law.AreApart ps apart)) [
          | inl told ↦ inl (tells_more (asks_of limits) a.found.items b.found.items outcome.standstill (TB.system v).shown more
              (subst (λ (y : State). Tells Was outcome.standstill y.shown) (sym (system_still a.states b.states input before grows v l)) told))
          | inr goes ↦ inr (goes_still v l goes)
        ];
      }

  -- of fewer states
  pub expanded_below : (next v : ℕ) → next ≤ from → v < from →
      IsExpanded code (offline input) limits.turns Was TA next v →
      IsExpanded code (offline input) limits.turns Is TB next v
  expanded_below next v within l x =
      expanded_later code (offline input) limits.turns Was Is TA TB next next v (is_later next next within (omega arith))
      (processes_still a.states b.states input before grows v l) (grows.slots v l) (system_still a.states b.states input before grows v l) x

-- a state that was expanded leads to states that are kept
module _ (code : CodeParts) (input : List ℕ) (limits : Limits) (s : Search) (v : ℕ) (x : HasExpanded code input limits s v) where
  abbrev Now : Report
  Now = told_by (asks_of limits) s.found.items

  abbrev T : StateTable
  T = table_of s.states input

  abbrev never : ℕ → Type 0
  never = Nothing code (offline input) limits.turns Now T

  abbrev along : ℕ → ℕ → Type 0
  along = LeadsFrom code input limits s v

  abbrev under : ℕ → ℕ → Type 0
  under = Below code (offline input) limits.turns Now T (length s.states.keys.keys)

  down : IsLater Now Now T T (along 0) (under 0)
  down = same_later code (offline input) limits.turns Now T (along 0) (under 0) (λ w l. l.0)

  pub expanded_down : IsExpanded code (offline input) limits.turns Now T (length s.states.keys.keys) v
  expanded_down = record {
    follows = λ apart index among. stint_later code (offline input) limits.turns Now Now T T never never along under 0 0 down v index refl
        refl refl (x.follows apart index among);
    stands = λ apart. elim (x.stands apart) [
      | inl told ↦ inl told
      | inr goes ↦ inr (goes_later code (offline input) limits.turns Now Now T T never never along under 0 0 down v refl refl refl goes)
    ];
  }
