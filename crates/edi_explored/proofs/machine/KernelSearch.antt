-- A search that has followed one stint of each ready process with a kernel has followed what it puts back.
use Rattle.std.proofs.Common.{◌≡◌, inl, inr, ℕ, zero, suc, ◌<◌, true, false, ◌||◌, List, [], ◌∷◌, length, map, Option, Some, None, refl, sym, ap, subst, ◌∙◌, arith}
use Rattle.edi_calls.specs.Names.{Name}
use Rattle.edi_calls.specs.Outcome as outcome
use Rattle.edi_calls.specs.Ready.{has, name_at, without_index}
use Rattle.edi_calls.specs.State.{State}
use Rattle.edi_calls.proofs.Names as calls
use Rattle.edi_calls.proofs.Tables.{same-refl}
use Rattle.edi_meaning.proofs.Sound.{once-without_place, not-without_place}
use Rattle.edi_ring.specs.Links.{IsAmong}
use Rattle.edi_target.specs.Check.{CodeParts}
use Rattle.edi_target.specs.Fetch.{fetch}
use Rattle.edi_target.specs.Mach as mach
use Rattle.edi_target.specs.Mach.{Machine}
use Rattle.edi_target.proofs.segments.Families.{Sound}
use Rattle.edi_kernel.specs.Stints.{Stint, stint}
use Rattle.edi_kernel.specs.declared.kept.Kept.{Kept}
use Rattle.edi_kernel.specs.Table.{ready_slots}
use Rattle.edi_kernel.specs.Kernel.{GoesTo}
use Rattle.edi_kernel.specs.Kept.{SameProcesses, restarted}
use Rattle.edi_kernel.specs.Runs.{IsAtBy}
use Rattle.edi_kernel.proofs.Again.{slot_of, stands_again}
use Rattle.edi_follows.specs.places.Coded.{Coded}
use Rattle.edi_follows.specs.places.Lands.{StartClaim}
use Rattle.edi_explored.specs.Covered.{Reordered, Report, Tells}
use Rattle.edi_explored.specs.machine.Machines.{Fails, ServesAs}
use Rattle.edi_explored.specs.machine.PutBacks.{IsFollowed, FollowedPutBacks}
use Rattle.edi_explored.specs.machine.Kernels.{IsCodeOf, IsFailed, StintOf, FollowedKernels}
use Rattle.edi_explored.proofs.Members.{members_at}
use Rattle.edi_explored.proofs.machine.Again.{holds_by_name, members_by_name, once_by_name, ready_also}
use Rattle.edi_explored.proofs.machine.Served.{serves}
use Rattle.edi_explored.proofs.machine.Kernels.{same_processes, are_apart, once_of, among_index, same_rest}
use Rattle.edi_explored.proofs.machine.KernelStints.{IsPut, PutBack, HasIt, goes_known, goes_failed}

map_long : (f : ℕ → Name) (xs : List ℕ) → length (map f xs) ≡ length xs
map_long f [] = refl
map_long f (x ∷ xs) = ap suc (map_long f xs)

module _ (g : Coded) (code : CodeParts) (is : IsCodeOf g code) (start : State) (bound : ℕ) (report : Report) (V : Type 0) (processes : V → List Kept)
    (slots : V → List ℕ) (system : V → State) (Begun : ℕ → Type 0) (Has : ℕ → V → Type 0)
    (f : FollowedKernels code start bound report V processes slots system Begun Has) where
  abbrev Put : V → Machine → List Name → Type 0
  Put v t order = IsPut g code is start bound report V processes slots system Begun Has v t order

  abbrev Back : Option V → Machine → List Name → Type 0
  Back = PutBack g code is start bound report V processes slots system Begun Has

  abbrev Holding : ℕ → Option V → Type 0
  Holding = HasIt g code is start bound report V processes slots system Begun Has

  abbrev Known : ℕ → List Name → Stint → Type 0
  Known n rest x = IsFollowed g start report (Option V) None Back Holding n rest x

  abbrev Stints : ℕ → V → ℕ → Type 0
  Stints n v i = StintOf code start bound report V processes slots system Begun Has n v i

  -- ---- one stint, from what is put back

  module _ (v : V) (t : Machine) (order : List Name) (p : Put v t order) (n i : ℕ) (s : Stints n v i) (among : i < length (slots v)) where
    abbrev like : SameProcesses p.kernel s.back
    like = same_processes (processes v) p.kernel s.back p.back s.is_back

    -- the machine that the kernel of the stint is, and who is ready in it
    abbrev here : Machine
    here = restarted t s.back.store bound (system v)

    abbrev ready : List Name
    ready = map p.holds.naming.name (ready_slots s.back.table)

    abbrev who : Name
    who = name_at ready i

    abbrev rest : List Name
    rest = without_index ready i

    long_list : i < length ready
    long_list = subst (λ xs. i < length (map p.holds.naming.name xs)) (sym s.order) (subst (λ l. i < l) (sym (map_long p.holds.naming.name (slots v))) among)

    pub once_ready : calls.Once ready
    once_ready = once_of ready (once_by_name p.kernel s.back t order bound (system v) p.back.kernel s.is_back.kernel p.holds like)

    pub members_ready : (x : Name) → has ready x ≡ has order x
    members_ready = members_by_name p.kernel s.back t order bound (system v) p.back.kernel s.is_back.kernel p.holds like

    pub first_members : (x : Name) → has (who ∷ rest) x ≡ has order x
    first_members x = members_at ready i long_list x ∙ members_ready x

    pub rest_without : has rest who ≡ false
    rest_without = not-without_place ready i long_list once_ready

    pub rest_once : calls.Once rest
    rest_once = once-without_place ready i once_ready

    pub goes : GoesTo code.words s.end bound s.after s.now here who rest
    goes = s.goes here who rest (subst (λ b. IsAtBy b code s.taken (system v) bound here who rest) (sym s.entering)
        (s.takes here ready (holds_by_name p.kernel s.back t order bound (system v) p.back.kernel s.is_back.kernel p.holds like), refl, refl))

    pub served : ServesAs g t s.back.store
    served = serves g t s.back.store s.is_back.long
        (stands_again p.kernel s.back t order bound (system v) p.back.kernel s.is_back.kernel p.holds like).words

    pub is_here : record t { memory = s.back.store } ≡ here
    is_here = λ i. record { memory = s.back.store; activities = t.activities; marks = p.marks i; turns = p.turns i; system = p.is_system i }

    pub known : (steps : ℕ) × Known n rest (stint g.fetched steps (record t { memory = s.back.store }) who rest)
    known =
        let k = goes_known g code is start bound report V processes slots system Begun Has n s.end s.after s.now here who rest goes s.kernel s.free s.long s.found in
        (k.0, subst (Known n rest) (λ i. stint (sym is.fetched i) k.0 (sym is_here i) who rest) k.1)

    pub failed : Fails g (record t { memory = s.back.store }) who rest → IsFailed s.end s.after
    failed fails =
        goes_failed g code is start bound report V processes slots system Begun Has n s.end s.after s.now here who rest goes s.kernel s.free s.found
        (subst (λ x. Fails g x who rest) is_here fails)

  -- ---- each process

  order_once : (v : V) (t : Machine) (order : List Name) (p : Put v t order) → calls.Once order
  order_once v t order p =
      subst calls.Once (sym p.holds.is_ready) (once_of (map p.holds.naming.name (ready_slots p.kernel.table))
      (once_by_name p.kernel p.kernel t order bound (system v) p.back.kernel p.back.kernel p.holds
      (same_processes (processes v) p.kernel p.kernel p.back p.back)))

  -- the index of a process that is ready
  index_of : (n : ℕ) (v : V) (t : Machine) (order : List Name) (p : Put v t order) → Has (suc n) v → (name : Name) → has order name ≡ true →
      (i : ℕ) × (i < length (slots v)) × (name_at (map p.holds.naming.name (slots v)) i ≡ name)
  index_of n v t order p h name there =
      let N : ℕ → Name = p.holds.naming.name in
      let j = slot_of N (ready_slots p.kernel.table) name (sym (ap (λ l. has l name) p.holds.is_ready) ∙ there) in
      let k = f.kept n v h in
      let a : IsAmong j.0 (ready_slots k.0.table) =
      ready_also p.kernel k.0 t order bound (system v) p.back.kernel k.1.kernel p.holds (same_processes (processes v) p.kernel k.0 p.back k.1) j.0 j.1 in
      let r = among_index (slots v) j.0 (subst (IsAmong j.0) k.2 a) N in
      (r.0, r.1, r.2 ∙ sym j.2)

  follows : (n : ℕ) (v : V) (t : Machine) (order : List Name) (name : Name) (others : List Name) → Has (suc n) v → Put v t order → Sound t.activities →
      Reordered order (name ∷ others) → (m : List ℕ) × ServesAs g t m × (rest : List Name) × Reordered rest others × (steps : ℕ)
      × Known n rest (stint g.fetched steps (record t { memory = m }) name rest)
  follows n v t order name others h p nested r =
      let there : has order name ≡ true = sym (r.members name) ∙ ap (λ b. b || has others name) (same-refl name) in
      let x = index_of n v t order p h name there in
      let s : Stints n v x.0 = f.follows n v h (are_apart (processes v) p.kernel t order p.back p.holds nested) x.0 x.1 in
      let is_name : who v t order p n x.0 s x.1 ≡ name = ap (λ l. name_at (map p.holds.naming.name l) x.0) s.order ∙ x.2 in
      let k = known v t order p n x.0 s x.1 in
      let members : (y : Name) → has (name ∷ others) y ≡ has (name ∷ rest v t order p n x.0 s x.1) y =
      λ y. r.members y ∙ sym (first_members v t order p n x.0 s x.1 y) ∙ ap (λ w. has (w ∷ rest v t order p n x.0 s x.1) y) is_name in
      let once : calls.Once (name ∷ others) = r.once (order_once v t order p) in (
        s.back.store,
        served v t order p n x.0 s x.1,
        rest v t order p n x.0 s x.1,
        record {
          members = same_rest name (rest v t order p n x.0 s x.1) others (ap (has (rest v t order p n x.0 s x.1)) (sym is_name)
              ∙ rest_without v t order p n x.0 s x.1) once.0 members;
          once = λ o. once.1;
        },
        k.0,
        subst (λ w. Known n (rest v t order p n x.0 s x.1) (stint g.fetched k.0 (record t { memory = s.back.store }) w (rest v t order p n x.0 s x.1))) is_name k.1,
      )

  stands : (n : ℕ) (v : V) (t : Machine) (order : List Name) → Has (suc n) v → Put v t order → Sound t.activities →
      ((m : List ℕ) → ServesAs g t m → (name : Name) (others : List Name) → Reordered order (name ∷ others) → Fails g (record t { memory = m }) name others) →
      Tells report outcome.standstill t.system.shown
  stands n v t order h p nested all =
      elim (f.stands n v h (are_apart (processes v) p.kernel t order p.back p.holds nested)) [
        | inl told ↦ subst (Tells report outcome.standstill) (ap (λ (y : State). y.shown) (sym p.is_system)) told
        | inr x ↦ absurd (x.goes (all_failed x.index x.one x.among))
      ]
    where
      all_failed : (i : ℕ) (s : Stints n v i) → i < length (slots v) → IsFailed s.end s.after
      all_failed i s among =
          failed v t order p n i s among (all s.back.store (served v t order p n i s among) (who v t order p n i s among) (rest v t order p n i s among)
          (record {
            members = first_members v t order p n i s among;
            once = λ o. (rest_without v t order p n i s among, rest_once v t order p n i s among);
          }))

  -- ---- the first stint

  module _ (starts : StartClaim g) where
    entry : (n : ℕ) → Begun (suc n) → (turns : ℕ) × (t : Machine) × (mach.entered (g.fetched 0) 0 g.unit.calls turns start ≡ mach.went t Rattle.edi_calls.specs.Ready.stays)
        × (steps : ℕ) × Known n [] (stint g.fetched steps t [] [])
    entry n h = go bound refl
      where
        go : (b : ℕ) → b ≡ bound → (turns : ℕ) × (t : Machine) × (mach.entered (g.fetched 0) 0 g.unit.calls turns start ≡ mach.went t Rattle.edi_calls.specs.Ready.stays)
            × (steps : ℕ) × Known n [] (stint g.fetched steps t [] [])
        go zero e = absurd (omega (arith, e, f.some))
        go (suc b) e =
            let b' = starts.begins start b in
            let s = f.first n h in
            let at_code : mach.entered (fetch code.words code.entry) code.entry code.calls bound start ≡ mach.went b'.machine Rattle.edi_calls.specs.Ready.stays =
            (λ i. mach.entered (sym is.fetched i (is.entry i)) (is.entry i) (is.calls i) (sym e i) start) ∙ b'.entered in
            let goes = s.goes b'.machine [] [] (subst (λ x. IsAtBy x code s.started start bound b'.machine [] []) (sym s.starts.entering)
            (s.starts, at_code, refl, refl)) in
            let k = goes_known g code is start bound report V processes slots system Begun Has n s.end s.after s.now b'.machine [] [] goes s.kernel s.free s.long s.found in
            (suc b, b'.machine, b'.entered, k.0, subst (λ x. Known n [] (stint x k.0 b'.machine [] [])) (sym is.fetched) k.1)

    -- ---- all of it

    pub kernels_followed : FollowedPutBacks g start report (Option V) None Back Holding
    kernels_followed = record {
      unmarked = unmarked;
      some = some;
      once = once;
      follows = follows_any;
      stands = stands_any;
      entry = entry;
    }
      where
        unmarked : (v : Option V) (t : Machine) (order : List Name) → Back v t order → t.marks ≡ []
        unmarked None t order p = absurd p
        unmarked (Some v) t order p = p.marks

        some : (v : Option V) (t : Machine) (order : List Name) → Back v t order → 0 < t.turns
        some None t order p = absurd p
        some (Some v) t order p = omega (arith, p.turns, f.some)

        once : (v : Option V) (t : Machine) (order : List Name) → Back v t order → calls.Once order
        once None t order p = absurd p
        once (Some v) t order p = order_once v t order p

        follows_any : (n : ℕ) (v : Option V) (t : Machine) (order : List Name) (name : Name) (others : List Name) → Holding (suc n) v → Back v t order →
            Sound t.activities → Reordered order (name ∷ others) → (m : List ℕ) × ServesAs g t m × (rest : List Name) × Reordered rest others × (steps : ℕ)
            × Known n rest (stint g.fetched steps (record t { memory = m }) name rest)
        follows_any n None t order name others h p nested r = absurd p
        follows_any n (Some v) t order name others h p nested r = follows n v t order name others h p nested r

        stands_any : (n : ℕ) (v : Option V) (t : Machine) (order : List Name) → Holding (suc n) v → Back v t order → Sound t.activities →
            ((m : List ℕ) → ServesAs g t m → (name : Name) (others : List Name) → Reordered order (name ∷ others) → Fails g (record t { memory = m }) name others) →
            Tells report outcome.standstill t.system.shown
        stands_any n None t order h p nested all = absurd p
        stands_any n (Some v) t order h p nested all = stands n v t order h p nested all
