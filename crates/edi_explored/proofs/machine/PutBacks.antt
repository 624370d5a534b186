-- Who has followed one stint from what is put back has followed all machines for which it stands.
use Rattle.std.proofs.Common.{◌≡◌, ◌⊎◌, inl, inr, ℕ, zero, suc, ◌+◌, Option, Some, None, Bool, true, false, ◌||◌, List, [], ◌∷◌, ◌++◌, refl, sym, ap, subst, ◌∙◌, arith}
use Rattle.std.specs.Prelude.{⊤}
use Rattle.edi_calls.specs.State.{State}
use Rattle.edi_calls.specs.Names.{Name, same}
use Rattle.edi_calls.specs.Outcome as outcome
use Rattle.edi_calls.specs.Outcome.{Ending}
use Rattle.edi_calls.specs.Ready.{has, stays, joins}
use Rattle.edi_calls.proofs.Names.{Once}
use Rattle.edi_calls.proofs.Tables.{same-equal}
use Rattle.edi_meaning.proofs.Sound.{or_true, has-append, once-append}
use Rattle.edi_target.proofs.segments.Families.{Sound}
use Rattle.edi_target.specs.Op as op
use Rattle.edi_target.specs.Op.{Instruction}
use Rattle.edi_target.specs.Mach.{Machine, Stepped, went, ended, step, entered}
use Rattle.edi_kernel.specs.Stints.{Stint, unfinished, stint, switched, over, stint_after}
use Rattle.edi_follows.specs.places.Coded.{Coded}
use Rattle.edi_follows.specs.places.Related.{Related}
use Rattle.edi_explored.specs.machine.Alike.{SameShown, Alike}
use Rattle.edi_explored.specs.machine.Alike.{Other}
use Rattle.edi_explored.specs.Covered.{Reordered, Report, endings, shown_endings, Tells, tells_shown, IsCutOrTold}
use Rattle.edi_explored.specs.machine.Machines.{ServesAs, FollowedFrom, FollowedMachines}
use Rattle.edi_explored.specs.machine.Twins.{Twin, StintedTwins}
use Rattle.edi_explored.specs.machine.PutBacks.{KeepsBy, IsFollowed, FollowedPutBacks}
use Rattle.edi_explored.proofs.machine.Calls.{nothing_shown}
use Rattle.edi_explored.proofs.machine.Tied.{as_state, related_other}
use Rattle.edi_explored.proofs.machine.Twins.{twins_stint}

-- ---- lists

neither : (a b : Bool) → (a || b) ≡ false → (a ≡ false) × (b ≡ false)
neither true b e = absurd (cc)
neither false b e = (refl, e)

once_left : (a b : List Name) → Once (a ++ b) → Once a
once_left [] b o = tt
once_left (x ∷ xs) b o = ((neither (has xs x) (has b x) (sym (has-append xs b x) ∙ o.0)).0, once_left xs b o.1)

once_right : (a b : List Name) → Once (a ++ b) → Once b
once_right [] b o = o
once_right (x ∷ xs) b o = once_right xs b o.1

once_apart : (a b : List Name) → Once (a ++ b) → (p : Name) → has a p ≡ true → has b p ≡ false
once_apart [] b o p h = absurd (cc)
once_apart (x ∷ xs) b o p h = go (or_true (same p x) (has xs p) h) (once_apart xs b o.1 p)
  where
    go : (same p x ≡ true) ⊎ (has xs p ≡ true) → (has xs p ≡ true → has b p ≡ false) → has b p ≡ false
    go (inl e) more = ap (has b) (same-equal p x e) ∙ (neither (has xs x) (has b x) (sym (has-append xs b x) ∙ o.0)).1
    go (inr e) more = more e

reordered_on : (a b c : List Name) → Reordered a b → Reordered b c → Reordered a c
reordered_on a b c f g = record { members = λ p. g.members p ∙ f.members p; once = λ o. g.once (f.once o) }

reordered_append : (a b c : List Name) → Reordered a b → Reordered (a ++ c) (b ++ c)
reordered_append a b c r = record {
  members = λ p. has-append b c p ∙ ap (λ x. x || has c p) (r.members p) ∙ sym (has-append a c p);
  once = λ o. once-append b c (r.once (once_left a c o)) (once_right a c o) (λ p h. once_apart a c o p (sym (r.members p) ∙ h));
}

-- ---- machines

shown_on : (told : Bool) (a b c : List ℕ) → SameShown told a b → SameShown told b c → SameShown told a c
shown_on true a b c x y = y ∙ x
shown_on false a b c x y = tt

pub shown_back : (told : Bool) (a b : List ℕ) → SameShown told a b → SameShown told b a
shown_back true a b x = sym x
shown_back false a b x = tt

tells_same : (report : Report) (ending : Ending) (a b : List ℕ) → SameShown (tells_shown report) a b → Tells report ending a → Tells report ending b
tells_same (endings es) ending a b x h = h
tells_same (shown_endings es) ending a b x h = subst (Tells (shown_endings es) ending) (sym x) h

alike_on : (told : Bool) (s t u : State) → Alike told s t → Alike told t u → Alike told s u
alike_on told s t u a b = record {
  input = b.input ∙ a.input;
  slots = b.slots ∙ a.slots;
  blocks = b.blocks ∙ a.blocks;
  found = b.found ∙ a.found;
  buffer = b.buffer ∙ a.buffer;
  shown = shown_on told s.shown t.shown u.shown a.shown b.shown;
}

pub alike_back : (told : Bool) (s t : State) → Alike told s t → Alike told t s
alike_back told s t a = record {
  input = sym a.input;
  slots = sym a.slots;
  blocks = sym a.blocks;
  found = sym a.found;
  buffer = sym a.buffer;
  shown = shown_back told s.shown t.shown a.shown;
}

other_on : (told : Bool) (t u w : Machine) → Other told t u → Other told u w → Other told t w
other_on told t u w a b = record {
  memory = b.memory ∙ a.memory;
  activities = b.activities ∙ a.activities;
  system = alike_on told t.system u.system w.system a.system b.system;
}

-- ---- the machine behind the entry, with two bounds

abbrev BothEnter : Bool → Stepped → Stepped → Type 0
BothEnter told (ended e m) y = ⊤
BothEnter told (went m next) (ended e q) = ⊤
BothEnter told (went m next) (went q other) = Twin told m q

both_enter : (told : Bool) (found : Option (Instruction × ℕ)) (calls : List ℕ) (b c : ℕ) (system : State) →
    BothEnter told (entered found 0 calls b system) (entered found 0 calls c system)
both_enter told (Some (op.entry need r p v f, body)) calls zero c system = tt
both_enter told (Some (op.entry need r p v f, body)) calls (suc b) zero system = tt
both_enter told (Some (op.entry need r p v f, body)) calls (suc b) (suc c) system = record {
  memory = refl;
  activities = refl;
  system = record { input = refl; slots = refl; blocks = refl; found = refl; buffer = refl; shown = nothing_shown told system.shown };
  marks = refl;
}
both_enter told None calls b c system = tt
both_enter told (Some x) calls b c system = tt

enters_twin : (told : Bool) (found : Option (Instruction × ℕ)) (calls : List ℕ) (b c : ℕ) (system : State) (t q : Machine) →
    entered found 0 calls b system ≡ went t stays → entered found 0 calls c system ≡ went q stays → Twin told t q
enters_twin told found calls b c system t q x y =
    subst (λ z. BothEnter told (went t stays) z) y (subst (λ z. BothEnter told z (entered found 0 calls c system)) x (both_enter told found calls b c system))

-- a stint that has come to its end is the same within more steps
abbrev pub IsOver : Stint → Type 0
IsOver unfinished = ⊥
IsOver (switched u joined) = ⊤
IsOver (over ending u) = ⊤

module _ (g : Coded) where
  pub longer : (n k : ℕ) (t : Machine) (p : Name) (others : List Name) → IsOver (stint g.fetched n t p others) →
      stint g.fetched (n + k) t p others ≡ stint g.fetched n t p others
  longer zero k t p others h = absurd h
  longer (suc n) k t p others h =
      ap (λ m. stint g.fetched m t p others) (more_steps n k) ∙ behind_step n k (λ u. longer n k u p others) (step g.fetched t p others) h
    where
      more_steps : (n k : ℕ) → suc n + k ≡ suc (n + k)
      more_steps n k = omega arith

      behind_step : (n k : ℕ) → ((u : Machine) → IsOver (stint g.fetched n u p others) → stint g.fetched (n + k) u p others ≡ stint g.fetched n u p others) →
          (x : Stepped) → IsOver (stint_after (λ u. stint g.fetched n u p others) x) →
          stint_after (λ u. stint g.fetched (n + k) u p others) x ≡ stint_after (λ u. stint g.fetched n u p others) x
      behind_step n k more (went u stays) h = more u h
      behind_step n k more (went u (joins ps)) h = refl
      behind_step n k more (ended e u) h = refl

  -- and so two that have come to their ends are the same
  pub determined : (n k : ℕ) (t : Machine) (p : Name) (others : List Name) → IsOver (stint g.fetched n t p others) → IsOver (stint g.fetched k t p others) →
      stint g.fetched n t p others ≡ stint g.fetched k t p others
  determined n k t p others h i =
      let swapped : n + k ≡ k + n = omega arith in
      sym (longer n k t p others h) ∙ ap (λ m. stint g.fetched m t p others) swapped ∙ longer k n t p others i

  -- another memory serves twins alike
  pub serves_twin : (told : Bool) (u q : Machine) (m : List ℕ) → Twin told u q → ServesAs g u m → ServesAs g q m
  serves_twin told u q m w serves s r =
      let back : Other told q u = record { memory = sym w.memory; activities = sym w.activities; system = alike_back told u.system q.system w.system } in
      let there : Other told (record u { memory = m }) (record q { memory = m }) = record { memory = refl; activities = w.activities; system = w.system } in
      subst (λ x. Related g x (record q { memory = m })) itself
      (related_other told g (as_state s u) (record u { memory = m }) (record q { memory = m }) there
      (serves (as_state s u) (related_other told g s q u back r)))
    where
      itself : as_state (as_state s u) (record q { memory = m }) ≡ s
      itself = λ i. record {
        live = s.live;
        world = record { store = s.world.store; system = record { now = r.system i; past = s.world.system.past }; turns = r.turns i };
      }

module _ (g : Coded) (system : State) (report : Report) (V : Type 0) (begin : V) (PutBack : V → Machine → List Name → Type 0) (Has : ℕ → V → Type 0)
    (f : FollowedPutBacks g system report V begin PutBack Has) where
  abbrev told : Bool
  told = tells_shown report

  abbrev Keeps : V → Machine → List Name → Type 0
  Keeps v t names = KeepsBy g system report V begin PutBack Has v t names

  abbrev Known : ℕ → List Name → Stint → Type 0
  Known n rest x = IsFollowed g system report V begin PutBack Has n rest x

  forgets : (v : V) (t u : Machine) (names other : List Name) → Keeps v t names → Other told t u → Reordered names other → Keeps v u other
  forgets v t u names other k o r = record {
    machine = k.machine;
    order = k.order;
    put = k.put;
    other = other_on told k.machine t u k.other o;
    reordered = reordered_on k.order names other k.reordered r;
  }

  known_over : (n : ℕ) (rest : List Name) (x : Stint) → Known n rest x → IsOver x
  known_over n rest unfinished k = k
  known_over n rest (switched u joined) k = tt
  known_over n rest (over e u) k = tt

  reports_one : (n : ℕ) (rest : List Name) (x : Stint) (e : Ending) (u : Machine) → Known n rest x → StintedTwins told x (over e u) →
      (e ≡ outcome.standstill → ⊥) → IsCutOrTold report e u.system.shown
  reports_one n rest unfinished e u k a own = absurd k
  reports_one n rest (over d v) e u k (inl h) own = elim k.1 [
    | inl s ↦ absurd (own (h.0 ∙ s))
    | inr c ↦ inr (tells_same report e v.system.shown u.system.shown h.1 (subst (λ x. Tells report x v.system.shown) (sym h.0) c))
  ]
  reports_one n rest (over d v) e u k (inr (inl h)) own = absurd (k.0 h)
  reports_one n rest (over d v) e u k (inr (inr h)) own = inl h
  reports_one n rest (switched v joined) e u k a own = inl a

  leads_one : (n : ℕ) (rest others : List Name) (x : Stint) (u : Machine) (joined : List Name) → Reordered rest others → Known n rest x →
      StintedTwins told x (switched u joined) → u.marks ≡ [] →
      (w : V) × Has n w × (m : List ℕ) × ServesAs g u m × Keeps w (record u { memory = m }) (others ++ joined)
  leads_one n rest others unfinished u joined r k a e = absurd k
  leads_one n rest others (over d v) u joined r k a e = absurd (k.0 a)
  leads_one n rest others (switched v ps) u joined r k a e =
      let l = k (sym a.1.marks ∙ e) in (
        l.0,
        l.1,
        l.2,
        serves_twin g told v u l.2 a.1 l.3,
        forgets l.0 (record v { memory = l.2 }) (record u { memory = l.2 }) (rest ++ ps) (others ++ joined) l.4
            (record { memory = refl; activities = a.1.activities; system = a.1.system })
            (subst (λ js. Reordered (rest ++ ps) (others ++ js)) (sym a.0) (reordered_append rest others ps r)),
      )

  together : (n : ℕ) (t q : Machine) (p : Name) (rest others : List Name) (steps more : ℕ) (y : Stint) → IsOver y → stint g.fetched more q p others ≡ y →
      Twin told t q → Reordered rest others → Known n rest (stint g.fetched steps t p rest) → StintedTwins told (stint g.fetched steps t p rest) y
  together n t q p rest others steps more y o e w r k =
      let one : stint g.fetched (steps + more) t p rest ≡ stint g.fetched steps t p rest = longer g steps more t p rest (known_over n rest _ k) in
      let swapped : steps + more ≡ more + steps = omega arith in
      let two : stint g.fetched (steps + more) q p others ≡ y =
      ap (λ m. stint g.fetched m q p others) swapped ∙ longer g more steps q p others (subst IsOver (sym e) o) ∙ e in
      subst (λ x. StintedTwins told x y) one (subst (StintedTwins told (stint g.fetched (steps + more) t p rest)) two
      (twins_stint told g.fetched (steps + more) t q p rest others w r.members))

  from_put : (n : ℕ) (v : V) (t : Machine) (p : Name) (others : List Name) → Has (suc n) v → Keeps v t (p ∷ others) → t.marks ≡ [] → Sound t.activities →
      (m : List ℕ) × ServesAs g t m × FollowedFrom g system report V begin Keeps Has n (record t { memory = m }) p others
  from_put n v t p others h k e nested =
      let l = f.follows n v k.machine k.order p others h k.put (subst Sound k.other.activities nested) k.reordered in
      let w : Twin told k.machine t = record {
        memory = k.other.memory;
        activities = k.other.activities;
        system = k.other.system;
        marks = e ∙ sym (f.unmarked v k.machine k.order k.put);
      } in
      let u : Machine = record k.machine { memory = l.0 } in
      let q : Machine = record t { memory = l.0 } in
      let there : Twin told u q = record { memory = refl; activities = w.activities; system = w.system; marks = w.marks } in (
        l.0,
        serves_twin g told k.machine t l.0 w l.1,
        record {
          reports = λ steps ending y i own. reports_one n l.2 (stint g.fetched l.4 u p l.2) ending y l.5
              (together n u q p l.2 others l.4 steps (over ending y) tt i there l.3 l.5) own;
          leads = λ steps y joined i m. leads_one n l.2 others (stint g.fetched l.4 u p l.2) y joined l.3 l.5
              (together n u q p l.2 others l.4 steps (switched y joined) tt i there l.3 l.5) m;
        },
      )

  -- one first stint tells those with all bounds
  from_entry : (n bound : ℕ) (t : Machine) → Has (suc n) begin → entered (g.fetched 0) 0 g.unit.calls bound system ≡ went t stays →
      FollowedFrom g system report V begin Keeps Has n t [] []
  from_entry n bound t h e =
      let l = f.entry n h in
      let w : Twin told l.1 t = enters_twin told (g.fetched 0) g.unit.calls l.0 bound system l.1 t l.2 e in
      let r : Reordered [] [] = record { members = λ x. refl; once = λ o. o } in
      record {
        reports = λ steps ending y i own. reports_one n [] (stint g.fetched l.3 l.1 [] []) ending y l.4
            (together n l.1 t [] [] [] l.3 steps (over ending y) tt i w r l.4) own;
        leads = λ steps y joined i m. leads_one n [] [] (stint g.fetched l.3 l.1 [] []) y joined r l.4
            (together n l.1 t [] [] [] l.3 steps (switched y joined) tt i w r l.4) m;
      }

  pub put_backs_followed : FollowedMachines g system report V begin Keeps Has
  put_backs_followed = record {
    forgets = forgets;
    follows = from_put;
    stands = λ n v t names h k nested all.
        let back : Other told t k.machine = record {
          memory = sym k.other.memory;
          activities = sym k.other.activities;
          system = alike_back told k.machine.system t.system k.other.system;
        } in
        tells_same report outcome.standstill k.machine.system.shown t.system.shown k.other.system.shown
        (f.stands n v k.machine k.order h k.put (subst Sound k.other.activities nested)
        (λ m serves p others r. all k.machine back (f.unmarked v k.machine k.order k.put) (f.some v k.machine k.order k.put) m serves p others
        (record {
          members = λ x. r.members x ∙ sym (k.reordered.members x);
          once = λ o. r.once (f.once v k.machine k.order k.put);
        })));
    entry = from_entry;
  }
