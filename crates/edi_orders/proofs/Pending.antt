-- What is still to come of processes that are inside their stints: the changes that the rest of each stint makes. They commute with the steps of all
-- others, whatever these are.
use Rattle.std.proofs.Common.{◌≡◌, ◌⊎◌, inl, inr, Bool, true, false, ◌||◌, if◌then◌else◌, List, [], ◌∷◌, length, suc, Option, Some, None, refl, sym, ap, subst, ◌∙◌}
use Rattle.std.specs.Prelude.{⊤}
use Rattle.edi_calls.specs.Names.{Name, same, find}
use Rattle.edi_calls.specs.Ready.{parent_of}
use Rattle.edi_calls.proofs.Tables.{same-refl, same-equal, same-symmetric}
use Rattle.edi_unit.specs.Tree.{ProgramUnit}
use Rattle.edi_calls.specs.Forks.{equal_share}
use Rattle.edi_meaning.specs.Store.{Instance, Frame, Owns, instances, frames, room}
use Rattle.edi_meaning.specs.Step.{ready, at_when, waiting, Asks, Process, Processes, goes, arrives, again, forks, leaves}
use Rattle.edi_meaning.proofs.Own.{owns_self}
use Rattle.edi_meaning.proofs.Private.{other_than}
use Rattle.edi_disjoint.proofs.Effects.{live_effect, store_effect, born, less}
use Rattle.edi_disjoint.proofs.Exchanged.{owns_parent_of}
use Rattle.edi_disjoint.proofs.Commuting.{live_off, store_off, commute_off, commute_other, commute_apart}

-- neither is an ancestor of the other
pub record Apart (p q : Name) : Type 0 where
  pub differ : same p q ≡ false
  pub above : Owns q p → ⊥
  pub below : Owns p q → ⊥

pub apart_swap : (p q : Name) → Apart p q → Apart q p
apart_swap p q a = record { differ = same-symmetric p q a.differ; above = a.below; below = a.above }

-- the last step of a stint: the process before it, its instances, and what it asks for
pub record Last : Type 0 where
  pub process : Process
  pub own : List Instance
  pub asks : Asks

own_parent : (p : Name) → Owns p (parent_of p)
own_parent p = owns_parent_of p p (owns_self p)

-- r is neither q nor a child of it
abbrev pub untouched : Name → Name → Bool
untouched q r = same r q || same (parent_of r) q

-- ---- one process with another

module _ (p q : Name) (a : Apart p q) where
  -- an ancestor of p is no q, no child of it
  pub off_own : (r : Name) → Owns p r → same r q ≡ false
  off_own r o = other_than q r (λ e. a.below (subst (Owns p) e o))

  pub off_child : (r : Name) → Owns p r → same (parent_of r) q ≡ false
  off_child r o = other_than q (parent_of r) (λ e. a.below (subst (Owns p) e (owns_parent_of p r o)))

  -- and p is no parent of q
  pub off_parent : same p (parent_of q) ≡ false
  off_parent = other_than (parent_of q) p (λ e. a.above (subst (Owns q) (sym e) (own_parent q)))

  -- a child of p is no q, no child of it and no parent of it
  child_off : (r : Name) → parent_of r ≡ p → same r q ≡ false
  child_off r e = other_than q r (λ f. a.above (subst (Owns q) (ap parent_of (sym f) ∙ e) (own_parent q)))

  child_off_child : (r : Name) → parent_of r ≡ p → same (parent_of r) q ≡ false
  child_off_child r e = ap (λ x. same x q) e ∙ a.differ

  child_off_parent : (r : Name) → parent_of r ≡ p → same r (parent_of q) ≡ false
  child_off_parent r e = other_than (parent_of q) r (λ f. a.above (subst (Owns q) (ap parent_of (sym f) ∙ e) (owns_parent_of q (parent_of q) (own_parent q))))

module _ (unit : ProgramUnit) (p : Name) (x : Process) (fs : List Frame) (c : Asks) (q : Name) (y : Process) (gs : List Frame) (d : Asks) (a : Apart p q) where
  -- what q does passes by p and its children
  off_p : (r : Name) → (r ≡ p) ⊎ (parent_of r ≡ p) → (o : Option Process) → live_effect unit q y gs d r o ≡ o
  off_p r (inl e) = live_off unit q y gs d r (ap (λ z. same z q) e ∙ a.differ) (ap (λ z. same (parent_of z) q) e ∙ off_child p q a p (owns_self p))
      (ap (λ z. same z (parent_of q)) e ∙ off_parent p q a)
  off_p r (inr e) = live_off unit q y gs d r (child_off p q a r e) (child_off_child p q a r e) (child_off_parent p q a r e)

-- what two processes do to others commutes
module _ (unit : ProgramUnit) (p : Name) (x : Process) (fs : List Frame) (c : Asks) (q : Name) (y : Process) (gs : List Frame) (d : Asks) (a : Apart p q) where
  pub live_commutes : (r : Name) (o : Option Process) → live_effect unit q y gs d r (live_effect unit p x fs c r o) ≡ live_effect unit p x fs c r (live_effect unit q y gs d r o)
  live_commutes r o = go (same r p) refl (same (parent_of r) p) refl (same r q) refl (same (parent_of r) q) refl
    where
      go : (i : Bool) → same r p ≡ i → (j : Bool) → same (parent_of r) p ≡ j → (k : Bool) → same r q ≡ k → (l : Bool) → same (parent_of r) q ≡ l →
          live_effect unit q y gs d r (live_effect unit p x fs c r o) ≡ live_effect unit p x fs c r (live_effect unit q y gs d r o)
      go true e j f k g l h = commute_off unit p x fs c q y gs d r (off_p unit p x fs c q y gs d a r (inl (same-equal r p e))) o
      go false e true f k g l h = commute_off unit p x fs c q y gs d r (off_p unit p x fs c q y gs d a r (inr (same-equal (parent_of r) p f))) o
      go false e false f true g l h = commute_other unit p x fs c q y gs d r (off_p unit q y gs d p x fs c (apart_swap p q a) r (inl (same-equal r q g))) o
      go false e false f false g true h = commute_other unit p x fs c q y gs d r (off_p unit q y gs d p x fs c (apart_swap p q a) r (inr (same-equal (parent_of r) q h))) o
      go false e false f false g false h = commute_apart unit p x fs c q y gs d r e f g h o

-- ---- what is pending of one process

one : (b : Bool) → b ≡ true → (o o' a : Option Process) → (if b then a else o) ≡ (if b then a else o')
one true e o o' a = refl
one false e o o' a = absurd (cc)

module _ (unit : ProgramUnit) where
  abbrev pub live_of : Name → Last → Name → Option Process → Option Process
  live_of q l r o = live_effect unit q l.process (frames l.own) l.asks r o

  -- its instances are these, and then it takes its last step
  abbrev pub store_of : Name → Last → Name → List Instance → List Instance
  store_of q l r is = store_effect unit q l.process (frames l.own) l.asks r (if same r q then l.own else is)

  pub store_of_off : (q : Name) (l : Last) (r : Name) → same r q ≡ false → same (parent_of r) q ≡ false → (is : List Instance) → store_of q l r is ≡ is
  store_of_off q l r m n is =
      store_off unit q l.process (frames l.own) l.asks r m n (if same r q then l.own else is) ∙ ap (λ b. if b then l.own else is) m

  module _ (p : Name) (x : Process) (fs : List Frame) (c : Asks) (q : Name) (l : Last) (a : Apart p q) where
    -- and it commutes with what another does to the instances of others
    pub store_commutes : (r : Name) (is : List Instance) → store_of q l r (store_effect unit p x fs c r is) ≡ store_effect unit p x fs c r (store_of q l r is)
    store_commutes r is = go (same r p) refl (same (parent_of r) p) refl
      where
        off : same r q ≡ false → same (parent_of r) q ≡ false → store_of q l r (store_effect unit p x fs c r is) ≡ store_effect unit p x fs c r (store_of q l r is)
        off m n = store_of_off q l r m n (store_effect unit p x fs c r is) ∙ sym (ap (store_effect unit p x fs c r) (store_of_off q l r m n is))

        go : (i : Bool) → same r p ≡ i → (j : Bool) → same (parent_of r) p ≡ j →
            store_of q l r (store_effect unit p x fs c r is) ≡ store_effect unit p x fs c r (store_of q l r is)
        go true e j f =
            let is : r ≡ p = same-equal r p e in
            off (ap (λ z. same z q) is ∙ a.differ) (ap (λ z. same (parent_of z) q) is ∙ off_child p q a p (owns_self p))
        go false e true f =
            let is : parent_of r ≡ p = same-equal (parent_of r) p f in off (child_off p q a r is) (child_off_child p q a r is)
        go false e false f =
            ap (store_of q l r) (store_off unit p x fs c r e f is) ∙ sym (store_off unit p x fs c r e f (store_of q l r is))

    -- and with what p has of its own
    pub own_commutes : (r : Name) (own is : List Instance) → store_of q l r (if same r p then own else is) ≡ (if same r p then own else store_of q l r is)
    own_commutes r own is = go (same r p) refl
      where
        go : (b : Bool) → same r p ≡ b → store_of q l r (if b then own else is) ≡ (if b then own else store_of q l r is)
        go true e =
            let at : r ≡ p = same-equal r p e in
            store_of_off q l r (ap (λ z. same z q) at ∙ a.differ) (ap (λ z. same (parent_of z) q) at ∙ off_child p q a p (owns_self p)) own
        go false e = refl

  -- the entry of the process itself is told by its last step alone
  told_by : (q : Name) (y : Process) (fs : List Frame) (d : Asks) → same q q ≡ true → (o o' : Option Process) → live_effect unit q y fs d q o ≡ live_effect unit q y fs d q o'
  told_by q y fs (goes work) e o o' = one (same q q) e o o' (Some (record y { work = work; standing = ready }))
  told_by q y fs (arrives cs position work) e o o' = one (same q q) e o o' (Some (record y { work = work; standing = at_when cs position }))
  told_by q y fs (again cs position quiet work) e o o' = one (same q q) e o o' (Some (record y { work = work; standing = at_when cs position }))
  told_by q y fs (forks bs line work) e o o' =
      ap (born unit q (suc y.forks) (equal_share (room y.size fs) (length bs)) bs 0 q)
      (one (same q q) e o o' (Some (record y { forks = suc y.forks; work = work; standing = waiting (length bs) })))
  told_by q y fs leaves e o o' =
      ap (λ (z : Option Process). if same q (parent_of q) then less z else z) (one (same q q) e o o' None)

  pub live_told : (q : Name) (l : Last) (o o' : Option Process) → live_of q l q o ≡ live_of q l q o'
  live_told q l o o' = told_by q l.process (frames l.own) l.asks (same-refl q) o o'

  pub store_told : (q : Name) (l : Last) (is js : List Instance) → store_of q l q is ≡ store_of q l q js
  store_told q l is js =
      ap (λ b. store_effect unit q l.process (frames l.own) l.asks q (if b then l.own else is)) (same-refl q)
      ∙ sym (ap (λ b. store_effect unit q l.process (frames l.own) l.asks q (if b then l.own else js)) (same-refl q))

-- ---- what is pending of several

abbrev pub Pending : Type 0
Pending = List (Name × Last)

-- p is apart from each of them
abbrev pub ApartAll : Name → Pending → Type 0
ApartAll p [] = ⊤
ApartAll p (e ∷ ks) = Apart p e.0 × ApartAll p ks

-- p is none of them
abbrev pub NotIn : Name → Pending → Type 0
NotIn p [] = ⊤
NotIn p (e ∷ ks) = (same p e.0 ≡ false) × NotIn p ks

-- no two have one name
abbrev pub Distinct : Pending → Type 0
Distinct [] = ⊤
Distinct (e ∷ ks) = NotIn e.0 ks × Distinct ks

module _ (unit : ProgramUnit) where
  abbrev pub all_live : Pending → Name → Option Process → Option Process
  all_live [] r o = o
  all_live (e ∷ ks) r o = all_live ks r (live_of unit e.0 e.1 r o)

  abbrev pub all_store : Pending → Name → List Instance → List Instance
  all_store [] r is = is
  all_store (e ∷ ks) r is = all_store ks r (store_of unit e.0 e.1 r is)

  -- some change this one
  abbrev pub touched : Pending → Name → Bool
  touched [] r = false
  touched (e ∷ ks) r = untouched e.0 r || touched ks r

  or_parts : (a b : Bool) → (a || b) ≡ false → (a ≡ false) × (b ≡ false)
  or_parts true b e = absurd (cc)
  or_parts false b e = (refl, e)

  pub all_untouched : (ks : Pending) (r : Name) → touched ks r ≡ false → (is : List Instance) → all_store ks r is ≡ is
  all_untouched [] r t is = refl
  all_untouched (e ∷ ks) r t is =
      let h : (untouched e.0 r ≡ false) × (touched ks r ≡ false) = or_parts (untouched e.0 r) (touched ks r) t in
      let k : (same r e.0 ≡ false) × (same (parent_of r) e.0 ≡ false) = or_parts (same r e.0) (same (parent_of r) e.0) h.0 in
      ap (all_store ks r) (store_of_off unit e.0 e.1 r k.0 k.1 is) ∙ all_untouched ks r h.1 is

  -- of p, and of the instances that it may use, nothing changes
  pub owned_untouched : (ks : Pending) (p : Name) → ApartAll p ks → (r : Name) → Owns p r → touched ks r ≡ false
  owned_untouched [] p a r o = refl
  owned_untouched (e ∷ ks) p a r o =
      ap (λ b. (b || same (parent_of r) e.0) || touched ks r) (off_own p e.0 a.0 r o) ∙ ap (λ b. b || touched ks r) (off_child p e.0 a.0 r o)
      ∙ owned_untouched ks p a.1 r o

  pub live_fixed : (ks : Pending) (p : Name) → ApartAll p ks → (o : Option Process) → all_live ks p o ≡ o
  live_fixed [] p a o = refl
  live_fixed (e ∷ ks) p a o =
      ap (all_live ks p) (live_off unit e.0 e.1.process (frames e.1.own) e.1.asks p a.0.differ (off_child p e.0 a.0 p (owns_self p)) (off_parent p e.0 a.0) o)
      ∙ live_fixed ks p a.1 o

  pub store_fixed : (ks : Pending) (p : Name) → ApartAll p ks → (r : Name) → Owns p r → (is : List Instance) → all_store ks r is ≡ is
  store_fixed ks p a r o is = all_untouched ks r (owned_untouched ks p a r o) is

  -- all that is pending commutes with what p does
  module _ (p : Name) (x : Process) (fs : List Frame) (c : Asks) where
    pub all_live_commute : (ks : Pending) → ApartAll p ks → (r : Name) (o : Option Process) →
        all_live ks r (live_effect unit p x fs c r o) ≡ live_effect unit p x fs c r (all_live ks r o)
    all_live_commute [] a r o = refl
    all_live_commute (e ∷ ks) a r o =
        ap (all_live ks r) (live_commutes unit p x fs c e.0 e.1.process (frames e.1.own) e.1.asks a.0 r o)
        ∙ all_live_commute ks a.1 r (live_of unit e.0 e.1 r o)

    pub all_store_commute : (ks : Pending) → ApartAll p ks → (r : Name) (is : List Instance) →
        all_store ks r (store_effect unit p x fs c r is) ≡ store_effect unit p x fs c r (all_store ks r is)
    all_store_commute [] a r is = refl
    all_store_commute (e ∷ ks) a r is =
        ap (all_store ks r) (store_commutes unit p x fs c e.0 e.1 a.0 r is) ∙ all_store_commute ks a.1 r (store_of unit e.0 e.1 r is)

    pub all_own_commute : (ks : Pending) → ApartAll p ks → (r : Name) (own is : List Instance) →
        all_store ks r (if same r p then own else is) ≡ (if same r p then own else all_store ks r is)
    all_own_commute [] a r own is = refl
    all_own_commute (e ∷ ks) a r own is =
        ap (all_store ks r) (own_commutes unit p x fs c e.0 e.1 a.0 r own is) ∙ all_own_commute ks a.1 r own (store_of unit e.0 e.1 r is)

-- ---- the state of stints beside the state of steps

-- S is s where each of these has done the rest of its stint. Turns are not compared.
pub record Shifted (unit : ProgramUnit) (ks : Pending) (s S : Processes) : Type 0 where
  pub live : (r : Name) → find S.live r ≡ all_live unit ks r (find s.live r)
  pub store : (r : Name) → instances S.world.store r ≡ all_store unit ks r (instances s.world.store r)
  pub system : S.world.system ≡ s.world.system
