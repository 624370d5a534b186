-- A state that has been put back.
use Rattle.std.proofs.Common.{◌≡◌, ◌⊎◌, inl, inr, ℕ, zero, suc, ◌<◌, ◌≤◌, Bool, true, false, ◌&&◌, not, nat_lt, List, [], ◌∷◌, length}
use Rattle.std.proofs.Common.{slice_get, take, Some, None, refl, sym, ap, ◌∙◌, arith, subst}
use Rattle.std.proofs.lemmas.Bool.{cases_eq}
use Rattle.std.proofs.lemmas.Option.{slice_get_within}
use Rattle.edi_ring.specs.Lists.{home_of}
use Rattle.edi_kernel.specs.declared.kept.Kept.{Kept}
use Rattle.edi_kernel.specs.declared.state.KernelState.{KernelState}
use Rattle.edi_kernel.specs.declared.table.Process.{Process}
use Rattle.edi_kernel.specs.Table.{first_home, is_free_home, is_live, is_waiting, process_at}
use Rattle.edi_kernel.specs.Kept.{IsCleared, activity_of, is_ready, is_ready_home, words_of}
use Rattle.edi_kernel.proofs.Changes.{live_below}
use Rattle.edi_kernel.proofs.Lists.{live_of_home}
use Rattle.edi_kernel.proofs.PutBacks.{first_free}
use Rattle.edi_explore.specs.declared.states.Key.{Key}
use Rattle.edi_explore.specs.declared.states.States.{States}
use Rattle.edi_explore.specs.Back.{AreBack, AreLinedUp, IsEmpty, IsPart, MayLineUp}
use Rattle.edi_explore.specs.States.{IsBackOf, IsState}
use Rattle.edi_explore.proofs.Backs.{one_part}

-- what stands at an index
lookup : {X : Type 0} (xs : List X) (i : ℕ) → i < length xs → (x : X) × (slice_get xs i ≡ Some x)
lookup [] i l = absurd (omega (arith, l))
lookup (x ∷ xs) zero l = (x, refl)
lookup (x ∷ xs) (suc i) l = lookup xs i (omega (arith, l))

whole : (xs : List ℕ) → take (length xs) xs ≡ xs
whole [] = refl
whole (x ∷ xs) = ap (λ ys. x ∷ ys) (whole xs)

pub empty_cleared : (kept : List Kept) (numbers : List ℕ) (old k : KernelState) → IsCleared old k → IsEmpty kept numbers k
empty_cleared kept numbers old k c = record { homes = c.homes; ready = c.ready; marked = c.marked; taken = c.taken }

module _ (s : States) (key : Key) (slots : List ℕ) (is : IsState s key slots) where
  abbrev Part : ℕ → Kept → Type 0
  Part index part = IsPart s.processes.keys key.parts.items index part

  within : (index : ℕ) (part : Kept) → Part index part → index < length key.parts.items
  within index part p = slice_get_within key.parts.items index p.number p.at

  module _ (k : KernelState) (b : AreBack s.processes.keys key.parts.items (length key.parts.items) k) where
    pub may_line_up : MayLineUp slots k
    may_line_up = record {
      inside = λ i slot at. let l = is.lined i slot at in subst (λ n. n < 32) l.3 (is.processes.whole l.0 l.1 l.2).inside;
      homeless = λ i slot at.
          let l = is.lined i slot at in ap (home_of k.table.lists) (sym l.3) ∙ b.here l.0 l.1 (within l.0 l.1 l.2) l.2;
      going = λ i slot at.
          let l = is.lined i slot at in
          ap (λ n. is_waiting (process_at k.table n).standing) (sym l.3)
          ∙ ap (λ (x : Process). is_waiting x.standing) (b.process l.0 l.1 (within l.0 l.1 l.2) l.2)
          ∙ (is.processes.whole l.0 l.1 l.2).going l.4;
      distinct = is.distinct;
      ready = b.ready;
      marked = b.marked;
      taken = b.taken;
    }

    module _ (new : KernelState) (l : AreLinedUp slots (length slots) k new) (entering : k.entering ≡ false) where
      same_store : new.store ≡ k.store
      same_store = ap (λ (x : KernelState). x.store) l.rest

      -- the home of a process that was put back
      home_ready : (index : ℕ) (part : Kept) → Part index part → part.ready ≡ true → home_of new.table.lists part.slot ≡ Some 0
      home_ready index part p e =
          let r : (i : ℕ) × (slice_get slots i ≡ Some part.slot) = is.ready index part p e in
          l.here r.0 part.slot (slice_get_within slots r.0 part.slot r.1) r.1

      home_other : (index : ℕ) (part : Kept) → Part index part → part.ready ≡ false → home_of new.table.lists part.slot ≡ None
      home_other index part p e =
          l.there part.slot (λ i less at. not_ready i at) ∙ b.here index part (within index part p) p
        where
          not_ready : (i : ℕ) → slice_get slots i ≡ Some part.slot → ⊥
          not_ready i at =
              let r = is.lined i part.slot at in
              let same : r.0 ≡ index = is.processes.distinct r.0 index r.1 part r.2 p r.3 in
              let it : r.1 ≡ part = one_part s.processes.keys key.parts.items r.0 index r.1 part same r.2 p in
              let a : true ≡ false = sym r.4 ∙ ap (λ (x : Kept). x.ready) it ∙ e in absurd (cc)

      lives : (index : ℕ) (part : Kept) → Part index part → is_live new.table part.slot ≡ true
      lives index part p = live_of_home new.table part.slot (is.processes.whole index part p).inside (go part.ready refl)
        where
          go : (b : Bool) → part.ready ≡ b → is_free_home (home_of new.table.lists part.slot) ≡ false
          go true e = ap is_free_home (home_ready index part p e)
          go false e = ap is_free_home (home_other index part p e)

      ready_same : (index : ℕ) (part : Kept) → Part index part → part.ready ≡ is_ready new.table part.slot
      ready_same index part p = go part.ready refl
        where
          go : (b : Bool) → part.ready ≡ b → part.ready ≡ is_ready new.table part.slot
          go true e = e ∙ sym (ap is_ready_home (home_ready index part p e))
          go false e = e ∙ sym (ap is_ready_home (home_other index part p e))

      -- who lives has been put back
      all : (slot : ℕ) → is_live new.table slot ≡ true → (index : ℕ) × (part : Kept) × Part index part × (part.slot ≡ slot)
      all slot live = decide (find (length key.parts.items) (omega arith))
        where
          Found : Type 0
          Found = (index : ℕ) × (part : Kept) × Part index part × (part.slot ≡ slot)

          find : (n : ℕ) → n ≤ length key.parts.items → Found ⊎ ((index : ℕ) (part : Kept) → index < n → Part index part → part.slot ≡ slot → ⊥)
          find zero le = inr (λ index part l p e. omega (arith, l))
          find (suc n) le = one n le (find n (omega (arith, le)))
            where
              one : (n : ℕ) → suc n ≤ length key.parts.items → Found ⊎ ((index : ℕ) (part : Kept) → index < n → Part index part → part.slot ≡ slot → ⊥) →
                  Found ⊎ ((index : ℕ) (part : Kept) → index < suc n → Part index part → part.slot ≡ slot → ⊥)
              one n le (inl found) = inl found
              one n le (inr none) =
                  let number : (x : ℕ) × (slice_get key.parts.items n ≡ Some x) = lookup key.parts.items n (omega (arith, le)) in
                  let there : (x : Kept) × (slice_get s.processes.keys number.0 ≡ Some x) =
                  lookup s.processes.keys number.0 (is.processes.there n number.0 number.1) in
                  let part : Part n there.0 = record { number = number.0; at = number.1; is = there.1 } in
                  elim (cases_eq there.0.slot slot) [
                    | inl e ↦ inl (n, there.0, part, e)
                    | inr ne ↦ inr (λ index other l p e. elim (cases_eq index n) [
                      | inl same ↦ ne (ap (λ (x : Kept). x.slot) (sym (one_part s.processes.keys key.parts.items index n other there.0 same p part)) ∙ e)
                      | inr differ ↦ none index other (omega (arith, l, differ)) p e
                    ])
                  ]

          decide : Found ⊎ ((index : ℕ) (part : Kept) → index < length key.parts.items → Part index part → part.slot ≡ slot → ⊥) → Found
          decide (inl found) = found
          decide (inr none) = absurd (dead (not_first slot refl))
            where
              not_first : (n : ℕ) → n ≡ slot → 0 < n
              not_first zero e = absurd (none is.first.0 is.first.1 (within is.first.0 is.first.1 is.first.2) is.first.2 (is.first.3 ∙ e))
              not_first (suc n) e = omega arith

              home : home_of new.table.lists slot ≡ first_home slot
              home =
                  l.there slot (λ i less at. let r = is.lined i slot at in none r.0 r.1 (within r.0 r.1 r.2) r.2 r.3)
                  ∙ b.there slot none

              dead : 0 < slot → ⊥
              dead pos =
                  let free : is_free_home (home_of new.table.lists slot) ≡ true = ap is_free_home (home ∙ first_free slot pos (live_below new.table slot live)) in
                  let a : true ≡ false = sym live ∙ ap (λ t. nat_lt slot 32 && not t) free ∙ none_left (nat_lt slot 32) in absurd (cc)
                where
                  none_left : (t : Bool) → (t && false) ≡ false
                  none_left true = refl
                  none_left false = refl

      pub is_back_of : IsBackOf s key slots new
      is_back_of = record {
        kernel = l.kernel;
        each = λ apart index part p. record {
          lives = lives index part p;
          has = record {
            process = l.process part.slot ∙ b.process index part (within index part p) p;
            words = ap (λ m. words_of m (activity_of part)) same_store ∙ b.words apart index part (within index part p) p;
          };
          ready = ready_same index part p;
        };
        all = all;
        ready = l.ready ∙ whole slots;
        marked = l.marked ∙ b.marked;
        taken = ap (λ (x : KernelState). x.taken) l.rest ∙ b.taken;
        entering = ap (λ (x : KernelState). x.entering) l.rest ∙ entering;
        long = ap length same_store ∙ b.long (omega (arith, within is.first.0 is.first.1 is.first.2));
      }
