-- The two orders of two steps of processes of disjoint branches, compared name by name.
use Rattle.std.proofs.Common.{◌≡◌, ℕ, ◌⊎◌, inl, inr, false, List, length, Option}
use Rattle.std.proofs.Common.{sym, subst, ap, ◌∙◌, arith}
use Rattle.std.specs.Prelude.{slice_get, slice_index_or, unwrap_or}
use Rattle.edi_calls.specs.Names.{Name, same, find}
use Rattle.edi_calls.specs.Ready.{parent_of}
use Rattle.edi_unit.specs.Fits.{Fits}
use Rattle.edi_unit.specs.Tree.{ProgramUnit}
use Rattle.edi_meaning.specs.Store.{Cell, Instance, Store, instances, frames, shape, no_frame, cells_in, no_cell, cell, Owns}
use Rattle.edi_meaning.specs.Evaluation.{World}
use Rattle.edi_meaning.specs.Step.{Asks, Process, Processes}
use Rattle.edi_meaning.proofs.Own.{owns_self}
use Rattle.edi_disjoint.specs.Footprints.{Variable, Sees, Writes, CallsSystem, Disjoint}
use Rattle.edi_disjoint.proofs.Puts.{cells_of}
use Rattle.edi_disjoint.proofs.Agreeing.{variable_in, writes_seen, Rewritten}
use Rattle.edi_disjoint.proofs.SecondLaw.{Second}
use Rattle.edi_disjoint.proofs.Effects.{live_effect, store_effect, cost}
use Rattle.edi_disjoint.proofs.Commuting.{instances_equal, live_off, store_off, commute_off, commute_other, commute_apart}
use Rattle.edi_disjoint.proofs.Exchanged.{Takes, Two, two_swap, disjoint_swap, law, agree_after, unowned}

module _ (unit : ProgramUnit) (ok : Fits unit) where
  -- ---- both orders: p makes s1 of s and q then x; q makes s2 of s and p then y

  -- where p's effect on r is all that matters
  module _ (a b : ℕ) (d : Disjoint unit a b) (s : Processes) (p q : Name) (t : Two unit ok a b d s p q)
      (ap1 aq2 aq1 ap2 : Asks) (w1 w2 wx wy : World) (s1 s2 x y : Processes)
      (first : Takes unit ok s p t.one.process ap1 w1 s1) (second : Takes unit ok s q t.other.process aq2 w2 s2)
      (then_q : Takes unit ok s1 q t.other.process aq1 wx x) (then_p : Takes unit ok s2 p t.one.process ap2 wy y) where
    abbrev d' : Disjoint unit b a
    d' = disjoint_swap unit a b d

    abbrev turned : Two unit ok b a d' s q p
    turned = two_swap unit ok a b d s p q t

    abbrev X : Process
    X = t.one.process

    abbrev Y : Process
    Y = t.other.process

    pub of_p : (ap1 ≡ ap2) × Second unit ok d.unnamed a d.first_others p X.size s.world s2.world (shape s.world.store) w1 wy
    of_p = law unit ok a d.unnamed d.first_others s p t.one s2.world ap1 ap2 w1 wy (agree_after unit ok a b d s p q t aq2 w2 s2 second) first.local then_p.local

    of_q : (aq2 ≡ aq1) × Second unit ok d.unnamed b d.second_others q Y.size s.world s1.world (shape s.world.store) w2 wx
    of_q = law unit ok b d.unnamed d.second_others s q t.other s1.world aq2 aq1 w2 wx (agree_after unit ok b a d' s q p turned ap1 w1 s1 first) second.local then_q.local

    -- what p does to r, and what q does, is the same in both orders
    same_p : (r : Name) (o : Option Process) → live_effect unit p X (shape wy.store p) ap2 r o ≡ live_effect unit p X (shape w1.store p) ap1 r o
    same_p r o =
        ap (λ fs. live_effect unit p X fs ap2 r o) (sym (of_p.1.agree.frames p (owns_self p))) ∙ ap (λ z. live_effect unit p X (shape w1.store p) z r o) (sym of_p.0)

    same_q : (r : Name) (o : Option Process) → live_effect unit q Y (shape wx.store q) aq1 r o ≡ live_effect unit q Y (shape w2.store q) aq2 r o
    same_q r o =
        ap (λ fs. live_effect unit q Y fs aq1 r o) (sym (of_q.1.agree.frames q (owns_self q))) ∙ ap (λ z. live_effect unit q Y (shape w2.store q) z r o) (sym of_q.0)

    same_store_p : (r : Name) (is : List Instance) → store_effect unit p X (shape wy.store p) ap2 r is ≡ store_effect unit p X (shape w1.store p) ap1 r is
    same_store_p r is =
        ap (λ fs. store_effect unit p X fs ap2 r is) (sym (of_p.1.agree.frames p (owns_self p))) ∙ ap (λ z. store_effect unit p X (shape w1.store p) z r is) (sym of_p.0)

    -- ---- the processes

    pub live_x : (r : Name) → find x.live r ≡ live_effect unit q Y (shape w2.store q) aq2 r (live_effect unit p X (shape w1.store p) ap1 r (find s.live r))
    live_x r = then_q.results.live r ∙ same_q r (find s1.live r) ∙ ap (live_effect unit q Y (shape w2.store q) aq2 r) (first.results.live r)

    pub live_y : (r : Name) → find y.live r ≡ live_effect unit p X (shape w1.store p) ap1 r (live_effect unit q Y (shape w2.store q) aq2 r (find s.live r))
    live_y r = then_p.results.live r ∙ same_p r (find s2.live r) ∙ ap (live_effect unit p X (shape w1.store p) ap1 r) (second.results.live r)

    -- of whom q leaves as they are
    pub untouched : (r : Name) → same r q ≡ false → same (parent_of r) q ≡ false → same r (parent_of q) ≡ false → find x.live r ≡ find y.live r
    untouched r m n k =
        live_x r
        ∙ commute_off unit p X (shape w1.store p) ap1 q Y (shape w2.store q) aq2 r (live_off unit q Y (shape w2.store q) aq2 r m n k) (find s.live r) ∙ sym (live_y r)

    -- or p
    pub untouched_p : (r : Name) → same r p ≡ false → same (parent_of r) p ≡ false → same r (parent_of p) ≡ false → find x.live r ≡ find y.live r
    untouched_p r m n k =
        live_x r
        ∙ commute_other unit p X (shape w1.store p) ap1 q Y (shape w2.store q) aq2 r (live_off unit p X (shape w1.store p) ap1 r m n k) (find s.live r) ∙ sym (live_y r)

    pub apart : (r : Name) → same r p ≡ false → same (parent_of r) p ≡ false → same r q ≡ false → same (parent_of r) q ≡ false → find x.live r ≡ find y.live r
    apart r m n k l =
        live_x r ∙ commute_apart unit p X (shape w1.store p) ap1 q Y (shape w2.store q) aq2 r m n k l (find s.live r) ∙ sym (live_y r)

    -- ---- the instances

    store_x : (r : Name) → same r q ≡ false → same (parent_of r) q ≡ false → instances x.world.store r ≡ instances wx.store r
    store_x r m n = then_q.results.store r ∙ store_off unit q Y (shape wx.store q) aq1 r m n (instances wx.store r)

    store_y : (r : Name) → same r p ≡ false → same (parent_of r) p ≡ false → instances y.world.store r ≡ instances wy.store r
    store_y r m n = then_p.results.store r ∙ store_off unit p X (shape wy.store p) ap2 r m n (instances wy.store r)

    store_1 : (r : Name) → same r p ≡ false → same (parent_of r) p ≡ false → instances s1.world.store r ≡ instances w1.store r
    store_1 r m n = first.results.store r ∙ store_off unit p X (shape w1.store p) ap1 r m n (instances w1.store r)

    store_2 : (r : Name) → same r q ≡ false → same (parent_of r) q ≡ false → instances s2.world.store r ≡ instances w2.store r
    store_2 r m n = second.results.store r ∙ store_off unit q Y (shape w2.store q) aq2 r m n (instances w2.store r)

    -- r is p's alone
    pub mine : (r : Name) → same r q ≡ false → same (parent_of r) q ≡ false → (Owns q r → ⊥) → instances w1.store r ≡ instances wy.store r →
        instances x.world.store r ≡ instances y.world.store r
    mine r m n o h =
        store_x r m n ∙ unowned unit b q r s1.world wx of_q.1.right o m ∙ first.results.store r
        ∙ ap (store_effect unit p X (shape w1.store p) ap1 r) h ∙ sym (same_store_p r (instances wy.store r)) ∙ sym (then_p.results.store r)

    pub mine_child : (r : Name) → same r p ≡ false → same r q ≡ false → same (parent_of r) q ≡ false → (Owns q r → ⊥) → (Owns p r → ⊥) →
        instances x.world.store r ≡ instances y.world.store r
    mine_child r i m n o u =
        mine r m n o
        (unowned unit a p r s.world w1 of_p.1.left u i
        ∙ sym (unowned unit a p r s2.world wy of_p.1.right u i ∙ store_2 r m n ∙ unowned unit b q r s.world w2 of_q.1.left o m))

    -- r is neither of them nor a child of one
    module _ (r : Name) (off_p : same r p ≡ false) (child_p : same (parent_of r) p ≡ false) (off_q : same r q ≡ false) (child_q : same (parent_of r) q ≡ false) where
      of_list : (i j : ℕ) → List Instance → Cell
      of_list i j is = slice_index_or (cells_in is i) j no_cell

      frames_1 : shape w1.store r ≡ shape s.world.store r
      frames_1 = of_p.1.left.frames r off_p

      frames_2 : shape w2.store r ≡ shape s.world.store r
      frames_2 = of_q.1.left.frames r off_q

      frames_s1 : shape s1.world.store r ≡ shape s.world.store r
      frames_s1 = ap frames (store_1 r off_p child_p) ∙ frames_1

      frames_s2 : shape s2.world.store r ≡ shape s.world.store r
      frames_s2 = ap frames (store_2 r off_q child_q) ∙ frames_2

      -- the variable of a cell is the same in all of these
      variable : (store : Store) → shape store r ≡ shape s.world.store r → (i j : ℕ) → variable_in store (r, i) j ≡ variable_in s.world.store (r, i) j
      variable store h i j = ap (λ fs. record { home = (unwrap_or (slice_get fs i) no_frame).block; number = j }) h

      cell_1 : (i j : ℕ) → cell s1.world.store (r, i) j ≡ cell w1.store (r, i) j
      cell_1 i j = ap (λ is. slice_index_or (cells_in is i) j no_cell) (store_1 r off_p child_p)

      cell_2 : (i j : ℕ) → cell s2.world.store (r, i) j ≡ cell w2.store (r, i) j
      cell_2 i j = ap (λ is. slice_index_or (cells_in is i) j no_cell) (store_2 r off_q child_q)

      -- what p wrote it wrote in both orders, and so did q
      by_p : (i j : ℕ) → Owns p r → Writes unit a (variable_in s.world.store (r, i) j) → cell w1.store (r, i) j ≡ cell wy.store (r, i) j
      by_p i j o m = of_p.1.agree.seen (r, i) j o (subst (Sees unit a) (sym (variable w1.store frames_1 i j)) (writes_seen unit a _ m))

      by_q : (i j : ℕ) → Owns q r → Writes unit b (variable_in s.world.store (r, i) j) → cell w2.store (r, i) j ≡ cell wx.store (r, i) j
      by_q i j o m = of_q.1.agree.seen (r, i) j o (subst (Sees unit b) (sym (variable w2.store frames_2 i j)) (writes_seen unit b _ m))

      module _ (i j : ℕ) where
        abbrev V : Variable
        V = variable_in s.world.store (r, i) j

        abbrev C : World → Cell
        C w = cell w.store (r, i) j

        p_late : Rewritten unit a p s2.world.store wy.store (r, i) j → Writes unit a V
        p_late h = subst (Writes unit a) (variable s2.world.store frames_s2 i j) h.writes

        q_late : Rewritten unit b q s1.world.store wx.store (r, i) j → Writes unit b V
        q_late h = subst (Writes unit b) (variable s1.world.store frames_s1 i j) h.writes

        -- q has not written it behind p
        quiet_q : (C wx ≡ C s1.world) → (C wy ≡ C s2.world) ⊎ Rewritten unit a p s2.world.store wy.store (r, i) j →
            (C w1 ≡ C s.world) ⊎ Rewritten unit a p s.world.store w1.store (r, i) j → (C w2 ≡ C s.world) ⊎ Rewritten unit b q s.world.store w2.store (r, i) j → C wx ≡ C wy
        quiet_q h (inr g) k l = h ∙ cell_1 i j ∙ by_p i j g.owned (p_late g)
        quiet_q h (inl g) (inr k) l = h ∙ cell_1 i j ∙ by_p i j k.owned k.writes
        quiet_q h (inl g) (inl k) (inr l) = sym (by_q i j l.owned l.writes) ∙ sym (g ∙ cell_2 i j)
        quiet_q h (inl g) (inl k) (inl l) = h ∙ cell_1 i j ∙ k ∙ sym (g ∙ cell_2 i j ∙ l)

        cells_same : (C wx ≡ C s1.world) ⊎ Rewritten unit b q s1.world.store wx.store (r, i) j → (C wy ≡ C s2.world) ⊎ Rewritten unit a p s2.world.store wy.store (r, i) j →
            (C w1 ≡ C s.world) ⊎ Rewritten unit a p s.world.store w1.store (r, i) j → (C w2 ≡ C s.world) ⊎ Rewritten unit b q s.world.store w2.store (r, i) j → C wx ≡ C wy
        cells_same (inl h) g k l = quiet_q h g k l
        cells_same (inr h) (inl g) k l = sym (by_q i j h.owned (q_late h)) ∙ sym (g ∙ cell_2 i j)
        cells_same (inr h) (inr g) k l = absurd (d.first_writes V (p_late g) (writes_seen unit b V (q_late h)))

        cells_are : C wx ≡ C wy
        cells_are =
            cells_same (of_q.1.right.cells (r, i) j off_q) (of_p.1.right.cells (r, i) j off_p) (of_p.1.left.cells (r, i) j off_p) (of_q.1.left.cells (r, i) j off_q)

      counts_are : (i : ℕ) → length (cells_of wx.store (r, i)) ≡ length (cells_of wy.store (r, i))
      counts_are i =
          of_q.1.right.counts (r, i) off_q ∙ ap (λ is. length (cells_in is i)) (store_1 r off_p child_p) ∙ of_p.1.left.counts (r, i) off_p
          ∙ sym (of_p.1.right.counts (r, i) off_p ∙ ap (λ is. length (cells_in is i)) (store_2 r off_q child_q) ∙ of_q.1.left.counts (r, i) off_q)

      shapes_are : shape wx.store r ≡ shape wy.store r
      shapes_are = of_q.1.right.frames r off_q ∙ frames_s1 ∙ sym (of_p.1.right.frames r off_p ∙ frames_s2)

      pub others : instances x.world.store r ≡ instances y.world.store r
      others =
          store_x r off_q child_q
          ∙ instances_equal (instances wx.store r) (instances wy.store r) shapes_are counts_are (λ i j. cells_are i j)
          ∙ sym (store_y r off_p child_p)

    -- ---- the system and the turns

    pub system_same : x.world.system ≡ y.world.system
    system_same = then_q.results.system ∙ go of_q.1.right.system of_p.1.right.system of_p.1.left.system of_q.1.left.system ∙ sym then_p.results.system
      where
        late : (wx.system ≡ s1.world.system) → (wy.system ≡ s2.world.system) ⊎ CallsSystem unit a → (w1.system ≡ s.world.system) ⊎ CallsSystem unit a →
            (w2.system ≡ s.world.system) ⊎ CallsSystem unit b → wx.system ≡ wy.system
        late h (inr c) k l = h ∙ first.results.system ∙ of_p.1.agree.system c
        late h (inl g) (inr c) l = h ∙ first.results.system ∙ of_p.1.agree.system c
        late h (inl g) (inl k) (inr c) = sym (of_q.1.agree.system c) ∙ sym (g ∙ second.results.system)
        late h (inl g) (inl k) (inl l) = h ∙ first.results.system ∙ k ∙ sym (g ∙ second.results.system ∙ l)

        go : (wx.system ≡ s1.world.system) ⊎ CallsSystem unit b → (wy.system ≡ s2.world.system) ⊎ CallsSystem unit a → (w1.system ≡ s.world.system) ⊎ CallsSystem unit a →
            (w2.system ≡ s.world.system) ⊎ CallsSystem unit b → wx.system ≡ wy.system
        go (inl h) g k l = late h g k l
        go (inr c) (inl g) k l = sym (of_q.1.agree.system c) ∙ sym (g ∙ second.results.system)
        go (inr c) (inr f) k l = absurd (d.one_calls f c)

    pub turns_same : x.world.turns ≡ y.world.turns
    turns_same =
        let ep : cost ap1 ≡ cost ap2 = ap cost of_p.0 in
        let eq : cost aq2 ≡ cost aq1 = ap cost of_q.0 in
        omega (arith, first.results.turns, second.results.turns, then_q.results.turns, then_p.results.turns, of_p.1.turns, of_q.1.turns, ep, eq)
