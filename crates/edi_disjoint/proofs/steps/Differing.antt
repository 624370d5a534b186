-- A process cannot tell what others hold than itself and its ancestors: in two worlds that differ in instances of others, and in turns, its step does the
-- same.
use Rattle.std.proofs.Common.{◌≡◌, ℕ, zero, suc, ◌+◌, ◌-◌, ◌⊎◌, inl, inr, false, List, [], ◌∷◌, ◌++◌, map, take, length, refl, sym, ap, subst, ◌∙◌, arith}
use Rattle.std.specs.Prelude.{⊤, slice_get, slice_index_or, unwrap_or}
use Rattle.edi_calls.specs.Names.{Name, same, with_at}
use Rattle.edi_calls.specs.State.{after_call}
use Rattle.edi_calls.proofs.Tables.{same-or-other}
use Rattle.edi_unit.specs.declared.expressions.Callee.{Callee}
use Rattle.edi_unit.specs.declared.expressions.Callee.TheVariants as callee
use Rattle.edi_unit.specs.Need.{block_at, slots, slot_type}
use Rattle.edi_unit.specs.Values.{Value}
use Rattle.edi_unit.specs.Tree as tree
use Rattle.edi_unit.specs.Tree.{Arguments, ProgramUnit}
use Rattle.edi_meaning.specs.Store.{Spot, Location, system_procedure, block_procedure, Cell, value, procedure, Instance, Frame, Store, instances}
use Rattle.edi_meaning.specs.Store.{frames, shape, no_frame, frame_at, reached, now, cells_in, with_cell_in, no_cell, cell, located, value_in, procedure_in, put}
use Rattle.edi_meaning.specs.Store.{get, grown, shrunk, Owns}
use Rattle.edi_meaning.specs.Parts.{part_at, with_part}
use Rattle.edi_meaning.specs.Evaluation.{World}
use Rattle.edi_meaning.specs.Whole.{Designated, meant, instance_of, named}
use Rattle.edi_meaning.specs.Step.{Standing, Work, local_step}
use Rattle.edi_meaning.proofs.Lasting.{Every}
use Rattle.edi_meaning.proofs.Own.{owns_self, owns_all, owns_first, every-append, every-take, CellOwned, InstanceOwned, Owned, slot_owned, meant_owned}
use Rattle.edi_meaning.proofs.Own.{calls_fit, instance_owned, instances-same, instances-other, owned_with, put_owned}
use Rattle.edi_disjoint.specs.Open.{open_acts}
use Rattle.edi_disjoint.specs.Leaves.{Each}
use Rattle.edi_disjoint.proofs.steps.Following.{Following, Pairs}
use Rattle.edi_disjoint.proofs.steps.Stepping.{Moving, first_instance, local_pairs}
use Rattle.edi_disjoint.proofs.steps.Anything.{anything, acts_may, standing_may}

-- ---- static parents lead to ancestors

pub parent_owned : (r : Name) (is : List Instance) (depth : ℕ) → Every (InstanceOwned r) is → Owns r (unwrap_or (slice_get (frames is) depth) no_frame).parent.0
parent_owned r [] depth h = owns_first r
parent_owned r (i ∷ is) zero h = h.0.parent
parent_owned r (i ∷ is) (suc depth) h = parent_owned r is depth h.1

pub reached_by : (store : Store) (levels : ℕ) (s : Spot) → Owned store → Owns s.0 (reached (shape store) levels s).0
reached_by store zero s o = owns_self s.0
reached_by store (suc levels) s o =
    owns_all s.0 (frame_at (shape store) s).parent.0 (reached (shape store) levels (frame_at (shape store) s).parent).0
    (parent_owned s.0 (instances store s.0) s.1 (o.each s.0)) (reached_by store levels (frame_at (shape store) s).parent o)

-- the cells of arguments
pub every_of : (q : Name) (es : Arguments) (cells : List Cell) → Each (λ a c. CellOwned q c) es cells → Every (CellOwned q) cells
every_of q tree.no_argument [] f = tt
every_of q tree.no_argument (c ∷ cells) f = absurd f
every_of q (tree.argument_then a es) [] f = absurd f
every_of q (tree.argument_then a es) (c ∷ cells) f = (f.0, every_of q es cells f.1)

-- the instances of others are changed so, those of q and its ancestors are not
module _ (unit : ProgramUnit) (q : Name) (size more : ℕ) (change : Name → List Instance → List Instance)
    (fixes : (r : Name) → Owns q r → (is : List Instance) → change r is ≡ is) where
  pub record Differ (w u : World) : Type 0 where
    pub owned : Owned w.store
    pub store : (r : Name) → instances u.store r ≡ change r (instances w.store r)
    pub system : w.system ≡ u.system
    pub turns : u.turns ≡ w.turns + more

  module _ (w u : World) (h : Differ w u) where
    pub same_own : (r : Name) → Owns q r → instances u.store r ≡ instances w.store r
    same_own r o = h.store r ∙ fixes r o (instances w.store r)

    pub same_frames : (r : Name) → Owns q r → shape u.store r ≡ shape w.store r
    same_frames r o = ap frames (same_own r o)

    pub same_cell : (s : Spot) (variable : ℕ) → Owns q s.0 → cell u.store s variable ≡ cell w.store s variable
    same_cell s variable o = ap (λ is. slice_index_or (cells_in is s.1) variable no_cell) (same_own s.0 o)

    pub same_frame : (s : Spot) → Owns q s.0 → frame_at (shape u.store) s ≡ frame_at (shape w.store) s
    same_frame s o = ap (λ fs. unwrap_or (slice_get fs s.1) no_frame) (same_frames s.0 o)

    pub same_reached : (levels : ℕ) (s : Spot) → Owns q s.0 → reached (shape u.store) levels s ≡ reached (shape w.store) levels s
    same_reached zero s o = refl
    same_reached (suc levels) s o =
        ap (λ (f : Frame). reached (shape u.store) levels f.parent) (same_frame s o)
        ∙ same_reached levels (frame_at (shape w.store) s).parent
        (owns_all q s.0 (frame_at (shape w.store) s).parent.0 o (parent_owned s.0 (instances w.store s.0) s.1 (h.owned.each s.0)))

    pub same_here : (levels : ℕ) → reached (shape u.store) levels (now (shape u.store) q) ≡ reached (shape w.store) levels (now (shape w.store) q)
    same_here levels =
        ap (λ (fs : List Frame). reached (shape u.store) levels (q, length fs - 1)) (same_frames q (owns_self q))
        ∙ same_reached levels (now (shape w.store) q) (owns_self q)

    pub here_owned : (levels : ℕ) → Owns q (reached (shape w.store) levels (now (shape w.store) q)).0
    here_owned levels = reached_by w.store levels (now (shape w.store) q) h.owned

    pub same_named : (levels variable : ℕ) → named unit q size levels variable w.store ≡ named unit q size levels variable u.store
    same_named levels variable =
        let here : Spot = reached (shape w.store) levels (now (shape w.store) q) in
        sym (ap (λ (s : Spot). of_spot s (cell u.store s variable) (frame_at (shape u.store) s)) (same_here levels)
        ∙ ap (λ (c : Cell). of_spot here c (frame_at (shape u.store) here)) (same_cell here variable (here_owned levels))
        ∙ ap (λ (f : Frame). of_spot here (cell w.store here variable) f) (same_frame here (here_owned levels)))
      where
        of_spot : Spot → Cell → Frame → Designated
        of_spot s c f = record { at = located s variable c; of = slot_type (slice_get (slots (block_at unit.blocks f.block)) variable) }

    pub same_meant : (c : Callee) → meant unit q size c w ≡ meant unit q size c u
    same_meant (callee.Block levels number) = ap (λ (s : Spot). block_procedure number s) (sym (same_here levels))
    same_meant (callee.Formal levels variable) =
        let here : Spot = reached (shape w.store) levels (now (shape w.store) q) in
        sym (ap (λ (s : Spot). procedure_in (cell u.store s variable)) (same_here levels)
        ∙ ap procedure_in (same_cell here variable (here_owned levels)))

    pub same_get : (l : Location) → Owns q l.spot.0 → get w.store l ≡ get u.store l
    same_get l o = ap (λ is. part_at (value_in (slice_index_or (cells_in is l.spot.1) l.variable no_cell)) l.path) (sym (same_own l.spot.0 o))

  -- where one whose instances are the same in both has others, the same in both
  pub with_same : (w u : World) (n : Name) (is js : List Instance) → Owns q n → js ≡ is → Differ w u → Every (InstanceOwned n) is →
      Differ (record w { store = with_at w.store n is }) (record u { store = with_at u.store n js })
  with_same w u n is js o e h k = record {
    owned = owned_with w.store n is h.owned k;
    store = λ r. go r (same-or-other r n);
    system = h.system;
    turns = h.turns;
  }
    where
      go : (r : Name) → (r ≡ n) ⊎ (same r n ≡ false) → instances (with_at u.store n js) r ≡ change r (instances (with_at w.store n is) r)
      go r (inl f) =
          ap (instances (with_at u.store n js)) f ∙ instances-same u.store n js ∙ e ∙ sym (instances-same w.store n is) ∙ ap (instances (with_at w.store n is)) (sym f)
          ∙ sym (fixes r (subst (Owns q) (sym f) o) (instances (with_at w.store n is) r))
      go r (inr m) = instances-other u.store n r js m ∙ h.store r ∙ ap (change r) (sym (instances-other w.store n r is m))

  pub put_same : (l : Location) (v : Value) (w u : World) → Owns q l.spot.0 → Differ w u → Differ (record w { store = put w.store l v }) (record u { store = put u.store l v })
  put_same l v w u o h = record {
    owned = put_owned w.store l v h.owned;
    store = λ r. go r (same-or-other r l.spot.0);
    system = h.system;
    turns = h.turns;
  }
    where
      other : List Instance → List Instance
      other is = with_cell_in is l.spot.1 l.variable (value (with_part (value_in (slice_index_or (cells_in is l.spot.1) l.variable no_cell)) l.path v))

      go : (r : Name) → (r ≡ l.spot.0) ⊎ (same r l.spot.0 ≡ false) → instances (put u.store l v) r ≡ change r (instances (put w.store l v) r)
      go r (inl f) =
          ap (instances (put u.store l v)) f ∙ instances-same u.store l.spot.0 (other (instances u.store l.spot.0)) ∙ ap other (same_own w u h l.spot.0 o)
          ∙ sym (instances-same w.store l.spot.0 (other (instances w.store l.spot.0))) ∙ ap (instances (put w.store l v)) (sym f)
          ∙ sym (fixes r (subst (Owns q) (sym f) o) (instances (put w.store l v) r))
      go r (inr m) =
          instances-other u.store l.spot.0 r (other (instances u.store l.spot.0)) m ∙ h.store r
          ∙ ap (change r) (sym (instances-other w.store l.spot.0 r (other (instances w.store l.spot.0)) m))

  pub grown_same : (number : ℕ) (parent : Spot) (cells : List Cell) (w u : World) → Owns q parent.0 → Every (CellOwned q) cells → Differ w u →
      Differ (record w { store = grown q (instance_of unit q size number parent cells) w.store })
      (record u { store = grown q (instance_of unit q size number parent cells) u.store })
  grown_same number parent cells w u c f h =
      with_same w u q (instances w.store q ++ instance_of unit q size number parent cells ∷ []) (instances u.store q ++ instance_of unit q size number parent cells ∷ [])
      (owns_self q) (ap (λ (is : List Instance). is ++ instance_of unit q size number parent cells ∷ []) (same_own w u h q (owns_self q))) h
      (every-append (InstanceOwned q) (instances w.store q) _ (h.owned.each q) (instance_owned unit q size number parent cells c f, tt))

  pub shrunk_same : (w u : World) → Differ w u → Differ (record w { store = shrunk q w.store }) (record u { store = shrunk q u.store })
  shrunk_same w u h =
      with_same w u q (take (length (instances w.store q) - 1) (instances w.store q)) (take (length (instances u.store q) - 1) (instances u.store q))
      (owns_self q) (ap (λ (is : List Instance). take (length is - 1) is) (same_own w u h q (owns_self q))) h
      (every-take (InstanceOwned q) (length (instances w.store q) - 1) (instances w.store q) (h.owned.each q))

  abbrev pub differing : Following unit q size
  differing = record {
    more = more;
    other = λ z. z;
    Level = Unit {0};
    Holds = λ x w u. Differ w u;
    text = λ x. anything;
    Comes = λ x way l. Owns q l.spot.0;
    Enters = λ x es c. CellOwned q (procedure c);
    Fits = λ x a c. CellOwned q c;
    other_system = λ x w u h. sym h.system;
    same_turns = λ x w u h. h.turns;
    turned = λ x m n w u d e h. record { owned = h.owned; store = h.store; system = h.system; turns = omega (arith, d, e, h.turns) };
    stored = λ x l v w u c h. put_same l v w u c h;
    asked = λ x es number w u c h. (
      ap (λ z. z.now) h.system,
      λ system. record { owned = h.owned; store = h.store; system = ap (after_call system) h.system; turns = h.turns },
    );
    called = λ x es number parent cells w u c f h.
        (tt, grown_same number parent cells w u c (every_of q es cells f) h, λ v z k. shrunk_same v z k, acts_may (open_acts (block_at unit.blocks number).body));
    space = λ x w u h. sym (same_frames w u h q (owns_self q));
    result = λ x w u h. ap (λ (is : List Instance). part_at (value_in (slice_index_or (cells_in is (length (frames is) - 1)) 0 no_cell)) [])
        (sym (same_own w u h q (owns_self q)));
    of_slot = λ x way levels variable w u may h. (same_named w u h levels variable, slot_owned q w.store levels variable h.owned);
    of_part = λ x way l n c. c;
    got = λ x l w u c h. same_get w u h l c;
    to_call = λ x c es w u may h. (same_meant w u h c, meant_owned unit q size c w h.owned);
    to_pass = λ x c w u may h. (same_meant w u h c, meant_owned unit q size c w h.owned);
    by_value = λ x e v. tt;
    by_location = λ x v l c. c;
    to_location = λ x es number a l e f. f;
  }

  differing_moves : Moving differing tt (λ w u. Differ w u) ⊤
  differing_moves = record {
    stays = λ w u h. h;
    grows = λ es number parent cells w u c f h. grown_same number parent cells w u c (every_of q es cells f) h;
    shrinks = λ w u h. shrunk_same w u h;
    begins = λ first w u h.
        with_same w u q (first_instance unit q size ∷ []) (first_instance unit q size ∷ []) (owns_self q) refl h (
          instance_owned unit q size unit.program ([], 0) (map (λ n. procedure (system_procedure n)) unit.calls) (owns_first q)
              (calls_fit (CellOwned q) (λ n. tt) unit.calls),
          tt,
        );
  }

  -- THE STEP DOES THE SAME
  pub local_alike : (standing : Standing) (work : List Work) (w u : World) → Differ w u →
      Pairs differing (λ a w u. Differ w u) (local_step unit q size standing work w) (local_step unit q size standing work u)
  local_alike standing work w u h = local_pairs differing tt (λ w u. Differ w u) ⊤ differing_moves standing work w u (standing_may standing work) h
