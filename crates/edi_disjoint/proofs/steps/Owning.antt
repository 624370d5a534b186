-- Two evaluations of a process of a branch without open uses, in two worlds where it finds the same, whatever all others hold and whatever the systems
-- are: each change keeps that, and changes nothing but its own instances.
use Rattle.std.proofs.Common.{◌≡◌, ℕ, zero, suc, ◌+◌, ◌-◌, ◌≤◌, ◌⊎◌, inl, inr, List, [], ◌∷◌, ◌++◌, take, length, Option, Some, refl, sym, subst, ap, ◌∙◌, arith}
use Rattle.std.specs.Prelude.{⊤, slice_get, slice_index_or, unwrap_or}
use Rattle.edi_calls.specs.Names.{Name}
use Rattle.edi_unit.specs.declared.expressions.Callee.{Callee}
use Rattle.edi_unit.specs.declared.expressions.Callee.TheVariants as callee
use Rattle.edi_unit.specs.Need.{block_at, outer, slots, slot_type}
use Rattle.edi_unit.specs.Fits.{Fits}
use Rattle.edi_unit.specs.Headings.{Heading}
use Rattle.edi_unit.specs.Values.{Value}
use Rattle.edi_unit.specs.Tree as tree
use Rattle.edi_unit.specs.Tree.{Argument, Arguments, Block, ProgramUnit}
use Rattle.edi_meaning.specs.Parts.{part_at}
use Rattle.edi_meaning.specs.Store.{Spot, Location, Closure, system_procedure, block_procedure, Cell, value, location, procedure, Instance, Shape, instances}
use Rattle.edi_meaning.specs.Store.{frames, shape, Frame, no_frame, frame_at, reached, now, cells_in, no_cell, cell, located, value_in, get, put}
use Rattle.edi_meaning.specs.Store.{grown, shrunk, Owns, IsLive}
use Rattle.edi_meaning.specs.Evaluation.{World}
use Rattle.edi_meaning.specs.Whole.{Designated, part_of, meant, instance_of, named}
use Rattle.edi_meaning.specs.Step.{Standing, Work, local_step}
use Rattle.edi_meaning.specs.Laws.{Means, CellMeans}
use Rattle.edi_meaning.proofs.Lasting.{Every}
use Rattle.edi_meaning.proofs.Own.{owns_self, every-append, every-take, instances-same}
use Rattle.edi_meaning.proofs.Frames.{frames-take}
use Rattle.edi_meaning.proofs.References.{means_all, cell_means}
use Rattle.edi_disjoint.specs.declared.mentions.Mention.{Mention}
use Rattle.edi_disjoint.specs.declared.mentions.Mention.TheVariants as mention
use Rattle.edi_disjoint.specs.Footprints.{Variable, variable_at, called, Encloses, IsTarget, IsVar, NamesProgram}
use Rattle.edi_disjoint.specs.Open.{OpenReach, OpenMentions, NamesOpenly, UsesOpenly, outer_one, lent_one, handles, used, handled, open_acts, open_unit}
use Rattle.edi_disjoint.proofs.Opened.{variable_opened, stands_opened}
use Rattle.edi_disjoint.specs.Leaves.{Way, reads, assigns, lends, ActsMay, Each}
use Rattle.edi_disjoint.proofs.Cells.{block_in, root, CellFits, cell_fits}
use Rattle.edi_disjoint.proofs.Chains.{parent_means, OpenFits, frames_open, open_fits, InPlace, reached_place}
use Rattle.edi_disjoint.proofs.Texts.{mention_of, open_text}
use Rattle.edi_disjoint.proofs.Entered.{Handed}
use Rattle.edi_disjoint.proofs.Inside.{older_owns, Known, Entry, lives, reached_from, spot_means, spot_block, lent_here, block_entry, pass_handed, put_known, grown_shape}
use Rattle.edi_disjoint.proofs.Inside.{block_inside, entered_known, left_known}
use Rattle.edi_disjoint.proofs.Knowing.{any_open_body}
use Rattle.edi_disjoint.proofs.steps.Locations.{same_located}
use Rattle.edi_disjoint.proofs.steps.Stores.{SameOwn, same_with, same_put}
use Rattle.edi_disjoint.proofs.steps.Following.{Following, Pairs}
use Rattle.edi_disjoint.proofs.steps.Stepping.{Moving, StandingMay, local_pairs}

module _ (unit : ProgramUnit) (ok : Fits unit) (unnamed : NamesProgram unit → ⊥) (b : ℕ) (none : (v : Variable) → UsesOpenly unit b v → ⊥) (p : Name) (size : ℕ) where
  abbrev H : ℕ → ℕ → Heading
  H = ok.headings

  -- ---- locations and procedures

  -- what is read or assigned to is in an instance of p; what is lent may be anywhere
  abbrev pub Comes : Shape → Way → Location → Type 0
  Comes F reads l = Means F (now F p) l.spot × (l.spot.0 ≡ p)
  Comes F assigns l = Means F (now F p) l.spot × (l.spot.0 ≡ p)
  Comes F lends l = Means F (now F p) l.spot × IsTarget unit (root F l)

  pub record MayEnter (F : Shape) (es : Arguments) (m : ℕ) (parent : Spot) : Type 0 where
    pub entry : Entry unit ok p F es m parent
    pub reach : OpenReach unit b m
    pub place : (parent.0 ≡ p) ⊎ Encloses unit.blocks (block_at unit.blocks m).up b

  abbrev pub Enters : Shape → Arguments → Closure → Type 0
  Enters F es (system_procedure number) = ⊥
  Enters F es (block_procedure m parent) = MayEnter F es m parent

  abbrev pub Anywhere : Location → Type 0
  Anywhere l = ⊤

  abbrev pub HandedOn : Shape → Argument → Cell → Type 0
  HandedOn F a c = Handed unit ok F (now F p) (block_in F (now F p)) Anywhere a c

  module _ (more : ℕ) (w0 u0 : World) where
    -- F is the shape of the first world
    pub record Owning (F : Shape) (w u : World) : Type 0 where
      pub known : Known unit ok p F w
      pub frames : Every (OpenFits unit b p) (F p)
      pub store : SameOwn p u0.store w.store u.store
      pub system : u.system ≡ u0.system
      pub turns : u.turns ≡ w.turns + more
      pub few : w.turns ≤ w0.turns

    module _ (F : Shape) (w u : World) (h : Owning F w u) where
      abbrev k : Known unit ok p F w
      k = h.known

      abbrev here : Spot
      here = now F p

      abbrev n : ℕ
      n = block_in F here

      here_lives : IsLive F here
      here_lives = lives unit ok p F w k

      reach_n : OpenReach unit b n
      reach_n = (open_fits unit b p (F p) (length (F p) - 1) here_lives h.frames).reach

      means_owns : (t : Spot) → Means F here t → Owns p t.0
      means_owns t m = older_owns t here m.older

      frame_u : (s : Spot) → Owns p s.0 → frame_at (shape u.store) s ≡ frame_at F s
      frame_u s o = ap (λ fs. unwrap_or (slice_get fs s.1) no_frame) (h.store.alike s.0 o ∙ k.refers.shape.each s.0)

      frame_w : (s : Spot) → frame_at (shape w.store) s ≡ frame_at F s
      frame_w s = ap (λ fs. unwrap_or (slice_get fs s.1) no_frame) (k.refers.shape.each s.0)

      reached_u : (levels : ℕ) (s : Spot) → Means F here s → reached (shape u.store) levels s ≡ reached F levels s
      reached_u zero s m = refl
      reached_u (suc levels) s m =
          let up : Means F s (frame_at F s).parent = parent_means F w.store k.refers s m.live in
          ap (λ f. reached (shape u.store) levels f.parent) (frame_u s (means_owns s m))
          ∙ reached_u levels (frame_at F s).parent (means_all F here s (frame_at F s).parent m up)

      at_w : (levels : ℕ) → reached (shape w.store) levels (now (shape w.store) p) ≡ reached F levels here
      at_w levels = reached_from unit ok p F w k levels

      at_u : (levels : ℕ) → reached (shape u.store) levels (now (shape u.store) p) ≡ reached F levels here
      at_u levels =
          ap (λ fs. reached (shape u.store) levels (p, length fs - 1)) (h.store.alike p (owns_self p) ∙ k.refers.shape.each p)
          ∙ reached_u levels here (spot_means unit ok p F w k 0)

      same_of : (r : Name) → r ≡ p → instances w.store r ≡ instances u.store r
      same_of r e = ap (instances w.store) e ∙ sym h.store.own ∙ sym (ap (instances u.store) e)

      -- ---- one slot

      module _ (levels v : ℕ) where
        abbrev t : Spot
        t = reached F levels here

        abbrev x : Variable
        x = variable_at unit.blocks n levels v

        t_means : Means F here t
        t_means = spot_means unit ok p F w k levels

        t_block : block_in F t ≡ outer unit.blocks n levels
        t_block = spot_block unit ok p F w k levels

        t_place : InPlace unit b p F t
        t_place = reached_place unit b p H F w.store k.refers k.store (frames_open unit b p (F p) h.frames) levels here here_lives (inl refl)

        named_by : (of : List Block → ℕ → Mention → Option Variable) (m : Mention) → OpenMentions unit n m → of (open_unit unit).blocks n m ≡ Some x → NamesOpenly of unit b x
        named_by of m stands is = record { block = n; reach = reach_n; mention = m; stands = stands; is = is }

        is_x : Some (variable_at (open_unit unit).blocks n levels v) ≡ Some x
        is_x = ap (λ (y : Variable). Some y) (variable_opened unit.blocks n levels v)

        -- a use by value
        by_value : (m : Mention) → OpenMentions unit n m → used (open_unit unit).blocks n m ≡ Some (variable_at (open_unit unit).blocks n levels v) → NamesOpenly used unit b x
        by_value m stands e = named_by used m stands (e ∙ is_x)

        held : NamesOpenly used unit b x → t.0 ≡ p
        held m = go t_place
          where
            go : InPlace unit b p F t → t.0 ≡ p
            go (inl e) = e
            go (inr e) = absurd (none x (outer_one m (subst (λ m. Encloses unit.blocks m b) t_block e)))

        abbrev Fit : Cell → Type 0
        Fit c = CellFits unit H F (block_in F t) v (slice_get (slots (block_at unit.blocks (block_in F t))) v) c

        -- of a use by value: it is in p, since no `var` parameter is so used
        mine : NamesOpenly used unit b x → (c : Cell) → Fit c → Means F here (located t v c).spot × ((located t v c).spot.0 ≡ p)
        mine m (value y) f = (t_means, held m)
        mine m (procedure c) f = (t_means, held m)
        mine m (location l) f =
            absurd (none (root F l) (lent_one x m (subst (λ i. IsVar (slice_get (slots (block_at unit.blocks i)) v)) t_block f.0) f.1))

        lent : OpenMentions unit n (mention.Lends levels v) → (c : Cell) → CellMeans F t c → Fit c → Comes F lends (located t v c)
        lent m (value y) g f = (t_means, lent_here unit ok p F w k levels v (stands_opened unit n (mention.Lends levels v) m))
        lent m (procedure c) g f = (t_means, lent_here unit ok p F w k levels v (stands_opened unit n (mention.Lends levels v) m))
        lent m (location l) g f = (means_all F here t l.spot t_means g, f.1)

        comes : (way : Way) → OpenMentions unit n (mention_of way levels v) → Comes F way (located t v (cell w.store t v))
        comes reads m = mine (by_value (mention.Reads levels v) m refl) (cell w.store t v) (cell_fits unit H F w.store k.store t v)
        comes assigns m = mine (by_value (mention.Assigns levels v) m refl) (cell w.store t v) (cell_fits unit H F w.store k.store t v)
        comes lends m = lent m (cell w.store t v) (cell_means F w.store k.refers t v) (cell_fits unit H F w.store k.store t v)

        abbrev designed : Spot → Frame → Cell → Designated
        designed s f c = record { at = located s v c; of = slot_type (slice_get (slots (block_at unit.blocks f.block)) v) }

        named_w : named unit p size levels v w.store ≡ designed t (frame_at F t) (cell w.store t v)
        named_w = ap (λ s. designed s (frame_at (shape w.store) s) (cell w.store s v)) (at_w levels) ∙ ap (λ f. designed t f (cell w.store t v)) (frame_w t)

        named_u : named unit p size levels v u.store ≡ designed t (frame_at F t) (cell u.store t v)
        named_u =
            ap (λ s. designed s (frame_at (shape u.store) s) (cell u.store s v)) (at_u levels)
            ∙ ap (λ f. designed t f (cell u.store t v)) (frame_u t (means_owns t t_means))

        pub slot_pairs : (way : Way) → OpenMentions unit n (mention_of way levels v) →
            (named unit p size levels v w.store ≡ named unit p size levels v u.store) × Comes F way (named unit p size levels v w.store).at
        slot_pairs way m = (
          named_w
              ∙ ap (λ (l : Location). record { at = l; of = slot_type (slice_get (slots (block_at unit.blocks (frame_at F t).block)) v) })
              (same_located t v (cell w.store t v) (cell u.store t v) (sym (h.store.references t.0 t.1 v (means_owns t t_means))))
              ∙ sym named_u,
          subst (λ d. Comes F way d.at) (sym named_w) (comes way m),
        )

        -- ---- procedures

        block_same : (m : ℕ) → block_procedure m (reached (shape w.store) levels (now (shape w.store) p)) ≡ block_procedure m (reached (shape u.store) levels (now (shape u.store) p))
        block_same m = ap (block_procedure m) (at_w levels ∙ sym (at_u levels))

        block_enters : (m : ℕ) (es : Arguments) → (open_text unit ok n).Calls (callee.Block levels m) es → MayEnter F es m t
        block_enters m es a = record {
          entry = block_entry unit ok p F w k levels unnamed m es (stands_opened unit n (mention.Calls (callee.Block levels m)) a.0, a.1, a.2);
          reach = called n levels m reach_n a.0;
          place = go t_place;
        }
          where
            go : InPlace unit b p F t → (t.0 ≡ p) ⊎ Encloses unit.blocks (block_at unit.blocks m).up b
            go (inl e) = inl e
            go (inr e) = inr (subst (λ j. Encloses unit.blocks j b) (t_block ∙ a.1.3) e)

        no_call : OpenMentions unit n (mention.Calls (callee.Formal levels v)) → ⊥
        no_call m = none x (handles (named_by handled (mention.Calls (callee.Formal levels v)) m is_x))

        no_pass : OpenMentions unit n (mention.Passes (callee.Formal levels v)) → ⊥
        no_pass m = none x (handles (named_by handled (mention.Passes (callee.Formal levels v)) m is_x))

      pub to_call : (c : Callee) (es : Arguments) → (open_text unit ok n).Calls c es → (meant unit p size c w ≡ meant unit p size c u) × Enters F es (meant unit p size c w)
      to_call (callee.Block levels m) es a =
          (block_same levels 0 m, subst (λ s. MayEnter F es m s) (sym (at_w levels)) (block_enters levels 0 m es a))
      to_call (callee.Formal levels v) es a = absurd (no_call levels v a.0)

      pub to_pass : (c : Callee) → (open_text unit ok n).Passes c →
          (meant unit p size c w ≡ meant unit p size c u) × HandedOn F (tree.by_procedure c) (procedure (meant unit p size c w))
      to_pass (callee.Block levels m) a = (
        block_same levels 0 m,
        pass_handed unit ok p F w k unnamed size Anywhere (callee.Block levels m) (stands_opened unit n (mention.Passes (callee.Block levels m)) a.0, a.1),
      )
      to_pass (callee.Formal levels v) a = absurd (no_pass levels v a.0)

      -- ---- locations

      pub got : (l : Location) → Comes F reads l → get w.store l ≡ get u.store l
      got l c = ap (λ is. part_at (value_in (slice_index_or (cells_in is l.spot.1) l.variable no_cell)) l.path) (same_of l.spot.0 c.1)

      pub stored : (l : Location) (y : Value) → Comes F assigns l → Owning F (record w { store = put w.store l y }) (record u { store = put u.store l y })
      stored l y c = record {
        known = put_known unit ok p F w k l y;
        frames = h.frames;
        store = same_put p u0.store w.store u.store h.store l y c.1;
        system = h.system;
        turns = h.turns;
        few = h.few;
      }

      -- ---- calls

      module _ (es : Arguments) (number : ℕ) (parent : Spot) (cells : List Cell) (m : MayEnter F es number parent) (each : Each (HandedOn F) es cells) where
        abbrev i : Instance
        i = instance_of unit p size number parent cells

        abbrev pub G : Shape
        G = shape (grown p i w.store)

        pub entered : Owning G (record w { store = grown p i w.store }) (record u { store = grown p i u.store })
        entered = record {
          known = entered_known unit ok p F w k size Anywhere es number parent cells m.entry each;
          frames = subst (Every (OpenFits unit b p)) (sym (grown_shape unit ok p F w k size Anywhere es number parent cells m.entry each))
              (every-append (OpenFits unit b p) (F p) (i.frame ∷ []) h.frames (record { reach = m.reach; place = m.place }, tt));
          store = same_with p u0.store w.store u.store h.store (λ is. is ++ i ∷ []);
          system = h.system;
          turns = h.turns;
          few = h.few;
        }

        pub back : (v z : World) → Owning G v z → Owning F (record v { store = shrunk p v.store }) (record z { store = shrunk p z.store })
        back v z j = record {
          known = left_known unit ok p F w k size Anywhere es number parent cells m.entry each v j.known;
          frames = h.frames;
          store = same_with p u0.store v.store z.store j.store (λ is. take (length is - 1) is);
          system = j.system;
          turns = j.turns;
          few = j.few;
        }

        pub body : ActsMay (open_text unit ok (block_in G (now G p))) (open_acts (block_at unit.blocks number).body)
        body = subst (λ j. ActsMay (open_text unit ok j) (open_acts (block_at unit.blocks number).body))
            (sym (block_inside unit ok p F w k size Anywhere es number parent cells m.entry each)) (any_open_body unit ok number)

      pub turned : (m j : ℕ) → w.turns ≡ suc m → u.turns ≡ suc j → Owning F (record w { turns = m }) (record u { turns = j })
      turned m j d e = record {
        known = record { setting = k.setting; refers = k.refers; store = k.store };
        frames = h.frames;
        store = h.store;
        system = h.system;
        turns = omega (arith, h.turns, d, e);
        few = omega (arith, h.few, d);
      }

    pub part_comes : (F : Shape) (way : Way) (l : Location) (n : ℕ) → Comes F way l → Comes F way (part_of l n)
    part_comes F reads l n c = c
    part_comes F assigns l n c = c
    part_comes F lends l n c = c

    abbrev pub owning : Following unit p size
    owning = record {
      more = more;
      other = λ z. u0.system;
      Level = Shape;
      Holds = Owning;
      text = λ F. open_text unit ok (block_in F (now F p));
      Comes = Comes;
      Enters = Enters;
      Fits = HandedOn;
      other_system = λ F w u h. h.system;
      same_turns = λ F w u h. h.turns;
      turned = λ F m n w u d e h. turned F w u h m n d e;
      stored = λ F l y w u c h. stored F w u h l y c;
      asked = λ F es number w u c h. absurd c;
      called = λ F es number parent cells w u m each h. (
        G F w u h es number parent cells m each,
        entered F w u h es number parent cells m each,
        back F w u h es number parent cells m each,
        body F w u h es number parent cells m each,
      );
      space = λ F w u h. ap frames (sym h.store.own);
      result = λ F w u h. ap (λ (is : List Instance). part_at (value_in (slice_index_or (cells_in is (length (frames is) - 1)) 0 no_cell)) []) (sym h.store.own);
      of_slot = λ F way levels v w u m h. slot_pairs F w u h levels v way m.0;
      of_part = λ F way l n c. part_comes F way l n c;
      got = λ F l w u c h. got F w u h l c;
      to_call = λ F c es w u a h. to_call F w u h c es a;
      to_pass = λ F c w u a h. to_pass F w u h c a;
      by_value = λ F e v. tt;
      by_location = λ F v l c. (c.0, c.1, tt);
      to_location = λ F es number a l e c. absurd e;
    }

    -- ---- a step

    -- what it leaves
    pub record Owned (w u : World) : Type 0 where
      pub frames : Every (OpenFits unit b p) (shape w.store p)
      pub store : SameOwn p u0.store w.store u.store
      pub system : u.system ≡ u0.system
      pub turns : u.turns ≡ w.turns + more
      pub few : w.turns ≤ w0.turns

    module _ (F : Shape) where
      stays : (w u : World) → Owning F w u → Owned w u
      stays w u h = record {
        frames = subst (Every (OpenFits unit b p)) (sym (h.known.refers.shape.each p)) h.frames;
        store = h.store;
        system = h.system;
        turns = h.turns;
        few = h.few;
      }

      grows : (es : Arguments) (number : ℕ) (parent : Spot) (cells : List Cell) (w u : World) → MayEnter F es number parent → Each (HandedOn F) es cells → Owning F w u →
          Owned (record w { store = grown p (instance_of unit p size number parent cells) w.store }) (record u { store = grown p (instance_of unit p size number parent cells) u.store })
      grows es number parent cells w u m each h =
          let j : Owning (G F w u h es number parent cells m each) (record w { store = grown p (instance_of unit p size number parent cells) w.store })
          (record u { store = grown p (instance_of unit p size number parent cells) u.store }) =
          entered F w u h es number parent cells m each in
          record { frames = j.frames; store = j.store; system = j.system; turns = j.turns; few = j.few }

      shrinks : (w u : World) → Owning F w u → Owned (record w { store = shrunk p w.store }) (record u { store = shrunk p u.store })
      shrinks w u h = record {
        frames = subst (Every (OpenFits unit b p)) (sym fewer) (every-take (OpenFits unit b p) (length (instances w.store p) - 1) (F p) h.frames);
        store = same_with p u0.store w.store u.store h.store (λ is. take (length is - 1) is);
        system = h.system;
        turns = h.turns;
        few = h.few;
      }
        where
          fewer : shape (shrunk p w.store) p ≡ take (length (instances w.store p) - 1) (F p)
          fewer =
              ap frames (instances-same w.store p _) ∙ frames-take (length (instances w.store p) - 1) (instances w.store p)
              ∙ ap (take (length (instances w.store p) - 1)) (h.known.refers.shape.each p)

      moves : Moving owning F (λ w u. Owned w u) ⊥
      moves = record {
        stays = stays;
        grows = λ es number parent cells w u m each h. grows es number parent cells w u m each h;
        shrinks = shrinks;
        begins = λ first w u h. absurd first;
      }

      -- THE STEP DOES THE SAME, and p gets to nothing more
      pub local_owned : (standing : Standing) (work : List Work) (w u : World) → StandingMay ⊥ (open_text unit ok (block_in F (now F p))) standing work → Owning F w u →
          Pairs owning (λ a w u. Owned w u) (local_step unit p size standing work w) (local_step unit p size standing work u)
      local_owned standing work w u may h = local_pairs owning F (λ w u. Owned w u) ⊥ moves standing work w u may h
