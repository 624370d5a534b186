-- Two evaluations of a process of a branch, in two worlds that agree in all that the branch may see: each change keeps that they agree, and
-- changes nothing but what the branch may write. So the walk over two evaluations may be taken with them.
use Rattle.std.proofs.Common.{◌≡◌, ℕ, zero, suc, ◌+◌, ◌-◌, ◌<◌, ◌⊎◌, inl, inr, false, List, [], ◌∷◌, ◌++◌, take, length, Option, Some, refl}
use Rattle.std.proofs.Common.{sym, subst, ap, ◌∙◌, arith}
use Rattle.std.specs.Prelude.{IsTrue, slice_get, unwrap_or}
use Rattle.std.proofs.lemmas.Bool.{cases_eq}
use Rattle.edi_calls.specs.Names.{Name, same}
use Rattle.edi_calls.specs.State.{State, after_call}
use Rattle.edi_unit.specs.declared.expressions.Callee.{Callee}
use Rattle.edi_unit.specs.declared.expressions.Callee.TheVariants as callee
use Rattle.edi_unit.specs.Need.{block_at, outer, slots, slot_at, slot_type}
use Rattle.edi_unit.specs.Fits.{Fits, is_procedure}
use Rattle.edi_unit.specs.Headings.{Heading}
use Rattle.edi_unit.specs.Values.{Value}
use Rattle.edi_unit.specs.Tree as tree
use Rattle.edi_unit.specs.Tree.{Block, Argument, Arguments, Expression, Place, ProgramUnit}
use Rattle.edi_meaning.specs.Parts.{part_at}
use Rattle.edi_meaning.specs.Store.{Spot, Location, Closure, system_procedure, block_procedure, Cell, value, location, procedure, Instance, Shape}
use Rattle.edi_meaning.specs.Store.{shape, Frame, no_frame, frame_at, reached, now, cell, located, value_in, get, put, procedure_in, formal, grown, shrunk, Owns, IsLive}
use Rattle.edi_meaning.specs.Evaluation.{World}
use Rattle.edi_meaning.specs.Whole.{Designated, part_of, meant, instance_of, named, result_of}
use Rattle.edi_meaning.specs.Laws.{Means, CellMeans}
use Rattle.edi_meaning.proofs.Lasting.{Every}
use Rattle.edi_meaning.proofs.Own.{owns_self, every-append}
use Rattle.edi_meaning.proofs.References.{means_all, cell_means}
use Rattle.edi_disjoint.specs.declared.mentions.Mention.{Mention}
use Rattle.edi_disjoint.specs.declared.mentions.Mention.TheVariants as mention
use Rattle.edi_disjoint.specs.Footprints.{Variable, variable_at, Mentions, Reach, called, Encloses, Touches, outside, through, Named, Sees, Writes, IsTarget, IsVar, IsVarParameter}
use Rattle.edi_disjoint.specs.Footprints.{CallsSystem, CallsParameter, NamesProgram, seen, written}
use Rattle.edi_disjoint.specs.Leaves.{Way, reads, assigns, lends, ActsMay, Each}
use Rattle.edi_disjoint.proofs.Pairing.{Pairing}
use Rattle.edi_disjoint.proofs.Cells.{block_in, root, CellFits, cell_fits}
use Rattle.edi_disjoint.proofs.Chains.{frame_same, parent_means, FrameFits, InPlace, own_frame, reached_place}
use Rattle.edi_disjoint.proofs.Texts.{mention_of, text_of, body_may}
use Rattle.edi_disjoint.proofs.Entered.{Handed}
use Rattle.edi_disjoint.proofs.Inside.{older_owns, Known, Entry, lives, reached_from, spot_means, spot_block, lent_here, block_entry, pass_handed, put_known, grown_shape}
use Rattle.edi_disjoint.proofs.Inside.{block_inside, entered_known, left_known}
use Rattle.edi_disjoint.proofs.Agreeing.{variable_in, not_same, writes_seen, Agree, Changes, own_cell, agree_put, changes_put, agree_with, changes_with, agree_turns}
use Rattle.edi_disjoint.proofs.Agreeing.{changes_turns, agree_called, changes_called}

module _ (unit : ProgramUnit) (ok : Fits unit) (unnamed : NamesProgram unit → ⊥) (b : ℕ) (quiet : CallsParameter unit b → ⊥) (p : Name) (size : ℕ) where
  abbrev H : ℕ → ℕ → Heading
  H = ok.headings

  -- what the first law says of a world in which p evaluates, where F is its shape
  pub record Knows (F : Shape) (w : World) : Type 0 where
    pub known : Known unit ok p F w
    pub frames : Every (FrameFits unit b p) (F p)

  -- ---- locations and procedures

  abbrev pub Ways : Shape → Way → Location → Type 0
  Ways F reads l = (l.spot.0 ≡ p) ⊎ Sees unit b (root F l)
  Ways F assigns l = (l.spot.0 ≡ p) ⊎ Writes unit b (root F l)
  Ways F lends l = IsTarget unit (root F l) × ((l.spot.0 ≡ p) ⊎ Writes unit b (root F l))

  abbrev pub Comes : Shape → Way → Location → Type 0
  Comes F way l = Means F (now F p) l.spot × Ways F way l

  pub record MayEnter (F : Shape) (es : Arguments) (m : ℕ) (parent : Spot) : Type 0 where
    pub entry : Entry unit ok p F es m parent
    pub there : m < length unit.blocks
    pub reach : Reach unit b m
    pub place : (parent.0 ≡ p) ⊎ Encloses unit.blocks (block_at unit.blocks m).up b

  abbrev pub Enters : Shape → Arguments → Closure → Type 0
  Enters F es (system_procedure number) = CallsSystem unit b
  Enters F es (block_procedure m parent) = MayEnter F es m parent

  abbrev pub Writable : Shape → Location → Type 0
  Writable F l = (l.spot.0 ≡ p) ⊎ Writes unit b (root F l)

  abbrev pub HandedOn : Shape → Argument → Cell → Type 0
  HandedOn F a c = Handed unit ok F (now F p) (block_in F (now F p)) (Writable F) a c

  module _ (w0 u0 : World) where
    pub record Beside (F : Shape) (w u : World) : Type 0 where
      pub knows : Knows F w
      pub agree : Agree unit b p w u
      pub left : Changes unit b p w0 w
      pub right : Changes unit b p u0 u
      pub turns : w0.turns + u.turns ≡ u0.turns + w.turns

    -- ---- where p is

    module _ (F : Shape) (w u : World) (h : Beside F w u) where
      abbrev k : Known unit ok p F w
      k = h.knows.known

      abbrev here : Spot
      here = now F p

      abbrev n : ℕ
      n = block_in F here

      here_lives : IsLive F here
      here_lives = lives unit ok p F w k

      reach_n : Reach unit b n
      reach_n = (own_frame unit b p H F w.store k.refers k.store h.knows.frames here refl here_lives).reach

      means_owns : (t : Spot) → Means F here t → Owns p t.0
      means_owns t m = older_owns t here m.older

      -- the variable of a cell, in each of the worlds
      variable_w : (s : Spot) (v : ℕ) → variable_in w.store s v ≡ record { home = block_in F s; number = v }
      variable_w s v = ap (λ f. record { home = f.block; number = v }) (frame_same F w.store k.refers s)

      variable_w0 : (s : Spot) (v : ℕ) → same s.0 p ≡ false → variable_in w0.store s v ≡ record { home = block_in F s; number = v }
      variable_w0 s v off =
          ap (λ fs. record { home = (unwrap_or (slice_get fs s.1) no_frame).block; number = v }) (sym (h.left.frames s.0 off) ∙ k.refers.shape.each s.0)

      variable_u0 : (s : Spot) (v : ℕ) → same s.0 p ≡ false → Owns p s.0 → variable_in u0.store s v ≡ record { home = block_in F s; number = v }
      variable_u0 s v off o =
          ap (λ fs. record { home = (unwrap_or (slice_get fs s.1) no_frame).block; number = v })
          (sym (h.right.frames s.0 off) ∙ sym (h.agree.frames s.0 o) ∙ k.refers.shape.each s.0)

      frame_u : (s : Spot) → Owns p s.0 → frame_at (shape u.store) s ≡ frame_at F s
      frame_u s o = ap (λ fs. unwrap_or (slice_get fs s.1) no_frame) (sym (h.agree.frames s.0 o) ∙ k.refers.shape.each s.0)

      reached_u : (levels : ℕ) (s : Spot) → Means F here s → reached (shape u.store) levels s ≡ reached F levels s
      reached_u zero s m = refl
      reached_u (suc levels) s m =
          let up : Means F s (frame_at F s).parent = parent_means F w.store k.refers s m.live in
          ap (λ f. reached (shape u.store) levels f.parent) (frame_u s (means_owns s m))
          ∙ reached_u levels (frame_at F s).parent (means_all F here s (frame_at F s).parent m up)

      here_means : Means F here here
      here_means = spot_means unit ok p F w k 0

      at_w : (levels : ℕ) → reached (shape w.store) levels (now (shape w.store) p) ≡ reached F levels here
      at_w levels = reached_from unit ok p F w k levels

      at_u : (levels : ℕ) → reached (shape u.store) levels (now (shape u.store) p) ≡ reached F levels here
      at_u levels =
          ap (λ fs. reached (shape u.store) levels (p, length fs - 1)) (sym (h.agree.frames p (owns_self p)) ∙ k.refers.shape.each p)
          ∙ reached_u levels here here_means

      -- ---- one slot

      module _ (levels v : ℕ) where
        abbrev t : Spot
        t = reached F levels here

        abbrev x : Variable
        x = variable_at unit.blocks n levels v

        t_means : Means F here t
        t_means = spot_means unit ok p F w k levels

        t_block : block_in F t ≡ outer unit.blocks n levels
        t_block = spot_block unit ok p F w k levels

        t_place : InPlace unit b p F t
        t_place = reached_place unit b p H F w.store k.refers k.store h.knows.frames levels here here_lives (inl refl)

        t_variable : record { home = block_in F t; number = v } ≡ x
        t_variable = ap (λ m. record { home = m; number = v }) t_block

        outside_b : (of : List Block → ℕ → Mention → Option Variable) → Named of unit b x → Encloses unit.blocks (block_in F t) b → Touches of unit b (record { home = block_in F t; number = v })
        outside_b of named e = subst (Touches of unit b) (sym t_variable) (outside named (subst (λ m. Encloses unit.blocks m b) t_block e))

        cell_seen : Named seen unit b x → cell w.store t v ≡ cell u.store t v
        cell_seen named = go t_place
          where
            go : InPlace unit b p F t → cell w.store t v ≡ cell u.store t v
            go (inl e) = own_cell unit b p w u h.agree.own t v e
            go (inr e) = h.agree.seen t v (means_owns t t_means) (subst (Sees unit b) (sym (variable_w t v)) (outside_b seen named e))

        cell_formal : IsTrue (is_procedure (slot_at unit.blocks n levels v)) → cell w.store t v ≡ cell u.store t v
        cell_formal f =
            h.agree.formals t v (means_owns t t_means)
            (subst (λ y. IsTrue (is_procedure (slice_get (slots (block_at unit.blocks y.home)) y.number))) (sym (variable_w t v ∙ t_variable)) f)

        abbrev designed : Spot → Frame → Cell → Designated
        designed s f c = record { at = located s v c; of = slot_type (slice_get (slots (block_at unit.blocks f.block)) v) }

        named_w : named unit p size levels v w.store ≡ designed t (frame_at F t) (cell w.store t v)
        named_w = ap (λ s. designed s (frame_at (shape w.store) s) (cell w.store s v)) (at_w levels) ∙ ap (λ f. designed t f (cell w.store t v)) (frame_same F w.store k.refers t)

        named_u : named unit p size levels v u.store ≡ designed t (frame_at F t) (cell u.store t v)
        named_u =
            ap (λ s. designed s (frame_at (shape u.store) s) (cell u.store s v)) (at_u levels)
            ∙ ap (λ f. designed t f (cell u.store t v)) (frame_u t (means_owns t t_means))

        module _ (way : Way) (stands : Mentions unit n (mention_of way levels v)) where
          abbrev by : (of : List Block → ℕ → Mention → Option Variable) → of unit.blocks n (mention_of way levels v) ≡ Some x → Named of unit b x
          by of e = record { block = n; reach = reach_n; mention = mention_of way levels v; stands = stands; is = e }

        named_seen : (way : Way) → Mentions unit n (mention_of way levels v) → Named seen unit b x
        named_seen reads m = by reads m seen refl
        named_seen assigns m = by assigns m seen refl
        named_seen lends m = by lends m seen refl

        either_place : (of : List Block → ℕ → Mention → Option Variable) → Named of unit b x → (t.0 ≡ p) ⊎ Touches of unit b (record { home = block_in F t; number = v })
        either_place of named = go t_place
          where
            go : InPlace unit b p F t → (t.0 ≡ p) ⊎ Touches of unit b (record { home = block_in F t; number = v })
            go (inl e) = inl e
            go (inr e) = inr (outside_b of named e)

        at_spot : (way : Way) → Mentions unit n (mention_of way levels v) → Ways F way (record { spot = t; variable = v; path = [] })
        at_spot reads m = either_place seen (by reads m seen refl)
        at_spot assigns m = either_place written (by assigns m written refl)
        at_spot lends m = (lent_here unit ok p F w k levels v m, either_place written (by lends m written refl))

        at_location : (way : Way) → Mentions unit n (mention_of way levels v) → (l : Location) → IsVarParameter unit x → IsTarget unit (root F l) → Ways F way l
        at_location reads m l var target = inr (through x (by reads m seen refl) var target)
        at_location assigns m l var target = inr (through x (by assigns m written refl) var target)
        at_location lends m l var target = (target, inr (through x (by lends m written refl) var target))

        comes : (way : Way) → Mentions unit n (mention_of way levels v) → (c : Cell) →
            CellFits unit H F (block_in F t) v (slice_get (slots (block_at unit.blocks (block_in F t))) v) c → CellMeans F t c → Comes F way (located t v c)
        comes way m (value y) f g = (t_means, at_spot way m)
        comes way m (procedure c) f g = (t_means, at_spot way m)
        comes way m (location l) f g =
            (means_all F here t l.spot t_means g, at_location way m l (subst (λ i. IsVar (slice_get (slots (block_at unit.blocks i)) v)) t_block f.0) f.1)

        pub slot_pairs : (way : Way) → Mentions unit n (mention_of way levels v) →
            (named unit p size levels v w.store ≡ named unit p size levels v u.store) × Comes F way (named unit p size levels v w.store).at
        slot_pairs way m = (
          named_w ∙ ap (designed t (frame_at F t)) (cell_seen (named_seen way m)) ∙ sym named_u,
          subst (λ d. Comes F way d.at) (sym named_w)
              (comes way m (cell w.store t v) (cell_fits unit H F w.store k.store t v) (cell_means F w.store k.refers t v)),
        )

        -- ---- procedures

        block_same : (m : ℕ) → block_procedure m (reached (shape w.store) levels (now (shape w.store) p)) ≡ block_procedure m (reached (shape u.store) levels (now (shape u.store) p))
        block_same m = ap (block_procedure m) (at_w levels ∙ sym (at_u levels))

        block_enters : (m : ℕ) (es : Arguments) → (text_of unit ok n).Calls (callee.Block levels m) es → MayEnter F es m t
        block_enters m es a = record {
          entry = block_entry unit ok p F w k levels unnamed m es a;
          there = a.1.1;
          reach = called n levels m reach_n a.0;
          place = go t_place;
        }
          where
            go : InPlace unit b p F t → (t.0 ≡ p) ⊎ Encloses unit.blocks (block_at unit.blocks m).up b
            go (inl e) = inl e
            go (inr e) = inr (subst (λ j. Encloses unit.blocks j b) (t_block ∙ a.1.3) e)

        formal_same : IsTrue (is_procedure (slot_at unit.blocks n levels v)) → formal w.store p levels v ≡ formal u.store p levels v
        formal_same f =
            ap (λ s. procedure_in (cell w.store s v)) (at_w levels) ∙ ap procedure_in (cell_formal f) ∙ sym (ap (λ s. procedure_in (cell u.store s v)) (at_u levels))

        system_enters : (es : Arguments) → CallsSystem unit b → (c : Cell) → CellFits unit H F (block_in F t) v (slice_get (slots (block_at unit.blocks (block_in F t))) v) c →
            block_in F t ≡ unit.program → Enters F es (procedure_in c)
        system_enters es s (value y) f e = s
        system_enters es s (location l) f e = s
        system_enters es s (procedure (system_procedure number)) f e = s
        system_enters es s (procedure (block_procedure m parent)) f e = absurd (f.1 e)

        formal_enters : (es : Arguments) → Mentions unit n (mention.Calls (callee.Formal levels v)) → Enters F es (formal w.store p levels v)
        formal_enters es s = go (cases_eq (outer unit.blocks n levels) unit.program)
          where
            go : (outer unit.blocks n levels ≡ unit.program) ⊎ (outer unit.blocks n levels ≡ unit.program → ⊥) → Enters F es (formal w.store p levels v)
            go (inr other) = absurd (quiet (record { block = n; reach = reach_n; levels = levels; number = v; stands = s; other = other }))
            go (inl e) =
                subst (λ s. Enters F es (procedure_in (cell w.store s v))) (sym (at_w levels))
                (system_enters es (record { block = n; reach = reach_n; levels = levels; number = v; stands = s; is = e }) (cell w.store t v)
                (cell_fits unit H F w.store k.store t v) (t_block ∙ e))

      pub to_call : (c : Callee) (es : Arguments) → (text_of unit ok n).Calls c es → (meant unit p size c w ≡ meant unit p size c u) × Enters F es (meant unit p size c w)
      to_call (callee.Block levels m) es a =
          (block_same levels 0 m, subst (λ s. MayEnter F es m s) (sym (at_w levels)) (block_enters levels 0 m es a))
      to_call (callee.Formal levels v) es a = (formal_same levels v a.1.1, formal_enters levels v es a.0)

      pub to_pass : (c : Callee) → (text_of unit ok n).Passes c →
          (meant unit p size c w ≡ meant unit p size c u) × HandedOn F (tree.by_procedure c) (procedure (meant unit p size c w))
      to_pass (callee.Block levels m) a = (block_same levels 0 m, pass_handed unit ok p F w k unnamed size (Writable F) (callee.Block levels m) a)
      to_pass (callee.Formal levels v) a = (formal_same levels v a.1.1, pass_handed unit ok p F w k unnamed size (Writable F) (callee.Formal levels v) a)

      -- ---- locations

      cell_at : (l : Location) → Means F here l.spot → (l.spot.0 ≡ p) ⊎ Sees unit b (root F l) → cell w.store l.spot l.variable ≡ cell u.store l.spot l.variable
      cell_at l m (inl e) = own_cell unit b p w u h.agree.own l.spot l.variable e
      cell_at l m (inr s) = h.agree.seen l.spot l.variable (means_owns l.spot m) (subst (Sees unit b) (sym (variable_w l.spot l.variable)) s)

      pub got : (l : Location) → Comes F reads l → get w.store l ≡ get u.store l
      got l c = ap (λ y. part_at (value_in y) l.path) (cell_at l c.0 c.1)

      pub stored : (l : Location) (y : Value) → Comes F assigns l → Beside F (record w { store = put w.store l y }) (record u { store = put u.store l y })
      stored l y c = record {
        knows = record { known = put_known unit ok p F w k l y; frames = h.knows.frames };
        agree = agree_put unit b p l y w u (means_owns l.spot c.0) (cell_at l c.0 (sees c.1)) h.agree;
        left = changes_put unit b p l y w0 w (λ off. (means_owns l.spot c.0, subst (Writes unit b) (sym (variable_w0 l.spot l.variable off)) (wrote off c.1))) h.left;
        right = changes_put unit b p l y u0 u
            (λ off. (means_owns l.spot c.0, subst (Writes unit b) (sym (variable_u0 l.spot l.variable off (means_owns l.spot c.0))) (wrote off c.1))) h.right;
        turns = h.turns;
      }
        where
          sees : (l.spot.0 ≡ p) ⊎ Writes unit b (root F l) → (l.spot.0 ≡ p) ⊎ Sees unit b (root F l)
          sees (inl e) = inl e
          sees (inr m) = inr (writes_seen unit b (root F l) m)

          wrote : same l.spot.0 p ≡ false → (l.spot.0 ≡ p) ⊎ Writes unit b (root F l) → Writes unit b (root F l)
          wrote off (inl e) = absurd (not_same p l.spot.0 e off)
          wrote off (inr m) = m

      -- ---- calls

      module _ (es : Arguments) (number : ℕ) (parent : Spot) (cells : List Cell) (m : MayEnter F es number parent) (each : Each (HandedOn F) es cells) where
        abbrev i : Instance
        i = instance_of unit p size number parent cells

        abbrev G : Shape
        G = shape (grown p i w.store)

        frames_inside : Every (FrameFits unit b p) (G p)
        frames_inside = subst (Every (FrameFits unit b p)) (sym (grown_shape unit ok p F w k size (Writable F) es number parent cells m.entry each))
            (every-append (FrameFits unit b p) (F p) (i.frame ∷ []) h.knows.frames (record { reach = m.reach; place = m.place }, tt))

        pub entered : Beside G (record w { store = grown p i w.store }) (record u { store = grown p i u.store })
        entered = record {
          knows = record { known = entered_known unit ok p F w k size (Writable F) es number parent cells m.entry each; frames = frames_inside };
          agree = agree_with unit b p w u _ _ (ap (λ is. is ++ i ∷ []) h.agree.own) h.agree;
          left = changes_with unit b p w0 w _ h.left;
          right = changes_with unit b p u0 u _ h.right;
          turns = h.turns;
        }

        pub back : (v z : World) → Beside G v z → Beside F (record v { store = shrunk p v.store }) (record z { store = shrunk p z.store })
        back v z j = record {
          knows = record { known = left_known unit ok p F w k size (Writable F) es number parent cells m.entry each v j.knows.known; frames = h.knows.frames };
          agree = agree_with unit b p v z _ _ (ap (λ is. take (length is - 1) is) j.agree.own) j.agree;
          left = changes_with unit b p w0 v _ j.left;
          right = changes_with unit b p u0 z _ j.right;
          turns = j.turns;
        }

        pub body : ActsMay (text_of unit ok (block_in G (now G p))) (block_at unit.blocks number).body
        body = subst (λ j. ActsMay (text_of unit ok j) (block_at unit.blocks number).body)
            (sym (block_inside unit ok p F w k size (Writable F) es number parent cells m.entry each)) (body_may unit ok number m.there)

      -- ---- the system

      pub asked : CallsSystem unit b → (w.system ≡ u.system)
          × ((system : State) → Beside F (record w { system = after_call system w.system }) (record u { system = after_call system u.system }))
      asked c = (
        h.agree.system c,
        λ system. record {
          knows = record { known = record { setting = k.setting; refers = k.refers; store = k.store }; frames = h.knows.frames };
          agree = agree_called unit b p w u system (h.agree.system c) h.agree;
          left = changes_called unit b p w0 w system c h.left;
          right = changes_called unit b p u0 u system c h.right;
          turns = h.turns;
        },
      )

      pub turned : (m j : ℕ) → w.turns ≡ suc m → u.turns ≡ suc j → Beside F (record w { turns = m }) (record u { turns = j })
      turned m j d e = record {
        knows = record { known = record { setting = k.setting; refers = k.refers; store = k.store }; frames = h.knows.frames };
        agree = agree_turns unit b p w u m j h.agree;
        left = changes_turns unit b p w0 w m h.left;
        right = changes_turns unit b p u0 u j h.right;
        turns = omega (arith, h.turns, d, e);
      }

      pub result : result_of unit p size w ≡ result_of unit p size u
      result =
          ap (λ fs. get w.store (record { spot = (p, length fs - 1); variable = 0; path = [] })) (h.agree.frames p (owns_self p))
          ∙ ap (λ y. part_at (value_in y) []) (own_cell unit b p w u h.agree.own (now (shape u.store) p) 0 refl)

    pub part_comes : (F : Shape) (way : Way) (l : Location) (n : ℕ) → Comes F way l → Comes F way (part_of l n)
    part_comes F reads l n c = c
    part_comes F assigns l n c = c
    part_comes F lends l n c = c

    pub handed_location : (F : Shape) (a : Argument) (l : Location) → HandedOn F a (location l) → Comes F assigns l
    handed_location F (tree.by_value e) l c = absurd c
    handed_location F (tree.by_variable v) l c = (c.0, c.2)
    handed_location F (tree.by_procedure d) l c = absurd c

    abbrev pub beside : Pairing unit p size
    beside = record {
      Level = Shape;
      Holds = Beside;
      text = λ F. text_of unit ok (block_in F (now F p));
      Comes = Comes;
      Enters = Enters;
      Fits = HandedOn;
      turned = λ F m n w u d e h. turned F w u h m n d e;
      stored = λ F l y w u c h. stored F w u h l y c;
      asked = λ F es number w u c h. asked F w u h c;
      called = λ F es number parent cells w u m each h. (
        G F w u h es number parent cells m each,
        entered F w u h es number parent cells m each,
        back F w u h es number parent cells m each,
        body F w u h es number parent cells m each,
      );
      space = λ F w u h. h.agree.frames p (owns_self p);
      result = λ F w u h. result F w u h;
      of_slot = λ F way levels v w u m h. slot_pairs F w u h levels v way m.0;
      of_part = λ F way l n c. part_comes F way l n c;
      got = λ F l w u c h. got F w u h l c;
      to_call = λ F c es w u a h. to_call F w u h c es a;
      to_pass = λ F c w u a h. to_pass F w u h c a;
      by_value = λ F e v. tt;
      by_location = λ F v l c. (c.0, c.1.0, c.1.1);
      to_location = λ F a l c. handed_location F a l c;
    }
