-- THE SECOND LAW. Two local steps of a process of a branch, in two worlds that agree in all that the branch may see: where both go
-- on, they ask for the same, use as many turns, leave worlds that agree, and change nothing but what the branch may write.
use Rattle.std.proofs.Common.{◌≡◌, ℕ, ◌+◌, ◌-◌, ◌<◌, List, take, length}
use Rattle.std.proofs.Common.{sym, subst, ap, ◌∙◌, arith}
use Rattle.edi_calls.specs.Names.{Name}
use Rattle.edi_unit.specs.Fits.{Fits}
use Rattle.edi_unit.specs.Tree.{Arguments, ProgramUnit}
use Rattle.edi_meaning.specs.Store.{Spot, Cell, Shape, instances, frames}
use Rattle.edi_meaning.specs.Store.{shape, frame_at, now, grown, shrunk}
use Rattle.edi_meaning.specs.Evaluation.{World}
use Rattle.edi_meaning.specs.Whole.{instance_of}
use Rattle.edi_meaning.specs.Step.{Work, Standing, local_step}
use Rattle.edi_meaning.proofs.Lasting.{Every}
use Rattle.edi_meaning.proofs.Own.{every-take, instances-same}
use Rattle.edi_meaning.proofs.Frames.{frames-take}
use Rattle.edi_disjoint.specs.Footprints.{CallsParameter, NamesProgram}
use Rattle.edi_disjoint.specs.Leaves.{Each}
use Rattle.edi_disjoint.proofs.Pairing.{Pairing, Pairs}
use Rattle.edi_disjoint.proofs.Locally.{Moving, StandingMay, local_pairs}
use Rattle.edi_disjoint.proofs.Cells.{block_in}
use Rattle.edi_disjoint.proofs.Chains.{frame_same, FrameFits}
use Rattle.edi_disjoint.proofs.Texts.{text_of}
use Rattle.edi_disjoint.proofs.Entered.{grown_frames}
use Rattle.edi_disjoint.proofs.Agreeing.{Agree, Changes, agree_with, changes_with}
use Rattle.edi_disjoint.proofs.Agreeing.{no_changes}
use Rattle.edi_disjoint.proofs.Beside.{Knows, MayEnter, HandedOn, Beside, beside, entered}
use Rattle.edi_disjoint.proofs.Entered.{shrunk_frames}

module _ (unit : ProgramUnit) (ok : Fits unit) (unnamed : NamesProgram unit → ⊥) (b : ℕ) (quiet : CallsParameter unit b → ⊥) (p : Name) (size : ℕ)
    (w0 u0 : World) where
  abbrev Held : Shape → World → World → Type 0
  Held = Beside unit ok unnamed b quiet p size w0 u0

  abbrev walk : Pairing unit p size
  walk = beside unit ok unnamed b quiet p size w0 u0

  -- what two such steps leave
  pub record Second (F : Shape) (w u : World) : Type 0 where
    pub agree : Agree unit b p w u
    pub left : Changes unit b p w0 w
    pub right : Changes unit b p u0 u
    pub turns : w0.turns + u.turns ≡ u0.turns + w.turns
    pub frames : Every (FrameFits unit b p) (shape w.store p)
    -- its oldest instance stays
    pub oldest : 0 < length (shape w.store p) → frame_at (shape w.store) (p, 0) ≡ frame_at F (p, 0)

  module _ (F : Shape) where
    stays : (w u : World) → Held F w u → Second F w u
    stays w u h = record {
      agree = h.agree;
      left = h.left;
      right = h.right;
      turns = h.turns;
      frames = subst (Every (FrameFits unit b p)) (sym (h.knows.known.refers.shape.each p)) h.knows.frames;
      oldest = λ l. frame_same F w.store h.knows.known.refers (p, 0);
    }

    grows : (es : Arguments) (number : ℕ) (parent : Spot) (cells : List Cell) (w u : World) → MayEnter unit ok unnamed b quiet p size F es number parent → Each (HandedOn unit ok unnamed b quiet p size F) es cells →
        Held F w u → Second F (record w { store = grown p (instance_of unit p size number parent cells) w.store })
        (record u { store = grown p (instance_of unit p size number parent cells) u.store })
    grows es number parent cells w u m each h =
        let j : Held (shape (grown p (instance_of unit p size number parent cells) w.store)) (record w { store = grown p (instance_of unit p size number parent cells) w.store })
        (record u { store = grown p (instance_of unit p size number parent cells) u.store }) =
        entered unit ok unnamed b quiet p size w0 u0 F w u h es number parent cells m each in
        record {
          agree = j.agree;
          left = j.left;
          right = j.right;
          turns = j.turns;
          frames = j.knows.frames;
          oldest = λ l. grown_frames F w.store p (instance_of unit p size number parent cells) h.knows.known.refers.shape (p, 0) h.knows.known.setting.some;
        }

    shrinks : (w u : World) → Held F w u → Second F (record w { store = shrunk p w.store }) (record u { store = shrunk p u.store })
    shrinks w u h = record {
      agree = agree_with unit b p w u _ _ (ap (λ is. take (length is - 1) is) h.agree.own) h.agree;
      left = changes_with unit b p w0 w _ h.left;
      right = changes_with unit b p u0 u _ h.right;
      turns = h.turns;
      frames = subst (Every (FrameFits unit b p)) (sym fewer) (every-take (FrameFits unit b p) (length (instances w.store p) - 1) (F p) h.knows.frames);
      oldest = λ l. shrunk_frames F w.store p h.knows.known.refers.shape (p, 0) l;
    }
      where
        fewer : shape (shrunk p w.store) p ≡ take (length (instances w.store p) - 1) (F p)
        fewer =
            ap frames (instances-same w.store p _) ∙ frames-take (length (instances w.store p) - 1) (instances w.store p)
            ∙ ap (take (length (instances w.store p) - 1)) (h.knows.known.refers.shape.each p)

    moving : Moving walk F (Second F)
    moving = record { stays = stays; grows = λ es number parent cells w u m each h. grows es number parent cells w u m each h; shrinks = shrinks }

  -- the second law, of one process by itself
  pub second_law : (F : Shape) (standing : Standing) (work : List Work) → StandingMay (text_of unit ok (block_in F (now F p))) standing work → Knows unit ok unnamed b quiet p size F w0 →
      Agree unit b p w0 u0 → Pairs walk (λ a w u. Second F w u) (local_step unit p size standing work w0) (local_step unit p size standing work u0)
  second_law F standing work may k agree =
      local_pairs walk F (Second F) (moving F) standing work w0 u0 may
      (record { knows = k; agree = agree; left = no_changes unit b p w0; right = no_changes unit b p u0; turns = omega arith })
