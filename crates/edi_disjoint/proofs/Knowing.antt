-- One local step of any process, of a program that is named nowhere: what fits before it fits after it. It is the walk of two evaluations
-- with one and the same world.
use Rattle.std.proofs.Common.{◌≡◌, ℕ, suc, ◌<◌, ◌≤◌, ◌⊎◌, inl, inr, List, [], length, refl}
use Rattle.std.proofs.Common.{sym, subst, ap, ◌∙◌, arith}
use Rattle.std.specs.Prelude.{⊤, slice_get}
use Rattle.std.proofs.lemmas.Bool.{cases_lt}
use Rattle.edi_calls.specs.Names.{Name}
use Rattle.edi_calls.specs.State.{Traced, after_call}
use Rattle.edi_unit.specs.declared.expressions.Callee.{Callee}
use Rattle.edi_unit.specs.declared.expressions.Callee.TheVariants as callee
use Rattle.edi_unit.specs.Need.{block_at, outer, slots}
use Rattle.edi_unit.specs.Fits.{Fits, ArgumentsFit}
use Rattle.edi_unit.specs.Headings.{Heading, heading_formals}
use Rattle.edi_unit.specs.Tree as tree
use Rattle.edi_unit.specs.Tree.{Argument, Arguments, ProgramUnit}
use Rattle.edi_meaning.specs.Store.{Spot, Location, Closure, system_procedure, block_procedure, Cell, value, location, procedure, Store, Shape}
use Rattle.edi_meaning.specs.Store.{shape, frame_at, reached, now, cell, located, get, put, procedure_in, grown, shrunk}
use Rattle.edi_meaning.specs.Evaluation.{World}
use Rattle.edi_meaning.specs.Whole.{part_of, meant, instance_of, named, result_of}
use Rattle.edi_meaning.specs.Step.{Work, Standing, local_step}
use Rattle.edi_meaning.specs.Laws.{Means, CellMeans}
use Rattle.edi_meaning.proofs.Frames.{own_shape}
use Rattle.edi_meaning.proofs.References.{Refers, means_all, cell_means}
use Rattle.edi_meaning.proofs.Living.{refers_here, shrunk_refers}
use Rattle.edi_disjoint.specs.Footprints.{Mentions, IsTarget, NamesProgram}
use Rattle.edi_disjoint.specs.Open.{open_acts}
use Rattle.edi_disjoint.specs.Leaves.{Way, reads, assigns, lends, ActsMay, Each}
use Rattle.edi_disjoint.proofs.Pairing.{Pairing, Pairs}
use Rattle.edi_disjoint.proofs.Locally.{Moving, StandingMay, local_pairs}
use Rattle.edi_disjoint.proofs.Cells.{block_in, root, CellFits, StoreFits, cell_fits}
use Rattle.edi_disjoint.proofs.Chains.{frame_same}
use Rattle.edi_disjoint.proofs.Texts.{mention_of, text_of, open_text, body_may, open_body_may}
use Rattle.edi_disjoint.proofs.Written.{block_past}
use Rattle.edi_disjoint.proofs.Entered.{Handed, shape_fits, shrunk_fits, grown_frames, shrunk_frames}
use Rattle.edi_disjoint.proofs.Inside.{Known, Entry, reached_from, spot_means, spot_block, lent_here, block_entry, pass_handed, put_known, block_inside}
use Rattle.edi_disjoint.proofs.Inside.{entered_known, left_known}

-- the text of every block, also of one whose number is not in use
pub any_body : (unit : ProgramUnit) (ok : Fits unit) (n : ℕ) → ActsMay (text_of unit ok n) (block_at unit.blocks n).body
any_body unit ok n = go (cases_lt n (length unit.blocks))
  where
    go : (n < length unit.blocks) ⊎ (length unit.blocks ≤ n) → ActsMay (text_of unit ok n) (block_at unit.blocks n).body
    go (inl l) = body_may unit ok n l
    go (inr l) = subst (λ b. ActsMay (text_of unit ok n) b.body) (sym (block_past unit.blocks n l)) tt

pub any_open_body : (unit : ProgramUnit) (ok : Fits unit) (n : ℕ) → ActsMay (open_text unit ok n) (open_acts (block_at unit.blocks n).body)
any_open_body unit ok n = go (cases_lt n (length unit.blocks))
  where
    go : (n < length unit.blocks) ⊎ (length unit.blocks ≤ n) → ActsMay (open_text unit ok n) (open_acts (block_at unit.blocks n).body)
    go (inl l) = open_body_may unit ok n l
    go (inr l) = subst (λ b. ActsMay (open_text unit ok n) (open_acts b.body)) (sym (block_past unit.blocks n l)) tt

abbrev with_turns : World → ℕ → World
with_turns w n = record w { turns = n }

abbrev with_store : World → Store → World
with_store w store = record w { store = store }

abbrev with_system : World → Traced → World
with_system w system = record w { system = system }

module _ (unit : ProgramUnit) (ok : Fits unit) (unnamed : NamesProgram unit → ⊥) (p : Name) (size : ℕ) where
  abbrev H : ℕ → ℕ → Heading
  H = ok.headings

  -- one world
  pub record Alike (F : Shape) (w u : World) : Type 0 where
    pub is : w ≡ u
    pub known : Known unit ok p F w

  abbrev pub Aimed : Shape → Way → Location → Type 0
  Aimed F reads l = ⊤
  Aimed F assigns l = ⊤
  Aimed F lends l = IsTarget unit (root F l)

  abbrev pub Comes : Shape → Way → Location → Type 0
  Comes F way l = Means F (now F p) l.spot × Aimed F way l

  abbrev pub Enters : Shape → Arguments → Closure → Type 0
  Enters F es (system_procedure number) = ⊤
  Enters F es (block_procedure m parent) = Entry unit ok p F es m parent

  abbrev pub Any : Location → Type 0
  Any l = ⊤

  abbrev pub HandedOn : Shape → Argument → Cell → Type 0
  HandedOn F a c = Handed unit ok F (now F p) (block_in F (now F p)) Any a c

  module _ (F : Shape) (w : World) (k : Known unit ok p F w) where
    abbrev here : Spot
    here = now F p

    abbrev n : ℕ
    n = block_in F here

    module _ (levels v : ℕ) where
      abbrev t : Spot
      t = reached F levels here

      fits_there : CellFits unit H F (block_in F t) v (slice_get (slots (block_at unit.blocks (block_in F t))) v) (cell w.store t v)
      fits_there = cell_fits unit H F w.store k.store t v

      aimed : (way : Way) → Mentions unit n (mention_of way levels v) → Aimed F way (record { spot = t; variable = v; path = [] })
      aimed reads m = tt
      aimed assigns m = tt
      aimed lends m = lent_here unit ok p F w k levels v m

      aimed_at : (way : Way) (l : Location) → IsTarget unit (root F l) → Aimed F way l
      aimed_at reads l target = tt
      aimed_at assigns l target = tt
      aimed_at lends l target = target

      comes : (way : Way) → Mentions unit n (mention_of way levels v) → (c : Cell) →
          CellFits unit H F (block_in F t) v (slice_get (slots (block_at unit.blocks (block_in F t))) v) c → CellMeans F t c → Comes F way (located t v c)
      comes way m (value y) f g = (spot_means unit ok p F w k levels, aimed way m)
      comes way m (procedure c) f g = (spot_means unit ok p F w k levels, aimed way m)
      comes way m (location l) f g = (means_all F here t l.spot (spot_means unit ok p F w k levels) g, aimed_at way l f.1)

      pub slot_comes : (way : Way) → Mentions unit n (mention_of way levels v) → Comes F way (named unit p size levels v w.store).at
      slot_comes way m =
          subst (λ s. Comes F way (located s v (cell w.store s v))) (sym (reached_from unit ok p F w k levels))
          (comes way m (cell w.store t v) fits_there (cell_means F w.store k.refers t v))

      formal_enters : (es : Arguments) → ArgumentsFit unit.types unit.blocks H n es (heading_formals (H (outer unit.blocks n levels) v)) → (c : Cell) →
          CellFits unit H F (block_in F t) v (slice_get (slots (block_at unit.blocks (block_in F t))) v) c → CellMeans F t c → Enters F es (procedure_in c)
      formal_enters es a (value y) f g = tt
      formal_enters es a (location l) f g = tt
      formal_enters es a (procedure (system_procedure number)) f g = tt
      formal_enters es a (procedure (block_procedure m parent)) f g = record {
        means = means_all F here t parent (spot_means unit ok p F w k levels) g;
        stands = f.0;
        arguments = subst (λ h. ArgumentsFit unit.types unit.blocks H n es (heading_formals h)) (ap (λ i. H i v) (sym (spot_block unit ok p F w k levels)) ∙ sym f.2) a;
      }

    pub call_enters : (c : Callee) (es : Arguments) → (text_of unit ok n).Calls c es → Enters F es (meant unit p size c w)
    call_enters (callee.Block levels m) es a =
        subst (λ s. Entry unit ok p F es m s) (sym (reached_from unit ok p F w k levels)) (block_entry unit ok p F w k levels unnamed m es a)
    call_enters (callee.Formal levels v) es a =
        subst (λ s. Enters F es (procedure_in (cell w.store s v))) (sym (reached_from unit ok p F w k levels))
        (formal_enters levels v es a.2 (cell w.store (reached F levels here) v) (fits_there levels v) (cell_means F w.store k.refers (reached F levels here) v))

    -- a call
    module _ (es : Arguments) (number : ℕ) (parent : Spot) (cells : List Cell) (m : Entry unit ok p F es number parent) (each : Each (HandedOn F) es cells) where
      abbrev pub G : Shape
      G = shape (grown p (instance_of unit p size number parent cells) w.store)

      pub entered : Known unit ok p G (record w { store = grown p (instance_of unit p size number parent cells) w.store })
      entered = entered_known unit ok p F w k size Any es number parent cells m each

      pub back : (v : World) → Known unit ok p G v → Known unit ok p F (record v { store = shrunk p v.store })
      back = left_known unit ok p F w k size Any es number parent cells m each

      pub body : ActsMay (text_of unit ok (block_in G (now G p))) (block_at unit.blocks number).body
      body = subst (λ j. ActsMay (text_of unit ok j) (block_at unit.blocks number).body) (sym (block_inside unit ok p F w k size Any es number parent cells m each))
          (any_body unit ok number)

  pub handed_location : (F : Shape) (a : Argument) (l : Location) → HandedOn F a (location l) → Comes F assigns l
  handed_location F (tree.by_value e) l c = absurd c
  handed_location F (tree.by_variable v) l c = (c.0, tt)
  handed_location F (tree.by_procedure d) l c = absurd c

  pub part_comes : (F : Shape) (way : Way) (l : Location) (n : ℕ) → Comes F way l → Comes F way (part_of l n)
  part_comes F reads l n c = c
  part_comes F assigns l n c = c
  part_comes F lends l n c = c

  pub turned : (F : Shape) (m j : ℕ) (w u : World) → w.turns ≡ suc m → u.turns ≡ suc j → Alike F w u → Alike F (record w { turns = m }) (record u { turns = j })
  turned F m j w u d e h = record {
    is = ap (λ x. with_turns x m) h.is ∙ ap (with_turns u) same_turns;
    known = record { setting = h.known.setting; refers = h.known.refers; store = h.known.store };
  }
    where
      same_turns : m ≡ j
      same_turns = let q : w.turns ≡ u.turns = ap (λ x. x.turns) h.is in omega (arith, q, d, e)

  abbrev pub knowing : Pairing unit p size
  knowing = record {
    Level = Shape;
    Holds = Alike;
    text = λ F. text_of unit ok (block_in F (now F p));
    Comes = Comes;
    Enters = Enters;
    Fits = HandedOn;
    turned = turned;
    stored = λ F l y w u c h. record { is = ap (λ x. with_store x (put x.store l y)) h.is; known = put_known unit ok p F w h.known l y };
    asked = λ F es number w u c h. (
      ap (λ x. x.system) h.is,
      λ system. record {
        is = ap (λ x. with_system x (after_call system x.system)) h.is;
        known = record { setting = h.known.setting; refers = h.known.refers; store = h.known.store };
      },
    );
    called = λ F es number parent cells w u m each h. (
      G F w h.known es number parent cells m each,
      record { is = ap (λ x. with_store x (grown p (instance_of unit p size number parent cells) x.store)) h.is; known = entered F w h.known es number parent cells m each },
      λ v z j. record { is = ap (λ x. with_store x (shrunk p x.store)) j.is; known = back F w h.known es number parent cells m each v j.known },
      body F w h.known es number parent cells m each,
    );
    space = λ F w u h. ap (λ x. shape x.store p) h.is;
    result = λ F w u h. ap (λ x. result_of unit p size x) h.is;
    of_slot = λ F way levels v w u m h. (ap (λ x. named unit p size levels v x.store) h.is, slot_comes F w h.known levels v way m.0);
    of_part = part_comes;
    got = λ F l w u c h. ap (λ x. get x.store l) h.is;
    to_call = λ F c es w u a h. (ap (meant unit p size c) h.is, call_enters F w h.known c es a);
    to_pass = λ F c w u a h. (ap (meant unit p size c) h.is, pass_handed unit ok p F w h.known unnamed size Any c a);
    by_value = λ F e v. tt;
    by_location = λ F v l c. (c.0, c.1, tt);
    to_location = handed_location;
  }

  -- ---- a local step

  module _ (F : Shape) where
    -- the store fits, and the oldest instance stays
    pub record Still (w : World) : Type 0 where
      pub fits : StoreFits unit H (shape w.store) w.store
      pub oldest : 0 < length (shape w.store p) → frame_at (shape w.store) (p, 0) ≡ frame_at F (p, 0)

    here_fits : (w : World) → Known unit ok p F w → StoreFits unit H (shape w.store) w.store
    here_fits w k = shape_fits unit ok F (shape w.store) w.store (λ t. frame_same F w.store k.refers t) (own_shape w.store) (refers_here F w.store k.refers) k.store

    moving : Moving knowing F (λ w u. Still w)
    moving = record {
      stays = λ w u h. record { fits = here_fits w h.known; oldest = λ l. frame_same F w.store h.known.refers (p, 0) };
      grows = λ es number parent cells w u m each h. record {
        fits = (entered F w h.known es number parent cells m each).store;
        oldest = λ l. grown_frames F w.store p (instance_of unit p size number parent cells) h.known.refers.shape (p, 0) h.known.setting.some;
      };
      shrinks = λ w u h. record { fits = shrinks w h.known; oldest = λ l. shrunk_frames F w.store p h.known.refers.shape (p, 0) l };
    }
      where
        shrinks : (w : World) → Known unit ok p F w → StoreFits unit H (shape (shrunk p w.store)) (shrunk p w.store)
        shrinks w k =
            let gone : Refers (shape (shrunk p w.store)) (shrunk p w.store) =
            shrunk_refers F (shape (shrunk p w.store)) w.store p k.setting.alone k.refers (own_shape (shrunk p w.store)) in
            shrunk_fits unit ok F (shape (shrunk p w.store)) w.store p (λ t l. shrunk_frames F w.store p k.refers.shape t l) gone k.store

    pub local_fits : (standing : Standing) (work : List Work) (w : World) → StandingMay (text_of unit ok (block_in F (now F p))) standing work → Known unit ok p F w →
        Pairs knowing (λ a v z. Still v) (local_step unit p size standing work w) (local_step unit p size standing work w)
    local_fits standing work w may k = local_pairs knowing F (λ v z. Still v) moving standing work w w may (record { is = refl; known = k })
