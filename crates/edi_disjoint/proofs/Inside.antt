-- A world in which a process evaluates, of a program that is named nowhere: where its slots lie, what it may call and pass on, and that all
-- of it fits still after a value is put, and after a block is entered or left.
use Rattle.std.proofs.Common.{◌≡◌, ℕ, ◌-◌, List, [], ◌∷◌, ◌++◌, length, length-append, refl, sym, subst, ap, ◌∙◌, arith}
use Rattle.std.specs.Prelude.{◌≢◌, slice_get, unwrap_or}
use Rattle.edi_calls.specs.Names.{Name}
use Rattle.edi_unit.specs.declared.expressions.Callee.{Callee}
use Rattle.edi_unit.specs.declared.expressions.Callee.TheVariants as callee
use Rattle.edi_unit.specs.Need.{block_at, outer, slots}
use Rattle.edi_unit.specs.Fits.{Fits, ArgumentsFit, block_heading}
use Rattle.edi_unit.specs.Headings.{Heading, heading_formals}
use Rattle.edi_unit.specs.Values.{Value}
use Rattle.edi_unit.specs.Tree as tree
use Rattle.edi_unit.specs.Tree.{Arguments, ProgramUnit}
use Rattle.edi_meaning.specs.Store.{Spot, Location, system_procedure, block_procedure, Cell, value, location, procedure, Instance, Shape, Frame, no_frame}
use Rattle.edi_meaning.specs.Store.{shape, reached, now, cell, put, procedure_in, grown, shrunk, Owns, IsLive, Older, within, above}
use Rattle.edi_meaning.proofs.Own.{owns_self}
use Rattle.edi_meaning.specs.Evaluation.{World}
use Rattle.edi_meaning.specs.Whole.{meant, instance_of}
use Rattle.edi_meaning.specs.Laws.{Means, CellMeans}
use Rattle.edi_meaning.proofs.Frames.{returned, shape-grown}
use Rattle.edi_meaning.proofs.References.{Refers, means_all, cell_means}
use Rattle.edi_meaning.proofs.Living.{Setting, setting_inside, entered_refers, refers_put, shrunk_refers}
use Rattle.edi_disjoint.specs.declared.mentions.Mention.TheVariants as mention
use Rattle.edi_disjoint.specs.Footprints.{Mentions, IsTarget, NamesProgram, calls, passes}
use Rattle.edi_disjoint.specs.Leaves.{Each}
use Rattle.edi_disjoint.proofs.Cells.{block_in, Stands, CellFits, StoreFits, cell_fits}
use Rattle.edi_disjoint.proofs.Chains.{now_same, reached_same, leads_to, reached_block}
use Rattle.edi_disjoint.proofs.Texts.{text_of}
use Rattle.edi_disjoint.proofs.Entered.{Handed, each_means, entered_fits, put_fits, grown_fits, shrunk_fits, grown_frames}

get_last : (fs : List Frame) (f : Frame) → unwrap_or (slice_get (fs ++ f ∷ []) (length fs)) no_frame ≡ f
get_last [] f = refl
get_last (g ∷ fs) f = get_last fs f

pub newest_frame : (fs : List Frame) (f : Frame) → unwrap_or (slice_get (fs ++ f ∷ []) (length (fs ++ f ∷ []) - 1)) no_frame ≡ f
newest_frame fs f =
    let e : length (fs ++ f ∷ []) - 1 ≡ length fs = omega (arith, length-append fs (f ∷ [])) in
    ap (λ d. unwrap_or (slice_get (fs ++ f ∷ []) d) no_frame) e ∙ get_last fs f

pub older_owns : (t s : Spot) → Older t s → Owns s.0 t.0
older_owns t s (within e le) = subst (λ r. Owns s.0 r) (sym e) (owns_self s.0)
older_owns t s (above n o) = o

module _ (unit : ProgramUnit) (ok : Fits unit) (p : Name) where
  abbrev H : ℕ → ℕ → Heading
  H = ok.headings

  -- the store has shape F, where p is the only process that runs, and all in it fits
  pub record Known (F : Shape) (w : World) : Type 0 where
    pub setting : Setting p F
    pub refers : Refers F w.store
    pub store : StoreFits unit H F w.store

  -- p may enter block m with these arguments, where this is its static parent
  pub record Entry (F : Shape) (es : Arguments) (m : ℕ) (parent : Spot) : Type 0 where
    pub means : Means F (now F p) parent
    pub stands : Stands unit H F m parent
    pub arguments : ArgumentsFit unit.types unit.blocks H (block_in F (now F p)) es (heading_formals (block_heading H unit.blocks m))

  module _ (F : Shape) (w : World) (k : Known F w) where
    abbrev here : Spot
    here = now F p

    abbrev n : ℕ
    n = block_in F here

    pub lives : IsLive F here
    lives = omega (arith, k.setting.some)

    pub reached_from : (levels : ℕ) → reached (shape w.store) levels (now (shape w.store) p) ≡ reached F levels here
    reached_from levels = ap (reached (shape w.store) levels) (now_same F w.store k.refers p) ∙ reached_same F w.store k.refers levels here

    -- ---- where so many levels lead

    module _ (levels : ℕ) where
      abbrev t : Spot
      t = reached F levels here

      pub spot_means : Means F here t
      spot_means = leads_to F w.store k.refers levels here lives

      pub spot_block : block_in F t ≡ outer unit.blocks n levels
      spot_block = reached_block unit H F w.store k.refers k.store levels here lives

      pub lent_here : (v : ℕ) → Mentions unit n (mention.Lends levels v) → IsTarget unit (record { home = block_in F t; number = v })
      lent_here v m = record { block = n; levels = levels; stands = m; is = sym spot_block }

      stands_there : (m : ℕ) → outer unit.blocks n levels ≡ (block_at unit.blocks m).up → m ≢ unit.program → Stands unit H F m t
      stands_there m e other = record { up = spot_block ∙ e; unnamed = other }

      -- a block that is called by its name
      pub block_entry : (NamesProgram unit → ⊥) → (m : ℕ) (es : Arguments) → (text_of unit ok n).Calls (callee.Block levels m) es → Entry F es m t
      block_entry unnamed m es a = record {
        means = spot_means;
        stands = stands_there m a.1.3 (λ e. unnamed (calls n levels (subst (λ j. Mentions unit n (mention.Calls (callee.Block levels j))) e a.0)));
        arguments = a.2;
      }

      -- ---- what is passed on

      module _ (T : Location → Type 0) where
        block_handed : (NamesProgram unit → ⊥) → (m : ℕ) → (text_of unit ok n).Passes (callee.Block levels m) →
            Handed unit ok F here n T (tree.by_procedure (callee.Block levels m)) (procedure (block_procedure m t))
        block_handed unnamed m a =
            (spot_means, stands_there m a.1.3 (λ e. unnamed (passes n levels (subst (λ j. Mentions unit n (mention.Passes (callee.Block levels j))) e a.0))), refl)

        formal_handed : (v : ℕ) (c : Cell) → CellFits unit H F (block_in F t) v (slice_get (slots (block_at unit.blocks (block_in F t))) v) c → CellMeans F t c →
            Handed unit ok F here n T (tree.by_procedure (callee.Formal levels v)) (procedure (procedure_in c))
        formal_handed v (value y) f g = tt
        formal_handed v (location l) f g = tt
        formal_handed v (procedure (system_procedure number)) f g = tt
        formal_handed v (procedure (block_procedure m parent)) f g = (means_all F here t parent spot_means g, f.0, f.2 ∙ ap (λ i. H i v) spot_block)

    pub pass_handed : (NamesProgram unit → ⊥) → (size : ℕ) (T : Location → Type 0) (c : Callee) → (text_of unit ok n).Passes c →
        Handed unit ok F here n T (tree.by_procedure c) (procedure (meant unit p size c w))
    pass_handed unnamed size T (callee.Block levels m) a =
        subst (λ s. Handed unit ok F here n T (tree.by_procedure (callee.Block levels m)) (procedure (block_procedure m s))) (sym (reached_from levels))
        (block_handed levels T unnamed m a)
    pass_handed unnamed size T (callee.Formal levels v) a =
        subst (λ s. Handed unit ok F here n T (tree.by_procedure (callee.Formal levels v)) (procedure (procedure_in (cell w.store s v)))) (sym (reached_from levels))
        (formal_handed levels T v (cell w.store (reached F levels here) v) (cell_fits unit H F w.store k.store (reached F levels here) v)
        (cell_means F w.store k.refers (reached F levels here) v))

    -- ---- what keeps it

    pub put_known : (l : Location) (y : Value) → Known F (record w { store = put w.store l y })
    put_known l y = record { setting = k.setting; refers = refers_put F w.store l y k.refers; store = put_fits unit ok F w.store l y k.store }

    module _ (size : ℕ) (T : Location → Type 0) (es : Arguments) (number : ℕ) (parent : Spot) (cells : List Cell) (m : Entry F es number parent)
        (each : Each (Handed unit ok F here n T) es cells) where
      abbrev i : Instance
      i = instance_of unit p size number parent cells

      abbrev G : Shape
      G = shape (grown p i w.store)

      pub grown_shape : G p ≡ F p ++ i.frame ∷ []
      grown_shape = shape-grown p i w.store ∙ ap (λ fs. fs ++ i.frame ∷ []) (k.refers.shape.each p)

      pub block_inside : block_in G (now G p) ≡ number
      block_inside = ap (λ fs. (unwrap_or (slice_get fs (length fs - 1)) no_frame).block) grown_shape ∙ ap (λ f. f.block) (newest_frame (F p) i.frame)

      pub entered_known : Known G (record w { store = grown p i w.store })
      entered_known = record {
        setting = setting_inside unit p size F i w.store k.refers.shape k.setting;
        refers = entered_refers unit p size F number parent cells w.store m.means (each_means unit ok F here n T es cells each) k.refers;
        store = grown_fits unit ok F w.store p i k.refers k.store
            (entered_fits unit ok F G here n T (grown_frames F w.store p i k.refers.shape) p size number parent es cells m.means m.stands m.arguments each);
      }

      pub left_known : (v : World) → Known G v → Known F (record v { store = shrunk p v.store })
      left_known v j =
          let gone : Refers F (shrunk p v.store) =
          shrunk_refers G F v.store p j.setting.alone j.refers (returned p i F w.store v.store k.refers.shape j.refers.shape) in
          record {
            setting = k.setting;
            refers = gone;
            store = shrunk_fits unit ok G F v.store p (λ t l. sym (grown_frames F w.store p i k.refers.shape t l)) gone j.store;
          }
