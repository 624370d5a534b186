-- The steps to a part of a variable: to a field, and to the element at an index.
use Rattle.std.proofs.Common.{◌≡◌, ℕ, ◌+◌, ◌<◌, ◌^◌, false, List, [], ◌∷◌, length, refl, sym, subst, ap, ◌∙◌, arith}
use Rattle.std.specs.Prelude.{ℤ, All, IsTrue, unwrap_or}
use Rattle.edi_unit.specs.Types as types
use Rattle.edi_unit.specs.Types.{array_of, shape_at, int_type, field_type, is_elementary}
use Rattle.edi_unit.specs.Types.{is_elementary_shape, element_count, size}
use Rattle.edi_unit.specs.TypeTables.{part_types, named_types}
use Rattle.edi_unit.specs.Tree as tree
use Rattle.edi_unit.specs.Tree.{Expression, Parts, Acts}
use Rattle.edi_unit.specs.Need.{slot_type, part_type, parts_type, parts_height}
use Rattle.edi_unit.specs.Fits.{IsIndexedBy}
use Rattle.edi_meaning.specs.Store.{Location, Shape}
use Rattle.edi_meaning.specs.Evaluation.{World, Evaluation}
use Rattle.edi_meaning.specs.Whole.{Designated, part_of, parts}
use Rattle.edi_target.specs.Op as op
use Rattle.edi_target.specs.Effect.{push, to}
use Rattle.edi_scheme.specs.Pieces.{field_offset}
use Rattle.edi_scheme.proofs.Known.{names_known}
use Rattle.edi_follows.specs.values.Words.{path_type, path_offset, nth_type, nth_offset}
use Rattle.edi_follows.proofs.values.Lengths.{values_are_long, types_take_words}
use Rattle.edi_follows.proofs.values.Portions.{parts_stand}
use Rattle.edi_follows.proofs.values.Paths.{path_type-push, path_offset-push, IsPath-push, field_within, field_nth_type, field_nth_offset}
use Rattle.edi_follows.proofs.values.Operators.{ordinal_elementary}
use Rattle.edi_follows.specs.places.Coded.{Coded, slot_in}
use Rattle.edi_follows.specs.places.Spots.{block_at, location_address, Leads}
use Rattle.edi_follows.specs.places.Scene.{Scene, here, Stands, local_at}
use Rattle.edi_follows.specs.places.Claims.{Pointed}
use Rattle.edi_follows.specs.places.Constructs.{Ps}
use Rattle.edi_follows.specs.places.Instructions.{IsPart}
use Rattle.edi_follows.proofs.places.Doing.{give}
use Rattle.edi_follows.proofs.places.Effects.{word_is, field_is}
use Rattle.edi_follows.proofs.places.Steps.{pushes_then, able_then}
use Rattle.edi_follows.proofs.places.Stores.{parts_are_there}
use Rattle.edi_follows.proofs.places.Pointing.{table_of}

-- ---- a part of a part

-- where the part with this number stands in the part that a location leads to
module _ (g : Coded) (s : Scene) (F : Shape) (l : Location) (of n : ℕ) (leads : Leads g F l of)
    (within : n < length (part_types (shape_at g.unit.types of))) where
  abbrev deeper_type : ℕ
  deeper_type = nth_type g.unit.types of n

  pub part_leads : Leads g F (part_of l n) (nth_type g.unit.types of n)
  part_leads = record {
    lives = leads.lives;
    of = leads.of;
    holds = leads.holds;
    path = IsPath-push g.unit.types leads.of l.path n leads.path (subst (λ t. n < length (part_types (shape_at g.unit.types t))) (sym leads.type) within);
    type = path_type-push g.unit.types leads.of l.path n ∙ ap (λ t. nth_type g.unit.types t n) leads.type;
  }

  pub part_address : location_address g s.first F (part_of l n) ≡ location_address g s.first F l + nth_offset g.unit.types of n
  part_address =
      let root : slot_type (slot_in g (block_at g F l.spot) l.variable) ≡ leads.of = ap slot_type leads.holds in
      let more : path_offset g.unit.types (slot_type (slot_in g (block_at g F l.spot) l.variable)) (part_of l n).path ≡ path_offset g.unit.types
      leads.of (part_of l n).path = ap (λ t. path_offset g.unit.types t (part_of l n).path) root in
      let less : path_offset g.unit.types (slot_type (slot_in g (block_at g F l.spot) l.variable)) l.path ≡ path_offset g.unit.types leads.of l.path =
      ap (λ t. path_offset g.unit.types t l.path) root in
      let last : nth_offset g.unit.types (path_type g.unit.types leads.of l.path) n ≡ nth_offset g.unit.types of n = ap
      (λ t. nth_offset g.unit.types t n) leads.type in
      omega (arith, more, less, last, path_offset-push g.unit.types leads.of l.path n)

-- the address of a part is one of the memory
module _ (g : Coded) (s : Scene) (F : Shape) (w : World) (m : List ℕ) (l : Location) (of : ℕ) where
  pub address_small : Stands g s F w m → Leads g F l of → location_address g s.first F l < 2 ^ 16
  address_small h leads =
      let p : IsPart g s F w m l of = parts_are_there g s values_are_long parts_stand F w m l of h leads in
      omega (arith, p.within, types_take_words g.unit.types (table_of g) of p.known)

module _ (g : Coded) (s : Scene) (deeper : Acts → World → Evaluation (Unit {0})) (bound : ℕ) where
  -- ---- no part

  pub no_part_does : Ps g s deeper bound tree.no_part
  no_part_does d of F pc to t held w m turns st fits able room pointed =
      give g s F pc (t + 1) t held w m (Pointed g s F of to t) d able.stands (omega arith) room
      (record { pc_is = st; top_is = refl; address = pointed.address; leads = pointed.leads; older = pointed.older; of_is = pointed.of_is })

  -- ---- a field

  pub field_does : (n : ℕ) (ps : Parts) → Ps g s deeper bound ps → Ps g s deeper bound (tree.part_then (tree.field n) ps)
  field_does n ps does d of F pc end t held w m turns st fits able room pointed =
      pushes_then g s Designated (Pointed g s F (parts_type g.unit.types (part_type g.unit.types of (tree.field n)) ps) end t)
      (parts g.unit s.name (s.size s.name) deeper next ps w) F
      (op.field (field_offset g.unit.types of n)) pc st.0 (t + 1) t t held w m (location_address g s.first F next.at ∷ []) able.stands st.1
      (field_is g s F m (field_offset g.unit.types of n) st.0 (location_address g s.first F d.at) pc t (t + 1) held able.low refl pointed.address
      (omega (arith, place, small))
      ∙ ap (λ a. push (a ∷ []) (local_at s F m pc t held) (to st.0)) (sym place))
      (omega arith) able.low room (λ m' after words.
      does next (part_type g.unit.types of (tree.field n)) F st.0 end t held w m' turns st.2 fits.1
      (able_then g s F w w m m' t (parts_height g.unit.types g.unit.blocks (here g s F) (tree.part_then (tree.field n) ps)) t
      (parts_height g.unit.types g.unit.blocks (here g s F) ps) t held false able after (omega arith) (omega arith))
      room (record {
        pc_is = refl;
        top_is = refl;
        address = word_is m' [] _ t 1 words;
        leads = subst (λ u. Leads g F next.at u) type leads;
        older = pointed.older;
        of_is = ap (λ u. unwrap_or (field_type g.unit.types u n) int_type) pointed.of_is;
      }))
    where
      within : n < length (part_types (shape_at g.unit.types of))
      within = field_within g.unit.types of n fits.0

      type : nth_type g.unit.types of n ≡ part_type g.unit.types of (tree.field n)
      type = field_nth_type g.unit.types of n fits.0

      next : Designated
      next = record { at = part_of d.at n; of = unwrap_or (field_type g.unit.types d.of n) 0 }

      leads : Leads g F (part_of d.at n) (nth_type g.unit.types of n)
      leads = part_leads g s F d.at of n pointed.leads within

      place : location_address g s.first F (part_of d.at n) ≡ location_address g s.first F d.at + field_offset g.unit.types of n
      place = part_address g s F d.at of n pointed.leads within ∙ ap (λ o. location_address g s.first F d.at + o) (field_nth_offset g.unit.types of n fits.0)

      small : location_address g s.first F (part_of d.at n) < 2 ^ 16
      small = address_small g s F w m (part_of d.at n) (nth_type g.unit.types of n) able.stands leads

-- ---- an index

module _ (g : Coded) where
  -- an array with an index of this type
  pub record IsArray (of from : ℕ) : Type 0 where
    pub low : ℤ
    pub high : ℤ
    pub elements : ℕ
    pub is : shape_at g.unit.types of ≡ array_of from low high elements

  pub indexed : (of from : ℕ) → IsIndexedBy (shape_at g.unit.types of) from → IsArray of from
  indexed of from h = by_shape (shape_at g.unit.types of) refl h
    where
      by_shape : (x : types.Shape) → shape_at g.unit.types of ≡ x → IsIndexedBy x from → IsArray of from
      by_shape (array_of i lo hi e) is h = record { low = lo; high = hi; elements = e; is = is ∙ ap (λ k. array_of k lo hi e) (sym h) }
      by_shape x is h = absurd h

  -- the index type of an array is elementary
  pub index_elementary : (of from : ℕ) → of < length g.unit.types → IsArray of from → IsTrue (is_elementary g.unit.types from)
  index_elementary of from known array =
      ordinal_elementary g.unit.types (table_of g) from of (array_of from array.low array.high array.elements) (array.elements ∷ []) known array.is refl refl

  pub index_known : (of from : ℕ) → of < length g.unit.types → IsArray of from → from < length g.unit.types
  index_known of from known array =
      subst (λ x. All (λ u. u < length g.unit.types) (named_types x)) array.is (names_known g.unit.types g.fits.table g.parts of known) 0 0 (omega arith)
