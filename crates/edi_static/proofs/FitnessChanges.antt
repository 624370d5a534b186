-- What the single changes of an environment keep.
use Rattle.std.proofs.Common.{◌≡◌, ◌≢◌, ℕ, ◌+◌, ◌<◌, ◌≤◌, Bool, true, false, nat_lt, List, [], ◌∷◌, ◌++◌, length, get_or, set, All, take, IsTrue, refl, sym}
use Rattle.std.proofs.Common.{ap, ◌∙◌, subst, arith, inl, inr, length-append}
use Rattle.std.proofs.lemmas.Bool.{cases_eq}
use Rattle.std.proofs.lemmas.List.{length-set, get_or-set_same, get_or-set_other, take-append-le, get_or_past}
use Rattle.std.proofs.Math.ListN.{get_or-append}
use Rattle.std.proofs.Math.Seq.{get_or-append_seam}
use Rattle.edi_scope.specs.Scope.{Scope}
use Rattle.edi_unit.specs.Types.{Shape, int, char, bool, enumeration, record_of, array_of, set_of, shape_at, fields_of, is_ordinal_of}
use Rattle.edi_unit.specs.TypeTables.{named_types}
use Rattle.edi_unit.specs.TypeTables.{IsDeclarable}
use Rattle.edi_unit.specs.Tree.{Block}
use Rattle.edi_unit.specs.Need.{no_block, block_at, slots}
use Rattle.edi_unit.specs.Fits.{ShapeFits, ShapesFit, KindFits, ActsFit, SlotIsKnown}
use Rattle.edi_unit.specs.Headings.{Heading}
use Rattle.edi_unit.proofs.Tables.{declared-push, length-before}
use Rattle.edi_static.specs.Environment.{Begun, Environment, with_type, set_block}
use Rattle.edi_static.specs.Proper.{ScopesFit}
use Rattle.edi_static.proofs.Fitness.{headings_of, Names, EntitySits, BlockStands, IsTable, TypesSit, Nested, Sits}
use Rattle.edi_static.proofs.FitnessGrowth.{BlockGrows}
use Rattle.edi_static.proofs.FitnessLater.{Later, types_stay, same_block, stand_grown, stand_later, acts_later, scopes_later, nested_later}

-- ---- another place

pub placed_sits : (scopes : List Scope) (around : List ℕ) (begun : List Begun) (env : Environment) → Sits env → Nested env.blocks around →
    ScopesFit (Names env.types env.blocks env.headings env.shapes around) scopes → Sits (record env { scopes = scopes; around = around; begun = begun })
placed_sits scopes around begun env s nested names = record {
  types = s.types;
  as_many = s.as_many;
  stand = s.stand;
  nested = nested;
  names = names;
}

pub scopes_sit : (scopes : List Scope) (env : Environment) → Sits env → ScopesFit (EntitySits env) scopes → Sits (record env { scopes = scopes })
scopes_sit scopes env s h = placed_sits scopes env.around env.begun env s s.nested h

-- ---- blocks and headings are changed

pub blocks_sit : (blocks : List Block) (headings shapes : List Heading) (env : Environment) → Sits env →
    Later env (record env { blocks = blocks; headings = headings; shapes = shapes }) → length headings ≡ length blocks →
    ((n : ℕ) → n < length blocks → BlockStands env.types blocks headings n) → Sits (record env { blocks = blocks; headings = headings; shapes = shapes })
blocks_sit blocks headings shapes env s l many stand =
    let next : Environment = record env { blocks = blocks; headings = headings; shapes = shapes } in
    record {
      types = s.types;
      as_many = many;
      stand = stand;
      nested = nested_later env next s l;
      names = scopes_later env next s l env.around s.nested.chain env.scopes s.names;
    }

-- ---- a block is changed

pub set_later : (n : ℕ) (b : Block) (env : Environment) → n < length env.blocks → BlockGrows (block_at env.blocks n) b → Later env (set_block n b env)
set_later n b env h g =
    let same = length-set env.blocks n b in
    types_stay env (set_block n b env) refl (omega (arith, same)) each (λ n h. refl) (omega arith) (λ s h. refl)
  where
    each : (k : ℕ) → k < length env.blocks → BlockGrows (block_at env.blocks k) (block_at (set env.blocks n b) k)
    each k i =
        elim (cases_eq k n) [
          | inl e ↦
              subst (λ m. BlockGrows (block_at env.blocks m) (block_at (set env.blocks n b) m)) (sym e)
              (subst (BlockGrows (block_at env.blocks n)) (sym (get_or-set_same env.blocks n b no_block h)) g)
          | inr other ↦
              subst (BlockGrows (block_at env.blocks k)) (sym (get_or-set_other env.blocks n k b no_block other)) (same_block (block_at env.blocks k))
        ]

pub set_sits : (n : ℕ) (b : Block) (env : Environment) → Sits env → n < length env.blocks → BlockGrows (block_at env.blocks n) b →
    KindFits b.kind n b → All (SlotIsKnown env.types) (slots b) → ActsFit env.types env.blocks (headings_of env.headings) n b.body → Sits (set_block n b env)
set_sits n b env s h g kind known body =
    let next : Environment = set_block n b env in
    let l : Later env next = set_later n b env h g in
    blocks_sit (set env.blocks n b) env.headings env.shapes env s l (s.as_many ∙ sym (length-set env.blocks n b)) (stand next l)
  where
    stand : (next : Environment) → Later env (set_block n b env) → (k : ℕ) → k < length (set env.blocks n b) → BlockStands env.types (set env.blocks n b)
        env.headings k
    stand next l k i =
        let inside : k < length env.blocks = let same = length-set env.blocks n b in omega (arith, i, same) in
        elim (cases_eq k n) [
          | inl e ↦
              subst (BlockStands env.types (set env.blocks n b) env.headings) (sym e)
              (let at : block_at (set env.blocks n b) n ≡ b = get_or-set_same env.blocks n b no_block h in
              stand_grown env (set_block n b env) s l n h
              (subst (λ x. KindFits x.kind n x) (sym at) kind)
              (subst (λ x. All (SlotIsKnown env.types) (slots x)) (sym at) known)
              (subst (λ x. ActsFit env.types (set env.blocks n b) (headings_of env.headings) n x.body) (sym at)
              (acts_later env (set_block n b env) s l n h b.body body)))
          | inr other ↦ stand_later env (set_block n b env) s l k inside (get_or-set_other env.blocks n k b no_block other)
        ]

-- ---- a type more

pub type_later : (shape : Shape) (names : List (List ℕ)) (env : Environment) → Later env (with_type shape names env)
type_later shape names env = record {
  more = shape ∷ [];
  types = refl;
  longer = omega arith;
  each = λ n h. same_block (block_at env.blocks n);
  headings = λ n h. refl;
  longer_shapes = omega arith;
  shapes = λ s h. refl;
}

-- what fits in a table fits in a longer one
shape_longer : (types more : List Shape) (s : Shape) → All (λ t. t < length types) (named_types s) → ShapeFits types s → ShapeFits (types ++ more) s
shape_longer types more int known h = tt
shape_longer types more char known h = tt
shape_longer types more bool known h = tt
shape_longer types more (enumeration n) known h = h
shape_longer types more (record_of fs) known h = tt
shape_longer types more (array_of i lo hi e) known h =
    let same = get_or-append types more int i (known 0 0 (omega arith)) in
    (subst (λ x. IsTrue (is_ordinal_of x lo)) (sym same) h.0, subst (λ x. IsTrue (is_ordinal_of x hi)) (sym same) h.1)
shape_longer types more (set_of t) known h = tt

shapes_longer : (types : List Shape) (s : Shape) → IsTable types → ShapesFit types → IsDeclarable types s → ShapeFits types s → ShapesFit (types ++ s ∷ [])
shapes_longer types s table all new fits t h =
    elim (cases_eq t (length types)) [
      | inl e ↦
          subst (λ k. ShapeFits (types ++ s ∷ []) (shape_at (types ++ s ∷ []) k)) (sym e)
          (subst (ShapeFits (types ++ s ∷ [])) (sym (get_or-append_seam types s [] int)) (shape_longer types (s ∷ []) s new.known fits))
      | inr other ↦
          let before : t < length types = omega (arith, h, other, length-append types (s ∷ [])) in
          subst (ShapeFits (types ++ s ∷ [])) (sym (get_or-append types (s ∷ []) int t before))
          (shape_longer types (s ∷ []) (shape_at types t)
          (λ k d i. let below = (table.declared t before).known k d i in let long = length-before types t before in
          omega (arith, below, long, before)) (all t before))
    ]

-- no more names than fields
abbrev FieldsFit : List (List (List ℕ)) → List Shape → Type 0
FieldsFit fields types = (t : ℕ) → length (get_or fields t []) ≤ length (fields_of (shape_at types t))

fields_longer : (fields : List (List (List ℕ))) (types : List Shape) (names : List (List ℕ)) (s : Shape) → length fields ≡ length types
    → FieldsFit fields types → length names ≤ length (fields_of s) → FieldsFit (fields ++ names ∷ []) (types ++ s ∷ [])
fields_longer fields types names s same all new t =
    elim (cases_eq t (length types)) [
      | inl e ↦
          subst (λ k. length (get_or (fields ++ names ∷ []) k []) ≤ length (fields_of (shape_at (types ++ s ∷ []) k))) (sym e)
          (let left : get_or (fields ++ names ∷ []) (length types) [] ≡ names = ap (λ k. get_or (fields ++ names ∷ []) k []) (sym same)
          ∙ get_or-append_seam fields names [] [] in
          let right : shape_at (types ++ s ∷ []) (length types) ≡ s = get_or-append_seam types s [] int in
          subst (λ n. length n ≤ length (fields_of (shape_at (types ++ s ∷ []) (length types)))) (sym left)
          (subst (λ x. length names ≤ length (fields_of x)) (sym right) new))
      | inr other ↦ elsewhere (nat_lt t (length types)) refl other
    ]
  where
    elsewhere : (below : Bool) → nat_lt t (length types) ≡ below → t ≢ length types → length (get_or (fields ++ names ∷ []) t []) ≤ length
        (fields_of (shape_at (types ++ s ∷ []) t))
    elsewhere true e other =
        let before : t < length types = grind (arith, e) in
        subst (λ n. length n ≤ length (fields_of (shape_at (types ++ s ∷ []) t))) (sym (get_or-append fields (names ∷ []) [] t (omega (arith, before, same))))
        (subst (λ x. length (get_or fields t []) ≤ length (fields_of x)) (sym (get_or-append types (s ∷ []) int t before)) (all t))
    elsewhere false e other =
        let past : length types < t = grind (arith, e, other) in
        subst (λ n. length n ≤ length (fields_of (shape_at (types ++ s ∷ []) t)))
        (sym (get_or_past (fields ++ names ∷ []) t [] (omega (arith, past, same, length-append fields (names ∷ [])))))
        (omega arith)

types_sit : (shape : Shape) (names : List (List ℕ)) (types : List Shape) (fields : List (List (List ℕ))) → TypesSit types fields
    → IsDeclarable types shape → ShapeFits types shape →
    length names ≤ length (fields_of shape) → TypesSit (types ++ shape ∷ []) (fields ++ names ∷ [])
types_sit shape names types fields s new fits few = record {
  table = record {
    three = let three = s.table.three in omega (arith, three, length-append types (shape ∷ []));
    standard = take-append-le 3 types (shape ∷ []) s.table.three ∙ s.table.standard;
    declared = declared-push types shape s.table.declared new;
  };
  shapes = shapes_longer types shape s.table s.shapes new fits;
  field_lists = length-append fields (names ∷ []) ∙ ap (λ n. n + 1) s.field_lists ∙ sym (length-append types (shape ∷ []));
  fields = fields_longer fields types names shape s.field_lists s.fields few;
}

pub type_sits : (shape : Shape) (names : List (List ℕ)) (env : Environment) → Sits env → IsDeclarable env.types shape → ShapeFits env.types shape →
    length names ≤ length (fields_of shape) → Sits (with_type shape names env)
type_sits shape names env s new fits fields =
    let next : Environment = with_type shape names env in
    let l : Later env next = type_later shape names env in
    record {
      types = types_sit shape names env.types env.fields s.types new fits fields;
      as_many = s.as_many;
      stand = λ n h. stand_later env (with_type shape names env) s (type_later shape names env) n h refl;
      nested = s.nested;
      names = scopes_later env (with_type shape names env) s (type_later shape names env) env.around s.nested.chain env.scopes s.names;
    }
