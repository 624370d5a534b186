-- Blocks that begin and that end, and places that are entered and left.
use Rattle.std.proofs.Common.{◌≡◌, ◌≢◌, ℕ, ◌+◌, ◌<◌, ◌≤◌, nat_le, List, [], ◌∷◌, ◌++◌, length, get_or, set, All, is_some, refl, sym, ap, ◌∙◌, subst, arith}
use Rattle.std.proofs.Common.{inl, inr, length-append}
use Rattle.std.proofs.lemmas.Bool.{cases_eq}
use Rattle.std.proofs.lemmas.List.{append-nil, length-set, get_or-set_same, get_or-set_other}
use Rattle.std.proofs.Math.ListN.{get_or-append}
use Rattle.std.proofs.Math.Seq.{get_or-append_seam}
use Rattle.edi_unit.specs.declared.units.BlockKind.{BlockKind}
use Rattle.edi_unit.specs.declared.units.BlockKind.TheVariants as block_kind
use Rattle.edi_unit.specs.Types.{Shape, greatest_size}
use Rattle.edi_unit.specs.Tree.{Acts, no_act, Block}
use Rattle.edi_unit.specs.Need.{no_block, block_at, slots, need}
use Rattle.edi_unit.specs.Fits.{KindFits, ActsFit, SlotIsKnown}
use Rattle.edi_unit.specs.Headings.{Heading, heading_result, heading_formals}
use Rattle.edi_static.specs.declared.faults.StaticKind.TheVariants as kind
use Rattle.edi_static.specs.Environment.{Environment, no_heading, heading_at, parameters_of, with_block, set_block}
use Rattle.edi_static.specs.Statements.{with_statements, add_statements, with_need, close_block}
use Rattle.edi_static.proofs.Judging.{Gives, ruled, weaker}
use Rattle.edi_static.proofs.Fitness.{headings_of, BlockStands, Sits}
use Rattle.edi_static.proofs.FitnessGrowth.{BlockGrows}
use Rattle.edi_static.proofs.FitnessActs.{appended_fit}
use Rattle.edi_static.proofs.FitnessLater.{Later, types_stay, same_block, later_then, stand_later, need_later}
use Rattle.edi_static.proofs.FitnessChanges.{blocks_sit, set_later, set_sits}
use Rattle.edi_static.proofs.FitnessOnward.{Closed}

-- ---- more headings of procedure parameters

pub shapes_later : (more : List Heading) (env : Environment) → Later env (record env { shapes = env.shapes ++ more })
shapes_later more env =
    types_stay env (record env { shapes = env.shapes ++ more }) refl (omega arith) (λ n h. same_block (block_at env.blocks n)) (λ n h. refl)
    (omega (arith, length-append env.shapes more)) (λ s h. get_or-append env.shapes more no_heading s h)

pub shapes_sit : (more : List Heading) (env : Environment) → Sits env → Sits (record env { shapes = env.shapes ++ more })
shapes_sit more env s = blocks_sit env.blocks env.headings (env.shapes ++ more) env s (shapes_later more env) s.as_many s.stand

-- ---- a block that begins

-- a block behind the others
pub record BlockBegins (types : List Shape) (n : ℕ) (block : Block) (asks : Heading) : Type 0 where
  pub fits_kind : KindFits block.kind n block
  pub outermost : n ≡ 0 → block.up ≡ 0
  pub inner : 0 < n → block.up < n
  pub known : All (SlotIsKnown types) (slots block)
  pub parameters : block.parameters ≡ parameters_of (heading_formals asks)
  pub result : block.result ≡ heading_result asks
  pub nothing : block.body ≡ no_act

module _ (block : Block) (asks : Heading) (env : Environment) (s : Sits env) where
  pub block_later : Later env (with_block block asks env)
  block_later =
      types_stay env (with_block block asks env) refl (omega (arith, length-append env.blocks (block ∷ [])))
      (λ n h. subst (BlockGrows (block_at env.blocks n)) (sym (get_or-append env.blocks (block ∷ []) no_block n h)) (same_block (block_at env.blocks n)))
      (λ n h. let many = s.as_many in get_or-append env.headings (asks ∷ []) no_heading n (omega (arith, h, many)))
      (omega arith) (λ s h. refl)

  pub new_block : block_at (env.blocks ++ block ∷ []) (length env.blocks) ≡ block
  new_block = get_or-append_seam env.blocks block [] no_block

  pub new_heading : heading_at (env.headings ++ asks ∷ []) (length env.blocks) ≡ asks
  new_heading = ap (heading_at (env.headings ++ asks ∷ [])) (sym s.as_many) ∙ get_or-append_seam env.headings asks [] no_heading

  new_stands : BlockBegins env.types (length env.blocks) block asks → BlockStands env.types (env.blocks ++ block ∷ []) (env.headings ++ asks ∷ [])
      (length env.blocks)
  new_stands b = record {
    fits_kind = subst (λ x. KindFits x.kind (length env.blocks) x) (sym new_block) b.fits_kind;
    outermost = λ e. ap (λ x. x.up) new_block ∙ b.outermost e;
    inner = λ h. subst (λ x. x.up < length env.blocks) (sym new_block) (b.inner h);
    known = subst (λ x. All (SlotIsKnown env.types) (slots x)) (sym new_block) b.known;
    parameters = ap (λ x. x.parameters) new_block ∙ b.parameters ∙ ap (λ x. parameters_of (heading_formals x)) (sym new_heading);
    result = ap (λ x. x.result) new_block ∙ b.result ∙ ap heading_result (sym new_heading);
    statements =
        subst (ActsFit env.types (env.blocks ++ block ∷ []) (headings_of (env.headings ++ asks ∷ [])) (length env.blocks))
        (sym (ap (λ x. x.body) new_block ∙ b.nothing)) tt;
  }

  pub block_sits : BlockBegins env.types (length env.blocks) block asks → Sits (with_block block asks env)
  block_sits b =
      blocks_sit (env.blocks ++ block ∷ []) (env.headings ++ asks ∷ []) env.shapes env s block_later
      (length-append env.headings (asks ∷ []) ∙ ap (λ n. n + 1) s.as_many ∙ sym (length-append env.blocks (block ∷ [])))
      (λ n h.
      elim (cases_eq n (length env.blocks)) [
        | inl e ↦ subst (BlockStands env.types (env.blocks ++ block ∷ []) (env.headings ++ asks ∷ [])) (sym e) (new_stands b)
        | inr other ↦
            let before : n < length env.blocks = omega (arith, h, other, length-append env.blocks (block ∷ [])) in
            stand_later env (with_block block asks env) s block_later n before (get_or-append env.blocks (block ∷ []) no_block n before)
      ])

-- ---- a block that is changed or ends

pub record Changes (n : ℕ) (env next : Environment) : Type 0 where
  pub sits : Sits next
  pub later : Later env next
  pub around : next.around ≡ env.around
  pub scopes : next.scopes ≡ env.scopes
  pub begun : next.begun ≡ env.begun
  pub many : length next.blocks ≡ length env.blocks
  pub others : (k : ℕ) → k ≢ n → block_at next.blocks k ≡ block_at env.blocks k

changes_then : (n : ℕ) (a b c : Environment) → Changes n a b → Changes n b c → Changes n a c
changes_then n a b c g h = record {
  sits = h.sits;
  later = later_then a b c g.later h.later;
  around = h.around ∙ g.around;
  scopes = h.scopes ∙ g.scopes;
  begun = h.begun ∙ g.begun;
  many = h.many ∙ g.many;
  others = λ k i. h.others k i ∙ g.others k i;
}

with_more : (s : Acts) (b : Block) → BlockGrows b (with_statements s b)
with_more s b = record { kind = refl; up = refl; result = refl; parameters = refl; more = []; variables = sym (append-nil b.variables) }

kind_same : (k : BlockKind) (n : ℕ) (old new : Block) → new.result ≡ old.result → slots new ≡ slots old → KindFits k n old → KindFits k n new
kind_same block_kind.Program n old new r e h = (h.0, r ∙ h.1)
kind_same block_kind.Procedure n old new r e h = (h.0, r ∙ h.1)
kind_same block_kind.Function n old new r e h = (h.0, ap is_some r ∙ h.1)
kind_same block_kind.Branch n old new r e h = (h.0, e ∙ h.1)

-- statements come behind those of a block
pub more_change : (n : ℕ) (s : Acts) (env : Environment) → Sits env → n < length env.blocks → ActsFit env.types env.blocks (headings_of env.headings) n s
    → Changes n env (add_statements n s env)
more_change n s env sits inside fits =
    let b : Block = block_at env.blocks n in
    let stands = sits.stand n inside in
    let g : BlockGrows b (with_statements s b) = with_more s b in
    record {
      sits =
          set_sits n (with_statements s b) env sits inside g
          (kind_same b.kind n b (with_statements s b) refl refl stands.fits_kind) stands.known
          (appended_fit env.types env.blocks (headings_of env.headings) n b.body s stands.statements fits);
      later = set_later n (with_statements s b) env inside g;
      around = refl;
      scopes = refl;
      begun = refl;
      many = length-set env.blocks n (with_statements s b);
      others = λ k other. get_or-set_other env.blocks n k (with_statements s b) no_block other;
    }

pub record Closes (n : ℕ) (env next : Environment) : Type 0 where
  pub changes : Changes n env next
  pub closed : Closed next.types next.blocks n

needing : (n words : ℕ) (env : Environment) → BlockGrows (block_at env.blocks n) (record (block_at env.blocks n) { need = words })
needing n words env = record {
  kind = refl;
  up = refl;
  result = refl;
  parameters = refl;
  more = [];
  variables = sym (append-nil (block_at env.blocks n).variables);
}

need_closes : (n line : ℕ) (env : Environment) → Sits env → n < length env.blocks → Gives (Closes n env) (with_need n line env)
need_closes n line env s inside =
    ruled (Closes n env) (nat_le (need env.types env.blocks n) greatest_size) kind.Range line _ (λ small.
    let words : ℕ = need env.types env.blocks n in
    let old : Block = block_at env.blocks n in
    let b : Block = record old { need = words } in
    let next : Environment = set_block n b env in
    let stands = s.stand n inside in
    let l : Later env next = set_later n b env inside (needing n words env) in
    let at : block_at next.blocks n ≡ b = get_or-set_same env.blocks n b no_block inside in
    record {
      changes = record {
        sits = set_sits n b env s inside (needing n words env) (kind_same old.kind n old b refl refl stands.fits_kind) stands.known stands.statements;
        later = l;
        around = refl;
        scopes = refl;
        begun = refl;
        many = length-set env.blocks n b;
        others = λ k other. get_or-set_other env.blocks n k b no_block other;
      };
      closed = record {
        needs = ap (λ x. x.need) at ∙ sym (need_later env next s l n inside (ap slots at) (ap (λ x. x.body) at));
        small = subst (λ x. x.need ≤ greatest_size) (sym at) (grind (arith, small));
      };
    })

pub block_closes : (n : ℕ) (s : Acts) (line : ℕ) (env : Environment) → Sits env → n < length env.blocks → ActsFit env.types env.blocks
    (headings_of env.headings) n s → Gives (Closes n env) (close_block n s line env)
block_closes n s line env sits inside fits =
    let c : Changes n env (add_statements n s env) = more_change n s env sits inside fits in
    weaker (Closes n (add_statements n s env)) (Closes n env) (close_block n s line env)
    (λ next k. record { changes = changes_then n env (add_statements n s env) next c k.changes; closed = k.closed })
    (need_closes n line (add_statements n s env) c.sits (subst (λ m. n < m) (sym c.many) inside))
