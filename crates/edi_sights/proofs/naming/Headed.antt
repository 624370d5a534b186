-- Headings: as many variables as they give a block are named.
use Rattle.std.proofs.Common.{◌≡◌, ℕ, suc, ◌+◌, Bool, true, false, List, [], ◌++◌, length, map, Option, Some, None, refl, ap, ◌∙◌, arith, length-append}
use Rattle.std.specs.Prelude.{option_to_list}
use Rattle.edi_scope.specs.declared.entity.Entity.TheVariants as entity
use Rattle.edi_tree.specs.declared.names.Name.{Name}
use Rattle.edi_tree.specs.Tree as text
use Rattle.edi_unit.specs.declared.units.BlockKind.{BlockKind}
use Rattle.edi_unit.specs.declared.units.Parameter.TheVariants as slot
use Rattle.edi_unit.specs.Headings.{Heading, heading_formals, heading_result, Formals, no_formal, value_then, variable_then, procedure_then}
use Rattle.edi_static.specs.Environment.{Environment, type_named, declare, enter, here, begun_block, parameters_of, formals_append, formals_count}
use Rattle.edi_static.specs.Headings.{Listed, Headed, leave, round, own_name, formal_one, before_parameters, param_named, params_named, param_group}
use Rattle.edi_static.specs.Headings.{procedure_named, with_result, result_named, heading_parts, parameters, more_parameters, parameter}
use Rattle.edi_static.specs.Declarations.{with_heading}
use Rattle.edi_static.proofs.Judging.{Gives, bind, behind}
use Rattle.edi_sights.specs.named.Laws.{slot_count, variable_count}
use Rattle.edi_sights.specs.named.Names as names
use Rattle.edi_sights.specs.named.Naming.{Naming, with_block, headed}
use Rattle.edi_sights.proofs.naming.Counts.{one_more}
use Rattle.edi_sights.proofs.naming.Declared.{Agrees, declare_agrees}

-- ---- counts

appended : (fs gs : Formals) → formals_count (formals_append fs gs) ≡ formals_count fs + formals_count gs
appended no_formal gs = omega arith
appended (value_then t fs) gs = omega (arith, appended fs gs)
appended (variable_then t fs) gs = omega (arith, appended fs gs)
appended (procedure_then h fs) gs = omega (arith, appended fs gs)

kept_count : (fs : Formals) → length (parameters_of fs) ≡ formals_count fs
kept_count no_formal = refl
kept_count (value_then t fs) = ap suc (kept_count fs)
kept_count (variable_then t fs) = ap suc (kept_count fs)
kept_count (procedure_then h fs) = ap suc (kept_count fs)

abbrev result_count : Option ℕ → ℕ
result_count None = 0
result_count (Some t) = 1

-- what a heading gives a block
abbrev pub asked_count : Heading → ℕ
asked_count asks = result_count (heading_result asks) + formals_count (heading_formals asks)

-- ---- parameters

-- with so many parameters before these
abbrev Listing : (place : List ℕ) → Naming → ℕ → Listed → Type 0
Listing place w k l = Agrees place w l.env × (formals_count l.formals ≡ k)

abbrev pub Heads : (place : List ℕ) → Naming → ℕ → Headed → Type 0
Heads place w k headed = Agrees place w headed.env × (asked_count headed.asks ≡ k)

one_agrees : (place : List ℕ) (w : Naming) (block before of : ℕ) (one : Formals) (name : Name) (l : Listed) (k : ℕ) → formals_count one ≡ 1
    → Listing place w k l → Gives (Listing place w (k + 1)) (param_named block before of one name l)
one_agrees place w block before of one name l k single h =
    bind (Agrees place w) (Listing place w (k + 1)) _ _ (declare_agrees place w false name _ l.env h.0)
    (λ e a. (a, omega (arith, appended l.formals one, single, h.1)))

more_agree : (place : List ℕ) (w : Naming) (block before of : ℕ) (one : Formals) (ns : text.Names) (l : Listed) (k m : ℕ) → formals_count one ≡ 1
    → m ≡ k + length (names.spellings ns) → Listing place w k l → Gives (Listing place w m) (params_named block before of one ns l)
more_agree place w block before of one text.no_name l k m single e h = (h.0, omega (arith, e, h.1))
more_agree place w block before of one (text.next_name name ns) l k m single e h =
    bind (Listing place w (k + 1)) (Listing place w m) _ _ (one_agrees place w block before of one name l k single h)
    (λ l j. more_agree place w block before of one ns l (k + 1) m single (omega (arith, e)) j)

single : (v : Bool) (t : ℕ) → formals_count (formal_one v t) ≡ 1
single true t = refl
single false t = refl

group_agrees : (place : List ℕ) (w : Naming) (block before : ℕ) (v : Bool) (g : text.Group) (l : Listed) (k m : ℕ)
    → m ≡ k + length (names.group_names g) → Listing place w k l → Gives (Listing place w m) (param_group block before v g l)
group_agrees place w block before v (text.group first ns of) l k m e h =
    behind (Listing place w m) (type_named l.env of) _
    (λ t. more_agree place w block before t (formal_one v t) (text.next_name first ns) l k m (single v t) e h)

procedure_agrees : (place : List ℕ) (w : Naming) (block before : ℕ) (name : Name) (fs : Formals) (inner : Headed) (k m : ℕ) → m ≡ k + 1
    → formals_count fs ≡ k → Agrees place w inner.env → Gives (Listing place w m) (procedure_named block before name fs inner)
procedure_agrees place w block before name fs inner k m e count h =
    bind (Agrees place w) (Listing place w m) _ _ (declare_agrees place w false name _ (leave inner.env) h)
    (λ env a. (a, omega (arith, e, count, appended fs (procedure_then inner.asks no_formal))))

result_agrees : (place : List ℕ) (w : Naming) (function : List ℕ) (r : Option Name) (l : Listed) (k m : ℕ)
    → m ≡ length (names.result_names function r) + k → Listing place w k l → Gives (Heads place w m) (with_result r l)
result_agrees place w function None l k m e h = (h.0, omega (arith, e, h.1))
result_agrees place w function (Some name) l k m e h =
    bind (λ (o : Option ℕ). result_count o ≡ 1) (Heads place w m) (result_named (Some name) l.env) _
    (behind (λ (o : Option ℕ). result_count o ≡ 1) (type_named l.env name) _ (λ t. refl)) (λ o s. (h.0, omega (arith, e, h.1, s)))

mutual
  pub heading_agrees : (place : List ℕ) (w : Naming) (block : ℕ) (h : text.Heading) (env : Environment) → Agrees place w env
      → Gives (Heads place w (length (names.heading_names h))) (heading_parts block h env)
  heading_agrees place w block (text.heading name ps r) env a =
      let count = length (names.params_names ps) in
      bind (Listing place w count) (Heads place w (length (names.heading_names (text.heading name ps r)))) _ _
      (parameters_agree place w block (before_parameters r) ps (record { env = enter false env; formals = no_formal }) (a, refl))
      (λ l k. result_agrees place w name.text r l count (length (names.heading_names (text.heading name ps r)))
      (length-append (names.result_names name.text r) (names.params_names ps)) k)

  parameters_agree : (place : List ℕ) (w : Naming) (block before : ℕ) (ps : text.Params) (l : Listed) → Listing place w 0 l
      → Gives (Listing place w (length (names.params_names ps))) (parameters block before ps l)
  parameters_agree place w block before text.no_params l h = h
  parameters_agree place w block before (text.params p ps) l h =
      bind (Listing place w (length (names.param_names p))) (Listing place w (length (names.param_names p ++ names.more_param_names ps))) _ _
      (parameter_agrees place w block before p l 0 (length (names.param_names p)) (omega arith) h)
      (λ l k. others_agree place w block before ps l (length (names.param_names p)) (length (names.param_names p ++ names.more_param_names ps))
      (length-append (names.param_names p) (names.more_param_names ps)) k)

  others_agree : (place : List ℕ) (w : Naming) (block before : ℕ) (ps : text.MoreParams) (l : Listed) (k m : ℕ)
      → m ≡ k + length (names.more_param_names ps) → Listing place w k l → Gives (Listing place w m) (more_parameters block before ps l)
  others_agree place w block before text.no_param l k m e h = (h.0, omega (arith, e, h.1))
  others_agree place w block before (text.next_param p ps) l k m e h =
      bind (Listing place w (k + length (names.param_names p))) (Listing place w m) _ _
      (parameter_agrees place w block before p l k (k + length (names.param_names p)) refl h)
      (λ l j. others_agree place w block before ps l (k + length (names.param_names p)) m
      (omega (arith, e, length-append (names.param_names p) (names.more_param_names ps))) j)

  parameter_agrees : (place : List ℕ) (w : Naming) (block before : ℕ) (p : text.Param) (l : Listed) (k m : ℕ)
      → m ≡ k + length (names.param_names p) → Listing place w k l → Gives (Listing place w m) (parameter block before p l)
  parameter_agrees place w block before (text.value_param g) l k m e h = group_agrees place w block before false g l k m e h
  parameter_agrees place w block before (text.var_param g) l k m e h = group_agrees place w block before true g l k m e h
  parameter_agrees place w block before (text.procedure_param inner) l k m e h =
      bind (Heads place w (length (names.heading_names inner))) (Listing place w m) _ _ (heading_agrees place w block inner l.env h.0)
      (λ i j. procedure_agrees place w block before (own_name inner) l.formals i k m e h.1 j.0)

-- ---- the block of a heading

results_count : (r : Option ℕ) → length (map slot.Value (option_to_list r)) ≡ result_count r
results_count None = refl
results_count (Some t) = refl

pub block_count : (k : BlockKind) (up : ℕ) (asks : Heading)
    → slot_count (begun_block k up (heading_result asks) (parameters_of (heading_formals asks))) ≡ asked_count asks
block_count k up asks =
    omega (
      arith,
      length-append (map slot.Value (option_to_list (heading_result asks))) (parameters_of (heading_formals asks) ++ []),
      length-append (parameters_of (heading_formals asks)) [],
      kept_count (heading_formals asks),
      results_count (heading_result asks),
    )

-- one more block, with its name in the scope round its heading
pub begun_agrees : (place : List ℕ) (w : Naming) (m : Bool) (k : BlockKind) (h : text.Heading) (name : Name) (n : ℕ) (headings : Headed)
    → Heads place w (length (names.heading_names h)) headings
    → Gives (Agrees place (with_block (headed h) w)) (round (declare m name (entity.Procedure n)) (with_heading k headings))
begun_agrees place w m k h name n headings g =
    let next = with_block (headed h) w in
    bind (Agrees place next) (Agrees place next) _ _
    (declare_agrees place next m name (entity.Procedure n) (leave (with_heading k headings)) (record {
      of_blocks =
          one_more slot_count variable_count headings.env.blocks
          (begun_block k (here headings.env) (heading_result headings.asks) (parameters_of (heading_formals headings.asks))) w.blocks (headed h)
          (g.0).of_blocks (block_count k (here headings.env) headings.asks ∙ g.1);
      of_types = (g.0).of_types;
      of_begun = (g.0).of_begun;
      at = (g.0).at;
    }))
    (λ e a. a)
