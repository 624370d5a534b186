-- Procedures, modules and programs: the lines of their statements are small, and their code takes at most 8 words for each
-- mark.
use Rattle.std.proofs.Common.{◌≡◌, ℕ, ◌+◌, ◌*◌, ◌≤◌, Bool, true, false, List, [], ◌∷◌, ◌++◌, length, All, refl, arith, subst, sym}
use Rattle.std.proofs.lemmas.List.Elements.{All-push}
use Rattle.edi_lex.specs.declared.symbol.Symbol.TheVariants as is
use Rattle.edi_scope.specs.declared.entity.Entity.TheVariants as entity
use Rattle.edi_tree.specs.declared.names.Name.{Name}
use Rattle.edi_tree.specs.Tree as text
use Rattle.edi_tree.specs.Stands.{Spelled, on, just}
use Rattle.edi_tree.specs.Spelled.{const_list_then, type_decl_then, var_list_then, heading_then, list_then, procedure_then, item_then}
use Rattle.edi_tree.specs.Spelled.{module_then, member_then, members_then, declaration_then, declarations_then, global_then, globals_then, spelled}
use Rattle.edi_tree.specs.Spells.{IsBounded}
use Rattle.edi_unit.specs.declared.units.BlockKind.{BlockKind}
use Rattle.edi_unit.specs.declared.units.BlockKind.TheVariants as block_kind
use Rattle.edi_unit.specs.Types.{Shape}
use Rattle.edi_unit.specs.Tree.{Block, ProgramUnit}
use Rattle.edi_unit.specs.Headings.{heading_result, heading_formals}
use Rattle.edi_static.specs.Judged.{Judged, ◌>>=◌}
use Rattle.edi_static.specs.Environment.{Environment, at_first, declare, enter, here, begun_block, parameters_of}
use Rattle.edi_static.specs.Types.{const_list, type_decl, var_list}
use Rattle.edi_static.specs.Headings.{Headed, round, own_name, heading_parts}
use Rattle.edi_static.specs.Statements.{add_statements}
use Rattle.edi_static.specs.Declarations.{kind_of, with_heading, block_of, procedure_name, heading_of, begun_named, completes, post_export, all_completed}
use Rattle.edi_static.specs.Declarations.{begin_procedure, begin_post, procedure_rest, item, module_decl, members, member, declarations, declaration}
use Rattle.edi_static.specs.Programs.{program_heading, global_decl, global_decls, program_procedure, resolve_tree, Resolved}
use Rattle.edi_static.proofs.Judging.{Gives, bind, behind, weaker}
use Rattle.edi_scheme.specs.Laws.{HasPart}
use Rattle.edi_static.proofs.Declared.{Keeping, const_list_kept, type_decl_kept, var_kept, heading_kept, round_kept, outside_round_kept}
use Rattle.edi_compile.proofs.codable.Fielded.{with_parts}
use Rattle.edi_compile.proofs.codable.Front.{weight, Lined, Front, tree_lined, const_list_front, type_decl_front, var_list_front, heading_front}
use Rattle.edi_compile.proofs.codable.Most.{total}
use Rattle.edi_compile.proofs.codable.Bodies.{BodyLines, Counted, typed, varied, push_total, Good, ActsDone, moved, close_good, add_good, list_good}

-- what stands behind the heading of a procedure
abbrev rest_then : text.Procedure → List Spelled → List Spelled
rest_then (text.procedure h ds s end) more = declarations_then ds (just is.Begin ∷ list_then s (on is.End end ∷ more))

headed_first : (p : text.Procedure) (more : List Spelled) → procedure_then p more ≡ heading_then (heading_of p) (rest_then p more)
headed_first (text.procedure h ds s end) more = refl

longer : (n : ℕ) (types : List Shape) (blocks : List Block) (shape : Shape) → HasPart shape → Counted (n + 9) types blocks
    → Counted (n + 17) (types ++ shape ∷ []) blocks
longer n types blocks shape part h =
    let more = typed (n + 9) types blocks shape part h in
    record { bodies = more.bodies; standard = more.standard; within = omega (arith, more.within) }

-- the words that are counted, where each type and each variable may take some
abbrev counts : (n m : ℕ) → ((types : List Shape) (blocks : List Block) (shape : Shape) → HasPart shape → Counted n types blocks
    → Counted m (types ++ shape ∷ []) blocks) → Keeping
counts n m more = with_parts (Counted n) (Counted m) more (λ types blocks m block body need h. varied n types blocks m block body h)

abbrev counting : ℕ → Keeping
counting n = counts n (n + 8) (typed n)

abbrev counting_on : ℕ → Keeping
counting_on n = counts (n + 9) (n + 17) (longer n)

module _ (budget : ℕ) where
  abbrev There : List Spelled → Environment → Type 0
  There front env = Good budget 0 env front

  abbrev CountedAt : ℕ → Environment → Type 0
  CountedAt n env = Counted n env.types env.blocks

  abbrev CountedHeaded : ℕ → Headed → Type 0
  CountedHeaded n headed = CountedAt n headed.env

  -- behind a construct that leaves the blocks as they are, but for their variables
  kept : (n : ℕ) (env e : Environment) (a b : List Spelled) → There a env → Front n a b → CountedAt (total env.blocks + 8 * length env.types + 8 * n) e
      → There b e
  kept n env e a b g f k = record { bodies = k.bodies; standard = k.standard; within = omega (arith, g.within, k.within, f.fewer); lined = f.lined g.lined }

  counted : (env : Environment) (a : List Spelled) → There a env → CountedAt (total env.blocks + 8 * length env.types) env
  counted env a g = record { bodies = g.bodies; standard = g.standard; within = omega arith }

  more_words : (n m : ℕ) (env : Environment) → n ≤ m → CountedAt n env → CountedAt m env
  more_words n m env less k = record { bodies = k.bodies; standard = k.standard; within = omega (arith, less, k.within) }

  -- the words in front of a list and behind it are paid by `proc` and the name
  with_heading_good : (n : ℕ) (k : BlockKind) (headed : Headed) → CountedHeaded n headed → CountedAt (n + 9) (with_heading k headed)
  with_heading_good n k headed h =
      let block : Block = begun_block k (here headed.env) (heading_result headed.asks) (parameters_of (heading_formals headed.asks)) in
      record {
        bodies = All-push BodyLines headed.env.blocks block h.bodies tt;
        standard = h.standard;
        within = omega (arith, h.within, push_total headed.env.blocks block);
      }

  began : (env e : Environment) (h : text.Heading) (more : List Spelled) → There (heading_then h more) env
      → CountedAt (total env.blocks + 8 * length env.types + 9) e → There more e
  began env e h more g k =
      let front = heading_front h more in
      record { bodies = k.bodies; standard = k.standard; within = omega (arith, g.within, k.within, front.fewer); lined = front.lined g.lined }

  begin_good : (m : Bool) (h : text.Heading) (more : List Spelled) (env : Environment) → There (heading_then h more) env
      → Gives (There more) (begin_procedure m h env)
  begin_good m h more env g =
      let n : ℕ = total env.blocks + 8 * length env.types in
      weaker (CountedAt (n + 9)) (There more) (begin_procedure m h env) (λ e k. began env e h more g k)
      (bind (CountedHeaded n) (CountedAt (n + 9)) (heading_parts (length env.blocks) h env) _
      (heading_kept (counting n) (length env.blocks) h env (counted env _ g)) (λ headed k.
      round_kept (counting_on n) m (own_name h) (entity.Procedure (length env.blocks))
      (with_heading (kind_of (heading_result headed.asks)) headed) (with_heading_good n (kind_of (heading_result headed.asks)) headed k)))

  export_good : (n : ℕ) (m : Bool) (name : Name) (block : ℕ) (env : Environment) → CountedAt n env → Gives (CountedAt n) (post_export m name block env)
  export_good n true name block env h = outside_round_kept (counting n) name (entity.Procedure block) env h
  export_good n false name block env h = h

  post_good : (m : Bool) (h : text.Heading) (more : List Spelled) (env : Environment) → There (heading_then h more) env
      → Gives (There more) (begin_post m h env)
  post_good m h more env g =
      let n : ℕ = total env.blocks + 8 * length env.types in
      let block : ℕ = block_of env (begun_named env.begun (own_name h).text) in
      weaker (CountedAt n) (There more) (begin_post m h env) (λ e k. began env e h more g (more_words n (n + 9) e (omega arith) k))
      (bind (CountedHeaded n) (CountedAt n) (heading_parts block h env) _
      (heading_kept (counting n) block h env (counted env _ g)) (λ headed k.
      behind (CountedAt n) (completes (begun_named env.begun (own_name h).text) (own_name h) headed) _ (λ _. export_good n m (own_name h) block headed.env k)))

  -- the same blocks, with other scopes
  same_blocks : (env e : Environment) (a : List Spelled) → e.blocks ≡ env.blocks → e.types ≡ env.types → There a env → There a e
  same_blocks env e a q r g = record {
    bodies = subst (All BodyLines) (sym q) g.bodies;
    standard = subst (λ types. 3 ≤ length types) (sym r) g.standard;
    within = subst (λ bs. total bs + 8 * length e.types + 0 + 8 * weight a ≤ budget) (sym q)
        (subst (λ types. total env.blocks + 8 * length types + 0 + 8 * weight a ≤ budget) (sym r) g.within);
    lined = g.lined;
  }

  -- the words of an environment
  abbrev words_in : Environment → ℕ
  words_in env = total env.blocks + 8 * length env.types

  -- behind constants, a type or variables, which leave at most so many words
  stretch_good : (n most : ℕ) (env : Environment) (a more : List Spelled) (m : Judged Environment) → There a env → Front n a more →
      most ≤ words_in env + 8 * n → Gives (CountedAt most) m → Gives (There more) m
  stretch_good n most env a more m g f fits h =
      weaker (CountedAt most) (There more) m (λ e k. kept n env e a more g f (more_words most (words_in env + 8 * n) e fits k)) h

  const_good : (m : Bool) (cs : text.ConstList) (more : List Spelled) (env : Environment) → There (const_list_then cs more) env
      → Gives (There more) (const_list m cs env)
  const_good m cs more env g =
      stretch_good 0 (words_in env) env (const_list_then cs more) more (const_list m cs env) g (const_list_front cs more) (omega arith)
      (const_list_kept (counting (words_in env)) m cs env (counted env _ g))

  type_good : (m : Bool) (t : text.TypeDecl) (more : List Spelled) (env : Environment) → There (type_decl_then t more) env
      → Gives (There more) (type_decl m t env)
  type_good m t more env g =
      stretch_good 1 (words_in env + 8) env (type_decl_then t more) more (type_decl m t env) g (type_decl_front t more) (omega arith)
      (type_decl_kept (counting (words_in env)) m t env (counted env _ g))

  var_good : (m : Bool) (vs : text.VarList) (more : List Spelled) (env : Environment) → There (var_list_then vs more) env
      → Gives (There more) (var_list m vs env)
  var_good m vs more env g =
      stretch_good 0 (words_in env) env (var_list_then vs more) more (var_list m vs env) g (var_list_front vs more) (omega arith)
      (var_kept (counting (words_in env)) m vs env (counted env _ g))

  mutual
    rest_good : (block : ℕ) (p : text.Procedure) (more : List Spelled) (env : Environment) → There (rest_then p more) env
        → Gives (There more) (procedure_rest block p env)
    rest_good block (text.procedure h ds s end) more env g =
        let last : List Spelled = on is.End end ∷ more in
        let inner : List Spelled = just is.Begin ∷ list_then s last in
        bind (There inner) (There more) _ _ (declarations_good ds inner _ (same_blocks env _ _ refl refl g)) (λ e j.
        behind (There more) (all_completed e.begun) _ (λ _.
        bind (ActsDone budget 0 last) (There more) _ _ (list_good budget s last e 0 (moved budget j j.lined.1 (omega arith))) (λ done i.
        close_good budget block done.what end done.env 0 more i.0 (moved budget i.1 i.1.lined.1 (omega arith)))))

    item_good : (m : Bool) (i : text.Item) (more : List Spelled) (env : Environment) → There (item_then i more) env → Gives (There more) (item m i env)
    item_good m (text.const_item cs) more env g = const_good m cs more env g
    item_good m (text.type_item t) more env g = type_good m t more env g
    item_good m (text.var_item vs) more env g = var_good m vs more env g
    item_good m (text.procedure_item p) more env g =
        bind (There more) (There more) (begin_procedure m (heading_of p) env >>= procedure_rest (length env.blocks) p) _
        (bind (There (rest_then p more)) (There more) (begin_procedure m (heading_of p) env) _
        (begin_good m (heading_of p) (rest_then p more) env (subst (λ l. There l env) (headed_first p more) g))
        (λ e k. rest_good (length env.blocks) p more e k))
        (λ e k. same_blocks e _ more refl refl k)
    item_good m (text.pre_item h) more env g =
        bind (There more) (There more) (begin_procedure m h env) _ (begin_good m h more env (moved budget g g.lined.1 (omega arith)))
        (λ e k. same_blocks e _ more refl refl k)
    item_good m (text.post_item p) more env g =
        let block : ℕ = block_of env (begun_named env.begun (procedure_name p).text) in
        bind (There more) (There more) (begin_post m (heading_of p) env >>= procedure_rest block p) _
        (bind (There (rest_then p more)) (There more) (begin_post m (heading_of p) env) _
        (post_good m (heading_of p) (rest_then p more) env (subst (λ l. There l env) (headed_first p more) (moved budget g g.lined.1 (omega arith))))
        (λ e k. rest_good block p more e k))
        (λ e k. same_blocks e _ more refl refl k)

    module_good : (m : text.Module) (more : List Spelled) (env : Environment) → There (module_then m more) env → Gives (There more) (module_decl m env)
    module_good (text.module_with ms s) more env g =
        let last : List Spelled = just is.End ∷ more in
        let inner : List Spelled = just is.Begin ∷ list_then s last in
        bind (There inner) (There more) _ _ (members_good ms inner _ (same_blocks env _ _ refl refl (moved budget g g.lined.1 (omega arith)))) (λ e k.
        behind (There more) (all_completed e.begun) _ (λ _.
        bind (ActsDone budget 0 last) (There more) _ _ (list_good budget s last e 0 (moved budget k k.lined.1 (omega arith))) (λ done j.
        same_blocks (add_statements (here env) done.what done.env) _ more refl refl
        (add_good budget (here env) done.what done.env 0 more j.0 (moved budget j.1 j.1.lined.1 (omega arith))))))

    members_good : (ms : text.Members) (more : List Spelled) (env : Environment) → There (members_then ms more) env → Gives (There more) (members ms env)
    members_good text.no_member more env g = g
    members_good (text.next_member m ms) more env g =
        bind (There (members_then ms more)) (There more) _ _ (member_good m (members_then ms more) env g) (λ e k. members_good ms more e k)

    member_good : (m : text.Member) (more : List Spelled) (env : Environment) → There (member_then m more) env → Gives (There more) (member m env)
    member_good (text.item_member i) more env g = item_good false i more env g
    member_good (text.exported_member i) more env g = item_good true i more env (moved budget g g.lined.1 (omega arith))
    member_good (text.module_member m) more env g = module_good m more env g

    declarations_good : (ds : text.Declarations) (more : List Spelled) (env : Environment) → There (declarations_then ds more) env
        → Gives (There more) (declarations ds env)
    declarations_good text.no_declaration more env g = g
    declarations_good (text.next_declaration d ds) more env g =
        bind (There (declarations_then ds more)) (There more) _ _ (declaration_good d (declarations_then ds more) env g) (λ e k. declarations_good ds more e k)

    declaration_good : (d : text.Declaration) (more : List Spelled) (env : Environment) → There (declaration_then d more) env
        → Gives (There more) (declaration d env)
    declaration_good (text.item_declaration i) more env g = item_good false i more env g
    declaration_good (text.module_declaration m) more env g = module_good m more env g

  -- ---- programs

  global_good : (x : text.Global) (more : List Spelled) (env : Environment) → There (global_then x more) env → Gives (There more) (global_decl x env)
  global_good (text.const_global cs) more env g = const_good false cs more env g
  global_good (text.type_global t) more env g = type_good false t more env g

  globals_good : (gs : text.Globals) (more : List Spelled) (env : Environment) → There (globals_then gs more) env → Gives (There more) (global_decls gs env)
  globals_good text.no_global more env g = g
  globals_good (text.next_global x gs) more env g =
      bind (There (globals_then gs more)) (There more) _ _ (global_good x (globals_then gs more) env g) (λ e k. globals_good gs more e k)

  abbrev pub GoodUnit : ProgramUnit → Type 0
  GoodUnit u = Counted budget u.types u.blocks

  program_good : (p : text.Procedure) (env : Environment) → There (procedure_then p []) env → Gives GoodUnit (program_procedure p env)
  program_good p env g =
      let n : ℕ = total env.blocks + 8 * length env.types in
      let h : text.Heading = heading_of p in
      let first : There (heading_then h (rest_then p [])) env = subst (λ l. There l env) (headed_first p []) g in
      bind (CountedHeaded n) GoodUnit (heading_parts 0 h env) _ (heading_kept (counting n) 0 h env (counted env _ g))
      (λ headed k.
      bind (CountedAt (n + 9)) GoodUnit (round (declare false (own_name h) (entity.Procedure 0)) (with_heading block_kind.Program headed)) _
      (round_kept (counting_on n) false (own_name h) (entity.Procedure 0)
      (with_heading block_kind.Program headed)
      (with_heading_good n block_kind.Program headed k)) (λ begun j.
      behind GoodUnit (program_heading begun.types h headed.asks) _ (λ calls.
      bind (There []) GoodUnit (procedure_rest 0 p begun) _ (rest_good 0 p [] begun (began env begun h (rest_then p []) first j)) (λ after i.
      record { bodies = i.bodies; standard = i.standard; within = omega (arith, i.within) }))))

resolved_good : (tree : text.Program) → Lined (spelled tree) → Gives (GoodUnit (24 + 8 * weight (spelled tree))) (resolve_tree tree)
resolved_good (text.program gs p) lined =
    let budget : ℕ = 24 + 8 * weight (spelled (text.program gs p)) in
    bind (There budget (procedure_then p [])) (GoodUnit budget) (global_decls gs (enter false at_first)) _
    (globals_good budget gs (procedure_then p []) (enter false at_first)
    (record { bodies = λ i d lt. absurd (omega (arith, lt)); standard = omega arith; within = omega arith; lined = lined }))
    (λ e k. program_good budget p e k)

pub unit_good : (tree : text.Program) (unit : ProgramUnit) → ∥ IsBounded tree ∥₁ → Resolved tree unit → GoodUnit (24 + 8 * weight (spelled tree)) unit
unit_good tree unit is_bounded e = subst (Gives (GoodUnit (24 + 8 * weight (spelled tree)))) e (resolved_good tree (tree_lined tree is_bounded))
