-- Procedures, modules and programs: what they give the environment is named.
use Rattle.std.proofs.Common.{◌≡◌, ℕ, Bool, true, false, List, [], ◌∷◌, ◌++◌, length, map, is_some, refl, sym, ap, ◌∙◌, subst}
use Rattle.edi_scope.specs.declared.entity.Entity.TheVariants as entity
use Rattle.edi_scope.specs.Scope.{declared, outside}
use Rattle.edi_tree.specs.declared.names.Name.{Name}
use Rattle.edi_tree.specs.Tree as text
use Rattle.edi_unit.specs.declared.units.BlockKind.TheVariants as block_kind
use Rattle.edi_unit.specs.Tree.{ProgramUnit}
use Rattle.edi_unit.specs.Headings.{heading_result}
use Rattle.edi_static.specs.Judged.{◌>>=◌}
use Rattle.edi_static.specs.Environment.{Begun, Environment, at_first, give_outside, enter, here}
use Rattle.edi_static.specs.Headings.{leave, own_name, heading_parts}
use Rattle.edi_static.specs.Statements.{statement_list, add_statements}
use Rattle.edi_static.specs.Declarations.{kind_of, begun_named, without_begun, completes, post_export, all_completed, enter_block, block_of, begin_procedure}
use Rattle.edi_static.specs.Declarations.{begin_post, procedure_rest, item, module_decl, members, member, declarations, declaration}
use Rattle.edi_static.specs.Programs.{program_heading, global_decl, global_decls, program_procedure, resolve_tree}
use Rattle.edi_static.proofs.Judging.{Gives, bind, behind, choose}
use Rattle.edi_sights.specs.named.Laws.{slot_count, variable_count, constant_count, NamesAreSlots}
use Rattle.edi_sights.specs.named.Names as names
use Rattle.edi_sights.specs.named.Naming as naming
use Rattle.edi_sights.specs.named.Naming.{Naming, with_block, headed, first_naming, names_of}
use Rattle.edi_sights.proofs.naming.Counts.{renamed_same, as_many}
use Rattle.edi_sights.proofs.naming.Declared.{Agree, Agrees, home, const_list_agrees, type_agrees, var_agrees}
use Rattle.edi_sights.proofs.naming.Headed.{Heads, heading_agrees, begun_agrees}
use Rattle.edi_sights.proofs.naming.Blocks.{AfterAgrees, added_agrees, close_agrees, list_agrees}
use Rattle.edi_sights.proofs.naming.Split.{post_same}

-- ---- headings

begin_agrees : (place : List ℕ) (w : Naming) (m : Bool) (h : text.Heading) (env : Environment) → Agrees place w env
    → Gives (Agrees place (with_block (headed h) w)) (begin_procedure m h env)
begin_agrees place w m h env a =
    bind (Heads place w (length (names.heading_names h))) (Agrees place (with_block (headed h) w)) _ _ (heading_agrees place w (length env.blocks) h env a)
    (λ headings g. begun_agrees place w m (kind_of (heading_result headings.asks)) h (own_name h) (length env.blocks) headings g)

export_agrees : (place : List ℕ) (w : Naming) (m : Bool) (name : Name) (n : ℕ) (env : Environment) → Agrees place w env
    → Gives (Agrees place w) (post_export m name n env)
export_agrees place w true name n env a =
    bind (Agrees place w) (Agrees place w) (give_outside name (entity.Procedure n) (leave env)) _
    (choose (Agrees place w) (is_some (declared (outside (leave env).scopes) name.text)) _ _ tt a) (λ e k. k)
export_agrees place w false name n env a = a

post_agrees : (place : List ℕ) (w : Naming) (m : Bool) (h : text.Heading) (env : Environment) → Agrees place w env → Gives (Agrees place w) (begin_post m h env)
post_agrees place w m h env a =
    let n : ℕ = block_of env (begun_named env.begun (own_name h).text) in
    bind (Heads place w (length (names.heading_names h))) (Agrees place w) _ _ (heading_agrees place w n h env a) (λ headings g.
    behind (Agrees place w) (completes (begun_named env.begun (own_name h).text) (own_name h) headings) _ (λ u.
    export_agrees place w m (own_name h) n headings.env g.0))

-- the names in a `post`
newly_named : (place : List ℕ) (w : Naming) (n : ℕ) (new : List (List ℕ)) (env : Environment) → Agrees place w env
    → Agrees place (naming.with_new_names n new w) env
newly_named place w n new env a = record {
  of_blocks = a.of_blocks ∙ sym (renamed_same w.blocks n new);
  of_types = a.of_types;
  of_begun = a.of_begun;
  at = a.at;
}

-- with other procedures begun
begun_again : (place inner : List ℕ) (w v : Naming) (env after : Environment) (begun : List Begun) → env.around ≡ place → begun ≡ w.begun
    → Agrees inner v after → Agree place (naming.with_begun w.begun v) after.types after.blocks begun env.around
begun_again place inner w v env after begun e b k = record { of_blocks = k.of_blocks; of_types = k.of_types; of_begun = b; at = e }

-- ---- declarations

-- the rest of a procedure, from what its declarations give
rest_agrees : (place : List ℕ) (w : Naming) (n : ℕ) (h : text.Heading) (ds : text.Declarations) (s : text.StatementList) (end : ℕ)
    → ((env : Environment) → Agrees (n ∷ place) (naming.with_begun [] w) env
    → Gives (Agrees (n ∷ place) (naming.declarations_named n ds (naming.with_begun [] w))) (declarations ds env))
    → (env : Environment) → Agrees place w env
    → Gives (Agrees (n ∷ place) (naming.list_named s (naming.declarations_named n ds (naming.with_begun [] w))))
    (procedure_rest n (text.procedure h ds s end) env)
rest_agrees place w n h ds s end inside env a =
    let inner : List ℕ = n ∷ place in
    let v : Naming = naming.declarations_named n ds (naming.with_begun [] w) in
    let u : Naming = naming.list_named s v in
    bind (Agrees inner v) (Agrees inner u) (declarations ds (enter_block n env)) _
    (inside (enter_block n env) (record {
      of_blocks = a.of_blocks;
      of_types = a.of_types;
      of_begun = refl;
      at = ap (λ p. n ∷ p) a.at;
    })) (λ now k.
    behind (Agrees inner u) (all_completed now.begun) _ (λ _.
    bind (AfterAgrees inner u) (Agrees inner u) (statement_list s now) _ (list_agrees inner v s now k)
    (λ done j. close_agrees inner u n done.what end done.env j)))

mutual
  item_agrees : (place : List ℕ) (w : Naming) (m : Bool) (i : text.Item) (env : Environment) → Agrees place w env
      → Gives (Agrees place (naming.item_named (home place) i w)) (item m i env)
  item_agrees place w m (text.const_item cs) env a = const_list_agrees place w m cs env a
  item_agrees place w m (text.type_item t) env a = type_agrees place w m t env a
  item_agrees place w m (text.var_item vs) env a = var_agrees place w m vs env a
  item_agrees place w m (text.procedure_item (text.procedure h ds s end)) env a =
      let n : ℕ = length env.blocks in
      let v : Naming = with_block (headed h) w in
      let u : Naming = naming.list_named s (naming.declarations_named n ds (naming.with_begun [] v)) in
      subst (λ k. Gives (Agrees place (naming.procedure_named k (text.procedure h ds s end) v)) (item m (text.procedure_item (text.procedure h ds s end)) env))
      (as_many slot_count variable_count env.blocks w.blocks a.of_blocks)
      (bind (Agrees (n ∷ place) u) (Agrees place (naming.procedure_named n (text.procedure h ds s end) v))
      (begin_procedure m h env >>= procedure_rest n (text.procedure h ds s end)) _
      (bind (Agrees place v) (Agrees (n ∷ place) u) (begin_procedure m h env) _ (begin_agrees place w m h env a)
      (λ e k. rest_agrees place v n h ds s end (λ f j. declarations_agree (n ∷ place) (naming.with_begun [] v) ds f j) e k))
      (λ after k. begun_again place (n ∷ place) w u env after env.begun a.at a.of_begun k))
  item_agrees place w m (text.pre_item (text.heading name ps r)) env a =
      let h : text.Heading = text.heading name ps r in
      bind (Agrees place (with_block (headed h) w)) (Agrees place (naming.begin h w)) (begin_procedure m h env) _ (begin_agrees place w m h env a)
      (λ after k. record {
        of_blocks = k.of_blocks;
        of_types = k.of_types;
        of_begun =
            ap (λ bs. bs ++ record { name = name; block = length env.blocks } ∷ []) a.of_begun
            ∙ ap (λ n. w.begun ++ record { name = name; block = n } ∷ []) (as_many slot_count variable_count env.blocks w.blocks a.of_blocks);
        at = k.at;
      })
  item_agrees place w m (text.post_item (text.procedure (text.heading name ps r) ds s end)) env a =
      let h : text.Heading = text.heading name ps r in
      let p : text.Procedure = text.procedure h ds s end in
      let n : ℕ = block_of env (begun_named env.begun name.text) in
      let v : Naming = naming.with_new_names n (names.heading_names h) w in
      let u : Naming = naming.list_named s (naming.declarations_named n ds (naming.with_begun [] v)) in
      subst (λ k. Gives (Agrees place (naming.with_begun (without_begun name.text w.begun)
      (naming.procedure_named k p (naming.with_new_names k (names.heading_names h) w)))) (item m (text.post_item p) env))
      (post_same place w env name.text a)
      (bind (Agrees (n ∷ place) u) (Agrees place (naming.with_begun (without_begun name.text w.begun) (naming.procedure_named n p v)))
      (begin_post m h env >>= procedure_rest n p) _
      (bind (Agrees place w) (Agrees (n ∷ place) u) (begin_post m h env) _ (post_agrees place w m h env a)
      (λ e k.
      rest_agrees place v n h ds s end (λ f j. declarations_agree (n ∷ place) (naming.with_begun [] v) ds f j) e
      (newly_named place w n (names.heading_names h) e k)))
      (λ after k.
      begun_again place (n ∷ place) (naming.with_begun (without_begun name.text w.begun) w) u env after (without_begun name.text env.begun) a.at
      (ap (without_begun name.text) a.of_begun) k))

  module_agrees : (place : List ℕ) (w : Naming) (x : text.Module) (env : Environment) → Agrees place w env
      → Gives (Agrees place (naming.module_named (home place) x w)) (module_decl x env)
  module_agrees place w (text.module_with ms s) env a =
      let v : Naming = naming.members_named (home place) ms (naming.with_begun [] w) in
      let u : Naming = naming.list_named s v in
      let Q = Agrees place (naming.with_begun w.begun u) in
      bind (Agrees place v) Q (members ms (record (enter true env) { begun = [] })) _
      (members_agree place (naming.with_begun [] w) ms (record (enter true env) { begun = [] }) (record {
        of_blocks = a.of_blocks;
        of_types = a.of_types;
        of_begun = refl;
        at = a.at;
      })) (λ now k.
      behind Q (all_completed now.begun) _ (λ _.
      bind (AfterAgrees place u) Q (statement_list s now) _ (list_agrees place v s now k) (λ done j.
      begun_again place place w u env (add_statements (here env) done.what done.env) env.begun a.at a.of_begun
      (added_agrees place u (here env) done.what done.env j))))

  members_agree : (place : List ℕ) (w : Naming) (ms : text.Members) (env : Environment) → Agrees place w env
      → Gives (Agrees place (naming.members_named (home place) ms w)) (members ms env)
  members_agree place w text.no_member env a = a
  members_agree place w (text.next_member m ms) env a =
      let v = naming.member_named (home place) m w in
      bind (Agrees place v) (Agrees place (naming.members_named (home place) ms v)) (member m env) _ (member_agrees place w m env a)
      (λ e k. members_agree place v ms e k)

  member_agrees : (place : List ℕ) (w : Naming) (m : text.Member) (env : Environment) → Agrees place w env
      → Gives (Agrees place (naming.member_named (home place) m w)) (member m env)
  member_agrees place w (text.item_member i) env a = item_agrees place w false i env a
  member_agrees place w (text.exported_member i) env a = item_agrees place w true i env a
  member_agrees place w (text.module_member m) env a = module_agrees place w m env a

  declarations_agree : (place : List ℕ) (w : Naming) (ds : text.Declarations) (env : Environment) → Agrees place w env
      → Gives (Agrees place (naming.declarations_named (home place) ds w)) (declarations ds env)
  declarations_agree place w text.no_declaration env a = a
  declarations_agree place w (text.next_declaration d ds) env a =
      let v = naming.declaration_named (home place) d w in
      bind (Agrees place v) (Agrees place (naming.declarations_named (home place) ds v)) (declaration d env) _ (declaration_agrees place w d env a)
      (λ e k. declarations_agree place v ds e k)

  declaration_agrees : (place : List ℕ) (w : Naming) (d : text.Declaration) (env : Environment) → Agrees place w env
      → Gives (Agrees place (naming.declaration_named (home place) d w)) (declaration d env)
  declaration_agrees place w (text.item_declaration i) env a = item_agrees place w false i env a
  declaration_agrees place w (text.module_declaration m) env a = module_agrees place w m env a

-- ---- programs

global_agrees : (w : Naming) (g : text.Global) (env : Environment) → Agrees [] w env → Gives (Agrees [] (naming.global_named g w)) (global_decl g env)
global_agrees w (text.const_global cs) env a = const_list_agrees [] w false cs env a
global_agrees w (text.type_global t) env a = type_agrees [] w false t env a

globals_agree : (w : Naming) (gs : text.Globals) (env : Environment) → Agrees [] w env → Gives (Agrees [] (naming.globals_named gs w)) (global_decls gs env)
globals_agree w text.no_global env a = a
globals_agree w (text.next_global g gs) env a =
    let v = naming.global_named g w in
    bind (Agrees [] v) (Agrees [] (naming.globals_named gs v)) (global_decl g env) _ (global_agrees w g env a) (λ e k. globals_agree v gs e k)

abbrev IsNamed : Naming → ProgramUnit → Type 0
IsNamed w unit = (map slot_count unit.blocks ≡ map variable_count w.blocks) × (map constant_count unit.types ≡ map length w.constants)

procedure_agrees : (w : Naming) (p : text.Procedure) (env : Environment) → Agrees [] w env → Gives (IsNamed (naming.program_named p w)) (program_procedure p env)
procedure_agrees w (text.procedure h ds s end) env a =
    let v : Naming = with_block (headed h) w in
    let u : Naming = naming.list_named s (naming.declarations_named 0 ds (naming.with_begun [] v)) in
    let Q = IsNamed (naming.program_named (text.procedure h ds s end) w) in
    bind (Heads [] w (length (names.heading_names h))) Q (heading_parts 0 h env) _ (heading_agrees [] w 0 h env a) (λ headings g.
    bind (Agrees [] v) Q _ _ (begun_agrees [] w false block_kind.Program h (own_name h) 0 headings g) (λ begun k.
    behind Q (program_heading begun.types h headings.asks) _ (λ calls.
    bind (Agrees (0 ∷ []) u) Q (procedure_rest 0 (text.procedure h ds s end) begun) _ (rest_agrees [] v 0 h ds s end (λ e j. declarations_agree (0 ∷ []) (naming.with_begun [] v) ds e j) begun k)
    (λ after j. (j.of_blocks, j.of_types)))))

program_agrees : (tree : text.Program)
    → Gives (λ (unit : ProgramUnit). (map slot_count unit.blocks ≡ map variable_count (names_of tree).blocks)
    × (map constant_count unit.types ≡ map length (names_of tree).constants)) (resolve_tree tree)
program_agrees (text.program gs p) =
    let w : Naming = naming.globals_named gs first_naming in
    bind (Agrees [] w) (IsNamed (naming.program_named p w)) (global_decls gs (enter false at_first)) _
    (globals_agree first_naming gs (enter false at_first) (record { of_blocks = refl; of_types = refl; of_begun = refl; at = refl }))
    (λ env k. procedure_agrees w p env k)

pub names_are_slots : NamesAreSlots
names_are_slots tree unit resolved =
    subst (Gives (λ (unit : ProgramUnit). (map slot_count unit.blocks ≡ map variable_count (names_of tree).blocks)
    × (map constant_count unit.types ≡ map length (names_of tree).constants))) resolved (program_agrees tree)
