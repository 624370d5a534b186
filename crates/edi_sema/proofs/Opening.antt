-- The begin and the end of procedures and modules.
use Rattle.std.proofs.Common.{◌≡◌, ℕ, ◌<◌, ◌≤◌, Bool, true, false, List, [], ◌∷◌, ◌++◌, length, drop, take, slice_index_or, is_some, not, refl, ap, sym, ◌∙◌}
use Rattle.std.proofs.Common.{subst, arith}
use Rattle.std.specs.Str.{bytes_eq}
use Rattle.std.proofs.lemmas.List.{length-append}
use Rattle.std.proofs.lemmas.List.Elements.{All-filter}
use Rattle.edi_scope.specs.declared.entity.Entity.{Entity}
use Rattle.edi_scope.specs.declared.entity.Entity.TheVariants as entity
use Rattle.edi_scope.specs.Scope.{Scope, declared, outside}
use Rattle.edi_tree.specs.declared.names.Name.{Name}
use Rattle.edi_tree.specs.Tree as text
use Rattle.edi_unit.specs.declared.units.BlockKind.{BlockKind}
use Rattle.edi_unit.specs.Tree.{Acts}
use Rattle.edi_unit.specs.Headings.{heading_result}
use Rattle.edi_static.specs.declared.faults.StaticKind.{StaticKind}
use Rattle.edi_static.specs.Judged.{Judged, gives, faults, ◌>>=◌}
use Rattle.edi_static.specs.Environment.{Begun, Environment, declare, give_outside, enter, here}
use Rattle.edi_static.specs.Headings.{Headed, leave, round, own_name, heading_parts}
use Rattle.edi_static.specs.Statements.{After, add_statements, statement_list}
use Rattle.edi_static.specs.Declarations.{kind_of, with_heading, begun_named, without_begun, completes, post_export, all_completed, enter_block, leave_to}
use Rattle.edi_static.specs.Declarations.{leave_module, heading_of, begin_procedure, begin_post, block_of, procedure_rest, item, module_decl, members}
use Rattle.edi_static.specs.Declarations.{declarations}
use Rattle.edi_static.specs.Proper.{Proper}
use Rattle.edi_static.proofs.Proper.{around_proper, enter_proper}
use Rattle.edi_static.proofs.Judging.{Gives, bind, behind, choose}
use Rattle.edi_sema.specs.Frames.{kinds, frame, DeclarationFrame, BegunFit, EnvironmentStands, Comes, HeadingBegins, Leaves}
use Rattle.edi_sema.specs.Blocks.{outside_block}
use Rattle.edi_sema.specs.Splits.{with_begun}
use Rattle.edi_sema.specs.Bodies.{finished, finished_module, inside_module, whole_procedure}
use Rattle.edi_sema.proofs.Framed.{FramedHeaded, heading_framed, declare_framed, exported_kinds}
use Rattle.edi_sema.proofs.Staying.{outside_kinds, kinds_length, as_many_scopes, begun_grown}

-- ---- inside a heading

-- what is known there but for the types
pub record Inner (env after : Environment) : Type 0 where
  pub inner_kinds : kinds after.scopes ≡ false ∷ kinds env.scopes
  pub inner_around : after.around ≡ env.around
  pub inner_begun : after.begun ≡ env.begun
  pub inner_grows : length env.headings ≤ length after.headings

pub begins : (env after : Environment) → Inner env after → Proper after → HeadingBegins env after
begins env after h p = record { kinds_inside = h.inner_kinds; around_same = h.inner_around; begun_same = h.inner_begun; grows = h.inner_grows; proper = p }

pub begins_stands : (env after : Environment) → EnvironmentStands env → HeadingBegins env after → EnvironmentStands after
begins_stands env after s h = record {
  proper = h.proper;
  open_scopes = omega (arith, ap length h.kinds_inside, kinds_length after.scopes);
  begun_fit = subst (BegunFit after.headings) (sym h.begun_same) (begun_grown env.headings after.headings env.begun h.grows s.begun_fit);
}

pub begins_deep : (env after : Environment) → EnvironmentStands env → HeadingBegins env after → 1 < length after.scopes
begins_deep env after s h = omega (arith, ap length h.kinds_inside, kinds_length after.scopes, kinds_length env.scopes, s.open_scopes)

joined_kinds : (ss ts : List Scope) → kinds ts ≡ kinds (outside ss) → kinds (take 1 ss ++ ts) ≡ kinds ss
joined_kinds [] ts e = e
joined_kinds (s ∷ ss) ts e = ap (λ ks. s.is_module ∷ ks) e

-- something is done round a heading that leaves the frame there as it was
round_inner : (env : Environment) (act : Environment → Judged Environment) (inside : Environment) → Inner env inside →
    Gives (λ e. frame e ≡ frame (leave inside)) (act (leave inside)) → Gives (Inner env) (round act inside)
round_inner env act inside h g =
    bind (λ e. frame e ≡ frame (leave inside)) (Inner env) (act (leave inside)) _ g (λ outer e. record {
      inner_kinds = joined_kinds inside.scopes outer.scopes (ap (λ f. f.kinds_of) e) ∙ h.inner_kinds;
      inner_around = ap (λ f. f.blocks_round) e ∙ h.inner_around;
      inner_begun = ap (λ f. f.begun_here) e ∙ h.inner_begun;
      inner_grows = omega (arith, h.inner_grows, ap (λ f. length f.headings_known) e);
    })

headed_inner : (env : Environment) (headed : Headed) → FramedHeaded (frame env) headed → Inner env headed.env
headed_inner env headed e = record {
  inner_kinds = ap (λ f. f.kinds_of) e;
  inner_around = ap (λ f. f.blocks_round) e;
  inner_begun = ap (λ f. f.begun_here) e;
  inner_grows = omega (arith, ap (λ f. length f.headings_known) e);
}

block_inner : (env : Environment) (kind : BlockKind) (headed : Headed) → Inner env headed.env → Inner env (with_heading kind headed)
block_inner env kind headed h = record {
  inner_kinds = h.inner_kinds;
  inner_around = h.inner_around;
  inner_begun = h.inner_begun;
  inner_grows = omega (arith, h.inner_grows, length-append headed.env.headings);
}

pub begin_inner : (m : Bool) (h : text.Heading) (env : Environment) → Gives (Inner env) (begin_procedure m h env)
begin_inner m h env =
    bind (FramedHeaded (frame env)) (Inner env) (heading_parts (length env.blocks) h env) _ (heading_framed (length env.blocks) h (frame env) env refl)
    (λ headed k.
    round_inner env (declare m (own_name h) (entity.Procedure (length env.blocks))) (with_heading (kind_of (heading_result headed.asks)) headed)
    (block_inner env (kind_of (heading_result headed.asks)) headed (headed_inner env headed k))
    (declare_framed m (own_name h) (entity.Procedure (length env.blocks)) _ (leave (with_heading (kind_of (heading_result headed.asks)) headed)) refl))

outside_framed : (name : Name) (means : Entity) (f : DeclarationFrame) (env : Environment) → frame env ≡ f
    → Gives (λ e. frame e ≡ f) (give_outside name means env)
outside_framed name means f env h =
    choose (λ e. frame e ≡ f) (is_some (declared (outside env.scopes) name.text)) _ _ tt
    (ap (λ ks. record { kinds_of = ks; blocks_round = env.around; begun_here = env.begun; headings_known = env.headings })
    (exported_kinds name.text means env.scopes) ∙ h)

export_inner : (m : Bool) (name : Name) (block : ℕ) (env inside : Environment) → Inner env inside → Gives (Inner env) (post_export m name block inside)
export_inner true name block env inside h = round_inner env (give_outside name (entity.Procedure block)) inside h
    (outside_framed name (entity.Procedure block) _ (leave inside) refl)
export_inner false name block env inside h = h

pub post_inner : (m : Bool) (h : text.Heading) (env : Environment) → Gives (Inner env) (begin_post m h env)
post_inner m h env =
    bind (FramedHeaded (frame env)) (Inner env) (heading_parts (block_of env (begun_named env.begun (own_name h).text)) h env) _
    (heading_framed (block_of env (begun_named env.begun (own_name h).text)) h (frame env) env refl) (λ headed k.
    behind (Inner env) (completes (begun_named env.begun (own_name h).text) (own_name h) headed) _ (λ _.
    export_inner m (own_name h) _ env headed.env (headed_inner env headed k)))

-- ---- behind a procedure

pub body_around : (block : ℕ) (env b c : Environment) → Comes (enter_block block env) b → Comes b c → c.around ≡ block ∷ env.around
body_around block env b c h k = ap (λ p. p.blocks_round) (k.same_setting ∙ h.same_setting)

pub rest_leaves : (block : ℕ) (env b c : Environment) (begun : List Begun) → begun ≡ env.begun → Comes (enter_block block env) b → Comes b c →
    Proper (leave (with_begun begun (outside_block c))) → Leaves env (leave (with_begun begun (outside_block c)))
rest_leaves block env b c begun e h k p = record {
  kinds_outside = outside_kinds c.scopes ∙ (ap (λ p. drop 1 p.kinds_of) (k.same_setting ∙ h.same_setting) ∙ sym (outside_kinds env.scopes));
  around_same = ap (drop 1) (body_around block env b c h k);
  begun_same = e;
  grows = omega (arith, h.grows, k.grows);
  proper = p;
}

pub rest_stated : (block : ℕ) (h : text.Heading) (ds : text.Declarations) (s : text.StatementList) (end : ℕ) (env b c : Environment) (begun : List Begun) →
    begun ≡ env.begun → Comes (enter_block block env) b → Comes b c → declarations ds (enter_block block env) ≡ gives b → finished block s end b ≡ gives c →
    whole_procedure block (text.procedure h ds s end) env ≡ gives (leave (with_begun begun (outside_block c)))
rest_stated block h ds s end env b c begun e hb hc stated closed =
    ap (λ m. m >>= finished block s end >>= λ after. gives (leave_to env env.begun after)) stated
    ∙ (ap (λ m. m >>= λ after. gives (leave_to env env.begun after)) closed
    ∙ (ap (λ around. gives (record (leave c) { around = around; begun = env.begun })) (sym (ap (drop 1) (body_around block env b c hb hc)))
    ∙ ap (λ begun. gives (record (leave c) { around = drop 1 c.around; begun = begun })) (sym e)))

procedure_comes : (env inside after : Environment) → EnvironmentStands env → HeadingBegins env inside → Leaves inside after → Comes env after
procedure_comes env inside after s h k =
    let ks : kinds after.scopes ≡ kinds env.scopes = k.kinds_outside ∙ (outside_kinds inside.scopes ∙ ap (drop 1) h.kinds_inside) in
    record {
      same_setting = ap (λ ks. record { kinds_of = ks; blocks_round = after.around }) ks ∙ ap (λ r. record { kinds_of = kinds env.scopes; blocks_round = r })
          (k.around_same ∙ h.around_same);
      grows = omega (arith, h.grows, k.grows);
      stands = record {
        proper = k.proper;
        open_scopes = subst (λ n. 0 < n) (as_many_scopes env.scopes after.scopes (sym ks)) s.open_scopes;
        begun_fit =
            subst (BegunFit after.headings) (sym (k.begun_same ∙ h.begun_same))
            (begun_grown env.headings after.headings env.begun (omega (arith, h.grows, k.grows)) s.begun_fit);
      };
    }

left_to : (env inside : Environment) → HeadingBegins env inside → (begun : List Begun) → begun ≡ env.begun → (m : Judged Environment) →
    (m >>= λ after. gives (leave_to env env.begun after)) ≡ (m >>= λ after. gives (leave_to inside begun after))
left_to env inside h begun e (gives after) =
    ap (λ around. gives (record (leave after) { around = around; begun = env.begun })) (sym h.around_same)
    ∙ ap (λ begun. gives (record (leave after) { around = inside.around; begun = begun })) (sym e)
left_to env inside h begun e (faults why line) = refl

pub procedure_item_stated : (m : Bool) (p : text.Procedure) (n : ℕ) (env inside : Environment) → begin_procedure m (heading_of p) env ≡ gives inside →
    n ≡ length env.blocks → HeadingBegins env inside → item m (text.procedure_item p) env ≡ whole_procedure n p inside
procedure_item_stated m p n env inside stated e h =
    ap (λ j. j >>= procedure_rest (length env.blocks) p >>= λ after. gives (leave_to env env.begun after)) stated
    ∙ (ap (λ n. procedure_rest n p inside >>= λ after. gives (leave_to env env.begun after)) (sym e)
    ∙ left_to env inside h inside.begun h.begun_same (procedure_rest n p inside))

-- a split procedure is completed
completed_comes : (env after : Environment) (name : List ℕ) → Comes env after → BegunFit after.headings (without_begun name after.begun) →
    Comes env (with_begun (without_begun name after.begun) after)
completed_comes env after name h k = record {
  same_setting = h.same_setting;
  grows = h.grows;
  stands = record {
    proper = around_proper after.around (without_begun name after.begun) after h.stands.proper;
    open_scopes = h.stands.open_scopes;
    begun_fit = k;
  };
}

pub post_comes : (env inside after closed : Environment) (name : List ℕ) → EnvironmentStands env → HeadingBegins env inside → Leaves inside after →
    closed ≡ with_begun (without_begun name after.begun) after → Comes env closed
post_comes env inside after closed name s h k is =
    let c : Comes env after = procedure_comes env inside after s h k in
    subst (Comes env) (sym is) (completed_comes env after name c
    (All-filter (λ b. not (bytes_eq b.name.text name)) (λ b. b.block < length after.headings) after.begun c.stands.begun_fit))

posted : (env inside : Environment) → HeadingBegins env inside → (name : List ℕ) (begun : List Begun) → begun ≡ env.begun → (m : Judged Environment) →
    (m >>= λ after. gives (leave_to env (without_begun name env.begun) after))
    ≡ ((m >>= λ after. gives (leave_to inside begun after)) >>= λ after. gives (with_begun (without_begun name after.begun) after))
posted env inside h name begun e (gives after) =
    ap (λ around. gives (record (leave after) { around = around; begun = without_begun name env.begun })) (sym h.around_same)
    ∙ ap (λ begun. gives (record (leave after) { around = inside.around; begun = without_begun name begun })) (sym e)
posted env inside h name begun e (faults why line) = refl

pub post_item_stated : (m : Bool) (p : text.Procedure) (n : ℕ) (env inside : Environment) → begin_post m (heading_of p) env ≡ gives inside →
    n ≡ block_of env (begun_named env.begun (own_name (heading_of p)).text) → HeadingBegins env inside →
    item m (text.post_item p) env ≡ (whole_procedure n p inside >>= λ after. gives
    (with_begun (without_begun (own_name (heading_of p)).text after.begun) after))
post_item_stated m (text.procedure h ds s end) n env inside stated e k =
    let p : text.Procedure = text.procedure h ds s end in
    ap (λ j. j >>= procedure_rest (block_of env (begun_named env.begun (own_name h).text)) p >>= λ after. gives
    (leave_to env (without_begun (own_name h).text env.begun) after)) stated
    ∙ (ap (λ n. procedure_rest n p inside >>= λ after. gives (leave_to env (without_begun (own_name h).text env.begun) after)) (sym e)
    ∙ posted env inside k (own_name h).text inside.begun k.begun_same (procedure_rest n p inside))

-- ---- modules

left_module : (env : Environment) (m : Judged (After Acts)) →
    (m >>= λ done. gives (leave_module env done))
    ≡ ((m >>= λ done. gives (add_statements (here env) done.what done.env)) >>= λ after. gives (leave_to env env.begun after))
left_module env (gives done) = refl
left_module env (faults why line) = refl

module_rest : (env inner : Environment) (s : text.StatementList) (first : Judged (Unit {0})) →
    (first >>= λ _. statement_list s inner >>= λ done. gives (leave_module env done))
    ≡ ((first >>= λ _. statement_list s inner >>= λ done. gives (add_statements (here env) done.what done.env)) >>= λ after. gives
    (leave_to env env.begun after))
module_rest env inner s (faults why line) = refl
module_rest env inner s (gives u) = left_module env (statement_list s inner)

pub module_stated : (ms : text.Members) (s : text.StatementList) (env b c : Environment) (begun : List Begun) → begun ≡ env.begun →
    Comes (inside_module env) b → Comes b c → members ms (inside_module env) ≡ gives b → finished_module (here b) s b ≡ gives c →
    module_decl (text.module_with ms s) env ≡ gives (leave (with_begun begun c))
module_stated ms s env b c begun e hb hc stated closed =
    let r : c.around ≡ env.around = ap (λ p. p.blocks_round) (hc.same_setting ∙ hb.same_setting) in
    let n : here b ≡ here env = ap (λ p. slice_index_or p.blocks_round 0 0) hb.same_setting in
    ap (λ m. m >>= λ inner. all_completed inner.begun >>= λ _. statement_list s inner >>= λ done. gives (leave_module env done)) stated
    ∙ (module_rest env b s (all_completed b.begun)
    ∙ (ap (λ n. finished_module n s b >>= λ after. gives (leave_to env env.begun after)) (sym n)
    ∙ (ap (λ m. m >>= λ after. gives (leave_to env env.begun after)) closed
    ∙ (ap (λ around. gives (record (leave c) { around = around; begun = env.begun })) (sym r)
    ∙ ap (λ begun. gives (record (leave c) { begun = begun })) (sym e)))))

pub module_comes : (env b c : Environment) (begun : List Begun) → begun ≡ env.begun → EnvironmentStands env → Comes (inside_module env) b → Comes b c →
    Proper (leave (with_begun begun c)) → Comes env (leave (with_begun begun c))
module_comes env b c begun e s hb hc p =
    let ks : kinds (outside c.scopes) ≡ kinds env.scopes = outside_kinds c.scopes ∙ ap (λ p. drop 1 p.kinds_of) (hc.same_setting ∙ hb.same_setting) in
    record {
      same_setting = ap (λ ks. record { kinds_of = ks; blocks_round = c.around }) ks
          ∙ ap (λ p. record { kinds_of = kinds env.scopes; blocks_round = p.blocks_round }) (hc.same_setting ∙ hb.same_setting);
      grows = omega (arith, hb.grows, hc.grows);
      stands = record {
        proper = p;
        open_scopes = subst (λ n. 0 < n) (as_many_scopes env.scopes (outside c.scopes) (sym ks)) s.open_scopes;
        begun_fit = subst (BegunFit c.headings) (sym e) (begun_grown env.headings c.headings env.begun (omega (arith, hb.grows, hc.grows)) s.begun_fit);
      };
    }

-- inside a block
pub open_stands : (n : ℕ) (env : Environment) → EnvironmentStands env → EnvironmentStands (enter_block n env)
open_stands n env s = record {
  proper = around_proper (n ∷ env.around) [] env s.proper;
  open_scopes = s.open_scopes;
  begun_fit = λ i d lt. absurd (omega (arith, lt));
}

-- the block of a program
pub program_inner : (m : Bool) (name : Name) (n k : ℕ) (h : text.Heading) (env after : Environment) (kind : BlockKind) (headed : Headed) →
    heading_parts n h env ≡ gives headed → round (declare m name (entity.Procedure k)) (with_heading kind headed) ≡ gives after → Inner env after
program_inner m name n k h env after kind headed stated begun =
    let f : FramedHeaded (frame env) headed = subst (Gives (FramedHeaded (frame env))) stated (heading_framed n h (frame env) env refl) in
    subst (Gives (Inner env)) begun
    (round_inner env (declare m name (entity.Procedure k)) (with_heading kind headed) (block_inner env kind headed (headed_inner env headed f))
    (declare_framed m name (entity.Procedure k) _ (leave (with_heading kind headed)) refl))

pub rest_faults : (block : ℕ) (h : text.Heading) (ds : text.Declarations) (s : text.StatementList) (end : ℕ) (env : Environment) (why : StaticKind) (line : ℕ) →
    declarations ds (enter_block block env) ≡ faults why line → whole_procedure block (text.procedure h ds s end) env ≡ faults why line
rest_faults block h ds s end env why line e = ap (λ m. m >>= finished block s end >>= λ after. gives (leave_to env env.begun after)) e

pub end_faults : (block : ℕ) (h : text.Heading) (ds : text.Declarations) (s : text.StatementList) (end : ℕ) (env b : Environment) (why : StaticKind)
    (line : ℕ) →
    declarations ds (enter_block block env) ≡ gives b → finished block s end b ≡ faults why line → whole_procedure block (text.procedure h ds s end) env
    ≡ faults why line
end_faults block h ds s end env b why line stated e =
    ap (λ m. m >>= finished block s end >>= λ after. gives (leave_to env env.begun after)) stated
    ∙ ap (λ m. m >>= λ after. gives (leave_to env env.begun after)) e

-- inside a module
pub module_stands : (env : Environment) → EnvironmentStands env → EnvironmentStands (inside_module env)
module_stands env s = record {
  proper = around_proper env.around [] (enter true env) (enter_proper true env s.proper);
  open_scopes = omega arith;
  begun_fit = λ i d lt. absurd (omega (arith, lt));
}
