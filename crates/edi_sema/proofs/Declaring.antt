-- Procedures behind their headings, by the parts of the code's tree: their declarations one after another, and their end.
use Rattle.std.proofs.Common.{◌≡◌, ℕ, List, [], ◌∷◌, map, ap, sym, ◌∙◌, subst}
use Rattle.edi_tree.specs.declared.declarations.Declaration.{Declaration}
use Rattle.edi_tree.specs.declared.declarations.Declaration.TheViews.{out-Procedure}
use Rattle.edi_tree.specs.declared.declarations.Procedure as code_procedure
use Rattle.edi_tree.specs.Sequences.{items_of}
use Rattle.edi_tree.specs.View.{declaration_of, declarations, declarations_of, heading_of, list_of, procedure_of}
use Rattle.edi_static.specs.declared.faults.StaticKind.{StaticKind}
use Rattle.edi_static.specs.declared.faults.StaticFault.{StaticFault}
use Rattle.edi_static.specs.Judged.{Judged, gives, faults, ◌>>=◌}
use Rattle.edi_static.specs.Environment.{Begun, Environment}
use Rattle.edi_static.specs.Headings.{leave}
use Rattle.edi_static.specs.Declarations as spec
use Rattle.edi_static.specs.Declarations.{enter_block}
use Rattle.edi_static.specs.Programs.{program_procedure}
use Rattle.edi_static.specs.Proper.{Proper}
use Rattle.edi_sema.specs.Blocks.{outside_block}
use Rattle.edi_sema.specs.Bodies.{finished, whole_procedure}
use Rattle.edi_sema.specs.Frames.{Comes, Leaves}
use Rattle.edi_sema.specs.Splits.{with_begun}
use Rattle.edi_sema.specs.Whole.{begun_program}
use Rattle.edi_sema.proofs.Answered.{Faulted, part_faults, program_faults}
use Rattle.edi_sema.proofs.Opening.{rest_stated, rest_leaves, rest_faults, end_faults}
use Rattle.edi_sema.proofs.Seen.{procedure_seen}
use Rattle.edi_sema.proofs.Staying.{given}

-- the heading of a program has a fault
pub heading_faults : (p : code_procedure.Procedure) (env : Environment) (why : StaticKind) (line : ℕ) →
    begun_program (heading_of (out-Procedure p).heading) env ≡ faults why line → program_procedure (procedure_of p) env ≡ faults why line
heading_faults p env why line e =
    let q = out-Procedure p in
    ap (λ x. program_procedure x env) (procedure_seen p)
    ∙ program_faults (heading_of q.heading) (declarations_of q.declarations) (list_of q.list) q.end env why line e

-- what is left of a list is judged where its loop stands as the whole list is where the loop began
abbrev pub Remains : {X : Type 0} → (List X → Environment → Judged Environment) → (rest all : List X) → (now first : Environment) → Type 0
Remains judge rest all now first = judge rest now ≡ judge all first

-- A place behind some declarations of a procedure: these are left, and judged there as all of them are at the first.
pub record Declaring (block : ℕ) (env now : Environment) (p : code_procedure.Procedure) (rest : List Declaration) : Type 0 where
  pub left : spec.declarations (declarations_of (out-Procedure p).declarations) (enter_block block env)
      ≡ spec.declarations (declarations (map declaration_of rest)) now
  pub comes : Comes (enter_block block env) now

pub declaring : (block : ℕ) (env opened now : Environment) (p : code_procedure.Procedure) (items rest : List Declaration) →
    gives (enter_block block env) ≡ gives opened → items ≡ items_of (out-Procedure p).declarations → Comes opened now →
    spec.declarations (declarations (map declaration_of rest)) now ≡ spec.declarations (declarations (map declaration_of items)) opened →
    Declaring block env now p rest
declaring block env opened now p items rest begins all comes left =
    let at : enter_block block env ≡ opened = given (enter_block block env) opened begins in
    record {
      left =
          ap (λ xs. spec.declarations (declarations (map declaration_of xs)) (enter_block block env)) (sym all)
          ∙ (ap (spec.declarations (declarations (map declaration_of items))) at ∙ sym left);
      comes = subst (λ e. Comes e now) (sym at) comes;
    }

module _ (block : ℕ) (env now : Environment) (p : code_procedure.Procedure) (rest : List Declaration) (h : Declaring block env now p rest) where
  -- the next declaration has a fault
  pub declaration_faults : (d : Declaration) (more : List Declaration) (f : StaticFault) → rest ≡ d ∷ more →
      Faulted f (spec.declaration (declaration_of d) now) → Faulted f (whole_procedure block (procedure_of p) env)
  declaration_faults d more f next e =
      let q = out-Procedure p in
      part_faults f (whole_procedure block (procedure_of p) env) (spec.declaration (declaration_of d) now) e (λ why line e.
      ap (λ p. whole_procedure block p env) (procedure_seen p)
      ∙ rest_faults block (heading_of q.heading) (declarations_of q.declarations) (list_of q.list) q.end env why line
      (h.left ∙ (ap (λ xs. spec.declarations (declarations (map declaration_of xs)) now) next
      ∙ ap (λ m. m >>= spec.declarations (declarations (map declaration_of more))) e)))

  -- no declaration is left
  pub all_declared : rest ≡ [] → spec.declarations (declarations_of (out-Procedure p).declarations) (enter_block block env) ≡ gives now
  all_declared none = h.left ∙ ap (λ xs. spec.declarations (declarations (map declaration_of xs)) now) none

  -- the statements or the end have a fault
  pub finish_faults : (f : StaticFault) → rest ≡ [] → Faulted f (finished block (list_of (out-Procedure p).list) (out-Procedure p).end now) →
      Faulted f (whole_procedure block (procedure_of p) env)
  finish_faults f none e =
      let q = out-Procedure p in
      part_faults f (whole_procedure block (procedure_of p) env) (finished block (list_of q.list) q.end now) e (λ why line e.
      ap (λ p. whole_procedure block p env) (procedure_seen p)
      ∙ end_faults block (heading_of q.heading) (declarations_of q.declarations) (list_of q.list) q.end env now why line (all_declared none) e)

  module _ (after closed : Environment) (begun : List Begun) (same : begun ≡ env.begun) (comes : Comes now after)
      (closes : closed ≡ leave (with_begun begun (outside_block after))) where
    pub procedure_given : rest ≡ [] → finished block (list_of (out-Procedure p).list) (out-Procedure p).end now ≡ gives after →
        whole_procedure block (procedure_of p) env ≡ gives closed
    procedure_given none ends =
        let q = out-Procedure p in
        ap (λ p. whole_procedure block p env) (procedure_seen p)
        ∙ (rest_stated block (heading_of q.heading) (declarations_of q.declarations) (list_of q.list) q.end env now after begun same h.comes comes
        (all_declared none) ends
        ∙ ap gives (sym closes))

    pub procedure_leaves : Proper closed → Leaves env closed
    procedure_leaves proper =
        subst (Leaves env) (sym closes) (rest_leaves block env now after begun same h.comes comes (subst Proper closes proper))
