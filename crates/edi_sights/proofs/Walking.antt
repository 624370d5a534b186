-- The `when`s of declarations, met one after another.
use Rattle.std.proofs.Common.{◌≡◌, ℕ, List, ◌∷◌, refl, ap, sym, ◌∙◌}
use Rattle.edi_tree.specs.Tree as text
use Rattle.edi_tree.specs.View as tree
use Rattle.edi_static.specs.Judged.{Judged, gives}
use Rattle.edi_static.specs.Environment.{Environment}
use Rattle.edi_static.specs.Declarations.{declaration, declarations, member, members, enter_block}
use Rattle.edi_sema.specs.Bodies.{inside_module}
use Rattle.edi_sights.specs.declared.awaits.Await.{Await}
use Rattle.edi_sights.specs.Awaits.{behind, list_met, procedure_met, module_met, declaration_met, declarations_met, member_met, members_met}

-- behind a construct that gives this
pub behind_given : {A : Type 0} (m : Judged A) (env : A) (f : A → List Await → List Await) (awaits : List Await) →
    m ≡ gives env → behind m f awaits ≡ f env awaits
behind_given m env f awaits e = ap (λ m. behind m f awaits) e

-- one construct of a list is met, and the rest is still to come
next_met : {X : Type 0} (all : List X → Environment → List Await → List Await) (judged : Judged Environment) (one : List Await) (rest xs : List X) (x : X)
    (now after : Environment) (awaits more whole : List Await) →
    all (x ∷ xs) now awaits ≡ behind judged (all xs) one → all rest now awaits ≡ whole → rest ≡ x ∷ xs → judged ≡ gives after → more ≡ one →
    all xs after more ≡ whole
next_met all judged one rest xs x now after awaits more whole step h r stated e =
    ap (all xs after) e ∙ (sym (behind_given judged after (all xs) one stated) ∙ (sym step ∙ (ap (λ rest. all rest now awaits) (sym r) ∙ h)))

pub declared_next : (name : List ℕ) (rest ds : List text.Declaration) (d : text.Declaration) (now after : Environment) (awaits more whole : List Await) →
    declarations_met name (tree.declarations rest) now awaits ≡ whole → rest ≡ d ∷ ds → declaration d now ≡ gives after →
    more ≡ declaration_met name d now awaits → declarations_met name (tree.declarations ds) after more ≡ whole
declared_next name rest ds d now after awaits more whole =
    next_met (λ ds. declarations_met name (tree.declarations ds)) (declaration d now) (declaration_met name d now awaits) rest ds d now after awaits more
    whole
    refl

pub member_next : (name : List ℕ) (rest ms : List text.Member) (m : text.Member) (now after : Environment) (awaits more whole : List Await) →
    members_met name (tree.members rest) now awaits ≡ whole → rest ≡ m ∷ ms → member m now ≡ gives after →
    more ≡ member_met name m now awaits → members_met name (tree.members ms) after more ≡ whole
member_next name rest ms m now after awaits more whole =
    next_met (λ ms. members_met name (tree.members ms)) (member m now) (member_met name m now awaits) rest ms m now after awaits more whole refl

-- all declarations of a procedure, and then its statements
pub procedure_done : (name : List ℕ) (block : ℕ) (h : text.Heading) (ds : text.Declarations) (s : text.StatementList) (end : ℕ) (env now : Environment)
    (start awaits more : List Await) →
    declarations ds (enter_block block env) ≡ gives now → awaits ≡ declarations_met name ds (enter_block block env) start →
    more ≡ list_met name s now awaits → more ≡ procedure_met name block (text.procedure h ds s end) env start
procedure_done name block h ds s end env now start awaits more stated e m =
    m ∙ (ap (list_met name s now) e ∙ sym (behind_given (declarations ds (enter_block block env)) now (list_met name s)
    (declarations_met name ds (enter_block block env) start) stated))

-- all members of a module, and then its statements
pub module_done : (name : List ℕ) (ms : text.Members) (s : text.StatementList) (env now : Environment) (start awaits more : List Await) →
    members ms (inside_module env) ≡ gives now → awaits ≡ members_met name ms (inside_module env) start →
    more ≡ list_met name s now awaits → more ≡ module_met name (text.module_with ms s) env start
module_done name ms s env now start awaits more stated e m =
    m ∙ (ap (list_met name s now) e ∙ sym (behind_given (members ms (inside_module env)) now (list_met name s) (members_met name ms (inside_module env) start)
    stated))
