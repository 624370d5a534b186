-- Answers of functions, by what their callees answer.
use Rattle.std.specs.Prelude.{⊤}
use Rattle.std.proofs.Common.{◌≡◌, ℕ, false, Result, Ok, Err, OnOk, ap, sym, ◌∙◌}
use Rattle.edi_scope.specs.declared.entity.Entity.TheVariants as entity
use Rattle.edi_tree.specs.Tree as text
use Rattle.edi_unit.specs.declared.units.BlockKind.TheVariants as block_kind
use Rattle.edi_static.specs.declared.faults.StaticKind.{StaticKind}
use Rattle.edi_static.specs.declared.faults.StaticFault.{StaticFault}
use Rattle.edi_static.specs.declared.faults.StaticFault.TheVariants as fault
use Rattle.edi_static.specs.Judged.{Judged, gives, faults, ◌>>=◌}
use Rattle.edi_static.specs.Environment.{Environment, declare}
use Rattle.edi_static.specs.Headings.{round, own_name, heading_parts}
use Rattle.edi_static.specs.Declarations.{with_heading, procedure_rest}
use Rattle.edi_static.specs.Programs.{program_heading, program_procedure}
use Rattle.edi_values.proofs.Behind.{bind_bind, bind_same}
use Rattle.edi_sema.specs.Whole.{Heads, begun_program, program_unit}

-- a fault is that of a construct; or there was no memory
abbrev pub Faulted : {A : Type 0} → StaticFault → Judged A → Type 0
Faulted (fault.At why line) m = m ≡ faults why line
Faulted fault.NoMemory m = ⊤

-- a part has a fault, and then the whole has it
pub part_faults : {A A' : Type 0} (f : StaticFault) (m : Judged A) (part : Judged A') → Faulted f part
    → ((why : StaticKind) (line : ℕ) → part ≡ faults why line → m ≡ faults why line) → Faulted f m
part_faults (fault.At why line) m part e h = h why line e
part_faults fault.NoMemory m part e h = tt

-- what holds holds where there is an answer
pub on_ok : {B P : Type 0} (r : Result B StaticFault) → P → OnOk r P
on_ok (Ok b) p = p
on_ok (Err f) p = tt

chain : {A B C D E : Type 0} (m : Judged A) (f : A → Judged B) (g : A → B → Judged C) (pair : B → C → D) (k : D → Judged E) →
    (m >>= λ a. f a >>= λ b. g a b >>= λ c. k (pair b c)) ≡ ((m >>= λ a. f a >>= λ b. g a b >>= λ c. gives (pair b c)) >>= k)
chain m f g pair k =
    bind_same m _ _ (λ a. bind_same (f a) _ _ (λ b. sym (bind_bind (g a b) (λ c. gives (pair b c)) k))
    ∙ sym (bind_bind (f a) (λ b. g a b >>= λ c. gives (pair b c)) k))
    ∙ sym (bind_bind m (λ a. f a >>= λ b. g a b >>= λ c. gives (pair b c)) k)

-- a program by its heading and the rest of its procedure
pub program_is : (h : text.Heading) (ds : text.Declarations) (s : text.StatementList) (end : ℕ) (env : Environment) →
    program_procedure (text.procedure h ds s end) env
    ≡ (begun_program h env >>= λ heads. procedure_rest 0 (text.procedure h ds s end) heads.env >>= λ after. gives (program_unit heads.calls after))
program_is h ds s end env =
    chain (heading_parts 0 h env) (λ headed. round (declare false (own_name h) (entity.Procedure 0)) (with_heading block_kind.Program headed))
    (λ headed begun. program_heading begun.types h headed.asks) (λ begun calls. record { calls = calls; env = begun })
    (λ (heads : Heads). procedure_rest 0 (text.procedure h ds s end) heads.env >>= λ after. gives (program_unit heads.calls after))

pub program_faults : (h : text.Heading) (ds : text.Declarations) (s : text.StatementList) (end : ℕ) (env : Environment) (why : StaticKind) (line : ℕ) →
    begun_program h env ≡ faults why line → program_procedure (text.procedure h ds s end) env ≡ faults why line
program_faults h ds s end env why line e =
    program_is h ds s end env ∙ ap (λ m. m >>= λ heads. procedure_rest 0 (text.procedure h ds s end) heads.env >>= λ after. gives
    (program_unit heads.calls after)) e
