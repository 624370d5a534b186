-- A whole unit fits.
use Rattle.std.proofs.Common.{◌≡◌, ℕ, suc, ◌+◌, ◌<◌, ◌≤◌, ◌^◌, List, length, refl, sym, ap, subst, ◌∙◌, arith}
use Rattle.edi_unit.specs.Types.{Shape, greatest_size}
use Rattle.edi_unit.specs.Tree.{Block}
use Rattle.edi_unit.specs.Need.{block_at, need}
use Rattle.edi_unit.specs.Fits.{first_parameter}
use Rattle.edi_unit.specs.Headings.{Heading, Formals, no_formal, value_then, variable_then, procedure_then, heading_result, heading_formals}
use Rattle.edi_unit.specs.Fits.{ResultsAgree, BlockFits, Fits}
use Rattle.edi_static.specs.Environment.{Environment, heading_at, parameters_of}
use Rattle.edi_static.proofs.Fitness.{asked_at, variable_heading, headings_of, BlockStands, Sits}
use Rattle.edi_static.proofs.FitnessNames.{further, numbered}
use Rattle.edi_static.proofs.FitnessSystem.{AreCalls, calls_fit}

-- the results of procedure parameters
results_agree : (of : ℕ → Heading) (n : ℕ) (fs : Formals) → ((v : ℕ) → of (v + n) ≡ asked_at fs v) → ResultsAgree of n (parameters_of fs)
results_agree of n no_formal h = tt
results_agree of n (value_then t fs) h = (tt, results_agree of (suc n) fs (further of (asked_at (value_then t fs)) n h))
results_agree of n (variable_then t fs) h = (tt, results_agree of (suc n) fs (further of (asked_at (variable_then t fs)) n h))
results_agree of n (procedure_then g fs) h =
    let e : n ≡ 0 + n = omega arith in
    (ap heading_result (ap of e ∙ h 0), results_agree of (suc n) fs (further of (asked_at (procedure_then g fs)) n h))

-- the need that a block tells is its need, and not too large
abbrev pub NeedsSo : List Shape → List Block → ℕ → Type 0
NeedsSo types blocks n = ((block_at blocks n).need ≡ need types blocks n) × ((block_at blocks n).need ≤ greatest_size)

block_fits : (types : List Shape) (blocks : List Block) (headings : List Heading) (n : ℕ) → BlockStands types blocks headings n → NeedsSo types blocks n
    → BlockFits types blocks (headings_of headings) n
block_fits types blocks headings n s c = record {
  fits_kind = s.fits_kind;
  outermost = s.outermost;
  inner = s.inner;
  known = s.known;
  results =
      subst (λ r. ResultsAgree (headings_of headings n) (first_parameter r) (block_at blocks n).parameters) (sym s.result)
      (subst (λ ps. ResultsAgree (headings_of headings n) (first_parameter (heading_result (heading_at headings n))) ps) (sym s.parameters)
      (results_agree (variable_heading (heading_at headings n)) (first_parameter (heading_result (heading_at headings n)))
      (heading_formals (heading_at headings n)) (numbered (heading_at headings n))));
  statements = s.statements;
  needs = c.0;
  small = c.1;
}

pub unit_fits : (env : Environment) (calls : List ℕ) → Sits env → ((n : ℕ) → n < length env.blocks → NeedsSo env.types env.blocks n) → 0 < length env.blocks
    → length env.types < 2 ^ 32
    → AreCalls env.types (heading_at env.headings 0) calls → Fits (record { types = env.types; blocks = env.blocks; program = 0; calls = calls })
unit_fits env calls s closed some short named = record {
  headings = headings_of env.headings;
  table = record { three = s.types.table.three; standard = s.types.table.standard; declared = s.types.table.declared; bounded = short };
  shapes = s.types.shapes;
  first = refl;
  some = some;
  fits_blocks = λ n lt. block_fits env.types env.blocks env.headings n (s.stand n lt) (closed n lt);
  fits_calls =
      calls_fit (record { types = env.types; blocks = env.blocks; program = 0; calls = calls }) env.headings (heading_at env.headings 0) refl
      (s.stand 0 some).parameters named;
}
