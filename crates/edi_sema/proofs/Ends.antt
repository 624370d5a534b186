-- The ends of blocks.
use Rattle.std.proofs.Common.{◌≡◌, ℕ, zero, suc, ◌<◌, ◌≤◌, Bool, true, false, nat_le, List, [], ◌∷◌, ◌++◌, length, map, get_or, refl, ap, sym, ◌∙◌, arith}
use Rattle.std.proofs.Math.ListN.{set}
use Rattle.std.proofs.lemmas.List.{map-set, set_past, length-map}
use Rattle.std.proofs.lemmas.Bool.Decides.{nat_tests}
use Rattle.edi_unit.specs.declared.statements.Act as code_act
use Rattle.edi_unit.specs.declared.units.Block as code_block
use Rattle.edi_unit.specs.Types.{greatest_size}
use Rattle.edi_unit.specs.Tree.{Block, act_then}
use Rattle.edi_unit.specs.Need.{need, block_at, limited}
use Rattle.edi_unit.specs.View.{acts, act_of, block_of}
use Rattle.edi_static.specs.declared.faults.StaticKind.{StaticKind}
use Rattle.edi_static.specs.declared.faults.StaticKind.TheVariants as kind
use Rattle.edi_static.specs.Judged.{gives, faults, ◌>>=◌, must}
use Rattle.edi_static.specs.Environment.{Environment}
use Rattle.edi_static.specs.Statements.{acts_append, with_need}
use Rattle.edi_sema.specs.Blocks.{need_set}

pub acts_joined : (xs ys : List code_act.Act) → acts (map act_of (xs ++ ys)) ≡ acts_append (acts (map act_of xs)) (acts (map act_of ys))
acts_joined [] ys = refl
acts_joined (x ∷ xs) ys = ap (act_then (act_of x)) (acts_joined xs ys)

-- ---- one block of a list

at_mapped : (bs : List code_block.Block) (n : ℕ) (b : code_block.Block) → n < length bs → b ≡ get_or bs n b → block_at (map block_of bs) n ≡ block_of b
at_mapped [] n b lt e = absurd (omega (arith, lt))
at_mapped (x ∷ bs) zero b lt e = ap block_of (sym e)
at_mapped (x ∷ bs) (suc n) b lt e = at_mapped bs n b (omega (arith, lt)) e

pub block_changed : (bs : List code_block.Block) (n : ℕ) (old new : code_block.Block) (change : Block → Block) → n < length bs → old ≡ get_or bs n old →
    block_of new ≡ change (block_of old) → map block_of (set bs n new) ≡ set (map block_of bs) n (change (block_at (map block_of bs) n))
block_changed bs n old new change lt i e =
    map-set block_of bs n new ∙ ap (set (map block_of bs) n) (e ∙ ap change (sym (at_mapped bs n old lt i)))

pub no_such_block : (bs : List code_block.Block) (n : ℕ) (b : Block) → length bs ≤ n → set (map block_of bs) n b ≡ map block_of bs
no_such_block bs n b le = set_past (map block_of bs) n b (omega (arith, le, length-map bs block_of))

-- ---- needs

small_need : (n : ℕ) → nat_le (limited n) greatest_size ≡ nat_le n greatest_size
small_need n = grind (arith, nat_tests)

stated_need : (n : ℕ) → nat_le n greatest_size ≡ true → limited n ≡ n
stated_need n h = grind (arith, nat_tests)

holds : (b : Bool) (line : ℕ) → must b kind.Range line ≡ gives tt → b ≡ true
holds true line e = refl
holds false line e = absurd (cc)

-- a block is closed, and what it needs is told
pub need_stated : (n line words : ℕ) (env : Environment) → words ≡ limited (need env.types env.blocks n) →
    must (nat_le words greatest_size) kind.Range line ≡ gives tt → with_need n line env ≡ gives (need_set n words env)
need_stated n line words env e h =
    let small : nat_le (need env.types env.blocks n) greatest_size ≡ true =
    sym (small_need (need env.types env.blocks n)) ∙ (ap (λ w. nat_le w greatest_size) (sym e) ∙ holds (nat_le words greatest_size) line h) in
    ap (λ b. must b kind.Range line >>= λ _. gives (need_set n (need env.types env.blocks n) env)) small
    ∙ ap (λ w. gives (need_set n w env)) (sym (e ∙ stated_need (need env.types env.blocks n) small))

pub need_faults : (n line words : ℕ) (env : Environment) → words ≡ limited (need env.types env.blocks n) →
    (why : StaticKind) (at : ℕ) → must (nat_le words greatest_size) kind.Range line ≡ faults why at → with_need n line env ≡ faults why at
need_faults n line words env e why at h =
    ap (λ b. must b kind.Range line >>= λ _. gives (need_set n (need env.types env.blocks n) env))
    (sym (small_need (need env.types env.blocks n)) ∙ ap (λ w. nat_le w greatest_size) (sym e))
    ∙ ap (λ m. m >>= λ _. gives (need_set n (need env.types env.blocks n) env)) h
