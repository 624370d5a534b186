-- Where the instructions of a code lead: no target is at fault.
use Rattle.std.proofs.Common.{◌≡◌, ℕ, ◌+◌, ◌-◌, ◌<◌, ◌≤◌, Bool, true, false, ◌&&◌, if◌then◌else◌, nat_lt, nat_le, List, [], ◌∷◌, ◌++◌, Option, None, length}
use Rattle.std.proofs.Common.{map, drop, refl, ap, ◌∙◌, subst, arith, length-append}
use Rattle.std.proofs.lemmas.Bool.{le-leb, lt-ltb}
use Rattle.edi_unit.specs.declared.expressions.Operator.{Operator}
use Rattle.edi_unit.specs.declared.expressions.Operator.TheVariants as op
use Rattle.edi_unit.specs.declared.units.Parameter.{Parameter}
use Rattle.edi_unit.specs.Types.{Shape, char, bool, enumeration, array_of, shape_at, is_set_shape}
use Rattle.edi_unit.specs.Tree.{Clauses, no_clause, clause_then}
use Rattle.edi_target.specs.Op as instruction
use Rattle.edi_target.specs.Op.{Instruction, Branch, words_of}
use Rattle.edi_target.specs.Decode.{decode}
use Rattle.edi_target.specs.Check.{Way, ahead, back, enters, begins, is_start, starts_of, is_entry, targets_of, targets_fault, keeps, first_fault, or_else}
use Rattle.edi_target.specs.Check.{unless}
use Rattle.edi_target.specs.declared.code_fault.CodeFault.{CodeFault}
use Rattle.edi_target.specs.declared.code_fault.CodeFault.TheVariants as fault
use Rattle.edi_scheme.specs.Pieces.{Code, words_of_code, code_length, is_address, variable_code, element_code, on_sets, operation, decision, check_code}
use Rattle.edi_scheme.specs.Pieces.{ClauseKind, once, repeated, released, close_code, again_code}
use Rattle.edi_scheme.proofs.Laid.{Long}

-- ---- codes without targets

pub data IsPlain : Code → Type 0 where
  none : IsPlain []
  plain_then : {i : Instruction} {code : Code} → targets_of i ≡ [] → IsPlain code → IsPlain (i ∷ code)

pub plain_one : {i : Instruction} → targets_of i ≡ [] → IsPlain (i ∷ [])
plain_one h = plain_then h none

either_plain : (test : Bool) {a b : Code} → IsPlain a → IsPlain b → IsPlain (if test then a else b)
either_plain true g h = g
either_plain false g h = h

pub variable_plain : (levels at : ℕ) (v : Option Parameter) → IsPlain (variable_code levels at v)
variable_plain levels at v = plain_then refl (either_plain (is_address v) (plain_one refl) none)

pub element_plain : (types : List Shape) (s : Shape) (line : ℕ) → IsPlain (element_code types s line)
element_plain types (array_of i lo hi e) line = plain_one refl
element_plain types s line = none

pub check_plain : (s : Shape) (line : ℕ) → IsPlain (check_code s line)
check_plain char line = plain_one refl
check_plain bool line = plain_one refl
check_plain (enumeration n) line = plain_one refl
check_plain s line = none

sets_plain : (types : List Shape) (t : ℕ) (s i : Instruction) → targets_of s ≡ [] → targets_of i ≡ [] → IsPlain (on_sets types t s i)
sets_plain types t s i g h = either_plain (is_set_shape (shape_at types t)) (plain_one g) (plain_one h)

pub operation_plain : (types : List Shape) (t : ℕ) (o : Operator) (line : ℕ) → IsPlain (operation types t o line)
operation_plain types t op.Plus line = sets_plain types t _ _ refl refl
operation_plain types t op.Minus line = sets_plain types t _ _ refl refl
operation_plain types t op.Times line = sets_plain types t _ _ refl refl
operation_plain types t op.And line = none
operation_plain types t op.Or line = none
operation_plain types t o line = plain_one refl

-- ---- where instructions of these words lead

both : (a b : Bool) → a ≡ true → b ≡ true → (a && b) ≡ true
both a b g h = ap (λ x. x && b) g ∙ h

module _ (words : List ℕ) where
  -- an instruction starts there
  abbrev pub Good : ℕ → Type 0
  Good a = is_start (starts_of words) a ≡ true

  -- each target of the instruction at this address is where it leads
  pub record Aims (at : ℕ) (i : Instruction) : Type 0 where
    pub free : targets_fault words (starts_of words) at i ≡ None

  pub data Leads : Code → ℕ → Type 0 where
    nothing : {at : ℕ} → Leads [] at
    leads_then : {i : Instruction} {code : Code} {at : ℕ} → Aims at i → Leads code (at + length (words_of i)) → Leads (i ∷ code) at

  -- the fault of targets in a row
  abbrev faults_of : ℕ → List (Way × ℕ) → Option CodeFault
  faults_of at ts = first_fault (λ t. unless (keeps words (starts_of words) at t) (fault.Jump at t.1)) ts

  kept : (at : ℕ) (t : Way × ℕ) (ts : List (Way × ℕ)) → keeps words (starts_of words) at t ≡ true → faults_of at ts ≡ None → faults_of at (t ∷ ts) ≡ None
  kept at t ts g h = ap (λ b. or_else (unless b (fault.Jump at t.1)) (faults_of at ts)) g ∙ h

  -- an instruction without targets, and with one
  aims_plain : (at : ℕ) (i : Instruction) → targets_of i ≡ [] → Aims at i
  aims_plain at i e = record { free = ap (faults_of at) e }

  aims_one : (at : ℕ) (i : Instruction) (t : Way × ℕ) → targets_of i ≡ t ∷ [] → keeps words (starts_of words) at t ≡ true → Aims at i
  aims_one at i t e g = record { free = ap (faults_of at) e ∙ kept at t [] g refl }

  pub aims_ahead : (at : ℕ) (i : Instruction) (target : ℕ) → targets_of i ≡ (ahead, target) ∷ [] → Good target → at < target → Aims at i
  aims_ahead at i target e g h = aims_one at i (ahead, target) e (both (is_start (starts_of words) target) (nat_lt at target) g (lt-ltb at target h))

  pub aims_back : (at : ℕ) (i : Instruction) (target : ℕ) → targets_of i ≡ (back, target) ∷ [] → Good target → target ≤ at → Aims at i
  aims_back at i target e g h = aims_one at i (back, target) e (both (is_start (starts_of words) target) (nat_le target at) g (le-leb target at h))

  -- the entry of a block
  pub record Enters (a : ℕ) : Type 0 where
    pub start : Good a
    pub begins : is_entry (decode (drop a words)) ≡ true

  pub aims_entry : (at : ℕ) (i : Instruction) (target : ℕ) → targets_of i ≡ (enters, target) ∷ [] → Enters target → Aims at i
  aims_entry at i target e h = aims_one at i (enters, target) e
      (both (is_start (starts_of words) target) (is_entry (decode (drop target words))) h.start h.begins)

  -- the branches of a `cobegin`
  pub data Begin : List Branch → Type 0 where
    no_branch : Begin []
    branch_then : {branch : Branch} {bs : List Branch} → Good branch.address → Begin bs → Begin (branch ∷ bs)

  branches_free : (at : ℕ) (bs : List Branch) → Begin bs → faults_of at (map (λ (x : Branch). (begins, x.address)) bs) ≡ None
  branches_free at [] h = refl
  branches_free at (x ∷ bs) (branch_then g h) = kept at (begins, x.address) _ g (branches_free at bs h)

  pub aims_branches : (at line : ℕ) (bs : List Branch) → Begin bs → Aims at (instruction.cobegin line bs)
  aims_branches at line bs h = record { free = branches_free at bs h }

  -- ---- codes that lead

  pub leads_plain : {code : Code} (at : ℕ) → IsPlain code → Leads code at
  leads_plain at none = nothing
  leads_plain at (plain_then h hs) = leads_then (aims_plain at _ h) (leads_plain _ hs)

  pub leads_one : {i : Instruction} {at : ℕ} → Aims at i → Leads (i ∷ []) at
  leads_one h = leads_then h nothing

  pub leads_append : {a b : Code} {at : ℕ} (n : ℕ) → Long a n → Leads a at → Leads b (at + n) → Leads (a ++ b) at
  leads_append {at = at} n g nothing h = subst (Leads _) (omega (arith, g.is)) h
  leads_append {at = at} n g (leads_then {i = i} {code = code} aims rest) h =
      let long = g.is in
      let both = length-append (words_of i) (words_of_code code) in
      leads_then aims (leads_append (n - length (words_of i)) (record { is = omega (arith, long, both) }) rest (subst (Leads _) (omega (arith, long, both)) h))

  pub decision_leads : (o : Operator) (at behind : ℕ) → at + code_length (decision o 0) ≤ behind → Good behind → Leads (decision o behind) at
  decision_leads op.And at behind less g = leads_one (aims_ahead at (instruction.and behind) behind refl g (omega (arith, less)))
  decision_leads op.Or at behind less g = leads_one (aims_ahead at (instruction.or behind) behind refl g (omega (arith, less)))
  decision_leads o at behind less g = nothing

  pub again_leads : (quiet : Bool) (top at : ℕ) → top ≤ at → Good top → Leads (again_code quiet top) at
  again_leads true top at less g = leads_one (aims_back at (instruction.quiet top) top refl g less)
  again_leads false top at less g = leads_one (aims_back at (instruction.retry top) top refl g less)

-- the target of lists from one address to another lies behind them, or for a `while` before them
abbrev pub IsBeyond : ClauseKind → (target from to : ℕ) → Type 0
IsBeyond once target from to = to ≤ target
IsBeyond repeated target from to = target ≤ from
IsBeyond released target from to = to ≤ target

pub beyond_part : (kind : ClauseKind) (target from to inner end : ℕ) → from ≤ inner → end ≤ to → IsBeyond kind target from to
    → IsBeyond kind target inner end
beyond_part once target from to inner end f e h = omega (arith, e, h)
beyond_part repeated target from to inner end f e h = omega (arith, f, h)
beyond_part released target from to inner end f e h = omega (arith, e, h)

pub close_leads : (words : List ℕ) (kind : ClauseKind) (target at : ℕ) (cs : Clauses)
    → IsBeyond kind target at (at + code_length (close_code kind 0 cs)) → Good words target → Leads words (close_code kind target cs) at
close_leads words once target at no_clause h g = nothing
close_leads words once target at (clause_then c cs) h g = leads_one words (aims_ahead words at (instruction.jump target) target refl g (omega (arith, h)))
close_leads words repeated target at cs h g = leads_one words (aims_back words at (instruction.loop target) target refl g h)
close_leads words released target at cs h g =
    leads_then (record { free = refl }) (leads_one words (aims_ahead words (at + 1) (instruction.jump target) target refl g (omega (arith, h))))
