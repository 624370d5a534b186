-- A unit that fits: `proc main(proc display(c: char)) begin display('a') end`.
use Rattle.std.proofs.Common.{◌≡◌, ℕ, zero, suc, ◌<◌, [], ◌∷◌, take, refl, arith, pos}
use Rattle.std.specs.Prelude.{None, All, slice_index}
use Rattle.edi_unit.specs.declared.expressions.Callee.TheVariants as callee
use Rattle.edi_unit.specs.declared.units.Parameter.TheVariants as slot
use Rattle.edi_unit.specs.Types.{standard_types, shape_at}
use Rattle.edi_unit.specs.TypeTables.{IsDeclarable, IsTypeTable}
use Rattle.edi_unit.specs.Tree.{constant, by_value, no_argument, argument_then, call, no_act, act_then, ProgramUnit}
use Rattle.edi_unit.specs.Need.{slots, block_at}
use Rattle.edi_unit.specs.Rows.{displaying}
use Rattle.edi_unit.specs.Fits.{Fits, SlotIsKnown, BlockFits, CallsFit, IsCall, display, ShapeFits}
use Rattle.edi_unit.specs.Headings.{Heading, heading, value_then, no_formal, heading_formals}

abbrev pub showing : ProgramUnit
showing = record {
  types = standard_types;
  blocks = displaying 9 (act_then (call (callee.Formal 0 0) (argument_then (by_value (constant 1 (pos 97))) no_argument) 1) no_act) ∷ [];
  program = 0;
  calls = 2 ∷ [];
}

abbrev pub one_character : ℕ → ℕ → Heading
one_character b v = heading (value_then 1 no_formal) None

declared : (t : ℕ) → t < 3 → IsDeclarable (take t standard_types) (shape_at standard_types t)
declared zero h = record { known = λ k d e. absurd (omega arith); elementary = λ k d e. absurd (omega arith); ordered = tt; small = omega arith }
declared (suc zero) h = record { known = λ k d e. absurd (omega arith); elementary = λ k d e. absurd (omega arith); ordered = tt; small = omega arith }
declared (suc (suc zero)) h = record { known = λ k d e. absurd (omega arith); elementary = λ k d e. absurd (omega arith); ordered = tt; small = omega arith }
declared (suc (suc (suc t))) h = absurd (omega arith)

pub standard_table : IsTypeTable standard_types
standard_table = record { three = omega arith; standard = refl; declared = declared; bounded = omega arith }

shapes : (t : ℕ) → t < 3 → ShapeFits standard_types (shape_at standard_types t)
shapes zero h = tt
shapes (suc zero) h = tt
shapes (suc (suc zero)) h = tt
shapes (suc (suc (suc t))) h = absurd (omega arith)

block : (n : ℕ) → n < 1 → BlockFits standard_types showing.blocks one_character n
block zero h = record {
  fits_kind = (refl, refl);
  outermost = λ e. refl;
  inner = λ e. absurd (omega arith);
  known = known;
  results = (refl, tt);
  statements = (((omega arith, refl), refl, (refl, (omega arith, refl), tt)), tt);
  needs = refl;
  small = omega arith;
}
  where
    known : All (SlotIsKnown standard_types) (slots (block_at showing.blocks 0))
    known zero d e = tt
    known (suc k) d e = absurd (omega arith)
block (suc n) h = absurd (omega arith)

calls : CallsFit showing one_character
calls = record { procedures = procedures; as_many = refl; each = each; distinct = λ i j d before last. absurd (omega arith) }
  where
    procedures : All (λ p. p ≡ slot.Formal None) (block_at showing.blocks 0).parameters
    procedures zero d within = refl
    procedures (suc k) d within = absurd (omega arith)

    each : (i : ℕ) → i < 1 → IsCall standard_types (slice_index showing.calls i) (heading_formals (one_character 0 i))
    each zero within = display refl refl
    each (suc i) within = absurd (omega arith)

pub showing_fits : Fits showing
showing_fits = record {
  headings = one_character;
  table = standard_table;
  shapes = shapes;
  first = refl;
  some = omega arith;
  fits_blocks = block;
  fits_calls = calls;
}
