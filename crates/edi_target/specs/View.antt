-- Words of contracts. The instruction that a value of the code's type `Op` is.
use Rattle.std.specs.Prelude.{◌≡◌, ℕ, ◌%◌, ◌-◌, Bool, true, ◌==◌, List, drop, length, Option, Some}
use Rattle.std.specs.Option.{option_map}
use Rattle.edi_target.specs.Op.{Instruction, const, text, zeros, address, field, index, load, store, add, sub, mul, div, mod_, neg, not_, eq, ne, lt, le, gt}
use Rattle.edi_target.specs.Op.{ge, union, minus, meet, in_, member, check, jump, false_, and, or, loop, entry, call, call_p, proc, return, halt, when}
use Rattle.edi_target.specs.Op.{retry, done, cobegin, exit, quiet}
use Rattle.edi_target.specs.Decode.{branches_of, decode}
use Rattle.edi_target.specs.Reading.{Reads}
use Rattle.edi_target.specs.declared.op.Op.{Op}
use Rattle.edi_target.specs.declared.op.Op.TheVariants as code

abbrev pub instruction_of : Op → Instruction
instruction_of (code.Const value) = const value
instruction_of (code.Text words) = text words.now
instruction_of (code.Zeros count) = zeros count
instruction_of (code.Address level offset) = address level offset
instruction_of (code.Field offset) = field offset
instruction_of (code.Index low high size line) = index low high size line
instruction_of (code.Load count) = load count
instruction_of (code.Store count) = store count
instruction_of (code.Add line) = add line
instruction_of (code.Sub line) = sub line
instruction_of (code.Mul line) = mul line
instruction_of (code.Div line) = div line
instruction_of (code.Mod line) = mod_ line
instruction_of (code.Neg line) = neg line
instruction_of code.Not = not_
instruction_of (code.Eq count) = eq count
instruction_of (code.Ne count) = ne count
instruction_of code.Lt = lt
instruction_of code.Le = le
instruction_of code.Gt = gt
instruction_of code.Ge = ge
instruction_of code.Union = union
instruction_of code.Minus = minus
instruction_of code.Meet = meet
instruction_of code.In = in_
instruction_of (code.Member line) = member line
instruction_of (code.Check low high line) = check low high line
instruction_of (code.Jump target) = jump target
instruction_of (code.False target) = false_ target
instruction_of (code.And target) = and target
instruction_of (code.Or target) = or target
instruction_of (code.Loop target) = loop target
instruction_of (code.Entry need results parameters variables function) = entry need results parameters variables function
instruction_of (code.Call level target line) = call level target line
instruction_of (code.CallP level offset line) = call_p level offset line
instruction_of (code.Proc level target) = proc level target
instruction_of (code.Return results function) = return results function
instruction_of (code.Halt line) = halt line
instruction_of (code.When line) = when line
instruction_of (code.Retry target) = retry target
instruction_of code.Done = done
instruction_of (code.Cobegin line branches) = cobegin line (branches_of branches.now)
instruction_of code.Exit = exit
instruction_of (code.Quiet target) = quiet target

-- the words of branches come in threes
abbrev pub is_whole : Op → Bool
is_whole (code.Cobegin line branches) = length branches.now % 3 == 0
is_whole _ = true

-- what was read is this instruction and this length
abbrev pub Shows : Option (Op × ℕ) → Option (Instruction × ℕ) → Type 0
Shows r x = option_map (λ (a : Op × ℕ). (instruction_of a.0, a.1)) r ≡ x

-- an instruction stands at an address, and the next address is behind it: by the function, and by the relation
pub record Found (words : List ℕ) (at : ℕ) (op : Instruction) (next : ℕ) : Type 0 where
  pub decoded : decode (drop at words) ≡ Some (op, next - at)
  pub reads : Reads words at op next
