-- Words of contracts. The effect of an instruction that stands at the program counter, by the words from there on.
use Rattle.std.specs.Prelude.{ℕ, ◌+◌, Bool, nat_eq, List, [], ◌∷◌, Option, Some, None}
use Rattle.std.specs.List.{list_any}
use Rattle.edi_target.specs.declared.opcode.TheConstants as opcode
use Rattle.edi_target.specs.Op.{Instruction}
use Rattle.edi_target.specs.Decode.{shaped, if_allowed}
use Rattle.edi_target.specs.Fetch.{fetch}
use Rattle.edi_target.specs.Effect.{Local, Effect}
use Rattle.edi_target.specs.Mach.{effect_at}

-- an instruction with its length, as one with the address behind it
abbrev pub placed : ℕ → Option (Instruction × ℕ) → Option (Instruction × ℕ)
placed at x = elim x [ None ↦ None | Some found ↦ Some (found.0, at + found.1) ]

abbrev pub effect_by : (words : List ℕ) → (live : ℕ) → (is_first : Bool) → (front : List ℕ) → Local → Effect
effect_by words live is_first front l = effect_at (fetch words) (placed l.pc (if_allowed (shaped front))) live is_first l

-- the numbers of the instructions that are seldom executed
abbrev pub rare_numbers : List ℕ
rare_numbers = opcode.TEXT ∷ opcode.ZEROS ∷ opcode.UNION ∷ opcode.MINUS ∷ opcode.MEET ∷ opcode.IN ∷ opcode.MEMBER ∷ opcode.CALL_P ∷ opcode.PROC ∷ opcode.HALT ∷ opcode.RETRY ∷ opcode.COBEGIN ∷ opcode.EXIT ∷ []

abbrev pub is_rare : ℕ → Bool
is_rare number = list_any (nat_eq number) rare_numbers

-- the numbers of the plain instructions, which are executed most often and stay in their frame
abbrev pub plain_numbers : List ℕ
plain_numbers =
    opcode.CONST ∷ opcode.ADDRESS ∷ opcode.FIELD ∷ opcode.INDEX ∷ opcode.LOAD ∷ opcode.STORE ∷ opcode.ADD ∷ opcode.SUB ∷ opcode.MUL ∷ opcode.DIV ∷ opcode.MOD ∷ opcode.NEG ∷ opcode.NOT ∷ opcode.EQ ∷ opcode.NE ∷ opcode.LT ∷ opcode.LE ∷ opcode.GT ∷ opcode.GE ∷ opcode.CHECK ∷ opcode.JUMP ∷ opcode.FALSE ∷ opcode.AND ∷ opcode.OR ∷ opcode.LOOP ∷ opcode.WHEN ∷ opcode.DONE ∷ []

abbrev pub is_plain_number : ℕ → Bool
is_plain_number number = list_any (nat_eq number) plain_numbers
