-- Computed rows. The text of a small end, and of frames.
use Rattle.std.specs.Prelude.{◌≡◌, ℕ, List, [], ◌∷◌, ◌++◌, codes, flat_map, replicate, Some, None, refl}
use Rattle.std.specs.Fmt.{decimal}
use Rattle.edi_calls.specs.Outcome as outcome
use Rattle.edi_unit.specs.declared.units.BlockKind.TheVariants as kind
use Rattle.edi_unit.specs.declared.units.Parameter.{Parameter}
use Rattle.edi_unit.specs.declared.units.Parameter.TheVariants as slot
use Rattle.edi_unit.specs.Types.{int, char, bool, size}
use Rattle.edi_unit.specs.Tree.{Block, no_act}
use Rattle.edi_target.specs.Decode.{decode}
use Rattle.edi_kernel.specs.declared.frames.Below.{Below}
use Rattle.edi_sights.specs.named.Naming.{nameless}
use Rattle.edi_waits.specs.declared.ends.Stands.TheVariants as stands
use Rattle.edi_waits.specs.Ends.{AtEnd}
use Rattle.edi_dump.specs.Frames.{Program, block_ends, block_of, raw_frame, raw_text}
use Rattle.edi_dump.specs.Text.{dump_text}

abbrev procedure : List Parameter → List ℕ → Block
procedure parameters variables =
    record { kind = kind.Procedure; up = 0; result = None; parameters = parameters; variables = variables; need = 0; body = no_act }

abbrev branch : Block
branch = record { kind = kind.Branch; up = 0; result = None; parameters = []; variables = []; need = 0; body = no_act }

-- proc main var x: bool; c: char / a branch / proc p(var v: bool; proc q)
abbrev program : Program
program = record {
  unit = record {
    types = int ∷ char ∷ bool ∷ [];
    blocks = procedure [] (2 ∷ 1 ∷ []) ∷ branch ∷ procedure (slot.Var 2 ∷ slot.Formal None ∷ []) [] ∷ [];
    program = 0;
    calls = [];
  };
  names = record {
    blocks = record { name = codes "main"; variables = codes "x" ∷ codes "c" ∷ [] }
        ∷ nameless
        ∷ record { name = codes "p"; variables = codes "v" ∷ codes "q" ∷ [] }
        ∷ [];
    constants = [] ∷ [] ∷ (codes "false" ∷ codes "true" ∷ []) ∷ [];
  };
}

-- ENTRY, CALL on line 28, RETURN / EXIT / ENTRY, WHEN on line 15, RETURN
abbrev code : List ℕ
code = 33 ∷ 7 ∷ 0 ∷ 0 ∷ 2 ∷ 0 ∷ 34 ∷ 0 ∷ 0 ∷ 15 ∷ 28 ∷ 37 ∷ 0 ∷ 0 ∷ 43 ∷ 33 ∷ 9 ∷ 0 ∷ 4 ∷ 0 ∷ 0 ∷ 39 ∷ 15 ∷ 37 ∷ 0 ∷ 0 ∷ []

pub row_ends : block_ends code ≡ 11 ∷ 14 ∷ 23 ∷ []
unfolding decode
row_ends = refl

-- the last instruction of a block is in it, and the first of the next is not
pub row_blocks : (block_of code 11 ≡ 0) × (block_of code 14 ≡ 1) × (block_of code 15 ≡ 2) × (block_of code 23 ≡ 2)
unfolding decode
row_blocks = (refl, refl, refl, refl)

-- the frame of `main`, and that of `p` at 7, whose `v` means `x`
abbrev memory : List ℕ
memory = 0 ∷ 0 ∷ 0 ∷ 0 ∷ 0 ∷ 1 ∷ 97 ∷ 0 ∷ 0 ∷ 0 ∷ 11 ∷ 7 ∷ 5 ∷ 65535 ∷ 1 ∷ 0 ∷ []

abbrev of_main : Below
of_main = record { base = 0; top = 7; back = 11 }

abbrev of_p : Below
of_p = record { base = 7; top = 16; back = 23 }

abbrev there : List AtEnd
there = record { process = []; stands = stands.AtWhen; frames = of_p ∷ of_main ∷ [] } ∷ []

pub row_known : dump_text (Some program) code memory outcome.standstill there
    ≡ codes "standstill\nmain" ++ ((((codes " is at the when of line " ++ (decimal 15 ++ codes " in p"))
    ++ (codes ", called on line " ++ ((decimal 28 ++ codes " in main") ++ [])))
    ++ codes "\n  p\n    v = true\n    q = proc\n  main\n    x = true\n    c = 'a'\n") ++ [])
unfolding decode size
row_known = refl

-- a branch has no name: nothing is told of its frame
pub row_branch : dump_text (Some program) code memory outcome.done
    (record { process = 1 ∷ 0 ∷ []; stands = stands.Fresh; frames = record { base = 7; top = 12; back = 14 } ∷ [] } ∷ [])
    ≡ codes "done\n" ++ (((decimal 1 ++ (codes "." ++ decimal 1)) ++ codes " has not begun\n") ++ [])
unfolding decode
row_branch = refl

pub row_raw : raw_frame memory (record { base = 5; top = 7; back = 11 })
    ≡ codes "  frame at " ++ (decimal 5 ++ (codes " goes on at " ++ (decimal 11 ++ (codes ":"
    ++ (((codes " " ++ decimal 1) ++ ((codes " " ++ decimal 97) ++ [])) ++ codes "\n")))))
row_raw = refl

-- 64 words, and 65
pub row_most : (raw_text (replicate 64 7) ≡ flat_map (λ w. codes " " ++ decimal w) (replicate 64 7) ++ codes "\n")
    × (raw_text (replicate 65 7) ≡ flat_map (λ w. codes " " ++ decimal w) (replicate 64 7) ++ codes " ..\n")
row_most = (refl, refl)
