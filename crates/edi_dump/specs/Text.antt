-- Definition. THE TEXT of who stands where at the end of a run: a line for the ending, and of each process one for how it stands and those of its frames.
use Rattle.std.specs.Prelude.{ℕ, ◌==◌, Bool, true, false, if◌then◌else◌, List, [], ◌∷◌, ◌++◌, flat_map, codes, Option, Some, None}
use Rattle.std.specs.Fmt.{decimal}
use Rattle.edi_calls.specs.Outcome.{Ending}
use Rattle.edi_kernel.specs.declared.frames.Below.{Below}
use Rattle.edi_sights.specs.named.Naming.{Named, named_at}
use Rattle.edi_timeline.specs.Text.{ending_text, process_text}
use Rattle.edi_waits.specs.declared.ends.Stands.{Stands}
use Rattle.edi_waits.specs.declared.ends.Stands.TheVariants as stands
use Rattle.edi_waits.specs.Ends.{AtEnd}
use Rattle.edi_waits.specs.Places.{line_before}
use Rattle.edi_dump.specs.Frames.{Program, block_of, named_frame, raw_frame, where_named}
use Rattle.edi_dump.specs.values.Texts.{short}

-- `1 branch`, `5 branches`
abbrev pub branches_text : ℕ → List ℕ
branches_text n = if n == 1 then codes "1 branch" else decimal n ++ codes " branches"

-- before the line of the newest call, and before that of each other one
abbrev pub call_word : (newest : Bool) → List ℕ
call_word true = codes ", called on line "
call_word false = codes ", on line "

-- of a program of which nothing is known no block has a name
abbrev pub blocks_of : Option Program → List Named
blocks_of None = []
blocks_of (Some program) = program.names.blocks

-- in a block
abbrev pub in_text : (name : List ℕ) → List ℕ
in_text name = where_named name (codes " in " ++ short name)

abbrev pub frame_text : Option Program → (words memory : List ℕ) → Below → List ℕ
frame_text None words memory frame = raw_frame memory frame
frame_text (Some program) words memory frame = named_frame program memory words frame

-- of the code with these words, whose program is known or not, and with this memory
module _ (known : Option Program) (words memory : List ℕ) where
  -- the line of the instruction that ends at this address, and the block: `15 in take`
  abbrev pub line_text : (at : ℕ) → List ℕ
  line_text at = decimal (line_before words at) ++ in_text (named_at (blocks_of known) (block_of words at)).name

  -- `, called on line 28 in philosopher, on line 35 in dine`
  abbrev pub calls_text : (newest : Bool) → List Below → List ℕ
  calls_text newest [] = []
  calls_text newest (frame ∷ frames) = call_word newest ++ (line_text frame.back ++ calls_text false frames)

  -- ` is at the when of line 15 in take`
  abbrev pub at_text : (at : ℕ) → List ℕ
  at_text at = codes " is at the when of line " ++ line_text at

  -- how a process stands that goes on at this address; after a failure the ending has the line
  abbrev pub stands_text : Stands → (at : ℕ) → List ℕ
  stands_text stands.Fresh at = codes " has not begun"
  stands_text stands.Joined at = codes " goes on after its branches"
  stands_text stands.AtWhen at = at_text at
  stands_text (stands.Awaits n) at = codes " waits for " ++ branches_text n
  stands_text stands.Ran at = codes " ran last"

  -- ` is at the when of line 15 in take, called on line 28 in philosopher`; each process has a frame
  abbrev pub place_text : Stands → List Below → List ℕ
  place_text how [] = []
  place_text how (frame ∷ frames) = stands_text how frame.back ++ calls_text true frames

  abbrev pub end_text : AtEnd → List ℕ
  end_text x = process_text x.process ++ (place_text x.stands x.frames ++ (codes "\n" ++ flat_map (frame_text known words memory) x.frames))

  -- THE TEXT
  abbrev pub dump_text : Ending → List AtEnd → List ℕ
  dump_text end xs = ending_text end ++ (codes "\n" ++ flat_map end_text xs)
