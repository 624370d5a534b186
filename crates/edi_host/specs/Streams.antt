-- Words of contracts. What the calls on a source and a sink take.
use Rattle.std.specs.Prelude.{◌≡◌, ℕ, ◌<◌, min, Bool, true, false, if◌then◌else◌, nat_lt, List, [], ◌∷◌, length}
use Rattle.edi_host.specs.declared.source.Next.{Next}
use Rattle.edi_host.specs.declared.source.Next.TheVariants as next
use Rattle.edi_host.specs.declared.sink.Put.{Put}
use Rattle.edi_host.specs.declared.sink.PutEnd.{PutEnd}
use Rattle.edi_host.specs.declared.sink.PutEnd.TheVariants as put

-- from the bytes left before a call to those left after it: a byte is the first of them; the end comes
-- exactly where none is left, so a fault leaves at least one, and it leaves them as they were
abbrev pub Takes : Next → List ℕ → List ℕ → Type 0
Takes (next.Byte b) old new = old ≡ b ∷ new
Takes next.End old new = (old ≡ []) × (new ≡ [])
Takes next.Failed old new = (0 < length old) × (new ≡ old)

-- the answer is a fault
abbrev pub next_fault : Next → Bool
next_fault (next.Byte b) = false
next_fault next.End = false
next_fault next.Failed = true

abbrev pub end_fault : PutEnd → Bool
end_fault put.Ok = false
end_fault put.Failed = true

abbrev pub put_fault : Put → Bool
put_fault answer = end_fault answer.end

-- what a sink with so much room gives for a piece of this length: a call that is to fail takes nothing;
-- another takes what fits, and fails where that is not all
abbrev pub put_gives : Bool → ℕ → ℕ → Put
put_gives true room long = record { taken = 0; end = put.Failed }
put_gives false room long = record { taken = min long room; end = if nat_lt room long then put.Failed else put.Ok }
