-- Words of contracts. What the name of a drive's file stands for.
use Rattle.std.specs.Prelude.{Bool, true, false}
use Rattle.edi_host.specs.declared.host.drive.Image.{Image}
use Rattle.edi_host.specs.declared.host.drive.Image.TheVariants.{Missing, Open, Broken}

-- a file that is there and cannot be opened
abbrev pub is_broken : {F : Type 0} → Image F → Bool
is_broken Missing = false
is_broken (Open file) = false
is_broken Broken = true
