-- Words of contracts. The plain data for which the values of the code stand.
use Rattle.std.specs.Prelude.{Option, Some, None, option_copied}
use Rattle.edi_unit.specs.Headings.{Heading}
use Rattle.edi_unit.specs.View.{links_of, parts_of, place_of}
use Rattle.edi_static.specs.declared.headings.Asked as code_asked
use Rattle.edi_static.specs.Environment.{no_heading}
use Rattle.edi_static.specs.Operators.{Chained}
use Rattle.edi_static.specs.Fitting.{Called, Use, constructs, calls, halts, neither}
use Rattle.edi_static.specs.Expressions.{Reached, Located}
use Rattle.edi_static.specs.Views.{asked_of}
use Rattle.edi_values.specs.declared.uses.Called as code_called
use Rattle.edi_values.specs.declared.uses.Use as code_use
use Rattle.edi_values.specs.declared.uses.Use.TheVariants as code
use Rattle.edi_values.specs.declared.chains.Chained as code_chained
use Rattle.edi_values.specs.declared.places.Reached as code_reached
use Rattle.edi_values.specs.declared.places.Located as code_located

-- what a heading asks; an unknown one asks nothing
abbrev pub asks_of : Option code_asked.Asked → Heading
asks_of None = no_heading
asks_of (Some asked) = asked_of asked

-- what is called or passed on, with its heading
abbrev pub called_of : code_called.Called → Called
called_of c = record { callee = c.callee; asks = asks_of (option_copied c.asked) }

-- what a name before arguments can be
abbrev pub used_of : code_use.Use → Use
used_of (code.Constructs of) = constructs of
used_of (code.Calls c) = calls (called_of c)
used_of code.Halts = halts
used_of code.Neither = neither

-- the operators of a chain with their right operands, and the type of what the last one gives
abbrev pub chained_of : code_chained.Chained → Chained
chained_of c = record { links = links_of c.links; of = c.of }

-- the steps to a part of a variable, with its type
abbrev pub reached_of : code_reached.Reached → Reached
reached_of r = record { parts = parts_of r.parts; of = r.of }

-- a variable or a part of it, with its type
abbrev pub located_of : code_located.Located → Located
located_of l = record { at = place_of l.place; of = l.of }
