-- Words of contracts. The plain data for which the code's headings and environments stand.
use Rattle.std.specs.Prelude.{ℕ, Bool, false, ◌==◌, List, [], ◌∷◌, map}
use Rattle.edi_unit.specs.declared.units.Parameter.{Parameter}
use Rattle.edi_unit.specs.declared.units.Parameter.TheVariants as slot
use Rattle.edi_unit.specs.Lists.{list_items}
use Rattle.edi_unit.specs.View.{block_of, expression_of, link_of, part_of}
use Rattle.edi_unit.specs.Headings.{Heading, heading, Formals, no_formal, value_then, variable_then, procedure_then, heading_result}
use Rattle.edi_static.specs.declared.headings.Asked as code_asked
use Rattle.edi_static.specs.declared.headings.Formal as code_formal
use Rattle.edi_static.specs.declared.headings.Formal.TheOpen.{Formal-F, Asked-F}
use Rattle.edi_static.specs.declared.headings.Formal.TheFolds.{fold-Formal, fold-Asked}
use Rattle.edi_static.specs.declared.known.Known.{Known}
use Rattle.edi_static.specs.declared.operands.Typed as code_typed
use Rattle.edi_static.specs.declared.operands.Linked as code_linked
use Rattle.edi_static.specs.declared.constants.Ordinal as code_ordinal
use Rattle.edi_static.specs.declared.fits.Rooted as code_rooted
use Rattle.edi_static.specs.declared.records.Fields as code_fields
use Rattle.edi_static.specs.Types.{Ordinal, Fields}
use Rattle.edi_static.specs.declared.parts.Parted as code_parted
use Rattle.edi_static.specs.Fitting.{Rooted}
use Rattle.edi_static.specs.Expressions.{Parted}
use Rattle.edi_static.specs.Environment.{Environment, same_heading}
use Rattle.edi_static.specs.Headings.{Listed, Headed}
use Rattle.edi_static.specs.Operators.{Typed, Linked}
use Rattle.edi_unit.specs.declared.lists.List as code_list

-- what is asked for one parameter
pub data One : Type 0 where
  value : (of : ℕ) → One
  variable : (of : ℕ) → One
  procedure : Heading → One

abbrev pub formals : List One → Formals
formals [] = no_formal
formals (value t ∷ fs) = value_then t (formals fs)
formals (variable t ∷ fs) = variable_then t (formals fs)
formals (procedure h ∷ fs) = procedure_then h (formals fs)

abbrev pub formal_step : Formal-F One Heading → One
formal_step (Formal-F.Value t) = value t
formal_step (Formal-F.Variable t) = variable t
formal_step (Formal-F.Procedure h) = procedure h

abbrev pub asked_step : Asked-F One Heading → Heading
asked_step a = heading (formals (list_items a.formals)) a.result

abbrev pub formal_of : code_formal.Formal → One
formal_of = fold-Formal One Heading formal_step asked_step

abbrev pub asked_of : code_asked.Asked → Heading
asked_of = fold-Asked One Heading formal_step asked_step

-- whether two headings ask the same for one parameter
abbrev pub same_one : One → One → Bool
same_one (value s) (value t) = s == t
same_one (variable s) (variable t) = s == t
same_one (procedure g) (procedure h) = same_heading g h
same_one _ _ = false

-- what a block keeps of one parameter
abbrev pub parameter_of : One → Parameter
parameter_of (value t) = slot.Value t
parameter_of (variable t) = slot.Var t
parameter_of (procedure h) = slot.Formal (heading_result h)

-- the environment that the code knows
abbrev pub environment : Known → Environment
environment known = record {
  scopes = known.scopes;
  types = known.types;
  fields = map (λ names. map (λ name. name.items) names.keys) known.fields.items;
  blocks = map block_of known.blocks.items;
  headings = map asked_of known.headings.items;
  shapes = map asked_of known.shapes.items;
  around = known.around.items;
  begun = known.begun;
}

-- the environment and the parameters of a heading so far, and after its result
abbrev pub listed_of : Known → code_list.List code_formal.Formal → Listed
listed_of known fs = record { env = environment known; formals = formals (map formal_of (list_items fs)) }

abbrev pub headed_of : Known → code_asked.Asked → Headed
headed_of known asked = record { env = environment known; asks = asked_of asked }

-- an expression with its type, and an operator with its right operand
abbrev pub typed_of : code_typed.Typed → Typed
typed_of v = record { what = expression_of v.what; of = v.of }

abbrev pub linked_of : code_linked.Linked → Linked
linked_of l = record { what = link_of l.link; of = l.of }

-- the value of an elementary type
abbrev pub ordinal_of : code_ordinal.Ordinal → Ordinal
ordinal_of c = record { of = c.of; ordinal = c.ordinal }

-- the fields of a record
abbrev pub fields_of : code_fields.Fields → Fields
fields_of f = record { names = map (λ name. name.items) f.names.keys; types = list_items f.types }

-- a variable of a block that is so many steps out
abbrev pub rooted_of : code_rooted.Rooted → Rooted
rooted_of r = record { levels = r.levels; variable = r.variable; of = r.of }

-- a part of a variable, with its type
abbrev pub parted_of : code_parted.Parted → Parted
parted_of p = record { what = part_of p.part; of = p.of }
