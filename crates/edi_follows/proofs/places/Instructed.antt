-- All lemmas on instructions in one record.
use Rattle.edi_follows.proofs.values.Lengths.{values_are_long}
use Rattle.edi_follows.proofs.values.Portions.{parts_stand}
use Rattle.edi_follows.specs.places.Coded.{Coded}
use Rattle.edi_follows.specs.places.Scene.{Scene}
use Rattle.edi_follows.specs.places.Instructions.{Instructed}
use Rattle.edi_follows.proofs.places.Effects as effects
use Rattle.edi_follows.proofs.places.Steps as steps
use Rattle.edi_follows.proofs.places.Variables as variables
use Rattle.edi_follows.proofs.places.Stores as stored

pub instructed : (g : Coded) (s : Scene) → Instructed g s
instructed g s = record {
  word_is = effects.word_is;
  one_word = effects.one_word;
  row_splits = effects.row_splits;
  pops = effects.pops g s;
  pops_word = effects.pops_word g s;
  looks = effects.looks g s;
  arithmetic_is = effects.arithmetic_is g s;
  comparison_is = effects.comparison_is g s;
  equality_is = effects.equality_is g s;
  on_sets_is = effects.on_sets_is g s;
  in_is = effects.in_is g s;
  member_is = effects.member_is g s;
  index_is = effects.index_is g s;
  pushes_address = effects.pushes_address g s;
  field_is = effects.field_is g s;
  is_held = effects.is_held g s;
  jumps = effects.jumps g s;
  false_is = effects.false_is g s;
  and_is = effects.and_is g s;
  or_is = effects.or_is g s;
  pushes_then = steps.pushes_then g s;
  pops_pushes = steps.pops_pushes g s;
  pops_pushes_value = steps.pops_pushes_value g s values_are_long;
  goes_then = steps.goes_then g s;
  fails_at = steps.fails_at g s;
  steps_turn = steps.steps_turn g s;
  turn_moves = steps.turn_moves g s;
  turn_stops = steps.turn_stops g s;
  operands_stay = steps.operands_stay g s;
  able_then = steps.able_then g s;
  able_above = steps.able_above g s;
  levels_reach = variables.levels_reach g s;
  address_is = variables.address_is g s;
  loads_cell = variables.loads_cell g s;
  parts_are_there = stored.parts_are_there g s values_are_long parts_stand;
  loads_part = variables.loads_part g s values_are_long parts_stand;
  store_does = stored.store_does g s values_are_long parts_stand;
  stores = variables.stores g s values_are_long parts_stand;
  calls_block = variables.calls_block g s;
  calls_formal = variables.calls_formal g s;
  proc_is = variables.proc_is g s;
}
