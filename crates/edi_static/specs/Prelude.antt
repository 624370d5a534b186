-- Words of contracts. Those in which the contracts of all judging functions are written, from here and from below.
pub use Rattle.edi_unit.specs.Headings.{heading_result}
pub use Rattle.edi_unit.specs.Lists.{list_items}
pub use Rattle.edi_unit.specs.ShapeView.{shape_of}
pub use Rattle.edi_unit.specs.View.{acts_of, argument_of, arguments_of, block_of, expression_of}
pub use Rattle.edi_static.specs.Judged.{gives}
pub use Rattle.edi_static.specs.Answers.{JudgedAnswers}
pub use Rattle.edi_static.specs.Proper.{EntityFits, Proper}
pub use Rattle.edi_static.specs.Declaring.{Declares, MayDeclare}
pub use Rattle.edi_static.specs.Views.{asked_of, environment, formal_of, headed_of, linked_of, listed_of, ordinal_of, parted_of, rooted_of, same_one}
pub use Rattle.edi_static.specs.Views.{typed_of}
