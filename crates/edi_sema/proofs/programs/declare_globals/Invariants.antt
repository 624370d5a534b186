use Rattle.std.proofs.Common.{◌≡◌, drop}
use Rattle.std.specs.Prelude.{map}
use Rattle.edi_tree.specs.View.{globals, global_of}
use Rattle.edi_static.specs.Programs.{global_decls}
use Rattle.edi_static.specs.Views.{environment}
use Rattle.edi_sema.specs.Frames.{Comes}
use Rattle.edi_sema.proofs.programs.declare_globals.Given as goal

abbrev pub invariant-loop-one : goal.invariant-loop-one
invariant-loop-one l = record {
  comes : Comes (environment l.fn.known) (environment l.known);
  left : global_decls (globals (map global_of (drop l.one-index l.declared))) (environment l.known) ≡ global_decls (globals (map global_of l.declared))
      (environment l.fn.known);
}
