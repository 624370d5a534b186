-- Words of contracts. Where names may be declared, and what their declarations leave.
use Rattle.std.specs.Prelude.{◌≡◌, Bool, IsTrue, Result, OnOk, length}
use Rattle.edi_scope.specs.Scope.{in_module}
use Rattle.edi_static.specs.declared.faults.StaticFault.{StaticFault}
use Rattle.edi_static.specs.Environment.{Environment}
use Rattle.edi_static.specs.Proper.{Proper}

-- names may be declared here, for export only in a module
pub record MayDeclare (export : Bool) (env : Environment) : Type 0 where
  pub exporting : IsTrue export → IsTrue (in_module env.scopes)
  pub proper : Proper env

-- what a declaration leaves: as many scopes are open, the innermost still of a module where it exports; without a fault all is proper
pub record Declares (export : Bool) (result : Result (Unit {0}) StaticFault) (before after : Environment) : Type 0 where
  pub exporting : IsTrue export → IsTrue (in_module after.scopes)
  pub proper : OnOk result (Proper after)
  pub depth : length after.scopes ≡ length before.scopes
