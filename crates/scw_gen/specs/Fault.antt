-- How a failure is told.
use Rattle.scw_gen.specs.declared.failure.Failure.{Failure}
use Rattle.scw_gen.specs.declared.failure.Failure.TheVariants as failure
use Rattle.scw_gen.specs.declared.fault.GenFault.{GenFault}
use Rattle.scw_gen.specs.declared.fault.GenFault.TheVariants.{NotBuilt, NoMemory}

abbrev pub fault_of : Failure → GenFault
fault_of failure.Other = NotBuilt
fault_of failure.NoMemory = NoMemory
